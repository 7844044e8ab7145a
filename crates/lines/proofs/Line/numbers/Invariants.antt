use Rattle.std.proofs.Common.{drop, length}
use Rattle.lines.specs.Words.{words_of}
use Rattle.lines.proofs.Lists.{Reads, Listing}
use Rattle.lines.proofs.Line.numbers.Given as goal

abbrev pub invariant-loop-n : goal.invariant-loop-n
invariant-loop-n l =
    record {
      can : (goal.iterator-loop-n).can_next l.n-iterator;
      finite : (goal.iterator-loop-n).is_finite l.n-iterator;
      reads : Reads (goal.iterator-loop-n).next_gives l.initial.n-iterator (drop l.k (words_of l.self.bytes.now));
      listing : Listing (drop l.k (words_of l.self.bytes.now)) l.initial.into l.into (length l.yielded);
    }
