-- `lines::Line::numbers` meets its contract. Assumes nothing.
use Rattle.std.proofs.Common.{arith, of_calls, rules, ◌≡◌, ◌∙◌, length, length-drop}
use Rattle.std.proofs.lemmas.List.{length_push}
use Rattle.std.proofs.lemmas.Iterator.Adapters.{YieldsList-from_skip}
use Rattle.std.proofs.lemmas.Iterator.Consumers.{YieldsList-from_enumerate, YieldsList-at}
use Rattle.std.proofs.lemmas.Iterator.Splits.{YieldsList-from_slice_split}
use borrow.Author.Tests.{tests}
use lib.Dec.{eqb}
use Rattle.lines.specs.Words.{words_of}
use Rattle.lines.proofs.Words.{light}
use Rattle.lines.proofs.Lists.{from_word, turn, all_read, begins, no_number, room, goes_on, ends}
use Rattle.lines.proofs.Line.numbers.Goals as goal

pub loop-n-init : goal.loop-n-init
loop-n-init c =
    record {
      can = search of_calls;
      finite = search of_calls;
      reads =
          from_word c.args.self.bytes.now c.args.k
          (YieldsList-at c.into_iter-n-iterator.ensures.into_iter_gives
          (YieldsList-from_enumerate
          (YieldsList-at c.enumerate-n-items.ensures.source
          (YieldsList-from_skip c.args.k
          (YieldsList-at c.skip.ensures.source
          (YieldsList-from_slice_split _ (λ b. eqb b 32) _ c.split.ensures.rest c.split.ensures.done c.split.ensures.closure
          (λ x b q k. search (rules, tests))))
          c.skip.ensures.count))
          c.enumerate-n-items.ensures.count));
      listing = begins _ _;
    }

pub returns-in_err-into : goal.returns-in_err-into
returns-in_err-into c =
    let i =
    turn _ c.loop-n.invariant.reads c.loop-n.yielded _ _ c.loop-n.yielded_by c.next.ensures.steps
    (c.in-Some.n, c.in-Some.word) c.in-Some.is c.read_number.ensures in
    rw c.from_residual.ensures (no_number c.loop-n.invariant.listing i.1 (i.2 ∙ c.in_err-into.was))

pub bounds-into-n : goal.bounds-into-n
bounds-into-n c =
    let i =
    turn _ c.loop-n.invariant.reads c.loop-n.yielded _ _ c.loop-n.yielded_by c.next.ensures.steps
    (c.in-Some.n, c.in-Some.word) c.in-Some.is c.read_number.ensures in
    let r = room c.loop-n.invariant.listing i.1 (i.2 ∙ c.in_ok-into.was) (omega (arith, light c.args.self.bytes.now c.args.k)) in
    omega arith

pub loop-n-preserved : goal.loop-n-preserved
loop-n-preserved c =
    let i =
    turn _ c.loop-n.invariant.reads c.loop-n.yielded _ _ c.loop-n.yielded_by c.next.ensures.steps
    (c.in-Some.n, c.in-Some.word) c.in-Some.is c.read_number.ensures in
    let g = goes_on c.loop-n.invariant.listing i.1 (i.2 ∙ c.in_ok-into.was) in
    record {
      can = search of_calls;
      finite = search of_calls;
      reads = c.loop-n.invariant.reads;
      listing = rw (i.0, length_push) g;
    }

pub returns : goal.returns
returns c =
    let l = all_read _ c.loop-n.invariant.reads c.loop-n.yielded _ _ c.loop-n.yielded_by c.next.ensures.steps c.in-None.is in
    let e : c.saturating_sub.result ≡ length c.loop-n.yielded =
    omega (arith, l, length-drop c.args.k (words_of c.args.self.bytes.now), c.args.self.counted) in
    rw e (ends c.loop-n.invariant.listing l (omega (arith, light c.args.self.bytes.now c.args.k)))
