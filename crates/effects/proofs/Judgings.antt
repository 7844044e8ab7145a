-- A route judged: what the reader answers is the content, and each way through Judge is its definition. Assumes nothing.
use Prim.Native.Nat.{ℕ, ◌+◌, ◌≤◌, ◌<◌}
use mathlib.Core.Path.{◌≡◌, refl, ◌∙◌, ap}
use mathlib.Core.Bool.{Bool, true, false, cond}
use mathlib.Core.List.{List}
use native.Mathlib.Omega.{arith}
use borrow.Author.Tests.{le-ltb, ltb-false}
use lib.Dec.{ltb}
use lib.ListN.{length, take, drop}
use lib.Seq.{sets-eq, take_at}
use Rattle.types.specs.declared.Ground.{Ground}
use Rattle.types.specs.declared.Cause.TheVariants.{ByGround}
use Rattle.types.specs.declared.Verdict.TheVariants.{Invalid}
use Rattle.types.specs.declared.Answer.TheVariants.{Plain}
use Rattle.types.specs.declared.Refusal.{Refusal}
use Rattle.types.specs.declared.Refusal.TheVariants.{TableLength, RegisterMalformed, PathLength}
use Rattle.types.specs.Rows.{first_given}
use Rattle.types.proofs.Clashes.{clash}
use Rattle.as_path.specs.declared.Reading.TheVariants as reading
use Rattle.as_path.specs.Reading.{most_numbers, Content, faulty, grounded, merged, content_of, reading_of, buffer_after}
use Rattle.as_path.proofs.Contents.{merged_means}
use Rattle.as_path.proofs.MergedPaths.{merged_first}
use Rattle.rules.specs.Hops.{HopFunction}
use Rattle.rules.specs.Verdicts.{judged}
use Rattle.rules.specs.Judging.{argument_rows, judge_rows, answer_to, judged_route, refusal_in}
use Rattle.rules.proofs.Judges.{judged_reads}
use Rattle.registers.specs.Registers.{Registers, hop_in, both_long, both_ok}
use Rattle.effects.specs.Calls.{judge_answer}
use Rattle.std.specs.Prelude.{Err, None, Ok}

-- ---- what was read

-- A ground was read.
pub read_grounded : (k : Content) (g : Ground) → reading_of k ≡ Ok (reading.OnGround g) → k ≡ grounded g
read_grounded (faulty f p) g e = clash (cc)
read_grounded (grounded g') g e = ap grounded (cc)
read_grounded (merged l) g e = go (ltb most_numbers (length l)) e
  where
    go : (b : Bool) → cond b (Err PathLength) (Ok (reading.Path (length l))) ≡ Ok (reading.OnGround g) → merged l ≡ grounded g
    go true h = clash (cc)
    go false h = clash (cc)

module _ (hop : HopFunction) (role : ℕ) where
  -- A refused reading is a refused judging.
  pub read_refused : (k : Content) (r : Refusal) → reading_of k ≡ Err r → Err r ≡ answer_to hop role k
  read_refused (faulty f p) r e = cc
  read_refused (grounded g) r e = clash (cc)
  read_refused (merged l) r e = go (ltb most_numbers (length l)) e
    where
      go : (b : Bool) → cond b (Err PathLength) (Ok (reading.Path (length l))) ≡ Err r
          → Err r ≡ cond b (Err PathLength) (Ok (judged hop l role))
      go true h = cc
      go false h = clash (cc)

  -- A ground is Invalid.
  pub read_ground : (k : Content) (g : Ground) → reading_of k ≡ Ok (reading.OnGround g) → Ok (Plain (Invalid (ByGround g))) ≡ answer_to hop role k
  read_ground k g e = rw (read_grounded k g e)

-- A path of n numbers was read: they are a merged path, and few enough.
pub record PathRead (k : Content) (n : ℕ) : Type 0 where
  pub path : List ℕ
  pub is : k ≡ merged path
  pub long : length path ≡ n
  pub few : n ≤ most_numbers

pub read_path : (k : Content) (n : ℕ) → reading_of k ≡ Ok (reading.Path n) → PathRead k n
read_path (faulty f p) n e = clash (cc)
read_path (grounded g) n e = clash (cc)
read_path (merged l) n e = go (ltb most_numbers (length l)) refl e
  where
    go : (b : Bool) → ltb most_numbers (length l) ≡ b
        → cond b (Err PathLength) (Ok (reading.Path (length l))) ≡ Ok (reading.Path n) → PathRead (merged l) n
    go true t h = clash (cc)
    go false t h =
        let z : length l ≡ n = cc in
        record { path = l; is = refl; long = z; few = omega (arith, ltb-false most_numbers (length l) t) }

-- The path in the buffer, and that it is judged.
module _ (role neighbour : ℕ) (xs : List ℕ) {n : ℕ} (p : PathRead (content_of role neighbour xs) n) where
  pub some_numbers : 1 ≤ n
  some_numbers =
      let m = merged_means role neighbour xs p.path p.is in
      let f : 0 < length p.path = rw m.same (merged_first 4 xs m.clean m.some).0 in
      omega (arith, p.long)

  pub in_buffer : (buffer after : List ℕ) → most_numbers ≤ length buffer → after ≡ buffer_after (content_of role neighbour xs) buffer → take n after ≡ p.path
  in_buffer buffer after h e =
      ap (take n) (e ∙ ap (λ k. buffer_after k buffer) p.is ∙ sets-eq p.path buffer 0 (omega (arith, p.long, p.few)))
      ∙ take_at p.path (drop (0 + length p.path) buffer) n p.long

  pub path_judged : (hop : HopFunction) → Ok (judged hop p.path role) ≡ answer_to hop role (content_of role neighbour xs)
  path_judged hop = rw (p.is, le-ltb most_numbers (length p.path) (omega (arith, p.long, p.few)))

-- ---- rows 9 to 17
module _ (hop : HopFunction) (role neighbour : ℕ) (xs : List ℕ) where
  -- A judging is refused as the first of rows 9 to 17 that is given refuses it.
  pub judged_row : refusal_in (judged_route hop role neighbour xs) ≡ first_given (judge_rows role neighbour xs)
  judged_row = judged_reads hop role neighbour xs

  pub judged_ready : first_given (argument_rows role neighbour xs) ≡ None → judged_route hop role neighbour xs ≡ answer_to hop role (content_of role neighbour xs)
  unfolding judged_route
  judged_ready e = rw e

-- ---- Judge

module _ (reg : Registers) (role neighbour : ℕ) (xs : List ℕ) where
  pub judge_length : both_long reg ≡ false → Err TableLength ≡ judge_answer reg role neighbour xs
  unfolding judge_answer first_given
  judge_length a = rw a

  module _ (a : both_long reg ≡ true) where
    pub judge_malformed : both_ok reg ≡ false → Err RegisterMalformed ≡ judge_answer reg role neighbour xs
    unfolding judge_answer first_given
    judge_malformed b = rw (a, b)

    pub judge_answers : both_ok reg ≡ true → judge_answer reg role neighbour xs ≡ judged_route (hop_in reg) role neighbour xs
    unfolding judge_answer first_given
    judge_answers b = rw (a, b)
