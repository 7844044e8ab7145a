-- However an input is cut into pieces, the same is written. Assumes nothing.
use Prim.Native.Nat.{ℕ, zero, suc, ◌+◌, ◌≤◌, ◌<◌}
use mathlib.Core.Path.{◌≡◌, refl, sym, ap, ◌∙◌}
use mathlib.Core.Bool.{Bool, true, false, cond}
use mathlib.Core.List.{List, [], ◌∷◌, ◌++◌, append-nil, append_assoc}
use native.Mathlib.Omega.{arith}
use native.Mathlib.Numerals.{add-one}
use borrow.Author.Tests.{lt-ltb, le-ltb, ltb-true, ltb-false}
use lib.Dec.{eqb, ltb, eqb-suc-zero}
use lib.ListN.{length, drop, length-append, length-drop}
use lib.Seq.{take_all, drop-length}
use Rattle.calls.specs.Commands.{most_line}
use Rattle.lines.specs.Words.{before, split, onto_first}
use Rattle.lines.proofs.Marks.{split_first, before_taken}
use Rattle.protocol.specs.Feeding.{answer_line, joined, command_in, Session, ends_line, fed, fed_text, fed_bytes, last_text}
use Rattle.protocol.specs.Sessions.{grown_by, answered, answers_to, start, fed_all, fed_all_text, served, joined_pieces, AnyCut}
use Rattle.protocol.proofs.Feedings.{some_used}
use Rattle.protocol.proofs.Joining.{joined_none, joined_some, joined_too_long}
use Rattle.std.specs.Prelude.{None, Option, Some}

-- ---- the parts of bytes with more after them

module _ (mark : ℕ) where
  split_marked :
      (p q : List ℕ) → length (before mark p) < length p
      → split mark (p ++ q) ≡ before mark p ∷ split mark (drop (suc (length (before mark p))) p ++ q)
  unfolding before split
  split_marked [] q h = absurd (omega arith)
  split_marked (b ∷ bs) q h = go (eqb b mark) h (split_marked bs q)
    where
      go :
          (t : Bool) → length (cond t [] (b ∷ before mark bs)) < suc (length bs)
          → (length (before mark bs) < length bs → split mark (bs ++ q) ≡ before mark bs ∷ split mark (drop (suc (length (before mark bs))) bs ++ q))
          → cond t ([] ∷ split mark (bs ++ q)) (onto_first b (split mark (bs ++ q)))
          ≡ cond t [] (b ∷ before mark bs) ∷ split mark (drop (length (cond t [] (b ∷ before mark bs))) bs ++ q)
      go true k ih = refl
      go false k ih = ap (onto_first b) (ih (omega arith))

  split_unmarked :
      (p q first : List ℕ) (others : List (List ℕ)) → length p ≤ length (before mark p)
      → split mark q ≡ first ∷ others → split mark (p ++ q) ≡ (p ++ first) ∷ others
  unfolding before split
  split_unmarked [] q first others h e = e
  split_unmarked (b ∷ bs) q first others h e = go (eqb b mark) h (λ k. split_unmarked bs q first others k e)
    where
      go :
          (t : Bool) → suc (length bs) ≤ length (cond t [] (b ∷ before mark bs))
          → (length bs ≤ length (before mark bs) → split mark (bs ++ q) ≡ (bs ++ first) ∷ others)
          → cond t ([] ∷ split mark (bs ++ q)) (onto_first b (split mark (bs ++ q))) ≡ (b ∷ (bs ++ first)) ∷ others
      go true k ih = absurd (omega arith)
      go false k ih = ap (onto_first b) (ih (omega arith))

  before_all : (p : List ℕ) → length p ≤ length (before mark p) → before mark p ≡ p
  before_all p h = sym (before_taken mark p) ∙ take_all (length (before mark p)) p h

-- ---- bytes added to a line twice

joined_append_some : (line p x : List ℕ) → joined (Some (line ++ p)) x ≡ joined (Some line) (p ++ x)
unfolding joined
joined_append_some line p x =
    let e : length (line ++ p) + length x ≡ length line + length (p ++ x) = omega (arith, length-append line p, length-append p x) in
    λ i. cond (ltb most_line (e i)) None (Some (append_assoc line p x i))

joined_append : (l : Option (List ℕ)) (p x : List ℕ) → joined (joined l p) x ≡ joined l (p ++ x)
joined_append None p x = ap (λ l. joined l x) (joined_too_long p) ∙ joined_too_long x ∙ sym (joined_too_long (p ++ x))
joined_append (Some line) p x = go (ltb most_line (length line + length p)) refl
  where
    go : (b : Bool) → ltb most_line (length line + length p) ≡ b → joined (joined (Some line) p) x ≡ joined (Some line) (p ++ x)
    go true e =
        let h : most_line < length line + length p = ltb-true _ _ e in
        let k : most_line < length line + length (p ++ x) = omega (arith, length-append p x) in
        ap (λ l. joined l x) (joined_none line p h) ∙ joined_too_long x ∙ sym (joined_none line (p ++ x) k)
    go false e = ap (λ l. joined l x) (joined_some line p (ltb-false _ _ e)) ∙ joined_append_some line p x

-- ---- a line is never longer than the most bytes

abbrev Short : Option (List ℕ) → Type 0
Short None = Unit {0}
Short (Some line) = length line ≤ most_line

joined_short : (l : Option (List ℕ)) (part : List ℕ) → Short (joined l part)
unfolding joined
joined_short None part = tt
joined_short (Some line) part = go (ltb most_line (length line + length part)) refl
  where
    go : (b : Bool) → ltb most_line (length line + length part) ≡ b → Short (cond b None (Some (line ++ part)))
    go true e = tt
    go false e =
        let h : length line + length part ≤ most_line = ltb-false _ _ e in
        omega (arith, length-append line part)

fed_short : (s : Session) (p : List ℕ) → Short (fed s p).line
unfolding fed
fed_short s p = go (ends_line p)
  where
    go : (b : Bool) → Short (cond b (answered (grown_by s (before 10 p))) (grown_by s (before 10 p))).line
    go true = omega arith
    go false = joined_short s.line (before 10 p)

fed_all_short : (most : ℕ) (s : Session) (p : List ℕ) → Short s.line → Short (fed_all most s p).line
unfolding fed_all
fed_all_short zero s p h = h
fed_all_short (suc most) s p h = go (eqb (length p) 0) (fed_all_short most (fed s p) (drop (fed_bytes p) p) (fed_short s p))
  where
    go :
        (b : Bool) → Short (fed_all most (fed s p) (drop (fed_bytes p) p)).line
        → Short (cond b s (fed_all most (fed s p) (drop (fed_bytes p) p))).line
    go true k = h
    go false k = k

joined_nothing : (l : Option (List ℕ)) → Short l → joined l [] ≡ l
joined_nothing None h = joined_too_long []
joined_nothing (Some line) h = joined_some line [] (omega arith) ∙ ap Some (append-nil line)

-- ---- what is still to be written for bytes that come

abbrev rest : Session → List ℕ → List ℕ
rest s xs = answers_to s (split 10 xs)

rest_none : (s : Session) → Short s.line → rest s [] ≡ last_text s
unfolding answers_to split
rest_none s h = ap (λ l. last_text (record { tables = s.tables; line = l })) (joined_nothing s.line h)

answers_line :
    (s : Session) (line : List ℕ) (parts : List (List ℕ)) {next : List ℕ} {lines : List (List ℕ)} → parts ≡ next ∷ lines
    → answers_to s (line ∷ parts) ≡ answer_line s.tables (command_in (joined s.line line)) ++ answers_to (answered (grown_by s line)) parts
unfolding answers_to
answers_line s line parts e = rw e refl

-- What counts is the session once the first line has grown.
answers_grown :
    (s t : Session) (x y : List ℕ) (others : List (List ℕ)) → grown_by s x ≡ grown_by t y
    → answers_to s (x ∷ others) ≡ answers_to t (y ∷ others)
unfolding answers_to
answers_grown s t x y [] e = ap last_text e
answers_grown s t x y (next ∷ lines) e =
    ap (λ (u : Session). answer_line u.tables (command_in u.line) ++ answers_to (answered u) (next ∷ lines)) e

grown_twice : (s : Session) (p x : List ℕ) → grown_by s (p ++ x) ≡ grown_by (grown_by s p) x
grown_twice s p x = ap (λ l. record { tables = s.tables; line = l }) (sym (joined_append s.line p x))

-- ---- one feed

abbrev Feeds : Session → List ℕ → List ℕ → Type 0
Feeds s p q = rest s (p ++ q) ≡ fed_text s p ++ rest (fed s p) (drop (fed_bytes p) p ++ q)

module _ (s : Session) (p q : List ℕ) where
  line_fed : length (before 10 p) < length p → Feeds s p q
  unfolding fed fed_text fed_bytes
  line_fed h =
      let left : List ℕ = drop (suc (length (before 10 p))) p ++ q in
      rw (lt-ltb (length (before 10 p)) (length p) h, add-one (length (before 10 p)))
      (ap (answers_to s) (split_marked 10 p q h) ∙ answers_line s (before 10 p) (split 10 left) (split_first 10 left))

  part_fed : length p ≤ length (before 10 p) → Feeds s p q
  unfolding fed fed_text fed_bytes
  part_fed h =
      rw (le-ltb (length (before 10 p)) (length p) h, drop-length p, before_all 10 p h)
      (ap (answers_to s) (split_unmarked 10 p q (before 10 q) _ h (split_first 10 q))
      ∙ answers_grown s (grown_by s p) (p ++ before 10 q) (before 10 q) _ (grown_twice s p (before 10 q))
      ∙ sym (ap (answers_to (grown_by s p)) (split_first 10 q)))

  one_feed : Feeds s p q
  one_feed = go (ends_line p) refl
    where
      go : (b : Bool) → ends_line p ≡ b → Feeds s p q
      go true e = line_fed (ltb-true _ _ e)
      go false e = part_fed (ltb-false _ _ e)

-- ---- a whole piece, and all pieces

all_fed :
    (most : ℕ) (s : Session) (p q : List ℕ) → length p ≤ most
    → rest s (p ++ q) ≡ fed_all_text most s p ++ rest (fed_all most s p) q
unfolding fed_all fed_all_text
all_fed zero s [] q h = refl
all_fed zero s (b ∷ bs) q h = absurd (omega arith)
all_fed (suc most) s [] q h = refl
all_fed (suc most) s (b ∷ bs) q h =
    let p : List ℕ = b ∷ bs in
    let u = some_used p (omega arith) in
    let k : length (drop (fed_bytes p) p) ≤ most = omega (arith, length-drop (fed_bytes p) p, u.0, u.1) in
    rw (eqb-suc-zero (length bs))
    (one_feed s p q ∙ ap (λ r. fed_text s p ++ r) (all_fed most (fed s p) (drop (fed_bytes p) p) q k)
    ∙ sym (append_assoc (fed_text s p) _ _))

all_served : (s : Session) (pieces : List (List ℕ)) → Short s.line → served s pieces ≡ rest s (joined_pieces pieces)
unfolding served joined_pieces
all_served s [] h = sym (rest_none s h)
all_served s (p ∷ pieces) h =
    let ih = all_served (fed_all (length p) s p) pieces (fed_all_short (length p) s p h) in
    ap (λ r. fed_all_text (length p) s p ++ r) ih ∙ sym (all_fed (length p) s p (joined_pieces pieces) (omega arith))

pub any_cut : AnyCut
any_cut pieces = all_served start pieces (omega arith)
