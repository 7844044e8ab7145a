-- The first row that is given refuses a call, and no other does. Assumes nothing.
use Prim.Native.Nat.{ℕ, zero, suc, ◌<◌}
use mathlib.Core.Path.{◌≡◌, refl, sym, ◌∙◌, ap}
use mathlib.Core.Bool.{Bool, true, false}
use mathlib.Core.List.{List, [], ◌∷◌, ◌++◌}
use native.Mathlib.Omega.{arith}
use lib.ListN.{get_or}
use Rattle.types.specs.declared.Refusal.{Refusal}
use mathlib.Core.Logic.{◌↔◌}
use Rattle.types.specs.Numbers.{refusal_number}
use Rattle.types.specs.Rows.{row_if, or_else, first_given, FirstAt, effect, unless_refused}
use Rattle.types.proofs.Clashes.{clash, some_not_none}
use Rattle.std.specs.Prelude.{Result, Ok, Err, Option, Some, None}

-- A call is refused by r exactly when some row is given as r and no row before it is given.
pub refused_first : (rows : List (Option Refusal)) (r : Refusal) → first_given rows ≡ Some r → (i : ℕ) × FirstAt rows i r
unfolding first_given
refused_first [] r e = some_not_none (sym e)
refused_first (row ∷ rows) r e = go row refl (refused_first rows r) e
  where
    go : (o : Option Refusal) → row ≡ o → (first_given rows ≡ Some r → (i : ℕ) × FirstAt rows i r) → or_else o (first_given rows) ≡ Some r
        → (i : ℕ) × FirstAt (row ∷ rows) i r
    go (Some s) q ih f = (0, record { given = q ∙ f; earlier = λ j h. absurd (omega arith) })
    go None q ih f = later q (ih f)
      where
        later : row ≡ None → (i : ℕ) × FirstAt rows i r → (i : ℕ) × FirstAt (row ∷ rows) i r
        later q p = (suc p.0, record { given = p.1.given; earlier = before })
          where
            before : (j : ℕ) → j < suc p.0 → get_or (row ∷ rows) j None ≡ None
            before zero h = q
            before (suc j) h = p.1.earlier j (omega arith)

pub first_refuses : (rows : List (Option Refusal)) (i : ℕ) (r : Refusal) → FirstAt rows i r → first_given rows ≡ Some r
unfolding first_given
first_refuses [] i r f = some_not_none (sym f.given)
first_refuses (row ∷ rows) zero r f = rw f.given
first_refuses (row ∷ rows) (suc i) r f =
    rw (f.earlier 0 (omega arith)) (first_refuses rows i r (record { given = f.given; earlier = λ j h. f.earlier (suc j) (omega arith) }))

-- A call is accepted exactly when no row is given.
pub accepted_none : (rows : List (Option Refusal)) → first_given rows ≡ None → (i : ℕ) → get_or rows i None ≡ None
unfolding first_given
accepted_none [] e i = refl
accepted_none (row ∷ rows) e i = go row refl (accepted_none rows) e i
  where
    go : (o : Option Refusal) → row ≡ o → (first_given rows ≡ None → (i : ℕ) → get_or rows i None ≡ None) → or_else o (first_given rows) ≡ None
        → (i : ℕ) → get_or (row ∷ rows) i None ≡ None
    go (Some s) q ih f i = some_not_none f
    go None q ih f zero = q
    go None q ih f (suc i) = ih f i

pub none_accepted : (rows : List (Option Refusal)) → ((i : ℕ) → get_or rows i None ≡ None) → first_given rows ≡ None
unfolding first_given
none_accepted [] h = refl
none_accepted (row ∷ rows) h = rw (h 0) (none_accepted rows (λ i. h (suc i)))

-- A row with a test is given exactly when the test passes.
pub row_given : (b : Bool) (r s : Refusal) → row_if b r ≡ Some s → (b ≡ true) × (r ≡ s)
row_given true r s e = (refl, cc)
row_given false r s e = some_not_none (sym e)

pub row_passed : (b : Bool) (r : Refusal) → row_if b r ≡ None → b ≡ false
row_passed true r e = some_not_none e
row_passed false r e = refl

-- A refusal is told from an acceptance.
pub refusal_apart : {A : Type 0} (x : A) (r : Refusal) → ◌≡◌ {A = Result A Refusal} (Ok x) (Err r) → ⊥
refusal_apart x r e = clash (cc)

-- And from every other refusal.
pub refusal_same : {A : Type 0} (r s : Refusal) → ◌≡◌ {A = Result A Refusal} (Err r) (Err s) → r ≡ s
refusal_same r s e = cc

-- A call that is refused by its rows answers a refusal exactly when that is its first given row.
pub answers_first :
    {A : Type 0} (rows : List (Option Refusal)) (ws : List ℕ) (answer : A) (words : List ℕ) (r : Refusal)
    → ((unless_refused (first_given rows) ws (effect (Ok answer) words)).answer ≡ Err r) ↔ ((i : ℕ) × FirstAt rows i r)
answers_first {A} rows ws answer words r = (to (first_given rows) refl, from)
  where
    to : (o : Option Refusal) → first_given rows ≡ o → (unless_refused {A = A} o ws (effect (Ok answer) words)).answer ≡ Err r → (i : ℕ) × FirstAt rows i r
    to (Some s) e h = refused_first rows r (e ∙ ap Some (refusal_same {A = A} s r h))
    to None e h = absurd (refusal_apart answer r h)

    from : (i : ℕ) × FirstAt rows i r → (unless_refused {A = A} (first_given rows) ws (effect (Ok answer) words)).answer ≡ Err r
    from p = rw (first_refuses rows p.0 r p.1)

-- A refused call leaves the words.
pub refusal_leaves :
    {A : Type 0} (rows : List (Option Refusal)) (ws : List ℕ) (answer : A) (words : List ℕ) (r : Refusal)
    → (unless_refused (first_given rows) ws (effect (Ok answer) words)).answer ≡ Err r
    → (unless_refused (first_given rows) ws (effect (Ok answer) words)).words ≡ ws
refusal_leaves {A} rows ws answer words r = go (first_given rows)
  where
    go : (o : Option Refusal) → (unless_refused {A = A} o ws (effect (Ok answer) words)).answer ≡ Err r
        → (unless_refused {A = A} o ws (effect (Ok answer) words)).words ≡ ws
    go (Some s) h = refl
    go None h = absurd (refusal_apart answer r h)

-- A row with a test has the number of its refusal.
pub numbered : (b : Bool) (s r : Refusal) → row_if b s ≡ Some r → refusal_number r ≡ refusal_number s
numbered b s r e = ap refusal_number (sym (row_given b s r e).1)

-- A row that is given among the first is given among all.
pub first_front : (front rest : List (Option Refusal)) (r : Refusal) → first_given front ≡ Some r → first_given (front ++ rest) ≡ Some r
unfolding first_given
first_front [] rest r e = some_not_none (sym e)
first_front (row ∷ front) rest r e = go row (first_front front rest r) e
  where
    go : (o : Option Refusal) → (first_given front ≡ Some r → first_given (front ++ rest) ≡ Some r) → or_else o (first_given front) ≡ Some r
        → or_else o (first_given (front ++ rest)) ≡ Some r
    go (Some s) ih e = e
    go None ih e = ih e
