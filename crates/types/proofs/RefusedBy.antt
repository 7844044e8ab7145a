-- A call that its rows refuse, whatever stands for a refusal in its answers: the first given row refuses it, and the words stay. Assumes nothing.
use Prim.Native.Nat.{ℕ}
use mathlib.Core.Path.{◌≡◌, refl, ◌∙◌, ap}
use mathlib.Core.List.{List}
use mathlib.Core.Logic.{◌↔◌}
use Rattle.types.specs.declared.Refusal.{Refusal}
use Rattle.types.specs.Rows.{first_given, FirstAt, Effect, unless_refused}
use Rattle.types.proofs.Refusing.{refused_first, first_refuses}
use Rattle.std.specs.Prelude.{Result, Err, Option, Some, None}

-- What such a call answers and leaves.
abbrev pub unless_refused_by : {A : Type 0} → Option Refusal → (Refusal → A) → List ℕ → Effect A → Effect A
unless_refused_by (Some r) refuse ws accepted = record { answer = refuse r; words = ws }
unless_refused_by None refuse ws accepted = accepted

-- The calls' own effects are those where Err stands for a refusal.
pub by_err :
    {A : Type 0} (row : Option Refusal) (ws : List ℕ) (accepted : Effect (Result A Refusal))
    → unless_refused row ws accepted ≡ unless_refused_by row Err ws accepted
by_err (Some r) ws accepted = refl
by_err None ws accepted = refl

-- The answer is a refusal exactly when that is the first given row's. The accepted answer is no refusal, and each refusal is another answer.
pub answers_first :
    {A : Type 0} (rows : List (Option Refusal)) (refuse : Refusal → A) (ws : List ℕ) (accepted : Effect A)
    → ((r s : Refusal) → refuse r ≡ refuse s → r ≡ s) → ((r : Refusal) → accepted.answer ≡ refuse r → ⊥) → (r : Refusal)
    → ((unless_refused_by (first_given rows) refuse ws accepted).answer ≡ refuse r) ↔ ((i : ℕ) × FirstAt rows i r)
answers_first rows refuse ws accepted inj not r = (to (first_given rows) refl, from)
  where
    to : (o : Option Refusal) → first_given rows ≡ o → (unless_refused_by o refuse ws accepted).answer ≡ refuse r → (i : ℕ) × FirstAt rows i r
    to (Some s) e h = refused_first rows r (e ∙ ap Some (inj s r h))
    to None e h = absurd (not r h)

    from : (i : ℕ) × FirstAt rows i r → (unless_refused_by (first_given rows) refuse ws accepted).answer ≡ refuse r
    from p = rw (first_refuses rows p.0 r p.1)

-- A refused call leaves the words.
pub refusal_leaves :
    {A : Type 0} (rows : List (Option Refusal)) (refuse : Refusal → A) (ws : List ℕ) (accepted : Effect A)
    → ((r : Refusal) → accepted.answer ≡ refuse r → ⊥) → (r : Refusal)
    → (unless_refused_by (first_given rows) refuse ws accepted).answer ≡ refuse r → (unless_refused_by (first_given rows) refuse ws accepted).words ≡ ws
refusal_leaves rows refuse ws accepted not r = go (first_given rows)
  where
    go : (o : Option Refusal) → (unless_refused_by o refuse ws accepted).answer ≡ refuse r → (unless_refused_by o refuse ws accepted).words ≡ ws
    go (Some s) h = refl
    go None h = absurd (not r h)
