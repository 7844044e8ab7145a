-- When a list of calls is a reordering of another (demand 3).
use Rattle.std.specs.Prelude.{◌≡◌, List, ℕ, ◌<◌}
use Rattle.types.specs.declared.Origin.{Origin}
use Rattle.history.specs.Calls.{Call, Scope, of_pair, of-source, of_route, idle, call_at, scope_at}

-- A step on this register, source and customer: a filing or a withdrawal.
abbrev pub OnPair : Origin → ℕ → ℕ → Scope → Type 0
OnPair o source customer (of_pair p s c) = (p ≡ o) × (s ≡ source) × (c ≡ customer)
OnPair o source customer (of-source p s) = ⊥
OnPair o source customer (of_route n) = ⊥
OnPair o source customer idle = ⊥

-- A clearing of this source in this register.
abbrev pub Clears : Origin → ℕ → Scope → Type 0
Clears o source (of_pair p s c) = ⊥
Clears o source (of-source p s) = (p ≡ o) × (s ≡ source)
Clears o source (of_route n) = ⊥
Clears o source idle = ⊥

-- A step of this register and source: a filing, a withdrawal or a clearing.
abbrev pub OfSource : Origin → ℕ → Scope → Type 0
OfSource o source (of_pair p s c) = (p ≡ o) × (s ≡ source)
OfSource o source (of-source p s) = (p ≡ o) × (s ≡ source)
OfSource o source (of_route n) = ⊥
OfSource o source idle = ⊥

-- A step on this route number: a keeping or a dropping.
abbrev pub OnRoute : ℕ → Scope → Type 0
OnRoute number (of_pair o s c) = ⊥
OnRoute number (of-source o s) = ⊥
OnRoute number (of_route n) = n ≡ number
OnRoute number idle = ⊥

-- Two steps whose order a reordering keeps: on the same register, source and customer; a clearing and a step of its register and source; on the same
-- route number.
pub data Tied (a b : Scope) : Type 0 where
  same_pair : (o : Origin) (source customer : ℕ) → OnPair o source customer a → OnPair o source customer b → Tied a b
  clear_first : (o : Origin) (source : ℕ) → Clears o source a → OfSource o source b → Tied a b
  clear_second : (o : Origin) (source : ℕ) → OfSource o source a → Clears o source b → Tied a b
  same_route : (number : ℕ) → OnRoute number a → OnRoute number b → Tied a b

-- A step: any call but a re-judging.
abbrev pub IsStep : Scope → Type 0
IsStep (of_pair o s c) = Unit {0}
IsStep (of-source o s) = Unit {0}
IsStep (of_route n) = Unit {0}
IsStep idle = ⊥

-- A register step: a filing, a withdrawal or a clearing.
abbrev pub IsRegisterStep : Scope → Type 0
IsRegisterStep (of_pair o s c) = Unit {0}
IsRegisterStep (of-source o s) = Unit {0}
IsRegisterStep (of_route n) = ⊥
IsRegisterStep idle = ⊥

-- At index i of the list stands a step.
abbrev pub StepAt : List Call → ℕ → Type 0
StepAt l i = IsStep (scope_at l i)

-- But for re-judgings both lists have the same calls, matched one to one: the step at index i of l is the one at index `to i` of m, and back by
-- `from`. Steps that are tied stand in the same order in both. Re-judgings may stand anywhere, any number of them.
pub record Reordering (l m : List Call) : Type 0 where
  pub to : ℕ → ℕ
  pub from : ℕ → ℕ
  pub to_same : (i : ℕ) → StepAt l i → call_at m (to i) ≡ call_at l i
  pub from_same : (j : ℕ) → StepAt m j → call_at l (from j) ≡ call_at m j
  pub from_to : (i : ℕ) → StepAt l i → from (to i) ≡ i
  pub to_from : (j : ℕ) → StepAt m j → to (from j) ≡ j
  pub in-order : (i j : ℕ) → StepAt l i → StepAt l j → i < j → Tied (scope_at l i) (scope_at l j) → to i < to j
