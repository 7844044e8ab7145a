-- A keyed list whose entries are changed one by one, and their keys not. Assumes nothing.
use mathlib.Core.Path.{◌≡◌, refl}
use mathlib.Core.Bool.{Bool, true, false, cond}
use mathlib.Core.List.{List, [], ◌∷◌, map}
use Rattle.keyed.specs.Keyed.{ascends_from, ascends, find, holds, put, without, every}
use Rattle.keyed.proofs.Orders.{both_left, both_right, both_intro}
use Rattle.std.specs.Prelude.{Some, option_map}

-- Entries that all pass a test are changed into ones that pass another, if each is.
pub every_map : {E F : Type 0} (p : E → Bool) (q : F → Bool) (f : E → F) → ((e : E) → p e ≡ true → q (f e) ≡ true)
    → (es : List E) → every p es ≡ true → every q (map f es) ≡ true
unfolding every
every_map p q f h [] a = refl
every_map p q f h (e ∷ es) a = both_intro (q (f e)) _ (h e (both_left (p e) _ a)) (every_map p q f h es (both_right (p e) _ a))

module _ {E F K : Type 0} (key : E → K) (key' : F → K) (same before : K → K → Bool) (f : E → F) (kept : (e : E) → key' (f e) ≡ key e) where
  -- The same keys are held.
  pub holds_map : (k : K) (es : List E) → holds key' same before k (map f es) ≡ holds key same before k es
  unfolding holds
  holds_map k [] = refl
  holds_map k (e ∷ es) = rw (kept e, holds_map k es)

  -- What is found is changed so.
  pub find_map : (k : K) (es : List E) → find key' same before k (map f es) ≡ option_map f (find key same before k es)
  unfolding find
  find_map k [] = refl
  find_map k (e ∷ es) = rw (kept e, find_map k es) (go (same k (key e)))
    where
      go : (b : Bool) → cond b (Some (f e)) (option_map f (find key same before k es)) ≡ option_map f (cond b (Some e) (find key same before k es))
      go true = refl
      go false = refl

  -- An entry may be changed before it is put in.
  pub put_map : (e : E) (es : List E) → put key' same before (f e) (map f es) ≡ map f (put key same before e es)
  unfolding put
  put_map e [] = refl
  put_map e (x ∷ es) = rw (kept e, kept x, put_map e es) (go (same (key e) (key x)) (before (key e) (key x)))
    where
      go : (b c : Bool)
          → cond b (f e ∷ map f es) (cond c (f e ∷ (f x ∷ map f es)) (f x ∷ map f (put key same before e es)))
          ≡ map f (cond b (e ∷ es) (cond c (e ∷ (x ∷ es)) (x ∷ put key same before e es)))
      go true c = refl
      go false true = refl
      go false false = refl

  -- Entries may be taken out after they are changed.
  pub without_map : (test : K → Bool) (es : List E) → without key' same before test (map f es) ≡ map f (without key same before test es)
  unfolding without
  without_map test [] = refl
  without_map test (e ∷ es) = rw (kept e, without_map test es) (go (test (key e)))
    where
      go : (b : Bool)
          → cond b (map f (without key same before test es)) (f e ∷ map f (without key same before test es))
          ≡ map f (cond b (without key same before test es) (e ∷ without key same before test es))
      go true = refl
      go false = refl

  -- What ascends from a key still does.
  from_map : (k : K) (es : List E) → ascends_from key' same before k (map f es) ≡ ascends_from key same before k es
  unfolding ascends_from
  from_map k [] = refl
  from_map k (e ∷ es) = rw (kept e, from_map (key e) es)

  -- The order stays.
  pub ascends_map : (es : List E) → ascends key' same before (map f es) ≡ ascends key same before es
  unfolding ascends
  ascends_map [] = refl
  ascends_map (e ∷ es) = rw (kept e) (from_map (key e) es)
