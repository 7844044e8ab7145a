-- Entries that ascend by a key have no key twice. Assumes nothing.
use Prim.Native.Nat.{ℕ, zero, suc, ◌<◌}
use mathlib.Core.Path.{◌≡◌, sym}
use mathlib.Core.Bool.{Bool, true}
use mathlib.Core.List.{List, [], ◌∷◌}
use native.Mathlib.Omega.{arith}
use native.Mathlib.Decide.{dec_lt}
use lib.ListN.{length, get_or}
use Rattle.types.proofs.Clashes.{not_both}
use Rattle.keyed.specs.Keyed.{Ordered, ascends}
use Rattle.keyed.proofs.Ranks.{from_ascends, from_entry}
use Rattle.history.specs.Demands.{Once}

module _ {E K : Type 0} (key : E → K) (same before : K → K → Bool) (o : Ordered same before) (past : E) where
  -- The key at a lower index stands before that at a higher one.
  in_turn : (es : List E) (x y : ℕ) → ascends key same before es ≡ true → x < y → y < length es → before (key (get_or es x past)) (key (get_or es y past)) ≡ true
  unfolding ascends
  in_turn [] x y a h l = absurd (omega arith)
  in_turn (e ∷ es) zero zero a h l = absurd (omega arith)
  in_turn (e ∷ es) zero (suc y) a h l = from_entry key same before o (key e) es past y a (omega arith)
  in_turn (e ∷ es) (suc x) zero a h l = absurd (omega arith)
  in_turn (e ∷ es) (suc x) (suc y) a h l = in_turn es x y (from_ascends key same before o (key e) es a) (omega arith) (omega arith)

  -- So the same key stands at one index.
  pub once : (es : List E) → ascends key same before es ≡ true → Once (λ x. key (get_or es x past)) (length es)
  once es a x y p q e = go (dec_lt x y) (dec_lt y x)
    where
      at : (i j : ℕ) → i < j → j < length es → key (get_or es i past) ≡ key (get_or es j past) → ⊥
      at i j h l f = not_both (o.not_self (key (get_or es j past))) (rw f at (in_turn es i j a h l))

      go : Dec (x < y) → Dec (y < x) → x ≡ y
      go (yes h) d = absurd (at x y h q e)
      go (no n) (yes h) = absurd (at y x h p (sym e))
      go (no n) (no m) = omega arith
