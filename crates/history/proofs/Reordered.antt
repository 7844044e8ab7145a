-- What counts as a reordering. Assumes nothing.
use Prim.Native.Nat.{ℕ, zero, suc, ◌<◌, suc-le-suc}
use mathlib.Core.Path.{◌≡◌, refl, sym, ap, ◌∙◌}
use mathlib.Core.List.{List, [], ◌∷◌, ◌++◌}
use native.Mathlib.Omega.{arith}
use native.Mathlib.Decide.{dec_lt}
use lib.Dec.{lit<}
use Rattle.types.specs.declared.Origin.{Origin}
use Rattle.effects.specs.Calls.{Keeping}
use Rattle.history.specs.Calls.{Call, file, clear, keep, drop, rejudge, Scope, scope, call_at, scope_at}
use Rattle.history.specs.Reorderings.{Tied, same_pair, clear_first, clear_second, same_route, StepAt, Reordering}

-- A list is a reordering of itself.
pub itself : (l : List Call) → Reordering l l
itself l = record {
  to = λ i. i;
  from = λ i. i;
  to_same = λ i s. refl;
  from_same = λ i s. refl;
  from_to = λ i s. refl;
  to_from = λ i s. refl;
  in-order = λ i j s t h d. h;
}

-- One after the other.
pub chain : (l m n : List Call) → Reordering l m → Reordering m n → Reordering l n
chain l m n p q = record {
  to = λ i. q.to (p.to i);
  from = λ j. p.from (q.from j);
  to_same = λ i s. q.to_same (p.to i) (moved i s) ∙ p.to_same i s;
  from_same = λ j s. p.from_same (q.from j) (back j s) ∙ q.from_same j s;
  from_to = λ i s. ap p.from (q.from_to (p.to i) (moved i s)) ∙ p.from_to i s;
  to_from = λ j s. ap q.to (p.to_from (q.from j) (back j s)) ∙ q.to_from j s;
  in-order = λ i j s t h d.
      q.in-order (p.to i) (p.to j) (moved i s) (moved j t) (p.in-order i j s t h d) (rw (p.to_same i s, p.to_same j t) d);
}
  where
    moved : (i : ℕ) → StepAt l i → StepAt m (p.to i)
    moved i s = rw (p.to_same i s) s

    back : (j : ℕ) → StepAt n j → StepAt m (q.from j)
    back j s = rw (q.from_same j s) s

-- To be tied goes both ways.
tied_back : (a b : Scope) → Tied a b → Tied b a
tied_back a b (same_pair o s c p q) = same_pair o s c q p
tied_back a b (clear_first o s p q) = clear_second o s q p
tied_back a b (clear_second o s p q) = clear_first o s q p
tied_back a b (same_route n p q) = same_route n q p

-- The order of tied calls is the same in both lists, from whichever it is read.
pub back : (l m : List Call) → Reordering l m → Reordering m l
back l m r = record {
  to = r.from;
  from = r.to;
  to_same = r.from_same;
  from_same = r.to_same;
  from_to = r.to_from;
  to_from = r.from_to;
  in-order = order;
}
  where
    step : (j : ℕ) → StepAt m j → StepAt l (r.from j)
    step j s = rw (r.from_same j s) s

    order : (i j : ℕ) → StepAt m i → StepAt m j → i < j → Tied (scope_at m i) (scope_at m j) → r.from i < r.from j
    order i j s t h d = go (dec_lt (r.from i) (r.from j)) (dec_lt (r.from j) (r.from i))
      where
        go : Dec (r.from i < r.from j) → Dec (r.from j < r.from i) → r.from i < r.from j
        go (yes p) q = p
        go (no n) (yes q) =
            let w = r.in-order (r.from j) (r.from i) (step j t) (step i s) q
            (rw (r.from_same j t, r.from_same i s) (tied_back (scope_at m i) (scope_at m j) d)) in
            omega (arith, r.to_from i s, r.to_from j t)
        go (no n) (no n') =
            let e : r.to (r.from i) ≡ r.to (r.from j) = ap r.to (omega arith) in
            omega (arith, r.to_from i s, r.to_from j t)

-- An index behind one call more.
under : (ℕ → ℕ) → ℕ → ℕ
under f zero = 0
under f (suc i) = suc (f i)

-- One call more at the front of both.
one_more : (c : Call) (l m : List Call) → Reordering l m → Reordering (c ∷ l) (c ∷ m)
unfolding under
one_more c l m r = record {
  to = under r.to;
  from = under r.from;
  to_same = elim [ zero ↦ λ s. refl | suc i ↦ r.to_same i ];
  from_same = elim [ zero ↦ λ s. refl | suc j ↦ r.from_same j ];
  from_to = elim [ zero ↦ λ s. refl | suc i ↦ λ s. ap suc (r.from_to i s) ];
  to_from = elim [ zero ↦ λ s. refl | suc j ↦ λ s. ap suc (r.to_from j s) ];
  in-order = order;
}
  where
    order : (i j : ℕ) → StepAt (c ∷ l) i → StepAt (c ∷ l) j → i < j → Tied (scope_at (c ∷ l) i) (scope_at (c ∷ l) j) → under r.to i < under r.to j
    order zero zero s t h d = omega arith
    order zero (suc j) s t h d = omega arith
    order (suc i) zero s t h d = omega arith
    order (suc i) (suc j) s t h d = suc-le-suc (r.in-order i j s t (omega arith) d)

-- And any calls.
more : (k l m : List Call) → Reordering l m → Reordering (k ++ l) (k ++ m)
more [] l m r = r
more (c ∷ k) l m r = one_more c (k ++ l) (k ++ m) (more k l m r)

-- The indices of the first two calls, changed about.
exchanged : ℕ → ℕ
exchanged zero = 1
exchanged (suc zero) = 0
exchanged (suc (suc i)) = suc (suc i)

-- The first two calls, not tied, changed about.
swap_first : (a b : Call) (l : List Call) → (Tied (scope a) (scope b) → ⊥) → Reordering (a ∷ b ∷ l) (b ∷ a ∷ l)
unfolding exchanged
swap_first a b l n = record {
  to = exchanged;
  from = exchanged;
  to_same = same a b;
  from_same = same b a;
  from_to = λ i s. twice i;
  to_from = λ i s. twice i;
  in-order = order;
}
  where
    same : (a b : Call) (i : ℕ) → StepAt (a ∷ b ∷ l) i → call_at (b ∷ a ∷ l) (exchanged i) ≡ call_at (a ∷ b ∷ l) i
    same a b zero s = refl
    same a b (suc zero) s = refl
    same a b (suc (suc i)) s = refl

    twice : (i : ℕ) → exchanged (exchanged i) ≡ i
    twice zero = refl
    twice (suc zero) = refl
    twice (suc (suc i)) = refl

    order : (i j : ℕ) → StepAt (a ∷ b ∷ l) i → StepAt (a ∷ b ∷ l) j → i < j → Tied (scope_at (a ∷ b ∷ l) i) (scope_at (a ∷ b ∷ l) j) → exchanged i < exchanged j
    order zero zero s t h d = omega arith
    order zero (suc zero) s t h d = absurd (n d)
    order zero (suc (suc j)) s t h d = omega arith
    order (suc zero) zero s t h d = omega arith
    order (suc zero) (suc zero) s t h d = omega arith
    order (suc zero) (suc (suc j)) s t h d = omega arith
    order (suc (suc i)) zero s t h d = omega arith
    order (suc (suc i)) (suc zero) s t h d = omega arith
    order (suc (suc i)) (suc (suc j)) s t h d = h

-- Two neighbours that are not tied, changed about.
pub swap : (k : List Call) (a b : Call) (l : List Call) → (Tied (scope a) (scope b) → ⊥) → Reordering (k ++ (a ∷ b ∷ l)) (k ++ (b ∷ a ∷ l))
swap k a b l n = more k (a ∷ b ∷ l) (b ∷ a ∷ l) (swap_first a b l n)

-- The index before.
earlier : ℕ → ℕ
earlier zero = 0
earlier (suc i) = i

-- A re-judging put in at the front.
rejudge_first : (l : List Call) → Reordering l (rejudge ∷ l)
unfolding earlier
rejudge_first l = record {
  to = suc;
  from = earlier;
  to_same = λ i s. refl;
  from_same = same;
  from_to = λ i s. refl;
  to_from = forth;
  in-order = λ i j s t h d. omega arith;
}
  where
    same : (j : ℕ) → StepAt (rejudge ∷ l) j → call_at l (earlier j) ≡ call_at (rejudge ∷ l) j
    same zero s = absurd s
    same (suc j) s = refl

    forth : (j : ℕ) → StepAt (rejudge ∷ l) j → suc (earlier j) ≡ j
    forth zero s = absurd s
    forth (suc j) s = refl

-- A re-judging put in anywhere.
pub rejudge_anywhere : (k l : List Call) → Reordering (k ++ l) (k ++ (rejudge ∷ l))
rejudge_anywhere k l = more k l (rejudge ∷ l) (rejudge_first l)

-- Two calls that are tied, and of which neither is the other or a re-judging, are not changed about.
stays : (a b : Call) → StepAt (a ∷ b ∷ []) 0 → StepAt (a ∷ b ∷ []) 1 → (a ≡ b → ⊥) → (rejudge ≡ a → ⊥) → (rejudge ≡ b → ⊥) → Tied (scope a) (scope b)
    → Reordering (a ∷ b ∷ []) (b ∷ a ∷ []) → ⊥
stays a b s t n x y d r = go (r.to 0) (r.to 1) (r.to_same 0 s) (r.to_same 1 t) (r.in-order 0 1 s t (lit< tt) d)
  where
    go : (i j : ℕ) → call_at (b ∷ a ∷ []) i ≡ a → call_at (b ∷ a ∷ []) j ≡ b → i < j → ⊥
    go zero j e f h = n (sym e)
    go (suc zero) zero e f h = omega arith
    go (suc zero) (suc zero) e f h = omega arith
    go (suc zero) (suc (suc j)) e f h = y f
    go (suc (suc i)) j e f h = x e

-- A filing does not pass a clearing of its source in its register.
pub clearing_stays : (o : Origin) (source customer : ℕ) (list : List ℕ)
    → Reordering (file o source customer list ∷ clear o source ∷ []) (clear o source ∷ file o source customer list ∷ []) → ⊥
clearing_stays o source customer list =
    stays (file o source customer list) (clear o source) tt tt (λ e. let z : ◌≡◌ {A = ℕ} 0 1 = cc in omega arith)
    (λ e. let z : ◌≡◌ {A = ℕ} 0 1 = cc in omega arith) (λ e. let z : ◌≡◌ {A = ℕ} 0 1 = cc in omega arith) (clear_second o source (refl, refl) (refl, refl))

-- A keeping does not pass a dropping of its number.
pub dropping_stays : (k : Keeping) → Reordering (keep k ∷ drop k.number ∷ []) (drop k.number ∷ keep k ∷ []) → ⊥
dropping_stays k =
    stays (keep k) (drop k.number) tt tt (λ e. let z : ◌≡◌ {A = ℕ} 0 1 = cc in omega arith)
    (λ e. let z : ◌≡◌ {A = ℕ} 0 1 = cc in omega arith) (λ e. let z : ◌≡◌ {A = ℕ} 0 1 = cc in omega arith) (same_route k.number refl refl)
