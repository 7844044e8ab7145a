-- Reading a role from its number: what the answer says of the number. Assumes nothing.
use Prim.Native.Nat.{ℕ, ◌≤◌}
use mathlib.Core.Path.{◌≡◌, refl, sym, ◌∙◌, ap}
use mathlib.Core.Bool.{Bool, true, false, cond, ◌&&◌}
use native.Mathlib.Omega.{arith}
use borrow.Author.Tests.{eqb-true, eqb-false, leb-true}
use lib.Dec.{leb, eqb}
use Rattle.types.specs.declared.Role.{Role}
use Rattle.types.specs.declared.Role.TheVariants.{Customer, Peer, Provider, RouteServer, RouteServerClient, MutualTransit}
use Rattle.types.specs.Numbers.{role_number, role_of}
use Rattle.types.specs.Roles.{is_role}
use Rattle.std.specs.Prelude.{None, Option, Some}

-- A role that was read has the number that it was read from, and that number is a role's.
pub record Names (n : ℕ) (k : Role) : Type 0 where
  pub known : is_role n ≡ true
  pub number : role_number k ≡ n

named : (n m : ℕ) (r k : Role) (rest : Option Role) → is_role m ≡ true → role_number r ≡ m → (rest ≡ Some k → Names n k)
    → (b : Bool) → eqb n m ≡ b → cond b (Some r) rest ≡ Some k → Names n k
named n m r k rest ok e next true t h =
    let z : n ≡ m = eqb-true n m t in
    let q : r ≡ k = cc in
    record { known = rw z ok; number = sym (ap role_number q) ∙ e ∙ sym z }
named n m r k rest ok e next false t h = next h

pub role_named : (n : ℕ) (k : Role) → role_of n ≡ Some k → Names n k
role_named n k =
    named n 1 Customer k _ refl refl
    (named n 2 Peer k _ refl refl
    (named n 3 Provider k _ refl refl
    (named n 4 RouteServer k _ refl refl
    (named n 5 RouteServerClient k _ refl refl
    (named n 6 MutualTransit k _ refl refl
    (λ h. let z : ◌≡◌ {A = ℕ} 0 1 = cc in absurd (omega arith))
    (eqb n 6) refl)
    (eqb n 5) refl)
    (eqb n 4) refl)
    (eqb n 3) refl)
    (eqb n 2) refl)
    (eqb n 1) refl

passed : (r : Role) (rest : Option Role) (b : Bool) → cond b (Some r) rest ≡ None → (b ≡ false) × (rest ≡ None)
passed r rest true h = let z : ◌≡◌ {A = ℕ} 0 1 = cc in absurd (omega arith)
passed r rest false h = (refl, h)

-- Where no role was read, the number is no role's.
pub role_none : (n : ℕ) → role_of n ≡ None → is_role n ≡ false
role_none n h =
    let p1 = passed Customer _ (eqb n 1) h in
    let p2 = passed Peer _ (eqb n 2) p1.1 in
    let p3 = passed Provider _ (eqb n 3) p2.1 in
    let p4 = passed RouteServer _ (eqb n 4) p3.1 in
    let p5 = passed RouteServerClient _ (eqb n 5) p4.1 in
    let p6 = passed MutualTransit _ (eqb n 6) p5.1 in
    go (leb 1 n) (leb n 6) refl refl
    (eqb-false n 1 p1.0) (eqb-false n 2 p2.0) (eqb-false n 3 p3.0) (eqb-false n 4 p4.0) (eqb-false n 5 p5.0) (eqb-false n 6 p6.0)
  where
    go : (a b : Bool) → leb 1 n ≡ a → leb n 6 ≡ b
        → (n ≡ 1 → ⊥) → (n ≡ 2 → ⊥) → (n ≡ 3 → ⊥) → (n ≡ 4 → ⊥) → (n ≡ 5 → ⊥) → (n ≡ 6 → ⊥) → (a && b) ≡ false
    go true true p q e1 e2 e3 e4 e5 e6 =
        let low : 1 ≤ n = leb-true 1 n p in
        let high : n ≤ 6 = leb-true n 6 q in
        absurd (omega arith)
    go true false p q e1 e2 e3 e4 e5 e6 = refl
    go false b p q e1 e2 e3 e4 e5 e6 = refl
