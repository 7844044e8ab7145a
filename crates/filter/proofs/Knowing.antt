-- Rows 9, 10 and 11, and what they make of a judging. Assumes nothing.
use Prim.Native.Nat.{ℕ, ◌≤◌, ◌<◌}
use mathlib.Core.Path.{◌≡◌, refl, sym, ◌∙◌, ap}
use mathlib.Core.Bool.{Bool, true, false, cond}
use mathlib.Core.List.{List}
use borrow.Author.Tests.{eq-eqb, ne_eqb, lt-ltb, le-ltb}
use lib.Dec.{ltb, eqb}
use lib.ListN.{length}
use Rattle.types.specs.declared.Role.{Role}
use Rattle.types.specs.declared.Neighbour.{Neighbour}
use Rattle.types.specs.declared.Refusal.{Refusal}
use Rattle.types.specs.declared.Refusal.TheVariants.{RoleNumber, NeighbourZero, AttributeLength}
use Rattle.types.specs.Numbers.{role_number, role_of}
use Rattle.types.specs.Roles.{is_role}
use Rattle.types.specs.Rows.{first_given}
use Rattle.types.proofs.Clashes.{clash}
use Rattle.types.proofs.RoleNumbers.{Names, role_named, role_none}
use Rattle.as_path.specs.Reading.{content_of}
use Rattle.rules.specs.Hops.{HopFunction}
use Rattle.rules.specs.Judging.{most_bytes, argument_rows, answer_to, judged_route}
use Rattle.filter.specs.Helpers.{after_role, known_from}
use Rattle.std.specs.Prelude.{Err, None, Ok, Option, Some}

module _ (role neighbour : ℕ) (xs : List ℕ) where
  pub know_none : role_of role ≡ None → Err RoleNumber ≡ known_from role neighbour xs
  know_none e = rw e

  module _ {k : Role} (e : role_of role ≡ Some k) where
    pub know_neighbour : neighbour ≡ 0 → Err NeighbourZero ≡ known_from role neighbour xs
    know_neighbour z = rw (e, eq-eqb neighbour 0 z)

    module _ (some : neighbour ≡ 0 → ⊥) where
      pub know_length : most_bytes < length xs → Err AttributeLength ≡ known_from role neighbour xs
      know_length h = rw (e, ne_eqb neighbour 0 some, lt-ltb most_bytes (length xs) h)

      pub know_role : length xs ≤ most_bytes → Ok (record { role = k; number = record { 0 = neighbour } }) ≡ known_from role neighbour xs
      know_role h = rw (e, ne_eqb neighbour 0 some, le-ltb most_bytes (length xs) h)

  -- A refusal is the first of the three rows.
  pub known_refused : (r : Refusal) → known_from role neighbour xs ≡ Err r → first_given (argument_rows role neighbour xs) ≡ Some r
  unfolding first_given
  known_refused r = go (role_of role) refl
    where
      last : (a b : Bool) (k : Neighbour) → is_role role ≡ true → eqb neighbour 0 ≡ a → ltb most_bytes (length xs) ≡ b
          → cond a (Err NeighbourZero) (cond b (Err AttributeLength) (Ok k)) ≡ Err r
          → first_given (argument_rows role neighbour xs) ≡ Some r
      last true b k i p q h = rw (i, p) (ap Some (cc))
      last false true k i p q h = rw (i, p, q) (ap Some (cc))
      last false false k i p q h = clash (cc)

      go : (o : Option Role) → role_of role ≡ o → after_role o neighbour xs ≡ Err r → first_given (argument_rows role neighbour xs) ≡ Some r
      go None e h = rw (role_none role e) (ap Some (cc))
      go (Some k) e h = last (eqb neighbour 0) (ltb most_bytes (length xs)) _ (role_named role k e).known refl refl h

  -- A neighbour is known exactly when none of them is given, and has the role and the number given.
  pub known_neighbour : (k : Neighbour) → known_from role neighbour xs ≡ Ok k
      → (first_given (argument_rows role neighbour xs) ≡ None) × (role_number k.role ≡ role) × (k.number.0 ≡ neighbour)
  unfolding first_given
  known_neighbour k = go (role_of role) refl
    where
      last : (a b : Bool) (j : Role) → Names role j → eqb neighbour 0 ≡ a → ltb most_bytes (length xs) ≡ b
          → cond a (Err NeighbourZero) (cond b (Err AttributeLength) (Ok (record { role = j; number = record { 0 = neighbour } }))) ≡ Ok k
          → (first_given (argument_rows role neighbour xs) ≡ None) × (role_number k.role ≡ role) × (k.number.0 ≡ neighbour)
      last true b j i p q h = clash (cc)
      last false true j i p q h = clash (cc)
      last false false j i p q h =
          let made : Neighbour = record { role = j; number = record { 0 = neighbour } } in
          let z : made ≡ k = cc in
          (rw (i.known, p, q) refl, ap (λ (n : Neighbour). role_number n.role) (sym z) ∙ i.number, ap (λ (n : Neighbour). n.number.0) (sym z))

      go : (o : Option Role) → role_of role ≡ o → after_role o neighbour xs ≡ Ok k
          → (first_given (argument_rows role neighbour xs) ≡ None) × (role_number k.role ≡ role) × (k.number.0 ≡ neighbour)
      go None e h = clash (cc)
      go (Some j) e h = last (eqb neighbour 0) (ltb most_bytes (length xs)) j (role_named role j e) refl refl h

-- What they make of a judging.
module _ (hop : HopFunction) (role neighbour : ℕ) (xs : List ℕ) where
  pub judged_refused : (r : Refusal) → known_from role neighbour xs ≡ Err r → judged_route hop role neighbour xs ≡ Err r
  unfolding judged_route
  judged_refused r e = rw (known_refused role neighbour xs r e)

  pub judged_known : (k : Neighbour) → known_from role neighbour xs ≡ Ok k
      → judged_route hop role neighbour xs ≡ answer_to hop (role_number k.role) (content_of (role_number k.role) k.number.0 xs)
  unfolding judged_route
  judged_known k e =
      let p = known_neighbour role neighbour xs k e in
      rw (p.0, p.1, p.2)
