-- A route read from the words: its role, and the part of the words that its path is. Assumes nothing.
use Prim.Native.Nat.{ℕ, ◌+◌}
use mathlib.Core.Path.{◌≡◌, refl, sym, ◌∙◌, ap}
use mathlib.Core.Bool.{true≢false}
use mathlib.Core.List.{List}
use native.Mathlib.Omega.{arith}
use lib.ListN.{length, get_or, take}
use Rattle.std.specs.Prelude.{Option, Some, None, Ok, ok_or}
use Rattle.types.specs.declared.Role.{Role}
use Rattle.types.specs.declared.Refusal.TheVariants.{RoleNumber}
use Rattle.types.specs.Numbers.{role_number, role_of, role_read}
use Rattle.types.proofs.RoleNumbers.{role_named, role_none}
use Rattle.ledger.specs.Routes.{slot_at, routes_of, route_at, path_words}
use Rattle.ledger.specs.Helpers.{PathFrom, RouteIn}
use Rattle.ledger.proofs.Entries.{route_count}
use Rattle.ledger.proofs.Holding.{has_role}

module _ {ws : List ℕ} {i : ℕ} (p : RouteIn ws i) where
  -- A role is read from its word.
  pub its_role : (role : Role) × (role_read (route_at (routes_of ws) i).role ≡ Ok role) × (role_number role ≡ (route_at (routes_of ws) i).role)
  its_role = go (role_of word) refl
    where
      word : ℕ
      word = (route_at (routes_of ws) i).role

      go : (o : Option Role) → role_of word ≡ o → (role : Role) × (ok_or o RoleNumber ≡ Ok role) × (role_number role ≡ word)
      go (Some role) e = (role, refl, (role_named word role e).number)
      go None e = absurd (true≢false (sym (has_role (route_at (routes_of ws) i) p.ok) ∙ role_none word e))

  -- The count of the routes, the path's start and its length say where its path is.
  pub its_part :
      {n start long : ℕ} → n ≡ get_or ws 0 0 → start ≡ path_words (take i (routes_of ws)) → long ≡ length (route_at (routes_of ws) i).path
      → PathFrom ws i (slot_at n + start) (slot_at n + start + long)
  its_part {n} {start} a b c =
      record {
        sound = p.sound;
        within = p.within;
        start = omega (arith, a, route_count ws p.sound, b);
        end = ap (λ k. slot_at n + start + k) c;
      }
