-- `routes::role` meets its contract. Assumes nothing.
use Rattle.std.proofs.Common.{◌≡◌, sym, ◌∙◌, ap, refl}
use Rattle.std.specs.Prelude.{Ok}
use Rattle.types.specs.Numbers.{role_number}
use Rattle.routes.proofs.Accessing.{its_role}
use Rattle.routes.proofs.role.Goals as goal

pub unwrap-requires : goal.unwrap-requires
unwrap-requires c = rw (rw c.slot.ensures at c.try_from.ensures, (its_role c.requires).1) refl

pub returns : goal.returns
returns c =
    let p = its_role c.requires in
    let e : Ok c.unwrap.result ≡ Ok p.0 = sym c.unwrap.ensures ∙ (rw c.slot.ensures at c.try_from.ensures) ∙ p.1 in
    let same : c.unwrap.result ≡ p.0 = cc in
    ap role_number same ∙ p.2
