-- A list that is looked up is a part of a register. Assumes nothing.
use Prim.Native.Nat.{ℕ, ◌-◌, ◌≤◌}
use mathlib.Core.Path.{refl, ap}
use native.Mathlib.Omega.{arith}
use lib.ListN.{length, drop, length-drop}
use lib.Seq.{length-take-le}
use Rattle.register.specs.Register.{register_words}
use Rattle.registers.specs.Registers.{Registers, chosen}
use Rattle.effects.specs.Calls.{lookup_list, lookup_part}
use Rattle.effects.proofs.Looking.{cut_small, cut_within, cut_list}

pub list_short : (reg : Registers) (source customer : ℕ) → length (lookup_list reg source customer) ≤ register_words
list_short reg source customer =
    let p = lookup_part reg source customer in
    let ws = chosen p.origin reg in
    let long : p.to - p.from ≤ length (drop p.from ws) = omega (arith, length-drop p.from ws, cut_within reg source customer {p = p} refl {ws = ws} refl) in
    omega (
      arith,
      length-take-le (p.to - p.from) (drop p.from ws) long,
      ap length (cut_list reg source customer {p = p} refl {ws = ws} refl),
      cut_small reg source customer {p = p} refl {ws = ws} refl,
    )
