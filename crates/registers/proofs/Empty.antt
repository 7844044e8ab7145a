-- Registers whose first word is 0. Assumes nothing.
use Prim.Native.Nat.{ℕ}
use mathlib.Core.Path.{◌≡◌, sym, ◌∙◌}
use mathlib.Core.Bool.{true, false}
use mathlib.Core.List.{List}
use lib.ListN.{get_or}
use Rattle.types.specs.declared.Origin.TheVariants.{Public}
use Rattle.rules.specs.Records.{attested, hop_of}
use Rattle.register.specs.Register.{records_of, register_ok}
use Rattle.register.proofs.Looking.{count_is}
use Rattle.registers.specs.Registers.{Registers, hop_in, both_ok}
use Rattle.registers.proofs.Choosing.{overrides_ok}
use Rattle.registers.proofs.Choosing as records

-- A register whose first word is 0 has no record.
pub none_attested : (ws : List ℕ) → register_ok ws ≡ true → {n : ℕ} → n ≡ get_or ws 0 0 → n ≡ 0 → (x : ℕ) → attested (records_of ws) x ≡ false
none_attested ws ok q z = records.none_attested (records_of ws) (sym (count_is ws ok) ∙ sym q ∙ z)

-- Where the overrides have none, the hops are the public register's.
pub hops_alone : (reg : Registers) → both_ok reg ≡ true → {n : ℕ} → n ≡ get_or reg.overrides 0 0 → n ≡ 0 → hop_in reg ≡ hop_of Public (records_of reg.public)
hops_alone reg b q z = records.hops_alone reg (sym (count_is reg.overrides (overrides_ok reg b)) ∙ sym q ∙ z)
