-- The public register and the overrides, lent together ("P6").
use Rattle.std.specs.Prelude.{ℕ, ◌≡◌, Bool, true, ◌&&◌, List, eqb, length}
use Rattle.types.specs.declared.Origin.{Origin}
use Rattle.types.specs.declared.Origin.TheVariants.{Public, Overrides}
use Rattle.rules.specs.Hops.{HopFunction}
use Rattle.rules.specs.Records.{Record, origin_for, counting, hop_over}
use Rattle.register.specs.Register.{register_words, records_of, position_of, register_ok}
use Rattle.hops.specs.declared.Span.{Span}
use Rattle.hops.specs.Spans.{span_of}
use Rattle.registers.specs.declared.Found.{Found}
use Rattle.registers.specs.declared.Part.{Part}

-- The two registers that a call is lent.
pub record Registers : Type 0 where
  pub public : List ℕ
  pub overrides : List ℕ

abbrev pub lent : List ℕ → List ℕ → Registers
lent public overrides = record { public = public; overrides = overrides }

-- The hops over their records.
abbrev pub hop_in : Registers → HopFunction
hop_in reg = hop_over (records_of reg.public) (records_of reg.overrides)

-- Both have the length of a register (row 1), and both keep its word rules (row 2).
unfoldable pub both_long : Registers → Bool
both_long reg = eqb (length reg.public) register_words && eqb (length reg.overrides) register_words

unfoldable pub both_ok : Registers → Bool
both_ok reg = register_ok reg.public && register_ok reg.overrides

pub record BothFormed (reg : Registers) : Type 0 where
  pub long : both_long reg ≡ true
  pub ok : both_ok reg ≡ true

-- The register of an origin.
abbrev pub chosen : Origin → Registers → List ℕ
chosen Public reg = reg.public
chosen Overrides reg = reg.overrides

-- ---- what is found of a number

-- Which register counts for x, and where x's records begin there.
abbrev pub found_of : List Record → List Record → ℕ → Found
found_of public overrides x = record { origin = origin_for overrides x; position = position_of x 0 (counting public overrides x) }

abbrev pub found_in : Registers → ℕ → Found
found_in reg x = found_of (records_of reg.public) (records_of reg.overrides) x

-- The list of a source for a customer in the register that counts: which one that is, and from where to where.
abbrev pub part : Origin → Span → Part
part o s = record { origin = o; from = s.from; to = s.to }

abbrev pub part_in : Registers → ℕ → ℕ → Part
part_in reg source x =
    part (origin_for (records_of reg.overrides) x) (span_of (counting (records_of reg.public) (records_of reg.overrides) x) source x)
