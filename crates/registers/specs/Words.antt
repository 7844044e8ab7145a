-- The words of the two registers that the code holds.
use Rattle.registers.specs.declared.Registers as declared
use Rattle.registers.specs.Registers.{Registers, lent}

abbrev pub words_of : declared.Registers → Registers
words_of r = lent r.public.register.words.now r.overrides.register.words.now
