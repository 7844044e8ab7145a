-- What a command does with the tables that it is lent.
use Rattle.std.specs.Prelude.{ℕ, ◌≡◌, List, length, Option, unwrap_or}
use Rattle.std.specs.Borrow.{MutBor}
use Rattle.types.specs.declared.Origin.{Origin}
use Rattle.registers.specs.Registers.{Registers, lent, chosen}
use Rattle.history.specs.Calls as calls
use Rattle.history.specs.Calls.{rewritten}
use Rattle.calls.specs.declared.Tables.{Tables}
use Rattle.calls.specs.declared.Reply.{Reply}
use Rattle.calls.specs.declared.Reply.TheVariants.{Error}
use Rattle.calls.specs.Commands.{Command}
use Rattle.calls.specs.Performing.{tables_of, performed}

-- It is the same table, and as long as before.
pub record Stays (old new : MutBor (List ℕ)) : Type 0 where
  pub same : new.ghost_name ≡ old.ghost_name
  pub size : length new.now ≡ length old.now

-- A line that has no reply is no command.
abbrev pub or_error : Option Reply → Reply
or_error reply = unwrap_or reply Error

-- The tables' words.
abbrev pub tables_in : Tables → calls.Tables
tables_in t = tables_of t.register.now t.overrides.now t.ledger.now

-- A command is performed on them.
pub record Performs (old new : Tables) (reply : Reply) (command : Command) : Type 0 where
  pub register_stays : Stays old.register new.register
  pub overrides_stay : Stays old.overrides new.overrides
  pub ledger_stays : Stays old.ledger new.ledger
  pub outcome : record { reply = reply; tables = tables_in new } ≡ performed (tables_in old) command

-- A command replies so and changes no table, whatever they hold.
pub record Replies (reply : Reply) (command : Command) : Type 0 where
  pub outcome : (t : calls.Tables) → record { reply = reply; tables = t } ≡ performed t command

abbrev pub registers_in : Tables → Registers
registers_in t = lent t.register.now t.overrides.now

-- No table but the register of an origin is changed.
pub record Changes (origin : Origin) (old new : Tables) : Type 0 where
  pub register_stays : Stays old.register new.register
  pub overrides_stay : Stays old.overrides new.overrides
  pub ledger_stays : Stays old.ledger new.ledger
  pub registers : registers_in new ≡ rewritten origin (registers_in old) (chosen origin (registers_in new))
  pub ledger : new.ledger.now ≡ old.ledger.now
