-- A read is a new start ("The snapshot"): demands 2 and 3 hold of every list of calls from the tables that it yields. It leaves the overrides.
use Rattle.std.specs.Prelude.{ℕ, ◌-◌, ◌≡◌, true, List, [], ◌∷◌, ◌++◌, length, replicate, Ok}
use Rattle.types.specs.declared.Origin.TheVariants.{Overrides}
use Rattle.register.specs.Register.{register_words, records_of, register_ok}
use Rattle.registers.specs.Registers.{lent}
use Rattle.ledger.specs.Routes.{Route, routes_of}
use Rattle.snapshot.specs.Snapshot.{bytes_of}
use Rattle.snapshot.specs.Calls.{read_effect}
use Rattle.history.specs.Calls.{Call, rejudge, rejudged, Tables, says, with_register, leaves, Formed, blank}
use Rattle.history.specs.Model.{lists_in, after, held_by}
use Rattle.history.specs.Demands.{Demand2, Demand3}

-- The tables after a reading of the file into t. Read is lent the public register and the ledger.
abbrev pub yielded : List ℕ → Tables → Tables
yielded file t =
    record {
      registers = lent (read_effect file t.registers.public t.ledger).register t.registers.overrides;
      ledger = (read_effect file t.registers.public t.ledger).ledger;
    }

abbrev pub Accepts : List ℕ → Tables → Type 0
Accepts file t = (read_effect file t.registers.public t.ledger).answer ≡ Ok tt

-- The overrides as they stand have the right length and keep the word rules.
pub record OverridesFormed (t : Tables) : Type 0 where
  pub long : length t.registers.overrides ≡ register_words
  pub ok : register_ok t.registers.overrides ≡ true

-- ---- an example: a verdict in a file that is not true

-- A route from a customer over 65001 and 65002, with a verdict and places.
abbrev pub route_with : (verdict a : ℕ) → Route
route_with verdict a =
    record { number = 7; role = 1; neighbour = 65001; ground_code = 0; verdict = verdict; a = a; b = 0; path = 65001 ∷ 65002 ∷ [] }

-- No record, and that route as Valid.
abbrev pub stale : List ℕ
stale = bytes_of (1 ∷ 20 ∷ 8 ∷ 28 ∷ 52 ∷ 0 ∷ 0 ∷ 1 ∷ 2 ∷ 7 ∷ 1 ∷ 65001 ∷ 0 ∷ 0 ∷ 0 ∷ 0 ∷ 0 ∷ 2 ∷ 65001 ∷ 65002 ∷ [])

-- Empty tables but for overrides in which source 0 lists 65001 for 65002.
abbrev pub overridden : Tables
overridden = with_register blank Overrides ((1 ∷ 1 ∷ 65002 ∷ 0 ∷ 0 ∷ 1 ∷ 65001 ∷ []) ++ replicate (register_words - 7) 0)

pub record NewStarts : Type 0 where
  -- The tables that an accepted reading yields are well formed if the overrides are, whatever the others were before.
  pub formed : (file : List ℕ) (t : Tables) → OverridesFormed t → Accepts file t → Formed (yielded file t)
  -- So both demands hold of every list of calls from there.
  pub demand2 : (file : List ℕ) (t : Tables) → OverridesFormed t → Accepts file t → Demand2 (yielded file t)
  pub demand3 : (file : List ℕ) (t : Tables) → OverridesFormed t → Accepts file t → Demand3 (yielded file t)
  -- The model starts with the lists and routes that the tables hold, those of the overrides as they stood.
  pub model : (file : List ℕ) (t : Tables) (l : List Call) → after (yielded file t) l 0 ≡ held_by (yielded file t)
  pub model_overrides : (file : List ℕ) (t : Tables) (l : List Call) → lists_in Overrides (after (yielded file t) l 0) ≡ records_of t.registers.overrides
  -- A file may hold a verdict that is not true. It is read as it stands, and the next re-judging mends it.
  pub stale_accepted : Accepts stale blank
  pub stale_held : routes_of (yielded stale blank).ledger ≡ route_with 0 0 ∷ []
  pub stale_counted : says (yielded stale blank) rejudge ≡ rejudged (Ok 1)
  pub stale_mended : routes_of (leaves (yielded stale blank) rejudge).ledger ≡ route_with 2 2 ∷ []
  -- By overrides that stood before the read that verdict is true.
  pub stale_true : Accepts stale overridden × (says (yielded stale overridden) rejudge ≡ rejudged (Ok 0))
