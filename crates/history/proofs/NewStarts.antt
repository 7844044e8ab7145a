-- A read is a new start. Assumes nothing.
use Prim.Native.Nat.{ℕ}
use mathlib.Core.Path.{◌≡◌, refl}
use mathlib.Core.List.{List, [], ◌∷◌}
use Rattle.types.specs.declared.Origin.TheVariants.{Public, Overrides}
use Rattle.types.specs.Rows.{first_given}
use Rattle.table.specs.Table.{slots, bodies, pad, encode, decode_slots, decode, slots_ok, all_zero, well_formed}
use Rattle.keyed.specs.Keyed.{ascends_from, ascends, every}
use Rattle.rules.specs.Hops.{lowest, highest, climb, descend}
use Rattle.rules.specs.Verdicts.{judged, upstream}
use Rattle.rules.specs.Records.{is_in, attested, united, list_of, hop_of, hop_over}
use Rattle.register.specs.Register.{records_of, listed, rises_from, rises, list_ok, record_ok, records_ok, register_ok}
use Rattle.register.specs.Register as register
use Rattle.registers.specs.Registers.{both_long, both_ok}
use Rattle.ledger.specs.Routes.{routes_of, ledger_of, path_words, no_zero, no_repeat, no_runs, path_ok, ground_ok, route_ok, routes_ok, ledger_ok}
use Rattle.ledger.specs.Routes as ledger
use Rattle.ledger.specs.Calls.{count_differing}
use Rattle.snapshot.specs.Snapshot.{bytes_of, words_in, field, length_ok, contents_ok, register_in, ledger_in}
use Rattle.snapshot.specs.Calls.{read_effect}
use Rattle.snapshot.proofs.Laws.{snapshot_laws}
use Rattle.effects.specs.Calls.{rejudge_effect}
use Rattle.history.specs.Calls.{Tables, Formed, rejudge, rejudged, says, leaves, blank}
use Rattle.history.specs.Model.{after}
use Rattle.history.specs.Starts.{yielded, Accepts, OverridesFormed, route_with, stale, overridden, NewStarts}
use Rattle.history.proofs.Theorems.{demands}
use Rattle.std.specs.Prelude.{Ok}

yields_formed : (file : List ℕ) (t : Tables) → OverridesFormed t → Accepts file t → Formed (yielded file t)
yields_formed file t w h =
    let f = snapshot_laws.round_trips.read_formed file t.registers.public t.ledger h in
    record {
      register_long = elim [ Public ↦ f.register_long | Overrides ↦ w.long ];
      register-ok = elim [ Public ↦ f.register-ok | Overrides ↦ w.ok ];
      ledger_long = f.ledger_long;
      ledger-ok = f.ledger-ok;
    }

-- The example, computed.
mended :
    Accepts stale blank
    × (routes_of (yielded stale blank).ledger ≡ route_with 0 0 ∷ [])
    × (says (yielded stale blank) rejudge ≡ rejudged (Ok 1))
    × (routes_of (leaves (yielded stale blank) rejudge).ledger ≡ route_with 2 2 ∷ [])
    × Accepts stale overridden
    × (says (yielded stale overridden) rejudge ≡ rejudged (Ok 0))
unfolding blank read_effect first_given bytes_of field words_in contents_ok length_ok register_in ledger_in pad decode_slots decode slots_ok all_zero well_formed every ascends ascends_from bodies records_of listed records_ok register.room_for register_ok routes_of path_words no_zero no_repeat no_runs path_ok ground_ok route_ok routes_ok ledger.room_for ledger_ok rejudge_effect count_differing judged upstream hop_of hop_over list_of attested united is_in lowest highest climb descend ledger_of encode slots both_long both_ok rises_from rises list_ok record_ok
mended = (refl, refl, refl, refl, refl, refl)

pub new_starts : NewStarts
unfolding after
new_starts = record {
  formed = yields_formed;
  demand2 = λ file t w h. (demands (yielded file t) (yields_formed file t w h)).0;
  demand3 = λ file t w h. (demands (yielded file t) (yields_formed file t w h)).1;
  model = λ file t l. refl;
  model_overrides = λ file t l. refl;
  stale_accepted = mended.0;
  stale_held = mended.1;
  stale_counted = mended.2;
  stale_mended = mended.3;
  stale_true = (mended.4, mended.5);
}
