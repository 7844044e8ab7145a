-- The reference model (the rules' plain book): lists and routes, fed only the arguments of each call.
use Rattle.std.specs.Prelude.{ℕ, zero, suc, ◌+◌, Bool, not, cond, ◌&&◌, List, [], ◌∷◌, ◌++◌, map, eqb, leb, ltb, length, None, Option, Some}
use Rattle.types.specs.declared.Origin.{Origin}
use Rattle.types.specs.declared.Origin.TheVariants.{Public, Overrides}
use Rattle.types.specs.declared.Verdict.{Verdict}
use Rattle.types.specs.declared.Refusal.{Refusal}
use Rattle.types.specs.declared.Refusal.TheVariants.{ProviderList, NoRecord, RegisterFull, RouteTaken, NoRoute, RoutesFull}
use Rattle.types.specs.Numbers.{verdict_number, place_a, place_b, verdict_of}
use Rattle.types.specs.Rows.{row_if, first_given}
use Rattle.keyed.specs.Keyed.{find, holds, put, without}
use Rattle.rules.specs.Hops.{HopFunction}
use Rattle.rules.specs.Records.{Record, hop_over}
use Rattle.rules.specs.Verdicts.{judged}
use Rattle.rules.specs.Judging.{judge_rows}
use Rattle.register.specs.Register.{records_of}
use Rattle.register.specs.Register as register
use Rattle.register.specs.Calls.{source_row, customer_row, record_for, holds_record, put_record, erase_record, clear_records, count_records}
use Rattle.registers.specs.Registers.{lent}
use Rattle.ledger.specs.Routes.{Route, routes_of, most_routes, most_path_words}
use Rattle.ledger.specs.Routes as ledger
use Rattle.history.specs.Calls.{Call, file, withdraw, clear, keep, drop, rejudge, Tables, call_at, KeptRoute, route_read, known}
use Rattle.history.specs.Replies.{ModelReply, new, replaced, done, gone, refused}

-- ---- what the model holds

-- The lists of each register.
pub record Lists : Type 0 where
  pub public : List Record
  pub overrides : List Record

-- Those of one register, and all with others there.
abbrev pub lists_of : Origin → Lists → List Record
lists_of Public lists = lists.public
lists_of Overrides lists = lists.overrides

abbrev pub with_lists : Lists → Origin → List Record → Lists
with_lists lists Public others = record { public = others; overrides = lists.overrides }
with_lists lists Overrides others = record { public = lists.public; overrides = others }

-- In each register at most one list for each customer and source, by these; at most one route for each route number, by that.
pub record Model : Type 0 where
  pub lists : Lists
  pub routes : List KeptRoute

-- The lists of one register in a model, and the model with others there, or with other routes.
abbrev pub lists_in : Origin → Model → List Record
lists_in o m = lists_of o m.lists

abbrev pub refiled : Model → Origin → List Record → Model
refiled m o others = record { lists = with_lists m.lists o others; routes = m.routes }

abbrev pub rerouted : Model → List KeptRoute → Model
rerouted m others = record { lists = m.lists; routes = others }

-- It begins with the lists and routes that the tables hold.
abbrev pub held_by : Tables → Model
held_by t =
    record {
      lists = record { public = records_of t.registers.public; overrides = records_of t.registers.overrides };
      routes = map known (routes_of t.ledger);
    }

-- Routes looked for, put in, taken out.
abbrev pub number_of : KeptRoute → ℕ
number_of r = r.number

abbrev pub find_kept : ℕ → List KeptRoute → Option KeptRoute
find_kept number rs = find number_of eqb ltb number rs

abbrev pub holds_kept : ℕ → List KeptRoute → Bool
holds_kept number rs = holds number_of eqb ltb number rs

abbrev pub put_kept : KeptRoute → List KeptRoute → List KeptRoute
put_kept r rs = put number_of eqb ltb r rs

abbrev pub erase_kept : ℕ → List KeptRoute → List KeptRoute
erase_kept number rs = without number_of eqb ltb (eqb number) rs

-- ---- refusals

-- By the arguments alone: rows 4, 5, 6 and 9 to 17.
abbrev pub argument_rows : Call → List (Option Refusal)
argument_rows (file o source customer list) = source_row source ∷ customer_row customer ∷ row_if (not (register.list_ok customer list)) ProviderList ∷ []
argument_rows (withdraw o source customer) = source_row source ∷ customer_row customer ∷ []
argument_rows (clear o source) = source_row source ∷ []
argument_rows (keep k) = judge_rows k.role k.neighbour k.attribute
argument_rows (drop number) = []
argument_rows rejudge = []

-- By what is held: 7, no such list; 18, route number taken; 19, no such route.
abbrev pub held_rows : Model → Call → List (Option Refusal)
held_rows m (file o source customer list) = []
held_rows m (withdraw o source customer) = row_if (not (holds_record customer source (lists_in o m))) NoRecord ∷ []
held_rows m (clear o source) = []
held_rows m (keep k) = row_if (holds_kept k.number m.routes) RouteTaken ∷ []
held_rows m (drop number) = row_if (not (holds_kept number m.routes)) NoRoute ∷ []
held_rows m rejudge = []

-- How many numbers the paths hold together.
unfoldable pub path_numbers : List KeptRoute → ℕ
path_numbers [] = 0
path_numbers (r ∷ rs) = length r.path + path_numbers rs

-- Routes within both limits of row 20. (Those of row 8 are the register's `room_for`.)
unfoldable pub room_for_routes : List KeptRoute → Bool
room_for_routes rs = leb (length rs) most_routes && leb (path_numbers rs) most_path_words

-- For room: 8, lists of the register or numbers in them; 20, routes or numbers in their paths.
abbrev pub room_rows : Model → Call → List (Option Refusal)
room_rows m (file o source customer list) = row_if (not (register.room_for (put_record (record_for source customer list) (lists_in o m)))) RegisterFull ∷ []
room_rows m (withdraw o source customer) = []
room_rows m (clear o source) = []
room_rows m (keep k) = row_if (not (room_for_routes (put_kept (route_read k) m.routes))) RoutesFull ∷ []
room_rows m (drop number) = []
room_rows m rejudge = []

-- The first row that is given, in this order.
unfoldable pub refusal : Model → Call → Option Refusal
refusal m c = first_given (argument_rows c ++ (held_rows m c ++ room_rows m c))

-- ---- replies and changes

-- The reply to a call that is not refused, and the model after it.
abbrev pub answer : Model → Call → ModelReply
answer m (file o source customer list) = cond (holds_record customer source (lists_in o m)) replaced new
answer m (withdraw o source customer) = done
answer m (clear o source) = gone (count_records source (lists_in o m))
answer m (keep k) = done
answer m (drop number) = done
answer m rejudge = done

abbrev pub change : Model → Call → Model
change m (file o source customer list) = refiled m o (put_record (record_for source customer list) (lists_in o m))
change m (withdraw o source customer) = refiled m o (erase_record customer source (lists_in o m))
change m (clear o source) = refiled m o (clear_records source (lists_in o m))
change m (keep k) = rerouted m (put_kept (route_read k) m.routes)
change m (drop number) = rerouted m (erase_kept number m.routes)
change m rejudge = m

-- A refused call is answered so, and leaves the model alone.
abbrev pub reply_unless : Option Refusal → ModelReply → ModelReply
reply_unless (Some r) reply = refused r
reply_unless None reply = reply

abbrev pub change_unless : Option Refusal → Model → Model → Model
change_unless (Some r) before after = before
change_unless None before after = after

-- The model's reply to a call, and the model after it.
abbrev pub reply_to : Model → Call → ModelReply
reply_to m c = reply_unless (refusal m c) (answer m c)

abbrev pub next : Model → Call → Model
next m c = change_unless (refusal m c) m (change m c)

-- The model after the first i calls, its reply to the call at index i, and the model after the whole list.
unfoldable pub after : Tables → List Call → ℕ → Model
after t l zero = held_by t
after t l (suc i) = next (after t l i) (call_at l i)

abbrev pub reply_at : Tables → List Call → ℕ → ModelReply
reply_at t l i = reply_to (after t l i) (call_at l i)

abbrev pub final : Tables → List Call → Model
final t l = after t l (length l)

-- ---- the model written out

-- A route with a verdict word and two places.
abbrev pub with_verdict : KeptRoute → ℕ → ℕ → ℕ → Route
with_verdict r verdict a b =
    record {
      number = r.number;
      role = r.role;
      neighbour = r.neighbour;
      ground_code = r.ground_code;
      verdict = verdict;
      a = a;
      b = b;
      path = r.path;
    }

abbrev pub with_words : KeptRoute → Verdict → Route
with_words r v = with_verdict r (verdict_number v) (place_a v) (place_b v)

-- As "Roles and hops" judge its role and path over these hops; under grounds 1 to 3 they are 1, 0, 0.
abbrev pub judged_kept : HopFunction → KeptRoute → Route
judged_kept hop r = cond (eqb r.ground_code 0) (with_words r (verdict_of (judged hop r.path r.role))) (with_verdict r 1 0 0)

-- The words of the lists of each register, and of the routes as judged over the lists that count for each customer, united.
unfoldable pub written : Model → Tables
written m =
    record {
      registers = lent (register.register_of m.lists.public) (register.register_of m.lists.overrides);
      ledger = ledger.ledger_of (map (judged_kept (hop_over m.lists.public m.lists.overrides)) m.routes);
    }
