-- Lists of calls from any well-formed tables on, each call being lent the tables as the last one left them ("The calls"; demands 2 and 3).
use Rattle.std.specs.Prelude.{ℕ, zero, suc, ◌≡◌, true, List, length, get_or, replicate, Option, Result, option_map}
use Rattle.types.specs.declared.Origin.{Origin}
use Rattle.types.specs.declared.Origin.TheVariants.{Public, Overrides}
use Rattle.types.specs.Numbers.{ground_number}
use Rattle.as_path.specs.Reading.{Content, faulty, grounded, merged, content_of}
use Rattle.rules.specs.Records.{Record}
use Rattle.register.specs.Register.{register_words, register_ok}
pub use Rattle.register.specs.Calls.{find_record}
pub use Rattle.ledger.specs.Calls.{find_route}
use Rattle.register.specs.Calls.{file_effect, withdraw_effect, clear_effect}
use Rattle.registers.specs.Registers.{Registers, lent, chosen}
use Rattle.ledger.specs.Routes.{ledger_words, Route, ledger_ok}
use Rattle.ledger.specs.Calls.{drop_effect}
use Rattle.effects.specs.Calls.{path_in, Keeping, keep_effect, rejudge_effect}
use Rattle.types.specs.declared.Answer.{Answer}
use Rattle.types.specs.declared.Filed.{Filed}
use Rattle.types.specs.declared.Refusal.{Refusal}

-- The calls that can change a table, with their arguments: any numbers and any bytes. File, Withdraw and Clear work on the register that they name.
pub data Call : Type 0 where
  file : (o : Origin) (source customer : ℕ) → (list : List ℕ) → Call
  withdraw : (o : Origin) (source customer : ℕ) → Call
  clear : (o : Origin) (source : ℕ) → Call
  keep : Keeping → Call
  drop : (number : ℕ) → Call
  rejudge : Call

-- What the calls answer: Withdraw and Drop a removal.
pub data Reply : Type 0 where
  filed : Result Filed Refusal → Reply
  removed : Result Unit Refusal → Reply
  cleared : Result ℕ Refusal → Reply
  kept : Result Answer Refusal → Reply
  rejudged : Result ℕ Refusal → Reply

-- The lent tables: two registers and the ledger.
pub record Tables : Type 0 where
  pub registers : Registers
  pub ledger : List ℕ

-- The answer to a call that is lent the tables. Keep and Re-judge are lent both registers, File, Withdraw and Clear their own only.
abbrev pub says : Tables → Call → Reply
says t (file o source customer list) = filed (file_effect (chosen o t.registers) source customer list).answer
says t (withdraw o source customer) = removed (withdraw_effect (chosen o t.registers) source customer).answer
says t (clear o source) = cleared (clear_effect (chosen o t.registers) source).answer
says t (keep k) = kept (keep_effect t.registers t.ledger k).answer
says t (drop number) = removed (drop_effect t.ledger number).answer
says t rejudge = rejudged (rejudge_effect t.registers t.ledger).answer

-- The tables with other words in one register, or with another ledger.
abbrev pub rewritten : Origin → Registers → List ℕ → Registers
rewritten Public reg words = lent words reg.overrides
rewritten Overrides reg words = lent reg.public words

abbrev pub with_register : Tables → Origin → List ℕ → Tables
with_register t o words = record { registers = rewritten o t.registers words; ledger = t.ledger }

abbrev pub with_ledger : Tables → List ℕ → Tables
with_ledger t words = record { registers = t.registers; ledger = words }

-- The tables as it leaves them. A table that it is not lent, or is lent only to be read, stays.
abbrev pub leaves : Tables → Call → Tables
leaves t (file o source customer list) = with_register t o (file_effect (chosen o t.registers) source customer list).words
leaves t (withdraw o source customer) = with_register t o (withdraw_effect (chosen o t.registers) source customer).words
leaves t (clear o source) = with_register t o (clear_effect (chosen o t.registers) source).words
leaves t (keep k) = with_ledger t (keep_effect t.registers t.ledger k).words
leaves t (drop number) = with_ledger t (drop_effect t.ledger number).words
leaves t rejudge = with_ledger t (rejudge_effect t.registers t.ledger).words

-- What a call can change: in one register a source's list for one customer, or every list of a source; the route under a number; or nothing that
-- other calls read.
pub data Scope : Type 0 where
  of_pair : (o : Origin) (source customer : ℕ) → Scope
  of-source : (o : Origin) (source : ℕ) → Scope
  of_route : (number : ℕ) → Scope
  idle : Scope

-- (A re-judging changes verdicts, and no call but another one reads these.)
abbrev pub scope : Call → Scope
scope (file o source customer list) = of_pair o source customer
scope (withdraw o source customer) = of_pair o source customer
scope (clear o source) = of-source o source
scope (keep k) = of_route k.number
scope (drop number) = of_route number
scope rejudge = idle

-- ---- where a list of calls can start

-- Tables of the right lengths that keep the word rules: rows 1 to 3 are not given.
pub record Formed (t : Tables) : Type 0 where
  pub register_long : (o : Origin) → length (chosen o t.registers) ≡ register_words
  pub register-ok : (o : Origin) → register_ok (chosen o t.registers) ≡ true
  pub ledger_long : length t.ledger ≡ ledger_words
  pub ledger-ok : ledger_ok t.ledger ≡ true

-- One such start, both registers and the ledger empty: zeros, of the right lengths.
unfoldable pub blank : Tables
blank = record { registers = lent (replicate register_words 0) (replicate register_words 0); ledger = replicate ledger_words 0 }

-- ---- calls from the tables t on

-- The call at index i of a list; past its end a re-judging.
abbrev pub call_at : List Call → ℕ → Call
call_at l i = get_or l i rejudge

-- Its scope.
abbrev pub scope_at : List Call → ℕ → Scope
scope_at l i = scope (call_at l i)

-- The tables after the first i calls.
unfoldable pub tables : Tables → List Call → ℕ → Tables
tables t l zero = t
tables t l (suc i) = leaves (tables t l i) (call_at l i)

-- The answer to the call at index i.
abbrev pub said : Tables → List Call → ℕ → Reply
said t l i = says (tables t l i) (call_at l i)

-- The tables after the whole list and one last re-judging.
abbrev pub last : Tables → List Call → Tables
last t l = leaves (tables t l (length l)) rejudge

-- ---- the route that a keeping's arguments are read as

-- A kept route: no verdict, and no path under a ground.
pub record KeptRoute : Type 0 where
  pub number : ℕ
  pub role : ℕ
  pub neighbour : ℕ
  pub ground_code : ℕ
  pub path : List ℕ

-- The ground of an attribute, and 0 if it has none.
abbrev pub ground_in : Content → ℕ
ground_in (faulty f p) = 0
ground_in (grounded g) = ground_number g
ground_in (merged path) = 0

-- The route that a keeping's arguments are read as.
abbrev pub route_read : Keeping → KeptRoute
route_read k =
    record {
      number = k.number;
      role = k.role;
      neighbour = k.neighbour;
      ground_code = ground_in (content_of k.role k.neighbour k.attribute);
      path = path_in (content_of k.role k.neighbour k.attribute);
    }

-- ---- what tables hold

-- Its list.
abbrev pub providers_of : Option Record → Option (List ℕ)
providers_of found = option_map (λ r. r.providers) found

-- A stored route without its verdict and places.
abbrev pub known : Route → KeptRoute
known r = record { number = r.number; role = r.role; neighbour = r.neighbour; ground_code = r.ground_code; path = r.path }
