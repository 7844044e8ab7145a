-- What the answers of Judge and Keep, and the verdicts of a ledger after a re-judging, say of the fillings ("P7"); which changes leave them.
use Rattle.std.specs.Prelude.{ℕ, ◌≤◌, ◌<◌, ◌≡◌, true, false, List, ◌↔◌, length, Err, None, Ok, Option, Result, Some}
use Rattle.types.specs.declared.Origin.{Origin}
use Rattle.types.specs.Numbers.{verdict_of}
use Rattle.types.specs.Rows.{first_given}
use Rattle.as_path.specs.Reading.{merged, content_of}
use Rattle.rules.specs.Records.{is_in, attested, united, list_of}
use Rattle.rules.specs.Judging.{judge_rows}
use Rattle.register.specs.Register.{records_of}
use Rattle.registers.specs.Registers.{Registers, chosen, hop_in, BothFormed}
use Rattle.registers.specs.Laws.{records_for}
use Rattle.ledger.specs.Routes.{routes_of, route_at}
use Rattle.effects.specs.Calls.{Keeping, keep_rows, judge_answer, keep_effect, kept_route, rejudge_effect}
use Rattle.effects.specs.Laws.{WellFormed}
use Rattle.history.specs.Calls.{file, Tables, leaves}
use Rattle.fillings.specs.Fillings.{Outcome, valid, invalid, unknown, outcome_of, Means}
use Rattle.types.specs.declared.Answer.{Answer}
use Rattle.types.specs.declared.Refusal.{Refusal}

-- ---- what the answers mean

-- The outcome that a judging answers; none if it is refused.
abbrev pub outcome_in : Result Answer Refusal → Option Outcome
outcome_in (Ok a) = Some (outcome_of (verdict_of a))
outcome_in (Err r) = None

-- The word of an outcome in a ledger's entry.
abbrev pub outcome_number : Outcome → ℕ
outcome_number valid = 0
outcome_number invalid = 1
outcome_number unknown = 2

-- A route within the limits and without a ground: rows 9 to 17 are not given, and its attribute is read as this path.
pub record HasPath (role neighbour : ℕ) (attribute path : List ℕ) : Type 0 where
  pub passes : first_given (judge_rows role neighbour attribute) ≡ None
  pub read : content_of role neighbour attribute ≡ merged path

pub record CallMeanings : Type 0 where
  -- Judge answers an outcome exactly when what it says of the fillings holds.
  pub judge_means : (reg : Registers) → BothFormed reg → (role neighbour : ℕ) (attribute path : List ℕ) → HasPath role neighbour attribute path
      → (o : Outcome) → (outcome_in (judge_answer reg role neighbour attribute) ≡ Some o) ↔ Means o (hop_in reg) path role
  -- So does a keeping that is done, and it stores the same.
  pub keep_means : (reg : Registers) (led : List ℕ) (k : Keeping) (path : List ℕ) → first_given (keep_rows reg led k) ≡ None
      → content_of k.role k.neighbour k.attribute ≡ merged path
      → (o : Outcome) → (outcome_in (keep_effect reg led k).answer ≡ Some o) ↔ Means o (hop_in reg) path k.role
  pub stored_means : (reg : Registers) (led : List ℕ) (k : Keeping) (path : List ℕ) → first_given (keep_rows reg led k) ≡ None
      → content_of k.role k.neighbour k.attribute ≡ merged path
      → (o : Outcome) → ((kept_route reg k).verdict ≡ outcome_number o) ↔ Means o (hop_in reg) path k.role
  -- After a re-judging every stored route without a ground has the outcome that holds of it.
  pub rejudge_means : (reg : Registers) (led : List ℕ) → WellFormed reg led → (i : ℕ) → i < length (routes_of led)
      → let r = route_at (routes_of (rejudge_effect reg led).words) i in
      r.ground_code ≡ 0 → (o : Outcome) → (r.verdict ≡ outcome_number o) ↔ Means o (hop_in reg) r.path r.role

-- ---- which changes of the registers leave an outcome

-- From the first registers to the second: every route that Judge answers with the outcome is answered with it still, and so is every stored route
-- that has it after a re-judging.
pub record Lasts (o : Outcome) (reg reg' : Registers) : Type 0 where
  pub judged : (role neighbour : ℕ) (attribute : List ℕ)
      → outcome_in (judge_answer reg role neighbour attribute) ≡ Some o → outcome_in (judge_answer reg' role neighbour attribute) ≡ Some o
  pub rejudged : (led : List ℕ) → WellFormed reg led → (i : ℕ) → i < length (routes_of led)
      → (route_at (routes_of (rejudge_effect reg led).words) i).verdict ≡ outcome_number o
      → (route_at (routes_of (rejudge_effect reg' led).words) i).verdict ≡ outcome_number o

-- Every number of the first list but 0, which is on no path, is in the second.
abbrev pub AllIn : List ℕ → List ℕ → Type 0
AllIn k l = (y : ℕ) → 1 ≤ y → is_in y k ≡ true → is_in y l ≡ true

-- From any registers to others, whatever was done in between.
pub record LastLaws : Type 0 where
  -- Valid lasts if every number still has the providers that it had, by the register that counts for it then.
  pub valid_lasts : (reg reg' : Registers) → BothFormed reg'
      → ((x : ℕ) → AllIn (united (records_for reg x) x) (united (records_for reg' x) x)) → Lasts valid reg reg'
  -- Invalid lasts if every number that had a record still has one, and no provider that it had not.
  pub invalid_lasts : (reg reg' : Registers) → BothFormed reg'
      → ((x : ℕ) → attested (records_for reg x) x ≡ true
      → (attested (records_for reg' x) x ≡ true) × AllIn (united (records_for reg' x) x) (united (records_for reg x) x))
      → Lasts invalid reg reg'

-- Neither register has a record of x.
pub record Unattested (reg : Registers) (x : ℕ) : Type 0 where
  pub in_public : attested (records_of reg.public) x ≡ false
  pub in_overrides : attested (records_of reg.overrides) x ≡ false

-- The registers after a filing into one of them, done or refused.
abbrev pub after_filing : Tables → Origin → ℕ → ℕ → List ℕ → Registers
after_filing t o source customer list = (leaves t (file o source customer list)).registers

-- From any tables, with any arguments.
pub record FilingLaws : Type 0 where
  -- A filing for a number that neither register has a record of, into either and from any source, leaves Valid and Invalid.
  pub new_record : (t : Tables) (o : Origin) (source customer : ℕ) (list : List ℕ) → Unattested t.registers customer
      → Lasts valid t.registers (after_filing t o source customer list) × Lasts invalid t.registers (after_filing t o source customer list)
  -- One that adds to the source's list leaves Valid, if that register has a record of the number: all that the list held is in the new one.
  pub longer_list : (t : Tables) (o : Origin) (source customer : ℕ) (list : List ℕ) → attested (records_of (chosen o t.registers)) customer ≡ true
      → AllIn (list_of (records_of (chosen o t.registers)) source customer) list → Lasts valid t.registers (after_filing t o source customer list)
  -- So does any that lists every provider by the register that counts, a first override too.
  pub all_listed : (t : Tables) (o : Origin) (source customer : ℕ) (list : List ℕ)
      → AllIn (united (records_for t.registers customer) customer) list → Lasts valid t.registers (after_filing t o source customer list)
  -- One that takes from the number's lists in that register, or from those that count, leaves Invalid: none of its numbers is new there.
  pub shorter_list : (t : Tables) (o : Origin) (source customer : ℕ) (list : List ℕ)
      → AllIn list (united (records_of (chosen o t.registers)) customer) → Lasts invalid t.registers (after_filing t o source customer list)
  pub none_new : (t : Tables) (o : Origin) (source customer : ℕ) (list : List ℕ)
      → AllIn list (united (records_for t.registers customer) customer) → Lasts invalid t.registers (after_filing t o source customer list)
