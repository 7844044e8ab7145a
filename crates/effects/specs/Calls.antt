-- Judge, Keep, Re-judge, Hop and the look-up over the lent tables ("The calls"; "P6"). File, Withdraw and Clear are the register's, Drop is the
-- ledger's.
use Rattle.std.specs.Prelude.{ℕ, not, List, [], ◌∷◌, ◌++◌, Err, None, Ok, Option, Result, Some}
use Rattle.types.specs.Numbers.{verdict_of}
use Rattle.types.specs.declared.Origin.TheVariants.{Public}
use Rattle.types.specs.declared.Hop.{Hop}
use Rattle.types.specs.declared.Verdict.{Verdict}
use Rattle.types.specs.declared.Verdict.TheVariants.{Valid}
use Rattle.types.specs.declared.Refusal.{Refusal}
use Rattle.types.specs.declared.Refusal.TheVariants.{TableLength, RegisterMalformed}
use Rattle.types.specs.Rows.{row_if, length_row, first_given, Effect, effect, unless_refused}
use Rattle.as_path.specs.Reading.{Content, faulty, grounded, merged, content_of}
use Rattle.rules.specs.Records.{list_of, counting}
use Rattle.rules.specs.Judging.{judge_rows, unless_given, judged_route}
use Rattle.register.specs.Register.{records_of}
use Rattle.register.specs.Calls.{source_row, customer_row}
use Rattle.hops.specs.Spans.{span}
use Rattle.registers.specs.declared.Part.{Part}
use Rattle.registers.specs.Registers.{Registers, hop_in, both_long, both_ok, part, part_in}
use Rattle.ledger.specs.Routes.{ledger_words, Route, routes_of, ledger_of}
use Rattle.ledger.specs.Calls.{ledger_row, put_route, route_for, store_rows}
use Rattle.rejudge.specs.Rejudging.{rejudged_effect}
use Rattle.types.specs.declared.Answer.{Answer}

-- What a keeping is handed.
pub record Keeping : Type 0 where
  pub number : ℕ
  pub role : ℕ
  pub neighbour : ℕ
  pub attribute : List ℕ

abbrev pub keeping : ℕ → ℕ → ℕ → List ℕ → Keeping
keeping number role neighbour attribute = record { number = number; role = role; neighbour = neighbour; attribute = attribute }

-- ---- the rows, in the order of their numbers

-- Row 1 and row 2 of two registers: one number for both, and nothing says which.
abbrev pub long_row : Registers → Option Refusal
long_row reg = row_if (not (both_long reg)) TableLength

abbrev pub formed_row : Registers → Option Refusal
formed_row reg = row_if (not (both_ok reg)) RegisterMalformed

-- Rows 1, 2 of registers that are lent without a ledger.
abbrev pub register_rows : Registers → List (Option Refusal)
register_rows reg = long_row reg ∷ formed_row reg ∷ []

-- Rows 1, 1, 2, 3 of all three tables: row 1 is tested for each of them before row 2.
abbrev pub table_rows : Registers → List ℕ → List (Option Refusal)
table_rows reg led = long_row reg ∷ length_row ledger_words led ∷ formed_row reg ∷ ledger_row led ∷ []

-- Judge: rows 1, 2, 9, 10, 11, 12 to 17.
abbrev pub judge_rows_over : Registers → ℕ → ℕ → List ℕ → List (Option Refusal)
judge_rows_over reg role neighbour attribute = register_rows reg ++ judge_rows role neighbour attribute

-- Re-judge: rows 1, 1, 2, 3.
abbrev pub rejudge_rows : Registers → List ℕ → List (Option Refusal)
rejudge_rows reg led = table_rows reg led

-- ---- Judge

-- Rows 1 and 2, then the answer to one route.
unfoldable pub judge_answer : Registers → ℕ → ℕ → List ℕ → Result Answer Refusal
judge_answer reg role neighbour attribute =
    unless_given (first_given (register_rows reg)) (judged_route (hop_in reg) role neighbour attribute)

-- ---- Keep

-- A refusal has no verdict; no route is stored for one.
abbrev pub verdict_in : Result Answer Refusal → Verdict
verdict_in (Ok a) = verdict_of a
verdict_in (Err r) = Valid

-- The merged path, and none for a ground.
abbrev pub path_in : Content → List ℕ
path_in (faulty f p) = []
path_in (grounded g) = []
path_in (merged path) = path

-- What Judge answers to the route of a keeping over well-formed registers.
abbrev pub kept_answer : Registers → Keeping → Result Answer Refusal
kept_answer reg k = judged_route (hop_in reg) k.role k.neighbour k.attribute

-- The entry that Keep stores: with the answer's ground, verdict and places.
abbrev pub kept_route : Registers → Keeping → Route
kept_route reg k =
    route_for k.number k.role k.neighbour (verdict_in (kept_answer reg k)) (path_in (content_of k.role k.neighbour k.attribute))

-- Rows 1, 1, 2, 3, then those of Judge, 9, 10, 11, 12 to 17, then 18, 20.
abbrev pub keep_rows : Registers → List ℕ → Keeping → List (Option Refusal)
keep_rows reg led k = table_rows reg led ++ (judge_rows k.role k.neighbour k.attribute ++ store_rows led (kept_route reg k))

-- Keep answers what Judge answers; the words are the ledger's.
unfoldable pub keep_effect : Registers → List ℕ → Keeping → Effect (Result Answer Refusal)
keep_effect reg led k =
    unless_refused (first_given (keep_rows reg led k)) led
    (effect (kept_answer reg k) (ledger_of (put_route (kept_route reg k) (routes_of led))))

-- ---- Re-judge

-- Every route without a ground is judged anew; the answer is how many changed.
unfoldable pub rejudge_effect : Registers → List ℕ → Effect (Result ℕ Refusal)
rejudge_effect reg led =
    unless_refused (first_given (rejudge_rows reg led)) led
    (effect (Ok (rejudged_effect (hop_in reg) led).answer) (rejudged_effect (hop_in reg) led).words)

-- ---- Hop

abbrev pub hop_unless : Option Refusal → Hop → Result Hop Refusal
hop_unless (Some r) hop = Err r
hop_unless None hop = Ok hop

-- Rows 1 and 2, then what the register that counts for x says of y.
unfoldable pub hop_answer : Registers → ℕ → ℕ → Result Hop Refusal
hop_answer reg x y = hop_unless (first_given (register_rows reg)) (hop_in reg x y)

-- ---- the look-up

-- Rows 1, 2, 4, 5. A look-up that one of them is given to has no list, and says nothing of the row.
abbrev pub look_rows : Registers → ℕ → ℕ → List (Option Refusal)
look_rows reg source customer = register_rows reg ++ (source_row source ∷ customer_row customer ∷ [])

abbrev pub list_unless : Option Refusal → List ℕ → List ℕ
list_unless (Some r) list = []
list_unless None list = list

-- The list of the source for the customer, in the register that counts for the customer; empty where there is none.
unfoldable pub lookup_list : Registers → ℕ → ℕ → List ℕ
lookup_list reg source customer =
    list_unless (first_given (look_rows reg source customer))
    (list_of (counting (records_of reg.public) (records_of reg.overrides) customer) source customer)

abbrev pub part_unless : Option Refusal → Part → Part
part_unless (Some r) p = part Public (span 0 0)
part_unless None p = p

-- Where that list stands.
unfoldable pub lookup_part : Registers → ℕ → ℕ → Part
lookup_part reg source customer = part_unless (first_given (look_rows reg source customer)) (part_in reg source customer)
