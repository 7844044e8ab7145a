-- The answer to one route over any hop function: rows 9 to 17 in order, the grounds, the verdict ("The calls", Judge).
use Rattle.std.specs.Prelude.{ℕ, not, cond, List, [], ◌∷◌, ◌++◌, eqb, ltb, length, Err, None, Ok, Option, Result, Some}
use Rattle.types.specs.declared.Cause.TheVariants.{ByGround}
use Rattle.types.specs.declared.Verdict.TheVariants.{Invalid}
use Rattle.types.specs.declared.Answer.TheVariants.{Plain}
use Rattle.types.specs.declared.Refusal.{Refusal}
use Rattle.types.specs.declared.Refusal.TheVariants.{RoleNumber, NeighbourZero, AttributeLength, Attribute, PathLength}
use Rattle.types.specs.Roles.{is_role}
use Rattle.types.specs.Rows.{row_if, first_given}
use Rattle.as_path.specs.Reading.{most_numbers, Content, faulty, grounded, merged, content_of}
use Rattle.rules.specs.Hops.{HopFunction}
use Rattle.rules.specs.Verdicts.{judged}
use Rattle.types.specs.declared.Answer.{Answer}

-- The most bytes of an attribute.
abbrev pub most_bytes : ℕ
most_bytes = 4096

-- Rows 9, 10 and 11.
abbrev pub argument_rows : ℕ → ℕ → List ℕ → List (Option Refusal)
argument_rows role neighbour attribute =
    row_if (not (is_role role)) RoleNumber
    ∷ row_if (eqb neighbour 0) NeighbourZero
    ∷ row_if (ltb most_bytes (length attribute)) AttributeLength
    ∷ []

-- Rows 12 to 16 by the attribute, 17 by its merged path: no hop is looked at.
abbrev pub content_row : Content → Option Refusal
content_row (faulty f p) = Some (Attribute f p)
content_row (grounded g) = None
content_row (merged path) = row_if (ltb most_numbers (length path)) PathLength

-- Rows 9 to 17: they go by the arguments alone.
abbrev pub judge_rows : ℕ → ℕ → List ℕ → List (Option Refusal)
judge_rows role neighbour attribute = argument_rows role neighbour attribute ++ (content_row (content_of role neighbour attribute) ∷ [])

-- Rows 12 to 16, the grounds, row 17, the verdict.
abbrev pub answer_to : HopFunction → ℕ → Content → Result Answer Refusal
answer_to hop role (faulty f p) = Err (Attribute f p)
answer_to hop role (grounded g) = Ok (Plain (Invalid (ByGround g)))
answer_to hop role (merged path) = cond (ltb most_numbers (length path)) (Err PathLength) (Ok (judged hop path role))

abbrev pub unless_given : Option Refusal → Result Answer Refusal → Result Answer Refusal
unless_given (Some r) next = Err r
unless_given None next = next

unfoldable pub judged_route : HopFunction → ℕ → ℕ → List ℕ → Result Answer Refusal
judged_route hop role neighbour attribute =
    unless_given (first_given (argument_rows role neighbour attribute)) (answer_to hop role (content_of role neighbour attribute))

-- The refusal that a judging answers.
abbrev pub refusal_in : Result Answer Refusal → Option Refusal
refusal_in (Ok a) = None
refusal_in (Err r) = Some r
