-- Rows 9 to 17 go by the arguments alone, whatever the hops; and what a judging answers that none of them refuses. Assumes nothing.
use Prim.Native.Nat.{ℕ, ◌≤◌}
use mathlib.Core.Path.{◌≡◌, refl, sym, ◌∙◌, ap}
use mathlib.Core.Bool.{Bool, true, false, cond}
use mathlib.Core.List.{List, [], ◌∷◌, ◌++◌}
use borrow.Author.Tests.{ltb-false, not-false}
use lib.Dec.{ltb, eqb}
use lib.ListN.{length}
use Rattle.types.specs.declared.Ground.{Ground}
use Rattle.types.specs.declared.Cause.TheVariants.{ByGround}
use Rattle.types.specs.declared.Verdict.TheVariants.{Invalid}
use Rattle.types.specs.declared.Answer.{Answer}
use Rattle.types.specs.declared.Answer.TheVariants.{Plain}
use Rattle.types.specs.declared.Refusal.{Refusal}
use Rattle.types.specs.declared.Refusal.TheVariants.{PathLength}
use Rattle.types.specs.Roles.{is_role}
use Rattle.types.specs.Rows.{or_else, first_given}
use Rattle.types.proofs.Clashes.{some_not_none}
use Rattle.types.proofs.Refusing.{row_passed, accepted_none}
use Rattle.as_path.specs.Reading.{most_numbers, Content, faulty, grounded, merged, content_of}
use Rattle.rules.specs.Hops.{HopFunction}
use Rattle.rules.specs.Verdicts.{judged}
use Rattle.rules.specs.Judging.{argument_rows, content_row, judge_rows, answer_to, unless_given, judged_route, refusal_in}
use Rattle.std.specs.Prelude.{Err, None, Ok, Option, Some}

-- The first given of two lists of rows.
pub first_append : (xs ys : List (Option Refusal)) → first_given (xs ++ ys) ≡ or_else (first_given xs) (first_given ys)
unfolding first_given
first_append [] ys = refl
first_append (Some r ∷ xs) ys = refl
first_append (None ∷ xs) ys = first_append xs ys

module _ (hop : HopFunction) (role neighbour : ℕ) (attribute : List ℕ) where
  -- A judging is refused exactly as rows 9 to 17 refuse it.
  pub judged_reads : refusal_in (judged_route hop role neighbour attribute) ≡ first_given (judge_rows role neighbour attribute)
  unfolding judged_route first_given
  judged_reads =
      by_row (first_given (argument_rows role neighbour attribute))
      ∙ sym (first_append (argument_rows role neighbour attribute) (content_row (content_of role neighbour attribute) ∷ []))
    where
      by_content : (c : Content) → refusal_in (answer_to hop role c) ≡ or_else (content_row c) None
      by_content (faulty f p) = refl
      by_content (grounded g) = refl
      by_content (merged path) = go (ltb most_numbers (length path))
        where
          go : (b : Bool) → refusal_in (cond b (Err PathLength) (Ok (judged hop path role))) ≡ or_else (cond b (Some PathLength) None) None
          go true = refl
          go false = refl

      by_row : (o : Option Refusal)
          → refusal_in (unless_given o (answer_to hop role (content_of role neighbour attribute)))
          ≡ or_else o (first_given (content_row (content_of role neighbour attribute) ∷ []))
      by_row (Some r) = refl
      by_row None = by_content (content_of role neighbour attribute)

  -- What a judging that is not refused answers: Invalid on a ground, or the verdict of a merged path.
  pub data Judgement : Type 0 where
    on-ground : (g : Ground) → content_of role neighbour attribute ≡ grounded g
        → judged_route hop role neighbour attribute ≡ Ok (Plain (Invalid (ByGround g))) → Judgement
    on_path : (path : List ℕ) → content_of role neighbour attribute ≡ merged path → length path ≤ most_numbers
        → judged_route hop role neighbour attribute ≡ Ok (judged hop path role) → Judgement

  pub judgement : first_given (judge_rows role neighbour attribute) ≡ None → Judgement
  unfolding judged_route first_given
  judgement e = go (first_given (argument_rows role neighbour attribute)) refl (content_of role neighbour attribute) refl
      (sym (first_append (argument_rows role neighbour attribute) (content_row (content_of role neighbour attribute) ∷ [])) ∙ e)
    where
      go : (o : Option Refusal) → first_given (argument_rows role neighbour attribute) ≡ o → (c : Content) → content_of role neighbour attribute ≡ c
          → or_else o (or_else (content_row (content_of role neighbour attribute)) None) ≡ None → Judgement
      go (Some r) p c q h = some_not_none h
      go None p (faulty f x) q h = some_not_none (rw q at h)
      go None p (grounded g) q h = on-ground g q (rw (p, q))
      go None p (merged path) q h = short (ltb most_numbers (length path)) refl (rw q at h)
        where
          short : (b : Bool) → ltb most_numbers (length path) ≡ b → or_else (cond b (Some PathLength) None) None ≡ None → Judgement
          short true s k = some_not_none k
          short false s k = on_path path q (ltb-false _ _ s) (rw (p, q, s))

  -- Its role is one, and its neighbour is not 0.
  pub judged_arguments : first_given (judge_rows role neighbour attribute) ≡ None → (is_role role ≡ true) × (eqb neighbour 0 ≡ false)
  judged_arguments e =
      let given = accepted_none (judge_rows role neighbour attribute) e in
      (not-false _ (row_passed _ _ (given 0)), row_passed _ _ (given 1))

  -- A judging that is answered is not refused.
  pub answered : (a : Answer) → judged_route hop role neighbour attribute ≡ Ok a → Judgement
  answered a e = judgement (sym judged_reads ∙ ap refusal_in e)
