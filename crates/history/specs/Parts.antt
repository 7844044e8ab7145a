-- A part of all lists is enough to judge a path by ("P10"): those for the numbers on it. So tools/aspa-check files a part for each batch of paths.
-- proofs/Parts.antt has the proofs.
use Rattle.std.specs.Prelude.{ℕ, ◌≡◌, true, cond, ◌&&◌, List, [], ◌∷◌, eqb, None, Ok, Some}
use Rattle.types.specs.declared.Origin.TheVariants.{Public, Overrides}
use Rattle.types.specs.declared.Cause.TheVariants.{ByHops}
use Rattle.types.specs.declared.Origins.TheVariants.{One}
use Rattle.types.specs.declared.Verdict.TheVariants.{Valid, Invalid, Unknown}
use Rattle.types.specs.declared.Answer.{Answer}
use Rattle.as_path.specs.Segments.{number_bytes, segments}
use Rattle.rules.specs.Records.{is_in}
use Rattle.rules.specs.Judging.{judged_route}
use Rattle.rules.specs.Draft.{draft_route}
use Rattle.rules.specs.Vectors.{sequence, plain}
use Rattle.effects.specs.Calls.{judge_answer}
use Rattle.effects.specs.Local.{path_of, ten_twenty}
use Rattle.history.specs.Calls.{Call, Tables, Formed, blank, tables}
use Rattle.history.specs.Filings.{FiledLists, filed_list, hop_filed_over}

-- After the first i calls each source has in both registers just the lists for the numbers on the path that it has here.
pub record HoldsPart (t : Tables) (l : List Call) (i : ℕ) (public overrides : FiledLists) (path : List ℕ) : Type 0 where
  pub in_public : (source x : ℕ) → is_in x path ≡ true → filed_list t l i Public source x ≡ public source x
  pub in_overrides : (source x : ℕ) → is_in x path ≡ true → filed_list t l i Overrides source x ≡ overrides source x

pub record PartLaws (t : Tables) : Type 0 where
  -- Then Judge answers what the rules say over all lists, however many there are: no limit is set to them.
  pub part_judges : (public overrides : FiledLists) (l : List Call) (i role neighbour : ℕ) (attribute : List ℕ)
      → HoldsPart t l i public overrides (path_of role neighbour attribute)
      → judge_answer (tables t l i).registers role neighbour attribute ≡ judged_route (hop_filed_over public overrides) role neighbour attribute
  -- And that is the draft's answer over all of them.
  pub part_drafts : (public overrides : FiledLists) (l : List Call) (i role neighbour : ℕ) (attribute : List ℕ)
      → HoldsPart t l i public overrides (path_of role neighbour attribute)
      → (a : Answer) → judge_answer (tables t l i).registers role neighbour attribute ≡ Ok a
      → draft_route (hop_filed_over public overrides) role neighbour (segments number_bytes attribute) ≡ a

-- From every well-formed start, so from empty tables and before the first call too.
abbrev pub Parts : Type 0
Parts = (t : Tables) → Formed t → PartLaws t

-- ---- an example: every number has a record and 50 an override too, and the registers have the records of 10 and 20 alone

-- 10 lists 20 and 30, 20 lists 40, and every other number lists nobody, all by source 0.
abbrev pub everybody : FiledLists
everybody source x = cond (eqb source 0) (cond (eqb x 10) (Some (20 ∷ 30 ∷ [])) (cond (eqb x 20) (Some (40 ∷ [])) (Some (0 ∷ [])))) None

abbrev pub of_fifty : FiledLists
of_fifty source x = cond (eqb source 0 && eqb x 50) (Some (10 ∷ [])) None

-- The tables before the first call.
abbrev pub start_ten : Tables
start_ten = record { registers = ten_twenty; ledger = blank.ledger }

pub record PartVectors : Type 0 where
  pub start_formed : Formed start_ten
  -- For 20 10 the part is enough, though 50's override is not in it, and both say Valid;
  pub part_held : HoldsPart start_ten [] 0 everybody of_fifty (20 ∷ 10 ∷ [])
  pub part_alike : (judge_answer start_ten.registers 1 20 (sequence (20 ∷ 10 ∷ [])) ≡ plain Valid)
      × (judged_route (hop_filed_over everybody of_fifty) 1 20 (sequence (20 ∷ 10 ∷ [])) ≡ plain Valid)
  -- for 10 30, whose origin's list is not in it, it is not.
  pub part_lacking : HoldsPart start_ten [] 0 everybody of_fifty (10 ∷ 30 ∷ []) → ⊥
  pub part_apart : (judge_answer start_ten.registers 1 10 (sequence (10 ∷ 30 ∷ [])) ≡ plain (Unknown 2 0))
      × (judged_route (hop_filed_over everybody of_fifty) 1 10 (sequence (10 ∷ 30 ∷ [])) ≡ plain (Invalid (ByHops 2 0 (One Public))))
