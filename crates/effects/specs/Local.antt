-- What a judging reads of the records: those for the numbers on the path, and no other ("P10"). Statements; proofs/Local.antt has the proofs.
use Rattle.std.specs.Prelude.{ℕ, ◌≡◌, true, cond, List, [], ◌∷◌, eqb, pos, take}
use Rattle.types.specs.declared.Origin.TheVariants.{Public, Overrides}
use Rattle.types.specs.declared.Origins.TheVariants.{One, Two}
use Rattle.types.specs.declared.Cause.TheVariants.{ByHops}
use Rattle.types.specs.declared.Verdict.TheVariants.{Valid, Invalid, Unknown}
use Rattle.as_path.specs.Reading.{content_of}
use Rattle.rules.specs.Hops.{HopFunction}
use Rattle.rules.specs.Records.{Record, is_in, hop_over}
use Rattle.rules.specs.Verdicts.{judged}
use Rattle.rules.specs.Judging.{judged_route}
use Rattle.rules.specs.Laws.{SameHops}
use Rattle.rules.specs.Vectors.{sequence, plain, gapped}
use Rattle.register.specs.Register.{records_of}
use Rattle.registers.specs.Registers.{Registers, lent, hop_in, BothFormed}
use Rattle.ledger.specs.Routes.{Route}
use Rattle.rejudge.specs.Rejudging.{rejudged_route}
use Rattle.effects.specs.Calls.{path_in, judge_answer}
use Rattle.effects.specs.Vectors.{filled, alone, after₁, after₂, packed_d, corrected, two_sources}

-- The records of one customer, in their order.
unfoldable pub records_on : ℕ → List Record → List Record
records_on x [] = []
records_on x (r ∷ rs) = cond (eqb r.customer x) (r ∷ records_on x rs) (records_on x rs)

-- The same records for every number on the path.
abbrev pub SameOn : List ℕ → List Record → List Record → Type 0
SameOn path rs rs' = (x : ℕ) → is_in x path ≡ true → records_on x rs ≡ records_on x rs'

-- So of two pairs of registers: in the public ones, and in the overrides.
pub record SameRecords (reg reg' : Registers) (path : List ℕ) : Type 0 where
  pub in_public : SameOn path (records_of reg.public) (records_of reg'.public)
  pub in_overrides : SameOn path (records_of reg.overrides) (records_of reg'.overrides)

-- The path that a route is read as; empty where it has a ground or its attribute a fault.
abbrev pub path_of : ℕ → ℕ → List ℕ → List ℕ
path_of role neighbour attribute = path_in (content_of role neighbour attribute)

pub record LocalLaws : Type 0 where
  -- The hops between neighbours of the path are the same, both ways,
  pub same_hops : (public overrides public' overrides' : List Record) (path : List ℕ) → SameOn path public public' → SameOn path overrides overrides'
      → SameHops (hop_over public overrides) (hop_over public' overrides') path
  -- and so is the answer for it in every role: verdict, places, the registers that are named, and gap.
  pub same_answer : (reg reg' : Registers) (path : List ℕ) → SameRecords reg reg' path → (role : ℕ)
      → judged (hop_in reg) path role ≡ judged (hop_in reg') path role
  -- Judge over well-formed registers: two pairs with the same records for the numbers on a route's path answer it alike, refusals included.
  pub same_judge : (reg reg' : Registers) → BothFormed reg → BothFormed reg' → (role neighbour : ℕ) (attribute : List ℕ)
      → SameRecords reg reg' (path_of role neighbour attribute)
      → judge_answer reg role neighbour attribute ≡ judge_answer reg' role neighbour attribute
  -- More records than a register has room for: Judge over registers that hold those for the numbers on the path answers what the rules say over all.
  pub any_records : (public overrides : List Record) (reg : Registers) → BothFormed reg → (role neighbour : ℕ) (attribute : List ℕ)
      → SameOn (path_of role neighbour attribute) (records_of reg.public) public
      → SameOn (path_of role neighbour attribute) (records_of reg.overrides) overrides
      → judge_answer reg role neighbour attribute ≡ judged_route (hop_over public overrides) role neighbour attribute
  -- Of a list only those of its numbers count that are neighbours of its customer on the path: registers that say the same of every two neighbours
  -- are enough.
  pub any_hops : (hop : HopFunction) (reg : Registers) → BothFormed reg → (role neighbour : ℕ) (attribute : List ℕ)
      → SameHops (hop_in reg) hop (path_of role neighbour attribute)
      → judge_answer reg role neighbour attribute ≡ judged_route hop role neighbour attribute
  -- A stored route is judged anew alike.
  pub same_rejudged : (reg reg' : Registers) (r : Route) → SameRecords reg reg' r.path → rejudged_route (hop_in reg) r ≡ rejudged_route (hop_in reg') r

-- ---- vectors, over words

-- Of register D the records of 10 and 20 alone, and that of 10 alone.
abbrev pub ten_twenty : Registers
ten_twenty = alone after₂

abbrev pub ten_only : Registers
ten_only = alone after₁

-- Register D beside the first of the two overrides of `corrected`: 30 for 10.
abbrev pub ten_corrected : Registers
ten_corrected = lent packed_d (filled (1 ∷ 1 ∷ 10 ∷ 0 ∷ 0 ∷ 1 ∷ 30 ∷ []))

pub record LocalVectors : Type 0 where
  -- All are well formed.
  pub all_formed : BothFormed (alone packed_d) × BothFormed ten_twenty × BothFormed ten_only × BothFormed corrected × BothFormed ten_corrected
  -- The path of vector A, prepended; one that is not the neighbour's has a ground, and no path.
  pub read : (path_of 1 20 (sequence (20 ∷ 20 ∷ 10 ∷ [])) ≡ 20 ∷ 10 ∷ []) × (path_of 1 30 (sequence (20 ∷ 10 ∷ [])) ≡ [])
  -- Vector A needs the records of 10 and 20 alone.
  pub same_a : SameRecords (alone packed_d) ten_twenty (20 ∷ 10 ∷ [])
  pub alike_a : (judge_answer (alone packed_d) 1 20 (sequence (20 ∷ 10 ∷ [])) ≡ plain Valid)
      × (judge_answer ten_twenty 1 20 (sequence (20 ∷ 10 ∷ [])) ≡ plain Valid)
  -- A path of 10 and of numbers without a record needs that of 10; with 20 in it, as in vector C, a record is missing, and that counts.
  pub same_ten : SameRecords (alone packed_d) ten_only (60 ∷ 10 ∷ [])
  pub missing_c : SameRecords (alone packed_d) ten_only (50 ∷ 20 ∷ 10 ∷ []) → ⊥
  pub apart_c : (judge_answer (alone packed_d) 1 50 (sequence (50 ∷ 20 ∷ 10 ∷ [])) ≡ plain (Invalid (ByHops 3 0 (One Public))))
      × (judge_answer ten_only 1 50 (sequence (50 ∷ 20 ∷ 10 ∷ [])) ≡ plain (Unknown 3 0))
  -- So does one that is missing for the left end alone,
  pub missing_left : SameRecords (alone packed_d) ten_only (20 ∷ 60 ∷ 10 ∷ []) → ⊥
  pub apart_left : (judge_answer (alone packed_d) 3 20 (sequence (20 ∷ 60 ∷ 10 ∷ [])) ≡ gapped (Invalid (ByHops 2 2 (Two Public Public))) (pos 2))
      × (judge_answer ten_only 3 20 (sequence (20 ∷ 60 ∷ 10 ∷ [])) ≡ gapped (Unknown 1 3) (pos 2))
  -- and an override of the origin alone, beside the same public records.
  pub missing_origin : SameRecords (alone packed_d) ten_corrected (20 ∷ 10 ∷ []) → ⊥
  pub apart_origin : judge_answer ten_corrected 1 20 (sequence (20 ∷ 10 ∷ [])) ≡ plain (Invalid (ByHops 2 0 (One Overrides)))
  -- An override of a number off the path does not.
  pub same_off : SameRecords corrected ten_corrected (30 ∷ 10 ∷ [])
  pub alike_off : (judge_answer corrected 1 30 (sequence (30 ∷ 10 ∷ [])) ≡ plain Valid)
      × (judge_answer ten_corrected 1 30 (sequence (30 ∷ 10 ∷ [])) ≡ plain Valid)
  -- A second source's record counts: without it the first is not enough.
  pub missing_source : SameOn (30 ∷ 10 ∷ []) (records_of two_sources) (take 1 (records_of two_sources)) → ⊥
  pub apart_source : (judge_answer (alone two_sources) 1 30 (sequence (30 ∷ 10 ∷ [])) ≡ plain Valid)
      × (judged_route (hop_over (take 1 (records_of two_sources)) []) 1 30 (sequence (30 ∷ 10 ∷ [])) ≡ plain (Invalid (ByHops 2 0 (One Public))))
