-- Fillings of register D, and what calls on it do to outcomes, places and gap ("P7"). proofs/Vectors.antt has the proof: by computation.
use Rattle.std.specs.Prelude.{ℕ, ◌≡◌, true, false, List, [], ◌∷◌, pos, get_or, Result}
use Rattle.types.specs.declared.Origin.TheVariants.{Public, Overrides}
use Rattle.types.specs.declared.Origins.TheVariants.{One}
use Rattle.types.specs.declared.Cause.TheVariants.{ByHops}
use Rattle.types.specs.declared.Verdict.TheVariants.{Valid, Invalid, Unknown}
use Rattle.rules.specs.Hops.{HopFunction}
use Rattle.rules.specs.Records.{Record, is_in, united, hop_over}
use Rattle.rules.specs.Vectors.{register_d, sequence, plain, gapped}
use Rattle.register.specs.Calls.{record_for}
use Rattle.effects.specs.Calls.{judge_answer}
use Rattle.effects.specs.Vectors.{packed_d, alone}
use Rattle.history.specs.Calls.{Call, file, withdraw, Tables, leaves, blank}
use Rattle.fillings.specs.Fillings.{Filling, unknown, outcome, nobody, filled, admitted, SameSets, new_records, MergedPath}
use Rattle.fillings.specs.Calls.{HasPath, Unattested, AllIn}
use Rattle.types.specs.declared.Answer.{Answer}
use Rattle.types.specs.declared.Refusal.{Refusal}

-- ---- fillings

abbrev pub hop_d : HopFunction
hop_d = hop_over register_d []

-- The filling by which each number has the providers that these records list for it.
abbrev pub sets : List Record → Filling
sets rs x y = is_in y (united rs x)

abbrev pub lists : ℕ → List ℕ → Record
lists customer providers = record_for 0 customer providers

pub record FillingVectors : Type 0 where
  -- Upstream: 60 has no record, and may list its provider or not.
  pub is_unknown : outcome hop_d (30 ∷ 60 ∷ []) 1 ≡ unknown
  pub does_list : admitted (filled hop_d (sets (lists 60 (30 ∷ []) ∷ []))) (30 ∷ 60 ∷ []) 1 ≡ true
  pub lists_another : admitted (filled hop_d (sets (lists 60 (20 ∷ []) ∷ []))) (30 ∷ 60 ∷ []) 1 ≡ false
  -- What it says of itself, or of numbers that are not on the path, admits nothing.
  pub lists_itself : admitted (filled hop_d (sets (lists 60 (7 ∷ 60 ∷ []) ∷ []))) (30 ∷ 60 ∷ []) 1 ≡ false
  -- Downstream: with 30's record the path climbs to its end, and without it the gap is 2.
  pub climbs : admitted (filled hop_d (sets (lists 30 (10 ∷ []) ∷ []))) (20 ∷ 10 ∷ 30 ∷ []) 3 ≡ true
  pub gap_left : admitted (filled hop_d nobody) (20 ∷ 10 ∷ 30 ∷ []) 3 ≡ false
  -- 20 has a record, by which 50 is not its provider, and no filling changes that.
  pub attested_stays : admitted (filled hop_d (sets (lists 20 (50 ∷ []) ∷ []))) (50 ∷ 20 ∷ []) 1 ≡ false
  -- 60 stands twice on the path and has one set: what it lists at one place it lists at the other.
  pub both_listed : admitted (filled hop_d (sets (lists 60 (30 ∷ 90 ∷ []) ∷ lists 90 (60 ∷ []) ∷ []))) (30 ∷ 60 ∷ 90 ∷ 60 ∷ []) 1 ≡ true
  pub one_listed : admitted (filled hop_d (sets (lists 60 (90 ∷ []) ∷ lists 90 (60 ∷ []) ∷ []))) (30 ∷ 60 ∷ 90 ∷ 60 ∷ []) 1 ≡ false
  -- As records for the path: 30 lists nobody, and 60 lists 30.
  pub as_records : new_records register_d [] (sets (lists 60 (30 ∷ []) ∷ [])) (30 ∷ 60 ∷ []) ≡ lists 30 (0 ∷ []) ∷ lists 60 (0 ∷ 30 ∷ []) ∷ []
  -- Two fillings that differ in what is not between neighbours say the same.
  pub same_between : SameSets (sets (lists 60 (7 ∷ 60 ∷ []) ∷ [])) nobody (30 ∷ 60 ∷ [])
  -- A number may come back on a path, and only not stand beside itself.
  pub comes_back : MergedPath (50 ∷ 20 ∷ 50 ∷ [])

-- ---- calls

-- Register D, no overrides and no routes.
abbrev pub tables_d : Tables
tables_d = record { registers = alone packed_d; ledger = blank.ledger }

-- What Judge answers to a path, received from its first number, before a call and after it.
abbrev pub around : Call → ℕ → List ℕ → List (Result Answer Refusal)
around c role path =
    judge_answer tables_d.registers role (get_or path 0 0) (sequence path)
    ∷ judge_answer (leaves tables_d c).registers role (get_or path 0 0) (sequence path)
    ∷ []

pub record OutcomeVectors : Type 0 where
  -- 60 has no record. A list may grow, and {0} gives way to any. A path with a number that comes back is judged.
  pub no_record : Unattested tables_d.registers 60
  pub grows : AllIn (40 ∷ []) (40 ∷ 50 ∷ [])
  pub from_zero : AllIn (0 ∷ []) (50 ∷ [])
  pub has_path : HasPath 1 50 (sequence (50 ∷ 20 ∷ 50 ∷ [])) (50 ∷ 20 ∷ 50 ∷ [])
  -- A record for 60, which had none: the outcome stays, and a place moves, or the gap. An override does the same.
  pub place_moves : around (file Public 1 60 (10 ∷ [])) 1 (50 ∷ 20 ∷ 60 ∷ [])
      ≡ plain (Invalid (ByHops 3 0 (One Public))) ∷ plain (Invalid (ByHops 2 0 (One Public))) ∷ []
  pub place_moves_too : around (file Overrides 1 60 (10 ∷ [])) 1 (50 ∷ 20 ∷ 60 ∷ [])
      ≡ plain (Invalid (ByHops 3 0 (One Public))) ∷ plain (Invalid (ByHops 2 0 (One Overrides))) ∷ []
  pub gap_moves : around (file Public 1 60 (70 ∷ [])) 3 (60 ∷ 70 ∷ []) ≡ gapped Valid (pos 1) ∷ gapped Valid (pos 0) ∷ []
  -- An Unknown may turn into either.
  pub turns_valid : around (file Public 0 60 (30 ∷ [])) 1 (30 ∷ 60 ∷ []) ≡ plain (Unknown 2 0) ∷ plain Valid ∷ []
  pub turns_invalid : around (file Public 0 60 (20 ∷ [])) 1 (30 ∷ 60 ∷ []) ≡ plain (Unknown 2 0) ∷ plain (Invalid (ByHops 2 0 (One Public))) ∷ []
  -- Why the number must have been without a record. Vector N: a second record for 20 turns Invalid into Valid.
  pub vector_n : around (file Public 1 20 (50 ∷ [])) 1 (50 ∷ 20 ∷ 10 ∷ []) ≡ plain (Invalid (ByHops 3 0 (One Public))) ∷ plain Valid ∷ []
  -- And 20's only record withdrawn turns either into Unknown.
  pub valid_lost : around (withdraw Public 0 20) 1 (40 ∷ 20 ∷ 10 ∷ []) ≡ plain Valid ∷ plain (Unknown 3 0) ∷ []
  pub invalid_lost : around (withdraw Public 0 20) 1 (50 ∷ 20 ∷ 10 ∷ []) ≡ plain (Invalid (ByHops 3 0 (One Public))) ∷ plain (Unknown 3 0) ∷ []
  -- A longer list may turn Invalid into Valid, a shorter one Valid into Invalid,
  pub list_grows : around (file Public 0 20 (40 ∷ 50 ∷ [])) 1 (50 ∷ 20 ∷ 10 ∷ []) ≡ plain (Invalid (ByHops 3 0 (One Public))) ∷ plain Valid ∷ []
  pub list_shrinks : around (file Public 0 10 (30 ∷ [])) 1 (20 ∷ 10 ∷ []) ≡ plain Valid ∷ plain (Invalid (ByHops 2 0 (One Public))) ∷ []
  -- and so may a first override, which hides a longer public list.
  pub list_hidden : around (file Overrides 0 10 (30 ∷ [])) 1 (20 ∷ 10 ∷ []) ≡ plain Valid ∷ plain (Invalid (ByHops 2 0 (One Overrides))) ∷ []
