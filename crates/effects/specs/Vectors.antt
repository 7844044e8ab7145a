-- The test vectors A to L and O of the rules again, now of Judge over the words that the six filings of register D leave. By computation.
-- The widest gaps. Vectors of two registers.
use Rattle.std.specs.Prelude.{ℕ, ◌-◌, ◌≡◌, refl, List, [], ◌∷◌, ◌++◌, map, pos, negsuc, length, replicate, None, Ok, Result}
use Rattle.std.proofs.Common.{◌∙◌, ap}
use Rattle.types.specs.declared.Origin.TheVariants.{Public, Overrides}
use Rattle.types.specs.declared.Origins.TheVariants.{One, Two}
use Rattle.types.specs.declared.Cause.TheVariants.{ByHops}
use Rattle.types.specs.declared.Hop.TheVariants.{NoAttestation, ProviderPlus, NotProviderPlus}
use Rattle.types.specs.declared.Verdict.TheVariants.{Valid, Invalid, Unknown}
use Rattle.types.specs.Rows.{first_given}
use Rattle.rules.specs.Records.{Record, is_in, hop_over}
use Rattle.rules.specs.Judging.{unless_given, judged_route}
use Rattle.rules.specs.Vectors as rules
use Rattle.rules.specs.Vectors.{register_d, sequence, Vector, plain, gapped, vectors, wanted, sequences, CutVector, cut_vectors, wanted_cut, pairs_then}
use Rattle.table.specs.Table.{slots, bodies, pad, encode, decode_slots, decode, slots_ok, all_zero, well_formed}
use Rattle.keyed.specs.Keyed.{ascends_from, ascends, holds, put, every}
use Rattle.register.specs.Register.{register_words, records_of, register_of, listed, rises_from, rises, list_ok, record_ok, room_for, records_ok, register_ok}
use Rattle.register.specs.Calls.{file_effect}
use Rattle.registers.specs.Registers.{Registers, lent, both_long, both_ok}
use Rattle.effects.specs.Calls.{register_rows, judge_answer, hop_answer, lookup_list}
use Rattle.types.specs.declared.Answer.{Answer}
use Rattle.types.specs.declared.Refusal.{Refusal}

-- The words that a filing of source 0 leaves.
abbrev pub filed : ℕ → List ℕ → List ℕ → List ℕ
filed customer providers ws = (file_effect ws 0 customer providers).words

-- The six filings of register D, from all zeros.
abbrev pub words_d : List ℕ
words_d =
    filed 80 (70 ∷ [])
    (filed 70 (80 ∷ [])
    (filed 50 (40 ∷ [])
    (filed 40 (0 ∷ [])
    (filed 20 (40 ∷ [])
    (filed 10 (20 ∷ 30 ∷ []) (replicate register_words 0))))))

-- Words, and zeros to the register's end.
abbrev pub filled : List ℕ → List ℕ
filled ws = ws ++ replicate (register_words - length ws) 0

-- A public register, and overrides that hold nothing.
abbrev pub alone : List ℕ → Registers
alone ws = lent ws (replicate register_words 0)

-- The words after each: the two counts, a row for each customer, the lists, and zeros.
abbrev pub after₁ : List ℕ
after₁ = filled (1 ∷ 2 ∷ 10 ∷ 0 ∷ 0 ∷ 2 ∷ 20 ∷ 30 ∷ [])

abbrev pub after₂ : List ℕ
after₂ = filled (2 ∷ 3 ∷ 10 ∷ 0 ∷ 0 ∷ 2 ∷ 20 ∷ 0 ∷ 2 ∷ 1 ∷ 20 ∷ 30 ∷ 40 ∷ [])

abbrev after₃ : List ℕ
after₃ = filled (3 ∷ 4 ∷ 10 ∷ 0 ∷ 0 ∷ 2 ∷ 20 ∷ 0 ∷ 2 ∷ 1 ∷ 40 ∷ 0 ∷ 3 ∷ 1 ∷ 20 ∷ 30 ∷ 40 ∷ 0 ∷ [])

abbrev after₄ : List ℕ
after₄ =
    filled
    (4 ∷ 5 ∷ 10 ∷ 0 ∷ 0 ∷ 2 ∷ 20 ∷ 0 ∷ 2 ∷ 1 ∷ 40 ∷ 0 ∷ 3 ∷ 1 ∷ 50 ∷ 0 ∷ 4 ∷ 1 ∷ 20 ∷ 30 ∷ 40 ∷ 0 ∷ 40 ∷ [])

abbrev after₅ : List ℕ
after₅ =
    filled
    (5 ∷ 6 ∷ 10 ∷ 0 ∷ 0 ∷ 2 ∷ 20 ∷ 0 ∷ 2 ∷ 1 ∷ 40 ∷ 0 ∷ 3 ∷ 1 ∷ 50 ∷ 0 ∷ 4 ∷ 1 ∷ 70 ∷ 0 ∷ 5 ∷ 1 ∷ 20 ∷ 30 ∷ 40 ∷ 0 ∷ 40 ∷ 80 ∷ [])

-- Register D, packed.
abbrev pub packed_d : List ℕ
packed_d =
    filled
    (6 ∷ 7 ∷ 10 ∷ 0 ∷ 0 ∷ 2 ∷ 20 ∷ 0 ∷ 2 ∷ 1 ∷ 40 ∷ 0 ∷ 3 ∷ 1 ∷ 50 ∷ 0 ∷ 4 ∷ 1 ∷ 70 ∷ 0 ∷ 5 ∷ 1 ∷ 80 ∷ 0 ∷ 6 ∷ 1
    ∷ 20 ∷ 30 ∷ 40 ∷ 0 ∷ 40 ∷ 80 ∷ 70 ∷ [])

step₁ : filed 10 (20 ∷ 30 ∷ []) (replicate register_words 0) ≡ after₁
unfolding file_effect first_given slots bodies pad encode decode_slots decode slots_ok all_zero well_formed ascends_from ascends holds put every records_of register_of listed rises_from rises is_in list_ok record_ok room_for records_ok register_ok
step₁ = refl

step₂ : filed 20 (40 ∷ []) after₁ ≡ after₂
unfolding file_effect first_given slots bodies pad encode decode_slots decode slots_ok all_zero well_formed ascends_from ascends holds put every records_of register_of listed rises_from rises is_in list_ok record_ok room_for records_ok register_ok
step₂ = refl

step₃ : filed 40 (0 ∷ []) after₂ ≡ after₃
unfolding file_effect first_given slots bodies pad encode decode_slots decode slots_ok all_zero well_formed ascends_from ascends holds put every records_of register_of listed rises_from rises is_in list_ok record_ok room_for records_ok register_ok
step₃ = refl

step₄ : filed 50 (40 ∷ []) after₃ ≡ after₄
unfolding file_effect first_given slots bodies pad encode decode_slots decode slots_ok all_zero well_formed ascends_from ascends holds put every records_of register_of listed rises_from rises is_in list_ok record_ok room_for records_ok register_ok
step₄ = refl

step₅ : filed 70 (80 ∷ []) after₄ ≡ after₅
unfolding file_effect first_given slots bodies pad encode decode_slots decode slots_ok all_zero well_formed ascends_from ascends holds put every records_of register_of listed rises_from rises is_in list_ok record_ok room_for records_ok register_ok
step₅ = refl

step₆ : filed 80 (70 ∷ []) after₅ ≡ packed_d
unfolding file_effect first_given slots bodies pad encode decode_slots decode slots_ok all_zero well_formed ascends_from ascends holds put every records_of register_of listed rises_from rises is_in list_ok record_ok room_for records_ok register_ok
step₆ = refl

-- The six filings leave register D, word by word.
pub whole_register : words_d ≡ packed_d
whole_register =
    ap (λ ws. filed 80 (70 ∷ []) (filed 70 (80 ∷ []) (filed 50 (40 ∷ []) (filed 40 (0 ∷ []) (filed 20 (40 ∷ []) ws))))) step₁
    ∙ ap (λ ws. filed 80 (70 ∷ []) (filed 70 (80 ∷ []) (filed 50 (40 ∷ []) (filed 40 (0 ∷ []) ws)))) step₂
    ∙ ap (λ ws. filed 80 (70 ∷ []) (filed 70 (80 ∷ []) (filed 50 (40 ∷ []) ws))) step₃
    ∙ ap (λ ws. filed 80 (70 ∷ []) (filed 70 (80 ∷ []) ws)) step₄
    ∙ ap (filed 80 (70 ∷ [])) step₅
    ∙ step₆

-- Neither row 1 nor row 2 is given to them.
passed : first_given (register_rows (alone packed_d)) ≡ None
unfolding first_given both_long both_ok decode_slots decode slots_ok all_zero well_formed ascends_from ascends every records_of listed rises_from rises is_in list_ok record_ok room_for records_ok register_ok
passed = refl

-- They hold register D's records.
records_d : records_of packed_d ≡ register_d
unfolding records_of decode_slots decode
records_d = refl

-- Zeros hold none.
pub records_none : records_of (replicate register_words 0) ≡ []
unfolding records_of decode_slots decode
records_none = refl

-- Over words that pass both rows Judge answers as the definitions do over their records,
pub over : (reg : Registers) (public overrides : List Record) → first_given (register_rows reg) ≡ None → records_of reg.public ≡ public
    → records_of reg.overrides ≡ overrides → (role neighbour : ℕ) (attribute : List ℕ)
    → judge_answer reg role neighbour attribute ≡ judged_route (hop_over public overrides) role neighbour attribute
unfolding judge_answer
over reg public overrides p e f role neighbour attribute = λ i. unless_given (p i) (judged_route (hop_over (e i) (f i)) role neighbour attribute)

-- and so over these.
over_d : (role neighbour : ℕ) (attribute : List ℕ)
    → judge_answer (alone words_d) role neighbour attribute ≡ judged_route (hop_over register_d []) role neighbour attribute
over_d role neighbour attribute =
    ap (λ ws. judge_answer (alone ws) role neighbour attribute) whole_register
    ∙ over (alone packed_d) register_d [] passed records_d records_none role neighbour attribute

-- What Judge answers to a vector.
abbrev pub given : Vector → Result Answer Refusal
given v = judge_answer (alone words_d) v.role v.neighbour (sequence v.path)

all_over_d : (vs : List Vector) → map given vs ≡ map rules.given vs
all_over_d [] = refl
all_over_d (v ∷ vs) = λ i. over_d v.role v.neighbour (sequence v.path) i ∷ all_over_d vs i

-- Judge answers every vector over them as the rules want.
pub starred : map given vectors ≡ map wanted vectors
starred = all_over_d vectors ∙ rules.starred

-- And those with runs over a segment's end, vector O among them.
abbrev pub given_cut : CutVector → Result Answer Refusal
given_cut v = judge_answer (alone words_d) v.role v.neighbour (sequences v.paths)

all_cut_over_d : (vs : List CutVector) → map given_cut vs ≡ map rules.given_cut vs
all_cut_over_d [] = refl
all_cut_over_d (v ∷ vs) = λ i. over_d v.role v.neighbour (sequences v.paths) i ∷ all_cut_over_d vs i

pub starred_cut : map given_cut cut_vectors ≡ map wanted_cut cut_vectors
starred_cut = all_cut_over_d cut_vectors ∙ rules.starred_cut

-- ---- the widest gaps (P5)

-- Two filings, by which 20 and 30 list each other.
abbrev pub each_other : List ℕ
each_other = filed 30 (20 ∷ []) (filed 20 (30 ∷ []) (replicate register_words 0))

-- Of a path of 512 numbers, 20 and 30 in turn: over an empty register, and over those two records. proofs/Gaps.antt has the proof.
pub record WidestGaps : Type 0 where
  pub widest : judge_answer (alone (replicate register_words 0)) 3 20 (pairs_then []) ≡ gapped (Unknown 1 512) (pos 511)
  pub narrowest : judge_answer (alone each_other) 3 20 (pairs_then []) ≡ gapped Valid (negsuc 510)

-- ---- two registers (P6). proofs/Overridden.antt has the proof.

-- Register D beside overrides that list 30 for 10, and 50 for 20.
abbrev pub corrected : Registers
corrected = lent packed_d (filled (2 ∷ 2 ∷ 10 ∷ 0 ∷ 0 ∷ 1 ∷ 20 ∷ 0 ∷ 1 ∷ 1 ∷ 30 ∷ 50 ∷ []))

-- For 10 source 0 lists 20, and source 2 lists 20 and 30.
abbrev pub two_sources : List ℕ
two_sources = filled (2 ∷ 3 ∷ 10 ∷ 0 ∷ 0 ∷ 1 ∷ 10 ∷ 2 ∷ 1 ∷ 2 ∷ 20 ∷ 20 ∷ 30 ∷ [])

-- That beside overrides in which source 1 lists 40 for 10.
abbrev pub hidden : Registers
hidden = lent two_sources (filled (1 ∷ 1 ∷ 10 ∷ 1 ∷ 0 ∷ 1 ∷ 40 ∷ []))

pub record OverrideVectors : Type 0 where
  -- An override decides: a Valid turns Invalid, and an Invalid turns Valid.
  pub was_valid : judge_answer (alone packed_d) 1 20 (sequence (20 ∷ 10 ∷ [])) ≡ plain Valid
  pub turns_invalid : judge_answer corrected 1 20 (sequence (20 ∷ 10 ∷ [])) ≡ plain (Invalid (ByHops 2 0 (One Overrides)))
  pub was_invalid : judge_answer (alone packed_d) 1 50 (sequence (50 ∷ 20 ∷ [])) ≡ plain (Invalid (ByHops 2 0 (One Public)))
  pub turns_valid : judge_answer corrected 1 50 (sequence (50 ∷ 20 ∷ [])) ≡ plain Valid
  -- Each hop that an Invalid names has the register of its own customer: of 40, then 20; of 10, then 40.
  pub public_then_overrides : judge_answer corrected 3 20 (sequence (20 ∷ 10 ∷ 40 ∷ [])) ≡ gapped (Invalid (ByHops 2 2 (Two Public Overrides))) (pos 2)
  pub overrides_then_public : judge_answer corrected 3 40 (sequence (40 ∷ 80 ∷ 10 ∷ [])) ≡ gapped (Invalid (ByHops 2 2 (Two Overrides Public))) (pos 2)
  -- Provider+ names the lowest source that lists the provider, not the lowest that has a list.
  pub by_source_0 : hop_answer (alone two_sources) 10 20 ≡ Ok (ProviderPlus Public 0)
  pub by_source_2 : hop_answer (alone two_sources) 10 30 ≡ Ok (ProviderPlus Public 2)
  pub by_none : hop_answer (alone two_sources) 10 40 ≡ Ok (NotProviderPlus Public)
  pub no_record : hop_answer hidden 20 30 ≡ Ok NoAttestation
  -- One override of a customer hides the lists of every source for it.
  pub override_lists : hop_answer hidden 10 40 ≡ Ok (ProviderPlus Overrides 1)
  pub public_hidden : hop_answer hidden 10 30 ≡ Ok (NotProviderPlus Overrides)
  pub looked_up : (lookup_list (alone two_sources) 2 10 ≡ 20 ∷ 30 ∷ []) × (lookup_list hidden 1 10 ≡ 40 ∷ [])
  pub looked_up_hidden : (lookup_list hidden 2 10 ≡ []) × (lookup_list hidden 0 10 ≡ [])
