-- Whole registers and refusals, by computation from the definitions.
use Rattle.std.specs.Prelude.{ℕ, ◌-◌, ◌≡◌, refl, true, false, List, [], ◌∷◌, ◌++◌, replicate, Err, Ok, Result}
use Rattle.types.specs.declared.Refusal.TheVariants.{CustomerZero, ProviderList}
use Rattle.types.specs.Rows.{first_given, Effect, effect}
use Rattle.table.specs.Table.{slots, bodies, pad, encode, decode_slots, decode, slots_ok, all_zero, well_formed}
use Rattle.keyed.specs.Keyed.{ascends_from, ascends, holds, put, every}
use Rattle.rules.specs.Records.{is_in}
use Rattle.register.specs.Register.{register_words, records_of, register_of, listed, rises_from, rises, list_ok, record_ok, room_for, records_ok, register_ok}
use Rattle.register.specs.Calls.{file_effect}
use Rattle.types.specs.declared.Filed.{Filed}
use Rattle.types.specs.declared.Filed.TheVariants.{New}
use Rattle.types.specs.declared.Refusal.{Refusal}

abbrev empty : List ℕ
empty = replicate register_words 0

abbrev first : Effect (Result Filed Refusal)
first = file_effect empty 2 65010 (65001 ∷ 65002 ∷ [])

abbrev second : Effect (Result Filed Refusal)
second = file_effect first.words 0 65010 (65003 ∷ [])

-- Source 2 files 65010 to {65001, 65002}, then source 0 files 65010 to {65003}: neither rubs out the other.
pub whole_register :
    second
    ≡ record {
      answer = Ok New;
      words = (2 ∷ 3 ∷ 65010 ∷ 0 ∷ 0 ∷ 1 ∷ 65010 ∷ 2 ∷ 1 ∷ 2 ∷ 65003 ∷ 65001 ∷ 65002 ∷ []) ++ replicate (register_words - 13) 0;
    }
unfolding file_effect first_given slots bodies pad encode decode_slots decode slots_ok all_zero well_formed ascends_from ascends holds put every records_of register_of listed rises_from rises is_in list_ok record_ok room_for records_ok register_ok
whole_register = refl

-- ---- a customer in its own list

-- It is refused by 6 wherever it stands, and nothing changes.
pub own_first : file_effect empty 0 65010 (65010 ∷ 65020 ∷ []) ≡ effect (Err ProviderList) empty
unfolding file_effect first_given slots bodies decode_slots decode slots_ok all_zero well_formed ascends every records_of listed rises_from rises is_in list_ok room_for records_ok register_ok
own_first = refl

pub own_last : file_effect empty 0 65010 (65001 ∷ 65010 ∷ []) ≡ effect (Err ProviderList) empty
unfolding file_effect first_given slots bodies decode_slots decode slots_ok all_zero well_formed ascends every records_of listed rises_from rises is_in list_ok room_for records_ok register_ok
own_last = refl

-- Customer 0 is refused first, by 5.
pub own_zero : file_effect empty 0 0 (0 ∷ []) ≡ effect (Err CustomerZero) empty
unfolding file_effect first_given slots bodies decode_slots decode slots_ok all_zero well_formed ascends every records_of listed room_for records_ok register_ok
own_zero = refl

-- A register of two records with one provider each.
abbrev two : (first second first_provider second_provider : ℕ) → List ℕ
two a b x y = (2 ∷ 2 ∷ a ∷ 0 ∷ 0 ∷ 1 ∷ b ∷ 0 ∷ 1 ∷ 1 ∷ x ∷ y ∷ []) ++ replicate (register_words - 12) 0

-- Two customers may list each other, but not themselves.
pub each_other : register_ok (two 65001 65002 65002 65001) ≡ true
unfolding bodies decode_slots decode slots_ok all_zero well_formed ascends_from ascends every records_of listed rises_from rises is_in list_ok record_ok room_for records_ok register_ok
each_other = refl

pub first_itself : register_ok (two 65001 65002 65001 65003) ≡ false
unfolding bodies decode_slots decode slots_ok all_zero well_formed ascends_from ascends every records_of listed rises_from rises is_in list_ok record_ok room_for records_ok register_ok
first_itself = refl

pub second_itself : register_ok (two 65001 65002 65003 65002) ≡ false
unfolding bodies decode_slots decode slots_ok all_zero well_formed ascends_from ascends every records_of listed rises_from rises is_in list_ok record_ok room_for records_ok register_ok
second_itself = refl
