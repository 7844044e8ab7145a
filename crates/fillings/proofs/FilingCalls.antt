-- Which filings leave Valid or Invalid of every route. Assumes nothing.
use Prim.Native.Nat.{ℕ}
use mathlib.Core.Path.{◌≡◌, refl, sym, ap, ◌∙◌, subst}
use mathlib.Core.Bool.{true, false, cond}
use mathlib.Core.List.{List}
use lib.ListN.{length}
use Rattle.types.specs.declared.Origin.{Origin}
use Rattle.types.specs.declared.Origin.TheVariants.{Public, Overrides}
use Rattle.types.specs.declared.Refusal.{Refusal}
use Rattle.types.specs.Rows.{first_given}
use Rattle.rules.specs.Records.{Record, attested, united, list_of, counting, hop_over}
use Rattle.register.specs.Register.{register_words, records_of, register_ok}
use Rattle.register.specs.Calls.{record_for, put_record, file_rows, file_effect}
use Rattle.register.specs.Laws.{Register}
use Rattle.register.proofs.Laws.{file_records, register_laws}
use Rattle.registers.specs.Registers.{Registers, chosen, hop_in, BothFormed}
use Rattle.registers.proofs.Choosing.{chosen_long, chosen_ok}
use Rattle.history.specs.Calls.{rewritten}
use Rattle.history.proofs.Origins.{both_formed}
use Rattle.fillings.specs.Fillings.{Outcome, valid, invalid, Stays}
use Rattle.fillings.specs.Calls.{Lasts, Unattested, AllIn, LastLaws, FilingLaws}
use Rattle.fillings.proofs.Filings.{valid_by_lists, invalid_by_lists, records_in, hop_after, all_listed, longer_list, shorter_list, none_new, new_record}
use Rattle.fillings.proofs.Calls.{lasts}
use Rattle.std.specs.Prelude.{None, Option, Some}

-- Well-formed registers stay so with other well-formed words in one of them.
pub rewritten_formed : (reg : Registers) → BothFormed reg → (o : Origin) (ws : List ℕ) → Register ws → BothFormed (rewritten o reg ws)
rewritten_formed reg w o ws is = both_formed (rewritten o reg ws) (long o) (ok o)
  where
    long : (o p : Origin) → length (chosen p (rewritten o reg ws)) ≡ register_words
    long Public Public = is.long
    long Public Overrides = chosen_long reg w.long Overrides
    long Overrides Public = chosen_long reg w.long Public
    long Overrides Overrides = is.long

    ok : (o p : Origin) → register_ok (chosen p (rewritten o reg ws)) ≡ true
    ok Public Public = is.ok
    ok Public Overrides = chosen_ok reg w.ok Overrides
    ok Overrides Public = chosen_ok reg w.ok Public
    ok Overrides Overrides = is.ok

module _ (reg : Registers) (o : Origin) (source customer : ℕ) (list : List ℕ) where
  abbrev words : List ℕ
  words = (file_effect (chosen o reg) source customer list).words

  abbrev after : Registers
  after = rewritten o reg words

  abbrev public : List Record
  public = records_of reg.public

  abbrev overrides : List Record
  overrides = records_of reg.overrides

  -- A filing leaves well-formed registers well formed.
  pub formed : BothFormed reg → BothFormed after
  formed w =
      rewritten_formed reg w o words
      (register_laws.file_formed (chosen o reg) (record { long = chosen_long reg w.long o; ok = chosen_ok reg w.ok o }) source customer list)

  -- A refused one leaves them as they are, and one that is done puts its record in.
  left : (r : Refusal) → first_given (file_rows (chosen o reg) source customer list) ≡ Some r → words ≡ chosen o reg
  unfolding file_effect
  left r e = rw (words, e)

  same : (o : Origin) → rewritten o reg (chosen o reg) ≡ reg
  same Public = refl
  same Overrides = refl

  pub put_in : (o : Origin) (ws : List ℕ) → records_of ws ≡ put_record (record_for source customer list) (records_of (chosen o reg))
      → hop_in (rewritten o reg ws) ≡ hop_after (record_for source customer list) public overrides o
  put_in Public ws e = ap (λ rs. hop_over rs overrides) e
  put_in Overrides ws e = ap (λ rs. hop_over public rs) e

  -- So what stays over the records stays over the registers.
  filing_lasts : (p : Outcome) → Stays p (hop_in reg) (hop_after (record_for source customer list) public overrides o) → Lasts p reg after
  filing_lasts p stays = lasts p reg after formed (go (first_given (file_rows (chosen o reg) source customer list)) refl)
    where
      go : (f : Option Refusal) → first_given (file_rows (chosen o reg) source customer list) ≡ f → Stays p (hop_in reg) (hop_in after)
      go (Some r) e = subst (λ g. Stays p (hop_in reg) (hop_in g)) (sym (ap (rewritten o reg) (left r e) ∙ same o)) (λ path m role h. h)
      go None e = subst (Stays p (hop_in reg)) (sym (put_in o words (file_records (chosen o reg) source customer list e))) stays

  -- The records of the register that is filed into.
  in_register : (P : List Record → Type 0) (o : Origin) → P (records_of (chosen o reg)) → P (records_in (record_for source customer list) public overrides o)
  in_register P Public h = h
  in_register P Overrides h = h

  longer_lasts : attested (records_of (chosen o reg)) customer ≡ true → AllIn (list_of (records_of (chosen o reg)) source customer) list → Lasts valid reg after
  longer_lasts a h =
      filing_lasts valid
      (longer_list (record_for source customer list) public overrides o (in_register (λ rs. attested rs customer ≡ true) o a)
      (in_register (λ rs. AllIn (list_of rs source customer) list) o h))

  shorter_lasts : AllIn list (united (records_of (chosen o reg)) customer) → Lasts invalid reg after
  shorter_lasts h =
      filing_lasts invalid (shorter_list (record_for source customer list) public overrides o (in_register (λ rs. AllIn list (united rs customer)) o h))

  new_lasts : Unattested reg customer → Lasts valid reg after × Lasts invalid reg after
  new_lasts u =
      let None : attested (counting public overrides customer) customer ≡ false
      = ap (λ b. attested (cond b overrides public) customer) u.in_overrides ∙ u.in_public in
      let both = new_record (record_for source customer list) public overrides o None in
      (filing_lasts valid both.0, filing_lasts invalid both.1)

pub last_laws : LastLaws
last_laws =
    record {
      valid_lasts = λ reg reg' w h.
          lasts valid reg reg' (λ v. w)
          (valid_by_lists (records_of reg.public) (records_of reg.overrides) (records_of reg'.public) (records_of reg'.overrides) h);
      invalid_lasts = λ reg reg' w h.
          lasts invalid reg reg' (λ v. w)
          (invalid_by_lists (records_of reg.public) (records_of reg.overrides) (records_of reg'.public) (records_of reg'.overrides) h);
    }

pub filing_laws : FilingLaws
filing_laws =
    record {
      new_record = λ t. new_lasts t.registers;
      longer_list = λ t. longer_lasts t.registers;
      all_listed = λ t o source customer list h.
          filing_lasts t.registers o source customer list valid (all_listed (record_for source customer list) _ _ o h);
      shorter_list = λ t. shorter_lasts t.registers;
      none_new = λ t o source customer list h.
          filing_lasts t.registers o source customer list invalid (none_new (record_for source customer list) _ _ o h);
    }
