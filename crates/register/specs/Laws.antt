-- What the documents say of the register, as statements. proofs/Laws.antt has their proof.
use Rattle.std.specs.Prelude.{ℕ, suc, ◌+◌, ◌/◌, ◌≤◌, ◌<◌, ◌≡◌, true, cond, List, ◌↔◌, eqb, ltb, length, get_or, Err, None, Ok, Some}
use Rattle.types.specs.declared.Refusal.TheVariants.{ProviderList}
use Rattle.types.specs.Rows.{first_given, effect}
use Rattle.types.specs.declared.Origin.{Origin}
use Rattle.types.specs.declared.Hop.TheVariants.{ProviderPlus}
use Rattle.keyed.specs.Keyed.{same_pair, before_pair, ascends}
use Rattle.halves.specs.declared.Range.{Range}
use Rattle.halves.specs.Halves.{Begins, size, middle, In, stepped}
use Rattle.rules.specs.Records.{Record, is_in, united, hop_of}
use Rattle.register.specs.Register.{register_words, most_providers, last_source, records_of, key_of, record_at, position_of, room_for, records_ok, register_ok}
use Rattle.register.specs.Calls.{find_record, count_records, record_for, file_rows, withdraw_rows, clear_rows, file_effect, withdraw_effect, clear_effect}
use Rattle.types.specs.declared.Filed.TheVariants.{New}

-- A register of the right length that keeps the word rules (rows 1 and 2).
pub record Register (ws : List ℕ) : Type 0 where
  pub long : length ws ≡ register_words
  pub ok : register_ok ws ≡ true

-- A record of customer x, whose list holds y.
pub record Lists (rs : List Record) (x y : ℕ) : Type 0 where
  pub at : ℕ
  pub within : at < length rs
  pub owner : (record_at rs at).customer ≡ x
  pub inside : is_in y (record_at rs at).providers ≡ true

pub record RegisterLaws : Type 0 where
  -- y is in the united list of x exactly when some record of x lists it.
  pub listed_united : (rs : List Record) (x y : ℕ) → Lists rs x y → is_in y (united rs x) ≡ true
  pub united_listed : (rs : List Record) (x y : ℕ) → is_in y (united rs x) ≡ true → Lists rs x y
  -- A well-formed register stays well formed, whatever the arguments are.
  pub file_formed : (ws : List ℕ) → Register ws → (source customer : ℕ) (list : List ℕ) → Register (file_effect ws source customer list).words
  pub withdraw_formed : (ws : List ℕ) → Register ws → (source customer : ℕ) → Register (withdraw_effect ws source customer).words
  pub clear_formed : (ws : List ℕ) → Register ws → (source : ℕ) → Register (clear_effect ws source).words
  -- A filing that no row refuses changes the list of its own pair and of no other.
  pub filed : (ws : List ℕ) (source customer : ℕ) (list : List ℕ) → first_given (file_rows ws source customer list) ≡ None → (k : ℕ × ℕ)
      → find_record k (records_of (file_effect ws source customer list).words)
      ≡ cond (same_pair k (customer, source)) (Some (record_for source customer list)) (find_record k (records_of ws))
  -- A withdrawal takes out the list of its own pair and no other.
  pub withdrawn : (ws : List ℕ) (source customer : ℕ) → first_given (withdraw_rows ws source customer) ≡ None → (k : ℕ × ℕ)
      → find_record k (records_of (withdraw_effect ws source customer).words) ≡ cond (same_pair (customer, source) k) None (find_record k (records_of ws))
  -- A clearing takes out the lists of its own source and no other.
  pub cleared : (ws : List ℕ) (source : ℕ) → first_given (clear_rows ws source) ≡ None → (k : ℕ × ℕ)
      → find_record k (records_of (clear_effect ws source).words) ≡ cond (eqb k.1 source) None (find_record k (records_of ws))
  -- A clearing answers the number of that source's records before it, and so many fewer are left.
  pub cleared_count : (ws : List ℕ) (source : ℕ) → first_given (clear_rows ws source) ≡ None
      → ((clear_effect ws source).answer ≡ Ok (count_records source (records_of ws)))
      × (length (records_of (clear_effect ws source).words) + count_records source (records_of ws) ≡ length (records_of ws))
  -- Room that is given up is used again: a record that is withdrawn is accepted once more, as new, and every word is as it was.
  pub refiled : (ws : List ℕ) (r : Record) → Register ws → find_record (key_of r) (records_of ws) ≡ Some r
      → file_effect (withdraw_effect ws r.source r.customer).words r.source r.customer r.providers ≡ effect (Ok New) ws

-- ---- look-up ("P3")

pub record FindLaws : Type 0 where
  -- The position that is looked up is where the records of a customer from a source on begin, or would.
  pub record_begins : (ws : List ℕ) → register_ok ws ≡ true → (customer source : ℕ)
      → Begins (λ i. before_pair (key_of (record_at (records_of ws) i)) (customer, source)) (length (records_of ws)) (position_of customer source (records_of ws))
  -- From source 0 on these are all of the customer's, behind those of all lower customers and before those of all higher ones.
  pub customer_begins : (ws : List ℕ) → register_ok ws ≡ true → (customer : ℕ)
      → Begins (λ i. ltb (record_at (records_of ws) i).customer customer) (length (records_of ws)) (position_of customer 0 (records_of ws))
  -- A step that looks at the record in the middle of a range leaves at most half of it, rounded down, with that position still in it or at
  -- its end.
  pub step_keeps : (ws : List ℕ) → register_ok ws ≡ true → (customer source : ℕ) (r : Range) → r.low < r.high → r.high ≤ length (records_of ws)
      → In r (position_of customer source (records_of ws))
      → let left = stepped r (before_pair (key_of (record_at (records_of ws) (middle r))) (customer, source)) in
      (size left ≤ size r / 2) × In left (position_of customer source (records_of ws))

-- ---- the rule of a list, by its numbers

-- Why a list may not be filed for a customer: it has no number, or too many, or one that is not above the one before it, or the customer.
pub data BadList (customer : ℕ) (l : List ℕ) : Type 0 where
  empty : length l ≡ 0 → BadList customer l
  long : most_providers < length l → BadList customer l
  falls : (i : ℕ) → suc i < length l → get_or l (suc i) 0 ≤ get_or l i 0 → BadList customer l
  own : (i : ℕ) → i < length l → get_or l i 0 ≡ customer → BadList customer l

-- The rules of records: each list is held to the customer of its own record, and to no other.
pub record RecordRules (rs : List Record) : Type 0 where
  pub room : room_for rs ≡ true
  pub order : ascends key_of same_pair before_pair rs ≡ true
  pub customers : (i : ℕ) → i < length rs → 1 ≤ (record_at rs i).customer
  pub sources : (i : ℕ) → i < length rs → (record_at rs i).source ≤ last_source
  pub lists : (i : ℕ) → i < length rs → BadList (record_at rs i).customer (record_at rs i).providers → ⊥

pub record ListLaws : Type 0 where
  -- A filing that rows 1, 2, 4 and 5 pass is refused by 6 exactly for these reasons, whatever the register holds.
  pub row_six : (ws : List ℕ) → Register ws → (source customer : ℕ) (list : List ℕ) → source ≤ last_source → 1 ≤ customer
      → ((file_effect ws source customer list).answer ≡ Err ProviderList) ↔ BadList customer list
  -- The word rules say the same of each record's list.
  pub each_list : (rs : List Record) → (records_ok rs ≡ true) ↔ RecordRules rs
  -- No well-formed register says Provider+ of a number and itself.
  pub no_self : (ws : List ℕ) → register_ok ws ≡ true → (o p : Origin) (s x : ℕ) → hop_of o (records_of ws) x x ≡ ProviderPlus p s → ⊥
