-- What an accepted call makes of the records, in the table's terms: an insertion, a replacement, a removal at a position. Assumes nothing.
use Prim.Native.Nat.{ℕ, suc, ◌+◌, ◌<◌}
use mathlib.Core.Path.{◌≡◌, sym, ◌∙◌, ap}
use mathlib.Core.Bool.{true, false}
use mathlib.Core.List.{List, [], ◌∷◌, ◌++◌, map}
use native.Mathlib.Omega.{arith}
use lib.ListN.{length, take, drop}
use lib.Seq.{split_at}
use Rattle.table.specs.Table.{insert_at, remove_at}
use Rattle.table.proofs.Typed
use Rattle.keyed.specs.Keyed.{same_pair, before_pair, ascends}
use Rattle.keyed.proofs.Orders.{ordered_pairs}
use Rattle.keyed.proofs.Ranks.{holds_at}
use Rattle.keyed.proofs.Puts.{put_new, put_over, erase_at}
use Rattle.rules.specs.Records.{Record}
use Rattle.register.specs.Register.{entry_of, record_at, key_of, listed, position_of}
use Rattle.register.specs.Calls.{holds_record, put_record, erase_record}
use Rattle.register.proofs.Entries.{bodies_listed}

-- The numbers in two rows of lists.
pub listed_append : (rs ss : List Record) → listed (rs ++ ss) ≡ listed rs + listed ss
unfolding listed
listed_append [] ss = omega arith
listed_append (r ∷ rs) ss = omega (arith, listed_append rs ss)

-- Records before a position, one record, and records from a position on: as entries.
pub inserted_entries : (i : ℕ) (r : Record) (rs : List Record) → insert_at i (entry_of r) (map entry_of rs) ≡ map entry_of (take i rs ++ (r ∷ drop i rs))
inserted_entries = Typed.inserted_entries entry_of

-- Records before a position, and records behind it: as entries.
pub removed_entries : (i : ℕ) (rs : List Record) → remove_at i (map entry_of rs) ≡ map entry_of (take i rs ++ drop (suc i) rs)
removed_entries = Typed.removed_entries entry_of

-- The numbers in all lists are those before a position, at it and behind it.
pub listed_at : (i : ℕ) (rs : List Record) → i < length rs
    → listed rs ≡ listed (take i rs) + (length (record_at rs i).providers + listed (drop (suc i) rs))
unfolding listed
listed_at i rs h = ap listed (split_at rs i (record { customer = 0; source = 0; providers = [] }) h) ∙ listed_append (take i rs) (record_at rs i ∷ drop (suc i) rs)

module _ (r : Record) (rs : List Record) where
  module _ (free : holds_record r.customer r.source rs ≡ false) where
    pub put_at : put_record r rs ≡ take (position_of r.customer r.source rs) rs ++ (r ∷ drop (position_of r.customer r.source rs) rs)
    unfolding position_of
    put_at = put_new key_of same_pair before_pair ordered_pairs r rs free

    pub listed_new : listed (put_record r rs) ≡ listed rs + length r.providers
    listed_new =
        let e = ap (Typed.bodied entry_of) put_at ∙ Typed.bodied_inserted entry_of (position_of r.customer r.source rs) r rs in
        sym (bodies_listed (put_record r rs)) ∙ e ∙ ap (λ n. n + length r.providers) (bodies_listed rs)

  module _ (asc : ascends key_of same_pair before_pair rs ≡ true) (taken : holds_record r.customer r.source rs ≡ true) where
    pub put_in_position : put_record r rs ≡ take (position_of r.customer r.source rs) rs ++ (r ∷ drop (suc (position_of r.customer r.source rs)) rs)
    unfolding position_of
    put_in_position = put_over key_of same_pair before_pair ordered_pairs r rs asc taken

    pub position_within : position_of r.customer r.source rs < length rs
    unfolding position_of
    position_within = (holds_at key_of same_pair before_pair ordered_pairs (key_of r) rs (record { customer = 0; source = 0; providers = [] }) asc taken).0

    pub listed_over : listed (put_record r rs) + length (record_at rs (position_of r.customer r.source rs)).providers ≡ listed rs + length r.providers
    unfolding listed
    listed_over =
        let p = position_of r.customer r.source rs in
        let e : listed (put_record r rs) ≡ listed (take p rs) + (length r.providers + listed (drop (suc p) rs)) =
        ap listed put_in_position ∙ listed_append (take p rs) (r ∷ drop (suc p) rs) in
        omega (arith, e, listed_at p rs position_within)

module _ (customer source : ℕ) (rs : List Record) (asc : ascends key_of same_pair before_pair rs ≡ true) (taken : holds_record customer source rs ≡ true) where
  pub erase_position : erase_record customer source rs ≡ take (position_of customer source rs) rs ++ drop (suc (position_of customer source rs)) rs
  unfolding position_of
  erase_position = erase_at key_of same_pair before_pair ordered_pairs (customer, source) rs asc taken
