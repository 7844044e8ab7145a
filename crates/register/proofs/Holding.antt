-- What a well-formed register shows. Assumes nothing.
use Prim.Native.Nat.{ℕ, ◌≤◌}
use mathlib.Core.Path.{◌≡◌}
use mathlib.Core.Bool.{true}
use mathlib.Core.List.{List, map}
use lib.Dec.{leb}
use borrow.Author.Tests.{leb-true}
use lib.ListN.{length}
use Rattle.table.specs.Table.{Sound, well_formed}
use Rattle.table.proofs.Exact.{passes_sound, encode_passes}
use Rattle.keyed.specs.Keyed.{same_pair, before_pair, ascends, every}
use Rattle.keyed.proofs.Orders.{both_left, both_right, both_intro}
use Rattle.rules.specs.Records.{Record}
use Rattle.register.specs.Register.{record_head, record_tail, register_words, most_records, most_listed, records_of, register_of, entry_of, key_of, listed, record_ok, room_for, records_ok, register_ok}
use Rattle.register.proofs.Entries.{entries_wide, records_fit, records_of_words}

module _ (rs : List Record) where
  pub room_records : room_for rs ≡ true → length rs ≤ most_records
  unfolding room_for
  room_records e = leb-true _ _ (both_left _ _ e)

  pub room_lists : room_for rs ≡ true → listed rs ≤ most_listed
  unfolding room_for
  room_lists e = leb-true _ _ (both_right (leb (length rs) most_records) _ e)

  module _ (e : records_ok rs ≡ true) where
    pub has_room : room_for rs ≡ true
    unfolding records_ok
    has_room = both_left _ _ e

    pub each_ok : every record_ok rs ≡ true
    unfolding records_ok
    each_ok = both_left _ _ (both_right (room_for rs) _ e)

    pub in-order : ascends key_of same_pair before_pair rs ≡ true
    unfolding records_ok
    in-order = both_right (every record_ok rs) _ (both_right (room_for rs) _ e)

-- Records that keep the rules are written as a well-formed register.
pub words_ok : (rs : List Record) → records_ok rs ≡ true → register_ok (register_of rs) ≡ true
unfolding register_ok register_of
words_ok rs e =
    both_intro (well_formed record_head record_tail (register_of rs)) _ formed (rw (records_of_words rs (room_records rs room) (room_lists rs room)) e)
  where
    room : room_for rs ≡ true
    room = has_room rs e

    formed : well_formed record_head record_tail (register_of rs) ≡ true
    formed = encode_passes record_head record_tail register_words (map entry_of rs) (entries_wide rs) (records_fit rs (room_records rs room) (room_lists rs room))

module _ (ws : List ℕ) (e : register_ok ws ≡ true) where
  pub sound : Sound record_head record_tail ws
  unfolding register_ok
  sound = passes_sound record_head record_tail ws (both_left _ _ e)

  pub records-ok : records_ok (records_of ws) ≡ true
  unfolding register_ok
  records-ok = both_right (well_formed record_head record_tail ws) _ e

  pub ordered : ascends key_of same_pair before_pair (records_of ws) ≡ true
  ordered = in-order (records_of ws) records-ok
