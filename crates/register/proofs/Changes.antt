-- An accepted call leaves a well-formed register; and only its own records change. Assumes nothing.
use Prim.Native.Nat.{ℕ, ◌+◌, ◌≤◌}
use mathlib.Core.Path.{◌≡◌, refl, sym, ◌∙◌, ap}
use mathlib.Core.Bool.{Bool, true, false, cond}
use mathlib.Core.List.{List, [], ◌∷◌}
use native.Mathlib.Omega.{arith}
use borrow.Author.Tests.{le-leb, leb-true, ltb-false}
use lib.Dec.{leb, ltb, eqb}
use lib.ListN.{length}
use Rattle.keyed.specs.Keyed.{same_pair, before_pair, without}
use Rattle.keyed.proofs.Orders.{ordered_pairs, both_intro, both_left, both_right, same_flip, above_zero}
use Rattle.keyed.proofs.Puts.{ascends_put, ascends_without}
use Rattle.keyed.proofs.Finds.{every_put, every_without, find_put, find_without, same_finds, count_without}
use Rattle.rules.specs.Records.{Record}
use Rattle.register.specs.Register.{most_records, most_listed, last_source, key_of, listed, list_ok, record_ok, room_for, records_ok}
use Rattle.register.specs.Calls.{put_record, erase_record, clear_records, count_records, of_source}
use Rattle.register.specs.Calls.{find_record}
use Rattle.register.proofs.Holding.{room_records, room_lists, has_room, each_ok, in-order}
use Rattle.std.specs.Prelude.{None, Some}

-- A record whose parts passed rows 4, 5 and 6.
pub record-ok : (r : Record) → ltb last_source r.source ≡ false → eqb r.customer 0 ≡ false → list_ok r.customer r.providers ≡ true → record_ok r ≡ true
unfolding record_ok
record-ok r s c l = both_intro _ _ (above_zero r.customer c) (both_intro _ _ (le-leb r.source last_source (ltb-false _ _ s)) l)

-- And back: the rules of a record, one by one.
module _ (r : Record) (e : record_ok r ≡ true) where
  pub record_customer : 1 ≤ r.customer
  unfolding record_ok
  record_customer = leb-true _ _ (both_left _ _ e)

  pub record_source : r.source ≤ last_source
  unfolding record_ok
  record_source = leb-true _ _ (both_left _ _ (both_right (leb 1 r.customer) _ e))

  pub record_list : list_ok r.customer r.providers ≡ true
  unfolding record_ok
  record_list = both_right (leb r.source last_source) _ (both_right (leb 1 r.customer) _ e)

-- Fewer records, with fewer numbers, still fit.
pub room_fewer : (rs ss : List Record) → length ss ≤ length rs → listed ss ≤ listed rs → room_for rs ≡ true → room_for ss ≡ true
unfolding room_for
room_fewer rs ss h h' e =
    let a : length rs ≤ most_records = room_records rs e in
    let b : listed rs ≤ most_listed = room_lists rs e in
    both_intro _ _ (le-leb (length ss) most_records (omega arith)) (le-leb (listed ss) most_listed (omega arith))

listed_without : (test : ℕ × ℕ → Bool) (rs : List Record) → listed (without key_of same_pair before_pair test rs) ≤ listed rs
unfolding listed without
listed_without test [] = omega arith
listed_without test (r ∷ rs) = go (test (key_of r)) (listed_without test rs)
  where
    go : (b : Bool) → listed (without key_of same_pair before_pair test rs) ≤ listed rs
        → listed (cond b (without key_of same_pair before_pair test rs) (r ∷ without key_of same_pair before_pair test rs)) ≤ length r.providers + listed rs
    go true h = omega arith
    go false h = omega arith

module _ (rs : List Record) (e : records_ok rs ≡ true) where
  -- Filing.
  pub put_ok : (r : Record) → record_ok r ≡ true → room_for (put_record r rs) ≡ true → records_ok (put_record r rs) ≡ true
  unfolding records_ok
  put_ok r ok room =
      both_intro _ _ room
      (both_intro _ _ (every_put key_of same_pair before_pair record_ok r rs ok (each_ok rs e))
      (ascends_put key_of same_pair before_pair ordered_pairs r rs (in-order rs e)))

  -- Withdrawing and clearing.
  pub without_ok : (test : ℕ × ℕ → Bool) → records_ok (without key_of same_pair before_pair test rs) ≡ true
  unfolding records_ok
  without_ok test =
      both_intro _ _
      (room_fewer rs (without key_of same_pair before_pair test rs) (omega (arith, count_without key_of same_pair before_pair test rs)) (listed_without test rs) (has_room rs e))
      (both_intro _ _ (every_without key_of same_pair before_pair record_ok test rs (each_ok rs e))
      (ascends_without key_of same_pair before_pair ordered_pairs test rs (in-order rs e)))

-- ---- what is found after a call

-- A filing changes the list of its own pair and of no other.
pub filed_finds : (k : ℕ × ℕ) (r : Record) (rs : List Record) → find_record k (put_record r rs) ≡ cond (same_pair k (key_of r)) (Some r) (find_record k rs)
filed_finds k r rs = find_put key_of same_pair before_pair ordered_pairs k r rs

-- A withdrawal takes out its own pair's list and no other.
pub withdrawn_finds : (k : ℕ × ℕ) (customer source : ℕ) (rs : List Record)
    → find_record k (erase_record customer source rs) ≡ cond (same_pair (customer, source) k) None (find_record k rs)
withdrawn_finds k customer source rs = find_without key_of same_pair before_pair ordered_pairs k (same_pair (customer, source)) rs

-- A clearing takes out its own source's lists and no other.
pub cleared_finds : (k : ℕ × ℕ) (source : ℕ) (rs : List Record) → find_record k (clear_records source rs) ≡ cond (eqb k.1 source) None (find_record k rs)
cleared_finds k source rs = find_without key_of same_pair before_pair ordered_pairs k (of_source source) rs

-- A clearing's count is the number of that source's records before it.
pub cleared_count : (source : ℕ) (rs : List Record) → length (clear_records source rs) + count_records source rs ≡ length rs
cleared_count source rs = count_without key_of same_pair before_pair (of_source source) rs

-- Room that is given up is used again: a record that is withdrawn and filed once more is where it was.
pub refiled : (r : Record) (rs : List Record) → records_ok rs ≡ true → find_record (key_of r) rs ≡ Some r
    → put_record r (erase_record r.customer r.source rs) ≡ rs
refiled r rs e f =
    same_finds key_of same_pair before_pair ordered_pairs _ rs
    (ascends_put key_of same_pair before_pair ordered_pairs r _ (ascends_without key_of same_pair before_pair ordered_pairs (same_pair (key_of r)) rs (in-order rs e)))
    (in-order rs e) finds
  where
    finds : (k : ℕ × ℕ) → find_record k (put_record r (erase_record r.customer r.source rs)) ≡ find_record k rs
    finds k =
        filed_finds k r _ ∙ ap (cond (same_pair k (key_of r)) (Some r)) (withdrawn_finds k r.customer r.source rs)
        ∙ go (same_pair k (key_of r)) refl
      where
        go : (b : Bool) → same_pair k (key_of r) ≡ b → cond b (Some r) (cond (same_pair (key_of r) k) None (find_record k rs)) ≡ find_record k rs
        go true q = sym f ∙ ap (λ j. find_record j rs) (sym (ordered_pairs.same_is k (key_of r) q))
        go false q = rw (same_flip same_pair before_pair ordered_pairs (key_of r) k, q)
