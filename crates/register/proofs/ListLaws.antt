-- The statements of the rule of a list (specs/Laws.antt). Assumes nothing.
use Prim.Native.Nat.{ℕ, suc, ◌≤◌, ◌<◌}
use mathlib.Core.Path.{◌≡◌, refl, sym, ◌∙◌, ap}
use mathlib.Core.Bool.{Bool, true, false, not, ◌&&◌}
use mathlib.Core.List.{List, [], ◌∷◌}
use mathlib.Core.Logic.{◌↔◌}
use native.Mathlib.Omega.{arith}
use borrow.Author.Tests.{le-leb, leb-true, leb-false}
use lib.Dec.{leb}
use lib.ListN.{length}
use Rattle.types.specs.declared.Refusal.TheVariants.{ProviderList}
use Rattle.types.specs.declared.Origin.{Origin}
use Rattle.types.specs.declared.Hop.TheVariants.{ProviderPlus}
use Rattle.types.proofs.Clashes.{clash}
use Rattle.keyed.specs.Keyed.{every}
use Rattle.keyed.proofs.Orders.{both_intro, both_left, both_right}
use Rattle.keyed.proofs.Finds.{every_at}
use Rattle.rules.specs.Records.{Record, is_in, united, attested, hop_of}
use Rattle.register.specs.Register.{most_providers, last_source, records_of, record_at, rises, list_ok, record_ok, room_for, records_ok, register_ok, position_of}
use Rattle.register.specs.Calls.{holds_record, put_record, record_for, file_effect}
use Rattle.register.specs.Helpers.{Passed}
use Rattle.register.specs.Laws.{Register, BadList, empty, long, falls, own, RecordRules, ListLaws}
use Rattle.providers.proofs.Members.{rises_at, falls_at, at_in, in_at}
use Rattle.register.proofs.Holding.{records-ok, has_room, each_ok, in-order}
use Rattle.register.proofs.Changes.{record_customer, record_source, record_list}
use Rattle.register.proofs.Filing.{file_list, file_full, file_done}
use Rattle.register.proofs.Uniting.{united_listed, hop_is}
use Rattle.std.specs.Prelude.{Err}

-- ---- a list that may not be filed

-- A reason for each test that fails.
to_bad : (customer : ℕ) (l : List ℕ) → list_ok customer l ≡ false → BadList customer l
unfolding list_ok
to_bad customer l e = some_number (leb 1 (length l)) refl e
  where
    held : (b : Bool) → is_in customer l ≡ b → not b ≡ false → BadList customer l
    held true q z = let s = in_at customer l q in own s.at s.within s.here
    held false q z = clash (cc)

    order : (b : Bool) → rises l ≡ b → (b && not (is_in customer l)) ≡ false → BadList customer l
    order true q z = held (is_in customer l) refl z
    order false q z = let f = falls_at l q in falls f.at f.within f.not_above

    few : (b : Bool) → leb (length l) most_providers ≡ b → (b && (rises l && not (is_in customer l))) ≡ false → BadList customer l
    few true q z = order (rises l) refl z
    few false q z = long (leb-false (length l) most_providers q)

    some_number : (b : Bool) → leb 1 (length l) ≡ b → (b && (leb (length l) most_providers && (rises l && not (is_in customer l)))) ≡ false → BadList customer l
    some_number true q z = few (leb (length l) most_providers) refl z
    some_number false q z = empty (omega (arith, leb-false 1 (length l) q))

-- A test that fails for each reason.
from_bad : (customer : ℕ) (l : List ℕ) → BadList customer l → list_ok customer l ≡ true → ⊥
unfolding list_ok
from_bad customer l b e = go b
  where
    rest : (leb (length l) most_providers && (rises l && not (is_in customer l))) ≡ true
    rest = both_right (leb 1 (length l)) _ e

    free : (rises l && not (is_in customer l)) ≡ true
    free = both_right (leb (length l) most_providers) _ rest

    go : BadList customer l → ⊥
    go (empty q) = let h : 1 ≤ length l = leb-true _ _ (both_left _ _ e) in omega arith
    go (long q) = let h : length l ≤ most_providers = leb-true _ _ (both_left _ _ rest) in omega arith
    go (falls i h q) = let r = rises_at l (both_left _ _ free) i (suc i) (omega arith) h in omega arith
    go (own i h q) = clash (cc (at_in customer l i h q, both_right (rises l) _ free))

-- ---- row 6

module _ (ws : List ℕ) (w : Register ws) (source customer : ℕ) (list : List ℕ) (known : source ≤ last_source) (some : 1 ≤ customer) where
  row_six : ((file_effect ws source customer list).answer ≡ Err ProviderList) ↔ BadList customer list
  row_six = (to (list_ok customer list) refl, λ b. from (list_ok customer list) refl b)
    where
      some_customer : customer ≡ 0 → ⊥
      some_customer e = omega arith

      refused : list_ok customer list ≡ false → (file_effect ws source customer list).answer ≡ Err ProviderList
      refused e = ap (λ s. s.answer) (sym (file_list ws source customer list (record { long = w.long; ok = w.ok; known = known }) some_customer e))

      passes : list_ok customer list ≡ true → Passed ws (position_of customer source (records_of ws)) source customer list
      passes e = record { long = w.long; ok = w.ok; known = known; some = some_customer; rising = e; here = refl }

      room : list_ok customer list ≡ true → (b : Bool) → room_for (put_record (record_for source customer list) (records_of ws)) ≡ b
          → (file_effect ws source customer list).answer ≡ Err ProviderList → ⊥
      room e false r h = let z = ap (λ s. s.answer) (file_full (passes e) r) in clash (cc)
      room e true r h = done (holds_record customer source (records_of ws)) refl
        where
          done : (b : Bool) → holds_record customer source (records_of ws) ≡ b → ⊥
          done true q = let z = ap (λ s. s.answer) (file_done (passes e) true q r) in clash (cc)
          done false q = let z = ap (λ s. s.answer) (file_done (passes e) false q r) in clash (cc)

      to : (b : Bool) → list_ok customer list ≡ b → (file_effect ws source customer list).answer ≡ Err ProviderList → BadList customer list
      to false e h = to_bad customer list e
      to true e h = absurd (room e (room_for (put_record (record_for source customer list) (records_of ws))) refl h)

      from : (b : Bool) → list_ok customer list ≡ b → BadList customer list → (file_effect ws source customer list).answer ≡ Err ProviderList
      from false e b = refused e
      from true e b = absurd (from_bad customer list b e)

-- ---- the word rules

-- What each entry passes, all pass.
at_every : (rs : List Record) → ((i : ℕ) → i < length rs → record_ok (record_at rs i) ≡ true) → every record_ok rs ≡ true
unfolding every
at_every [] f = refl
at_every (r ∷ rs) f = both_intro _ _ (f 0 (omega arith)) (at_every rs (λ i h. f (suc i) (omega arith)))

-- A list that has none of the reasons may be filed.
not_bad : (customer : ℕ) (l : List ℕ) → (BadList customer l → ⊥) → list_ok customer l ≡ true
not_bad customer l n = go (list_ok customer l) refl
  where
    go : (b : Bool) → list_ok customer l ≡ b → b ≡ true
    go true e = refl
    go false e = absurd (n (to_bad customer l e))

each_list : (rs : List Record) → (records_ok rs ≡ true) ↔ RecordRules rs
unfolding records_ok record_ok
each_list rs = (to, from)
  where
    to : records_ok rs ≡ true → RecordRules rs
    to e =
        let at = every_at record_ok rs _ (each_ok rs e) in
        record {
          room = has_room rs e;
          order = in-order rs e;
          customers = λ i h. record_customer (record_at rs i) (at i h);
          sources = λ i h. record_source (record_at rs i) (at i h);
          lists = λ i h b. from_bad (record_at rs i).customer (record_at rs i).providers b (record_list (record_at rs i) (at i h));
        }

    from : RecordRules rs → records_ok rs ≡ true
    from g =
        both_intro _ _ g.room
        (both_intro _ _
        (at_every rs
        (λ i h.
        both_intro _ _ (le-leb _ _ (g.customers i h))
        (both_intro _ _ (le-leb _ _ (g.sources i h)) (not_bad (record_at rs i).customer (record_at rs i).providers (g.lists i h)))))
        g.order)

-- ---- hops

no_self : (ws : List ℕ) → register_ok ws ≡ true → (o p : Origin) (s x : ℕ) → hop_of o (records_of ws) x x ≡ ProviderPlus p s → ⊥
no_self ws e o p s x h = go (is_in x (united (records_of ws) x)) refl
  where
    go : (b : Bool) → is_in x (united (records_of ws) x) ≡ b → ⊥
    go true q =
        let l = united_listed (records_of ws) x x q in
        let s = in_at x (record_at (records_of ws) l.at).providers l.inside in
        ((each_list (records_of ws)).0 (records-ok ws e)).lists l.at l.within (own s.at s.within (s.here ∙ sym l.owner))
    go false q = attests (attested (records_of ws) x) refl
      where
        attests : (a : Bool) → attested (records_of ws) x ≡ a → ⊥
        attests true q' = let z = hop_is x o (records_of ws) x in clash (cc)
        attests false q' = let z = hop_is x o (records_of ws) x in clash (cc)

pub list_laws : ListLaws
list_laws = record { row_six = row_six; each_list = each_list; no_self = no_self }
