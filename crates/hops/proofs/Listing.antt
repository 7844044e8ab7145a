-- The part of a register's words that is the list of a source for a customer. Assumes nothing.
use Prim.Native.Nat.{ℕ, ◌+◌, ◌-◌, ◌≤◌, ◌<◌}
use mathlib.Core.Path.{◌≡◌, refl, sym, ◌∙◌}
use mathlib.Core.Bool.{Bool, true, false}
use mathlib.Core.List.{List}
use native.Mathlib.Omega.{arith}
use lib.ListN.{length}
use Rattle.rules.specs.Records.{list_of}
use Rattle.register.specs.Register.{records_of, record_at, position_of, register_ok}
use Rattle.register.specs.Calls.{holds_record}
use Rattle.register.proofs.Entries.{list_is, list_within}
use Rattle.register.proofs.Holding.{sound, ordered}
use Rattle.hops.specs.Spans.{span, start_of, span_of}
use Rattle.hops.specs.Laws.{part_of}
use Rattle.hops.proofs.Sources.{list_none, list_here}

module _ (ws : List ℕ) (e : register_ok ws ≡ true) (s c : ℕ) where
  -- Without a record there is no part.
  pub no_span : holds_record c s (records_of ws) ≡ false → span 0 0 ≡ span_of (records_of ws) s c
  unfolding span_of
  no_span h = rw h

  module _ (h : holds_record c s (records_of ws) ≡ true) where
    -- The pair's record, and that its list is the source's.
    here : (position_of c s (records_of ws) < length (records_of ws)) × (list_of (records_of ws) s c ≡ (record_at (records_of ws) (position_of c s (records_of ws))).providers)
    here = list_here (records_of ws) c s (ordered ws e) h

    module _ {position : ℕ} (p : position ≡ position_of c s (records_of ws)) where
      -- It is one of the records.
      pub pair_within : position < length (records_of ws)
      pair_within = rw p here.0

      -- The part, by where its list begins and how long it is.
      pub span_read : {from n : ℕ} → from ≡ start_of (records_of ws) position → n ≡ length (record_at (records_of ws) position).providers
          → span from (from + n) ≡ span_of (records_of ws) s c
      unfolding span_of
      span_read ef en = rw (h, ef, en, p)

  -- It lies within the words,
  pub span_within : ((span_of (records_of ws) s c).from ≤ (span_of (records_of ws) s c).to) × ((span_of (records_of ws) s c).to ≤ length ws)
  unfolding span_of
  span_within = go (holds_record c s (records_of ws)) refl
    where
      go : (b : Bool) → holds_record c s (records_of ws) ≡ b → ((span_of (records_of ws) s c).from ≤ (span_of (records_of ws) s c).to) × ((span_of (records_of ws) s c).to ≤ length ws)
      go true h = rw h (omega arith, list_within ws (sound ws e) (position_of c s (records_of ws)) (here h).0)
      go false h = rw h (omega arith, omega arith)

  -- and is the list.
  pub span_is : part_of (span_of (records_of ws) s c).from (span_of (records_of ws) s c).to ws ≡ list_of (records_of ws) s c
  unfolding span_of
  span_is = go (holds_record c s (records_of ws)) refl
    where
      go : (b : Bool) → holds_record c s (records_of ws) ≡ b → part_of (span_of (records_of ws) s c).from (span_of (records_of ws) s c).to ws ≡ list_of (records_of ws) s c
      go true h =
          let i = position_of c s (records_of ws) in
          let z : start_of (records_of ws) i + length (record_at (records_of ws) i).providers - start_of (records_of ws) i ≡ length (record_at (records_of ws) i).providers = omega arith in
          rw (h, z) (list_is ws (sound ws e) i (here h).0 ∙ sym (here h).1)
      go false h = rw h (sym (list_none (records_of ws) c s h))
