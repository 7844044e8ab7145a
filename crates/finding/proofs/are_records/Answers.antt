-- `finding::are_records` meets its contract. Assumes nothing.
use mathlib.Core.Path.{sym, ◌∙◌, ap}
use native.Mathlib.Omega.{arith}
use lib.Dec.{eqb}
use lib.ListN.{length-take, length-drop}
use Rattle.providers.proofs.Descending.{no_fall, one_fall}
use Rattle.finding.proofs.Checking.{checks, lists_few, all_checked, list_inside, no_record, no_order, no_own, checks_first, checks_next}
use Rattle.finding.proofs.are_records.Goals as goal
use Rattle.finding.proofs.are_records.Goals.{then-bodies-from+then-reg-from, else-bodies-from}
use Rattle.finding.proofs.are_records.Goals.{else-bodies-from-via-then-bodies-from+else-reg-from, else-bodies-from-via-else-bodies-from}

pub loop-i-init : goal.loop-i-init
loop-i-init c = checks c.requires.0 c.word-n.ensures.0

pub returns-then-customer-source : goal.returns-then-customer-source
returns-then-customer-source c =
    no_record c.loop-i.invariant c.loop-i-test.true c.word-count.ensures.0 c.if-customer-source.true

pub returns-then-not-is_before : goal.returns-then-not-is_before
returns-then-not-is_before c =
    no_order c.loop-i.invariant c.loop-i-test.true c.word-count.ensures.0 c.if-customer-source.false
    (sym c.is_before.ensures ∙ c.if-not-is_before.true)

pub holds_at-requires : goal.holds_at-requires
holds_at-requires c = list_inside c.loop-i.invariant c.loop-i-test.true c.word-count.ensures.0

pub returns-then-holds_at : goal.returns-then-holds_at
returns-then-holds_at c =
    no_own c.loop-i.invariant c.loop-i-test.true c.word-count.ensures.0 c.if-customer-source.false
    (sym c.is_before.ensures ∙ c.if-not-is_before.false) c.holds_at.ensures c.if-holds_at.true

pub loop-i-preserved : goal.loop-i-preserved
loop-i-preserved c =
    let g = c.loop-i.invariant in
    let h = c.loop-i-test.true in
    let e = c.word-count.ensures.0 in
    let k = c.if-customer-source.false in
    let q = sym c.is_before.ensures ∙ c.if-not-is_before.false in
    let f = c.holds_at.ensures in
    let o = c.if-holds_at.false in
    elim c.if-bodies-from.branch [
      | then-bodies-from+then-reg-from w ↦ checks_next g h e k q f o w.if-bodies-from.true (omega (arith, w.between-is, one_fall w.if-reg-from.true))
      | else-bodies-from w ↦
          elim w.else-bodies-from.branch [
            | else-bodies-from-via-then-bodies-from+else-reg-from v ↦
                checks_next g h e k q f o v.if-bodies-from.true (omega (arith, w.between-is, no_fall v.if-reg-from.false))
            | else-bodies-from-via-else-bodies-from v ↦ checks_first g h e k q f o v.if-bodies-from.false w.between-is
          ]
    ]

pub descents-requires : goal.descents-requires
descents-requires c = simp (length-take, length-drop) (omega (arith, lists_few c.loop-i.invariant))

pub returns : goal.returns
returns c =
    ap (λ d. eqb d c.loop-i.between) c.descents.ensures.0 ∙ all_checked c.loop-i.invariant c.loop-i-test.false
