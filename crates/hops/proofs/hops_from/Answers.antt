-- `hops_from` meets its contract.
use Rattle.std.proofs.Common.{◌≡◌, ◌<◌, false, length, drop, sym, ap, ◌∙◌, arith}
use Rattle.std.specs.Option.{option_or}
use Rattle.rules.specs.Records.{attested, is_in}
use Rattle.register.specs.Register.{records_of}
use Rattle.register.proofs.Holding.{ordered, records-ok, each_ok}
use Rattle.register.proofs.Uniting.{past_all}
use Rattle.hops.proofs.Hopping.{starts, names_none, passes, names, others_left, arrives}
use Rattle.hops.proofs.hops_from.Goals as goal
use Rattle.hops.proofs.hops_from.Goals.{else-loop-i-test, then-loop-i-test+then-customer_at-x}

pub loop-i-init : goal.loop-i-init
loop-i-init c =
    let a = ordered c.args.register.words.now c.args.register.well_formed in
    (starts _ a c.args.x.0 c.requires, names_none _ a c.args.x.0 c.requires c.args.y.0, names_none _ a c.args.x.0 c.requires c.args.z.0)

pub loop-i-preserved : goal.loop-i-preserved
loop-i-preserved c =
    let w = c.args.register.well_formed in
    let a = ordered c.args.register.words.now w in
    let k = each_ok _ (records-ok c.args.register.words.now w) in
    let h = c.loop-i.invariant in
    let i : c.loop-i.i < length (records_of c.args.register.words.now) = omega arith in
    let e = sym c.customer_at.ensures ∙ c.if-customer_at-x.false in
    let s = c.source_at-source.ensures in
    let y = c.scan-listed.ensures.0 ∙ ap (is_in c.args.y.0) c.list_at.ensures in
    let z = c.scan-listed.ensures.1 ∙ ap (is_in c.args.z.0) c.list_at.ensures in (
      passes a k i e h.0,
      names a k i e _ _ h.1 y s (c.or-first_y.ensures ∙ ap (option_or c.loop-i.first_y) c.then_some.ensures),
      names a k i e _ _ h.2 z s (c.or-first_z.ensures ∙ ap (option_or c.loop-i.first_z) c.then_some-in-loop-i.ensures),
    )

pub returns : goal.returns
returns c =
    let h = c.loop-i.invariant in
    let rs = records_of c.args.register.words.now in
    let a = ordered _ c.args.register.well_formed in
    let e : attested (drop c.loop-i.i (records_of c.args.register.words.now)) c.args.x.0 ≡ false =
    elim c.loop-i-test.branch [
      | else-loop-i-test w ↦ past_all _ rs _ (omega arith)
      | then-loop-i-test+then-customer_at-x w ↦ others_left rs a c.args.x.0 c.requires c.loop-i.i (omega arith)
          (omega (arith, c.count-i-end.ensures.exact, w.loop-i-test.true)) (λ q. w.if-customer_at-x.true (w.customer_at.ensures ∙ q))
    ] in
    (arrives _ _ e _ h.0 h.1 c.hop_by.ensures, arrives _ _ e _ h.0 h.2 c.hop_by-2.ensures)
