-- `verdict::upstream` meets its contract. Assumes nothing.
use mathlib.Core.Path.{ap}
use Rattle.rules.specs.Hops.{is_not_plus, is_unattested}
use Rattle.verdict.proofs.Rising.{rises, rises_on, rises_noted, risen_unknown, risen_valid}
use Rattle.verdict.proofs.Tested.{rises_refused}
use Rattle.verdict.proofs.upstream.Goals as goal
use Rattle.verdict.proofs.upstream.Goals.{in-ProviderPlus, in-NoAttestation}

pub loop-i-init : goal.loop-i-init
loop-i-init g c = rises _ _ c.requires.0

pub returns-in-NotProviderPlus : goal.returns-in-NotProviderPlus
returns-in-NotProviderPlus g c =
    rises_refused c.loop-i.invariant c.loop-i-test.true c.hop-hop.ensures (ap is_not_plus c.in-NotProviderPlus.is) c.origin.ensures

pub loop-i-preserved : goal.loop-i-preserved
loop-i-preserved g c =
    let i = c.loop-i.invariant in
    let h = c.loop-i-test.true in
    elim c.match-hop.branch [
      | in-ProviderPlus w ↦
          rw w.unattested-is (rises_on i h c.hop-hop.ensures (ap is_not_plus w.in-ProviderPlus.is) (ap is_unattested w.in-ProviderPlus.is))
      | in-NoAttestation w ↦ rw (w.unattested-is, w.or-unattested.ensures) (rises_noted i h c.hop-hop.ensures w.in-NoAttestation.is)
    ]

pub returns-in-Some : goal.returns-in-Some
returns-in-Some g c = risen_unknown c.loop-i.invariant c.loop-i-test.false c.in-Some.is

pub returns-in-None : goal.returns-in-None
returns-in-None g c = risen_valid c.loop-i.invariant c.loop-i-test.false c.in-None.is
