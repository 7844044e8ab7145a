-- `restoring::load` meets its contract. Assumes nothing.
use mathlib.Core.Path.{◌∙◌}
use native.Mathlib.Omega.{arith}
use borrow.Author.Rules.{rules}
use Rattle.snapshot.proofs.Accepting.{told, denied, cut}
use Rattle.snapshot.proofs.Reading.{register_wrong, ledger_wrong, loaded, first_fits, second_fits, register_unpacked, ledger_unpacked}
use Rattle.snapshot.proofs.Reading.{register_unformed, register_other, register_passes, ledger_unformed, ledger_other, ledger_passes}
use Rattle.restoring.proofs.load.Goals as goal
use Rattle.restoring.proofs.load.Goals.{then-not-is_register-via-then-not-is_register, then-not-is_register-via-else-not-is_register+then-not-fills}
use Rattle.restoring.proofs.load.Goals.{then-not-is_ledger-via-then-not-is_ledger, then-not-is_ledger-via-else-not-is_ledger+then-not-fills-2}

pub field-r-requires : goal.field-r-requires
field-r-requires c = ((cut c.args.file.now c.requires.passed).long, search rules)

pub slice_bounds-unpack-end : goal.slice_bounds-unpack-end
slice_bounds-unpack-end c = omega (arith, c.field-r.ensures.0, (cut c.args.file.now c.requires.passed).whole)

pub unpack-own_register-requires : goal.unpack-own_register-requires
unpack-own_register-requires c = (search rules, first_fits c.args.file.now c.requires.passed _ c.field-r.ensures.0)

pub returns-then-not-is_register : goal.returns-then-not-is_register
returns-then-not-is_register c =
    let file = c.args.file.now in
    let q = c.requires.passed in
    let f = c.field-r.ensures.0 in
    let e = register_unpacked file q _ f c.unpack-own_register.ensures in
    register_wrong file _ _ c.requires (
    elim c.then-not-is_register.branch [
      | then-not-is_register-via-then-not-is_register w ↦ register_unformed file q _ f e (denied c.is_register.ensures w.if-not-is_register.true)
      | then-not-is_register-via-else-not-is_register+then-not-fills w ↦
          register_other file q _ f e (told c.is_register.ensures w.if-not-is_register.false) (denied w.fills.ensures w.if-not-fills.true)
    ])

pub unpack-own_ledger-requires : goal.unpack-own_ledger-requires
unpack-own_ledger-requires c = (search rules, second_fits c.args.file.now c.requires.passed _ c.field-r.ensures.0)

pub returns-then-not-is_ledger : goal.returns-then-not-is_ledger
returns-then-not-is_ledger c =
    let file = c.args.file.now in
    let q = c.requires.passed in
    let f = c.field-r.ensures.0 in
    let e = register_unpacked file q _ f c.unpack-own_register.ensures in
    let k = register_passes file q _ f e (told c.is_register.ensures c.if-not-is_register.false) (told c.fills.ensures c.if-not-fills.false) in
    let d = ledger_unpacked file q _ f c.unpack-own_ledger.ensures in
    ledger_wrong file _ _ c.requires k (
    elim c.then-not-is_ledger.branch [
      | then-not-is_ledger-via-then-not-is_ledger w ↦ ledger_unformed file q _ f d (denied c.is_ledger.ensures w.if-not-is_ledger.true)
      | then-not-is_ledger-via-else-not-is_ledger+then-not-fills-2 w ↦
          let ok = told c.is_ledger.ensures w.if-not-is_ledger.false in
          ledger_other file q _ f d w.field.ensures.0 ok (denied w.fills-else-not-is_ledger.ensures w.if-not-fills-2.true)
    ])

pub returns : goal.returns
returns c =
    let file = c.args.file.now in
    let q = c.requires.passed in
    let f = c.field-r.ensures.0 in
    let e = register_unpacked file q _ f c.unpack-own_register.ensures in
    let k = register_passes file q _ f e (told c.is_register.ensures c.if-not-is_register.false) (told c.fills.ensures c.if-not-fills.false) in
    let d = ledger_unpacked file q _ f c.unpack-own_ledger.ensures in
    let ok = told c.is_ledger.ensures c.if-not-is_ledger.false in
    let h = ledger_passes file q _ f d c.field.ensures.0 ok (told c.fills-else-not-is_ledger.ensures c.if-not-fills-2.false) in
    loaded file _ _ c.requires k h (c.copy_from_slice.ensures.after ∙ e) (c.copy_from_slice-2.ensures.after ∙ d)
