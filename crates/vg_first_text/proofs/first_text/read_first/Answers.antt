use Rattle.std.proofs.Common.{Err, sym, ap, subst, ◌∙◌}
use Rattle.vg_first_text.specs.FirstSession.{AreDevices}
use Rattle.vg_first_text.specs.FirstViews.{program_view}
use Rattle.vg_syntax.specs.Tokens.{IsTokens}
use Rattle.vg_first_text.proofs.First.{not_spelled, not_fitting, are_devices, handed_on}
use Rattle.vg_first_text.proofs.first_text.read_first.Goals as goal

pub returns-in_err-program-clause-not : goal.returns-in_err-program-clause-not
returns-in_err-program-clause-not c = λ why k.
    let refusal = handed_on _ c.in_err-program.field-0.0 why c.from_residual-in_err-program.ensures.1 k in
    not_spelled c.args.bytes.now c.as_slice.result.now (subst (IsTokens c.args.bytes.now) (sym c.as_slice.ensures.value) c.in_ok-tokens.ensures)
    (c.in_err-program.ensures.not why (ap Err refusal))

pub returns-in_err-writes-clause-not : goal.returns-in_err-writes-clause-not
returns-in_err-writes-clause-not c = λ why k.
    let refusal = handed_on _ c.in_err-writes.field-0.0 why c.from_residual-in_err-writes.ensures.1 k in
    not_fitting c.args.bytes.now c.as_slice.result.now (program_view c.in_ok-program.program)
    (subst (IsTokens c.args.bytes.now) (sym c.as_slice.ensures.value) c.in_ok-tokens.ensures)
    c.in_ok-program.ensures.ok (c.in_err-writes.ensures.not why (ap Err refusal))

pub returns-clause-devices : goal.returns-clause-devices
returns-clause-devices c =
    subst AreDevices (sym (c.from_vec.ensures ∙ c.in_ok-writes.ensures.writes))
    (are_devices (program_view c.in_ok-program.program).device (program_view c.in_ok-program.program).registers
    (program_view c.in_ok-program.program).assignments
    c.in_ok-writes.ensures.fits.registers c.in_ok-writes.ensures.fits.assignments)
