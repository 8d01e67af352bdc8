use Rattle.std.proofs.Common.{◌+◌, ap, ◌∙◌, arith}
use Rattle.vg_flatten_shapes.specs.Made.{settled}
use Rattle.vg_flatten_control.proofs.Failing.{place_lays, rest_lays}
use Rattle.vg_flatten_pushed.specs.Pushed.{step_on}
use Rattle.vg_flatten_pushed.proofs.Parting.{behind_laid, settled_long}
use Rattle.vg_flatten_pushed.proofs.pushed.cross.Goals as goal

pub step_on-requires-clause-few : goal.step_on-requires-clause-few
step_on-requires-clause-few c =
    let e = (settled_long c.args.room c.args.above c.in_ok-first.first c.args.at c.in_ok-first.ensures).0 in
    let h = c.requires.few in omega (arith, e, h)

pub step_on-requires-clause-settled : goal.step_on-requires-clause-settled
step_on-requires-clause-settled c = (settled_long c.args.room c.args.above c.in_ok-first.first c.args.at c.in_ok-first.ensures).1

pub returns-in_err-step_at : goal.returns-in_err-step_at
returns-in_err-step_at c =
    place_lays c.args.at (settled c.args.room c.args.above) (λ s. step_on c.args.layout.now c.args.room c.args.step s.homes c.args.below.homes)
    c.in_ok-first.first c.from_residual-in_err-step_at.result _ c.len.result
    c.from_residual-in_err-step_at.ensures.1 c.in_ok-first.ensures c.len.ensures c.in_err-step_at.ensures

pub returns-in_err-last : goal.returns-in_err-last
returns-in_err-last c =
    rest_lays c.args.at c.in_ok-step_at.step_at (settled c.args.room c.args.above)
    (λ s. step_on c.args.layout.now c.args.room c.args.step s.homes c.args.below.homes) c.in_ok-first.first c.from_residual-in_err-last.result _
    c.len.result c.from_residual-in_err-last.ensures.1 c.in_ok-first.ensures c.len.ensures c.in_ok-step_at.ensures c.in_err-last.ensures

pub returns : goal.returns
returns c =
    behind_laid c.args.at c.in_ok-step_at.step_at (settled c.args.room c.args.above)
    (λ s. step_on c.args.layout.now c.args.room c.args.step s.homes c.args.below.homes) c.in_ok-first.first c.in_ok-last.last c.in_ok-behind.field-0
    c.in_ok-first.ensures (c.in_ok-step_at.ensures ∙ ap (λ n. c.args.at + n) c.len.ensures) c.in_ok-last.ensures c.in_ok-behind.ensures.0
    c.in_ok-behind.ensures.1
