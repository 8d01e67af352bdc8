use Rattle.vg_flatten_control.proofs.Failing.{place_lays, rest_lays}
use Rattle.vg_flatten_steps.specs.Steps.{stepped}
use Rattle.vg_flatten_pushed.specs.Pushed.{put_back}
use Rattle.vg_flatten_pushed.proofs.pushed.step_and_push.Goals as goal

pub returns-in_err-push_at : goal.returns-in_err-push_at
returns-in_err-push_at c =
    place_lays c.args.at (stepped c.args.layout.now c.args.room c.args.step c.args.own.homes) (put_back c.args.room c.args.rest.homes) c.in_ok-first.first
    c.from_residual-in_err-push_at.result _ c.len.result
    c.from_residual-in_err-push_at.ensures.1 c.in_ok-first.ensures c.len.ensures c.in_err-push_at.ensures

pub returns-in_err-last : goal.returns-in_err-last
returns-in_err-last c =
    rest_lays c.args.at c.in_ok-push_at.push_at (stepped c.args.layout.now c.args.room c.args.step c.args.own.homes) (put_back c.args.room c.args.rest.homes)
    c.in_ok-first.first c.from_residual-in_err-last.result _ c.len.result
    c.from_residual-in_err-last.ensures.1 c.in_ok-first.ensures c.len.ensures c.in_ok-push_at.ensures c.in_err-last.ensures
