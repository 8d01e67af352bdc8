use Rattle.vg_flatten_control.proofs.Failing.{place_lays, rest_lays}
use Rattle.vg_flatten_pushed.specs.Pushed.{worked, drawn}
use Rattle.vg_flatten_pushed.proofs.pushed.draw_and_work.Goals as goal

pub returns-in_err-work_at : goal.returns-in_err-work_at
returns-in_err-work_at c =
    place_lays c.args.at (drawn c.args.room c.args.missing c.args.news.homes c.args.pushed.homes)
    (λ s. worked c.args.layout.now c.args.room c.args.step s.homes) c.in_ok-first.first c.from_residual-in_err-work_at.result _ c.len.result
    c.from_residual-in_err-work_at.ensures.1 c.in_ok-first.ensures c.len.ensures c.in_err-work_at.ensures

pub returns-in_err-last : goal.returns-in_err-last
returns-in_err-last c =
    rest_lays c.args.at c.in_ok-work_at.work_at (drawn c.args.room c.args.missing c.args.news.homes c.args.pushed.homes)
    (λ s. worked c.args.layout.now c.args.room c.args.step s.homes) c.in_ok-first.first c.from_residual-in_err-last.result _ c.len.result
    c.from_residual-in_err-last.ensures.1 c.in_ok-first.ensures c.len.ensures c.in_ok-work_at.ensures c.in_err-last.ensures
