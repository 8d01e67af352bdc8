use Rattle.std.proofs.Common.{rules, ◌≡◌, ◌-◌, ◌∙◌, ap, length, take, drop, arith}
use Rattle.vg_lin.specs.State.{State}
use Rattle.vg_lin_states.proofs.Newest.{others_kept}
use Rattle.vg_lin_states.proofs.state.LinState.forget_newest.Goals as goal

pub returns : goal.returns
returns c =
    let items = c.self.inside.waiting.items in
    let long : c.len.result ≡ length items = search rules in
    let kept : c.saturating_sub-kept.result ≡ length items - c.args.count = omega (arith, c.saturating_sub-kept.ensures, c.from.ensures, long) in
    let rest = others_kept items c.truncate.new.self.items c.args.count (c.truncate.ensures.items ∙ ap (λ n. take n items) kept) in
    ap (λ w. let s : State = record { locals = c.self.inside.locals.items; waiting = w; ram = c.self.inside.ram.items } in s) rest
    ∙ ap (λ s. let t : State = record s { waiting = drop c.args.count s.waiting } in t) c.self.view_is
