use Rattle.std.proofs.Common.{◌≤◌, length, arith}
use Rattle.vg_lin_states.proofs.Newest.{newest_cut}
use Rattle.vg_lin_states.proofs.state.newest.Goals as goal

pub returns : goal.returns
returns c =
    let enough : c.args.count ≤ length c.args.waiting.now = omega (arith, c.from.ensures, c.if-size-from.false) in
    newest_cut c.args.waiting.now c.in_ok-newest.newest.items c.args.count c.from-2.result c.from-2.ensures enough c.in_ok-newest.ensures.items
