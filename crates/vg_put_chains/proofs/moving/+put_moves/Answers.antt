use Rattle.std.proofs.Common.{◌≤◌, arith}
use Rattle.std.proofs.lemmas.Grind.{common_steps}
use Rattle.vg_put_chains.proofs.Moves.{moves_more}
use Rattle.vg_put_chains.proofs.moving.+put_moves.Goals as goal

-- src/moving.rt:47:1
pub returns : goal.returns
returns t c =
    let low : 2 ≤ c.args.width = omega (arith, c.if-width-eq0.false, c.if-width-eq1.false) in
    let few : 2 ≤ c.args.count = omega (arith, c.if-count-eq0.false, c.if-count-eq1.false) in
    let more = moves_more c.args.r c.args.d c.args.width c.args.count low few in
    grind (arith, common_steps, more)
