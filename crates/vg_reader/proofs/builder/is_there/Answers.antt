use Rattle.std.proofs.Common.{rules, ◌≡◌, ◌-◌, Some, length, slice_get, arith}
use Rattle.vg_reader.proofs.Building.{first_stays}
use Rattle.vg_reader.proofs.builder.is_there.Goals as goal

pub returns-then-values-gt1 : goal.returns-then-values-gt1
returns-then-values-gt1 c texts h =
    let values = c.args.values.now in
    let found : slice_get values (length values - 1) ≡ Some c.in-Some.rest.now = search rules in
    first_stays texts _ values c.in-Some.rest.now (omega (arith, c.if-values-gt1.true)) found (λ first. c.is_first_kid.ensures texts first h)
