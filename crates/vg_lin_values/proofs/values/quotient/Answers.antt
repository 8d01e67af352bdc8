use Rattle.std.proofs.Common.{rules, ◌≡◌, ◌≢◌, ◌<◌, ◌^◌, ◌∙◌, ap, Some, w32}
use Rattle.std.specs.Int.{cast_unsigned, cast_signed, int_wrapping_div}
use Rattle.vg_lin.specs.Values.{low}
use Rattle.vg_lin_values.proofs.Signs.{quotient_is}
use Rattle.vg_lin_values.proofs.values.quotient.Goals as goal

pub returns : goal.returns
returns c =
    let not_none : c.args.y ≢ 0 = search rules in
    let x_fits : c.args.x < 2 ^ 32 = search rules in
    let y_fits : c.args.y < 2 ^ 32 = search rules in
    let is : c.cast_unsigned.result ≡ cast_unsigned w32 (int_wrapping_div w32 (cast_signed w32 c.args.x) (cast_signed w32 c.args.y)) = search rules in
    ap Some (c.low.ensures ∙ ap (low c.args.width) (c.from.ensures ∙ is)) ∙ quotient_is c.args.width c.args.x c.args.y x_fits y_fits not_none
