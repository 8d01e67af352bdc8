use Rattle.std.proofs.Common.{min, ap, arith}
use Rattle.std.proofs.lemmas.List.{at_drop_all}
use Rattle.vg_syntax.specs.Hexadecimal.{more_digits}
use Rattle.vg_types_numbers.proofs.Saturating.{hexadecimal_on}
use Rattle.vg_types_numbers.proofs.number.hexadecimal.Goals as goal

pub loop-digit-preserved : goal.loop-digit-preserved
loop-digit-preserved c =
    let p = c.saturating_mul.ensures in
    let d = c.digit_value.ensures in
    let w = c.saturating_add-value.ensures in (
      omega (arith, w),
      hexadecimal_on 4294967295 c.loop-digit.value c.saturating_mul.result c.digit_value.result c.saturating_add-value.result _
          c.loop-digit.digit-index c.args.digits.now c.loop-digit-test.true p d w c.loop-digit.invariant.1,
    )

pub returns : goal.returns
returns c =
    let k = c.loop-digit.invariant.0 in
    let e = c.loop-digit.invariant.1 in
    let f = ap (λ n. min n 4294967295) (at_drop_all (more_digits c.loop-digit.value) c.args.digits.now c.loop-digit.digit-index c.loop-digit-test.false) in
    omega (arith, k, e, f)
