use Rattle.std.proofs.Common.{◌≡◌, Some, sym, ap, ◌∙◌, arith}
use Rattle.std.specs.Prelude.{slice_get}
use Rattle.vg_interp.proofs.Rows.{body_weighs}
use Rattle.vg_interp.proofs.bodies.method_body.Goals as goal

pub returns-in-Some-clause-light : goal.returns-in-Some-clause-light
returns-in-Some-clause-light c =
    let there : slice_get c.args.program.now.methods c.args.number ≡ Some c.in-Some.found.now =
    ap (λ bodies. slice_get bodies c.args.number) (sym c.as_slice.ensures) ∙ c.in-Some.ensures in
    let e = body_weighs c.args.program.now.methods c.args.number c.in-Some.found.now there in
    omega (arith, e)
