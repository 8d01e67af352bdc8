use Rattle.std.proofs.Common.{map, ap, ◌++◌, ◌∙◌}
use Rattle.vg_meaning.specs.Code.{replaced}
use Rattle.vg_core.specs.HeldProgram.{body_at}
use Rattle.vg_coded.specs.Widths.{width_of}
use Rattle.vg_firm.specs.Held.{code_of}
use Rattle.vg_pack_code.specs.Plans.{moved}
use Rattle.vg_pack_bodies.proofs.MethodRows.{made}
use Rattle.vg_pack_bodies.proofs.packed.procedure.Goals as goal

pub returns : goal.returns
returns c =
    made c.args.tables.now c.args.numbers.now c.args.plan.now c.args.number c.args.method.now (body_at c.args.body.now) c.len.result c.receives.result c.is_class.result
    c.in_ok-widths.widths c.width_of.result c.in_ok-calls.calls (code_of c.in_ok-body.body) c.len.ensures c.receives.ensures c.is_class.ensures
    (c.in_ok-widths.ensures ∙ ap (λ z. map width_of (z ++ c.as_slice-2.result.now)) c.as_slice.ensures
    ∙ ap (λ z. map width_of (c.args.method.now.params ++ z)) c.as_slice-2.ensures)
    c.width_of.ensures (c.in_ok-calls.ensures ∙ c.edges.ensures)
    (c.in_ok-body.ensures.code ∙ ap (replaced (moved c.args.tables.now c.args.numbers.now c.args.plan.now)) c.in_ok-code.ensures)
