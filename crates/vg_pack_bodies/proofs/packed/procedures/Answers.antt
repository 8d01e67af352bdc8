use Rattle.std.proofs.Common.{◌≡◌, ◌<◌, get_or, length, map, subst}
use Rattle.vg_core.specs.HeldProgram.{body_at}
use Rattle.vg_firm.specs.Held.{procedure_of}
use Rattle.vg_pack_bodies.specs.Procedures.{packed_methods}
use Rattle.vg_pack_bodies.proofs.MethodRows.{more_methods}
use Rattle.vg_pack_bodies.proofs.packed.procedures.Goals as goal

pub loop-index-preserved : goal.loop-index-preserved
loop-index-preserved c =
    more_methods c.args.program.now.tables c.args.numbers.now c.args.plan.now c.args.program.now.tables.methods (map body_at c.args.program.now.methods)
    c.loop-index.index c.index-methods-index.result (map procedure_of c.loop-index.rows.items) (map procedure_of c.push_method.new.rows.items)
    (packed_methods c.args.program.now.tables c.args.numbers.now c.args.plan.now 0 c.args.program.now.tables.methods (map body_at c.args.program.now.methods))
    (subst (λ z. c.loop-index.index < length z) c.as_slice-methods.ensures c.loop-index-test.true)
    (subst (λ z. c.index-methods-index.result ≡ get_or z c.loop-index.index c.index-methods-index.result) c.as_slice-methods.ensures
    c.index-methods-index.is) c.loop-index.invariant c.in_ok-push_method.ensures
