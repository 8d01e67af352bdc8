use Rattle.vg_syntax.specs.Numbering.{numbered}
use Rattle.vg_tree.specs.Held.{type_at, node_at}
use Rattle.vg_types_bodies.specs.Parameters.{params_at}
use Rattle.vg_types_routines.proofs.Making.{method_done}
use Rattle.vg_types_routines.proofs.methods.method.Goals as goal

pub returns : goal.returns
returns c =
    method_done c.args.names.now c.args.root.now c.args.declared.now c.args.owner (params_at c.args.names.now c.args.params.now)
    (type_at c.args.names.now c.args.type_.now) (numbered c.args.id (node_at c.args.names.now c.args.block.now)) c.in-Some.result c.in_ok-locals.locals
    c.run_body.result c.in-Some.ensures.0 c.in-Some.ensures.1 c.in_ok-locals.ensures c.run_body.ensures.judged c.run_body.ensures.typed
