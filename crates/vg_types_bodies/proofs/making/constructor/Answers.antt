use Rattle.std.proofs.Common.{◌+◌, sym, ◌∙◌}
use Rattle.vg_syntax.specs.Numbering.{count_nodes, numbered}
use Rattle.vg_tree.specs.Held.{node_at}
use Rattle.vg_types_bodies.specs.Parameters.{params_at}
use Rattle.vg_types_bodies.proofs.Signatures.{same_row}
use Rattle.vg_types_bodies.proofs.Makings.{row_length, constructor_done, constructed_runs}
use Rattle.vg_types_bodies.proofs.making.constructor.Goals as goal

pub returns-in-Ok-run_body-clause-judged : goal.returns-in-Ok-run_body-clause-judged
returns-in-Ok-run_body-clause-judged c =
    constructor_done c.args.names.now c.args.root.now c.args.declared.now c.args.owner c.args.above (params_at c.args.names.now c.args.params.now)
    (numbered (c.args.id + 1) (node_at c.args.names.now c.args.args.now)) (node_at c.args.names.now c.args.block.now) c.args.id
    (record { before = c.in-Ok.called.code; body = c.in-Ok-run_body.body }) c.in_ok-locals.locals c.in-Ok.called.next
    (c.args.id + 1 + count_nodes (node_at c.args.names.now c.args.args.now)) c.in-Ok.ensures.next c.in_ok-locals.ensures.scope
    (row_length c.args.names.now c.args.declared.now c.in_ok-locals.locals.declared (params_at c.args.names.now c.args.params.now)
    c.in_ok-locals.ensures.types)
    c.in-Ok.ensures.judged c.in-Ok-run_body.ensures.judged

pub returns-in-Ok-run_body-clause-typed : goal.returns-in-Ok-run_body-clause-typed
returns-in-Ok-run_body-clause-typed c =
    constructed_runs c.args.declared.now.tables c.args.owner c.args.above c.in_ok-locals.locals.declared c.args.types.now
    (record { before = c.in-Ok.called.code; body = c.in-Ok-run_body.body })
    (same_row c.args.names.now c.args.root.now c.args.declared.now c.requires.declares c.in_ok-locals.locals.declared c.args.types.now
    c.in_ok-locals.ensures.known c.requires.known (c.in_ok-locals.ensures.types ∙ sym c.requires.same))
    c.in-Ok.ensures.typed c.in-Ok-run_body.ensures.typed
