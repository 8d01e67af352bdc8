use Rattle.std.proofs.Common.{false, refl, sym, ap, ◌∙◌, length, Some}
use Rattle.std.proofs.lemmas.Result.{IfOk-weaker}
use Rattle.vg_syntax.specs.Numbering.{numbered}
use Rattle.vg_tree.specs.Held.{node_at}
use Rattle.vg_source.specs.Program.{scope_of}
use Rattle.vg_types_bodies.specs.Parameters.{params_at}
use Rattle.vg_types_bodies.specs.Bodies.{signature_at}
use Rattle.vg_types_bodies.proofs.Signatures.{same_row, judged_in, typed_body}
use Rattle.vg_types_bodies.proofs.method.method_body.Goals as goal

pub returns-clause-judged : goal.returns-clause-judged
returns-clause-judged c =
    judged_in c.args.names.now c.args.root.now c.args.declared.now
    (record { owner = Some c.args.method.now.owner; result = c.args.method.now.result; in_loop = false })
    c.in_ok-locals.locals (scope_of (params_at c.args.names.now c.args.params.now))
    (length c.args.method.now.params) (numbered c.args.id (node_at c.args.names.now c.args.node.now)) c.run_body.result c.in_ok-locals.ensures.scope
    (ap length (same_row c.args.names.now c.args.root.now c.args.declared.now c.requires.declares c.in_ok-locals.locals.declared c.args.method.now.params
    c.in_ok-locals.ensures.known c.requires.params (c.in_ok-locals.ensures.types ∙ sym c.requires.same)))
    c.run_body.ensures.judged

pub returns-clause-typed : goal.returns-clause-typed
returns-clause-typed c =
    IfOk-weaker c.run_body.result _ _
    (λ b h. typed_body c.args.declared.now.tables (record { owner = Some c.args.method.now.owner; result = c.args.method.now.result; in_loop = false })
    (signature_at c.args.method.now) b c.in_ok-locals.locals.declared refl refl refl
    (same_row c.args.names.now c.args.root.now c.args.declared.now c.requires.declares c.in_ok-locals.locals.declared c.args.method.now.params
    c.in_ok-locals.ensures.known c.requires.params (c.in_ok-locals.ensures.types ∙ sym c.requires.same)) h)
    c.run_body.ensures.typed
