use Rattle.std.proofs.Common.{◌≡◌, ◌+◌, false, refl, sym, ◌∙◌}
use Rattle.vg_syntax.specs.Numbering.{numbered}
use Rattle.vg_tree.specs.Held.{node_at}
use Rattle.vg_tree.specs.Nothing.{is_nothing}
use Rattle.vg_types_simple.proofs.Judging.{refused}
use Rattle.vg_types_simple.proofs.Written.{written_numbered}
use Rattle.vg_types_bodies.specs.Initial.{IsInitial}
use Rattle.vg_types_bodies.proofs.Initials.{initial_refused, initial_done, initial_puts}
use Rattle.vg_types_bodies.proofs.initial.initial_value.Goals as goal

pub returns-then-not-fits-clause-judged : goal.returns-then-not-fits-clause-judged
returns-then-not-fits-clause-judged c =
    let n : is_nothing (numbered (c.args.id + 1) (node_at c.args.names.now c.args.node.now)) ≡ false
    = written_numbered (c.args.id + 1) (node_at c.args.names.now c.args.node.now) ∙ sym (c.is_nothing.ensures c.args.names.now) ∙ c.if-is_nothing.false in
    refused (IsInitial c.args.names.now c.args.root.now c.args.declared.now (numbered (c.args.id + 1) (node_at c.args.names.now c.args.node.now)))
    c.broken.result _ _ c.broken.ensures
    (initial_refused c.args.names.now c.args.root.now c.args.declared.now c.outside.result c.new-locals.result
    (numbered (c.args.id + 1) (node_at c.args.names.now c.args.node.now)) c.in_ok-judged.judged c.args.wanted c.args.id c.outside.ensures
    c.new-locals.ensures.in_scope c.new-locals.ensures.declared n c.in_ok-judged.ensures.judged (sym c.fits.ensures.exact ∙ c.if-not-fits.true))

pub returns-clause-judged : goal.returns-clause-judged
returns-clause-judged c =
    let n : is_nothing (numbered (c.args.id + 1) (node_at c.args.names.now c.args.node.now)) ≡ false
    = written_numbered (c.args.id + 1) (node_at c.args.names.now c.args.node.now) ∙ sym (c.is_nothing.ensures c.args.names.now) ∙ c.if-is_nothing.false in
    initial_done c.args.names.now c.args.root.now c.args.declared.now c.outside.result c.new-locals.result
    (numbered (c.args.id + 1) (node_at c.args.names.now c.args.node.now)) c.in_ok-judged.judged c.args.wanted c.args.id c.outside.ensures
    c.new-locals.ensures.in_scope c.new-locals.ensures.declared n c.in_ok-judged.ensures.judged (sym c.fits.ensures.exact ∙ c.if-not-fits.false)

pub returns-clause-typed : goal.returns-clause-typed
returns-clause-typed c =
    initial_puts c.args.declared.now.tables c.outside.result c.new-locals.result c.in_ok-judged.judged c.args.wanted c.outside.ensures
    c.new-locals.ensures.declared c.in_ok-judged.ensures.typed (c.if-not-fits.ensures.sub refl)
