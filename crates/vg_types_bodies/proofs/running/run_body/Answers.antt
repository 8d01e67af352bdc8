use Rattle.std.proofs.Common.{ap, ◌∙◌, drop, length}
use Rattle.vg_syntax.specs.Numbering.{numbered}
use Rattle.vg_tree.specs.Held.{node_at}
use Rattle.vg_source.specs.Resolved.{Fresh}
use Rattle.vg_types_tables.specs.Promises.{meant}
use Rattle.vg_types_bodies.proofs.Others.{body_is}
use Rattle.vg_types_bodies.proofs.running.run_body.Goals as goal

pub returns-clause-judged : goal.returns-clause-judged
returns-clause-judged c = (
  c.in_ok-done.ensures.judged.0,
  body_is c.args.names.now c.args.declared.now c.statement.new.locals (length c.args.params.declared) _
      (meant c.args.names.now c.args.root.now c.args.declared.now c.args.body c.args.params (numbered c.args.id (node_at c.args.names.now
      c.args.node.now)) Fresh)
      (record { others = c.in_ok-others.others; code = c.in_ok-done.done.code }) c.in_ok-done.ensures.judged.1.does c.in_ok-done.ensures.judged.1.scope
      (c.in_ok-others.ensures.rest ∙ ap (drop _) c.as_slice.ensures) c.len-count.ensures,
)
