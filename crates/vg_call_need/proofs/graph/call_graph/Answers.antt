use Rattle.std.proofs.Common.{◌≤◌, length, map, sym, ap, ◌∙◌, subst}
use Rattle.vg_call_need.specs.Graph.{root}
use Rattle.vg_call_need.proofs.Making.{are_roots, shaped}
use Rattle.vg_call_need.proofs.graph.call_graph.Goals as goal

pub of_parts-requires-clause-shaped : goal.of_parts-requires-clause-shaped
of_parts-requires-clause-shaped c =
    shaped c.args.frames.now c.as_slice-all.result.now c.in_ok-nodes.nodes c.in_ok-calls.calls.items
    (subst (λ z. length z ≤ 65536) (sym c.as_slice-all.ensures) c.requires) c.in_ok-nodes.ensures.is c.in_ok-nodes.ensures.small c.in_ok-calls.ensures

pub of_parts-requires-clause-roots : goal.of_parts-requires-clause-roots
of_parts-requires-clause-roots c =
    are_roots c.args.frames.now c.as_slice-all.result.now c.args.extra c.as_slice.result.now c.in_ok-nodes.nodes c.in_ok-there.there c.in_ok-roots.roots
    c.in_ok-roots.ensures.small c.in_ok-nodes.ensures.is c.in_ok-there.ensures
    (c.in_ok-roots.ensures.is ∙ ap (map (root c.args.extra)) c.as_slice-2.ensures)
