use Rattle.std.proofs.Common.{◌-◌, ap, ◌∙◌, sym}
use Rattle.vg_bound.specs.Searched.{place_of}
use Rattle.vg_bound.proofs.Stacks.{placed_within, must_be_open}
use Rattle.vg_bound.proofs.walk.step.Goals as goal

pub mark_of-requires : goal.mark_of-requires
mark_of-requires c =
    placed_within c.args.search.now.marks c.node_at-node.result (c.height.result - 1)
    (c.requires.searching.stacked.placed (c.height.result - 1) c.node_at-node.result c.node_at-node.ensures)

pub unreachable-requires : goal.unreachable-requires
unreachable-requires c =
    must_be_open c.mark_of.result (c.height.result - 1)
    (
    ap place_of (sym c.mark_of.ensures)
    ∙ c.requires.searching.stacked.placed (c.height.result - 1) c.node_at-node.result c.node_at-node.ensures
    ) c.in_default.not-Open
