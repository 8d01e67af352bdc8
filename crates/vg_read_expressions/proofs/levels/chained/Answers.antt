use Rattle.std.proofs.Common.{arith, sym, ap, ◌∙◌}
use Rattle.vg_tree.specs.Held.{node_at}
use Rattle.vg_tree.specs.HeldMade.{value_at}
use Rattle.vg_read_expressions.proofs.Chains.{not_zero, chained_more}
use Rattle.vg_read_expressions.proofs.levels.chained.Goals as goal

pub returns : goal.returns
returns c texts =
    chained_more texts (value_at texts c.args.first.now) c.args.parts.items _ _
    (λ e. not_zero c.args.parts.len (sym c.is_empty.ensures ∙ c.if-is_empty.false) (omega arith))
    (ap (node_at texts) c.in_ok-operand.ensures.ok ∙ c.node_in.ensures texts) (ap (node_at texts) c.in_ok-row.ensures.ok ∙ c.row_of.ensures texts)
