use Rattle.std.proofs.Common.{sym, ap, ◌∙◌}
use Rattle.vg_syntax.specs.Outline.{Inner, outline}
use Rattle.vg_tree_walks.specs.Children.{kids_at, weight_of}
use Rattle.vg_tree_walks.proofs.Outlines.{outline_of}
use Rattle.vg_tree_walks.proofs.children.children.Goals as goal

pub returns-clause-outline : goal.returns-clause-outline
returns-clause-outline c numbered texts =
    outline_of texts c.args.node.now numbered
    ∙ ap (λ kids. Inner 0 (weight_of c.args.node.now) (outline (kids_at texts kids))) (sym c.four_places.ensures.all)
