use Rattle.std.proofs.Common.{[], ap, arith}
use Rattle.vg_tree.specs.Held.{node_at}
use Rattle.vg_syntax.specs.Outline.{outline}
use Rattle.vg_tree_walks.specs.Walks.{found}
use Rattle.vg_tree_walks.proofs.Alike.{alike}
use Rattle.vg_tree_walks.proofs.Numbers.{found_numbered}
use Rattle.vg_tree_walks.proofs.tree.Tree.count_nodes.Goals as goal

pub returns : goal.returns
returns c texts =
    let root = c.args.self.now.root in
    let walked = c.pass.ensures.found in
    let start = ap (λ s. found s c.args.node.0 (outline (node_at [] root))) c.walk_from.ensures.next in
    let zero = c.walk_from.ensures.found in
    let same = ap (found 0 c.args.node.0) (alike texts root) in
    let numbers = found_numbered 0 c.args.node.0 (node_at texts root) in
    omega (arith, walked, start, zero, same, numbers)
