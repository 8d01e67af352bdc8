-- The nodes of statements that have statements in them, of this number and place.
use Rattle.std.specs.Prelude.{ℕ}
use Rattle.vg_syntax.specs.Tree.{Spot, Node, Block, If, While, For}
use Rattle.vg_syntax.specs.Numbering.{with_id}

abbrev pub block_node : ℕ → Spot → Node → Node
block_node id at row = Block (with_id id at) row

abbrev pub if_node : ℕ → Spot → Node → Node → Node
if_node id at arms otherwise = If (with_id id at) arms otherwise

abbrev pub while_node : ℕ → Spot → Node → Node → Node
while_node id at condition body = While (with_id id at) condition body

abbrev pub for_node : ℕ → Spot → Node → Node → Node → Node → Node
for_node id at first condition next body = For (with_id id at) first condition next body
