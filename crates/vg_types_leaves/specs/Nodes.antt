-- Nodes by their parts, with their numbers.
use Rattle.std.specs.Prelude.{ℕ, List}
use Rattle.vg_syntax.specs.Tree.{Spot, Node, Number, CharLit, StringLit, True, False, Null, This, Name, Member}
use Rattle.vg_syntax.specs.Numbering.{with_id}

abbrev pub number_node : ℕ → Spot → List ℕ → Node
number_node id at digits = Number (with_id id at) digits

abbrev pub char_node : ℕ → Spot → List ℕ → Node
char_node id at spelled = CharLit (with_id id at) spelled

abbrev pub string_node : ℕ → Spot → List ℕ → Node
string_node id at spelled = StringLit (with_id id at) spelled

abbrev pub true_node : ℕ → Spot → Node
true_node id at = True (with_id id at)

abbrev pub false_node : ℕ → Spot → Node
false_node id at = False (with_id id at)

abbrev pub null_node : ℕ → Spot → Node
null_node id at = Null (with_id id at)

abbrev pub this_node : ℕ → Spot → Node
this_node id at = This (with_id id at)

abbrev pub name_node : ℕ → Spot → List ℕ → Node
name_node id at x = Name (with_id id at) x

abbrev pub member_node : ℕ → Spot → List ℕ → Node
member_node id at x = Member (with_id id at) x
