-- What a part makes has at most three nodes more than its kids.
-- One lemma for each function that makes a part of its kids, by its cases; the sums are linear arithmetic. The last lemma
-- chooses among them by the part.
use Rattle.std.proofs.Common.{◌≡◌, ℕ, ◌+◌, ◌≤◌, List, refl, arith}
use Rattle.vg_base.specs.declared.place.Place.{Place}
use Rattle.vg_syntax.specs.declared.kind.Kind.{Kind}
use Rattle.vg_syntax.specs.declared.kind.Kind.TheVariants as kind
use Rattle.vg_syntax.specs.declared.grammar.Part.{Part}
use Rattle.vg_syntax.specs.declared.grammar.Part.TheVariants as part
use Rattle.vg_syntax.specs.Tree.{Node, Nothing, NewObject, NewArray}
use Rattle.vg_syntax.specs.Numbering.{count_nodes}
use Rattle.vg_syntax.specs.Made.{Made, Word, Tree, Row, Type', Arms, Header, Levels, Indexed, Sized, Object, Array, Value, node_in, row_in, arms_in}
use Rattle.vg_syntax.specs.Made.{otherwise_in, suffixes_in, first_in, condition_in, next_in, text_in, kind_in}
use Rattle.vg_syntax.specs.Reads.{Kids, One, Two, Three, Four, Five, spot, value, made, declared, field_or_constructor, jump, statement_of_two}
use Rattle.vg_syntax.specs.Reads.{statement_of_three, statement_of_four, assigned, chained, part_of, suffixed, fresh, postfix_of, suffix_of, behind_name}
use Rattle.vg_syntax.specs.Reads.{named, bracketed, level_or_suffix, literal, atom, behind_sign, block, declaration, dimensions, else_arm, else_part}
use Rattle.vg_syntax.specs.Reads.{enclosed, entry, extended, handler, header, level, member, more_parameters, more_rowed, more_types, new_level, new_levels}
use Rattle.vg_syntax.specs.Reads.{new_of_name, new_part, operators, optional, other_atom, parameters, plain, postfix, primary, register, rest_of_level}
use Rattle.vg_syntax.specs.Reads.{result_type, rowed, simple, statement, suffixes, super_call, type_of, typed, types, unary, whole, atom_of}

-- how many nodes there are in what is made
abbrev pub weight : Made → ℕ
weight (Tree n) = count_nodes n
weight (Row ns) = count_nodes ns
weight (Arms a o) = count_nodes a + count_nodes o
weight (Header f c n) = count_nodes f + count_nodes c + count_nodes n
weight (Levels n s) = count_nodes s
weight (Indexed e s) = count_nodes e + count_nodes s
weight (Sized n e s) = count_nodes e + count_nodes s
weight (Object n a s) = count_nodes a + count_nodes s
weight (Array t e s) = count_nodes e + count_nodes s
weight _ = 0

-- how many there are in the kids of a part
abbrev pub kids_weight : Kids → ℕ
kids_weight (One a) = weight a.made
kids_weight (Two a b) = weight a.made + weight b.made
kids_weight (Three a b c) = weight a.made + weight b.made + weight c.made
kids_weight (Four a b c d) = weight a.made + weight b.made + weight c.made + weight d.made
kids_weight (Five a b c d e) = weight a.made + weight b.made + weight c.made + weight d.made + weight e.made
kids_weight _ = 0

pub node_few : (m : Made) → count_nodes (node_in m) ≤ weight m
node_few (Tree n) = omega arith
node_few _ = omega arith

row_few : (m : Made) → count_nodes (row_in m) ≤ weight m
row_few (Row ns) = omega arith
row_few _ = omega arith

arms_few : (m : Made) → count_nodes (arms_in m) + count_nodes (otherwise_in m) ≤ weight m
arms_few (Arms a o) = omega arith
arms_few _ = omega arith

header_in_few : (m : Made) → count_nodes (first_in m) + count_nodes (condition_in m) + count_nodes (next_in m) ≤ weight m
header_in_few (Header f c n) = omega arith
header_in_few _ = omega arith

suffixes_in_few : (m : Made) → count_nodes (suffixes_in m) ≤ weight m
suffixes_in_few (Levels n s) = omega arith
suffixes_in_few _ = omega arith

literal_one : (k : Kind) (place : Place) (text : List ℕ) → count_nodes (literal k place text) ≡ 1
literal_one kind.Number place text = refl
literal_one _ place text = refl

jump_one : (k : Kind) (place : Place) → count_nodes (jump k place) ≡ 1
jump_one kind.Break place = refl
jump_one _ place = refl

declared_one : (k : Kind) (place : Place) (name : List ℕ) (n : Node) → count_nodes (declared k place name n) ≡ 1 + count_nodes n
declared_one kind.Component place name n = omega arith
declared_one _ place name n = omega arith

field_few : (k : Kind) (place : Place) (b c d : Made) → count_nodes (field_or_constructor k place b c d) ≤ 1 + weight b + weight c + weight d
field_few kind.Field place b c d = let x = node_few c in omega (arith, x)
field_few _ place b c d = let x = row_few c in let y = node_few d in omega (arith, x, y)

two_few : (place : Place) (m : Made) → weight (statement_of_two place m) ≤ 1 + weight m
two_few place (Word k t) = let x = jump_one k place in omega (arith, x)
two_few place _ = omega arith

three_few : (k : Kind) (place : Place) (b c : Made) → count_nodes (statement_of_three k place b c) ≤ 1 + weight b + weight c
three_few kind.While place b c = let x = node_few b in let y = node_few c in omega (arith, x, y)
three_few kind.Return place b c = let x = node_few b in omega (arith, x)
three_few _ place b c = let x = header_in_few b in let y = node_few c in omega (arith, x, y)

four_few : (k : Kind) (place : Place) (b c d : Made) → count_nodes (statement_of_four k place b c d) ≤ 1 + weight b + weight c + weight d
four_few kind.If place b c d = let x = node_few b in let y = node_few c in let z = arms_few d in omega (arith, x, y, z)
four_few _ place b c d = let x = node_few c in omega (arith, x)

assigned_few : (place : Place) (e r : Node) → count_nodes (assigned place e r) ≤ 1 + count_nodes e + count_nodes r
assigned_few place e Nothing = omega arith
assigned_few place e _ = omega arith

chained_few : (a : Value) (n : Node) → weight (chained a n).made ≤ 1 + weight a.made + count_nodes n
chained_few a Nothing = omega arith
chained_few a _ = let x = node_few a.made in omega (arith, x)

suffixed_few : (a : Value) (n : Node) → weight (suffixed a n).made ≤ 1 + weight a.made + count_nodes n
suffixed_few a Nothing = omega arith
suffixed_few a _ = let x = node_few a.made in omega (arith, x)

part_few : (place : Place) (k : Kind) (m : Made) → count_nodes (part_of place k m) ≤ 1 + weight m
part_few place k (Type' t) = omega arith
part_few place k m = let x = node_few m in omega (arith, x)

fresh_few : (place : Place) (m : Made) → weight (fresh place m).made ≤ 2 + weight m
fresh_few place (Object name arguments s) = let x = suffixed_few (value place (Tree (NewObject (spot place) name arguments))) s in omega (arith, x)
fresh_few place (Array element size s) = let x = suffixed_few (value place (Tree (NewArray (spot place) element size))) s in omega (arith, x)
fresh_few place _ = omega arith

postfix_of_few : (k : Kind) (a b : Value) → weight (postfix_of k a b).made ≤ 2 + weight a.made + weight b.made
postfix_of_few kind.New a b = let x = fresh_few a.place b.made in omega (arith, x)
postfix_of_few _ a b = let x = suffixed_few a (row_in b.made) in let y = row_few b.made in omega (arith, x, y)

suffix_few : (place : Place) (m : Made) → count_nodes (suffix_of place m) ≤ 1 + weight m
suffix_few place (Row arguments) = omega arith
suffix_few place m = let x = node_few m in omega (arith, x)

behind_few : (a b : Made) → weight (behind_name a b) ≤ weight a + weight b
behind_few (Row arguments) b = let x = row_few b in omega (arith, x)
behind_few a b = let x = node_few a in let y = suffixes_in_few b in omega (arith, x, y)

named_few : (name : List ℕ) (m : Made) → weight (named name m) ≤ weight m
named_few name (Object other arguments s) = omega arith
named_few name (Sized n size s) = omega arith
named_few name _ = omega arith

bracketed_few : (place : Place) (m : Made) → weight (bracketed place m) ≤ 1 + weight m
bracketed_few place (Indexed e s) = omega arith
bracketed_few place _ = omega arith

level_or_few : (place : Place) (a b : Made) → weight (level_or_suffix place a b) ≤ 1 + weight a + weight b
level_or_few place (Row arguments) b = let x = row_few b in omega (arith, x)
level_or_few place a b = let x = bracketed_few place b in omega (arith, x)

atom_few : (m : Made) → weight (atom_of m) ≤ weight m
atom_few (Word k t) = omega arith
atom_few _ = omega arith

few_atom : (k : Kids) → weight (atom k).made ≤ 3 + kids_weight k
few_atom (One a) = let x = atom_few a.made in omega (arith, x)
few_atom _ = omega arith

few_behind_sign : (k : Kids) → weight (behind_sign k).made ≤ 3 + kids_weight k
few_behind_sign (Two sign a) = let x = node_few a.made in omega (arith, x)
few_behind_sign _ = omega arith

few_block : (k : Kids) → weight (block k).made ≤ 3 + kids_weight k
few_block (Three left statements close) = let x = row_few statements.made in omega (arith, x)
few_block _ = omega arith

few_declaration : (k : Kids) → weight (declaration k).made ≤ 3 + kids_weight k
few_declaration (Four word name above body) = let x = row_few body.made in omega (arith, x)
few_declaration (Three word name body) =
    let x = row_few body.made in let y = declared_one (kind_in word.made) word.place (text_in name.made) (row_in body.made) in omega (arith, x, y)
few_declaration _ = omega arith

few_dimensions : (k : Kids) → weight (dimensions k).made ≤ 3 + kids_weight k
few_dimensions (Three left close rest) = omega arith
few_dimensions _ = omega arith

few_else_arm : (k : Kids) → weight (else_arm k).made ≤ 3 + kids_weight k
few_else_arm (One body) = let x = node_few body.made in omega (arith, x)
few_else_arm (Four word condition body rest) =
    let x = node_few condition.made in let y = node_few body.made in let z = arms_few rest.made in omega (arith, x, y, z)
few_else_arm _ = omega arith

few_else_part : (k : Kids) → weight (else_part k).made ≤ 3 + kids_weight k
few_else_part (Two word arm) = omega arith
few_else_part _ = omega arith

few_enclosed : (k : Kids) → weight (enclosed k).made ≤ 3 + kids_weight k
few_enclosed (Three left a close) = omega arith
few_enclosed _ = omega arith

few_entry : (k : Kids) → weight (entry k).made ≤ 3 + kids_weight k
few_entry (Five word key equal handler end) = omega arith
few_entry _ = omega arith

few_extended : (k : Kids) → weight (extended k).made ≤ 3 + kids_weight k
few_extended (Two word name) = omega arith
few_extended _ = omega arith

few_handler : (k : Kids) → weight (handler k).made ≤ 3 + kids_weight k
few_handler (Three component dot method) = omega arith
few_handler _ = omega arith

few_header : (k : Kids) → weight (header k).made ≤ 3 + kids_weight k
few_header (Five left first condition next close) =
    let x = node_few first.made in let y = node_few condition.made in let z = node_few next.made in omega (arith, x, y, z)
few_header _ = omega arith

few_level : (k : Kids) → weight (level k).made ≤ 3 + kids_weight k
few_level (Two a rest) = let x = chained_few a (row_in rest.made) in let y = row_few rest.made in omega (arith, x, y)
few_level _ = omega arith

few_member : (k : Kids) → weight (member k).made ≤ 3 + kids_weight k
few_member (Four word b c d) = let x = field_few (kind_in word.made) word.place b.made c.made d.made in omega (arith, x)
few_member (Five word name params result block) = let x = node_few block.made in omega (arith, x)
few_member _ = omega arith

few_more_parameters : (k : Kids) → weight (more_parameters k).made ≤ 3 + kids_weight k
few_more_parameters (Three comma a rest) = omega arith
few_more_parameters _ = omega arith

few_more_rowed : (k : Kids) → weight (more_rowed k).made ≤ 3 + kids_weight k
few_more_rowed (Three comma a rest) = let x = node_few a.made in let y = row_few rest.made in omega (arith, x, y)
few_more_rowed _ = omega arith

few_more_types : (k : Kids) → weight (more_types k).made ≤ 3 + kids_weight k
few_more_types (Three comma a rest) = omega arith
few_more_types _ = omega arith

few_new_level : (k : Kids) → weight (new_level k).made ≤ 3 + kids_weight k
few_new_level (Two close levels) = let x = suffixes_in_few levels.made in omega (arith, x)
few_new_level (Three e close rest) = let x = node_few e.made in let y = row_few rest.made in omega (arith, x, y)
few_new_level _ = omega arith

few_new_levels : (k : Kids) → weight (new_levels k).made ≤ 3 + kids_weight k
few_new_levels (Three dot name rest) = let x = row_few rest.made in omega (arith, x)
few_new_levels (Two a b) = let x = level_or_few a.place a.made b.made in omega (arith, x)
few_new_levels _ = omega arith

few_new_of_name : (k : Kids) → weight (new_of_name k).made ≤ 3 + kids_weight k
few_new_of_name (Two a b) = let x = behind_few a.made b.made in omega (arith, x)
few_new_of_name _ = omega arith

few_new_part : (k : Kids) → weight (new_part k).made ≤ 3 + kids_weight k
few_new_part (Two name behind) = let x = named_few (text_in name.made) behind.made in omega (arith, x)
few_new_part (Three atom size levels) = let x = node_few size.made in let y = suffixes_in_few levels.made in omega (arith, x, y)
few_new_part _ = omega arith

few_operators : (k : Kids) → weight (operators k).made ≤ 3 + kids_weight k
few_operators (Two op ops) = omega arith
few_operators _ = omega arith

few_optional : (k : Kids) → weight (optional k).made ≤ 3 + kids_weight k
few_optional (One a) = omega arith
few_optional _ = omega arith

few_other_atom : (k : Kids) → weight (other_atom k).made ≤ 3 + kids_weight k
few_other_atom (One word) = omega arith
few_other_atom (Three a b c) = omega arith
few_other_atom _ = omega arith

few_parameters : (k : Kids) → weight (parameters k).made ≤ 3 + kids_weight k
few_parameters (Two a rest) = omega arith
few_parameters _ = omega arith

few_plain : (k : Kids) → weight (plain k).made ≤ 3 + kids_weight k
few_plain (Two atom levels) = omega arith
few_plain _ = omega arith

few_postfix : (k : Kids) → weight (postfix k).made ≤ 3 + kids_weight k
few_postfix (Two a b) = let x = postfix_of_few (kind_in a.made) a b in omega (arith, x)
few_postfix _ = omega arith

few_primary : (k : Kids) → weight (primary k).made ≤ 3 + kids_weight k
few_primary (One word) = let x = literal_one (kind_in word.made) word.place (text_in word.made) in omega (arith, x)
few_primary (Three left e close) = omega arith
few_primary _ = omega arith

few_register : (k : Kids) → weight (register k).made ≤ 3 + kids_weight k
few_register (Five word name equal number end) = omega arith
few_register _ = omega arith

few_rest_of_level : (k : Kids) → weight (rest_of_level k).made ≤ 3 + kids_weight k
few_rest_of_level (Three op a rest) = let x = part_few op.place (kind_in op.made) a.made in let y = row_few rest.made in omega (arith, x, y)
few_rest_of_level _ = omega arith

few_result_type : (k : Kids) → weight (result_type k).made ≤ 3 + kids_weight k
few_result_type (Two colon type) = omega arith
few_result_type _ = omega arith

few_rowed : (k : Kids) → weight (rowed k).made ≤ 3 + kids_weight k
few_rowed (Two a rest) = let x = node_few a.made in let y = row_few rest.made in omega (arith, x, y)
few_rowed _ = omega arith

few_simple : (k : Kids) → weight (simple k).made ≤ 3 + kids_weight k
few_simple (Two a right) =
    let x = assigned_few a.place (node_in a.made) (node_in right.made) in let y = node_few a.made in let z = node_few right.made in omega (arith, x, y, z)
few_simple _ = omega arith

few_statement : (k : Kids) → weight (statement k).made ≤ 3 + kids_weight k
few_statement (One a) = omega arith
few_statement (Two a end) = let x = two_few a.place a.made in omega (arith, x)
few_statement (Three a b c) = let x = three_few (kind_in a.made) a.place b.made c.made in omega (arith, x)
few_statement (Four a b c d) = let x = four_few (kind_in a.made) a.place b.made c.made d.made in omega (arith, x)
few_statement _ = omega arith

few_suffixes : (k : Kids) → weight (suffixes k).made ≤ 3 + kids_weight k
few_suffixes (Three dot name rest) = let x = row_few rest.made in omega (arith, x)
few_suffixes (Two a rest) = let x = suffix_few a.place a.made in let y = row_few rest.made in omega (arith, x, y)
few_suffixes _ = omega arith

few_super_call : (k : Kids) → weight (super_call k).made ≤ 3 + kids_weight k
few_super_call (Three colon word arguments) = omega arith
few_super_call _ = omega arith

few_type_of : (k : Kids) → weight (type_of k).made ≤ 3 + kids_weight k
few_type_of (One a) = omega arith
few_type_of (Three word params result) = omega arith
few_type_of _ = omega arith

few_typed : (k : Kids) → weight (typed k).made ≤ 3 + kids_weight k
few_typed (Three name colon type) = omega arith
few_typed _ = omega arith

few_types : (k : Kids) → weight (types k).made ≤ 3 + kids_weight k
few_types (Two a rest) = omega arith
few_types _ = omega arith

few_unary : (k : Kids) → weight (unary k).made ≤ 3 + kids_weight k
few_unary (One a) = omega arith
few_unary (Three op ops operand) = let x = node_few operand.made in omega (arith, x)
few_unary _ = omega arith

few_whole : (k : Kids) → weight (whole k).made ≤ 3 + kids_weight k
few_whole (Two a rest) = let x = node_few a.made in let y = row_few rest.made in omega (arith, x, y)
few_whole _ = omega arith

-- what a part makes
pub made_few : (n : Part) (k : Kids) → weight (made n k).made ≤ 3 + kids_weight k
made_few part.Text k = few_whole k
made_few part.Declarations k = few_rowed k
made_few part.Declaration k = few_declaration k
made_few part.Extends k = few_extended k
made_few part.ClassBody k = few_enclosed k
made_few part.Members k = few_rowed k
made_few part.DeviceBody k = few_enclosed k
made_few part.Registers k = few_rowed k
made_few part.Register k = few_register k
made_few part.ProgramBody k = few_enclosed k
made_few part.Entries k = few_rowed k
made_few part.Entry k = few_entry k
made_few part.Key k = few_optional k
made_few part.Handler k = few_handler k
made_few part.Member k = few_member k
made_few part.Initial k = few_behind_sign k
made_few part.Result k = few_result_type k
made_few part.SuperCall k = few_super_call k
made_few part.Parameters k = few_enclosed k
made_few part.ParameterList k = few_parameters k
made_few part.MoreParameters k = few_more_parameters k
made_few part.Typed k = few_typed k
made_few part.Type k = few_type_of k
made_few part.TypeArguments k = few_enclosed k
made_few part.TypeList k = few_types k
made_few part.MoreTypes k = few_more_types k
made_few part.PlainResult k = few_result_type k
made_few part.Plain k = few_plain k
made_few part.Dimensions k = few_dimensions k
made_few part.Atom k = few_atom k
made_few part.OtherAtom k = few_other_atom k
made_few part.Block k = few_block k
made_few part.Statements k = few_rowed k
made_few part.Statement k = few_statement k
made_few part.Condition k = few_enclosed k
made_few part.Else k = few_else_part k
made_few part.ElseArm k = few_else_arm k
made_few part.ForHeader k = few_header k
made_few part.ForTest k = few_enclosed k
made_few part.MaybeSimple k = few_optional k
made_few part.MaybeExpression k = few_optional k
made_few part.Simple k = few_simple k
made_few part.Assigned k = few_behind_sign k
made_few part.Expression k = few_level k
made_few part.OrRest k = few_rest_of_level k
made_few part.AndLevel k = few_level k
made_few part.AndRest k = few_rest_of_level k
made_few part.EqualityLevel k = few_level k
made_few part.EqualityRest k = few_rest_of_level k
made_few part.ComparisonLevel k = few_level k
made_few part.ComparisonRest k = few_rest_of_level k
made_few part.BitOrLevel k = few_level k
made_few part.BitOrRest k = few_rest_of_level k
made_few part.BitXorLevel k = few_level k
made_few part.BitXorRest k = few_rest_of_level k
made_few part.BitAndLevel k = few_level k
made_few part.BitAndRest k = few_rest_of_level k
made_few part.ShiftLevel k = few_level k
made_few part.ShiftRest k = few_rest_of_level k
made_few part.ConcatLevel k = few_level k
made_few part.ConcatRest k = few_rest_of_level k
made_few part.SumLevel k = few_level k
made_few part.SumRest k = few_rest_of_level k
made_few part.ProductLevel k = few_level k
made_few part.ProductRest k = few_rest_of_level k
made_few part.CastLevel k = few_level k
made_few part.CastRest k = few_rest_of_level k
made_few part.Unary k = few_unary k
made_few part.Operators k = few_operators k
made_few part.Postfix k = few_postfix k
made_few part.Suffixes k = few_suffixes k
made_few part.Index k = few_enclosed k
made_few part.Arguments k = few_enclosed k
made_few part.ArgumentList k = few_rowed k
made_few part.MoreArguments k = few_more_rowed k
made_few part.New k = few_new_part k
made_few part.NewOfName k = few_new_of_name k
made_few part.NewLevels k = few_new_levels k
made_few part.NewLevel k = few_new_level k
made_few part.Primary k = few_primary k
