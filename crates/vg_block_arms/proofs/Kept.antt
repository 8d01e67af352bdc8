-- What is made of parts whose arms have blocks has such arms.
use Rattle.std.proofs.Common.{ℕ, List}
use Rattle.vg_base.specs.declared.place.Place.{Place}
use Rattle.vg_syntax.specs.declared.kind.Kind.{Kind}
use Rattle.vg_syntax.specs.declared.kind.Kind.TheVariants as kind
use Rattle.vg_syntax.specs.Tree.{Node, Nothing, Then, NewObject, NewArray}
use Rattle.vg_syntax.specs.Made.{Made, Word, Tree, Row, Type', Arms, Header, Levels, Indexed, Sized, Object}
use Rattle.vg_syntax.specs.Made.{Array, Value, node_in, row_in, kind_in, suffixes_in, first_in, condition_in, next_in, arms_in, otherwise_in, text_in}
use Rattle.vg_syntax.specs.Reads as reads
use Rattle.vg_syntax.specs.Reads.{Kids, One, Two, Three, Four, Five, spot, value}
use Rattle.vg_source_sizes.specs.Arms.{ArmsHaveBlocks}

abbrev pub Kept : Made → Type 0
Kept (Tree n) = ArmsHaveBlocks n
Kept (Row ns) = ArmsHaveBlocks ns
Kept (Arms a o) = ArmsHaveBlocks a × ArmsHaveBlocks o
Kept (Header f c n) = ArmsHaveBlocks f × ArmsHaveBlocks c × ArmsHaveBlocks n
Kept (Levels n s) = ArmsHaveBlocks s
Kept (Indexed e s) = ArmsHaveBlocks e × ArmsHaveBlocks s
Kept (Sized n e s) = ArmsHaveBlocks e × ArmsHaveBlocks s
Kept (Object n a s) = ArmsHaveBlocks a × ArmsHaveBlocks s
Kept (Array t e s) = ArmsHaveBlocks e × ArmsHaveBlocks s
Kept _ = Unit {0}

abbrev pub KeptKids : Kids → Type 0
KeptKids (One a) = Kept a.made
KeptKids (Two a b) = Kept a.made × Kept b.made
KeptKids (Three a b c) = Kept a.made × Kept b.made × Kept c.made
KeptKids (Four a b c d) = Kept a.made × Kept b.made × Kept c.made × Kept d.made
KeptKids (Five a b c d e) = Kept a.made × Kept b.made × Kept c.made × Kept d.made × Kept e.made
KeptKids _ = Unit {0}

-- a part makes what has such arms of what has them
abbrev pub Keeps : (Kids → Value) → Type 0
Keeps f = (k : Kids) → KeptKids k → Kept (f k).made

pub both : (a b : Node) → ArmsHaveBlocks a → ArmsHaveBlocks b → ArmsHaveBlocks (Then a b)
both a b g h = (g, h)

pub node_kept : (m : Made) → Kept m → ArmsHaveBlocks (node_in m)
node_kept (Tree n) h = h
node_kept _ h = tt

pub row_kept : (m : Made) → Kept m → ArmsHaveBlocks (row_in m)
row_kept (Row n) h = h
row_kept _ h = tt

suffixes_kept : (m : Made) → Kept m → ArmsHaveBlocks (suffixes_in m)
suffixes_kept (Levels n s) h = h
suffixes_kept _ h = tt

pub first_kept : (m : Made) → Kept m → ArmsHaveBlocks (first_in m)
first_kept (Header f c n) (g, h, i) = g
first_kept _ h = tt

pub condition_kept : (m : Made) → Kept m → ArmsHaveBlocks (condition_in m)
condition_kept (Header f c n) (g, h, i) = h
condition_kept _ h = tt

pub next_kept : (m : Made) → Kept m → ArmsHaveBlocks (next_in m)
next_kept (Header f c n) (g, h, i) = i
next_kept _ h = tt

pub rowed : Keeps reads.rowed
rowed (Two a rest) (g, h) = both (node_in a.made) (row_in rest.made) (node_kept a.made g) (row_kept rest.made h)
rowed _ h = tt

pub more_rowed : Keeps reads.more_rowed
more_rowed (Three comma a rest) (f, g, h) = both (node_in a.made) (row_in rest.made) (node_kept a.made g) (row_kept rest.made h)
more_rowed _ h = tt

pub enclosed : Keeps reads.enclosed
enclosed (Three left a close) (f, g, h) = g
enclosed _ h = tt

pub optional : Keeps reads.optional
optional (One a) h = h
optional _ h = tt

pub behind_sign : Keeps reads.behind_sign
behind_sign (Two sign a) (g, h) = node_kept a.made h
behind_sign _ h = tt

pub extended : Keeps reads.extended
extended (Two word name) (g, h) = h
extended _ h = tt

pub register : Keeps reads.register
register (Five a b c d e) h = tt
register _ h = tt

pub entry : Keeps reads.entry
entry (Five a b c d e) h = tt
entry _ h = tt

pub handler : Keeps reads.handler
handler (Three a b c) h = tt
handler _ h = tt

pub super_call : Keeps reads.super_call
super_call (Three a b c) (f, g, h) = h
super_call _ h = tt

pub parameters : Keeps reads.parameters
parameters (Two a b) h = tt
parameters _ h = tt

pub more_parameters : Keeps reads.more_parameters
more_parameters (Three a b c) h = tt
more_parameters _ h = tt

pub typed : Keeps reads.typed
typed (Three a b c) h = tt
typed _ h = tt

pub result_type : Keeps reads.result_type
result_type (Two a b) h = tt
result_type _ h = tt

pub type_of : Keeps reads.type_of
type_of (One a) h = h
type_of (Three a b c) h = tt
type_of _ h = tt

pub types : Keeps reads.types
types (Two a b) h = tt
types _ h = tt

pub more_types : Keeps reads.more_types
more_types (Three a b c) h = tt
more_types _ h = tt

pub plain : Keeps reads.plain
plain (Two a b) h = tt
plain _ h = tt

pub dimensions : Keeps reads.dimensions
dimensions (Three a b c) h = tt
dimensions _ h = tt

atom_of : (m : Made) → Kept m → Kept (reads.atom_of m)
atom_of (Word k t) h = tt
atom_of m h = h

pub atom : Keeps reads.atom
atom (One a) h = atom_of a.made h
atom _ h = tt

pub other_atom : Keeps reads.other_atom
other_atom (One a) h = tt
other_atom (Three a b c) h = tt
other_atom _ h = tt

pub header : Keeps reads.header
header (Five a b c d e) (f, g, h, i, j) = (node_kept b.made g, node_kept c.made h, node_kept d.made i)
header _ h = tt

chained : (a : Value) (parts : Node) → Kept a.made → ArmsHaveBlocks parts → Kept (reads.chained a parts).made
chained a Nothing g h = g
chained a parts g h = both (node_in a.made) parts (node_kept a.made g) h

pub level : Keeps reads.level
level (Two a rest) (g, h) = chained a (row_in rest.made) g (row_kept rest.made h)
level _ h = tt

part_of : (p : Place) (k : Kind) (m : Made) → Kept m → ArmsHaveBlocks (reads.part_of p k m)
part_of p k (Type' t) h = tt
part_of p k m h = node_kept m h

pub rest_of_level : Keeps reads.rest_of_level
rest_of_level (Three op a rest) (f, g, h) =
    both (reads.part_of op.place (kind_in op.made) a.made) (row_in rest.made) (part_of op.place (kind_in op.made) a.made g) (row_kept rest.made h)
rest_of_level _ h = tt

pub unary : Keeps reads.unary
unary (One a) h = h
unary (Three op ops operand) (f, g, h) = node_kept operand.made h
unary _ h = tt

pub operators : Keeps reads.operators
operators (Two a b) h = tt
operators _ h = tt

suffixed : (a : Value) (suffixes : Node) → Kept a.made → ArmsHaveBlocks suffixes → Kept (reads.suffixed a suffixes).made
suffixed a Nothing g h = g
suffixed a suffixes g h = both (node_in a.made) suffixes (node_kept a.made g) h

fresh : (p : Place) (m : Made) → Kept m → Kept (reads.fresh p m).made
fresh p (Object name arguments suffixes) (g, h) = suffixed (value p (Tree (NewObject (spot p) name arguments))) suffixes g h
fresh p (Array element size suffixes) (g, h) = suffixed (value p (Tree (NewArray (spot p) element size))) suffixes g h
fresh p m h = tt

postfix_of : (k : Kind) (a b : Value) → Kept a.made → Kept b.made → Kept (reads.postfix_of k a b).made
postfix_of kind.New a b g h = fresh a.place b.made h
postfix_of _ a b g h = suffixed a (row_in b.made) g (row_kept b.made h)

pub postfix : Keeps reads.postfix
postfix (Two a b) (g, h) = postfix_of (kind_in a.made) a b g h
postfix _ h = tt

suffix_of : (p : Place) (m : Made) → Kept m → ArmsHaveBlocks (reads.suffix_of p m)
suffix_of p (Row arguments) h = h
suffix_of p m h = node_kept m h

pub suffixes : Keeps reads.suffixes
suffixes (Three dot name rest) (f, g, h) = (tt, row_kept rest.made h)
suffixes (Two a rest) (g, h) =
    both (reads.suffix_of a.place a.made) (row_in rest.made) (suffix_of a.place a.made g) (row_kept rest.made h)
suffixes _ h = tt

behind_name : (a b : Made) → Kept a → Kept b → Kept (reads.behind_name a b)
behind_name (Row arguments) b g h = (g, row_kept b h)
behind_name size b g h = (node_kept size g, suffixes_kept b h)

pub new_of_name : Keeps reads.new_of_name
new_of_name (Two a b) (g, h) = behind_name a.made b.made g h
new_of_name _ h = tt

named : (name : List ℕ) (m : Made) → Kept m → Kept (reads.named name m)
named name (Object n arguments behind) h = h
named name (Sized n size behind) h = h
named name m h = h

pub new_part : Keeps reads.new_part
new_part (Two name behind) (g, h) = named _ behind.made h
new_part (Three word size levels) (f, g, h) = (node_kept size.made g, suffixes_kept levels.made h)
new_part _ h = tt

bracketed : (p : Place) (m : Made) → Kept m → Kept (reads.bracketed p m)
bracketed p (Indexed e suffixes) (g, h) = both e suffixes g h
bracketed p m h = h

level_or_suffix : (p : Place) (a b : Made) → Kept a → Kept b → Kept (reads.level_or_suffix p a b)
level_or_suffix p (Row arguments) rest g h = both arguments (row_in rest) g (row_kept rest h)
level_or_suffix p bracket b g h = bracketed p b h

pub new_levels : Keeps reads.new_levels
new_levels (Three dot name rest) (f, g, h) = (tt, row_kept rest.made h)
new_levels (Two a b) (g, h) = level_or_suffix a.place a.made b.made g h
new_levels _ h = tt

pub new_level : Keeps reads.new_level
new_level (Two close levels) (g, h) = suffixes_kept levels.made h
new_level (Three e close rest) (f, g, h) = (node_kept e.made f, row_kept rest.made h)
new_level _ h = tt

literal : (k : Kind) (p : Place) (text : List ℕ) → ArmsHaveBlocks (reads.literal k p text)
literal kind.Number p text = tt
literal kind.CharLiteral p text = tt
literal kind.StringLiteral p text = tt
literal kind.True p text = tt
literal kind.False p text = tt
literal kind.Null p text = tt
literal kind.This p text = tt
literal _ p text = tt

pub primary : Keeps reads.primary
primary (One word) h = literal (kind_in word.made) word.place _
primary (Three left e close) (f, g, h) = g
primary _ h = tt

pub arms_kept : (m : Made) → Kept m → ArmsHaveBlocks (arms_in m)
arms_kept (Arms a o) (g, h) = g
arms_kept _ h = tt

pub otherwise_kept : (m : Made) → Kept m → ArmsHaveBlocks (otherwise_in m)
otherwise_kept (Arms a o) (g, h) = h
otherwise_kept _ h = tt

-- ---- declarations and statements

pub whole : Keeps reads.whole
whole (Two a rest) (g, h) = (node_kept a.made g, row_kept rest.made h)
whole _ h = tt

declared : (k : Kind) (p : Place) (name : List ℕ) (body : Node) → ArmsHaveBlocks body → ArmsHaveBlocks (reads.declared k p name body)
declared kind.Component p name body h = h
declared kind.Device p name body h = h
declared _ p name body h = h

pub declaration : Keeps reads.declaration
declaration (Four word name above body) (e, f, g, h) = row_kept body.made h
declaration (Three word name body) (f, g, h) = declared (kind_in word.made) word.place (text_in name.made) (row_in body.made) (row_kept body.made h)
declaration _ h = tt

field_or_constructor : (k : Kind) (p : Place) (b c d : Made) → Kept c → Kept d → ArmsHaveBlocks (reads.field_or_constructor k p b c d)
field_or_constructor kind.Field p b c d g h = node_kept c g
field_or_constructor _ p b c d g h = (row_kept c g, node_kept d h)

pub member : Keeps reads.member
member (Four word b c d) (e, f, g, h) = field_or_constructor (kind_in word.made) word.place b.made c.made d.made g h
member (Five word name params result block) (d, e, f, g, h) = node_kept block.made h
member _ h = tt

pub else_part : Keeps reads.else_part
else_part (Two word arm) (g, h) = h
else_part _ h = (tt, tt)

assigned : (p : Place) (e r : Node) → ArmsHaveBlocks e → ArmsHaveBlocks r → ArmsHaveBlocks (reads.assigned p e r)
assigned p e Nothing g h = g
assigned p e r g h = both e r g h

pub simple : Keeps reads.simple
simple (Two a right) (g, h) = assigned a.place (node_in a.made) (node_in right.made) (node_kept a.made g) (node_kept right.made h)
simple _ h = tt
