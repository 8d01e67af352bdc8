-- What is made of parts in which each argument is a node has such arguments.
use Rattle.std.proofs.Common.{ℕ, List}
use Rattle.vg_base.specs.declared.place.Place.{Place}
use Rattle.vg_syntax.specs.declared.kind.Kind.{Kind}
use Rattle.vg_syntax.specs.declared.kind.Kind.TheVariants as kind
use Rattle.vg_syntax.specs.Tree.{Node, Nothing, Then}
use Rattle.vg_syntax.specs.Made.{Made, Word, Tree, Row, Type', Arms, Header, Levels, Indexed, Sized, Object}
use Rattle.vg_syntax.specs.Made.{Array, Value, node_in, row_in, kind_in, suffixes_in, first_in, condition_in, next_in, arms_in, otherwise_in, text_in}
use Rattle.vg_syntax.specs.Reads as reads
use Rattle.vg_syntax.specs.Reads.{Kids, One, Two, Three, Four, Five, spot, value}
use Rattle.vg_argument_nodes.specs.Arguments.{ArgumentsAreNodes}

abbrev pub Kept : Made → Type 0
Kept (Tree n) = ArgumentsAreNodes n
Kept (Row ns) = ArgumentsAreNodes ns
Kept (Arms a o) = ArgumentsAreNodes a × ArgumentsAreNodes o
Kept (Header f c n) = ArgumentsAreNodes f × ArgumentsAreNodes c × ArgumentsAreNodes n
Kept (Levels n s) = ArgumentsAreNodes s
Kept (Indexed e s) = ArgumentsAreNodes e × ArgumentsAreNodes s
Kept (Sized n e s) = ArgumentsAreNodes e × ArgumentsAreNodes s
Kept (Object n a s) = ArgumentsAreNodes a × ArgumentsAreNodes s
Kept (Array t e s) = ArgumentsAreNodes e × ArgumentsAreNodes s
Kept _ = Unit {0}

abbrev pub KeptKids : Kids → Type 0
KeptKids (One a) = Kept a.made
KeptKids (Two a b) = Kept a.made × Kept b.made
KeptKids (Three a b c) = Kept a.made × Kept b.made × Kept c.made
KeptKids (Four a b c d) = Kept a.made × Kept b.made × Kept c.made × Kept d.made
KeptKids (Five a b c d e) = Kept a.made × Kept b.made × Kept c.made × Kept d.made × Kept e.made
KeptKids _ = Unit {0}

-- a part makes what has such arguments of what has them
abbrev pub Keeps : (Kids → Value) → Type 0
Keeps f = (k : Kids) → KeptKids k → Kept (f k).made

pub both : (a b : Node) → ArgumentsAreNodes a → ArgumentsAreNodes b → ArgumentsAreNodes (Then a b)
both a b g h = (g, h)

pub node_kept : (m : Made) → Kept m → ArgumentsAreNodes (node_in m)
node_kept (Tree n) h = h
node_kept _ h = tt

pub row_kept : (m : Made) → Kept m → ArgumentsAreNodes (row_in m)
row_kept (Row n) h = h
row_kept _ h = tt

pub suffixes_kept : (m : Made) → Kept m → ArgumentsAreNodes (suffixes_in m)
suffixes_kept (Levels n s) h = h
suffixes_kept _ h = tt

pub first_kept : (m : Made) → Kept m → ArgumentsAreNodes (first_in m)
first_kept (Header f c n) (g, h, i) = g
first_kept _ h = tt

pub condition_kept : (m : Made) → Kept m → ArgumentsAreNodes (condition_in m)
condition_kept (Header f c n) (g, h, i) = h
condition_kept _ h = tt

pub next_kept : (m : Made) → Kept m → ArgumentsAreNodes (next_in m)
next_kept (Header f c n) (g, h, i) = i
next_kept _ h = tt

pub rowed : Keeps reads.rowed
rowed (Two a rest) (g, h) = both (node_in a.made) (row_in rest.made) (node_kept a.made g) (row_kept rest.made h)
rowed _ h = tt

pub more_rowed : Keeps reads.more_rowed
more_rowed (Three comma a rest) (f, g, h) = both (node_in a.made) (row_in rest.made) (node_kept a.made g) (row_kept rest.made h)
more_rowed _ h = tt

pub enclosed : Keeps reads.enclosed
enclosed (Three left a close) (f, g, h) = g
enclosed _ h = tt

pub optional : Keeps reads.optional
optional (One a) h = h
optional _ h = tt

pub behind_sign : Keeps reads.behind_sign
behind_sign (Two sign a) (g, h) = node_kept a.made h
behind_sign _ h = tt

pub extended : Keeps reads.extended
extended (Two word name) (g, h) = h
extended _ h = tt

pub register : Keeps reads.register
register (Five a b c d e) h = tt
register _ h = tt

pub entry : Keeps reads.entry
entry (Five a b c d e) h = tt
entry _ h = tt

pub handler : Keeps reads.handler
handler (Three a b c) h = tt
handler _ h = tt

pub super_call : Keeps reads.super_call
super_call (Three a b c) (f, g, h) = h
super_call _ h = tt

pub parameters : Keeps reads.parameters
parameters (Two a b) h = tt
parameters _ h = tt

pub more_parameters : Keeps reads.more_parameters
more_parameters (Three a b c) h = tt
more_parameters _ h = tt

pub typed : Keeps reads.typed
typed (Three a b c) h = tt
typed _ h = tt

pub result_type : Keeps reads.result_type
result_type (Two a b) h = tt
result_type _ h = tt

pub type_of : Keeps reads.type_of
type_of (One a) h = h
type_of (Three a b c) h = tt
type_of _ h = tt

pub types : Keeps reads.types
types (Two a b) h = tt
types _ h = tt

pub more_types : Keeps reads.more_types
more_types (Three a b c) h = tt
more_types _ h = tt

pub plain : Keeps reads.plain
plain (Two a b) h = tt
plain _ h = tt

pub dimensions : Keeps reads.dimensions
dimensions (Three a b c) h = tt
dimensions _ h = tt

atom_of : (m : Made) → Kept m → Kept (reads.atom_of m)
atom_of (Word k t) h = tt
atom_of m h = h

pub atom : Keeps reads.atom
atom (One a) h = atom_of a.made h
atom _ h = tt

pub other_atom : Keeps reads.other_atom
other_atom (One a) h = tt
other_atom (Three a b c) h = tt
other_atom _ h = tt

pub header : Keeps reads.header
header (Five a b c d e) (f, g, h, i, j) = (node_kept b.made g, node_kept c.made h, node_kept d.made i)
header _ h = tt

part_of : (p : Place) (k : Kind) (m : Made) → Kept m → ArgumentsAreNodes (reads.part_of p k m)
part_of p k (Type' t) h = tt
part_of p k m h = node_kept m h

pub rest_of_level : Keeps reads.rest_of_level
rest_of_level (Three op a rest) (f, g, h) =
    both (reads.part_of op.place (kind_in op.made) a.made) (row_in rest.made) (part_of op.place (kind_in op.made) a.made g) (row_kept rest.made h)
rest_of_level _ h = tt

pub operators : Keeps reads.operators
operators (Two a b) h = tt
operators _ h = tt

pub bracketed : (p : Place) (m : Made) → Kept m → Kept (reads.bracketed p m)
bracketed p (Indexed e suffixes) (g, h) = both e suffixes g h
bracketed p m h = h

pub new_level : Keeps reads.new_level
new_level (Two close levels) (g, h) = suffixes_kept levels.made h
new_level (Three e close rest) (f, g, h) = (node_kept e.made f, row_kept rest.made h)
new_level _ h = tt

pub arms_kept : (m : Made) → Kept m → ArgumentsAreNodes (arms_in m)
arms_kept (Arms a o) (g, h) = g
arms_kept _ h = tt

pub otherwise_kept : (m : Made) → Kept m → ArgumentsAreNodes (otherwise_in m)
otherwise_kept (Arms a o) (g, h) = h
otherwise_kept _ h = tt

-- ---- declarations and statements

pub whole : Keeps reads.whole
whole (Two a rest) (g, h) = (node_kept a.made g, row_kept rest.made h)
whole _ h = tt

declared : (k : Kind) (p : Place) (name : List ℕ) (body : Node) → ArgumentsAreNodes body → ArgumentsAreNodes (reads.declared k p name body)
declared kind.Component p name body h = h
declared kind.Device p name body h = h
declared _ p name body h = h

pub declaration : Keeps reads.declaration
declaration (Four word name above body) (e, f, g, h) = row_kept body.made h
declaration (Three word name body) (f, g, h) = declared (kind_in word.made) word.place (text_in name.made) (row_in body.made) (row_kept body.made h)
declaration _ h = tt

field_or_constructor : (k : Kind) (p : Place) (b c d : Made) → Kept c → Kept d → ArgumentsAreNodes (reads.field_or_constructor k p b c d)
field_or_constructor kind.Field p b c d g h = node_kept c g
field_or_constructor _ p b c d g h = (row_kept c g, node_kept d h)

pub member : Keeps reads.member
member (Four word b c d) (e, f, g, h) = field_or_constructor (kind_in word.made) word.place b.made c.made d.made g h
member (Five word name params result block) (d, e, f, g, h) = node_kept block.made h
member _ h = tt

pub else_part : Keeps reads.else_part
else_part (Two word arm) (g, h) = h
else_part _ h = (tt, tt)

assigned : (p : Place) (e r : Node) → ArgumentsAreNodes e → ArgumentsAreNodes r → ArgumentsAreNodes (reads.assigned p e r)
assigned p e Nothing g h = g
assigned p e r g h = both e r g h

pub simple : Keeps reads.simple
simple (Two a right) (g, h) = assigned a.place (node_in a.made) (node_in right.made) (node_kept a.made g) (node_kept right.made h)
simple _ h = tt

pub block : Keeps reads.block
block (Three left statements close) (f, g, h) = row_kept statements.made g
block _ h = tt

jumps : (k : Kind) (p : Place) → ArgumentsAreNodes (reads.jump k p)
jumps kind.Break p = tt
jumps _ p = tt

statement_of_two : (p : Place) (m : Made) → Kept m → Kept (reads.statement_of_two p m)
statement_of_two p (Word k text) h = jumps k p
statement_of_two p m h = h

statement_of_three : (k : Kind) (p : Place) (b c : Made) → Kept b → Kept c → ArgumentsAreNodes (reads.statement_of_three k p b c)
statement_of_three kind.While p b c g h = (node_kept b g, node_kept c h)
statement_of_three kind.Return p b c g h = node_kept b g
statement_of_three _ p b c g h = (first_kept b g, condition_kept b g, next_kept b g, node_kept c h)

statement_of_four : (k : Kind) (p : Place) (b c d : Made) → Kept b → Kept c → Kept d → ArgumentsAreNodes (reads.statement_of_four k p b c d)
statement_of_four kind.If p b c d f g h = ((node_kept b f, node_kept c g, arms_kept d h), otherwise_kept d h)
statement_of_four _ p b c d f g h = node_kept c g

pub statement : Keeps reads.statement
statement (One a) h = h
statement (Two a end) (g, h) = statement_of_two a.place a.made g
statement (Three a b c) (f, g, h) = statement_of_three (kind_in a.made) a.place b.made c.made g h
statement (Four a b c d) (e, f, g, h) = statement_of_four (kind_in a.made) a.place b.made c.made d.made f g h
statement _ h = tt

pub else_arm : Keeps reads.else_arm
else_arm (One body) h = (tt, node_kept body.made h)
else_arm (Four word condition body rest) (e, f, g, h) =
    ((node_kept condition.made f, node_kept body.made g, arms_kept rest.made h), otherwise_kept rest.made h)
else_arm _ h = tt
