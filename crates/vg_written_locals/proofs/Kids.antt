-- What is made of parts whose parameters and locals have written types has them too.
use Rattle.std.proofs.Common.{ℕ, List, [], ◌∷◌, ◌++◌}
use Rattle.std.specs.List.{AllByRecursion}
use Rattle.vg_base.specs.declared.place.Place.{Place}
use Rattle.vg_syntax.specs.declared.kind.Kind.{Kind}
use Rattle.vg_syntax.specs.declared.kind.Kind.TheVariants as kind
use Rattle.vg_syntax.specs.Tree.{Node, Nothing, Then, Arm, NewObject, NewArray}
use Rattle.vg_syntax.specs.Made.{Made, Word, Tree, Row, Type', Arms, Header, Levels, Indexed, Sized, Object, Array, Value, text_in, node_in, row_in, kind_in}
use Rattle.vg_syntax.specs.Made.{suffixes_in, first_in, condition_in, next_in, arms_in, otherwise_in}
use Rattle.vg_syntax.specs.Reads as reads
use Rattle.vg_syntax.specs.Reads.{Kids, One, Two, Three, Four, Five, spot, value}
use Rattle.vg_source.specs.Nodes.{nodes}
use Rattle.vg_written_locals.specs.Locals.{HasWrittenTypes, HaveWrittenTypes}

pub all_both : {A : Type 0} (P : A → Type 0) (xs ys : List A) → AllByRecursion P xs → AllByRecursion P ys → AllByRecursion P (xs ++ ys)
all_both P [] ys g h = h
all_both P (x ∷ xs) ys (a, g) h = (a, all_both P xs ys g h)

abbrev pub F : Node → Type 0
F a = HaveWrittenTypes a

abbrev pub Free : Made → Type 0
Free (Tree n) = F n
Free (Row ns) = F ns
Free (Arms a o) = F a × F o
Free (Header f c n) = F f × F c × F n
Free (Levels n s) = F s
Free (Indexed e s) = F e × F s
Free (Sized n e s) = F e × F s
Free (Object n a s) = F a × F s
Free (Array t e s) = F e × F s
Free _ = Unit {0}

abbrev pub FreeKids : Kids → Type 0
FreeKids (One a) = Free a.made
FreeKids (Two a b) = Free a.made × Free b.made
FreeKids (Three a b c) = Free a.made × Free b.made × Free c.made
FreeKids (Four a b c d) = Free a.made × Free b.made × Free c.made × Free d.made
FreeKids (Five a b c d e) = Free a.made × Free b.made × Free c.made × Free d.made × Free e.made
FreeKids _ = Unit {0}

-- a part makes what is so of what is so
abbrev pub Keeps : (Kids → Value) → Type 0
Keeps f = (k : Kids) → FreeKids k → Free (f k).made

pub both : (a b : Node) → F a → F b → F (Then a b)
both a b g h = all_both (HasWrittenTypes) (nodes a) (nodes b) g h

pub node_free : (m : Made) → Free m → F (node_in m)
node_free (Tree n) h = h
node_free _ h = tt

pub row_free : (m : Made) → Free m → F (row_in m)
row_free (Row n) h = h
row_free _ h = tt

suffixes_free : (m : Made) → Free m → F (suffixes_in m)
suffixes_free (Levels n s) h = h
suffixes_free _ h = tt

first_free : (m : Made) → Free m → F (first_in m)
first_free (Header f c n) (g, h, i) = g
first_free _ h = tt

condition_free : (m : Made) → Free m → F (condition_in m)
condition_free (Header f c n) (g, h, i) = h
condition_free _ h = tt

next_free : (m : Made) → Free m → F (next_in m)
next_free (Header f c n) (g, h, i) = i
next_free _ h = tt

arms_free : (m : Made) → Free m → F (arms_in m)
arms_free (Arms a o) (g, h) = g
arms_free _ h = tt

otherwise_free : (m : Made) → Free m → F (otherwise_in m)
otherwise_free (Arms a o) (g, h) = h
otherwise_free _ h = tt

pub rowed : Keeps reads.rowed
rowed (Two a rest) (g, h) = both (node_in a.made) (row_in rest.made) (node_free a.made g) (row_free rest.made h)
rowed _ h = tt

pub more_rowed : Keeps reads.more_rowed
more_rowed (Three comma a rest) (f, g, h) = both (node_in a.made) (row_in rest.made) (node_free a.made g) (row_free rest.made h)
more_rowed _ h = tt

pub enclosed : Keeps reads.enclosed
enclosed (Three left a close) (f, g, h) = g
enclosed _ h = tt

pub optional : Keeps reads.optional
optional (One a) h = h
optional _ h = tt

pub behind_sign : Keeps reads.behind_sign
behind_sign (Two sign a) (g, h) = node_free a.made h
behind_sign _ h = tt

pub extended : Keeps reads.extended
extended (Two word name) (g, h) = h
extended _ h = tt

pub register : Keeps reads.register
register (Five a b c d e) h = (tt, tt)
register _ h = tt

pub entry : Keeps reads.entry
entry (Five a b c d e) h = (tt, tt)
entry _ h = tt

pub handler : Keeps reads.handler
handler (Three a b c) h = tt
handler _ h = tt

pub super_call : Keeps reads.super_call
super_call (Three a b c) (f, g, h) = h
super_call _ h = tt

pub parameters : Keeps reads.parameters
parameters (Two a b) h = tt
parameters _ h = tt

pub more_parameters : Keeps reads.more_parameters
more_parameters (Three a b c) h = tt
more_parameters _ h = tt

pub typed : Keeps reads.typed
typed (Three a b c) h = tt
typed _ h = tt

pub result_type : Keeps reads.result_type
result_type (Two a b) h = tt
result_type _ h = tt

pub type_of : Keeps reads.type_of
type_of (One a) h = h
type_of (Three a b c) h = tt
type_of _ h = tt

pub types : Keeps reads.types
types (Two a b) h = tt
types _ h = tt

pub more_types : Keeps reads.more_types
more_types (Three a b c) h = tt
more_types _ h = tt

pub plain : Keeps reads.plain
plain (Two a b) h = tt
plain _ h = tt

pub dimensions : Keeps reads.dimensions
dimensions (Three a b c) h = tt
dimensions _ h = tt

atom_of : (m : Made) → Free m → Free (reads.atom_of m)
atom_of (Word k t) h = tt
atom_of m h = h

pub atom : Keeps reads.atom
atom (One a) h = atom_of a.made h
atom _ h = tt

pub other_atom : Keeps reads.other_atom
other_atom (One a) h = tt
other_atom (Three a b c) h = tt
other_atom _ h = tt

pub header : Keeps reads.header
header (Five a b c d e) (f, g, h, i, j) = (node_free b.made g, node_free c.made h, node_free d.made i)
header _ h = tt

chained : (a : Value) (parts : Node) → Free a.made → F parts → Free (reads.chained a parts).made
chained a Nothing g h = g
chained a parts g h = (tt, both (node_in a.made) parts (node_free a.made g) h)

pub level : Keeps reads.level
level (Two a rest) (g, h) = chained a (row_in rest.made) g (row_free rest.made h)
level _ h = tt

part_of : (p : Place) (k : Kind) (m : Made) → Free m → F (reads.part_of p k m)
part_of p k (Type' t) h = (tt, tt)
part_of p k m h = (tt, node_free m h)

pub rest_of_level : Keeps reads.rest_of_level
rest_of_level (Three op a rest) (f, g, h) =
    both (reads.part_of op.place (kind_in op.made) a.made) (row_in rest.made) (part_of op.place (kind_in op.made) a.made g) (row_free rest.made h)
rest_of_level _ h = tt

pub unary : Keeps reads.unary
unary (One a) h = h
unary (Three op ops operand) (f, g, h) = (tt, node_free operand.made h)
unary _ h = tt

pub operators : Keeps reads.operators
operators (Two a b) h = tt
operators _ h = tt

suffixed : (a : Value) (suffixes : Node) → Free a.made → F suffixes → Free (reads.suffixed a suffixes).made
suffixed a Nothing g h = g
suffixed a suffixes g h = (tt, both (node_in a.made) suffixes (node_free a.made g) h)

fresh : (p : Place) (m : Made) → Free m → Free (reads.fresh p m).made
fresh p (Object name arguments suffixes) (g, h) = suffixed (value p (Tree (NewObject (spot p) name arguments))) suffixes (tt, g) h
fresh p (Array element size suffixes) (g, h) = suffixed (value p (Tree (NewArray (spot p) element size))) suffixes (tt, g) h
fresh p m h = tt

postfix_of : (k : Kind) (a b : Value) → Free a.made → Free b.made → Free (reads.postfix_of k a b).made
postfix_of kind.New a b g h = fresh a.place b.made h
postfix_of _ a b g h = suffixed a (row_in b.made) g (row_free b.made h)

pub postfix : Keeps reads.postfix
postfix (Two a b) (g, h) = postfix_of (kind_in a.made) a b g h
postfix _ h = tt

suffix_of : (p : Place) (m : Made) → Free m → F (reads.suffix_of p m)
suffix_of p (Row arguments) h = (tt, h)
suffix_of p m h = (tt, node_free m h)

pub suffixes : Keeps reads.suffixes
suffixes (Three dot name rest) (f, g, h) = (tt, row_free rest.made h)
suffixes (Two a rest) (g, h) =
    both (reads.suffix_of a.place a.made) (row_in rest.made) (suffix_of a.place a.made g) (row_free rest.made h)
suffixes _ h = tt

behind_name : (a b : Made) → Free a → Free b → Free (reads.behind_name a b)
behind_name (Row arguments) b g h = (g, row_free b h)
behind_name size b g h = (node_free size g, suffixes_free b h)

pub new_of_name : Keeps reads.new_of_name
new_of_name (Two a b) (g, h) = behind_name a.made b.made g h
new_of_name _ h = tt

named : (name : List ℕ) (m : Made) → Free m → Free (reads.named name m)
named name (Object n arguments behind) h = h
named name (Sized n size behind) (g, h) = (g, h)
named name m h = h

pub new_part : Keeps reads.new_part
new_part (Two name behind) (g, h) = named _ behind.made h
new_part (Three word size levels) (f, g, h) = (node_free size.made g, suffixes_free levels.made h)
new_part _ h = tt

bracketed : (p : Place) (m : Made) → Free m → Free (reads.bracketed p m)
bracketed p (Indexed e suffixes) (g, h) = (tt, both e suffixes g h)
bracketed p m h = h

level_or_suffix : (p : Place) (a b : Made) → Free a → Free b → Free (reads.level_or_suffix p a b)
level_or_suffix p (Row arguments) rest g h = (tt, both arguments (row_in rest) g (row_free rest h))
level_or_suffix p bracket b g h = bracketed p b h

pub new_levels : Keeps reads.new_levels
new_levels (Three dot name rest) (f, g, h) = (tt, row_free rest.made h)
new_levels (Two a b) (g, h) = level_or_suffix a.place a.made b.made g h
new_levels _ h = tt

pub new_level : Keeps reads.new_level
new_level (Two close levels) (g, h) = suffixes_free levels.made h
new_level (Three e close rest) (f, g, h) = (node_free e.made f, row_free rest.made h)
new_level _ h = tt

literal : (k : Kind) (p : Place) (text : List ℕ) → F (reads.literal k p text)
literal kind.Number p text = (tt, tt)
literal kind.CharLiteral p text = (tt, tt)
literal kind.StringLiteral p text = (tt, tt)
literal kind.True p text = (tt, tt)
literal kind.False p text = (tt, tt)
literal kind.Null p text = (tt, tt)
literal kind.This p text = (tt, tt)
literal _ p text = (tt, tt)

pub primary : Keeps reads.primary
primary (One word) h = literal (kind_in word.made) word.place (text_in word.made)
primary (Three left e close) (f, g, h) = g
primary _ h = tt

-- ---- declarations

pub whole : Keeps reads.whole
whole (Two a rest) (g, h) = (tt, both (node_in a.made) (row_in rest.made) (node_free a.made g) (row_free rest.made h))
whole _ h = tt

declared : (k : Kind) (p : Place) (name : List ℕ) (body : Node) → F body → F (reads.declared k p name body)
declared kind.Component p name body h = (tt, h)
declared kind.Device p name body h = (tt, h)
declared _ p name body h = (tt, h)

pub declaration : Keeps reads.declaration
declaration (Four word name above body) (f, g, h, i) = (tt, row_free body.made i)
declaration (Three word name body) (f, g, h) = declared (kind_in word.made) word.place (text_in name.made) (row_in body.made) (row_free body.made h)
declaration _ h = tt

-- ---- statements

pub block : Keeps reads.block
block (Three left statements close) (f, g, h) = (tt, row_free statements.made g)
block _ h = tt

jump : (k : Kind) (p : Place) → F (reads.jump k p)
jump kind.Break p = (tt, tt)
jump _ p = (tt, tt)

pub of_two : (p : Place) (m : Made) → Free m → Free (reads.statement_of_two p m)
of_two p (Word k text) h = jump k p
of_two p m h = h

pub of_three : (k : Kind) (p : Place) (b c : Made) → Free b → Free c → F (reads.statement_of_three k p b c)
of_three kind.While p b c g h = (tt, both (node_in b) (node_in c) (node_free b g) (node_free c h))
of_three kind.Return p b c g h = (tt, node_free b g)
of_three _ p b c g h = (
  tt,
  both (Then (Then (first_in b) (condition_in b)) (next_in b)) (node_in c)
      (both (Then (first_in b) (condition_in b)) (next_in b) (both (first_in b) (condition_in b) (first_free b g) (condition_free b g)) (next_free b g))
      (node_free c h),
)

pub of_if : (p : Place) (b c d : Made) → Free b → Free c → Free d → F (reads.statement_of_four kind.If p b c d)
of_if p b c d f g h = (
  tt,
  both (Arm (node_in b) (node_in c) (arms_in d)) (otherwise_in d)
      (both (Then (node_in b) (node_in c)) (arms_in d) (both (node_in b) (node_in c) (node_free b f) (node_free c g)) (arms_free d h))
      (otherwise_free d h),
)

pub else_part : Keeps reads.else_part
else_part (Two word arm) (g, h) = h
else_part _ h = (tt, tt)

pub else_arm : Keeps reads.else_arm
else_arm (One body) h = (tt, node_free body.made h)
else_arm (Four word condition body rest) (f, g, h, i) = (
  both (Then (node_in condition.made) (node_in body.made)) (arms_in rest.made)
      (both (node_in condition.made) (node_in body.made) (node_free condition.made g) (node_free body.made h)) (arms_free rest.made i),
  otherwise_free rest.made i,
)
else_arm _ h = tt

assigned : (p : Place) (e right : Node) → F e → F right → F (reads.assigned p e right)
assigned p e Nothing g h = (tt, g)
assigned p e right g h = (tt, both e right g h)

pub simple : Keeps reads.simple
simple (Two a right) (g, h) = assigned a.place (node_in a.made) (node_in right.made) (node_free a.made g) (node_free right.made h)
simple _ h = tt
