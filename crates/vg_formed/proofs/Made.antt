-- What is made of parts that have their forms has its own.
use Rattle.std.proofs.Common.{◌≡◌, ℕ, List, sym, subst}
use Rattle.vg_base.specs.declared.place.Place.{Place}
use Rattle.vg_syntax.specs.declared.kind.Kind.{Kind}
use Rattle.vg_syntax.specs.declared.kind.Kind.TheVariants as kind
use Rattle.vg_syntax.specs.Tree.{Node, Nothing, Then, FieldDecl, MethodDecl, ConstructorDecl, NewObject, NewArray}
use Rattle.vg_syntax.specs.Made.{Made, Word, Tree, Row, Type', Indexed, Sized, Object, Array, Value, node_in, row_in, kind_in, suffixes_in}
use Rattle.vg_syntax.specs.Reads as reads
use Rattle.vg_syntax.specs.Reads.{spot, value}
use Rattle.vg_source_counts.specs.Forms.{Statements, Expression, Arguments, Suffixes, Parts, WhereWritten, HasForm, HaveBodies}

-- what is asked of a node that is written holds of it
pub asked_only : (a : Node) (P : Type 0) → P → WhereWritten a P
asked_only Nothing P p = tt
asked_only _ P p = p

abbrev pub IsExpression : Made → Type 0
IsExpression m = HasForm Expression (node_in m)

-- nothing, or a row of parts
abbrev pub HasParts : Made → Type 0
HasParts m = WhereWritten (row_in m) (HasForm Parts (row_in m))

-- nothing, or a row of suffixes
abbrev pub AreSuffixes : Node → Type 0
AreSuffixes a = WhereWritten a (HasForm Suffixes a)

abbrev pub IsType : Made → Type 0
IsType (Type' t) = Unit {0}
IsType _ = ⊥

abbrev pub AreArguments : Made → Type 0
AreArguments (Row a) = HasForm Arguments a
AreArguments _ = ⊥

abbrev pub IsNew : Made → Type 0
IsNew (Object name arguments suffixes) = HasForm Arguments arguments × AreSuffixes suffixes
IsNew (Array element size suffixes) = HasForm Expression size × AreSuffixes suffixes
IsNew _ = ⊥

abbrev pub IsBehindName : Made → Type 0
IsBehindName (Object name arguments suffixes) = HasForm Arguments arguments × AreSuffixes suffixes
IsBehindName (Sized n size suffixes) = HasForm Expression size × AreSuffixes suffixes
IsBehindName _ = ⊥

-- an index or a level, and what is behind it
abbrev pub IsLevel : Made → Type 0
IsLevel (Indexed e suffixes) = HasForm Expression e × AreSuffixes suffixes
IsLevel m = AreSuffixes (suffixes_in m)

abbrev pub IsMember : Node → Type 0
IsMember (FieldDecl at x t e) = Unit {0}
IsMember (MethodDecl at x ps t body) = HasForm Statements body
IsMember (ConstructorDecl at ps calls args body) = Unit {0}
IsMember _ = ⊥

-- ---- expressions

chained : (a : Value) (parts : Node) → IsExpression a.made → WhereWritten parts (HasForm Parts parts) → IsExpression (reads.chained a parts).made
chained a Nothing g h = g
chained a parts g h = (g, h)

pub level : (a : Value) → IsExpression a.made → (r : Value) → HasParts r.made → IsExpression (reads.chained a (row_in r.made)).made
level a g r h = chained a (row_in r.made) g h

part_of : (p : Place) (k : Kind) (m : Made) → IsExpression m → HasForm Parts (reads.part_of p k m)
part_of p k (Type' t) h = tt
part_of p k m h = h

type_part_of : (p : Place) (k : Kind) (m : Made) → IsType m → HasForm Parts (reads.part_of p k m)
type_part_of p k (Type' t) h = tt
type_part_of p k _ h = absurd h

pub operand : (p : Place) (k : Kind) (a r : Made) → IsExpression a → HasParts r
    → HasForm Parts (reads.part_of p k a) × WhereWritten (row_in r) (HasForm Parts (row_in r))
operand p k a r g h = (part_of p k a g, h)

pub type_operand : (p : Place) (k : Kind) (a r : Made) → IsType a → HasParts r
    → HasForm Parts (reads.part_of p k a) × WhereWritten (row_in r) (HasForm Parts (row_in r))
type_operand p k a r g h = (type_part_of p k a g, h)

suffixed : (a : Value) (suffixes : Node) → IsExpression a.made → AreSuffixes suffixes → IsExpression (reads.suffixed a suffixes).made
suffixed a Nothing g h = g
suffixed a suffixes g h = (g, h)

fresh : (p : Place) (m : Made) → IsNew m → IsExpression (reads.fresh p m).made
fresh p (Object name arguments suffixes) (g, h) = suffixed (value p (Tree (NewObject (spot p) name arguments))) suffixes g h
fresh p (Array element size suffixes) (g, h) = suffixed (value p (Tree (NewArray (spot p) element size))) suffixes g h
fresh p _ h = absurd h

pub new_postfix : (a b : Value) → kind_in a.made ≡ kind.New → IsNew b.made → IsExpression (reads.postfix_of (kind_in a.made) a b).made
new_postfix a b e h = subst (λ z. IsExpression (reads.postfix_of z a b).made) (sym e) (fresh a.place b.made h)

pub primary_postfix : (p : Place) (m : Made) (b : Value) → IsExpression m → AreSuffixes (row_in b.made)
    → IsExpression (reads.postfix_of (kind_in m) (value p m) b).made
primary_postfix p (Tree n) b g h = suffixed (value p (Tree n)) (row_in b.made) g h
primary_postfix p _ b g h = absurd g

pub literal : (k : Kind) (p : Place) (text : List ℕ) → HasForm Expression (reads.literal k p text)
literal kind.Number p text = tt
literal kind.CharLiteral p text = tt
literal kind.StringLiteral p text = tt
literal kind.True p text = tt
literal kind.False p text = tt
literal kind.Null p text = tt
literal kind.This p text = tt
literal _ p text = tt

-- ---- suffixes

pub arguments_in : (m : Made) → AreArguments m → HasForm Arguments (row_in m)
arguments_in (Row a) h = h
arguments_in _ h = absurd h

pub call : (p : Place) (a : Made) → AreArguments a → HasForm Suffixes (reads.suffix_of p a)
call p (Row arguments) h = h
call p _ h = absurd h

pub index : (p : Place) (a : Made) → IsExpression a → HasForm Suffixes (reads.suffix_of p a)
index p (Tree n) h = h
index p _ h = absurd h

pub object_of_name : (a b : Made) → AreArguments a → AreSuffixes (row_in b) → IsBehindName (reads.behind_name a b)
object_of_name (Row arguments) b g h = (g, h)
object_of_name _ b g h = absurd g

pub array_of_name : (a b : Made) → IsExpression a → AreSuffixes (suffixes_in b) → IsBehindName (reads.behind_name a b)
array_of_name (Tree n) b g h = (g, h)
array_of_name _ b g h = absurd g

pub named : (name : List ℕ) (m : Made) → IsBehindName m → IsNew (reads.named name m)
named name (Object n arguments suffixes) h = h
named name (Sized n size suffixes) h = h
named name _ h = absurd h

pub call_behind : (p : Place) (a b : Made) → AreArguments a → AreSuffixes (row_in b) → AreSuffixes (suffixes_in (reads.level_or_suffix p a b))
call_behind p (Row arguments) b g h = (g, h)
call_behind p _ b g h = absurd g

bracketed : (p : Place) (m : Made) → IsLevel m → AreSuffixes (suffixes_in (reads.bracketed p m))
bracketed p (Indexed e suffixes) (g, h) = (g, h)
bracketed p m h = h

abbrev pub IsToken : Made → Type 0
IsToken (Word k text) = Unit {0}
IsToken _ = ⊥

pub bracket_behind : (p : Place) (a b : Made) → IsToken a → IsLevel b → AreSuffixes (suffixes_in (reads.level_or_suffix p a b))
bracket_behind p (Word k text) b g h = bracketed p b h
bracket_behind p _ b g h = absurd g

-- ---- statements and members

pub jump : (k : Kind) (p : Place) → HasForm Statements (reads.jump k p)
jump kind.Break p = tt
jump _ p = tt

pub statement_of_two : (p : Place) (m : Made) → HasForm Statements (node_in m) → HasForm Statements (node_in (reads.statement_of_two p m))
statement_of_two p (Word k text) h = jump k p
statement_of_two p m h = h

pub assigned : (p : Place) (e r : Node) → HasForm Expression e → WhereWritten r (HasForm Expression r) → HasForm Statements (reads.assigned p e r)
assigned p e Nothing g h = g
assigned p e r g h = (g, h)

pub field_or_constructor : (k : Kind) (p : Place) (b c d : Made) → IsMember (reads.field_or_constructor k p b c d)
field_or_constructor kind.Field p b c d = tt
field_or_constructor _ p b c d = tt

pub more_members : (a rest : Node) → IsMember a → HaveBodies rest → HaveBodies (Then a rest)
more_members (FieldDecl at x t e) rest g h = h
more_members (MethodDecl at x ps t body) rest g h = (g, h)
more_members (ConstructorDecl at ps calls args body) rest g h = h
more_members _ rest g h = absurd g
