-- Numbers of nodes are nothing to their forms.
use Rattle.std.proofs.Common.{ℕ, ◌+◌}
use Rattle.vg_syntax.specs.Tree.{Node, Nothing, Then, Arm, Text, ClassDecl, ComponentDecl, FieldDecl, MethodDecl}
use Rattle.vg_syntax.specs.Tree.{ConstructorDecl, Block, Local, If, While, For, Return, Break, Continue, Assign, Eval, Number, CharLit, StringLit, True, False}
use Rattle.vg_syntax.specs.Tree.{Null, This, Name, NewObject, NewArray, Unary, Chain, Part, TypePart, Postfix, Member, Index, Call}
use Rattle.vg_syntax.specs.Numbering.{count_nodes, numbered}
use Rattle.vg_source_counts.specs.Forms.{Form, Statements, Arms, Expression, Arguments, Suffixes, Parts, WhereWritten, HasForm, HaveBodies, IsFormed}

where_written : (i : ℕ) (a : Node) (P Q : Type 0) → (P → Q) → WhereWritten a P → WhereWritten (numbered i a) Q
where_written i Nothing P Q f h = tt
where_written i _ P Q f h = f h

same : (a : Node) (f : Form) (i : ℕ) → HasForm f a → HasForm f (numbered i a)
same Nothing Statements i h = tt
same (Then a rest) Statements i (g, h) = (same a Statements i g, same rest Statements (i + count_nodes a) h)
same (Block at a) Statements i h = same a Statements (i + 1) h
same (Local at x t a) Statements i h =
    where_written (i + 1) a (HasForm Expression a) (HasForm Expression (numbered (i + 1) a)) (same a Expression (i + 1)) h
same (If at a b) Statements i (g, h) = (same a Arms (i + 1) g, same b Statements (i + 1 + count_nodes a) h)
same (While at a b) Statements i (g, h) = (same a Expression (i + 1) g, same b Statements (i + 1 + count_nodes a) h)
same (For at a b c d) Statements i (e, f, g, h) = (
  same a Statements (i + 1) e,
  where_written (i + 1 + count_nodes a) b (HasForm Expression b) (HasForm Expression (numbered (i + 1 + count_nodes a) b))
      (same b Expression (i + 1 + count_nodes a)) f,
  same c Statements (i + 1 + count_nodes a + count_nodes b) g,
  same d Statements (i + 1 + count_nodes a + count_nodes b + count_nodes c) h,
)
same (Return at a) Statements i h =
    where_written (i + 1) a (HasForm Expression a) (HasForm Expression (numbered (i + 1) a)) (same a Expression (i + 1)) h
same (Break at) Statements i h = tt
same (Continue at) Statements i h = tt
same (Assign at a b) Statements i (g, h) = (same a Expression (i + 1) g, same b Expression (i + 1 + count_nodes a) h)
same (Eval at a) Statements i h = same a Expression (i + 1) h
same Nothing Arms i h = tt
same (Arm a b c) Arms i (f, g, h) =
    (same a Expression i f, same b Statements (i + count_nodes a) g, same c Arms (i + count_nodes a + count_nodes b) h)
same (Number at digits) Expression i h = tt
same (CharLit at spelled) Expression i h = tt
same (StringLit at spelled) Expression i h = tt
same (True at) Expression i h = tt
same (False at) Expression i h = tt
same (Null at) Expression i h = tt
same (This at) Expression i h = tt
same (Name at x) Expression i h = tt
same (NewObject at c a) Expression i h = same a Arguments (i + 1) h
same (NewArray at t a) Expression i h = same a Expression (i + 1) h
same (Unary at ks a) Expression i h = same a Expression (i + 1) h
same (Chain at a b) Expression i (g, h) = (same a Expression (i + 1) g, same b Parts (i + 1 + count_nodes a) h)
same (Postfix at a b) Expression i (g, h) = (same a Expression (i + 1) g, same b Suffixes (i + 1 + count_nodes a) h)
same Nothing Arguments i h = tt
same (Then a rest) Arguments i (g, h) = (same a Expression i g, same rest Arguments (i + count_nodes a) h)
same (Then a rest) Suffixes i (g, h) = (
  same a Suffixes i g,
  where_written (i + count_nodes a) rest (HasForm Suffixes rest) (HasForm Suffixes (numbered (i + count_nodes a) rest))
      (same rest Suffixes (i + count_nodes a)) h,
)
same (Member at x) Suffixes i h = tt
same (Index at a) Suffixes i h = same a Expression (i + 1) h
same (Call at a) Suffixes i h = same a Arguments (i + 1) h
same (Then a rest) Parts i (g, h) = (
  same a Parts i g,
  where_written (i + count_nodes a) rest (HasForm Parts rest) (HasForm Parts (numbered (i + count_nodes a) rest))
      (same rest Parts (i + count_nodes a)) h,
)
same (Part at op a) Parts i h = same a Expression (i + 1) h
same (TypePart at op t) Parts i h = tt
same _ Statements i h = absurd h
same _ Arms i h = absurd h
same _ Expression i h = absurd h
same _ Arguments i h = absurd h
same _ Suffixes i h = absurd h
same _ Parts i h = absurd h

same_bodies : (i : ℕ) (a : Node) → HaveBodies a → HaveBodies (numbered i a)
same_bodies i (Then (FieldDecl at x t e) rest) h = same_bodies (i + count_nodes (FieldDecl at x t e)) rest h
same_bodies i (Then (MethodDecl at x ps t body) rest) (g, h) =
    (same body Statements (i + 1) g, same_bodies (i + count_nodes (MethodDecl at x ps t body)) rest h)
same_bodies i (Then (ConstructorDecl at ps calls args body) rest) h = same_bodies (i + count_nodes (ConstructorDecl at ps calls args body)) rest h
same_bodies i (Then _ rest) h = absurd h
same_bodies i _ h = tt

pub same_formed : (i : ℕ) (a : Node) → IsFormed a → IsFormed (numbered i a)
same_formed i (Text at a) h = same_formed (i + 1) a h
same_formed i (Then a rest) (g, h) = (same_formed i a g, same_formed (i + count_nodes a) rest h)
same_formed i (ClassDecl at n k a) h = same_bodies (i + 1) a h
same_formed i (ComponentDecl at n a) h = same_bodies (i + 1) a h
same_formed i _ h = tt
