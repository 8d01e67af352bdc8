-- The numbers of nodes leave the outline of a tree as it is, but for the numbers.
-- One induction over the nodes shows it. What is counted follows by inductions of three cases over the outline.
use Rattle.std.proofs.Common.{◌≡◌, ℕ, ◌+◌, refl, ap, ◌∙◌, arith}
use Rattle.vg_syntax.specs.Tree.{Node, Then, Arm, Text, ClassDecl, ComponentDecl, DeviceDecl, ProgramDecl, FieldDecl, MethodDecl, ConstructorDecl, Block}
use Rattle.vg_syntax.specs.Tree.{Local, If, While, For, Return, Assign, Eval, NewObject, NewArray, Unary, Chain, Part, Postfix, Index, Call}
use Rattle.vg_syntax.specs.Outline.{Outline, Empty, Beside, Inner, outline, size, total}
use Rattle.vg_syntax.specs.Numbering.{count_nodes, count_code, numbered}

-- the same outlines beside one another, and below a node
pub both : {a b c d : Outline} → a ≡ c → b ≡ d → Beside a b ≡ Beside c d
both {a} {b} {c} {d} e f = ap (λ x. Beside x b) e ∙ ap (Beside c) f

pub one : {i w : ℕ} {a b : Outline} → a ≡ b → Inner i w (Beside a Empty) ≡ Inner i w (Beside b Empty)
one {i} {w} e = ap (λ x. Inner i w (Beside x Empty)) e

pub two : {i w : ℕ} {a b c d : Outline} → a ≡ c → b ≡ d → Inner i w (Beside a (Beside b Empty)) ≡ Inner i w (Beside c (Beside d Empty))
two {i} {w} e f = ap (Inner i w) (both e (both f refl))

pub four : {i w : ℕ} {a b c d k l m n : Outline} → a ≡ k → b ≡ l → c ≡ m → d ≡ n
    → Inner i w (Beside a (Beside b (Beside c (Beside d Empty)))) ≡ Inner i w (Beside k (Beside l (Beside m (Beside n Empty))))
four {i} {w} e f g h = ap (Inner i w) (both e (both f (both g (both h refl))))

-- an outline with its nodes numbered from i on
abbrev pub renumbered : ℕ → Outline → Outline
renumbered i Empty = Empty
renumbered i (Beside first rest) = Beside (renumbered i first) (renumbered (i + size first) rest)
renumbered i (Inner id weight children) = Inner i weight (renumbered (i + 1) children)

-- what is numbered keeps its outline but for the numbers
pub numbered_outline : (i : ℕ) (n : Node) → outline (numbered i n) ≡ renumbered i (outline n)
numbered_outline i (Then first rest) = both (numbered_outline i first) (numbered_outline (i + count_nodes first) rest)
numbered_outline i (Arm condition block rest) =
    both (numbered_outline i condition) (both (numbered_outline (i + count_nodes condition) block)
    (numbered_outline (i + count_nodes condition + count_nodes block) rest))
numbered_outline i (Text at declarations) = one (numbered_outline (i + 1) declarations)
numbered_outline i (ClassDecl at name above members) = one (numbered_outline (i + 1) members)
numbered_outline i (ComponentDecl at name members) = one (numbered_outline (i + 1) members)
numbered_outline i (DeviceDecl at name registers) = one (numbered_outline (i + 1) registers)
numbered_outline i (ProgramDecl at name entries) = one (numbered_outline (i + 1) entries)
numbered_outline i (FieldDecl at name type value) = one (numbered_outline (i + 1) value)
numbered_outline i (MethodDecl at name params result body) = one (numbered_outline (i + 1) body)
numbered_outline i (ConstructorDecl at params calls_super arguments body) =
    two (numbered_outline (i + 1) arguments) (numbered_outline (i + 1 + count_nodes arguments) body)
numbered_outline i (Block at statements) = one (numbered_outline (i + 1) statements)
numbered_outline i (Local at name type value) = one (numbered_outline (i + 1) value)
numbered_outline i (If at arms otherwise) = two (numbered_outline (i + 1) arms) (numbered_outline (i + 1 + count_nodes arms) otherwise)
numbered_outline i (While at condition body) = two (numbered_outline (i + 1) condition) (numbered_outline (i + 1 + count_nodes condition) body)
numbered_outline i (For at first condition next body) =
    four (numbered_outline (i + 1) first) (numbered_outline (i + 1 + count_nodes first) condition)
    (numbered_outline (i + 1 + count_nodes first + count_nodes condition) next)
    (numbered_outline (i + 1 + count_nodes first + count_nodes condition + count_nodes next) body)
numbered_outline i (Return at value) = one (numbered_outline (i + 1) value)
numbered_outline i (Assign at target value) = two (numbered_outline (i + 1) target) (numbered_outline (i + 1 + count_nodes target) value)
numbered_outline i (Eval at expression) = one (numbered_outline (i + 1) expression)
numbered_outline i (NewObject at name arguments) = one (numbered_outline (i + 1) arguments)
numbered_outline i (NewArray at element size) = one (numbered_outline (i + 1) size)
numbered_outline i (Unary at operators operand) = one (numbered_outline (i + 1) operand)
numbered_outline i (Chain at first parts) = two (numbered_outline (i + 1) first) (numbered_outline (i + 1 + count_nodes first) parts)
numbered_outline i (Part at op operand) = one (numbered_outline (i + 1) operand)
numbered_outline i (Postfix at primary suffixes) = two (numbered_outline (i + 1) primary) (numbered_outline (i + 1 + count_nodes primary) suffixes)
numbered_outline i (Index at index) = one (numbered_outline (i + 1) index)
numbered_outline i (Call at arguments) = one (numbered_outline (i + 1) arguments)
numbered_outline i _ = refl

pub size_renumbered : (i : ℕ) (o : Outline) → size (renumbered i o) ≡ size o
size_renumbered i Empty = refl
size_renumbered i (Beside first rest) = let e = size_renumbered i first in let f = size_renumbered (i + size first) rest in omega (arith, e, f)
size_renumbered i (Inner id weight children) = ap (λ k. 1 + k) (size_renumbered (i + 1) children)

-- the numbers of nodes do not change how many there are
pub count_numbered : (i : ℕ) (n : Node) → count_nodes (numbered i n) ≡ count_nodes n
count_numbered i n = ap size (numbered_outline i n) ∙ size_renumbered i (outline n)

pub total_renumbered : (i : ℕ) (o : Outline) → total (renumbered i o) ≡ total o
total_renumbered i Empty = refl
total_renumbered i (Beside first rest) = let e = total_renumbered i first in let f = total_renumbered (i + size first) rest in omega (arith, e, f)
total_renumbered i (Inner id weight children) = ap (λ k. weight + k) (total_renumbered (i + 1) children)

-- nor how many of them are statements and expressions
pub code_numbered : (i : ℕ) (n : Node) → count_code (numbered i n) ≡ count_code n
code_numbered i n = ap total (numbered_outline i n) ∙ total_renumbered i (outline n)
