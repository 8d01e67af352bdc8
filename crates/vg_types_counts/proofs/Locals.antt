-- The locals of numbered nodes, and their heights.
use Rattle.std.proofs.Common.{◌≡◌, ℕ, suc, ◌+◌, max, List, ◌++◌, length, flat_map, refl, ap, ◌∙◌, arith}
use Rattle.std.proofs.lemmas.List.{length-append}
use Rattle.std.proofs.lemmas.Grind.{flat_map-append}
use Rattle.vg_syntax.specs.Tree.{Node, Then, Arm, Text, ClassDecl, ComponentDecl, DeviceDecl, ProgramDecl, FieldDecl, MethodDecl}
use Rattle.vg_syntax.specs.Tree.{ConstructorDecl, Block}
use Rattle.vg_syntax.specs.Tree.{Local, If, While, For, Return, Assign, Eval, NewObject, NewArray, Unary, Chain, Part, Postfix, Index, Call}
use Rattle.vg_syntax.specs.Outline.{Outline, Empty, Beside, Inner, outline, size}
use Rattle.vg_syntax.specs.Numbering.{count_nodes, numbered}
use Rattle.vg_syntax.proofs.Numbering.{renumbered, numbered_outline}
use Rattle.vg_source.specs.Nodes.{nodes, local_node, count_locals}
use Rattle.vg_rules.specs.Counts.{levels, height}
use Rattle.vg_types_counts.specs.Extents.{locals_in}

abbrev found : List Node → ℕ
found ns = length (flat_map local_node ns)

found_more : (a b : List Node) → found (a ++ b) ≡ found a + found b
found_more a b = ap length (flat_map-append local_node a b) ∙ length-append (flat_map local_node a) (flat_map local_node b)

-- a node of which the locals are counted with these numbers
abbrev Counts : ℕ → Node → Type 0
Counts i a = count_locals (numbered i a) ≡ locals_in a

one : (i : ℕ) (a : Node) → Counts i a → count_locals (numbered i a) ≡ locals_in a + 0
one i a e = omega (arith, e)

beside : (i : ℕ) (a : Node) (j : ℕ) (b : Node) → Counts i a → Counts j b → found (nodes (numbered i a) ++ nodes (numbered j b)) ≡ locals_in a + locals_in b
beside i a j b e f = let s = found_more (nodes (numbered i a)) (nodes (numbered j b)) in omega (arith, s, e, f)

two : (i : ℕ) (a : Node) (j : ℕ) (b : Node) → Counts i a → Counts j b → found (nodes (numbered i a) ++ nodes (numbered j b)) ≡ locals_in a + (locals_in b + 0)
two i a j b e f = let s = beside i a j b e f in omega (arith, s)

three : (i : ℕ) (a : Node) (j : ℕ) (b : Node) (k : ℕ) (c : Node) → Counts i a → Counts j b → Counts k c
    → found (nodes (numbered i a) ++ nodes (numbered j b) ++ nodes (numbered k c)) ≡ locals_in a + (locals_in b + locals_in c)
three i a j b k c e f g =
    let s = beside i a j b e f in
    let t = found_more (nodes (numbered i a) ++ nodes (numbered j b)) (nodes (numbered k c)) in
    omega (arith, s, t, g)

four : (i : ℕ) (a : Node) (j : ℕ) (b : Node) (k : ℕ) (c : Node) (l : ℕ) (d : Node) → Counts i a → Counts j b → Counts k c → Counts l d
    → found (nodes (numbered i a) ++ nodes (numbered j b) ++ nodes (numbered k c) ++ nodes (numbered l d))
    ≡ locals_in a + (locals_in b + (locals_in c + (locals_in d + 0)))
four i a j b k c l d e f g h =
    let s = three i a j b k c e f g in
    let t = found_more (nodes (numbered i a) ++ nodes (numbered j b) ++ nodes (numbered k c)) (nodes (numbered l d)) in
    omega (arith, s, t, h)

pub locals_numbered : (i : ℕ) (n : Node) → count_locals (numbered i n) ≡ locals_in n
locals_numbered i (Then a b) = beside i a (i + count_nodes a) b (locals_numbered i a) (locals_numbered (i + count_nodes a) b)
locals_numbered i (Arm a b c) =
    three i a (i + count_nodes a) b (i + count_nodes a + count_nodes b) c
    (locals_numbered i a) (locals_numbered (i + count_nodes a) b) (locals_numbered (i + count_nodes a + count_nodes b) c)
locals_numbered i (Text at a) = one (i + 1) a (locals_numbered (i + 1) a)
locals_numbered i (ClassDecl at n k a) = one (i + 1) a (locals_numbered (i + 1) a)
locals_numbered i (ComponentDecl at n a) = one (i + 1) a (locals_numbered (i + 1) a)
locals_numbered i (DeviceDecl at n a) = one (i + 1) a (locals_numbered (i + 1) a)
locals_numbered i (ProgramDecl at n a) = one (i + 1) a (locals_numbered (i + 1) a)
locals_numbered i (FieldDecl at n t a) = one (i + 1) a (locals_numbered (i + 1) a)
locals_numbered i (MethodDecl at n ps t a) = one (i + 1) a (locals_numbered (i + 1) a)
locals_numbered i (ConstructorDecl at ps s a b) =
    two (i + 1) a (i + 1 + count_nodes a) b (locals_numbered (i + 1) a) (locals_numbered (i + 1 + count_nodes a) b)
locals_numbered i (Block at a) = one (i + 1) a (locals_numbered (i + 1) a)
locals_numbered i (Local at n t a) = ap suc (one (i + 1) a (locals_numbered (i + 1) a))
locals_numbered i (If at a b) = two (i + 1) a (i + 1 + count_nodes a) b (locals_numbered (i + 1) a) (locals_numbered (i + 1 + count_nodes a) b)
locals_numbered i (While at a b) = two (i + 1) a (i + 1 + count_nodes a) b (locals_numbered (i + 1) a) (locals_numbered (i + 1 + count_nodes a) b)
locals_numbered i (For at a b c d) =
    four (i + 1) a (i + 1 + count_nodes a) b (i + 1 + count_nodes a + count_nodes b) c (i + 1 + count_nodes a + count_nodes b + count_nodes c) d
    (locals_numbered (i + 1) a) (locals_numbered (i + 1 + count_nodes a) b) (locals_numbered (i + 1 + count_nodes a + count_nodes b) c)
    (locals_numbered (i + 1 + count_nodes a + count_nodes b + count_nodes c) d)
locals_numbered i (Return at a) = one (i + 1) a (locals_numbered (i + 1) a)
locals_numbered i (Assign at a b) = two (i + 1) a (i + 1 + count_nodes a) b (locals_numbered (i + 1) a) (locals_numbered (i + 1 + count_nodes a) b)
locals_numbered i (Eval at a) = one (i + 1) a (locals_numbered (i + 1) a)
locals_numbered i (NewObject at n a) = one (i + 1) a (locals_numbered (i + 1) a)
locals_numbered i (NewArray at t a) = one (i + 1) a (locals_numbered (i + 1) a)
locals_numbered i (Unary at ks a) = one (i + 1) a (locals_numbered (i + 1) a)
locals_numbered i (Chain at a b) = two (i + 1) a (i + 1 + count_nodes a) b (locals_numbered (i + 1) a) (locals_numbered (i + 1 + count_nodes a) b)
locals_numbered i (Part at k a) = one (i + 1) a (locals_numbered (i + 1) a)
locals_numbered i (Postfix at a b) = two (i + 1) a (i + 1 + count_nodes a) b (locals_numbered (i + 1) a) (locals_numbered (i + 1 + count_nodes a) b)
locals_numbered i (Index at a) = one (i + 1) a (locals_numbered (i + 1) a)
locals_numbered i (Call at a) = one (i + 1) a (locals_numbered (i + 1) a)
locals_numbered i _ = refl

levels_renumbered : (i : ℕ) (o : Outline) → levels (renumbered i o) ≡ levels o
levels_renumbered i Empty = refl
levels_renumbered i (Beside first rest) =
    ap (λ a. max a (levels (renumbered (i + size first) rest))) (levels_renumbered i first) ∙ ap (max (levels first)) (levels_renumbered (i + size first) rest)
levels_renumbered i (Inner id weight children) = ap suc (levels_renumbered (i + 1) children)

pub height_numbered : (i : ℕ) (n : Node) → height (numbered i n) ≡ height n
height_numbered i n = ap levels (numbered_outline i n) ∙ levels_renumbered i (outline n)
