-- Numbers of nodes are nothing to locals.
use Rattle.std.proofs.Common.{◌≡◌, ℕ, suc, ◌+◌, refl, ap, ◌∙◌, arith}
use Rattle.vg_syntax.specs.Tree.{Node, Nothing, Then, Arm, Text, ClassDecl, ComponentDecl, DeviceDecl, ProgramDecl, FieldDecl, MethodDecl}
use Rattle.vg_syntax.specs.Tree.{ConstructorDecl, Block, Local, If, While, For, Return, Assign, Eval, NewObject, NewArray, Unary, Chain, Part, Postfix}
use Rattle.vg_syntax.specs.Tree.{Index, Call}
use Rattle.vg_syntax.specs.Numbering.{count_nodes, numbered}
use Rattle.vg_source.specs.Nodes.{count_locals}
use Rattle.vg_method_locals.specs.Among.{IsArms, LocalsAmongStatements, InMethods}
use Rattle.vg_method_locals.proofs.Counting.{sum}

two : (c d a b : Node) → count_locals c ≡ count_locals a → count_locals d ≡ count_locals b → count_locals (Then c d) ≡ count_locals (Then a b)
two c d a b e f = let s = sum c d in let t = sum a b in omega (arith, e, f, s, t)

same : (i : ℕ) (a : Node) → count_locals (numbered i a) ≡ count_locals a
same i (Then a b) = two (numbered i a) (numbered (i + count_nodes a) b) a b (same i a) (same (i + count_nodes a) b)
same i (Arm a b c) =
    two (Then (numbered i a) (numbered (i + count_nodes a) b)) (numbered (i + count_nodes a + count_nodes b) c) (Then a b) c
    (two (numbered i a) (numbered (i + count_nodes a) b) a b (same i a) (same (i + count_nodes a) b))
    (same (i + count_nodes a + count_nodes b) c)
same i (Text at a) = same (i + 1) a
same i (ClassDecl at n k a) = same (i + 1) a
same i (ComponentDecl at n a) = same (i + 1) a
same i (DeviceDecl at n a) = same (i + 1) a
same i (ProgramDecl at n a) = same (i + 1) a
same i (FieldDecl at n t a) = same (i + 1) a
same i (MethodDecl at n ps t a) = same (i + 1) a
same i (ConstructorDecl at ps s a b) =
    two (numbered (i + 1) a) (numbered (i + 1 + count_nodes a) b) a b (same (i + 1) a) (same (i + 1 + count_nodes a) b)
same i (Block at a) = same (i + 1) a
same i (Local at n t a) = ap suc (same (i + 1) a)
same i (If at a b) = two (numbered (i + 1) a) (numbered (i + 1 + count_nodes a) b) a b (same (i + 1) a) (same (i + 1 + count_nodes a) b)
same i (While at a b) = two (numbered (i + 1) a) (numbered (i + 1 + count_nodes a) b) a b (same (i + 1) a) (same (i + 1 + count_nodes a) b)
same i (For at a b c d) =
    let x = numbered (i + 1) a in
    let y = numbered (i + 1 + count_nodes a) b in
    let z = numbered (i + 1 + count_nodes a + count_nodes b) c in
    let w = numbered (i + 1 + count_nodes a + count_nodes b + count_nodes c) d in
    two (Then (Then x y) z) w (Then (Then a b) c) d
    (two (Then x y) z (Then a b) c (two x y a b (same (i + 1) a) (same (i + 1 + count_nodes a) b)) (same (i + 1 + count_nodes a + count_nodes b) c))
    (same (i + 1 + count_nodes a + count_nodes b + count_nodes c) d)
same i (Return at a) = same (i + 1) a
same i (Assign at a b) = two (numbered (i + 1) a) (numbered (i + 1 + count_nodes a) b) a b (same (i + 1) a) (same (i + 1 + count_nodes a) b)
same i (Eval at a) = same (i + 1) a
same i (NewObject at n a) = same (i + 1) a
same i (NewArray at t a) = same (i + 1) a
same i (Unary at ks a) = same (i + 1) a
same i (Chain at a b) = two (numbered (i + 1) a) (numbered (i + 1 + count_nodes a) b) a b (same (i + 1) a) (same (i + 1 + count_nodes a) b)
same i (Part at k a) = same (i + 1) a
same i (Postfix at a b) = two (numbered (i + 1) a) (numbered (i + 1 + count_nodes a) b) a b (same (i + 1) a) (same (i + 1 + count_nodes a) b)
same i (Index at a) = same (i + 1) a
same i (Call at a) = same (i + 1) a
same i _ = refl

arms_so : (i : ℕ) (a : Node) → IsArms a → IsArms (numbered i a)
arms_so i Nothing h = tt
arms_so i (Arm a b c) h = arms_so (i + count_nodes a + count_nodes b) c h
arms_so i _ h = absurd h

statements_so : (i : ℕ) (a : Node) → LocalsAmongStatements a → LocalsAmongStatements (numbered i a)
statements_so i Nothing h = tt
statements_so i (Then a b) (g, h) = (statements_so i a g, statements_so (i + count_nodes a) b h)
statements_so i (Arm a b c) (f, g, h) =
    (same i a ∙ f, statements_so (i + count_nodes a) b g, statements_so (i + count_nodes a + count_nodes b) c h)
statements_so i (Block at a) h = statements_so (i + 1) a h
statements_so i (Local at n t a) h = same (i + 1) a ∙ h
statements_so i (If at a b) (f, g, h) = (arms_so (i + 1) a f, statements_so (i + 1) a g, statements_so (i + 1 + count_nodes a) b h)
statements_so i (While at a b) (g, h) = (same (i + 1) a ∙ g, statements_so (i + 1 + count_nodes a) b h)
statements_so i (For at a b c d) (e, f, g, h) = (
  same (i + 1) a ∙ e,
  same (i + 1 + count_nodes a) b ∙ f,
  same (i + 1 + count_nodes a + count_nodes b) c ∙ g,
  statements_so (i + 1 + count_nodes a + count_nodes b + count_nodes c) d h,
)
statements_so i a h = same i a ∙ h

pub methods_so : (i : ℕ) (a : Node) → InMethods a → InMethods (numbered i a)
methods_so i (Then a b) (g, h) = (methods_so i a g, methods_so (i + count_nodes a) b h)
methods_so i (Text at a) h = methods_so (i + 1) a h
methods_so i (ClassDecl at n k a) h = methods_so (i + 1) a h
methods_so i (ComponentDecl at n a) h = methods_so (i + 1) a h
methods_so i (MethodDecl at n ps t a) h = statements_so (i + 1) a h
methods_so i _ h = tt
