-- Numbers of nodes are nothing to types.
use Rattle.std.proofs.Common.{ℕ, ◌+◌, List, ◌++◌}
use Rattle.std.specs.List.{AllByRecursion}
use Rattle.vg_syntax.specs.Tree.{Node, Nothing, Then, Arm, Text, ClassDecl, ComponentDecl, DeviceDecl, ProgramDecl, FieldDecl, MethodDecl}
use Rattle.vg_syntax.specs.Tree.{ConstructorDecl, Block, Local, If, While, For, Return, Assign, Eval, NewObject, NewArray, Unary, Chain}
use Rattle.vg_syntax.specs.Tree.{Part, Postfix, Index, Call}
use Rattle.vg_syntax.specs.Numbering.{count_nodes, numbered}
use Rattle.vg_source.specs.Nodes.{nodes}
use Rattle.vg_written_locals.specs.Locals.{HasWrittenTypes, HaveWrittenTypes}
use Rattle.vg_source_ranges.proofs.Bodies.{halves}
use Rattle.vg_written_locals.proofs.Kids.{all_both}

abbrev So : List Node → Type 0
So xs = AllByRecursion (HasWrittenTypes) xs

two : (xs ys us vs : List Node) → (So xs → So us) → (So ys → So vs) → So (xs ++ ys) → So (us ++ vs)
two xs ys us vs f g h = let q = halves (HasWrittenTypes) xs ys h in all_both (HasWrittenTypes) us vs (f q.0) (g q.1)

pub written_so : (i : ℕ) (a : Node) → HaveWrittenTypes a → HaveWrittenTypes (numbered i a)
written_so i (Then a b) h =
    two (nodes a) (nodes b) (nodes (numbered i a)) (nodes (numbered (i + count_nodes a) b)) (written_so i a) (written_so (i + count_nodes a) b) h
written_so i (Arm a b c) h =
    two (nodes (Then a b)) (nodes c) (nodes (Then (numbered i a) (numbered (i + count_nodes a) b))) (nodes (numbered (i + count_nodes a + count_nodes b) c))
    (two (nodes a) (nodes b) (nodes (numbered i a)) (nodes (numbered (i + count_nodes a) b)) (written_so i a) (written_so (i + count_nodes a) b))
    (written_so (i + count_nodes a + count_nodes b) c) h
written_so i (Text at a) h = (tt, written_so (i + 1) a h.1)
written_so i (ClassDecl at n k a) h = (tt, written_so (i + 1) a h.1)
written_so i (ComponentDecl at n a) h = (tt, written_so (i + 1) a h.1)
written_so i (DeviceDecl at n a) h = (tt, written_so (i + 1) a h.1)
written_so i (ProgramDecl at n a) h = (tt, written_so (i + 1) a h.1)
written_so i (FieldDecl at n t a) h = (tt, written_so (i + 1) a h.1)
written_so i (MethodDecl at n ps t a) h = (h.0, written_so (i + 1) a h.1)
written_so i (ConstructorDecl at ps s a b) h = (
  h.0,
  two (nodes a) (nodes b) (nodes (numbered (i + 1) a)) (nodes (numbered (i + 1 + count_nodes a) b)) (written_so (i + 1) a)
      (written_so (i + 1 + count_nodes a) b) h.1,
)
written_so i (Block at a) h = (tt, written_so (i + 1) a h.1)
written_so i (Local at n t a) h = (h.0, written_so (i + 1) a h.1)
written_so i (If at a b) h = (
  tt,
  two (nodes a) (nodes b) (nodes (numbered (i + 1) a)) (nodes (numbered (i + 1 + count_nodes a) b)) (written_so (i + 1) a)
      (written_so (i + 1 + count_nodes a) b) h.1,
)
written_so i (While at a b) h = (
  tt,
  two (nodes a) (nodes b) (nodes (numbered (i + 1) a)) (nodes (numbered (i + 1 + count_nodes a) b)) (written_so (i + 1) a)
      (written_so (i + 1 + count_nodes a) b) h.1,
)
written_so i (For at a b c d) h = (
  tt,
  two (nodes (Then (Then a b) c)) (nodes d)
      (nodes (Then (Then (numbered (i + 1) a) (numbered (i + 1 + count_nodes a) b)) (numbered (i + 1 + count_nodes a + count_nodes b) c)))
      (nodes (numbered (i + 1 + count_nodes a + count_nodes b + count_nodes c) d))
      (two (nodes (Then a b)) (nodes c) (nodes (Then (numbered (i + 1) a) (numbered (i + 1 + count_nodes a) b)))
      (nodes (numbered (i + 1 + count_nodes a + count_nodes b) c))
      (two (nodes a) (nodes b) (nodes (numbered (i + 1) a)) (nodes (numbered (i + 1 + count_nodes a) b)) (written_so (i + 1) a)
      (written_so (i + 1 + count_nodes a) b))
      (written_so (i + 1 + count_nodes a + count_nodes b) c)) (written_so (i + 1 + count_nodes a + count_nodes b + count_nodes c) d) h.1,
)
written_so i (Return at a) h = (tt, written_so (i + 1) a h.1)
written_so i (Assign at a b) h = (
  tt,
  two (nodes a) (nodes b) (nodes (numbered (i + 1) a)) (nodes (numbered (i + 1 + count_nodes a) b)) (written_so (i + 1) a)
      (written_so (i + 1 + count_nodes a) b) h.1,
)
written_so i (Eval at a) h = (tt, written_so (i + 1) a h.1)
written_so i (NewObject at n a) h = (tt, written_so (i + 1) a h.1)
written_so i (NewArray at t a) h = (tt, written_so (i + 1) a h.1)
written_so i (Unary at ks a) h = (tt, written_so (i + 1) a h.1)
written_so i (Chain at a b) h = (
  tt,
  two (nodes a) (nodes b) (nodes (numbered (i + 1) a)) (nodes (numbered (i + 1 + count_nodes a) b)) (written_so (i + 1) a)
      (written_so (i + 1 + count_nodes a) b) h.1,
)
written_so i (Part at k a) h = (tt, written_so (i + 1) a h.1)
written_so i (Postfix at a b) h = (
  tt,
  two (nodes a) (nodes b) (nodes (numbered (i + 1) a)) (nodes (numbered (i + 1 + count_nodes a) b)) (written_so (i + 1) a)
      (written_so (i + 1 + count_nodes a) b) h.1,
)
written_so i (Index at a) h = (tt, written_so (i + 1) a h.1)
written_so i (Call at a) h = (tt, written_so (i + 1) a h.1)
written_so i Nothing h = tt
written_so i _ h = (tt, tt)
