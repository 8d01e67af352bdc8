-- The texts of names do not count.
use Rattle.std.proofs.Common.{◌≡◌, ℕ, List, [], refl}
use Rattle.vg_tree.specs.declared.node.Node as held
use Rattle.vg_syntax.specs.Tree.{Node}
use Rattle.vg_syntax.specs.Outline.{outline}
use Rattle.vg_tree.specs.Held.{node_at, nodes_at, arms_at, arm_at}
use Rattle.vg_syntax.proofs.Numbering.{both, one, two, four}

mutual
  pub alike : (texts : List (List ℕ)) (n : held.Node) → outline (node_at texts n) ≡ outline (node_at [] n)
  alike texts (held.Row' shape all) = rows_alike texts all
  alike texts (held.Arms' shape all) = arms_alike texts all
  alike texts (held.Text' place p a) = one (alike texts a)
  alike texts (held.ClassDecl' place name above p a) = one (alike texts a)
  alike texts (held.ComponentDecl' place name p a) = one (alike texts a)
  alike texts (held.DeviceDecl' place name p a) = one (alike texts a)
  alike texts (held.ProgramDecl' place name p a) = one (alike texts a)
  alike texts (held.FieldDecl' place name type p a) = one (alike texts a)
  alike texts (held.MethodDecl' place name params result p a) = one (alike texts a)
  alike texts (held.ConstructorDecl' place params calls_super p a q b) = two (alike texts a) (alike texts b)
  alike texts (held.Block' place p a) = one (alike texts a)
  alike texts (held.Local' place name type p a) = one (alike texts a)
  alike texts (held.If' place p a q b) = two (alike texts a) (alike texts b)
  alike texts (held.While' place p a q b) = two (alike texts a) (alike texts b)
  alike texts (held.For' place p a q b r c s d) = four (alike texts a) (alike texts b) (alike texts c) (alike texts d)
  alike texts (held.Return' place p a) = one (alike texts a)
  alike texts (held.Assign' place p a q b) = two (alike texts a) (alike texts b)
  alike texts (held.Eval' place p a) = one (alike texts a)
  alike texts (held.NewObject' place s p a) = one (alike texts a)
  alike texts (held.NewArray' place type p a) = one (alike texts a)
  alike texts (held.Unary' place ops p a) = one (alike texts a)
  alike texts (held.Chain' place p a q b) = two (alike texts a) (alike texts b)
  alike texts (held.Part' place op p a) = one (alike texts a)
  alike texts (held.Postfix' place p a q b) = two (alike texts a) (alike texts b)
  alike texts (held.Index' place p a) = one (alike texts a)
  alike texts (held.Call' place p a) = one (alike texts a)
  alike texts _ = refl

  rows_alike : (texts : List (List ℕ)) {m : _} (all : held.Row_of-Node m) → outline (nodes_at texts all) ≡ outline (nodes_at [] all)
  rows_alike texts held.end_of-Node = refl
  rows_alike texts (held.more_of-Node n rest) = both (alike texts n) (rows_alike texts rest)

  arms_alike : (texts : List (List ℕ)) {m : _} (all : held.Row_of-Node m) → outline (arms_at texts all) ≡ outline (arms_at [] all)
  arms_alike texts held.end_of-Node = refl
  arms_alike texts (held.more_of-Node n rest) = before_alike texts n (arms_at texts rest) (arms_at [] rest) (arms_alike texts rest)

  before_alike : (texts : List (List ℕ)) (n : held.Node) (r s : Node) → outline r ≡ outline s → outline (arm_at texts n r) ≡ outline (arm_at [] n s)
  before_alike texts (held.Pair' p c q b) r s y = both (alike texts c) (both (alike texts b) y)
  before_alike texts _ r s y = y
