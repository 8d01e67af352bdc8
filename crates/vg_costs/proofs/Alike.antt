-- The texts of names do not count: locals and costs are the same at all.
use Rattle.std.proofs.Common.{◌≡◌, ℕ, suc, ◌+◌, ◌*◌, List, [], ◌∷◌, ◌++◌, length, map, refl, sym, ap, ◌∙◌}
use Rattle.std.proofs.lemmas.List.{length-map}
use Rattle.vg_syntax.specs.Tree.{Node}
use Rattle.vg_syntax.specs.Numbering.{count_nodes}
use Rattle.vg_syntax.specs.Outline.{size}
use Rattle.vg_tree.specs.declared.node.Node as held
use Rattle.vg_tree.specs.Held.{node_at, nodes_at, arms_at, param_at}
use Rattle.vg_tree_walks.proofs.Alike.{alike}
use Rattle.vg_types_counts.specs.Extents.{locals_in}
use Rattle.vg_costs.specs.Walked.{cost_with, declared_cost, costs_of, member_costs, costs_in}
use Rattle.vg_costs.proofs.Costing.{row_no_method, arms_no_method, arms_no_members, row_no_class, arms_no_class, arms_no_declarations}

both : {a b c d : ℕ} → a ≡ c → b ≡ d → a + b ≡ c + d
both {a} {b} {c} {d} e f = ap (λ z. z + b) e ∙ ap (λ z. c + z) f

one : {a b : ℕ} → a ≡ b → a + 0 ≡ b + 0
one e = both e refl

two : {a b c d : ℕ} → a ≡ c → b ≡ d → a + (b + 0) ≡ c + (d + 0)
two e f = both e (one f)

four : {a b c d k l m n : ℕ} → a ≡ k → b ≡ l → c ≡ m → d ≡ n → a + (b + (c + (d + 0))) ≡ k + (l + (m + (n + 0)))
four e f g h = both e (both f (two g h))

mutual
  locals_alike : (texts : List (List ℕ)) (n : held.Node) → locals_in (node_at texts n) ≡ locals_in (node_at [] n)
  locals_alike texts (held.Row' shape all) = rows_alike texts all
  locals_alike texts (held.Arms' shape all) = arms_alike texts all
  locals_alike texts (held.Text' place p a) = one (locals_alike texts a)
  locals_alike texts (held.ClassDecl' place name above p a) = one (locals_alike texts a)
  locals_alike texts (held.ComponentDecl' place name p a) = one (locals_alike texts a)
  locals_alike texts (held.DeviceDecl' place name p a) = one (locals_alike texts a)
  locals_alike texts (held.ProgramDecl' place name p a) = one (locals_alike texts a)
  locals_alike texts (held.FieldDecl' place name type p a) = one (locals_alike texts a)
  locals_alike texts (held.MethodDecl' place name params result p a) = one (locals_alike texts a)
  locals_alike texts (held.ConstructorDecl' place params calls_super p a q b) = two (locals_alike texts a) (locals_alike texts b)
  locals_alike texts (held.Block' place p a) = one (locals_alike texts a)
  locals_alike texts (held.Local' place name type p a) = ap suc (one (locals_alike texts a))
  locals_alike texts (held.If' place p a q b) = two (locals_alike texts a) (locals_alike texts b)
  locals_alike texts (held.While' place p a q b) = two (locals_alike texts a) (locals_alike texts b)
  locals_alike texts (held.For' place p a q b r c s d) =
      four (locals_alike texts a) (locals_alike texts b) (locals_alike texts c) (locals_alike texts d)
  locals_alike texts (held.Return' place p a) = one (locals_alike texts a)
  locals_alike texts (held.Assign' place p a q b) = two (locals_alike texts a) (locals_alike texts b)
  locals_alike texts (held.Eval' place p a) = one (locals_alike texts a)
  locals_alike texts (held.NewObject' place s p a) = one (locals_alike texts a)
  locals_alike texts (held.NewArray' place type p a) = one (locals_alike texts a)
  locals_alike texts (held.Unary' place ops p a) = one (locals_alike texts a)
  locals_alike texts (held.Chain' place p a q b) = two (locals_alike texts a) (locals_alike texts b)
  locals_alike texts (held.Part' place op p a) = one (locals_alike texts a)
  locals_alike texts (held.Postfix' place p a q b) = two (locals_alike texts a) (locals_alike texts b)
  locals_alike texts (held.Index' place p a) = one (locals_alike texts a)
  locals_alike texts (held.Call' place p a) = one (locals_alike texts a)
  locals_alike texts _ = refl

  rows_alike : (texts : List (List ℕ)) {m : _} (all : held.Row_of-Node m) → locals_in (nodes_at texts all) ≡ locals_in (nodes_at [] all)
  rows_alike texts held.end_of-Node = refl
  rows_alike texts (held.more_of-Node n rest) = both (locals_alike texts n) (rows_alike texts rest)

  arms_alike : (texts : List (List ℕ)) {m : _} (all : held.Row_of-Node m) → locals_in (arms_at texts all) ≡ locals_in (arms_at [] all)
  arms_alike texts held.end_of-Node = refl
  arms_alike texts (held.more_of-Node (held.Pair' p c q b) rest) = both (locals_alike texts c) (both (locals_alike texts b) (arms_alike texts rest))
  arms_alike texts (held.more_of-Node _ rest) = arms_alike texts rest

joined : {a b c d : List ℕ} → a ≡ c → b ≡ d → a ++ b ≡ c ++ d
joined {a} {b} {c} {d} e f = ap (λ z. z ++ b) e ∙ ap (λ z. c ++ z) f

costs_with : (k l : ℕ) (a b : Node) → k ≡ l → locals_in a ≡ locals_in b → count_nodes a ≡ count_nodes b → cost_with k a ∷ [] ≡ cost_with l b ∷ []
costs_with k l a b e f g = ap (λ c. c ∷ []) (ap (λ z. 32 + 4 * z) (both (both e f) g))

method : (texts : List (List ℕ)) (n : held.Node) → declared_cost (node_at texts n) ≡ declared_cost (node_at [] n)
method texts (held.MethodDecl' place name params result p body) =
    costs_with (length (map (param_at texts) params.items)) (length (map (param_at []) params.items)) (node_at texts body) (node_at [] body)
    (length-map params.items (param_at texts) ∙ sym (length-map params.items (param_at []))) (locals_alike texts body) (ap size (alike texts body))
method texts (held.Row' shape all) = row_no_method texts all ∙ sym (row_no_method [] all)
method texts (held.Arms' shape all) = arms_no_method texts all ∙ sym (arms_no_method [] all)
method texts _ = refl

all_members : (texts : List (List ℕ)) {m : _} (all : held.Row_of-Node m) → costs_of (nodes_at texts all) ≡ costs_of (nodes_at [] all)
all_members texts held.end_of-Node = refl
all_members texts (held.more_of-Node n rest) = joined (method texts n) (all_members texts rest)

members : (texts : List (List ℕ)) (n : held.Node) → costs_of (node_at texts n) ≡ costs_of (node_at [] n)
members texts (held.Row' shape all) = all_members texts all
members texts (held.Arms' shape all) = arms_no_members texts all ∙ sym (arms_no_members [] all)
members texts _ = refl

declaration : (texts : List (List ℕ)) (n : held.Node) → member_costs (node_at texts n) ≡ member_costs (node_at [] n)
declaration texts (held.ClassDecl' place name above p ms) = members texts ms
declaration texts (held.ComponentDecl' place name p ms) = members texts ms
declaration texts (held.Row' shape all) = row_no_class texts all ∙ sym (row_no_class [] all)
declaration texts (held.Arms' shape all) = arms_no_class texts all ∙ sym (arms_no_class [] all)
declaration texts _ = refl

all_declarations : (texts : List (List ℕ)) {m : _} (all : held.Row_of-Node m) → costs_in (nodes_at texts all) ≡ costs_in (nodes_at [] all)
all_declarations texts held.end_of-Node = refl
all_declarations texts (held.more_of-Node n rest) = joined (declaration texts n) (all_declarations texts rest)

pub declarations : (texts : List (List ℕ)) (n : held.Node) → costs_in (node_at texts n) ≡ costs_in (node_at [] n)
declarations texts (held.Row' shape all) = all_declarations texts all
declarations texts (held.Arms' shape all) = arms_no_declarations texts all ∙ sym (arms_no_declarations [] all)
declarations texts _ = refl
