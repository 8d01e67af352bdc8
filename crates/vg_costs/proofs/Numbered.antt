-- The costs of numbered nodes are those of the nodes without numbers.
use Rattle.std.proofs.Common.{◌≡◌, ℕ, ◌+◌, ◌*◌, List, [], ◌∷◌, ◌++◌, length, refl, ap, ◌∙◌}
use Rattle.vg_syntax.specs.Tree.{Node, Nothing, Then, ClassDecl, ComponentDecl, MethodDecl}
use Rattle.vg_syntax.specs.Numbering.{count_nodes, numbered}
use Rattle.vg_syntax.proofs.Numbering.{count_numbered}
use Rattle.vg_source.specs.Program.{declarations_of}
use Rattle.vg_source.specs.Peak as peak
use Rattle.vg_types_counts.proofs.Locals.{locals_numbered}
use Rattle.vg_costs.specs.Walked.{declared_cost, costs_of, member_costs, costs_in}

joined : {a b c d : List ℕ} → a ≡ c → b ≡ d → a ++ b ≡ c ++ d
joined {a} {b} {c} {d} e f = ap (λ z. z ++ b) e ∙ ap (λ z. c ++ z) f

one_cost : (params l n m k : ℕ) → l ≡ m → n ≡ k → (32 + 4 * (params + l + n)) ∷ [] ≡ (32 + 4 * (params + m + k)) ∷ []
one_cost params l n m k e f =
    ap (λ z. (32 + 4 * (params + z + n)) ∷ []) e ∙ ap (λ z. (32 + 4 * (params + m + z)) ∷ []) f

method : (i : ℕ) (m : Node) → peak.declared_cost (numbered i m) ≡ declared_cost m
method i (MethodDecl at x ps t body) = one_cost (length ps) _ _ _ _ (locals_numbered (i + 1) body) (count_numbered (i + 1) body)
method i _ = refl

members : (i : ℕ) (ms : Node) → peak.costs_of (numbered i ms) ≡ costs_of ms
members i (Then m rest) = joined (method i m) (members (i + count_nodes m) rest)
members i _ = refl

declaration : (i : ℕ) (d : Node) → peak.member_costs (numbered i d) ≡ member_costs d
declaration i (ClassDecl at c above ms) = members (i + 1) ms
declaration i (ComponentDecl at c ms) = members (i + 1) ms
declaration i _ = refl

declarations : (i : ℕ) (ds : Node) → peak.costs_in (numbered i ds) ≡ costs_in ds
declarations i (Then d rest) = joined (declaration i d) (declarations (i + count_nodes d) rest)
declarations i _ = refl

-- the costs of a text with these declarations
pub costs_of_text : (text ds : Node) → declarations_of text ≡ numbered 1 ds → peak.costs text ≡ costs_in ds
costs_of_text text ds e = ap peak.costs_in e ∙ declarations 1 ds

pub costs_of_none : (text : Node) → declarations_of text ≡ Nothing → peak.costs text ≡ []
costs_of_none text e = ap peak.costs_in e
