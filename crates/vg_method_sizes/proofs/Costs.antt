-- The costs of the methods of a text, from their sizes.
use Rattle.std.proofs.Common.{◌≡◌, ◌++◌, map, flat_map, refl, sym, ap, ◌∙◌}
use Rattle.std.proofs.lemmas.List.{map-append}
use Rattle.std.proofs.lemmas.Grind.{flat_map-append}
use Rattle.vg_syntax.specs.Tree.{Node, Then, ClassDecl, ComponentDecl, MethodDecl}
use Rattle.vg_source.specs.Program.{declarations_of}
use Rattle.vg_source.specs.Peak.{declared_cost, costs_of, member_costs, costs_in, costs}
use Rattle.vg_rules.specs.Counts.{in_row, members_at}
use Rattle.vg_method_sizes.specs.Sizes.{size_at, sizes_in, sizes, cost}

-- of one node
one : (m : Node) → declared_cost m ≡ map cost (size_at m)
one (MethodDecl at x ps t body) = refl
one _ = refl

-- of members
members : (ms : Node) → costs_of ms ≡ map cost (flat_map size_at (in_row ms))
members (Then m rest) =
    ap (λ z. z ++ costs_of rest) (one m) ∙ ap (λ z. map cost (size_at m) ++ z) (members rest)
    ∙ sym (map-append cost (size_at m) (flat_map size_at (in_row rest)))
members _ = refl

-- of a declaration
declaration : (d : Node) → member_costs d ≡ map cost (flat_map size_at (members_at d))
declaration (ClassDecl at c above ms) = members ms
declaration (ComponentDecl at c ms) = members ms
declaration _ = refl

-- of declarations
declarations : (ds : Node) → costs_in ds ≡ map cost (sizes_in ds)
declarations (Then d rest) =
    ap (λ z. z ++ costs_in rest) (declaration d) ∙ ap (λ z. map cost (flat_map size_at (members_at d)) ++ z) (declarations rest)
    ∙ sym (map-append cost (flat_map size_at (members_at d)) (sizes_in rest))
    ∙ ap (map cost) (sym (flat_map-append size_at (members_at d) (flat_map members_at (in_row rest))))
declarations _ = refl

pub costs_sized : (text : Node) → costs text ≡ map cost (sizes text)
costs_sized text = declarations (declarations_of text)
