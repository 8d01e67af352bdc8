-- The nodes of the bodies of methods, in order of the text.
use Rattle.std.proofs.Common.{◌≡◌, ℕ, List, [], ◌∷◌, ◌++◌, length, map, flat_map, refl, sym, ap, ◌∙◌}
use Rattle.std.proofs.lemmas.List.{append_assoc, map-append}
use Rattle.std.proofs.lemmas.Grind.{flat_map-append}
use Rattle.vg_syntax.specs.Tree.{Node, Then, ClassDecl, ComponentDecl, FieldDecl, MethodDecl}
use Rattle.vg_syntax.specs.Numbering.{count_nodes}
use Rattle.vg_source.specs.Declared.{written_type}
use Rattle.vg_rules.specs.Counts.{in_row, members_at}
use Rattle.vg_core.specs.declared.program.Method.{Method}
use Rattle.vg_core.specs.declared.program.Owner.TheVariants.{InClass, InComponent}
use Rattle.vg_method_sizes.specs.Sizes.{Size, size_at, sizes_in}
use Rattle.vg_types_interned.specs.declared.table.Types.{Types}
use Rattle.vg_types_members.specs.declared.member.Home.{Home}
use Rattle.vg_types_members.specs.Members.{MethodView, HomeView, method_view, with_method, with_field, with_members, written_params}
use Rattle.vg_types_homes.specs.Homes.{HomesView, no_view, homes_view, home_starts, with_class, with_component, with_declarations}
use Rattle.vg_types_tables.specs.declared.declared.Declared.{Declared}
use Rattle.vg_types_named.specs.Left.{Left}
use Rattle.vg_types_named.proofs.Lists.{append-none}
use Rattle.vg_types_named.proofs.Targets.{map_push}

-- the nodes of methods, and of sizes
abbrev nodes_of : List MethodView → List ℕ
nodes_of ms = map (λ t. t.nodes) ms

abbrev counted : List Size → List ℕ
counted ss = map (λ s. s.nodes) ss

-- ---- one home

home_nodes : (h : Home) (ms : Node) (v : HomeView)
    → nodes_of (with_members h ms v).methods ≡ nodes_of v.methods ++ counted (flat_map size_at (in_row ms))
home_nodes h (Then (MethodDecl at n ps t body) rest) v =
    home_nodes h rest (with_method h n (written_params ps) (written_type t) (count_nodes body) v)
    ∙ ap (λ z. z ++ counted (flat_map size_at (in_row rest))) (map_push (λ (t : MethodView). t.nodes) v.methods _)
    ∙ append_assoc (nodes_of v.methods) (count_nodes body ∷ []) (counted (flat_map size_at (in_row rest)))
home_nodes h (Then (FieldDecl at n t e) rest) v = home_nodes h rest (with_field h n (written_type t) v)
home_nodes h (Then _ rest) v = home_nodes h rest v
home_nodes h _ v = append-none (nodes_of v.methods)

-- ---- all homes

-- the nodes of the methods of members, and of the declarations behind them
two : (ms rest : Node)
    → counted (flat_map size_at (in_row ms ++ flat_map members_at (in_row rest))) ≡ counted (flat_map size_at (in_row ms)) ++ counted (sizes_in rest)
two ms rest =
    ap counted (flat_map-append size_at (in_row ms) (flat_map members_at (in_row rest)))
    ∙ map-append (λ (s : Size). s.nodes) (flat_map size_at (in_row ms)) (sizes_in rest)

behind : (before : List ℕ) (now : List ℕ) (ms rest : Node) → now ≡ before ++ counted (flat_map size_at (in_row ms))
    → now ++ counted (sizes_in rest) ≡ before ++ counted (flat_map size_at (in_row ms ++ flat_map members_at (in_row rest)))
behind before now ms rest e =
    ap (λ z. z ++ counted (sizes_in rest)) e ∙ append_assoc before (counted (flat_map size_at (in_row ms))) (counted (sizes_in rest))
    ∙ ap (λ z. before ++ z) (sym (two ms rest))

all_nodes : (ds : Node) (v : HomesView) → nodes_of (with_declarations ds v).methods ≡ nodes_of v.methods ++ counted (sizes_in ds)
all_nodes (Then (ClassDecl at x above ms) rest) v =
    all_nodes rest (with_class ms v)
    ∙ behind (nodes_of v.methods) (nodes_of (with_class ms v).methods) ms rest
    (home_nodes (record { owner = InClass (length v.class_members); slot = 0 }) ms (home_starts v))
all_nodes (Then (ComponentDecl at x ms) rest) v =
    all_nodes rest (with_component ms v)
    ∙ behind (nodes_of v.methods) (nodes_of (with_component ms v).methods) ms rest
    (home_nodes (record { owner = InComponent (length v.component_members); slot = length v.globals }) ms (home_starts v))
all_nodes (Then _ rest) v = all_nodes rest v
all_nodes _ v = append-none (nodes_of v.methods)

-- ---- the tables

viewed : (texts : List (List ℕ)) (types : Types) (ms : List Method) → map (λ (y : Method). y.nodes) ms ≡ nodes_of (map (method_view texts types) ms)
viewed texts types [] = refl
viewed texts types (m ∷ ms) = ap (λ z. m.nodes ∷ z) (viewed texts types ms)

pub nodes_sized : (texts : List (List ℕ)) (ds : Node) (d : Declared) → Left texts ds d
    → map (λ (y : Method). y.nodes) d.tables.methods ≡ map (λ (s : Size). s.nodes) (sizes_in ds)
nodes_sized texts ds d l =
    ap (map (λ (y : Method). y.nodes)) l.left.built.method_table ∙ viewed texts l.types l.homes.making.methods
    ∙ ap (λ w. nodes_of w.methods) l.left.homes_left ∙ all_nodes ds no_view
