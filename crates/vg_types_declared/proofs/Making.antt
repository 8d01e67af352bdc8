-- The parameters of constructions: each class keeps those of its constructor, in order of the text.
use Rattle.std.proofs.Common.{◌≡◌, ℕ, ◌<◌, List, [], ◌∷◌, ◌++◌, length, map, Option, Some, None, slice_get, refl, sym, ap, ◌∙◌}
use Rattle.std.specs.Option.{option_map}
use Rattle.std.proofs.lemmas.List.{append_assoc}
use Rattle.std.proofs.lemmas.Option.{slice_get-map}
use Rattle.vg_syntax.specs.Tree.{Node, Then, ClassDecl, ComponentDecl}
use Rattle.vg_syntax.specs.Classes.{ClassParts, class_named}
use Rattle.vg_source.specs.Names.{Name}
use Rattle.vg_source.specs.Types.{StaticType}
use Rattle.vg_source.specs.Declared.{row_of, members_in, length_of}
use Rattle.vg_source.specs.Program.{constructor_in}
use Rattle.vg_rules.specs.Inherited.{params_of_class}
use Rattle.vg_core.specs.declared.types.CoreType.{CoreType}
use Rattle.vg_core.specs.declared.program.Class.{Class}
use Rattle.vg_types_interned.specs.declared.table.Types.{Types}
use Rattle.vg_types_members.specs.Members.{view_of, written_params}
use Rattle.vg_types_hierarchy.specs.Inherited.{own_at}
use Rattle.vg_types_hierarchy.specs.Classes.{above_number}
use Rattle.vg_types_heads.specs.declared.heads.Heads.{Heads}
use Rattle.vg_types_homes.specs.declared.homes.Homes.{Homes}
use Rattle.vg_types_homes.specs.Homes.{HomesView, no_view, with_class, with_component, with_declarations}
use Rattle.vg_types_tables.specs.declared.declared.Declared.{Declared}
use Rattle.vg_types_tables.specs.Views.{naming, row_view}
use Rattle.vg_types_declared.specs.Lists.{class_list}
use Rattle.vg_types_declared.specs.Members.{row_from}
use Rattle.vg_types_declared.specs.Named.{Keeps, IsLeft, Params}
use Rattle.vg_types_declared.proofs.Members.{row_written}
use Rattle.vg_types_declared.proofs.Forming.{Viewed, viewed, view_at, class_within, class_is}
use Rattle.vg_types_declared.proofs.Naming.{listed, close, of_class, row_same}

append-none : {A : Type 0} (xs : List A) → xs ≡ xs ++ []
append-none [] = refl
append-none (x ∷ xs) = ap (λ z. x ∷ z) (append-none xs)

-- the types that are written for the parameters of the constructor of a class
abbrev params_in : Name × ClassParts → List StaticType
params_in e = written_params (constructor_in e.1.members).params

all_params : (ds : Node) (v : HomesView) → (with_declarations ds v).class_params ≡ v.class_params ++ map (λ e. params_in e) (class_list ds)
all_params (Then (ClassDecl at c above ms) rest) v =
    all_params rest (with_class ms v)
    ∙ append_assoc v.class_params (written_params (constructor_in ms).params ∷ []) (map (λ e. params_in e) (class_list rest))
all_params (Then (ComponentDecl at c ms) rest) v = all_params rest (with_component ms v)
all_params (Then _ rest) v = all_params rest v
all_params _ v = append-none v.class_params

pub params : (texts : List (List ℕ)) (ds : Node) (types : Types) (heads : Heads) (homes : Homes) (d : Declared) → Keeps ds
    → IsLeft texts ds types heads homes d → Params texts ds d
params texts ds types heads homes d kept left c k e =
    ap (λ z. row_view texts d z.params)
    (class_is texts types homes (length_of ds) heads.class_names (map (above_number texts heads.classes) heads.above) d.tables left.built
    (close texts ds types heads homes d kept left) c k e)
    ∙ by (view_at (map (view_of texts types)) homes.class_params c (params_in (name, r.0)) there)
  where
    name : Name
    name = (naming texts d).class c

    here : c < length heads.class_names
    here =
        class_within texts types homes (length_of ds) heads.class_names (map (above_number texts heads.classes) heads.above) d.tables left.built
        (close texts ds types heads homes d kept left) c k e

    r : (q : ClassParts) × (class_named ds ((naming texts d).class c) ≡ Some q) × (slice_get (class_list ds) c ≡ Some ((naming texts d).class c, q))
    r = (listed texts ds types heads homes d kept left).class_at ((naming texts d).class c) c (of_class texts ds types heads homes d kept left c here)

    there : slice_get (map (map (view_of texts types)) homes.class_params) c ≡ Some (params_in (name, r.0))
    there =
        ap (λ w. slice_get w.class_params c) left.homes_left ∙ ap (λ z. slice_get z c) (all_params ds no_view)
        ∙ slice_get-map (λ e. params_in e) (class_list ds) c ∙ ap (option_map (λ e. params_in e)) r.2

    by : Viewed (map (view_of texts types)) homes.class_params c (params_in (name, r.0))
        → row_view texts d (own_at (slice_get homes.class_params c)) ≡ params_of_class ds name
    by (viewed ts q v) =
        ap (λ o. row_view texts d (own_at o)) q ∙ row_same texts ds types heads homes d kept left ts ∙ ap row_from v
        ∙ sym (row_written (constructor_in r.0.members).params) ∙ ap (λ o. row_of (constructor_in (members_in o)).params) (sym r.1)
