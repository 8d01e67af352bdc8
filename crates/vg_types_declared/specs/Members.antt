-- What is found under the name of a member.
use Rattle.std.specs.Prelude.{◌≡◌, ℕ, List, [], ◌∷◌, map, Option, Some, None, slice_get}
use Rattle.vg_syntax.specs.Tree.{Node}
use Rattle.vg_source.specs.Names.{Name}
use Rattle.vg_source.specs.Types.{StaticType, NoType, MoreTypes}
use Rattle.vg_source.specs.Declared.{Member, AField, AMethod, member_in}
use Rattle.vg_core.specs.declared.program.Owner.{Owner}
use Rattle.vg_core.specs.declared.program.Owner.TheVariants.{InClass, InComponent}
use Rattle.vg_types_tables.specs.declared.declared.MemberNumber.{MemberNumber}
use Rattle.vg_types_tables.specs.declared.declared.MemberNumber.TheVariants.{Field, Method}
use Rattle.vg_types_tables.specs.Declares.{found_in}
use Rattle.vg_types_members.specs.Members.{FieldView, MethodView}
use Rattle.vg_types_homes.specs.Homes.{HomesView}
use Rattle.vg_types_declared.specs.Lists.{class_list, component_list}

-- Types as a row.
abbrev pub row_from : List StaticType → StaticType
row_from [] = NoType
row_from (t ∷ ts) = MoreTypes t (row_from ts)

-- A field or method stands in these lists, is of this owner, whose name is x, and has the name y; and it is what the definition finds.
abbrev pub Shows : (fields : List FieldView) → (methods : List MethodView) → Owner → (x y : Name) → Option MemberNumber → Option Member → Type 0
Shows fields methods o x y None r = r ≡ None
Shows fields methods o x y (Some (Field f)) r =
    (t : FieldView) × (slice_get fields f ≡ Some t) × (t.owner ≡ o) × (t.name ≡ y) × (r ≡ Some (AField x t.type))
Shows fields methods o x y (Some (Method m)) r =
    (t : MethodView) × (slice_get methods m ≡ Some t) × (t.owner ≡ o) × (t.name ≡ y) × (r ≡ Some (AMethod (row_from t.params) t.result))

-- The members of the classes, with the names of the classes.
abbrev pub class_rows : Node → List (Name × Node)
class_rows ds = map (λ e. (e.0, e.1.members)) (class_list ds)

-- The members that each class and each component declares itself are found by their names.
pub record Found (ds : Node) (w : HomesView) : Type 0 where
  pub class_members : (c : ℕ) (x y : Name) (ms : Node) → slice_get (class_rows ds) c ≡ Some (x, ms)
      → Shows w.fields w.methods (InClass c) x y (found_in y (slice_get w.class_members c)) (member_in x ms y)
  pub component_members : (k : ℕ) (x y : Name) (ms : Node) → slice_get (component_list ds) k ≡ Some (x, ms)
      → Shows w.fields w.methods (InComponent k) x y (found_in y (slice_get w.component_members k)) (member_in x ms y)
