-- What is found under the name of a member of a class or of those above it.
use Rattle.std.specs.Prelude.{◌≡◌, true, ℕ, List, [], ◌∷◌, Option, Some, None, slice_get}
use Rattle.vg_syntax.specs.Tree.{Node}
use Rattle.vg_source.specs.Names.{Name}
use Rattle.vg_source.specs.Declared.{Member, AField, AMethod, or_else, class_member, length_of}
use Rattle.vg_core.specs.Tables.{is_in}
use Rattle.vg_core.specs.declared.program.Owner.TheVariants.{InClass}
use Rattle.vg_types_views.specs.ByText.{found}
use Rattle.vg_types_tables.specs.declared.declared.MemberNumber.{MemberNumber}
use Rattle.vg_types_tables.specs.declared.declared.MemberNumber.TheVariants.{Field, Method}
use Rattle.vg_types_tables.specs.Declares.{found_in}
use Rattle.vg_types_chains.specs.Chains.{chain_at}
use Rattle.vg_types_members.specs.Members.{FieldView, MethodView}
use Rattle.vg_types_heads.specs.Heads.{HeadsView}
use Rattle.vg_types_homes.specs.Homes.{HomesView}
use Rattle.vg_types_declared.specs.Chains.{numbers, name_of}
use Rattle.vg_types_declared.specs.Members.{row_from}

-- The first member of this name that one of these classes declares itself.
abbrev pub chain_member : List (List (Name × MemberNumber)) → (chain : List ℕ) → Name → Option MemberNumber
chain_member maps [] y = None
chain_member maps (c ∷ cs) y = or_else (found_in y (slice_get maps c)) (chain_member maps cs y)

-- A field or method has this name and is of a class of the chain; and it is what the definition finds.
abbrev pub ShowsOn : HeadsView → HomesView → (chain : List ℕ) → (y : Name) → Option MemberNumber → Option Member → Type 0
ShowsOn v w chain y None r = r ≡ None
ShowsOn v w chain y (Some (Field f)) r =
    (e : ℕ) × (t : FieldView) × (slice_get w.fields f ≡ Some t) × (t.owner ≡ InClass e) × (is_in chain e ≡ true) × (t.name ≡ y)
    × (r ≡ Some (AField (name_of v e) t.type))
ShowsOn v w chain y (Some (Method m)) r =
    (e : ℕ) × (t : MethodView) × (slice_get w.methods m ≡ Some t) × (t.owner ≡ InClass e) × (is_in chain e ≡ true) × (t.name ≡ y)
    × (r ≡ Some (AMethod (row_from t.params) t.result))

-- The members of classes are found along their chains.
pub record Inherits (ds : Node) (v : HeadsView) (w : HomesView) : Type 0 where
  pub members : (x y : Name) (c : ℕ) → found x v.classes ≡ Some c
      → ShowsOn v w (chain_at (length_of ds) (numbers v) c) y (chain_member w.class_members (chain_at (length_of ds) (numbers v) c) y) (class_member ds x y)
