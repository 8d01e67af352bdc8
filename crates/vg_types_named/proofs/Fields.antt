-- The fields of classes and components, in order of the text: those of each class are those that its declaration has, and those of all components
-- are those of all component declarations. What was there stays as others come behind it.
use Rattle.std.proofs.Common.{◌≡◌, ℕ, suc, List, [], ◌∷◌, ◌++◌, length, Some, slice_get, refl, sym, ap, ◌∙◌, subst}
use Rattle.std.proofs.lemmas.List.{append_assoc}
use Rattle.vg_syntax.specs.Tree.{Node, Then, ClassDecl, ComponentDecl, FieldDecl, MethodDecl}
use Rattle.vg_syntax.specs.Numbering.{count_nodes}
use Rattle.vg_source.specs.Names.{Name}
use Rattle.vg_source.specs.Types.{StaticType}
use Rattle.vg_source.specs.Values.{FieldValue, default}
use Rattle.vg_source.specs.Declared.{written_type, fields_in}
use Rattle.vg_source.specs.Program.{globals_in}
use Rattle.vg_core.specs.declared.program.Owner.{Owner}
use Rattle.vg_core.specs.declared.program.Owner.TheVariants.{InClass, InComponent}
use Rattle.vg_types_hierarchy.specs.Inherited.{own_at}
use Rattle.vg_types_members.specs.declared.member.Home.{Home}
use Rattle.vg_types_members.specs.Members.{FieldView, HomeView, with_field, with_method, with_members, written_params}
use Rattle.vg_types_homes.specs.Homes.{HomesView, no_view, home_starts, with_class, with_component, with_declarations}
use Rattle.vg_types_declared.specs.Lists.{component_list}
use Rattle.vg_types_declared.specs.Members.{class_rows}
use Rattle.vg_types_declared.proofs.Maps.{At, earlier, last, at_last}
use Rattle.vg_types_declared.proofs.Members.{Stays, members_stay}
use Rattle.vg_types_named.proofs.Lists.{append-none, count_push, at_end, before_end, within_same}

-- ---- fields and what they are

-- the fields of these numbers are these, where this holds of their owners and of the names of these
abbrev pub AreFields : (Owner → Name → Type 0) → List FieldView → List ℕ → List FieldValue → Type 0
AreFields P fields [] [] = Unit {0}
AreFields P fields (f ∷ fs) (v ∷ vs) =
    (t : FieldView) × (slice_get fields f ≡ Some t) × P t.owner v.owner × (v.name ≡ t.name) × (v.value ≡ default t.type) × AreFields P fields fs vs
AreFields P fields _ _ = ⊥

fields_stay : (P : Owner → Name → Type 0) (fields more : List FieldView) (fs : List ℕ) (vs : List FieldValue) → Stays fields more
    → AreFields P fields fs vs → AreFields P more fs vs
fields_stay P fields more [] [] s a = tt
fields_stay P fields more (f ∷ fs) (v ∷ vs) s a = (a.0, s f a.0 a.1, a.2, a.3, a.4, fields_stay P fields more fs vs s a.5)
fields_stay P fields more [] (v ∷ vs) s a = absurd a
fields_stay P fields more (f ∷ fs) [] s a = absurd a

fields_weaken : (P Q : Owner → Name → Type 0) (fields : List FieldView) (fs : List ℕ) (vs : List FieldValue) → ((o : Owner) (x : Name) → P o x → Q o x)
    → AreFields P fields fs vs → AreFields Q fields fs vs
fields_weaken P Q fields [] [] h a = tt
fields_weaken P Q fields (f ∷ fs) (v ∷ vs) h a = (a.0, a.1, h a.0.owner v.owner a.2, a.3, a.4, fields_weaken P Q fields fs vs h a.5)
fields_weaken P Q fields [] (v ∷ vs) h a = absurd a
fields_weaken P Q fields (f ∷ fs) [] h a = absurd a

fields_two : (P : Owner → Name → Type 0) (fields : List FieldView) (fs gs : List ℕ) (vs ws : List FieldValue)
    → AreFields P fields fs vs → AreFields P fields gs ws → AreFields P fields (fs ++ gs) (vs ++ ws)
fields_two P fields [] gs [] ws a b = b
fields_two P fields (f ∷ fs) gs (v ∷ vs) ws a b = (a.0, a.1, a.2, a.3, a.4, fields_two P fields fs gs vs ws a.5 b)
fields_two P fields [] gs (v ∷ vs) ws a b = absurd a
fields_two P fields (f ∷ fs) gs [] ws a b = absurd a

-- ---- one home

one_field : (P : Owner → Name → Type 0) (h : Home) (x n : Name) (t : StaticType) (v : HomeView) (vs : List FieldValue) → P h.owner x
    → AreFields P v.fields v.own.fields vs
    → AreFields P (with_field h n t v).fields (with_field h n t v).own.fields (vs ++ record { owner = x; name = n; value = default t } ∷ [])
one_field P h x n t v vs o a =
    fields_two P (with_field h n t v).fields v.own.fields (length v.fields ∷ []) vs (record { owner = x; name = n; value = default t } ∷ [])
    (fields_stay P v.fields (with_field h n t v).fields v.own.fields vs (λ i b e. before_end v.fields _ i b e) a)
    (_, at_end v.fields _ (length v.fields) refl, o, refl, refl, tt)

home_fields : (P : Owner → Name → Type 0) (h : Home) (x : Name) (ms : Node) (v : HomeView) (vs : List FieldValue) → P h.owner x
    → AreFields P v.fields v.own.fields vs
    → AreFields P (with_members h ms v).fields (with_members h ms v).own.fields (vs ++ fields_in x ms)
home_fields P h x (Then (FieldDecl at n t e) rest) v vs o a =
    subst (AreFields P (with_members h rest (with_field h n (written_type t) v)).fields (with_members h rest (with_field h n (written_type t) v)).own.fields)
    (append_assoc vs (record { owner = x; name = n; value = default (written_type t) } ∷ []) (fields_in x rest))
    (home_fields P h x rest (with_field h n (written_type t) v) (vs ++ record { owner = x; name = n; value = default (written_type t) } ∷ []) o
    (one_field P h x n (written_type t) v vs o a))
home_fields P h x (Then (MethodDecl at n ps t body) rest) v vs o a =
    home_fields P h x rest (with_method h n (written_params ps) (written_type t) (count_nodes body) v) vs o a
home_fields P h x (Then _ rest) v vs o a = home_fields P h x rest v vs o a
home_fields P h x _ v vs o a = subst (AreFields P v.fields v.own.fields) (append-none vs) a

-- ---- all homes

-- a field is of this class, and its owner has this name
abbrev pub IsOf : ℕ → Name → Owner → Name → Type 0
IsOf c x o y = (o ≡ InClass c) × (y ≡ x)

-- a field is of one of these components, which has the name of its owner
abbrev pub InSome : List (Name × Node) → Owner → Name → Type 0
InSome ks o y = (k : ℕ) × (ms : Node) × (o ≡ InComponent k) × (slice_get ks k ≡ Some (y, ms))

pub record AllFields (es ks : List (Name × Node)) (gs : List FieldValue) (v : HomesView) : Type 0 where
  pub classes : (c : ℕ) (x : Name) (ms : Node) → slice_get es c ≡ Some (x, ms)
      → AreFields (IsOf c x) v.fields (own_at (slice_get v.class_fields c)) (fields_in x ms)
  pub globals : AreFields (InSome ks) v.fields v.globals gs
  pub class_count : length v.class_members ≡ length es
  pub field_count : length v.class_fields ≡ length es
  pub component_count : length v.component_members ≡ length ks

class_more : (es ks : List (Name × Node)) (gs : List FieldValue) (v : HomesView) (x : Name) (ms : Node) → AllFields es ks gs v
    → AllFields (es ++ (x, ms) ∷ []) ks gs (with_class ms v)
class_more es ks gs v x ms a = record {
  classes = λ c z ns e. by c z ns (at_last es (x, ms) c (z, ns) e);
  globals = fields_stay (InSome ks) v.fields (with_class ms v).fields v.globals gs stay a.globals;
  class_count = count_push v.class_members _ ∙ ap suc a.class_count ∙ sym (count_push es (x, ms));
  field_count = count_push v.class_fields _ ∙ ap suc a.field_count ∙ sym (count_push es (x, ms));
  component_count = a.component_count;
}
  where
    h : HomeView
    h = with_members (record { owner = InClass (length v.class_members); slot = 0 }) ms (home_starts v)

    stay : Stays v.fields (with_class ms v).fields
    stay = (members_stay (record { owner = InClass (length v.class_members); slot = 0 }) ms (home_starts v)).0

    new : AreFields (IsOf (length v.class_members) x) (with_class ms v).fields
        (with_members (record { owner = InClass (length v.class_members); slot = 0 }) ms (home_starts v)).own.fields (fields_in x ms)
    new = home_fields (IsOf (length v.class_members) x) (record { owner = InClass (length v.class_members); slot = 0 }) x ms (home_starts v) []
        (refl, refl) tt

    by : (c : ℕ) (z : Name) (ns : Node) → At es (x, ms) c (z, ns)
        → AreFields (IsOf c z) (with_class ms v).fields (own_at (slice_get (with_class ms v).class_fields c)) (fields_in z ns)
    by c z ns (earlier e) =
        subst (λ o. AreFields (IsOf c z) (with_class ms v).fields (own_at o) (fields_in z ns))
        (sym (within_same v.class_fields _ es (z, ns) c a.field_count e))
        (fields_stay (IsOf c z) v.fields (with_class ms v).fields (own_at (slice_get v.class_fields c)) (fields_in z ns) stay (a.classes c z ns e))
    by c z ns (last e g) =
        subst (λ o. AreFields (IsOf c z) (with_class ms v).fields (own_at o) (fields_in z ns))
        (sym (at_end v.class_fields _ c (e ∙ sym a.field_count)))
        (subst (λ q. AreFields (IsOf c q.0) (with_class ms v).fields
        (with_members (record { owner = InClass (length v.class_members); slot = 0 }) ms (home_starts v)).own.fields (fields_in q.0 q.1)) g
        (subst (λ k. AreFields (IsOf k x) (with_class ms v).fields
        (with_members (record { owner = InClass (length v.class_members); slot = 0 }) ms (home_starts v)).own.fields (fields_in x ms))
        (a.class_count ∙ sym e) new))

component_more : (es ks : List (Name × Node)) (gs : List FieldValue) (v : HomesView) (x : Name) (ms : Node) → AllFields es ks gs v
    → AllFields es (ks ++ (x, ms) ∷ []) (gs ++ fields_in x ms) (with_component ms v)
component_more es ks gs v x ms a = record {
  classes = λ c z ns e.
      fields_stay (IsOf c z) v.fields (with_component ms v).fields (own_at (slice_get v.class_fields c)) (fields_in z ns) stay (a.classes c z ns e);
  globals =
      fields_two (InSome (ks ++ (x, ms) ∷ [])) (with_component ms v).fields v.globals
      (with_members (record { owner = InComponent (length v.component_members); slot = length v.globals }) ms (home_starts v)).own.fields gs (fields_in x ms)
      (fields_stay (InSome (ks ++ (x, ms) ∷ [])) v.fields (with_component ms v).fields v.globals gs stay
      (fields_weaken (InSome ks) (InSome (ks ++ (x, ms) ∷ [])) v.fields v.globals gs
      (λ o y b. (b.0, b.1, b.2, before_end ks (x, ms) b.0 (y, b.1) b.3)) a.globals))
      (home_fields (InSome (ks ++ (x, ms) ∷ [])) (record { owner = InComponent (length v.component_members); slot = length v.globals }) x ms
      (home_starts v) [] (length v.component_members, ms, refl, at_end ks (x, ms) (length v.component_members) a.component_count) tt);
  class_count = a.class_count;
  field_count = a.field_count;
  component_count = count_push v.component_members _ ∙ ap suc a.component_count ∙ sym (count_push ks (x, ms));
}
  where
    stay : Stays v.fields (with_component ms v).fields
    stay = (members_stay (record { owner = InComponent (length v.component_members); slot = length v.globals }) ms (home_starts v)).0

all_more : (ds : Node) (es ks : List (Name × Node)) (gs : List FieldValue) (v : HomesView) → AllFields es ks gs v
    → AllFields (es ++ class_rows ds) (ks ++ component_list ds) (gs ++ globals_in ds) (with_declarations ds v)
all_more (Then (ClassDecl at x above ms) rest) es ks gs v a =
    subst (λ z. AllFields z (ks ++ component_list rest) (gs ++ globals_in rest) (with_declarations rest (with_class ms v)))
    (append_assoc es ((x, ms) ∷ []) (class_rows rest))
    (all_more rest (es ++ (x, ms) ∷ []) ks gs (with_class ms v) (class_more es ks gs v x ms a))
all_more (Then (ComponentDecl at x ms) rest) es ks gs v a =
    subst (λ z. AllFields (es ++ class_rows rest) z (gs ++ (fields_in x ms ++ globals_in rest)) (with_declarations rest (with_component ms v)))
    (append_assoc ks ((x, ms) ∷ []) (component_list rest))
    (subst (λ z. AllFields (es ++ class_rows rest) ((ks ++ (x, ms) ∷ []) ++ component_list rest) z (with_declarations rest (with_component ms v)))
    (append_assoc gs (fields_in x ms) (globals_in rest))
    (all_more rest es (ks ++ (x, ms) ∷ []) (gs ++ fields_in x ms) (with_component ms v) (component_more es ks gs v x ms a)))
all_more (Then _ rest) es ks gs v a = all_more rest es ks gs v a
all_more _ es ks gs v a =
    subst (λ z. AllFields z (ks ++ []) (gs ++ []) v) (append-none es)
    (subst (λ z. AllFields es z (gs ++ []) v) (append-none ks) (subst (λ z. AllFields es ks z v) (append-none gs) a))

pub all_fields : (ds : Node) → AllFields (class_rows ds) (component_list ds) (globals_in ds) (with_declarations ds no_view)
all_fields ds = all_more ds [] [] [] no_view (record {
  classes = λ c x ms e. cc;
  globals = tt;
  class_count = refl;
  field_count = refl;
  component_count = refl;
})
