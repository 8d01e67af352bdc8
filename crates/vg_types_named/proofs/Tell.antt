-- Names tell fields and methods apart: the names of their owners do, and their own names among those of one owner.
use Rattle.std.proofs.Common.{◌≡◌, ℕ, ◌<◌, ◌==◌, Bool, true, false, ◌&&◌, List, [], length, map, Some, None}
use Rattle.std.proofs.Common.{slice_get, bytes_eq, sym, ap, ◌∙◌, subst, arith}
use Rattle.std.specs.Option.{option_map}
use Rattle.std.proofs.lemmas.List.{length-map}
use Rattle.std.proofs.lemmas.Option.{slice_get-map}
use Rattle.std.proofs.lemmas.Slice.Eq.{bytes_eq-Decides}
use Rattle.vg_syntax.specs.Tree.{Node}
use Rattle.vg_tree.specs.Held as tree
use Rattle.vg_rules.specs.Signatures.{signatures_breach}
use Rattle.vg_core.specs.Naming.{Naming, owner_name}
use Rattle.vg_core.specs.Naming as naming_core
use Rattle.vg_core.specs.Program.{Body, Program, Signature, signature_of, body_of}
use Rattle.vg_core.specs.Tables.{is_below, dispatch}
use Rattle.vg_core.specs.declared.program.Owner.{Owner}
use Rattle.vg_core.specs.declared.program.Owner.TheVariants.{InClass, InComponent}
use Rattle.vg_core.specs.declared.program.Class.{Class}
use Rattle.vg_core.specs.declared.program.Field.{Field}
use Rattle.vg_core.specs.declared.program.Method.{Method}
use Rattle.vg_core.specs.declared.program.Tables.{Tables}
use Rattle.vg_core.specs.declared.program.Target.{Target}
use Rattle.vg_renamed.specs.IsNamed.{KeysTell}
use Rattle.vg_renamed.specs.NamesTell.{Inherited, NamesTell}
use Rattle.vg_types_views.specs.ByText.{found}
use Rattle.vg_types_interned.specs.declared.table.Types.{Types}
use Rattle.vg_types_members.specs.Members.{field_view}
use Rattle.vg_types_hierarchy.specs.Slots.{with_slot}
use Rattle.vg_types_heads.specs.declared.heads.Heads.{Heads}
use Rattle.vg_types_homes.specs.declared.homes.Homes.{Homes}
use Rattle.vg_types_homes.specs.Homes.{homes_view}
use Rattle.vg_types_tables.specs.declared.declared.Declared.{Declared}
use Rattle.vg_types_tables.specs.Views.{naming}
use Rattle.vg_types_declared.specs.Lists.{class_list, component_list}
use Rattle.vg_types_declared.specs.Named.{Keeps, IsLeft}
use Rattle.vg_types_declared.proofs.Forming.{Viewed, viewed, view_at, there}
use Rattle.vg_types_declared.proofs.Naming.{text_same, listed, component_found}
use Rattle.vg_types_declared.proofs.Owning.{method_is}
use Rattle.vg_types_named.specs.Left.{Left}
use Rattle.vg_types_declared.specs.Apart.{have_members}
use Rattle.vg_types_named.proofs.Apart.{both, homes_apart, all_differ}
use Rattle.vg_types_named.proofs.Keys.{field_key, method_key, InRange, AllOnes, ones}
use Rattle.vg_types_named.proofs.Tables.{fields, class_there}
use Rattle.vg_types_named.proofs.Telling.{same_test, one_some, class_here, one_class, one_component, classes_tell, components_tell, above, seen, held, owners}
use Rattle.vg_types_named.proofs.Telling.{selectors, inherits, targets}

all_true : (a b : Bool) → a ≡ true → b ≡ true → a && b ≡ true
all_true true b e f = f
all_true false b e f = e

module _ (texts : List (List ℕ)) (ds : Node) (types : Types) (heads : Heads) (homes : Homes) (d : Declared) (kept : Keeps ds)
    (rule : signatures_breach ds ds ≡ None) (members : have_members ds ≡ true) (left : IsLeft texts ds types heads homes d) where
  only : AllOnes (homes_view texts types homes)
  only = subst AllOnes (sym left.homes_left) (ones ds (all_differ ds ds rule members))

  -- ---- owners

  classes_count : length homes.class_members ≡ length heads.class_names
  classes_count =
      (fields texts ds types heads homes d kept left).class_count ∙ length-map (class_list ds) (λ e. (e.0, e.1.members))
      ∙ sym (length-map (class_list ds) (λ e. e.0)) ∙ sym (ap length (listed texts ds types heads homes d kept left).class_names)
      ∙ length-map heads.class_names (tree.text_at texts)

  components_count : length homes.component_members ≡ length d.tables.components
  components_count =
      (fields texts ds types heads homes d kept left).component_count ∙ sym (length-map (component_list ds) (λ e. e.0))
      ∙ sym (ap length (listed texts ds types heads homes d kept left).component_names) ∙ length-map heads.component_names (tree.text_at texts)
      ∙ sym (ap length left.component_table)

  abbrev Is : Owner → Type 0
  Is o = InRange (length homes.class_members) (length homes.component_members) o

  class_within : (c : ℕ) → c < length homes.class_members → c < length heads.class_names
  class_within c h = let n = classes_count in omega (arith, h, n)

  class_in : (c : ℕ) → c < length heads.class_names → c < length homes.class_members
  class_in c h = let n = classes_count in omega (arith, h, n)

  component_there : (k : ℕ) → k < length homes.component_members → (y : ℕ) × (slice_get d.tables.components k ≡ Some y)
  component_there k h = let n = components_count in there d.tables.components k (omega (arith, h, n))

  mixed : (c k : ℕ) → c < length homes.class_members → k < length homes.component_members → (naming texts d).class c ≡ (naming texts d).component k → ⊥
  mixed c k h g q =
      let y = component_there k g in
      let r = class_there texts ds types heads homes d kept left c (class_within c h) in
      let s = (listed texts ds types heads homes d kept left).component_at ((naming texts d).component k) k
      (component_found texts ds types heads homes d kept left k y.0 y.1) in
      homes_apart [] ds kept.names kept.declared c k ((naming texts d).class c) r.0 s.0 r.2 (s.2 ∙ ap (λ z. Some (z, s.0)) (sym q))

  one_owner : (o p : Owner) → Is o → Is p → owner_name texts d.tables o ≡ owner_name texts d.tables p → o ≡ p
  one_owner (InClass a) (InClass b) h g q =
      ap InClass (one_class texts ds types heads homes d kept left a b (class_within a h) (class_within b g) q)
  one_owner (InComponent a) (InComponent b) h g q =
      let y = component_there a h in
      let z = component_there b g in
      ap InComponent (one_component texts ds types heads homes d kept left a b y.0 z.0 y.1 z.1 q)
  one_owner (InClass a) (InComponent b) h g q = absurd (mixed a b h g q)
  one_owner (InComponent a) (InClass b) h g q = absurd (mixed b a g h (sym q))

  -- ---- fields

  field_there : (f : ℕ) (x : Field) → slice_get d.tables.fields f ≡ Some x
      → slice_get (map field_key (homes_view texts types homes).fields) f ≡ Some (x.owner, tree.text_at texts x.name)
  field_there f x e =
      by (view_at (with_slot d.tables.classes homes.class_fields) homes.making.fields f x (ap (λ z. slice_get z f) (sym left.built.field_table) ∙ e))
    where
      by : Viewed (with_slot d.tables.classes homes.class_fields) homes.making.fields f x
          → slice_get (map field_key (map (field_view texts types) homes.making.fields)) f ≡ Some (x.owner, tree.text_at texts x.name)
      by (viewed y q v) =
          slice_get-map field_key (map (field_view texts types) homes.making.fields) f
          ∙ ap (option_map field_key) (slice_get-map (field_view texts types) homes.making.fields f ∙ ap (option_map (field_view texts types)) q)
          ∙ ap (λ z. Some (z.owner, tree.text_at texts z.name)) v

  pub fields_tell : KeysTell (naming texts d) d.tables
  fields_tell f g x y e h =
      same_test (bytes_eq ((naming texts d).field g).owner ((naming texts d).field f).owner && bytes_eq ((naming texts d).field g).name
      ((naming texts d).field f).name) g f same
      (λ q. all_true _ _
      ((bytes_eq-Decides ((naming texts d).field g).owner ((naming texts d).field f).owner).1 (ap (λ i. ((naming texts d).field i).owner) q))
      ((bytes_eq-Decides ((naming texts d).field g).name ((naming texts d).field f).name).1 (ap (λ i. ((naming texts d).field i).name) q)))
    where
      same : (bytes_eq ((naming texts d).field g).owner ((naming texts d).field f).owner && bytes_eq ((naming texts d).field g).name
          ((naming texts d).field f).name) ≡ true → g ≡ f
      same b =
          let k = both _ _ b in
          let owner : owner_name texts d.tables y.owner ≡ owner_name texts d.tables x.owner =
          sym (ap (λ z. (naming_core.field_key texts d.tables z).owner) h)
          ∙ (bytes_eq-Decides ((naming texts d).field g).owner ((naming texts d).field f).owner).0 k.0
          ∙ ap (λ z. (naming_core.field_key texts d.tables z).owner) e in
          let name : tree.text_at texts y.name ≡ tree.text_at texts x.name =
          sym (text_same texts y.name) ∙ sym (ap (λ z. (naming_core.field_key texts d.tables z).name) h)
          ∙ (bytes_eq-Decides ((naming texts d).field g).name ((naming texts d).field f).name).0 k.1
          ∙ ap (λ z. (naming_core.field_key texts d.tables z).name) e ∙ text_same texts x.name in
          let o = one_owner y.owner x.owner (only.field_owners g (y.owner, tree.text_at texts y.name) (field_there g y h))
          (only.field_owners f (x.owner, tree.text_at texts x.name) (field_there f x e)) owner in
          only.fields g f (x.owner, tree.text_at texts x.name)
          (field_there g y h ∙ ap (λ z. Some (z, tree.text_at texts y.name)) o ∙ ap (λ z. Some (x.owner, z)) name) (field_there f x e)

  -- ---- methods

  method_there : (m : ℕ) (x : Method) → slice_get d.tables.methods m ≡ Some x
      → slice_get (map method_key (homes_view texts types homes).methods) m ≡ Some (x.owner, tree.text_at texts x.name)
  method_there m x e =
      slice_get-map method_key (homes_view texts types homes).methods m ∙ ap (option_map method_key) (seen texts ds types heads homes d kept left m x e)

  owner_is : (m : ℕ) (x : Method) → slice_get d.tables.methods m ≡ Some x → ((naming texts d).method m).owner ≡ owner_name texts d.tables x.owner
  owner_is m x e = ap (λ z. (naming_core.method_key texts d.tables z).owner) e

  name_is : (m : ℕ) (x : Method) → slice_get d.tables.methods m ≡ Some x → ((naming texts d).method m).name ≡ tree.text_at texts x.name
  name_is m x e = ap (λ z. (naming_core.method_key texts d.tables z).name) e ∙ text_same texts x.name

  owner_in : (m : ℕ) (x : Method) → slice_get d.tables.methods m ≡ Some x → Is x.owner
  owner_in m x e = only.method_owners m (x.owner, tree.text_at texts x.name) (method_there m x e)

  pub methods_tell : (i j : ℕ) (x y : Method) → slice_get d.tables.methods i ≡ Some x → slice_get d.tables.methods j ≡ Some y
      → (bytes_eq ((naming texts d).method i).owner ((naming texts d).method j).owner && bytes_eq ((naming texts d).method i).name
      ((naming texts d).method j).name) ≡ (i == j)
  methods_tell i j x y e h =
      same_test (bytes_eq ((naming texts d).method i).owner ((naming texts d).method j).owner && bytes_eq ((naming texts d).method i).name
      ((naming texts d).method j).name) i j same
      (λ q. all_true _ _
      ((bytes_eq-Decides ((naming texts d).method i).owner ((naming texts d).method j).owner).1 (ap (λ z. ((naming texts d).method z).owner) q))
      ((bytes_eq-Decides ((naming texts d).method i).name ((naming texts d).method j).name).1 (ap (λ z. ((naming texts d).method z).name) q)))
    where
      same : (bytes_eq ((naming texts d).method i).owner ((naming texts d).method j).owner && bytes_eq ((naming texts d).method i).name
          ((naming texts d).method j).name) ≡ true → i ≡ j
      same b =
          let k = both _ _ b in
          let o = one_owner x.owner y.owner (owner_in i x e) (owner_in j y h)
          (sym (owner_is i x e) ∙ (bytes_eq-Decides ((naming texts d).method i).owner ((naming texts d).method j).owner).0 k.0 ∙ owner_is j y h) in
          let name : tree.text_at texts x.name ≡ tree.text_at texts y.name =
          sym (name_is i x e) ∙ (bytes_eq-Decides ((naming texts d).method i).name ((naming texts d).method j).name).0 k.1 ∙ name_is j y h in
          only.methods i j (y.owner, tree.text_at texts y.name)
          (method_there i x e ∙ ap (λ z. Some (z, tree.text_at texts x.name)) o ∙ ap (λ z. Some (y.owner, z)) name) (method_there j y h)

  pub declared : (i j c : ℕ) (x y : Method) (k : Class) → slice_get d.tables.methods i ≡ Some x → slice_get d.tables.methods j ≡ Some y
      → slice_get d.tables.classes c ≡ Some k
      → (bytes_eq ((naming texts d).method i).owner ((naming texts d).class c) && bytes_eq ((naming texts d).method i).name
      ((naming texts d).selector y.selector)) ≡ true → (x.owner ≡ InClass c) × (x.selector ≡ y.selector)
  declared i j c x y k e h f b =
      let q = both (bytes_eq ((naming texts d).method i).owner ((naming texts d).class c)) (bytes_eq ((naming texts d).method i).name
      ((naming texts d).selector y.selector)) b in
      let name : tree.text_at texts x.name ≡ tree.text_at texts y.name =
      sym (name_is i x e) ∙ (bytes_eq-Decides ((naming texts d).method i).name ((naming texts d).selector y.selector)).0 q.1
      ∙ selectors texts ds types heads homes d kept left j y h ∙ name_is j y h in
      let a = (method_is texts ds types heads homes d kept left i x (held texts ds types heads homes d kept left i x e)).selector in
      let z = (method_is texts ds types heads homes d kept left j y (held texts ds types heads homes d kept left j y h)).selector in (
        one_owner x.owner (InClass c) (owner_in i x e) (class_in c (class_here texts ds types heads homes d kept left c k f))
            (sym (owner_is i x e) ∙ (bytes_eq-Decides ((naming texts d).method i).owner ((naming texts d).class c)).0 q.0),
        one_some x.selector y.selector (sym a ∙ ap (λ t. found t homes.making.selectors.numbers) name ∙ z),
      )

-- ---- all that is told by tables alone

record TablesTell (n : Naming) (p : Tables) : Type 0 where
  pub classes : (c e : ℕ) (k l : Class) → slice_get p.classes c ≡ Some k → slice_get p.classes e ≡ Some l → bytes_eq (n.class c) (n.class e) ≡ (c == e)
  pub above : (c e : ℕ) → is_below p c e ≡ true → (l : Class) × (slice_get p.classes e ≡ Some l)
  pub components : (j k x y : ℕ) → slice_get p.components j ≡ Some x → slice_get p.components k ≡ Some y
      → bytes_eq (n.component j) (n.component k) ≡ (j == k)
  pub fields : KeysTell n p
  pub methods : (i j : ℕ) (x y : Method) → slice_get p.methods i ≡ Some x → slice_get p.methods j ≡ Some y
      → (bytes_eq (n.method i).owner (n.method j).owner && bytes_eq (n.method i).name (n.method j).name) ≡ (i == j)
  pub declared : (i j c : ℕ) (x y : Method) (k : Class) → slice_get p.methods i ≡ Some x → slice_get p.methods j ≡ Some y → slice_get p.classes c ≡ Some k
      → (bytes_eq (n.method i).owner (n.class c) && bytes_eq (n.method i).name (n.selector y.selector)) ≡ true
      → (x.owner ≡ InClass c) × (x.selector ≡ y.selector)
  pub owners : (i c : ℕ) (x : Method) → slice_get p.methods i ≡ Some x → x.owner ≡ InClass c → (n.method i).owner ≡ n.class c
  pub selectors : (i : ℕ) (x : Method) → slice_get p.methods i ≡ Some x → n.selector x.selector ≡ (n.method i).name
  pub inherits : (c s m : ℕ) → dispatch p c s ≡ Some m → Inherited p c s m
  pub targets : (t : Target) (g : Signature) → signature_of p t ≡ Some g → (i : ℕ) × (slice_get p.targets i ≡ Some t)

tables_tell : (texts : List (List ℕ)) (ds : Node) (d : Declared) → Keeps ds → signatures_breach ds ds ≡ None → have_members ds ≡ true → Left texts ds d
    → TablesTell (naming texts d) d.tables
tables_tell texts ds d kept rule members l = record {
  classes = classes_tell texts ds l.types l.heads l.homes d kept l.left;
  above = above texts ds l.types l.heads l.homes d kept l.left;
  components = components_tell texts ds l.types l.heads l.homes d kept l.left;
  fields = fields_tell texts ds l.types l.heads l.homes d kept rule members l.left;
  methods = methods_tell texts ds l.types l.heads l.homes d kept rule members l.left;
  declared = declared texts ds l.types l.heads l.homes d kept rule members l.left;
  owners = owners texts ds l.types l.heads l.homes d kept l.left;
  selectors = selectors texts ds l.types l.heads l.homes d kept l.left;
  inherits = inherits texts ds l.types l.heads l.homes d kept l.left;
  targets = λ t g e. let s = targets texts ds l.types l.heads l.homes d kept l.left t g e in (s.0, ap (λ z. slice_get z s.0) l.targets ∙ s.1);
}

pub names_tell : (texts : List (List ℕ)) (ds : Node) (d : Declared) (p : Program) → Keeps ds → signatures_breach ds ds ≡ None → have_members ds ≡ true
    → Left texts ds d → p.tables ≡ d.tables → ((t : Target) (g : Signature) → signature_of p.tables t ≡ Some g → (b : Body) × (body_of p t ≡ Some b))
    → NamesTell (naming texts d) p
names_tell texts ds d p kept rule members l e bodies =
    let t = subst (TablesTell (naming texts d)) (sym e) (tables_tell texts ds d kept rule members l) in
    record {
      classes = t.classes;
      above = t.above;
      components = t.components;
      fields = t.fields;
      methods = t.methods;
      declared = t.declared;
      owners = t.owners;
      selectors = t.selectors;
      inherits = t.inherits;
      targets = λ u g b s f. t.targets u g s;
      bodies = bodies;
    }
