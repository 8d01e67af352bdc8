-- The components, the classes and the fields of components, with names in place of numbers.
use Rattle.std.proofs.Common.{◌≡◌, ℕ, ◌+◌, ◌<◌, ◌==◌, ◌||◌, Bool, true, false, List, [], ◌∷◌, ◌++◌, length, map, Option, Some, None, slice_get}
use Rattle.std.proofs.Common.{refl, sym, ap, ◌∙◌, subst, arith}
use Rattle.std.specs.Option.{option_map}
use Rattle.std.proofs.lemmas.Bool.{eq-eqb}
use Rattle.std.proofs.lemmas.List.{length-map}
use Rattle.std.proofs.lemmas.Option.{slice_get-map}
use Rattle.vg_syntax.specs.Tree.{Node, Then, ClassDecl, ComponentDecl}
use Rattle.vg_syntax.specs.Classes.{ClassParts, class_named}
use Rattle.vg_tree.specs.Held as tree
use Rattle.vg_source.specs.Names.{Name}
use Rattle.vg_source.specs.Types.{StaticType}
use Rattle.vg_source.specs.Values.{FieldValue}
use Rattle.vg_source.specs.Values as source
use Rattle.vg_source.specs.Steps as steps
use Rattle.vg_source.specs.Declared.{chain_of, fields_in, fields_on, length_of, members_of, members_in}
use Rattle.vg_source.specs.Program.{components_in, classes_in, globals_in}
use Rattle.vg_core.specs.Naming.{Naming, component_name, owner_name, field_key, named_type_in, named_value, keyed, named_class, named_classes, named_components}
use Rattle.vg_core.specs.Tables.{is_in, type_in, field_type}
use Rattle.vg_core.specs.Heap.{default}
use Rattle.vg_core.specs.Meaning.{defaults, default_in}
use Rattle.vg_core.specs.declared.types.CoreType.{CoreType}
use Rattle.vg_core.specs.declared.types.CoreType.TheVariants.{IntType}
use Rattle.vg_core.specs.declared.program.Owner.{Owner}
use Rattle.vg_core.specs.declared.program.Class.{Class}
use Rattle.vg_core.specs.declared.program.Tables.{Tables}
use Rattle.vg_types_interned.specs.declared.table.Types.{Types}
use Rattle.vg_types_interned.specs.Types.{class_names, views}
use Rattle.vg_types_members.specs.Members.{field_view}
use Rattle.vg_types_hierarchy.specs.Classes.{above_number, the_class}
use Rattle.vg_types_hierarchy.specs.Inherited.{own_at}
use Rattle.vg_types_hierarchy.specs.Inherited as numbers
use Rattle.vg_types_heads.specs.declared.heads.Heads.{Heads}
use Rattle.vg_types_heads.specs.Heads.{heads_view}
use Rattle.vg_types_homes.specs.declared.homes.Homes.{Homes}
use Rattle.vg_types_homes.specs.Homes.{homes_view}
use Rattle.vg_types_tables.specs.declared.declared.Declared.{Declared}
use Rattle.vg_types_tables.specs.Views.{naming}
use Rattle.vg_types_chains.specs.Chains.{chain_at}
use Rattle.vg_types_declared.specs.Lists.{class_list, component_list}
use Rattle.vg_types_declared.specs.Members.{class_rows}
use Rattle.vg_types_declared.specs.Chains.{name_of}
use Rattle.vg_types_declared.specs.Named.{Keeps, IsLeft}
use Rattle.vg_types_declared.proofs.Forming.{Viewed, viewed, view_at, class_within, class_is, field_there, count_first}
use Rattle.vg_types_declared.proofs.Naming.{text_same, listed, above_same, chains, close, class_named as class_name_is, of_class}
use Rattle.vg_types_named.proofs.Lists.{all_components, all_classes}
use Rattle.vg_types_named.proofs.Fields.{AreFields, IsOf, InSome, AllFields, all_fields}

components_listed : (ds : Node) → components_in ds ≡ map (λ e. e.0) (component_list ds)
components_listed (Then (ComponentDecl at c members) rest) = ap (λ z. c ∷ z) (components_listed rest)
components_listed (Then _ rest) = components_listed rest
components_listed _ = refl

-- a class of the text
abbrev text_class : Node → Name × ClassParts → steps.Class
text_class ds e = record { name = e.0; above = chain_of ds e.0; fields = fields_on ds (chain_of ds e.0) }

classes_listed : (ds rest : Node) → classes_in ds rest ≡ map (text_class ds) (class_list rest)
classes_listed ds (Then (ClassDecl at c above members) rest) =
    ap (λ z. record { name = c; above = chain_of ds c; fields = fields_on ds (chain_of ds c) } ∷ z) (classes_listed ds rest)
classes_listed ds (Then _ rest) = classes_listed ds rest
classes_listed ds _ = refl

-- what a place holds before anything was put there
default_same : (n : Naming) (p : Tables) (m : Naming) (ts : List StaticType) (t : CoreType)
    → named_value n p (default t) ≡ source.default (named_type_in m ts t)
default_same n p m ts IntType = refl
default_same n p m ts _ = refl

-- a field with its value
abbrev one_value : Naming → Tables → ℕ → FieldValue
one_value n p f = record { owner = (n.field f).owner; name = (n.field f).name; value = named_value n p (default_in (field_type p f)) }

-- fields behind fields
keyed_two : (n : Naming) (p : Tables) (fs gs : List ℕ)
    → keyed n p (fs ++ gs) (defaults p (fs ++ gs)) ≡ keyed n p fs (defaults p fs) ++ keyed n p gs (defaults p gs)
keyed_two n p [] gs = refl
keyed_two n p (f ∷ fs) gs = ap (λ z. one_value n p f ∷ z) (keyed_two n p fs gs)

value_same : (a b : FieldValue) → a.owner ≡ b.owner → a.name ≡ b.name → a.value ≡ b.value → a ≡ b
value_same a b e f g =
    ap (λ z. record { owner = z; name = a.name; value = a.value }) e ∙ ap (λ z. record { owner = b.owner; name = z; value = a.value }) f
    ∙ ap (λ z. record { owner = b.owner; name = b.name; value = z }) g

class_same : (a b : steps.Class) → a.name ≡ b.name → a.above ≡ b.above → a.fields ≡ b.fields → a ≡ b
class_same a b e f g =
    ap (λ z. record { name = z; above = a.above; fields = a.fields }) e ∙ ap (λ z. record { name = b.name; above = z; fields = a.fields }) f
    ∙ ap (λ z. record { name = b.name; above = b.above; fields = z }) g

module _ (texts : List (List ℕ)) (ds : Node) (types : Types) (heads : Heads) (homes : Homes) (d : Declared) (kept : Keeps ds)
    (left : IsLeft texts ds types heads homes d) where
  pub components : named_components (naming texts d) d.tables 0 d.tables.components ≡ components_in ds
  components =
      all_components (naming texts d) d.tables (tree.text_at texts) 0 d.tables.components
      (λ i y e. let q : 0 + i ≡ i = omega arith in ap (naming texts d).component q ∙ ap (component_name texts) e ∙ text_same texts y)
      ∙ ap (map (tree.text_at texts)) left.component_table ∙ (listed texts ds types heads homes d kept left).component_names ∙ sym (components_listed ds)

  pub fields : AllFields (class_rows ds) (component_list ds) (globals_in ds) (homes_view texts types homes)
  fields = subst (AllFields (class_rows ds) (component_list ds) (globals_in ds)) (sym left.homes_left) (all_fields ds)

  -- fields with names in place of numbers
  keyed_is : (P : Owner → Name → Type 0) → ((o : Owner) (x : Name) → P o x → owner_name texts d.tables o ≡ x) → (fs : List ℕ) (vs : List FieldValue)
      → AreFields P (homes_view texts types homes).fields fs vs → keyed (naming texts d) d.tables fs (defaults d.tables fs) ≡ vs
  keyed_is P h [] [] a = refl
  keyed_is P h [] (v ∷ vs) a = absurd a
  keyed_is P h (f ∷ fs) [] a = absurd a
  keyed_is P h (f ∷ fs) (v ∷ vs) a =
      ap (λ z. one_value (naming texts d) d.tables f ∷ z) (keyed_is P h fs vs a.5)
      ∙ ap (λ z. z ∷ vs) (by (view_at (field_view texts types) homes.making.fields f a.0 a.1))
    where
      by : Viewed (field_view texts types) homes.making.fields f a.0
          → one_value (naming texts d) d.tables f ≡ v
      by (viewed y q e) =
          let g = field_there texts types homes (length_of ds) heads.class_names (map (above_number texts heads.classes) heads.above) d.tables left.built
          (close texts ds types heads homes d kept left) f y q in
          value_same (one_value (naming texts d) d.tables f) v
          (ap (λ o. (field_key texts d.tables o).owner) g ∙ ap (λ z. owner_name texts d.tables z.owner) e ∙ h a.0.owner v.owner a.2)
          (ap (λ o. (field_key texts d.tables o).name) g ∙ text_same texts y.name ∙ ap (λ z. z.name) e ∙ sym a.3)
          (ap (λ o. named_value (naming texts d) d.tables (default_in (type_in o))) g
          ∙ default_same (naming texts d) d.tables (class_names types.classes) (views types.classes types.numbers.keys) y.type_
          ∙ ap (λ z. source.default z.type) e ∙ sym a.4)

  pub globals : keyed (naming texts d) d.tables d.tables.globals (defaults d.tables d.tables.globals) ≡ globals_in ds
  globals =
      ap (λ z. keyed (naming texts d) d.tables z (defaults d.tables z)) left.built.global_table
      ∙ keyed_is (InSome (component_list ds)) owned homes.globals (globals_in ds) fields.globals
    where
      owned : (o : Owner) (x : Name) → InSome (component_list ds) o x → owner_name texts d.tables o ≡ x
      owned o x b =
          ap (owner_name texts d.tables) b.2 ∙ by (view_at (tree.text_at texts) heads.component_names b.0 x named)
        where
          named : slice_get (map (tree.text_at texts) heads.component_names) b.0 ≡ Some x
          named =
              ap (λ z. slice_get z b.0) (listed texts ds types heads homes d kept left).component_names
              ∙ slice_get-map (λ e. e.0) (component_list ds) b.0 ∙ ap (option_map (λ (e : Name × Node). e.0)) b.3

          by : Viewed (tree.text_at texts) heads.component_names b.0 x → component_name texts (slice_get d.tables.components b.0) ≡ x
          by (viewed y q e) = ap (component_name texts) (ap (λ z. slice_get z b.0) left.component_table ∙ q) ∙ text_same texts y ∙ e

  -- ---- classes

  -- the class of a number in the text
  pub class_there : (c : ℕ) → c < length heads.class_names
      → (p : ClassParts) × (class_named ds ((naming texts d).class c) ≡ Some p) × (slice_get (class_list ds) c ≡ Some ((naming texts d).class c, p))
  class_there c h =
      (listed texts ds types heads homes d kept left).class_at ((naming texts d).class c) c (of_class texts ds types heads homes d kept left c h)

  own_keyed : (c : ℕ) → c < length heads.class_names
      → keyed (naming texts d) d.tables (own_at (slice_get homes.class_fields c)) (defaults d.tables (own_at (slice_get homes.class_fields c)))
      ≡ fields_in ((naming texts d).class c) (members_of ds ((naming texts d).class c))
  own_keyed c h =
      let r = class_there c h in
      keyed_is (IsOf c ((naming texts d).class c)) (λ o x b. ap (owner_name texts d.tables) b.0 ∙ sym b.1) (own_at (slice_get homes.class_fields c))
      (fields_in ((naming texts d).class c) r.0.members)
      (fields.classes c ((naming texts d).class c) r.0.members
      (slice_get-map (λ e. (e.0, e.1.members)) (class_list ds) c ∙ ap (option_map (λ (e : Name × ClassParts). (e.0, e.1.members))) r.2))
      ∙ ap (λ o. fields_in ((naming texts d).class c) (members_in o)) (sym r.1)

  right : (a b : Bool) → b ≡ true → a || b ≡ true
  right true b e = refl
  right false b e = e

  along : (cs : List ℕ) → ((c : ℕ) → is_in cs c ≡ true → c < length heads.class_names)
      → keyed (naming texts d) d.tables (numbers.fields_on homes.class_fields cs) (defaults d.tables (numbers.fields_on homes.class_fields cs))
      ≡ fields_on ds (map (naming texts d).class cs)
  along [] w = refl
  along (c ∷ cs) w =
      keyed_two (naming texts d) d.tables (numbers.fields_on homes.class_fields cs) (own_at (slice_get homes.class_fields c))
      ∙ ap (λ z. z ++ keyed (naming texts d) d.tables (own_at (slice_get homes.class_fields c)) (defaults d.tables (own_at (slice_get homes.class_fields c))))
      (along cs (λ x m. w x (right (c == x) (is_in cs x) m)))
      ∙ ap (λ z. fields_on ds (map (naming texts d).class cs) ++ z) (own_keyed c (w c (ap (λ b. b || is_in cs c) (eq-eqb c c refl))))

  names_same : (cs : List ℕ) → ((c : ℕ) → is_in cs c ≡ true → c < length heads.class_names)
      → map (naming texts d).class cs ≡ map (name_of (heads_view texts heads)) cs
  names_same [] w = refl
  names_same (c ∷ cs) w =
      ap (λ z. z ∷ map (naming texts d).class cs)
      (class_name_is texts ds types heads homes d kept left c (w c (ap (λ b. b || is_in cs c) (eq-eqb c c refl))))
      ∙ ap (λ z. name_of (heads_view texts heads) c ∷ z) (names_same cs (λ x m. w x (right (c == x) (is_in cs x) m)))

  -- the chain of a class by its numbers
  abbrev up : ℕ → List ℕ
  up c = chain_at (length_of ds) (map (above_number texts heads.classes) heads.above) c

  up_within : (c : ℕ) → c < length heads.class_names → (x : ℕ) → is_in (up c) x ≡ true → x < length heads.class_names
  up_within c h x m =
      let q = left.built.above_count in
      let j = (close texts ds types heads homes d kept left).within c x (omega (arith, h, q)) m in
      omega (arith, j, q)

  up_named : (c : ℕ) → c < length heads.class_names → map (naming texts d).class (up c) ≡ chain_of ds ((naming texts d).class c)
  up_named c h =
      names_same (up c) (up_within c h)
      ∙ ap (λ z. map (name_of (heads_view texts heads)) (chain_at (length_of ds) z c)) (above_same texts ds types heads homes d kept left heads.above)
      ∙ (chains texts ds types heads homes d kept left).named ((naming texts d).class c) c (of_class texts ds types heads homes d kept left c h)

  one_class : (c : ℕ) (k : Class) (e : Name × ClassParts) → slice_get d.tables.classes c ≡ Some k → slice_get (class_list ds) c ≡ Some e
      → named_class (naming texts d) d.tables c k ≡ text_class ds e
  one_class c k e f g =
      class_same (named_class (naming texts d) d.tables c k) (text_class ds e) name
      (ap (λ z. map (naming texts d).class z.above) kind ∙ up_named c here ∙ ap (chain_of ds) name)
      (ap (λ z. keyed (naming texts d) d.tables z.fields (defaults d.tables z.fields)) kind ∙ along (up c) (up_within c here)
      ∙ ap (fields_on ds) (up_named c here) ∙ ap (λ z. fields_on ds (chain_of ds z)) name)
    where
      here : c < length heads.class_names
      here =
          class_within texts types homes (length_of ds) heads.class_names (map (above_number texts heads.classes) heads.above) d.tables left.built
          (close texts ds types heads homes d kept left) c k f

      kind : k ≡ the_class (length_of ds) heads.class_names (map (above_number texts heads.classes) heads.above) homes.class_fields homes.class_methods
          homes.class_params c
      kind = class_is texts types homes (length_of ds) heads.class_names (map (above_number texts heads.classes) heads.above) d.tables left.built
          (close texts ds types heads homes d kept left) c k f

      first_of : Option (Name × ClassParts) → Name
      first_of (Some q) = q.0
      first_of None = []

      name : (naming texts d).class c ≡ e.0
      name = ap first_of (sym (class_there c here).2 ∙ g)

  pub classes : named_classes (naming texts d) d.tables 0 d.tables.classes ≡ classes_in ds ds
  classes =
      all_classes (naming texts d) d.tables (text_class ds) 0 d.tables.classes (class_list ds) count
      (λ i k e f g. let q : 0 + i ≡ i = omega arith in ap (λ z. named_class (naming texts d) d.tables z k) q ∙ one_class i k e f g)
      ∙ sym (classes_listed ds ds)
    where
      count : length d.tables.classes ≡ length (class_list ds)
      count =
          ap length left.built.class_table
          ∙ count_first (the_class (length_of ds) heads.class_names (map (above_number texts heads.classes) heads.above) homes.class_fields
          homes.class_methods homes.class_params) (length heads.class_names)
          ∙ sym (length-map heads.class_names (tree.text_at texts)) ∙ ap length (listed texts ds types heads homes d kept left).class_names
          ∙ length-map (class_list ds) (λ e. e.0)
