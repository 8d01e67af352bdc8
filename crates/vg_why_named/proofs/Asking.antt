-- The members that are asked for, under numbers and under names.
use Rattle.std.proofs.Common.{◌≡◌, ℕ, zero, suc, ◌+◌, ◌&&◌, Bool, true, false, List, [], ◌∷◌, ◌++◌, length, Option, Some, None, slice_get}
use Rattle.std.proofs.Common.{if◌then◌else◌, refl, sym, ap, ◌∙◌, arith}
use Rattle.std.specs.Prelude.{◌<◌, bytes_eq}
use Rattle.std.proofs.lemmas.Option.{slice_get_within}
use Rattle.std.proofs.lemmas.Slice.Eq.{bytes_eq-Decides}
use Rattle.vg_source.specs.Names.{Name}
use Rattle.vg_source.specs.Values as source_value
use Rattle.vg_source.specs.Steps as source_step
use Rattle.vg_source.specs.Steps.{Routine}
use Rattle.vg_source.specs.State.{find_value, find_routine, find_class}
use Rattle.vg_core.specs.declared.member.Member.{Member}
use Rattle.vg_core.specs.declared.member.Member.TheVariants.{Method, Field}
use Rattle.vg_core.specs.declared.heap.Cell.TheVariants.{Object}
use Rattle.vg_core.specs.declared.program.Owner.{Owner}
use Rattle.vg_core.specs.declared.program.Owner.TheVariants.{InClass, InComponent}
use Rattle.vg_core.specs.declared.program.Class.{Class}
use Rattle.vg_core.specs.declared.program.Method as program
use Rattle.vg_core.specs.declared.program.Field as field
use Rattle.vg_core.specs.declared.program.Target.{Target}
use Rattle.vg_core.specs.declared.program.Target.TheVariants.{Run, Construct, Start}
use Rattle.vg_core.specs.declared.program.Tables.{Tables}
use Rattle.vg_core.specs.Tables.{is_below, slot_where, has_fields_of, is_component, slot_in, slot_of, global_slot_in, global_slot, field_type, fields_in}
use Rattle.vg_core.specs.Program.{Body, Program, Signature, method_signature, signature_of, body_of}
use Rattle.vg_core.specs.Heap.{value_in}
use Rattle.vg_core.specs.Meaning.{default_in, defaults}
use Rattle.vg_core.specs.Naming.{Naming, naming_of, owner_name, field_key, named_value, keyed, named_routine, named_class, named_classes}
use Rattle.vg_core.specs.Naming.{routine_at, routines_at}
use Rattle.vg_core.specs.Naming.{named}
use Rattle.vg_core.specs.Typing.{WellFormed, WellTyped}
use Rattle.vg_sound.proofs.Values.{the_same, none_some}
use Rattle.vg_renamed.specs.NamesTell.{NamesTell}
use Rattle.vg_renamed.proofs.Named.{is_named}
use Rattle.vg_renamed.proofs.Fields.{component_value, cell_value}
use Rattle.vg_live_source.specs.Members as source
use Rattle.vg_live_source.specs.Asking.{or_else, where_found, field_of_class, member_of}
use Rattle.vg_live_named.specs.Members.{named_member}
use Rattle.vg_live_named.proofs.Steps.{within}
use Rattle.vg_live_named.proofs.Names.{routine_there}
use Rattle.vg_why_named.specs.Owners.{OwnerThere, IsDeclared}

-- ---- names

both_true : (a b : Bool) → (a && b) ≡ true → (a ≡ true) × (b ≡ true)
both_true true true e = (refl, refl)
both_true true false e = absurd (let clash : false ≡ true = e in cc)
both_true false b e = absurd (let clash : false ≡ true = e in cc)

-- ---- defaults

defaults_get : (p : Tables) (fs : List ℕ) (i f : ℕ) → slice_get fs i ≡ Some f → slice_get (defaults p fs) i ≡ Some (default_in (field_type p f))
defaults_get p [] i f e = none_some f e
defaults_get p (g ∷ fs) zero f e = ap (λ z. Some (default_in (field_type p z))) (the_same _ _ e)
defaults_get p (g ∷ fs) (suc i) f e = defaults_get p fs i f e

module _ (n : Naming) (p : Program) where
  -- ---- what has these names

  -- a method of these names
  abbrev MethodNamed : Name → Name → Type 0
  MethodNamed c x = (m : ℕ) × (y : program.Method) × (slice_get p.tables.methods m ≡ Some y) × ((n.method m).owner ≡ c) × ((n.method m).name ≡ x)

  -- one of these fields has these names
  abbrev FieldNamed : List ℕ → Name → Name → Type 0
  FieldNamed fs c x = (i f : ℕ) × (slice_get fs i ≡ Some f) × ((n.field f).owner ≡ c) × ((n.field f).name ≡ x)

  method_there : {g : Signature} (o : Option program.Method) → method_signature o ≡ Some g → (y : program.Method) × (o ≡ Some y)
  method_there None e = none_some _ e
  method_there (Some y) e = (y, refl)

  routine_back : (ts : List Target) (c x : Name) (R : Routine) → find_routine (routines_at n p ts) (source_step.Method c x) ≡ Some R → MethodNamed c x
  routine_back [] c x R e = none_some R e
  routine_back (t ∷ ts) c x R e = by t (signature_of p.tables t) (body_of p t) refl e (λ q. routine_back ts c x R q)
    where
      named_so : (m : ℕ) (y : program.Method) → slice_get p.tables.methods m ≡ Some y
          → (bytes_eq (n.method m).owner c && bytes_eq (n.method m).name x) ≡ true → MethodNamed c x
      named_so m y ey q = let z = both_true _ _ q in (m, y, ey, (bytes_eq-Decides (n.method m).owner c).0 z.0, (bytes_eq-Decides (n.method m).name x).0 z.1)

      choose : (m : ℕ) (r : Routine) (y : program.Method) → slice_get p.tables.methods m ≡ Some y → (b : Bool)
          → (bytes_eq (n.method m).owner c && bytes_eq (n.method m).name x) ≡ b
          → (if b then Some r else find_routine (routines_at n p ts) (source_step.Method c x)) ≡ Some R
          → (find_routine (routines_at n p ts) (source_step.Method c x) ≡ Some R → MethodNamed c x) → MethodNamed c x
      choose m r y ey true eb q go = named_so m y ey eb
      choose m r y ey false eb q go = go q

      of_method : (m : ℕ) (g : Signature) (b : Body) → ((y : program.Method) × (slice_get p.tables.methods m ≡ Some y))
          → find_routine (routine_at n p (Run m) (Some g) (Some b) ++ routines_at n p ts) (source_step.Method c x) ≡ Some R
          → (find_routine (routines_at n p ts) (source_step.Method c x) ≡ Some R → MethodNamed c x) → MethodNamed c x
      of_method m g b (y, ey) q go = choose m (named_routine n p.tables (Run m) g b) y ey _ refl q go

      by : (u : Target) (o : Option Signature) (d : Option Body) → signature_of p.tables u ≡ o
          → find_routine (routine_at n p u o d ++ routines_at n p ts) (source_step.Method c x) ≡ Some R
          → (find_routine (routines_at n p ts) (source_step.Method c x) ≡ Some R → MethodNamed c x) → MethodNamed c x
      by (Run m) (Some g) (Some b) eo q go = of_method m g b (method_there (slice_get p.tables.methods m) eo) q go
      by (Construct i) (Some g) (Some b) eo q go = go q
      by (Start i) (Some g) (Some b) eo q go = go q
      by u (Some g) None eo q go = go q
      by u None (Some b) eo q go = go q
      by u None None eo q go = go q

  field_back : (fs : List ℕ) (c x : Name) (v : source_value.Value) → find_value (keyed n p.tables fs (defaults p.tables fs)) c x ≡ Some v → FieldNamed fs c x
  field_back [] c x v e = none_some v e
  field_back (f ∷ fs) c x v e =
      by (bytes_eq (n.field f).owner c && bytes_eq (n.field f).name x) refl e (λ q. field_back fs c x v q)
    where
      first : source_value.Value
      first = named_value n p.tables (default_in (field_type p.tables f))

      later : FieldNamed fs c x → FieldNamed (f ∷ fs) c x
      later (i, g, eg, ec, ex) = (suc i, g, eg, ec, ex)

      by : (b : Bool) → (bytes_eq (n.field f).owner c && bytes_eq (n.field f).name x) ≡ b
          → (if b then Some first else find_value (keyed n p.tables fs (defaults p.tables fs)) c x) ≡ Some v
          → (find_value (keyed n p.tables fs (defaults p.tables fs)) c x ≡ Some v → FieldNamed fs c x) → FieldNamed (f ∷ fs) c x
      by true eb q go = let z = both_true _ _ eb in (0, f, refl, (bytes_eq-Decides (n.field f).owner c).0 z.0, (bytes_eq-Decides (n.field f).name x).0 z.1)
      by false eb q go = later (go q)

  abbrev ClassFound : source_step.Class → Type 0
  ClassFound k = (c : ℕ) × (l : Class) × (slice_get p.tables.classes c ≡ Some l) × (k ≡ named_class n p.tables c l)

  class_back : (j : ℕ) (ks : List Class) → ((i : ℕ) (l : Class) → slice_get ks i ≡ Some l → slice_get p.tables.classes (j + i) ≡ Some l) → (c : Name)
      (k : source_step.Class) → find_class (named_classes n p.tables j ks) c ≡ Some k → ClassFound k
  class_back j [] h c k e = none_some k e
  class_back j (l ∷ ks) h c k e = by (bytes_eq (n.class j) c) e (λ q. class_back (suc j) ks shifted c k q)
    where
      at_zero : j + 0 ≡ j
      at_zero = omega arith

      at_next : (i : ℕ) → j + suc i ≡ suc j + i
      at_next i = omega arith

      shifted : (i : ℕ) (x : Class) → slice_get ks i ≡ Some x → slice_get p.tables.classes (suc j + i) ≡ Some x
      shifted i x q = ap (slice_get p.tables.classes) (sym (at_next i)) ∙ h (suc i) x q

      by : (b : Bool) → (if b then Some (named_class n p.tables j l) else find_class (named_classes n p.tables (suc j) ks) c) ≡ Some k
          → (find_class (named_classes n p.tables (suc j) ks) c ≡ Some k → ClassFound k) → ClassFound k
      by true q go = (j, l, ap (slice_get p.tables.classes) (sym at_zero) ∙ h 0 l refl, sym (the_same _ _ q))
      by false q go = go q

  -- ---- fields and their owners

  module _ (tell : NamesTell n p) (formed : WellFormed p.tables) where
    global_declared : (i f : ℕ) → slice_get p.tables.globals i ≡ Some f → IsDeclared p.tables (Field f)
    global_declared i f e = by (slice_get p.tables.fields f) refl ((formed.global_slots i f).0 e)
      where
        of_owner : (o : Owner) (y : field.Field) → slot_where (is_component o) y ≡ Some i → OwnerThere p.tables o
        of_owner (InComponent k) y q = tt
        of_owner (InClass d) y q = none_some i q

        by : (o : Option field.Field) → slice_get p.tables.fields f ≡ o → global_slot_in o ≡ Some i → IsDeclared p.tables (Field f)
        by (Some y) eo q = (y, eo, of_owner y.owner y q)
        by None eo q = none_some i q

    object_declared : (c i f : ℕ) (l : Class) → slice_get p.tables.classes c ≡ Some l → slice_get l.fields i ≡ Some f → IsDeclared p.tables (Field f)
    object_declared c i f l el e = by (slice_get p.tables.fields f) refl ((formed.slots c i f l el).0 e)
      where
        class_there : (d : ℕ) → ((k : Class) × (slice_get p.tables.classes d ≡ Some k)) → d < length p.tables.classes
        class_there d (k, ek) = slice_get_within p.tables.classes d k ek

        below : (d : ℕ) (y : field.Field) (b : Bool) → is_below p.tables c d ≡ b → slot_where b y ≡ Some i → d < length p.tables.classes
        below d y true eb q = class_there d (tell.above c d eb)
        below d y false eb q = none_some i q

        of_owner : (o : Owner) (y : field.Field) → slot_where (has_fields_of p.tables c o) y ≡ Some i → OwnerThere p.tables o
        of_owner (InClass d) y q = below d y (is_below p.tables c d) refl q
        of_owner (InComponent k) y q = none_some i q

        by : (o : Option field.Field) → slice_get p.tables.fields f ≡ o → slot_in p.tables c o ≡ Some i → IsDeclared p.tables (Field f)
        by (Some y) eo q = (y, eo, of_owner y.owner y q)
        by None eo q = none_some i q

  -- ---- members

  module _ (tell : NamesTell n p) (good : WellTyped p) where
    pub method_declared : (m : ℕ) → m < length p.tables.methods → member_of (named n p) (n.method m).owner (n.method m).name
        ≡ Some (named_member n (Method m))
    method_declared m l = by (within p.tables.methods m l)
      where
        found : (y : program.Method)
            → ((g : Signature) × (b : Body) × (slice_get p.methods m ≡ Some b)
            × (find_routine (named n p).routines (source_step.Method (n.method m).owner (n.method m).name) ≡ Some (named_routine n p.tables (Run m) g b)))
            → member_of (named n p) (n.method m).owner (n.method m).name ≡ Some (named_member n (Method m))
        found y (g, b, eb, er) = ap (λ o. or_else (where_found o (source.Method (n.method m).owner (n.method m).name))
            (or_else (where_found (find_value (named n p).globals (n.method m).owner (n.method m).name) (source.Field (n.method m).owner (n.method m).name))
            (where_found (field_of_class (find_class (named n p).classes (n.method m).owner) (n.method m).owner (n.method m).name)
            (source.Field (n.method m).owner (n.method m).name)))) er

        by : ((y : program.Method) × (slice_get p.tables.methods m ≡ Some y))
            → member_of (named n p) (n.method m).owner (n.method m).name ≡ Some (named_member n (Method m))
        by (y, ey) = found y (routine_there n p tell good m y ey)

    abbrev Declared : source.Member → Type 0
    Declared z = (y : Member) × (z ≡ named_member n y) × IsDeclared p.tables y

    module _ (c x : Name) (z : source.Member) where
      as_method : MethodNamed c x → source.Method c x ≡ z → Declared z
      as_method (m, y, ey, ec, ex) e =
          (Method m, sym e ∙ (ap (λ w. source.Method w x) (sym ec) ∙ ap (source.Method (n.method m).owner) (sym ex)), slice_get_within p.tables.methods m y ey)

      as_field : (f : ℕ) → IsDeclared p.tables (Field f) → (n.field f).owner ≡ c → (n.field f).name ≡ x → source.Field c x ≡ z → Declared z
      as_field f d ec ex e = (Field f, sym e ∙ (ap (λ w. source.Field w x) (sym ec) ∙ ap (source.Field (n.field f).owner) (sym ex)), d)

      as_global : FieldNamed p.tables.globals c x → source.Field c x ≡ z → Declared z
      as_global (i, f, ef, ec, ex) e = as_field f (global_declared tell good.tables i f ef) ec ex e

      of_class : (k : ℕ) (l : Class) → slice_get p.tables.classes k ≡ Some l → FieldNamed l.fields c x → source.Field c x ≡ z → Declared z
      of_class k l el (i, f, ef, ec, ex) e = as_field f (object_declared tell good.tables k i f l el ef) ec ex e

      in_class : (k : source_step.Class) → ClassFound k → (v : source_value.Value) → find_value k.fields c x ≡ Some v → source.Field c x ≡ z → Declared z
      in_class k (j, l, el, ek) v q e =
          of_class j l el (field_back l.fields c x v (ap (λ (w : source_step.Class). find_value w.fields c x) (sym ek) ∙ q)) e

      by_class : (o : Option source_step.Class) → find_class (named n p).classes c ≡ o → where_found (field_of_class o c x) (source.Field c x) ≡ Some z
          → Declared z
      by_class None eo q = none_some z q
      by_class (Some k) eo q = by (find_value k.fields c x) refl q
        where
          from_zero : (i : ℕ) (l : Class) → slice_get p.tables.classes i ≡ Some l → slice_get p.tables.classes (0 + i) ≡ Some l
          from_zero i l h = let e : 0 + i ≡ i = omega arith in ap (slice_get p.tables.classes) e ∙ h

          by : (o : Option source_value.Value) → find_value k.fields c x ≡ o → where_found o (source.Field c x) ≡ Some z → Declared z
          by (Some v) ev e = in_class k (class_back 0 p.tables.classes from_zero c k eo) v ev (the_same _ _ e)
          by None ev e = none_some z e

      by_global : (o : Option source_value.Value) → find_value (named n p).globals c x ≡ o
          → or_else (where_found o (source.Field c x)) (where_found (field_of_class (find_class (named n p).classes c) c x) (source.Field c x)) ≡ Some z
          → Declared z
      by_global (Some v) ev q = as_global (field_back p.tables.globals c x v ev) (the_same _ _ q)
      by_global None ev q = by_class (find_class (named n p).classes c) refl q

      by_method : (o : Option Routine) → find_routine (named n p).routines (source_step.Method c x) ≡ o
          → or_else (where_found o (source.Method c x)) (or_else (where_found (find_value (named n p).globals c x) (source.Field c x))
          (where_found (field_of_class (find_class (named n p).classes c) c x) (source.Field c x))) ≡ Some z
          → Declared z
      by_method (Some r) er q = as_method (routine_back p.tables.targets c x r er) (the_same _ _ q)
      by_method None er q = by_global (find_value (named n p).globals c x) refl q

      pub declared_member : member_of (named n p) c x ≡ Some z → Declared z
      declared_member e = by_method (find_routine (named n p).routines (source_step.Method c x)) refl e

-- ---- a field of the tables is declared

module _ (texts : List Name) (p : Program) (tell : NamesTell (naming_of texts p.tables) p) (good : WellTyped p) (f : ℕ) where
  abbrev n : Naming
  n = naming_of texts p.tables

  abbrev c : Name
  c = (n.field f).owner

  abbrev x : Name
  x = (n.field f).name

  abbrev FieldFound : Type 0
  FieldFound = member_of (named n p) c x ≡ Some (source.Field c x)

  -- a component has it
  global_found : (y : field.Field) (k : ℕ) → slice_get p.tables.fields f ≡ Some y → y.owner ≡ InComponent k
      → (v : source_value.Value) × (find_value (named n p).globals c x ≡ Some v)
  global_found y k ey eo = (
    _,
    component_value n p.tables tell.fields good.tables (record { cells = []; globals = defaults p.tables p.tables.globals }) f _
        (ap (λ o. value_in o (defaults p.tables p.tables.globals)) slot
        ∙ defaults_get p.tables p.tables.globals y.slot f ((good.tables.global_slots y.slot f).1 slot)),
  )
    where
      slot : global_slot p.tables f ≡ Some y.slot
      slot = ap global_slot_in ey ∙ ap (λ o. slot_where (is_component o) y) eo

  -- the objects of a class have it
  object_found : (y : field.Field) (d : ℕ) (l : Class) → slice_get p.tables.fields f ≡ Some y → y.owner ≡ InClass d → slice_get p.tables.classes d ≡ Some l
      → (v : source_value.Value) × (field_of_class (find_class (named n p).classes c) c x ≡ Some v)
  object_found y d l ey eo el = (
    _,
    ap (λ z. field_of_class (find_class (named n p).classes z) c x) owner_is
        ∙ (ap (λ o. field_of_class o c x) ((is_named n p tell).classes d l el)
        ∙ (ap (λ o. find_value (keyed n p.tables (fields_in o) (defaults p.tables l.fields)) c x) (sym el)
        ∙ cell_value n p.tables tell.fields good.tables (Object d (defaults p.tables l.fields) ∷ []) 0 f _
        (ap (λ o. value_in o (defaults p.tables l.fields)) slot
        ∙ defaults_get p.tables l.fields y.slot f ((good.tables.slots d y.slot f l el).1 slot)))),
  )
    where
      owner_is : c ≡ n.class d
      owner_is = ap (λ o. (field_key texts p.tables o).owner) ey ∙ ap (owner_name texts p.tables) eo

      slot : slot_of p.tables d f ≡ Some y.slot
      slot = ap (slot_in p.tables d) ey ∙ (ap (λ o. slot_where (has_fields_of p.tables d o) y) eo
          ∙ ap (λ b. slot_where b y) (good.tables.itself d l el))

  -- no method has its names
  abbrev NoMethod : Type 0
  NoMethod = (m : ℕ) → m < length p.tables.methods → (n.method m).owner ≡ c → (n.method m).name ≡ x → ⊥

  no_routine : NoMethod → (o : Option Routine) → find_routine (named n p).routines (source_step.Method c x) ≡ o → o ≡ None
  no_routine none None e = refl
  no_routine none (Some r) e = by (routine_back n p p.tables.targets c x r e)
    where
      by : MethodNamed n p c x → Some r ≡ None
      by (m, y, ey, ec, ex) = absurd (none m (slice_get_within p.tables.methods m y ey) ec ex)

  behind_methods : NoMethod
      → or_else (where_found (find_value (named n p).globals c x) (source.Field c x))
      (where_found (field_of_class (find_class (named n p).classes c) c x) (source.Field c x)) ≡ Some (source.Field c x)
      → FieldFound
  behind_methods none e = ap (λ o. or_else (where_found o (source.Method c x)) (or_else (where_found (find_value (named n p).globals c x) (source.Field c x))
      (where_found (field_of_class (find_class (named n p).classes c) c x) (source.Field c x))))
      (no_routine none (find_routine (named n p).routines (source_step.Method c x)) refl) ∙ e

  either : (o q : Option source_value.Value) → ((v : source_value.Value) × (q ≡ Some v))
      → or_else (where_found o (source.Field c x)) (where_found q (source.Field c x)) ≡ Some (source.Field c x)
  either (Some v) q a = refl
  either None (Some v) a = refl
  either None None (v, e) = none_some v e

  first : (o q : Option source_value.Value) → ((v : source_value.Value) × (o ≡ Some v))
      → or_else (where_found o (source.Field c x)) (where_found q (source.Field c x)) ≡ Some (source.Field c x)
  first (Some v) q a = refl
  first None q (v, e) = none_some v e

  pub field_declared : IsDeclared p.tables (Field f) → NoMethod → FieldFound
  field_declared (y, ey, there) none = behind_methods none (by y.owner refl there)
    where
      of_class : (d : ℕ) → y.owner ≡ InClass d → ((l : Class) × (slice_get p.tables.classes d ≡ Some l))
          → or_else (where_found (find_value (named n p).globals c x) (source.Field c x))
          (where_found (field_of_class (find_class (named n p).classes c) c x) (source.Field c x)) ≡ Some (source.Field c x)
      of_class d eo (l, el) = either (find_value (named n p).globals c x) (field_of_class (find_class (named n p).classes c) c x)
          (object_found y d l ey eo el)

      by : (o : Owner) → y.owner ≡ o → OwnerThere p.tables o
          → or_else (where_found (find_value (named n p).globals c x) (source.Field c x))
          (where_found (field_of_class (find_class (named n p).classes c) c x) (source.Field c x)) ≡ Some (source.Field c x)
      by (InComponent k) eo a = first (find_value (named n p).globals c x) (field_of_class (find_class (named n p).classes c) c x) (global_found y k ey eo)
      by (InClass d) eo a = of_class d eo (within p.tables.classes d a)
