-- From what stands in the tables to what the program declares.
use Rattle.std.proofs.Common.{◌≡◌, ℕ, ◌<◌, ◌⊎◌, Bool, true, false, List, length, Option, Some, None, refl, sym, ap, ◌∙◌, subst, arith, inl, inr}
use Rattle.std.specs.Prelude.{◌&&◌, bytes_eq, nat_lt, slice_get}
use Rattle.std.proofs.lemmas.Slice.Eq.{bytes_eq-Decides}
use Rattle.std.proofs.lemmas.Option.{slice_get_within}
use Rattle.vg_source.specs.Names.{Name}
use Rattle.vg_source.specs.Steps.{Source}
use Rattle.vg_source.specs.Steps.{Method as TheMethod}
use Rattle.vg_source.specs.State.{find_class, find_routine, find_value}
use Rattle.vg_core.specs.declared.member.Member.{Member}
use Rattle.vg_core.specs.declared.member.Member.TheVariants.{Method, Field, Cell}
use Rattle.vg_core.specs.declared.program.Class.{Class}
use Rattle.vg_core.specs.declared.program.Field.{Field as AField}
use Rattle.vg_core.specs.declared.program.Method.{Method as AMethod}
use Rattle.vg_core.specs.declared.program.Owner.{Owner}
use Rattle.vg_core.specs.declared.program.Owner.TheVariants.{InClass, InComponent}
use Rattle.vg_core.specs.declared.program.Tables.{Tables}
use Rattle.vg_core.specs.declared.program.Target.TheVariants.{Run}
use Rattle.vg_core.specs.Tables.{global_slot, global_slot_in, has_fields_of, is_component, slot_in, slot_of, slot_where}
use Rattle.vg_core.specs.Naming.{Naming, field_key, method_key, naming_of, named}
use Rattle.vg_core.specs.Program.{Body, Program, Signature, signature_of}
use Rattle.vg_core.specs.Typing.{TypedBody, WellTyped}
use Rattle.vg_renamed.specs.NamesTell.{NamesTell}
use Rattle.vg_live_source.specs.Members as source
use Rattle.vg_live_source.specs.Asking.{member_of, or_else, where_found, field_of_class}
use Rattle.vg_live_named.specs.Members.{named_member}
use Rattle.vg_live_named.proofs.Steps.{method_body, within}
use Rattle.vg_why_named.specs.Owners.{IsDeclared, OwnerThere}
use Rattle.vg_why_named.proofs.Asking.{declared_member, field_declared, method_declared}
use Rattle.vg_lookup.specs.Lookup.{Finds, word_of}
use Rattle.vg_lookup.specs.Mirrors.{FindsAny, FindsField, FindsMethod, field_has, method_has, owner_there}

true_false : true ≡ false → ⊥
true_false e = cc

both : (a b : Bool) → (a && b) ≡ true → (a ≡ true) × (b ≡ true)
both true b e = (refl, e)
both false b e = cc

and_true : (a b : Bool) → a ≡ true → b ≡ true → (a && b) ≡ true
and_true a b e f = ap (λ x. x && b) e ∙ f

is_below : (m n : ℕ) → nat_lt m n ≡ true → m < n
is_below m n e = grind (arith, e)

below_is : (m n : ℕ) → m < n → nat_lt m n ≡ true
below_is m n l = grind (arith, l)

-- ---- owners

owner_is : (t : Tables) (o : Owner) → owner_there t o ≡ true → OwnerThere t o
owner_is t (InClass c) e = is_below c (length t.classes) e
owner_is t (InComponent k) e = tt

is_owner : (t : Tables) (o : Owner) → OwnerThere t o → owner_there t o ≡ true
is_owner t (InClass c) l = below_is c (length t.classes) l
is_owner t (InComponent k) l = refl

-- ---- what a look-up in the program with names finds

-- a member that is found has the names that were asked for
abbrev HasNames : (c x : Name) → source.Member → Type 0
HasNames c x (source.Method d y) = (d ≡ c) × (y ≡ x)
HasNames c x (source.Field d y) = (d ≡ c) × (y ≡ x)
HasNames c x (source.Cell k) = ⊥

one_member : (y z : source.Member) → Some y ≡ Some z → y ≡ z
one_member y z e = cc

none_member : (z : source.Member) → None ≡ Some z → ⊥
none_member z e = cc

where_names : {A : Type 0} (c x : Name) (o : Option A) (y z : source.Member) → HasNames c x y → where_found o y ≡ Some z → HasNames c x z
where_names c x (Some a) y z h e = subst (HasNames c x) (one_member y z e) h
where_names c x None y z h e = absurd (none_member z e)

or_names : (c x : Name) (o p : Option source.Member) (z : source.Member) → ((y : source.Member) → o ≡ Some y → HasNames c x y)
    → ((y : source.Member) → p ≡ Some y → HasNames c x y) → or_else o p ≡ Some z → HasNames c x z
or_names c x (Some y) p z f g e = f z e
or_names c x None p z f g e = g z e

found_names : (q : Source) (c x : Name) (z : source.Member) → member_of q c x ≡ Some z → HasNames c x z
found_names q c x z e =
    or_names c x _ _ z (λ y k. where_names c x (find_routine q.routines (TheMethod c x)) (source.Method c x) y (refl, refl) k)
    (λ y k. or_names c x _ _ y (λ v l. where_names c x (find_value q.globals c x) (source.Field c x) v (refl, refl) l)
    (λ v l. where_names c x (field_of_class (find_class q.classes c) c x) (source.Field c x) v (refl, refl) l) k) e

keyed : (c d x y : Name) → d ≡ c → y ≡ x → word_of c x ≡ word_of d y
keyed c d x y e f = sym (ap (λ z. word_of z y) e ∙ ap (word_of c) f)

-- ---- the word and the member

module _ (texts : List Name) (p : Program) (word : List ℕ) where
  abbrev t : Tables
  t = p.tables

  abbrev n : Naming
  n = naming_of texts t

  -- the word is that of a method, and of a field
  abbrev MethodWord : ℕ → Type 0
  MethodWord m = word ≡ word_of (n.method m).owner (n.method m).name

  abbrev FieldWord : ℕ → Type 0
  FieldWord f = word ≡ word_of (n.field f).owner (n.field f).name

  -- a method that has the word is there
  method_written : (m : ℕ) (o : Option AMethod) → slice_get t.methods m ≡ o → method_has texts t word o ≡ true → (m < length t.methods) × MethodWord m
  method_written m (Some y) e h = (
    slice_get_within t.methods m y e,
    (bytes_eq-Decides word _).0 h ∙ ap (λ o. word_of (method_key texts t o).owner (method_key texts t o).name) (sym e),
  )
  method_written m None e h = absurd (true_false (sym h))

  written_method : (m : ℕ) (y : AMethod) → slice_get t.methods m ≡ Some y → MethodWord m → method_has texts t word (slice_get t.methods m) ≡ true
  written_method m y e w =
      ap (method_has texts t word) e
      ∙ (bytes_eq-Decides word _).1 (w ∙ ap (λ o. word_of (method_key texts t o).owner (method_key texts t o).name) e)

  -- and so is a field
  field_written : (f : ℕ) (o : Option AField) → slice_get t.fields f ≡ o → field_has texts t word o ≡ true → IsDeclared t (Field f) × FieldWord f
  field_written f (Some x) e h =
      let (there, same) = both (owner_there t x.owner) _ h in (
        (x, e, owner_is t x.owner there),
        (bytes_eq-Decides word _).0 same ∙ ap (λ o. word_of (field_key texts t o).owner (field_key texts t o).name) (sym e),
      )
  field_written f None e h = absurd (true_false (sym h))

  written_field : (f : ℕ) (x : AField) → slice_get t.fields f ≡ Some x → OwnerThere t x.owner → FieldWord f
      → field_has texts t word (slice_get t.fields f) ≡ true
  written_field f x e there w =
      ap (field_has texts t word) e
      ∙ and_true _ _ (is_owner t x.owner there)
      ((bytes_eq-Decides word _).1 (w ∙ ap (λ o. word_of (field_key texts t o).owner (field_key texts t o).name) e))

  module _ (tell : NamesTell n p) (good : WellTyped p) where
    -- each method stands among what can be called
    stands : (m : ℕ) (y : AMethod) → slice_get t.methods m ≡ Some y → (i : ℕ) × (slice_get t.targets i ≡ Some (Run m))
    stands m y e = by (method_body p good m y e)
      where
        by : ((g : Signature) × (b : Body) × (signature_of t (Run m) ≡ Some g) × (slice_get p.methods m ≡ Some b) × TypedBody t g b)
            → (i : ℕ) × (slice_get t.targets i ≡ Some (Run m))
        by (g, b, eg, eb, typed) = tell.targets (Run m) g b eg eb

    -- each declared field stands among those of the components or of a class
    abbrev Stands : ℕ → Type 0
    Stands f = ((i : ℕ) × (slice_get t.globals i ≡ Some f)) ⊎ ((c i : ℕ) × (k : Class) × (slice_get t.classes c ≡ Some k) × (slice_get k.fields i ≡ Some f))

    field_stands : (f : ℕ) (x : AField) → slice_get t.fields f ≡ Some x → OwnerThere t x.owner → Stands f
    field_stands f x e there = by x.owner refl there
      where
        of_class : (d : ℕ) → x.owner ≡ InClass d → ((k : Class) × (slice_get t.classes d ≡ Some k)) → Stands f
        of_class d eo (k, ek) =
            let slot : slot_of t d f ≡ Some x.slot =
            ap (slot_in t d) e ∙ (ap (λ o. slot_where (has_fields_of t d o) x) eo ∙ ap (λ b. slot_where b x) (good.tables.itself d k ek)) in
            inr (d, x.slot, k, ek, (good.tables.slots d x.slot f k ek).1 slot)

        by : (o : Owner) → x.owner ≡ o → OwnerThere t o → Stands f
        by (InComponent k) eo there =
            let slot : global_slot t f ≡ Some x.slot = ap global_slot_in e ∙ ap (λ o. slot_where (is_component o) x) eo in
            inl (x.slot, (good.tables.global_slots x.slot f).1 slot)
        by (InClass d) eo there = of_class d eo (within t.classes d there)

    no_method_has : FindsMethod texts t word None → (m : ℕ) → m < length t.methods → MethodWord m → ⊥
    no_method_has none m lt w = by (within t.methods m lt)
      where
        by : ((y : AMethod) × (slice_get t.methods m ≡ Some y)) → ⊥
        by (y, e) = let (i, at) = stands m y e in true_false (sym (written_method m y e w) ∙ none i m at)

    no_field_has : FindsField texts t word None → (f : ℕ) → IsDeclared t (Field f) → FieldWord f → ⊥
    no_field_has none f (x, e, there) w = by (field_stands f x e there)
      where
        by : Stands f → ⊥
        by (inl (i, at)) = true_false (sym (written_field f x e there w) ∙ none.0 i f at)
        by (inr (c, i, k, ek, at)) = true_false (sym (written_field f x e there w) ∙ none.1 c k ek i f at)

    -- a word that no method and no field has names no member
    none_named : FindsMethod texts t word None → FindsField texts t word None → Finds texts p word None
    none_named no_method no_field c x e = by (member_of (named n p) c x) refl
      where
        clash : (z : source.Member) (y : Member) → HasNames c x z → z ≡ named_member n y → IsDeclared t y → ⊥
        clash z (Method m) h k lt = let q = subst (HasNames c x) k h in no_method_has no_method m lt (e ∙ keyed c _ x _ q.0 q.1)
        clash z (Field f) h k there = let q = subst (HasNames c x) k h in no_field_has no_field f there (e ∙ keyed c _ x _ q.0 q.1)
        clash z (Cell k) h e there = there

        by : (o : Option source.Member) → member_of (named n p) c x ≡ o → o ≡ None
        by None k = refl
        by (Some z) k =
            let (y, same, there) = declared_member n p tell good c x z k in
            absurd (clash z y (found_names (named n p) c x z k) same there)

    same_words : (m f : ℕ) → (n.method m).owner ≡ (n.field f).owner → (n.method m).name ≡ (n.field f).name → FieldWord f → MethodWord m
    same_words m f e k w = w ∙ sym (ap (λ z. word_of z (n.method m).name) e ∙ ap (word_of (n.field f).owner) k)

    -- what the tables give is what the program declares
    pub found : (o : Option Member) → FindsAny texts t word o → Finds texts p word o
    found None (no_method, no_field) = none_named no_method no_field
    found (Some (Method m)) h =
        let (lt, w) = method_written m (slice_get t.methods m) refl h in
        ((n.method m).owner, (n.method m).name, w, method_declared n p tell good m lt, lt)
    found (Some (Field f)) (no_method, h) =
        let (there, w) = field_written f (slice_get t.fields f) refl h in (
          (n.field f).owner,
          (n.field f).name,
          w,
          field_declared texts p tell good f there (λ m lt e k. no_method_has no_method m lt (same_words m f e k w)),
          there,
        )
    found (Some (Cell k)) h = absurd h
