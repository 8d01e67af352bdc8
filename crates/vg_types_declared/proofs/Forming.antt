-- The tables that are built keep what tables keep: classes by their chains, which end by themselves; fields by their slots; and types, since each is
-- made of classes and types that
-- are there.
use Rattle.std.proofs.Common.{◌≡◌, ◌↔◌, ℕ, zero, suc, ◌+◌, ◌-◌, ◌<◌, ◌≤◌, ◌==◌, nat_lt, Bool}
use Rattle.std.proofs.Common.{true, false, ◌&&◌, List, [], ◌∷◌, ◌++◌, length, map, Option, Some, None}
use Rattle.std.proofs.Common.{slice_get, refl, sym, ap, ◌∙◌, subst, arith}
use Rattle.std.specs.List.{AllByRecursion}
use Rattle.std.specs.Option.{option_map}
use Rattle.std.proofs.lemmas.Bool.{eqb-true, ltb-true}
use Rattle.std.proofs.lemmas.Bool.Decides.{nat_tests}
use Rattle.std.proofs.lemmas.Option.{slice_get-map, slice_get_within}
use Rattle.vg_core.specs.Tables.{is_in, above_in, is_below, last_of, top, fields_in, slot_where, has_fields_of, slot_in, slot_of, is_component, global_slot_in}
use Rattle.vg_core.specs.Tables.{global_slot, function_of, IsRow}
use Rattle.vg_core.specs.Typing.{HasFunction}
use Rattle.vg_core.specs.declared.types.CoreType.{CoreType}
use Rattle.vg_core.specs.declared.types.CoreType.TheVariants.{CharType, ClassType, ArrayType, FunctionType, MoreTypes}
use Rattle.vg_core.specs.declared.program.Owner.{Owner}
use Rattle.vg_core.specs.declared.program.Owner.TheVariants.{InClass, InComponent}
use Rattle.vg_core.specs.declared.program.Class.{Class}
use Rattle.vg_core.specs.declared.program.Field.{Field}
use Rattle.vg_core.specs.declared.program.Method.{Method}
use Rattle.vg_core.specs.declared.program.Tables.{Tables}
use Rattle.vg_types_tables.specs.Declares.{IsClass, IsTypeNumber, IsKnown, IsMadeBelow, IsFormed}
use Rattle.vg_types_chains.specs.Chains.{chain_at, Close}
use Rattle.vg_types_hierarchy.specs.Inherited.{own_at, fields_on}
use Rattle.vg_types_hierarchy.specs.Classes.{first_of, the_class}
use Rattle.vg_types_hierarchy.specs.Slots.{with_slot, slot_behind}
use Rattle.vg_types_hierarchy.specs.Slots as slots
use Rattle.vg_types_interned.specs.declared.table.Types.{Types}
use Rattle.vg_types_interned.specs.Types.{is_made_of, IsRowIn, IsFunctionIn}
use Rattle.vg_types_members.specs.Members.{FieldView, field_view, IsMade, IsMethod}
use Rattle.vg_types_homes.specs.declared.homes.Homes.{Homes}
use Rattle.vg_types_homes.specs.Homes.{HomesView, AreHomes, homes_view}
use Rattle.vg_types_declared.specs.Slots.{Slotted}
use Rattle.vg_types_declared.specs.Placing.{fields_of, inherited, Standing}
use Rattle.vg_types_declared.specs.Built.{IsBuilt, BuiltFormed}
use Rattle.vg_types_declared.proofs.Standing.{stands}

-- ---- lists

before_end : {A : Type 0} (xs : List A) (y : A) (i : ℕ) (z : A) → slice_get xs i ≡ Some z → slice_get (xs ++ y ∷ []) i ≡ Some z
before_end [] y i z h = cc
before_end (x ∷ xs) y zero z h = h
before_end (x ∷ xs) y (suc i) z h = before_end xs y i z h

the_end : {A : Type 0} (xs : List A) (y : A) (i : ℕ) → i ≡ length xs → slice_get (xs ++ y ∷ []) i ≡ Some y
the_end [] y i e = ap (slice_get (y ∷ [])) e
the_end (x ∷ xs) y i e = ap (slice_get (x ∷ (xs ++ y ∷ []))) e ∙ the_end xs y (length xs) refl

count_push : {A : Type 0} (xs : List A) (c : A) → length (xs ++ c ∷ []) ≡ suc (length xs)
count_push [] c = refl
count_push (x ∷ xs) c = ap suc (count_push xs c)

pub count_first : {A : Type 0} (f : ℕ → A) (n : ℕ) → length (first_of f n) ≡ n
count_first f zero = refl
count_first f (suc n) = count_push (first_of f n) (f n) ∙ ap suc (count_first f n)

less : (x k : ℕ) → x < suc k → (x == k) ≡ false → x < k
less x k h e = grind (arith, nat_tests)

at_first : {A : Type 0} (f : ℕ → A) (n c : ℕ) → c < n → slice_get (first_of f n) c ≡ Some (f c)
at_first f zero c h = absurd (omega (arith, h))
at_first {A} f (suc n) c h = by (c == n) refl (at_first f n c)
  where
    by : (b : Bool) → (c == n) ≡ b → (c < n → slice_get (first_of f n) c ≡ Some (f c)) → slice_get (first_of f n ++ f n ∷ []) c ≡ Some (f c)
    by true e ih = let q = eqb-true c n e in the_end (first_of f n) (f n) c (q ∙ sym (count_first f n)) ∙ ap (λ z. Some (f z)) (sym q)
    by false e ih = before_end (first_of f n) (f n) c (f c) (ih (less c n h e))

one_some : {A : Type 0} (a b : A) → Some a ≡ Some b → a ≡ b
one_some a b e = ap (the a) e
  where
    the : {A : Type 0} → A → Option A → A
    the d (Some x) = x
    the d None = d

pub there : {A : Type 0} (xs : List A) (i : ℕ) → i < length xs → (x : A) × (slice_get xs i ≡ Some x)
there [] i h = absurd (omega (arith, h))
there (x ∷ xs) zero h = (x, refl)
there (x ∷ xs) (suc i) h = there xs i (omega (arith, h))

all_at : {A : Type 0} (P : A → Type 0) (xs : List A) (i : ℕ) (x : A) → AllByRecursion P xs → slice_get xs i ≡ Some x → P x
all_at P [] i x a e = cc
all_at P (y ∷ xs) zero x a e = subst P (one_some y x e) a.0
all_at P (y ∷ xs) (suc i) x a e = all_at P xs i x a.1 e

all_map : {A : Type 0} (P Q : A → Type 0) (xs : List A) → ((x : A) → P x → Q x) → AllByRecursion P xs → AllByRecursion Q xs
all_map P Q [] g a = tt
all_map P Q (x ∷ xs) g a = (g x a.0, all_map P Q xs g a.1)

both : (a b : Bool) → a && b ≡ true → (a ≡ true) × (b ≡ true)
both true b e = (refl, e)
both false b e = cc

-- what a list of views shows is the view of what stands there
pub data Viewed {A B : Type 0} (f : A → B) (xs : List A) (i : ℕ) (b : B) : Type 0 where
  viewed : (a : A) → slice_get xs i ≡ Some a → f a ≡ b → Viewed f xs i b

pub view_at : {A B : Type 0} (f : A → B) (xs : List A) (i : ℕ) (b : B) → slice_get (map f xs) i ≡ Some b → Viewed f xs i b
view_at f [] i b e = cc
view_at f (x ∷ xs) zero b e = viewed x refl (one_some (f x) b e)
view_at f (x ∷ xs) (suc i) b e = again (view_at f xs i b e)
  where
    again : Viewed f xs i b → Viewed f (x ∷ xs) (suc i) b
    again (viewed a g q) = viewed a g q

row_is : (p : Tables) (ts : List CoreType) (n : ℕ) → IsRowIn p.types ts n → IsRow p ts n
row_is p [] n h = h
row_is p (t ∷ ts) n h = (h.0, h.1, h.2, h.3, row_is p ts h.1 h.4)

module _ (texts : List (List ℕ)) (types : Types) (homes : Homes) (most : ℕ) (names : List ℕ) (above : List (Option ℕ)) (p : Tables)
    (b : IsBuilt types homes most names above p) (k : Close most above) where
  abbrev kind : ℕ → Class
  kind = the_class most names above homes.class_fields homes.class_methods homes.class_params

  pub class_at : (c : ℕ) → c < length names → slice_get p.classes c ≡ Some
      (the_class most names above homes.class_fields homes.class_methods homes.class_params c)
  class_at c h =
      ap (λ z. slice_get z c) b.class_table
      ∙ at_first (the_class most names above homes.class_fields homes.class_methods homes.class_params) (length names) c h

  pub class_within : (c : ℕ) (z : Class) → slice_get p.classes c ≡ Some z → c < length names
  class_within c z e =
      let h = slice_get_within p.classes c z e in
      let n = ap length b.class_table ∙ count_first (the_class most names above homes.class_fields homes.class_methods homes.class_params) (length names) in
      omega (arith, h, n)

  pub class_is : (c : ℕ) (z : Class) → slice_get p.classes c ≡ Some z
      → z ≡ the_class most names above homes.class_fields homes.class_methods homes.class_params c
  class_is c z e = one_some _ _ (sym e ∙ class_at c (class_within c z e))

  pub wide : (c : ℕ) → c < length names → c < length above
  wide c h = let q = b.above_count in omega (arith, h, q)

  pub narrow : (c : ℕ) → c < length above → c < length names
  narrow c h = let q = b.above_count in omega (arith, h, q)

  pub below_to : (c d : ℕ) → is_below p c d ≡ true → (c < length names) × (is_in (chain_at most above c) d ≡ true)
  below_to c d h = by (slice_get p.classes c) refl h
    where
      by : (o : Option Class) → slice_get p.classes c ≡ o → is_in (above_in o) d ≡ true → (c < length names) × (is_in (chain_at most above c) d ≡ true)
      by None e g = cc
      by (Some z) e g = (class_within c z e, ap (λ x. is_in x.above d) (sym (class_is c z e)) ∙ g)

  pub below_from : (c d : ℕ) → c < length names → is_in (chain_at most above c) d ≡ true → is_below p c d ≡ true
  below_from c d h e = ap (λ o. is_in (above_in o) d) (class_at c h) ∙ e

  one_top : (c d : ℕ) → is_below p c d ≡ true → top p c ≡ top p d
  one_top c d h =
      let a = below_to c d h in
      ap (λ o. last_of (above_in o)) (class_at c a.0) ∙ k.one_top c d (wide c a.0) a.1
      ∙ sym (ap (λ o. last_of (above_in o)) (class_at d (narrow d (k.within c d (wide c a.0) a.1))))

  trans : (c d e : ℕ) → is_below p c d ≡ true → is_below p d e ≡ true → is_below p c e ≡ true
  trans c d e h g = let a = below_to c d h in let q = below_to d e g in below_from c e a.0 (k.trans c d e (wide c a.0) a.1 q.1)

  classes_above : (c e : ℕ) → is_below p c e ≡ true → IsClass p e
  classes_above c e h = let a = below_to c e h in (_, class_at e (narrow e (k.within c e (wide c a.0) a.1)))

  -- ---- fields

  pub field_there : (f : ℕ) (y : Field) → slice_get homes.making.fields f ≡ Some y → slice_get p.fields f ≡ Some (with_slot p.classes homes.class_fields y)
  field_there f y e =
      ap (λ z. slice_get z f) b.field_table ∙ slice_get-map (with_slot p.classes homes.class_fields) homes.making.fields f
      ∙ ap (option_map (with_slot p.classes homes.class_fields)) e

  view_there : (f : ℕ) (y : Field) → slice_get homes.making.fields f ≡ Some y
      → slice_get (homes_view texts types homes).fields f ≡ Some (field_view texts types y)
  view_there f y e = slice_get-map (field_view texts types) homes.making.fields f ∙ ap (option_map (field_view texts types)) e

  inherited_same : (e : ℕ) → e < length names
      → slots.inherited p.classes homes.class_fields e ≡ inherited most above (homes_view texts types homes) e
  inherited_same e h = ap (λ o. length (fields_in o) - length (own_at (slice_get homes.class_fields e))) (class_at e h)

  module _ (s : Slotted (homes_view texts types homes)) where
    slot_forth : (c i f : ℕ) → c < length names → slice_get (fields_on homes.class_fields (chain_at most above c)) i ≡ Some f → slot_of p c f ≡ Some i
    slot_forth c i f h g =
        let r = (stands (homes_view texts types homes) most above k s).forth c i f (wide c h) g in
        by r.0 r.1 r.2 (view_at (field_view texts types) homes.making.fields f r.1 r.3) r.4 r.5
      where
        by : (e : ℕ) (t : FieldView) → is_in (chain_at most above c) e ≡ true → Viewed (field_view texts types) homes.making.fields f t → t.owner ≡ InClass e
            → i ≡ inherited most above (homes_view texts types homes) e + t.slot → slot_of p c f ≡ Some i
        by e t m (viewed y q v) o n =
            let owner : y.owner ≡ InClass e = ap (λ x. x.owner) v ∙ o in
            let place : slot_behind p.classes homes.class_fields y.owner y.slot ≡ i =
            ap (λ x. slot_behind p.classes homes.class_fields x y.slot) owner
            ∙ ap (λ x. x + y.slot) (inherited_same e (narrow e (k.within c e (wide c h) m)))
            ∙ ap (λ x. inherited most above (homes_view texts types homes) e + x.slot) v ∙ sym n in
            ap (slot_in p c) (field_there f y q)
            ∙ ap (λ x. slot_where (has_fields_of p c x) (with_slot p.classes homes.class_fields y)) owner
            ∙ ap (λ x. slot_where x (with_slot p.classes homes.class_fields y)) (below_from c e h m) ∙ ap Some place

    slot_back : (c i f : ℕ) → c < length names → slot_of p c f ≡ Some i → slice_get (fields_on homes.class_fields (chain_at most above c)) i ≡ Some f
    slot_back c i f h g = by_field (slice_get homes.making.fields f) refl
      where
        by_below : (y : Field) (e : ℕ) → slice_get homes.making.fields f ≡ Some y → y.owner ≡ InClass e → (x : Bool) → is_below p c e ≡ x
            → slot_where x (with_slot p.classes homes.class_fields y) ≡ Some i → slice_get (fields_on homes.class_fields (chain_at most above c)) i ≡ Some f
        by_below y e q o false m r = cc
        by_below y e q o true m r =
            let a = below_to c e m in
            let place : i ≡ inherited most above (homes_view texts types homes) e + y.slot =
            sym (one_some _ _ r) ∙ ap (λ x. slot_behind p.classes homes.class_fields x y.slot) o
            ∙ ap (λ x. x + y.slot) (inherited_same e (narrow e (k.within c e (wide c h) a.1))) in
            ap (slice_get (fields_on homes.class_fields (chain_at most above c))) place
            ∙ (stands (homes_view texts types homes) most above k s).back c e f (field_view texts types y) (wide c h) a.1 (view_there f y q) o

        by_owner : (y : Field) (o : Owner) → slice_get homes.making.fields f ≡ Some y → y.owner ≡ o
            → slot_where (has_fields_of p c o) (with_slot p.classes homes.class_fields y) ≡ Some i
            → slice_get (fields_on homes.class_fields (chain_at most above c)) i ≡ Some f
        by_owner y (InClass e) q o r = by_below y e q o (is_below p c e) refl r
        by_owner y (InComponent j) q o r = cc

        by_field : (o : Option Field) → slice_get homes.making.fields f ≡ o → slice_get (fields_on homes.class_fields (chain_at most above c)) i ≡ Some f
        by_field None q =
            let n : slice_get p.fields f ≡ None =
            ap (λ z. slice_get z f) b.field_table ∙ slice_get-map (with_slot p.classes homes.class_fields) homes.making.fields f
            ∙ ap (option_map (with_slot p.classes homes.class_fields)) q in
            let r : None ≡ Some i = sym (ap (slot_in p c) n) ∙ g in
            cc
        by_field (Some y) q = by_owner y y.owner q refl (sym (ap (slot_in p c) (field_there f y q)) ∙ g)

    global_forth : (i f : ℕ) → slice_get homes.globals i ≡ Some f → global_slot p f ≡ Some i
    global_forth i f g = let r = s.global_back i f g in by r.0 r.1 (view_at (field_view texts types) homes.making.fields f r.0 r.2) r.3 r.4
      where
        by : (t : FieldView) (j : ℕ) → Viewed (field_view texts types) homes.making.fields f t → t.owner ≡ InComponent j → t.slot ≡ i → global_slot p f ≡ Some i
        by t j (viewed y q v) o n =
            let owner : y.owner ≡ InComponent j = ap (λ x. x.owner) v ∙ o in
            ap global_slot_in (field_there f y q) ∙ ap (λ x. slot_where (is_component x) (with_slot p.classes homes.class_fields y)) owner
            ∙ ap (λ x. Some (slot_behind p.classes homes.class_fields x y.slot)) owner ∙ ap (λ x. Some x.slot) v ∙ ap Some n

    global_back : (i f : ℕ) → global_slot p f ≡ Some i → slice_get homes.globals i ≡ Some f
    global_back i f g = by_field (slice_get homes.making.fields f) refl
      where
        by_owner : (y : Field) (o : Owner) → slice_get homes.making.fields f ≡ Some y → y.owner ≡ o
            → slot_where (is_component o) (with_slot p.classes homes.class_fields y) ≡ Some i → slice_get homes.globals i ≡ Some f
        by_owner y (InClass e) q o r = cc
        by_owner y (InComponent j) q o r =
            let place : i ≡ y.slot = sym (one_some _ _ r) ∙ ap (λ x. slot_behind p.classes homes.class_fields x y.slot) o in
            ap (slice_get homes.globals) place ∙ s.of_component f j (field_view texts types y) (view_there f y q) o

        by_field : (o : Option Field) → slice_get homes.making.fields f ≡ o → slice_get homes.globals i ≡ Some f
        by_field None q =
            let n : slice_get p.fields f ≡ None =
            ap (λ z. slice_get z f) b.field_table ∙ slice_get-map (with_slot p.classes homes.class_fields) homes.making.fields f
            ∙ ap (option_map (with_slot p.classes homes.class_fields)) q in
            let r : None ≡ Some i = sym (ap global_slot_in n) ∙ g in
            cc
        by_field (Some y) q = by_owner y y.owner q refl (sym (ap global_slot_in (field_there f y q)) ∙ g)

  -- ---- types

  is_class : (c : ℕ) → nat_lt c (length types.classes) ≡ true → IsClass p c
  is_class c e = let h = ltb-true c (length types.classes) e in let q = b.class_count in (_, class_at c (omega (arith, h, q)))

  is_number : (t : ℕ) → nat_lt t (length types.numbers.keys) ≡ true → IsTypeNumber p t
  is_number t e =
      let h = ltb-true t (length types.numbers.keys) e in
      let q = ap length b.type_table in
      there p.types t (omega (arith, h, q))

  known : (t : CoreType) → IsMade types t → IsKnown p t
  known (ClassType c) e = is_class c e
  known (ArrayType t) e = is_number t e
  known (FunctionType ps r) e =
      let q = both (nat_lt ps (length types.numbers.keys)) (nat_lt r (length types.numbers.keys)) e in (is_number ps q.0, is_number r q.1)
  known (MoreTypes t rest) e =
      let q = both (nat_lt t (length types.numbers.keys)) (nat_lt rest (length types.numbers.keys)) e in (is_number t q.0, is_number rest q.1)
  known _ e = tt

  below_made : (n : ℕ) (t : CoreType) → is_made_of (length types.classes) n t ≡ true → IsMadeBelow p n t
  below_made n (ClassType c) e = is_class c e
  below_made n (ArrayType t) e = ltb-true t n e
  below_made n (FunctionType ps r) e = let q = both (nat_lt ps n) (nat_lt r n) e in (ltb-true ps n q.0, ltb-true r n q.1)
  below_made n (MoreTypes t rest) e = let q = both (nat_lt t n) (nat_lt rest n) e in (ltb-true t n q.0, ltb-true rest n q.1)
  below_made n _ e = tt

  of_table : (i : ℕ) (t : CoreType) → slice_get p.types i ≡ Some t → slice_get types.numbers.keys i ≡ Some t
  of_table i t e = ap (λ z. slice_get z i) (sym b.type_table) ∙ e

  module _ (h : AreHomes texts types homes) where
    method_is : (m : ℕ) (y : Method) → slice_get p.methods m ≡ Some y → IsMethod texts types homes.making.selectors.numbers y
    method_is m y e =
        all_at (IsMethod texts types homes.making.selectors.numbers) homes.making.methods m y h.making.methods (ap (λ z. slice_get z m)
        (sym b.method_table) ∙ e)

    functions : (m : ℕ) (y : Method) → slice_get p.methods m ≡ Some y → HasFunction p y
    functions m y e =
        let f = subst (λ z. IsFunctionIn z y.params y.result y.function) (sym b.type_table) (method_is m y e).function in
        (f.0, f.1, f.2, row_is p y.params f.0 f.3, f.4)

    known_fields : (f : ℕ) (y : Field) → slice_get p.fields f ≡ Some y → IsKnown p y.type_
    known_fields f y e = by (view_at (with_slot p.classes homes.class_fields) homes.making.fields f y (ap (λ z. slice_get z f) (sym b.field_table) ∙ e))
      where
        by : Viewed (with_slot p.classes homes.class_fields) homes.making.fields f y → IsKnown p y.type_
        by (viewed x q v) =
            subst (IsKnown p) (ap (λ z. z.type_) v) (known x.type_ (all_at (λ y. IsMade types y.type_) homes.making.fields f x h.making.fields q))

    known_makings : (c : ℕ) (z : Class) → slice_get p.classes c ≡ Some z → AllByRecursion (IsKnown p) z.params
    known_makings c z e = subst (λ x. AllByRecursion (IsKnown p) x.params) (sym (class_is c z e)) (by (slice_get homes.class_params c) refl)
      where
        by : (o : Option (List CoreType)) → slice_get homes.class_params c ≡ o → AllByRecursion (IsKnown p) (own_at o)
        by None q = tt
        by (Some ts) q = all_map (IsMade types) (IsKnown p) ts known (all_at (AllByRecursion (IsMade types)) homes.class_params c ts h.params q)

pub formed : (texts : List (List ℕ)) (types : Types) (homes : Homes) (p : Tables) → BuiltFormed texts types homes p
formed texts types homes p most names above b k s h = record {
  itself = λ c z e.
      let n = class_within texts types homes most names above p b k c z e in
      below_from texts types homes most names above p b k c c n (k.itself c (wide texts types homes most names above p b k c n));
  trans = trans texts types homes most names above p b k;
  one_top = one_top texts types homes most names above p b k;
  slots = λ c i f z e.
      let n = class_within texts types homes most names above p b k c z e in
      let q = class_is texts types homes most names above p b k c z e in (
        λ g. slot_forth texts types homes most names above p b k s c i f n (ap (λ x. slice_get x.fields i) (sym q) ∙ g),
        λ g. ap (λ x. slice_get x.fields i) q ∙ slot_back texts types homes most names above p b k s c i f n g,
      );
  global_slots = λ i f. (
    λ g. global_forth texts types homes most names above p b k s i f (ap (λ z. slice_get z i) (sym b.global_table) ∙ g),
    λ g. ap (λ z. slice_get z i) b.global_table ∙ global_back texts types homes most names above p b k s i f g,
  );
  functions = functions texts types homes most names above p b k h;
  one_number = λ i j t e f.
      types.sound.one_number i j t (of_table texts types homes most names above p b k i t e) (of_table texts types homes most names above p b k j t f);
  char_type = ap (slice_get p.types) b.char_number ∙ ap (λ z. slice_get z 0) b.type_table ∙ types.sound.char_type;
  made_below = λ n t e.
      below_made texts types homes most names above p b k n t (types.sound.made_of n t (of_table texts types homes most names above p b k n t e));
  known_fields = known_fields texts types homes most names above p b k h;
  known_params = λ m y e.
      all_map (IsMade types) (IsKnown p) y.params (known texts types homes most names above p b k)
      (method_is texts types homes most names above p b k h m y e).params;
  known_results = λ m y e. known texts types homes most names above p b k y.result (method_is texts types homes most names above p b k h m y e).value;
  known_makings = known_makings texts types homes most names above p b k h;
  classes_above = classes_above texts types homes most names above p b k;
}
