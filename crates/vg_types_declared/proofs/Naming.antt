-- The members of classes and components are found by their names, in the tables as in the definitions. The names of numbers are those of the passes;
-- so what a type, a field or a
-- method of the tables stands for is what was read of it.
use Rattle.std.proofs.Common.{◌≡◌, ℕ, ◌+◌, ◌<◌, Bool, true, false, List, [], ◌∷◌, ◌++◌, length}
use Rattle.std.proofs.Common.{map, Option, Some, None, slice_get, get_or, refl, sym, ap, ◌∙◌, subst, arith}
use Rattle.std.specs.Option.{option_map, option_and_then}
use Rattle.std.proofs.lemmas.Option.{slice_get-map, slice_get_within, slice_get-get_or}
use Rattle.std.proofs.lemmas.List.{length-map}
use Rattle.vg_syntax.specs.Tree.{Node}
use Rattle.vg_tree.specs.Held as tree
use Rattle.vg_source.specs.Names.{Name}
use Rattle.vg_source.specs.Types as source
use Rattle.vg_source.specs.Types.{StaticType}
use Rattle.vg_source.specs.Declared.{Member, AField, AMethod, or_else, class_member, component_member, component_named, member_among, member_in, length_of}
use Rattle.vg_core.specs.Naming.{Naming, text_in, text_at, class_name, component_name, owner_name, field_key, named_number, named_type_in, named_types}
use Rattle.vg_core.specs.Tables.{is_in}
use Rattle.vg_core.specs.declared.types.CoreType.{CoreType}
use Rattle.vg_core.specs.declared.types.CoreType.TheVariants.{IntType, ClassType, ArrayType, FunctionType, MoreTypes}
use Rattle.vg_core.specs.declared.program.Owner.TheVariants.{InClass, InComponent}
use Rattle.vg_core.specs.declared.program.Class.{Class}
use Rattle.vg_core.specs.declared.program.Field.{Field}
use Rattle.vg_core.specs.declared.program.Method.{Method}
use Rattle.vg_types_views.specs.ByText.{found}
use Rattle.vg_types_interned.specs.declared.table.Types.{Types}
use Rattle.vg_types_interned.specs.Types.{name_in, class_names}
use Rattle.vg_types_members.specs.Members.{field_view, method_view, view_of}
use Rattle.vg_types_hierarchy.specs.Slots.{with_slot}
use Rattle.vg_types_hierarchy.specs.Classes.{above_number}
use Rattle.vg_types_heads.specs.declared.heads.Heads.{Heads}
use Rattle.vg_types_heads.specs.Heads.{HeadsView, heads_view, no_heads, with_heads}
use Rattle.vg_types_homes.specs.declared.homes.Homes.{Homes}
use Rattle.vg_types_homes.specs.Homes.{homes_view, no_view, with_declarations}
use Rattle.vg_types_tables.specs.declared.declared.Declared.{Declared}
use Rattle.vg_types_tables.specs.declared.declared.MemberNumber.{MemberNumber}
use Rattle.vg_types_tables.specs.declared.declared.MemberNumber.TheVariants.{Field as FieldNumber, Method as MethodNumber}
use Rattle.vg_types_tables.specs.Views.{naming, type_view, row_view, params_view, result_view, member_view}
use Rattle.vg_types_tables.specs.Views.{field_view as field_seen}
use Rattle.vg_types_tables.specs.Declares.{found_in, member_of}
use Rattle.vg_types_chains.specs.Chains.{chain_at, Close}
use Rattle.vg_types_declared.specs.Heads.{Agree}
use Rattle.vg_types_declared.specs.Lists.{Lists, component_list}
use Rattle.vg_types_declared.specs.Chains.{number_of, numbers, name_or, name_of, Chained}
use Rattle.vg_types_declared.specs.Members.{row_from, Shows, Found}
use Rattle.vg_types_declared.specs.Inherits.{chain_member, ShowsOn, Inherits}
use Rattle.vg_types_declared.specs.Built.{IsBuilt}
use Rattle.vg_types_declared.specs.Named.{Keeps, IsLeft, Members}
use Rattle.vg_types_declared.proofs.Picking.{agree}
use Rattle.vg_types_declared.proofs.Listing.{lists}
use Rattle.vg_types_declared.proofs.Chaining.{chained}
use Rattle.vg_types_declared.proofs.Homes.{all_found}
use Rattle.vg_types_declared.proofs.Inheriting.{inherits}
use Rattle.vg_types_declared.proofs.Forming.{Viewed, viewed, view_at, class_at, class_within, class_is, field_there}

pub text_same : (texts : List Name) (x : ℕ) → text_at texts x ≡ tree.text_at texts x
text_same texts x = by (slice_get texts x)
  where
    by : (o : Option Name) → text_in o ≡ tree.text_or_none o
    by None = refl
    by (Some t) = refl

-- a type is named by the names of classes alone
type_same : (n m : Naming) → ((c : ℕ) → n.class c ≡ m.class c) → (ts : List StaticType) (t : CoreType) → named_type_in n ts t ≡ named_type_in m ts t
type_same n m h ts (ClassType c) = ap source.ClassType (h c)
type_same n m h ts _ = refl

types_same : (n m : Naming) → ((c : ℕ) → n.class c ≡ m.class c) → (done : List StaticType) (ts : List CoreType) → named_types n done ts ≡ named_types m done ts
types_same n m h done [] = refl
types_same n m h done (t ∷ ts) =
    types_same n m h (done ++ named_type_in n done t ∷ []) ts ∙ ap (λ z. named_types m (done ++ z ∷ []) ts) (type_same n m h done t)

pub chain_same : (d : Declared) (chain : List ℕ) (x : Name) → member_of d chain x ≡ chain_member d.class_members chain x
chain_same d [] x = refl
chain_same d (c ∷ cs) x = ap (or_else (found_in x (slice_get d.class_members c))) (chain_same d cs x)

module _ (texts : List (List ℕ)) (ds : Node) (types : Types) (heads : Heads) (homes : Homes) (d : Declared) (kept : Keeps ds)
    (left : IsLeft texts ds types heads homes d) where
  pub agrees : Agree ds (heads_view texts heads)
  agrees = subst (Agree ds) (sym left.heads_left) (agree ds kept.names kept.declared)

  pub listed : Lists ds (heads_view texts heads)
  listed = subst (Lists ds) (sym left.heads_left) (lists ds (agree ds kept.names kept.declared))

  pub above_same : (os : List (Option ℕ)) → map (above_number texts heads.classes) os ≡ map (number_of heads.classes) (map (option_map (tree.text_at texts)) os)
  above_same [] = refl
  above_same (None ∷ os) = ap (λ z. None ∷ z) (above_same os)
  above_same (Some x ∷ os) = ap (λ z. found (tree.text_at texts x) heads.classes ∷ z) (above_same os)

  pub chains : Chained ds (heads_view texts heads)
  chains = chained ds (heads_view texts heads) agrees listed kept.classes

  pub close : Close (length_of ds) (map (above_number texts heads.classes) heads.above)
  close = subst (Close (length_of ds)) (sym (above_same heads.above)) chains.close

  pub finds : Found ds (homes_view texts types homes)
  finds = subst (Found ds) (sym left.homes_left) (all_found ds)

  pub inherited : Inherits ds (heads_view texts heads) (homes_view texts types homes)
  inherited = inherits ds (heads_view texts heads) (homes_view texts types homes) agrees listed kept.classes finds

  -- ---- names

  pub name_there : (xs : List ℕ) (c : ℕ) → c < length xs → tree.text_at texts (get_or xs c 0) ≡ name_or (slice_get (map (tree.text_at texts) xs) c)
  name_there xs c h =
      sym (ap name_or (slice_get-map (tree.text_at texts) xs c ∙ ap (option_map (tree.text_at texts)) (slice_get-get_or xs c 0 h)))

  pub class_named : (c : ℕ) → c < length heads.class_names → (naming texts d).class c ≡ name_of (heads_view texts heads) c
  class_named c h =
      ap (class_name texts)
      (class_at texts types homes (length_of ds) heads.class_names (map (above_number texts heads.classes) heads.above) d.tables left.built close c h)
      ∙ text_same texts (get_or heads.class_names c 0) ∙ name_there heads.class_names c h

  pub class_number : (c : ℕ) (x : Name) → slice_get (heads_view texts heads).class_names c ≡ Some x → found x heads.classes ≡ Some c
  class_number c x e = by (slice_get heads.classes c) refl
      (sym (slice_get-map (λ e. e.0) heads.classes c) ∙ ap (λ z. slice_get z c) agrees.class_places.listed ∙ e)
    where
      by : (o : Option (Name × ℕ)) → slice_get heads.classes c ≡ o → option_map (λ (e : Name × ℕ). e.0) o ≡ Some x → found x heads.classes ≡ Some c
      by None g h = cc
      by (Some q) g h = let n : q.0 ≡ x = cc in ap (λ z. found z heads.classes) (sym n) ∙ agrees.class_places.back c q g

  pub of_class : (c : ℕ) → c < length heads.class_names → found ((naming texts d).class c) heads.classes ≡ Some c
  of_class c h =
      class_number c ((naming texts d).class c)
      (slice_get-map (tree.text_at texts) heads.class_names c ∙ ap (option_map (tree.text_at texts)) (slice_get-get_or heads.class_names c 0 h)
      ∙ ap Some (name_there heads.class_names c h ∙ sym (class_named c h)))

  -- the names of classes are those of the types
  all_named : (c : ℕ) → (naming texts d).class c ≡ (class_names types.classes).class c
  all_named c = by (slice_get d.tables.classes c) refl
    where
      count : length types.classes ≡ length heads.class_names
      count = left.built.class_count

      names_of : (o : Option (Name × ℕ)) → name_in o ≡ name_or (option_map (λ (e : Name × ℕ). e.0) o)
      names_of None = refl
      names_of (Some e) = refl

      none : (o : Option (Name × ℕ)) → slice_get types.classes c ≡ o → slice_get d.tables.classes c ≡ None → [] ≡ name_in o
      none None g e = refl
      none (Some q) g e =
          let h = slice_get_within types.classes c q g in
          let n = count in
          let z = sym e
          ∙ class_at texts types homes (length_of ds) heads.class_names (map (above_number texts heads.classes) heads.above) d.tables left.built close c
          (omega (arith, h, n)) in
          absurd (let t : true ≡ false = cc in cc)

      by : (o : Option Class) → slice_get d.tables.classes c ≡ o → (naming texts d).class c ≡ name_in (slice_get types.classes c)
      by None e = ap (class_name texts) e ∙ none (slice_get types.classes c) refl e
      by (Some z) e =
          class_named c
          (class_within texts types homes (length_of ds) heads.class_names (map (above_number texts heads.classes) heads.above) d.tables left.built close c z e)
          ∙ ap name_or (ap (λ z. slice_get z c) (sym agrees.class_places.listed) ∙ slice_get-map (λ e. e.0) heads.classes c)
          ∙ sym (names_of (slice_get heads.classes c)) ∙ ap (λ m. name_in (slice_get m c)) (sym left.type_classes)

  -- ---- types, fields and methods

  pub view_same : (t : CoreType) → type_view texts d t ≡ view_of texts types t
  view_same t =
      ap (λ z. named_type_in (naming texts d) (named_types (naming texts d) [] z) t) left.built.type_table
      ∙ ap (λ z. named_type_in (naming texts d) z t) (types_same (naming texts d) (class_names types.classes) all_named [] types.numbers.keys)
      ∙ type_same (naming texts d) (class_names types.classes) all_named (named_types (class_names types.classes) [] types.numbers.keys) t

  pub row_same : (ts : List CoreType) → row_view texts d ts ≡ row_from (map (view_of texts types) ts)
  row_same [] = refl
  row_same (t ∷ ts) =
      ap (λ z. source.MoreTypes z (row_view texts d ts)) (view_same t) ∙ ap (source.MoreTypes (view_of texts types t)) (row_same ts)

  field_shown : (f : ℕ) (y : Field) (x : Name) → slice_get homes.making.fields f ≡ Some y → owner_name texts d.tables y.owner ≡ x
      → member_view texts d (FieldNumber f) ≡ Some (AField x (view_of texts types y.type_))
  field_shown f y x e o =
      let g = field_there texts types homes (length_of ds) heads.class_names (map
      (above_number texts heads.classes) heads.above) d.tables left.built close f y e in
      ap (field_seen texts d f) g
      ∙ ap (λ z. Some (AField z (type_view texts d y.type_))) (ap (λ q. (field_key texts d.tables q).owner) g ∙ o)
      ∙ ap (λ z. Some (AField x z)) (view_same y.type_)

  method_shown : (m : ℕ) (y : Method) → slice_get homes.making.methods m ≡ Some y
      → member_view texts d (MethodNumber m) ≡ Some (AMethod (row_from (map (view_of texts types) y.params)) (view_of texts types y.result))
  method_shown m y e =
      ap (λ q. Some (AMethod (params_view texts d q) (result_view texts d q))) (ap (λ z. slice_get z m) left.built.method_table ∙ e)
      ∙ ap (λ z. Some (AMethod z (type_view texts d y.result))) (row_same y.params)
      ∙ ap (λ z. Some (AMethod (row_from (map (view_of texts types) y.params)) z)) (view_same y.result)

  -- ---- classes

  shown_on : (chain : List ℕ) (x : Name) → ((e : ℕ) → is_in chain e ≡ true → e < length heads.class_names) → (o : Option MemberNumber) (r : Option Member)
      → ShowsOn (heads_view texts heads) (homes_view texts types homes) chain x o r → option_and_then (member_view texts d) o ≡ r
  shown_on chain x w None r h = sym h
  shown_on chain x w (Some (FieldNumber f)) r h = by (view_at (field_view texts types) homes.making.fields f h.1 h.2)
    where
      by : Viewed (field_view texts types) homes.making.fields f h.1 → member_view texts d (FieldNumber f) ≡ r
      by (viewed y q v) =
          field_shown f y (name_of (heads_view texts heads) h.0) q
          (ap (owner_name texts d.tables) (ap (λ z. z.owner) v ∙ h.3) ∙ class_named h.0 (w h.0 h.4))
          ∙ ap (λ z. Some (AField (name_of (heads_view texts heads) h.0) z.type)) v ∙ sym h.6
  shown_on chain x w (Some (MethodNumber m)) r h = by (view_at (method_view texts types) homes.making.methods m h.1 h.2)
    where
      by : Viewed (method_view texts types) homes.making.methods m h.1 → member_view texts d (MethodNumber m) ≡ r
      by (viewed y q v) = method_shown m y q ∙ ap (λ z. Some (AMethod (row_from z.params) z.result)) v ∙ sym h.6

  pub count_above : length (numbers (heads_view texts heads)) ≡ length heads.class_names
  count_above = ap length (sym (above_same heads.above)) ∙ left.built.above_count

  class_members : (c : ℕ) (k : Class) (x : Name) → slice_get d.tables.classes c ≡ Some k
      → option_and_then (member_view texts d) (member_of d k.above x) ≡ class_member ds ((naming texts d).class c) x
  class_members c k x e =
      ap (option_and_then (member_view texts d))
      (chain_same d k.above x ∙ ap (λ z. chain_member z k.above x) left.class_member_maps
      ∙ ap (λ z. chain_member homes.class_members z.above x)
      (class_is texts types homes (length_of ds) heads.class_names (map (above_number texts heads.classes) heads.above) d.tables left.built close c k e)
      ∙ ap (λ z. chain_member homes.class_members (chain_at (length_of ds) z c) x) (above_same heads.above))
      ∙ shown_on (chain_at (length_of ds) (numbers (heads_view texts heads)) c) x
      (λ e m. let h = chains.close.within c e wide m in let q = count_above in omega (arith, h, q))
      (chain_member homes.class_members (chain_at (length_of ds) (numbers (heads_view texts heads)) c) x) (class_member ds ((naming texts d).class c) x)
      (inherited.members ((naming texts d).class c) x c (of_class c within))
    where
      within : c < length heads.class_names
      within =
          class_within texts types homes (length_of ds) heads.class_names (map (above_number texts heads.classes) heads.above) d.tables left.built close c k e

      wide : c < length (numbers (heads_view texts heads))
      wide = let h = within in let q = count_above in omega (arith, h, q)

  -- ---- components

  component_number : (k : ℕ) (x : Name) → slice_get (heads_view texts heads).component_names k ≡ Some x → found x heads.components ≡ Some k
  component_number k x e = by (slice_get heads.components k) refl
      (sym (slice_get-map (λ e. e.0) heads.components k) ∙ ap (λ z. slice_get z k) agrees.component_places.listed ∙ e)
    where
      by : (o : Option (Name × ℕ)) → slice_get heads.components k ≡ o → option_map (λ (e : Name × ℕ). e.0) o ≡ Some x → found x heads.components ≡ Some k
      by None g h = cc
      by (Some q) g h = let n : q.0 ≡ x = cc in ap (λ z. found z heads.components) (sym n) ∙ agrees.component_places.back k q g

  pub component_found : (k y : ℕ) → slice_get d.tables.components k ≡ Some y → found ((naming texts d).component k) heads.components ≡ Some k
  component_found k y e =
      component_number k ((naming texts d).component k)
      (slice_get-map (tree.text_at texts) heads.component_names k
      ∙ ap (option_map (tree.text_at texts)) (ap (λ z. slice_get z k) (sym left.component_table) ∙ e)
      ∙ ap Some (sym (ap (component_name texts) e ∙ text_same texts y)))

  shown_in : (k : ℕ) (x : Name) (o : Option MemberNumber) (r : Option Member)
      → Shows (homes_view texts types homes).fields (homes_view texts types homes).methods (InComponent k) ((naming texts d).component k) x o r
      → option_and_then (member_view texts d) o ≡ r
  shown_in k x None r h = sym h
  shown_in k x (Some (FieldNumber f)) r h = by (view_at (field_view texts types) homes.making.fields f h.0 h.1)
    where
      by : Viewed (field_view texts types) homes.making.fields f h.0 → member_view texts d (FieldNumber f) ≡ r
      by (viewed y q v) =
          field_shown f y ((naming texts d).component k) q (ap (owner_name texts d.tables) (ap (λ z. z.owner) v ∙ h.2))
          ∙ ap (λ z. Some (AField ((naming texts d).component k) z.type)) v ∙ sym h.4
  shown_in k x (Some (MethodNumber m)) r h = by (view_at (method_view texts types) homes.making.methods m h.0 h.1)
    where
      by : Viewed (method_view texts types) homes.making.methods m h.0 → member_view texts d (MethodNumber m) ≡ r
      by (viewed y q v) = method_shown m y q ∙ ap (λ z. Some (AMethod (row_from z.params) z.result)) v ∙ sym h.4

  component_members : (k y : ℕ) (x : Name) → slice_get d.tables.components k ≡ Some y
      → option_and_then (member_view texts d) (found_in x (slice_get d.component_members k)) ≡ component_member ds ((naming texts d).component k) x
  component_members k y x e =
      let r = listed.component_at ((naming texts d).component k) k (component_found k y e) in
      ap (λ z. option_and_then (member_view texts d) (found_in x (slice_get z k))) left.component_member_maps
      ∙ shown_in k x (found_in x (slice_get homes.component_members k)) (member_in ((naming texts d).component k) r.0 x)
      (finds.component_members k ((naming texts d).component k) x r.0 r.2)
      ∙ ap (λ o. member_among ((naming texts d).component k) o x) (sym r.1)

pub members : (texts : List (List ℕ)) (ds : Node) (types : Types) (heads : Heads) (homes : Homes) (d : Declared) → Keeps ds
    → IsLeft texts ds types heads homes d → Members texts ds d
members texts ds types heads homes d kept left = record {
  of_class = class_members texts ds types heads homes d kept left;
  of_component = component_members texts ds types heads homes d kept left;
}
