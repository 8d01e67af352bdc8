-- What is found under the name of a member is there, and has the name. The methods of one name have one selector, and those of another name another:
-- so the first method of a
-- selector along a chain is the first of the name.
use Rattle.std.proofs.Common.{◌≡◌, ℕ, zero, suc, ◌+◌, ◌<◌, ◌==◌, Bool, true, false, ◌||◌}
use Rattle.std.proofs.Common.{List, [], ◌∷◌, ◌++◌, length, map, Option, Some, None, slice_get, bytes_eq}
use Rattle.std.proofs.Common.{if◌then◌else◌, Decides, refl, sym, ap, ◌∙◌, subst, arith}
use Rattle.std.specs.List.{AllByRecursion}
use Rattle.std.specs.Option.{option_map}
use Rattle.std.proofs.lemmas.Bool.{eqb-true, eq-eqb}
use Rattle.std.proofs.lemmas.Option.{slice_get-map}
use Rattle.std.proofs.lemmas.Slice.Eq.{bytes_eq-Decides}
use Rattle.vg_syntax.specs.Tree.{Node}
use Rattle.vg_tree.specs.Held as tree
use Rattle.vg_source.specs.Names.{Name}
use Rattle.vg_source.specs.Declared.{Member, or_else, member_in, class_member, length_of}
use Rattle.vg_core.specs.Naming.{text_at, field_key, method_key, selector_name}
use Rattle.vg_core.specs.Tables.{is_in, has_selector, find_selector, methods_in}
use Rattle.vg_core.specs.declared.program.Owner.TheVariants.{InClass, InComponent}
use Rattle.vg_core.specs.declared.program.Class.{Class}
use Rattle.vg_core.specs.declared.program.Field.{Field}
use Rattle.vg_core.specs.declared.program.Method.{Method}
use Rattle.vg_core.specs.declared.program.Tables.{Tables}
use Rattle.vg_types_views.specs.ByText.{found}
use Rattle.vg_types_interned.specs.declared.table.Types.{Types}
use Rattle.vg_types_interned.specs.Types.{AreNumbered}
use Rattle.vg_types_members.specs.Members.{MethodView, field_view, method_view, IsMethod}
use Rattle.vg_types_hierarchy.specs.Inherited.{own_at, methods_on}
use Rattle.vg_types_hierarchy.specs.Classes.{above_number}
use Rattle.vg_types_heads.specs.declared.heads.Heads.{Heads}
use Rattle.vg_types_heads.specs.Heads.{heads_view}
use Rattle.vg_types_homes.specs.declared.homes.Homes.{Homes}
use Rattle.vg_types_homes.specs.Homes.{homes_view, no_view, with_declarations}
use Rattle.vg_types_tables.specs.declared.declared.Declared.{Declared}
use Rattle.vg_types_tables.specs.declared.declared.MemberNumber.{MemberNumber}
use Rattle.vg_types_tables.specs.declared.declared.MemberNumber.TheVariants.{Field as FieldNumber, Method as MethodNumber}
use Rattle.vg_types_tables.specs.Views.{naming}
use Rattle.vg_types_tables.specs.Declares.{found_in, member_of, IsMemberOf, IsMemberOfComponent}
use Rattle.vg_types_chains.specs.Chains.{chain_at}
use Rattle.vg_types_declared.specs.Chains.{numbers, name_of}
use Rattle.vg_types_declared.specs.Members.{Shows}
use Rattle.vg_types_declared.specs.Inherits.{chain_member, ShowsOn}
use Rattle.vg_types_declared.specs.Dispatch.{has_name, named_first, Leads, Dispatches}
use Rattle.vg_types_declared.specs.Named.{Keeps, IsLeft, Owned}
use Rattle.vg_types_declared.proofs.Dispatching.{dispatches}
use Rattle.vg_types_declared.proofs.Forming.{Viewed, viewed, view_at, class_at, class_within, class_is, field_there, below_from}
use Rattle.vg_types_declared.proofs.Naming.{text_same, chain_same, listed, above_same, close, of_class, component_found, finds, inherited}

-- ---- selectors

-- the first method of a selector in two lists
pub find_two : (p : Tables) (s : ℕ) (ns bs : List ℕ) → find_selector p (ns ++ bs) s ≡ or_else (find_selector p ns s) (find_selector p bs s)
find_two p s [] bs = refl
find_two p s (a ∷ ns) bs = by (has_selector (slice_get p.methods a) s) (find_two p s ns bs)
  where
    by : (b : Bool) → find_selector p (ns ++ bs) s ≡ or_else (find_selector p ns s) (find_selector p bs s)
        → (if b then Some a else find_selector p (ns ++ bs) s) ≡ or_else (if b then Some a else find_selector p ns s) (find_selector p bs s)
    by true e = refl
    by false e = e

module _ (texts : List (List ℕ)) (types : Types) (selectors : List (Name × ℕ)) (n : AreNumbered selectors) where
  -- a method has the selector of a name where it has the name
  selector_same : (z : Method) (x : Name) (s : ℕ) → IsMethod texts types selectors z → found x selectors ≡ Some s
      → (z.selector == s) ≡ bytes_eq (tree.text_at texts z.name) x
  selector_same z x s m f =
      by (z.selector == s) refl (bytes_eq (tree.text_at texts z.name) x) (bytes_eq-Decides (tree.text_at texts z.name) x)
    where
      one_name : z.selector ≡ s → tree.text_at texts z.name ≡ x
      one_name q =
          let a = n (tree.text_at texts z.name) z.selector m.selector in
          let b = n x s f in
          ap entry_name (sym a ∙ ap (slice_get selectors) q ∙ b)
        where
          entry_name : Option (Name × ℕ) → Name
          entry_name (Some e) = e.0
          entry_name None = []

      by : (a : Bool) → (z.selector == s) ≡ a → (b : Bool) → Decides b (tree.text_at texts z.name ≡ x) → a ≡ b
      by true q true k = refl
      by false q false k = refl
      by true q false k = sym (k.1 (one_name (eqb-true z.selector s q)))
      by false q true k =
          let g : Some z.selector ≡ Some s = sym m.selector ∙ ap (λ y. found y selectors) (k.0 refl) ∙ f in
          let e : z.selector ≡ s = cc in
          sym q ∙ eq-eqb z.selector s e

  -- the name of a selector
  selector_named : (ms : List Method) (i : ℕ) (y : Method) (x : Name) → AllByRecursion (IsMethod texts types selectors) ms → slice_get ms i ≡ Some y
      → tree.text_at texts y.name ≡ x → found x selectors ≡ Some y.selector → selector_name texts ms y.selector ≡ x
  selector_named [] i y x a e q f = cc
  selector_named (z ∷ ms) i y x a e q f =
      by (z.selector == y.selector) refl i e (λ j g. selector_named ms j y x a.1 g q f)
    where
      by : (b : Bool) → (z.selector == y.selector) ≡ b → (i : ℕ) → slice_get (z ∷ ms) i ≡ Some y
          → ((j : ℕ) → slice_get ms j ≡ Some y → selector_name texts ms y.selector ≡ x)
          → (if b then text_at texts z.name else selector_name texts ms y.selector) ≡ x
      by true g i e ih =
          text_same texts z.name
          ∙ (bytes_eq-Decides (tree.text_at texts z.name) x).0 (sym (selector_same z x y.selector a.0 f) ∙ g)
      by false g zero e ih =
          let h : z ≡ y = cc in
          absurd (let t : true ≡ false = sym (eq-eqb z.selector y.selector (ap (λ k. k.selector) h)) ∙ g in cc)
      by false g (suc j) e ih = ih j e

  all_at : (ms : List Method) (i : ℕ) (y : Method) → AllByRecursion (IsMethod texts types selectors) ms → slice_get ms i ≡ Some y
      → IsMethod texts types selectors y
  all_at [] i y a e = cc
  all_at (z ∷ ms) zero y a e = let h : z ≡ y = cc in subst (IsMethod texts types selectors) h a.0
  all_at (z ∷ ms) (suc i) y a e = all_at ms i y a.1 e

  module _ (p : Tables) (ms : List Method) (all : AllByRecursion (IsMethod texts types selectors) ms) (table : p.methods ≡ ms) (x : Name) (s : ℕ)
      (f : found x selectors ≡ Some s) where
    has_same : (m : ℕ) → has_selector (slice_get p.methods m) s ≡ has_name (slice_get (map (method_view texts types) ms) m) x
    has_same m =
        ap (λ z. has_selector (slice_get z m) s) table ∙ by (slice_get ms m) refl
        ∙ ap (λ o. has_name o x) (sym (slice_get-map (method_view texts types) ms m))
      where
        by : (o : Option Method) → slice_get ms m ≡ o → has_selector o s ≡ has_name (option_map (method_view texts types) o) x
        by None e = refl
        by (Some z) e = selector_same z x s (all_at ms m z all e) f

    pub first_same : (own : List ℕ) → find_selector p own s ≡ named_first (map (method_view texts types) ms) own x
    first_same [] = refl
    first_same (m ∷ own) =
        ap (λ b. if b then Some m else find_selector p own s) (has_same m)
        ∙ ap (λ o. if has_name (slice_get (map (method_view texts types) ms) m) x then Some m else o) (first_same own)

    -- the first method of the selector along a chain
    along : (maps : List (List (Name × MemberNumber))) (own : List (List ℕ))
        → ((c : ℕ) → Leads (found_in x (slice_get maps c)) (named_first (map (method_view texts types) ms) (own_at (slice_get own c)) x))
        → (cs : List ℕ) (m : ℕ) → chain_member maps cs x ≡ Some (MethodNumber m) → find_selector p (methods_on own cs) s ≡ Some m
    along maps own l [] m e = cc
    along maps own l (c ∷ cs) m e =
        find_two p s (own_at (slice_get own c)) (methods_on own cs)
        ∙ ap (λ o. or_else o (find_selector p (methods_on own cs) s)) (first_same (own_at (slice_get own c)))
        ∙ by (found_in x (slice_get maps c)) (l c) e (along maps own l cs m)
      where
        by : (o : Option MemberNumber) → Leads o (named_first (map (method_view texts types) ms) (own_at (slice_get own c)) x)
            → or_else o (chain_member maps cs x) ≡ Some (MethodNumber m)
            → (chain_member maps cs x ≡ Some (MethodNumber m) → find_selector p (methods_on own cs) s ≡ Some m)
            → or_else (named_first (map (method_view texts types) ms) (own_at (slice_get own c)) x) (find_selector p (methods_on own cs) s) ≡ Some m
        by None h e ih = ap (λ z. or_else z (find_selector p (methods_on own cs) s)) h ∙ ih e
        by (Some (MethodNumber k)) h e ih =
            ap (λ z. or_else z (find_selector p (methods_on own cs) s)) h ∙ ap method_of e
          where
            method_of : Option MemberNumber → Option ℕ
            method_of (Some (MethodNumber i)) = Some i
            method_of _ = None
        by (Some (FieldNumber k)) h e ih = absurd (let t : true ≡ false = cc in cc)

-- ---- members

module _ (texts : List (List ℕ)) (ds : Node) (types : Types) (heads : Heads) (homes : Homes) (d : Declared) (kept : Keeps ds)
    (left : IsLeft texts ds types heads homes d) where
  pub lead : Dispatches (homes_view texts types homes)
  lead = subst Dispatches (sym left.homes_left) (dispatches ds)

  pub method_there : (m : ℕ) (y : Method) → slice_get homes.making.methods m ≡ Some y → slice_get d.tables.methods m ≡ Some y
  method_there m y e = ap (λ z. slice_get z m) left.built.method_table ∙ e

  pub method_is : (m : ℕ) (y : Method) → slice_get homes.making.methods m ≡ Some y → IsMethod texts types homes.making.selectors.numbers y
  method_is m y e =
      all_at texts types homes.making.selectors.numbers left.homes_sound.making.numbering.places homes.making.methods m y left.homes_sound.making.methods e

  field_named : (f : ℕ) (y : Field) (x : Name) → slice_get homes.making.fields f ≡ Some y → tree.text_at texts y.name ≡ x
      → ((naming texts d).field f).name ≡ x
  field_named f y x e q =
      ap (λ o. (field_key texts d.tables o).name)
      (field_there texts types homes (length_of ds) heads.class_names (map (above_number texts heads.classes) heads.above) d.tables left.built
      (close texts ds types heads homes d kept left) f y e)
      ∙ text_same texts y.name ∙ q

  pub method_named : (m : ℕ) (y : Method) (x : Name) → slice_get homes.making.methods m ≡ Some y → tree.text_at texts y.name ≡ x
      → ((naming texts d).method m).name ≡ x
  method_named m y x e q = ap (λ o. (method_key texts d.tables o).name) (method_there m y e) ∙ text_same texts y.name ∙ q

  pub selector_is : (m : ℕ) (y : Method) (x : Name) → slice_get homes.making.methods m ≡ Some y → tree.text_at texts y.name ≡ x
      → (naming texts d).selector y.selector ≡ x
  selector_is m y x e q =
      ap (λ z. selector_name texts z y.selector) left.built.method_table
      ∙ selector_named texts types homes.making.selectors.numbers left.homes_sound.making.numbering.places homes.making.methods m y x
      left.homes_sound.making.methods e q (ap (λ z. found z homes.making.selectors.numbers) (sym q) ∙ (method_is m y e).selector)

  of_chain : (c : ℕ) → c < length heads.class_names → (x : Name) (n : MemberNumber)
      → chain_member homes.class_members (chain_at (length_of ds) (map (above_number texts heads.classes) heads.above) c) x ≡ Some n
      → (r : Option Member)
      → ShowsOn (heads_view texts heads) (homes_view texts types homes)
      (chain_at (length_of ds) (map (above_number texts heads.classes) heads.above) c) x (Some n) r → IsMemberOf texts d c x n
  of_chain c h x (FieldNumber f) g r s = by (view_at (field_view texts types) homes.making.fields f s.1 s.2)
    where
      by : Viewed (field_view texts types) homes.making.fields f s.1 → IsMemberOf texts d c x (FieldNumber f)
      by (viewed y q v) = (
        _,
        s.0,
        field_there texts types homes (length_of ds) heads.class_names (map (above_number texts heads.classes) heads.above) d.tables left.built
            (close texts ds types heads homes d kept left) f y q,
        ap (λ z. z.owner) v ∙ s.3,
        below_from texts types homes (length_of ds) heads.class_names (map (above_number texts heads.classes) heads.above) d.tables left.built
            (close texts ds types heads homes d kept left) c s.0 h s.4,
        field_named f y x q (ap (λ z. z.name) v ∙ s.5),
      )
  of_chain c h x (MethodNumber m) g r s = by (view_at (method_view texts types) homes.making.methods m s.1 s.2)
    where
      by : Viewed (method_view texts types) homes.making.methods m s.1 → IsMemberOf texts d c x (MethodNumber m)
      by (viewed y q v) =
          let n : tree.text_at texts y.name ≡ x = ap (λ z. z.name) v ∙ s.5 in
          let f : found x homes.making.selectors.numbers ≡ Some y.selector =
          ap (λ z. found z homes.making.selectors.numbers) (sym n) ∙ (method_is m y q).selector in (
            y,
            method_there m y q,
            ap (λ o. find_selector d.tables (methods_in o) y.selector)
                (class_at texts types homes (length_of ds) heads.class_names (map (above_number texts heads.classes) heads.above) d.tables left.built
                (close texts ds types heads homes d kept left) c h)
                ∙ along texts types homes.making.selectors.numbers left.homes_sound.making.numbering.places d.tables homes.making.methods
                left.homes_sound.making.methods left.built.method_table x y.selector f homes.class_members homes.class_methods (λ c. lead.methods c x)
                (chain_at (length_of ds) (map (above_number texts heads.classes) heads.above) c) m g,
            selector_is m y x q n,
            method_named m y x q n,
          )

  class_owned : (c : ℕ) (k : Class) (x : Name) (n : MemberNumber) → slice_get d.tables.classes c ≡ Some k → member_of d k.above x ≡ Some n
      → IsMemberOf texts d c x n
  class_owned c k x n e m =
      of_chain c here x n there (class_member ds ((naming texts d).class c) x)
      (subst (λ z. ShowsOn (heads_view texts heads) (homes_view texts types homes) z x (Some n) (class_member ds ((naming texts d).class c) x))
      (sym (ap (λ z. chain_at (length_of ds) z c) (above_same texts ds types heads homes d kept left heads.above)))
      (subst (λ o. ShowsOn (heads_view texts heads) (homes_view texts types homes) (chain_at (length_of ds) (numbers (heads_view texts heads)) c) x o
      (class_member ds ((naming texts d).class c) x))
      (sym (ap (λ z. chain_member homes.class_members (chain_at (length_of ds) z c) x) (above_same texts ds types heads homes d kept left heads.above)) ∙ there)
      ((inherited texts ds types heads homes d kept left).members ((naming texts d).class c) x c (of_class texts ds types heads homes d kept left c here))))
    where
      here : c < length heads.class_names
      here =
          class_within texts types homes (length_of ds) heads.class_names (map (above_number texts heads.classes) heads.above) d.tables left.built
          (close texts ds types heads homes d kept left) c k e

      there : chain_member homes.class_members (chain_at (length_of ds) (map (above_number texts heads.classes) heads.above) c) x ≡ Some n
      there =
          sym (chain_same d k.above x ∙ ap (λ z. chain_member z k.above x) left.class_member_maps
          ∙ ap (λ z. chain_member homes.class_members z.above x)
          (class_is texts types homes (length_of ds) heads.class_names (map (above_number texts heads.classes) heads.above) d.tables left.built
          (close texts ds types heads homes d kept left) c k e)) ∙ m

  of_home : (k : ℕ) (x z : Name) (n : MemberNumber) (r : Option Member)
      → Shows (homes_view texts types homes).fields (homes_view texts types homes).methods (InComponent k) z x (Some n) r → IsMemberOfComponent texts d k x n
  of_home k x z (FieldNumber f) r s = by (view_at (field_view texts types) homes.making.fields f s.0 s.1)
    where
      by : Viewed (field_view texts types) homes.making.fields f s.0 → IsMemberOfComponent texts d k x (FieldNumber f)
      by (viewed y q v) = (
        _,
        field_there texts types homes (length_of ds) heads.class_names (map (above_number texts heads.classes) heads.above) d.tables left.built
            (close texts ds types heads homes d kept left) f y q,
        ap (λ z. z.owner) v ∙ s.2,
        field_named f y x q (ap (λ z. z.name) v ∙ s.3),
      )
  of_home k x z (MethodNumber m) r s = by (view_at (method_view texts types) homes.making.methods m s.0 s.1)
    where
      by : Viewed (method_view texts types) homes.making.methods m s.0 → IsMemberOfComponent texts d k x (MethodNumber m)
      by (viewed y q v) = (y, method_there m y q, ap (λ z. z.owner) v ∙ s.2, method_named m y x q (ap (λ z. z.name) v ∙ s.3))

  component_owned : (k y : ℕ) (x : Name) (n : MemberNumber) → slice_get d.tables.components k ≡ Some y
      → found_in x (slice_get d.component_members k) ≡ Some n → IsMemberOfComponent texts d k x n
  component_owned k y x n e m =
      let r = (listed texts ds types heads homes d kept left).component_at ((naming texts d).component k) k
      (component_found texts ds types heads homes d kept left k y e) in
      of_home k x ((naming texts d).component k) n (member_in ((naming texts d).component k) r.0 x)
      (subst (λ o. Shows (homes_view texts types homes).fields (homes_view texts types homes).methods (InComponent k) ((naming texts d).component k) x o
      (member_in ((naming texts d).component k) r.0 x))
      (sym (ap (λ z. found_in x (slice_get z k)) left.component_member_maps) ∙ m)
      ((finds texts ds types heads homes d kept left).component_members k ((naming texts d).component k) x r.0 r.2))

pub owned : (texts : List (List ℕ)) (ds : Node) (types : Types) (heads : Heads) (homes : Homes) (d : Declared) → Keeps ds
    → IsLeft texts ds types heads homes d → Owned texts d
owned texts ds types heads homes d kept left = record {
  of_class = class_owned texts ds types heads homes d kept left;
  of_component = component_owned texts ds types heads homes d kept left;
}
