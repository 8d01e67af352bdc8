-- The methods that the objects of classes have are those that are declared. A method that is found along a chain is the first of its name among the own
-- ones of a class of the chain; no field has its name, so it is what the class finds under the name.
use Rattle.std.proofs.Common.{◌≡◌, ℕ, ◌<◌, ◌==◌, ◌||◌, Bool, true, false, List, [], ◌∷◌, length, map, Option, Some, None, slice_get, refl, sym, ap, ◌∙◌}
use Rattle.std.proofs.Common.{if◌then◌else◌, subst}
use Rattle.std.specs.Option.{option_map}
use Rattle.std.proofs.lemmas.Bool.{eqb-true, eq-eqb}
use Rattle.std.proofs.lemmas.Option.{slice_get-map}
use Rattle.vg_syntax.specs.Tree.{Node}
use Rattle.vg_syntax.specs.Classes.{ClassParts}
use Rattle.vg_tree.specs.declared.node.Node as held
use Rattle.vg_tree.specs.Held.{text_at}
use Rattle.vg_source.specs.Names.{Name}
use Rattle.vg_source.specs.Declared.{AMethod, or_else, member_in, members_in, members_of, length_of}
use Rattle.vg_core.specs.Tables.{is_in, is_below, has_selector, find_selector, methods_in, dispatch}
use Rattle.vg_core.specs.declared.program.Owner.TheVariants.{InClass}
use Rattle.vg_core.specs.declared.program.Class.{Class}
use Rattle.vg_core.specs.declared.program.Method.{Method}
use Rattle.vg_core.specs.declared.program.Tables.{Tables}
use Rattle.vg_types_views.specs.ByText.{found}
use Rattle.vg_types_chains.specs.Chains.{chain_at, Close}
use Rattle.vg_types_hierarchy.specs.Inherited.{own_at, methods_on}
use Rattle.vg_types_hierarchy.specs.Classes.{above_number}
use Rattle.vg_types_interned.specs.declared.table.Types.{Types}
use Rattle.vg_types_members.specs.Members.{method_view}
use Rattle.vg_types_heads.specs.declared.heads.Heads.{Heads}
use Rattle.vg_types_homes.specs.declared.homes.Homes.{Homes}
use Rattle.vg_types_homes.specs.Homes.{homes_view}
use Rattle.vg_types_tables.specs.declared.declared.Declared.{Declared}
use Rattle.vg_types_tables.specs.declared.declared.MemberNumber.{MemberNumber}
use Rattle.vg_types_tables.specs.declared.declared.MemberNumber.TheVariants.{Field, Method as MethodNumber}
use Rattle.vg_types_tables.specs.Views.{declarations_at, naming, type_view, row_view}
use Rattle.vg_types_tables.specs.Declares.{found_in}
use Rattle.vg_types_inherited.specs.Dispatches.{IsDeclaredAbove, Dispatches}
use Rattle.vg_types_declared.specs.Dispatch.{named_first, Leads}
use Rattle.vg_types_declared.specs.Apart.{IsApart, AreApart}
use Rattle.vg_types_declared.specs.Lists.{class_list}
use Rattle.vg_types_declared.specs.Members.{row_from, Shows, class_rows}
use Rattle.vg_types_declared.specs.Named.{Keeps, IsLeft}
use Rattle.vg_types_declared.proofs.Forming.{class_at, class_within, below_to, below_from, wide, narrow}
use Rattle.vg_types_declared.proofs.Naming.{close, of_class, listed, finds, row_same, view_same}
use Rattle.vg_types_declared.proofs.Owning.{find_two, first_same, lead, method_is}

-- ---- chains of methods

or_true : (b : Bool) → b || true ≡ true
or_true true = refl
or_true false = refl

-- a method that is found has its selector
found_has : (p : Tables) (ms : List ℕ) (s m : ℕ) → find_selector p ms s ≡ Some m → has_selector (slice_get p.methods m) s ≡ true
found_has p [] s m e = cc
found_has p (k ∷ ms) s m e = by (has_selector (slice_get p.methods k) s) refl e (found_has p ms s m)
  where
    by : (b : Bool) → has_selector (slice_get p.methods k) s ≡ b → (if b then Some k else find_selector p ms s) ≡ Some m
        → (find_selector p ms s ≡ Some m → has_selector (slice_get p.methods m) s ≡ true) → has_selector (slice_get p.methods m) s ≡ true
    by true g z go = let w : k ≡ m = cc in ap (λ i. has_selector (slice_get p.methods i) s) (sym w) ∙ g
    by false g z go = go z

-- a class of a chain, and the first of its own methods of a selector
record Own (p : Tables) (own : List (List ℕ)) (cs : List ℕ) (s m : ℕ) : Type 0 where
  class : ℕ
  above : is_in cs class ≡ true
  first : find_selector p (own_at (slice_get own class)) s ≡ Some m

on_chain : (p : Tables) (own : List (List ℕ)) (s : ℕ) (cs : List ℕ) (m : ℕ) → find_selector p (methods_on own cs) s ≡ Some m → Own p own cs s m
on_chain p own s [] m e = cc
on_chain p own s (c ∷ cs) m e =
    by (find_selector p (own_at (slice_get own c)) s) refl (sym (find_two p s (own_at (slice_get own c)) (methods_on own cs)) ∙ e)
    (on_chain p own s cs m)
  where
    by : (o : Option ℕ) → find_selector p (own_at (slice_get own c)) s ≡ o → or_else o (find_selector p (methods_on own cs) s) ≡ Some m
        → (find_selector p (methods_on own cs) s ≡ Some m → Own p own cs s m) → Own p own (c ∷ cs) s m
    by (Some k) f g go = record { class = c; above = ap (λ b. b || is_in cs c) (eq-eqb c c refl); first = f ∙ g }
    by None f g go =
        let r = go g in record { class = r.class; above = ap (λ b. (c == r.class) || b) r.above ∙ or_true (c == r.class); first = r.first }

-- where a class of a chain has a method of a selector, one is found along the chain
along : (p : Tables) (own : List (List ℕ)) (s : ℕ) (cs : List ℕ) (e m : ℕ) → is_in cs e ≡ true → find_selector p (own_at (slice_get own e)) s ≡ Some m
    → (n : ℕ) × (find_selector p (methods_on own cs) s ≡ Some n)
along p own s [] e m h f = cc
along p own s (c ∷ cs) e m h f =
    by (find_selector p (own_at (slice_get own c)) s) refl (c == e) refl h (λ g. along p own s cs e m g f)
  where
    by : (o : Option ℕ) → find_selector p (own_at (slice_get own c)) s ≡ o → (b : Bool) → (c == e) ≡ b → b || is_in cs e ≡ true
        → (is_in cs e ≡ true → (n : ℕ) × (find_selector p (methods_on own cs) s ≡ Some n))
        → (n : ℕ) × (find_selector p (methods_on own (c ∷ cs)) s ≡ Some n)
    by (Some k) q b g z go =
        (k, find_two p s (own_at (slice_get own c)) (methods_on own cs) ∙ ap (λ o. or_else o (find_selector p (methods_on own cs) s)) q)
    by None q true g z go =
        let w : None ≡ Some m = sym q ∙ ap (λ i. find_selector p (own_at (slice_get own i)) s) (eqb-true c e g) ∙ f in
        absurd (let t : true ≡ false = cc in cc)
    by None q false g z go =
        let r = go z in (
          r.0,
          find_two p s (own_at (slice_get own c)) (methods_on own cs) ∙ ap (λ o. or_else o (find_selector p (methods_on own cs) s)) q ∙ r.1,
        )

-- ---- the methods of a text

module _ (texts : List (List ℕ)) (root : held.Node) (types : Types) (heads : Heads) (homes : Homes) (d : Declared)
    (kept : Keeps (declarations_at texts root)) (left : IsLeft texts (declarations_at texts root) types heads homes d)
    (parted : AreApart (homes_view texts types homes)) where
  abbrev ds : Node
  ds = declarations_at texts root

  abbrev numbers : List (Option ℕ)
  numbers = map (above_number texts heads.classes) heads.above

  abbrev chain : ℕ → List ℕ
  chain c = chain_at (length_of ds) numbers c

  closed : Close (length_of ds) numbers
  closed = close texts ds types heads homes d kept left

  within : (c : ℕ) (z : Class) → slice_get d.tables.classes c ≡ Some z → c < length heads.class_names
  within = class_within texts types homes (length_of ds) heads.class_names numbers d.tables left.built closed

  there : (c e : ℕ) → c < length heads.class_names → is_in (chain c) e ≡ true → e < length heads.class_names
  there c e h m =
      narrow texts types homes (length_of ds) heads.class_names numbers d.tables left.built closed e
      (closed.within c e (wide texts types homes (length_of ds) heads.class_names numbers d.tables left.built closed c h) m)

  methods_are : (c s : ℕ) → c < length heads.class_names → dispatch d.tables c s ≡ find_selector d.tables (methods_on homes.class_methods (chain c)) s
  methods_are c s h =
      ap (λ o. find_selector d.tables (methods_in o) s)
      (class_at texts types homes (length_of ds) heads.class_names numbers d.tables left.built closed c h)

  record At (c s m : ℕ) : Type 0 where
    inside : c < length heads.class_names
    own : Own d.tables homes.class_methods (chain c) s m

  dispatched : (c s m : ℕ) → dispatch d.tables c s ≡ Some m → At c s m
  dispatched c s m h = by (slice_get d.tables.classes c) refl h
    where
      by : (o : Option Class) → slice_get d.tables.classes c ≡ o → find_selector d.tables (methods_in o) s ≡ Some m → At c s m
      by None e g = cc
      by (Some z) e g = record {
        inside = within c z e;
        own = on_chain d.tables homes.class_methods s (chain c) m (sym (methods_are c s (within c z e)) ∙ h);
      }

  made : (m : ℕ) (y : Method) → slice_get d.tables.methods m ≡ Some y → slice_get homes.making.methods m ≡ Some y
  made m y e = ap (λ z. slice_get z m) (sym left.built.method_table) ∙ e

  -- ---- what is inherited

  inherits : (c e s m : ℕ) → is_below d.tables c e ≡ true → dispatch d.tables e s ≡ Some m → (n : ℕ) × (dispatch d.tables c s ≡ Some n)
  inherits c e s m h f =
      let b = below_to texts types homes (length_of ds) heads.class_names numbers d.tables left.built closed c e h in
      let r = dispatched e s m f in
      let t = closed.trans c e r.own.class
      (wide texts types homes (length_of ds) heads.class_names numbers d.tables left.built closed c b.0) b.1 r.own.above in
      let n = along d.tables homes.class_methods s (chain c) r.own.class m t r.own.first in
      (n.0, methods_are c s b.0 ∙ n.1)

  -- ---- names

  abbrev entry_name : Option (Name × ℕ) → Name
  entry_name (Some e) = e.0
  entry_name None = []

  one_name : (m n : ℕ) (y z : Method) → slice_get d.tables.methods m ≡ Some y → slice_get d.tables.methods n ≡ Some z → y.selector ≡ z.selector
      → text_at texts y.name ≡ text_at texts z.name
  one_name m n y z e f q =
      let places = left.homes_sound.making.numbering.places in
      let a = places (text_at texts y.name) y.selector (method_is texts ds types heads homes d kept left m y (made m y e)).selector in
      let b = places (text_at texts z.name) z.selector (method_is texts ds types heads homes d kept left n z (made n z f)).selector in
      ap entry_name (sym a ∙ ap (slice_get homes.making.selectors.numbers) q ∙ b)

  -- ---- what is declared

  selector_is : (m s : ℕ) (y : Method) → slice_get d.tables.methods m ≡ Some y → has_selector (slice_get d.tables.methods m) s ≡ true → y.selector ≡ s
  selector_is m s y e h = eqb-true y.selector s (sym (ap (λ o. has_selector o s) e) ∙ h)

  -- the method is what its class finds under its name
  shown : (e m : ℕ) (y : Method) → e < length heads.class_names → slice_get homes.making.methods m ≡ Some y → (o : Option MemberNumber)
      → found_in (text_at texts y.name) (slice_get homes.class_members e) ≡ o
      → Leads o (named_first (homes_view texts types homes).methods (own_at (slice_get homes.class_methods e)) (text_at texts y.name))
      → IsApart o (named_first (homes_view texts types homes).methods (own_at (slice_get homes.class_methods e)) (text_at texts y.name))
      → named_first (homes_view texts types homes).methods (own_at (slice_get homes.class_methods e)) (text_at texts y.name) ≡ Some m
      → (y.owner ≡ InClass e) × (member_in ((naming texts d).class e) (members_of ds ((naming texts d).class e)) (text_at texts y.name)
      ≡ Some (AMethod (row_view texts d y.params) (type_view texts d y.result)))
  shown e m y h g None q l a f = let w : None ≡ Some m = sym l ∙ f in absurd (let t : true ≡ false = cc in cc)
  shown e m y h g (Some (Field k)) q l a f = let w : None ≡ Some m = sym a ∙ f in absurd (let t : true ≡ false = cc in cc)
  shown e m y h g (Some (MethodNumber k)) q l a f =
      let same : k ≡ m = let w : Some k ≡ Some m = sym l ∙ f in cc in
      let p = (listed texts ds types heads homes d kept left).class_at ((naming texts d).class e) e (of_class texts ds types heads homes d kept left e h) in
      let row : slice_get (class_rows ds) e ≡ Some ((naming texts d).class e, p.0.members) =
      slice_get-map (λ (z : Name × ClassParts). (z.0, z.1.members)) (class_list ds) e
      ∙ ap (option_map (λ (z : Name × ClassParts). (z.0, z.1.members))) p.2 in
      let s = subst
      (λ o. Shows (homes_view texts types homes).fields (homes_view texts types homes).methods (InClass e) ((naming texts d).class e) (text_at texts y.name) o
      (member_in ((naming texts d).class e) p.0.members (text_at texts y.name))) q
      ((finds texts ds types heads homes d kept left).class_members e ((naming texts d).class e) (text_at texts y.name) p.0.members row) in
      let view : Some (method_view texts types y) ≡ Some s.0 =
      sym (slice_get-map (method_view texts types) homes.making.methods m ∙ ap (option_map (method_view texts types)) g)
      ∙ ap (slice_get (homes_view texts types homes).methods) (sym same) ∙ s.1 in
      let v : method_view texts types y ≡ s.0 = cc in (
        ap (λ z. z.owner) v ∙ s.2,
        ap (λ z. member_in ((naming texts d).class e) (members_in z) (text_at texts y.name)) p.1 ∙ s.4
            ∙ ap (λ z. Some (AMethod (row_from z.params) z.result)) (sym v)
            ∙ ap (λ z. Some (AMethod z (method_view texts types y).result)) (sym (row_same texts ds types heads homes d kept left y.params))
            ∙ ap (λ z. Some (AMethod (row_view texts d y.params) z)) (sym (view_same texts ds types heads homes d kept left y.result)),
      )

  declares : (c s m : ℕ) (y : Method) → dispatch d.tables c s ≡ Some m → slice_get d.tables.methods m ≡ Some y → IsDeclaredAbove texts root d c y
  declares c s m y h e =
      let r = dispatched c s m h in
      let k = r.own.class in
      let g = made m y e in
      let is = selector_is m s y e (found_has d.tables (own_at (slice_get homes.class_methods k)) s m r.own.first) in
      let f : found (text_at texts y.name) homes.making.selectors.numbers ≡ Some s =
      (method_is texts ds types heads homes d kept left m y g).selector ∙ ap Some is in
      let first : named_first (homes_view texts types homes).methods (own_at (slice_get homes.class_methods k)) (text_at texts y.name) ≡ Some m =
      sym (first_same texts types homes.making.selectors.numbers left.homes_sound.making.numbering.places d.tables homes.making.methods
      left.homes_sound.making.methods left.built.method_table (text_at texts y.name) s f (own_at (slice_get homes.class_methods k))) ∙ r.own.first in
      let w = shown k m y (there c k r.inside r.own.above) g (found_in (text_at texts y.name) (slice_get homes.class_members k)) refl
      ((lead texts ds types heads homes d kept left).methods k (text_at texts y.name)) (parted.apart k (text_at texts y.name)) first in (
        k,
        w.0,
        below_from texts types homes (length_of ds) heads.class_names numbers d.tables left.built closed c k r.inside r.own.above,
        w.1,
      )

  pub dispatches : Dispatches texts root d
  dispatches = record { declared = declares; inherited = inherits; one_name = one_name }
