-- Names tell numbers apart, class by class, and what is inherited is what the first class of a chain declares.
use Rattle.std.proofs.Common.{◌≡◌, inl, inr, ℕ, zero, suc, ◌<◌, ◌==◌, Bool, true, false, List, [], ◌∷◌, ◌++◌, length, map, Option, Some, None}
use Rattle.std.proofs.Common.{slice_get, bytes_eq, if◌then◌else◌, refl, sym, ap, ◌∙◌, subst, arith}
use Rattle.std.specs.Option.{option_map}
use Rattle.std.proofs.lemmas.Bool.{eqb-true, eq-eqb}
use Rattle.std.proofs.lemmas.List.{length-map}
use Rattle.std.proofs.lemmas.Option.{slice_get-map, slice_get_within}
use Rattle.std.proofs.lemmas.Slice.Eq.{bytes_eq-Decides}
use Rattle.vg_syntax.specs.Tree.{Node}
use Rattle.vg_tree.specs.Held as tree
use Rattle.vg_source.specs.Declared.{or_else, length_of}
use Rattle.vg_core.specs.Naming.{owner_name, method_key}
use Rattle.vg_core.specs.Program.{Signature, signature_of, method_signature, making_signature, start_signature}
use Rattle.vg_core.specs.Tables.{is_below, has_selector, find_selector, methods_in, dispatch}
use Rattle.vg_core.specs.declared.program.Owner.TheVariants.{InClass}
use Rattle.vg_core.specs.declared.program.Class.{Class}
use Rattle.vg_core.specs.declared.program.Method.{Method}
use Rattle.vg_core.specs.declared.program.Tables.{Tables}
use Rattle.vg_core.specs.declared.program.Target.{Target}
use Rattle.vg_core.specs.declared.program.Target.TheVariants.{Run, Construct, Start}
use Rattle.vg_renamed.specs.NamesTell.{DeclaresNone, DeclaresFirst, Inherited}
use Rattle.vg_types_views.specs.ByText.{found}
use Rattle.vg_types_interned.specs.declared.table.Types.{Types}
use Rattle.vg_types_members.specs.Members.{MethodView, method_view}
use Rattle.vg_types_hierarchy.specs.Classes.{above_number}
use Rattle.vg_types_hierarchy.specs.Inherited.{own_at, methods_on}
use Rattle.vg_types_heads.specs.declared.heads.Heads.{Heads}
use Rattle.vg_types_homes.specs.declared.homes.Homes.{Homes}
use Rattle.vg_types_homes.specs.Homes.{homes_view}
use Rattle.vg_types_tables.specs.declared.declared.Declared.{Declared}
use Rattle.vg_types_tables.specs.Views.{naming}
use Rattle.vg_types_tables.specs.Declares.{IsClass, IsFormed}
use Rattle.vg_types_chains.specs.Chains.{chain_at}
use Rattle.vg_types_declared.specs.Lists.{class_list, component_list}
use Rattle.vg_types_declared.specs.Slots.{Slotted}
use Rattle.vg_types_declared.specs.Named.{Keeps, IsLeft}
use Rattle.vg_types_declared.proofs.Forming.{Viewed, viewed, view_at, class_within, class_is, formed}
use Rattle.vg_types_declared.proofs.Naming.{listed, close, of_class, component_found}
use Rattle.vg_types_declared.proofs.Owning.{method_there, method_named, selector_is}
use Rattle.vg_types_declared.proofs.Slotting.{slotted}
use Rattle.vg_types_named.proofs.Apart.{clash}
use Rattle.vg_types_named.proofs.Methods.{Stands, AllOwn, methods_own}
use Rattle.vg_types_named.proofs.Tables.{fields}

-- a test that holds exactly where two numbers are the same
pub same_test : (b : Bool) (i j : ℕ) → (b ≡ true → i ≡ j) → (i ≡ j → b ≡ true) → b ≡ (i == j)
same_test b i j f g = by b refl (i == j) refl
  where
    by : (x : Bool) → b ≡ x → (y : Bool) → (i == j) ≡ y → x ≡ y
    by true e true q = refl
    by false e false q = refl
    by true e false q = sym (eq-eqb i j (f e)) ∙ q
    by false e true q = sym e ∙ g (eqb-true i j q)

pub one_some : {A : Type 0} (a b : A) → Some a ≡ Some b → a ≡ b
one_some {A} a b e = ap the e
  where
    the : Option A → A
    the (Some x) = x
    the None = a

-- ---- the first method of a selector

module _ (p : Tables) (s : ℕ) where
  find_two : (ns bs : List ℕ) → find_selector p (ns ++ bs) s ≡ or_else (find_selector p ns s) (find_selector p bs s)
  find_two [] bs = refl
  find_two (a ∷ ns) bs = by (has_selector (slice_get p.methods a) s) (find_two ns bs)
    where
      by : (b : Bool) → find_selector p (ns ++ bs) s ≡ or_else (find_selector p ns s) (find_selector p bs s)
          → (if b then Some a else find_selector p (ns ++ bs) s) ≡ or_else (if b then Some a else find_selector p ns s) (find_selector p bs s)
      by true e = refl
      by false e = e

  first_is : (ms : List ℕ) (m : ℕ) → find_selector p ms s ≡ Some m
      → (j : ℕ) × (slice_get ms j ≡ Some m) × (has_selector (slice_get p.methods m) s ≡ true)
  first_is [] m e = cc
  first_is (a ∷ ms) m e = by (has_selector (slice_get p.methods a) s) refl e (first_is ms m)
    where
      by : (b : Bool) → has_selector (slice_get p.methods a) s ≡ b → (if b then Some a else find_selector p ms s) ≡ Some m
          → (find_selector p ms s ≡ Some m → (j : ℕ) × (slice_get ms j ≡ Some m) × (has_selector (slice_get p.methods m) s ≡ true))
          → (j : ℕ) × (slice_get (a ∷ ms) j ≡ Some m) × (has_selector (slice_get p.methods m) s ≡ true)
      by true h g ih = (0, g, ap (λ z. has_selector (slice_get p.methods z) s) (sym (one_some a m g)) ∙ h)
      by false h g ih = let k = ih g in (suc k.0, k.1, k.2)

  none_is : (ms : List ℕ) → find_selector p ms s ≡ None → (j m : ℕ) → slice_get ms j ≡ Some m → has_selector (slice_get p.methods m) s ≡ false
  none_is [] e j m g = cc
  none_is (a ∷ ms) e j m g = by (has_selector (slice_get p.methods a) s) refl e j g (none_is ms)
    where
      by : (b : Bool) → has_selector (slice_get p.methods a) s ≡ b → (if b then Some a else find_selector p ms s) ≡ None
          → (j : ℕ) → slice_get (a ∷ ms) j ≡ Some m
          → (find_selector p ms s ≡ None → (j m : ℕ) → slice_get ms j ≡ Some m → has_selector (slice_get p.methods m) s ≡ false)
          → has_selector (slice_get p.methods m) s ≡ false
      by true h q j g ih = cc
      by false h q zero g ih = ap (λ z. has_selector (slice_get p.methods z) s) (sym (one_some a m g)) ∙ h
      by false h q (suc j) g ih = ih q j m g

  -- the method of a selector that the classes of a chain declare first
  pub record Leading (cs : List ℕ) (m : ℕ) : Type 0 where
    pub method : Method
    pub class : ℕ
    pub there : slice_get p.methods m ≡ Some method
    pub owner : method.owner ≡ InClass class
    pub selector : method.selector ≡ s
    pub first : DeclaresFirst p cs s class

  along : (own : List (List ℕ))
      → ((c j m : ℕ) → slice_get (own_at (slice_get own c)) j ≡ Some m → (y : Method) × (slice_get p.methods m ≡ Some y) × (y.owner ≡ InClass c))
      → ((m c : ℕ) (y : Method) → slice_get p.methods m ≡ Some y → y.owner ≡ InClass c
      → (j : ℕ) × (slice_get (own_at (slice_get own c)) j ≡ Some m))
      → (cs : List ℕ) (m : ℕ) → find_selector p (methods_on own cs) s ≡ Some m → Leading cs m
  along own back forth [] m e = cc
  along own back forth (c ∷ cs) m e =
      by (find_selector p (own_at (slice_get own c)) s) refl (sym (find_two (own_at (slice_get own c)) (methods_on own cs)) ∙ e) (along own back forth cs m)
    where
      selected : (y : Method) → slice_get p.methods m ≡ Some y → has_selector (slice_get p.methods m) s ≡ true → y.selector ≡ s
      selected y q h = eqb-true y.selector s (sym (ap (λ o. has_selector o s) q) ∙ h)

      by : (o : Option ℕ) → find_selector p (own_at (slice_get own c)) s ≡ o → or_else o (find_selector p (methods_on own cs) s) ≡ Some m
          → (find_selector p (methods_on own cs) s ≡ Some m → Leading cs m) → Leading (c ∷ cs) m
      by (Some k) h g ih =
          let f = first_is (own_at (slice_get own c)) m (h ∙ g) in
          let b = back c f.0 m f.1 in
          record { method = b.0; class = c; there = b.1; owner = b.2; selector = selected b.0 b.1 f.2; first = inl refl }
      by None h g ih =
          let r = ih g in
          record { method = r.method; class = r.class; there = r.there; owner = r.owner; selector = r.selector; first = inr (none, r.first) }
        where
          none : DeclaresNone p c s
          none i y q o z =
              let f = forth i c y q o in
              clash (has_selector (slice_get p.methods i) s) (ap (λ x. has_selector x s) q ∙ eq-eqb y.selector s z)
              (none_is (own_at (slice_get own c)) h f.0 i f.1)

-- ---- names and tables

module _ (texts : List (List ℕ)) (ds : Node) (types : Types) (heads : Heads) (homes : Homes) (d : Declared) (kept : Keeps ds)
    (left : IsLeft texts ds types heads homes d) where
  pub class_here : (c : ℕ) (k : Class) → slice_get d.tables.classes c ≡ Some k → c < length heads.class_names
  class_here c k e =
      class_within texts types homes (length_of ds) heads.class_names (map (above_number texts heads.classes) heads.above) d.tables left.built
      (close texts ds types heads homes d kept left) c k e

  pub one_class : (c e : ℕ) → c < length heads.class_names → e < length heads.class_names → (naming texts d).class c ≡ (naming texts d).class e → c ≡ e
  one_class c e h g q =
      one_some c e (sym (of_class texts ds types heads homes d kept left c h) ∙ ap (λ z. found z heads.classes) q
      ∙ of_class texts ds types heads homes d kept left e g)

  pub classes_tell : (c e : ℕ) (k l : Class) → slice_get d.tables.classes c ≡ Some k → slice_get d.tables.classes e ≡ Some l
      → bytes_eq ((naming texts d).class c) ((naming texts d).class e) ≡ (c == e)
  classes_tell c e k l f g =
      same_test (bytes_eq ((naming texts d).class c) ((naming texts d).class e)) c e
      (λ b. one_class c e (class_here c k f) (class_here e l g) ((bytes_eq-Decides ((naming texts d).class c) ((naming texts d).class e)).0 b))
      (λ q. (bytes_eq-Decides ((naming texts d).class c) ((naming texts d).class e)).1 (ap (naming texts d).class q))

  pub one_component : (j k x y : ℕ) → slice_get d.tables.components j ≡ Some x → slice_get d.tables.components k ≡ Some y
      → (naming texts d).component j ≡ (naming texts d).component k → j ≡ k
  one_component j k x y e f q =
      one_some j k (sym (component_found texts ds types heads homes d kept left j x e) ∙ ap (λ z. found z heads.components) q
      ∙ component_found texts ds types heads homes d kept left k y f)

  pub components_tell : (j k x y : ℕ) → slice_get d.tables.components j ≡ Some x → slice_get d.tables.components k ≡ Some y
      → bytes_eq ((naming texts d).component j) ((naming texts d).component k) ≡ (j == k)
  components_tell j k x y e f =
      same_test (bytes_eq ((naming texts d).component j) ((naming texts d).component k)) j k
      (λ b. one_component j k x y e f ((bytes_eq-Decides ((naming texts d).component j) ((naming texts d).component k)).0 b))
      (λ q. (bytes_eq-Decides ((naming texts d).component j) ((naming texts d).component k)).1 (ap (naming texts d).component q))

  kept_tables : IsFormed d.tables
  kept_tables =
      formed texts types homes d.tables (length_of ds) heads.class_names (map (above_number texts heads.classes) heads.above) left.built
      (close texts ds types heads homes d kept left) (subst Slotted (sym left.homes_left) (slotted ds)) left.homes_sound

  pub above : (c e : ℕ) → is_below d.tables c e ≡ true → IsClass d.tables e
  above = kept_tables.classes_above

  -- ---- methods

  pub held : (m : ℕ) (y : Method) → slice_get d.tables.methods m ≡ Some y → slice_get homes.making.methods m ≡ Some y
  held m y e = ap (λ z. slice_get z m) (sym left.built.method_table) ∙ e

  pub seen : (m : ℕ) (y : Method) → slice_get d.tables.methods m ≡ Some y
      → slice_get (homes_view texts types homes).methods m ≡ Some (method_view texts types y)
  seen m y e = slice_get-map (method_view texts types) homes.making.methods m ∙ ap (option_map (method_view texts types)) (held m y e)

  pub owners : (i c : ℕ) (x : Method) → slice_get d.tables.methods i ≡ Some x → x.owner ≡ InClass c
      → ((naming texts d).method i).owner ≡ (naming texts d).class c
  owners i c x e o = ap (λ z. (method_key texts d.tables z).owner) e ∙ ap (owner_name texts d.tables) o

  pub selectors : (i : ℕ) (x : Method) → slice_get d.tables.methods i ≡ Some x → (naming texts d).selector x.selector ≡ ((naming texts d).method i).name
  selectors i x e =
      selector_is texts ds types heads homes d kept left i x (tree.text_at texts x.name) (held i x e) refl
      ∙ sym (method_named texts ds types heads homes d kept left i x (tree.text_at texts x.name) (held i x e) refl)

  own : AllOwn (homes_view texts types homes)
  own = subst AllOwn (sym left.homes_left) (methods_own ds)

  own_back : (c j m : ℕ) → slice_get (own_at (slice_get homes.class_methods c)) j ≡ Some m
      → (y : Method) × (slice_get d.tables.methods m ≡ Some y) × (y.owner ≡ InClass c)
  own_back c j m e = let b = own.back c j m e in by b.0 (view_at (method_view texts types) homes.making.methods m b.0 b.1) b.2
    where
      by : (t : MethodView) → Viewed (method_view texts types) homes.making.methods m t → t.owner ≡ InClass c
          → (y : Method) × (slice_get d.tables.methods m ≡ Some y) × (y.owner ≡ InClass c)
      by t (viewed y q v) o = (y, method_there texts ds types heads homes d kept left m y q, ap (λ z. z.owner) v ∙ o)

  pub inherits : (c s m : ℕ) → dispatch d.tables c s ≡ Some m → Inherited d.tables c s m
  inherits c s m e = by (slice_get d.tables.classes c) refl e
    where
      by : (o : Option Class) → slice_get d.tables.classes c ≡ o → find_selector d.tables (methods_in o) s ≡ Some m → Inherited d.tables c s m
      by None q f = cc
      by (Some k) q f =
          let z = class_is texts types homes (length_of ds) heads.class_names (map (above_number texts heads.classes) heads.above) d.tables left.built
          (close texts ds types heads homes d kept left) c k q in
          let r = along d.tables s homes.class_methods own_back (λ i b y g o. own.forth i b (method_view texts types y) (seen i y g) o)
          (chain_at (length_of ds) (map (above_number texts heads.classes) heads.above) c) m
          (sym (ap (λ x. find_selector d.tables x.methods s) z) ∙ f) in
          (k, r.method, r.class, q, r.there, r.owner, r.selector, subst (λ x. DeclaresFirst d.tables x.above s r.class) (sym z) r.first)

  -- ---- what can be called

  pub targets : (t : Target) (g : Signature) → signature_of d.tables t ≡ Some g → Stands homes.targets t
  targets (Run m) g e = by (slice_get d.tables.methods m) refl e
    where
      by : (o : Option Method) → slice_get d.tables.methods m ≡ o → method_signature o ≡ Some g → Stands homes.targets (Run m)
      by None q f = cc
      by (Some y) q f = own.runs m (method_view texts types y) (seen m y q)
  targets (Construct c) g e = by (slice_get d.tables.classes c) refl e
    where
      by : (o : Option Class) → slice_get d.tables.classes c ≡ o → making_signature c o ≡ Some g → Stands homes.targets (Construct c)
      by None q f = cc
      by (Some k) q f =
          own.makes c
          (let h = class_here c k q in
          let n = (fields texts ds types heads homes d kept left).class_count ∙ length-map (class_list ds) (λ e. (e.0, e.1.members)) in
          let m = sym (length-map heads.class_names (tree.text_at texts)) ∙ ap length (listed texts ds types heads homes d kept left).class_names
          ∙ length-map (class_list ds) (λ e. e.0) in
          omega (arith, h, n, m))
  targets (Start k) g e = by (slice_get d.tables.components k) refl e
    where
      by : (o : Option ℕ) → slice_get d.tables.components k ≡ o → start_signature k o ≡ Some g → Stands homes.targets (Start k)
      by None q f = cc
      by (Some y) q f =
          own.starts k
          (let h = slice_get_within d.tables.components k y q in
          let n = (fields texts ds types heads homes d kept left).component_count in
          let m = ap length left.component_table ∙ sym (length-map heads.component_names (tree.text_at texts))
          ∙ ap length (listed texts ds types heads homes d kept left).component_names ∙ length-map (component_list ds) (λ e. e.0) in
          omega (arith, h, n, m))
