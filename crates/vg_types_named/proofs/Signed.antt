-- The signatures of all that can be called are those that are written.
use Rattle.std.proofs.Common.{◌≡◌, ℕ, suc, ◌+◌, ◌<◌, List, [], ◌∷◌, ◌++◌, length, map, Option, Some, None, slice_get, refl, sym, ap, ◌∙◌, subst, arith}
use Rattle.std.specs.Option.{option_map}
use Rattle.std.proofs.lemmas.List.{append_assoc, length-map}
use Rattle.std.proofs.lemmas.Option.{slice_get-map, slice_get_within}
use Rattle.vg_syntax.specs.Tree.{TypeTree, Param, Node, Nothing, Then, ClassDecl, ComponentDecl, MethodDecl}
use Rattle.vg_syntax.specs.Classes.{ClassParts}
use Rattle.vg_tree.specs.Held as tree
use Rattle.vg_source.specs.Names.{Name}
use Rattle.vg_source.specs.Declared.{row_of, members_in, length_of}
use Rattle.vg_source.specs.Program.{constructor_in}
use Rattle.vg_core.specs.Naming.{component_name, owner_name, method_key}
use Rattle.vg_core.specs.declared.program.Owner.{Owner}
use Rattle.vg_core.specs.declared.program.Owner.TheVariants.{InClass, InComponent}
use Rattle.vg_types_interned.specs.declared.table.Types.{Types}
use Rattle.vg_types_members.specs.Members.{method_view}
use Rattle.vg_types_hierarchy.specs.Classes.{above_number, the_class}
use Rattle.vg_types_heads.specs.declared.heads.Heads.{Heads}
use Rattle.vg_types_homes.specs.declared.homes.Homes.{Homes}
use Rattle.vg_types_homes.specs.Homes.{homes_view}
use Rattle.vg_types_tables.specs.declared.declared.Declared.{Declared}
use Rattle.vg_types_tables.specs.Views.{naming}
use Rattle.vg_types_declared.specs.Lists.{class_list, component_list}
use Rattle.vg_types_declared.specs.Members.{row_from}
use Rattle.vg_types_declared.specs.Named.{Keeps, IsLeft}
use Rattle.vg_types_declared.proofs.Members.{row_written}
use Rattle.vg_types_declared.proofs.Forming.{Viewed, viewed, view_at, class_at}
use Rattle.vg_types_declared.proofs.Naming.{text_same, listed, close, row_same, view_same}
use Rattle.vg_types_declared.proofs.Making.{params}
use Rattle.vg_types_named.specs.Targets.{count_methods, targets_from, IsWritten, AreWritten, IsMade, IsStarted, AreSigned}
use Rattle.vg_types_named.proofs.Lists.{count_push}
use Rattle.vg_types_named.proofs.Targets.{written, WrittenIn, AllWritten, targets_made, methods_written}
use Rattle.vg_types_named.proofs.Tables.{class_there}

-- what stands first behind a list
pub at_behind : {A : Type 0} (xs : List A) (y : A) (ys : List A) (i : ℕ) → length xs ≡ i → slice_get (xs ++ y ∷ ys) i ≡ Some y
at_behind [] y ys i e = ap (slice_get (y ∷ ys)) (sym e)
at_behind (x ∷ xs) y ys i e = ap (slice_get (x ∷ (xs ++ y ∷ ys))) (sym e) ∙ at_behind xs y ys (length xs) refl

module _ (texts : List (List ℕ)) (ds : Node) (types : Types) (heads : Heads) (homes : Homes) (d : Declared) (kept : Keeps ds)
    (left : IsLeft texts ds types heads homes d) where
  -- ---- methods

  method_written : (o : Owner) (x n : Name) (ps : List Param) (t : TypeTree) (body : Node) (m : ℕ) → owner_name texts d.tables o ≡ x
      → slice_get (homes_view texts types homes).methods m ≡ Some (written o n ps t body) → IsWritten texts d o x n ps t m
  method_written o x n ps t body m q e = by (view_at (method_view texts types) homes.making.methods m (written o n ps t body) e)
    where
      by : Viewed (method_view texts types) homes.making.methods m (written o n ps t body) → IsWritten texts d o x n ps t m
      by (viewed y g v) =
          let h : slice_get d.tables.methods m ≡ Some y = ap (λ z. slice_get z m) left.built.method_table ∙ g in
          record {
            method = y;
            there = h;
            owner_is = ap (λ z. z.owner) v;
            owner_named = ap (λ z. (method_key texts d.tables z).owner) h ∙ ap (λ z. owner_name texts d.tables z.owner) v ∙ q;
            named = ap (λ z. (method_key texts d.tables z).name) h ∙ text_same texts y.name ∙ ap (λ z. z.name) v;
            params = row_same texts ds types heads homes d kept left y.params ∙ ap (λ z. row_from z.params) v ∙ sym (row_written ps);
            result = view_same texts ds types heads homes d kept left y.result ∙ ap (λ z. z.result) v;
          }

  all_of : (o : Owner) (x : Name) (m : ℕ) (ms : Node) → owner_name texts d.tables o ≡ x → WrittenIn (homes_view texts types homes).methods o m ms
      → AreWritten texts d o x m ms
  all_of o x m (Then (MethodDecl at n ps t body) rest) q w = (method_written o x n ps t body m q w.0, all_of o x (suc m) rest q w.1)
  all_of o x m (Then _ rest) q w = all_of o x m rest q w
  all_of o x m _ q w = tt

  -- ---- classes and components

  made : (x : Name) (p : ClassParts) (c : ℕ) → slice_get (class_list ds) c ≡ Some (x, p) → IsMade texts d x p.members c
  made x p c e =
      let k = class_at texts types homes (length_of ds) heads.class_names (map (above_number texts heads.classes) heads.above) d.tables left.built
      (close texts ds types heads homes d kept left) c within in
      let r = class_there texts ds types heads homes d kept left c within in
      let q : Some ((naming texts d).class c, r.0) ≡ Some (x, p) = sym r.2 ∙ e in
      record {
        class = the_class (length_of ds) heads.class_names (map (above_number texts heads.classes) heads.above) homes.class_fields homes.class_methods
            homes.class_params c;
        there = k;
        named = ap name_in q;
        params =
            params texts ds types heads homes d kept left c _ k ∙ ap (λ o. row_of (constructor_in (members_in o)).params) r.1
            ∙ ap (λ o. row_of (constructor_in (members_of o)).params) q;
      }
    where
      name_in : Option (Name × ClassParts) → Name
      name_in (Some e) = e.0
      name_in None = []

      members_of : Option (Name × ClassParts) → Node
      members_of (Some e) = e.1.members
      members_of None = Nothing

      within : c < length heads.class_names
      within =
          let h = slice_get_within (class_list ds) c (x, p) e in
          let n = sym (length-map heads.class_names (tree.text_at texts)) ∙ ap length (listed texts ds types heads homes d kept left).class_names
          ∙ length-map (class_list ds) (λ e. e.0) in
          omega (arith, h, n)

  started : (x : Name) (ms : Node) (k : ℕ) → slice_get (component_list ds) k ≡ Some (x, ms) → IsStarted texts d x k
  started x ms k e = by (view_at (tree.text_at texts) heads.component_names k x there)
    where
      there : slice_get (map (tree.text_at texts) heads.component_names) k ≡ Some x
      there =
          ap (λ z. slice_get z k) (listed texts ds types heads homes d kept left).component_names ∙ slice_get-map (λ e. e.0) (component_list ds) k
          ∙ ap (option_map (λ (e : Name × Node). e.0)) e

      by : Viewed (tree.text_at texts) heads.component_names k x → IsStarted texts d x k
      by (viewed y q v) =
          let h : slice_get d.tables.components k ≡ Some y = ap (λ z. slice_get z k) left.component_table ∙ q in
          record { name = y; there = h; named = ap (component_name texts) h ∙ text_same texts y ∙ v }

  -- ---- all declarations, behind those that are passed

  pub record Behind (es : List (Name × ClassParts)) (ks : List (Name × Node)) (rest : Node) (c k : ℕ) : Type 0 where
    pub classes : class_list ds ≡ es ++ class_list rest
    pub components : component_list ds ≡ ks ++ component_list rest
    pub class_count : length es ≡ c
    pub component_count : length ks ≡ k

  all_signed : (rest : Node) (es : List (Name × ClassParts)) (ks : List (Name × Node)) (c k m : ℕ) → Behind es ks rest c k
      → AllWritten (homes_view texts types homes).methods c k m rest → AreSigned texts d c k m rest
  all_signed (Then (ClassDecl at x above ms) rest) es ks c k m b w =
      let p : ClassParts = record { at = at; above = above; members = ms } in
      let e = made x p c (ap (λ z. slice_get z c) b.classes ∙ at_behind es (x, p) (class_list rest) c b.class_count) in (
        e,
        all_of (InClass c) x m ms e.named w.0,
        all_signed rest (es ++ (x, p) ∷ []) ks (suc c) k (m + count_methods ms) (record {
          classes = b.classes ∙ sym (append_assoc es ((x, p) ∷ []) (class_list rest));
          components = b.components;
          class_count = count_push es (x, p) ∙ ap suc b.class_count;
          component_count = b.component_count;
        }) w.1,
      )
  all_signed (Then (ComponentDecl at x ms) rest) es ks c k m b w =
      let e = started x ms k (ap (λ z. slice_get z k) b.components ∙ at_behind ks (x, ms) (component_list rest) k b.component_count) in (
        e,
        all_of (InComponent k) x m ms e.named w.0,
        all_signed rest es (ks ++ (x, ms) ∷ []) c (suc k) (m + count_methods ms) (record {
          classes = b.classes;
          components = b.components ∙ sym (append_assoc ks ((x, ms) ∷ []) (component_list rest));
          class_count = b.class_count;
          component_count = count_push ks (x, ms) ∙ ap suc b.component_count;
        }) w.1,
      )
  all_signed (Then _ rest) es ks c k m b w =
      all_signed rest es ks c k m (record {
        classes = b.classes;
        components = b.components;
        class_count = b.class_count;
        component_count = b.component_count;
      }) w
  all_signed _ es ks c k m b w = tt

  pub signed : AreSigned texts d 0 0 0 ds
  signed =
      all_signed ds [] [] 0 0 0 (record { classes = refl; components = refl; class_count = refl; component_count = refl })
      (subst (λ w. AllWritten w.methods 0 0 0 ds) (sym left.homes_left) (methods_written ds))

  pub targets : homes.targets ≡ targets_from 0 0 0 ds
  targets = ap (λ w. w.targets) left.homes_left ∙ targets_made ds
