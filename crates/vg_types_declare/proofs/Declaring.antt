-- What the passes over declarations left is declared.
use Rattle.std.proofs.Common.{◌≡◌, ℕ, suc, ◌+◌, true, List, [], ◌∷◌, Option, None, length, map, refl, sym, ap, ◌∙◌, subst}
use Rattle.std.specs.Option.{option_map}
use Rattle.std.proofs.lemmas.List.{length-map}
use Rattle.vg_syntax.specs.Numbering.{count_nodes, numbered}
use Rattle.vg_tree.specs.declared.node.Node as held
use Rattle.vg_tree.specs.Held.{text_at, node_at, row_at}
use Rattle.vg_source.specs.Declared.{length_of}
use Rattle.vg_source.specs.Nodes.{literal_nodes, literals}
use Rattle.vg_types_interned.specs.declared.table.Types.{Types}
use Rattle.vg_types_interned.specs.Types.{AreNumbered}
use Rattle.vg_types_hierarchy.specs.Classes.{above_number, first_of, the_class}
use Rattle.vg_types_hierarchy.specs.Slots.{with_slot}
use Rattle.vg_types_heads.specs.declared.heads.Heads.{Heads}
use Rattle.vg_types_heads.specs.Heads.{heads_view, no_heads, with_heads}
use Rattle.vg_types_homes.specs.declared.homes.Homes.{Homes}
use Rattle.vg_types_homes.specs.Homes.{AreHomes, homes_view, no_view, with_declarations}
use Rattle.vg_types_literals.specs.declared.walk.Literals.{Literals}
use Rattle.vg_types_tables.specs.declared.declared.Declared.{Declared}
use Rattle.vg_types_tables.specs.Views.{declarations_at}
use Rattle.vg_types_tables.specs.Declares.{IsFormed, Declares}
use Rattle.vg_rules.specs.Signatures.{signatures_breach}
use Rattle.vg_types_inherited.specs.Dispatches.{Dispatches}
use Rattle.vg_types_declared.specs.Apart.{have_members, AreApart}
use Rattle.vg_types_declared.proofs.Parting.{parted, have_same}
use Rattle.vg_types_declare.proofs.Dispatching.{dispatches}
use Rattle.vg_types_declared.specs.Heads.{Agree}
use Rattle.vg_types_declared.specs.Lists.{class_list, Lists as Listed}
use Rattle.vg_types_declared.specs.Built.{IsBuilt}
use Rattle.vg_types_named.specs.Left.{Left}
use Rattle.vg_types_declared.specs.Named.{Keeps, IsLeft}
use Rattle.vg_types_declared.specs.Slots.{Slotted}
use Rattle.vg_types_declared.proofs.Picking.{agree}
use Rattle.vg_types_declared.proofs.Listing.{lists}
use Rattle.vg_types_declared.proofs.Slotting.{slotted}
use Rattle.vg_types_declared.proofs.Forming.{formed}
use Rattle.vg_types_declared.proofs.Naming.{members, close}
use Rattle.vg_types_declared.proofs.Looking.{names}
use Rattle.vg_types_declared.proofs.Owning.{owned}
use Rattle.vg_types_declared.proofs.Making.{params}
use Rattle.vg_types_declared.proofs.Numbered.{unnumbered}
use Rattle.vg_types_declare.specs.declared.parts.Others.{Others}
use Rattle.vg_types_declare.specs.declared.parts.Lists.{Lists}
use Rattle.vg_types_declare.specs.Made.{whole, AreHeads, IsMade, IsMoved}

-- ---- the row of declarations

count_of : (texts : List (List ℕ)) (i : ℕ) (ns : List held.Node) → length_of (numbered i (row_at texts ns)) ≡ length ns
count_of texts i [] = refl
count_of texts i (n ∷ ns) = ap suc (count_of texts (i + count_nodes (node_at texts n)) ns)

module _ (texts : List (List ℕ)) (root : held.Node) (nodes : List held.Node) (row : node_at texts root ≡ row_at texts nodes) where
  pub heads_same : with_heads (declarations_at texts root) no_heads ≡ with_heads (row_at texts nodes) no_heads
  heads_same = (unnumbered (node_at texts root)).heads 1 no_heads ∙ ap (λ n. with_heads n no_heads) row

  homes_same : with_declarations (declarations_at texts root) no_view ≡ with_declarations (row_at texts nodes) no_view
  homes_same = (unnumbered (node_at texts root)).homes 1 no_view ∙ ap (λ n. with_declarations n no_view) row

  length_same : length_of (declarations_at texts root) ≡ length nodes
  length_same = ap (λ n. length_of (numbered 1 n)) row ∙ count_of texts 1 nodes

  -- the classes of these declarations are numbered
  pub classes_numbered : (heads : Heads) → Keeps (declarations_at texts root) → heads_view texts heads ≡ with_heads (row_at texts nodes) no_heads
      → AreNumbered heads.classes
  classes_numbered heads kept left =
      let a = subst (Agree (declarations_at texts root)) (sym (left ∙ sym heads_same)) (agree (declarations_at texts root) kept.names kept.declared) in
      a.class_places.numbers

module _ (texts : List (List ℕ)) (root : held.Node) (nodes : List held.Node) (row : node_at texts root ≡ row_at texts nodes)
    (kept : Keeps (declarations_at texts root)) (types : Types) (numbers : List (Option ℕ)) (others : Others) (homes : Homes) (made : Lists)
    (found : Literals) (d : Declared) (are : AreHeads texts (row_at texts nodes) types.classes numbers others)
    (view : homes_view texts types homes ≡ with_declarations (row_at texts nodes) no_view) (sound : AreHomes texts types homes)
    (is_made : IsMade (length nodes) others.class_names numbers types homes made) (moved : IsMoved others types homes made found d)
    (at : found.nodes.keys ≡ literal_nodes (declarations_at texts root)) (bytes : found.texts ≡ literals (declarations_at texts root)) where
  abbrev pub heads : Heads
  heads = whole types.classes are.above others

  abbrev numbers_of : List (Option ℕ)
  numbers_of = map (above_number texts types.classes) are.above

  heads_left : heads_view texts heads ≡ with_heads (declarations_at texts root) no_heads
  heads_left = are.left ∙ sym (heads_same texts root nodes row)

  listed : Listed (declarations_at texts root) (heads_view texts heads)
  listed =
      subst (Listed (declarations_at texts root)) (sym heads_left)
      (lists (declarations_at texts root) (agree (declarations_at texts root) kept.names kept.declared))

  agrees : Agree (declarations_at texts root) (heads_view texts heads)
  agrees = subst (Agree (declarations_at texts root)) (sym heads_left) (agree (declarations_at texts root) kept.names kept.declared)

  count_above : length numbers_of ≡ length others.class_names
  count_above =
      length-map are.above (above_number texts types.classes) ∙ sym (length-map are.above (option_map (text_at texts)))
      ∙ ap length listed.above ∙ length-map (class_list (declarations_at texts root)) (λ e. e.1.above)
      ∙ sym (length-map (class_list (declarations_at texts root)) (λ e. e.0)) ∙ sym (ap length listed.class_names)
      ∙ length-map others.class_names (text_at texts)

  count_classes : length types.classes ≡ length others.class_names
  count_classes =
      sym (length-map types.classes (λ e. e.0)) ∙ ap length agrees.class_places.listed ∙ length-map others.class_names (text_at texts)

  built : IsBuilt types homes (length_of (declarations_at texts root)) others.class_names numbers_of d.tables
  built = record {
    above_count = count_above;
    class_count = count_classes;
    class_table = moved.class_table ∙ is_made.classes
        ∙ ap (λ n. first_of (the_class n others.class_names numbers homes.class_fields homes.class_methods homes.class_params) (length others.class_names))
        (sym (length_same texts root nodes row))
        ∙ ap (λ z. first_of (the_class (length_of (declarations_at texts root)) others.class_names z homes.class_fields homes.class_methods
        homes.class_params)
        (length others.class_names)) are.numbers_are;
    field_table = moved.field_table ∙ is_made.fields
        ∙ ap (λ z. map (with_slot z homes.class_fields) homes.making.fields) (sym moved.class_table);
    global_table = moved.global_table;
    method_table = moved.method_table;
    type_table = moved.type_table ∙ is_made.types_are;
    char_number = moved.char_number;
  }

  pub left : IsLeft texts (declarations_at texts root) types heads homes d
  left = record {
    heads_left = heads_left;
    homes_left = view ∙ sym (homes_same texts root nodes row);
    homes_sound = sound;
    type_classes = refl;
    built = built;
    component_table = moved.component_table;
    class_map = moved.class_map;
    component_map = moved.component_map;
    device_map = moved.device_map;
    register_maps = moved.register_maps;
    class_member_maps = moved.class_member_maps;
    component_member_maps = moved.component_member_maps;
  }

  tables_formed : IsFormed d.tables
  tables_formed =
      formed texts types homes d.tables (length_of (declarations_at texts root)) others.class_names numbers_of built
      (close texts (declarations_at texts root) types heads homes d kept left)
      (subst Slotted (sym left.homes_left) (slotted (declarations_at texts root))) sound

  pub declared : Declares texts root d
  declared =
      let n = names texts (declarations_at texts root) types heads homes d kept left in
      let m = members texts (declarations_at texts root) types heads homes d kept left in
      let o = owned texts (declarations_at texts root) types heads homes d kept left in
      record {
        classes = n.classes;
        class_names = n.class_names;
        class_found = n.class_found;
        components = n.components;
        component_names = n.component_names;
        devices = n.devices;
        registers = n.registers;
        members = m.of_class;
        member_is = o.of_class;
        component_members = m.of_component;
        component_member_is = o.of_component;
        params = params texts (declarations_at texts root) types heads homes d kept left;
        below = n.below;
        literal_nodes = moved.literal_nodes ∙ at;
        literals = moved.literal_table ∙ bytes;
        formed = tables_formed;
        type_numbers = moved.type_numbers ∙ sym (moved.type_table ∙ is_made.types_are);
      }

  pub all_left : Left texts (declarations_at texts root) d
  all_left = record { types = types; heads = heads; homes = homes; left = left; targets = moved.target_table }

  pub dispatched : signatures_breach (declarations_at texts root) (declarations_at texts root) ≡ None
      → have_members (row_at texts nodes) ≡ true → Dispatches texts root d
  dispatched kept_too shaped =
      dispatches texts root types heads homes d kept left
      (subst AreApart (sym left.homes_left)
      (parted (declarations_at texts root) kept_too (have_same 1 (node_at texts root) ∙ ap have_members row ∙ shaped)))
