-- The names of a program of constants stand for what its definition says. Each look-up is decided by the names that differ and those that
-- are the same, so that the tree is resolved to the writes; then the session is that of Runs, and the cost of main is counted over its rows.
use Rattle.std.specs.Prelude.{ℕ, zero, suc, ◌+◌, ◌-◌, ◌*◌, ◌&&◌, Bool, true, false, List, [], ◌∷◌, ◌++◌, length, map, flat_map, Option, Some, None, bytes_eq}
use Rattle.std.specs.Prelude.{if◌then◌else◌}
use Rattle.std.specs.List.{AllByRecursion}
use Rattle.std.proofs.Common.{◌≡◌, ◌≢◌, refl, sym, ap, ◌∙◌, arith}
use Rattle.std.proofs.Math.Nat.{max-zero}
use Rattle.std.proofs.lemmas.List.{length-map}
use Rattle.std.proofs.lemmas.Slice.Eq.{bytes_eq-Decides}
use Rattle.std.proofs.lemmas.Grind.{flat_map-append}
use Rattle.vg_syntax.specs.Hexadecimal.{hex_value}
use Rattle.vg_syntax.specs.Lexemes.{is_hexadecimal}
use Rattle.vg_first_text.specs.FirstText.{FirstAssignment, FirstRegister, First, IsByteNumber, IsAssignment, register_address, AreRegisters, FirstFits, write_of}
use Rattle.vg_first_text.specs.FirstText.{writes_of}
use Rattle.vg_syntax.specs.Tree.{Spot, Node, Then, EntryDecl}
use Rattle.vg_syntax.specs.Tree as tree
use Rattle.vg_meaning.specs.Code as code
use Rattle.vg_source.specs.Names.{Name}
use Rattle.vg_source.specs.Values.{Raw, default}
use Rattle.vg_source.specs.Types.{NoType}
use Rattle.vg_source.specs.Steps.{Method, Start, Routine, Source}
use Rattle.vg_source.specs.State.{of_count, find_routine, handler_of}
use Rattle.vg_source.specs.Literals.{decimal_behind, number_of, int_of, number_value}
use Rattle.vg_syntax.specs.Numbering.{count_nodes}
use Rattle.vg_meaning.specs.History.{Calling}
use Rattle.vg_first_text.specs.FirstSession.{main_cost, first_session}
use Rattle.vg_source.specs.Nodes.{nodes, literal_bytes, literals, local_node, count_locals}
use Rattle.vg_source.specs.Session.{activity}
use Rattle.vg_source.specs.Peak.{costs, most, peak, seen, sessions}
use Rattle.vg_source.specs.Declared.{AMethod, or_else, member_among, component_named, device_named, register_in, component_member}
use Rattle.vg_source.specs.Resolved.{InComponent, NoHead, Fresh, no_names, doing, settled, then_fresh, resolved}
use Rattle.vg_source.specs.Program.{routine_of, constructor_in, initialisation, main_of, handlers_in, source_of}
use Rattle.vg_first_laws.specs.Trees.{assignment_node, assignment_row, register_row, first_declarations, first_tree, empty_heap}
use Rattle.vg_first_laws.proofs.Runs.{write_code, writes_code, IsConstants, session_behind, session_does}

-- ---- names

pub same_itself : (x : Name) → bytes_eq x x ≡ true
same_itself x = (bytes_eq-Decides x x).1 refl

not_true : (b : Bool) → (b ≡ true → ⊥) → b ≡ false
not_true true h = absurd (h refl)
not_true false h = refl

pub not_same : (x y : Name) → x ≢ y → bytes_eq x y ≡ false
not_same x y h = not_true (bytes_eq x y) (λ e. h ((bytes_eq-Decides x y).0 e))

pub some_of : (o : Option ℕ) → o ≢ None → (n : ℕ) × (o ≡ Some n)
some_of (Some n) h = (n, refl)
some_of None h = absurd (h refl)

-- ---- registers

pub number_is : (digits : List ℕ) → is_hexadecimal digits ≡ true → number_of digits ≡ hex_value digits
number_is digits e = ap (λ b. if b then hex_value digits else decimal_behind 0 digits) e

found_register : (b : Bool) (m n : ℕ) (o p : Option ℕ) → m ≡ n → o ≡ p → or_else (if b then Some m else None) o ≡ (if b then Some n else p)
found_register true m n o p e h = ap Some e
found_register false m n o p e h = h

pub registers_in : (at : ℕ → Spot) (k : ℕ) (rs : List FirstRegister) (x : Name) → AreRegisters rs → register_in (register_row at k rs) x ≡ register_address rs x
registers_in at k [] x h = refl
registers_in at k (r ∷ rs) x (number, once, h) =
    found_register (bytes_eq r.name x) (number_of r.digits) (hex_value r.digits) (register_in (register_row at (k + 1) rs) x) (register_address rs x)
    (number_is r.digits number.hexadecimal) (registers_in at (k + 1) rs x h)

-- ---- assignments

byte_is : (digits : List ℕ) → IsByteNumber digits → number_value digits ≡ Raw 8 (hex_value digits)
byte_is digits h =
    ap (λ b. if b then Raw (4 * (length digits - 2)) (hex_value digits) else int_of (decimal_behind 0 digits)) h.hexadecimal ∙ ap
    (λ n. Raw (4 * (n - 2)) (hex_value digits)) h.two

module _ (at : ℕ → Spot) (ds : Node) (c d : Name) (k : ℕ) (rs : List FirstRegister)
    (no_member : component_member ds c d ≡ None) (no_component : component_named ds d ≡ None) (device : device_named ds d ≡ Some (register_row at k rs))
    (registers : AreRegisters rs) where
  pub assignment_is : (n : ℕ) (a : FirstAssignment) → IsAssignment d rs a
      → resolved ds (InComponent c) (assignment_node at n a) Fresh no_names ≡ doing (write_code (write_of rs a)) NoHead no_names
  assignment_is n a h =
      let some : (m : ℕ) × (register_address rs a.register ≡ Some m) = some_of (register_address rs a.register) h.register in
      let e1 : component_member ds c a.device ≡ None = ap (component_member ds c) h.device ∙ no_member in
      let e2 : component_named ds a.device ≡ None = ap (component_named ds) h.device ∙ no_component in
      let e3 : device_named ds a.device ≡ Some (register_row at k rs) = ap (device_named ds) h.device ∙ device in
      let e4 : register_in (register_row at k rs) a.register ≡ Some some.0 = registers_in at k rs a.register registers ∙ some.1 in
      let e5 : number_value a.digits ≡ Raw 8 (hex_value a.digits) = byte_is a.digits h.value in
      simp (e1, e2, e3, e4, e5, some.1) refl

  pub assignments_are : (n : ℕ) (rows : List FirstAssignment) → AllByRecursion (IsAssignment d rs) rows
      → (resolved ds (InComponent c) (assignment_row at n rows) Fresh no_names).does ≡ writes_code (map (write_of rs) rows)
  assignments_are n [] h = refl
  assignments_are n (a ∷ rows) (h, hs) =
      ap (λ m. (then_fresh (settled m) (resolved ds (InComponent c) (assignment_row at (n + 5) rows) Fresh)).does) (assignment_is n a h)
      ∙ ap (code.Then (write_code (write_of rs a))) (assignments_are (n + 5) rows hs)

-- ---- literals: there are none

abbrev Quiet : List Node → Type 0
Quiet xs = flat_map literal_bytes xs ≡ []

quiet_append : (xs ys : List Node) → Quiet xs → Quiet ys → Quiet (xs ++ ys)
quiet_append xs ys e h = flat_map-append literal_bytes xs ys ∙ ap (λ x. x ++ flat_map literal_bytes ys) e ∙ h

quiet_assignments : (at : ℕ → Spot) (n : ℕ) (rows : List FirstAssignment) → Quiet (nodes (assignment_row at n rows))
quiet_assignments at n [] = refl
quiet_assignments at n (a ∷ rows) = quiet_assignments at (n + 5) rows

quiet_registers : (at : ℕ → Spot) (n : ℕ) (rs : List FirstRegister) → Quiet (nodes (register_row at n rs))
quiet_registers at n [] = refl
quiet_registers at n (r ∷ rs) = quiet_registers at (n + 1) rs

-- ---- what the call of main costs

pub no_locals : (at : ℕ → Spot) (n : ℕ) (rows : List FirstAssignment) → flat_map local_node (nodes (assignment_row at n rows)) ≡ []
no_locals at n [] = refl
no_locals at n (a ∷ rows) = no_locals at (n + 5) rows

rows_size : (at : ℕ → Spot) (n : ℕ) (rows : List FirstAssignment) → count_nodes (assignment_row at n rows) ≡ 5 * length rows
rows_size at n [] = refl
rows_size at n (a ∷ rows) = ap (λ m. 5 + m) (rows_size at (n + 5) rows) ∙ omega arith

cost_is : (locals nodes n m : ℕ) → locals ≡ 0 → nodes ≡ 5 * n → m ≡ n → 32 + 4 * (0 + locals + (1 + (nodes + 0))) ≡ 32 + 4 * (1 + 5 * m)
cost_is locals nodes n m e h k = omega (arith, e, h, k)

module _ (at : ℕ → Spot) (device program : ℕ) (f : First) (fits : FirstFits f) where
  abbrev ds : Node
  ds = first_declarations at device program f

  abbrev text : Source
  text = source_of (first_tree at device program f)

  no_literals : literals ds ≡ []
  no_literals =
      quiet_append (nodes (assignment_row at 4 f.assignments) ++ []) _
      (quiet_append (nodes (assignment_row at 4 f.assignments)) [] (quiet_assignments at 4 f.assignments) refl)
      (quiet_append (nodes (register_row at (device + 1) f.registers)) _ (quiet_registers at (device + 1) f.registers) refl)

  abbrev members : Node
  members = Then (tree.MethodDecl (at 2) f.method [] tree.NoType (tree.Block (at 3) (assignment_row at 4 f.assignments))) tree.Nothing

  pub component_is : component_named ds f.component ≡ Some members
  component_is = ap (λ b. or_else (if b then Some members else None) None) (same_itself f.component)

  pub no_component : component_named ds f.device ≡ None
  no_component = ap (λ b. or_else (if b then Some members else None) None) (not_same f.component f.device (λ e. fits.names.device_component (sym e)))

  pub no_member : component_member ds f.component f.device ≡ None
  no_member =
      ap (λ o. member_among f.component o f.device) component_is
      ∙ ap (λ b. or_else (if b then Some (AMethod NoType NoType) else None) None) (not_same f.method f.device (λ e. fits.names.device_method (sym e)))

  pub device_is : device_named ds f.device ≡ Some (register_row at (device + 1) f.registers)
  device_is = ap (λ b. or_else (if b then Some (register_row at (device + 1) f.registers) else None) None) (same_itself f.device)

  abbrev start : Routine
  start = record (initialisation ds f.component members (constructor_in members)) { number = 0 }

  abbrev main : Routine
  main =
      routine_of (Method f.component f.method) 0 (default NoType)
      (resolved ds (InComponent f.component) (tree.Block (at 3) (assignment_row at 4 f.assignments)) Fresh no_names)

  start_is : find_routine text.routines (Start f.component) ≡ Some start
  start_is = ap (λ b. if b then Some start else find_routine (main ∷ []) (Start f.component)) (same_itself f.component)

  main_at : find_routine text.routines (Method f.component f.method) ≡ Some main
  main_at =
      ap (λ b. if b && bytes_eq f.method f.method then Some main else None) (same_itself f.component) ∙ ap (λ b. if b then Some main else None)
      (same_itself f.method)

  main_target : text.main ≡ Method f.component f.method
  main_target =
      ap (λ key. main_of (Then (EntryDecl (at (program + 1)) key f.entry_component f.entry_method) tree.Nothing)) fits.names.key
      ∙ ap (λ x. Method x f.entry_method) fits.names.component
      ∙ ap (λ x. Method f.component x) fits.names.method

  main_is : find_routine text.routines text.main ≡ Some main
  main_is = ap (find_routine text.routines) main_target ∙ main_at

  pub is_constants : IsConstants text (writes_of f)
  is_constants = record {
    component = f.component;
    literals = no_literals;
    globals = refl;
    components = refl;
    start = start;
    start_found = ap (of_count 0) start_is;
    start_does = λ call s w. refl;
    main = main;
    main_found = ap (of_count 0) main_is;
    main_body =
        assignments_are at ds f.component f.device (device + 1) f.registers no_member no_component device_is fits.registers 4 f.assignments fits.assignments;
    calls = ap (λ t. activity t 0) main_target;
    handlers =
        λ k. ap (λ key. handler_of (handlers_in (Then (EntryDecl (at (program + 1)) key f.entry_component f.entry_method) tree.Nothing)) k) fits.names.key;
  }

  -- ---- the peak

  abbrev body : Node
  body = tree.Block (at 3) (assignment_row at 4 f.assignments)

  costs_are : costs (first_tree at device program f) ≡ main_cost (writes_of f) ∷ []
  costs_are =
      ap (λ n. n ∷ [])
      (cost_is (count_locals body) (count_nodes (assignment_row at 4 f.assignments)) (length f.assignments) (length (writes_of f))
      (ap length (no_locals at 4 f.assignments)) (rows_size at 4 f.assignments) (length-map f.assignments (write_of f.registers)))

  abbrev tree_of : Node
  tree_of = first_tree at device program f

  -- at first no call was active; behind the one tick main alone was
  peak_is : (reads ints : List ℕ) (clock : ℕ)
      → peak tree_of (session_behind text (writes_of f) is_constants reads ints clock) ≡ (first_session (writes_of f) reads ints clock).peak
  peak_is reads ints zero = refl
  peak_is reads ints (suc n) =
      ap (λ cs. 4 + most cs ((Calling 0 ∷ []) ∷ [])) costs_are
      ∙ ap (λ m. 4 + m) (max-zero (main_cost (writes_of f) + 0) ∙ omega arith)

  pub sessions_are : (reads ints : List ℕ) (clock : ℕ) → sessions tree_of empty_heap reads ints clock ≡ first_session (writes_of f) reads ints clock
  sessions_are reads ints clock =
      ap (seen tree_of) (session_does text (writes_of f) is_constants reads ints clock)
      ∙ ap (λ n. record (first_session (writes_of f) reads ints clock) { peak = n }) (peak_is reads ints clock)
