-- A program of constants makes nothing, has one live method and no other live member, and needs no bytes.
use Rattle.std.specs.Prelude.{ℕ, ◌+◌, ◌&&◌, Bool, true, false, List, [], ◌∷◌, Some, None, if◌then◌else◌, bytes_eq}
use Rattle.std.proofs.Common.{◌≡◌, inl, arith, zero, suc, refl, sym, ap, ◌∙◌, subst, slice_get}
use Rattle.std.proofs.lemmas.Slice.Eq.{bytes_eq-Decides}
use Rattle.vg_syntax.specs.Tree.{Spot, Node}
use Rattle.vg_syntax.specs.Tree as tree
use Rattle.vg_source.specs.Names.{Name}
use Rattle.vg_source.specs.Types.{NoType}
use Rattle.vg_source.specs.Values.{Heap, default}
use Rattle.vg_source.specs.Values.{Value}
use Rattle.vg_source.specs.Steps.{Step, Put, SetRegister, ComponentMethod, CallComponent, Target, Method, Routine, Handler, Source}
use Rattle.vg_source.specs.Resolved.{InComponent, Fresh, no_names, resolved}
use Rattle.vg_source.specs.Program.{routine_of, source_of, main_of, handlers_in}
use Rattle.vg_source_laws.proofs.MoreClock.{one_heap}
use Rattle.vg_source.specs.Session.{Started, started}
use Rattle.vg_live_source.specs.Uses.{steps_in, steps_of, uses, component_method}
use Rattle.vg_live_source.specs.Members.{Member, Place, OfComponent, OfObject, OfArray, value_at}
use Rattle.vg_live_source.specs.Members as member
use Rattle.vg_live_source.specs.Rules.{Closed, Live}
use Rattle.vg_live_source.specs.Rules as rules
use Rattle.vg_live_source.specs.Least.{least}
use Rattle.vg_live_source.specs.Making.{least_made, made_in}
use Rattle.vg_first_text.specs.declared.device_write.DeviceWrite.{DeviceWrite}
use Rattle.vg_first_text.specs.FirstText.{First, FirstFits, IsFirst, writes_of}
use Rattle.vg_first_laws.specs.Trees.{assignment_row, empty_heap, first_declarations, first_tree}
use Rattle.vg_first_laws.proofs.Runs.{writes_code}
use Rattle.vg_first_laws.proofs.Means.{text_starts}
use Rattle.vg_first_laws.proofs.Names.{assignments_are, device_is, no_component, no_member, same_itself}
use Rattle.vg_first_laws.proofs.Placed.{tree_is_placed}
use Rattle.vg_faults.specs.Judged.{IsLegal}
use Rattle.vg_faults.specs.Living.{IsFirm}
use Rattle.vg_faults.specs.Fitting.{IsFitting}
use Rattle.vg_static_source.specs.Sums.{Tells, IsStatic, AreTables}
use Rattle.vg_calls_source.specs.Bounds.{HasNoCycle, IsSpent}
use Rattle.vg_calls_source.specs.Calls.{Calls}
use Rattle.vg_calls_source.specs.Calls as calls
use Rattle.vg_calls_source.specs.Methods.{MethodName}
use Rattle.vg_first_needs.specs.Calls.{NeedsFour}

-- writes make nothing
quiet : (ws : List DeviceWrite) → least_made (uses (writes_code ws)) ≡ None
quiet [] = refl
quiet (w ∷ ws) = quiet ws

of_found : (b : Bool) (r : Routine) → least_made (uses r.body) ≡ None → least_made (steps_in (if b then Some r else None)) ≡ None
of_found true r e = e
of_found false r e = refl

true_false : true ≡ false → ⊥
true_false e = cc

one_step : (s t : Step) → Some s ≡ Some t → s ≡ t
one_step s t e = cc

no_step : (s : Step) → None ≡ Some s → ⊥
no_step s e = cc

no_value : (v : Value) → None ≡ Some v → ⊥
no_value v e = cc

no_name : (c : Name) → None ≡ Some c → ⊥
no_name c e = cc

no_handler : (e : Handler) → None ≡ Some e → ⊥
no_handler e q = cc

no_method : (y : Member) → None ≡ Some y → ⊥
no_method y e = cc

-- the steps of writes put values and set registers
abbrev is_plain : Step → Bool
is_plain (Put v) = true
is_plain (SetRegister address) = true
is_plain _ = false

plain_steps : (ws : List DeviceWrite) (i : ℕ) (s : Step) → slice_get (uses (writes_code ws)) i ≡ Some s → is_plain s ≡ true
plain_steps [] i s e = absurd (no_step s e)
plain_steps (w ∷ ws) zero s e = ap is_plain (sym (one_step _ s e))
plain_steps (w ∷ ws) (suc zero) s e = ap is_plain (sym (one_step _ s e))
plain_steps (w ∷ ws) (suc (suc i)) s e = plain_steps ws i s e

plain_found : (b : Bool) (r : Routine) → ((i : ℕ) (s : Step) → slice_get (uses r.body) i ≡ Some s → is_plain s ≡ true)
    → (i : ℕ) (s : Step) → slice_get (steps_in (if b then Some r else None)) i ≡ Some s → is_plain s ≡ true
plain_found true r h i s e = h i s e
plain_found false r h i s e = absurd (no_step s e)

-- they name no method
names_none : (s : Step) (y : Member) → is_plain s ≡ true → component_method s ≡ Some y → ⊥
names_none (ComponentMethod c m) y e q = true_false (sym e)
names_none (CallComponent c m count) y e q = true_false (sym e)
names_none _ y e q = no_method y q

-- the empty heap holds nothing
empty_place : (x : Place) (v : Value) → value_at empty_heap x ≡ Some v → ⊥
empty_place (OfComponent c f) v e = no_value v e
empty_place (OfObject k c f) v e = no_value v e
empty_place (OfArray k i) v e = no_value v e

both : (a b : Bool) → (a && b) ≡ true → (a ≡ true) × (b ≡ true)
both true b e = (refl, e)
both false b e = absurd (true_false (sym e))

module _ (at : ℕ → Spot) (device program : ℕ) (f : First) (fits : FirstFits f) where
  abbrev ds : Node
  ds = first_declarations at device program f

  -- the one method
  abbrev main : Routine
  main =
      routine_of (Method f.component f.method) 0 (default NoType)
      (resolved ds (InComponent f.component) (tree.Block (at 3) (assignment_row at 4 f.assignments)) Fresh no_names)

  body_is : main.body ≡ writes_code (writes_of f)
  body_is =
      assignments_are at ds f.component f.device (device + 1) f.registers (no_member at device program f fits) (no_component at device program f fits)
      (device_is at device program f fits) fits.registers 4 f.assignments fits.assignments

  nothing_made : (c m : Name) → made_in (source_of (first_tree at device program f)) c m ≡ None
  nothing_made c m =
      of_found (bytes_eq f.component c && bytes_eq f.method m) main (ap (λ b. least_made (uses b)) body_is ∙ quiet (writes_of f))

  -- ---- what is live

  abbrev text : Source
  text = source_of (first_tree at device program f)

  main_target : text.main ≡ Method f.component f.method
  main_target =
      ap (λ key. main_of (tree.Then (tree.EntryDecl (at (program + 1)) key f.entry_component f.entry_method) tree.Nothing)) fits.names.key
      ∙ ap (λ x. Method x f.entry_method) fits.names.component ∙ ap (λ x. Method f.component x) fits.names.method

  no_handlers : text.handlers ≡ []
  no_handlers = ap (λ key. handlers_in (tree.Then (tree.EntryDecl (at (program + 1)) key f.entry_component f.entry_method) tree.Nothing)) fits.names.key

  -- the one method, and no other member
  abbrev is_main : Member → Bool
  is_main (member.Method c m) = bytes_eq f.component c && bytes_eq f.method m
  is_main _ = false

  abbrev is_target : Target → Bool
  is_target (Method c m) = bytes_eq f.component c && bytes_eq f.method m
  is_target _ = false

  all_plain : (c m : Name) (i : ℕ) (s : Step) → slice_get (steps_of text c m) i ≡ Some s → is_plain s ≡ true
  all_plain c m =
      plain_found (bytes_eq f.component c && bytes_eq f.method m) main
      (λ i s e. plain_steps (writes_of f) i s (ap (λ b. slice_get (uses b) i) (sym body_is) ∙ e))

  main_is_one : (c m : Name) → text.main ≡ Method c m → is_main (member.Method c m) ≡ true
  main_is_one c m e =
      ap is_target (sym e) ∙ ap is_target main_target ∙ ap (λ b. b && bytes_eq f.method f.method) (same_itself f.component) ∙ same_itself f.method

  closed : Closed text empty_heap (λ y. is_main y ≡ true)
  closed _ _ _ _ (rules.main {c} {m} e) a b = main_is_one c m e
  closed _ _ _ _ (rules.entry i {e} q t) a b = absurd (no_handler e (ap (λ hs. slice_get hs i) (sym no_handlers) ∙ q))
  closed y _ _ _ (rules.of_component i s {c} {m} es q) a b = absurd (names_none s y (all_plain c m i s es) q)
  closed _ _ _ _ (rules.of_object i s x d es q ec eb ed) a b = absurd (no_name d ec)
  closed _ _ _ _ (rules.component_field i {c} {m} es) a b = absurd (true_false (sym (all_plain c m i _ es)))
  closed _ _ _ _ (rules.class_field i p {c} {m} es) a b = absurd (true_false (sym (all_plain c m i _ es)))
  closed _ _ _ _ (rules.in_component v {c = d} {f = g} e q) a b = absurd (empty_place (OfComponent d g) v e)
  closed _ _ _ _ (rules.in_delegate x v e q) a b = absurd (empty_place x v e)
  closed _ _ _ _ (rules.in_object v {c = d} {f = g} {o = o} e q) a b = absurd (empty_place (OfObject o d g) v e)
  closed _ _ _ _ (rules.in_array i v {a = k} e q) a b = absurd (empty_place (OfArray k i) v e)
  closed _ _ _ _ (rules.literal i {c} {m} es) a b = absurd (true_false (sym (all_plain c m i _ es)))

  main_live : (c m : Name) → (bytes_eq f.component c ≡ true) × (bytes_eq f.method m ≡ true) → Live text empty_heap (Some (member.Method c m))
  main_live c m (e, g) =
      rules.by
      (rules.main (main_target ∙ ap (λ x. Method x f.method) ((bytes_eq-Decides f.component c).0 e) ∙ ap (Method c) ((bytes_eq-Decides f.method m).0 g)))
      rules.none rules.none

  one_live : (y : Member) → is_main y ≡ true → Live text empty_heap (Some y)
  one_live (member.Method c m) e = main_live c m (both (bytes_eq f.component c) (bytes_eq f.method m) e)
  one_live (member.Field c x) e = absurd (true_false (sym e))
  one_live (member.Cell k) e = absurd (true_false (sym e))

  tells : Tells text empty_heap is_main
  tells y = (one_live y, λ a. least text empty_heap (λ z. is_main z ≡ true) closed (Some y) a)

  no_static : IsStatic (first_tree at device program f) empty_heap 0
  no_static = (is_main, tells, refl)

  no_tables : AreTables (first_tree at device program f) empty_heap 0
  no_tables = (is_main, tells, refl)

  -- ---- calls

  calls_nothing : (m n : MethodName) → Calls (first_tree at device program f) empty_heap m n → ⊥
  calls_nothing m _ (calls.of_component n count has) = true_false (sym (all_plain m.owner m.name has.place _ has.stands))
  calls_nothing m _ (calls.of_object n p c x count has finds) = true_false (sym (all_plain m.owner m.name has.place _ has.stands))
  calls_nothing m _ (calls.by_delegate n p count ps r has delegates types) = true_false (sym (all_plain m.owner m.name has.place _ has.stands))

  no_cycle : HasNoCycle (first_tree at device program f) empty_heap
  no_cycle [] is = is
  no_cycle (m ∷ []) ((call, rest), reached) = calls_nothing m m call
  no_cycle (m ∷ (n ∷ more)) ((call, rest), reached) = calls_nothing m n call

  abbrev main_name : MethodName
  main_name = record { owner = f.component; name = f.method }

  spent : IsSpent (first_tree at device program f) empty_heap 0
  spent = (main_name ∷ [], main_name, (inl main_target, refl), omega arith)

  pub few_calls : NeedsFour (first_tree at device program f) empty_heap
  few_calls = (no_cycle, (0, refl, spent))

-- a program of constants that starts does so to the empty heap
pub heap_is : (bytes : List ℕ) (clock : ℕ) (writes : List DeviceWrite) (t : Node) (heap : Heap) → IsLegal bytes t → IsFirst bytes writes
    → started (source_of t) clock ≡ Started heap → empty_heap ≡ heap
heap_is bytes clock writes t heap legal first starts =
    one_heap (source_of t) 1 clock empty_heap heap (text_starts bytes writes t first legal.reads 0) starts

-- it needs no bytes
pub static_of : (bytes : List ℕ) (clock : ℕ) (writes : List DeviceWrite) (t : Node) (heap : Heap) → IsLegal bytes t → started (source_of t) clock ≡ Started heap
    → IsFirst bytes writes → IsStatic t heap 0
static_of bytes clock writes t heap legal starts first =
    let (at, device, program, is) = tree_is_placed bytes writes t first legal.reads in
    subst (λ h. IsStatic t h 0) (heap_is bytes clock writes t heap legal first starts)
    (subst (λ u. IsStatic u empty_heap 0) (sym is) (no_static at device program first.first first.fits))

pub tables_of : (bytes : List ℕ) (clock : ℕ) (writes : List DeviceWrite) (t : Node) (heap : Heap) → IsLegal bytes t → started (source_of t) clock ≡ Started heap
    → IsFirst bytes writes → AreTables t heap 0
tables_of bytes clock writes t heap legal starts first =
    let (at, device, program, is) = tree_is_placed bytes writes t first legal.reads in
    subst (λ h. AreTables t h 0) (heap_is bytes clock writes t heap legal first starts)
    (subst (λ u. AreTables u empty_heap 0) (sym is) (no_tables at device program first.first first.fits))

-- its calls cost no more than four bytes are for
pub calls_of : (bytes : List ℕ) (clock : ℕ) (writes : List DeviceWrite) (t : Node) (heap : Heap) → IsLegal bytes t → started (source_of t) clock ≡ Started heap
    → IsFirst bytes writes → NeedsFour t heap
calls_of bytes clock writes t heap legal starts first =
    let (at, device, program, is) = tree_is_placed bytes writes t first legal.reads in
    subst (λ h. NeedsFour t h) (heap_is bytes clock writes t heap legal first starts)
    (subst (λ u. NeedsFour u empty_heap) (sym is) (few_calls at device program first.first first.fits))

-- a program of constants that starts makes nothing
pub firm_of : (bytes : List ℕ) (clock : ℕ) (writes : List DeviceWrite) (t : Node) (heap : Heap) → IsLegal bytes t → started (source_of t) clock ≡ Started heap
    → IsFirst bytes writes → IsFirm bytes clock t heap
firm_of bytes clock writes t heap legal starts first =
    let (at, device, program, is) = tree_is_placed bytes writes t first legal.reads in
    record {
      legal = legal;
      starts = starts;
      nothing = λ c m live. ap (λ u. made_in (source_of u) c m) is ∙ nothing_made at device program first.first first.fits c m;
    }

-- and what it needs fits
pub fitting_of : (bytes : List ℕ) (clock : ℕ) (writes : List DeviceWrite) (t : Node) (heap : Heap) → IsLegal bytes t → started (source_of t) clock ≡ Started heap
    → IsFirst bytes writes → IsFitting bytes clock t heap
fitting_of bytes clock writes t heap legal starts first =
    record {
      firm = firm_of bytes clock writes t heap legal starts first;
      static_bytes = 0;
      has_static = static_of bytes clock writes t heap legal starts first;
      fits = omega arith;
      table_bytes = 0;
      has_tables = tables_of bytes clock writes t heap legal starts first;
      tables_fit = omega arith;
    }
