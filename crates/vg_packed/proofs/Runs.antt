-- Calls and initialisation keep scalars in their ranges.
use Rattle.std.proofs.Common.{◌≡◌, refl, sym, subst, ◌∙◌, arith, ℕ, zero, suc, ◌<◌, ◌^◌, ◌==◌, Bool, true, false, List, [], ◌∷◌, ◌++◌, length, map, take}
use Rattle.std.proofs.Common.{Some, slice_get}
use Rattle.std.proofs.lemmas.List.{length-map}
use Rattle.vg_meaning.specs.History.{Recorder, no_history, full}
use Rattle.vg_meaning.specs.Answer.{OutOfRoom, Breaks, Continues, Returns, Over, Answer, Gives, Ends, Piece, passes, unless}
use Rattle.vg_meaning.specs.Calls.{returned}
use Rattle.vg_meaning.specs.Code.{Code, Nothing, Then, Do, If, Loop, Break, Continue, Return, performed}
use Rattle.vg_source.specs.Session.{starting_world}
use Rattle.vg_core.specs.declared.types.CoreType.{CoreType}
use Rattle.vg_core.specs.declared.types.CoreType.TheVariants.{CharType}
use Rattle.vg_core.specs.declared.value.CoreValue.{CoreValue}
use Rattle.vg_core.specs.declared.value.CoreValue.TheVariants.{Char, Null}
use Rattle.vg_core.specs.declared.heap.Heap.{Heap}
use Rattle.vg_core.specs.declared.program.Target.{Target}
use Rattle.vg_core.specs.declared.program.Target.TheVariants.{Start}
use Rattle.vg_core.specs.declared.step.Step.{Step}
use Rattle.vg_core.specs.Heap.{default, stored_values}
use Rattle.vg_core.specs.Program.{Body, Program, Signature, signature_of, body_of}
use Rattle.vg_core.specs.Session.{Started, call_alone, literal_cell, first_heap, start_all, start_of, started, with_heap}
use Rattle.vg_core.specs.State.{State, are_of, onto, entered}
use Rattle.vg_core.specs.Typing.{WellFormed}
use Rattle.vg_core.specs.Meaning.{Caller, activity, back_in, called, put, run_body, step, truth, with_arguments}
use Rattle.vg_live.specs.Uses.{uses}
use Rattle.vg_packing.specs.Allowed.{IsSmall, AreSmall}
use Rattle.vg_placement.specs.Columns.{column_width}
use Rattle.vg_packed.specs.Plain.{IsRanged}
use Rattle.vg_packed.specs.Ranges.{AreBytes, AreItems, IsRangedStep, HaveRanges}
use Rattle.vg_packed.proofs.Keeping.{Held, Every, keeps_then, keeps_opened, keeps_returned, keeps_performed}
use Rattle.vg_packed.proofs.Ranged.{AllRanged, RangedCells, Ranged, ranged_drop, ranged_take, ranged_onto, ranged_chars, default_ranged, defaults_of_types}
use Rattle.vg_packed.proofs.Ranged.{defaults_ranged}
use Rattle.vg_packed.proofs.Steps.{Starts, K, KeepsCaller, pops, keeps_put, keeps_taking, keeps_found, keeps_checked, keeps_type, keeps_forgetting, keeps_step}

-- ---- what holds of all steps that stand in code

in_front : (xs ys : List Step) (i : ℕ) (s : Step) → slice_get xs i ≡ Some s → (j : ℕ) × (slice_get (xs ++ ys) j ≡ Some s)
in_front [] ys i s e = absurd (grind (arith, e))
in_front (x ∷ xs) ys zero s e = (0, e)
in_front (x ∷ xs) ys (suc i) s e = let r = in_front xs ys i s e in (suc r.0, r.1)

in_rear : (xs ys : List Step) (i : ℕ) (s : Step) → slice_get ys i ≡ Some s → (j : ℕ) × (slice_get (xs ++ ys) j ≡ Some s)
in_rear [] ys i s e = (i, e)
in_rear (x ∷ xs) ys i s e = let r = in_rear xs ys i s e in (suc r.0, r.1)

module _ (T : Step → Type 0) where
  abbrev Each : List Step → Type 0
  Each ss = (i : ℕ) (s : Step) → slice_get ss i ≡ Some s → T s

  front : (xs ys : List Step) → Each (xs ++ ys) → Each xs
  front xs ys h i s e = let r = in_front xs ys i s e in h r.0 s r.1

  rear : (xs ys : List Step) → Each (xs ++ ys) → Each ys
  rear xs ys h i s e = let r = in_rear xs ys i s e in h r.0 s r.1

  every_of : (c : Code Step) → Each (uses c) → Every T c
  every_of Nothing h = tt
  every_of (Then a b) h = (every_of a (front (uses a) (uses b) h), every_of b (rear (uses a) (uses b) h))
  every_of (Do s) h = h 0 s refl
  every_of (If a b) h = (every_of a (front (uses a) (uses b) h), every_of b (rear (uses a) (uses b) h))
  every_of (Loop a b c) h =
      let r = front (uses a ++ uses b) (uses c) h in
      (every_of a (front (uses a) (uses b) r), every_of b (rear (uses a) (uses b) r), every_of c (rear (uses a ++ uses b) (uses c) h))
  every_of Break h = tt
  every_of Continue h = tt
  every_of Return h = tt

-- ---- calls

module _ (p : Program) (ranges : HaveRanges p) {H : Type 0} where
  keeps_back : (t : CoreType) (count : ℕ) (s : State) → Ranged p.tables s → K {H = H} p.tables (back_in p.tables t count s)
  keeps_back t count s g =
      keeps_taking p.tables _ (λ v a. keeps_type p.tables t v _ (λ body w h. (
        record {
          values = (a, ranged_drop count s.values g.values);
          locals = g.locals;
          self = g.self;
          cells = h.0.cells;
          globals = h.0.globals;
        },
        h.1,
      )))

  keeps_body : (r : Recorder H) (call : Caller H) → KeepsCaller p.tables call → (g : Signature) (b : Body) (count : ℕ) (self : CoreValue)
      → Every (IsRangedStep p.tables) b.code → AreSmall b.others → IsSmall g.result → IsRanged self → K p.tables (run_body r p.tables call g b count self)
  keeps_body r call k g b count self every others result a s w h =
      keeps_then (Starts p.tables)
      (returned (performed r (step p.tables call) truth b.code (entered b count self s) w) (put (default g.result))) (back_in p.tables g.result count s)
      (keeps_returned (Starts p.tables) (performed r (step p.tables call) truth b.code (entered b count self s) w) (put (default g.result))
      (keeps_performed (Starts p.tables) (pops p.tables) (IsRangedStep p.tables) r (step p.tables call)
      (keeps_step p.tables ranges.fields call k) b.code every (entered b count self s) w begun)
      (keeps_put p.tables (default g.result) (default_ranged g.result result)))
      (keeps_back g.result count s h.0)
    where
      begun : Starts p.tables (entered b count self s) w.phase w.largest
      begun = (
        record {
          values = tt;
          locals = ranged_onto (take count s.values) (map default b.others) (ranged_take count s.values h.0.values) (defaults_of_types b.others others);
          self = a;
          cells = h.0.cells;
          globals = h.0.globals;
        },
        h.1,
      )

  keeps_arguments : (g : Signature) (count : ℕ) (f : Piece State H) → K p.tables f → K p.tables (with_arguments p.tables g count f)
  keeps_arguments g count f k =
      keeps_checked p.tables (length g.params == count) _
      (λ s1 w1 h1. keeps_checked p.tables (are_of p.tables s1.heap.cells (onto g.params []) (take count s1.values)) f k s1 w1 h1)

  keeps_called : (r : Recorder H) (n : ℕ) → KeepsCaller p.tables (called r p n)
  keeps_called r zero t count self a s w h = h
  keeps_called r (suc n) t count self a s w h =
      keeps_found p.tables (signature_of p.tables t) _ (λ g eg. keeps_found p.tables (body_of p t) _ (λ b eb. keeps_arguments g count _
      (keeps_opened (Starts p.tables) r (activity t) (run_body r p.tables (called r p n) g b count self)
      (keeps_body r (called r p n) (keeps_called r n) g b count self
      (every_of (IsRangedStep p.tables) b.code (λ i st e. ranges.steps t b i st eb e)) (ranges.others t b eb) (ranges.results t g eg) a)))) s w h

  keeps_alone : (r : Recorder H) (t : Target) → K p.tables (call_alone r p t)
  keeps_alone r t s w h = keeps_forgetting p.tables (called r p w.clock t 0 Null) (keeps_called r w.clock t 0 Null tt) s w h

  keeps_start : (r : Recorder H) (k : ℕ) (names : List ℕ) → K p.tables (start_all r p k names)
  keeps_start r k [] s w h = h
  keeps_start r k (name ∷ names) s w h =
      keeps_then (Starts p.tables) (call_alone r p (Start k) s w) (start_all r p (suc k) names) (keeps_alone r (Start k) s w h)
      (keeps_start r (suc k) names)

-- ---- the first heap

module _ (p : Program) (formed : WellFormed p.tables) (ranges : HaveRanges p) where
  chars : AreItems p.tables p.tables.char_type
  chars e q = let z : CharType ≡ e = let c : Some CharType ≡ Some e = sym formed.char_type ∙ q in cc in
      subst (λ t. IsSmall t × (0 < column_width t)) z (tt, omega arith)

  literals_ranged : (ls : List (List ℕ))
      → ((k : ℕ) (bytes : List ℕ) → slice_get ls k ≡ Some bytes → AreBytes bytes × (length bytes < 2 ^ 31))
      → RangedCells p.tables (map (literal_cell p.tables.char_type) ls)
  literals_ranged [] h = tt
  literals_ranged (bytes ∷ ls) h =
      let q = h 0 bytes refl in (
        (ranged_chars bytes q.0, (let l = length-map bytes Char in let b = q.1 in omega (arith, l, b)), chars),
        literals_ranged ls (λ k bs e. h (suc k) bs e),
      )

  first_ranged : Ranged p.tables (with_heap (first_heap p))
  first_ranged =
      record {
        values = tt;
        locals = tt;
        self = tt;
        cells = literals_ranged p.tables.literals ranges.literals;
        globals = defaults_ranged p.tables ranges.fields p.tables.globals;
      }

  abbrev Kept : Heap → Type 0
  Kept h = RangedCells p.tables h.cells × AllRanged h.globals

  given : {H : Type 0} (a : Answer State H) (h : Heap) → Held (Starts p.tables) a → start_of a ≡ Started h → Kept h
  given (Gives s w) h r e = let q : s.heap ≡ h = cc in subst Kept q (r.0.cells, r.0.globals)
  given (Ends (Over why) s w) h r e = absurd cc
  given (Ends Breaks s w) h r e = absurd cc
  given (Ends Continues s w) h r e = absurd cc
  given (Ends Returns s w) h r e = absurd cc

  pub started_kept : (clock : ℕ) (h : Heap) → started p clock ≡ Started h → RangedCells p.tables h.cells × AllRanged h.globals
  started_kept clock h e = by (passes (Some 60000) (stored_values (first_heap p))) e
    where
      by : (b : Bool) → start_of (unless b OutOfRoom (start_all full p 0 p.tables.components) (with_heap (first_heap p)) (starting_world no_history clock))
          ≡ Started h → Kept h
      by true f = absurd cc
      by false f =
          given (start_all full p 0 p.tables.components (with_heap (first_heap p)) (starting_world no_history clock)) h
          (keeps_start p ranges full 0 p.tables.components (with_heap (first_heap p)) (starting_world no_history clock) (first_ranged, refl)) f
