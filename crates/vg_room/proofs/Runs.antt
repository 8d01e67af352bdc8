-- Calls and initialisation keep within the room.
use Rattle.std.proofs.Common.{◌≡◌, refl, subst, ℕ, zero, suc, ◌≤◌, ◌==◌, Bool, true, false, List, [], ◌∷◌, length, take, Some}
use Rattle.vg_meaning.specs.History.{Recorder, no_history, full}
use Rattle.vg_meaning.specs.Answer.{OutOfRoom, Breaks, Continues, Returns, Over, Answer, Gives, Ends, Piece, passes, unless}
use Rattle.vg_meaning.specs.Calls.{returned}
use Rattle.vg_meaning.specs.Code.{performed}
use Rattle.vg_source.specs.Session.{starting_world}
use Rattle.vg_core.specs.declared.types.CoreType.{CoreType}
use Rattle.vg_core.specs.declared.value.CoreValue.{CoreValue}
use Rattle.vg_core.specs.declared.value.CoreValue.TheVariants.{Null}
use Rattle.vg_core.specs.declared.heap.Heap.{Heap}
use Rattle.vg_core.specs.declared.program.Tables.{Tables}
use Rattle.vg_core.specs.declared.program.Target.{Target}
use Rattle.vg_core.specs.declared.program.Target.TheVariants.{Start}
use Rattle.vg_core.specs.Heap.{default, stored_values}
use Rattle.vg_core.specs.Program.{Body, Program, Signature, signature_of, body_of}
use Rattle.vg_core.specs.Session.{Started, call_alone, first_heap, start_all, start_of, started, with_heap}
use Rattle.vg_core.specs.State.{State, are_of, onto, entered}
use Rattle.vg_core.specs.Meaning.{Caller, activity, back_in, called, put, run_body, step, truth, with_arguments}
use Rattle.vg_room.proofs.Pieces.{Roomed, Keeps, keeps_then, keeps_opened, keeps_returned, keeps_performed}
use Rattle.vg_room.proofs.Steps.{KeepsCaller, not_past, keeps_taking, keeps_found, keeps_checked, keeps_type, keeps_forgetting, keeps_step}

module _ {H : Type 0} where
  keeps_back : (p : Tables) (t : CoreType) (count : ℕ) (s : State) → Keeps {H = H} (back_in p t count s)
  keeps_back p t count s = keeps_taking _ (λ v. keeps_type p t v _ (λ body w h. h))

  keeps_body : (r : Recorder H) (p : Tables) (call : Caller H) → KeepsCaller call → (g : Signature) (b : Body) (count : ℕ) (self : CoreValue)
      → Keeps (run_body r p call g b count self)
  keeps_body r p call k g b count self s w h =
      keeps_then (returned (performed r (step p call) truth b.code (entered b count self s) w) (put (default g.result))) (back_in p g.result count s)
      (keeps_returned (performed r (step p call) truth b.code (entered b count self s) w) (put (default g.result))
      (keeps_performed r (step p call) (keeps_step p call k) b.code (entered b count self s) w h) (λ s1 w1 h1. h1))
      (keeps_back p g.result count s)

  keeps_arguments : (p : Tables) (g : Signature) (count : ℕ) (f : Piece State H) → Keeps f → Keeps (with_arguments p g count f)
  keeps_arguments p g count f k =
      keeps_checked (length g.params == count) _
      (λ s1 w1 h1. keeps_checked (are_of p s1.heap.cells (onto g.params []) (take count s1.values)) f k s1 w1 h1)

  keeps_called : (r : Recorder H) (p : Program) (n : ℕ) → KeepsCaller (called r p n)
  keeps_called r p zero t count self s w h = h
  keeps_called r p (suc n) t count self s w h =
      keeps_found (signature_of p.tables t) _ (λ g. keeps_found (body_of p t) _ (λ b. keeps_arguments p.tables g count _
      (keeps_opened r (activity t) (run_body r p.tables (called r p n) g b count self)
      (keeps_body r p.tables (called r p n) (keeps_called r p n) g b count self)))) s w h

  keeps_alone : (r : Recorder H) (p : Program) (t : Target) → Keeps (call_alone r p t)
  keeps_alone r p t s w h = keeps_forgetting (called r p w.clock t 0 Null) (keeps_called r p w.clock t 0 Null) s w h

  keeps_start : (r : Recorder H) (p : Program) (k : ℕ) (names : List ℕ) → Keeps (start_all r p k names)
  keeps_start r p k [] s w h = h
  keeps_start r p k (name ∷ names) s w h =
      keeps_then (call_alone r p (Start k) s w) (start_all r p (suc k) names) (keeps_alone r p (Start k) s w h) (keeps_start r p (suc k) names)

-- a heap that is given keeps within the room, where the answer does
given : {H : Type 0} (a : Answer State H) (h : Heap) → Roomed a → start_of a ≡ Started h → stored_values h ≤ 60000
given (Gives s w) h r e = subst (λ z. stored_values z ≤ 60000) (let q : s.heap ≡ h = cc in q) r.1
given (Ends (Over why) s w) h r e = cc
given (Ends Breaks s w) h r e = cc
given (Ends Continues s w) h r e = cc
given (Ends Returns s w) h r e = cc

pub started_fits : (p : Program) (clock : ℕ) (h : Heap) → started p clock ≡ Started h → stored_values h ≤ 60000
started_fits p clock h e = by (passes (Some 60000) (stored_values (first_heap p))) refl e
  where
    by : (b : Bool) → passes (Some 60000) (stored_values (first_heap p)) ≡ b
        → start_of (unless b OutOfRoom (start_all full p 0 p.tables.components) (with_heap (first_heap p)) (starting_world no_history clock)) ≡ Started h
        → stored_values h ≤ 60000
    by true q f = cc
    by false q f =
        given (start_all full p 0 p.tables.components (with_heap (first_heap p)) (starting_world no_history clock)) h
        (keeps_start full p 0 p.tables.components (with_heap (first_heap p)) (starting_world no_history clock) (refl, not_past _ q)) f
