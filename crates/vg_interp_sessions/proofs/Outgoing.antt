-- What was put of calls from outside and of the idle loop.
use Rattle.std.proofs.Common.{◌≡◌, ℕ, ◌+◌, ◌∷◌, ap, sym, ◌∙◌, subst}
use Rattle.vg_meaning.specs.declared.event.Event.TheVariants.{Enter}
use Rattle.vg_meaning.specs.History.{depth_alone}
use Rattle.vg_meaning.specs.Outside.{with_event}
use Rattle.vg_meaning.specs.World.{World}
use Rattle.vg_meaning.specs.Answer.{Answer, Gives, Piece, and_then, go_on}
use Rattle.vg_meaning_laws.specs.Grows.{trace_of, Grows}
use Rattle.vg_meaning.specs.Interrupts.{idles, interrupt_from, take_interrupt}
use Rattle.vg_core.specs.declared.program.Target.{Target}
use Rattle.vg_core.specs.declared.value.CoreValue.TheVariants.{Null}
use Rattle.vg_core.specs.Meaning.{taking}
use Rattle.vg_core.specs.Program.{Program}
use Rattle.vg_core.specs.Session.{call_alone, handle}
use Rattle.vg_core.specs.State.{State}
use Rattle.vg_recorded.proofs.Runs.{grows_forgotten, grows_idling}
use Rattle.vg_outlet.specs.Puts.{Moment, PutsOf}
use Rattle.vg_interp.specs.Running.{calling}
use Rattle.vg_interp.proofs.Outgoing.{of_first, of_start, then_first, then_same}
use Rattle.vg_interp_sessions.proofs.Ends.{idles_on}

-- what was put of a call, and its value is forgotten
pub of_call : (m o : Moment) (p : Program) (most : ℕ) (t : Target) (s : State) (w : World ℕ) → most ≡ w.clock
    → PutsOf m o (trace_of (calling p most t 0 Null s w)) → PutsOf m o (trace_of (call_alone depth_alone p t s w))
of_call m o p most t s w e h =
    of_first m o (calling p w.clock t 0 Null s w) (taking (λ v. go_on)) grows_forgotten
    (subst (λ n. PutsOf m o (trace_of (calling p n t 0 Null s w))) e h)

-- an interrupt and those behind it only add to the trace
pub grows_taking : (p : Program) → Grows (take_interrupt (handle depth_alone p))
grows_taking p = grows_idling depth_alone p 0

-- main, and the interrupts behind it
pub of_main : (m o : Moment) (p : Program) (t : Target) (n : ℕ) (s : State) (w : World ℕ) → PutsOf m o (trace_of (call_alone depth_alone p t s w))
    → PutsOf m o (trace_of (and_then (call_alone depth_alone p t s w) (idles n (handle depth_alone p))))
of_main m o p t n s w h = of_first m o (call_alone depth_alone p t s w) (idles n (handle depth_alone p)) (grows_idling depth_alone p n) h

pub then_idle : (k m o : Moment) (p : Program) (t : Target) (n : ℕ) (s u : State) (w v : World ℕ) → call_alone depth_alone p t s w ≡ Gives u v
    → PutsOf k m (trace_of (call_alone depth_alone p t s w)) → PutsOf m o (trace_of (idles n (handle depth_alone p) u v))
    → PutsOf k o (trace_of (and_then (call_alone depth_alone p t s w) (idles n (handle depth_alone p))))
then_idle k m o p t n s u w v e h i =
    let go : Piece State ℕ = idles n (handle depth_alone p) in
    then_same k m o (and_then (call_alone depth_alone p t s w) go) (go u v) (ap (λ a. and_then a go) e) (of_main k m p t n s w h) i

-- a turn of the idle loop
pub then_taken : (k m o : Moment) (p : Program) (a : Answer State ℕ) (n left : ℕ) (s : State) (w : World ℕ) → a ≡ idles n (handle depth_alone p) s w
    → n ≡ left + 1 → PutsOf k m (trace_of a) → PutsOf m o (trace_of (take_interrupt (handle depth_alone p) s w)) → PutsOf k o (trace_of a)
then_taken k m o p a n left s w e fewer h i =
    then_first k m o a (take_interrupt (handle depth_alone p) s w) (idles left (handle depth_alone p)) (e ∙ idles_on n left (handle depth_alone p) s w fewer)
    (grows_idling depth_alone p left) h i

-- an interrupt that was taken, and its handler
pub then_vector : (k m o : Moment) (p : Program) (s : State) (w v : World ℕ) (vector : ℕ) → w.outside.interrupts ≡ vector ∷ v.outside.interrupts
    → v ≡ record w { outside = with_event (record w.outside { interrupts = v.outside.interrupts }) (Enter vector) } → PutsOf k m w.outside.trace
    → PutsOf m o (trace_of (handle depth_alone p vector s v)) → PutsOf k o (trace_of (take_interrupt (handle depth_alone p) s w))
then_vector k m o p s w v vector e is h i =
    let go : ℕ → Piece State ℕ = handle depth_alone p in
    then_same k m o (take_interrupt go s w) (go vector s v) (ap (λ xs. interrupt_from xs go s w) e ∙ ap (go vector s) (sym is))
    (of_start k m (take_interrupt go) s w (grows_taking p) h) i
