-- An image agrees with the sessions of a text.
use Rattle.std.specs.Prelude.{ℕ, ◌+◌, ◌<◌, ◌≤◌, List, Some, None}
use Rattle.std.proofs.Common.{◌≡◌, ◌≢◌, inl, inr, refl, ap, ◌∙◌, arith}
use Rattle.vg_meaning.specs.declared.event.Event.{Event}
use Rattle.vg_meaning.specs.Ending as ending
use Rattle.vg_meaning.specs.History.{History, full, no_history}
use Rattle.vg_meaning.specs.Outside.{AreReads, AreVectors}
use Rattle.vg_meaning.specs.World.{World}
use Rattle.vg_meaning.specs.Answer.{End, Stops, Wants, Touches, Done, OutOfClock, OutOfDepth, OutOfRoom, Wrong, Breaks, Continues, Returns, Over}
use Rattle.vg_meaning.specs.Answer.{Signal, Answer, Gives, Ends}
use Rattle.vg_meaning.specs.Safe.{Alike}
use Rattle.vg_meaning_laws.specs.Spent.{Spent, ends}
use Rattle.avr_isa.specs.Agrees.{Agrees, FollowsSeen}
use Rattle.avr_isa.specs.declared.ending.MachineEnd.TheVariants as machine_end
use Rattle.avr_isa.specs.Cpu.{PowerOn, IsPowerOn}
use Rattle.avr_isa.specs.Machine.{State as MachineState, started, machine}
use Rattle.avr_view.specs.Run.{Run, Goes, Ended}
use Rattle.avr_view.specs.View.{Shown}
use Rattle.avr_view.proofs.SeenRuns.{follows_idle, follows_stop, follows_wants, follows_beyond}
use Rattle.vg_syntax.specs.Tree.{Node}
use Rattle.vg_source.specs.Peak.{costs, most, seen, sessions}
use Rattle.vg_source.specs.Program.{source_of}
use Rattle.vg_source.specs.Session as source
use Rattle.vg_source.specs.State as source_state
use Rattle.vg_source_laws.proofs.SpentClock.{spent_running}
use Rattle.vg_core.specs.declared.heap.Heap.{Heap}
use Rattle.vg_core.specs.Naming.{Naming, named_heap}
use Rattle.vg_core.specs.Program.{Program}
use Rattle.vg_core.specs.Session.{running}
use Rattle.vg_core.specs.State.{State}
use Rattle.vg_core.specs.Typing.{WellTyped}
use Rattle.vg_lin.specs.Follows.{IsLegal}
use Rattle.vg_sound.specs.Good.{HasTypedHeap}
use Rattle.vg_renamed.specs.IsNamed.{IsNamed}
use Rattle.vg_renamed.proofs.Calls.{alike_running}
use Rattle.vg_endings.proofs.Sessions.{typed_session_ends, typed_session_is_not_deep}
use Rattle.vg_peaks.specs.Peaks.{PassesPeak, DoesWithinPeak}
use Rattle.vg_memory.specs.Does.{DoesAsProgram}
use Rattle.vg_memory.specs.Holds.{HoldsPeaks}
use Rattle.vg_memory.specs.Whole.{with_whole}

-- what is alike to an answer that ends so ends so too, in the same world
pub alike_end : {S T : Type 0} (a : Answer S History) (why : Signal) (t : T) (w : World History) → Alike a (Ends why t w) → (s : S) × (a ≡ Ends why s w)
alike_end (Ends because s v) why t w (same, world) = (s, ap (λ z. Ends z s v) same ∙ ap (λ z. Ends why s z) world)
alike_end (Gives s v) why t w h = absurd h

-- a run that is out of clock has spent it
pub spent_all : {S : Type 0} (clock : ℕ) (t : S) (w : World History) → Spent clock (Ends (Over OutOfClock) t w) → w.clock ≡ 0
spent_all clock t w (ends le none) = none refl

pub all_spent : (clock left steps : ℕ) → left ≡ 0 → clock ≤ left + steps → clock ≤ steps
all_spent clock left steps e h = omega (arith, e, h)

-- in each run of the program, where its active calls and so many bytes beside them pass the stack by these costs of methods, they cost more than the stack by
-- those
abbrev pub IsDeepWhere : Program → Heap → (floor extra : ℕ) (by_method costs : List ℕ) (stack : ℕ) → Type 0
IsDeepWhere p h floor extra by_method cs stack =
    (reads interrupts : List ℕ) (clock : ℕ) (t : State) (w : World History) (why : End) → AreReads reads → AreVectors interrupts → IsLegal why
    → running full no_history p h None reads interrupts clock ≡ Ends (Over why) t w → 0x1100 < floor + (extra + most by_method w.history.behind_ticks)
    → stack < 4 + most cs w.history.behind_ticks

-- a stack that ends where SRAM does is passed where the peak reaches below its floor
passed : (floor stack peak : ℕ) → floor + stack ≡ 0x1100 → 0x1100 < floor + peak → stack < peak
passed floor stack peak e h = omega (arith, e, h)

deeper : (e : Run) (deep more : Type 0) (n : ℕ) (s : MachineState) (P : MachineState → Type 0) → (deep → more) → Goes e deep n s P → Goes e more n s P
deeper e deep more n s P f (inl c) = inl c
deeper e deep more n s P f (inr (d, sinks)) = inr (f d, sinks)

module _ (n : Naming) (p : Program) (text : Node) (named : IsNamed n p (source_of text)) (good : WellTyped p) (h : Heap) (typed : HasTypedHeap p.tables h)
    (e : Run) (stack : ℕ) (extra : ℕ) (by_method : List ℕ) (does : (whole : List Event) → DoesAsProgram (with_whole e whole) extra by_method p h)
    (deep : IsDeepWhere p h e.floor extra by_method (costs text) stack) (memory : PowerOn) (powered : IsPowerOn memory) (reads interrupts : List ℕ) (clock : ℕ) (bytes : AreReads reads) (vectors : AreVectors interrupts) where
  abbrev typed_answer : Answer State History
  typed_answer = running full no_history p h None reads interrupts clock

  abbrev Follows : source.Session → Type 0
  Follows s = FollowsSeen (machine e.flash memory reads interrupts) clock e.floor stack (seen text s)

  -- what is done where the run is over for this reason
  done : (why : End) → IsLegal why → (t : source_state.State) (w : World History) → Alike typed_answer (Ends (Over why) t w)
      → (steps : ℕ) × (clock ≤ w.clock + steps) × DoesWithinPeak (with_whole e w.outside.trace) extra by_method steps memory reads interrupts why w
  done why legal t w same =
      let (s, is) = alike_end typed_answer (Over why) t w same in
      does w.outside.trace memory powered clock None reads interrupts bytes vectors s w why legal is refl

  -- the run is deep only where its peak is more than the stack
  within : (why : End) → IsLegal why → (t : source_state.State) (w : World History) → Alike typed_answer (Ends (Over why) t w) → (steps : ℕ)
      (P : MachineState → Type 0)
      → Goes (with_whole e w.outside.trace) (PassesPeak (with_whole e w.outside.trace) extra by_method w.history) steps (started memory reads interrupts) P
      → Goes (with_whole e w.outside.trace) (stack < 4 + most (costs text) w.history.behind_ticks) steps (started memory reads interrupts) P
  within why legal t w same steps P g =
      let (s, is) = alike_end typed_answer (Over why) t w same in
      deeper (with_whole e w.outside.trace) _ _ steps (started memory reads interrupts) P (deep reads interrupts clock s w why bytes vectors legal is) g

  by : (b : Answer source_state.State History) → Alike typed_answer b → Spent clock b → (source.session_of b).ending ≢ None
      → (source.session_of b).ending ≢ Some ending.Deep → Follows (source.session_of b)
  by (Gives t w) same spent some high = absurd (some refl)
  by (Ends Breaks t w) same spent some high = absurd (some refl)
  by (Ends Continues t w) same spent some high = absurd (some refl)
  by (Ends Returns t w) same spent some high = absurd (some refl)
  by (Ends (Over Done) t w) same spent some high =
      let d = done Done tt t w same in
      follows_idle (with_whole e w.outside.trace) memory reads interrupts clock 0 stack (seen text (source.session_of (Ends (Over Done) t w))) refl w.outside refl
      refl (within Done tt t w same 0 (Ended (with_whole e w.outside.trace) machine_end.Idle w.outside) d.2)
  by (Ends (Over (Stops code at)) t w) same spent some high =
      let d = done (Stops code at) tt t w same in
      follows_stop (with_whole e w.outside.trace) memory reads interrupts clock 0 stack (seen text (source.session_of (Ends (Over (Stops code at)) t w))) refl
      w.outside code refl refl (within (Stops code at) tt t w same 0 (Ended (with_whole e w.outside.trace) (machine_end.Stop code) w.outside) d.2)
  by (Ends (Over (Wants address)) t w) same spent some high =
      let d = done (Wants address) tt t w same in
      follows_wants (with_whole e w.outside.trace) memory reads interrupts clock 0 stack (seen text (source.session_of (Ends (Over (Wants address)) t w))) refl
      w.outside address refl refl (within (Wants address) tt t w same 0 (Ended (with_whole e w.outside.trace) (machine_end.Wants address) w.outside) d.2)
  by (Ends (Over OutOfClock) t w) same spent some high =
      let d = done OutOfClock tt t w same in
      follows_beyond (with_whole e w.outside.trace) memory reads interrupts clock d.0 stack (seen text (source.session_of (Ends (Over OutOfClock) t w))) refl refl
      (all_spent clock w.clock d.0 (spent_all clock t w spent) d.1) (within OutOfClock tt t w same d.0 (Shown (with_whole e w.outside.trace) w.outside.trace) d.2)
  by (Ends (Over OutOfDepth) t w) same spent some high = absurd (high refl)
  by (Ends (Over (Touches address)) t w) same spent some high = absurd (some refl)
  by (Ends (Over OutOfRoom) t w) same spent some high = absurd (some refl)
  by (Ends (Over Wrong) t w) same spent some high = absurd (some refl)

  followed : Follows (source.session (source_of text) (named_heap n p.tables h) None reads interrupts clock)
  followed =
      by (source.running full no_history (source_of text) (named_heap n p.tables h) None reads interrupts clock)
      (alike_running n p (source_of text) named good full h typed.0 typed.1 no_history None reads interrupts clock)
      (spent_running full no_history (source_of text) (named_heap n p.tables h) None reads interrupts clock)
      (typed_session_ends n p (source_of text) named good h typed None reads interrupts clock)
      (typed_session_is_not_deep n p (source_of text) named good h typed reads interrupts clock)

pub agrees_by : (n : Naming) (p : Program) (text : Node) → IsNamed n p (source_of text) → WellTyped p → (h : Heap) → HasTypedHeap p.tables h
    → (e : Run) (stack extra : ℕ) (by_method : List ℕ) → ((whole : List Event) → DoesAsProgram (with_whole e whole) extra by_method p h)
    → IsDeepWhere p h e.floor extra by_method (costs text) stack → Agrees (sessions text (named_heap n p.tables h)) e.flash e.floor stack
agrees_by n p text named good h typed e stack extra by_method does deep = record {
  each = λ memory reads interrupts clock powered bytes vectors.
      followed n p text named good h typed e stack extra by_method does deep memory powered reads interrupts clock bytes vectors;
}

-- by the costs of the text, where the stack ends where SRAM does
pub agrees : (n : Naming) (p : Program) (text : Node) → IsNamed n p (source_of text) → WellTyped p → (h : Heap) → HasTypedHeap p.tables h
    → (e : Run) (stack : ℕ) → e.floor + stack ≡ 0x1100 → ((whole : List Event) → DoesAsProgram (with_whole e whole) 4 (costs text) p h)
    → Agrees (sessions text (named_heap n p.tables h)) e.flash e.floor stack
agrees n p text named good h typed e stack floor does =
    agrees_by n p text named good h typed e stack 4 (costs text) does
    (λ reads interrupts clock t w why bytes vectors legal is. passed e.floor stack (4 + most (costs text) w.history.behind_ticks) floor)

not_both : (floor peak : ℕ) (A : Type 0) → floor + peak ≤ 0x1100 → 0x1100 < floor + peak → A
not_both floor peak A fits more = absurd (omega (arith, fits, more))

-- and by any costs, where the stack holds what active calls cost by these
pub agrees_held : (n : Naming) (p : Program) (text : Node) → IsNamed n p (source_of text) → WellTyped p → (h : Heap) → HasTypedHeap p.tables h
    → (e : Run) (stack extra : ℕ) (by_method : List ℕ) → ((whole : List Event) → DoesAsProgram (with_whole e whole) extra by_method p h)
    → HoldsPeaks e.floor extra by_method p h → Agrees (sessions text (named_heap n p.tables h)) e.flash e.floor stack
agrees_held n p text named good h typed e stack extra by_method does holds =
    agrees_by n p text named good h typed e stack extra by_method does
    (λ reads interrupts clock t w why bytes vectors legal is.
    not_both e.floor (extra + most by_method w.history.behind_ticks) (stack < 4 + most (costs text) w.history.behind_ticks)
    (holds reads interrupts clock t w why bytes vectors legal is))
