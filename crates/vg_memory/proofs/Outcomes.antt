-- How the run of an image goes in which the machine does what a program does: it ends where the program's run is over, or goes on as long as that has clock.
use Rattle.std.specs.Prelude.{ℕ, ◌+◌, ◌≤◌, List, Some, None}
use Rattle.std.proofs.Common.{◌≡◌, ◌≢◌, ◌⊎◌, inl, inr, refl}
use Rattle.vg_meaning.specs.declared.event.Event.{Event}
use Rattle.vg_meaning.specs.Ending as ending
use Rattle.vg_meaning.specs.History.{History, full, no_history}
use Rattle.vg_meaning.specs.Outside.{AreReads, AreVectors}
use Rattle.vg_meaning.specs.World.{World}
use Rattle.vg_meaning.specs.Answer.{End, Stops, Wants, Touches, Done, OutOfClock, OutOfDepth, OutOfRoom, Wrong, Breaks, Continues, Returns, Over}
use Rattle.vg_meaning.specs.Answer.{Answer, Gives, Ends}
use Rattle.vg_meaning.specs.Safe.{Alike}
use Rattle.vg_meaning_laws.specs.Spent.{Spent}
use Rattle.avr_isa.specs.declared.ending.MachineEnd.{MachineEnd}
use Rattle.avr_isa.specs.declared.ending.MachineEnd.TheVariants as machine_end
use Rattle.avr_isa.specs.Cpu.{PowerOn, IsPowerOn}
use Rattle.avr_isa.specs.Machine.{started}
use Rattle.avr_view.specs.Run.{Run, Ended, Goes}
use Rattle.avr_view.specs.View.{Shown}
use Rattle.vg_syntax.specs.Tree.{Node}
use Rattle.vg_source.specs.Program.{source_of}
use Rattle.vg_source.specs.Session as source
use Rattle.vg_source.specs.State as source_state
use Rattle.vg_source_laws.proofs.SpentClock.{spent_running}
use Rattle.vg_core.specs.declared.heap.Heap.{Heap}
use Rattle.vg_core.specs.Naming.{Naming, named_heap}
use Rattle.vg_core.specs.Program.{Program}
use Rattle.vg_core.specs.Session.{running}
use Rattle.vg_core.specs.State.{State}
use Rattle.vg_core.specs.Typing.{WellTyped}
use Rattle.vg_lin.specs.Follows.{IsLegal}
use Rattle.vg_sound.specs.Good.{HasTypedHeap}
use Rattle.vg_renamed.specs.IsNamed.{IsNamed}
use Rattle.vg_renamed.proofs.Calls.{alike_running}
use Rattle.vg_endings.proofs.Sessions.{typed_session_ends, typed_session_is_not_deep}
use Rattle.vg_peaks.specs.Peaks.{DoesWithinPeak, PassesPeak}
use Rattle.vg_memory.specs.Does.{DoesAsProgram}
use Rattle.vg_memory.specs.Whole.{with_whole}
use Rattle.vg_memory.proofs.SessionsAgree.{all_spent, alike_end, spent_all}

-- the run of the program is over for this legal reason in this world
pub record IsOver (p : Program) (h : Heap) (reads interrupts : List ℕ) (clock : ℕ) (why : End) (w : World History) : Type 0 where
  pub legal : IsLegal why
  pub state : State
  pub ends : running full no_history p h None reads interrupts clock ≡ Ends (Over why) state w

module _ (e : Run) (extra : ℕ) (costs : List ℕ) (memory : PowerOn) (reads interrupts : List ℕ) (clock : ℕ) (w : World History) where
  abbrev deep : Type 0
  deep = PassesPeak (with_whole e w.outside.trace) extra costs w.history

  -- the machine ends
  abbrev pub GoesToEnd : Type 0
  GoesToEnd =
      (m : MachineEnd) × Goes (with_whole e w.outside.trace) deep 0 (started memory reads interrupts) (Ended (with_whole e w.outside.trace) m w.outside)

  -- or it goes on
  abbrev pub GoesOn : Type 0
  GoesOn =
      (steps : ℕ) × (clock ≤ steps)
      × Goes (with_whole e w.outside.trace) deep steps (started memory reads interrupts) (Shown (with_whole e w.outside.trace) w.outside.trace)

module _ (n : Naming) (p : Program) (text : Node) (named : IsNamed n p (source_of text)) (good : WellTyped p) (h : Heap) (typed : HasTypedHeap p.tables h)
    (e : Run) (extra : ℕ) (costs : List ℕ) (does : (whole : List Event) → DoesAsProgram (with_whole e whole) extra costs p h) (memory : PowerOn)
    (powered : IsPowerOn memory) (reads interrupts : List ℕ) (clock : ℕ) (bytes : AreReads reads) (vectors : AreVectors interrupts) where
  abbrev typed_answer : Answer State History
  typed_answer = running full no_history p h None reads interrupts clock

  abbrev pub Outcome : Type 0
  Outcome =
      (w : World History) × (why : End) × IsOver p h reads interrupts clock why w
      × (GoesToEnd e extra costs memory reads interrupts clock w ⊎ GoesOn e extra costs memory reads interrupts clock w)

  -- what is done where the run is over for this reason
  abbrev Does : (why : End) → World History → Type 0
  Does why w = (steps : ℕ) × (clock ≤ w.clock + steps) × DoesWithinPeak (with_whole e w.outside.trace) extra costs steps memory reads interrupts why w

  is_over : (why : End) → IsLegal why → (t : source_state.State) (w : World History) → Alike typed_answer (Ends (Over why) t w)
      → IsOver p h reads interrupts clock why w
  is_over why legal t w same = let (s, is) = alike_end typed_answer (Over why) t w same in record { legal = legal; state = s; ends = is }

  done : (why : End) (w : World History) → IsOver p h reads interrupts clock why w → Does why w
  done why w over = does w.outside.trace memory powered clock None reads interrupts bytes vectors over.state w why over.legal over.ends refl

  by : (b : Answer source_state.State History) → Alike typed_answer b → Spent clock b → (source.session_of b).ending ≢ None
      → (source.session_of b).ending ≢ Some ending.Deep → Outcome
  by (Gives t w) same spent some high = absurd (some refl)
  by (Ends Breaks t w) same spent some high = absurd (some refl)
  by (Ends Continues t w) same spent some high = absurd (some refl)
  by (Ends Returns t w) same spent some high = absurd (some refl)
  by (Ends (Over Done) t w) same spent some high =
      let over = is_over Done tt t w same in (w, Done, over, inl (machine_end.Idle, (done Done w over).2))
  by (Ends (Over (Stops code at)) t w) same spent some high =
      let over = is_over (Stops code at) tt t w same in (w, Stops code at, over, inl (machine_end.Stop code, (done (Stops code at) w over).2))
  by (Ends (Over (Wants address)) t w) same spent some high =
      let over = is_over (Wants address) tt t w same in (w, Wants address, over, inl (machine_end.Wants address, (done (Wants address) w over).2))
  by (Ends (Over OutOfClock) t w) same spent some high =
      let over = is_over OutOfClock tt t w same in
      let d = done OutOfClock w over in
      (w, OutOfClock, over, inr (d.0, all_spent clock w.clock d.0 (spent_all clock t w spent) d.1, d.2))
  by (Ends (Over OutOfDepth) t w) same spent some high = absurd (high refl)
  by (Ends (Over (Touches address)) t w) same spent some high = absurd (some refl)
  by (Ends (Over OutOfRoom) t w) same spent some high = absurd (some refl)
  by (Ends (Over Wrong) t w) same spent some high = absurd (some refl)

  pub outcome : Outcome
  outcome =
      by (source.running full no_history (source_of text) (named_heap n p.tables h) None reads interrupts clock)
      (alike_running n p (source_of text) named good full h typed.0 typed.1 no_history None reads interrupts clock)
      (spent_running full no_history (source_of text) (named_heap n p.tables h) None reads interrupts clock)
      (typed_session_ends n p (source_of text) named good h typed None reads interrupts clock)
      (typed_session_is_not_deep n p (source_of text) named good h typed reads interrupts clock)
