-- In an image that does what a program does, a stack that holds what active calls cost is never left.
use Rattle.std.specs.Prelude.{ℕ, ◌+◌, ◌-◌, ◌<◌, ◌≤◌, List}
use Rattle.std.proofs.Common.{inl, inr, ap, arith}
use Rattle.vg_meaning.specs.declared.event.Event.{Event}
use Rattle.vg_meaning.specs.Answer.{End}
use Rattle.vg_meaning.specs.History.{History}
use Rattle.vg_meaning.specs.Outside.{AreReads, AreVectors}
use Rattle.vg_meaning.specs.World.{World}
use Rattle.avr_isa.specs.Agrees.{NeverReaches}
use Rattle.avr_isa.specs.Cpu.{PowerOn, IsPowerOn}
use Rattle.avr_isa.specs.Machine.{State as MachineState, started, machine, run_from}
use Rattle.avr_isa.proofs.Runs.{lowest-falls, never_lower, run-longer}
use Rattle.avr_view.specs.Run.{Run}
use Rattle.vg_syntax.specs.Tree.{Node}
use Rattle.vg_source.specs.Peak.{most}
use Rattle.vg_source.specs.Program.{source_of}
use Rattle.vg_core.specs.declared.heap.Heap.{Heap}
use Rattle.vg_core.specs.Naming.{Naming}
use Rattle.vg_core.specs.Program.{Program}
use Rattle.vg_core.specs.Typing.{WellTyped}
use Rattle.vg_sound.specs.Good.{HasTypedHeap}
use Rattle.vg_renamed.specs.IsNamed.{IsNamed}
use Rattle.vg_memory.specs.Does.{DoesAsProgram}
use Rattle.vg_memory.specs.Whole.{with_whole}
use Rattle.vg_memory.specs.Holds.{HoldsPeaks}
use Rattle.vg_memory.proofs.Outcomes.{IsOver, Outcome, outcome}

not_both : (floor peak : ℕ) → floor + peak ≤ 0x1100 → 0x1100 < floor + peak → ⊥
not_both floor peak fits more = omega (arith, fits, more)

-- what is above the floor later was so before
above_before : (flash : List ℕ) (s : MachineState) (floor k steps after : ℕ) → k ≤ steps → steps ≤ after → floor ≤ (run_from flash after s).lowest
    → floor ≤ (run_from flash k s).lowest
above_before flash s floor k steps after spent least above =
    let whole = run-longer flash k (after - k) after s (omega (arith, spent, least)) in
    omega (arith, above, lowest-falls flash (after - k) (run_from flash k s), ap (λ t. t.lowest) whole)

module _ (n : Naming) (p : Program) (text : Node) (named : IsNamed n p (source_of text)) (good : WellTyped p) (h : Heap) (typed : HasTypedHeap p.tables h)
    (e : Run) (extra : ℕ) (costs : List ℕ) (does : (whole : List Event) → DoesAsProgram (with_whole e whole) extra costs p h) (holds : HoldsPeaks e.floor extra costs p h)
    (memory : PowerOn) (reads interrupts : List ℕ) (k : ℕ) (powered : IsPowerOn memory) (bytes : AreReads reads) (vectors : AreVectors interrupts) where
  abbrev Above : Type 0
  Above = e.floor ≤ (machine e.flash memory reads interrupts k).lowest

  not_deep : (w : World History) (why : End) → IsOver p h reads interrupts k why w → 0x1100 < e.floor + (extra + most costs w.history.behind_ticks) → ⊥
  not_deep w why over deep =
      not_both e.floor (extra + most costs w.history.behind_ticks) (holds reads interrupts k over.state w why bytes vectors over.legal over.ends) deep

  by_outcome : Outcome n p text named good h typed e extra costs does memory powered reads interrupts k bytes vectors → Above
  by_outcome (w, why, over, inl (m, inl c)) =
      never_lower e.flash (started memory reads interrupts) c.after e.floor m c.there.is_at.ends c.there.is_at.above k
  by_outcome (w, why, over, inl (m, inr (deep, sinks))) = absurd (not_deep w why over deep)
  by_outcome (w, why, over, inr (steps, spent, inl c)) =
      above_before e.flash (started memory reads interrupts) e.floor k steps c.after spent c.least c.there.at.above
  by_outcome (w, why, over, inr (steps, spent, inr (deep, sinks))) = absurd (not_deep w why over deep)

  above : Above
  above = by_outcome (outcome n p text named good h typed e extra costs does memory powered reads interrupts k bytes vectors)

pub never : (n : Naming) (p : Program) (text : Node) → IsNamed n p (source_of text) → WellTyped p → (h : Heap) → HasTypedHeap p.tables h
    → (e : Run) (extra : ℕ) (costs : List ℕ) → ((whole : List Event) → DoesAsProgram (with_whole e whole) extra costs p h) → HoldsPeaks e.floor extra costs p h
    → NeverReaches e.flash e.floor
never n p text named good h typed e extra costs does holds = record {
  each = λ memory reads interrupts k powered bytes vectors.
      above n p text named good h typed e extra costs does holds memory reads interrupts k powered bytes vectors;
}
