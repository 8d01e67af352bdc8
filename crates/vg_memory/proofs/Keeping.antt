-- In an image that does what a program does, stores and interrupts come only where they may.
use Rattle.std.specs.Prelude.{ℕ, zero, suc, ◌-◌, ◌<◌, ◌≤◌, true, List, Some, None}
use Rattle.std.proofs.Common.{◌≡◌, ◌⊎◌, inl, inr, sym, ap, ◌∙◌, arith}
use Rattle.vg_meaning.specs.declared.event.Event.{Event}
use Rattle.vg_meaning.specs.Outside.{AreReads, AreVectors}
use Rattle.avr_isa.specs.declared.ending.MachineEnd.{MachineEnd}
use Rattle.avr_isa.specs.declared.stack.StackUse.{StackUse}
use Rattle.avr_isa.specs.declared.stack.StackUse.TheVariants.{Nothing, PushesByte, PushesWord, Stores}
use Rattle.avr_isa.specs.Cpu.{PowerOn, IsPowerOn}
use Rattle.avr_isa.specs.Machine.{State as MachineState, started, machine, run_from}
use Rattle.avr_isa.specs.Stack.{stack_use}
use Rattle.avr_isa.proofs.Runs.{lowest-falls, run-longer, stays}
use Rattle.avr_view.specs.Run.{Run, Goes, StoresWithin, Tidy}
use Rattle.vg_syntax.specs.Tree.{Node}
use Rattle.vg_source.specs.Program.{source_of}
use Rattle.vg_core.specs.declared.heap.Heap.{Heap}
use Rattle.vg_core.specs.Naming.{Naming}
use Rattle.vg_core.specs.Program.{Program}
use Rattle.vg_core.specs.Typing.{WellTyped}
use Rattle.vg_sound.specs.Good.{HasTypedHeap}
use Rattle.vg_renamed.specs.IsNamed.{IsNamed}
use Rattle.vg_memory.specs.Does.{DoesAsProgram}
use Rattle.vg_memory.specs.Whole.{with_whole}
use Rattle.vg_memory.specs.Memory.{IsOrderly, KeepsMemory, StoresThere}
use Rattle.vg_memory.proofs.Outcomes.{Outcome, outcome}

before_or_behind : (j k : ℕ) → (k < j) ⊎ (j ≤ k)
before_or_behind zero k = inr (omega arith)
before_or_behind (suc j) zero = inl (omega arith)
before_or_behind (suc j) (suc k) = elim (before_or_behind j k) [ inl h ↦ inl (omega (arith, h)) | inr h ↦ inr (omega (arith, h)) ]

stored : (e : Run) (sp : ℕ) (u : StackUse) → StoresWithin e sp u → StoresThere e.static e.floor sp u
stored e sp Nothing h = tt
stored e sp (PushesByte address) h = tt
stored e sp (PushesWord address) h = tt
stored e sp (Stores address) h = h

none_ended : (m : MachineEnd) → None ≡ Some m → ⊥
none_ended m e = cc

module _ (e : Run) (idle : ℕ) (lets : (a : ℕ) → e.lets_in a ≡ true → (a ≡ idle) ⊎ (a ≡ suc idle)) where
  orderly_of : (whole : List Event) (t : MachineState) → Tidy (with_whole e whole) t → IsOrderly e.flash e.static e.floor idle t
  orderly_of whole t tidy = record {
    stores = λ i there. stored (with_whole e whole) t.cpu.sp (stack_use i t.cpu) (tidy.stores i there);
    quiet = λ on. lets t.cpu.pc (tidy.quiet on);
  }

  module _ (s : MachineState) (k : ℕ) (going : (run_from e.flash k s).ended ≡ None) (above : e.floor ≤ (run_from e.flash (suc k) s).lowest) where
    -- a machine that has ended is not going later
    not_over : (after : ℕ) (m : MachineEnd) → (run_from e.flash after s).ended ≡ Some m → after ≤ k → ⊥
    not_over after m over le =
        let whole = run-longer e.flash after (k - after) k s (omega (arith, le)) ∙ stays e.flash (k - after) (run_from e.flash after s) m over in
        none_ended m (sym going ∙ ap (λ t. t.ended) whole ∙ over)

    -- a stack that has reached below the floor does not come back
    not_below : (j : ℕ) → (run_from e.flash (suc j) s).lowest < e.floor → j ≤ k → ⊥
    not_below j reached le =
        let whole = run-longer e.flash (suc j) (k - j) (suc k) s (omega (arith, le)) in
        omega (arith, reached, above, lowest-falls e.flash (k - j) (run_from e.flash (suc j) s), ap (λ t. t.lowest) whole)

    by_goes : (whole : List Event) (deep : Type 0) (steps : ℕ) (P : MachineState → Type 0)
        → ((after : ℕ) → steps ≤ after → P (run_from e.flash after s) → after ≤ k → ⊥) → Goes (with_whole e whole) deep steps s P
        → IsOrderly e.flash e.static e.floor idle (run_from e.flash k s)
    by_goes whole deep steps P late (inl c) = by_way (before_or_behind c.after k)
      where
        by_way : (k < c.after) ⊎ (c.after ≤ k) → IsOrderly e.flash e.static e.floor idle (run_from e.flash k s)
        by_way (inl before) = orderly_of whole (run_from e.flash k s) (c.tidy k before)
        by_way (inr behind) = absurd (late c.after c.least c.there behind)
    by_goes whole deep steps P late (inr (d, sinks)) = by_way (before_or_behind sinks.reaches.k k)
      where
        by_way : (k < sinks.reaches.k) ⊎ (sinks.reaches.k ≤ k) → IsOrderly e.flash e.static e.floor idle (run_from e.flash k s)
        by_way (inl before) = orderly_of whole (run_from e.flash k s) (sinks.tidy k before)
        by_way (inr behind) = absurd (not_below sinks.reaches.k sinks.reaches.reached behind)

too_late : (k steps after : ℕ) → suc k ≤ steps → steps ≤ after → after ≤ k → ⊥
too_late k steps after spent least le = omega (arith, spent, least, le)

module _ (n : Naming) (p : Program) (text : Node) (named : IsNamed n p (source_of text)) (good : WellTyped p) (h : Heap) (typed : HasTypedHeap p.tables h)
    (e : Run) (extra : ℕ) (costs : List ℕ) (idle : ℕ) (lets : (a : ℕ) → e.lets_in a ≡ true → (a ≡ idle) ⊎ (a ≡ suc idle))
    (does : (whole : List Event) → DoesAsProgram (with_whole e whole) extra costs p h) (memory : PowerOn) (reads interrupts : List ℕ) (k : ℕ)
    (powered : IsPowerOn memory) (bytes : AreReads reads) (vectors : AreVectors interrupts) (going : (machine e.flash memory reads interrupts k).ended ≡ None)
    (above : e.floor ≤ (machine e.flash memory reads interrupts (suc k)).lowest) where
  abbrev Orderly : Type 0
  Orderly = IsOrderly e.flash e.static e.floor idle (machine e.flash memory reads interrupts k)

  by_outcome : Outcome n p text named good h typed e extra costs does memory powered reads interrupts (suc k) bytes vectors → Orderly
  by_outcome (w, why, over, inl (m, g)) =
      by_goes e idle lets (started memory reads interrupts) k going above w.outside.trace _ 0 _
      (λ after least there le. not_over e idle lets (started memory reads interrupts) k going above after m there.is_at.ends le) g
  by_outcome (w, why, over, inr (steps, spent, g)) =
      by_goes e idle lets (started memory reads interrupts) k going above w.outside.trace _ steps _
      (λ after least there le. too_late k steps after spent least le) g

  orderly : Orderly
  orderly = by_outcome (outcome n p text named good h typed e extra costs does memory powered reads interrupts (suc k) bytes vectors)

pub keeps : (n : Naming) (p : Program) (text : Node) → IsNamed n p (source_of text) → WellTyped p → (h : Heap) → HasTypedHeap p.tables h
    → (e : Run) (extra : ℕ) (costs : List ℕ) (idle : ℕ) → ((a : ℕ) → e.lets_in a ≡ true → (a ≡ idle) ⊎ (a ≡ suc idle))
    → ((whole : List Event) → DoesAsProgram (with_whole e whole) extra costs p h) → KeepsMemory e.flash e.static e.floor idle
keeps n p text named good h typed e extra costs idle lets does = record {
  each = λ memory reads interrupts k powered bytes vectors going above.
      orderly n p text named good h typed e extra costs idle lets does memory reads interrupts k powered bytes vectors going above;
}
