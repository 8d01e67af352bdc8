-- What is around a run, as its world, and how it changes.
use Rattle.std.specs.Prelude.{◌≡◌, ℕ, suc, true, false, List, [], ◌∷◌, drop, Option, Result, Ok, Err}
use Rattle.vg_meaning.specs.declared.event.Event.{Event}
use Rattle.vg_meaning.specs.declared.event.Event.TheVariants.{Enter, Read, Write}
use Rattle.vg_meaning.specs.World.{World, Phase, Starting, Running}
use Rattle.vg_meaning.specs.Outside.{with_event}
use Rattle.vg_meaning.specs.Answer.{passes}
use Rattle.vg_interp_run.specs.declared.around.Phase.{Phase as HeldPhase}
use Rattle.vg_interp_run.specs.declared.around.Phase.TheVariants.{Starting as IsStarting, Running as IsRunning}
use Rattle.vg_interp_run.specs.declared.signal.Signal.{Signal}
use Rattle.vg_interp_run.specs.declared.signal.Signal.TheVariants.{Wants, Touches, Done, NoMemory}
use Rattle.vg_interp_run.specs.declared.signal.Exit.{Exit}
use Rattle.vg_interp_run.specs.declared.signal.Exit.TheVariants as exit

-- The phase.
abbrev pub phase_of : HeldPhase → Phase
phase_of IsStarting = Starting
phase_of IsRunning = Running

-- A world by its parts; its history is the number of open calls.
abbrev pub world_of : Phase → (deepest largest : Option ℕ) → (clock : ℕ) → (reads interrupts : List ℕ) → List Event → (depth : ℕ) → World ℕ
world_of phase deepest largest clock reads interrupts trace depth = record {
  phase = phase;
  deepest = deepest;
  largest = largest;
  clock = clock;
  outside = record { reads = reads; interrupts = interrupts; trace = trace };
  history = depth;
}

-- A tick was taken, or was due with the clock spent.
abbrev pub Ticks : {A : Type 0} → Result A Exit → (before now : World ℕ) → Type 0
Ticks (Ok u) w v = (w.clock ≡ suc v.clock) × (v ≡ record w { clock = v.clock })
Ticks (Err exit.OutOfClock) w v = (w.clock ≡ 0) × (v ≡ w)
Ticks (Err _) w v = ⊥

-- One call more is open, behind its tick.
abbrev pub IsOpened : (before now : World ℕ) → Type 0
IsOpened w v = (w.clock ≡ suc v.clock) × (v ≡ record w { clock = v.clock; history = suc w.history })

-- A call was opened, or could not be.
abbrev pub Opens : {A : Type 0} → Result A Exit → (before now : World ℕ) → Type 0
Opens (Ok u) w v = IsOpened w v × (passes w.deepest (suc w.history) ≡ false)
Opens (Err exit.OutOfClock) w v = (w.clock ≡ 0) × (v ≡ w)
Opens (Err exit.OutOfDepth) w v = IsOpened w v × (passes w.deepest (suc w.history) ≡ true)
Opens (Err exit.NoMemory) w v = Unit {0}
Opens (Err _) w v = ⊥

-- A register was read, or could not be.
abbrev pub Reads : Result ℕ Signal → (address : ℕ) → (before now : World ℕ) → Type 0
Reads (Ok value) a w v =
    (w.phase ≡ Running)
    × (w.outside.reads ≡ value ∷ v.outside.reads)
    × (v ≡ record w { outside = with_event (record w.outside { reads = v.outside.reads }) (Read a value) })
Reads (Err (Touches b)) a w v = (b ≡ a) × (w.phase ≡ Starting) × (v ≡ w)
Reads (Err (Wants b)) a w v = (b ≡ a) × (w.phase ≡ Running) × (w.outside.reads ≡ []) × (v ≡ w)
Reads (Err NoMemory) a w v = Unit {0}
Reads (Err _) a w v = ⊥

-- A register was written, or could not be.
abbrev pub Writes : {A : Type 0} → Result A Signal → (address value : ℕ) → (before now : World ℕ) → Type 0
Writes (Ok u) a x w v = (w.phase ≡ Running) × (v ≡ record w { outside = with_event w.outside (Write a x) })
Writes (Err (Touches b)) a x w v = (b ≡ a) × (w.phase ≡ Starting) × (v ≡ w)
Writes (Err NoMemory) a x w v = Unit {0}
Writes (Err _) a x w v = ⊥

-- An interrupt was taken, or none is left.
abbrev pub Interrupts : Result ℕ Signal → (before now : World ℕ) → Type 0
Interrupts (Ok vector) w v =
    (w.outside.interrupts ≡ vector ∷ v.outside.interrupts)
    × (v ≡ record w { outside = with_event (record w.outside { interrupts = v.outside.interrupts }) (Enter vector) })
Interrupts (Err Done) w v = (w.outside.interrupts ≡ []) × (v ≡ w)
Interrupts (Err NoMemory) w v = Unit {0}
Interrupts (Err _) w v = ⊥
