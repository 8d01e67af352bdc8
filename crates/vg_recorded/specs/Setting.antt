-- What an initialisation or a run does not change of its world, and the ends that it has there.
use Rattle.std.specs.Prelude.{◌≡◌, ℕ, List, [], Option, Some, None}
use Rattle.vg_meaning.specs.declared.event.Event.{Event}
use Rattle.vg_meaning_laws.specs.Grows.{Extends}
use Rattle.vg_meaning.specs.World.{World, Phase, Starting, Running}
use Rattle.vg_meaning.specs.Answer.{End, Stops, Wants, Touches, Done, OutOfClock, OutOfDepth, OutOfRoom, Wrong, Signal, Over, Answer, Gives, Ends}

-- The phase, the limits, the interrupts to come, and what was seen.
pub record Setting : Type 0 where
  pub phase : Phase
  pub deepest : Option ℕ
  pub largest : Option ℕ
  pub interrupts : List ℕ
  pub seen : List Event

-- Initialisation is in this setting.
abbrev pub start_setting : Setting
start_setting = record { phase = Starting; deepest = Some 400; largest = Some 60000; interrupts = []; seen = [] }

-- A run is in this one.
abbrev pub run_setting : (deepest : Option ℕ) → (interrupts : List ℕ) → Setting
run_setting deepest interrupts = record { phase = Running; deepest = deepest; largest = None; interrupts = interrupts; seen = [] }

-- The setting of a world.
abbrev pub setting_of : {H : Type 0} → World H → Setting
setting_of w = record { phase = w.phase; deepest = w.deepest; largest = w.largest; interrupts = w.outside.interrupts; seen = w.outside.trace }

-- A world of a setting, whatever its clock, its reads and its history; what was seen stays.
pub record IsIn {H : Type 0} (x : Setting) (w : World H) : Type 0 where
  pub phase_is : w.phase ≡ x.phase
  pub deepest_is : w.deepest ≡ x.deepest
  pub largest_is : w.largest ≡ x.largest
  pub interrupts_are : w.outside.interrupts ≡ x.interrupts
  pub seen_stays : Extends x.seen w.outside.trace

-- A limit is there.
abbrev pub IsLimited : Option ℕ → Type 0
IsLimited (Some most) = Unit {0}
IsLimited None = ⊥

-- The ends of a call: a device is touched at initialisation alone, and a read is wanting in a run alone; a limit is passed where there
-- is one; and no call idles.
abbrev pub IsEnd : Setting → End → Type 0
IsEnd x (Stops code at) = Unit {0}
IsEnd x (Wants address) = x.phase ≡ Running
IsEnd x (Touches address) = x.phase ≡ Starting
IsEnd x Done = ⊥
IsEnd x OutOfClock = Unit {0}
IsEnd x OutOfDepth = IsLimited x.deepest
IsEnd x OutOfRoom = IsLimited x.largest
IsEnd x Wrong = Unit {0}

abbrev pub IsSignal : Setting → Signal → Type 0
IsSignal x (Over why) = IsEnd x why
IsSignal x _ = Unit {0}

-- Initialisation ends as such: no read is wanting, and it never idles.
abbrev pub EndsStart : {S H : Type 0} → Answer S H → Type 0
EndsStart (Gives s w) = Unit {0}
EndsStart (Ends (Over (Wants address)) s w) = ⊥
EndsStart (Ends (Over Done) s w) = ⊥
EndsStart (Ends _ s w) = w.phase ≡ Starting

-- A run ends: it touches no device at a wrong time, wants no room, and is too deep only where calls are limited.
abbrev pub EndsRun : {S H : Type 0} → (deepest : Option ℕ) → Answer S H → Type 0
EndsRun deepest (Gives s w) = ⊥
EndsRun deepest (Ends (Over (Touches address)) s w) = ⊥
EndsRun deepest (Ends (Over OutOfRoom) s w) = ⊥
EndsRun deepest (Ends (Over OutOfDepth) s w) = IsLimited deepest
EndsRun deepest (Ends _ s w) = Unit {0}
