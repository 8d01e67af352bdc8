-- What of a trace went to a sink.
use Rattle.std.specs.Prelude.{ℕ, ◌≤◌, Bool, true, false, List, take, Option}
use Rattle.vg_io.specs.Count.{Rose}
use Rattle.vg_io.specs.Piece.{AppendsAll, AppendsFront}
use Rattle.vg_meaning.specs.declared.event.Event.{Event}
use Rattle.vg_meaning_laws.specs.Grows.{Extends}
use Rattle.vg_outlet.specs.declared.outlet.Outlet.{Outlet}
use Rattle.vg_outlet.specs.Lines.{lines}

-- What is known of a sink and an outlet: the bytes that the sink took and how often it failed, of how many events the lines were put, and whether a
-- put has failed.
pub record Moment : Type 0 where
  pub told : Option (List ℕ)
  pub faults : ℕ
  pub put : ℕ
  pub failed : Bool

abbrev pub moment : (told : Option (List ℕ)) → (faults : ℕ) → Outlet → Moment
moment told faults outlet = record { told = told; faults = faults; put = outlet.put; failed = outlet.failed }

-- Since the sink had taken these bytes and had failed so often, it took the lines of the first events of a trace; or a put failed, and it took a
-- front of the lines.
abbrev pub put_since : (failed : Bool) → (told : Option (List ℕ)) → (faults : ℕ) → Moment → List Event → Type 0
put_since false told faults m trace = AppendsAll told m.told (lines (take m.put trace)) × (faults ≤ m.faults)
put_since true told faults m trace = AppendsFront told m.told (lines trace) × Rose faults m.faults × (faults ≤ m.faults)

abbrev pub IsPut : (told : Option (List ℕ)) → (faults : ℕ) → Moment → List Event → Type 0
IsPut told faults m trace = put_since m.failed told faults m trace

-- What was put between two moments is of each trace that begins with this one.
pub record PutsOf (before now : Moment) (trace : List Event) : Type 0 where
  pub holds : (told : Option (List ℕ)) (faults : ℕ) (whole : List Event) → Extends trace whole → IsPut told faults before whole → IsPut told faults now whole
