-- When a state of the source stands for one of the typed program.
use Rattle.std.specs.Prelude.{◌≡◌}
use Rattle.vg_meaning.specs.Answer.{Answer}
use Rattle.vg_meaning.specs.Same.{Same, Always}
use Rattle.vg_source.specs.State as source
use Rattle.vg_source.specs.Session as session
use Rattle.vg_core.specs.declared.program.Tables.{Tables}
use Rattle.vg_core.specs.State.{State}
use Rattle.vg_core.specs.Session.{Initialised, Started, Failed}
use Rattle.vg_core.specs.Naming.{Naming, named_heap, named_state}

-- The state t is the state s with names in place of its numbers.
abbrev pub Stands : Naming → Tables → State → source.State → Type 0
Stands n p s t = named_state n p s ≡ t

-- Two answers are the same in the very same world, and states stand for one another.
abbrev pub AreSame : {H : Type 0} → Naming → Tables → Answer State H → Answer source.State H → Type 0
AreSame n p a b = Same (Stands n p) (Always (Stands n p)) a b

-- What initialisation gives, with names in place of numbers.
abbrev pub named_start : Naming → Tables → Initialised → session.Initialised
named_start n p (Started heap) = session.Started (named_heap n p heap)
named_start n p (Failed why) = session.Failed why
