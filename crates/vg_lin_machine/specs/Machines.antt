-- Why a run is over, and what waits, as the meaning of linear code has it.
use Rattle.std.specs.Prelude.{None}
use Rattle.vg_meaning.specs.Answer.{End as Ending, Stops, Wants, Done as IsDone, Wrong as IsWrong}
use Rattle.vg_lin.specs.Steps.{Awaits as Awaiting, Result as OfCall, Interrupt as OfInterrupt}
use Rattle.vg_lin_machine.specs.declared.ending.End.{End}
use Rattle.vg_lin_machine.specs.declared.ending.End.TheVariants.{Stopped, NoRead, Done, Wrong}
use Rattle.vg_lin_machine.specs.declared.frame.Awaits.{Awaits}
use Rattle.vg_lin_machine.specs.declared.frame.Awaits.TheVariants.{Result, Interrupt}

abbrev pub end_of : End → Ending
end_of (Stopped code) = Stops code None
end_of (NoRead address) = Wants address
end_of Done = IsDone
end_of Wrong = IsWrong

abbrev pub awaits_of : Awaits → Awaiting
awaits_of (Result call) = OfCall call
awaits_of Interrupt = OfInterrupt
