use Rattle.vg_compile.proofs.Following.{follows}
use Rattle.vg_compile.proofs.laws.compiled_programs_follow.Goals as goal

pub returns : goal.returns
returns g p h s n c f l u linked given ready packed linear made can is extra costs fit e flash static floor slept woken =
    follows p h s n c f l u linked given ready packed linear made can is extra costs fit e flash static floor slept woken
