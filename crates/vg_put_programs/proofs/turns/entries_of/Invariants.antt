use Rattle.std.proofs.Common.{◌≡◌}
use Rattle.vg_put_programs.specs.Programs.{entries_upto}
use Rattle.vg_put_programs.proofs.turns.entries_of.Given as goal

abbrev pub invariant-loop-procedure : goal.invariant-loop-procedure
invariant-loop-procedure l = l.entries ≡ entries_upto l.placed l.start l.count l.procedure
