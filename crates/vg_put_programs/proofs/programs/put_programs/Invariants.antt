use Rattle.vg_put_programs.specs.Programs.{emission}
use Rattle.vg_put_programs.proofs.Putting.{Done}
use Rattle.vg_put_programs.proofs.programs.put_programs.Given as goal

abbrev pub invariant-loop-k : goal.invariant-loop-k
invariant-loop-k l =
    Done (emission l.procedures l.start l.dispatches l.guess l.entries l.known l.codes l.idle) l.first l.fn.code l.k l.code l.placed l.end
