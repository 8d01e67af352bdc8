use Rattle.std.proofs.Common.{◌≡◌, ◌++◌, map, take}
use Rattle.vg_finding.specs.Finders.{finder, with_finders}
use Rattle.vg_finders.proofs.replacing.all_found.Given as goal

abbrev pub invariant-loop-dispatch : goal.invariant-loop-dispatch
invariant-loop-dispatch l = l.row ≡ map (with_finders l.fn.numbers) l.fn.procedures ++ map finder (take l.dispatch-index l.finders)
