use Rattle.std.proofs.Common.{◌≡◌, map, take}
use Rattle.vg_finding.specs.Finders.{with_finders}
use Rattle.vg_finders.proofs.replacing.all_with_finders.Given as goal

abbrev pub invariant-loop-procedure : goal.invariant-loop-procedure
invariant-loop-procedure l = l.row ≡ map (with_finders l.numbers) (take l.procedure-index l.procedures)
