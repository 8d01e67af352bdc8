use Rattle.std.proofs.Common.{drop}
use Rattle.vg_finding.specs.Found.{AreCasesWithin}
use Rattle.vg_finders.proofs.numbering.are_within.Given as goal

abbrev pub invariant-loop-case : goal.invariant-loop-case
invariant-loop-case l = AreCasesWithin l.count (drop l.case-index l.cases) → AreCasesWithin l.count l.cases
