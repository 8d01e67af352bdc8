use Rattle.std.proofs.Common.{◌≡◌, drop}
use Rattle.vg_cases.specs.Fewer.{is_covered}
use Rattle.vg_cases.proofs.covering.is_covered.Given as goal

abbrev pub invariant-loop-one : goal.invariant-loop-one
invariant-loop-one l = is_covered (drop l.one-index l.new) l.case ≡ is_covered l.new l.case
