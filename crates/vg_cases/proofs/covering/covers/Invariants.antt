use Rattle.std.proofs.Common.{◌≡◌, drop}
use Rattle.vg_cases.specs.Fewer.{covers}
use Rattle.vg_cases.proofs.covering.covers.Given as goal

abbrev pub invariant-loop-case : goal.invariant-loop-case
invariant-loop-case l = covers l.new (drop l.case-index l.old) ≡ covers l.new l.old
