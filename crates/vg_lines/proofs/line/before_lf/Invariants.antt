use Rattle.std.proofs.Common.{◌≡◌, ◌+◌, drop}
use Rattle.vg_lines.specs.Walk.{before_lf}
use Rattle.vg_lines.proofs.line.before_lf.Given as goal

-- the bytes so far and those of the rest are those of all
abbrev pub invariant-loop-b : goal.invariant-loop-b
invariant-loop-b l = (l.count ≡ l.b-index) × (l.count + before_lf (drop l.b-index l.text) ≡ before_lf l.text)
