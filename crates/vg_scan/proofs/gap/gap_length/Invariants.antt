use Rattle.std.proofs.Common.{◌≡◌, ◌+◌, length}
use Rattle.vg_syntax.specs.declared.gap.Mode.TheVariants.{Code}
use Rattle.vg_syntax.specs.Tokens.{gap}
use Rattle.vg_scan.proofs.gap.gap_length.Given as goal

abbrev pub invariant-loop-first : goal.invariant-loop-first
invariant-loop-first l = (l.count + gap l.mode l.rest ≡ gap Code l.text) × (l.count + length l.rest ≡ length l.text)

abbrev pub decreases-loop-first : goal.decreases-loop-first
decreases-loop-first l = length l.rest
