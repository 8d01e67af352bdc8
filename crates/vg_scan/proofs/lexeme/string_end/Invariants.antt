use Rattle.std.proofs.Common.{◌≡◌, ◌+◌, length}
use Rattle.vg_syntax.specs.Lexemes.{string_end}
use Rattle.vg_scan.proofs.lexeme.string_end.Given as goal

abbrev pub invariant-loop-first : goal.invariant-loop-first
invariant-loop-first l = (string_end 0 l.passed l.rest ≡ string_end 0 1 l.behind) × (l.passed + length l.rest ≡ length l.behind + 1)

abbrev pub decreases-loop-first : goal.decreases-loop-first
decreases-loop-first l = length l.rest
