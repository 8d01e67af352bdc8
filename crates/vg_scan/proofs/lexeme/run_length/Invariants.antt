use Rattle.std.proofs.Common.{◌≡◌, ◌+◌, drop}
use Rattle.vg_syntax.specs.Lexemes.{run_length}
use Rattle.vg_scan.proofs.lexeme.run_length.Given as goal

abbrev pub invariant-loop-b : goal.invariant-loop-b
invariant-loop-b l = (l.count ≡ l.b-index) × (l.count + run_length (drop l.b-index l.text) ≡ run_length l.text)
