use Rattle.std.proofs.Common.{◌≡◌, ◌≤◌, ◌+◌, length}
use Rattle.vg_lines.specs.Lines.{lines}
use Rattle.vg_hex.specs.HexImage.{behind_end}
use Rattle.vg_hex.proofs.reader.only_blanks.Given as goal

-- the lines so far are empty
abbrev pub invariant-loop-rest : goal.invariant-loop-rest
invariant-loop-rest l =
    (l.number + length l.rest ≤ l.first + length l.text) × (behind_end l.number (lines l.rest) ≡ behind_end l.first (lines l.text))

abbrev pub decreases-loop-rest : goal.decreases-loop-rest
decreases-loop-rest l = length l.rest
