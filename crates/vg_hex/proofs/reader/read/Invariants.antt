use Rattle.std.proofs.Common.{◌≡◌, ◌≤◌, ◌+◌, [], length}
use Rattle.vg_lines.specs.Lines.{lines}
use Rattle.vg_hex.specs.HexImage.{lines_named, named}
use Rattle.vg_hex.specs.Walk.{fault_behind, slots_behind}
use Rattle.vg_hex.proofs.reader.read.Given as goal

-- what is still to be read, behind the slots so far
abbrev pub invariant-loop-rest : goal.invariant-loop-rest
invariant-loop-rest l =
    (l.number + length l.rest ≤ 1 + length l.text)
    × (fault_behind l.slots (lines_named l.number (lines l.rest) l.base) ≡ fault_behind [] (named l.text))
    × (slots_behind l.slots (lines_named l.number (lines l.rest) l.base) ≡ slots_behind [] (named l.text))

abbrev pub decreases-loop-rest : goal.decreases-loop-rest
decreases-loop-rest l = length l.rest
