use Rattle.std.proofs.Common.{◌≡◌, ◌≤◌, ◌+◌, ◌++◌, length}
use Rattle.std.specs.List.{flat_map}
use Rattle.vg_lines.specs.Lines.{lines}
use Rattle.vg_script.specs.Script.{bad_line, first_bad, interrupts_of, line_of, reads_of}
use Rattle.vg_script.proofs.reader.read_script.Given as goal

-- the lists so far, and the items of the rest, are those of all
abbrev pub invariant-loop-rest : goal.invariant-loop-rest
invariant-loop-rest l =
    (l.number + length l.rest ≤ 1 + length l.text)
    × (bad_line l.number (lines l.rest) ≡ first_bad l.text)
    × (l.reads.items ++ flat_map (λ x. reads_of (line_of x)) (lines l.rest) ≡ flat_map (λ x. reads_of (line_of x)) (lines l.text))
    × (l.interrupts.items ++ flat_map (λ x. interrupts_of (line_of x)) (lines l.rest) ≡ flat_map (λ x. interrupts_of (line_of x)) (lines l.text))

abbrev pub decreases-loop-rest : goal.decreases-loop-rest
decreases-loop-rest l = length l.rest
