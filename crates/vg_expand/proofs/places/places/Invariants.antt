use Rattle.std.proofs.Common.{◌≡◌, ◌++◌, ◌*◌, ◌≤◌, length, drop}
use Rattle.vg_expand.specs.Code.{places_from}
use Rattle.vg_expand.proofs.places.places.Given as goal

-- the places so far and those of the rest are those of all
abbrev pub invariant-loop-instr : goal.invariant-loop-instr
invariant-loop-instr l =
    (l.found ++ places_from (record { first = l.fn.first; widths = l.fn.widths }) (length l.draft) (drop l.instr-index l.code)
    ≡ places_from (record { first = l.fn.first; widths = l.fn.widths }) 0 l.code)
    × (length l.draft ≤ 2 * l.instr-index)
