use Rattle.std.proofs.Common.{◌≡◌, ◌++◌, drop, get_or}
use Rattle.vg_expand.specs.Code.{expanded_code}
use Rattle.vg_expand.proofs.procedure.expanded.Given as goal

-- the code so far and that of the rest are all of it
abbrev pub invariant-loop-instr : goal.invariant-loop-instr
invariant-loop-instr l =
    l.new ++ expanded_code (record { first = l.fn.first; widths = l.fn.widths }) (λ to. get_or l.fn.places to 0) (drop l.instr-index l.code)
    ≡ expanded_code (record { first = l.fn.first; widths = l.fn.widths }) (λ to. get_or l.fn.places to 0) l.code
