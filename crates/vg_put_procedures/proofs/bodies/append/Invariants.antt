use Rattle.std.proofs.Common.{◌≡◌, ◌++◌, take}
use Rattle.vg_put_procedures.proofs.bodies.append.Given as goal

abbrev pub invariant-loop-instr : goal.invariant-loop-instr
invariant-loop-instr l = l.code ≡ l.fn.code ++ take l.instr-index l.piece
