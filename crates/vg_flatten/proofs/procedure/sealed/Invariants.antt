use Rattle.std.proofs.Common.{◌≡◌, ◌++◌, drop, map}
use Rattle.vg_flatten.specs.Closing.{AllSet}
use Rattle.vg_flatten_shapes.specs.Blocks.{set_in}
use Rattle.vg_flatten.proofs.procedure.sealed.Given as goal

abbrev pub invariant-loop-instr : goal.invariant-loop-instr
invariant-loop-instr l =
    (l.instrs ++ map (set_in 0 0) (drop l.instr-index l.code) ≡ map (set_in 0 0) l.code) × (AllSet (drop l.instr-index l.code) → AllSet l.code)
    × (AllSet l.code → AllSet (drop l.instr-index l.code))
