use Rattle.std.proofs.Common.{◌≡◌, ◌++◌, drop, map}
use Rattle.vg_core.specs.HeldProgram.{body_at}
use Rattle.vg_firm.specs.Held.{procedure_of}
use Rattle.vg_pack_bodies.specs.Procedures.{packed_methods}
use Rattle.vg_pack_bodies.proofs.packed.procedures.Given as goal

abbrev pub invariant-loop-index : goal.invariant-loop-index
invariant-loop-index l =
    map procedure_of l.rows.items
    ++ packed_methods l.program.tables l.numbers l.plan l.index (drop l.index l.program.tables.methods) (drop l.index (map body_at l.program.methods))
    ≡ packed_methods l.program.tables l.numbers l.plan 0 l.program.tables.methods (map body_at l.program.methods)
