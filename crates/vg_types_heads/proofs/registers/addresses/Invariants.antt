use Rattle.std.proofs.Common.{◌≡◌, [], drop}
use Rattle.vg_tree.specs.Held.{row_at}
use Rattle.vg_types_heads.specs.Heads.{with_registers}
use Rattle.vg_types_heads.proofs.registers.addresses.Given as goal

abbrev pub invariant-registers : goal.invariant-registers
invariant-registers l =
    with_registers (row_at l.names (drop l.register-index l.nodes)) l.map ≡ with_registers (row_at l.names l.nodes) []
