use Rattle.std.proofs.Common.{◌≡◌, ◌++◌, take}
use Rattle.std.specs.List.{flat_map}
use Rattle.avr_isa.specs.Standing.{instr_bytes}
use Rattle.vg_first_image.specs.Program.{write_code}
use Rattle.vg_first_image.proofs.code.put_writes.Given as goal

abbrev pub invariant-loop-write : goal.invariant-loop-write
invariant-loop-write l = l.code.items ≡ l.fn.code.items ++ flat_map instr_bytes (flat_map write_code (take l.write-index l.writes))
