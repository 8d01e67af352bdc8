use Rattle.std.proofs.Common.{◌≡◌, ◌++◌, take}
use Rattle.std.specs.List.{flat_map}
use Rattle.avr_isa.specs.Standing.{instr_bytes}
use Rattle.avr_code.proofs.bytes.put_bytes.Given as goal

abbrev pub invariant-loop-instr : goal.invariant-loop-instr
invariant-loop-instr l = l.bytes ≡ l.fn.bytes ++ flat_map instr_bytes (take l.instr-index l.code)
