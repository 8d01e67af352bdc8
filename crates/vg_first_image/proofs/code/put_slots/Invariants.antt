use Rattle.std.proofs.Common.{◌≡◌, ◌++◌, replicate}
use Rattle.std.specs.List.{flat_map}
use Rattle.avr_instr.specs.declared.instr.Instr.TheVariants.{Reti}
use Rattle.avr_isa.specs.Standing.{instr_bytes}
use Rattle.vg_first_image.proofs.code.put_slots.Given as goal

abbrev pub invariant-loop-word : goal.invariant-loop-word
invariant-loop-word l = l.code.items ≡ l.fn.code.items ++ flat_map instr_bytes (replicate l._word Reti)
