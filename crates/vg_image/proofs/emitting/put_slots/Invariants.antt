use Rattle.std.proofs.Common.{◌≡◌, ◌++◌}
use Rattle.std.specs.List.{flat_map}
use Rattle.avr_isa.specs.Standing.{instr_bytes}
use Rattle.vg_image.specs.Image.{slot_in, slots_from}
use Rattle.vg_image.proofs.emitting.put_slots.Given as goal

abbrev pub invariant-loop-count : goal.invariant-loop-count
invariant-loop-count l = l.flash.items ≡ l.fn.flash.items ++ flat_map instr_bytes (slots_from (slot_in l.slots) 1 l.count)
