use Rattle.std.proofs.Common.{◌≡◌, ◌++◌, take}
use Rattle.std.specs.List.{flat_map, AllByRecursion}
use Rattle.avr_instr.specs.Spelled.{InRange}
use Rattle.avr_isa.specs.Standing.{instr_bytes}
use Rattle.vg_image.proofs.emitting.put_code.Given as goal

abbrev pub invariant-loop-instr : goal.invariant-loop-instr
invariant-loop-instr l =
    (l.flash.items ≡ l.fn.flash.items ++ flat_map instr_bytes (take l.instr-index l.code)) × AllByRecursion InRange (take l.instr-index l.code)
