use Rattle.std.proofs.Common.{◌≡◌, ◌++◌, replicate, ap, ◌∙◌, arith}
use Rattle.std.specs.List.{flat_map}
use Rattle.avr_instr.specs.declared.instr.Instr.TheVariants.{Reti}
use Rattle.avr_isa.specs.Standing.{instr_bytes}
use Rattle.vg_first_image.specs.Program.{slots}
use Rattle.vg_first_image.proofs.code.put_slots.Goals as goal

pub returns : goal.returns
unfolding slots
returns c =
    let count : c.loop-word._word ≡ 68 = omega arith in
    c.loop-word.invariant ∙ ap (λ n. c.args.code.now.items ++ flat_map instr_bytes (replicate n Reti)) count
