use Rattle.std.proofs.Common.{◌≡◌, ◌≤◌, length, sym, ◌∙◌, subst}
use Rattle.std.specs.List.{flat_map}
use Rattle.avr_instr.specs.declared.instr.Instr.TheVariants.{Jmp}
use Rattle.avr_isa.specs.Agrees.{Agrees, NeverReaches}
use Rattle.avr_isa.specs.Standing.{instr_bytes}
use Rattle.vg_first_text.specs.FirstSession.{first_session}
use Rattle.vg_first_image.specs.Program.{slots, start, write_code, idle, program}
use Rattle.vg_first_image.proofs.Whole.{AgreesOnStacks, StaysAbove, agrees, never, fits, pieces}
use Rattle.vg_first_image.proofs.image.image_of.Goals as goal
use Rattle.vg_first_image.proofs.image.image_of.Goals.{In_ok-put_idle}

bytes : (c : In_ok-put_idle) → c.put_idle.new.code.items ≡ flat_map instr_bytes (program c.args.writes.now)
bytes c = pieces slots start (flat_map write_code c.args.writes.now) idle
    (Jmp 70) _ _ _ _ _ _ c.new-code.ensures.items c.in_ok-put.ensures c.in_ok-put_slots.ensures c.in_ok-put_start.ensures c.in_ok-put_writes.ensures
    c.in_ok-put_idle.ensures

pub from_vec-requires : goal.from_vec-requires
from_vec-requires c = subst (λ l. length l ≤ 131072) (sym (bytes c)) (fits c.args.writes.now c.requires.short)

pub returns-clause-agrees : goal.returns-clause-agrees
returns-clause-agrees c =
    let ws = c.args.writes.now in
    subst (AgreesOnStacks ws) (sym (c.from_vec.ensures ∙ bytes (goal.at.returns-clause-agrees c).In_ok-put_idle))
    (agrees ws c.requires.devices c.requires.short)

pub returns-clause-never : goal.returns-clause-never
returns-clause-never c =
    let ws = c.args.writes.now in
    subst StaysAbove (sym (c.from_vec.ensures ∙ bytes (goal.at.returns-clause-never c).In_ok-put_idle)) (never ws c.requires.devices c.requires.short)
