-- A program of seven instructions, worked: it sets SP and stops with the code 7.
use Rattle.std.specs.Prelude.{ℕ, List, [], ◌∷◌, ◌++◌, Some}
use Rattle.std.specs.List.{flat_map}
use Rattle.vg_meaning.specs.Ending.{Stop}
use Rattle.vg_meaning.specs.Seen.{Seen}
use Rattle.avr_instr.specs.declared.instr.Instr.{Instr}
use Rattle.avr_instr.specs.declared.instr.Instr.TheVariants.{Jmp, Ldi, Rjmp}
use Rattle.avr_isa.specs.Standing.{instr_bytes}
use Rattle.avr_view.specs.Start.{start_code}

abbrev pub stopping : List Instr
stopping = Jmp 2 ∷ (start_code 16 ++ (Ldi 24 7 ∷ Rjmp 0xFFF ∷ []))

abbrev pub stopping_image : List ℕ
stopping_image = flat_map instr_bytes stopping

-- nothing is shown, and no call is active
abbrev pub stopped : Seen
stopped = record { trace = []; ending = Some (Stop 7); peak = 0 }
