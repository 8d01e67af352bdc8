-- The code from reset to the first call, and what it leaves.
use Rattle.std.specs.Prelude.{ℕ, zero, suc, ◌≡◌, ◌+◌, ◌/◌, ◌%◌, List, [], ◌∷◌, ◌++◌}
use Rattle.vg_meaning.specs.Outside.{Outside}
use Rattle.avr_instr.specs.declared.instr.Instr.{Instr}
use Rattle.avr_instr.specs.declared.instr.Instr.TheVariants.{Brbc, Cpc, Cpi, Ldi, LpmZPlus, StXPlus, Sub}
use Rattle.avr_isa.specs.Cpu.{flash_byte}
use Rattle.avr_isa.specs.Machine.{State}
use Rattle.avr_view.specs.Registers.{Regs}
use Rattle.avr_view.specs.Run.{Run}
use Rattle.avr_view.specs.View.{At}
use Rattle.avr_view.specs.Start.{start_code}

-- so many bytes of the flash, from a byte address on
abbrev pub bytes_from : (flash : List ℕ) → (at count : ℕ) → List ℕ
bytes_from flash at zero = []
bytes_from flash at (suc n) = flash_byte flash at ∷ bytes_from flash (suc at) n

-- One turn of a copy: the byte at Z goes to X, and both move on; behind it the next turn, until X has come to this data address, of which r16 holds
-- the high byte. The branch leads to the first instruction of the turn, five words back.
abbrev pub copy_turn : (end : ℕ) → List Instr
copy_turn end = LpmZPlus 0 ∷ StXPlus 0 ∷ Cpi 26 (end % 256) ∷ Cpc 27 16 ∷ Brbc 1 0x7B ∷ []

-- so many bytes of the flash, from a byte address on, go to the static area; X begins at its first byte
abbrev pub copies : (count from : ℕ) → List Instr
copies zero from = []
copies (suc n) from =
    Ldi 26 0 ∷ Ldi 27 1 ∷ Ldi 30 (from % 256) ∷ Ldi 31 (from / 256) ∷ Ldi 16 ((0x100 + suc n) / 256) ∷ copy_turn (0x100 + suc n)

-- SP, r1, and the static area
abbrev pub startup : (count from : ℕ) → List Instr
startup n from = start_code 16 ++ (Sub 1 1 ∷ copies n from)

-- The stack is empty, r1 is 0, the static area holds these bytes of the flash, and nothing was shown yet. What the other registers hold is open.
pub record Begun (e : Run) (from : ℕ) (o : Outside) (pc : ℕ) (s : State) : Type 0 where
  pub regs : Regs
  pub zero : regs.of 1 ≡ 0
  pub at : At e pc (record { regs = regs; static = bytes_from e.flash from e.static; stack = []; out = o }) s
