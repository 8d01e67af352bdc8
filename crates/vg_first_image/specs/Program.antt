-- Mirrors of this crate's functions: the instructions that each of them puts. No public clause cites one.
use Rattle.std.specs.Prelude.{ℕ, ◌-◌, List, [], ◌∷◌, ◌++◌, replicate, nat_lt, if◌then◌else◌}
use Rattle.std.specs.List.{flat_map}
use Rattle.avr_instr.specs.declared.instr.Instr.{Instr}
use Rattle.avr_instr.specs.declared.instr.Instr.TheVariants.{Ldi, Out, Sts, Jmp, Rjmp, Sei, Cli, Sleep, Reti}
use Rattle.vg_first_text.specs.declared.device_write.DeviceWrite.{DeviceWrite}

-- the words of the vectors 1 to 34, two for each: as a name, so that no proof counts them out
unfoldable pub slots : List Instr
slots = replicate 68 Reti

abbrev pub start : List Instr
start = Ldi 16 0x10 ∷ Out 0x3E 16 ∷ Ldi 16 0xFF ∷ Out 0x3D 16 ∷ []

abbrev pub store_of : ℕ → Instr
store_of address = if nat_lt address 0x60 then Out (address - 0x20) 16 else Sts address 16

abbrev pub write_code : DeviceWrite → List Instr
write_code write = Ldi 16 write.value ∷ store_of write.address ∷ []

abbrev pub idle : List Instr
idle = Sei ∷ Sleep ∷ Cli ∷ Rjmp 0xFFC ∷ []

abbrev pub program : List DeviceWrite → List Instr
program writes = Jmp 70 ∷ slots ++ (start ++ (flat_map write_code writes ++ idle))
