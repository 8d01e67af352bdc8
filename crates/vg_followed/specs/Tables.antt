-- What the code for lookups asks of the flash and of the cases of a dispatch.
use Rattle.std.specs.Prelude.{ℕ, ◌≡◌, ◌+◌, ◌<◌, ◌≤◌, List, [], ◌∷◌, length, slice_index}
use Rattle.avr_isa.specs.Cpu.{flash_byte}
use Rattle.vg_codes.specs.declared.case.Case.{Case}
use Rattle.vg_lin.specs.declared.instr.Memory.TheVariants.{Flash}
use Rattle.vg_lin.specs.State.{first_address}

-- the flash holds these bytes where tables stand, all of them within the 64 KB that LPM reads
pub record HoldsTables (flash tables : List ℕ) : Type 0 where
  pub each : (i : ℕ) → i < length tables → flash_byte flash (first_address Flash + i) ≡ slice_index tables i
  pub inside : first_address Flash + length tables ≤ 65536

-- the numbers of a case have two bytes, and so has the code number of its procedure
pub record IsCase (codes : ℕ → ℕ) (c : Case) : Type 0 where
  pub first : c.first < 65536
  pub count : c.count < 65536
  pub last : c.first + c.count ≤ 65536
  pub code : codes c.procedure < 65536

abbrev pub AreCases : (codes : ℕ → ℕ) → List Case → Type 0
AreCases codes [] = Unit {0}
AreCases codes (c ∷ cs) = IsCase codes c × AreCases codes cs
