-- What a chain makes of the registers.
use Rattle.std.specs.Prelude.{ℕ, zero, suc, ◌≡◌, ◌+◌, ◌*◌, ◌/◌, ◌%◌, ◌^◌, ◌<◌, ◌≤◌, ◌⊎◌, ◌==◌, nat_lt}
use Rattle.avr_view.specs.Registers.{Regs, carried}
use Rattle.vg_templates.specs.Spots.{number}

-- so many registers from d on hold a number, the others are as they were
pub record Computed (d count value : ℕ) (old new : Regs) : Type 0 where
  pub holds : number new d count ≡ value
  pub others : (r : ℕ) → (r < d) ⊎ (d + count ≤ r) → new.of r ≡ old.of r

-- they hold the sum of two numbers and a carry, up to the carry out of it
pub record Summed (d count left right carry : ℕ) (old new : Regs) : Type 0 where
  pub sum : number new d count + 256 ^ count * carried new ≡ left + right + carry
  pub others : (r : ℕ) → (r < d) ⊎ (d + count ≤ r) → new.of r ≡ old.of r

-- they hold the difference of two numbers less a borrow, up to the borrow out of it
pub record Taken (d count left right borrow : ℕ) (old new : Regs) : Type 0 where
  pub difference : number new d count + (right + borrow) ≡ left + 256 ^ count * carried new
  pub others : (r : ℕ) → (r < d) ⊎ (d + count ≤ r) → new.of r ≡ old.of r

-- the carry, and Z, tell how two numbers of so many bytes compare; and N and V together how they compare as signed ones
pub record Compared (left right : ℕ) (old new : Regs) : Type 0 where
  pub below : new.flags.carry ≡ nat_lt left right
  pub equal : new.flags.zero ≡ (left == right)
  pub registers : (r : ℕ) → new.of r ≡ old.of r

-- a number of so many bytes with its highest bit turned over: signed numbers in order
abbrev pub from_least : (count value : ℕ) → ℕ
from_least zero x = 0
from_least (suc zero) x = (x + 128) % 256
from_least (suc (suc n)) x = x % 256 + 256 * from_least (suc n) (x / 256)
