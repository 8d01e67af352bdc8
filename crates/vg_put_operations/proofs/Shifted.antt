-- The bytes of an amount of bits, where there may be at most so many.
use Rattle.std.proofs.Common.{◌≡◌, ℕ, ◌/◌, min}
use Rattle.vg_templates.specs.Operands.{least}
use Rattle.vg_put_values.proofs.Counting.{least_is}

pub bytes_are : (n m : ℕ) → least (n / 8) m ≡ min (n / 8) m
bytes_are n m = least_is (n / 8) m
