-- Code numbers: a number of two bytes stands for each procedure, and a delegate is that number with the number of its receiver.
-- Which numbers these are no meaning says; in an image they are the places where the procedures' code stands.
use Rattle.std.specs.Prelude.{◌≡◌, ℕ, ◌+◌, ◌*◌, ◌/◌, ◌%◌, ◌<◌, Option, Some}

pub record Codes : Type 0 where
  pub code : ℕ → ℕ  -- of a procedure
  pub at_code : ℕ → Option ℕ  -- the procedure that a code number stands for

-- Each of so many procedures has a number of two bytes, which is not 0 and stands for it.
pub record AreCodes (count : ℕ) (k : Codes) : Type 0 where
  pub back : (q : ℕ) → q < count → k.at_code (k.code q) ≡ Some q
  pub positive : (q : ℕ) → q < count → 0 < k.code q
  pub two_bytes : (q : ℕ) → q < count → k.code q < 65536

-- A delegate of four bytes: the code number is below, the receiver's number above; a component's method has the receiver 0.
abbrev pub delegate : Codes → (procedure receiver : ℕ) → ℕ
delegate k q receiver = k.code q + 65536 * receiver

-- The code number and the receiver of a delegate.
abbrev pub code_in : ℕ → ℕ
code_in v = v % 65536

abbrev pub receiver_in : ℕ → ℕ
receiver_in v = v / 65536
