-- Values whose numbers stand for them.
use Rattle.std.specs.Prelude.{◌≡◌, ℕ, ◌<◌, true, Option, Some, None}
use Rattle.vg_source.specs.Operators.{AnInt, AChar, Bits}
use Rattle.vg_codes.specs.Codes.{Codes}
use Rattle.vg_core.specs.declared.value.CoreValue.{CoreValue}
use Rattle.vg_core.specs.declared.value.CoreValue.TheVariants.{Int, Bool as Truth, Char, Raw, Null, Obj, Arr, Bound}
use Rattle.vg_coded.specs.Numbers.{Numbering, IsInRange}

-- The numbers of cells and of code have two bytes, and a code number stands for its procedure and is not 0.
pub record HasSmallNumbers (n : Numbering) (k : Codes) : Type 0 where
  pub cells : (cell : ℕ) → n.number cell < 65536
  pub codes : (m q : ℕ) → n.procedure m ≡ Some q → (k.at_code (k.code q) ≡ Some q) × (0 < k.code q) × (k.code q < 65536)

-- A method that has a procedure, and that a delegate may be of.
abbrev pub IsBindable : Numbering → (m : ℕ) → Type 0
IsBindable n m = (q : ℕ) × (n.procedure m ≡ Some q) × (n.bindable m ≡ true)

-- The receiver of a delegate is kept.
abbrev pub IsReceiver : Numbering → Option ℕ → Type 0
IsReceiver n None = Unit {0}
IsReceiver n (Some cell) = 0 < n.number cell

-- A value that a run of a packed program knows: a scalar in its range, null, what lies in a kept cell, or a delegate of a method that
-- delegates may be of, with a kept receiver.
abbrev pub IsKept : Numbering → CoreValue → Type 0
IsKept n (Int z) = IsInRange (AnInt z)
IsKept n (Truth b) = Unit {0}
IsKept n (Char c) = IsInRange (AChar c)
IsKept n (Raw width bits) = IsInRange (Bits width bits)
IsKept n Null = Unit {0}
IsKept n (Obj cell) = 0 < n.number cell
IsKept n (Arr cell) = 0 < n.number cell
IsKept n (Bound receiver m) = IsBindable n m × IsReceiver n receiver
