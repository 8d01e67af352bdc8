-- SRAM as the code sees it: the static area, bytes that are free, and the stack.
use Rattle.std.specs.Prelude.{ℕ, ◌≡◌, ◌+◌, ◌<◌, List, ◌++◌, length, slice_index, slice_set}

-- the static area begins at 0x0100 and the stack ends at 0x10FF; SP points at the last free byte, and the newest byte of the stack comes first
pub record Divided (static stack sram : List ℕ) (sp : ℕ) : Type 0 where
  pub free : List ℕ
  pub bytes : sram ≡ static ++ (free ++ stack)
  pub pointer : sp + 1 ≡ 0x100 + length static + length free
  pub size : length static + length free + length stack ≡ 4096

-- a byte of SRAM that the code sees: of the static area, or of the stack, where 0 is the newest
pub data Cell : Type 0 where
  InStatic : (i : ℕ) → Cell
  OnStack : (j : ℕ) → Cell

-- the data address at which it lies
abbrev pub LiesAt : (static stack : List ℕ) → Cell → (address : ℕ) → Type 0
LiesAt static stack (InStatic i) address = (i < length static) × (address ≡ 0x100 + i)
LiesAt static stack (OnStack j) address = (j < length stack) × (address + length stack ≡ 0x1100 + j)

-- what it holds
abbrev pub byte_at : (static stack : List ℕ) → Cell → ℕ
byte_at static stack (InStatic i) = slice_index static i
byte_at static stack (OnStack j) = slice_index stack j

-- the static area and the stack with a value in it
abbrev pub static_with : Cell → (value : ℕ) → List ℕ → List ℕ
static_with (InStatic i) value static = slice_set static i value
static_with (OnStack j) value static = static

abbrev pub stack_with : Cell → (value : ℕ) → List ℕ → List ℕ
stack_with (InStatic i) value stack = stack
stack_with (OnStack j) value stack = slice_set stack j value
