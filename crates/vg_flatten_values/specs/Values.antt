-- What operators become, from where values wait.
use Rattle.std.specs.Prelude.{ℕ, ◌-◌, ◌^◌, Bool, true, ◌==◌, nat_lt, nat_le, List, [], ◌∷◌, Option, Some, None, if◌then◌else◌}
use Rattle.vg_firm.specs.declared.step.Order.{Order}
use Rattle.vg_firm.specs.declared.step.Order.TheVariants.{Signed, Unsigned}
use Rattle.vg_firm.specs.declared.step.Operator.{Operator}
use Rattle.vg_firm.specs.declared.step.Operator.TheVariants.{Plus, Minus, Times, Divide, Remainder, Less, AtMost, Greater, AtLeast, Equal, Unequal}
use Rattle.vg_firm.specs.declared.step.Operator.TheVariants.{And, Or, Xor, ShiftLeft, ShiftRight, Concat}
use Rattle.vg_firm.specs.declared.step.Prefix.{Prefix}
use Rattle.vg_firm.specs.declared.step.Prefix.TheVariants.{Negative, Not, Complement, Cut}
use Rattle.vg_lin.specs.declared.instr.Operand.{Operand}
use Rattle.vg_lin.specs.declared.instr.Operand.TheVariants.{Local as InLocal, Known}
use Rattle.vg_lin.specs.declared.instr.Operator.{Operator as LinOperator}
use Rattle.vg_lin.specs.declared.instr.Operator.TheVariants.{Plus as Sum, Minus as Difference, Times as Product, And as Both', Or as Either', Xor as Unlike}
use Rattle.vg_lin.specs.declared.instr.Operator.TheVariants.{Divide as Quotient, Remainder as Rest, ShiftLeft as LeftShift, ShiftRight as RightShift}
use Rattle.vg_lin.specs.declared.instr.Comparison.{Comparison}
use Rattle.vg_lin.specs.declared.instr.Comparison.TheVariants.{Below, Less as IsLess, Same}
use Rattle.vg_lin.specs.declared.instr.Test.{Test}
use Rattle.vg_lin.specs.declared.instr.Plain.TheVariants.{Compute}
use Rattle.vg_flatten_shapes.specs.declared.fault.Fault.TheVariants.{NotTaken}
use Rattle.vg_flatten_shapes.specs.declared.open.Truth.{Truth}
use Rattle.vg_flatten_shapes.specs.declared.room.Room.{Room}
use Rattle.vg_flatten_shapes.specs.declared.open.Truth.TheVariants.{Holds, Fails}
use Rattle.vg_flatten_shapes.specs.Shapes.{only, temp}
use Rattle.vg_flatten_shapes.specs.Blocks.{Block, Skip, One, Both, stop_where}
use Rattle.vg_flatten_shapes.specs.Made.{Made, Gives, Refused, by_temp, is_zero}

-- ---- operators

abbrev pub computing : Operator → Option LinOperator
computing Plus = Some Sum
computing Minus = Some Difference
computing Times = Some Product
computing And = Some Both'
computing Or = Some Either'
computing Xor = Some Unlike
computing _ = None

abbrev pub by_order : Order → Comparison
by_order Signed = IsLess
by_order Unsigned = Below

abbrev pub test_of : Comparison → (x y : Operand) → Test
test_of c x y = record { comparison = c; width = 4; left = x; right = y }

-- At most is the opposite of greater.
abbrev pub comparing : Operator → (x y : Operand) → Option Truth
comparing (Less o) x y = Some (Holds (test_of (by_order o) x y))
comparing (AtMost o) x y = Some (Fails (test_of (by_order o) y x))
comparing (Greater o) x y = Some (Holds (test_of (by_order o) y x))
comparing (AtLeast o) x y = Some (Fails (test_of (by_order o) x y))
comparing Equal x y = Some (Holds (test_of Same x y))
comparing Unequal x y = Some (Fails (test_of Same x y))
comparing _ x y = None

-- A computation of so many bytes to the temporary above what waits.
abbrev pub computed : Room → LinOperator → (width : ℕ) → (x y : Operand) → List Operand → Made
computed r op width x y hs =
    by_temp (temp r hs) (λ to. Gives (One (Compute (record { operator = op; width = width; to = to; left = x; right = y }))) (only (InLocal to ∷ hs)))

-- The bytes of so many bits, where they are whole.
abbrev pub bytes_of : (bits : ℕ) → Option ℕ
bytes_of bits = if bits == 8 then Some 1 else if bits == 16 then Some 2 else if bits == 24 then Some 3 else if bits == 32 then Some 4 else None

-- The bytes that hold so many bits, and more.
abbrev pub bytes_around : (bits : ℕ) → Option ℕ
bytes_around bits =
    if nat_lt bits 8 then Some 1 else if nat_lt bits 16 then Some 2 else if nat_lt bits 24 then Some 3 else if nat_lt bits 32 then Some 4 else None

-- Whether a number may be 0, for all that is known.
abbrev pub may_be_zero : Operand → Bool
may_be_zero (InLocal i) = true
may_be_zero (Known v) = v == 0

-- The run stops where a divisor is 0.
abbrev pub divisor_checked : Operand → Block
divisor_checked y = if may_be_zero y then stop_where 3 (Holds (is_zero y)) else Skip

abbrev pub divided : Room → LinOperator → (x y : Operand) → List Operand → Made
divided r op x y hs =
    by_temp (temp r hs) (λ to. Gives (Both (divisor_checked y) (One (Compute (record { operator = op; width = 4; to = to; left = x; right = y }))))
    (only (InLocal to ∷ hs)))

-- What a shift to the left leaves above so many bits is cleared, where they are no whole bytes.
abbrev pub masked : Room → (bits : ℕ) → Option ℕ → (x y : Operand) → List Operand → Made
masked r bits (Some width) x y hs =
    by_temp (temp r hs) (λ to. Gives (Both (One (Compute (record { operator = LeftShift; width = width; to = to; left = x; right = y })))
    (One (Compute (record { operator = Both'; width = width; to = to; left = InLocal to; right = Known (2 ^ bits - 1) })))) (only (InLocal to ∷ hs)))
-- there is no string of more than 32 bits
masked r bits None x y hs = Gives Skip (only (Known 0 ∷ hs))

abbrev pub shifted_left : Room → (bits : ℕ) → Option ℕ → (x y : Operand) → List Operand → Made
shifted_left r bits (Some width) x y hs = computed r LeftShift width x y hs
shifted_left r bits None x y hs = masked r bits (bytes_around bits) x y hs

-- The bytes that hold a string of so many bits.
abbrev pub bytes_for : (bits : ℕ) → ℕ
bytes_for bits = if nat_le bits 8 then 1 else if nat_le bits 16 then 2 else if nat_le bits 24 then 3 else 4

-- A shift to the right by all bits, or more, leaves nothing of a string.
abbrev pub shifted_right : Room → (bits : ℕ) → (x y : Operand) → List Operand → Made
shifted_right r bits x (Known n) hs =
    if nat_lt n bits then computed r RightShift (bytes_for bits) x (Known n) hs else Gives Skip (only (Known 0 ∷ hs))
shifted_right r bits x (InLocal i) hs = computed r RightShift (bytes_for bits) x (InLocal i) hs

-- A string is put behind another.
abbrev pub concatenated : Room → (bits : ℕ) → (x y : Operand) → List Operand → Made
concatenated r bits x y hs =
    by_temp (temp r hs) (λ to. Gives (Both (One (Compute (record { operator = LeftShift; width = 4; to = to; left = x; right = Known bits })))
    (One (Compute (record { operator = Sum; width = 4; to = to; left = InLocal to; right = y })))) (only (InLocal to ∷ hs)))

-- What is neither one computation nor a comparison.
abbrev pub combined : Room → Operator → (x y : Operand) → List Operand → Made
combined r Divide x y hs = divided r Quotient x y hs
combined r Remainder x y hs = divided r Rest x y hs
combined r (ShiftLeft bits) x y hs = shifted_left r bits (bytes_of bits) x y hs
combined r (ShiftRight bits) x y hs = shifted_right r bits x y hs
combined r (Concat bits) x y hs = concatenated r bits x y hs
-- all others are computations or comparisons
combined r op x y hs = Gives Skip (only (Known 0 ∷ hs))

abbrev pub operated_as : Room → Operator → Option LinOperator → Option Truth → (x y : Operand) → List Operand → Made
operated_as r op (Some lop) t x y hs = computed r lop 4 x y hs
operated_as r op None (Some t) x y hs = Gives Skip (record { truth = Some t; homes = hs })
operated_as r op None None x y hs = combined r op x y hs

abbrev pub operated : Room → Operator → List Operand → Made
operated r op (y ∷ x ∷ hs) = operated_as r op (computing op) (comparing op x y) x y hs
operated r op _ = Refused NotTaken

-- So many low bits of a number: whole bytes, or what a mask leaves; each number has at most 32.
abbrev pub cut_bits : Room → (bits : ℕ) → Option ℕ → Operand → List Operand → Made
cut_bits r bits (Some width) h hs = computed r Both' width h (Known (2 ^ bits - 1)) hs
cut_bits r bits None h hs = Gives Skip (only (h ∷ hs))

abbrev pub cut : Room → (bits : ℕ) → Option ℕ → Operand → List Operand → Made
cut r bits (Some width) h hs = computed r Sum width h (Known 0) hs
cut r bits None h hs = cut_bits r bits (bytes_around bits) h hs

abbrev pub applied : Room → Prefix → List Operand → Made
applied r Not (h ∷ hs) = Gives Skip (record { truth = Some (Holds (is_zero h)); homes = hs })
applied r Negative (h ∷ hs) = computed r Difference 4 (Known 0) h hs
applied r (Cut bits) (h ∷ hs) = cut r bits (bytes_of bits) h hs
applied r (Complement bits) (h ∷ hs) =
    if nat_le bits 32 then computed r Difference (bytes_for bits) (Known (2 ^ bits - 1)) h hs else Gives Skip (only (Known 0 ∷ hs))
applied r _ _ = Refused NotTaken
