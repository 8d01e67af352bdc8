-- What calls and delegates become, from where values wait.
use Rattle.std.specs.Prelude.{ℕ, ◌+◌, ◌-◌, Bool, true, false, List, [], ◌∷◌, length, take, drop, Option, Some, None, slice_get}
use Rattle.vg_lin.specs.declared.instr.Operand.{Operand}
use Rattle.vg_lin.specs.declared.instr.Operand.TheVariants.{Local as InLocal, Known}
use Rattle.vg_lin.specs.declared.instr.Operator.TheVariants.{Plus as Sum}
use Rattle.vg_lin.specs.declared.instr.Operator.TheVariants.{ShiftLeft as LeftShift, ShiftRight as RightShift}
use Rattle.vg_lin.specs.declared.instr.Plain.TheVariants.{Compute, Find, CodeOf}
use Rattle.vg_lin.specs.declared.instr.Callee.TheVariants.{Procedure, Code}
use Rattle.vg_lin.specs.declared.instr.Registers.{Registers}
use Rattle.vg_lin.specs.declared.instr.Registers.TheVariants.{Empty, One as One', Two, Three, Four}
use Rattle.vg_flatten_shapes.specs.declared.fault.Fault.TheVariants.{NotTaken}
use Rattle.vg_flatten_shapes.specs.declared.layout.Layout.{Layout}
use Rattle.vg_flatten_shapes.specs.declared.layout.Passing.{Passing}
use Rattle.vg_flatten_shapes.specs.declared.layout.Width.{Width}
use Rattle.vg_flatten_shapes.specs.declared.layout.Width.TheVariants.{Two as Two', Four as Four'}
use Rattle.vg_flatten_shapes.specs.Widths.{bytes_of}
use Rattle.vg_flatten_shapes.specs.declared.room.Room.{Room}
use Rattle.vg_lin.specs.declared.instr.Callee.{Callee}
use Rattle.vg_lin.specs.declared.instr.Passed.{Passed}
use Rattle.vg_lin.specs.declared.instr.Target.{Target}
use Rattle.vg_lin.specs.declared.instr.Call.{Call as Calling}
use Rattle.vg_flatten_shapes.specs.declared.open.Truth.TheVariants.{Holds}
use Rattle.vg_flatten_shapes.specs.Shapes.{Taken, only, taken, temp}
use Rattle.vg_flatten_shapes.specs.Blocks.{Block, One, CallTo, Both, stop_where}
use Rattle.vg_flatten_shapes.specs.Made.{Made, Gives, Refused, by_temp, is_zero}
use Rattle.vg_flatten_places.specs.Places.{null_check}

-- Arguments in so many bytes each; where no width is known, in four.
abbrev pub in_widths : List Width → List Operand → List Passed
in_widths ws [] = []
in_widths [] (a ∷ more) = record { width = 4; value = a } ∷ in_widths [] more
in_widths (w ∷ ws) (a ∷ more) = record { width = bytes_of w; value = a } ∷ in_widths ws more

-- The last four arguments go in registers.
abbrev pub registers_of : List Passed → Registers
registers_of (a ∷ []) = One' a
registers_of (a ∷ b ∷ []) = Two a b
registers_of (a ∷ b ∷ c ∷ []) = Three a b c
registers_of (a ∷ b ∷ c ∷ d ∷ []) = Four a b c d
registers_of _ = Empty

-- Those before them are pushed.
abbrev pub pushed_of : List Passed → List Passed
pushed_of xs = take (length xs - 4) xs

abbrev pub call_with : Callee → Option Target → List Passed → Calling
call_with callee to xs = record { callee = callee; pushed = length xs - 4; registers = registers_of (drop (length xs - 4) xs); to = to }

-- A call with these arguments, whose result may go to a local.
abbrev pub passing : Callee → Option Target → List Passed → Block
passing callee to xs = CallTo (pushed_of xs) (call_with callee to xs)

-- What is made with so many arguments, the first of them first, and what waits below them.
abbrev pub with_taken : Option Taken → (List Operand → List Operand → Made) → Made
with_taken (Some t) go = go t.args t.rest
with_taken None go = Refused NotTaken

-- How a procedure is called of which nothing is known.
abbrev pub plain_passing : Passing
plain_passing = record { receives = false; widths = []; result = Some Four' }

abbrev pub passing_of : Option Passing → Passing
passing_of (Some p) = p
passing_of None = plain_passing

-- A procedure that gets a receiver is called on none.
abbrev pub with_receiver : Bool → List Operand → List Operand
with_receiver true xs = Known 0 ∷ xs
with_receiver false xs = xs

-- A call whose result goes to a temporary, where it has one; else 0 stands for it, which costs no code.
abbrev pub resulting : Room → Callee → Option Width → List Passed → (rest : List Operand) → Made
resulting r callee (Some w) xs rest =
    by_temp (temp r rest) (λ to. Gives (passing callee (Some (record { width = bytes_of w; local = to })) xs) (only (InLocal to ∷ rest)))
resulting r callee None xs rest = Gives (passing callee None xs) (only (Known 0 ∷ rest))

abbrev pub called_as : Room → (q : ℕ) → Passing → (xs rest : List Operand) → Made
called_as r q p xs rest = resulting r (Procedure q) p.result (in_widths p.widths (with_receiver p.receives xs)) rest

abbrev pub called : Layout → Room → (q count : ℕ) → List Operand → Made
called lay r q count hs = with_taken (taken count hs) (called_as r q (passing_of (slice_get lay.passing q)))

-- A procedure that is found in the run gets two bytes of its receiver, which is the first argument, and four of each other; and it gives
-- back four.
abbrev pub passing_found : Callee → (to : ℕ) → List Operand → Block
passing_found callee to xs = passing callee (Some (record { width = 4; local = to })) (in_widths (Two' ∷ []) xs)

-- Behind the null check of the receiver, its procedure is found, and called on it.
abbrev pub found_and_called : Room → (d to code : ℕ) → Operand → List Operand → Block
found_and_called r d to code h xs = Both (null_check r h) (Both (One (Find d code h)) (passing_found (Code (InLocal code)) to (h ∷ xs)))

abbrev pub called_on : Room → (d code : ℕ) → (xs rest : List Operand) → Made
called_on r d code (h ∷ xs) rest = by_temp (temp r rest) (λ to. Gives (found_and_called r d to code h xs) (only (InLocal to ∷ rest)))
called_on r d code [] rest = Refused NotTaken

abbrev pub called_for : Room → (d count : ℕ) → List Operand → Made
called_for r d count hs = by_temp (temp r hs) (λ code. with_taken (taken (count + 1) hs) (called_on r d code))

-- Behind the null check of a delegate, its procedure is called on its receiver.
abbrev pub parted_and_called : (to receiver : ℕ) → Operand → List Operand → Block
parted_and_called to receiver h xs =
    Both (stop_where 1 (Holds (is_zero h)))
    (Both (One (Compute (record { operator = RightShift; width = 4; to = receiver; left = h; right = Known 16 }))) (passing_found (Code h) to (InLocal receiver ∷ xs)))

abbrev pub called_by : Room → (receiver : ℕ) → (xs rest : List Operand) → Made
called_by r receiver (h ∷ xs) rest = by_temp (temp r rest) (λ to. Gives (parted_and_called to receiver h xs) (only (InLocal to ∷ rest)))
called_by r receiver [] rest = Refused NotTaken

abbrev pub called_value : Room → (count : ℕ) → List Operand → Made
called_value r count hs = by_temp (temp r hs) (λ receiver. with_taken (taken (count + 1) hs) (called_by r receiver))

-- ---- delegates

abbrev pub bound : Room → (q : ℕ) → List Operand → Made
bound r q hs = by_temp (temp r hs) (λ to. Gives (One (CodeOf q to)) (only (InLocal to ∷ hs)))

-- Behind the null check of the receiver: its number goes above the code number of its procedure.
abbrev pub found_and_bound : Room → (d to above : ℕ) → Operand → Block
found_and_bound r d to above h =
    Both (null_check r h)
    (Both (One (Compute (record { operator = LeftShift; width = 4; to = above; left = h; right = Known 16 })))
    (Both (One (Find d to h)) (One (Compute (record { operator = Sum; width = 4; to = to; left = InLocal to; right = InLocal above })))))

abbrev pub bound_for : Room → (d : ℕ) → List Operand → Made
bound_for r d (h ∷ hs) =
    by_temp (temp r hs) (λ to. by_temp (temp r (h ∷ hs)) (λ above. Gives (found_and_bound r d to above h) (only (InLocal to ∷ hs))))
bound_for r d [] = Refused NotTaken
