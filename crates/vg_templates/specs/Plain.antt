-- The code for plain instructions of linear code. Values are worked on in r22 to r25, and a right one comes into r18 to r21.
use Rattle.std.specs.Prelude.{ℕ, zero, suc, ◌-◌, ◌/◌, ◌^◌, ◌%◌, ◌==◌, Bool, true, false, not, ◌&&◌, ◌||◌, nat_le, nat_lt, if◌then◌else◌, Option, Some, None, List, [], ◌∷◌, ◌++◌}
use Rattle.avr_instr.specs.declared.instr.Instr.{Instr}
use Rattle.avr_instr.specs.declared.instr.Instr.TheVariants.{In, Lds, Out, Sts}
use Rattle.vg_lin.specs.declared.instr.Operand.{Operand}
use Rattle.vg_lin.specs.declared.instr.Operand.TheVariants.{Local, Known}
use Rattle.vg_lin.specs.declared.instr.Operator.{Operator}
use Rattle.vg_lin.specs.declared.instr.Operator.TheVariants.{Plus, Minus, And, Or, Xor}
use Rattle.vg_lin.specs.declared.instr.Computation.{Computation}
use Rattle.vg_templates.specs.Spots.{Spot, InFrame, InRegisters}
use Rattle.vg_templates.specs.Layouts.{Layout, width_of}
use Rattle.vg_templates.specs.Linkage.{pushes}
use Rattle.vg_templates.specs.Transfers.{known, fetch}
use Rattle.vg_templates.specs.Held.{brings, gives}
use Rattle.vg_templates.specs.Homes.{home_of, made_in, settles, is_clear, clear_home}
use Rattle.vg_templates.specs.Chains.{adds, subtracts, takes_known, ands, ors, eors}
use Rattle.vg_templates.specs.Operands.{least, finds, found_in}

-- so many low bytes of a value go to a local, and zeros behind them
abbrev pub copies_low : Layout → (to : ℕ) → Operand → (count : ℕ) → List Instr
copies_low l to a n = brings l a 22 n ++ gives l to 22 n

-- a known number goes to a local, by as many instructions whatever the number
abbrev pub copies_whole : Layout → (to value : ℕ) → List Instr
copies_whole l to x = known 22 (width_of l to) x ++ gives l to 22 (width_of l to)

-- how many low bytes of a number, of so many, have only zeros behind them
abbrev pub bytes_in : (most value : ℕ) → ℕ
bytes_in zero v = zero
bytes_in (suc n) v = if v == 0 then zero else suc (bytes_in n (v / 256))

-- the value of a local comes into the registers of another one, where these have none of its bytes, or it goes through scratch ones
abbrev pub copies_through : Layout → (to from : ℕ) → List Instr
copies_through l to k =
    let w = width_of l to in
    let h = clear_home (l.spots k) (width_of l k) w (home_of l to w) in
    brings l (Local k) (made_in h) w ++ settles l to h w

-- from registers it goes to the frame at once
abbrev pub copies_local : (target source : Spot) → Layout → (to from : ℕ) → List Instr
copies_local (InFrame at) (InRegisters f) l to k = gives l to f (width_of l k)
copies_local s t l to k = copies_through l to k

-- a value goes to a local, without code for the zeros with which a known number ends
abbrev pub copies : Layout → (to : ℕ) → Operand → List Instr
copies l to (Local k) = copies_local (l.spots to) (l.spots k) l to k
copies l to (Known v) = copies_low l to (Known v) (bytes_in (width_of l to) v)

-- the low bytes of a value wait for a call
abbrev pub pushes_value : Layout → (width : ℕ) → Operand → List Instr
pushes_value l w a = finds l a 22 w ++ pushes (found_in l a 22 w)

-- the first of some registers
abbrev pub first_of : List ℕ → ℕ
first_of [] = 1
first_of (r ∷ rs) = r

-- a device register is written, and read: IN and OUT reach the addresses from 0x20 to 0x5F, in one word
abbrev pub writes_register : (address r : ℕ) → List Instr
writes_register a r = if nat_le 0x20 a && nat_lt a 0x60 then Out (a - 0x20) r ∷ [] else Sts a r ∷ []

abbrev pub reads_register : (r address : ℕ) → List Instr
reads_register r a = if nat_le 0x20 a && nat_lt a 0x60 then In r (a - 0x20) ∷ [] else Lds r a ∷ []

abbrev pub writes_device : Layout → (address : ℕ) → Operand → List Instr
writes_device l address a = finds l a 22 1 ++ writes_register address (first_of (found_in l a 22 1))

abbrev pub reads_device : Layout → (to address : ℕ) → List Instr
reads_device l to address =
    let h = home_of l to 1 in
    reads_register (made_in h) address ++ settles l to h 1

-- operators that work byte by byte
abbrev pub IsBytewise : Operator → Type 0
IsBytewise Plus = Unit {0}
IsBytewise Minus = Unit {0}
IsBytewise And = Unit {0}
IsBytewise Or = Unit {0}
IsBytewise Xor = Unit {0}
IsBytewise _ = ⊥

abbrev pub is_bytewise : Operator → Bool
is_bytewise Plus = true
is_bytewise Minus = true
is_bytewise And = true
is_bytewise Or = true
is_bytewise Xor = true
is_bytewise _ = false

-- what they do, on the number in registers from d on and one in other registers
abbrev pub operates : (d : ℕ) → Operator → List ℕ → List Instr
operates d Plus rs = adds d rs
operates d Minus rs = subtracts d rs
operates d And rs = ands d rs
operates d Or rs = ors d rs
operates d Xor rs = eors d rs
operates d _ rs = []

-- the right operand comes in and is worked with
abbrev pub works_with : Layout → (d : ℕ) → Operator → Operand → (count : ℕ) → List Instr
works_with l d o a n = finds l a 18 n ++ operates d o (found_in l a 18 n)

-- the same in r22 and behind it: a known one stands in SUBI and SBCI itself
abbrev pub works : Layout → Operator → Operand → (count : ℕ) → List Instr
works l Plus (Known y) n = takes_known 22 n (256 ^ n - y % 256 ^ n)
works l Minus (Known y) n = takes_known 22 n y
works l o a n = works_with l 22 o a n

-- whether so many bytes of an operand are in registers from one on already
abbrev pub stands : Spot → (width first count : ℕ) → Bool
stands (InFrame at) w r n = false
stands (InRegisters f) w r n = (f == r) && nat_le n w

abbrev pub is_there : Layout → Operand → (first count : ℕ) → Bool
is_there l (Known x) r n = false
is_there l (Local j) r n = stands (l.spots j) (width_of l j) r n

-- whether a local has no byte in registers; and of known numbers, whether those in SUBI and SBCI are no shorter
abbrev pub suits_left : Layout → Operand → (first count : ℕ) → Bool
suits_left l (Known x) r n = false
suits_left l (Local j) r n = is_clear (l.spots j) (width_of l j) r n

abbrev pub suits_right : Layout → Operand → (first width : ℕ) → Bool
suits_right l (Known y) r w = true
suits_right l (Local j) r w = is_clear (l.spots j) (width_of l j) r w

abbrev pub is_known : Operand → Bool
is_known (Known y) = true
is_known (Local j) = false

-- A computation works in a home where the right operand has no byte, and the left one stands or comes.
abbrev pub works_at : Layout → Computation → (first count : ℕ) → Bool
works_at l c r n =
    is_bytewise c.operator && suits_right l c.right r (width_of l c.to)
    && (is_there l c.left r n || (not (is_known c.right) && suits_left l c.left r n))

abbrev pub work_home : Layout → Computation → (count : ℕ) → Option ℕ → Option ℕ
work_home l c n None = None
work_home l c n (Some r) = if works_at l c r n then Some r else None

-- the left operand comes, unless it stands there; it is no known number
abbrev pub comes : (there : Bool) → Layout → Operand → (d count : ℕ) → List Instr
comes there l (Known x) d n = []
comes true l (Local j) d n = []
comes false l (Local j) d n = fetch (l.spots j) (width_of l j) d n

-- a computation, of no more bytes than its local has
abbrev pub computes_in : Layout → Computation → Option ℕ → (count : ℕ) → List Instr
computes_in l c None n = brings l c.left 22 n ++ (works l c.operator c.right n ++ gives l c.to 22 n)
computes_in l c (Some r) n = comes (is_there l c.left r n) l c.left r n ++ (works_with l r c.operator c.right n ++ settles l c.to (Some r) n)

abbrev pub computes : Layout → Computation → List Instr
computes l c =
    let n = least c.width (width_of l c.to) in
    computes_in l c (work_home l c n (home_of l c.to n)) n
