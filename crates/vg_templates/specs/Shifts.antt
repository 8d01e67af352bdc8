-- The code for shifts by known amounts: whole bytes are moved by where they come in or from where they come, and the bits that are left over are shifted
-- one at a time, in registers of the local that gets the value or in scratch ones.
use Rattle.std.specs.Prelude.{ℕ, zero, suc, ◌+◌, ◌-◌, ◌/◌, ◌%◌, ◌^◌, Bool, true, false, ◌&&◌, ◌||◌, nat_le, nat_lt, if◌then◌else◌, Option, Some, None}
use Rattle.std.specs.Prelude.{List, [], ◌∷◌, ◌++◌}
use Rattle.avr_instr.specs.declared.instr.Instr.{Instr}
use Rattle.avr_instr.specs.declared.instr.Instr.TheVariants.{Adc, Add, Lsr, Ror}
use Rattle.vg_lin.specs.declared.instr.Operand.{Operand}
use Rattle.vg_lin.specs.declared.instr.Operand.TheVariants.{Local, Known}
use Rattle.vg_templates.specs.Spots.{Spot, InFrame, InRegisters}
use Rattle.vg_templates.specs.Layouts.{Layout, width_of}
use Rattle.vg_templates.specs.Transfers.{clears, known, moves, reach, loads}
use Rattle.vg_templates.specs.Homes.{home_of, made_in, settles}
use Rattle.vg_templates.specs.Operands.{least}
use Rattle.vg_templates.specs.Plain.{is_there}

-- the number in so many registers from d on is doubled; the second form adds the carry
abbrev pub doubles_on : (d count : ℕ) → List Instr
doubles_on d zero = []
doubles_on d (suc n) = Adc d d ∷ doubles_on (suc d) n

abbrev pub doubles : (d count : ℕ) → List Instr
doubles d zero = []
doubles d (suc n) = Add d d ∷ doubles_on (suc d) n

-- and halved, from its highest byte on
abbrev pub halves : (d count : ℕ) → List Instr
halves d zero = []
halves d (suc zero) = Lsr d ∷ []
halves d (suc (suc n)) = halves (suc d) (suc n) ++ Ror d ∷ []

-- code so many times
abbrev pub repeats : (times : ℕ) → List Instr → List Instr
repeats zero is = []
repeats (suc n) is = is ++ repeats n is

-- the value at a spot, without so many low bytes of its width, comes into `count` registers from d on
abbrev pub fetch_above : Spot → (width dropped d count : ℕ) → List Instr
fetch_above (InFrame at) w k d n = (reach at w).code ++ loads (reach at w).base ((reach at w).displacement + k) d (w - k) n
fetch_above (InRegisters r) w k d n = moves (r + k) d (w - k) n

-- the same of an operand, unless its bytes stand there
abbrev pub brings_above : (stand : Bool) → Layout → Operand → (dropped d count : ℕ) → List Instr
brings_above true l a k d n = []
brings_above false l (Local j) k d n = fetch_above (l.spots j) (width_of l j) (least k (width_of l j)) d n
brings_above false l (Known x) k d n = known d n (x / 256 ^ k)

-- whether bits alone are shifted, and the bytes of the operand are in registers from d on already
abbrev pub stays : Layout → Operand → (amount d count : ℕ) → Bool
stays l a n d c = nat_lt 0 n && (nat_lt n 8 && is_there l a d c)

-- whether no byte of a spot, but so many low ones, is in so many registers from one on; and so of an operand, where it is a local
abbrev pub is_clear_above : Spot → (width dropped first count : ℕ) → Bool
is_clear_above (InFrame at) w k d c = true
is_clear_above (InRegisters f) w k d c = nat_le (f + w) d || nat_le (d + c) (f + k)

abbrev pub suits_above : Layout → Operand → (dropped d count : ℕ) → Bool
suits_above l (Local j) k d c = is_clear_above (l.spots j) (width_of l j) (least k (width_of l j)) d c
suits_above l (Known x) k d c = false

-- A shift is made in a home where the bytes of the operand, without the low ones that are dropped, stand or can come above so many zeros.
abbrev pub shift_home : Layout → Operand → (amount dropped zeros count : ℕ) → Option ℕ → Option ℕ
shift_home l a n k z c None = None
shift_home l a n k z c (Some r) = if stays l a n (r + z) c || suits_above l a k (r + z) c then Some r else None

-- the low bytes of a value, shifted left by so many bits, go to a local: the lowest ones are zeros
abbrev pub shifts_left : Layout → (width to : ℕ) → Operand → (amount : ℕ) → List Instr
shifts_left l w to a n =
    let m = least w (width_of l to) in
    let whole = least (n / 8) m in
    let c = m - whole in
    let h = shift_home l a n 0 whole c (home_of l to m) in
    let d = made_in h + whole in
    brings_above (stays l a n d c) l a 0 d c ++ (clears (made_in h) whole ++ (repeats (n % 8) (doubles d c) ++ settles l to h m))

-- the low bytes of a value, shifted right by so many bits, go to a local: the lowest ones are left behind
abbrev pub shifts_right : Layout → (width to : ℕ) → Operand → (amount : ℕ) → List Instr
shifts_right l w to a n =
    let whole = least (n / 8) w in
    let c = w - whole in
    let h = shift_home l a n whole 0 c (home_of l to c) in
    let d = made_in h + 0 in
    brings_above (stays l a n d c) l a whole d c ++ (repeats (n % 8) (halves d c) ++ settles l to h c)
