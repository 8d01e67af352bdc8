-- The code for loads and stores of columns in RAM. X points to the bytes, one behind the other.
use Rattle.std.specs.Prelude.{ℕ, zero, suc, ◌+◌, ◌-◌, ◌/◌, ◌%◌, ◌==◌, Bool, true, false, nat_le, List, [], ◌∷◌, ◌++◌, if◌then◌else◌}
use Rattle.avr_instr.specs.declared.instr.Instr.{Instr}
use Rattle.avr_instr.specs.declared.instr.Instr.TheVariants.{LdXPlus, Lds, Sbci, StXPlus, Sts, Subi}
use Rattle.vg_lin.specs.declared.instr.Operand.{Operand}
use Rattle.vg_lin.specs.declared.instr.Operand.TheVariants.{Local, Known}
use Rattle.vg_templates.specs.Layouts.{Layout}
use Rattle.vg_templates.specs.Transfers.{known}
use Rattle.vg_templates.specs.Held.{brings}
use Rattle.vg_templates.specs.Homes.{home_of, made_in, settles}
use Rattle.vg_templates.specs.Operands.{finds, found_in}

-- a base is added to a pair of registers, as 65,536 less it is taken away; the base 0 costs nothing
abbrev pub plus_base : (d base : ℕ) → List Instr
plus_base d base = if base == 0 then [] else Subi d ((65536 - base) % 256) ∷ Sbci (d + 1) ((65536 - base) / 256) ∷ []

-- X is the address of a base with an index added
abbrev pub points_x : Layout → (base : ℕ) → Operand → List Instr
points_x l base (Known x) = known 26 2 (base + x)
points_x l base (Local k) = brings l (Local k) 26 2 ++ plus_base 26 base

abbrev pub loads_x : (d count : ℕ) → List Instr
loads_x d zero = []
loads_x d (suc n) = LdXPlus d ∷ loads_x (suc d) n

abbrev pub stores_x : List ℕ → List Instr
stores_x [] = []
stores_x (r ∷ rs) = StXPlus r ∷ stores_x rs

-- One or two bytes at a known address are reached by instructions that have the address: no pointer is loaded.
abbrev pub is_near : (width : ℕ) → (index : Operand) → Bool
is_near w (Known x) = nat_le w 2
is_near w (Local k) = false

abbrev pub address_of : (base : ℕ) → (index : Operand) → ℕ
address_of base (Known x) = base + x
address_of base (Local k) = base

abbrev pub loads_at : (d count address : ℕ) → List Instr
loads_at d zero a = []
loads_at d (suc n) a = Lds d (a % 65536) ∷ loads_at (suc d) n (suc a)

abbrev pub stores_at : List ℕ → (address : ℕ) → List Instr
stores_at [] a = []
stores_at (r ∷ rs) a = Sts (a % 65536) r ∷ stores_at rs (suc a)

-- X points to the address, unless it is near; and bytes come from there into registers from d on, or go there from registers
abbrev pub points_by : (near : Bool) → Layout → (base : ℕ) → (index : Operand) → List Instr
points_by true l base index = []
points_by false l base index = points_x l base index

abbrev pub loads_by : (near : Bool) → (d count address : ℕ) → List Instr
loads_by true d n a = loads_at d n a
loads_by false d n a = loads_x d n

abbrev pub stores_by : (near : Bool) → List ℕ → (address : ℕ) → List Instr
stores_by true rs a = stores_at rs a
stores_by false rs a = stores_x rs

-- so many bytes of a column go to a local
abbrev pub loads_column : Layout → (width to base : ℕ) → (index : Operand) → List Instr
loads_column l w to base index =
    let near = is_near w index in
    let h = home_of l to w in
    points_by near l base index ++ (loads_by near (made_in h) w (address_of base index) ++ settles l to h w)

-- so many low bytes of a value go to a column, from the registers in which they are found
abbrev pub stores_column : Layout → (width base : ℕ) → (index from : Operand) → List Instr
stores_column l w base index from =
    let near = is_near w index in
    points_by near l base index ++ (finds l from 22 w ++ stores_by near (found_in l from 22 w) (address_of base index))
