-- How many words the parts of code take that depend on no layout.
use Rattle.std.specs.Prelude.{ℕ, zero, suc, ◌+◌, ◌-◌, ◌*◌, ◌/◌, ◌%◌, ◌≤◌, Bool, true, false, ◌==◌, ◌&&◌, nat_lt, nat_le, if◌then◌else◌}
use Rattle.std.specs.Prelude.{List, [], ◌∷◌, length}
use Rattle.std.proofs.Common.{◌≡◌, refl, arith}
use Rattle.std.proofs.Math.Nat.{suc-mul}
use Rattle.avr_instr.specs.declared.instr.Instr.{Instr}
use Rattle.avr_instr.specs.declared.instr.Instr.TheVariants.{Adiw, In, Lds, Mov, Movw, Out, Push, Ror, Sbci, Sbiw, Sts, Subi}
use Rattle.avr_instr.specs.declared.operand.Base.{Base}
use Rattle.avr_isa.specs.Standing.{widths}
use Rattle.avr_isa.proofs.Standing.{widths-append}
use Rattle.vg_lin.specs.declared.instr.Operator.{Operator}
use Rattle.vg_lin.specs.declared.instr.Operator.TheVariants.{Plus, Minus, Times, Divide, Remainder, And, Or, Xor, ShiftLeft, ShiftRight}
use Rattle.vg_templates.specs.Transfers.{clears, known, known_by, known_number, moves_two, moves, loads, stores, reach_by, reach}
use Rattle.vg_templates.specs.Chains.{adds_on, adds, subtracts_on, subtracts, takes_known_on, takes_known, ands, ors, eors, compares_on, compares}
use Rattle.vg_templates.specs.Linkage.{pushes, pops, y_less, y_more, sp_is_y, takes_slots, drops_slots, frame_pointer}
use Rattle.vg_templates.specs.Shifts.{doubles_on, doubles, halves, repeats}
use Rattle.vg_templates.specs.Plain.{operates, writes_register, reads_register}
use Rattle.vg_templates.specs.Plains.{pops_from}
use Rattle.vg_templates.specs.Branches.{joins, joins_behind}
use Rattle.vg_templates.specs.Returns.{pops_away}
use Rattle.vg_templates.specs.Accesses.{plus_base, loads_x, stores_x, loads_at, stores_at}
use Rattle.vg_templates.specs.Lookups.{loads_z}

-- ---- registers

pub clears_words : (d n : ℕ) → widths (clears d n) ≡ n
clears_words d zero = refl
clears_words d (suc n) = let rest = clears_words (suc d) n in omega (arith, rest)

pub known_words : (d n v : ℕ) → widths (known d n v) ≡ n
known_words d zero v = refl
known_words d (suc n) v = let rest = known_words (suc d) n (v / 256) in omega (arith, rest)

pub number_words : (d n v : ℕ) → widths (known_number d n v) ≤ n
number_words d n v = by_half (n == 4) (d % 2 == 0) (v % 65536 == v / 65536 % 65536) refl
  where
    by_half : (a b c : Bool) → (n == 4) ≡ a → widths (known_by ((a && b) && c) d n v) ≤ n
    by_half true true true e = let four : n ≡ 4 = grind (arith, e) in omega (arith, four)
    by_half true true false e = let same = known_words d n v in omega (arith, same)
    by_half true false c e = let same = known_words d n v in omega (arith, same)
    by_half false b c e = let same = known_words d n v in omega (arith, same)

two_words : (r d : ℕ) → widths (moves_two r d) ≤ 2
two_words r d = by_even ((r % 2 == 0) && (d % 2 == 0))
  where
    by_even : (b : Bool) → widths (if b then Movw d r ∷ [] else Mov d r ∷ Mov (suc d) (suc r) ∷ []) ≤ 2
    by_even true = omega arith
    by_even false = omega arith

pub moves_words : (r d w n : ℕ) → widths (moves r d w n) ≤ n
moves_words r d zero n = let all = clears_words d n in omega (arith, all)
moves_words r d (suc w) zero = by_width w
  where
    by_width : (k : ℕ) → widths (moves r d (suc k) zero) ≤ 0
    by_width k = omega arith
moves_words r d (suc zero) (suc n) = let all = clears_words (suc d) n in omega (arith, all)
moves_words r d (suc (suc w)) (suc zero) = omega arith
moves_words r d (suc (suc w)) (suc (suc n)) =
    let two = two_words r d in
    let rest = moves_words (suc (suc r)) (suc (suc d)) w n in
    let all = widths-append (moves_two r d) (moves (suc (suc r)) (suc (suc d)) w n) in omega (arith, two, rest, all)

-- ---- frames and columns

pub reach_few : (at w : ℕ) → widths (reach at w).code ≤ 3
reach_few at w = by_distance (nat_lt (at + w) 64) (nat_lt (at + w) 124)
  where
    by_distance : (near middle : Bool) → widths (reach_by near middle at).code ≤ 3
    by_distance true middle = omega arith
    by_distance false true = omega arith
    by_distance false false = omega arith

pub loads_words : (b : Base) (q d w n : ℕ) → widths (loads b q d w n) ≡ n
loads_words b q d zero n = clears_words d n
loads_words b q d (suc w) zero = refl
loads_words b q d (suc w) (suc n) = let rest = loads_words b (suc q) (suc d) w n in omega (arith, rest)

pub stores_words : (b : Base) (q r w n : ℕ) → widths (stores b q r w n) ≡ w
stores_words b q r zero n = refl
stores_words b q r (suc w) zero = let rest = stores_words b (suc q) r w zero in omega (arith, rest)
stores_words b q r (suc w) (suc n) = let rest = stores_words b (suc q) (suc r) w n in omega (arith, rest)

pub base_words : (d base : ℕ) → widths (plus_base d base) ≤ 2
base_words d base = by_zero (base == 0)
  where
    by_zero : (b : Bool) → widths (if b then [] else Subi d ((65536 - base) % 256) ∷ Sbci (d + 1) ((65536 - base) / 256) ∷ []) ≤ 2
    by_zero true = omega arith
    by_zero false = omega arith

pub loads_x_words : (d n : ℕ) → widths (loads_x d n) ≡ n
loads_x_words d zero = refl
loads_x_words d (suc n) = let rest = loads_x_words (suc d) n in omega (arith, rest)

pub stores_x_words : (rs : List ℕ) → widths (stores_x rs) ≡ length rs
stores_x_words [] = refl
stores_x_words (r ∷ rs) = let rest = stores_x_words rs in omega (arith, rest)

pub loads_at_words : (d n a : ℕ) → widths (loads_at d n a) ≡ 2 * n
loads_at_words d zero a = refl
loads_at_words d (suc n) a = let rest = loads_at_words (suc d) n (suc a) in omega (arith, rest)

pub stores_at_words : (rs : List ℕ) (a : ℕ) → widths (stores_at rs a) ≡ 2 * length rs
stores_at_words [] a = refl
stores_at_words (r ∷ rs) a = let rest = stores_at_words rs (suc a) in omega (arith, rest)

pub loads_z_words : (d n : ℕ) → widths (loads_z d n) ≡ n
loads_z_words d zero = refl
loads_z_words d (suc n) = let rest = loads_z_words (suc d) n in omega (arith, rest)

-- ---- device registers

pub writes_words : (a r : ℕ) → widths (writes_register a r) ≤ 2
writes_words a r = by_address (nat_le 0x20 a && nat_lt a 0x60)
  where
    by_address : (b : Bool) → widths (if b then Out (a - 0x20) r ∷ [] else Sts a r ∷ []) ≤ 2
    by_address true = omega arith
    by_address false = omega arith

pub reads_words : (r a : ℕ) → widths (reads_register r a) ≤ 2
reads_words r a = by_address (nat_le 0x20 a && nat_lt a 0x60)
  where
    by_address : (b : Bool) → widths (if b then In r (a - 0x20) ∷ [] else Lds r a ∷ []) ≤ 2
    by_address true = omega arith
    by_address false = omega arith

-- ---- chains

adds_on_words : (d : ℕ) (rs : List ℕ) → widths (adds_on d rs) ≡ length rs
adds_on_words d [] = refl
adds_on_words d (r ∷ rs) = let rest = adds_on_words (suc d) rs in omega (arith, rest)

pub adds_words : (d : ℕ) (rs : List ℕ) → widths (adds d rs) ≡ length rs
adds_words d [] = refl
adds_words d (r ∷ rs) = let rest = adds_on_words (suc d) rs in omega (arith, rest)

subtracts_on_words : (d : ℕ) (rs : List ℕ) → widths (subtracts_on d rs) ≡ length rs
subtracts_on_words d [] = refl
subtracts_on_words d (r ∷ rs) = let rest = subtracts_on_words (suc d) rs in omega (arith, rest)

pub subtracts_words : (d : ℕ) (rs : List ℕ) → widths (subtracts d rs) ≡ length rs
subtracts_words d [] = refl
subtracts_words d (r ∷ rs) = let rest = subtracts_on_words (suc d) rs in omega (arith, rest)

takes_on_words : (d n v : ℕ) → widths (takes_known_on d n v) ≡ n
takes_on_words d zero v = refl
takes_on_words d (suc n) v = let rest = takes_on_words (suc d) n (v / 256) in omega (arith, rest)

pub takes_words : (d n v : ℕ) → widths (takes_known d n v) ≡ n
takes_words d zero v = refl
takes_words d (suc n) v = let rest = takes_on_words (suc d) n (v / 256) in omega (arith, rest)

ands_words : (d : ℕ) (rs : List ℕ) → widths (ands d rs) ≡ length rs
ands_words d [] = refl
ands_words d (r ∷ rs) = let rest = ands_words (suc d) rs in omega (arith, rest)

ors_words : (d : ℕ) (rs : List ℕ) → widths (ors d rs) ≡ length rs
ors_words d [] = refl
ors_words d (r ∷ rs) = let rest = ors_words (suc d) rs in omega (arith, rest)

eors_words : (d : ℕ) (rs : List ℕ) → widths (eors d rs) ≡ length rs
eors_words d [] = refl
eors_words d (r ∷ rs) = let rest = eors_words (suc d) rs in omega (arith, rest)

pub operates_words : (d : ℕ) (o : Operator) (rs : List ℕ) → widths (operates d o rs) ≤ length rs
operates_words d Plus rs = let all = adds_words d rs in omega (arith, all)
operates_words d Minus rs = let all = subtracts_words d rs in omega (arith, all)
operates_words d And rs = let all = ands_words d rs in omega (arith, all)
operates_words d Or rs = let all = ors_words d rs in omega (arith, all)
operates_words d Xor rs = let all = eors_words d rs in omega (arith, all)
operates_words d Times rs = omega arith
operates_words d Divide rs = omega arith
operates_words d Remainder rs = omega arith
operates_words d ShiftLeft rs = omega arith
operates_words d ShiftRight rs = omega arith

compares_on_words : (ls rs : List ℕ) → widths (compares_on ls rs) ≤ length ls
compares_on_words [] rs = omega arith
compares_on_words (a ∷ ls) [] = omega arith
compares_on_words (a ∷ ls) (r ∷ rs) = let rest = compares_on_words ls rs in omega (arith, rest)

pub compares_words : (ls rs : List ℕ) → widths (compares ls rs) ≤ length ls
compares_words [] rs = omega arith
compares_words (a ∷ ls) [] = omega arith
compares_words (a ∷ ls) (r ∷ rs) = let rest = compares_on_words ls rs in omega (arith, rest)

joins_words : (rs : List ℕ) → widths (joins rs) ≡ length rs
joins_words [] = refl
joins_words (r ∷ rs) = let rest = joins_words rs in omega (arith, rest)

pub joins_behind_words : (rs : List ℕ) → widths (joins_behind rs) ≤ length rs
joins_behind_words [] = omega arith
joins_behind_words (r ∷ rs) = let rest = joins_words rs in omega (arith, rest)

-- ---- shifts

pub doubles_on_words : (d n : ℕ) → widths (doubles_on d n) ≡ n
doubles_on_words d zero = refl
doubles_on_words d (suc n) = let rest = doubles_on_words (suc d) n in omega (arith, rest)

pub doubles_words : (d n : ℕ) → widths (doubles d n) ≡ n
doubles_words d zero = refl
doubles_words d (suc n) = let rest = doubles_on_words (suc d) n in omega (arith, rest)

pub halves_words : (d n : ℕ) → widths (halves d n) ≡ n
halves_words d zero = refl
halves_words d (suc zero) = refl
halves_words d (suc (suc n)) =
    let rest = halves_words (suc d) (suc n) in
    let all = widths-append (halves (suc d) (suc n)) (Ror d ∷ []) in omega (arith, rest, all)

pub repeats_words : (n : ℕ) (is : List Instr) → widths (repeats n is) ≡ n * widths is
repeats_words zero is = omega arith
repeats_words (suc n) is =
    let rest = repeats_words n is in
    let all = widths-append is (repeats n is) in
    let one = suc-mul n (widths is) in omega (arith, rest, all, one)

-- ---- the stack

pub pushes_words : (ds : List ℕ) → widths (pushes ds) ≡ length ds
pushes_words [] = refl
pushes_words (d ∷ ds) =
    let rest = pushes_words ds in
    let all = widths-append (pushes ds) (Push d ∷ []) in omega (arith, rest, all)

pub pops_words : (ds : List ℕ) → widths (pops ds) ≡ length ds
pops_words [] = refl
pops_words (d ∷ ds) = let rest = pops_words ds in omega (arith, rest)

pub pops_from_words : (d n : ℕ) → widths (pops_from d n) ≡ n
pops_from_words d zero = refl
pops_from_words d (suc n) = let rest = pops_from_words (suc d) n in omega (arith, rest)

pub pops_away_words : (n : ℕ) → widths (pops_away n) ≡ n
pops_away_words zero = refl
pops_away_words (suc n) = let rest = pops_away_words n in omega (arith, rest)

less_words : (n : ℕ) → widths (y_less n) ≤ 2
less_words n = by_reach (nat_lt n 64)
  where
    by_reach : (b : Bool) → widths (if b then Sbiw 28 n ∷ [] else Subi 28 (n % 256) ∷ Sbci 29 (n / 256) ∷ []) ≤ 2
    by_reach true = omega arith
    by_reach false = omega arith

more_words : (n : ℕ) → widths (y_more n) ≤ 2
more_words n = by_reach (nat_lt n 64)
  where
    by_reach : (b : Bool) → widths (if b then Adiw 28 n ∷ [] else Subi 28 ((65536 - n) % 256) ∷ Sbci 29 ((65536 - n) / 256) ∷ []) ≤ 2
    by_reach true = omega arith
    by_reach false = omega arith

takes_slots_words : (n : ℕ) → widths (takes_slots n) ≤ 4
takes_slots_words zero = omega arith
takes_slots_words (suc n) =
    let few = less_words (suc n) in
    let all = widths-append (y_less (suc n)) sp_is_y in omega (arith, few, all)

pub drops_slots_words : (n : ℕ) → widths (drops_slots n) ≤ 4
drops_slots_words zero = omega arith
drops_slots_words (suc n) =
    let few = more_words (suc n) in
    let all = widths-append (y_more (suc n)) sp_is_y in omega (arith, few, all)

pub pointer_words : (b : Bool) (n : ℕ) → widths (frame_pointer b n) ≤ 6
pointer_words false n = omega arith
pointer_words true n = let few = takes_slots_words n in omega (arith, few)
