-- What is known at a place of code, and what lasts behind an instruction.
use Rattle.std.specs.Prelude.{ℕ, ◌+◌, ◌*◌, ◌/◌, ◌^◌, Bool, true, false, ◌==◌, ◌&&◌, not, nat_lt, nat_le, List, [], ◌∷◌, Option, Some, None, slice_get}
use Rattle.std.specs.Prelude.{get_or, if◌then◌else◌}
use Rattle.vg_lin.specs.declared.instr.Operand.{Operand}
use Rattle.vg_lin.specs.declared.instr.Operand.TheVariants.{Local, Known}
use Rattle.vg_lin.specs.declared.instr.Operator.{Operator}
use Rattle.vg_lin.specs.declared.instr.Operator.TheVariants.{Plus, Minus, Times, Divide, Remainder, And, Or, Xor, ShiftLeft, ShiftRight}
use Rattle.vg_lin.specs.declared.instr.Computation.{Computation}
use Rattle.vg_trimming.specs.declared.facts.Twin.{Twin}
use Rattle.vg_trimming.specs.declared.facts.Worked.{Worked}
use Rattle.vg_trimming.specs.declared.facts.Bound.{Bound}
use Rattle.vg_trimming.specs.declared.facts.Facts.{Facts}
use Rattle.vg_trimming.specs.declared.facts.Gain.{Gain}
use Rattle.vg_trimming.specs.declared.facts.Gain.TheVariants.{Nothing, In, Copied}
use Rattle.vg_trimming.specs.declared.facts.Change.{Change}

-- ---- operands

abbrev pub same_home : Operand → Operand → Bool
same_home (Local i) (Local j) = i == j
same_home (Local i) (Known w) = false
same_home (Known v) (Local j) = false
same_home (Known v) (Known w) = v == w

-- The value of a local of the older code stands there.
abbrev pub is_twin : List Twin → (local : ℕ) → Operand → Bool
is_twin [] x h = false
is_twin (t ∷ ts) x h = if (t.local == x) && same_home t.home h then true else is_twin ts x h

-- An operand of the newer code has the value of one of the older code.
abbrev pub stands_for : List Twin → (old new : Operand) → Bool
stands_for ts (Local i) h = is_twin ts i h
stands_for ts (Known v) h = same_home (Known v) h

abbrev pub is_filled : List ℕ → (local : ℕ) → Bool
is_filled [] x = false
is_filled (y ∷ ys) x = if y == x then true else is_filled ys x

-- ---- computations

abbrev pub same_operator : Operator → Operator → Bool
same_operator Plus Plus = true
same_operator Minus Minus = true
same_operator Times Times = true
same_operator Divide Divide = true
same_operator Remainder Remainder = true
same_operator And And = true
same_operator Or Or = true
same_operator Xor Xor = true
same_operator ShiftLeft ShiftLeft = true
same_operator ShiftRight ShiftRight = true
same_operator _ _ = false

-- What is known of a computation with these operands.
abbrev pub is_of : Worked → Computation → Bool
is_of w c = same_operator w.operator c.operator && (w.width == c.width) && same_home w.left c.left && same_home w.right c.right

abbrev pub found_for : List Worked → Computation → Option Worked
found_for [] c = None
found_for (w ∷ ws) c = if is_of w c then Some w else found_for ws c

abbrev pub same_worked : Worked → Worked → Bool
same_worked x w =
    same_operator x.operator w.operator && (x.width == w.width) && same_home x.left w.left && same_home x.right w.right && (x.home == w.home)

abbrev pub is_worked : List Worked → Worked → Bool
is_worked [] w = false
is_worked (x ∷ xs) w = if same_worked x w then true else is_worked xs w

-- ---- bytes

-- How many bytes hold the value of an operand, of locals with these widths; more than any local has, where that is not told.
abbrev pub bytes_of : (widths : List ℕ) → Operand → ℕ
bytes_of ws (Local i) = get_or ws i 5
bytes_of ws (Known v) = if nat_lt v 256 then 1 else if nat_lt v 65536 then 2 else 5

-- ---- bounds

-- The greatest value of any local, and of so many bytes.
abbrev pub greatest : ℕ
greatest = 4294967295

abbrev pub most_in : (bytes : ℕ) → ℕ
most_in w = if nat_le 4 w then greatest else if nat_le 3 w then 16777215 else if nat_le 2 w then 65535 else if nat_le 1 w then 255 else 0

-- The most that is told of a local, or else that.
abbrev pub most_known : (otherwise : ℕ) → List Bound → (local : ℕ) → ℕ
most_known d [] x = d
most_known d (b ∷ bs) x = if b.local == x then b.most else most_known d bs x

-- It is told that a local has no more.
abbrev pub is_bounded : List Bound → Bound → Bool
is_bounded [] b = false
is_bounded (k ∷ ks) b = if k.local == b.local then nat_le k.most b.most else is_bounded ks b

-- The most that an operand of the older code has, whose locals have these widths.
abbrev pub most_of : (old : List ℕ) → List Bound → Operand → ℕ
most_of o bs (Local x) = most_known (most_in (get_or o x 4)) bs x
most_of o bs (Known v) = v

abbrev pub lesser : ℕ → ℕ → ℕ
lesser a b = if nat_le a b then a else b

-- More than any local has: nothing is told.
abbrev pub untold : ℕ
untold = 4294967296

-- Bits of both come to no more bytes than both have.
abbrev pub most_joined : (left right : ℕ) → ℕ
most_joined a b = if nat_le a 255 && nat_le b 255 then 255 else if nat_le a 65535 && nat_le b 65535 then 65535 else untold

abbrev pub most_shifted : (left : ℕ) → (right : Operand) → ℕ
most_shifted a (Known n) = if nat_lt n 32 then a / 2 ^ n else a
most_shifted a (Local i) = a

-- The most that comes of operands of at most so much, before it is cut to bytes.
abbrev pub most_made : Operator → (left right : ℕ) → Operand → ℕ
most_made Plus a b r = a + b
most_made Times a b r = a * b
most_made And a b r = lesser a b
most_made Or a b r = most_joined a b
most_made Xor a b r = most_joined a b
most_made ShiftRight a b r = most_shifted a r
most_made _ a b r = untold

abbrev pub most_computed : (old : List ℕ) → List Bound → Computation → ℕ
most_computed o bs c = lesser (most_made c.operator (most_of o bs c.left) (most_of o bs c.right) c.right) (most_in c.width)

-- ---- what lasts

abbrev pub is_it : Option ℕ → (local : ℕ) → Bool
is_it None x = false
is_it (Some y) x = y == x

abbrev pub overwrites : Option ℕ → Operand → Bool
overwrites None h = false
overwrites (Some y) h = same_home (Local y) h

-- The newer code has the new value there.
abbrev pub gains : (widths : List ℕ) → List Twin → (new : Option ℕ) → Gain → Operand → Bool
gains ws ts new Nothing h = false
gains ws ts new (In y) h = same_home (Local y) h
gains ws ts new (Copied a width) h = stands_for ts a h && nat_le (bytes_of ws h) width && not (overwrites new h)

abbrev pub twin_lasts : (widths : List ℕ) → List Twin → Change → Twin → Bool
twin_lasts ws ts c t =
    if is_it c.old t.local then gains ws ts c.new c.gain t.home else is_twin ts t.local t.home && not (overwrites c.new t.home)

abbrev pub twins_last : (widths : List ℕ) → (before : List Twin) → Change → (behind : List Twin) → Bool
twins_last ws ts c [] = true
twins_last ws ts c (t ∷ more) = twin_lasts ws ts c t && twins_last ws ts c more

abbrev pub stays_filled : (before : List ℕ) → Change → (local : ℕ) → Bool
stays_filled xs c x = if is_it c.filled x then true else is_filled xs x && not (is_it c.old x)

abbrev pub all_stay_filled : (before : List ℕ) → Change → (behind : List ℕ) → Bool
all_stay_filled xs c [] = true
all_stay_filled xs c (x ∷ more) = stays_filled xs c x && all_stay_filled xs c more

abbrev pub is_new : Option Worked → Worked → Bool
is_new None w = false
is_new (Some x) w = same_worked x w

-- Neither an operand of the computation nor the local with its result gets another value.
abbrev pub stays_worked : (before : List Worked) → Change → Worked → Bool
stays_worked ws c w =
    if is_new c.worked w then true
    else is_worked ws w && not (overwrites c.old w.left) && not (overwrites c.old w.right) && not (overwrites c.new (Local w.home))

abbrev pub all_stay_worked : (before : List Worked) → Change → (behind : List Worked) → Bool
all_stay_worked ws c [] = true
all_stay_worked ws c (w ∷ more) = stays_worked ws c w && all_stay_worked ws c more

-- No more is told behind a change than what the local gets, or had at most.
abbrev pub stays_bounded : (before : List Bound) → Change → Bound → Bool
stays_bounded bs c b = if is_it c.old b.local then nat_le c.most b.most else is_bounded bs b

abbrev pub all_stay_bounded : (before : List Bound) → Change → (behind : List Bound) → Bool
all_stay_bounded bs c [] = true
all_stay_bounded bs c (b ∷ more) = stays_bounded bs c b && all_stay_bounded bs c more

-- What is known behind an instruction follows from what is known before it.
abbrev pub leads : (widths : List ℕ) → (before : Facts) → Change → (behind : Facts) → Bool
leads ws a c b =
    b.reached && twins_last ws a.twins c b.twins && all_stay_filled a.filled c b.filled && all_stay_worked a.worked c b.worked
    && all_stay_bounded a.bounds c b.bounds

abbrev pub leads_in : (widths : List ℕ) → (before : Facts) → Change → Option Facts → Bool
leads_in ws a c (Some b) = leads ws a c b
leads_in ws a c None = false

-- The same at a place.
abbrev pub leads_at : (widths : List ℕ) → List Facts → (before : Facts) → Change → (to : ℕ) → Bool
leads_at ws fs a c to = leads_in ws a c (slice_get fs to)

-- ---- changes

abbrev pub no_change : Change
no_change = record { old = None; new = None; gain = Nothing; filled = None; worked = None; most = greatest }

-- ---- where a procedure begins

-- A parameter stands where it stood; no other local has a value.
abbrev pub begins_so : (params : ℕ) → List Twin → Bool
begins_so params [] = true
begins_so params (t ∷ ts) = (if nat_lt t.local params then same_home (Local t.local) t.home else true) && begins_so params ts

abbrev pub is_none_filled : List ℕ → Bool
is_none_filled [] = true
is_none_filled (x ∷ xs) = false

abbrev pub is_none_worked : List Worked → Bool
is_none_worked [] = true
is_none_worked (w ∷ ws) = false

abbrev pub is_none_bounded : List Bound → Bool
is_none_bounded [] = true
is_none_bounded (b ∷ bs) = false

abbrev pub begins_with : (params : ℕ) → Option Facts → Bool
begins_with params (Some a) =
    a.reached && begins_so params a.twins && is_none_filled a.filled && is_none_worked a.worked && is_none_bounded a.bounds
begins_with params None = false
