-- Bytes of the stack, and low bytes of numbers.
use Rattle.std.proofs.Common.{◌≡◌, ℕ, zero, suc, ◌+◌, ◌-◌, ◌*◌, ◌/◌, ◌%◌, ◌^◌, ◌<◌, ◌≤◌, ◌⊎◌, inl, inr, List, length}
use Rattle.std.proofs.Common.{◌==◌, Bool, true, false, if◌then◌else◌, refl, sym, ap, ◌∙◌, arith, slice_index}
use Rattle.std.proofs.lemmas.Nat.{pow-add}
use Rattle.std.proofs.Math.Nat.{pow-suc, pow-le-pow_right, mod-eq_of_lt, mod-mod_of_dvd, dvd-mul_right}
use Rattle.avr_instr.specs.declared.instr.Instr.{Instr}
use Rattle.avr_isa.specs.Machine.{State}
use Rattle.avr_view.specs.Memory.{OnStack}
use Rattle.avr_isa.specs.Standing.{widths}
use Rattle.avr_view.specs.Registers.{Regs, does_all, ArePlain}
use Rattle.avr_view.specs.Run.{Run}
use Rattle.avr_view.specs.View.{View, At}
use Rattle.avr_view.proofs.Dividing.{cell_read}
use Rattle.avr_view.proofs.Going.{goes_wider}
use Rattle.avr_view.proofs.Steps.{goes_plain, register_below}
use Rattle.vg_templates.specs.Spots.{number, read}
use Rattle.vg_templates.proofs.Numbers.{cut}
use Rattle.vg_templates.specs.Pieces.{Sees, Takes}
use Rattle.vg_templates.specs.Operands.{least, padded}
use Rattle.vg_templates.specs.Numbers.{number_in}
use Rattle.vg_templates.specs.Plain.{bytes_in}

-- a byte of the stack
pub stack_below : (e : Run) (pc : ℕ) (v : View) (s : State) → At e pc v s → (j : ℕ) → j < length v.stack → slice_index v.stack j < 256
stack_below e pc v s a j h =
    let size = a.memory.size in
    let address = 0x1100 + j - length v.stack in
    let there : address + length v.stack ≡ 0x1100 + j = omega (arith, size) in
    let same = cell_read v.static v.stack s.cpu.sram s.cpu.sp a.memory (OnStack j) address (h, there) in
    let byte = a.bytes.cpu.sram (address - 0x100) in
    omega (arith, same, byte)

pub takes_cells : (e : Run) (deep : Type 0) (v : View) (is : List Instr) (K : View → Type 0)
    → (((j : ℕ) → j < length v.stack → slice_index v.stack j < 256) → Takes e deep v is K) → Takes e deep v is K
takes_cells e deep v is K h pc s stand room a = h (stack_below e pc v s a) pc s stand room a

-- a block of plain instructions, behind which registers hold bytes
pub takes_plain_bytes : (e : Run) (deep : Type 0) (v : View) (is : List Instr) → ArePlain is
    → Takes e deep v is (λ u. (u ≡ record v { regs = does_all e.flash is v.regs }) × ((d : ℕ) → d < 32 → u.regs.of d < 256))
takes_plain_bytes e deep v is p pc s stand room a =
    let u : View = record v { regs = does_all e.flash is v.regs } in
    let K = λ (x : View). (x ≡ u) × ((d : ℕ) → d < 32 → x.regs.of d < 256) in
    goes_wider e deep (length is) s (At e (pc + widths is) u) (Sees e K (pc + widths is))
    (λ t b. record { view = u; kind = (refl, register_below e (pc + widths is) u t b); at = b }) (goes_plain e deep is pc v s stand p room a)

-- numbers of so many bytes
pub small_digits : (x r n : ℕ) → x < 256 → r < 256 ^ n → x + 256 * r < 256 ^ suc n
small_digits x r n h k = let e = pow-suc 256 n in omega (arith, h, k, e)

pub read_small : (bytes : List ℕ) (at w : ℕ) → ((j : ℕ) → j < length bytes → slice_index bytes j < 256) → at + w ≤ length bytes → read bytes at w < 256 ^ w
read_small bytes at zero b h = omega arith
read_small bytes at (suc w) b h =
    small_digits (slice_index bytes at) (read bytes (suc at) w) w (b at (omega arith)) (read_small bytes (suc at) w b (omega arith))

pub number_small : (g : Regs) (r w : ℕ) → ((x : ℕ) → r ≤ x → x < r + w → g.of x < 256) → number g r w < 256 ^ w
number_small g r zero b = omega arith
number_small g r (suc w) b =
    small_digits (g.of r) (number g (suc r) w) w (b r (omega arith) (omega arith)) (number_small g (suc r) w (λ x lo hi. b x (omega arith) (omega arith)))

-- low registers hold the low bytes
pub number_low : (g : Regs) (r w n : ℕ) → ((x : ℕ) → r ≤ x → x < r + w → g.of x < 256) → number g r (least w n) ≡ number g r w % 256 ^ least w n
number_low g r zero n b = omega arith
number_low g r (suc w) zero b = omega arith
number_low g r (suc w) (suc n) b =
    let x = g.of r in
    let y = number g (suc r) w in
    let byte = b r (omega arith) (omega arith) in
    cut (x + 256 * y) (least w n) x (number g (suc r) (least w n)) (omega arith)
    (number_low g (suc r) w n (λ z lo hi. b z (omega arith) (omega arith)) ∙ (let e : y ≡ (x + 256 * y) / 256 = omega arith in ap (λ z. z % 256 ^ least w n) e))

-- the lesser of two widths is one of them
pub least_is : (w n : ℕ) → ((least w n ≡ w) × (w ≤ n)) ⊎ ((least w n ≡ n) × (n ≤ w))
least_is zero n = inl (refl, omega arith)
least_is (suc w) zero = inr (refl, omega arith)
least_is (suc w) (suc n) = elim (least_is w n) [ inl k ↦ inl (ap suc k.0, omega (arith, k.1)) | inr k ↦ inr (ap suc k.0, omega (arith, k.1)) ]

pub below_wider : (x w n : ℕ) → x < 256 ^ w → w ≤ n → x % 256 ^ n ≡ x
below_wider x w n h k = mod-eq_of_lt (let e = pow-le-pow_right {n = 256} (omega arith) k in omega (arith, h, e))

-- a number that is below one power is cut the same by the lesser
pub least_cut : (x w n : ℕ) → x < 256 ^ w → x % 256 ^ least w n ≡ x % 256 ^ n
least_cut x w n h = elim (least_is w n) [
  | inl k ↦ ap (λ m. x % 256 ^ m) k.0 ∙ mod-eq_of_lt h ∙ sym (below_wider x w n h k.1)
  | inr k ↦ ap (λ m. x % 256 ^ m) k.0
]

pub cut_twice : (x k n : ℕ) → k ≤ n → x % 256 ^ n % 256 ^ k ≡ x % 256 ^ k
cut_twice x k n h =
    let rest = n - k in
    let e : n ≡ k + rest = omega arith in
    let power : 256 ^ n ≡ 256 ^ k * 256 ^ rest = ap (λ m. 256 ^ m) e ∙ pow-add 256 k rest in
    ap (λ m. x % m % 256 ^ k) power ∙ mod-mod_of_dvd (256 ^ k) x (dvd-mul_right (256 ^ k) (256 ^ rest))

-- ---- the low bytes of a number, behind which all others are zero

few_by : (b : Bool) (m n : ℕ) → m ≤ n → (if b then zero else suc m) ≤ suc n
few_by true m n h = omega arith
few_by false m n h = omega arith

pub bytes_in_few : (n v : ℕ) → bytes_in n v ≤ n
bytes_in_few zero v = omega arith
bytes_in_few (suc n) v = few_by (v == 0) (bytes_in n (v / 256)) n (bytes_in_few n (v / 256))

-- either all of them are looked at, or the number has no others
abbrev AreAll : (m n v : ℕ) → Type 0
AreAll m n v = (m ≡ n) ⊎ (v < 256 ^ m)

all_by : (b : Bool) (m n v : ℕ) → (v == 0) ≡ b → AreAll m n (v / 256) → AreAll (if b then zero else suc m) (suc n) v
all_by true m n v e h = inr (let none : v ≡ 0 = grind (arith, e) in omega (arith, none))
all_by false m n v e (inl h) = inl (ap suc h)
all_by false m n v e (inr h) = inr (let power = pow-suc 256 m in omega (arith, h, power))

bytes_in_all : (n v : ℕ) → AreAll (bytes_in n v) n v
bytes_in_all zero v = inl refl
bytes_in_all (suc n) v = all_by (v == 0) (bytes_in n (v / 256)) n v refl (bytes_in_all n (v / 256))

-- so they tell as much of it as there is room for
pub bytes_in_tell : (n v : ℕ) → v % 256 ^ bytes_in n v % 256 ^ n ≡ v % 256 ^ n
bytes_in_tell n v = elim (bytes_in_all n v) [
  | inl h ↦ ap (λ m. v % 256 ^ m % 256 ^ n) h ∙ cut_twice v n n (omega arith)
  | inr h ↦ ap (λ z. z % 256 ^ n) (mod-eq_of_lt h)
]

-- registers of a list
pub padded-number : (g : Regs) (r w n : ℕ) → g.of 1 ≡ 0 → number_in g (padded r w n) ≡ number g r (least w n)
padded-number g r zero zero h = refl
padded-number g r (suc w) zero h = refl
padded-number g r zero (suc n) h = let rest = padded-number g r zero n h in omega (arith, rest, h)
padded-number g r (suc w) (suc n) h = ap (λ z. g.of r + 256 * z) (padded-number g (suc r) w n h)

pub padded-length : (r w n : ℕ) → length (padded r w n) ≡ n
padded-length r zero zero = refl
padded-length r (suc w) zero = refl
padded-length r zero (suc n) = ap suc (padded-length r zero n)
padded-length r (suc w) (suc n) = ap suc (padded-length (suc r) w n)
