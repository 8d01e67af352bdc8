-- That the routines of the shifts compute the shifts: a shift of four bytes gives the low bytes of a shift of fewer, at all widths.
use Rattle.std.specs.Prelude.{ℕ, zero, suc, ◌+◌, ◌-◌, ◌*◌, ◌/◌, ◌^◌, ◌<◌, ◌≤◌, Bool, true, false, nat_lt, List, [], ◌∷◌, Option, Some, None}
use Rattle.std.specs.Prelude.{slice_get, if◌then◌else◌, bit_and}
use Rattle.std.proofs.Common.{◌≡◌, refl, sym, ap, ◌∙◌, subst, arith}
use Rattle.std.proofs.lemmas.Nat.{mul-mod_first, pow-add, and_mask}
use Rattle.std.proofs.Math.Nat.{mul_assoc, div-le_self, div-eq_of_lt, mod-eq_of_lt, mul-mod_left, lt_of_lt_of_le, lt_of_le_of_lt}
use Rattle.std.proofs.Math.Pow.{pow_mono}
use Rattle.vg_meaning.specs.History.{History}
use Rattle.vg_meaning.specs.World.{World}
use Rattle.vg_lin.specs.declared.instr.Operand.TheVariants.{Local}
use Rattle.vg_lin.specs.declared.instr.Operator.{Operator}
use Rattle.vg_lin.specs.declared.instr.Operator.TheVariants.{ShiftLeft, ShiftRight}
use Rattle.vg_lin.specs.declared.instr.Instr.{Instr}
use Rattle.vg_lin.specs.declared.instr.Instr.TheVariants.{Return}
use Rattle.vg_lin.specs.Values.{low, computed}
use Rattle.vg_lin.specs.Sound.{IsWidth}
use Rattle.vg_lin.specs.Program.{Procedure, Program}
use Rattle.vg_lin.specs.State.{LocalState, State, using, sets}
use Rattle.vg_lin.specs.Meaning.{begun, resume, language, codes_in}
use Rattle.vg_lin.specs.Steps.{Frame, Config, Goes, fetch, went}
use Rattle.vg_lin.specs.Follows.{Leads, conf}
use Rattle.vg_lin.proofs.Followed.{leads_then, free}
use Rattle.vg_arith.specs.Routines.{with_locals, Gives, IsRoutineOf}
use Rattle.vg_arith.specs.Shifts.{shifts_value, shl, shr}

pub some_is : {A : Type 0} (a b : A) → Some a ≡ Some b → a ≡ b
some_is {A} a b e = ap (λ o. or_else o) e
  where
    or_else : Option A → A
    or_else (Some x) = x
    or_else None = a

-- the instructions of a procedure of a program
pub fetch_of : (ps : List Procedure) (q : ℕ) (m : Procedure) → slice_get ps q ≡ Some m → (at : ℕ) → fetch (codes_in ps) q at ≡ slice_get m.code at
fetch_of [] q m e at = absurd (grind arith)
fetch_of (a ∷ ps) zero m e at = ap (λ x. slice_get x.code at) (some_is a m e)
fetch_of (a ∷ ps) (suc q) m e at = fetch_of ps q m e at

pub low_same : (x : ℕ) → x < 2 ^ 32 → low 4 x ≡ x
low_same x h = omega (arith, h)

-- ---- the code of both

module _ (op : Operator) (m : Procedure) (p : Program) (q : ℕ) (has : slice_get p.procedures q ≡ Some m) (f : Frame State) (fs : List (Frame State))
    (ram : List ℕ) (w : World History) (more : List LocalState) where
  abbrev pub holding : (x n : ℕ) → State
  holding x n = with_locals ram (record { width = 4; value = Some x } ∷ record { width = 4; value = Some n } ∷ more)

  abbrev pub at : (pc x n : ℕ) → Config State
  at pc x n = conf q pc (f ∷ fs) (holding x n) w

  abbrev pub Back : ℕ → Config State → Type 0
  Back v c =
      (left : List LocalState) × Leads (language p) (codes_in p.procedures) 0 c
      (conf f.proc (suc f.pc) fs (resume f.awaits f.kept (with_locals ram left) (low 4 (low 4 v))) w)

  -- the value is shifted by the amount, and given back
  pub by_shift : (pc x n z : ℕ) → slice_get m.code pc ≡ Some (shifts_value op) → slice_get m.code (suc pc) ≡ Some (Return 4 (Local 0))
      → computed op 4 x n ≡ Some z → Back z (at pc x n)
  by_shift pc x n z shifts gives is = (
    _,
    leads_then (language p) (codes_in p.procedures) 0 0 (at pc x n) (at (suc pc) (low 4 z) n) _
        (free (language p) (codes_in p.procedures) q pc (f ∷ fs) (holding x n) w _ (at (suc pc) (low 4 z) n) (fetch_of p.procedures q m has pc ∙ shifts)
        (ap (λ o. went (at pc x n) (using o (λ v. Goes (sets 0 v (holding x n)) w.outside))) is))
        (free (language p) (codes_in p.procedures) q (suc pc) (f ∷ fs) (holding (low 4 z) n) w _ _ (fetch_of p.procedures q m has (suc pc) ∙ gives) refl),
  )

-- ---- what a shift sees

-- a width is one of four
pub by_width : (P : ℕ → Type 0) (w : ℕ) → IsWidth w → P 1 → P 2 → P 3 → P 4 → P w
by_width P zero (h, g) a b c d = absurd (omega (arith, h))
by_width P (suc zero) h a b c d = a
by_width P (suc (suc zero)) h a b c d = b
by_width P (suc (suc (suc zero))) h a b c d = c
by_width P (suc (suc (suc (suc zero)))) h a b c d = d
by_width P (suc (suc (suc (suc (suc w))))) (h, g) a b c d = absurd (omega (arith, g))

-- the low bytes of the low four bytes
pub low_low : (w x : ℕ) → IsWidth w → low w (low 4 x) ≡ low w x
low_low w x h = by_width (λ w. low w (low 4 x) ≡ low w x) w h (omega arith) (omega arith) (omega arith) (omega arith)

pub low_in_four : (w x : ℕ) → IsWidth w → low 4 (low w x) ≡ low w x
low_in_four w x h = by_width (λ w. low 4 (low w x) ≡ low w x) w h (omega arith) (omega arith) (omega arith) (omega arith)

masked : (w x : ℕ) → IsWidth w → low 4 (low 4 (bit_and (low 4 x) (low 4 (256 ^ w - 1)))) ≡ low w x
masked w x h =
    by_width (λ w. low 4 (low 4 (bit_and (low 4 x) (low 4 (256 ^ w - 1)))) ≡ low w x) w h
    (ap (λ z. low 4 (low 4 z)) (and_mask (low 4 x) 8) ∙ omega arith)
    (ap (λ z. low 4 (low 4 z)) (and_mask (low 4 x) 16) ∙ omega arith)
    (ap (λ z. low 4 (low 4 z)) (and_mask (low 4 x) 24) ∙ omega arith)
    (ap (λ z. low 4 (low 4 z)) (and_mask (low 4 x) 32) ∙ omega arith)

-- ---- both shifts

-- the configuration in which a routine begins
abbrev pub Comes : Program → (q : ℕ) → Frame State → List (Frame State) → (ram : List ℕ) → World History → List LocalState → (v : ℕ) → Type 0
Comes p q f fs ram w locals v =
    (left : List LocalState) × Leads (language p) (codes_in p.procedures) 0 (conf q 0 (f ∷ fs) (with_locals ram locals) w)
    (conf f.proc (suc f.pc) fs (resume f.awaits f.kept (with_locals ram left) (low 4 (low 4 v))) w)

shl_gives : (x y z : ℕ) → y < 2 ^ 32 → computed ShiftLeft 4 (low 4 x) y ≡ Some z → Gives shl (x ∷ y ∷ []) (low 4 (low 4 z))
shl_gives x y z h is p q has f fs ram w =
    subst (λ n. Comes p q f fs ram w (record { width = 4; value = Some (low 4 x) } ∷ record { width = 4; value = Some n } ∷ []) z) (sym (low_same y h))
    (by_shift ShiftLeft shl p q has f fs ram w [] 0 (low 4 x) y z refl refl is)

-- the bits that the shift does not see are taken away first
shr_gives : (width x y z : ℕ) → IsWidth width → y < 2 ^ 32 → computed ShiftRight 4 (low width x) y ≡ Some z
    → Gives shr (x ∷ y ∷ (256 ^ width - 1) ∷ []) (low 4 (low 4 z))
shr_gives width x y z hw h is p q has f fs ram w =
    subst (λ n. Comes p q f fs ram w (record { width = 4; value = Some (low 4 x) } ∷ record { width = 4; value = Some n } ∷ seen ∷ []) z) (sym (low_same y h))
    (begins (by_shift ShiftRight shr p q has f fs ram w (seen ∷ []) 1 (low width x) y z refl refl is))
  where
    seen : LocalState
    seen = record { width = 4; value = Some (low 4 (256 ^ width - 1)) }

    state : (x : ℕ) → State
    state x = with_locals ram (record { width = 4; value = Some x } ∷ record { width = 4; value = Some y } ∷ seen ∷ [])

    begins : (left : List LocalState) × Leads (language p) (codes_in p.procedures) 0 (conf q 1 (f ∷ fs) (state (low width x)) w)
        (conf f.proc (suc f.pc) fs (resume f.awaits f.kept (with_locals ram left) (low 4 (low 4 z))) w)
        → Comes p q f fs ram w (record { width = 4; value = Some (low 4 x) } ∷ record { width = 4; value = Some y } ∷ seen ∷ []) z
    begins (left, t) = (
      left,
      leads_then (language p) (codes_in p.procedures) 0 0 (conf q 0 (f ∷ fs) (state (low 4 x)) w) (conf q 1 (f ∷ fs) (state (low width x)) w) _
          (free (language p) (codes_in p.procedures) q 0 (f ∷ fs) (state (low 4 x)) w _ (conf q 1 (f ∷ fs) (state (low width x)) w)
          (fetch_of p.procedures q shr has 0) (ap (λ z. conf q 1 (f ∷ fs) (state z) w) (masked width x hw))) t,
    )

-- where a shift by so many bits leaves nothing, the tests of both widths say the same
both_tests : (w n a b : ℕ) → IsWidth w → (n < 8 * w → a ≡ b) → (8 * w ≤ n → n < 32 → a ≡ 0)
    → (if nat_lt n 32 then a else 0) ≡ (if nat_lt n (8 * w) then b else 0)
both_tests w n a b hw same none = by_test (nat_lt n (8 * w)) refl (nat_lt n 32) refl
  where
    below : (n k : ℕ) → nat_lt n k ≡ true → n < k
    below n k e = grind arith

    above : (n k : ℕ) → nat_lt n k ≡ false → k ≤ n
    above n k e = grind arith

    by_test : (s : Bool) → nat_lt n (8 * w) ≡ s → (t : Bool) → nat_lt n 32 ≡ t → (if t then a else 0) ≡ (if s then b else 0)
    by_test true e true f = same (below n (8 * w) e)
    by_test true e false f = absurd (omega (arith, below n (8 * w) e, above n 32 f, hw.1))
    by_test false e true f = none (above n (8 * w) e) (below n 32 f)
    by_test false e false f = refl

width_bits : (w : ℕ) → IsWidth w → 256 ^ w ≡ 2 ^ (8 * w)
width_bits w h = by_width (λ w. 256 ^ w ≡ 2 ^ (8 * w)) w h refl refl refl refl

low_below : (w x : ℕ) → IsWidth w → low w x < 256 ^ w
low_below w x h = by_width (λ w. low w x < 256 ^ w) w h (omega arith) (omega arith) (omega arith) (omega arith)

pub low_small : (w x : ℕ) → IsWidth w → low w x < 2 ^ 32
low_small w x h = by_width (λ w. low w x < 2 ^ 32) w h (omega arith) (omega arith) (omega arith) (omega arith)

low_of_if : (w a : ℕ) (t : Bool) → IsWidth w → low w (if t then a else 0) ≡ (if t then low w a else 0)
low_of_if w a true h = refl
low_of_if w a false h = by_width (λ w. low w 0 ≡ 0) w h refl refl refl refl

-- a routine sees four bytes of its operands
pub gives_low : (m : Procedure) (ws more : List ℕ) (x y z : ℕ) → m.widths ≡ 4 ∷ 4 ∷ ws → Gives m (low 4 x ∷ low 4 y ∷ more) z → Gives m (x ∷ y ∷ more) z
gives_low m ws more x y z e g p q has f fs ram w =
    subst (λ ls. (left : List LocalState) × Leads (language p) (codes_in p.procedures) 0 (conf q 0 (f ∷ fs) (with_locals ram ls) w)
    (conf f.proc (suc f.pc) fs (resume f.awaits f.kept (with_locals ram left) z) w)) same (g p q has f fs ram w)
  where
    twice : (x : ℕ) → low 4 (low 4 x) ≡ low 4 x
    twice x = omega arith

    same : begun m.widths (low 4 x ∷ low 4 y ∷ more) ≡ begun m.widths (x ∷ y ∷ more)
    same =
        ap (λ v. begun v (low 4 x ∷ low 4 y ∷ more)) e
        ∙ ap (λ v. record { width = 4; value = Some v } ∷ record { width = 4; value = Some (low 4 (low 4 y)) } ∷ begun ws more) (twice x)
        ∙ ap (λ v. record { width = 4; value = Some (low 4 x) } ∷ record { width = 4; value = Some v } ∷ begun ws more) (twice y)
        ∙ ap (λ v. begun v (x ∷ y ∷ more)) (sym e)

-- a result of four bytes is cut to the width
low_cut : (w z : ℕ) → IsWidth w → low w (low 4 (low 4 z)) ≡ low w z
low_cut w z hw = low_low w (low 4 z) hw ∙ low_low w z hw

pub shl_is : IsRoutineOf ShiftLeft shl
shl_is w x y v hw hy e = (_, low_is, shl_gives x y (if nat_lt y 32 then low 4 (low 4 x * 2 ^ y) else 0) hy refl)
  where
    none : 8 * w ≤ y → low w (x * 2 ^ y) ≡ 0
    none h =
        let i = y - 8 * w in let s : i + 8 * w ≡ y = omega (arith, h) in
        ap (λ z. low w (x * 2 ^ z)) (sym s) ∙ ap (λ z. low w (x * z)) (pow-add 2 i (8 * w) ∙ ap (λ z. 2 ^ i * z) (sym (width_bits w hw)))
        ∙ ap (low w) (sym (mul_assoc x (2 ^ i) (256 ^ w))) ∙ mul-mod_left (x * 2 ^ i) (256 ^ w)

    -- the low bytes of the result are those of the low bytes of the value
    same : low w (low 4 (low 4 x * 2 ^ y)) ≡ low w (x * 2 ^ y)
    same =
        low_low w (low 4 x * 2 ^ y) hw ∙ sym (mul-mod_first (low 4 x) (2 ^ y) (256 ^ w)) ∙ ap (λ z. low w (z * 2 ^ y)) (low_low w x hw)
        ∙ mul-mod_first x (2 ^ y) (256 ^ w)

    low_is : low w (low 4 (low 4 (if nat_lt y 32 then low 4 (low 4 x * 2 ^ y) else 0))) ≡ v
    low_is =
        low_cut w (if nat_lt y 32 then low 4 (low 4 x * 2 ^ y) else 0) hw ∙ low_of_if w (low 4 (low 4 x * 2 ^ y)) (nat_lt y 32) hw
        ∙ both_tests w y (low w (low 4 (low 4 x * 2 ^ y))) (low w (x * 2 ^ y)) hw (λ h. same) (λ h g. same ∙ none h) ∙ some_is _ v e

pub shr_is : IsRoutineOf ShiftRight shr
shr_is w x y v hw hy e = (_, low_is, shr_gives w x y (if nat_lt y 32 then low 4 (low w x) / 2 ^ y else 0) hw hy refl)
  where
    none : 8 * w ≤ y → low w x / 2 ^ y ≡ 0
    none h = div-eq_of_lt (lt_of_lt_of_le (subst (λ z. low w x < z) (width_bits w hw) (low_below w x hw)) (pow_mono h))

    within : low w (low w x / 2 ^ y) ≡ low w x / 2 ^ y
    within = mod-eq_of_lt (lt_of_le_of_lt (div-le_self (low w x) (2 ^ y)) (low_below w x hw))

    low_is : low w (low 4 (low 4 (if nat_lt y 32 then low 4 (low w x) / 2 ^ y else 0))) ≡ v
    low_is =
        ap (λ z. low w (low 4 (low 4 (if nat_lt y 32 then z / 2 ^ y else 0)))) (low_in_four w x hw)
        ∙ low_cut w (if nat_lt y 32 then low w x / 2 ^ y else 0) hw
        ∙ low_of_if w (low w x / 2 ^ y) (nat_lt y 32) hw
        ∙ both_tests w y (low w (low w x / 2 ^ y)) (low w x / 2 ^ y) hw (λ h. within) (λ h g. within ∙ none h) ∙ some_is _ v e
