-- That routines keep what every procedure of linear code keeps. A test over their instructions says so, which computes; what it says of
-- each instruction is proved once, by cases.
use Rattle.std.specs.Prelude.{ℕ, zero, suc, ◌+◌, ◌<◌, ◌≤◌, Bool, true, false, not, ◌==◌, ◌&&◌, nat_lt, nat_le, List, [], ◌∷◌, length, Some, None, slice_get}
use Rattle.std.specs.List.{AllByRecursion}
use Rattle.std.proofs.Common.{◌≡◌, refl, sym, subst, arith}
use Rattle.vg_lin.specs.declared.instr.Operand.{Operand}
use Rattle.vg_lin.specs.declared.instr.Operand.TheVariants.{Local, Known}
use Rattle.vg_lin.specs.declared.instr.Test.{Test}
use Rattle.vg_lin.specs.declared.instr.Plain.{Plain as PlainInstr}
use Rattle.vg_lin.specs.declared.instr.Plain.TheVariants.{Copy, Compute, Product, DivideSteps, Load, Store, ReadDevice, WriteDevice, Push, Pop, Find, CodeOf, Stop}
use Rattle.vg_lin.specs.declared.instr.Instr.{Instr}
use Rattle.vg_lin.specs.declared.instr.Instr.TheVariants.{Plain, When, Unless, Jump, Call, Return, Idle}
use Rattle.vg_lin.specs.Program.{Procedure}
use Rattle.vg_lin.specs.Sound.{IsWidth, IsLocal, IsOperand, IsTest, IsPlain, AreOperands, behind, behind_plain, PlainWaits, Waits, IsSound}
use Rattle.vg_lin.proofs.Scanned.{sound_by}
use Rattle.vg_arith.specs.Shifts.{shl, shr}
use Rattle.vg_arith.specs.Product.{mul}
use Rattle.vg_arith.specs.Division.{divide}
use Rattle.vg_arith.proofs.ShiftRoutines.{some_is}

abbrev is_local : Procedure → ℕ → Bool
is_local m i = nat_lt i (length m.widths)

abbrev is_operand : Procedure → Operand → Bool
is_operand m (Local i) = is_local m i
is_operand m (Known v) = true

abbrev is_width : ℕ → Bool
is_width w = nat_le 1 w && nat_le w 4

abbrev is_plain : Procedure → PlainInstr → Bool
is_plain m (Copy to a) = is_local m to && is_operand m a
is_plain m (Compute c) = is_width c.width && (is_local m c.to && (is_operand m c.left && is_operand m c.right))
is_plain m (Product to a b) = is_local m to && (is_operand m a && is_operand m b)
is_plain m (DivideSteps r d a) = is_local m r && (is_local m d && (not (r == d) && is_operand m a))
is_plain m _ = false

abbrev is_test : Procedure → Test → Bool
is_test m t = is_width t.width && (is_operand m t.left && is_operand m t.right)

abbrev jumps_well : Procedure → (at to : ℕ) → Bool
jumps_well m at to = not (to == at) && (nat_lt to (length m.code) && nat_lt (suc at) (length m.code))

abbrev is_kept : Procedure → ℕ → Instr → Bool
is_kept m at (Plain p) = is_plain m p && nat_lt (suc at) (length m.code)
is_kept m at (When t to) = is_test m t && jumps_well m at to
is_kept m at (Unless t to) = is_test m t && jumps_well m at to
is_kept m at (Return w a) = (w == m.result) && is_operand m a
is_kept m at _ = false

abbrev are_kept : Procedure → ℕ → List Instr → Bool
are_kept m at [] = true
are_kept m at (i ∷ is) = is_kept m at i && are_kept m (suc at) is

first_of : (a b : Bool) → (a && b) ≡ true → a ≡ true
first_of true b e = refl
first_of false b e = absurd (grind arith)

second_of : (a b : Bool) → (a && b) ≡ true → b ≡ true
second_of true b e = e
second_of false b e = absurd (grind arith)

kept_at : (m : Procedure) (is : List Instr) (at k : ℕ) (i : Instr) → are_kept m at is ≡ true → slice_get is k ≡ Some i → is_kept m (at + k) i ≡ true
kept_at m [] at k i e h = absurd (grind arith)
kept_at m (x ∷ xs) at zero i e h =
    let n : at + zero ≡ at = omega arith in
    subst (λ z. is_kept m z i ≡ true) (sym n) (subst (λ z. is_kept m at z ≡ true) (some_is x i h) (first_of _ _ e))
kept_at m (x ∷ xs) at (suc k) i e h =
    let n : suc at + k ≡ at + suc k = omega arith in
    subst (λ z. is_kept m z i ≡ true) n (kept_at m xs (suc at) k i (second_of _ _ e) h)

not_same : (a b : ℕ) → not (a == b) ≡ true → a ≡ b → ⊥
not_same a b e h = grind arith

same_width : (w n : ℕ) → (w == n) ≡ true → w ≡ n
same_width w n e = grind arith

a_local : (m : Procedure) (i : ℕ) → is_local m i ≡ true → IsLocal m i
a_local m i e = grind arith

an_operand : (m : Procedure) (a : Operand) → is_operand m a ≡ true → IsOperand m a
an_operand m (Local i) e = a_local m i e
an_operand m (Known v) e = tt {0}

pub a_width : (w : ℕ) → is_width w ≡ true → IsWidth w
a_width w e = (at_least w (first_of _ _ e), at_most w (second_of _ _ e))
  where
    at_least : (w : ℕ) → nat_le 1 w ≡ true → 1 ≤ w
    at_least w h = grind arith

    at_most : (w : ℕ) → nat_le w 4 ≡ true → w ≤ 4
    at_most w h = grind arith

a_plain : (m : Procedure) (p : PlainInstr) → is_plain m p ≡ true → IsPlain m p
a_plain m (Copy to a) e = (a_local m to (first_of _ _ e), an_operand m a (second_of _ _ e))
a_plain m (Compute c) e =
    let r : (is_local m c.to && (is_operand m c.left && is_operand m c.right)) ≡ true = second_of _ _ e in (
      a_width c.width (first_of _ _ e),
      a_local m c.to (first_of _ _ r),
      an_operand m c.left (first_of _ _ (second_of _ _ r)),
      an_operand m c.right
          (second_of _ _ (second_of _ _ r)),
    )
a_plain m (Product to a b) e = (
  a_local m to (first_of _ _ e),
  an_operand m a (first_of _ _ (second_of _ _ e)),
  an_operand m b
      (second_of _ _ (second_of _ _ e)),
)
a_plain m (DivideSteps r d a) e =
    let f : (is_local m d && (not (r == d) && is_operand m a)) ≡ true = second_of _ _ e in
    let g : (not (r == d) && is_operand m a) ≡ true = second_of _ _ f in
    (a_local m r (first_of _ _ e), a_local m d (first_of _ _ f), not_same r d (first_of _ _ g), an_operand m a (second_of _ _ g))
a_plain m (Load x w to a) e = absurd (grind arith)
a_plain m (Store w a from) e = absurd (grind arith)
a_plain m (ReadDevice to a) e = absurd (grind arith)
a_plain m (WriteDevice to a) e = absurd (grind arith)
a_plain m (Push w a) e = absurd (grind arith)
a_plain m (Pop w to) e = absurd (grind arith)
a_plain m (Find d to a) e = absurd (grind arith)
a_plain m (CodeOf q to) e = absurd (grind arith)
a_plain m (Stop c) e = absurd (grind arith)

a_test : (m : Procedure) (t : Test) → is_test m t ≡ true → IsTest m t
a_test m t e = (a_width t.width (first_of _ _ e), an_operand m t.left (first_of _ _ (second_of _ _ e)), an_operand m t.right (second_of _ _ (second_of _ _ e)))

abbrev nothing_waits : ℕ → List ℕ
nothing_waits at = []

operands_kept : (m : Procedure) (at : ℕ) (i : Instr) → is_kept m at i ≡ true → AreOperands m i
operands_kept m at (Plain p) e = a_plain m p (first_of _ _ e)
operands_kept m at (When t to) e = a_test m t (first_of _ _ e)
operands_kept m at (Unless t to) e = a_test m t (first_of _ _ e)
operands_kept m at (Jump to) e = absurd (grind arith)
operands_kept m at (Call c) e = absurd (grind arith)
operands_kept m at (Return w a) e = (same_width w m.result (first_of _ _ e), an_operand m a (second_of _ _ e))
operands_kept m at Idle e = absurd (grind arith)

below : (a b : ℕ) → nat_lt a b ≡ true → a < b
below a b e = grind arith

plain_waits : (m : Procedure) (at : ℕ) (p : PlainInstr) → is_plain m p ≡ true → suc at < length m.code → PlainWaits m nothing_waits at p
plain_waits m at (Copy to a) e h = (h, refl)
plain_waits m at (Compute c) e h = (h, refl)
plain_waits m at (Product to a b) e h = (h, refl)
plain_waits m at (DivideSteps r d a) e h = (h, refl)
plain_waits m at (Load x w to a) e h = (h, refl)
plain_waits m at (Store w a from) e h = (h, refl)
plain_waits m at (ReadDevice to a) e h = (h, refl)
plain_waits m at (WriteDevice to a) e h = (h, refl)
plain_waits m at (Push w a) e h = absurd (grind arith)
plain_waits m at (Pop w to) e h = absurd (grind arith)
plain_waits m at (Find d to a) e h = (h, refl)
plain_waits m at (CodeOf q to) e h = (h, refl)
plain_waits m at (Stop c) e h = tt {0}

branch_waits : (m : Procedure) (at to : ℕ) → jumps_well m at to ≡ true
    → Waits m nothing_waits at (When (record {
      comparison = Rattle.vg_lin.specs.declared.instr.Comparison.TheVariants.Same;
      width = 1;
      left =
          Known 0;
      right = Known 0;
    }) to)
branch_waits m at to e = (
  (not_same to at (first_of _ _ e), (below to (length m.code) (first_of _ _ (second_of _ _ e)), refl)),
  (below (suc at) (length m.code) (second_of _ _ (second_of _ _ e)), refl),
)

waits_kept : (m : Procedure) (at : ℕ) (i : Instr) → is_kept m at i ≡ true → Waits m nothing_waits at i
waits_kept m at (Plain p) e = plain_waits m at p (first_of _ _ e) (below (suc at) (length m.code) (second_of _ _ e))
waits_kept m at (When t to) e = branch_waits m at to (second_of _ _ e)
waits_kept m at (Unless t to) e = branch_waits m at to (second_of _ _ e)
waits_kept m at (Jump to) e = absurd (grind arith)
waits_kept m at (Call c) e = absurd (grind arith)
waits_kept m at (Return w a) e = refl
waits_kept m at Idle e = absurd (grind arith)

plain_leaves : (m : Procedure) (p : PlainInstr) → is_plain m p ≡ true → [] ≡ behind_plain p []
plain_leaves m (Copy to a) e = refl
plain_leaves m (Compute c) e = refl
plain_leaves m (Product to a b) e = refl
plain_leaves m (DivideSteps r d a) e = refl
plain_leaves m (Load x w to a) e = refl
plain_leaves m (Store w a from) e = refl
plain_leaves m (ReadDevice to a) e = refl
plain_leaves m (WriteDevice to a) e = refl
plain_leaves m (Push w a) e = absurd (grind arith)
plain_leaves m (Pop w to) e = refl
plain_leaves m (Find d to a) e = refl
plain_leaves m (CodeOf q to) e = refl
plain_leaves m (Stop c) e = refl

leaves : (m : Procedure) (at : ℕ) (i : Instr) → is_kept m at i ≡ true → [] ≡ behind i []
leaves m at (Plain p) e = plain_leaves m p (first_of _ _ e)
leaves m at (When t to) e = refl
leaves m at (Unless t to) e = refl
leaves m at (Jump to) e = refl
leaves m at (Call c) e = absurd (grind arith)
leaves m at (Return w a) e = refl
leaves m at Idle e = refl

-- a procedure that passes the test keeps it all
pub sound : (m : Procedure) → length m.widths ≤ 252 → m.params ≤ length m.widths → m.result ≤ 4 → AllByRecursion IsWidth m.widths → 0 < length m.code
    → are_kept m 0 m.code ≡ true → IsSound m
sound m few params result widths some e =
    sound_by m nothing_waits (record {
      few = few;
      params = params;
      result = result;
      widths = widths;
      operands = λ at i h. operands_kept m (0 + at) i (kept_at m m.code 0 at i e h);
      begins = (some, refl);
      goes_on = λ at i h. let z : 0 + at ≡ at = omega arith in subst (λ n. Waits m nothing_waits n i) z (waits_kept m (0 + at) i (kept_at m m.code 0 at i e h));
      marked = λ at i h. leaves m (0 + at) i (kept_at m m.code 0 at i e h);
    })

pub shl_sound : IsSound shl
shl_sound = sound shl (omega arith) (omega arith) (omega arith) (a_width 4 refl, (a_width 4 refl, tt {0})) (omega arith) refl

pub shl_sound_as : (ws : List ℕ) (code : List Instr) → ws ≡ shl.widths → code ≡ shl.code
    → IsSound (record { method = None; params = 2; result = 4; widths = ws; code = code })
shl_sound_as ws code e h =
    subst (λ z. IsSound (record { method = None; params = 2; result = 4; widths = z; code = code })) (sym e)
    (subst (λ z. IsSound (record { method = None; params = 2; result = 4; widths = shl.widths; code = z })) (sym h) shl_sound)

pub shr_sound : IsSound shr
shr_sound = sound shr (omega arith) (omega arith) (omega arith) (a_width 4 refl, (a_width 4 refl, (a_width 4 refl, tt {0}))) (omega arith) refl

pub shr_sound_as : (ws : List ℕ) (code : List Instr) → ws ≡ shr.widths → code ≡ shr.code
    → IsSound (record { method = None; params = 3; result = 4; widths = ws; code = code })
shr_sound_as ws code e h =
    subst (λ z. IsSound (record { method = None; params = 3; result = 4; widths = z; code = code })) (sym e)
    (subst (λ z. IsSound (record { method = None; params = 3; result = 4; widths = shr.widths; code = z })) (sym h) shr_sound)

pub mul_sound : IsSound mul
mul_sound =
    sound mul (omega arith) (omega arith) (omega arith)
    (a_width 4 refl, (a_width 4 refl, (a_width 2 refl, (a_width 2 refl, (a_width 1 refl, (a_width 1 refl, tt {0})))))) (omega arith) refl

pub mul_sound_as : (ws : List ℕ) (code : List Instr) → ws ≡ mul.widths → code ≡ mul.code
    → IsSound (record { method = None; params = 2; result = 4; widths = ws; code = code })
mul_sound_as ws code e h =
    subst (λ z. IsSound (record { method = None; params = 2; result = 4; widths = z; code = code })) (sym e)
    (subst (λ z. IsSound (record { method = None; params = 2; result = 4; widths = mul.widths; code = z })) (sym h) mul_sound)

pub divide_sound : IsSound divide
divide_sound =
    sound divide (omega arith) (omega arith) (omega arith)
    (a_width 4 refl, (a_width 4 refl, (a_width 1 refl, (a_width 4 refl, (a_width 4 refl, (a_width 1 refl, tt {0})))))) (omega arith) refl

pub divide_sound_as : (ws : List ℕ) (code : List Instr) → ws ≡ divide.widths → code ≡ divide.code
    → IsSound (record { method = None; params = 3; result = 4; widths = ws; code = code })
divide_sound_as ws code e h =
    subst (λ z. IsSound (record { method = None; params = 3; result = 4; widths = z; code = code })) (sym e)
    (subst (λ z. IsSound (record { method = None; params = 3; result = 4; widths = divide.widths; code = z })) (sym h) divide_sound)
