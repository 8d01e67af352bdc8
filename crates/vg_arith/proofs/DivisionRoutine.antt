-- That the routine of division computes quotient and remainder. The run is in four parts: the signs are taken off, by cases; one instruction makes
-- the steps, by induction over those to come; and the result that is wanted gets its sign, which the highest bit of a byte has kept.
use Rattle.std.specs.Prelude.{ℕ, zero, suc, ◌-◌, ◌*◌, ◌/◌, ◌%◌, ◌^◌, ◌<◌, ◌≤◌, Bool, true, false, List, [], ◌∷◌}
use Rattle.std.specs.Prelude.{ℤ, int_rem, Option, Some, None, slice_get}
use Rattle.std.specs.Int.{w32, cast_unsigned, int_wrapping_div}
use Rattle.std.proofs.Common.{◌≡◌, refl, sym, ap, ◌∙◌, subst, arith}
use Rattle.std.proofs.Math.Nat.{pow-succ', mod-le}
use Rattle.vg_meaning.specs.History.{History}
use Rattle.vg_meaning.specs.World.{World}
use Rattle.vg_lin.specs.declared.instr.Operator.TheVariants.{Divide, Remainder}
use Rattle.vg_lin.specs.declared.instr.Instr.{Instr}
use Rattle.vg_lin.specs.declared.instr.Operand.TheVariants.{Local}
use Rattle.vg_lin.specs.Values.{low, signed, divided as divided_by, computed, next_remainder, next_dividend}
use Rattle.vg_lin.specs.Sound.{IsWidth}
use Rattle.vg_lin.specs.Program.{Program}
use Rattle.vg_lin.specs.State.{LocalState, State, division_steps, divides as makes_steps}
use Rattle.vg_lin.specs.Meaning.{begun, resume, language, codes_in}
use Rattle.vg_lin.specs.Steps.{Frame, Config, Goes, branched, performed, went}
use Rattle.vg_lin.specs.Follows.{Leads, conf}
use Rattle.vg_lin.proofs.Followed.{leads_then, free}
use Rattle.vg_arith.specs.Routines.{with_locals, Gives, IsRoutineOf}
use Rattle.vg_arith.specs.Division.{divide, of_steps}
use Rattle.vg_arith.proofs.ShiftRoutines.{some_is, fetch_of, low_same, low_low, gives_low}
use Rattle.vg_arith.proofs.DivisionLaws.{Divides, divides_on, divides_fits, divides_first, divides_last, is_positive, magnitude, turned, with_sign, same}
use Rattle.vg_arith.proofs.DivisionLaws.{turned_is, magnitude_small, magnitude_below, magnitude_some, negative_some}
use Rattle.vg_arith.proofs.DivisionLaws.{sign_test, divides, leaves, divide_low, leave_low}
use Rattle.vg_arith.proofs.DivisionLaws.{high, turned_by, Tells, high_tells, turned_tells, byte_test}

steps_count : division_steps ≡ 32
unfolding division_steps
steps_count = refl

module _ (p : Program) (q : ℕ) (has : slice_get p.procedures q ≡ Some divide) (f : Frame State) (fs : List (Frame State)) (ram : List ℕ)
    (w : World History) where
  -- the locals: dividend, divisor, what is wanted, remainder, what is divided, and the byte of the sign
  abbrev pub held : (x y c : ℕ) → (r d n : Option ℕ) → State
  held x y c r d n =
      with_locals ram
      (record { width = 4; value = Some x } ∷ record { width = 4; value = Some y } ∷ record { width = 1; value = Some c }
      ∷ record { width = 4; value = r } ∷ record { width = 4; value = d } ∷ record { width = 1; value = n } ∷ [])

  abbrev pub at : (pc x y c : ℕ) → (r d n : Option ℕ) → Config State
  at pc x y c r d n = conf q pc (f ∷ fs) (held x y c r d n) w

  abbrev pub To : Config State → Config State → Type 0
  To c d = Leads (language p) (codes_in p.procedures) 0 c d

  then : (c d e : Config State) → To c d → To d e → To c e
  then c d e g h = leads_then (language p) (codes_in p.procedures) 0 0 c d e g h

  -- one instruction
  one : (pc x y c : ℕ) (r d n : Option ℕ) (i : Instr) (to : Config State) → slice_get divide.code pc ≡ Some i
      → performed (language p) (at pc x y c r d n) (Some i) ≡ to → To (at pc x y c r d n) to
  one pc x y c r d n i to e g = free (language p) (codes_in p.procedures) q pc (f ∷ fs) (held x y c r d n) w i to (fetch_of p.procedures q divide has pc ∙ e) g

  -- what is divided is the magnitude of the dividend
  dividend : (a : Bool) (x y c n : ℕ) → x < 2 ^ 32 → is_positive x ≡ a → Tells n a
      → To (at 3 x y c (Some 0) (Some x) (Some n)) (at 5 x y c (Some 0) (Some (magnitude a x)) (Some n))
  dividend true x y c n h e t =
      one 3 x y c (Some 0) (Some x) (Some n) _ _ refl (ap (λ o. branched (at 3 x y c (Some 0) (Some x) (Some n)) false 5 (Some o)) (byte_test true n t))
  dividend false x y c n h e t =
      then (at 3 x y c (Some 0) (Some x) (Some n)) (at 4 x y c (Some 0) (Some x) (Some n)) _
      (one 3 x y c (Some 0) (Some x) (Some n) _ _ refl (ap (λ o. branched (at 3 x y c (Some 0) (Some x) (Some n)) false 5 (Some o)) (byte_test false n t)))
      (one 4 x y c (Some 0) (Some x) (Some n) _ _ refl (ap (λ z. at 5 x y c (Some 0) (Some z) (Some n)) (turned_is x h (negative_some x e))))

  -- the sign of the quotient; that of the remainder does not ask for the divisor's
  divisor_false : (b : Bool) (x y d n : ℕ) → y < 2 ^ 32 → is_positive y ≡ b
      → To (at 5 x y 0 (Some 0) (Some d) (Some n)) (at 9 x (magnitude b y) 0 (Some 0) (Some d) (Some (turned_by b n)))
  divisor_false true x y d n h e =
      one 5 x y 0 (Some 0) (Some d) (Some n) _ _ refl (ap (λ t. branched (at 5 x y 0 (Some 0) (Some d) (Some n)) false 9 (Some t)) (sign_test true y h e))
  divisor_false false x y d n h e =
      then (at 5 x y 0 (Some 0) (Some d) (Some n)) (at 6 x y 0 (Some 0) (Some d) (Some n)) _
      (one 5 x y 0 (Some 0) (Some d) (Some n) _ _ refl (ap (λ t. branched (at 5 x y 0 (Some 0) (Some d) (Some n)) false 9 (Some t)) (sign_test false y h e)))
      (then (at 6 x y 0 (Some 0) (Some d) (Some n)) (at 7 x (2 ^ 32 - y) 0 (Some 0) (Some d) (Some n)) _
      (one 6 x y 0 (Some 0) (Some d) (Some n) _ _ refl (ap (λ z. at 7 x z 0 (Some 0) (Some d) (Some n)) (turned_is y h (negative_some y e))))
      (then (at 7 x (2 ^ 32 - y) 0 (Some 0) (Some d) (Some n)) (at 8 x (2 ^ 32 - y) 0 (Some 0) (Some d) (Some n)) _
      (one 7 x (2 ^ 32 - y) 0 (Some 0) (Some d) (Some n) _ _ refl refl)
      (one 8 x (2 ^ 32 - y) 0 (Some 0) (Some d) (Some n) _ _ refl refl)))

  divisor_true : (b : Bool) (x y : ℕ) (d n : Option ℕ) → y < 2 ^ 32 → is_positive y ≡ b
      → To (at 5 x y 1 (Some 0) d n) (at 9 x (magnitude b y) 1 (Some 0) d n)
  divisor_true true x y d n h e =
      one 5 x y 1 (Some 0) d n _ _ refl (ap (λ t. branched (at 5 x y 1 (Some 0) d n) false 9 (Some t)) (sign_test true y h e))
  divisor_true false x y d n h e =
      then (at 5 x y 1 (Some 0) d n) (at 6 x y 1 (Some 0) d n) _
      (one 5 x y 1 (Some 0) d n _ _ refl (ap (λ t. branched (at 5 x y 1 (Some 0) d n) false 9 (Some t)) (sign_test false y h e)))
      (then (at 6 x y 1 (Some 0) d n) (at 7 x (2 ^ 32 - y) 1 (Some 0) d n) _
      (one 6 x y 1 (Some 0) d n _ _ refl (ap (λ z. at 7 x z 1 (Some 0) d n) (turned_is y h (negative_some y e))))
      (one 7 x (2 ^ 32 - y) 1 (Some 0) d n _ _ refl refl))

  -- the steps, so many of which are to come
  steps_make : (d0 x v c : ℕ) (n : Option ℕ) → v ≤ 2 ^ 31 → (left P r d : ℕ) → Divides d0 v P (2 ^ left) r d
      → makes_steps left 3 4 (Local 1) (held x v c (Some r) (Some d) n) w.outside ≡ Goes (held x v c (Some (d0 % v)) (Some (d0 / v)) n) w.outside
  steps_make d0 x v c n small zero P r d g =
      let last : (d ≡ d0 / v) × (r ≡ d0 % v) = divides_last d0 v P r d g in
      ap (λ z. Goes (held x v c (Some r) (Some z) n) w.outside) (last.0) ∙ ap (λ z. Goes (held x v c (Some z) (Some (d0 / v)) n) w.outside) (last.1)
  steps_make d0 x v c n small (suc left) P r d g =
      let R = next_remainder r d v in
      let D = next_dividend r d v in
      let next : Divides d0 v (2 * P) (2 ^ left) R D = divides_on d0 v P (2 ^ left) r d small (subst (λ z. Divides d0 v P z r d) (pow-succ' 2 left) g) in
      let fit : (low 4 R ≡ R) × (low 4 D ≡ D) = divides_fits d0 v (2 * P) (2 ^ left) R D small next in
      ap (λ z. makes_steps left 3 4 (Local 1) (held x v c (Some z) (Some (low 4 D)) n) w.outside) (fit.0)
      ∙ ap (λ z. makes_steps left 3 4 (Local 1) (held x v c (Some R) (Some z) n) w.outside) (fit.1)
      ∙ steps_make d0 x v c n small left (2 * P) R D next

  divided : (d0 x v c : ℕ) (n : Option ℕ) (from : Config State) → d0 < 2 ^ 32 → 0 < v → v ≤ 2 ^ 31 → To from (at 9 x v c (Some 0) (Some d0) n)
      → To from (at 10 x v c (Some (d0 % v)) (Some (d0 / v)) n)
  divided d0 x v c n from h some small t =
      let first : Divides d0 v 1 (2 ^ division_steps) 0 d0 = subst (λ k. Divides d0 v 1 (2 ^ k) 0 d0) (sym steps_count) (divides_first d0 v h some) in
      then from (at 9 x v c (Some 0) (Some d0) n) (at 10 x v c (Some (d0 % v)) (Some (d0 / v)) n) t
      (one 9 x v c (Some 0) (Some d0) n of_steps _ refl (ap (went (at 9 x v c (Some 0) (Some d0) n)) (steps_make d0 x v c n small division_steps 1 0 d0 first)))

  -- the configuration in which the routine begins
  abbrev pub begins : (x y c : ℕ) → Config State
  begins x y c = conf q 0 (f ∷ fs) (with_locals ram (begun divide.widths (x ∷ y ∷ c ∷ []))) w

  opens : (x y c : ℕ) → x < 2 ^ 32 → y < 2 ^ 32 → c < 256 → To (begins x y c) (at 3 x y c (Some 0) (Some x) (Some (high x)))
  opens x y c hx hy hc =
      subst (λ z. To (begins x y c) (at 3 z y c (Some 0) (Some z) (Some (high z)))) (low_same x hx)
      (subst (λ z. To (begins x y c) (at 3 X z c (Some 0) (Some X) (Some (high X)))) (low_same y hy)
      (subst (λ z. To (begins x y c) (at 3 X Y z (Some 0) (Some X) (Some (high X)))) (one_byte c hc)
      (then (begins x y c) (at 1 X Y C None (Some X) None) _
      (one 0 X Y C None None None _ (at 1 X Y C None (Some X) None) refl (ap (λ z. at 1 X Y C None (Some z) None) twice))
      (then (at 1 X Y C None (Some X) None) (at 2 X Y C (Some 0) (Some X) None) _
      (one 1 X Y C None (Some X) None _ _ refl refl)
      (one 2 X Y C (Some 0) (Some X) None _ (at 3 X Y C (Some 0) (Some X) (Some (high X))) refl
      (ap (λ z. at 3 X Y C (Some 0) (Some X) (Some (high z))) twice))))))
    where
      one_byte : (c : ℕ) → c < 256 → low 1 c ≡ c
      one_byte c h = omega (arith, h)

      X : ℕ
      X = low 4 x

      Y : ℕ
      Y = low 4 y

      C : ℕ
      C = low 1 c

      twice : low 4 X ≡ X
      twice = omega arith

  -- the end of the routine, which gives this result
  abbrev pub Back : ℕ → Config State → Type 0
  Back v c = (left : List LocalState) × To c (conf f.proc (suc f.pc) fs (resume f.awaits f.kept (with_locals ram left) (low 4 v)) w)

  signed_result : (a : Bool) (x y c d n : ℕ) (r : Option ℕ) (from : Config State) → Tells n a → To from (at 12 x y c r (Some d) (Some n))
      → Back (with_sign a d) from
  signed_result true x y c d n r from s t = (
    _,
    then from (at 12 x y c r (Some d) (Some n)) _ t
        (then (at 12 x y c r (Some d) (Some n)) (at 14 x y c r (Some d) (Some n)) _
        (one 12 x y c r (Some d) (Some n) _ (at 14 x y c r (Some d) (Some n)) refl
        (ap (λ o. branched (at 12 x y c r (Some d) (Some n)) false 14 (Some o)) (byte_test true n s)))
        (one 14 x y c r (Some d) (Some n) _ _ refl refl)),
  )
  signed_result false x y c d n r from s t = (
    _,
    then from (at 12 x y c r (Some d) (Some n)) _ t
        (then (at 12 x y c r (Some d) (Some n)) (at 13 x y c r (Some d) (Some n)) _
        (one 12 x y c r (Some d) (Some n) _ (at 13 x y c r (Some d) (Some n)) refl
        (ap (λ o. branched (at 12 x y c r (Some d) (Some n)) false 14 (Some o)) (byte_test false n s)))
        (then (at 13 x y c r (Some d) (Some n)) (at 14 x y c r (Some (turned d)) (Some n)) _
        (one 13 x y c r (Some d) (Some n) _ (at 14 x y c r (Some (turned d)) (Some n)) refl refl)
        (one 14 x y c r (Some (turned d)) (Some n) _ _ refl refl))),
  )

  -- the whole routine
  gives_quotient : (a b : Bool) (x y : ℕ) → x < 2 ^ 32 → y < 2 ^ 32 → 0 < y → is_positive x ≡ a → is_positive y ≡ b
      → Back (with_sign (same a b) (magnitude a x / magnitude b y)) (begins x y 0)
  gives_quotient a b x y hx hy some ea eb =
      signed_result (same a b) x v 0 (d / v) n (Some (d % v)) (begins x y 0) (turned_tells a b (high x) tells)
      (then (begins x y 0) (at 10 x v 0 (Some (d % v)) (Some (d / v)) (Some n)) _
      (divided d x v 0 (Some n) (begins x y 0) (magnitude_below a x hx ea) (magnitude_some b y hy some) (magnitude_small b y hy eb)
      (then (begins x y 0) (at 5 x y 0 (Some 0) (Some d) (Some (high x))) _
      (then (begins x y 0) (at 3 x y 0 (Some 0) (Some x) (Some (high x))) _ (opens x y 0 hx hy (omega arith)) (dividend a x y 0 (high x) hx ea tells))
      (divisor_false b x y d (high x) hy eb)))
      (one 10 x v 0 (Some (d % v)) (Some (d / v)) (Some n) _ _ refl refl))
    where
      d : ℕ
      d = magnitude a x

      v : ℕ
      v = magnitude b y

      n : ℕ
      n = turned_by b (high x)

      tells : Tells (high x) a
      tells = high_tells a x hx ea

  gives_remainder : (a b : Bool) (x y : ℕ) → x < 2 ^ 32 → y < 2 ^ 32 → 0 < y → is_positive x ≡ a → is_positive y ≡ b
      → Back (with_sign a (magnitude a x % magnitude b y)) (begins x y 1)
  gives_remainder a b x y hx hy some ea eb =
      signed_result a x v 1 (d % v) (high x) (Some (d % v)) (begins x y 1) tells
      (then (begins x y 1) (at 10 x v 1 (Some (d % v)) (Some (d / v)) (Some (high x))) _
      (divided d x v 1 (Some (high x)) (begins x y 1) (magnitude_below a x hx ea) (magnitude_some b y hy some) (magnitude_small b y hy eb)
      (then (begins x y 1) (at 5 x y 1 (Some 0) (Some d) (Some (high x))) _
      (then (begins x y 1) (at 3 x y 1 (Some 0) (Some x) (Some (high x))) _ (opens x y 1 hx hy (omega arith)) (dividend a x y 1 (high x) hx ea tells))
      (divisor_true b x y (Some d) (Some (high x)) hy eb)))
      (then (at 10 x v 1 (Some (d % v)) (Some (d / v)) (Some (high x))) (at 11 x v 1 (Some (d % v)) (Some (d / v)) (Some (high x))) _
      (one 10 x v 1 (Some (d % v)) (Some (d / v)) (Some (high x)) _ _ refl refl)
      (one 11 x v 1 (Some (d % v)) (Some (d / v)) (Some (high x)) _ _ refl
      (ap (λ z. at 12 x v 1 (Some (d % v)) (Some z) (Some (high x))) (low_same (d % v) rest)))))
    where
      d : ℕ
      d = magnitude a x

      v : ℕ
      v = magnitude b y

      tells : Tells (high x) a
      tells = high_tells a x hx ea

      rest : d % v < 2 ^ 32
      rest = let e = mod-le d v in omega (arith, e, magnitude_below a x hx ea)

-- at the width of four bytes
gives_divide : (x y v : ℕ) → x < 2 ^ 32 → y < 2 ^ 32 → computed Divide 4 x y ≡ Some v → Gives divide (x ∷ y ∷ 0 ∷ []) (low 4 v)
gives_divide x y v hx hy e p q has f fs ram w =
    let h : (0 < y) × (with_sign (same (is_positive x) (is_positive y)) (magnitude (is_positive x) x / magnitude (is_positive y) y) ≡ v) =
    divides (is_positive x) (is_positive y) x y v hx hy refl refl e in
    subst (λ z. Back p q has f fs ram w z (begins p q has f fs ram w x y 0)) (h.1)
    (gives_quotient p q has f fs ram w (is_positive x) (is_positive y) x y hx hy (h.0) refl refl)

gives_leave : (x y v : ℕ) → x < 2 ^ 32 → y < 2 ^ 32 → computed Remainder 4 x y ≡ Some v → Gives divide (x ∷ y ∷ 1 ∷ []) (low 4 v)
gives_leave x y v hx hy e p q has f fs ram w =
    let h : (0 < y) × (with_sign (is_positive x) (magnitude (is_positive x) x % magnitude (is_positive y) y) ≡ v) =
    leaves (is_positive x) (is_positive y) x y v hx hy refl refl e in
    subst (λ z. Back p q has f fs ram w z (begins p q has f fs ram w x y 1)) (h.1)
    (gives_remainder p q has f fs ram w (is_positive x) (is_positive y) x y hx hy (h.0) refl refl)

small : (x : ℕ) → low 4 x < 2 ^ 32
small x = omega arith

-- a division at a width is the low bytes of that at four
at_width : (w d v : ℕ) (z : ℤ) → IsWidth w → divided_by w d z ≡ Some v
    → (v4 : ℕ) × (low w v4 ≡ v) × (divided_by 4 d z ≡ Some v4)
at_width w zero v z hw e = absurd (grind arith)
at_width w (suc d) v z hw e = (low 4 (cast_unsigned w32 z), low_low w (cast_unsigned w32 z) hw ∙ some_is _ v e, refl)

pub divides_is : IsRoutineOf Divide divide
divides_is w x y v hw ha e = given (at_width w (low 4 y) v (int_wrapping_div w32 (signed 4 x) (signed 4 y)) hw e)
  where
    given : (v4 : ℕ) × (low w v4 ≡ v) × (computed Divide 4 x y ≡ Some v4) → (z : ℕ) × (low w z ≡ v) × Gives divide (x ∷ y ∷ 0 ∷ []) z
    given (v4, l, g) = (
      low 4 v4,
      low_low w v4 hw ∙ l,
      gives_low divide (1 ∷ 4 ∷ 4 ∷ 1 ∷ []) (0 ∷ []) x y (low 4 v4) refl (gives_divide (low 4 x) (low 4 y) v4 (small x) (small y)
          (divide_low x y ∙ g)),
    )

pub leaves_is : IsRoutineOf Remainder divide
leaves_is w x y v hw ha e = given (at_width w (low 4 y) v (int_rem (signed 4 x) (signed 4 y)) hw e)
  where
    given : (v4 : ℕ) × (low w v4 ≡ v) × (computed Remainder 4 x y ≡ Some v4) → (z : ℕ) × (low w z ≡ v) × Gives divide (x ∷ y ∷ 1 ∷ []) z
    given (v4, l, g) = (
      low 4 v4,
      low_low w v4 hw ∙ l,
      gives_low divide (1 ∷ 4 ∷ 4 ∷ 1 ∷ []) (1 ∷ []) x y (low 4 v4) refl (gives_leave (low 4 x) (low 4 y) v4 (small x) (small y)
          (leave_low x y ∙ g)),
    )
