-- That expanded code has the same calls, but for those of routines, and no jump back where there was none. Both go by cases of the
-- instruction: what stands for a computation calls nothing but a routine, and new places grow with the old ones.
use Rattle.std.specs.Prelude.{ℕ, zero, suc, ◌+◌, ◌<◌, Bool, true, false, not, ◌&&◌, nat_lt, nat_le, List, [], ◌∷◌, ◌++◌, length, Some, slice_get}
use Rattle.std.specs.Prelude.{if◌then◌else◌}
use Rattle.std.proofs.Common.{◌≡◌, refl, sym, ap, ◌∙◌, subst, arith, append_assoc}
use Rattle.vg_lin.specs.declared.instr.Operand.{Operand}
use Rattle.vg_lin.specs.declared.instr.Operand.TheVariants.{Local, Known}
use Rattle.vg_lin.specs.declared.instr.Operator.{Operator}
use Rattle.vg_lin.specs.declared.instr.Operator.TheVariants.{Plus, Minus, Times, Divide, Remainder, And, Or, Xor, ShiftLeft, ShiftRight}
use Rattle.vg_lin.specs.declared.instr.Computation.{Computation}
use Rattle.vg_lin.specs.declared.instr.Plain.{Plain as PlainInstr}
use Rattle.vg_lin.specs.declared.instr.Plain.TheVariants.{Copy, Compute, Product, DivideSteps, Load, Store, ReadDevice, WriteDevice, Push, Pop, Find, CodeOf, Stop}
use Rattle.vg_lin.specs.declared.instr.Callee.TheVariants.{Procedure as ByNumber}
use Rattle.vg_lin.specs.declared.instr.Registers.{Registers}
use Rattle.vg_lin.specs.declared.instr.Registers.TheVariants.{Two}
use Rattle.vg_lin.specs.declared.instr.Instr.{Instr}
use Rattle.vg_lin.specs.declared.instr.Instr.TheVariants.{Plain, When, Unless, Jump, Call, Return, Idle}
use Rattle.vg_lin.specs.Program.{Procedure}
use Rattle.vg_lin.specs.Sound.{IsPlain, AreOperands, Waits, IsSound, waits_of}
use Rattle.vg_lin.specs.Onward.{leads_on, all_lead_on}
use Rattle.vg_arith.proofs.ShiftRoutines.{some_is}
use Rattle.vg_expand.specs.Flow.{is_routine, calls_in, calls_of}
use Rattle.vg_expand.specs.Code.{Base, in_four, dividing, cut_to, calling, shifting, shifting_left, shifting_right, computing, expanded_at, expanded_code, place_in, base_of, expanded}
use Rattle.vg_expand.proofs.Expanded.{each_product}
use Rattle.vg_expand.proofs.Placed.{place_of, place_in_is}
use Rattle.vg_expand.proofs.Kept.{Located, located, alone, one_of, IsOfComputation, computing_is, place_grows}

-- ---- calls

calls_append : (first : ℕ) (xs ys : List Instr) → calls_of first (xs ++ ys) ≡ calls_of first xs ++ calls_of first ys
calls_append first [] ys = refl
calls_append first (x ∷ xs) ys =
    ap (λ z. calls_in first x ++ z) (calls_append first xs ys) ∙ sym (append_assoc (calls_in first x) (calls_of first xs) (calls_of first ys))

a_routine : (first k : ℕ) → k < 4 → is_routine first (first + k) ≡ true
a_routine first k h = both (nat_le first (first + k)) (nat_lt (first + k) (first + 4)) (at_least first k) (below first k h)
  where
    both : (a b : Bool) → a ≡ true → b ≡ true → (a && b) ≡ true
    both true b e h = h
    both false b e h = absurd (grind arith)

    at_least : (a b : ℕ) → nat_le a (a + b) ≡ true
    at_least a b = grind arith

    below : (a b : ℕ) → b < 4 → nat_lt (a + b) (a + 4) ≡ true
    below a b h = grind arith

cut_calls : (first w to : ℕ) → calls_of first (cut_to w to) ≡ []
cut_calls first w to = by_test (nat_lt w 4)
  where
    by_test : (b : Bool) → calls_of first (if b then Plain (Compute (record { operator = Plus; width = w; to = to; left = Local to; right = Known 0 }))
        ∷ [] else []) ≡ []
    by_test true = refl
    by_test false = refl

calling_calls : (first k : ℕ) (rs : Registers) (c : Computation) → k < 4 → calls_of first (calling (first + k) rs c) ≡ []
calling_calls first k rs c h =
    ap (λ b. (if not b then record { callee = ByNumber (first + k); pushed = 0; registers = rs; to = Some (record { width = 4; local = c.to }) }
    ∷ [] else []) ++ calls_of first (cut_to c.width c.to))
    (a_routine first k h) ∙ cut_calls first c.width c.to

shifting_calls : (first k : ℕ) (rs : Registers) (c : Computation) (a : Operand) → k < 4 → calls_of first (shifting (first + k) rs c a) ≡ []
shifting_calls first k rs c (Known n) h = refl
shifting_calls first k rs c (Local i) h = calling_calls first k rs c h

computing_calls : (base : Base) (c : Computation) (op : Operator) → calls_of base.first (computing base c op) ≡ []
computing_calls base c Plus = refl
computing_calls base c Minus = refl
computing_calls base c Times =
    each_product (λ xs. calls_of base.first xs ≡ []) base c (λ a b. subst (λ r. calls_of base.first (calling r (Two (in_four a) (in_four b)) c) ≡ []) (none base.first)
    (calling_calls base.first 0 (Two (in_four a) (in_four b)) c (omega arith))) (λ a b. cut_calls base.first c.width c.to) (λ v. refl) (λ a n. refl) (λ a n. refl) (λ a n. refl)
    c.left c.right
  where
    none : (n : ℕ) → n + 0 ≡ n
    none n = omega arith
computing_calls base c Divide = calling_calls base.first 1 (dividing c (Known 0)) c (omega arith)
computing_calls base c Remainder = calling_calls base.first 1 (dividing c (Known 1)) c (omega arith)
computing_calls base c And = refl
computing_calls base c Or = refl
computing_calls base c Xor = refl
computing_calls base c ShiftLeft = shifting_calls base.first 2 (shifting_left c) c c.right (omega arith)
computing_calls base c ShiftRight = shifting_calls base.first 3 (shifting_right c) c c.right (omega arith)

at_calls : (base : Base) (place : ℕ → ℕ) (i : Instr) → calls_of base.first (expanded_at base place i) ≡ calls_of base.first (i ∷ [])
at_calls base place (Plain (Copy to a)) = refl
at_calls base place (Plain (Compute c)) = computing_calls base c c.operator
at_calls base place (Plain (Product to a b)) = refl
at_calls base place (Plain (DivideSteps r d a)) = refl
at_calls base place (Plain (Load m w to a)) = refl
at_calls base place (Plain (Store w a from)) = refl
at_calls base place (Plain (ReadDevice to a)) = refl
at_calls base place (Plain (WriteDevice to a)) = refl
at_calls base place (Plain (Push w a)) = refl
at_calls base place (Plain (Pop w to)) = refl
at_calls base place (Plain (Find d to a)) = refl
at_calls base place (Plain (CodeOf q to)) = refl
at_calls base place (Plain (Stop c)) = refl
at_calls base place (When t to) = refl
at_calls base place (Unless t to) = refl
at_calls base place (Jump to) = refl
at_calls base place (Call c) = refl
at_calls base place (Return w a) = refl
at_calls base place Idle = refl

pub code_calls : (base : Base) (place : ℕ → ℕ) (is : List Instr) → calls_of base.first (expanded_code base place is) ≡ calls_of base.first is
code_calls base place [] = refl
code_calls base place (i ∷ is) =
    calls_append base.first (expanded_at base place i) (expanded_code base place is)
    ∙ ap (λ z. z ++ calls_of base.first (expanded_code base place is)) (at_calls base place i)
    ∙ ap (λ z. calls_of base.first (i ∷ []) ++ z) (code_calls base place is) ∙ sym (calls_append base.first (i ∷ []) is)

-- ---- jumps

leads_at : (n : ℕ) (is : List Instr) (at : ℕ) (i : Instr) → all_lead_on n is ≡ true → slice_get is at ≡ Some i → leads_on (n + at) i ≡ true
leads_at n [] at i h e = absurd (grind arith)
leads_at n (j ∷ is) zero i h e =
    subst (λ k. leads_on k i ≡ true) (none n) (subst (λ z. leads_on n z ≡ true) (some_is j i e) (first_of (leads_on n j) (all_lead_on (suc n) is) h))
  where
    none : (n : ℕ) → n ≡ n + 0
    none n = omega arith

    first_of : (a b : Bool) → (a && b) ≡ true → a ≡ true
    first_of true b e = refl
    first_of false b e = absurd (grind arith)
leads_at n (j ∷ is) (suc at) i h e =
    subst (λ k. leads_on k i ≡ true) (next n at) (leads_at (suc n) is at i (second_of (leads_on n j) (all_lead_on (suc n) is) h) e)
  where
    next : (n at : ℕ) → suc n + at ≡ n + suc at
    next n at = omega arith

    second_of : (a b : Bool) → (a && b) ≡ true → b ≡ true
    second_of true b e = e
    second_of false b e = absurd (grind arith)

lead_all : (n : ℕ) (is : List Instr) → ((j : ℕ) (x : Instr) → slice_get is j ≡ Some x → leads_on (n + j) x ≡ true) → all_lead_on n is ≡ true
lead_all n [] h = refl
lead_all n (i ∷ is) h =
    both (leads_on n i) (all_lead_on (suc n) is) (subst (λ k. leads_on k i ≡ true) (none n) (h 0 i refl))
    (lead_all (suc n) is (λ j x e. subst (λ k. leads_on k x ≡ true) (next n j) (h (suc j) x e)))
  where
    none : (n : ℕ) → n + 0 ≡ n
    none n = omega arith

    next : (n at : ℕ) → n + suc at ≡ suc n + at
    next n at = omega arith

    both : (a b : Bool) → a ≡ true → b ≡ true → (a && b) ≡ true
    both true b e h = h
    both false b e h = absurd (grind arith)

-- what stands for a computation does not jump
stays : (m : Procedure) (j : ℕ) (x : Instr) → IsOfComputation m x → leads_on j x ≡ true
stays m j (Plain p) h = refl
stays m j (When t to) h = absurd h
stays m j (Unless t to) h = absurd h
stays m j (Jump to) h = absurd h
stays m j (Call c) h = refl
stays m j (Return w a) h = refl
stays m j Idle h = refl

module _ (first : ℕ) (m : Procedure) (sound : IsSound m) where
  abbrev pub its_base : Base
  its_base = base_of first m

  target : (at to : ℕ) → to < length m.code → nat_lt at to ≡ true → nat_lt (place_of its_base m.code at + 0) (place_in its_base m.code to) ≡ true
  target at to h e =
      ap (nat_lt (place_of its_base m.code at + 0)) (place_in_is its_base m.code to h)
      ∙ grows (place_of its_base m.code at) (place_of its_base m.code to) (place_grows its_base m.code at to h (below at to e))
    where
      below : (a b : ℕ) → nat_lt a b ≡ true → a < b
      below a b e = grind arith

      grows : (a b : ℕ) → a < b → nat_lt (a + 0) b ≡ true
      grows a b h = grind arith

  plain_leads : (at k : ℕ) (p : PlainInstr) (x : Instr) → IsPlain m p → slice_get (expanded_at its_base (place_in its_base m.code) (Plain p)) k ≡ Some x
      → leads_on (place_of its_base m.code at + k) x ≡ true
  plain_leads at k (Copy to a) x h f = alone (λ n y. leads_on (place_of its_base m.code at + n) y ≡ true) (Plain (Copy to a)) k x f refl
  plain_leads at k (Compute c) x (hw, ht, hl, hr) f =
      stays (expanded first m) (place_of its_base m.code at + k) x
      (one_of (IsOfComputation (expanded first m)) (computing its_base c c.operator) k x
      (computing_is first m c.width c.to c.left c.right hw ht hl hr c.operator) f)
  plain_leads at k (Product to a b) x h f = alone (λ n y. leads_on (place_of its_base m.code at + n) y ≡ true) (Plain (Product to a b)) k x f refl
  plain_leads at k (DivideSteps r d a) x h f = alone (λ n y. leads_on (place_of its_base m.code at + n) y ≡ true) (Plain (DivideSteps r d a)) k x f refl
  plain_leads at k (Load y w to a) x h f = alone (λ n y. leads_on (place_of its_base m.code at + n) y ≡ true) (Plain (Load y w to a)) k x f refl
  plain_leads at k (Store w a from) x h f = alone (λ n y. leads_on (place_of its_base m.code at + n) y ≡ true) (Plain (Store w a from)) k x f refl
  plain_leads at k (ReadDevice to a) x h f = alone (λ n y. leads_on (place_of its_base m.code at + n) y ≡ true) (Plain (ReadDevice to a)) k x f refl
  plain_leads at k (WriteDevice to a) x h f = alone (λ n y. leads_on (place_of its_base m.code at + n) y ≡ true) (Plain (WriteDevice to a)) k x f refl
  plain_leads at k (Push w a) x h f = alone (λ n y. leads_on (place_of its_base m.code at + n) y ≡ true) (Plain (Push w a)) k x f refl
  plain_leads at k (Pop w to) x h f = alone (λ n y. leads_on (place_of its_base m.code at + n) y ≡ true) (Plain (Pop w to)) k x f refl
  plain_leads at k (Find d to a) x h f = alone (λ n y. leads_on (place_of its_base m.code at + n) y ≡ true) (Plain (Find d to a)) k x f refl
  plain_leads at k (CodeOf q to) x h f = alone (λ n y. leads_on (place_of its_base m.code at + n) y ≡ true) (Plain (CodeOf q to)) k x f refl
  plain_leads at k (Stop c) x h f = alone (λ n y. leads_on (place_of its_base m.code at + n) y ≡ true) (Plain (Stop c)) k x f refl

  leads : (at k : ℕ) (i x : Instr) → AreOperands m i → Waits m (waits_of m) at i → leads_on at i ≡ true
      → slice_get (expanded_at its_base (place_in its_base m.code) i) k ≡ Some x → leads_on (place_of its_base m.code at + k) x ≡ true
  leads at k (Plain p) x h w l f = plain_leads at k p x h f
  leads at k (When t to) x h ((n, (b, g)), r) l f =
      alone (λ n y. leads_on (place_of its_base m.code at + n) y ≡ true) (When t (place_in its_base m.code to)) k x f (target at to b l)
  leads at k (Unless t to) x h ((n, (b, g)), r) l f =
      alone (λ n y. leads_on (place_of its_base m.code at + n) y ≡ true) (Unless t (place_in its_base m.code to)) k x f (target at to b l)
  leads at k (Jump to) x h (n, (b, g)) l f =
      alone (λ n y. leads_on (place_of its_base m.code at + n) y ≡ true) (Jump (place_in its_base m.code to)) k x f (target at to b l)
  leads at k (Call c) x h w l f = alone (λ n y. leads_on (place_of its_base m.code at + n) y ≡ true) (Call c) k x f refl
  leads at k (Return r a) x h w l f = alone (λ n y. leads_on (place_of its_base m.code at + n) y ≡ true) (Return r a) k x f refl
  leads at k Idle x h w l f = alone (λ n y. leads_on (place_of its_base m.code at + n) y ≡ true) Idle k x f refl

  pub code_onwards : all_lead_on 0 m.code ≡ true → all_lead_on 0 (expanded first m).code ≡ true
  code_onwards h = lead_all 0 (expanded first m).code (λ j x e. subst (λ k. leads_on k x ≡ true) (none j) (from j x (located its_base
      (place_in its_base m.code) m.code j x e)))
    where
      none : (n : ℕ) → n ≡ 0 + n
      none n = omega arith

      from : (j : ℕ) (x : Instr) → Located its_base (place_in its_base m.code) m.code j x → leads_on j x ≡ true
      from j x l =
          subst (λ k. leads_on k x ≡ true) (sym l.found)
          (leads l.at l.k l.before x (sound.operands l.at l.before l.is_at) (sound.goes_on l.at l.before l.is_at)
          (subst (λ k. leads_on k l.before ≡ true) (sym (none l.at)) (leads_at 0 m.code l.at l.before h l.is_at)) l.here)
