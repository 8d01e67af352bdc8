-- That the expanded code is what it should be: it stands for the code before, needs no routine any more, and keeps what every procedure
-- keeps. Each of these goes by cases of the instruction, from where its code stands.
use Rattle.std.specs.Prelude.{ℕ, suc, ◌+◌, ◌-◌, ◌*◌, ◌<◌, ◌≤◌, Bool, true, false, ◌==◌, ◌&&◌, nat_lt, List, [], ◌∷◌, ◌++◌, length, Option, Some, None}
use Rattle.std.specs.Prelude.{slice_get, if◌then◌else◌}
use Rattle.std.proofs.Common.{◌≡◌, refl, sym, ap, ◌∙◌, subst, arith, length-append}
use Rattle.vg_lin.specs.declared.instr.Operand.{Operand}
use Rattle.vg_lin.specs.declared.instr.Operand.TheVariants.{Local, Known}
use Rattle.vg_lin.specs.declared.instr.Operator.{Operator}
use Rattle.vg_lin.specs.declared.instr.Operator.TheVariants.{Plus, Minus, Times, Divide, Remainder, And, Or, Xor, ShiftLeft, ShiftRight}
use Rattle.vg_lin.specs.declared.instr.Computation.{Computation}
use Rattle.vg_lin.specs.declared.instr.Plain.{Plain as PlainInstr}
use Rattle.vg_lin.specs.declared.instr.Plain.TheVariants.{Copy, Compute, Product, DivideSteps, Load, Store, ReadDevice, WriteDevice, Push, Pop, Find, CodeOf, Stop}
use Rattle.vg_lin.specs.declared.instr.Registers.{Registers}
use Rattle.vg_lin.specs.declared.instr.Registers.TheVariants.{Two, Three}
use Rattle.vg_lin.specs.declared.instr.Instr.{Instr}
use Rattle.vg_lin.specs.declared.instr.Instr.TheVariants.{Plain, When, Unless, Jump, Call, Return, Idle}
use Rattle.vg_lin.specs.Program.{Procedure}
use Rattle.vg_lin.specs.Sound.{AreOperands, Waits, IsSound, waits_of}
use Rattle.vg_arith.specs.Simple.{needs_no_routine, is_simple, are_simple}
use Rattle.vg_expand.specs.Expansion.{Does, PlainStands, StandsFor, Expands}
use Rattle.vg_expand.specs.Unpushed.{is_push}
use Rattle.vg_expand.specs.Code.{worked_out}
use Rattle.vg_expand.specs.Code.{Base, in_four, cut_to, calling, mask, shifting, shifting_left, shifting_right, is_narrow, narrow_or, product_of, power_of, shifted_by, joined_by, by_difference}
use Rattle.vg_expand.specs.Code.{by_sum, is_in, in_two, by_power, by_factor, multiplying, computing, expanded_at, expanded_code, size, place_in}
use Rattle.vg_expand.specs.Code.{base_of, expanded}
use Rattle.vg_expand.proofs.Computing.{StandAt}
use Rattle.vg_expand.proofs.Multiplying.{computing_does}
use Rattle.vg_expand.proofs.Placed.{size_is, place_of, place_next, place_in_is, stands}

-- ---- the forms of a product

-- what is said of every form of a product
pub each_product : (P : List Instr → Type 0) (base : Base) (c : Computation) → ((a b : Operand) → P (calling base.first (Two (in_four a) (in_four b)) c))
    → ((a b : Operand) → P (Plain (Product c.to a b) ∷ cut_to c.width c.to)) → ((v : ℕ) → P (Plain (Copy c.to (Known v)) ∷ []))
    → ((a : Operand) (n : ℕ) → P (shifted_by c a n ∷ [])) → ((a : Operand) (n : ℕ) → P (shifted_by c a n ∷ joined_by Plus c a ∷ []))
    → ((a : Operand) (n : ℕ) → P (shifted_by c a n ∷ joined_by Minus c a ∷ [])) → (left right : Operand) → P (multiplying base c left right)
each_product P base c call bytes copy shift sum difference left right = of left right
  where
    product : (a b : Operand) → P (product_of base c a b)
    product a b = by_test (is_narrow base.widths a && is_narrow base.widths b)
      where
        by_test : (t : Bool) → P (narrow_or t base.first c a b)
        by_test true = bytes a b
        by_test false = call a b

    differences : (a : Operand) (k : ℕ) (o : Option ℕ) → P (by_difference base c a k o)
    differences a k (Some n) = difference a n
    differences a k None = product a (Known k)

    sums : (a : Operand) (k : ℕ) (o : Option ℕ) → P (by_sum base c a k o)
    sums a k (Some n) = sum a n
    sums a k None = differences a k (power_of (k + 1))

    pairs : (a : Operand) (k : ℕ) (t : Bool) → P (in_two base c a k t)
    pairs a k true = product a (Known k)
    pairs a k false = sums a k (power_of (k - 1))

    powers : (a : Operand) (k : ℕ) (o : Option ℕ) → P (by_power base c a k o)
    powers a k (Some n) = shift a n
    powers a k None = pairs a k (is_in a c.to)

    factors : (a : Operand) (k : ℕ) (t : Bool) → P (by_factor base c a k t)
    factors a k true = copy 0
    factors a k false = powers a k (power_of k)

    of : (left right : Operand) → P (multiplying base c left right)
    of (Known j) (Known k) = copy (worked_out c.width (j * k))
    of (Local i) (Known k) = factors (Local i) k (k == 0)
    of (Known k) (Local i) = factors (Local i) k (k == 0)
    of (Local i) (Local j) = product (Local i) (Local j)

-- ---- it does not begin with a push

abbrev IsUnpushed : List Instr → Type 0
IsUnpushed xs = (code : List Instr) (at : ℕ) → StandAt code at xs → is_push (slice_get code at) ≡ false

shifting_unpushed : (r : ℕ) (rs : Registers) (c : Computation) (a : Operand) → IsUnpushed (shifting r rs c a)
shifting_unpushed r rs c (Known n) = λ code at st. ap is_push st.0
shifting_unpushed r rs c (Local i) = λ code at st. ap is_push st.0

computing_unpushed : (base : Base) (c : Computation) (op : Operator) → IsUnpushed (computing base c op)
computing_unpushed base c Plus = λ code at st. ap is_push st.0
computing_unpushed base c Minus = λ code at st. ap is_push st.0
computing_unpushed base c Times =
    each_product IsUnpushed base c (λ a b code at st. ap is_push st.0) (λ a b code at st. ap is_push st.0) (λ v code at st. ap is_push st.0)
    (λ a n code at st. ap is_push st.0) (λ a n code at st. ap is_push st.0) (λ a n code at st. ap is_push st.0) c.left c.right
computing_unpushed base c Divide = λ code at st. ap is_push st.0
computing_unpushed base c Remainder = λ code at st. ap is_push st.0
computing_unpushed base c And = λ code at st. ap is_push st.0
computing_unpushed base c Or = λ code at st. ap is_push st.0
computing_unpushed base c Xor = λ code at st. ap is_push st.0
computing_unpushed base c ShiftLeft = shifting_unpushed (base.first + 2) (shifting_left c) c c.right
computing_unpushed base c ShiftRight = shifting_unpushed (base.first + 3) (shifting_right c) c c.right

-- ---- it stands for the code before

module _ (first : ℕ) (m : Procedure) (sound : IsSound m) where
  abbrev pub now : Procedure
  now = expanded first m

  abbrev pub its_base : Base
  its_base = base_of first m

  abbrev pub place : ℕ → ℕ
  place at = place_of its_base m.code at

  next_is : (at : ℕ) (i : Instr) → slice_get m.code at ≡ Some i → size its_base i ≡ 1 → place (suc at) ≡ suc (place at)
  next_is at i e g = place_next its_base m.code at i e ∙ ap (λ z. place at + z) g ∙ omega arith

  target_is : (to : ℕ) → to < length m.code → place_in its_base m.code to ≡ place to
  target_is to h = place_in_is its_base m.code to h

  plain_stands : (at : ℕ) (i : PlainInstr) → slice_get m.code at ≡ Some (Plain i)
      → StandAt now.code (place at) (expanded_at its_base (place_in its_base m.code) (Plain i))
      → AreOperands m (Plain i) → PlainStands first now place at i
  plain_stands at (Copy to a) e st ok = (st.0, next_is at _ e refl)
  plain_stands at (Compute c) e st (hw, to, left, right) = (
    computing_unpushed its_base c c.operator now.code (place at) st,
    subst (λ k. Does first now (place at) k c) (sym (place_next its_base m.code at _ e))
        (computing_does first now (place at) c.width c.to c.left c.right sound.widths hw to c.operator st),
  )
  plain_stands at (Product to a b) e st ok = (st.0, next_is at _ e refl)
  plain_stands at (DivideSteps r d a) e st ok = (st.0, next_is at _ e refl)
  plain_stands at (Load x w to a) e st ok = (st.0, next_is at _ e refl)
  plain_stands at (Store w a from) e st ok = (st.0, next_is at _ e refl)
  plain_stands at (ReadDevice to a) e st ok = (st.0, next_is at _ e refl)
  plain_stands at (WriteDevice to a) e st ok = (st.0, next_is at _ e refl)
  plain_stands at (Push w a) e st ok = (st.0, next_is at _ e refl)
  plain_stands at (Pop w to) e st ok = (st.0, next_is at _ e refl)
  plain_stands at (Find d to a) e st ok = (st.0, next_is at _ e refl)
  plain_stands at (CodeOf q to) e st ok = (st.0, next_is at _ e refl)
  plain_stands at (Stop c) e st ok = (st.0, next_is at _ e refl)

  instr_stands : (at : ℕ) (i : Instr) → slice_get m.code at ≡ Some i → StandAt now.code (place at) (expanded_at its_base (place_in its_base m.code) i)
      → AreOperands m i → Waits m (waits_of m) at i → StandsFor first now place at i
  instr_stands at (Plain i) e st ok w = plain_stands at i e st ok
  instr_stands at (When t to) e st ok ((n, (h, g)), b) = (st.0 ∙ ap (λ z. Some (When t z)) (target_is to h), next_is at _ e refl)
  instr_stands at (Unless t to) e st ok ((n, (h, g)), b) = (st.0 ∙ ap (λ z. Some (Unless t z)) (target_is to h), next_is at _ e refl)
  instr_stands at (Jump to) e st ok (n, (h, g)) = st.0 ∙ ap (λ z. Some (Jump z)) (target_is to h)
  instr_stands at (Call c) e st ok w = (st.0, next_is at _ e refl)
  instr_stands at (Return r a) e st ok w = st.0
  instr_stands at Idle e st ok w = (st.0, next_is at _ e refl)

  first_place : (is : List Instr) → place_of its_base is 0 ≡ 0
  first_place [] = refl
  first_place (i ∷ is) = refl

  pub expands : Expands first m now
  expands =
      record {
        method = refl;
        params = refl;
        result = refl;
        widths = refl;
        place = place;
        begins = first_place m.code;
        each = λ at i e. instr_stands at i e (stands its_base (place_in its_base m.code) m.code at i e) (sound.operands at i e) (sound.goes_on at i e);
      }

-- ---- it needs no routine

both_true : (a b : Bool) → a ≡ true → b ≡ true → (a && b) ≡ true
both_true true b e h = h
both_true false b e h = absurd (grind arith)

are_simple_append : (xs ys : List Instr) → are_simple xs ≡ true → are_simple ys ≡ true → are_simple (xs ++ ys) ≡ true
are_simple_append [] ys e h = h
are_simple_append (x ∷ xs) ys e h =
    both_true (is_simple x) (are_simple (xs ++ ys)) (first_of (is_simple x) (are_simple xs) e)
    (are_simple_append xs ys (second_of (is_simple x) (are_simple xs) e) h)
  where
    first_of : (a b : Bool) → (a && b) ≡ true → a ≡ true
    first_of true b e = refl
    first_of false b e = absurd (grind arith)

    second_of : (a b : Bool) → (a && b) ≡ true → b ≡ true
    second_of true b e = e
    second_of false b e = absurd (grind arith)

cut_simple : (w to : ℕ) → are_simple (cut_to w to) ≡ true
cut_simple w to = by_test (nat_lt w 4)
  where
    by_test : (b : Bool) → are_simple (if b then Plain (Compute (record { operator = Plus; width = w; to = to; left = Local to; right = Known 0 }))
        ∷ [] else []) ≡ true
    by_test true = refl
    by_test false = refl

shifting_simple : (r : ℕ) (rs : Registers) (width to : ℕ) (left a : Operand) (op : Operator) → needs_no_routine op ≡ true
    → are_simple (shifting r rs (record { operator = op; width = width; to = to; left = left; right = a }) a) ≡ true
shifting_simple r rs width to left (Known n) op e = both_true (needs_no_routine op) true e refl
shifting_simple r rs width to left (Local i) op e = cut_simple width to

computing_simple : (base : Base) (width to : ℕ) (left right : Operand) (op : Operator)
    → are_simple (computing base (record { operator = op; width = width; to = to; left = left; right = right }) op) ≡ true
computing_simple base width to left right Plus = refl
computing_simple base width to left right Minus = refl
computing_simple base width to left right Times =
    each_product (λ xs. are_simple xs ≡ true) base _ (λ a b. cut_simple width to) (λ a b. cut_simple width to) (λ v. refl) (λ a n. refl) (λ a n. refl)
    (λ a n. refl) left right
computing_simple base width to left right Divide = cut_simple width to
computing_simple base width to left right Remainder = cut_simple width to
computing_simple base width to left right And = refl
computing_simple base width to left right Or = refl
computing_simple base width to left right Xor = refl
computing_simple base width to left right ShiftLeft = shifting_simple (base.first + 2) (Two (in_four left) (in_four right)) width to left right ShiftLeft refl
computing_simple base width to left right ShiftRight = shifting_simple (base.first + 3) (Three (in_four left) (in_four right) (in_four (mask width))) width to left right ShiftRight refl

at_simple : (base : Base) (place : ℕ → ℕ) (i : Instr) → are_simple (expanded_at base place i) ≡ true
at_simple base place (Plain (Copy to a)) = refl
at_simple base place (Plain (Compute c)) = computing_simple base c.width c.to c.left c.right c.operator
at_simple base place (Plain (Product to a b)) = refl
at_simple base place (Plain (DivideSteps r d a)) = refl
at_simple base place (Plain (Load m w to a)) = refl
at_simple base place (Plain (Store w a from)) = refl
at_simple base place (Plain (ReadDevice to a)) = refl
at_simple base place (Plain (WriteDevice to a)) = refl
at_simple base place (Plain (Push w a)) = refl
at_simple base place (Plain (Pop w to)) = refl
at_simple base place (Plain (Find d to a)) = refl
at_simple base place (Plain (CodeOf q to)) = refl
at_simple base place (Plain (Stop c)) = refl
at_simple base place (When t to) = refl
at_simple base place (Unless t to) = refl
at_simple base place (Jump to) = refl
at_simple base place (Call c) = refl
at_simple base place (Return w a) = refl
at_simple base place Idle = refl

pub code_simple : (base : Base) (place : ℕ → ℕ) (is : List Instr) → are_simple (expanded_code base place is) ≡ true
code_simple base place [] = refl
code_simple base place (i ∷ is) =
    are_simple_append (expanded_at base place i) (expanded_code base place is) (at_simple base place i) (code_simple base place is)

-- ---- it is at most twice as long

cut_size : (w to : ℕ) → length (cut_to w to) ≤ 1
cut_size w to = by_test (nat_lt w 4)
  where
    by_test : (b : Bool) → length (if b then Plain (Compute (record { operator = Plus; width = w; to = to; left = Local to; right = Known 0 }))
        ∷ [] else []) ≤ 1
    by_test true = omega arith
    by_test false = omega arith

shifting_small : (r : ℕ) (rs : Registers) (c : Computation) (a : Operand) → length (shifting r rs c a) ≤ 2
shifting_small r rs c (Known n) = omega arith
shifting_small r rs c (Local i) = let h = cut_size c.width c.to in omega (arith, h)

computing_small : (base : Base) (c : Computation) (op : Operator) → length (computing base c op) ≤ 2
computing_small base c Plus = omega arith
computing_small base c Minus = omega arith
computing_small base c Times =
    let h = cut_size c.width c.to in
    each_product (λ xs. length xs ≤ 2) base c (λ a b. omega (arith, h)) (λ a b. omega (arith, h)) (λ v. omega arith) (λ a n. omega arith) (λ a n. omega arith)
    (λ a n. omega arith) c.left c.right
computing_small base c Divide = let h = cut_size c.width c.to in omega (arith, h)
computing_small base c Remainder = let h = cut_size c.width c.to in omega (arith, h)
computing_small base c And = omega arith
computing_small base c Or = omega arith
computing_small base c Xor = omega arith
computing_small base c ShiftLeft = shifting_small (base.first + 2) (shifting_left c) c c.right
computing_small base c ShiftRight = shifting_small (base.first + 3) (shifting_right c) c c.right

pub size_small : (base : Base) (i : Instr) → size base i ≤ 2
size_small base (Plain (Copy to a)) = omega arith
size_small base (Plain (Compute c)) = computing_small base c c.operator
size_small base (Plain (Product to a b)) = omega arith
size_small base (Plain (DivideSteps r d a)) = omega arith
size_small base (Plain (Load m w to a)) = omega arith
size_small base (Plain (Store w a from)) = omega arith
size_small base (Plain (ReadDevice to a)) = omega arith
size_small base (Plain (WriteDevice to a)) = omega arith
size_small base (Plain (Push w a)) = omega arith
size_small base (Plain (Pop w to)) = omega arith
size_small base (Plain (Find d to a)) = omega arith
size_small base (Plain (CodeOf q to)) = omega arith
size_small base (Plain (Stop c)) = omega arith
size_small base (When t to) = omega arith
size_small base (Unless t to) = omega arith
size_small base (Jump to) = omega arith
size_small base (Call c) = omega arith
size_small base (Return w a) = omega arith
size_small base Idle = omega arith

pub code_small : (base : Base) (place : ℕ → ℕ) (is : List Instr) → length (expanded_code base place is) ≤ 2 * length is
code_small base place [] = omega arith
code_small base place (i ∷ is) =
    let a = size_small base i in let b = size_is base place i in let h = code_small base place is in
    let e : length (expanded_at base place i ++ expanded_code base place is) ≡ length (expanded_at base place i) + length (expanded_code base place is) =
    length-append (expanded_at base place i) (expanded_code base place is) in omega (arith, a, b, h, e)
