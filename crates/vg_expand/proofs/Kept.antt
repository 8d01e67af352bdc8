-- That the expanded procedure keeps what every procedure keeps. Every instruction of it stands in the code of one before; the operands
-- are those of that one, and what waits there waits at each place of its code.
use Rattle.std.specs.Prelude.{ℕ, zero, suc, ◌+◌, ◌-◌, ◌<◌, ◌≤◌, Bool, true, false, ◌==◌, ◌&&◌, nat_lt, List, [], ◌∷◌, ◌++◌, length, drop, Option}
use Rattle.std.specs.Prelude.{Some, None, slice_get, if◌then◌else◌}
use Rattle.std.specs.List.{AllByRecursion}
use Rattle.std.proofs.Common.{◌≡◌, refl, sym, ap, ◌∙◌, subst, arith, length-append}
use Rattle.std.proofs.lemmas.Option.{slice_get_within}
use Rattle.vg_lin.specs.declared.instr.Operand.{Operand}
use Rattle.vg_lin.specs.declared.instr.Operand.TheVariants.{Local, Known}
use Rattle.vg_lin.specs.declared.instr.Operator.{Operator}
use Rattle.vg_lin.specs.declared.instr.Operator.TheVariants.{Plus, Minus, Times, Divide, Remainder, And, Or, Xor, ShiftLeft, ShiftRight}
use Rattle.vg_lin.specs.declared.instr.Computation.{Computation}
use Rattle.vg_lin.specs.declared.instr.Test.{Test}
use Rattle.vg_lin.specs.declared.instr.Plain.{Plain as PlainInstr}
use Rattle.vg_lin.specs.declared.instr.Plain.TheVariants.{Copy, Compute, Product, DivideSteps, Load, Store, ReadDevice, WriteDevice, Push, Pop, Find, CodeOf, Stop}
use Rattle.vg_lin.specs.declared.instr.Passed.{Passed}
use Rattle.vg_lin.specs.declared.instr.Target.{Target}
use Rattle.vg_lin.specs.declared.instr.Callee.{Callee}
use Rattle.vg_lin.specs.declared.instr.Callee.TheVariants.{Procedure as ByNumber, Code as ByCode}
use Rattle.vg_lin.specs.declared.instr.Instr.{Instr}
use Rattle.vg_lin.specs.declared.instr.Instr.TheVariants.{Plain, When, Unless, Jump, Call, Return, Idle}
use Rattle.vg_lin.specs.Program.{Procedure}
use Rattle.vg_lin.specs.Meaning.{operands}
use Rattle.vg_lin.specs.Sound.{IsWidth, IsLocal, IsOperand, IsPassed, IsTo, IsTest, IsCallee, IsPlain, AreOperands, behind as left_by, waits_in, waits_of as waits_at, GoesOn, Jumps, PlainWaits, Waits, IsSound}
use Rattle.vg_arith.proofs.ShiftRoutines.{some_is}
use Rattle.vg_lin.specs.declared.instr.Registers.{Registers}
use Rattle.vg_expand.specs.Code.{Base, cut_to, shifting, shifting_left, shifting_right, multiplying, computing, expanded_at, expanded_code, size, place_in}
use Rattle.vg_expand.specs.Code.{is_narrow, narrow_or, product_of, power_of, by_difference, by_sum, is_in, in_two, by_power, by_factor, base_of, expanded}
use Rattle.vg_expand.proofs.Expanded.{each_product}
use Rattle.vg_expand.proofs.Placed.{get_behind, size_is, place_of, place_next, place_in_is}

-- ---- every instruction stands for one before

pub record Located (base : Base) (place : ℕ → ℕ) (is : List Instr) (j : ℕ) (x : Instr) : Type 0 where
  pub at : ℕ
  pub before : Instr
  pub k : ℕ
  pub is_at : slice_get is at ≡ Some before
  pub here : slice_get (expanded_at base place before) k ≡ Some x
  pub found : j ≡ place_of base is at + k

get_front : {A : Type 0} (xs ys : List A) (k : ℕ) → k < length xs → slice_get (xs ++ ys) k ≡ slice_get xs k
get_front [] ys k h = absurd (omega arith)
get_front (x ∷ xs) ys zero h = refl
get_front (x ∷ xs) ys (suc k) h = get_front xs ys k (omega (arith, h))

pub located : (base : Base) (place : ℕ → ℕ) (is : List Instr) (j : ℕ) (x : Instr) → slice_get (expanded_code base place is) j ≡ Some x
    → Located base place is j x
located base place [] j x e = absurd (grind arith)
located base place (i ∷ is) j x e =
    by_test (λ k g. located base place is k x g) (nat_lt j (length (expanded_at base place i))) refl
  where
    xs : List Instr
    xs = expanded_at base place i

    ys : List Instr
    ys = expanded_code base place is

    below : (a b : ℕ) → nat_lt a b ≡ true → a < b
    below a b e = grind arith

    above : (a b : ℕ) → nat_lt a b ≡ false → b ≤ a
    above a b e = grind arith

    by_test : ((k : ℕ) → slice_get ys k ≡ Some x → Located base place is k x) → (b : Bool) → nat_lt j (length xs) ≡ b → Located base place (i ∷ is) j x
    by_test more true h =
        record { at = 0; before = i; k = j; is_at = refl; here = sym (get_front xs ys j (below j (length xs) h)) ∙ e; found = omega arith }
    by_test more false h =
        let s : length xs + (j - length xs) ≡ j = omega (arith, above j (length xs) h) in
        further (more (j - length xs) (sym (get_behind xs ys (j - length xs)) ∙ ap (slice_get (xs ++ ys)) s ∙ e)) s
      where
        further : Located base place is (j - length xs) x → length xs + (j - length xs) ≡ j → Located base place (i ∷ is) j x
        further l s =
            record {
              at = suc l.at;
              before = l.before;
              k = l.k;
              is_at = l.is_at;
              here = l.here;
              found = let f = l.found in let z = size_is base place i in omega (arith, f, s, z);
            }

-- ---- the end of the code

shifting_some : (r : ℕ) (rs : Registers) (c : Computation) (a : Operand) → 0 < length (shifting r rs c a)
shifting_some r rs c (Known n) = omega arith
shifting_some r rs c (Local i) = omega arith

computing_some : (base : Base) (c : Computation) (op : Operator) → 0 < length (computing base c op)
computing_some base c Plus = omega arith
computing_some base c Minus = omega arith
computing_some base c Times =
    each_product (λ xs. 0 < length xs) base c (λ a b. omega arith) (λ a b. omega arith) (λ v. omega arith) (λ a n. omega arith) (λ a n. omega arith)
    (λ a n. omega arith) c.left c.right
computing_some base c Divide = omega arith
computing_some base c Remainder = omega arith
computing_some base c And = omega arith
computing_some base c Or = omega arith
computing_some base c Xor = omega arith
computing_some base c ShiftLeft = shifting_some (base.first + 2) (shifting_left c) c c.right
computing_some base c ShiftRight = shifting_some (base.first + 3) (shifting_right c) c c.right

pub size_some : (base : Base) (i : Instr) → 0 < size base i
size_some base (Plain (Copy to a)) = omega arith
size_some base (Plain (Compute c)) = computing_some base c c.operator
size_some base (Plain (Product to a b)) = omega arith
size_some base (Plain (DivideSteps r d a)) = omega arith
size_some base (Plain (Load m w to a)) = omega arith
size_some base (Plain (Store w a from)) = omega arith
size_some base (Plain (ReadDevice to a)) = omega arith
size_some base (Plain (WriteDevice to a)) = omega arith
size_some base (Plain (Push w a)) = omega arith
size_some base (Plain (Pop w to)) = omega arith
size_some base (Plain (Find d to a)) = omega arith
size_some base (Plain (CodeOf q to)) = omega arith
size_some base (Plain (Stop c)) = omega arith
size_some base (When t to) = omega arith
size_some base (Unless t to) = omega arith
size_some base (Jump to) = omega arith
size_some base (Call c) = omega arith
size_some base (Return w a) = omega arith
size_some base Idle = omega arith

place_end : (base : Base) (place : ℕ → ℕ) (is : List Instr) (at : ℕ) (i : Instr) → slice_get is at ≡ Some i
    → place_of base is at + size base i ≤ length (expanded_code base place is)
place_end base place [] at i e = absurd (grind arith)
place_end base place (j ∷ is) zero i e =
    let s = size_is base place j in let g : size base i ≡ size base j = ap (size base) (sym (some_is j i e)) in
    let l : length (expanded_at base place j ++ expanded_code base place is) ≡ length (expanded_at base place j) + length (expanded_code base place is) =
    length-append (expanded_at base place j) (expanded_code base place is) in omega (arith, s, g, l)
place_end base place (j ∷ is) (suc at) i e =
    let s = size_is base place j in let h = place_end base place is at i e in
    let l : length (expanded_at base place j ++ expanded_code base place is) ≡ length (expanded_at base place j) + length (expanded_code base place is) =
    length-append (expanded_at base place j) (expanded_code base place is) in omega (arith, s, h, l)

-- places grow
pub place_grows : (base : Base) (is : List Instr) (at to : ℕ) → to < length is → at < to → place_of base is at < place_of base is to
place_grows base [] at to h g = absurd (omega arith)
place_grows base (i ∷ is) zero zero h g = absurd (omega arith)
place_grows base (i ∷ is) (suc at) zero h g = absurd (omega arith)
place_grows base (i ∷ is) zero (suc to) h g = let s = size_some base i in omega (arith, s)
place_grows base (i ∷ is) (suc at) (suc to) h g = let r = place_grows base is at to (omega (arith, h)) (omega (arith, g)) in omega (arith, r)

-- ---- operands

operand_now : (first : ℕ) (m : Procedure) (a : Operand) → IsOperand m a → IsOperand (expanded first m) a
operand_now first m (Local i) h = h
operand_now first m (Known v) h = h

test_now : (first : ℕ) (m : Procedure) (t : Test) → IsTest m t → IsTest (expanded first m) t
test_now first m t (w, a, b) = (w, operand_now first m t.left a, operand_now first m t.right b)

plain_now : (first : ℕ) (m : Procedure) (p : PlainInstr) → IsPlain m p → IsPlain (expanded first m) p
plain_now first m (Copy to a) (h, g) = (h, operand_now first m a g)
plain_now first m (Compute c) (w, h, a, b) = (w, h, operand_now first m c.left a, operand_now first m c.right b)
plain_now first m (Product to a b) (h, f, g) = (h, operand_now first m a f, operand_now first m b g)
plain_now first m (DivideSteps r d a) (h, f, n, g) = (h, f, n, operand_now first m a g)
plain_now first m (Load x w to a) (h, f, g) = (h, f, operand_now first m a.index g)
plain_now first m (Store w a from) (h, f, g) = (h, operand_now first m a.index f, operand_now first m from g)
plain_now first m (ReadDevice to a) h = h
plain_now first m (WriteDevice to a) h = operand_now first m a h
plain_now first m (Push w a) (h, g) = (h, operand_now first m a g)
plain_now first m (Pop w to) h = h
plain_now first m (Find d to a) (h, g) = (h, operand_now first m a g)
plain_now first m (CodeOf q to) h = h
plain_now first m (Stop c) h = h

all_now : (first : ℕ) (m : Procedure) (xs : List Passed) → AllByRecursion (IsPassed m) xs → AllByRecursion (IsPassed (expanded first m)) xs
all_now first m [] h = tt {0}
all_now first m (x ∷ xs) ((w, h), g) = ((w, operand_now first m x.value h), all_now first m xs g)

callee_now : (first : ℕ) (m : Procedure) (c : Callee) → IsCallee m c → IsCallee (expanded first m) c
callee_now first m (ByNumber q) h = h
callee_now first m (ByCode a) h = operand_now first m a h

to_now : (first : ℕ) (m : Procedure) (to : Option Target) → IsTo m to → IsTo (expanded first m) to
to_now first m (Some to) h = h
to_now first m None h = h

-- an instruction of the code in place of a computation
abbrev pub IsOfComputation : Procedure → Instr → Type 0
IsOfComputation m (Plain (Copy to a)) = IsPlain m (Copy to a)
IsOfComputation m (Plain (Compute c)) = IsPlain m (Compute c)
IsOfComputation m (Plain (Product to a b)) = IsPlain m (Product to a b)
IsOfComputation m (Call c) = (c.pushed ≡ 0) × AreOperands m (Call c)
IsOfComputation m _ = ⊥

module _ (first : ℕ) (m : Procedure) (width to : ℕ) (left right : Operand) (hw : IsWidth width) (ht : IsLocal m to) (hl : IsOperand m left)
    (hr : IsOperand m right) where
  abbrev pub n : Procedure
  n = expanded first m

  abbrev pub of : Operator → Computation
  of op = record { operator = op; width = width; to = to; left = left; right = right }

  cut_is : AllByRecursion (IsOfComputation n) (cut_to width to)
  cut_is = by_test (nat_lt width 4)
    where
      by_test : (b : Bool) → AllByRecursion (IsOfComputation n)
          (if b then Plain (Compute (record { operator = Plus; width = width; to = to; left = Local to; right = Known 0 })) ∷ [] else [])
      by_test true = ((hw, ht, ht, tt {0}), tt {0})
      by_test false = tt {0}

  four : IsWidth 4
  four = (omega arith, omega arith)

  one : IsWidth 1
  one = (omega arith, omega arith)

  small : 4 ≤ 4
  small = omega arith

  l' : IsOperand n left
  l' = operand_now first m left hl

  r' : IsOperand n right
  r' = operand_now first m right hr

  abbrev pub its_base : Base
  its_base = base_of first m

  product_is : (a b : Operand) → IsOperand n a → IsOperand n b → AllByRecursion (IsOfComputation n) (product_of its_base (of Times) a b)
  product_is a b ha hb = by_test (is_narrow m.widths a && is_narrow m.widths b)
    where
      by_test : (t : Bool) → AllByRecursion (IsOfComputation n) (narrow_or t first (of Times) a b)
      by_test true = ((ht, ha, hb), cut_is)
      by_test false = ((refl, (tt {0}, ((four, ha), ((four, hb), tt {0})), (small, ht))), cut_is)

  itself : (op : Operator) → AllByRecursion (IsOfComputation n) (Plain (Compute (of op)) ∷ [])
  itself op = ((hw, ht, l', r'), tt {0})

  left_is : (r : ℕ) (a : Operand) → AllByRecursion (IsOfComputation n) (shifting r (shifting_left (of ShiftLeft)) (of ShiftLeft) a)
  left_is r (Known k) = itself ShiftLeft
  left_is r (Local i) = ((refl, (tt {0}, ((four, l'), ((four, r'), tt {0})), (small, ht))), cut_is)

  right_is : (r : ℕ) (a : Operand) → AllByRecursion (IsOfComputation n) (shifting r (shifting_right (of ShiftRight)) (of ShiftRight) a)
  right_is r (Known k) = itself ShiftRight
  right_is r (Local i) = ((refl, (tt {0}, ((four, l'), ((four, r'), ((four, tt {0}), tt {0}))), (small, ht))), cut_is)

  -- every form of a product has the two operands, or one of them twice
  factor_is : (a : Operand) (k : ℕ) → IsOperand n a → (t : Bool) → AllByRecursion (IsOfComputation n) (by_factor its_base (of Times) a k t)
  factor_is a k ha true = ((ht, tt {0}), tt {0})
  factor_is a k ha false = powers (power_of k)
    where
      differences : (o : Option ℕ) → AllByRecursion (IsOfComputation n) (by_difference its_base (of Times) a k o)
      differences (Some r) = ((hw, ht, ha, tt {0}), ((hw, ht, ht, ha), tt {0}))
      differences None = product_is a (Known k) ha (tt {0})

      sums : (o : Option ℕ) → AllByRecursion (IsOfComputation n) (by_sum its_base (of Times) a k o)
      sums (Some r) = ((hw, ht, ha, tt {0}), ((hw, ht, ht, ha), tt {0}))
      sums None = differences (power_of (k + 1))

      pairs : (t : Bool) → AllByRecursion (IsOfComputation n) (in_two its_base (of Times) a k t)
      pairs true = product_is a (Known k) ha (tt {0})
      pairs false = sums (power_of (k - 1))

      powers : (o : Option ℕ) → AllByRecursion (IsOfComputation n) (by_power its_base (of Times) a k o)
      powers (Some r) = ((hw, ht, ha, tt {0}), tt {0})
      powers None = pairs (is_in a to)

  multiplying_is : (a b : Operand) → IsOperand n a → IsOperand n b → AllByRecursion (IsOfComputation n) (multiplying its_base (of Times) a b)
  multiplying_is (Known j) (Known k) ha hb = ((ht, tt {0}), tt {0})
  multiplying_is (Local i) (Known k) ha hb = factor_is (Local i) k ha (k == 0)
  multiplying_is (Known k) (Local i) ha hb = factor_is (Local i) k hb (k == 0)
  multiplying_is (Local i) (Local j) ha hb = product_is (Local i) (Local j) ha hb

  pub computing_is : (op : Operator) → AllByRecursion (IsOfComputation n) (computing its_base (of op) op)
  computing_is Plus = itself Plus
  computing_is Minus = itself Minus
  computing_is Times = multiplying_is left right l' r'
  computing_is Divide = ((refl, (tt {0}, ((four, l'), ((four, r'), ((one, tt {0}), tt {0}))), (small, ht))), cut_is)
  computing_is Remainder = ((refl, (tt {0}, ((four, l'), ((four, r'), ((one, tt {0}), tt {0}))), (small, ht))), cut_is)
  computing_is And = itself And
  computing_is Or = itself Or
  computing_is Xor = itself Xor
  computing_is ShiftLeft = left_is (first + 2) right
  computing_is ShiftRight = right_is (first + 3) right

pub one_of : (P : Instr → Type 0) (xs : List Instr) (k : ℕ) (x : Instr) → AllByRecursion P xs → slice_get xs k ≡ Some x → P x
one_of P [] k x h e = absurd (grind arith)
one_of P (y ∷ xs) zero x (h, g) e = subst P (some_is y x e) h
one_of P (y ∷ xs) (suc k) x (h, g) e = one_of P xs k x g e

operands_of : (m : Procedure) (x : Instr) → IsOfComputation m x → AreOperands m x
operands_of m (Plain (Copy to a)) h = h
operands_of m (Plain (Compute c)) h = h
operands_of m (Plain (Product to a b)) h = h
operands_of m (Plain (DivideSteps r d a)) h = absurd h
operands_of m (Plain (Load x w to a)) h = absurd h
operands_of m (Plain (Store w a from)) h = absurd h
operands_of m (Plain (ReadDevice to a)) h = absurd h
operands_of m (Plain (WriteDevice to a)) h = absurd h
operands_of m (Plain (Push w a)) h = absurd h
operands_of m (Plain (Pop w to)) h = absurd h
operands_of m (Plain (Find d to a)) h = absurd h
operands_of m (Plain (CodeOf q to)) h = absurd h
operands_of m (Plain (Stop c)) h = absurd h
operands_of m (When t to) h = absurd h
operands_of m (Unless t to) h = absurd h
operands_of m (Jump to) h = absurd h
operands_of m (Call c) (e, h) = h
operands_of m (Return w a) h = absurd h
operands_of m Idle h = absurd h

waits_of : (m : Procedure) (ws : ℕ → List ℕ) (j : ℕ) (x : Instr) → IsOfComputation m x → GoesOn m ws (suc j) (ws j) → Waits m ws j x
waits_of m ws j (Plain (Copy to a)) h g = g
waits_of m ws j (Plain (Compute c)) h g = g
waits_of m ws j (Plain (Product to a b)) h g = g
waits_of m ws j (Plain (DivideSteps r d a)) h g = absurd h
waits_of m ws j (Plain (Load x w to a)) h g = absurd h
waits_of m ws j (Plain (Store w a from)) h g = absurd h
waits_of m ws j (Plain (ReadDevice to a)) h g = absurd h
waits_of m ws j (Plain (WriteDevice to a)) h g = absurd h
waits_of m ws j (Plain (Push w a)) h g = absurd h
waits_of m ws j (Plain (Pop w to)) h g = absurd h
waits_of m ws j (Plain (Find d to a)) h g = absurd h
waits_of m ws j (Plain (CodeOf q to)) h g = absurd h
waits_of m ws j (Plain (Stop c)) h g = absurd h
waits_of m ws j (When t to) h g = absurd h
waits_of m ws j (Unless t to) h g = absurd h
waits_of m ws j (Jump to) h g = absurd h
waits_of m ws j (Call c) (e, h) g =
    subst (λ k. (k ≤ length (ws j)) × GoesOn m ws (suc j) (drop k (ws j))) (sym e) (omega arith, g)
waits_of m ws j (Return w a) h g = absurd h
waits_of m ws j Idle h g = absurd h

-- ---- what waits

in_front : (held : List ℕ) (xs ys : List Instr) (k : ℕ) → k ≤ length xs → waits_in held (xs ++ ys) k ≡ waits_in held xs k
in_front held xs ys zero h = refl
in_front held [] ys (suc k) h = absurd (omega (arith, h))
in_front held (x ∷ xs) ys (suc k) h = in_front (left_by x held) xs ys k (omega (arith, h))

beyond : (held : List ℕ) (xs ys : List Instr) (k : ℕ) → waits_in held (xs ++ ys) (length xs + k) ≡ waits_in (waits_in held xs (length xs)) ys k
beyond held [] ys k = ap (waits_in held ys) (omega arith)
beyond held (x ∷ xs) ys k = ap (waits_in held (x ∷ (xs ++ ys))) next ∙ beyond (left_by x held) xs ys k
  where
    next : suc (length xs) + k ≡ suc (length xs + k)
    next = omega arith

-- the code of a computation leaves what waits
leaves : (m : Procedure) (x : Instr) (held : List ℕ) → IsOfComputation m x → left_by x held ≡ held
leaves m (Plain (Copy to a)) held h = refl
leaves m (Plain (Compute c)) held h = refl
leaves m (Plain (Product to a b)) held h = refl
leaves m (Plain (DivideSteps r d a)) held h = absurd h
leaves m (Plain (Load x w to a)) held h = absurd h
leaves m (Plain (Store w a from)) held h = absurd h
leaves m (Plain (ReadDevice to a)) held h = absurd h
leaves m (Plain (WriteDevice to a)) held h = absurd h
leaves m (Plain (Push w a)) held h = absurd h
leaves m (Plain (Pop w to)) held h = absurd h
leaves m (Plain (Find d to a)) held h = absurd h
leaves m (Plain (CodeOf q to)) held h = absurd h
leaves m (Plain (Stop c)) held h = absurd h
leaves m (When t to) held h = absurd h
leaves m (Unless t to) held h = absurd h
leaves m (Jump to) held h = absurd h
leaves m (Call c) held (e, h) = ap (λ k. drop k held) e
leaves m (Return w a) held h = absurd h
leaves m Idle held h = absurd h

leave : (m : Procedure) (xs : List Instr) (held : List ℕ) (k : ℕ) → AllByRecursion (IsOfComputation m) xs → k ≤ length xs → waits_in held xs k ≡ held
leave m xs held zero h g = refl
leave m [] held (suc k) h g = absurd (omega (arith, g))
leave m (x ∷ xs) held (suc k) (h, more) g = leave m xs (left_by x held) k more (omega (arith, g)) ∙ leaves m x held h

-- ---- the whole procedure

-- an instruction that stands alone
pub alone : (P : ℕ → Instr → Type 0) (y : Instr) (k : ℕ) (x : Instr) → slice_get (y ∷ []) k ≡ Some x → P 0 y → P k x
alone P y zero x e h = subst (P 0) (some_is y x e) h
alone P y (suc k) x e h = absurd (grind arith)

module _ (first : ℕ) (m : Procedure) (sound : IsSound m) where
  abbrev pub now : Procedure
  now = expanded first m

  abbrev pub base : Base
  base = base_of first m

  abbrev pub place : ℕ → ℕ
  place at = place_of base m.code at

  abbrev pub ws : ℕ → List ℕ
  ws = waits_at m

  abbrev pub new_waits : ℕ → List ℕ
  new_waits = waits_at now

  plain_computes : (c : Computation) → IsPlain m (Compute c) → AllByRecursion (IsOfComputation now) (computing base c c.operator)
  plain_computes c (hw, ht, hl, hr) = computing_is first m c.width c.to c.left c.right hw ht hl hr c.operator

  -- the code in place of one instruction leaves together what that one leaves
  one_plain : (p : PlainInstr) (held : List ℕ) → IsPlain m p → waits_in held (expanded_at base (place_in base m.code) (Plain p)) (size base (Plain p))
      ≡ left_by (Plain p) held
  one_plain (Copy to a) held h = refl
  one_plain (Compute c) held h = leave now (computing base c c.operator) held (length (computing base c c.operator)) (plain_computes c h) (omega arith)
  one_plain (Product to a b) held h = refl
  one_plain (DivideSteps r d a) held h = refl
  one_plain (Load x w to a) held h = refl
  one_plain (Store w a from) held h = refl
  one_plain (ReadDevice to a) held h = refl
  one_plain (WriteDevice to a) held h = refl
  one_plain (Push w a) held h = refl
  one_plain (Pop w to) held h = refl
  one_plain (Find d to a) held h = refl
  one_plain (CodeOf q to) held h = refl
  one_plain (Stop c) held h = refl

  one_leaves : (i : Instr) (held : List ℕ) → AreOperands m i → waits_in held (expanded_at base (place_in base m.code) i) (size base i) ≡ left_by i held
  one_leaves (Plain p) held h = one_plain p held h
  one_leaves (When t to) held h = refl
  one_leaves (Unless t to) held h = refl
  one_leaves (Jump to) held h = refl
  one_leaves (Call c) held h = refl
  one_leaves (Return w a) held h = refl
  one_leaves Idle held h = refl

  -- and what waits before it waits at each of its places
  first_of : (i : Instr) (held : List ℕ) (k : ℕ) → size base i ≡ 1 → k < size base i → waits_in held (expanded_at base (place_in base m.code) i) k ≡ held
  first_of i held zero e h = refl
  first_of i held (suc k) e h = absurd (omega (arith, e, h))

  within_plain : (p : PlainInstr) (held : List ℕ) (k : ℕ) → IsPlain m p → k < size base (Plain p)
      → waits_in held (expanded_at base (place_in base m.code) (Plain p)) k ≡ held
  within_plain (Copy to a) held k h g = first_of (Plain (Copy to a)) held k refl g
  within_plain (Compute c) held k h g = leave now (computing base c c.operator) held k (plain_computes c h) (omega (arith, g))
  within_plain (Product to a b) held k h g = first_of (Plain (Product to a b)) held k refl g
  within_plain (DivideSteps r d a) held k h g = first_of (Plain (DivideSteps r d a)) held k refl g
  within_plain (Load x w to a) held k h g = first_of (Plain (Load x w to a)) held k refl g
  within_plain (Store w a from) held k h g = first_of (Plain (Store w a from)) held k refl g
  within_plain (ReadDevice to a) held k h g = first_of (Plain (ReadDevice to a)) held k refl g
  within_plain (WriteDevice to a) held k h g = first_of (Plain (WriteDevice to a)) held k refl g
  within_plain (Push w a) held k h g = first_of (Plain (Push w a)) held k refl g
  within_plain (Pop w to) held k h g = first_of (Plain (Pop w to)) held k refl g
  within_plain (Find d to a) held k h g = first_of (Plain (Find d to a)) held k refl g
  within_plain (CodeOf q to) held k h g = first_of (Plain (CodeOf q to)) held k refl g
  within_plain (Stop c) held k h g = first_of (Plain (Stop c)) held k refl g

  within_one : (i : Instr) (held : List ℕ) (k : ℕ) → AreOperands m i → k < size base i
      → waits_in held (expanded_at base (place_in base m.code) i) k ≡ held
  within_one (Plain p) held k h g = within_plain p held k h g
  within_one (When t to) held k h g = first_of (When t to) held k refl g
  within_one (Unless t to) held k h g = first_of (Unless t to) held k refl g
  within_one (Jump to) held k h g = first_of (Jump to) held k refl g
  within_one (Call c) held k h g = first_of (Call c) held k refl g
  within_one (Return w a) held k h g = first_of (Return w a) held k refl g
  within_one Idle held k h g = first_of Idle held k refl g

  waits_kept : (is : List Instr) (held : List ℕ) → ((j : ℕ) (y : Instr) → slice_get is j ≡ Some y → AreOperands m y) → (at k : ℕ) (i : Instr)
      → slice_get is at ≡ Some i → k < size base i
      → waits_in held (expanded_code base (place_in base m.code) is) (place_of base is at + k) ≡ waits_in held is at
  waits_kept [] held own at k i e h = absurd (grind arith)
  waits_kept (j ∷ is) held own zero k i e h =
      ap (waits_in held (expanded_code base (place_in base m.code) (j ∷ is))) (omega arith)
      ∙ in_front held (expanded_at base (place_in base m.code) j) (expanded_code base (place_in base m.code) is) k (omega (arith, s, short))
      ∙ within_one j held k (own 0 j refl) short
    where
      s : length (expanded_at base (place_in base m.code) j) ≡ size base j
      s = size_is base (place_in base m.code) j

      short : k < size base j
      short = subst (λ z. k < size base z) (sym (some_is j i e)) h
  waits_kept (j ∷ is) held own (suc at) k i e h =
      ap (waits_in held (xs ++ ys)) (omega (arith, s)) ∙ beyond held xs ys (place_of base is at + k)
      ∙ ap (λ z. waits_in z ys (place_of base is at + k)) (ap (waits_in held xs) s ∙ one_leaves j held (own 0 j refl))
      ∙ waits_kept is (left_by j held) (λ n y f. own (suc n) y f) at k i e h
    where
      xs : List Instr
      xs = expanded_at base (place_in base m.code) j

      ys : List Instr
      ys = expanded_code base (place_in base m.code) is

      s : length xs ≡ size base j
      s = size_is base (place_in base m.code) j

  spread_at : (at k : ℕ) (i : Instr) → slice_get m.code at ≡ Some i → k < size base i → new_waits (place at + k) ≡ ws at
  spread_at at k i e h = waits_kept m.code [] sound.operands at k i e h

  get_at : (xs : List Instr) (k : ℕ) → k < length xs → (x : Instr) × (slice_get xs k ≡ Some x)
  get_at [] k h = absurd (omega arith)
  get_at (x ∷ xs) zero h = (x, refl)
  get_at (x ∷ xs) (suc k) h = get_at xs k (omega (arith, h))

  goes_place : (to : ℕ) (l : List ℕ) → GoesOn m ws to l → GoesOn now new_waits (place to) l
  goes_place to l (h, e) = with_instr (get_at m.code to h)
    where
      with_instr : (y : Instr) × (slice_get m.code to ≡ Some y) → GoesOn now new_waits (place to) l
      with_instr (y, g) =
          let s = size_some base y in let f = place_end base (place_in base m.code) m.code to y g in
          (omega (arith, s, f), subst (λ k. new_waits k ≡ ws to) (none (place to)) (spread_at to 0 y g s) ∙ e)
        where
          none : (n : ℕ) → n + 0 ≡ n
          none n = omega arith

  behind : (at : ℕ) (i : Instr) → slice_get m.code at ≡ Some i → size base i ≡ 1 → suc (place at + 0) ≡ place (suc at)
  behind at i e g = sym (place_next base m.code at i e ∙ ap (λ z. place at + z) g ∙ omega arith)

  goes_next : (at : ℕ) (i : Instr) (l : List ℕ) → slice_get m.code at ≡ Some i → size base i ≡ 1 → GoesOn m ws (suc at) l
      → GoesOn now new_waits (suc (place at + 0)) l
  goes_next at i l e g h = subst (λ k. GoesOn now new_waits k l) (sym (behind at i e g)) (goes_place (suc at) l h)

  here : (at : ℕ) (i : Instr) → slice_get m.code at ≡ Some i → new_waits (place at + 0) ≡ ws at
  here at i e = spread_at at 0 i e (size_some base i)

  -- the code of a computation goes on to the next place
  goes_within : (at k : ℕ) (i : Instr) → slice_get m.code at ≡ Some i → k < size base i → GoesOn m ws (suc at) (ws at)
      → GoesOn now new_waits (suc (place at + k)) (new_waits (place at + k))
  goes_within at k i e h g = by_test (nat_lt (suc k) (size base i)) refl
    where
      this : new_waits (place at + k) ≡ ws at
      this = spread_at at k i e h

      by_test : (b : Bool) → nat_lt (suc k) (size base i) ≡ b → GoesOn now new_waits (suc (place at + k)) (new_waits (place at + k))
      by_test true f =
          let f = place_end base (place_in base m.code) m.code at i e in
          (omega (arith, f, more), subst (λ j. new_waits j ≡ ws at) (next (place at) k) (spread_at at (suc k) i e more) ∙ sym this)
        where
          below : (a b : ℕ) → nat_lt a b ≡ true → a < b
          below a b e = grind arith

          more : suc k < size base i
          more = below (suc k) (size base i) f

          next : (a b : ℕ) → a + suc b ≡ suc (a + b)
          next a b = omega arith
      by_test false f =
          subst (λ j. GoesOn now new_waits j (new_waits (place at + k))) (place_next base m.code at i e ∙ last)
          (subst (GoesOn now new_waits (place (suc at))) (sym this) (goes_place (suc at) (ws at) g))
        where
          above : (a b : ℕ) → nat_lt a b ≡ false → b ≤ a
          above a b e = grind arith

          last : place at + size base i ≡ suc (place at + k)
          last = omega (arith, above (suc k) (size base i) f, h)

  jumps : (at to : ℕ) (i : Instr) (l : List ℕ) → slice_get m.code at ≡ Some i → Jumps m ws at to l
      → Jumps now new_waits (place at + 0) (place_in base m.code to) l
  jumps at to i l e (n, (h, g)) =
      subst (λ t. Jumps now new_waits (place at + 0) t l) (sym (place_in_is base m.code to h)) (
        (λ q. n (same (nat_lt at to) refl
            (nat_lt to at) refl q)),
        goes_place to l (h, g),
      )
    where
      here' : at < length m.code
      here' = slice_get_within m.code at i e

      below : (a b : ℕ) → nat_lt a b ≡ true → a < b
      below a b e = grind arith

      above : (a b : ℕ) → nat_lt a b ≡ false → b ≤ a
      above a b e = grind arith

      same : (a : Bool) → nat_lt at to ≡ a → (b : Bool) → nat_lt to at ≡ b → place to ≡ place at + 0 → to ≡ at
      same true e b f q = absurd (let r = place_grows base m.code at to h (below at to e) in omega (arith, r, q))
      same false e true f q = absurd (let r = place_grows base m.code to at here' (below to at f) in omega (arith, r, q))
      same false e false f q = omega (arith, above at to e, above to at f)

  plain_kept : (at : ℕ) (p : PlainInstr) → slice_get m.code at ≡ Some (Plain p) → size base (Plain p) ≡ 1 → PlainWaits m ws at p
      → PlainWaits now new_waits (place at + 0) p
  plain_kept at (Copy to a) e g h = goes_next at _ _ e g (subst (GoesOn m ws (suc at)) (sym (here at _ e)) h)
  plain_kept at (Compute c) e g h = goes_next at _ _ e g (subst (GoesOn m ws (suc at)) (sym (here at _ e)) h)
  plain_kept at (Product to a b) e g h = goes_next at _ _ e g (subst (GoesOn m ws (suc at)) (sym (here at _ e)) h)
  plain_kept at (DivideSteps r d a) e g h = goes_next at _ _ e g (subst (GoesOn m ws (suc at)) (sym (here at _ e)) h)
  plain_kept at (Load x w to a) e g h = goes_next at _ _ e g (subst (GoesOn m ws (suc at)) (sym (here at _ e)) h)
  plain_kept at (Store w a from) e g h = goes_next at _ _ e g (subst (GoesOn m ws (suc at)) (sym (here at _ e)) h)
  plain_kept at (ReadDevice to a) e g h = goes_next at _ _ e g (subst (GoesOn m ws (suc at)) (sym (here at _ e)) h)
  plain_kept at (WriteDevice to a) e g h = goes_next at _ _ e g (subst (GoesOn m ws (suc at)) (sym (here at _ e)) h)
  plain_kept at (Push w a) e g h = goes_next at _ _ e g (subst (λ l. GoesOn m ws (suc at) (w ∷ l)) (sym (here at _ e)) h)
  plain_kept at (Pop w to) e g (rest, s, h) = (rest, here at _ e ∙ s, goes_next at _ _ e g h)
  plain_kept at (Find d to a) e g h = goes_next at _ _ e g (subst (GoesOn m ws (suc at)) (sym (here at _ e)) h)
  plain_kept at (CodeOf q to) e g h = goes_next at _ _ e g (subst (GoesOn m ws (suc at)) (sym (here at _ e)) h)
  plain_kept at (Stop c) e g h = tt {0}

  -- what an instruction owes at its place
  abbrev pub Owes : ℕ → Instr → Type 0
  Owes j x = AreOperands now x × Waits now new_waits j x

  computation_kept : (at k : ℕ) (c : Computation) (x : Instr) → slice_get m.code at ≡ Some (Plain (Compute c)) → IsPlain m (Compute c)
      → GoesOn m ws (suc at) (ws at) → slice_get (computing base c c.operator) k ≡ Some x → Owes (place at + k) x
  computation_kept at k c x e (hw, ht, hl, hr) g f =
      let fine : IsOfComputation now x =
      one_of (IsOfComputation now) (computing base c c.operator) k x (computing_is first m c.width c.to c.left c.right hw ht hl hr c.operator) f in
      let short : k < size base (Plain (Compute c)) =
      subst (λ n. k < n) (size_is base (place_in base m.code) (Plain (Compute c))) (slice_get_within (computing base c c.operator) k x f) in
      (operands_of now x fine, waits_of now new_waits (place at + k) x fine (goes_within at k (Plain (Compute c)) e short g))

  plain_owes : (at k : ℕ) (p : PlainInstr) (x : Instr) → slice_get m.code at ≡ Some (Plain p) → IsPlain m p → PlainWaits m ws at p
      → slice_get (expanded_at base (place_in base m.code) (Plain p)) k ≡ Some x → Owes (place at + k) x
  plain_owes at k (Copy to a) x e h g f = alone (λ n. Owes (place at + n)) _ k x f (plain_now first m (Copy to a) h, plain_kept at (Copy to a) e refl g)
  plain_owes at k (Compute c) x e h g f = computation_kept at k c x e h g f
  plain_owes at k (Product to a b) x e h g f = alone (λ n. Owes (place at + n)) _ k x f (
    plain_now first m (Product to a b) h,
    plain_kept at
        (Product to a b) e refl g,
  )
  plain_owes at k (DivideSteps r d a) x e h g f = alone (λ n. Owes (place at + n)) _ k x f (
    plain_now first m (DivideSteps r d a) h,
    plain_kept at
        (DivideSteps r d a) e refl g,
  )
  plain_owes at k (Load y w to a) x e h g f = alone (λ n. Owes (place at + n)) _ k x f (
    plain_now first m (Load y w to a) h,
    plain_kept at
        (Load y w to a) e refl g,
  )
  plain_owes at k (Store w a from) x e h g f = alone (λ n. Owes (place at + n)) _ k x f (
    plain_now first m (Store w a from) h,
    plain_kept at
        (Store w a from) e refl g,
  )
  plain_owes at k (ReadDevice to a) x e h g f = alone (λ n. Owes (place at + n)) _ k x f (
    plain_now first m (ReadDevice to a) h,
    plain_kept at
        (ReadDevice to a) e refl g,
  )
  plain_owes at k (WriteDevice to a) x e h g f = alone (λ n. Owes (place at + n)) _ k x f (
    plain_now first m (WriteDevice to a) h,
    plain_kept at
        (WriteDevice to a) e refl g,
  )
  plain_owes at k (Push w a) x e h g f = alone (λ n. Owes (place at + n)) _ k x f (plain_now first m (Push w a) h, plain_kept at (Push w a) e refl g)
  plain_owes at k (Pop w to) x e h g f = alone (λ n. Owes (place at + n)) _ k x f (plain_now first m (Pop w to) h, plain_kept at (Pop w to) e refl g)
  plain_owes at k (Find d to a) x e h g f = alone (λ n. Owes (place at + n)) _ k x f (plain_now first m (Find d to a) h, plain_kept at (Find d to a) e refl g)
  plain_owes at k (CodeOf q to) x e h g f = alone (λ n. Owes (place at + n)) _ k x f (plain_now first m (CodeOf q to) h, plain_kept at (CodeOf q to) e refl g)
  plain_owes at k (Stop c) x e h g f = alone (λ n. Owes (place at + n)) _ k x f (plain_now first m (Stop c) h, plain_kept at (Stop c) e refl g)

  owes : (at k : ℕ) (i x : Instr) → slice_get m.code at ≡ Some i → AreOperands m i → Waits m ws at i
      → slice_get (expanded_at base (place_in base m.code) i) k ≡ Some x → Owes (place at + k) x
  owes at k (Plain p) x e h g f = plain_owes at k p x e h g f
  owes at k (When t to) x e h (j, g) f =
      alone (λ n. Owes (place at + n)) _ k x f (
        test_now first m t h,
        (
          jumps at to _ _ e (subst (Jumps m ws at to) (sym (here at _ e)) j),
          goes_next at _ _ e refl (subst (GoesOn m ws (suc at))
              (sym (here at _ e)) g),
        ),
      )
  owes at k (Unless t to) x e h (j, g) f =
      alone (λ n. Owes (place at + n)) _ k x f (
        test_now first m t h,
        (
          jumps at to _ _ e (subst (Jumps m ws at to) (sym (here at _ e)) j),
          goes_next at _ _ e refl (subst (GoesOn m ws (suc at))
              (sym (here at _ e)) g),
        ),
      )
  owes at k (Jump to) x e h j f =
      alone (λ n. Owes (place at + n)) _ k x f (tt {0}, jumps at to _ _ e (subst (Jumps m ws at to) (sym (here at _ e)) j))
  owes at k (Call c) x e (h1, h2, h3) (l, g) f =
      alone (λ n. Owes (place at + n)) _ k x f (
        (callee_now first m c.callee h1, all_now first m (operands c.registers) h2, to_now first m c.to h3),
        (
          subst (λ z. c.pushed ≤ length z) (sym (here at _ e)) l,
          goes_next at _ _ e refl (subst (λ z. GoesOn m ws (suc at) (drop c.pushed z)) (sym (here at _ e)) g),
        ),
      )
  owes at k (Return w a) x e (r, h) g f = alone (λ n. Owes (place at + n)) _ k x f ((r, operand_now first m a h), here at _ e ∙ g)
  owes at k Idle x e h g f =
      alone (λ n. Owes (place at + n)) _ k x f (tt {0}, goes_next at _ _ e refl (subst (GoesOn m ws (suc at)) (sym (here at _ e)) g))

  each : (j : ℕ) (x : Instr) → slice_get now.code j ≡ Some x → Owes j x
  each j x e = of (located base (place_in base m.code) m.code j x e)
    where
      of : Located base (place_in base m.code) m.code j x → Owes j x
      of l = subst (λ z. Owes z x) (sym l.found) (owes l.at l.k l.before x l.is_at (sound.operands l.at l.before l.is_at)
          (sound.goes_on l.at l.before l.is_at) l.here)

  first_place : (is : List Instr) → place_of base is 0 ≡ 0
  first_place [] = refl
  first_place (i ∷ is) = refl

  pub expanded_sound : IsSound now
  expanded_sound =
      record {
        few = sound.few;
        params = sound.params;
        result = sound.result;
        widths = sound.widths;
        operands = λ j x e. (each j x e).0;
        begins = subst (λ k. GoesOn now new_waits k []) (first_place m.code) (goes_place 0 [] sound.begins);
        goes_on = λ j x e. (each j x e).1;
      }
