-- Each instruction of a sound procedure has code of at least one instruction.
use Rattle.std.specs.Prelude.{ℕ, zero, suc, ◌+◌, ◌-◌, ◌/◌, ◌%◌, ◌<◌, ◌≤◌, ◌==◌, nat_lt, nat_le, Bool, true, false, ◌&&◌, ◌||◌, not, if◌then◌else◌, List, [], ◌∷◌, ◌++◌, length, slice_index}
use Rattle.std.specs.Prelude.{◌^◌, ◌⊎◌, Option, Some, None, slice_get}
use Rattle.std.specs.List.{AllByRecursion}
use Rattle.std.proofs.Common.{◌≡◌, refl, arith, inl, inr}
use Rattle.std.proofs.lemmas.List.{length-append}
use Rattle.avr_instr.specs.declared.instr.Instr.{Instr as Avr}
use Rattle.avr_instr.specs.declared.instr.Instr.TheVariants.{Ldi, Mov, Movw, Ret, Ror, Push as PushOf}
use Rattle.avr_instr.specs.declared.operand.Base.{Base}
use Rattle.avr_isa.specs.Standing.{words_with, widths}
use Rattle.avr_instr.specs.Spelled.{second_word}
use Rattle.vg_codes.specs.Dispatch.{cases_of}
use Rattle.vg_lin.specs.declared.instr.Memory.TheVariants.{Ram, Flash}
use Rattle.vg_lin.specs.declared.instr.Operand.{Operand}
use Rattle.vg_lin.specs.declared.instr.Operand.TheVariants.{Local, Known}
use Rattle.vg_lin.specs.declared.instr.Operator.{Operator}
use Rattle.vg_lin.specs.declared.instr.Operator.TheVariants.{Plus, Minus, Times, Divide, Remainder, And, Or, Xor, ShiftLeft, ShiftRight}
use Rattle.vg_lin.specs.declared.instr.Computation.{Computation}
use Rattle.vg_lin.specs.declared.instr.Plain.{Plain as PlainInstr}
use Rattle.vg_lin.specs.declared.instr.Plain.TheVariants.{Copy, Compute, Product, DivideSteps, Load, Store, ReadDevice, WriteDevice, Push, Pop, Find, CodeOf, Stop}
use Rattle.vg_lin.specs.declared.instr.Instr.{Instr}
use Rattle.vg_lin.specs.declared.instr.Instr.TheVariants.{Plain, When, Unless, Jump, Call, Return, Idle}
use Rattle.vg_lin.specs.Program.{Procedure, Program}
use Rattle.vg_lin.specs.Sound.{IsWidth, IsPlain, AreOperands, IsSound}
use Rattle.vg_templates.specs.Spots.{Spot, InFrame, InRegisters}
use Rattle.vg_templates.specs.Layouts.{Layout, width_of}
use Rattle.vg_templates.specs.Linkage.{pushes, pops, drops_slots, epilogue}
use Rattle.vg_templates.specs.Transfers.{clears, known, moves_two, moves, reach, loads, stores, fetch, keep}
use Rattle.vg_templates.specs.Held.{brings, gives}
use Rattle.vg_templates.specs.Homes.{home_of, made_in, settles, clear_home}
use Rattle.vg_templates.specs.Branches.{tests, told_by, near_branch}
use Rattle.vg_templates.specs.Calls.{call_code}
use Rattle.vg_templates.specs.Operands.{least, padded, known_registers, finds, spot_found, found_in}
use Rattle.vg_templates.specs.Plain.{bytes_in, copies_low, copies_through, copies_local, copies, is_bytewise, operates, works_with, works, is_there, suits_left, suits_right, is_known, works_at, work_home, comes, computes_in, computes, writes_register, reads_register, first_of}
use Rattle.vg_templates.specs.Accesses.{loads_x, stores_x, is_near, address_of, loads_at, points_by, loads_by, stores_by}
use Rattle.vg_templates.specs.Shifts.{doubles, halves, repeats, fetch_above, brings_above, stays, shift_home, shifts_left, shifts_right}
use Rattle.vg_templates.specs.Products.{divides_through}
use Rattle.vg_templates.specs.Divisions.{turns_in_place, divides_in_place, is_other, divides_at}
use Rattle.vg_templates.specs.Amounts.{tests_amount, bounds_amount, counts_down, shifts_left_by, shifts_right_by}
use Rattle.vg_templates.specs.Choices.{usual, unusual}
use Rattle.vg_templates.specs.Lookups.{points_z, loads_z, tries_cases}
use Rattle.vg_templates.specs.Flow.{jump_code, branch_code, way_of, Turn, Direct, Past, Hop, Near, Far}
use Rattle.vg_templates.specs.Plains.{computation_code, pops_from, plain_template}
use Rattle.vg_templates.specs.Whole.{call_front, call_back}
use Rattle.vg_templates.specs.Framed.{framed}
use Rattle.vg_followed.proofs.Above.{staying}
use Rattle.vg_select.specs.Selected.{Leading, selected}

-- ---- lists

pub words_some : (is : List Avr) → 1 ≤ length is → 1 ≤ widths is
words_some [] h = h
words_some (i ∷ is) h = let w = word (second_word i) in omega (arith, w)
  where
    word : (o : Option ℕ) → 1 ≤ words_with o
    word None = omega arith
    word (Some x) = omega arith

pub back : (a b : List Avr) → 1 ≤ length b → 1 ≤ length (a ++ b)
back a b h = let e = length-append a b in omega (arith, h, e)

pub front : (a b : List Avr) → 1 ≤ length a → 1 ≤ length (a ++ b)
front a b h = let e = length-append a b in omega (arith, h, e)

-- ---- values

stores_some : (b : Base) (q r w n : ℕ) → 1 ≤ w → 1 ≤ length (stores b q r w n)
stores_some b q r zero n h = absurd (omega (arith, h))
stores_some b q r (suc w) zero h = omega arith
stores_some b q r (suc w) (suc n) h = omega arith

clears_some : (d n : ℕ) → 1 ≤ n → 1 ≤ length (clears d n)
clears_some d zero h = absurd (omega (arith, h))
clears_some d (suc n) h = omega arith

loads_some : (b : Base) (q d w n : ℕ) → 1 ≤ n → 1 ≤ length (loads b q d w n)
loads_some b q d zero n h = clears_some d n h
loads_some b q d (suc w) zero h = absurd (omega (arith, h))
loads_some b q d (suc w) (suc n) h = omega arith

two_some : (r d : ℕ) → 1 ≤ length (moves_two r d)
two_some r d = by_test ((r % 2 == 0) && (d % 2 == 0))
  where
    by_test : (b : Bool) → 1 ≤ length (if b then Movw d r ∷ [] else Mov d r ∷ Mov (suc d) (suc r) ∷ [])
    by_test true = omega arith
    by_test false = omega arith

moves_some : (r d w n : ℕ) → 1 ≤ n → 1 ≤ length (moves r d w n)
moves_some r d zero n h = clears_some d n h
moves_some r d (suc w) zero h = absurd (omega (arith, h))
moves_some r d (suc zero) (suc n) h = omega arith
moves_some r d (suc (suc w)) (suc zero) h = omega arith
moves_some r d (suc (suc w)) (suc (suc n)) h = front (moves_two r d) (moves (suc (suc r)) (suc (suc d)) w n) (two_some r d)

padded_some : (r w n : ℕ) → 1 ≤ n → 1 ≤ length (padded r w n)
padded_some r w zero h = absurd (omega (arith, h))
padded_some r zero (suc n) h = omega arith
padded_some r (suc w) (suc n) h = omega arith

known_some : (d n x : ℕ) → 1 ≤ n → 1 ≤ length (known_registers d n x)
known_some d zero x h = absurd (omega (arith, h))
known_some d (suc n) x h = omega arith

pushes_some : (rs : List ℕ) → 1 ≤ length rs → 1 ≤ length (pushes rs)
pushes_some [] h = absurd (omega (arith, h))
pushes_some (r ∷ rs) h = back (pushes rs) (PushOf r ∷ []) (omega arith)

pops_some : (d n : ℕ) → 1 ≤ n → 1 ≤ length (pops_from d n)
pops_some d zero h = absurd (omega (arith, h))
pops_some d (suc n) h = omega arith

stores_x_some : (rs : List ℕ) → 1 ≤ length rs → 1 ≤ length (stores_x rs)
stores_x_some [] h = absurd (omega (arith, h))
stores_x_some (r ∷ rs) h = omega arith

loads_x_some : (d n : ℕ) → 1 ≤ n → 1 ≤ length (loads_x d n)
loads_x_some d zero h = absurd (omega (arith, h))
loads_x_some d (suc n) h = omega arith

loads_z_some : (d n : ℕ) → 1 ≤ n → 1 ≤ length (loads_z d n)
loads_z_some d zero h = absurd (omega (arith, h))
loads_z_some d (suc n) h = omega arith

loads_at_some : (d n a : ℕ) → 1 ≤ n → 1 ≤ length (loads_at d n a)
loads_at_some d zero a h = absurd (omega (arith, h))
loads_at_some d (suc n) a h = omega arith

loads_some_by : (near : Bool) (d n a : ℕ) → 1 ≤ n → 1 ≤ length (loads_by near d n a)
loads_some_by true d n a h = loads_at_some d n a h
loads_some_by false d n a h = loads_x_some d n h

stores_some_by : (near : Bool) (rs : List ℕ) (a : ℕ) → 1 ≤ length rs → 1 ≤ length (stores_by near rs a)
stores_some_by near [] a h = absurd (omega (arith, h))
stores_some_by true (r ∷ rs) a h = omega arith
stores_some_by false (r ∷ rs) a h = stores_x_some (r ∷ rs) h

known_number_some : (d n x : ℕ) → 1 ≤ n → 1 ≤ length (known d n x)
known_number_some d zero x h = absurd (omega (arith, h))
known_number_some d (suc n) x h = omega arith

repeats_some : (t : ℕ) (is : List Avr) → 1 ≤ t → 1 ≤ length is → 1 ≤ length (repeats t is)
repeats_some zero is h g = absurd (omega (arith, h))
repeats_some (suc t) is h g = front is (repeats t is) g

doubles_some : (d n : ℕ) → 1 ≤ n → 1 ≤ length (doubles d n)
doubles_some d zero h = absurd (omega (arith, h))
doubles_some d (suc n) h = omega arith

halves_some : (d n : ℕ) → 1 ≤ n → 1 ≤ length (halves d n)
halves_some d zero h = absurd (omega (arith, h))
halves_some d (suc zero) h = omega arith
halves_some d (suc (suc n)) h = back (halves (suc d) (suc n)) (Ror d ∷ []) (omega arith)

none_or_some : (n : ℕ) → (n ≡ 0) ⊎ (1 ≤ n)
none_or_some zero = inl refl
none_or_some (suc n) = inr (omega arith)

operates_some : (o : Operator) (d : ℕ) (rs : List ℕ) → is_bytewise o ≡ true → 1 ≤ length rs → 1 ≤ length (operates d o rs)
operates_some o d [] e h = absurd (omega (arith, h))
operates_some Plus d (r ∷ rs) e h = omega arith
operates_some Minus d (r ∷ rs) e h = omega arith
operates_some And d (r ∷ rs) e h = omega arith
operates_some Or d (r ∷ rs) e h = omega arith
operates_some Xor d (r ∷ rs) e h = omega arith
operates_some Times d (r ∷ rs) e h = absurd (let clash : false ≡ true = e in cc)
operates_some Divide d (r ∷ rs) e h = absurd (let clash : false ≡ true = e in cc)
operates_some Remainder d (r ∷ rs) e h = absurd (let clash : false ≡ true = e in cc)
operates_some ShiftLeft d (r ∷ rs) e h = absurd (let clash : false ≡ true = e in cc)
operates_some ShiftRight d (r ∷ rs) e h = absurd (let clash : false ≡ true = e in cc)

first_true : (a b c : Bool) → (a && b && c) ≡ true → a ≡ true
first_true true b c e = refl
first_true false true c e = absurd (let clash : false ≡ true = e in cc)
first_true false false c e = absurd (let clash : false ≡ true = e in cc)

least_some : (w n : ℕ) → 1 ≤ w → 1 ≤ n → 1 ≤ least w n
least_some zero n h g = absurd (omega (arith, h))
least_some (suc w) zero h g = absurd (omega (arith, g))
least_some (suc w) (suc n) h g = omega arith

writes_some : (b : Bool) (x y : Avr) → 1 ≤ length (if b then x ∷ [] else y ∷ [])
writes_some true x y = omega arith
writes_some false x y = omega arith

branch_some : (bit k : ℕ) (b : Bool) → 1 ≤ length (near_branch bit b k)
branch_some bit k true = omega arith
branch_some bit k false = omega arith

turn_some : (bit : ℕ) (b : Bool) (t : Turn) → 1 ≤ length (branch_code bit b t)
turn_some bit b (Direct k) = branch_some bit k b
turn_some bit b (Past h) = front (near_branch bit (not b) (widths (jump_code h))) (jump_code h) (branch_some bit (widths (jump_code h)) (not b))

jump_some : (h : Hop) → 1 ≤ length (jump_code h)
jump_some (Near k) = omega arith
jump_some (Far to) = omega arith

-- ---- locals

wide_at : (ws : List ℕ) (k : ℕ) → AllByRecursion IsWidth ws → k < length ws → 1 ≤ slice_index ws k
wide_at [] k h lt = absurd (omega (arith, lt))
wide_at (w ∷ ws) zero (h, g) lt = h.0
wide_at (w ∷ ws) (suc k) (h, g) lt = wide_at ws k g (omega (arith, lt))

keep_some : (z : Spot) (w r n : ℕ) → 1 ≤ w → 1 ≤ length (keep z w r n)
keep_some (InFrame at) w r n h =
    let k = reach at w in back k.code (stores k.base k.displacement r w n) (stores_some k.base k.displacement r w n h)
keep_some (InRegisters d) w r n h = moves_some r d n w h

fetch_some : (z : Spot) (w d n : ℕ) → 1 ≤ n → 1 ≤ length (fetch z w d n)
fetch_some (InFrame at) w d n h =
    let k = reach at w in back k.code (loads k.base k.displacement d w n) (loads_some k.base k.displacement d w n h)
fetch_some (InRegisters r) w d n h = moves_some r d w n h

fetch_above_some : (z : Spot) (w k d n : ℕ) → 1 ≤ n → 1 ≤ length (fetch_above z w k d n)
fetch_above_some (InFrame at) w k d n h =
    let r = reach at w in back r.code (loads r.base (r.displacement + k) d (w - k) n) (loads_some r.base (r.displacement + k) d (w - k) n h)
fetch_above_some (InRegisters r) w k d n h = moves_some (r + k) d (w - k) n h

spot_some : (z : Spot) (w d n : ℕ) → 1 ≤ n → 1 ≤ length (spot_found z w d n)
spot_some (InFrame at) w d n h = padded_some d w n h
spot_some (InRegisters r) w d n h = padded_some r w n h

module _ (m : Procedure) (s : IsSound m) where
  abbrev l : Layout
  l = framed m

  gives_some : (to r n : ℕ) → to < length m.widths → 1 ≤ length (gives l to r n)
  gives_some to r n h = keep_some (l.spots to) (width_of l to) r n (wide_at m.widths to s.widths h)

  found_some : (a : Operand) (d n : ℕ) → 1 ≤ n → 1 ≤ length (found_in l a d n)
  found_some (Local k) d n h = spot_some (l.spots k) (width_of l k) d n h
  found_some (Known x) d n h = known_some d n x h

  computes_scratch_some : (c : Computation) (n : ℕ) → c.to < length m.widths → 1 ≤ length (computes_in l c None n)
  computes_scratch_some c n h =
      back (brings l c.left 22 n) (works l c.operator c.right n ++ gives l c.to 22 n)
      (back (works l c.operator c.right n) (gives l c.to 22 n) (gives_some c.to 22 n h))

  computes_in_some : (c : Computation) (h : Option ℕ) (n : ℕ) → 1 ≤ n → c.to < length m.widths → 1 ≤ length (computes_in l c (work_home l c n h) n)
  computes_in_some c None n some h = computes_scratch_some c n h
  computes_in_some c (Some r) n some h = by_test (works_at l c r n) refl
    where
      bytewise : works_at l c r n ≡ true → is_bytewise c.operator ≡ true
      bytewise e =
          first_true (is_bytewise c.operator) (suits_right l c.right r (width_of l c.to))
          (is_there l c.left r n || (not (is_known c.right) && suits_left l c.left r n)) e

      by_test : (b : Bool) → works_at l c r n ≡ b → 1 ≤ length (computes_in l c (if b then Some r else None) n)
      by_test false e = computes_scratch_some c n h
      by_test true e =
          let there = is_there l c.left r n in
          let worked = works_with l r c.operator c.right n in
          let rs = found_in l c.right 18 n in
          back (comes there l c.left r n) (worked ++ settles l c.to (Some r) n)
          (front worked (settles l c.to (Some r) n)
          (back (finds l c.right 18 n) (operates r c.operator rs) (operates_some c.operator r rs (bytewise e) (found_some c.right 18 n some))))

  computes_some : (c : Computation) → IsWidth c.width → c.to < length m.widths → 1 ≤ length (computes l c)
  computes_some c wide h =
      let n = least c.width (width_of l c.to) in
      computes_in_some c (home_of l c.to n) n (least_some c.width (width_of l c.to) wide.0 (wide_at m.widths c.to s.widths h)) h

  -- the operand comes, or stands where bits are shifted
  shift_some : (a : Operand) (t k d n : ℕ) (front_of is last : List Avr) → 1 ≤ n → 1 ≤ length is
      → 1 ≤ length (brings_above (stays l a t d n) l a k d n ++ (front_of ++ (repeats (t % 8) is ++ last)))
  shift_some a t k d n front_of is last some long = by_test (stays l a t d n) refl
    where
      by_test : (b : Bool) → stays l a t d n ≡ b → 1 ≤ length (brings_above b l a k d n ++ (front_of ++ (repeats (t % 8) is ++ last)))
      by_test true e =
          let bits = staying l a t d n e in
          let left_over : 1 ≤ t % 8 = (let few = bits.few in let more = bits.some in omega (arith, few, more)) in
          back front_of (repeats (t % 8) is ++ last) (front (repeats (t % 8) is) last (repeats_some (t % 8) is left_over long))
      by_test false e = front (brings_above false l a k d n) (front_of ++ (repeats (t % 8) is ++ last)) (comes_some a)
        where
          comes_some : (a : Operand) → 1 ≤ length (brings_above false l a k d n)
          comes_some (Local j) = fetch_above_some (l.spots j) (width_of l j) (least k (width_of l j)) d n some
          comes_some (Known x) = known_number_some d n (x / 256 ^ k) some

  settles_some : (to c : ℕ) (h : Option ℕ) → to < length m.widths → c ≡ 0 → 1 ≤ length (settles l to h c)
  settles_some to c None there none = gives_some to 22 c there
  settles_some to c (Some r) there none =
      let wide = wide_at m.widths to s.widths there in clears_some (r + c) (width_of l to - c) (omega (arith, wide, none))

  left_some : (w to : ℕ) (a : Operand) (n : ℕ) → IsWidth w → to < length m.widths → 1 ≤ length (shifts_left l w to a n)
  left_some w to a n wide there =
      let k = least w (width_of l to) in
      let whole = least (n / 8) k in
      let c = k - whole in
      let h = shift_home l a n 0 whole c (home_of l to k) in
      let d = made_in h + whole in
      let zeros = clears (made_in h) whole in
      let last = settles l to h k in
      let rest = repeats (n % 8) (doubles d c) ++ last in
      let all : 1 ≤ k = least_some w (width_of l to) wide.0 (wide_at m.widths to s.widths there) in
      elim (none_or_some c) [
        | inl none ↦
            back (brings_above (stays l a n d c) l a 0 d c) (zeros ++ rest) (front zeros rest (clears_some (made_in h) whole (omega (arith, none, all))))
        | inr some ↦ shift_some a n 0 d c zeros (doubles d c) last some (doubles_some d c some)
      ]

  right_some : (w to : ℕ) (a : Operand) (n : ℕ) → to < length m.widths → 1 ≤ length (shifts_right l w to a n)
  right_some w to a n there =
      let whole = least (n / 8) w in
      let c = w - whole in
      let h = shift_home l a n whole 0 c (home_of l to c) in
      let d = made_in h + 0 in
      let shifted = repeats (n % 8) (halves d c) in
      let last = settles l to h c in
      elim (none_or_some c) [
        | inl none ↦
            back (brings_above (stays l a n d c) l a whole d c) (shifted ++ last) (back shifted last (settles_some to c h there none))
        | inr some ↦ shift_some a n whole d c [] (halves d c) last some (halves_some d c some)
      ]

  -- a value comes, an amount, and tests of it, behind which there is more
  amount_some : (a : Operand) (n k : ℕ) (is : List Avr) → 1 ≤ length (brings l a 22 n ++ (brings l (Local k) 18 4 ++ (tests_amount ++ is)))
  amount_some a n k is =
      back (brings l a 22 n) (brings l (Local k) 18 4 ++ (tests_amount ++ is))
      (back (brings l (Local k) 18 4) (tests_amount ++ is) (front tests_amount is (omega arith)))

  left_by_some : (w to : ℕ) (a : Operand) (k : ℕ) → to < length m.widths → 1 ≤ length (shifts_left_by l w to a k)
  left_by_some w to a k h =
      let n = least w (width_of l to) in amount_some a n k (bounds_amount ++ (counts_down n (doubles 22 n) ++ gives l to 22 n))

  right_by_some : (w to : ℕ) (a : Operand) (k : ℕ) → to < length m.widths → 1 ≤ length (shifts_right_by l w to a k)
  right_by_some w to a k h = amount_some a w k (bounds_amount ++ (counts_down w (halves 22 w) ++ gives l to 22 w))

  computation_some : (c : Computation) (op : Operator) (a : Operand) → IsWidth c.width → c.to < length m.widths → 1 ≤ length (computation_code l c op a)
  computation_some c Plus a wide h = computes_some c wide h
  computation_some c Minus a wide h = computes_some c wide h
  computation_some c Times a wide h = computes_some c wide h
  computation_some c Divide a wide h = computes_some c wide h
  computation_some c Remainder a wide h = computes_some c wide h
  computation_some c And a wide h = computes_some c wide h
  computation_some c Or a wide h = computes_some c wide h
  computation_some c Xor a wide h = computes_some c wide h
  computation_some c ShiftLeft (Local k) wide h = left_by_some c.width c.to c.left k h
  computation_some c ShiftLeft (Known n) wide h = left_some c.width c.to c.left n wide h
  computation_some c ShiftRight (Local k) wide h = right_by_some c.width c.to c.left k h
  computation_some c ShiftRight (Known n) wide h = right_some c.width c.to c.left n h

  copies_low_some : (to : ℕ) (a : Operand) (n : ℕ) → to < length m.widths → 1 ≤ length (copies_low l to a n)
  copies_low_some to a n h = back (brings l a 22 n) (gives l to 22 n) (gives_some to 22 n h)

  copies_through_some : (to k : ℕ) → to < length m.widths → 1 ≤ length (copies_through l to k)
  copies_through_some to k h =
      let w = width_of l to in
      let home = clear_home (l.spots k) (width_of l k) w (home_of l to w) in
      front (brings l (Local k) (made_in home) w) (settles l to home w)
      (fetch_some (l.spots k) (width_of l k) (made_in home) w (wide_at m.widths to s.widths h))

  copies_local_some : (to k : ℕ) (z y : Spot) → to < length m.widths → 1 ≤ length (copies_local z y l to k)
  copies_local_some to k (InFrame at) (InRegisters f) h = gives_some to f (width_of l k) h
  copies_local_some to k (InFrame at) (InFrame p) h = copies_through_some to k h
  copies_local_some to k (InRegisters r) y h = copies_through_some to k h

  copies_some : (to : ℕ) (a : Operand) → to < length m.widths → 1 ≤ length (copies l to a)
  copies_some to (Local k) h = copies_local_some to k (l.spots to) (l.spots k) h
  copies_some to (Known v) h = copies_low_some to (Known v) (bytes_in (width_of l to) v) h

  divides_some : (r d : ℕ) (a : Operand) (h k : Option ℕ) → 1 ≤ length (divides_at h k l r d a)
  divides_some r d a None k = omega arith
  divides_some r d a (Some p) None = omega arith
  divides_some r d a (Some p) (Some q) = by_test (is_other a r && is_other a d)
    where
      by_test : (b : Bool) → 1 ≤ length (if b then divides_in_place l p q a else divides_through l r d a)
      by_test true = back (brings l a 18 4) (Ldi 26 32 ∷ turns_in_place p q) (omega arith)
      by_test false = omega arith

  plain_some : (p : Program) (i : PlainInstr) → IsPlain m i → 1 ≤ length (plain_template l p i)
  plain_some p (Copy to a) h = copies_some to a h.0
  plain_some p (Compute c) h = computation_some c c.operator c.right h.0 h.1
  plain_some p (Product to a b) h =
      back (finds l a 18 1) (finds l b 22 1 ++ _) (back (finds l b 22 1) (_ ∷ _) (omega arith))
  plain_some p (DivideSteps r d a) h = divides_some r d a (home_of l r 4) (home_of l d 4)
  plain_some p (Load Ram w to a) h =
      let near = is_near w a.index in
      let home = home_of l to w in
      let loaded = loads_by near (made_in home) w (address_of a.base a.index) in
      back (points_by near l a.base a.index) (loaded ++ settles l to home w)
      (front loaded (settles l to home w) (loads_some_by near (made_in home) w (address_of a.base a.index) h.0.0))
  plain_some p (Load Flash w to a) h =
      let home = home_of l to w in
      back (points_z l a.base a.index) (loads_z (made_in home) w ++ settles l to home w)
      (front (loads_z (made_in home) w) (settles l to home w) (loads_z_some (made_in home) w h.0.0))
  plain_some p (Store w a from) h =
      let near = is_near w a.index in
      let rs = found_in l from 22 w in
      let stored = stores_by near rs (address_of a.base a.index) in
      back (points_by near l a.base a.index) (finds l from 22 w ++ stored)
      (back (finds l from 22 w) stored (stores_some_by near rs (address_of a.base a.index) (found_some from 22 w h.0.0)))
  plain_some p (ReadDevice to address) h =
      let home = home_of l to 1 in
      front (reads_register (made_in home) address) (settles l to home 1) (writes_some (nat_le 0x20 address && nat_lt address 0x60) _ _)
  plain_some p (WriteDevice address a) h =
      back (finds l a 22 1) (writes_register address (first_of (found_in l a 22 1))) (writes_some (nat_le 0x20 address && nat_lt address 0x60) _ _)
  plain_some p (Push w a) h = back (finds l a 22 w) (pushes (found_in l a 22 w)) (pushes_some (found_in l a 22 w) (found_some a 22 w h.0.0))
  plain_some p (Pop w to) h = front (pops_from 22 w) (gives l to 22 w) (pops_some 22 w h.0.0)
  plain_some p (Find place to a) h =
      let all = cases_of (slice_get p.dispatches place) in
      let cases = tries_cases p.codes.code (usual all) (unusual (usual all) all) in
      back (brings l a 24 2) (cases ++ gives l to 22 2) (back cases (gives l to 22 2) (gives_some to 22 2 h.0))
  plain_some p (CodeOf q to) h =
      let w = width_of l to in back (known 22 w (p.codes.code q)) (gives l to 22 w) (gives_some to 22 w h)
  plain_some p (Stop code) h = omega arith

  pub selected_some : (p : Program) (ws : List ℕ) (to : Leading) (i : Instr) → AreOperands m i → 1 ≤ length (selected l p ws to i)
  selected_some p ws to (Plain i) h = plain_some p i h
  selected_some p ws to (When t at) h = back (tests l t) (branch_code (told_by t.comparison) true to.branch) (turn_some (told_by t.comparison) true to.branch)
  selected_some p ws to (Unless t at) h = back (tests l t) (branch_code (told_by t.comparison) false to.branch) (turn_some (told_by t.comparison) false to.branch)
  selected_some p ws to (Jump at) h = jump_some to.jump
  selected_some p ws to (Call c) h = back (call_front l c) (call_code (way_of c.callee to.call) ∷ call_back l ws c) (omega arith)
  selected_some p ws to (Return w a) h =
      back (brings l a 22 w) (epilogue l) (back (drops_slots l.slots) (pops l.saved ++ Ret ∷ []) (back (pops l.saved) (Ret ∷ []) (omega arith)))
  selected_some p ws to Idle h = omega arith
