-- That the instructions of what was made keep what every procedure of linear code keeps: operands in range, and jumps that lead to no
-- place behind the code nor to themselves.
use Rattle.std.specs.Prelude.{ℕ, zero, suc, ◌+◌, ◌-◌, ◌<◌, ◌≤◌, ◌*◌, ◌^◌, Bool, true, false, ◌==◌, ◌&&◌, ◌||◌, nat_lt, nat_le, List, [], ◌∷◌, ◌++◌, length, reverse, take, drop, Option, Some, None, if◌then◌else◌, slice_get}
use Rattle.std.proofs.Common.{◌≡◌, refl, sym, subst, arith}
use Rattle.std.proofs.lemmas.List.{reverse-append, length-take-le}
use Rattle.vg_meaning.specs.Code.{Code, Nothing, Then, Do, If, Loop, Break, Continue, Return}
use Rattle.vg_firm.specs.declared.step.Operator.{Operator}
use Rattle.vg_firm.specs.declared.step.Operator.TheVariants.{Plus, Minus, Times, Divide, Remainder, Less, AtMost, Greater, AtLeast, Equal, Unequal}
use Rattle.vg_firm.specs.declared.step.Operator.TheVariants.{And, Or, Xor, ShiftLeft, ShiftRight, Concat}
use Rattle.vg_firm.specs.declared.step.Prefix.{Prefix}
use Rattle.vg_firm.specs.declared.step.Prefix.TheVariants.{Negative, Not, Complement, Cut}
use Rattle.vg_firm.specs.declared.step.Step.{Step}
use Rattle.vg_firm.specs.declared.step.Step.TheVariants.{Number, This, Local as GetLocal, SetLocal, Forget, Operate, Apply, ReadDevice, WriteDevice, Load, Store}
use Rattle.vg_firm.specs.declared.step.Step.TheVariants.{LoadAt, StoreAt, LoadNothing, StoreNothing, LoadItem, StoreItem, Length, IsWithin}
use Rattle.vg_firm.specs.declared.step.Step.TheVariants.{StopUnlessWithin, Bind, BindFor, Call, CallFor, CallValue, Idle}
use Rattle.vg_lin.specs.declared.instr.Operand.{Operand}
use Rattle.vg_lin.specs.declared.instr.Operand.TheVariants.{Local, Known}
use Rattle.vg_lin.specs.declared.instr.Operator.{Operator as LinOperator}
use Rattle.vg_lin.specs.declared.instr.Operator.TheVariants.{Plus as Sum, Minus as Difference, Times as Product, And as Both', Divide as Quotient, Remainder as Rest, ShiftLeft as ShiftsLeft, ShiftRight as ShiftsRight}
use Rattle.vg_lin.specs.declared.instr.Comparison.TheVariants.{Below, Same}
use Rattle.vg_lin.specs.declared.instr.Test.{Test}
use Rattle.vg_lin.specs.declared.instr.Plain.{Plain as PlainInstr}
use Rattle.vg_lin.specs.declared.instr.Plain.TheVariants.{Copy, Compute, Load as LoadsBytes, Store as StoresBytes, ReadDevice as ReadsDevice, WriteDevice as WritesDevice, Find, CodeOf, Stop}
use Rattle.vg_lin.specs.declared.instr.Passed.{Passed}
use Rattle.vg_lin.specs.declared.instr.Target.{Target}
use Rattle.vg_lin.specs.declared.instr.Callee.{Callee}
use Rattle.vg_lin.specs.declared.instr.Callee.TheVariants.{Procedure as ByNumber, Code as ByCode}
use Rattle.vg_lin.specs.Meaning.{operands}
use Rattle.vg_flatten_shapes.specs.declared.fault.Fault.TheVariants.{NotTaken}
use Rattle.vg_flatten_shapes.specs.declared.open.Truth.{Truth}
use Rattle.vg_flatten_shapes.specs.declared.open.Truth.TheVariants.{Holds, Fails}
use Rattle.vg_flatten_shapes.specs.declared.layout.Layout.{Layout}
use Rattle.vg_flatten_shapes.specs.declared.room.Room.{Room}
use Rattle.vg_flatten_shapes.specs.Shapes.{Shape, only, empty, is_empty, is_free, same_operand, same_homes, taken, temp}
use Rattle.vg_flatten_shapes.specs.Blocks.{stop_where, Block, Skip, One, CallTo, GiveBack, BreakOut, GoOn, Both, Choice, Repeat}
use Rattle.vg_flatten_shapes.specs.Made.{Made, Gives, Refused, behind, after, by_temp, settled, settled_as, Tested, tested, tested_as, is_zero}
use Rattle.vg_flatten_values.specs.Values.{computing, comparing, by_order, test_of}
use Rattle.vg_flatten_values.specs.Values.{computed, operated, operated_as, bytes_of, bytes_for, cut_bits, cut, applied, concatenated}
use Rattle.vg_flatten_steps.specs.Locals.{put_number, at_local, get_receiver, put_in_local, set_local, forgotten}
use Rattle.vg_flatten_steps.specs.Locals.{written}
use Rattle.vg_flatten_steps.specs.Calls.{in_widths, registers_of, passing, with_taken, passing_of, with_receiver, resulting, called, passing_found}
use Rattle.vg_flatten_steps.specs.Calls.{called_on, called_for, called_by, called_value, bound_for}
use Rattle.vg_flatten_steps.specs.Steps.{stepped}
use Rattle.vg_flatten_control.specs.Flat.{landed_as, landed, joined, chosen, repeated, repeated_test}
use Rattle.vg_flatten.specs.Loops.{has_loop}
use Rattle.vg_flatten_control.specs.Flat.{repeated_body, repeated_next, given_back, flat}
use Rattle.vg_flatten_values.specs.Values.{bytes_around, may_be_zero, divisor_checked, divided, masked, shifted_left, shifted_right, combined}
use Rattle.vg_flatten_steps.specs.Objects.{is_near, is_one_of, cast_to}
use Rattle.vg_flatten_places.specs.Places.{may_be_null, null_check, load_no_field, store_no_field, load_nothing, store_nothing}
use Rattle.vg_flatten_places.specs.Places.{is_width, load_from, multiplied, multiple, fetched, load_one, load_sole, load_entry, load_of, length_of, lone_of, known_length, array_length, places_in, memory_of}
use Rattle.vg_flatten_places.specs.Places.{distance, fetched_from, load_placed, put_from, store_placed, store_at, store_one, put_of, store_entry, store_of, is_place, timed, inside, element_of, lone_element, load_inside, load_item}
use Rattle.vg_flatten_places.specs.Places.{no_element, store_inside, store_item}
use Rattle.vg_flatten_places.specs.declared.elements.Reach.{Reach}
use Rattle.vg_firm.specs.declared.step.ArrayPlace.{ArrayPlace}
use Rattle.vg_firm.specs.declared.step.Elements.{Elements}
use Rattle.vg_flatten_shapes.specs.declared.layout.Place.{Place}
use Rattle.vg_flatten_shapes.specs.declared.layout.Passing.{Passing}
use Rattle.vg_flatten_shapes.specs.declared.layout.Width.{Width}
use Rattle.vg_flatten_shapes.specs.declared.layout.Width.TheVariants.{One as OneByte, Two as TwoBytes, Three as ThreeBytes, Four as FourBytes}
use Rattle.vg_flatten_shapes.specs.Widths.{bytes_of as bytes_of_width}
use Rattle.vg_lin.specs.declared.instr.Memory.{Memory}
use Rattle.vg_lin.specs.declared.instr.Memory.TheVariants.{Flash}
use Rattle.vg_flatten_shapes.proofs.Temps.{some_is, none_is_not, temp_is}

-- ---- operands in range

-- A local below this size, or a known value.
abbrev pub IsIn : (size : ℕ) → Operand → Type 0
IsIn size (Local i) = i < size
IsIn size (Known v) = Unit {0}

abbrev pub AreIn : (size : ℕ) → List Operand → Type 0
AreIn size [] = Unit {0}
AreIn size (h ∷ hs) = IsIn size h × AreIn size hs

abbrev pub IsTestIn : (size : ℕ) → Test → Type 0
IsTestIn size t = (1 ≤ t.width) × (t.width ≤ 4) × IsIn size t.left × IsIn size t.right

abbrev pub IsTruthIn : (size : ℕ) → Truth → Type 0
IsTruthIn size (Holds t) = IsTestIn size t
IsTruthIn size (Fails t) = IsTestIn size t

abbrev pub MayBeIn : (size : ℕ) → Option Truth → Type 0
MayBeIn size (Some t) = IsTruthIn size t
MayBeIn size None = Unit {0}

abbrev pub IsPlainIn : (size : ℕ) → PlainInstr → Type 0
IsPlainIn size (Copy to a) = (to < size) × IsIn size a
IsPlainIn size (Compute c) = (1 ≤ c.width) × (c.width ≤ 4) × (c.to < size) × IsIn size c.left × IsIn size c.right
IsPlainIn size (LoadsBytes memory width to a) = (1 ≤ width) × (width ≤ 4) × (to < size) × IsIn size a.index
IsPlainIn size (StoresBytes width a from) = (1 ≤ width) × (width ≤ 4) × IsIn size a.index × IsIn size from
IsPlainIn size (ReadsDevice to address) = to < size
IsPlainIn size (WritesDevice address a) = IsIn size a
IsPlainIn size (Find d to a) = (to < size) × IsIn size a
IsPlainIn size (CodeOf q to) = to < size
IsPlainIn size (Stop code) = Unit {0}
IsPlainIn size _ = ⊥

abbrev pub IsToIn : (size : ℕ) → Option Target → Type 0
IsToIn size (Some to) = (to.width ≤ 4) × (to.local < size)
IsToIn size None = Unit {0}

abbrev pub IsCalleeIn : (size : ℕ) → Callee → Type 0
IsCalleeIn size (ByNumber q) = Unit {0}
IsCalleeIn size (ByCode a) = IsIn size a

-- Arguments of one to four bytes each.
abbrev pub ArePassedIn : (size : ℕ) → List Passed → Type 0
ArePassedIn size [] = Unit {0}
ArePassedIn size (a ∷ more) = ((1 ≤ a.width) × (a.width ≤ 4) × IsIn size a.value) × ArePassedIn size more

-- L is what must hold where there is a loop. What is given back has so many bytes.
abbrev pub BlockIn : (L : Type 0) → (given size : ℕ) → Block → Type 0
BlockIn L given size (One p) = IsPlainIn size p
BlockIn L given size (CallTo pushed c) =
    (c.pushed ≡ length pushed) × ArePassedIn size pushed × IsCalleeIn size c.callee × ArePassedIn size (operands c.registers) × IsToIn size c.to
BlockIn L given size (GiveBack w a) = (w ≡ given) × IsIn size a
BlockIn L given size (Both a b) = BlockIn L given size a × BlockIn L given size b
BlockIn L given size (Choice t a b) = IsTruthIn size t × BlockIn L given size a × BlockIn L given size b
BlockIn L given size (Repeat p t a b) = IsTruthIn size t × BlockIn L given size p × BlockIn L given size a × BlockIn L given size b × L
BlockIn L given size _ = Unit {0}

abbrev pub ShapeIn : (size : ℕ) → Shape → Type 0
ShapeIn size s = AreIn size s.homes × MayBeIn size s.truth

-- What was made is in range, and so is the shape behind it.
abbrev pub MadeIn : (L : Type 0) → (given size : ℕ) → Made → Type 0
MadeIn L given size (Gives b s) = BlockIn L given size b × ShapeIn size s
MadeIn L given size (Refused why) = Unit {0}

-- ---- what was made is in range

module _ (L : Type 0) (lay : Layout) (r : Room) where
  abbrev pub size : ℕ
  size = r.locals + r.temps

  temp_in : (hs : List Operand) (to : ℕ) → temp r hs ≡ Some to → to < size
  temp_in hs to e =
      let is = (temp_is r hs to e).0 in
      let lt = (temp_is r hs to e).1 in
      omega (arith, is, lt)

  pub in_behind : (a : Block) (made : Made) → BlockIn L r.result size a → MadeIn L r.result size made → MadeIn L r.result size (behind a made)
  in_behind a (Gives b s) ha hm = ((ha, hm.0), hm.1)
  in_behind a (Refused why) ha hm = tt

  pub in_after : (made : Made) (more : Shape → Made) → MadeIn L r.result size made → ((s : Shape) → ShapeIn size s → MadeIn L r.result size (more s))
      → MadeIn L r.result size (after made more)
  in_after (Gives a s) more hm h = in_behind a (more s) hm.0 (h s hm.1)
  in_after (Refused why) more hm h = tt

  pub in_by_temp : (hs : List Operand) (go : ℕ → Made) → ((to : ℕ) → to < size → MadeIn L r.result size (go to)) → MadeIn L r.result size (by_temp (temp r hs) go)
  in_by_temp hs go h = by_room (temp r hs) refl
    where
      by_room : (o : Option ℕ) → temp r hs ≡ o → MadeIn L r.result size (by_temp o go)
      by_room (Some to) e = h to (temp_in hs to e)
      by_room None e = tt

  pub in_settled : (s : Shape) → ShapeIn size s → MadeIn L r.result size (settled r s)
  in_settled s h = by_truth s.truth h.1
    where
      by_truth : (o : Option Truth) → MayBeIn size o → MadeIn L r.result size (settled_as r o s.homes)
      by_truth None t = (tt, (h.0, tt))
      by_truth (Some x) t = in_by_temp s.homes _ (λ to lt. ((t, (lt, tt), (lt, tt)), ((lt, h.0), tt)))

  pub in_if : (b : Bool) (x y : Made) → MadeIn L r.result size x → MadeIn L r.result size y → MadeIn L r.result size (if b then x else y)
  in_if true x y hx hy = hx
  in_if false x y hx hy = hy

  in_computed : (op : LinOperator) (width : ℕ) (x y : Operand) (hs : List Operand) → 1 ≤ width → width ≤ 4 → IsIn size x → IsIn size y → AreIn size hs
      → MadeIn L r.result size (computed r op width x y hs)
  in_computed op width x y hs low high hx hy h = in_by_temp hs _ (λ to lt. ((low, high, lt, hx, hy), ((lt, h), tt)))

  in_test : (x y : Operand) → IsIn size x → IsIn size y → (c : _) → IsTestIn size (test_of c x y)
  in_test x y hx hy c = (omega arith, omega arith, hx, hy)

  in_comparing : (op : Operator) (x y : Operand) → IsIn size x → IsIn size y → MayBeIn size (comparing op x y)
  in_comparing (Less o) x y hx hy = in_test x y hx hy (by_order o)
  in_comparing (AtMost o) x y hx hy = in_test y x hy hx (by_order o)
  in_comparing (Greater o) x y hx hy = in_test y x hy hx (by_order o)
  in_comparing (AtLeast o) x y hx hy = in_test x y hx hy (by_order o)
  in_comparing Equal x y hx hy = in_test x y hx hy Same
  in_comparing Unequal x y hx hy = in_test x y hx hy Same
  in_comparing Plus x y hx hy = tt
  in_comparing Minus x y hx hy = tt
  in_comparing Times x y hx hy = tt
  in_comparing Divide x y hx hy = tt
  in_comparing Remainder x y hx hy = tt
  in_comparing And x y hx hy = tt
  in_comparing Or x y hx hy = tt
  in_comparing Xor x y hx hy = tt
  in_comparing (ShiftLeft k) x y hx hy = tt
  in_comparing (ShiftRight k) x y hx hy = tt
  in_comparing (Concat k) x y hx hy = tt

  -- ---- divisions and shifts

  in_stop : (code : ℕ) (t : Truth) → IsTruthIn size t → BlockIn L r.result size (stop_where code t)
  in_stop code t h = (h, tt, tt)

  in_divisor : (y : Operand) → IsIn size y → BlockIn L r.result size (divisor_checked y)
  in_divisor y hy = by_zero (may_be_zero y)
    where
      by_zero : (b : Bool) → BlockIn L r.result size (if b then stop_where 3 (Holds (is_zero y)) else Skip)
      by_zero true = in_stop 3 (Holds (is_zero y)) (in_test y (Known 0) hy tt Same)
      by_zero false = tt

  in_null : (a : Operand) → IsIn size a → BlockIn L r.result size (null_check r a)
  in_null a ha = by_null (may_be_null r a)
    where
      by_null : (b : Bool) → BlockIn L r.result size (if b then stop_where 1 (Holds (is_zero a)) else Skip)
      by_null true = in_stop 1 (Holds (is_zero a)) (in_test a (Known 0) ha tt Same)
      by_null false = tt

  in_divided : (op : LinOperator) (x y : Operand) (hs : List Operand) → IsIn size x → IsIn size y → AreIn size hs → MadeIn L r.result size (divided r op x y hs)
  in_divided op x y hs hx hy h = in_by_temp hs _ (λ to lt. ((in_divisor y hy, (omega arith, omega arith, lt, hx, hy)), ((lt, h), tt)))

  in_masked : (bits : ℕ) (x y : Operand) (hs : List Operand) → IsIn size x → IsIn size y → AreIn size hs → (o : Option ℕ) → bytes_around bits ≡ o
      → MadeIn L r.result size (masked r bits o x y hs)
  in_masked bits x y hs hx hy h None e = (tt, ((tt, h), tt))
  in_masked bits x y hs hx hy h (Some width) e =
      in_by_temp hs _ (λ to lt. (((above bits width e, below bits width e, lt, hx, hy), (above bits width e, below bits width e, lt, lt, tt)), ((lt, h), tt)))
    where
      above : (n v : ℕ) → bytes_around n ≡ Some v → 1 ≤ v
      above n v e1 = grind arith

      below : (n v : ℕ) → bytes_around n ≡ Some v → v ≤ 4
      below n v e1 = grind arith

  in_shifted_left : (bits : ℕ) (x y : Operand) (hs : List Operand) → IsIn size x → IsIn size y → AreIn size hs → (o : Option ℕ) → bytes_of bits ≡ o
      → MadeIn L r.result size (shifted_left r bits o x y hs)
  in_shifted_left bits x y hs hx hy h None e = in_masked bits x y hs hx hy h (bytes_around bits) refl
  in_shifted_left bits x y hs hx hy h (Some width) e = in_computed ShiftsLeft width x y hs (above bits width e) (below bits width e) hx hy h
    where
      above : (n v : ℕ) → bytes_of n ≡ Some v → 1 ≤ v
      above n v e1 = grind arith

      below : (n v : ℕ) → bytes_of n ≡ Some v → v ≤ 4
      below n v e1 = grind arith

  for_low : (bits : ℕ) → 1 ≤ bytes_for bits
  for_low bits = grind arith

  for_high : (bits : ℕ) → bytes_for bits ≤ 4
  for_high bits = grind arith

  in_shifted_right : (bits : ℕ) (x y : Operand) (hs : List Operand) → IsIn size x → IsIn size y → AreIn size hs → MadeIn L r.result size (shifted_right r bits x y hs)
  in_shifted_right bits x (Known n) hs hx hy h =
      in_if (nat_lt n bits) _ _ (in_computed ShiftsRight (bytes_for bits) x (Known n) hs (for_low bits) (for_high bits) hx hy h) (tt, ((tt, h), tt))
  in_shifted_right bits x (Local i) hs hx hy h = in_computed ShiftsRight (bytes_for bits) x (Local i) hs (for_low bits) (for_high bits) hx hy h

  in_concatenated : (bits : ℕ) (x y : Operand) (hs : List Operand) → IsIn size x → IsIn size y → AreIn size hs → MadeIn L r.result size (concatenated r bits x y hs)
  in_concatenated bits x y hs hx hy h =
      in_by_temp hs _ (λ to lt. (((omega arith, omega arith, lt, hx, tt), (omega arith, omega arith, lt, lt, hy)), ((lt, h), tt)))

  in_combined : (op : Operator) (x y : Operand) (hs : List Operand) → IsIn size x → IsIn size y → AreIn size hs → MadeIn L r.result size (combined r op x y hs)
  in_combined Divide x y hs hx hy h = in_divided Quotient x y hs hx hy h
  in_combined Remainder x y hs hx hy h = in_divided Rest x y hs hx hy h
  in_combined (ShiftLeft bits) x y hs hx hy h = in_shifted_left bits x y hs hx hy h (bytes_of bits) refl
  in_combined (ShiftRight bits) x y hs hx hy h = in_shifted_right bits x y hs hx hy h
  in_combined Plus x y hs hx hy h = (tt, ((tt, h), tt))
  in_combined Minus x y hs hx hy h = (tt, ((tt, h), tt))
  in_combined Times x y hs hx hy h = (tt, ((tt, h), tt))
  in_combined (Less o) x y hs hx hy h = (tt, ((tt, h), tt))
  in_combined (AtMost o) x y hs hx hy h = (tt, ((tt, h), tt))
  in_combined (Greater o) x y hs hx hy h = (tt, ((tt, h), tt))
  in_combined (AtLeast o) x y hs hx hy h = (tt, ((tt, h), tt))
  in_combined Equal x y hs hx hy h = (tt, ((tt, h), tt))
  in_combined Unequal x y hs hx hy h = (tt, ((tt, h), tt))
  in_combined And x y hs hx hy h = (tt, ((tt, h), tt))
  in_combined Or x y hs hx hy h = (tt, ((tt, h), tt))
  in_combined Xor x y hs hx hy h = (tt, ((tt, h), tt))
  in_combined (Concat k) x y hs hx hy h = in_concatenated k x y hs hx hy h

  in_operated : (op : Operator) (hs : List Operand) → AreIn size hs → MadeIn L r.result size (operated r op hs)
  in_operated op [] h = tt
  in_operated op (y ∷ []) h = tt
  in_operated op (y ∷ x ∷ hs) h = by_kind (computing op) (comparing op x y) (in_comparing op x y h.1.0 h.0)
    where
      by_kind : (o : Option LinOperator) (t : Option Truth) → MayBeIn size t → MadeIn L r.result size (operated_as r op o t x y hs)
      by_kind (Some lop) t ht = in_computed lop 4 x y hs (omega arith) (omega arith) h.1.0 h.0 h.1.1
      by_kind None (Some t) ht = (tt, (h.1.1, ht))
      by_kind None None ht = in_combined op x y hs h.1.0 h.0 h.1.1

  in_cut_bits : (bits : ℕ) (h : Operand) (hs : List Operand) → IsIn size h → AreIn size hs → (o : Option ℕ) → bytes_around bits ≡ o
      → MadeIn L r.result size (cut_bits r bits o h hs)
  in_cut_bits bits h hs hh hhs None e = (tt, ((hh, hhs), tt))
  in_cut_bits bits h hs hh hhs (Some width) e = in_computed Both' width h (Known (2 ^ bits - 1)) hs (above bits width e) (below bits width e) hh tt hhs
    where
      above : (n v : ℕ) → bytes_around n ≡ Some v → 1 ≤ v
      above n v e1 = grind arith

      below : (n v : ℕ) → bytes_around n ≡ Some v → v ≤ 4
      below n v e1 = grind arith

  in_cut : (bits : ℕ) (h : Operand) (hs : List Operand) → IsIn size h → AreIn size hs → (o : Option ℕ) → bytes_of bits ≡ o → MadeIn L r.result size (cut r bits o h hs)
  in_cut bits h hs hh hhs None e = in_cut_bits bits h hs hh hhs (bytes_around bits) refl
  in_cut bits h hs hh hhs (Some width) e = in_computed Sum width h (Known 0) hs (above bits width e) (below bits width e) hh tt hhs
    where
      above : (n v : ℕ) → bytes_of n ≡ Some v → 1 ≤ v
      above n v e1 = grind arith

      below : (n v : ℕ) → bytes_of n ≡ Some v → v ≤ 4
      below n v e1 = grind arith

  in_applied : (op : Prefix) (hs : List Operand) → AreIn size hs → MadeIn L r.result size (applied r op hs)
  in_applied Not [] h = tt
  in_applied Negative [] h = tt
  in_applied (Cut bits) [] h = tt
  in_applied (Complement bits) [] h = tt
  in_applied Not (a ∷ hs) h = (tt, (h.1, in_test a (Known 0) h.0 tt Same))
  in_applied Negative (a ∷ hs) h = in_computed Difference 4 (Known 0) a hs (omega arith) (omega arith) tt h.0 h.1
  in_applied (Cut bits) (a ∷ hs) h = in_cut bits a hs h.0 h.1 (bytes_of bits) refl
  in_applied (Complement bits) (a ∷ hs) h =
      in_if (nat_le bits 32) _ _
      (in_computed Difference (bytes_for bits) (Known (2 ^ bits - 1)) a hs (for_low bits) (for_high bits) tt h.0 h.1) (tt, ((tt, h.1), tt))

  in_at_local : (j : ℕ) (hs : List Operand) → AreIn size hs → MadeIn L r.result size (at_local r j hs)
  in_at_local j hs h = by_size (nat_lt j r.locals) refl
    where
      by_size : (b : Bool) → nat_lt j r.locals ≡ b → MadeIn L r.result size (if b then Gives Skip (only (Local j ∷ hs)) else Refused NotTaken)
      by_size true e = let lt : j < r.locals = grind arith in (tt, ((omega (arith, lt), h), tt))
      by_size false e = tt

  in_receiver : (hs : List Operand) → AreIn size hs → MadeIn L r.result size (get_receiver r hs)
  in_receiver hs h = in_if (r.receiver == 0) _ _ (tt, ((tt, h), tt)) (in_at_local 0 hs h)

  in_put : (j : ℕ) (a : Operand) (hs : List Operand) → IsIn size a → AreIn size hs → MadeIn L r.result size (put_in_local r j a hs)
  in_put j a hs ha h = by_size (nat_lt j r.locals) (is_free j (reverse hs)) refl
    where
      by_size : (b c : Bool) → nat_lt j r.locals ≡ b → MadeIn L r.result size (if b && c then Gives (One (Copy j a)) (only hs) else Refused NotTaken)
      by_size true true e = let lt : j < r.locals = grind arith in ((omega (arith, lt), ha), (h, tt))
      by_size true false e = tt
      by_size false c e = tt

  in_set : (i : ℕ) (hs : List Operand) → AreIn size hs → MadeIn L r.result size (set_local r i hs)
  in_set i [] h = tt
  in_set i (a ∷ hs) h = in_put (r.receiver + i) a hs h.0 h.1

  in_number : (v : ℕ) (hs : List Operand) → AreIn size hs → MadeIn L r.result size (put_number v hs)
  in_number v hs h = in_if (nat_lt v (2 ^ 32)) (Gives Skip (only (Known v ∷ hs))) (Refused NotTaken) (tt, ((tt, h), tt)) tt

  -- ---- calls

  take_in : (n : ℕ) (hs : List Operand) → AreIn size hs → AreIn size (take n hs)
  take_in zero hs h = tt
  take_in (suc n) [] h = tt
  take_in (suc n) (a ∷ hs) h = (h.0, take_in n hs h.1)

  drop_in : (n : ℕ) (hs : List Operand) → AreIn size hs → AreIn size (drop n hs)
  drop_in zero hs h = h
  drop_in (suc n) [] h = tt
  drop_in (suc n) (a ∷ hs) h = drop_in n hs h.1

  both_in : (xs ys : List Operand) → AreIn size xs → AreIn size ys → AreIn size (xs ++ ys)
  both_in [] ys h g = g
  both_in (x ∷ xs) ys h g = (h.0, both_in xs ys h.1 g)

  reverse_in : (xs : List Operand) → AreIn size xs → AreIn size (reverse xs)
  reverse_in [] h = tt
  reverse_in (x ∷ xs) h = subst (AreIn size) (sym (reverse-append (x ∷ []) xs)) (both_in (reverse xs) (x ∷ []) (reverse_in xs h.1) (h.0, tt))

  passed_take : (n : ℕ) (xs : List Passed) → ArePassedIn size xs → ArePassedIn size (take n xs)
  passed_take zero xs h = tt
  passed_take (suc n) [] h = tt
  passed_take (suc n) (a ∷ xs) h = (h.0, passed_take n xs h.1)

  passed_drop : (n : ℕ) (xs : List Passed) → ArePassedIn size xs → ArePassedIn size (drop n xs)
  passed_drop zero xs h = h
  passed_drop (suc n) [] h = tt
  passed_drop (suc n) (a ∷ xs) h = passed_drop n xs h.1

  registers_in : (xs : List Passed) → ArePassedIn size xs → ArePassedIn size (operands (registers_of xs))
  registers_in [] h = tt
  registers_in (a ∷ []) h = h
  registers_in (a ∷ b ∷ []) h = h
  registers_in (a ∷ b ∷ c ∷ []) h = h
  registers_in (a ∷ b ∷ c ∷ d ∷ []) h = h
  registers_in (a ∷ b ∷ c ∷ d ∷ e ∷ xs) h = tt

  in_bytes : (w : Width) → (1 ≤ bytes_of_width w) × (bytes_of_width w ≤ 4)
  in_bytes OneByte = (omega arith, omega arith)
  in_bytes TwoBytes = (omega arith, omega arith)
  in_bytes ThreeBytes = (omega arith, omega arith)
  in_bytes FourBytes = (omega arith, omega arith)

  in_all_widths : (ws : List Width) (xs : List Operand) → AreIn size xs → ArePassedIn size (in_widths ws xs)
  in_all_widths [] [] h = tt
  in_all_widths (w ∷ ws) [] h = tt
  in_all_widths [] (a ∷ xs) h = ((omega arith, omega arith, h.0), in_all_widths [] xs h.1)
  in_all_widths (w ∷ ws) (a ∷ xs) h = (((in_bytes w).0, (in_bytes w).1, h.0), in_all_widths ws xs h.1)

  in_passing : (callee : Callee) (to : Option Target) (xs : List Passed) → IsCalleeIn size callee → IsToIn size to → ArePassedIn size xs
      → BlockIn L r.result size (passing callee to xs)
  in_passing callee to xs hc lt h = (
    sym (length-take-le (length xs - 4) xs (omega arith)),
    passed_take (length xs - 4) xs h,
    hc,
    registers_in (drop (length xs - 4) xs) (passed_drop (length xs - 4) xs h),
    lt,
  )

  in_passing_found : (callee : Callee) (to : ℕ) (xs : List Operand) → IsCalleeIn size callee → to < size → AreIn size xs
      → BlockIn L r.result size (passing_found callee to xs)
  in_passing_found callee to xs hc lt h =
      in_passing callee (Some (record { width = 4; local = to })) (in_widths (TwoBytes ∷ []) xs) hc (omega arith, lt) (in_all_widths (TwoBytes ∷ []) xs h)

  in_taken : (count : ℕ) (hs : List Operand) (go : List Operand → List Operand → Made) → AreIn size hs
      → ((xs rest : List Operand) → AreIn size xs → AreIn size rest → MadeIn L r.result size (go xs rest)) → MadeIn L r.result size (with_taken (taken count hs) go)
  in_taken count hs go h hg = by_count (nat_le count (length hs))
    where
      by_count : (b : Bool) → MadeIn L r.result size (with_taken (if b then Some (record { args = reverse (take count hs); rest = drop count hs }) else None) go)
      by_count true = hg (reverse (take count hs)) (drop count hs) (reverse_in (take count hs) (take_in count hs h)) (drop_in count hs h)
      by_count false = tt

  in_with_receiver : (b : Bool) (xs : List Operand) → AreIn size xs → AreIn size (with_receiver b xs)
  in_with_receiver true xs h = (tt, h)
  in_with_receiver false xs h = h

  in_resulting : (callee : Callee) (o : Option Width) (xs : List Passed) (rest : List Operand) → IsCalleeIn size callee → ArePassedIn size xs
      → AreIn size rest → MadeIn L r.result size (resulting r callee o xs rest)
  in_resulting callee (Some w) xs rest hc hx hr =
      in_by_temp rest _ (λ to lt. (in_passing callee (Some (record { width = bytes_of_width w; local = to })) xs hc ((in_bytes w).1, lt) hx, ((lt, hr), tt)))
  in_resulting callee None xs rest hc hx hr = (in_passing callee None xs hc tt hx, ((tt, hr), tt))

  in_called : (q count : ℕ) (hs : List Operand) → AreIn size hs → MadeIn L r.result size (called lay r q count hs)
  in_called q count hs h =
      in_taken count hs _ h (λ xs rest hx hr. in_resulting (ByNumber q) p.result (in_widths p.widths (with_receiver p.receives xs)) rest tt
      (in_all_widths p.widths (with_receiver p.receives xs) (in_with_receiver p.receives xs hx)) hr)
    where
      p : Passing
      p = passing_of (slice_get lay.passing q)

  in_called_on : (d code : ℕ) → code < size → (xs rest : List Operand) → AreIn size xs → AreIn size rest → MadeIn L r.result size (called_on r d code xs rest)
  in_called_on d code lc [] rest hx hr = tt
  in_called_on d code lc (a ∷ xs) rest hx hr =
      in_by_temp rest _ (λ to lt. (
        (in_null a hx.0, ((lc, hx.0), in_passing_found (ByCode (Local code)) to (a ∷ xs) lc lt hx)),
        ((lt, hr), tt),
      ))

  in_called_for : (d count : ℕ) (hs : List Operand) → AreIn size hs → MadeIn L r.result size (called_for r d count hs)
  in_called_for d count hs h = in_by_temp hs _ (λ code lc. in_taken (count + 1) hs _ h (in_called_on d code lc))

  in_called_by : (receiver : ℕ) → receiver < size → (xs rest : List Operand) → AreIn size xs → AreIn size rest → MadeIn L r.result size (called_by r receiver xs rest)
  in_called_by receiver lr [] rest hx hr = tt
  in_called_by receiver lr (a ∷ xs) rest hx hr =
      in_by_temp rest _ (λ to lt. (
        (
          in_stop 1 (Holds (is_zero a)) (in_test a (Known 0) hx.0 tt Same),
          ((omega arith, omega arith, lr, hx.0, tt), in_passing_found (ByCode a) to (Local receiver ∷ xs) hx.0 lt (lr, hx.1)),
        ),
        ((lt, hr), tt),
      ))

  in_called_value : (count : ℕ) (hs : List Operand) → AreIn size hs → MadeIn L r.result size (called_value r count hs)
  in_called_value count hs h = in_by_temp hs _ (λ receiver lr. in_taken (count + 1) hs _ h (in_called_by receiver lr))

  in_bound_for : (d : ℕ) (hs : List Operand) → AreIn size hs → MadeIn L r.result size (bound_for r d hs)
  in_bound_for d [] h = tt
  in_bound_for d (a ∷ hs) h =
      in_by_temp hs _ (λ to lt. in_by_temp (a ∷ hs) _ (λ above la. (
        (
          in_null a h.0,
          ((omega arith, omega arith, la, h.0, tt), ((lt, h.0), (omega arith, omega arith, lt, lt, la))),
        ),
        ((lt, h.1), tt),
      )))

  in_forgotten : (hs : List Operand) → AreIn size hs → MadeIn L r.result size (forgotten hs)
  in_forgotten [] h = tt
  in_forgotten (a ∷ hs) h = (tt, (h.1, tt))

  in_written : (address : ℕ) (hs : List Operand) → AreIn size hs → MadeIn L r.result size (written address hs)
  in_written address [] h = tt
  in_written address (a ∷ hs) h = (h.0, (h.1, tt))

  in_load_nothing : (hs : List Operand) → AreIn size hs → MadeIn L r.result size (load_nothing hs)
  in_load_nothing [] h = tt
  in_load_nothing (a ∷ hs) h = (in_stop 1 (Holds (is_zero a)) (in_test a (Known 0) h.0 tt Same), ((tt, h.1), tt))

  in_store_nothing : (hs : List Operand) → AreIn size hs → MadeIn L r.result size (store_nothing hs)
  in_store_nothing [] h = tt
  in_store_nothing (v ∷ []) h = tt
  in_store_nothing (v ∷ a ∷ hs) h = (in_stop 1 (Holds (is_zero a)) (in_test a (Known 0) h.1.0 tt Same), (h.1.1, tt))

  in_load_no_field : (hs : List Operand) → AreIn size hs → MadeIn L r.result size (load_no_field r hs)
  in_load_no_field [] h = tt
  in_load_no_field (a ∷ hs) h = (in_null a h.0, ((tt, h.1), tt))

  in_store_no_field : (hs : List Operand) → AreIn size hs → MadeIn L r.result size (store_no_field r hs)
  in_store_no_field [] h = tt
  in_store_no_field (v ∷ []) h = tt
  in_store_no_field (v ∷ a ∷ hs) h = (in_null a h.1.0, (h.1.1, tt))

  in_one_of : (first count : ℕ) (hs : List Operand) → AreIn size hs → MadeIn L r.result size (is_one_of r first count hs)
  in_one_of first count [] h = tt
  in_one_of first count (a ∷ hs) h =
      in_if (nat_lt (first + count) (2 ^ 32)) _ _
      (in_by_temp hs _ (λ to lt. ((omega arith, omega arith, lt, h.0, tt), (h.1, in_test (Local to) (Known count) lt tt Below)))) tt

  in_cast : (first count : ℕ) (hs : List Operand) → AreIn size hs → MadeIn L r.result size (cast_to r first count hs)
  in_cast first count [] h = tt
  in_cast first count (a ∷ hs) h =
      in_if (nat_lt (first + count) (2 ^ 32)) _ _
      (in_by_temp (a ∷ hs) _ (λ to lt. (
        (
          in_test a (Known 0) h.0 tt Same,
          ((omega arith, omega arith, lt, h.0, tt), in_stop 4 (Fails (is_near to count)) (in_test (Local to) (Known count) lt tt Below)),
          tt,
        ),
        (h, tt),
      ))) tt

  -- ---- columns and tables

  in_multiplied : (to by : ℕ) (h : Operand) → to < size → IsIn size h → BlockIn L r.result size (multiplied to by h)
  in_multiplied to by h lt hh = by_one (by == 1)
    where
      by_one : (b : Bool) → BlockIn L r.result size (if b then Skip else One (Compute (record { operator = Product; width = 2; to = to; left = h; right = Known by })))
      by_one true = tt
      by_one false = (omega arith, omega arith, lt, hh, tt)

  in_multiple : (to by : ℕ) (h : Operand) → to < size → IsIn size h → IsIn size (multiple to by h)
  in_multiple to by h lt hh = by_one (by == 1)
    where
      by_one : (b : Bool) → IsIn size (if b then h else Local to)
      by_one true = hh
      by_one false = lt

  in_fetched : (memory : Memory) (width by base : ℕ) (h : Operand) (hs : List Operand) → 1 ≤ width → width ≤ 4 → IsIn size h → AreIn size hs
      → MadeIn L r.result size (fetched r memory width by base h hs)
  in_fetched memory width by base h hs low high hh hhs =
      in_by_temp hs _ (λ to lt. (
        (
          in_null h hh,
          (in_multiplied to by h lt hh, (low, high, lt, in_multiple to by h lt hh)),
        ),
        ((lt, hhs), tt),
      ))

  width_low : (w : ℕ) → is_width w ≡ true → 1 ≤ w
  width_low w e = grind arith

  width_high : (w : ℕ) → is_width w ≡ true → w ≤ 4
  width_high w e = grind arith

  in_load_one : (memory : Memory) (o : Option Place) (hs : List Operand) → AreIn size hs → MadeIn L r.result size (load_one r memory o hs)
  in_load_one memory None hs h = tt
  in_load_one memory (Some place) hs h = by_width (is_width place.width) refl
    where
      by_width : (b : Bool) → is_width place.width ≡ b
          → MadeIn L r.result size (if b then by_temp (temp r hs) (λ to. Gives (One (load_from memory place.width to place.address (Known 0))) (only (Local to ∷ hs)))
          else Refused NotTaken)
      by_width true e = in_by_temp hs _ (λ to lt. ((width_low place.width e, width_high place.width e, lt, tt), ((lt, h), tt)))
      by_width false e = tt

  in_distance : (to first : ℕ) (h : Operand) → to < size → IsIn size h → IsPlainIn size (distance to first h)
  in_distance to first h lt hh = (omega arith, omega arith, lt, hh, tt)

  in_fetched_from : (memory : Memory) (width first base : ℕ) (h : Operand) (hs : List Operand) → 1 ≤ width → width ≤ 4 → IsIn size h → AreIn size hs
      → MadeIn L r.result size (fetched_from r memory width first base h hs)
  in_fetched_from memory width first base h hs low high hh hhs =
      in_by_temp hs _ (λ to lt. (
        (
          in_null h hh,
          (in_distance to first h lt hh, (in_multiplied to width (Local to) lt lt, (low, high, lt, in_multiple to width (Local to) lt lt))),
        ),
        ((lt, hhs), tt),
      ))

  in_load_placed : (memory : Memory) (width first address : ℕ) (h : Operand) (hs : List Operand) → 1 ≤ width → width ≤ 4 → IsIn size h → AreIn size hs
      → MadeIn L r.result size (load_placed r memory width first address h hs)
  in_load_placed memory width first address h hs low high hh hhs =
      in_if (nat_le (width * first) address) _ _ (in_fetched memory width width (address - width * first) h hs low high hh hhs)
      (in_fetched_from memory width first address h hs low high hh hhs)

  in_load_sole : (memory : Memory) (width address : ℕ) (h : Operand) (hs : List Operand) → 1 ≤ width → width ≤ 4 → IsIn size h → AreIn size hs
      → MadeIn L r.result size (load_sole r memory width address h hs)
  in_load_sole memory width address h hs low high hh hhs =
      in_by_temp hs _ (λ to lt. ((in_null h hh, (low, high, lt, tt)), ((lt, hhs), tt)))

  in_load_entry : (memory : Memory) (first : ℕ) (place : Place) (h : Operand) (hs : List Operand) → 1 ≤ place.width → place.width ≤ 4 → IsIn size h
      → AreIn size hs → MadeIn L r.result size (load_entry r memory first place h hs)
  in_load_entry memory first place h hs low high hh hhs =
      in_if (place.count == 1) _ _ (in_load_sole memory place.width place.address h hs low high hh hhs)
      (in_load_placed memory place.width first place.address h hs low high hh hhs)

  in_load_of : (memory : Memory) (first : ℕ) (o : Option Place) (hs : List Operand) → AreIn size hs → MadeIn L r.result size (load_of r memory first o hs)
  in_load_of memory first None hs h = tt
  in_load_of memory first (Some place) [] h = tt
  in_load_of memory first (Some place) (a ∷ hs) h = by_width (is_width place.width) refl
    where
      by_width : (b : Bool) → is_width place.width ≡ b
          → MadeIn L r.result size (if b then load_entry r memory first place a hs else Refused NotTaken)
      by_width true e = in_load_entry memory first place a hs (width_low place.width e) (width_high place.width e) h.0 h.1
      by_width false e = tt

  in_length_of : (o : Option ℕ) (hs : List Operand) → AreIn size hs → MadeIn L r.result size (length_of r o hs)
  in_length_of None hs h = in_load_nothing hs h
  in_length_of (Some table) [] h = tt
  in_length_of (Some table) (a ∷ hs) h =
      in_if (nat_le 2 table) (fetched r Flash 2 4 (table - 2) a hs) (Refused NotTaken) (in_fetched Flash 2 4 (table - 2) a hs (omega arith)
      (omega arith) h.0 h.1) tt

  in_known_length : (length : ℕ) (hs : List Operand) → AreIn size hs → MadeIn L r.result size (known_length length hs)
  in_known_length length [] h = tt
  in_known_length length (a ∷ hs) h = (in_stop 1 (Holds (is_zero a)) (in_test a (Known 0) h.0 tt Same), ((tt, h.1), tt))

  in_array_length : (single : Option ArrayPlace) (o : Option ℕ) (hs : List Operand) → AreIn size hs → MadeIn L r.result size (array_length r single o hs)
  in_array_length (Some a) o hs h = in_known_length a.length hs h
  in_array_length None o hs h = in_length_of o hs h

  in_store_one : (width : ℕ) (o : Option Place) (hs : List Operand) → AreIn size hs → MadeIn L r.result size (store_one width o hs)
  in_store_one width None hs h = tt
  in_store_one width (Some place) [] h = tt
  in_store_one width (Some place) (v ∷ hs) h = by_width (is_width width) (width == place.width) refl
    where
      by_width : (b c : Bool) → is_width width ≡ b
          → MadeIn L r.result size (if b && c then Gives (One (store_at width place.address (Known 0) v)) (only hs) else Refused NotTaken)
      by_width true true e = ((width_low width e, width_high width e, tt, h.0), (h.1, tt))
      by_width true false e = tt
      by_width false c e = tt

  in_put_of : (width base : ℕ) (v a : Operand) (hs : List Operand) → 1 ≤ width → width ≤ 4 → IsIn size v → IsIn size a → AreIn size hs
      → MadeIn L r.result size (put_of r width base v a hs)
  in_put_of width base v a hs low high hv ha h =
      in_by_temp (v ∷ a ∷ hs) _ (λ to lt. (
        (
          in_null a ha,
          (in_multiplied to width a lt ha, (low, high, in_multiple to width a lt ha, hv)),
        ),
        (h, tt),
      ))

  in_put_from : (width first base : ℕ) (v a : Operand) (hs : List Operand) → 1 ≤ width → width ≤ 4 → IsIn size v → IsIn size a → AreIn size hs
      → MadeIn L r.result size (put_from r width first base v a hs)
  in_put_from width first base v a hs low high hv ha h =
      in_by_temp (v ∷ a ∷ hs) _ (λ to lt. (
        (
          in_null a ha,
          (in_distance to first a lt ha, (in_multiplied to width (Local to) lt lt, (low, high, in_multiple to width (Local to) lt lt, hv))),
        ),
        (h, tt),
      ))

  in_store_placed : (width first address : ℕ) (v a : Operand) (hs : List Operand) → 1 ≤ width → width ≤ 4 → IsIn size v → IsIn size a → AreIn size hs
      → MadeIn L r.result size (store_placed r width first address v a hs)
  in_store_placed width first address v a hs low high hv ha h =
      in_if (nat_le (width * first) address) _ _ (in_put_of width (address - width * first) v a hs low high hv ha h)
      (in_put_from width first address v a hs low high hv ha h)

  in_store_entry : (first width : ℕ) (place : Place) (v a : Operand) (hs : List Operand) → 1 ≤ width → width ≤ 4 → IsIn size v → IsIn size a → AreIn size hs
      → MadeIn L r.result size (store_entry r first width place v a hs)
  in_store_entry first width place v a hs low high hv ha h =
      in_if (place.count == 1) _ _ ((in_null a ha, (low, high, tt, hv)), (h, tt))
      (in_store_placed width first place.address v a hs low high hv ha h)

  in_store_of : (first width : ℕ) (o : Option Place) (hs : List Operand) → AreIn size hs → MadeIn L r.result size (store_of r first width o hs)
  in_store_of first width None hs h = tt
  in_store_of first width (Some place) [] h = tt
  in_store_of first width (Some place) (v ∷ []) h = tt
  in_store_of first width (Some place) (v ∷ a ∷ hs) h = by_width (is_width width) (width == place.width) refl
    where
      by_width : (b c : Bool) → is_width width ≡ b
          → MadeIn L r.result size (if b && c then store_entry r first width place v a hs else Refused NotTaken)
      by_width true true e = in_store_entry first width place v a hs (width_low width e) (width_high width e) h.0 h.1.0 h.1.1
      by_width true false e = tt
      by_width false c e = tt

  -- ---- elements

  in_timed : (to by : ℕ) (h : Operand) → to < size → IsIn size h → IsPlainIn size (timed to by h)
  in_timed to by h lt hh = (omega arith, omega arith, lt, hh, tt)

  in_inside : (x : Reach) (last : Option PlainInstr) → x.first < size → x.second < size → IsIn size x.home → IsIn size x.index
      → BlockIn L r.result size (inside x last) → BlockIn L r.result size (element_of x last)
  in_inside x last l1 l2 hh hi hl = (
    in_stop 1 (Holds (is_zero x.home)) (in_test x.home (Known 0) hh tt Same),
    (
      in_timed x.first 4 x.home l1 hh,
      (
        (omega arith, omega arith, l2, l1),
        (
          in_stop 2 (Fails (test_of Below x.index (Local x.second))) (in_test x.index (Local x.second) hi l2 Below),
          hl,
        ),
      ),
    ),
  )

  in_element : (x : Reach) (last : PlainInstr) → x.first < size → x.second < size → IsIn size x.home → IsIn size x.index → IsPlainIn size last
      → BlockIn L r.result size (element_of x (Some last))
  in_element x last l1 l2 hh hi hl =
      in_inside x (Some last) l1 l2 hh hi
      ((omega arith, omega arith, l1, l1), (in_timed x.second x.width x.index l2 hi, ((omega arith, omega arith, l1, l1, l2), hl)))

  in_no_element : (width table : ℕ) (a i : Operand) (hs left : List Operand) → IsIn size a → IsIn size i → AreIn size left
      → MadeIn L r.result size (no_element r width table a i hs left)
  in_no_element width table a i hs left ha hi h =
      in_by_temp (i ∷ a ∷ hs) _ (λ first l1. in_by_temp (Local first ∷ i ∷ a ∷ hs) _ (λ second l2. (
        in_inside (record { first = first; second = second; table = table; width = width; home = a; index = i }) None l1 l2 ha hi tt,
        (h, tt),
      )))

  -- those of the only array of a table
  in_lone : (length width to : ℕ) (a i : Operand) (last : PlainInstr) → to < size → IsIn size a → IsIn size i → IsPlainIn size last
      → BlockIn L r.result size (lone_element length width to a i last)
  in_lone length width to a i last lt ha hi hl = (
    in_stop 1 (Holds (is_zero a)) (in_test a (Known 0) ha tt Same),
    (in_stop 2 (Fails (test_of Below i (Known length))) (in_test i (Known length) hi tt Below), (in_multiplied to width i lt hi, hl)),
  )

  in_load_inside : (single : Option ArrayPlace) (e : Elements) (table : ℕ) (a i : Operand) (hs : List Operand) → is_width e.width ≡ true → IsIn size a
      → IsIn size i → AreIn size hs → MadeIn L r.result size (load_inside r single e table a i hs)
  in_load_inside (Some x) e table a i hs is ha hi h =
      in_by_temp hs _ (λ to l0. (
        in_lone x.length e.width to a i (load_from (memory_of e.home) e.width to x.address (multiple to e.width i)) l0 ha hi
            (width_low e.width is, width_high e.width is, l0, in_multiple to e.width i l0 hi),
        ((l0, h), tt),
      ))
  in_load_inside None e table a i hs is ha hi h =
      in_by_temp hs _ (λ to l0. in_by_temp (i ∷ a ∷ hs) _ (λ first l1. in_by_temp (Local first ∷ i ∷ a ∷ hs) _ (λ second l2. (
        in_element (record { first = first; second = second; table = table; width = e.width; home = a; index = i })
            (load_from (memory_of e.home) e.width to 0 (Local first)) l1 l2 ha hi (width_low e.width is, width_high e.width is, l0, l1),
        ((l0, h), tt),
      ))))

  in_load_item : (single : Option ArrayPlace) (e : Elements) (o : Option Place) (u : Option ℕ) (hs : List Operand) → AreIn size hs
      → MadeIn L r.result size (load_item r single e o u hs)
  in_load_item single e o None [] h = tt
  in_load_item single e o None (i ∷ hs) h = in_load_nothing hs h.1
  in_load_item single e None (Some table) [] h = tt
  in_load_item single e None (Some table) (i ∷ []) h = tt
  in_load_item single e None (Some table) (i ∷ a ∷ hs) h =
      in_if (nat_le 4 table) _ _ (in_no_element e.width table a i hs (Known 0 ∷ hs) h.1.0 h.0 (tt, h.1.1)) tt
  in_load_item single e (Some place) (Some table) [] h = tt
  in_load_item single e (Some place) (Some table) (i ∷ []) h = tt
  in_load_item single e (Some place) (Some table) (i ∷ a ∷ hs) h = by_width (is_width e.width) (is_place e place) (nat_le 4 table) refl
    where
      by_width : (b c d : Bool) → is_width e.width ≡ b → MadeIn L r.result size (if b && c && d then load_inside r single e table a i hs else Refused NotTaken)
      by_width true true true is = in_load_inside single e table a i hs is h.1.0 h.0 h.1.1
      by_width true true false is = tt
      by_width true false d is = tt
      by_width false c d is = tt

  in_store_inside : (single : Option ArrayPlace) (width table : ℕ) (v a i : Operand) (hs : List Operand) → is_width width ≡ true → IsIn size v → IsIn size a
      → IsIn size i → AreIn size hs → MadeIn L r.result size (store_inside r single width table v a i hs)
  in_store_inside (Some x) width table v a i hs is hv ha hi h =
      in_by_temp (v ∷ i ∷ a ∷ hs) _ (λ to l0. (
        in_lone x.length width to a i (store_at width x.address (multiple to width i) v) l0 ha hi
            (width_low width is, width_high width is, in_multiple to width i l0 hi, hv),
        (h, tt),
      ))
  in_store_inside None width table v a i hs is hv ha hi h =
      in_by_temp (v ∷ i ∷ a ∷ hs) _ (λ first l1. in_by_temp (Local first ∷ v ∷ i ∷ a ∷ hs) _ (λ second l2. (
        in_element (record { first = first; second = second; table = table; width = width; home = a; index = i })
            (store_at width 0 (Local first) v) l1 l2 ha hi (width_low width is, width_high width is, l1, hv),
        (h, tt),
      )))

  in_store_item : (single : Option ArrayPlace) (e : Elements) (o : Option Place) (u : Option ℕ) (hs : List Operand) → AreIn size hs
      → MadeIn L r.result size (store_item r single e o u hs)
  in_store_item single e o None [] h = tt
  in_store_item single e o None (v ∷ []) h = tt
  in_store_item single e o None (v ∷ i ∷ hs) h = in_store_nothing (v ∷ hs) (h.0, h.1.1)
  in_store_item single e None (Some table) [] h = tt
  in_store_item single e None (Some table) (v ∷ []) h = tt
  in_store_item single e None (Some table) (v ∷ i ∷ []) h = tt
  in_store_item single e None (Some table) (v ∷ i ∷ a ∷ hs) h =
      in_if (nat_le 4 table) _ _ (in_no_element e.width table a i hs hs h.1.1.0 h.1.0 h.1.1.1) tt
  in_store_item single e (Some place) (Some table) [] h = tt
  in_store_item single e (Some place) (Some table) (v ∷ []) h = tt
  in_store_item single e (Some place) (Some table) (v ∷ i ∷ []) h = tt
  in_store_item single e (Some place) (Some table) (v ∷ i ∷ a ∷ hs) h = by_width (is_width e.width) (is_place e place) (nat_le 4 table) refl
    where
      by_width : (b c d : Bool) → is_width e.width ≡ b
          → MadeIn L r.result size (if b && c && d then store_inside r single e.width table v a i hs else Refused NotTaken)
      by_width true true true is = in_store_inside single e.width table v a i hs is h.0 h.1.1.0 h.1.0 h.1.1.1
      by_width true true false is = tt
      by_width true false d is = tt
      by_width false c d is = tt

  pub in_stepped : (q : Step) (hs : List Operand) → AreIn size hs → MadeIn L r.result size (stepped lay r q hs)
  in_stepped (Number v) hs h = in_number v hs h
  in_stepped (GetLocal i) hs h = in_at_local (r.receiver + i) hs h
  in_stepped (SetLocal i) hs h = in_set i hs h
  in_stepped Forget hs h = in_forgotten hs h
  in_stepped (Operate op) hs h = in_operated op hs h
  in_stepped (Apply op) hs h = in_applied op hs h
  in_stepped (ReadDevice address) hs h = in_by_temp hs _ (λ to lt. (lt, ((lt, h), tt)))
  in_stepped (WriteDevice address) hs h = in_written address hs h
  in_stepped (Call q count) hs h = in_called q count hs h
  in_stepped Idle hs h = (tt, (h, tt))
  in_stepped This hs h = in_receiver hs h
  in_stepped (Load a c) hs h = in_load_one (memory_of a) (slice_get (places_in lay a) c) hs h
  in_stepped (Store c w) hs h = in_store_one w (slice_get lay.ram c) hs h
  in_stepped (LoadAt a c o) hs h = in_load_of (memory_of a) o (slice_get (places_in lay a) c) hs h
  in_stepped (StoreAt c o w) hs h = in_store_of o w (slice_get lay.ram c) hs h
  in_stepped LoadNothing hs h = in_load_no_field hs h
  in_stepped StoreNothing hs h = in_store_no_field hs h
  in_stepped (LoadItem e) hs h = in_load_item (lone_of lay e.table) e (slice_get (places_in lay e.home) e.column) (slice_get lay.tables e.table) hs h
  in_stepped (StoreItem e) hs h = in_store_item (lone_of lay e.table) e (slice_get lay.ram e.column) (slice_get lay.tables e.table) hs h
  in_stepped (Length t) hs h = in_array_length (lone_of lay t) (slice_get lay.tables t) hs h
  in_stepped (IsWithin a b) hs h = in_one_of a b hs h
  in_stepped (StopUnlessWithin a b) hs h = in_cast a b hs h
  in_stepped (Bind q) hs h = in_by_temp hs _ (λ to lt. (lt, ((lt, h), tt)))
  in_stepped (BindFor d) hs h = in_bound_for d hs h
  in_stepped (CallFor d c) hs h = in_called_for d c hs h
  in_stepped (CallValue c) hs h = in_called_value c hs h

  -- ---- choices and loops

  in_landed_as : (hs : List Operand) → AreIn size hs → MadeIn L r.result size (landed_as r hs)
  in_landed_as [] h = (tt, (tt, tt))
  in_landed_as (a ∷ hs) h = in_by_temp hs _ (λ to lt. in_if (same_operand (Local to) a) (Gives Skip (only (a ∷ hs))) (Gives (One (Copy to a)) (only
      (Local to ∷ hs))) (tt, (h, tt)) ((lt, h.0), ((lt, h.1), tt)))

  in_landed : (made : Made) → MadeIn L r.result size made → MadeIn L r.result size (landed r made)
  in_landed made h = in_after made _ h (λ s hs. in_after (settled r s) _ (in_settled s hs) (λ s1 h1. in_landed_as s1.homes h1.0))

  pub in_joined : (t : Truth) (x y : Made) → IsTruthIn size t → MadeIn L r.result size x → MadeIn L r.result size y → MadeIn L r.result size (joined t x y)
  in_joined t (Refused why) y ht hx hy = tt
  in_joined t (Gives a s) (Refused why) ht hx hy = tt
  in_joined t (Gives a s) (Gives b s1) ht hx hy = in_if (same_homes (reverse s.homes) (reverse s1.homes)) (Gives (Choice t a b) s) (Refused NotTaken)
      ((ht, hx.0, hy.0), hx.1) tt

  -- the test that waits
  pub in_tested : (s : Shape) (t : Tested) → ShapeIn size s → tested s ≡ Some t → IsTruthIn size t.truth × AreIn size t.homes
  in_tested s t h e = by_shape s.truth s.homes h e
    where
      by_shape : (o : Option Truth) (hs : List Operand) → AreIn size hs × MayBeIn size o → tested_as o hs ≡ Some t
          → IsTruthIn size t.truth × AreIn size t.homes
      by_shape (Some x) hs h1 e1 = subst (λ z. IsTruthIn size z.truth × AreIn size z.homes) (some_is _ t e1) (h1.1, h1.0)
      by_shape None (a ∷ hs) h1 e1 = subst (λ z. IsTruthIn size z.truth × AreIn size z.homes) (some_is _ t e1) (in_test a (Known 0) h1.0.0 tt Same, h1.0.1)
      by_shape None [] h1 e1 = none_is_not t e1

  in_chosen : (s : Shape) (x y : Shape → Made) → ShapeIn size s → ((z : Shape) → ShapeIn size z → MadeIn L r.result size (x z)) → ((z : Shape) → ShapeIn size z
      → MadeIn L r.result size (y z))
      → MadeIn L r.result size (chosen r (tested s) x y)
  in_chosen s x y h hx hy = by_test (tested s) refl
    where
      by_test : (o : Option Tested) → tested s ≡ o → MadeIn L r.result size (chosen r o x y)
      by_test None e = tt
      by_test (Some t) e =
          let ht = in_tested s t h e in
          in_joined t.truth (landed r (x (only t.homes))) (landed r (y (only t.homes))) ht.0 (in_landed _ (hx (only t.homes) (ht.1, tt)))
          (in_landed _ (hy (only t.homes) (ht.1, tt)))

  in_next : L → (p : Block) (t : Truth) (b : Block) (z : Made) → BlockIn L r.result size p → IsTruthIn size t → BlockIn L r.result size b → MadeIn L r.result size z
      → MadeIn L r.result size (repeated_next p t b z)
  in_next l p t b (Refused why) hp ht hb hz = tt
  in_next l p t b (Gives n s) hp ht hb hz = in_if (is_empty s) (Gives (Repeat p t b n) empty) (Refused NotTaken) ((ht, hp, hb, hz.0, l), (tt, tt)) tt

  in_body : L → (p : Block) (t : Truth) (y z : Made) → BlockIn L r.result size p → IsTruthIn size t → MadeIn L r.result size y → MadeIn L r.result size z
      → MadeIn L r.result size (repeated_body p t y z)
  in_body l p t (Refused why) z hp ht hy hz = tt
  in_body l p t (Gives b s) z hp ht hy hz = in_if (is_empty s) (repeated_next p t b z) (Refused NotTaken) (in_next l p t b z hp ht hy.0 hz) tt

  pub in_repeated : L → (x y z : Made) → MadeIn L r.result size x → MadeIn L r.result size y → MadeIn L r.result size z → MadeIn L r.result size (repeated x y z)
  in_repeated l (Refused why) y z hx hy hz = tt
  in_repeated l (Gives p s) y z hx hy hz = by_test (tested s) refl
    where
      by_test : (o : Option Tested) → tested s ≡ o → MadeIn L r.result size (repeated_test p o y z)
      by_test None e = tt
      by_test (Some t) e = in_if (is_empty (only t.homes)) (repeated_body p t.truth y z) (Refused NotTaken) (in_body l p t.truth y z hx.0
          (in_tested s t hx.1 e).0 hy hz) tt

  pub in_given_back : (hs : List Operand) → AreIn size hs → MadeIn L r.result size (given_back r hs)
  in_given_back [] h = tt
  in_given_back (a ∷ []) h = ((refl, h.0), (tt, tt))
  in_given_back (a ∷ b ∷ hs) h = tt

  pub first_of : (x y : Bool) → ((x || y) ≡ true → L) → x ≡ true → L
  first_of true y h e = h refl
  first_of false y h e = absurd (false_is e)
    where
      false_is : false ≡ true → ⊥
      false_is e1 = grind arith

  pub rest_of : (x y : Bool) → ((x || y) ≡ true → L) → y ≡ true → L
  rest_of true y h e = h refl
  rest_of false y h e = h e

  pub in_flat : (c : Code Step) (s : Shape) → (has_loop c ≡ true → L) → ShapeIn size s → MadeIn L r.result size (flat lay r c s)
  in_flat Nothing s l h = (tt, h)
  in_flat (Then a b) s l h =
      in_after (flat lay r a s) (flat lay r b) (in_flat a s (first_of (has_loop a) (has_loop b) l) h)
      (λ s1 h1. in_flat b s1 (rest_of (has_loop a) (has_loop b) l) h1)
  in_flat (Do q) s l h = in_after (settled r s) _ (in_settled s h) (λ s1 h1. in_stepped q s1.homes h1.0)
  in_flat (If a b) s l h =
      in_chosen s (flat lay r a) (flat lay r b) h (λ z hz. in_flat a z (first_of (has_loop a) (has_loop b) l) hz)
      (λ z hz. in_flat b z (rest_of (has_loop a) (has_loop b) l) hz)
  in_flat (Loop c body next) s l h =
      in_if (is_empty s) _ _ (in_repeated (l refl) (flat lay r c empty) (flat lay r body empty) (flat lay r next empty)
      (in_flat c empty (λ e. l refl) (tt, tt)) (in_flat body empty (λ e. l refl) (tt, tt)) (in_flat next empty (λ e. l refl) (tt, tt))) tt
  in_flat Break s l h = in_if (is_empty s) (Gives BreakOut empty) (Refused NotTaken) (tt, (tt, tt)) tt
  in_flat Continue s l h = in_if (is_empty s) (Gives GoOn empty) (Refused NotTaken) (tt, (tt, tt)) tt
  in_flat Return s l h = in_after (settled r s) _ (in_settled s h) (λ s1 h1. in_given_back s1.homes h1.0)
