-- That typed code is flattened: no step of it is refused, and no value finds no temporary.
use Rattle.std.specs.Prelude.{ℕ, zero, suc, ◌+◌, ◌-◌, ◌*◌, ◌<◌, ◌≤◌, ◌^◌, Bool, true, false, ◌==◌, ◌&&◌, nat_lt, nat_le, List, [], ◌∷◌, ◌++◌, length}
use Rattle.std.specs.Prelude.{map, reverse, take, drop, Option, Some, None, Result, Ok, Err, slice_get, if◌then◌else◌}
use Rattle.std.proofs.Common.{◌≡◌, ◌⊎◌, inl, inr, refl, sym, ap, ◌∙◌, subst, arith}
use Rattle.std.proofs.lemmas.List.{length-append, length-reverse, take-append-drop, length-take-le, length-drop, append_assoc}
use Rattle.std.proofs.Math.Seq.{take-append_seam, drop-append_seam}
use Rattle.vg_meaning.specs.Code.{Code, Nothing, Then, Do, If, Loop, Break, Continue, Return}
use Rattle.vg_firm.specs.declared.step.Operator.{Operator}
use Rattle.vg_firm.specs.declared.step.Operator.TheVariants.{Plus, Minus, Times, Divide, Remainder, Less, AtMost, Greater, AtLeast, Equal, Unequal}
use Rattle.vg_firm.specs.declared.step.Operator.TheVariants.{And, Or, Xor, ShiftLeft, ShiftRight, Concat}
use Rattle.vg_firm.specs.declared.step.Prefix.{Prefix}
use Rattle.vg_firm.specs.declared.step.Prefix.TheVariants.{Negative, Not, Complement, Cut}
use Rattle.vg_firm.specs.declared.step.Home.{Home}
use Rattle.vg_firm.specs.declared.step.Home.TheVariants.{Ram as InRam, Flash as InFlash}
use Rattle.vg_firm.specs.declared.step.ArrayPlace.{ArrayPlace}
use Rattle.vg_firm.specs.declared.step.Elements.{Elements}
use Rattle.vg_firm.specs.declared.step.Step.{Step}
use Rattle.vg_firm.specs.declared.step.Step.TheVariants.{Number, This, Local as GetLocal, SetLocal, Forget, Operate, Apply, ReadDevice, WriteDevice}
use Rattle.vg_firm.specs.declared.step.Step.TheVariants.{Load, Store}
use Rattle.vg_firm.specs.declared.step.Step.TheVariants.{LoadAt, StoreAt, LoadNothing, StoreNothing, LoadItem, StoreItem, Length, IsWithin}
use Rattle.vg_firm.specs.declared.step.Step.TheVariants.{StopUnlessWithin, Bind, BindFor, Call, CallFor, CallValue, Idle}
use Rattle.vg_lin.specs.declared.instr.Operand.{Operand}
use Rattle.vg_lin.specs.declared.instr.Operand.TheVariants.{Local, Known}
use Rattle.vg_lin.specs.declared.instr.Operator.{Operator as LinOperator}
use Rattle.vg_lin.specs.declared.instr.Operator.TheVariants.{Times as Product}
use Rattle.vg_lin.specs.declared.instr.Plain.TheVariants.{Compute, Copy}
use Rattle.vg_lin.specs.declared.instr.Memory.{Memory}
use Rattle.vg_flatten_shapes.specs.declared.fault.Fault.{Fault}
use Rattle.vg_flatten_shapes.specs.declared.fault.Fault.TheVariants.{NotTaken, TooHigh, TooLong}
use Rattle.vg_base.specs.declared.refusal.Refusal.{Refusal}
use Rattle.vg_base.specs.declared.refusal.Refusal.TheVariants.{Fault as Faulty, NoMemory as OutOfMemory}
use Rattle.vg_lin.specs.declared.instr.Passed.{Passed}
use Rattle.vg_lin.specs.declared.instr.Callee.{Callee}
use Rattle.vg_lin.specs.declared.instr.Callee.TheVariants.{Procedure as ByNumber}
use Rattle.vg_lin.specs.declared.instr.Call.{Call as Calling}
use Rattle.vg_lin.specs.declared.instr.Instr.TheVariants.{Jump}
use Rattle.vg_firm.specs.Program.{Procedure}
use Rattle.vg_lin.specs.Program.{Procedure as LinProcedure}
use Rattle.vg_flatten_shapes.specs.declared.open.Truth.{Truth}
use Rattle.vg_flatten_shapes.specs.declared.open.Truth.TheVariants.{Holds}
use Rattle.vg_flatten_shapes.specs.declared.open.Open.{Open}
use Rattle.vg_flatten_shapes.specs.declared.open.Open.TheVariants.{Set, Break as Breaking, Continue as Continuing}
use Rattle.vg_flatten_shapes.proofs.Choices.{choice_cases}
use Rattle.vg_flatten_shapes.specs.declared.layout.Place.{Place}
use Rattle.vg_flatten_shapes.specs.declared.layout.Layout.{Layout}
use Rattle.vg_flatten_shapes.specs.declared.layout.Passing.{Passing}
use Rattle.vg_flatten_shapes.specs.declared.layout.Width.{Width}
use Rattle.vg_flatten_shapes.specs.declared.room.Room.{Room}
use Rattle.vg_flatten_shapes.specs.Shapes.{Shape, only, empty, is_empty, is_none, is_free, same_operand, same_homes, taken, temp}
use Rattle.vg_flatten_shapes.specs.Blocks.{Block, Skip, One, CallTo, TakeInterrupt, GiveBack, BreakOut, GoOn, Both, Choice, Repeat, stop_where}
use Rattle.vg_flatten_shapes.specs.Blocks.{closed, call_code, open_code}
use Rattle.vg_flatten_shapes.specs.Made.{Made, Gives, Refused, behind, after, by_temp, settled, settled_as, Tested, tested, tested_as, is_zero}
use Rattle.vg_flatten_values.specs.Values.{computing, comparing, computed, operated, operated_as, bytes_of, bytes_around, cut_bits, cut, applied}
use Rattle.vg_flatten_values.specs.Values.{divided, masked, shifted_left, shifted_right, concatenated, combined, divisor_checked, may_be_zero}
use Rattle.vg_flatten_places.specs.Places.{is_width, fetched, fetched_from, load_one, load_of, length_of, lone_of, array_length, places_in, memory_of, multiplied}
use Rattle.vg_flatten_places.specs.Places.{store_one, store_of, is_place, load_inside, load_item, store_inside, store_item, no_element}
use Rattle.vg_flatten_steps.specs.Locals.{at_local, get_receiver, put_in_local, set_local, forgotten, written}
use Rattle.vg_flatten_steps.specs.Calls.{in_widths, with_taken, passing_of, with_receiver, resulting, called, called_on, called_for, called_by, called_value, bound_for}
use Rattle.vg_flatten_steps.specs.Objects.{is_one_of, cast_to}
use Rattle.vg_flatten_places.specs.Places.{may_be_null, null_check, load_no_field, store_no_field}
use Rattle.vg_flatten_steps.specs.Steps.{stepped}
use Rattle.vg_flatten_control.specs.Flat.{landed_as, landed, joined, chosen, repeated, repeated_test, given_back, flat}
use Rattle.vg_firm_typed.specs.Steps.{takes, leaves, IsWidth, columns_of, Names}
use Rattle.vg_firm_typed.specs.Typed.{Known as Knows, Leads, IsAlone, Typed, IsTyped}
use Rattle.vg_flatten.specs.Closing.{AllSet}
use Rattle.vg_flatten.specs.Flattened.{zeroes, receivers, with_receiver_width, own_widths, own_params, whole, temps_for}
use Rattle.vg_flatten.specs.Refusals.{room_for, made_of, IsNotTakenAs, IsTooHigh, IsTooLong, IsCause, IsRefusedFor}
use Rattle.vg_flatten.specs.Taking.{IsMadeTooLong, IsLeft, IsTaken}

-- ---- what is made of typed code

-- Jumps out of a loop are left open only where one stands around the block.
abbrev pub Stays : (looped : Bool) → Block → Type 0
Stays looped (Both a b) = Stays looped a × Stays looped b
Stays looped (Choice t a b) = Stays looped a × Stays looped b
Stays looped (Repeat p t body next) = Stays looped p × Stays looped next
Stays looped BreakOut = looped ≡ true
Stays looped GoOn = looped ≡ true
Stays looped _ = Unit {0}

abbrev counted : Option Truth → ℕ
counted (Some t) = 1
counted None = 0

-- Above these homes so many values wait.
pub record Waits (under : List Operand) (y : ℕ) (s : Shape) : Type 0 where
  pub own : List Operand
  pub homes : s.homes ≡ own ++ under
  pub count : length own + counted s.truth ≡ y

-- The same, where no test waits.
pub record Rests (under : List Operand) (y : ℕ) (hs : List Operand) : Type 0 where
  pub own : List Operand
  pub homes : hs ≡ own ++ under
  pub count : length own ≡ y

abbrev pub Fine : (looped : Bool) → (under : List Operand) → ℕ → Made → Type 0
Fine looped under y (Gives b s) = Stays looped b × Waits under y s
Fine looped under y (Refused why) = ⊥

puts : (under own : List Operand) (h : Operand) (n y : ℕ) → length own ≡ n → y ≡ 1 + n → Waits under y (only (h ∷ own ++ under))
puts under own h n y e g = record { own = h ∷ own; homes = refl; count = omega (arith, e, g) }

drops : (under own : List Operand) (n y : ℕ) → length own ≡ n → y ≡ 0 + n → Waits under y (only (own ++ under))
drops under own n y e g = record { own = own; homes = refl; count = omega (arith, e, g) }

tests : (under own : List Operand) (t : Truth) (n y : ℕ) → length own ≡ n → y ≡ 1 + n → Waits under y (record { truth = Some t; homes = own ++ under })
tests under own t n y e g = record { own = own; homes = refl; count = omega (arith, e, g) }

pub lt_true : (a b : ℕ) → a < b → nat_lt a b ≡ true
lt_true a b h = grind arith

pub le_true : (a b : ℕ) → a ≤ b → nat_le a b ≡ true
le_true a b h = grind arith

width_true : (w : ℕ) → IsWidth w → is_width w ≡ true
width_true w h = both_true (nat_lt 0 w) (nat_lt w 5) (lt_true 0 w h.0) (lt_true w 5 (omega (arith, h.1)))
  where
    both_true : (a b : Bool) → a ≡ true → b ≡ true → (a && b) ≡ true
    both_true a b e g = ap (λ z. z && b) e ∙ g

pub same_true : (a b : ℕ) → a ≡ b → (a == b) ≡ true
same_true a b e = grind arith

pub by_if : (P : Made → Type 0) (b : Bool) (x y : Made) → b ≡ true → P x → P (if b then x else y)
by_if P true x y e h = h
by_if P false x y e h = absurd (not_both e)
  where
    not_both : false ≡ true → ⊥
    not_both e1 = grind arith

either_way : (P : Made → Type 0) (b : Bool) (x y : Made) → P x → P y → P (if b then x else y)
either_way P true x y h g = h
either_way P false x y h g = g

two_true : (a b : Bool) → a ≡ true → b ≡ true → (a && b) ≡ true
two_true a b e g = grind arith

three_true : (a b c : Bool) → a ≡ true → b ≡ true → c ≡ true → (a && b && c) ≡ true
three_true a b c e g h = grind arith

none_more : (a b : ℕ) → a ≡ 0 + b → a ≡ b
none_more a b e = omega (arith, e)

pub not_true : false ≡ true → ⊥
not_true e = grind arith

pub nil_is : (xs : List Operand) → length xs ≡ 0 → xs ≡ []
nil_is [] e = refl
nil_is (x ∷ xs) e = absurd (omega (arith, e))

-- the temporary above these
pub at_temp : (r : Room) (P : Made → Type 0) (hs : List Operand) (go : ℕ → Made) → length hs < r.temps → P (go (r.locals + length hs)) → P (by_temp (temp r hs) go)
at_temp r P hs go lt h = by_room (nat_lt (length hs) r.temps) (lt_true (length hs) r.temps lt)
  where
    by_room : (b : Bool) → b ≡ true → P (by_temp (if b then Some (r.locals + length hs) else None) go)
    by_room true e = h
    by_room false e = absurd (not_true e)

pub with_temp : (r : Room) (P : Made → Type 0) (hs : List Operand) (go : ℕ → Made) → length hs < r.temps → ((to : ℕ) → P (go to)) → P (by_temp (temp r hs) go)
with_temp r P hs go lt h = at_temp r P hs go lt (h (r.locals + length hs))

-- so many of the newest
with_front : (P : Made → Type 0) (n : ℕ) (xs ys : List Operand) (go : List Operand → List Operand → Made) → length xs ≡ n → P (go (reverse xs) ys)
    → P (with_taken (taken n (xs ++ ys)) go)
with_front P n xs ys go e h = subst (λ z. P (with_taken z go)) (sym (ap (λ z. taken z (xs ++ ys)) (sym e) ∙ front)) h
  where
    front : taken (length xs) (xs ++ ys) ≡ Some (record { args = reverse xs; rest = ys })
    front =
        ap (λ b. if b then Some (record { args = reverse (take (length xs) (xs ++ ys)); rest = drop (length xs) (xs ++ ys) }) else None)
        (le_true (length xs) (length (xs ++ ys)) (let l = length-append xs ys in omega (arith, l)))
        ∙ ap (λ z. Some (record { args = reverse z; rest = drop (length xs) (xs ++ ys) })) (take-append_seam xs ys)
        ∙ ap (λ z. Some (record { args = reverse xs; rest = z })) (drop-append_seam xs ys)

pub one_of : (Q : List Operand → Type 0) (own : List Operand) (n : ℕ) → length own ≡ 1 + n
    → ((h : Operand) (rest : List Operand) → length rest ≡ n → Q (h ∷ rest)) → Q own
one_of Q [] n e g = absurd (omega (arith, e))
one_of Q (h ∷ rest) n e g = g h rest (omega (arith, e))

two_of : (Q : List Operand → Type 0) (own : List Operand) (n : ℕ) → length own ≡ 2 + n
    → ((h i : Operand) (rest : List Operand) → length rest ≡ n → Q (h ∷ i ∷ rest)) → Q own
two_of Q own n e g = one_of Q own (1 + n) (omega (arith, e)) (λ h rest e1. one_of (λ z. Q (h ∷ z)) rest n e1 (g h))

three_of : (Q : List Operand → Type 0) (own : List Operand) (n : ℕ) → length own ≡ 3 + n
    → ((h i j : Operand) (rest : List Operand) → length rest ≡ n → Q (h ∷ i ∷ j ∷ rest)) → Q own
three_of Q own n e g = one_of Q own (2 + n) (omega (arith, e)) (λ h rest e1. two_of (λ z. Q (h ∷ z)) rest n e1 (g h))

split_of : (Q : List Operand → Type 0) (own : List Operand) (c n : ℕ) → length own ≡ c + n
    → ((front back : List Operand) → length front ≡ c → length back ≡ n → Q (front ++ back)) → Q own
split_of Q own c n e g =
    let l = length-drop c own in
    subst Q (take-append-drop c own) (g (take c own) (drop c own) (length-take-le c own (omega (arith, e))) (omega (arith, e, l)))

-- ---- steps

module _ (lay : Layout) (r : Room) (looped : Bool) (under : List Operand) where
  -- the values above leave room for two more
  lower : (own : List Operand) (n m : ℕ) → length own ≡ n → length under + (m + n) + 2 ≤ r.temps → m + length (own ++ under) + 2 ≤ r.temps
  lower own n m e h = let l = length-append own under in omega (arith, e, h, l)

  fine_computed : (op : LinOperator) (width : ℕ) (a b : Operand) (own : List Operand) (n y : ℕ) → length own ≡ n → y ≡ 1 + n
      → length (own ++ under) < r.temps → Fine looped under y (computed r op width a b (own ++ under))
  fine_computed op width a b own n y e g h = with_temp r (Fine looped under y) (own ++ under) _ h (λ to. (tt, puts under own (Local to) n y e g))

  stays_divisor : (b : Operand) → Stays looped (divisor_checked b)
  stays_divisor b = by_zero (may_be_zero b)
    where
      by_zero : (c : Bool) → Stays looped (if c then stop_where 3 (Holds (is_zero b)) else Skip)
      by_zero true = (tt, tt)
      by_zero false = tt

  stays_null : (a : Operand) → Stays looped (null_check r a)
  stays_null a = by_null (may_be_null r a)
    where
      by_null : (c : Bool) → Stays looped (if c then stop_where 1 (Holds (is_zero a)) else Skip)
      by_null true = (tt, tt)
      by_null false = tt

  fine_divided : (op : LinOperator) (a b : Operand) (own : List Operand) (n y : ℕ) → length own ≡ n → y ≡ 1 + n
      → length (own ++ under) < r.temps → Fine looped under y (divided r op a b (own ++ under))
  fine_divided op a b own n y e g h =
      with_temp r (Fine looped under y) (own ++ under) _ h (λ to. ((stays_divisor b, tt), puts under own (Local to) n y e g))

  fine_masked : (bits : ℕ) (o : Option ℕ) (a b : Operand) (own : List Operand) (n y : ℕ) → length own ≡ n → y ≡ 1 + n
      → length (own ++ under) < r.temps → Fine looped under y (masked r bits o a b (own ++ under))
  fine_masked bits None a b own n y e g h = (tt, puts under own (Known 0) n y e g)
  fine_masked bits (Some width) a b own n y e g h =
      with_temp r (Fine looped under y) (own ++ under) _ h (λ to. ((tt, tt), puts under own (Local to) n y e g))

  fine_left : (bits : ℕ) (o : Option ℕ) (a b : Operand) (own : List Operand) (n y : ℕ) → length own ≡ n → y ≡ 1 + n
      → length (own ++ under) < r.temps → Fine looped under y (shifted_left r bits o a b (own ++ under))
  fine_left bits None a b own n y e g h = fine_masked bits (bytes_around bits) a b own n y e g h
  fine_left bits (Some width) a b own n y e g h = fine_computed _ width a b own n y e g h

  fine_right : (bits : ℕ) (a b : Operand) (own : List Operand) (n y : ℕ) → length own ≡ n → y ≡ 1 + n
      → length (own ++ under) < r.temps → Fine looped under y (shifted_right r bits a b (own ++ under))
  fine_right bits a (Known k) own n y e g h =
      either_way (Fine looped under y) (nat_lt k bits) _ _ (fine_computed _ _ a (Known k) own n y e g h) (tt, puts under own (Known 0) n y e g)
  fine_right bits a (Local i) own n y e g h = fine_computed _ _ a (Local i) own n y e g h

  fine_concatenated : (bits : ℕ) (a b : Operand) (own : List Operand) (n y : ℕ) → length own ≡ n → y ≡ 1 + n
      → length (own ++ under) < r.temps → Fine looped under y (concatenated r bits a b (own ++ under))
  fine_concatenated bits a b own n y e g h =
      with_temp r (Fine looped under y) (own ++ under) _ h (λ to. ((tt, tt), puts under own (Local to) n y e g))

  fine_combined : (op : Operator) (a b : Operand) (own : List Operand) (n y : ℕ) → length own ≡ n → y ≡ 1 + n
      → length (own ++ under) < r.temps → Fine looped under y (combined r op a b (own ++ under))
  fine_combined Divide a b own n y e g h = fine_divided _ a b own n y e g h
  fine_combined Remainder a b own n y e g h = fine_divided _ a b own n y e g h
  fine_combined (ShiftLeft bits) a b own n y e g h = fine_left bits (bytes_of bits) a b own n y e g h
  fine_combined (ShiftRight bits) a b own n y e g h = fine_right bits a b own n y e g h
  fine_combined (Concat bits) a b own n y e g h = fine_concatenated bits a b own n y e g h
  fine_combined Plus a b own n y e g h = (tt, puts under own (Known 0) n y e g)
  fine_combined Minus a b own n y e g h = (tt, puts under own (Known 0) n y e g)
  fine_combined Times a b own n y e g h = (tt, puts under own (Known 0) n y e g)
  fine_combined (Less o) a b own n y e g h = (tt, puts under own (Known 0) n y e g)
  fine_combined (AtMost o) a b own n y e g h = (tt, puts under own (Known 0) n y e g)
  fine_combined (Greater o) a b own n y e g h = (tt, puts under own (Known 0) n y e g)
  fine_combined (AtLeast o) a b own n y e g h = (tt, puts under own (Known 0) n y e g)
  fine_combined Equal a b own n y e g h = (tt, puts under own (Known 0) n y e g)
  fine_combined Unequal a b own n y e g h = (tt, puts under own (Known 0) n y e g)
  fine_combined And a b own n y e g h = (tt, puts under own (Known 0) n y e g)
  fine_combined Or a b own n y e g h = (tt, puts under own (Known 0) n y e g)
  fine_combined Xor a b own n y e g h = (tt, puts under own (Known 0) n y e g)

  fine_operated : (op : Operator) (b a : Operand) (own : List Operand) (n y : ℕ) → length own ≡ n → y ≡ 1 + n
      → length (own ++ under) < r.temps → Fine looped under y (operated r op (b ∷ a ∷ own ++ under))
  fine_operated op b a own n y e g h = by_kind (computing op) (comparing op a b)
    where
      by_kind : (o : Option LinOperator) (t : Option Truth) → Fine looped under y (operated_as r op o t a b (own ++ under))
      by_kind (Some lop) t = fine_computed lop 4 a b own n y e g h
      by_kind None (Some t) = (tt, tests under own t n y e g)
      by_kind None None = fine_combined op a b own n y e g h

  fine_cut_bits : (bits : ℕ) (o : Option ℕ) (a : Operand) (own : List Operand) (n y : ℕ) → length own ≡ n → y ≡ 1 + n
      → length (own ++ under) < r.temps → Fine looped under y (cut_bits r bits o a (own ++ under))
  fine_cut_bits bits None a own n y e g h = (tt, puts under own a n y e g)
  fine_cut_bits bits (Some width) a own n y e g h = fine_computed _ width a _ own n y e g h

  fine_cut : (bits : ℕ) (o : Option ℕ) (a : Operand) (own : List Operand) (n y : ℕ) → length own ≡ n → y ≡ 1 + n
      → length (own ++ under) < r.temps → Fine looped under y (cut r bits o a (own ++ under))
  fine_cut bits None a own n y e g h = fine_cut_bits bits (bytes_around bits) a own n y e g h
  fine_cut bits (Some width) a own n y e g h = fine_computed _ width a _ own n y e g h

  fine_applied : (op : Prefix) (a : Operand) (own : List Operand) (n y : ℕ) → length own ≡ n → y ≡ 1 + n
      → length (own ++ under) < r.temps → Fine looped under y (applied r op (a ∷ own ++ under))
  fine_applied Not a own n y e g h = (tt, tests under own (Holds (is_zero a)) n y e g)
  fine_applied Negative a own n y e g h = fine_computed _ 4 _ a own n y e g h
  fine_applied (Cut bits) a own n y e g h = fine_cut bits (bytes_of bits) a own n y e g h
  fine_applied (Complement bits) a own n y e g h =
      either_way (Fine looped under y) (nat_le bits 32) _ _ (fine_computed _ _ _ a own n y e g h) (tt, puts under own (Known 0) n y e g)

  -- ---- locals

  fine_at_local : (j : ℕ) (own : List Operand) (n y : ℕ) → length own ≡ n → y ≡ 1 + n → j < r.locals → Fine looped under y (at_local r j (own ++ under))
  fine_at_local j own n y e g lt =
      by_if (Fine looped under y) (nat_lt j r.locals) _ _ (lt_true j r.locals lt) (tt, puts under own (Local j) n y e g)

  fine_receiver : (own : List Operand) (n y : ℕ) → length own ≡ n → y ≡ 1 + n → ((r.receiver == 0) ≡ true) ⊎ (0 < r.locals)
      → Fine looped under y (get_receiver r (own ++ under))
  fine_receiver own n y e g (inl none) =
      by_if (Fine looped under y) (r.receiver == 0) _ _ none (tt, puts under own (Known 0) n y e g)
  fine_receiver own n y e g (inr lt) =
      either_way (Fine looped under y) (r.receiver == 0) _ _ (tt, puts under own (Known 0) n y e g) (fine_at_local 0 own n y e g lt)

  fine_put : (j : ℕ) (a : Operand) (own : List Operand) (n y : ℕ) → length own ≡ n → y ≡ 0 + n → j < r.locals → length under + (1 + n) ≡ 1
      → Fine looped under y (put_in_local r j a (own ++ under))
  fine_put j a own n y e g lt alone =
      by_if (Fine looped under y) (nat_lt j r.locals && is_free j (reverse (own ++ under))) _ _
      (two_true _ _ (lt_true j r.locals lt) (ap (λ z. is_free j (reverse z)) none)) (tt, drops under own n y e g)
    where
      none : own ++ under ≡ []
      none = let l = length-append own under in nil_is (own ++ under) (omega (arith, e, l, alone))

  -- ---- calls

  fine_resulting : (callee : Callee) (o : Option Width) (xs : List Passed) (back : List Operand) (n y : ℕ) → length back ≡ n → y ≡ 1 + n
      → length (back ++ under) < r.temps → Fine looped under y (resulting r callee o xs (back ++ under))
  fine_resulting callee (Some w) xs back n y e g h =
      with_temp r (Fine looped under y) (back ++ under) _ h (λ to. (tt, puts under back (Local to) n y e g))
  fine_resulting callee None xs back n y e g h = (tt, puts under back (Known 0) n y e g)

  fine_called : (q count : ℕ) (own : List Operand) (n y : ℕ) → length own ≡ count + n → y ≡ 1 + n → length under + (count + n) + 2 ≤ r.temps
      → Fine looped under y (called lay r q count (own ++ under))
  fine_called q count own n y e g room =
      split_of (λ z. Fine looped under y (called lay r q count (z ++ under))) own count n e (λ front back ef eb.
      subst (λ z. Fine looped under y (called lay r q count z)) (sym (append_assoc front back under))
      (with_front (Fine looped under y) count front (back ++ under) _ ef
      (fine_resulting (ByNumber q) p.result (in_widths p.widths (with_receiver p.receives (reverse front))) back n y eb g (short back eb))))
    where
      p : Passing
      p = passing_of (slice_get lay.passing q)

      short : (back : List Operand) → length back ≡ n → length (back ++ under) < r.temps
      short back eb = let l = length-append back under in omega (arith, eb, l, room)

  fine_on : (d code : ℕ) (args back : List Operand) (n y : ℕ) → 0 < length args → length back ≡ n → y ≡ 1 + n → length (back ++ under) < r.temps
      → Fine looped under y (called_on r d code args (back ++ under))
  fine_on d code [] back n y some e g h = absurd (omega (arith, some))
  fine_on d code (a ∷ args) back n y some e g h =
      with_temp r (Fine looped under y) (back ++ under) _ h (λ to. ((stays_null a, (tt, tt)), puts under back (Local to) n y e g))

  fine_by : (receiver : ℕ) (args back : List Operand) (n y : ℕ) → 0 < length args → length back ≡ n → y ≡ 1 + n → length (back ++ under) < r.temps
      → Fine looped under y (called_by r receiver args (back ++ under))
  fine_by receiver [] back n y some e g h = absurd (omega (arith, some))
  fine_by receiver (a ∷ args) back n y some e g h =
      with_temp r (Fine looped under y) (back ++ under) _ h (λ to. (((tt, tt), (tt, tt)), puts under back (Local to) n y e g))

  fine_called_for : (d count : ℕ) (own : List Operand) (n y : ℕ) → length own ≡ suc count + n → y ≡ 1 + n → length under + (suc count + n) + 2 ≤ r.temps
      → Fine looped under y (called_for r d count (own ++ under))
  fine_called_for d count own n y e g room =
      with_temp r (Fine looped under y) (own ++ under) _ (let l = length-append own under in omega (arith, e, l, room)) (λ code.
      split_of (λ z. Fine looped under y (with_taken (taken (count + 1) (z ++ under)) (called_on r d code))) own (suc count) n e (λ front back ef eb.
      subst (λ z. Fine looped under y (with_taken (taken (count + 1) z) (called_on r d code))) (sym (append_assoc front back under))
      (with_front (Fine looped under y) (count + 1) front (back ++ under) _ (omega (arith, ef))
      (fine_on d code (reverse front) back n y (some front ef) eb g (short back eb)))))
    where
      some : (front : List Operand) → length front ≡ suc count → 0 < length (reverse front)
      some front ef = let l = length-reverse front in omega (arith, ef, l)

      short : (back : List Operand) → length back ≡ n → length (back ++ under) < r.temps
      short back eb = let l = length-append back under in omega (arith, eb, l, room)

  fine_called_value : (count : ℕ) (own : List Operand) (n y : ℕ) → length own ≡ suc count + n → y ≡ 1 + n → length under + (suc count + n) + 2 ≤ r.temps
      → Fine looped under y (called_value r count (own ++ under))
  fine_called_value count own n y e g room =
      with_temp r (Fine looped under y) (own ++ under) _ (let l = length-append own under in omega (arith, e, l, room)) (λ receiver.
      split_of (λ z. Fine looped under y (with_taken (taken (count + 1) (z ++ under)) (called_by r receiver))) own (suc count) n e (λ front back ef eb.
      subst (λ z. Fine looped under y (with_taken (taken (count + 1) z) (called_by r receiver))) (sym (append_assoc front back under))
      (with_front (Fine looped under y) (count + 1) front (back ++ under) _ (omega (arith, ef))
      (fine_by receiver (reverse front) back n y (some front ef) eb g (short back eb)))))
    where
      some : (front : List Operand) → length front ≡ suc count → 0 < length (reverse front)
      some front ef = let l = length-reverse front in omega (arith, ef, l)

      short : (back : List Operand) → length back ≡ n → length (back ++ under) < r.temps
      short back eb = let l = length-append back under in omega (arith, eb, l, room)

  fine_bound_for : (d : ℕ) (a : Operand) (own : List Operand) (n y : ℕ) → length own ≡ n → y ≡ 1 + n → 1 + length (own ++ under) + 2 ≤ r.temps
      → Fine looped under y (bound_for r d (a ∷ own ++ under))
  fine_bound_for d a own n y e g l =
      with_temp r (Fine looped under y) (own ++ under) _ (omega (arith, l)) (λ to.
      with_temp r (Fine looped under y) (a ∷ own ++ under) _ (omega (arith, l)) (λ above.
      ((stays_null a, (tt, (tt, tt))), puts under own (Local to) n y e g)))

  -- ---- objects

  fine_one_of : (first count : ℕ) (a : Operand) (own : List Operand) (n y : ℕ) → length own ≡ n → y ≡ 1 + n → length (own ++ under) < r.temps
      → first + count < 2 ^ 32 → Fine looped under y (is_one_of r first count (a ∷ own ++ under))
  fine_one_of first count a own n y e g h few =
      by_if (Fine looped under y) (nat_lt (first + count) (2 ^ 32)) _ _ (lt_true (first + count) (2 ^ 32) few)
      (with_temp r (Fine looped under y) (own ++ under) _ h (λ to. (tt, tests under own _ n y e g)))

  fine_cast : (first count : ℕ) (a : Operand) (own : List Operand) (n y : ℕ) → length own ≡ n → y ≡ 1 + n → 1 + length (own ++ under) + 2 ≤ r.temps
      → first + count < 2 ^ 32 → Fine looped under y (cast_to r first count (a ∷ own ++ under))
  fine_cast first count a own n y e g l few =
      by_if (Fine looped under y) (nat_lt (first + count) (2 ^ 32)) _ _ (lt_true (first + count) (2 ^ 32) few)
      (with_temp r (Fine looped under y) (a ∷ own ++ under) _ (omega (arith, l)) (λ to. (((tt, (tt, tt)), tt), puts under own a n y e g)))

  -- ---- columns and elements

  stays_multiplied : (to by : ℕ) (h : Operand) → Stays looped (multiplied to by h)
  stays_multiplied to by h = by_one (by == 1)
    where
      by_one : (b : Bool) → Stays looped (if b then Skip else One (Compute (record { operator = Product; width = 2; to = to; left = h; right = Known by })))
      by_one true = tt
      by_one false = tt

  fine_fetched : (memory : Memory) (width by base : ℕ) (a : Operand) (own : List Operand) (n y : ℕ) → length own ≡ n → y ≡ 1 + n
      → length (own ++ under) < r.temps → Fine looped under y (fetched r memory width by base a (own ++ under))
  fine_fetched memory width by base a own n y e g h =
      with_temp r (Fine looped under y) (own ++ under) _ h (λ to. ((stays_null a, (stays_multiplied to by a, tt)), puts under own (Local to) n y e g))

  fine_fetched_from : (memory : Memory) (width first base : ℕ) (a : Operand) (own : List Operand) (n y : ℕ) → length own ≡ n → y ≡ 1 + n
      → length (own ++ under) < r.temps → Fine looped under y (fetched_from r memory width first base a (own ++ under))
  fine_fetched_from memory width first base a own n y e g h =
      with_temp r (Fine looped under y) (own ++ under) _ h (λ to.
      ((stays_null a, (tt, (stays_multiplied to width (Local to), tt))), puts under own (Local to) n y e g))

  fine_load_one : (memory : Memory) (o : Option Place) (place : Place) (own : List Operand) (n y : ℕ) → length own ≡ n → y ≡ 1 + n
      → length (own ++ under) < r.temps → o ≡ Some place → IsWidth place.width → Fine looped under y (load_one r memory o (own ++ under))
  fine_load_one memory o place own n y e g h there w =
      subst (λ z. Fine looped under y (load_one r memory z (own ++ under))) (sym there)
      (by_if (Fine looped under y) (is_width place.width) _ _ (width_true place.width w)
      (with_temp r (Fine looped under y) (own ++ under) _ h (λ to. (tt, puts under own (Local to) n y e g))))

  fine_load_of : (memory : Memory) (first : ℕ) (o : Option Place) (place : Place) (a : Operand) (own : List Operand) (n y : ℕ) → length own ≡ n → y ≡ 1 + n
      → length (own ++ under) < r.temps → o ≡ Some place → IsWidth place.width → Fine looped under y (load_of r memory first o (a ∷ own ++ under))
  fine_load_of memory first o place a own n y e g h there w =
      subst (λ z. Fine looped under y (load_of r memory first z (a ∷ own ++ under))) (sym there)
      (by_if (Fine looped under y) (is_width place.width) _ _ (width_true place.width w)
      (either_way (Fine looped under y) (place.count == 1) _ _
      (with_temp r (Fine looped under y) (own ++ under) _ h (λ to. ((stays_null a, tt), puts under own (Local to) n y e g)))
      (either_way (Fine looped under y) (nat_le (place.width * first) place.address) _ _
      (fine_fetched memory place.width place.width _ a own n y e g h) (fine_fetched_from memory place.width first place.address a own n y e g h))))

  fine_length : (o : Option ℕ) (table : ℕ) (a : Operand) (own : List Operand) (n y : ℕ) → length own ≡ n → y ≡ 1 + n
      → length (own ++ under) < r.temps → o ≡ Some table → 4 ≤ table → Fine looped under y (length_of r o (a ∷ own ++ under))
  fine_length o table a own n y e g h there above =
      subst (λ z. Fine looped under y (length_of r z (a ∷ own ++ under))) (sym there)
      (by_if (Fine looped under y) (nat_le 2 table) _ _ (le_true 2 table (omega (arith, above))) (fine_fetched _ 2 4 _ a own n y e g h))

  fine_array_length : (single : Option ArrayPlace) (o : Option ℕ) (a : Operand) (own : List Operand) (n y : ℕ) → length own ≡ n → y ≡ 1 + n
      → Fine looped under y (length_of r o (a ∷ own ++ under)) → Fine looped under y (array_length r single o (a ∷ own ++ under))
  fine_array_length (Some x) o a own n y e g h = ((tt, tt), puts under own (Known x.length) n y e g)
  fine_array_length None o a own n y e g h = h

  fine_store_one : (width : ℕ) (o : Option Place) (place : Place) (v : Operand) (own : List Operand) (n y : ℕ) → length own ≡ n → y ≡ 0 + n
      → o ≡ Some place → IsWidth width → width ≡ place.width → Fine looped under y (store_one width o (v ∷ own ++ under))
  fine_store_one width o place v own n y e g there w same =
      subst (λ z. Fine looped under y (store_one width z (v ∷ own ++ under))) (sym there)
      (by_if (Fine looped under y) (is_width width && (width == place.width)) _ _
      (two_true _ _ (width_true width w) (same_true width place.width same)) (tt, drops under own n y e g))

  fine_store_of : (first width : ℕ) (o : Option Place) (place : Place) (v a : Operand) (own : List Operand) (n y : ℕ) → length own ≡ n → y ≡ 0 + n
      → 2 + length (own ++ under) + 2 ≤ r.temps → o ≡ Some place → IsWidth width → width ≡ place.width
      → Fine looped under y (store_of r first width o (v ∷ a ∷ own ++ under))
  fine_store_of first width o place v a own n y e g l there w same =
      subst (λ z. Fine looped under y (store_of r first width z (v ∷ a ∷ own ++ under))) (sym there)
      (by_if (Fine looped under y) (is_width width && (width == place.width)) _ _
      (two_true _ _ (width_true width w) (same_true width place.width same))
      (either_way (Fine looped under y) (place.count == 1) _ _ ((stays_null a, tt), drops under own n y e g)
      (either_way (Fine looped under y) (nat_le (width * first) place.address) _ _
      (with_temp r (Fine looped under y) (v ∷ a ∷ own ++ under) _ (omega (arith, l)) (λ to.
      ((stays_null a, (stays_multiplied to width a, tt)), drops under own n y e g)))
      (with_temp r (Fine looped under y) (v ∷ a ∷ own ++ under) _ (omega (arith, l)) (λ to.
      ((stays_null a, (tt, (stays_multiplied to width (Local to), tt))), drops under own n y e g))))))

  is_there : (e : Elements) (place : Place) (table : ℕ) → e.address ≡ place.address → e.width ≡ place.width → IsWidth e.width → 4 ≤ table
      → (is_width e.width && is_place e place && nat_le 4 table) ≡ true
  is_there e place table ea ew w above =
      three_true _ _ _ (width_true e.width w) (two_true _ _ (same_true e.address place.address ea) (same_true e.width place.width ew)) (le_true 4 table above)

  fine_load_inside : (single : Option ArrayPlace) (e : Elements) (table : ℕ) (i a : Operand) (own : List Operand) (n y : ℕ) → length own ≡ n → y ≡ 1 + n
      → 2 + length (own ++ under) + 2 ≤ r.temps → Fine looped under y (load_inside r single e table a i (own ++ under))
  fine_load_inside (Some x) e table i a own n y le g l =
      with_temp r (Fine looped under y) (own ++ under) _ (omega (arith, l)) (λ to.
      (((tt, tt), ((tt, tt), (stays_multiplied to e.width i, tt))), puts under own (Local to) n y le g))
  fine_load_inside None e table i a own n y le g l =
      with_temp r (Fine looped under y) (own ++ under) _ (omega (arith, l)) (λ to.
      with_temp r (Fine looped under y) (i ∷ a ∷ own ++ under) _ (omega (arith, l)) (λ first.
      with_temp r (Fine looped under y) (Local first ∷ i ∷ a ∷ own ++ under) _ (omega (arith, l)) (λ second.
      (((tt, tt), (tt, (tt, ((tt, tt), (tt, (tt, (tt, tt))))))), puts under own (Local to) n y le g))))

  fine_load_item : (single : Option ArrayPlace) (e : Elements) (o : Option Place) (u : Option ℕ) (place : Place) (table : ℕ) (i a : Operand) (own : List Operand)
      (n y : ℕ) → length own ≡ n → y ≡ 1 + n → 2 + length (own ++ under) + 2 ≤ r.temps → o ≡ Some place → u ≡ Some table
      → (is_width e.width && is_place e place && nat_le 4 table) ≡ true → Fine looped under y (load_item r single e o u (i ∷ a ∷ own ++ under))
  fine_load_item single e o u place table i a own n y le g l there tabled ok =
      subst (λ z. Fine looped under y (load_item r single e z u (i ∷ a ∷ own ++ under))) (sym there)
      (subst (λ z. Fine looped under y (load_item r single e (Some place) z (i ∷ a ∷ own ++ under))) (sym tabled)
      (by_if (Fine looped under y) (is_width e.width && is_place e place && nat_le 4 table) _ _ ok (fine_load_inside single e table i a own n y le g l)))

  fine_store_inside : (single : Option ArrayPlace) (width table : ℕ) (v i a : Operand) (own : List Operand) (n y : ℕ) → length own ≡ n → y ≡ 0 + n
      → 3 + length (own ++ under) + 2 ≤ r.temps → Fine looped under y (store_inside r single width table v a i (own ++ under))
  fine_store_inside (Some x) width table v i a own n y le g l =
      with_temp r (Fine looped under y) (v ∷ i ∷ a ∷ own ++ under) _ (omega (arith, l)) (λ to.
      (((tt, tt), ((tt, tt), (stays_multiplied to width i, tt))), drops under own n y le g))
  fine_store_inside None width table v i a own n y le g l =
      with_temp r (Fine looped under y) (v ∷ i ∷ a ∷ own ++ under) _ (omega (arith, l)) (λ first.
      with_temp r (Fine looped under y) (Local first ∷ v ∷ i ∷ a ∷ own ++ under) _ (omega (arith, l)) (λ second.
      (((tt, tt), (tt, (tt, ((tt, tt), (tt, (tt, (tt, tt))))))), drops under own n y le g)))

  fine_store_item : (single : Option ArrayPlace) (e : Elements) (o : Option Place) (u : Option ℕ) (place : Place) (table : ℕ) (v i a : Operand)
      (own : List Operand) (n y : ℕ) → length own ≡ n → y ≡ 0 + n → 3 + length (own ++ under) + 2 ≤ r.temps → o ≡ Some place → u ≡ Some table
      → (is_width e.width && is_place e place && nat_le 4 table) ≡ true → Fine looped under y (store_item r single e o u (v ∷ i ∷ a ∷ own ++ under))
  fine_store_item single e o u place table v i a own n y le g l there tabled ok =
      subst (λ z. Fine looped under y (store_item r single e z u (v ∷ i ∷ a ∷ own ++ under))) (sym there)
      (subst (λ z. Fine looped under y (store_item r single e (Some place) z (v ∷ i ∷ a ∷ own ++ under))) (sym tabled)
      (by_if (Fine looped under y) (is_width e.width && is_place e place && nat_le 4 table) _ _ ok (fine_store_inside single e.width table v i a own n y le g l)))

  -- where the elements have no column
  fine_no_element : (width table : ℕ) (i a : Operand) (own : List Operand) (left : List Operand) (y : ℕ)
      → 2 + length (own ++ under) + 2 ≤ r.temps → Waits under y (only left) → Fine looped under y (no_element r width table a i (own ++ under) left)
  fine_no_element width table i a own left y l w =
      with_temp r (Fine looped under y) (i ∷ a ∷ own ++ under) _ (omega (arith, l)) (λ first.
      with_temp r (Fine looped under y) (Local first ∷ i ∷ a ∷ own ++ under) _ (omega (arith, l)) (λ second.
      (((tt, tt), (tt, (tt, ((tt, tt), tt)))), w)))

  fine_load_dropped : (single : Option ArrayPlace) (e : Elements) (o : Option Place) (u : Option ℕ) (table : ℕ) (i a : Operand) (own : List Operand) (n y : ℕ)
      → length own ≡ n → y ≡ 1 + n → 2 + length (own ++ under) + 2 ≤ r.temps → o ≡ None → u ≡ Some table → 4 ≤ table
      → Fine looped under y (load_item r single e o u (i ∷ a ∷ own ++ under))
  fine_load_dropped single e o u table i a own n y le g l lacks tabled above =
      subst (λ z. Fine looped under y (load_item r single e z u (i ∷ a ∷ own ++ under))) (sym lacks)
      (subst (λ z. Fine looped under y (load_item r single e None z (i ∷ a ∷ own ++ under))) (sym tabled)
      (by_if (Fine looped under y) (nat_le 4 table) _ _ (le_true 4 table above)
      (fine_no_element e.width table i a own (Known 0 ∷ own ++ under) y l (puts under own (Known 0) n y le g))))

  fine_store_dropped : (single : Option ArrayPlace) (e : Elements) (o : Option Place) (u : Option ℕ) (table : ℕ) (v i a : Operand) (own : List Operand) (n y : ℕ)
      → length own ≡ n → y ≡ 0 + n → 3 + length (own ++ under) + 2 ≤ r.temps → o ≡ None → u ≡ Some table → 4 ≤ table
      → Fine looped under y (store_item r single e o u (v ∷ i ∷ a ∷ own ++ under))
  fine_store_dropped single e o u table v i a own n y le g l lacks tabled above =
      subst (λ z. Fine looped under y (store_item r single e z u (v ∷ i ∷ a ∷ own ++ under))) (sym lacks)
      (subst (λ z. Fine looped under y (store_item r single e None z (v ∷ i ∷ a ∷ own ++ under))) (sym tabled)
      (by_if (Fine looped under y) (nat_le 4 table) _ _ (le_true 4 table above)
      (fine_no_element e.width table i a own (own ++ under) y (omega (arith, l)) (drops under own n y le g))))

  -- ---- each step

  columns_are : (home : Home) → columns_of lay home ≡ places_in lay home
  columns_are InRam = refl
  columns_are InFlash = refl

  module _ (locals : ℕ) (inside : (i : ℕ) → i < locals → r.receiver + i < r.locals) (self : ((r.receiver == 0) ≡ true) ⊎ (0 < r.locals)) where
    pub fine_step : (p : Step) (own : List Operand) (n y : ℕ) → length own ≡ takes p + n → y ≡ leaves p + n → length under + (takes p + n) + 2 ≤ r.temps
        → IsAlone p (length under + (takes p + n)) → Names lay locals p → Fine looped under y (stepped lay r p (own ++ under))
    fine_step (Number v) own n y e g room alone there =
        by_if (Fine looped under y) (nat_lt v (2 ^ 32)) _ _ (lt_true v (2 ^ 32) there) (tt, puts under own (Known v) n y (none_more (length own) n e) g)
    fine_step This own n y e g room alone there = fine_receiver own n y (none_more (length own) n e) g self
    fine_step (GetLocal i) own n y e g room alone there = fine_at_local (r.receiver + i) own n y (none_more (length own) n e) g (inside i there)
    fine_step (SetLocal i) own n y e g room alone there =
        one_of (λ z. Fine looped under y (set_local r i (z ++ under))) own n e (λ a rest e1. fine_put (r.receiver + i) a rest n y e1 g (inside i there) alone)
    fine_step Forget own n y e g room alone there =
        one_of (λ z. Fine looped under y (forgotten (z ++ under))) own n e (λ a rest e1. (tt, drops under rest n y e1 g))
    fine_step (Operate op) own n y e g room alone there =
        two_of (λ z. Fine looped under y (operated r op (z ++ under))) own n e (λ b a rest e1.
        fine_operated op b a rest n y e1 g (let l = lower rest n 2 e1 room in omega (arith, l)))
    fine_step (Apply op) own n y e g room alone there =
        one_of (λ z. Fine looped under y (applied r op (z ++ under))) own n e (λ a rest e1.
        fine_applied op a rest n y e1 g (let l = lower rest n 1 e1 room in omega (arith, l)))
    fine_step (ReadDevice address) own n y e g room alone there =
        with_temp r (Fine looped under y) (own ++ under) _ (let l = lower own n 0 (none_more (length own) n e) room in omega (arith, l))
        (λ to. (tt, puts under own (Local to) n y (none_more (length own) n e) g))
    fine_step (WriteDevice address) own n y e g room alone there =
        one_of (λ z. Fine looped under y (written address (z ++ under))) own n e (λ a rest e1. (tt, drops under rest n y e1 g))
    fine_step (Load home c) own n y e g room alone there =
        fine_load_one (memory_of home) (slice_get (places_in lay home) c) there.0 own n y (none_more (length own) n e) g
        (let l = lower own n 0 (none_more (length own) n e) room in omega (arith, l))
        (sym (ap (λ z. slice_get z c) (columns_are home)) ∙ there.1) there.2
    fine_step (Store c width) own n y e g room alone there =
        one_of (λ z. Fine looped under y (store_one width (slice_get lay.ram c) (z ++ under))) own n e (λ a rest e1.
        fine_store_one width (slice_get lay.ram c) there.0 a rest n y e1 g there.1 there.2 there.3)
    fine_step (LoadAt home c first) own n y e g room alone there =
        one_of (λ z. Fine looped under y (load_of r (memory_of home) first (slice_get (places_in lay home) c) (z ++ under))) own n e (λ a rest e1.
        fine_load_of (memory_of home) first (slice_get (places_in lay home) c) there.0 a rest n y e1 g (let l = lower rest n 1 e1 room in omega (arith, l))
        (sym (ap (λ z. slice_get z c) (columns_are home)) ∙ there.1) there.2)
    fine_step (StoreAt c first width) own n y e g room alone there =
        two_of (λ z. Fine looped under y (store_of r first width (slice_get lay.ram c) (z ++ under))) own n e (λ v a rest e1.
        fine_store_of first width (slice_get lay.ram c) there.0 v a rest n y e1 g (lower rest n 2 e1 room) there.1 there.2 there.3)
    fine_step LoadNothing own n y e g room alone there =
        one_of (λ z. Fine looped under y (load_no_field r (z ++ under))) own n e (λ a rest e1. (stays_null a, puts under rest (Known 0) n y e1 g))
    fine_step StoreNothing own n y e g room alone there =
        two_of (λ z. Fine looped under y (store_no_field r (z ++ under))) own n e (λ v a rest e1. (stays_null a, drops under rest n y e1 g))
    fine_step (LoadItem x) own n y e g room alone (inr (inl none)) =
        two_of (λ z. Fine looped under y (load_item r (lone_of lay x.table) x (slice_get (places_in lay x.home) x.column) (slice_get lay.tables x.table) (z ++ under))) own n e
        (λ i a rest e1.
        subst (λ u. Fine looped under y (load_item r (lone_of lay x.table) x (slice_get (places_in lay x.home) x.column) u (i ∷ a ∷ rest ++ under))) (sym none)
        ((tt, tt), puts under rest (Known 0) n y e1 g))
    fine_step (LoadItem x) own n y e g room alone (inr (inr there)) =
        two_of (λ z. Fine looped under y (load_item r (lone_of lay x.table) x (slice_get (places_in lay x.home) x.column) (slice_get lay.tables x.table) (z ++ under))) own n e
        (λ i a rest e1.
        fine_load_dropped (lone_of lay x.table) x (slice_get (places_in lay x.home) x.column) (slice_get lay.tables x.table) there.1.0 i a rest n y e1 g
        (lower rest n 2 e1 room) (sym (ap (λ z. slice_get z x.column) (columns_are x.home)) ∙ there.0) there.1.1 there.1.2)
    fine_step (LoadItem x) own n y e g room alone (inl there) =
        two_of (λ z. Fine looped under y (load_item r (lone_of lay x.table) x (slice_get (places_in lay x.home) x.column) (slice_get lay.tables x.table) (z ++ under))) own n e
        (λ i a rest e1.
        fine_load_item (lone_of lay x.table) x (slice_get (places_in lay x.home) x.column) (slice_get lay.tables x.table) there.0 there.5.0 i a rest n y e1 g
        (lower rest n 2 e1 room) (sym (ap (λ z. slice_get z x.column) (columns_are x.home)) ∙ there.1) there.5.1
        (is_there x there.0 there.5.0 there.2 there.3 there.4 there.5.2))
    fine_step (StoreItem x) own n y e g room alone (inr (inl none)) =
        three_of (λ z. Fine looped under y (store_item r (lone_of lay x.table) x (slice_get lay.ram x.column) (slice_get lay.tables x.table) (z ++ under))) own n e
        (λ v i a rest e1.
        subst (λ u. Fine looped under y (store_item r (lone_of lay x.table) x (slice_get lay.ram x.column) u (v ∷ i ∷ a ∷ rest ++ under))) (sym none)
        ((tt, tt), drops under rest n y e1 g))
    fine_step (StoreItem x) own n y e g room alone (inr (inr there)) =
        three_of (λ z. Fine looped under y (store_item r (lone_of lay x.table) x (slice_get lay.ram x.column) (slice_get lay.tables x.table) (z ++ under))) own n e
        (λ v i a rest e1.
        fine_store_dropped (lone_of lay x.table) x (slice_get lay.ram x.column) (slice_get lay.tables x.table) there.1.0 v i a rest n y e1 g
        (lower rest n 3 e1 room) there.0 there.1.1 there.1.2)
    fine_step (StoreItem x) own n y e g room alone (inl there) =
        three_of (λ z. Fine looped under y (store_item r (lone_of lay x.table) x (slice_get lay.ram x.column) (slice_get lay.tables x.table) (z ++ under))) own n e
        (λ v i a rest e1.
        fine_store_item (lone_of lay x.table) x (slice_get lay.ram x.column) (slice_get lay.tables x.table) there.0 there.5.0 v i a rest n y e1 g
        (lower rest n 3 e1 room) there.1 there.5.1 (is_there x there.0 there.5.0 there.2 there.3 there.4 there.5.2))
    fine_step (Length t) own n y e g room alone (inr none) =
        one_of (λ z. Fine looped under y (array_length r (lone_of lay t) (slice_get lay.tables t) (z ++ under))) own n e (λ a rest e1.
        fine_array_length (lone_of lay t) (slice_get lay.tables t) a rest n y e1 g
        (subst (λ u. Fine looped under y (length_of r u (a ∷ rest ++ under))) (sym none) ((tt, tt), puts under rest (Known 0) n y e1 g)))
    fine_step (Length t) own n y e g room alone (inl there) =
        one_of (λ z. Fine looped under y (array_length r (lone_of lay t) (slice_get lay.tables t) (z ++ under))) own n e (λ a rest e1.
        fine_array_length (lone_of lay t) (slice_get lay.tables t) a rest n y e1 g
        (fine_length (slice_get lay.tables t) there.0 a rest n y e1 g (let l = lower rest n 1 e1 room in omega (arith, l)) there.1 there.2))
    fine_step (IsWithin first count) own n y e g room alone there =
        one_of (λ z. Fine looped under y (is_one_of r first count (z ++ under))) own n e (λ a rest e1.
        fine_one_of first count a rest n y e1 g (let l = lower rest n 1 e1 room in omega (arith, l)) there)
    fine_step (StopUnlessWithin first count) own n y e g room alone there =
        one_of (λ z. Fine looped under y (cast_to r first count (z ++ under))) own n e (λ a rest e1.
        fine_cast first count a rest n y e1 g (lower rest n 1 e1 room) there)
    fine_step (Bind q) own n y e g room alone there =
        with_temp r (Fine looped under y) (own ++ under) _ (let l = lower own n 0 (none_more (length own) n e) room in omega (arith, l))
        (λ to. (tt, puts under own (Local to) n y (none_more (length own) n e) g))
    fine_step (BindFor d) own n y e g room alone there =
        one_of (λ z. Fine looped under y (bound_for r d (z ++ under))) own n e (λ a rest e1. fine_bound_for d a rest n y e1 g (lower rest n 1 e1 room))
    fine_step (Call q count) own n y e g room alone there = fine_called q count own n y e g room
    fine_step (CallFor d count) own n y e g room alone there = fine_called_for d count own n y e g room
    fine_step (CallValue count) own n y e g room alone there = fine_called_value count own n y e g room
    fine_step Idle own n y e g room alone there = (tt, drops under own n y (none_more (length own) n e) g)

-- ---- truth values

pub fine_behind : (looped : Bool) (under : List Operand) (y : ℕ) (a : Block) (m : Made) → Stays looped a → Fine looped under y m → Fine looped under y (behind a m)
fine_behind looped under y a (Gives b s) ha hm = ((ha, hm.0), hm.1)
fine_behind looped under y a (Refused why) ha hm = absurd hm

-- What was made leaves just these homes.
abbrev pub Lands : (looped : Bool) → List Operand → Made → Type 0
Lands looped hs (Gives b s) = Stays looped b × (s ≡ only hs)
Lands looped hs (Refused why) = ⊥

pub lands_behind : (looped : Bool) (hs : List Operand) (a : Block) (m : Made) → Stays looped a → Lands looped hs m → Lands looped hs (behind a m)
lands_behind looped hs a (Gives b s) ha hm = ((ha, hm.0), hm.1)
lands_behind looped hs a (Refused why) ha hm = absurd hm

-- what is made behind a truth value that became a number
pub after_settled : (r : Room) (looped : Bool) (P : Made → Type 0) → ((a : Block) (m : Made) → Stays looped a → P m → P (behind a m))
    → (under : List Operand) (x : ℕ) (s : Shape) (more : Shape → Made) → Waits under x s → length under + x ≤ r.temps
    → ((s1 : Shape) → Rests under x s1.homes → P (more s1)) → P (after (settled r s) more)
after_settled r looped P closed under x s more w room go = by_truth s.truth w.count
  where
    by_truth : (o : Option Truth) → length w.own + counted o ≡ x → P (after (settled_as r o s.homes) more)
    by_truth None e = closed Skip (more (only s.homes)) tt (go (only s.homes) (record { own = w.own; homes = w.homes; count = omega (arith, e) }))
    by_truth (Some t) e =
        with_temp r (λ z. P (after z more)) s.homes _ (short e) (λ to.
        closed _ (more (only (Local to ∷ s.homes))) (tt, tt)
        (go (only (Local to ∷ s.homes)) (record { own = Local to ∷ w.own; homes = ap (λ z. Local to ∷ z) w.homes; count = omega (arith, e) })))
      where
        short : length w.own + 1 ≡ x → length s.homes < r.temps
        short e1 = let l = ap length w.homes ∙ length-append w.own under in omega (arith, e1, l, room)

-- the truth value that waits is taken
pub with_tested : (P : Option Tested → Type 0) (under : List Operand) (z : ℕ) (s : Shape) → Waits under (suc z) s
    → ((t : Tested) → Rests under z t.homes → P (Some t)) → P (tested s)
with_tested P under z s w go = by_truth s.truth s.homes w.own w.homes w.count
  where
    by_truth : (o : Option Truth) (hs own : List Operand) → hs ≡ own ++ under → length own + counted o ≡ suc z → P (tested_as o hs)
    by_truth (Some t) hs own e c = go (record { truth = t; homes = hs }) (record { own = own; homes = e; count = omega (arith, c) })
    by_truth None hs own e c =
        subst (λ q. P (tested_as None q)) (sym e)
        (one_of (λ q. P (tested_as None (q ++ under))) own z (omega (arith, c)) (λ h rest e1. go _ (record { own = rest; homes = refl; count = e1 })))

-- ---- choices

same_is : (a b : Operand) → same_operand a b ≡ true → a ≡ b
same_is (Local i) (Local j) e = ap Local (let same : i ≡ j = grind arith in same)
same_is (Known v) (Known w) e = ap Known (let same : v ≡ w = grind arith in same)
same_is (Local i) (Known v) e = absurd (not_true e)
same_is (Known v) (Local i) e = absurd (not_true e)

operand_same : (a : Operand) → same_operand a a ≡ true
operand_same (Local i) = same_true i i refl
operand_same (Known v) = same_true v v refl

pub homes_same : (hs : List Operand) → same_homes hs hs ≡ true
homes_same [] = refl
homes_same (h ∷ hs) = two_true (same_operand h h) (same_homes hs hs) (operand_same h) (homes_same hs)

landed_one : (r : Room) (looped : Bool) (under hs : List Operand) → length under < r.temps → Rests under 1 hs
    → Lands looped (Local (r.locals + length under) ∷ under) (landed_as r hs)
landed_one r looped under hs room w =
    subst (λ z. Lands looped (Local (r.locals + length under) ∷ under) (landed_as r z)) (sym w.homes)
    (one_of (λ z. Lands looped (Local (r.locals + length under) ∷ under) (landed_as r (z ++ under))) w.own 0 (omega (arith, w.count)) (λ h rest e.
    subst (λ q. Lands looped (Local (r.locals + length under) ∷ under) (landed_as r (h ∷ q ++ under))) (sym (nil_is rest e))
    (at_temp r (Lands looped (Local (r.locals + length under) ∷ under)) under _ room (by_home h (same_operand (Local (r.locals + length under)) h) refl))))
  where
    by_home : (h : Operand) (b : Bool) → same_operand (Local (r.locals + length under)) h ≡ b
        → Lands looped (Local (r.locals + length under) ∷ under)
        (if b then Gives Skip (only (h ∷ under)) else Gives (One (Copy (r.locals + length under) h)) (only (Local (r.locals + length under) ∷ under)))
    by_home h true e = (tt, ap (λ z. only (z ∷ under)) (sym (same_is (Local (r.locals + length under)) h e)))
    by_home h false e = (tt, refl)

landed_value : (r : Room) (looped : Bool) (under : List Operand) (m : Made) → length under < r.temps → Fine looped under 1 m
    → Lands looped (Local (r.locals + length under) ∷ under) (landed r m)
landed_value r looped under (Refused why) room h = absurd h
landed_value r looped under (Gives b s) room h =
    lands_behind looped _ b _ h.0 (after_settled r looped (Lands looped (Local (r.locals + length under) ∷ under))
    (lands_behind looped (Local (r.locals + length under) ∷ under)) under 1 s (λ s1. landed_as r s1.homes) h.1 (omega (arith, room))
    (λ s1 w. landed_one r looped under s1.homes room w))

landed_none : (r : Room) (looped : Bool) (m : Made) → Fine looped [] 0 m → Lands looped [] (landed r m)
landed_none r looped (Refused why) h = absurd h
landed_none r looped (Gives b s) h =
    lands_behind looped [] b _ h.0 (after_settled r looped (Lands looped []) (lands_behind looped []) [] 0 s (λ s1. landed_as r s1.homes) h.1
    (omega arith) (λ s1 w. subst (λ z. Lands looped [] (landed_as r z)) (sym (none s1.homes w)) (tt, refl)))
  where
    none : (hs : List Operand) → Rests [] 0 hs → hs ≡ []
    none hs w = nil_is hs (let l = ap length w.homes ∙ length-append w.own [] in let c = w.count in omega (arith, l, c))

pub joined_both : (looped : Bool) (hs : List Operand) (t : Truth) (x y : Made) → Lands looped hs x → Lands looped hs y → Lands looped hs (joined t x y)
joined_both looped hs t (Refused why) y hx hy = absurd hx
joined_both looped hs t (Gives a s) (Refused why) hx hy = absurd hy
joined_both looped hs t (Gives a s) (Gives b s1) hx hy =
    by_if (Lands looped hs) (same_homes (reverse s.homes) (reverse s1.homes)) (Gives (Choice t a b) s) (Refused NotTaken) same ((hx.0, hy.0), hx.1)
  where
    same : same_homes (reverse s.homes) (reverse s1.homes) ≡ true
    same =
        ap (λ z. same_homes (reverse z.homes) (reverse s1.homes)) hx.1 ∙ ap (λ z. same_homes (reverse hs) (reverse z.homes)) hy.1
        ∙ homes_same (reverse hs)

lands_fine : (looped : Bool) (under hs own : List Operand) (y : ℕ) (m : Made) → hs ≡ own ++ under → length own ≡ y → Lands looped hs m → Fine looped under y m
lands_fine looped under hs own y (Refused why) e c h = absurd h
lands_fine looped under hs own y (Gives b s) e c h =
    (h.0, subst (Waits under y) (sym h.1) (record { own = own; homes = e; count = omega (arith, c) }))

-- ---- loops and ends

pub empty_is : (s : Shape) → Waits [] 0 s → is_empty s ≡ true
empty_is s w = by_truth s.truth w.count
  where
    by_truth : (o : Option Truth) → length w.own + counted o ≡ 0 → (is_none o && (length s.homes == 0)) ≡ true
    by_truth (Some t) c = absurd (omega (arith, c))
    by_truth None c = same_true (length s.homes) 0 (let l = ap length w.homes ∙ length-append w.own [] in omega (arith, l, c))

pub nothing_waits : (under : List Operand) (x : ℕ) (s : Shape) → Waits under x s → length under + x ≡ 0 → is_empty s ≡ true
nothing_waits under x s w e =
    empty_is s (record {
      own = [];
      homes = w.homes ∙ nil_is (w.own ++ under) (let l = length-append w.own under in let c = w.count in omega (arith, l, c, e));
      count = let c = w.count in omega (arith, c, e);
    })

pub nothing : (under : List Operand) (n : ℕ) → length under + n ≡ 0 → Waits under 0 empty
nothing under n e = record { own = []; homes = sym (nil_is under (omega (arith, e))); count = refl }

pub repeated_fine : (looped : Bool) (x y z : Made) → Fine looped [] 1 x → Fine true [] 0 y → Fine looped [] 0 z → Fine looped [] 0 (repeated x y z)
repeated_fine looped (Refused why) y z hx hy hz = absurd hx
repeated_fine looped (Gives p s) (Refused why) z hx hy hz = absurd hy
repeated_fine looped (Gives p s) (Gives b s1) (Refused why) hx hy hz = absurd hz
repeated_fine looped (Gives p s) (Gives b s1) (Gives n s2) hx hy hz =
    with_tested (λ o. Fine looped [] 0 (repeated_test p o (Gives b s1) (Gives n s2))) [] 0 s hx.1 (λ t w.
    by_if (Fine looped [] 0) (is_empty (only t.homes)) _ _
    (empty_is (only t.homes) (record { own = w.own; homes = w.homes; count = let c = w.count in omega (arith, c) }))
    (by_if (Fine looped [] 0) (is_empty s1) _ _ (empty_is s1 hy.1)
    (by_if (Fine looped [] 0) (is_empty s2) _ _ (empty_is s2 hz.1) ((hx.0, hz.0), nothing [] 0 refl))))

pub given_fine : (r : Room) (looped : Bool) (hs : List Operand) → length hs ≡ 1 → Fine looped [] 0 (given_back r hs)
given_fine r looped [] e = absurd (omega (arith, e))
given_fine r looped (h ∷ []) e = (tt, nothing [] 0 refl)
given_fine r looped (h ∷ i ∷ hs) e = absurd (omega (arith, e))

-- ---- code

module _ (lay : Layout) (r : Room) (k : Knows) (same : k.layout ≡ lay) (inside : (i : ℕ) → i < k.locals → r.receiver + i < r.locals)
    (self : ((r.receiver == 0) ≡ true) ⊎ (0 < r.locals)) (most : k.most ≤ r.temps) (some : 1 ≤ r.temps) where
  fine_do : (p : Step) (looped : Bool) (under : List Operand) (x y : ℕ) (s : Shape) → Leads k (length under) p x y → Waits under x s
      → Fine looped under y (after (settled r s) (λ s1. stepped lay r p s1.homes))
  fine_do p looped under x y s l w =
      after_settled r looped (Fine looped under y) (fine_behind looped under y) under x s _ w (let h = l.room in omega (arith, h, most)) (λ s1 w1.
      subst (λ z. Fine looped under y (stepped lay r p z)) (sym w1.homes)
      (fine_step lay r looped under k.locals inside self p w1.own l.rest y (w1.count ∙ l.before) l.behind (roomy l)
      (subst (λ z. IsAlone p (length under + z)) l.before l.alone) (subst (λ z. Names z k.locals p) same l.names)))
    where
      roomy : Leads k (length under) p x y → length under + (takes p + l.rest) + 2 ≤ r.temps
      roomy h = let a = l.room in let b = l.before in omega (arith, a, b, most)

  -- a choice, of what is made of both ways
  fine_choice : (looped : Bool) (under : List Operand) (x y z : ℕ) (s : Shape) (f g : Shape → Made) → x ≡ suc z
      → length under + x + 1 ≤ k.most → Waits under x s
      → ((length under + z ≡ 0) × (y ≡ 0) × (Fine looped [] 0 (f empty) × Fine looped [] 0 (g empty)))
      ⊎ ((y ≡ suc z) × ((hs : List Operand) → length hs ≡ length under + z → Fine looped hs 1 (f (only hs)) × Fine looped hs 1 (g (only hs))))
      → Fine looped under y (chosen r (tested s) f g)
  fine_choice looped under x y z s f g ex room w ways =
      with_tested (λ o. Fine looped under y (chosen r o f g)) under z s (subst (λ q. Waits under q s) ex w) (λ t rests. by_way t rests ways)
    where
      by_way : (t : Tested) → Rests under z t.homes
          → ((length under + z ≡ 0) × (y ≡ 0) × (Fine looped [] 0 (f empty) × Fine looped [] 0 (g empty)))
          ⊎ ((y ≡ suc z) × ((hs : List Operand) → length hs ≡ length under + z → Fine looped hs 1 (f (only hs)) × Fine looped hs 1 (g (only hs))))
          → Fine looped under y (chosen r (Some t) f g)
      by_way t rests (inl (e, ey, (hf, hg))) =
          lands_fine looped under [] [] y _ (sym (nil_is under (omega (arith, e)))) (sym ey)
          (joined_both looped [] t.truth _ _ (subst (λ q. Lands looped [] (landed r (f (only q)))) (sym none) (landed_none r looped _ hf))
          (subst (λ q. Lands looped [] (landed r (g (only q)))) (sym none) (landed_none r looped _ hg)))
        where
          none : t.homes ≡ []
          none =
              nil_is t.homes
              (let l = ap length rests.homes ∙ length-append rests.own under in let c = rests.count in omega (arith, l, c, e))
      by_way t rests (inr (ey, both)) =
          lands_fine looped under (Local (r.locals + length t.homes) ∷ t.homes) (Local (r.locals + length t.homes) ∷ rests.own) y _
          (ap (λ q. Local (r.locals + length t.homes) ∷ q) rests.homes) (let c = rests.count in omega (arith, c, ey))
          (joined_both looped (Local (r.locals + length t.homes) ∷ t.homes) t.truth _ _
          (landed_value r looped t.homes _ short (both t.homes long).0) (landed_value r looped t.homes _ short (both t.homes long).1))
        where
          long : length t.homes ≡ length under + z
          long = let l = ap length rests.homes ∙ length-append rests.own under in let c = rests.count in omega (arith, l, c)

          short : length t.homes < r.temps
          short = omega (arith, long, ex, room, most)

  pub fine_flat : (c : Code Step) (looped : Bool) (under : List Operand) (s : Shape) (x y : ℕ) → Typed k looped (length under) c x y → Waits under x s
      → Fine looped under y (flat lay r c s)
  fine_flat Nothing looped under s x y h w = (tt, subst (λ z. Waits under z s) h w)
  fine_flat (Then a b) looped under s x y h w =
      fine_after looped under h.0 y _ _ (fine_flat a looped under s x h.0 h.1 w) (λ s1 w1. fine_flat b looped under s1 h.0 y h.2 w1)
    where
      fine_after : (looped : Bool) (under : List Operand) (z y : ℕ) (m : Made) (more : Shape → Made) → Fine looped under z m
          → ((s1 : Shape) → Waits under z s1 → Fine looped under y (more s1)) → Fine looped under y (after m more)
      fine_after looped under z y (Gives a s) more hm go = fine_behind looped under y a (more s) hm.0 (go s hm.1)
      fine_after looped under z y (Refused why) more hm go = absurd hm
  fine_flat (Do p) looped under s x y h w = fine_do p looped under x y s h w
  fine_flat (If a b) looped under s x y (z, ex, room, inl (e, ey, ha, hb)) w =
      fine_choice looped under x y z s (flat lay r a) (flat lay r b) ex room w
      (inl (e, ey, (fine_flat a looped [] empty 0 0 ha (nothing [] 0 refl), fine_flat b looped [] empty 0 0 hb (nothing [] 0 refl))))
  fine_flat (If a b) looped under s x y (z, ex, room, inr (ey, ha, hb)) w =
      fine_choice looped under x y z s (flat lay r a) (flat lay r b) ex room w
      (inr (
        ey,
        (λ hs e. (
          fine_flat a looped hs (only hs) 0 1 (subst (λ q. Typed k looped q a 0 1) (sym e) ha) (record { own = []; homes = refl; count = refl }),
          fine_flat b looped hs (only hs) 0 1 (subst (λ q. Typed k looped q b 0 1) (sym e) hb) (record { own = []; homes = refl; count = refl }),
        )),
      ))
  fine_flat (Loop c body next) looped under s x y (e, ey, hc, hb, hn) w =
      by_if (Fine looped under y) (is_empty s) _ _ (nothing_waits under x s w e)
      (subst (λ q. Fine looped q y (repeated (flat lay r c empty) (flat lay r body empty) (flat lay r next empty))) (sym (nil_is under (omega (arith, e))))
      (subst (λ q. Fine looped [] q (repeated (flat lay r c empty) (flat lay r body empty) (flat lay r next empty))) (sym ey)
      (repeated_fine looped (flat lay r c empty) (flat lay r body empty) (flat lay r next empty) (fine_flat c looped [] empty 0 1 hc (nothing [] 0 refl))
      (fine_flat body true [] empty 0 0 hb (nothing [] 0 refl)) (fine_flat next looped [] empty 0 0 hn (nothing [] 0 refl)))))
  fine_flat Break looped under s x y (l, e, ey) w =
      by_if (Fine looped under y) (is_empty s) _ _ (nothing_waits under x s w e) (l, subst (λ q. Waits under q empty) (sym ey) (nothing under x e))
  fine_flat Continue looped under s x y (l, e, ey) w =
      by_if (Fine looped under y) (is_empty s) _ _ (nothing_waits under x s w e) (l, subst (λ q. Waits under q empty) (sym ey) (nothing under x e))
  fine_flat Return looped under s x y (e, ex, ey) w =
      after_settled r looped (Fine looped under y) (fine_behind looped under y) under x s _ w (omega (arith, e, ex, some)) (λ s1 w1.
      subst (λ q. Fine looped q y (given_back r s1.homes)) (sym (nil_is under e))
      (subst (λ q. Fine looped [] q (given_back r s1.homes)) (sym ey)
      (given_fine r looped s1.homes (let l = ap length w1.homes ∙ length-append w1.own under in let c = w1.count in omega (arith, l, c, e, ex)))))

-- ---- no jump out of a loop is left

all_both : (os qs : List Open) → AllSet os → AllSet qs → AllSet (os ++ qs)
all_both [] qs h g = g
all_both (o ∷ os) qs h g = (h.0, all_both os qs h.1 g)

all_closed : (u v : ℕ) (os : List Open) → AllSet (map (closed u v) os)
all_closed u v [] = tt
all_closed u v (Set i ∷ os) = (tt, all_closed u v os)
all_closed u v (Breaking ∷ os) = (tt, all_closed u v os)
all_closed u v (Continuing ∷ os) = (tt, all_closed u v os)

all_call : (pushed : List Passed) (c : Calling) → AllSet (call_code pushed c)
all_call [] c = (tt, tt)
all_call (a ∷ more) c = (tt, all_call more c)

pub stays_set : (b : Block) (at : ℕ) → Stays false b → AllSet (open_code b at)
stays_set Skip at h = tt
stays_set (One p) at h = (tt, tt)
stays_set (CallTo pushed c) at h = all_call pushed c
stays_set TakeInterrupt at h = (tt, tt)
stays_set (GiveBack w a) at h = (tt, tt)
stays_set BreakOut at h = absurd (not_true h)
stays_set GoOn at h = absurd (not_true h)
stays_set (Both a b) at h = all_both (open_code a at) _ (stays_set a at h.0) (stays_set b _ h.1)
stays_set (Choice t a b) at h =
    choice_cases AllSet t at (open_code a (at + 1)) (open_code b (at + 1 + length (open_code a (at + 1)) + 1)) (λ e. (tt, stays_set a (at + 1) h.0))
    (tt, all_both (open_code a (at + 1)) _ (stays_set a (at + 1) h.0) (tt, stays_set b _ h.1))
stays_set (Repeat p t body next) at h =
    all_both (open_code p at) _ (stays_set p at h.0) (
      tt,
      all_both (map (closed _ _) (open_code body _)) _ (all_closed _ _ (open_code body _))
          (all_both (open_code next _) (Set (Jump at) ∷ []) (stays_set next _ h.1) (tt, tt)),
    )

-- ---- whole procedures

pub stays_zeroes : (c i : ℕ) → Stays false (zeroes c i)
stays_zeroes zero i = tt
stays_zeroes (suc c) i = (tt, stays_zeroes c (suc i))

module _ (lay : Layout) (m : Procedure) (typed : IsTyped lay m) where
  pub receiver_few : (b : Bool) (ws : List ℕ) → length (with_receiver_width b ws) ≡ receivers b + length ws
  receiver_few true ws = omega arith
  receiver_few false ws = omega arith

  pub few : length (own_widths m) ≤ 61
  few = let l = receiver_few m.receives m.widths in let o = one m.receives in let t = typed.few in omega (arith, l, o, t)
    where
      one : (b : Bool) → receivers b ≤ 1
      one true = omega arith
      one false = omega arith

  pub temps : 191 ≤ temps_for (length (own_widths m))
  temps = let le = few in omega (arith, le)

  pub itself : (b : Bool) (ws : List ℕ) → ((receivers b == 0) ≡ true) ⊎ (0 < length (with_receiver_width b ws))
  itself true ws = inr (omega arith)
  itself false ws = inl refl

  body_fine : Fine false [] 0 (made_of lay m)
  body_fine =
      fine_flat lay (room_for m) (record { layout = lay; locals = length m.widths; most = 191 }) refl
      (λ i lt. let l = receiver_few m.receives m.widths in omega (arith, l, lt)) (itself m.receives m.widths) (omega (arith, temps)) (omega (arith, temps))
      m.body false [] empty 0 0 typed.code (nothing [] 0 refl)

  taken_by : (made : Made) → Fine false [] 0 made → IsNotTakenAs m made → ⊥
  taken_by (Refused why) h g = absurd h
  taken_by (Gives b s) h (inl e) = not_true (sym e ∙ empty_is s h.1)
  taken_by (Gives b s) h (inr g) =
      g (stays_set (whole m b) 0 (stays_zeroes (length m.widths - m.params) (own_params m), (h.0, tt)))

  high_by : (made : Made) → Fine false [] 0 made → made ≡ Refused TooHigh → ⊥
  high_by made h e = subst (Fine false [] 0) e h

  not_high : IsTooHigh lay m → ⊥
  not_high (inl lt) = let f = few in omega (arith, lt, f)
  not_high (inr e) = high_by (made_of lay m) body_fine e.0

  long_by : (made : Made) → Fine false [] 0 made → IsTooLong m made → IsMadeTooLong m made
  long_by (Gives b s) h g = g
  long_by (Refused why) h g = h

  -- the cause of a refusal is none that typed procedures have
  pub no_cause : (e : Refusal Fault) → IsCause e lay m → IsLeft e lay m
  no_cause OutOfMemory h = tt
  no_cause (Faulty TooLong) (inl h) = long_by (made_of lay m) body_fine h.0
  no_cause (Faulty TooLong) (inr h) = absurd (high_by (made_of lay m) body_fine h.0)
  no_cause (Faulty TooHigh) h = not_high h
  no_cause (Faulty NotTaken) (inl h) = taken_by (made_of lay m) body_fine h
  no_cause (Faulty NotTaken) (inr h) = high_by (made_of lay m) body_fine h.0

  pub is_taken : (answer : Result LinProcedure (Refusal Fault)) → IsRefusedFor answer lay m → IsTaken answer lay m
  is_taken (Ok p) h = tt
  is_taken (Err e) h = no_cause e h
