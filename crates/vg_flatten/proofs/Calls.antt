-- That the calls of packed code stand in the flattened code, each once and in their order, and no other.
use Rattle.std.specs.Prelude.{ℕ, zero, suc, ◌+◌, ◌-◌, ◌*◌, ◌^◌, Bool, true, false, ◌==◌, ◌&&◌, nat_lt, nat_le, List, [], ◌∷◌, ◌++◌, length, map}
use Rattle.std.specs.Prelude.{reverse, Option, Some, None, slice_get, if◌then◌else◌}
use Rattle.std.proofs.Common.{◌≡◌, refl, sym, ap, ◌∙◌, subst}
use Rattle.std.proofs.lemmas.List.{append_assoc, append-nil}
use Rattle.vg_flatten_shapes.specs.declared.open.Open.TheVariants.{Break as Breaking, Continue as Continuing}
use Rattle.vg_flatten_shapes.specs.declared.open.Truth.TheVariants.{Fails}
use Rattle.vg_meaning.specs.Code.{Code, Nothing, Then, Do, If, Loop, Break, Continue, Return}
use Rattle.vg_firm.specs.declared.step.Operator.{Operator}
use Rattle.vg_firm.specs.declared.step.Operator.TheVariants.{Plus, Minus, Times, Divide, Remainder, Less, AtMost, Greater, AtLeast, Equal, Unequal}
use Rattle.vg_firm.specs.declared.step.Operator.TheVariants.{And, Or, Xor, ShiftLeft, ShiftRight, Concat}
use Rattle.vg_firm.specs.declared.step.Prefix.{Prefix}
use Rattle.vg_firm.specs.declared.step.Prefix.TheVariants.{Negative, Not, Complement, Cut}
use Rattle.vg_firm.specs.declared.step.ArrayPlace.{ArrayPlace}
use Rattle.vg_firm.specs.declared.step.Elements.{Elements}
use Rattle.vg_firm.specs.declared.step.Step.{Step}
use Rattle.vg_firm.specs.declared.step.Step.TheVariants.{Number, This, Local as GetLocal, SetLocal, Forget, Operate, Apply, ReadDevice, WriteDevice}
use Rattle.vg_firm.specs.declared.step.Step.TheVariants.{Load, Store}
use Rattle.vg_firm.specs.declared.step.Step.TheVariants.{LoadAt, StoreAt, LoadNothing, StoreNothing, LoadItem, StoreItem, Length, IsWithin}
use Rattle.vg_firm.specs.declared.step.Step.TheVariants.{StopUnlessWithin, Bind, BindFor, Call, CallFor, CallValue, Idle}
use Rattle.vg_firm.specs.Program.{Procedure}
use Rattle.vg_lin.specs.declared.instr.Operand.{Operand}
use Rattle.vg_lin.specs.declared.instr.Operand.TheVariants.{Local, Known}
use Rattle.vg_lin.specs.declared.instr.Operator.{Operator as LinOperator}
use Rattle.vg_lin.specs.declared.instr.Operator.TheVariants.{Times as Product}
use Rattle.vg_lin.specs.declared.instr.Plain.TheVariants.{Compute}
use Rattle.vg_lin.specs.declared.instr.Memory.{Memory}
use Rattle.vg_lin.specs.declared.instr.Passed.{Passed}
use Rattle.vg_lin.specs.declared.instr.Callee.TheVariants.{Procedure as ByNumber}
use Rattle.vg_lin.specs.declared.instr.Call.{Call as Calling}
use Rattle.vg_lin.specs.declared.instr.Instr.TheVariants.{Jump}
use Rattle.vg_flatten_shapes.specs.declared.fault.Fault.TheVariants.{NotTaken}
use Rattle.vg_flatten_shapes.specs.declared.open.Open.{Open}
use Rattle.vg_flatten_shapes.specs.declared.open.Open.TheVariants.{Set}
use Rattle.vg_flatten_shapes.specs.declared.open.Truth.{Truth}
use Rattle.vg_flatten_shapes.specs.declared.open.Truth.TheVariants.{Holds}
use Rattle.vg_flatten_shapes.specs.declared.layout.Place.{Place}
use Rattle.vg_flatten_shapes.specs.declared.layout.Layout.{Layout}
use Rattle.vg_flatten_shapes.specs.declared.layout.Passing.{Passing}
use Rattle.vg_flatten_shapes.specs.declared.layout.Width.{Width}
use Rattle.vg_flatten_shapes.specs.declared.room.Room.{Room}
use Rattle.vg_flatten_shapes.specs.Shapes.{Shape, only, empty, is_empty, is_free, same_operand, same_homes, Taken, taken, temp}
use Rattle.vg_flatten_shapes.specs.Blocks.{Block, Skip, One, CallTo, TakeInterrupt, GiveBack, BreakOut, GoOn, Both, Choice, Repeat, stop_where}
use Rattle.vg_flatten_shapes.specs.Blocks.{branch, closed, call_code, open_code, set_in}
use Rattle.vg_flatten_shapes.proofs.Choices.{choice_cases}
use Rattle.vg_flatten_shapes.specs.Made.{Made, Gives, Refused, behind, after, by_temp, settled, settled_as, Tested, tested, is_zero}
use Rattle.vg_flatten_values.specs.Values.{computing, comparing, computed, operated, operated_as, bytes_of, bytes_around, cut_bits, cut, applied}
use Rattle.vg_flatten_values.specs.Values.{divided, masked, shifted_left, shifted_right, combined, divisor_checked, may_be_zero}
use Rattle.vg_flatten_places.specs.Places.{is_width, fetched, fetched_from, load_one, load_of, length_of, lone_of, known_length, array_length, places_in, memory_of, multiplied}
use Rattle.vg_flatten_places.specs.Places.{store_one, store_of, is_place, load_inside, load_item, store_inside, store_item, no_element}
use Rattle.vg_flatten_steps.specs.Locals.{at_local, set_local, forgotten, written}
use Rattle.vg_flatten_steps.specs.Calls.{in_widths, with_taken, passing_of, with_receiver, resulting, called, called_on, called_by as called_by', bound_for}
use Rattle.vg_flatten_steps.specs.Objects.{is_one_of, cast_to}
use Rattle.vg_flatten_places.specs.Places.{may_be_null, null_check, load_no_field, store_no_field, load_nothing, store_nothing}
use Rattle.vg_flatten_steps.specs.Steps.{stepped}
use Rattle.vg_flatten_control.specs.Flat.{landed_as, landed, joined, chosen, where_empty, repeated, repeated_test, repeated_body, repeated_next}
use Rattle.vg_flatten_control.specs.Flat.{given_back, flat}
use Rattle.vg_flatten.specs.Flattened.{zeroes, own_params, whole}
use Rattle.vg_flatten.specs.Calls.{Called, Named, Found, called_by, calls_of, callee_of, called_at, calls_in}

-- ---- blocks

abbrev pub open_at : Open → List Called
open_at (Set i) = called_at i
open_at o = []

abbrev pub open_in : List Open → List Called
open_in [] = []
open_in (o ∷ os) = open_at o ++ open_in os

open_both : (os qs : List Open) → open_in (os ++ qs) ≡ open_in os ++ open_in qs
open_both [] qs = refl
open_both (o ∷ os) qs = ap (λ z. open_at o ++ z) (open_both os qs) ∙ sym (append_assoc (open_at o) (open_in os) (open_in qs))

open_closed : (u v : ℕ) (os : List Open) → open_in (map (closed u v) os) ≡ open_in os
open_closed u v [] = refl
open_closed u v (Set i ∷ os) = ap (λ z. called_at i ++ z) (open_closed u v os)
open_closed u v (Breaking ∷ os) = open_closed u v os
open_closed u v (Continuing ∷ os) = open_closed u v os

pub in_set : (u v : ℕ) (os : List Open) → calls_in (map (set_in u v) os) ≡ open_in os
in_set u v [] = refl
in_set u v (Set i ∷ os) = ap (λ z. called_at i ++ z) (in_set u v os)
in_set u v (Breaking ∷ os) = in_set u v os
in_set u v (Continuing ∷ os) = in_set u v os

branch_quiet : (t : Truth) (to : ℕ) → called_at (branch t to) ≡ []
branch_quiet (Holds t) to = refl
branch_quiet (Fails t) to = refl

abbrev pub block_calls : Block → List Called
block_calls (CallTo pushed c) = callee_of c.callee ∷ []
block_calls (Both a b) = block_calls a ++ block_calls b
block_calls (Choice t a b) = block_calls a ++ block_calls b
block_calls (Repeat p t body next) = block_calls p ++ (block_calls body ++ block_calls next)
block_calls b = []

pushes_call : (pushed : List Passed) (c : Calling) → open_in (call_code pushed c) ≡ callee_of c.callee ∷ []
pushes_call [] c = refl
pushes_call (a ∷ more) c = pushes_call more c

pub block_has : (b : Block) (at : ℕ) → open_in (open_code b at) ≡ block_calls b
block_has Skip at = refl
block_has (One p) at = refl
block_has (CallTo pushed c) at = pushes_call pushed c
block_has TakeInterrupt at = refl
block_has (GiveBack w a) at = refl
block_has BreakOut at = refl
block_has GoOn at = refl
block_has (Both a b) at =
    open_both (open_code a at) (open_code b (at + length (open_code a at))) ∙ ap (λ z. z ++ open_in (open_code b (at + length (open_code a at)))) (block_has a at)
    ∙ ap (λ z. block_calls a ++ z) (block_has b (at + length (open_code a at)))
block_has (Choice t a b) at =
    let ha = block_has a (at + 1) in
    let hb = block_has b (at + 1 + length xs + 1) in
    choice_cases (λ z. open_in z ≡ block_calls a ++ block_calls b) t at xs ys
    (λ e. ap (λ z. z ++ open_in xs) (branch_quiet t (at + 1 + length xs)) ∙ ha ∙ sym (append-nil (block_calls a))
    ∙ ap (λ z. block_calls a ++ z) (sym (ap open_in e) ∙ hb))
    (ap (λ z. z ++ open_in (xs ++ (Set (Jump (at + 1 + length xs + 1 + length ys)) ∷ ys))) (branch_quiet t (at + 1 + length xs + 1))
    ∙ open_both xs (Set (Jump (at + 1 + length xs + 1 + length ys)) ∷ ys) ∙ ap (λ z. z ++ open_in ys) ha ∙ ap (λ z. block_calls a ++ z) hb)
  where
    xs : List Open
    xs = open_code a (at + 1)

    ys : List Open
    ys = open_code b (at + 1 + length xs + 1)
block_has (Repeat p t body next) at =
    let hp = block_has p at in
    let hb = block_has body u in
    let hn = block_has next n in
    open_both xs (Set (branch t e) ∷ (map (closed e n) ys ++ (zs ++ (Set (Jump at) ∷ []))))
    ∙ ap (λ z. z ++ (called_at (branch t e) ++ open_in (map (closed e n) ys ++ (zs ++ (Set (Jump at) ∷ []))))) hp
    ∙ ap (λ z. block_calls p ++ (z ++ open_in (map (closed e n) ys ++ (zs ++ (Set (Jump at) ∷ []))))) (branch_quiet t e)
    ∙ ap (λ z. block_calls p ++ z) (open_both (map (closed e n) ys) (zs ++ (Set (Jump at) ∷ []))
    ∙ ap (λ z. z ++ open_in (zs ++ (Set (Jump at) ∷ []))) (open_closed e n ys ∙ hb)
    ∙ ap (λ z. block_calls body ++ z) (open_both zs (Set (Jump at) ∷ []) ∙ append-nil (open_in zs) ∙ hn))
  where
    xs : List Open
    xs = open_code p at

    u : ℕ
    u = at + length xs + 1

    ys : List Open
    ys = open_code body u

    n : ℕ
    n = u + length ys

    zs : List Open
    zs = open_code next n

    e : ℕ
    e = n + length zs + 1

-- ---- what is made

abbrev pub HasCalls : List Called → Made → Type 0
HasCalls xs (Gives b s) = block_calls b ≡ xs
HasCalls xs (Refused why) = Unit {0}

abbrev pub Quiet : Made → Type 0
Quiet made = HasCalls [] made

pub calls_behind : (xs ys : List Called) (a : Block) (made : Made) → block_calls a ≡ xs → HasCalls ys made → HasCalls (xs ++ ys) (behind a made)
calls_behind xs ys a (Gives b s) ha hm = ap (λ z. z ++ block_calls b) ha ∙ ap (λ z. xs ++ z) hm
calls_behind xs ys a (Refused why) ha hm = tt

pub calls_after : (xs ys : List Called) (made : Made) (more : Shape → Made) → HasCalls xs made → ((s : Shape) → HasCalls ys (more s))
    → HasCalls (xs ++ ys) (after made more)
calls_after xs ys (Gives a s) more hm h = calls_behind xs ys a (more s) hm (h s)
calls_after xs ys (Refused why) more hm h = tt

pub calls_temp : (xs : List Called) (o : Option ℕ) (go : ℕ → Made) → ((to : ℕ) → HasCalls xs (go to)) → HasCalls xs (by_temp o go)
calls_temp xs (Some to) go h = h to
calls_temp xs None go h = tt

pub calls_if : (xs : List Called) (b : Bool) (x y : Made) → HasCalls xs x → HasCalls xs y → HasCalls xs (if b then x else y)
calls_if xs true x y h g = h
calls_if xs false x y h g = g

pub quiet_temp : (o : Option ℕ) (go : ℕ → Made) → ((to : ℕ) → Quiet (go to)) → Quiet (by_temp o go)
quiet_temp o go h = calls_temp [] o go h

quiet_if : (b : Bool) (x y : Made) → Quiet x → Quiet y → Quiet (if b then x else y)
quiet_if b x y h g = calls_if [] b x y h g

pub quiet_settled : (r : Room) (s : Shape) → Quiet (settled r s)
quiet_settled r s = by_truth s.truth
  where
    by_truth : (o : Option Truth) → Quiet (settled_as r o s.homes)
    by_truth None = refl
    by_truth (Some t) = quiet_temp (temp r s.homes) _ (λ to. refl)

-- ---- steps

module _ (lay : Layout) (r : Room) where
  quiet_computed : (op : LinOperator) (width : ℕ) (a b : Operand) (hs : List Operand) → Quiet (computed r op width a b hs)
  quiet_computed op width a b hs = quiet_temp (temp r hs) _ (λ to. refl)

  divisor_quiet : (b : Operand) → block_calls (divisor_checked b) ≡ []
  divisor_quiet b = by_zero (may_be_zero b)
    where
      by_zero : (c : Bool) → block_calls (if c then stop_where 3 (Holds (is_zero b)) else Skip) ≡ []
      by_zero true = refl
      by_zero false = refl

  null_quiet : (a : Operand) → block_calls (null_check r a) ≡ []
  null_quiet a = by_null (may_be_null r a)
    where
      by_null : (c : Bool) → block_calls (if c then stop_where 1 (Holds (is_zero a)) else Skip) ≡ []
      by_null true = refl
      by_null false = refl

  -- the null check, and what is done behind it
  behind_null : (a : Operand) {cs ds : List Called} → cs ≡ ds → block_calls (null_check r a) ++ cs ≡ ds
  behind_null a {cs} {ds} e = ap (λ z. z ++ cs) (null_quiet a) ∙ e

  quiet_divided : (op : LinOperator) (a b : Operand) (hs : List Operand) → Quiet (divided r op a b hs)
  quiet_divided op a b hs = quiet_temp (temp r hs) _ (λ to. ap (λ z. z ++ []) (divisor_quiet b))

  quiet_masked : (bits : ℕ) (o : Option ℕ) (a b : Operand) (hs : List Operand) → Quiet (masked r bits o a b hs)
  quiet_masked bits None a b hs = refl
  quiet_masked bits (Some width) a b hs = quiet_temp (temp r hs) _ (λ to. refl)

  quiet_left : (bits : ℕ) (o : Option ℕ) (a b : Operand) (hs : List Operand) → Quiet (shifted_left r bits o a b hs)
  quiet_left bits None a b hs = quiet_masked bits (bytes_around bits) a b hs
  quiet_left bits (Some width) a b hs = quiet_computed _ width a b hs

  quiet_right : (bits : ℕ) (a b : Operand) (hs : List Operand) → Quiet (shifted_right r bits a b hs)
  quiet_right bits a (Known k) hs = quiet_if (nat_lt k bits) _ _ (quiet_computed _ _ a (Known k) hs) refl
  quiet_right bits a (Local i) hs = quiet_computed _ _ a (Local i) hs

  quiet_combined : (op : Operator) (a b : Operand) (hs : List Operand) → Quiet (combined r op a b hs)
  quiet_combined Divide a b hs = quiet_divided _ a b hs
  quiet_combined Remainder a b hs = quiet_divided _ a b hs
  quiet_combined (ShiftLeft bits) a b hs = quiet_left bits (bytes_of bits) a b hs
  quiet_combined (ShiftRight bits) a b hs = quiet_right bits a b hs
  quiet_combined (Concat bits) a b hs = quiet_temp (temp r hs) _ (λ to. refl)
  quiet_combined Plus a b hs = refl
  quiet_combined Minus a b hs = refl
  quiet_combined Times a b hs = refl
  quiet_combined (Less o) a b hs = refl
  quiet_combined (AtMost o) a b hs = refl
  quiet_combined (Greater o) a b hs = refl
  quiet_combined (AtLeast o) a b hs = refl
  quiet_combined Equal a b hs = refl
  quiet_combined Unequal a b hs = refl
  quiet_combined And a b hs = refl
  quiet_combined Or a b hs = refl
  quiet_combined Xor a b hs = refl

  quiet_operated : (op : Operator) (hs : List Operand) → Quiet (operated r op hs)
  quiet_operated op [] = tt
  quiet_operated op (b ∷ []) = tt
  quiet_operated op (b ∷ a ∷ hs) = by_kind (computing op) (comparing op a b)
    where
      by_kind : (o : Option LinOperator) (t : Option Truth) → Quiet (operated_as r op o t a b hs)
      by_kind (Some lop) t = quiet_computed lop 4 a b hs
      by_kind None (Some t) = refl
      by_kind None None = quiet_combined op a b hs

  quiet_cut_bits : (bits : ℕ) (o : Option ℕ) (a : Operand) (hs : List Operand) → Quiet (cut_bits r bits o a hs)
  quiet_cut_bits bits None a hs = refl
  quiet_cut_bits bits (Some width) a hs = quiet_computed _ width a _ hs

  quiet_cut : (bits : ℕ) (o : Option ℕ) (a : Operand) (hs : List Operand) → Quiet (cut r bits o a hs)
  quiet_cut bits None a hs = quiet_cut_bits bits (bytes_around bits) a hs
  quiet_cut bits (Some width) a hs = quiet_computed _ width a _ hs

  quiet_applied : (op : Prefix) (hs : List Operand) → Quiet (applied r op hs)
  quiet_applied Not [] = tt
  quiet_applied Negative [] = tt
  quiet_applied (Cut bits) [] = tt
  quiet_applied (Complement bits) [] = tt
  quiet_applied Not (a ∷ hs) = refl
  quiet_applied Negative (a ∷ hs) = quiet_computed _ 4 _ a hs
  quiet_applied (Cut bits) (a ∷ hs) = quiet_cut bits (bytes_of bits) a hs
  quiet_applied (Complement bits) (a ∷ hs) = quiet_if (nat_le bits 32) _ _ (quiet_computed _ _ _ a hs) refl

  quiet_at_local : (j : ℕ) (hs : List Operand) → Quiet (at_local r j hs)
  quiet_at_local j hs = quiet_if (nat_lt j r.locals) _ _ refl tt

  quiet_set : (i : ℕ) (hs : List Operand) → Quiet (set_local r i hs)
  quiet_set i [] = tt
  quiet_set i (a ∷ hs) = quiet_if (nat_lt (r.receiver + i) r.locals && is_free (r.receiver + i) (reverse hs)) _ _ refl tt

  -- ---- calls

  calls_taken : (xs : List Called) (o : Option Taken) (go : List Operand → List Operand → Made)
      → ((args rest : List Operand) → HasCalls xs (go args rest)) → HasCalls xs (with_taken o go)
  calls_taken xs (Some t) go h = h t.args t.rest
  calls_taken xs None go h = tt

  calls_resulting : (q : ℕ) (o : Option Width) (xs : List Passed) (rest : List Operand) → HasCalls (Named q ∷ []) (resulting r (ByNumber q) o xs rest)
  calls_resulting q (Some w) xs rest = calls_temp (Named q ∷ []) (temp r rest) _ (λ to. refl)
  calls_resulting q None xs rest = refl

  calls_called : (q count : ℕ) (hs : List Operand) → HasCalls (Named q ∷ []) (called lay r q count hs)
  calls_called q count hs =
      calls_taken (Named q ∷ []) (taken count hs) _ (λ xs rest. calls_resulting q p.result (in_widths p.widths (with_receiver p.receives xs)) rest)
    where
      p : Passing
      p = passing_of (slice_get lay.passing q)

  calls_on : (d code : ℕ) (xs rest : List Operand) → HasCalls (Found ∷ []) (called_on r d code xs rest)
  calls_on d code [] rest = tt
  calls_on d code (a ∷ xs) rest = calls_temp (Found ∷ []) (temp r rest) _ (λ to. behind_null a refl)

  calls_by : (receiver : ℕ) (xs rest : List Operand) → HasCalls (Found ∷ []) (called_by' r receiver xs rest)
  calls_by receiver [] rest = tt
  calls_by receiver (a ∷ xs) rest = calls_temp (Found ∷ []) (temp r rest) _ (λ to. refl)

  quiet_bound_for : (d : ℕ) (hs : List Operand) → Quiet (bound_for r d hs)
  quiet_bound_for d [] = tt
  quiet_bound_for d (a ∷ hs) = quiet_temp (temp r hs) _ (λ to. quiet_temp (temp r (a ∷ hs)) _ (λ above. behind_null a refl))

  -- ---- objects, columns and elements

  quiet_one_of : (first count : ℕ) (hs : List Operand) → Quiet (is_one_of r first count hs)
  quiet_one_of first count [] = tt
  quiet_one_of first count (a ∷ hs) = quiet_if (nat_lt (first + count) (2 ^ 32)) _ _ (quiet_temp (temp r hs) _ (λ to. refl)) tt

  quiet_cast : (first count : ℕ) (hs : List Operand) → Quiet (cast_to r first count hs)
  quiet_cast first count [] = tt
  quiet_cast first count (a ∷ hs) = quiet_if (nat_lt (first + count) (2 ^ 32)) _ _ (quiet_temp (temp r (a ∷ hs)) _ (λ to. refl)) tt

  quiet_nothing : (hs : List Operand) → Quiet (load_nothing hs)
  quiet_nothing [] = tt
  quiet_nothing (a ∷ hs) = refl

  quiet_no_store : (hs : List Operand) → Quiet (store_nothing hs)
  quiet_no_store [] = tt
  quiet_no_store (v ∷ []) = tt
  quiet_no_store (v ∷ a ∷ hs) = refl

  quiet_no_field : (hs : List Operand) → Quiet (load_no_field r hs)
  quiet_no_field [] = tt
  quiet_no_field (a ∷ hs) = null_quiet a

  quiet_no_field_store : (hs : List Operand) → Quiet (store_no_field r hs)
  quiet_no_field_store [] = tt
  quiet_no_field_store (v ∷ []) = tt
  quiet_no_field_store (v ∷ a ∷ hs) = null_quiet a

  multiplied_quiet : (to by : ℕ) (h : Operand) → block_calls (multiplied to by h) ≡ []
  multiplied_quiet to by h = by_one (by == 1)
    where
      by_one : (b : Bool) → block_calls (if b then Skip else One (Compute (record { operator = Product; width = 2; to = to; left = h; right = Known by }))) ≡ []
      by_one true = refl
      by_one false = refl

  quiet_fetched : (memory : Memory) (width by base : ℕ) (a : Operand) (hs : List Operand) → Quiet (fetched r memory width by base a hs)
  quiet_fetched memory width by base a hs =
      quiet_temp (temp r hs) _ (λ to. behind_null a (ap (λ z. z ++ []) (multiplied_quiet to by a)))

  quiet_fetched_from : (memory : Memory) (width first base : ℕ) (a : Operand) (hs : List Operand) → Quiet (fetched_from r memory width first base a hs)
  quiet_fetched_from memory width first base a hs =
      quiet_temp (temp r hs) _ (λ to. behind_null a (ap (λ z. z ++ []) (multiplied_quiet to width (Local to))))

  quiet_load_one : (memory : Memory) (o : Option Place) (hs : List Operand) → Quiet (load_one r memory o hs)
  quiet_load_one memory None hs = tt
  quiet_load_one memory (Some place) hs = quiet_if (is_width place.width) _ _ (quiet_temp (temp r hs) _ (λ to. refl)) tt

  quiet_load_of : (memory : Memory) (first : ℕ) (o : Option Place) (hs : List Operand) → Quiet (load_of r memory first o hs)
  quiet_load_of memory first None hs = tt
  quiet_load_of memory first (Some place) [] = tt
  quiet_load_of memory first (Some place) (a ∷ hs) =
      quiet_if (is_width place.width) _ _
      (quiet_if (place.count == 1) _ _ (quiet_temp (temp r hs) _ (λ to. behind_null a refl))
      (quiet_if (nat_le (place.width * first) place.address) _ _ (quiet_fetched memory place.width place.width _ a hs)
      (quiet_fetched_from memory place.width first place.address a hs))) tt

  quiet_length : (o : Option ℕ) (hs : List Operand) → Quiet (length_of r o hs)
  quiet_length None hs = quiet_nothing hs
  quiet_length (Some table) [] = tt
  quiet_length (Some table) (a ∷ hs) = quiet_if (nat_le 2 table) _ _ (quiet_fetched _ 2 4 _ a hs) tt

  quiet_known_length : (length : ℕ) (hs : List Operand) → Quiet (known_length length hs)
  quiet_known_length length [] = tt
  quiet_known_length length (a ∷ hs) = refl

  quiet_array_length : (single : Option ArrayPlace) (o : Option ℕ) (hs : List Operand) → Quiet (array_length r single o hs)
  quiet_array_length (Some a) o hs = quiet_known_length a.length hs
  quiet_array_length None o hs = quiet_length o hs

  quiet_store_one : (width : ℕ) (o : Option Place) (hs : List Operand) → Quiet (store_one width o hs)
  quiet_store_one width None hs = tt
  quiet_store_one width (Some place) [] = tt
  quiet_store_one width (Some place) (v ∷ hs) = quiet_if (is_width width && (width == place.width)) _ _ refl tt

  quiet_store_of : (first width : ℕ) (o : Option Place) (hs : List Operand) → Quiet (store_of r first width o hs)
  quiet_store_of first width None hs = tt
  quiet_store_of first width (Some place) [] = tt
  quiet_store_of first width (Some place) (v ∷ []) = tt
  quiet_store_of first width (Some place) (v ∷ a ∷ hs) =
      quiet_if (is_width width && (width == place.width)) _ _
      (quiet_if (place.count == 1) _ _ (behind_null a refl)
      (quiet_if (nat_le (width * first) place.address) _ _
      (quiet_temp (temp r (v ∷ a ∷ hs)) _ (λ to. behind_null a (ap (λ z. z ++ []) (multiplied_quiet to width a))))
      (quiet_temp (temp r (v ∷ a ∷ hs)) _ (λ to. behind_null a (ap (λ z. z ++ []) (multiplied_quiet to width (Local to))))))) tt

  quiet_no_element : (width table : ℕ) (a i : Operand) (hs left : List Operand) → Quiet (no_element r width table a i hs left)
  quiet_no_element width table a i hs left =
      quiet_temp (temp r (i ∷ a ∷ hs)) _ (λ first. quiet_temp (temp r (Local first ∷ i ∷ a ∷ hs)) _ (λ second. refl))

  quiet_load_inside : (single : Option ArrayPlace) (e : Elements) (table : ℕ) (a i : Operand) (hs : List Operand)
      → Quiet (load_inside r single e table a i hs)
  quiet_load_inside (Some x) e table a i hs = quiet_temp (temp r hs) _ (λ to. ap (λ z. z ++ []) (multiplied_quiet to e.width i))
  quiet_load_inside None e table a i hs =
      quiet_temp (temp r hs) _ (λ to. quiet_temp (temp r (i ∷ a ∷ hs)) _ (λ first.
      quiet_temp (temp r (Local first ∷ i ∷ a ∷ hs)) _ (λ second. refl)))

  quiet_load_item : (single : Option ArrayPlace) (e : Elements) (o : Option Place) (u : Option ℕ) (hs : List Operand) → Quiet (load_item r single e o u hs)
  quiet_load_item single e o None [] = tt
  quiet_load_item single e o None (i ∷ hs) = quiet_nothing hs
  quiet_load_item single e None (Some table) [] = tt
  quiet_load_item single e None (Some table) (i ∷ []) = tt
  quiet_load_item single e None (Some table) (i ∷ a ∷ hs) =
      quiet_if (nat_le 4 table) _ _ (quiet_no_element e.width table a i hs (Known 0 ∷ hs)) tt
  quiet_load_item single e (Some place) (Some table) [] = tt
  quiet_load_item single e (Some place) (Some table) (i ∷ []) = tt
  quiet_load_item single e (Some place) (Some table) (i ∷ a ∷ hs) =
      quiet_if (is_width e.width && is_place e place && nat_le 4 table) _ _ (quiet_load_inside single e table a i hs) tt

  quiet_store_inside : (single : Option ArrayPlace) (width table : ℕ) (v a i : Operand) (hs : List Operand)
      → Quiet (store_inside r single width table v a i hs)
  quiet_store_inside (Some x) width table v a i hs = quiet_temp (temp r (v ∷ i ∷ a ∷ hs)) _ (λ to. ap (λ z. z ++ []) (multiplied_quiet to width i))
  quiet_store_inside None width table v a i hs =
      quiet_temp (temp r (v ∷ i ∷ a ∷ hs)) _ (λ first. quiet_temp (temp r (Local first ∷ v ∷ i ∷ a ∷ hs)) _ (λ second. refl))

  quiet_store_item : (single : Option ArrayPlace) (e : Elements) (o : Option Place) (u : Option ℕ) (hs : List Operand) → Quiet (store_item r single e o u hs)
  quiet_store_item single e o None [] = tt
  quiet_store_item single e o None (v ∷ []) = tt
  quiet_store_item single e o None (v ∷ i ∷ hs) = quiet_no_store (v ∷ hs)
  quiet_store_item single e None (Some table) [] = tt
  quiet_store_item single e None (Some table) (v ∷ []) = tt
  quiet_store_item single e None (Some table) (v ∷ i ∷ []) = tt
  quiet_store_item single e None (Some table) (v ∷ i ∷ a ∷ hs) = quiet_if (nat_le 4 table) _ _ (quiet_no_element e.width table a i hs hs) tt
  quiet_store_item single e (Some place) (Some table) [] = tt
  quiet_store_item single e (Some place) (Some table) (v ∷ []) = tt
  quiet_store_item single e (Some place) (Some table) (v ∷ i ∷ []) = tt
  quiet_store_item single e (Some place) (Some table) (v ∷ i ∷ a ∷ hs) =
      quiet_if (is_width e.width && is_place e place && nat_le 4 table) _ _ (quiet_store_inside single e.width table v a i hs) tt

  quiet_forgotten : (hs : List Operand) → Quiet (forgotten hs)
  quiet_forgotten [] = tt
  quiet_forgotten (a ∷ hs) = refl

  quiet_written : (address : ℕ) (hs : List Operand) → Quiet (written address hs)
  quiet_written address [] = tt
  quiet_written address (a ∷ hs) = refl

  pub calls_step : (p : Step) (hs : List Operand) → HasCalls (called_by p) (stepped lay r p hs)
  calls_step (Number v) hs = quiet_if (nat_lt v (2 ^ 32)) _ _ refl tt
  calls_step This hs = quiet_if (r.receiver == 0) _ _ refl (quiet_at_local 0 hs)
  calls_step (GetLocal i) hs = quiet_at_local (r.receiver + i) hs
  calls_step (SetLocal i) hs = quiet_set i hs
  calls_step Forget hs = quiet_forgotten hs
  calls_step (Operate op) hs = quiet_operated op hs
  calls_step (Apply op) hs = quiet_applied op hs
  calls_step (ReadDevice address) hs = quiet_temp (temp r hs) _ (λ to. refl)
  calls_step (WriteDevice address) hs = quiet_written address hs
  calls_step (Load home c) hs = quiet_load_one (memory_of home) (slice_get (places_in lay home) c) hs
  calls_step (Store c width) hs = quiet_store_one width (slice_get lay.ram c) hs
  calls_step (LoadAt home c first) hs = quiet_load_of (memory_of home) first (slice_get (places_in lay home) c) hs
  calls_step (StoreAt c first width) hs = quiet_store_of first width (slice_get lay.ram c) hs
  calls_step LoadNothing hs = quiet_no_field hs
  calls_step StoreNothing hs = quiet_no_field_store hs
  calls_step (LoadItem e) hs = quiet_load_item (lone_of lay e.table) e (slice_get (places_in lay e.home) e.column) (slice_get lay.tables e.table) hs
  calls_step (StoreItem e) hs = quiet_store_item (lone_of lay e.table) e (slice_get lay.ram e.column) (slice_get lay.tables e.table) hs
  calls_step (Length t) hs = quiet_array_length (lone_of lay t) (slice_get lay.tables t) hs
  calls_step (IsWithin first count) hs = quiet_one_of first count hs
  calls_step (StopUnlessWithin first count) hs = quiet_cast first count hs
  calls_step (Bind q) hs = quiet_temp (temp r hs) _ (λ to. refl)
  calls_step (BindFor d) hs = quiet_bound_for d hs
  calls_step (Call q count) hs = calls_called q count hs
  calls_step (CallFor d count) hs =
      calls_temp (Found ∷ []) (temp r hs) _ (λ code. calls_taken (Found ∷ []) (taken (count + 1) hs) _ (λ xs rest. calls_on d code xs rest))
  calls_step (CallValue count) hs =
      calls_temp (Found ∷ []) (temp r hs) _ (λ receiver. calls_taken (Found ∷ []) (taken (count + 1) hs) _ (λ xs rest. calls_by receiver xs rest))
  calls_step Idle hs = refl

  -- ---- code

  calls_landed : (xs : List Called) (made : Made) → HasCalls xs made → HasCalls xs (landed r made)
  calls_landed xs made h =
      subst (λ z. HasCalls z (landed r made)) (append-nil xs)
      (calls_after xs [] made _ h (λ s. calls_after [] [] (settled r s) _ (quiet_settled r s) (λ s1. landed_quiet s1.homes)))
    where
      landed_quiet : (hs : List Operand) → Quiet (landed_as r hs)
      landed_quiet [] = refl
      landed_quiet (h ∷ hs) = quiet_temp (temp r hs) _ (λ to. quiet_if (same_operand (Local to) h) _ _ refl refl)

  pub calls_joined : (xs ys : List Called) (t : Truth) (x y : Made) → HasCalls xs x → HasCalls ys y → HasCalls (xs ++ ys) (joined t x y)
  calls_joined xs ys t (Refused why) y hx hy = tt
  calls_joined xs ys t (Gives a s) (Refused why) hx hy = tt
  calls_joined xs ys t (Gives a s) (Gives b s1) hx hy =
      calls_if (xs ++ ys) (same_homes (reverse s.homes) (reverse s1.homes)) (Gives (Choice t a b) s) (Refused NotTaken)
      (ap (λ z. z ++ block_calls b) hx ∙ ap (λ z. xs ++ z) hy) tt

  calls_chosen : (xs ys : List Called) (o : Option Tested) (f g : Shape → Made) → ((s : Shape) → HasCalls xs (f s)) → ((s : Shape) → HasCalls ys (g s))
      → HasCalls (xs ++ ys) (chosen r o f g)
  calls_chosen xs ys None f g hf hg = tt
  calls_chosen xs ys (Some t) f g hf hg =
      calls_joined xs ys t.truth (landed r (f (only t.homes))) (landed r (g (only t.homes))) (calls_landed xs (f (only t.homes)) (hf (only t.homes)))
      (calls_landed ys (g (only t.homes)) (hg (only t.homes)))

  pub calls_where : (xs : List Called) (s : Shape) (made : Made) → HasCalls xs made → HasCalls xs (where_empty s made)
  calls_where xs s made h = calls_if xs (is_empty s) made (Refused NotTaken) h tt

  pub calls_repeated : (xs ys zs : List Called) (x y z : Made) → HasCalls xs x → HasCalls ys y → HasCalls zs z → HasCalls (xs ++ (ys ++ zs)) (repeated x y z)
  calls_repeated xs ys zs (Refused why) y z hx hy hz = tt
  calls_repeated xs ys zs (Gives p s) y z hx hy hz = by_test (tested s)
    where
      by_body : (t : Truth) (y : Made) → HasCalls ys y → HasCalls (xs ++ (ys ++ zs)) (repeated_body p t y z)
      by_body t (Refused why) hy = tt
      by_body t (Gives b s1) hy = calls_where (xs ++ (ys ++ zs)) s1 (repeated_next p t b z) (by_next z hz)
        where
          by_next : (z : Made) → HasCalls zs z → HasCalls (xs ++ (ys ++ zs)) (repeated_next p t b z)
          by_next (Refused why) hz = tt
          by_next (Gives c s2) hz =
              calls_where (xs ++ (ys ++ zs)) s2 (Gives (Repeat p t b c) empty)
              (ap (λ k. k ++ (block_calls b ++ block_calls c)) hx ∙ ap (λ k. xs ++ (k ++ block_calls c)) hy ∙ ap (λ k. xs ++ (ys ++ k)) hz)

      by_test : (o : Option Tested) → HasCalls (xs ++ (ys ++ zs)) (repeated_test p o y z)
      by_test None = tt
      by_test (Some t) = calls_where (xs ++ (ys ++ zs)) (only t.homes) (repeated_body p t.truth y z) (by_body t.truth y hy)

  pub quiet_given : (hs : List Operand) → Quiet (given_back r hs)
  quiet_given [] = tt
  quiet_given (a ∷ []) = refl
  quiet_given (a ∷ b ∷ hs) = tt

  pub calls_flat : (c : Code Step) (s : Shape) → HasCalls (calls_of c) (flat lay r c s)
  calls_flat Nothing s = refl
  calls_flat (Then a b) s = calls_after (calls_of a) (calls_of b) (flat lay r a s) (flat lay r b) (calls_flat a s) (calls_flat b)
  calls_flat (Do p) s = calls_after [] (called_by p) (settled r s) _ (quiet_settled r s) (λ s1. calls_step p s1.homes)
  calls_flat (If a b) s = calls_chosen (calls_of a) (calls_of b) (tested s) (flat lay r a) (flat lay r b) (calls_flat a) (calls_flat b)
  calls_flat (Loop c body next) s =
      calls_where (calls_of c ++ (calls_of body ++ calls_of next)) s _
      (calls_repeated (calls_of c) (calls_of body) (calls_of next) (flat lay r c empty) (flat lay r body empty) (flat lay r next empty)
      (calls_flat c empty) (calls_flat body empty) (calls_flat next empty))
  calls_flat Break s = calls_where [] s (Gives BreakOut empty) refl
  calls_flat Continue s = calls_where [] s (Gives GoOn empty) refl
  calls_flat Return s = calls_after [] [] (settled r s) _ (quiet_settled r s) (λ s1. quiet_given s1.homes)

  -- ---- whole procedures

  pub zeroes_quiet : (c i : ℕ) → block_calls (zeroes c i) ≡ []
  zeroes_quiet zero i = refl
  zeroes_quiet (suc c) i = zeroes_quiet c (suc i)

  pub whole_calls : (m : Procedure) (b : Block) (s : Shape) → flat lay r m.body empty ≡ Gives b s → open_in (open_code (whole m b) 0) ≡ calls_of m.body
  whole_calls m b s e =
      block_has (whole m b) 0 ∙ ap (λ z. z ++ (block_calls b ++ [])) (zeroes_quiet (length m.widths - m.params) (own_params m)) ∙ append-nil (block_calls b)
      ∙ subst (HasCalls (calls_of m.body)) e (calls_flat m.body empty)
