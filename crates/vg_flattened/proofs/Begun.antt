-- The locals of a procedure that begins: its parameters have the arguments, and behind the first instructions all others are 0.
use Rattle.std.specs.Prelude.{ℕ, zero, suc, ◌+◌, ◌-◌, ◌<◌, ◌≤◌, ◌^◌, Bool, true, false, ◌==◌, ◌&&◌, nat_lt, List, [], ◌∷◌, ◌++◌, length, replicate, Option, Some, None, slice_get, if◌then◌else◌}
use Rattle.std.proofs.Common.{◌≡◌, ◌≢◌, inl, inr, refl, sym, ap, ◌∙◌, subst, arith}
use Rattle.vg_firm.specs.Meaning.{fits}
use Rattle.vg_firm.specs.Session.{all_fit, may_receive, is_object, may_be_on}
use Rattle.vg_firm.specs.Program.{Procedure as FirmProcedure}
use Rattle.vg_flatten.specs.Flattened.{receivers, with_receiver_width, own_widths, own_params, widened, wide_params, all_widths, IsFit}
use Rattle.vg_flatten.proofs.Whole.{own_long, all_long}
use Rattle.vg_flattened.proofs.Numbers.{low_within}
use Rattle.vg_flattened.proofs.CallRight.{ArePassed}
use Rattle.vg_lin.specs.Values.{low}
use Rattle.vg_lin.specs.State.{LocalState, value_in, with_local}
use Rattle.vg_lin.specs.Meaning.{begun}
use Rattle.vg_flatten_shapes.specs.declared.room.Room.{Room}
use Rattle.vg_flattened.proofs.Related.{AreWidths, IsReceiver, AreKept}
use Rattle.vg_flatten_shapes.proofs.Temps.{some_is, none_is_not}
use Rattle.vg_flattened.proofs.Locals.{written_is, others_stay}

-- ---- lists

pub get_front : (xs ys : List ℕ) (i x : ℕ) → slice_get xs i ≡ Some x → slice_get (xs ++ ys) i ≡ Some x
get_front [] ys i x e = none_is_not x e
get_front (z ∷ xs) ys zero x e = e
get_front (z ∷ xs) ys (suc i) x e = get_front xs ys i x e

pub get_split : (xs ys : List ℕ) (i : ℕ) → i < length xs → slice_get (xs ++ ys) i ≡ slice_get xs i
get_split [] ys i lt = absurd (omega (arith, lt))
get_split (z ∷ xs) ys zero lt = refl
get_split (z ∷ xs) ys (suc i) lt = get_split xs ys i (omega (arith, lt))

pub get_behind : (xs ys : List ℕ) (i : ℕ) → slice_get (xs ++ ys) (length xs + i) ≡ slice_get ys i
get_behind [] ys i = ap (slice_get ys) (from_zero i)
  where
    from_zero : (n : ℕ) → 0 + n ≡ n
    from_zero n = omega arith
get_behind (z ∷ xs) ys i = ap (slice_get (z ∷ xs ++ ys)) (onward (length xs) i) ∙ get_behind xs ys i
  where
    onward : (a b : ℕ) → suc a + b ≡ suc (a + b)
    onward a b = omega arith

pub get_same : (n x i y : ℕ) → slice_get (replicate n x) i ≡ Some y → y ≡ x
get_same zero x i y e = none_is_not y e
get_same (suc n) x zero y e = sym (some_is x y e)
get_same (suc n) x (suc i) y e = get_same n x i y e

pub get_replicate : (n x i : ℕ) → i < n → slice_get (replicate n x) i ≡ Some x
get_replicate zero x i lt = absurd (omega (arith, lt))
get_replicate (suc n) x zero lt = refl
get_replicate (suc n) x (suc i) lt = get_replicate n x i (omega (arith, lt))

pub has_one : (xs : List ℕ) (i : ℕ) → i < length xs → (x : ℕ) × (slice_get xs i ≡ Some x)
has_one [] i lt = absurd (omega (arith, lt))
has_one (x ∷ xs) zero lt = (x, refl)
has_one (x ∷ xs) (suc i) lt = has_one xs i (omega (arith, lt))

-- ---- the widths

-- the local of the packed procedure, behind the receiver
own_get : (b : Bool) (widths : List ℕ) (i w : ℕ) → slice_get widths i ≡ Some w → slice_get (with_receiver_width b widths) (receivers b + i) ≡ Some w
own_get true widths i w h = ap (slice_get (2 ∷ widths)) (one i) ∙ h
  where
    one : (a : ℕ) → 1 + a ≡ suc a
    one a = omega arith
own_get false widths i w h = ap (slice_get widths) (none i) ∙ h
  where
    none : (a : ℕ) → 0 + a ≡ a
    none a = omega arith

widened_get : (n : ℕ) (ws : List ℕ) (i w : ℕ) → slice_get ws i ≡ Some w → w ≤ 4 → (v : ℕ) × (slice_get (widened n ws) i ≡ Some v) × (w ≤ v)
widened_get zero ws i w h le = (w, h, omega arith)
widened_get (suc n) [] i w h le = none_is_not w h
widened_get (suc n) (x ∷ ws) zero w h le = (4, refl, le)
widened_get (suc n) (x ∷ ws) (suc i) w h le = widened_get n ws i w h le

module _ (r : Room) (m : FirmProcedure) (receiver : r.receiver ≡ receivers m.receives) (locals : r.locals ≡ length (own_widths m)) (fit : IsFit m) where
  abbrev pub all : List ℕ
  all = all_widths m ++ replicate r.temps 4

  width_at : (i w : ℕ) → slice_get m.widths i ≡ Some w → (v : ℕ) × (slice_get all (r.receiver + i) ≡ Some v) × (w ≤ v)
  width_at i w h =
      let g = widened_get (wide_params m) m.widths i w h (fit.widths i w h) in (
        g.0,
        ap (λ z. slice_get all (z + i)) receiver
            ∙ get_front (all_widths m) (replicate r.temps 4) (receivers m.receives + i) g.0
            (own_get m.receives (widened (wide_params m) m.widths) i g.0 g.1),
        g.2,
      )

  pub widths_are : AreWidths r m.widths all
  widths_are =
      record {
        locals = width_at;
        temps = λ k lt. ap (λ z. slice_get all (z + k)) (locals ∙ sym (all_long m))
            ∙ get_behind (all_widths m) (replicate r.temps 4) k ∙ get_replicate r.temps 4 k lt;
      }

-- ---- the locals at the entry

pub begun_there : (ws xs : List ℕ) (i w : ℕ) → slice_get ws i ≡ Some w → (o : Option ℕ) × (slice_get (begun ws xs) i ≡ Some (record { width = w; value = o }))
begun_there [] xs i w e = none_is_not w e
begun_there (v ∷ ws) [] zero w e = (None, ap {A = ℕ} (λ z. Some (record { width = z; value = None })) (some_is v w e))
begun_there (v ∷ ws) (x ∷ xs) zero w e = (Some (low v x), ap {A = ℕ} (λ z. Some (record { width = z; value = Some (low v x) })) (some_is v w e))
begun_there (v ∷ ws) [] (suc i) w e = begun_there ws [] i w e
begun_there (v ∷ ws) (x ∷ xs) (suc i) w e = begun_there ws xs i w e

pub begun_value : (ws xs : List ℕ) (i w x : ℕ) → slice_get ws i ≡ Some w → slice_get xs i ≡ Some x → value_in (slice_get (begun ws xs) i) ≡ Some (low w x)
begun_value [] xs i w x e h = none_is_not w e
begun_value (v ∷ ws) [] i w x e h = none_is_not x h
begun_value (v ∷ ws) (y ∷ xs) zero w x e h = ap (λ z. Some (low z y)) (some_is v w e) ∙ ap (λ z. Some (low w z)) (some_is y x h)
begun_value (v ∷ ws) (y ∷ xs) (suc i) w x e h = begun_value ws xs i w x e h

pub each_fits : (ws xs : List ℕ) (i w x : ℕ) → all_fit ws xs ≡ true → slice_get ws i ≡ Some w → slice_get xs i ≡ Some x → x < 256 ^ w
each_fits ws [] i w x a e h = none_is_not x h
each_fits [] (y ∷ xs) i w x a e h = none_is_not w e
each_fits (v ∷ ws) (y ∷ xs) zero w x a e h = by_first (nat_lt y (256 ^ v)) refl a
  where
    lt_of : (m n : ℕ) → nat_lt m n ≡ true → m < n
    lt_of m n l = grind arith

    by_first : (b : Bool) → nat_lt y (256 ^ v) ≡ b → (b && all_fit ws xs) ≡ true → x < 256 ^ w
    by_first true l a1 = subst (λ z. z < 256 ^ w) (some_is y x h) (subst (λ z. y < 256 ^ z) (some_is v w e) (lt_of y (256 ^ v) l))
    by_first false l a1 = absurd (grind arith)
each_fits (v ∷ ws) (y ∷ xs) (suc i) w x a e h = each_fits ws xs i w x (rest (fits v y) a) e h
  where
    rest : (b : Bool) → (b && all_fit ws xs) ≡ true → all_fit ws xs ≡ true
    rest true a1 = a1
    rest false a1 = absurd (grind arith)

-- ---- the others become 0

abbrev pub zeroed : (count from : ℕ) → List LocalState → List LocalState
zeroed zero i ls = ls
zeroed (suc c) i ls = zeroed c (suc i) (with_local ls i 0)

pub zeroed_there : (c i : ℕ) (ls : List LocalState) (j w : ℕ) → (o : Option ℕ) × (slice_get ls j ≡ Some (record { width = w; value = o }))
    → (o : Option ℕ) × (slice_get (zeroed c i ls) j ≡ Some (record { width = w; value = o }))
zeroed_there zero i ls j w h = h
zeroed_there (suc c) i ls j w h = zeroed_there c (suc i) (with_local ls i 0) j w (by_place (j == i) refl h)
  where
    by_place : (b : Bool) → (j == i) ≡ b → (o : Option ℕ) × (slice_get ls j ≡ Some (record { width = w; value = o }))
        → (o : Option ℕ) × (slice_get (with_local ls i 0) j ≡ Some (record { width = w; value = o }))
    by_place true same (o, at) =
        let is : j ≡ i = grind arith in
        (Some (low w 0), subst (λ z. slice_get (with_local ls z 0) j ≡ Some (record { width = w; value = Some (low w 0) })) is (written_is ls j 0 _ at))
    by_place false same (o, at) = let ne : j ≢ i = grind arith in (o, others_stay ls i j 0 ne ∙ at)

pub zeroed_before : (c i : ℕ) (ls : List LocalState) (j : ℕ) → j < i → slice_get (zeroed c i ls) j ≡ slice_get ls j
zeroed_before zero i ls j lt = refl
zeroed_before (suc c) i ls j lt = let ne : j ≢ i = omega (arith, lt) in zeroed_before c (suc i) (with_local ls i 0) j (omega (arith, lt))
    ∙ others_stay ls i j 0 ne

pub low_zero : (w : ℕ) → low w 0 ≡ 0
low_zero w = grind arith

pub zeroed_value : (c i : ℕ) (ls : List LocalState) (j w : ℕ) → i ≤ j → j < i + c → (o : Option ℕ) × (slice_get ls j ≡ Some (record { width = w; value = o }))
    → value_in (slice_get (zeroed c i ls) j) ≡ Some 0
zeroed_value zero i ls j w le lt h = absurd (omega (arith, le, lt))
zeroed_value (suc c) i ls j w le lt (o, at) =
    by_place (λ le1. zeroed_value c (suc i) (with_local ls i 0) j w le1 (omega (arith, lt))) (j == i) refl
  where
    by_place : (suc i ≤ j → (o : Option ℕ) × (slice_get (with_local ls i 0) j ≡ Some (record { width = w; value = o }))
        → value_in (slice_get (zeroed c (suc i) (with_local ls i 0)) j) ≡ Some 0) → (b : Bool) → (j == i) ≡ b
        → value_in (slice_get (zeroed c (suc i) (with_local ls i 0)) j) ≡ Some 0
    by_place more true same =
        let is : j ≡ i = grind arith in
        ap value_in (zeroed_before c (suc i) (with_local ls i 0) j (omega (arith, is)))
        ∙ subst (λ z. value_in (slice_get (with_local ls z 0) j) ≡ Some 0) is (ap value_in (written_is ls j 0 _ at) ∙ ap Some (low_zero w))
    by_place more false same =
        let ne : j ≢ i = grind arith in more (omega (arith, le, ne)) (o, others_stay ls i j 0 ne ∙ at)

-- ---- what is passed

passed_get : (b : Bool) (self : Option ℕ) (args xs : List ℕ) → ArePassed b self args xs → (i v : ℕ) → slice_get args i ≡ Some v
    → slice_get xs (receivers b + i) ≡ Some v
passed_get false self args xs e i v h = ap (slice_get xs) (none i) ∙ ap (λ z. slice_get z i) e ∙ h
  where
    none : (a : ℕ) → 0 + a ≡ a
    none a = omega arith
passed_get true (Some n) args xs e i v h = ap (slice_get xs) (one i) ∙ ap (λ z. slice_get z (suc i)) e ∙ h
  where
    one : (a : ℕ) → 1 + a ≡ suc a
    one a = omega arith
passed_get true None args xs (inl (n, e)) i v h = ap (slice_get xs) (one i) ∙ ap (λ z. slice_get z (suc i)) e ∙ h
  where
    one : (a : ℕ) → 1 + a ≡ suc a
    one a = omega arith
passed_get true None args xs (inr (ea, ex)) i v h = none_is_not v (sym (ap (λ z. slice_get z i) ea) ∙ h)

-- The locals behind the first instructions are those of the packed body at its entry.
module _ (r : Room) (m : FirmProcedure) (receiver : r.receiver ≡ receivers m.receives) (locals : r.locals ≡ length (own_widths m)) (fit : IsFit m)
    (self : Option ℕ) (args xs : List ℕ) (long : length args ≡ m.params) (fits : all_fit m.widths args ≡ true) (may : may_receive m self ≡ true)
    (on : r.on_objects ≡ m.on_objects) (may_on : may_be_on m self ≡ true) (passed : ArePassed m.receives self args xs) where
  abbrev ws : List ℕ
  ws = all r m receiver locals fit

  abbrev others : ℕ
  others = length m.widths - m.params

  own : length (own_widths m) ≡ receivers m.receives + length m.widths
  own = own_long m.receives m.widths

  below : (w x : ℕ) → w ≤ 4 → x < 256 ^ w → x < 2 ^ 32
  below zero x l h = omega (arith, h)
  below (suc zero) x l h = omega (arith, h)
  below (suc (suc zero)) x l h = omega (arith, h)
  below (suc (suc (suc zero))) x l h = omega (arith, h)
  below (suc (suc (suc (suc zero)))) x l h = omega (arith, h)
  below (suc (suc (suc (suc (suc w))))) x l h = absurd (omega (arith, l))

  as_argument : (i v w : ℕ) → i < m.params → slice_get m.widths i ≡ Some w → slice_get args i ≡ Some v
      → (value_in (slice_get (zeroed others (own_params m) (begun ws xs)) (r.receiver + i)) ≡ Some v) × (v < 2 ^ 32)
  as_argument i v w lt hw hx =
      let g = (widths_are r m receiver locals fit).locals i w hw in
      let f1 = each_fits m.widths args i w v fits hw hx in (
        ap value_in (zeroed_before others (own_params m) (begun ws xs) (r.receiver + i) (omega (arith, receiver, lt)))
            ∙ begun_value ws xs (r.receiver + i) g.0 v g.1 (ap (λ z. slice_get xs (z + i)) receiver ∙ passed_get m.receives self args xs passed i v hx)
            ∙ ap Some (low_within w g.0 v g.2 f1),
        below w v (fit.widths i w hw) f1,
      )

  as_zero : (i v w : ℕ) → m.params ≤ i → i < length m.widths → slice_get m.widths i ≡ Some w → v ≡ 0
      → (value_in (slice_get (zeroed others (own_params m) (begun ws xs)) (r.receiver + i)) ≡ Some v) × (v < 2 ^ 32)
  as_zero i v w ge lt hw ez =
      let g = (widths_are r m receiver locals fit).locals i w hw in
      let le = fit.params in (
        zeroed_value others (own_params m) (begun ws xs) (r.receiver + i) g.0 (omega (arith, receiver, ge)) (omega (arith, receiver, ge, lt, le))
            (begun_there ws xs (r.receiver + i) g.0 g.1) ∙ ap Some (sym ez),
        omega (arith, ez),
      )

  by_place : (i v : ℕ) → r.receiver + i < r.locals → slice_get (args ++ replicate others 0) i ≡ Some v → (b : Bool) → nat_lt i m.params ≡ b
      → (value_in (slice_get (zeroed others (own_params m) (begun ws xs)) (r.receiver + i)) ≡ Some v) × (v < 2 ^ 32)
  by_place i v lt h true c =
      let lp : i < m.params = grind arith in
      let lx : i < length args = omega (arith, lp, long) in
      let one = has_one m.widths i (omega (arith, lt, locals, receiver, own)) in
      as_argument i v one.0 lp one.1 (sym (get_split args (replicate others 0) i lx) ∙ h)
  by_place i v lt h false c =
      let ge : m.params ≤ i = grind arith in
      let one = has_one m.widths i (omega (arith, lt, locals, receiver, own)) in
      let at : length args + (i - length args) ≡ i = omega (arith, ge, long) in
      as_zero i v one.0 ge (omega (arith, lt, locals, receiver, own)) one.1
      (get_same others 0 (i - length args) v
      (sym (get_behind args (replicate others 0) (i - length args)) ∙ ap (slice_get (args ++ replicate others 0)) at ∙ h))

  -- the receiver
  two_bytes : (b : Bool) → (widths : List ℕ) → b ≡ true → slice_get (with_receiver_width b widths) 0 ≡ Some 2
  two_bytes true widths e = refl
  two_bytes false widths e = absurd (grind arith)

  received : (n : ℕ) → m.receives ≡ true → n < 256 ^ 2 → slice_get xs 0 ≡ Some n → IsReceiver r (Some n) (zeroed others (own_params m) (begun ws xs))
  received n is lt first =
      let g = two_bytes m.receives (widened (wide_params m) m.widths) is in
      let one : receivers m.receives ≡ 1 = ap receivers is in (
        (omega (arith, receiver, one), omega (arith, locals, own, one)),
        ap value_in (zeroed_before others (own_params m) (begun ws xs) 0 (omega (arith, one)))
            ∙ begun_value ws xs 0 2 n (get_front (all_widths m) (replicate r.temps 4) 0 2 g) first ∙ ap Some (low_within 2 2 n (omega arith) lt),
        small n lt,
      )
    where
      small : (a : ℕ) → a < 256 ^ 2 → a < 2 ^ 32
      small a l = omega (arith, l)

  is_receiver : (o : Option ℕ) → may_receive m o ≡ true → ((n : ℕ) → m.receives ≡ true → o ≡ Some n → slice_get xs 0 ≡ Some n)
      → IsReceiver r o (zeroed others (own_params m) (begun ws xs))
  is_receiver None ok h = tt
  is_receiver (Some n) ok h =
      let both = both_of m.receives (nat_lt n (256 ^ 2)) ok in received n both.0 (lt_of n (256 ^ 2) both.1) (h n both.0 refl)
    where
      both_of : (a b : Bool) → (a && b) ≡ true → (a ≡ true) × (b ≡ true)
      both_of true true e = (refl, refl)
      both_of true false e = absurd (grind arith)
      both_of false b e = absurd (grind arith)

      lt_of : (a b : ℕ) → nat_lt a b ≡ true → a < b
      lt_of a b e = grind arith

  first_passed : (b : Bool) (o : Option ℕ) → ArePassed b o args xs → (n : ℕ) → b ≡ true → o ≡ Some n → slice_get xs 0 ≡ Some n
  first_passed true (Some x) p n is e = ap (λ z. slice_get z 0) p ∙ e
  first_passed true None p n is e = none_is_not n e
  first_passed false o p n is e = absurd (grind arith)

  pub kept_at_entry : AreKept r ws self (args ++ replicate others 0) (zeroed others (own_params m) (begun ws xs))
  kept_at_entry =
      record {
        receiver = is_receiver self may (first_passed m.receives self passed);
        object = λ h. sym (ap (λ z. if z then is_object self else true) (sym on ∙ h)) ∙ may_on;
        there = λ i w h. zeroed_there others (own_params m) (begun ws xs) i w (begun_there ws xs i w h);
        locals = λ i v lt h. by_place i v lt h (nat_lt i m.params) refl;
      }
