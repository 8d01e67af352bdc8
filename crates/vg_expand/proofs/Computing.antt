-- That the code in place of a computation does it. A call of a routine enters it with the operands, the routine gives the result in at
-- least one step, and the result is cut where the computation is narrow.
use Rattle.std.specs.Prelude.{ℕ, zero, suc, ◌+◌, ◌-◌, ◌<◌, ◌≤◌, ◌^◌, Bool, true, false, ◌==◌, ◌&&◌, nat_lt, List, [], ◌∷◌, length, take}
use Rattle.std.specs.Prelude.{Option, Some, None, slice_get, if◌then◌else◌}
use Rattle.std.specs.List.{AllByRecursion}
use Rattle.std.proofs.Common.{◌≡◌, refl, sym, ap, ◌∙◌, subst, arith}
use Rattle.std.proofs.Math.Nat.{mod-mod}
use Rattle.std.proofs.lemmas.Map.Keys.{any_passes_from_place}
use Rattle.vg_meaning.specs.History.{History}
use Rattle.vg_meaning.specs.World.{World}
use Rattle.vg_lin.specs.declared.instr.Operand.{Operand}
use Rattle.vg_lin.specs.declared.instr.Operand.TheVariants.{Local, Known}
use Rattle.vg_lin.specs.declared.instr.Operator.{Operator}
use Rattle.vg_lin.specs.declared.instr.Operator.TheVariants.{Plus, Minus, Times, Divide, Remainder, And, Or, Xor, ShiftLeft, ShiftRight}
use Rattle.vg_lin.specs.declared.instr.Computation.{Computation}
use Rattle.vg_lin.specs.declared.instr.Plain.TheVariants.{Compute}
use Rattle.vg_lin.specs.declared.instr.Callee.TheVariants.{Procedure as ByNumber}
use Rattle.vg_lin.specs.declared.instr.Registers.{Registers}
use Rattle.vg_lin.specs.declared.instr.Registers.TheVariants.{Two, Three}
use Rattle.vg_lin.specs.declared.instr.Call.{Call as Calling}
use Rattle.vg_lin.specs.declared.instr.Instr.{Instr}
use Rattle.vg_lin.specs.declared.instr.Instr.TheVariants.{Plain, Call}
use Rattle.vg_lin.specs.Values.{low, computed}
use Rattle.vg_lin.specs.Sound.{IsWidth}
use Rattle.vg_lin.specs.Program.{Procedure, Program}
use Rattle.vg_lin.specs.State.{Waiting}
use Rattle.vg_lin.specs.State.{LocalState, State, value, value_in, using, with_local, sets, computes}
use Rattle.vg_lin.specs.Meaning.{begun, with_value, values_of, same_widths, entry_with, entry_of, enter, operands, values, call_of, name_of, language, codes_in}
use Rattle.vg_lin.specs.Steps.{Result, Frame, Goes, Entry, Config, open_below, noted, went, calls, performed}
use Rattle.vg_lin.specs.Follows.{Leads, conf}
use Rattle.vg_lin.proofs.Followed.{leads_then, leads_step, free}
use Rattle.vg_arith.specs.Routines.{with_locals, Gives, IsAmount, others, others_widths, passed_widths, routine_of, IsRoutine}
use Rattle.vg_arith.proofs.ShiftRoutines.{fetch_of, by_width, low_low}
use Rattle.vg_expand.specs.Called.{is_call_of, code_calls, is_called}
use Rattle.vg_expand.specs.Expansion.{HasRoutines, IsHeld, Holds, Does}
use Rattle.vg_expand.specs.Code.{in_four, dividing, calling, shifting, shifting_left, shifting_right}

-- these instructions stand in code, from a place on
abbrev pub StandAt : List Instr → ℕ → List Instr → Type 0
StandAt code at [] = Unit {0}
StandAt code at (i ∷ is) = (slice_get code at ≡ Some i) × StandAt code (suc at) is

-- ---- a local that is set

-- what a local holds that was set to a number
pub record Set (ls : List LocalState) (to x : ℕ) : Type 0 where
  pub width : ℕ
  pub is_width : IsWidth width
  pub holds : value_in (slice_get (with_local ls to x) to) ≡ Some (low width x)
  pub again : (u : ℕ) → with_local (with_local ls to x) to u ≡ with_local ls to u
  pub same : (u v : ℕ) → low width u ≡ low width v → with_local ls to u ≡ with_local ls to v

pub set_is : (ws : List ℕ) (ls : List LocalState) (to x : ℕ) → Holds ws ls → AllByRecursion IsWidth ws → to < length ws → Set ls to x
set_is [] [] to x h a b = absurd (omega arith)
set_is [] (l ∷ ls) to x h a b = absurd h
set_is (w ∷ ws) [] to x h a b = absurd h
set_is (w ∷ ws) (l ∷ ls) zero x (e, v, h) (a, more) b =
    record {
      width = l.width;
      is_width = subst IsWidth (sym e) a;
      holds = refl;
      again = λ u. refl;
      same = λ u v g. ap (λ z. record l { value = Some z } ∷ ls) g;
    }
set_is (w ∷ ws) (l ∷ ls) (suc to) x (e, v, h) (a, more) b =
    let r : Set ls to x = set_is ws ls to x h more (omega (arith, b)) in
    record { width = r.width; is_width = r.is_width; holds = r.holds; again = λ u. ap (λ z. l ∷ z) (r.again u); same = λ u v g. ap (λ z. l ∷ z) (r.same u v g) }

-- the value of a local has four bytes
held_small : (w : ℕ) → IsWidth w → (v : Option ℕ) (x : ℕ) → IsHeld w v → v ≡ Some x → x < 2 ^ 32
held_small w h v x a e = by_width (λ w. IsHeld w (Some x) → x < 2 ^ 32) w h (λ g. omega (arith, g)) (λ g. omega (arith, g)) (λ g. omega (arith, g)) (λ g. g)
    (subst (IsHeld w) e a)

pub local_small : (ws : List ℕ) (ls : List LocalState) (i x : ℕ) → Holds ws ls → AllByRecursion IsWidth ws → value_in (slice_get ls i) ≡ Some x → x < 2 ^ 32
local_small [] [] i x h a e = absurd (grind arith)
local_small [] (l ∷ ls) i x h a e = absurd h
local_small (w ∷ ws) [] i x h a e = absurd h
local_small (w ∷ ws) (l ∷ ls) zero x (g, v, h) (a, more) e = held_small w a l.value x v e
local_small (w ∷ ws) (l ∷ ls) (suc i) x (g, v, h) (a, more) e = local_small ws ls i x h more e

-- a number that is cut twice
pub cut_twice : (w t x : ℕ) → IsWidth w → IsWidth t → low t (low w (low t x + 0)) ≡ low t (low w x)
cut_twice w t x hw ht =
    by_width (λ w. low t (low w (low t x + 0)) ≡ low t (low w x)) w hw (by_width (λ t. low t (low 1 (low t x + 0)) ≡ low t (low 1 x)) t ht (omega arith)
    (omega arith) (omega arith) (omega arith))
    (by_width (λ t. low t (low 2 (low t x + 0)) ≡ low t (low 2 x)) t ht (omega arith) (omega arith) (omega arith) (omega arith))
    (by_width (λ t. low t (low 3 (low t x + 0)) ≡ low t (low 3 x)) t ht (omega arith) (omega arith) (omega arith) (omega arith))
    (by_width (λ t. low t (low 4 (low t x + 0)) ≡ low t (low 4 x)) t ht (omega arith) (omega arith) (omega arith) (omega arith))

same_number : (n : ℕ) → (n == n) ≡ true
same_number n = grind arith

-- arguments as they are passed in so many bytes each
abbrev pub sized : (widths xs : List ℕ) → List Waiting
sized [] xs = []
sized (w ∷ ws) [] = []
sized (w ∷ ws) (x ∷ xs) = record { width = w; value = low w x } ∷ sized ws xs

low_again : (w x : ℕ) → low w (low w x) ≡ low w x
low_again w x = mod-mod x (256 ^ w)

begun_sized : (ws : List ℕ) (n : ℕ) (xs : List ℕ) → length xs ≤ n → begun ws (values_of (sized (take n ws) xs)) ≡ begun ws xs
begun_sized [] zero xs h = refl
begun_sized [] (suc n) xs h = refl
begun_sized (w ∷ ws) zero [] h = refl
begun_sized (w ∷ ws) zero (x ∷ xs) h = absurd (omega (arith, h))
begun_sized (w ∷ ws) (suc n) [] h = refl
begun_sized (w ∷ ws) (suc n) (x ∷ xs) h =
    ap (λ v. record { width = w; value = Some v } ∷ begun ws (values_of (sized (take n ws) xs))) (low_again w x)
    ∙ ap (λ ls. record { width = w; value = Some (low w x) } ∷ ls) (begun_sized ws n xs (omega (arith, h)))

same_sized : (ws : List ℕ) (n : ℕ) (xs : List ℕ) → same_widths ws (sized (take n ws) xs) ≡ true
same_sized [] zero xs = refl
same_sized [] (suc n) xs = refl
same_sized (w ∷ ws) zero xs = refl
same_sized (w ∷ ws) (suc n) [] = refl
same_sized (w ∷ ws) (suc n) (x ∷ xs) = ap (λ b. b && same_widths ws (sized (take n ws) xs)) (same_number w) ∙ same_sized ws n xs

others_sized : (op : Operator) (w : ℕ) → length (sized (others_widths op) (others op w)) ≡ length (others op w)
others_sized Plus w = refl
others_sized Minus w = refl
others_sized Times w = refl
others_sized Divide w = refl
others_sized Remainder w = refl
others_sized And w = refl
others_sized Or w = refl
others_sized Xor w = refl
others_sized ShiftLeft w = refl
others_sized ShiftRight w = refl

-- how many instructions stand behind a call
abbrev pub cuts : Bool → ℕ
cuts true = 1
cuts false = 0

module _ (first : ℕ) (m : Procedure) (c : Computation) (p : Program) (q : ℕ) (has : slice_get p.procedures q ≡ Some m) (routines : HasRoutines first p)
    (fs : List (Frame State)) (s : State) (w : World History) where
  abbrev pub at : ℕ → State → Config State
  at pc t = conf q pc fs t w

  abbrev pub To : ℕ → Config State → Config State → Type 0
  To n d e = Leads (language p) (codes_in p.procedures) n d e

  step_at : (pc : ℕ) (t : State) (i : Instr) → slice_get m.code pc ≡ Some i → To 1 (at pc t) (performed (language p) (at pc t) (Some i))
  step_at pc t i e = leads_step (language p) (codes_in p.procedures) (at pc t) _ (ap (performed (language p) (at pc t)) (fetch_of p.procedures q m has pc ∙ e))

  -- the call of a routine
  abbrev pub the_call : ℕ → Registers → Calling
  the_call r rs = record { callee = ByNumber r; pushed = 0; registers = rs; to = Some (record { width = 4; local = c.to }) }

  -- the routine is entered, and its name is no active call
  enters : (pc r : ℕ) (rs : Registers) (k : Procedure) (xs : List ℕ) → slice_get p.procedures r ≡ Some k → k.params ≡ length xs → k.result ≡ 4
      → length (sized (take k.params k.widths) xs) ≡ length xs → k.method ≡ None
      → values (operands rs) s ≡ Some (sized (take k.params k.widths) xs) → slice_get m.code pc ≡ Some (Call (the_call r rs))
      → To 1 (at pc s) (conf r 0 (record { proc = q; pc = pc; kept = s; awaits = Result (the_call r rs) } ∷ fs) (with_locals s.ram (begun k.widths xs)) w)
  enters pc r rs k xs e params four all unnamed vs f =
      subst (λ a. To 1 (at pc s) (record (conf r 0 (frame ∷ fs) begins_in w) {
        openings = noted a (open_below (language p) (frame
            ∷ fs)) w.history.at_openings;
      }))
      (ap name_of e ∙ ap call_of unnamed)
      (subst (λ z. To 1 (at pc s) (calls (language p) (at pc s) (the_call r rs) z)) entry (step_at pc s (Call (the_call r rs)) f))
    where
      frame : Frame State
      frame = record { proc = q; pc = pc; kept = s; awaits = Result (the_call r rs) }

      begins_in : State
      begins_in = with_locals s.ram (begun k.widths xs)

      ps : List Waiting
      ps = sized (take k.params k.widths) xs

      some_if : (a b c : Bool) → List LocalState → Option (Entry State)
      some_if a b c ls = if a && b && c then Some (record { proc = r; state = with_locals s.ram ls; kept = s }) else None

      as_many : (length ps == k.params) ≡ true
      as_many = ap (λ n. n == k.params) all ∙ ap (λ n. length xs == n) params ∙ same_number (length xs)

      entry : enter p (the_call r rs) s ≡ Some (record { proc = r; state = begins_in; kept = s })
      entry =
          ap (λ z. entry_of r z (the_call r rs) s) e ∙ ap (λ z. entry_with r k (Some (record { width = 4; local = c.to })) [] s z) vs
          ∙ ap (λ a. some_if a (same_widths k.widths ps) (4 == k.result) (begun k.widths (values_of ps))) as_many
          ∙ ap (λ b. some_if true b (4 == k.result) (begun k.widths (values_of ps))) (same_sized k.widths k.params xs)
          ∙ ap (λ n. some_if true true (4 == n) (begun k.widths (values_of ps))) four
          ∙ ap (λ ls. some_if true true true ls) (begun_sized k.widths k.params xs (omega (arith, params)))

  -- the whole call
  pub record Called (pc v : ℕ) : Type 0 where
    pub result : ℕ
    pub low_is : low c.width result ≡ v
    pub by : To 1 (at pc s) (at (suc pc) (sets c.to result s))

  called : (pc which x y v : ℕ) (rs : Registers) (op : Operator) → which < 4 → routine_of op ≡ Some which → IsWidth c.width → IsAmount op y
      → computed op c.width x y ≡ Some v → values (operands rs) s ≡ Some (sized (passed_widths op) (x ∷ y ∷ others op c.width))
      → slice_get m.code pc ≡ Some (Call (the_call (first + which) rs)) → Called pc v
  called pc which x y v rs op hk ro hw ha e vs f = from (routines which hk is_there)
    where
      is_there : is_called (first + which) p.procedures ≡ true
      is_there =
          any_passes_from_place (λ (z : Procedure). code_calls (first + which) z.code) p.procedures q m has
          (any_passes_from_place (is_call_of (first + which)) m.code pc (Call (the_call (first + which) rs)) f (same_number (first + which)))

      xs : List ℕ
      xs = x ∷ y ∷ others op c.width

      frame : Frame State
      frame = record { proc = q; pc = pc; kept = s; awaits = Result (the_call (first + which) rs) }

      from : (k : Procedure) × (slice_get p.procedures (first + which) ≡ Some k) × IsRoutine which k → Called pc v
      from (k, g, is) = given (is.gives op ro c.width x y v hw ha e)
        where
          given : (z : ℕ) × (low c.width z ≡ v) × Gives k xs z → Called pc v
          given (z, l, gives) = ends (gives p (first + which) g frame fs s.ram w)
            where
              ends : (left : List LocalState) × To 0 (conf (first + which) 0 (frame
                  ∷ fs) (with_locals s.ram (begun k.widths xs)) w) (at (suc pc) (sets c.to z s))
                  → Called pc v
              ends (left, t) =
                  record {
                    result = z;
                    low_is = l;
                    by = leads_then (language p) (codes_in p.procedures) 1 0 (at pc s) _ _
                        (enters pc (first + which) rs k xs g (is.takes op c.width ro) is.result
                        (ap (λ ws. length (sized ws xs)) (is.passes op ro) ∙ ap (λ n. suc (suc n)) (others_sized op c.width)) is.unnamed
                        (vs ∙ ap (λ ws. Some (sized ws xs)) (sym (is.passes op ro))) f) t;
                  }

  -- the result is cut where the computation is narrow
  pub cut : (pc z v : ℕ) → IsWidth c.width → low c.width z ≡ v → Set s.locals c.to z → (b : Bool) → nat_lt c.width 4 ≡ b
      → StandAt m.code (suc pc)
      (if b then Plain (Compute (record { operator = Plus; width = c.width; to = c.to; left = Local c.to; right = Known 0 })) ∷ [] else [])
      → To 1 (at pc s) (at (suc pc) (sets c.to z s)) → To 1 (at pc s) (at (suc pc + cuts b) (sets c.to v s))
  cut pc z v hw l r true e (f, g) t =
      subst (λ k. To 1 (at pc s) (at k (sets c.to v s))) (next pc)
      (leads_then (language p) (codes_in p.procedures) 1 0 (at pc s) (at (suc pc) (sets c.to z s)) _ t
      (free (language p) (codes_in p.procedures) q (suc pc) fs (sets c.to z s) w _ (at (suc (suc pc)) (sets c.to v s)) (fetch_of p.procedures q m has
      (suc pc) ∙ f)
      (ap (λ a. went (at (suc pc) (sets c.to z s)) (using a (λ x. computes narrow (sets c.to z s) w.outside x 0))) r.holds
      ∙ ap (λ ls. at (suc (suc pc)) (record s { locals = ls }))
      (r.again (low c.width (low r.width z + 0)) ∙ r.same (low c.width (low r.width z + 0)) v (cut_twice c.width r.width z hw r.is_width
      ∙ ap (low r.width) l)))))
    where
      narrow : Computation
      narrow = record { operator = Plus; width = c.width; to = c.to; left = Local c.to; right = Known 0 }

      next : (pc : ℕ) → suc (suc pc) ≡ suc pc + 1
      next pc = omega arith
  cut pc z v hw l r false e g t =
      subst (λ k. To 1 (at pc s) (at k (sets c.to v s))) (next pc)
      (subst (λ ls. To 1 (at pc s) (at (suc pc) (record s { locals = ls })))
      (r.same z v (sym (low_low r.width z r.is_width) ∙ ap (low r.width) (whole c.width hw e l))) t)
    where
      next : (pc : ℕ) → suc pc ≡ suc pc + 0
      next pc = omega arith

      whole : (k : ℕ) → IsWidth k → nat_lt k 4 ≡ false → low k z ≡ v → low 4 z ≡ v
      whole k h = by_width (λ k. nat_lt k 4 ≡ false → low k z ≡ v → low 4 z ≡ v) k h (λ e g. absurd (grind arith)) (λ e g. absurd (grind arith))
          (λ e g. absurd (grind arith)) (λ e g. g)

-- ---- what stands for a computation

length_calling : (r : ℕ) (rs : Registers) (c : Computation) (from : ℕ) → suc from + cuts (nat_lt c.width 4) ≡ from + length (calling r rs c)
length_calling r rs c from = by_test (nat_lt c.width 4)
  where
    by_test : (b : Bool) → suc from + cuts b ≡ from + suc (length (if b then Plain (Compute
        (record { operator = Plus; width = c.width; to = c.to; left = Local c.to; right = Known 0 })) ∷ [] else []))
    by_test true = omega arith
    by_test false = omega arith

-- a call of a routine does the computation, where its registers have the operands and what else the routine takes
pub calling_does : (first : ℕ) (m : Procedure) (from : ℕ) (c : Computation) (which : ℕ) (rs : Registers) → AllByRecursion IsWidth m.widths → IsWidth c.width
    → c.to < length m.widths → which < 4 → routine_of c.operator ≡ Some which
    → ((s : State) (x y : ℕ) → value c.left s ≡ Some x → value c.right s ≡ Some y → values (operands rs) s ≡ Some (sized (passed_widths c.operator) (x ∷ y ∷ others c.operator c.width)))
    → ((s : State) (y : ℕ) → Holds m.widths s.locals → value c.right s ≡ Some y → IsAmount c.operator y)
    → StandAt m.code from (calling (first + which) rs c) → Does first m from (from + length (calling (first + which) rs c)) c
calling_does first m from c which rs ws hw to hk ro vs amount (f, g) p q has routines fs s w x y z held e h r =
    subst (λ k. Leads (language p) (codes_in p.procedures) 1 (conf q from fs s w) (conf q k fs (sets c.to z s) w)) (length_calling (first + which) rs c from)
    (cut first m c p q has routines fs s w from done.result z hw done.low_is (set_is m.widths s.locals c.to done.result held ws to)
    (nat_lt c.width 4) refl g done.by)
  where
    done : Called first m c p q has routines fs s w from z
    done = called first m c p q has routines fs s w from which x y z rs c.operator hk ro hw (amount s y held h) r (vs s x y e h) f

-- the computation itself
pub kept_does : (first : ℕ) (m : Procedure) (from : ℕ) (c : Computation) → StandAt m.code from (Plain (Compute c) ∷ []) → Does first m from (from + 1) c
kept_does first m from c (f, g) p q has routines fs s w x y z held e h r =
    subst (λ k. Leads (language p) (codes_in p.procedures) 1 (conf q from fs s w) (conf q k fs (sets c.to z s) w)) (next from)
    (leads_step (language p) (codes_in p.procedures) (conf q from fs s w) (conf q (suc from) fs (sets c.to z s) w)
    (ap (performed (language p) (conf q from fs s w)) (fetch_of p.procedures q m has from ∙ f)
    ∙ ap (λ a. went (conf q from fs s w) (using a (λ x. using (value c.right s) (computes c s w.outside x)))) e
    ∙ ap (λ b. went (conf q from fs s w) (using b (computes c s w.outside x))) h
    ∙ ap (λ v. went (conf q from fs s w) (using v (λ z. Goes (sets c.to z s) w.outside))) r))
  where
    next : (from : ℕ) → suc from ≡ from + 1
    next from = omega arith

-- the operands in registers
pub two_values : (a b : Operand) (s : State) (x y : ℕ) → value a s ≡ Some x → value b s ≡ Some y
    → values (operands (Two (in_four a) (in_four b))) s ≡ Some (sized (4 ∷ 4 ∷ []) (x ∷ y ∷ []))
two_values a b s x y e h =
    ap (λ v. with_value 4 v (with_value 4 (value b s) (Some []))) e ∙ ap (λ v. with_value 4 (Some x) (with_value 4 v (Some []))) h

three_values : (a b : Operand) (width k : ℕ) (s : State) (x y : ℕ) → value a s ≡ Some x → value b s ≡ Some y
    → values (operands (Three (in_four a) (in_four b) (record { width = width; value = Known k }))) s ≡ Some (sized (4 ∷ 4 ∷ width ∷ []) (x ∷ y ∷ k ∷ []))
three_values a b width k s x y e h =
    ap (λ v. with_value 4 v (with_value 4 (value b s) (with_value width (Some k) (Some [])))) e
    ∙ ap (λ v. with_value 4 (Some x) (with_value 4 v (with_value width (Some k) (Some [])))) h

module _ (first : ℕ) (m : Procedure) (from width to : ℕ) (left right : Operand) (ws : AllByRecursion IsWidth m.widths) (hw : IsWidth width)
    (within : to < length m.widths) where
  abbrev pub of : Operator → Computation
  of op = record { operator = op; width = width; to = to; left = left; right = right }

  -- a shift is a call of its routine, where that is passed what it takes
  shifting_does : (op : Operator) (which : ℕ) (rs : Registers) (a : Operand) → a ≡ right → which < 4 → routine_of op ≡ Some which
      → ((s : State) (x y : ℕ) → value left s ≡ Some x → value right s ≡ Some y
      → values (operands rs) s ≡ Some (sized (passed_widths op) (x ∷ y ∷ others op width)))
      → ((y : ℕ) → y < 2 ^ 32 → IsAmount op y)
      → StandAt m.code from (shifting (first + which) rs (of op) a) → Does first m from (from + length (shifting (first + which) rs (of op) a)) (of op)
  shifting_does op which rs (Known n) e hk ro vs am st = kept_does first m from (of op) st
  shifting_does op which rs (Local i) e hk ro vs am st =
      calling_does first m from (of op) which rs ws hw within hk ro vs
      (λ s y held h. am y (local_small m.widths s.locals i y held ws (ap (λ b. value b s) e ∙ h))) st

  pub shifts_left : StandAt m.code from (shifting (first + 2) (shifting_left (of ShiftLeft)) (of ShiftLeft) right)
      → Does first m from (from + length (shifting (first + 2) (shifting_left (of ShiftLeft)) (of ShiftLeft) right)) (of ShiftLeft)
  shifts_left st =
      shifting_does ShiftLeft 2 (shifting_left (of ShiftLeft)) right refl (omega arith) refl (λ s x y g h. two_values left right s x y g h) (λ y h. h) st

  pub shifts_right : StandAt m.code from (shifting (first + 3) (shifting_right (of ShiftRight)) (of ShiftRight) right)
      → Does first m from (from + length (shifting (first + 3) (shifting_right (of ShiftRight)) (of ShiftRight) right)) (of ShiftRight)
  shifts_right st =
      shifting_does ShiftRight 3 (shifting_right (of ShiftRight)) right refl (omega arith) refl
      (λ s x y g h. three_values left right 4 _ s x y g h
      ∙ ap (λ k. Some (sized (4 ∷ 4 ∷ 4 ∷ []) (x ∷ y ∷ k ∷ [])))
      (by_width (λ w. (if nat_lt w 4 then 256 ^ w - 1 else 0xFFFFFFFF) ≡ 256 ^ w - 1) width hw refl refl refl refl)) (λ y h. h) st

  pub division_does : (op : Operator) (wanted : ℕ) → routine_of op ≡ Some 1 → others_widths op ≡ 1 ∷ [] → ((k : ℕ) → others op k ≡ wanted ∷ [])
      → ((y : ℕ) → IsAmount op y) → StandAt m.code from (calling (first + 1) (dividing (of op) (Known wanted)) (of op))
      → Does first m from (from + length (calling (first + 1) (dividing (of op) (Known wanted)) (of op))) (of op)
  division_does op wanted ro ow ot am st =
      calling_does first m from (of op) 1 (dividing (of op) (Known wanted)) ws hw within (omega arith) ro
      (λ s x y g h. three_values left right 1 wanted s x y g h ∙ ap (λ more. Some (sized (4 ∷ 4 ∷ 1 ∷ []) (x ∷ y ∷ more))) (sym (ot width))
      ∙ ap (λ more. Some (sized (4 ∷ 4 ∷ more) (x ∷ y ∷ others op width))) (sym ow)) (λ s y held h. am y) st

  pub call_of_product : (a b : Operand) → StandAt m.code from (calling first (Two (in_four a) (in_four b)) (of Times))
      → Does first m from (from + length (calling first (Two (in_four a) (in_four b)) (of Times)))
      (record { operator = Times; width = width; to = to; left = a; right = b })
  call_of_product a b st =
      subst (λ r. StandAt m.code from (calling r rs (of Times)) → Does first m from (from + length (calling r rs (of Times)))
      (record { operator = Times; width = width; to = to; left = a; right = b })) none
      (calling_does first m from (record { operator = Times; width = width; to = to; left = a; right = b }) 0 rs ws hw within (omega arith) refl
      (λ s x y g h. two_values a b s x y g h) (λ s y held h. tt {0})) st
    where
      rs : Registers
      rs = Two (in_four a) (in_four b)

      none : first + 0 ≡ first
      none = omega arith
