-- What each step becomes, in both ways.
use Rattle.std.specs.Prelude.{ℕ, zero, suc, ◌+◌, ◌-◌, ◌≤◌, ◌^◌, Bool, true, false, ◌==◌, ◌&&◌, nat_lt, nat_le, List, [], ◌∷◌, length}
use Rattle.std.specs.Prelude.{reverse, take, drop, Option, Some, None, slice_get, if◌then◌else◌}
use Rattle.std.proofs.Common.{◌≡◌, refl, sym, subst, arith}
use Rattle.vg_meaning.specs.Code.{Do}
use Rattle.vg_firm.specs.declared.step.Operator.{Operator}
use Rattle.vg_firm.specs.declared.step.Step.{Step}
use Rattle.vg_firm.specs.declared.step.Step.TheVariants.{Number, This, Local, SetLocal, Forget, Operate, StoreAt, StoreNothing, LoadItem, StoreItem}
use Rattle.vg_firm.specs.declared.step.Step.TheVariants.{Bind, Call, CallFor, CallValue}
use Rattle.vg_firm_typed.specs.Steps.{takes}
use Rattle.vg_lin.specs.declared.instr.Operand.{Operand}
use Rattle.vg_lin.specs.declared.instr.Operand.TheVariants.{Local as InLocal, Known}
use Rattle.vg_lin.specs.declared.instr.Operator.{Operator as LinOperator}
use Rattle.vg_lin.specs.declared.instr.Plain.TheVariants.{Copy}
use Rattle.vg_flatten_shapes.specs.declared.fault.Fault.TheVariants.{NotTaken, TooHigh}
use Rattle.vg_flatten_shapes.specs.declared.open.Truth.{Truth}
use Rattle.vg_flatten_shapes.specs.declared.layout.Layout.{Layout}
use Rattle.vg_flatten_shapes.specs.declared.room.Room.{Room}
use Rattle.vg_flatten_shapes.specs.Shapes.{Shape, only, empty, is_none, is_free, temp}
use Rattle.vg_flatten_shapes.specs.Blocks.{Skip, One, Both, Choice, block_size}
use Rattle.vg_flatten_shapes.specs.Made.{Made, Gives, Refused, after, by_temp, settled, settled_as}
use Rattle.vg_flatten_values.specs.Values.{computing, comparing, operated_as, operated, combined, computed}
use Rattle.vg_flatten_places.specs.Places.{places_in, lone_of}
use Rattle.vg_flatten_steps.specs.Locals.{at_local, set_local, forgotten}
use Rattle.vg_flatten_steps.specs.Steps.{stepped}
use Rattle.vg_flatten_control.specs.Flat.{flat}
use Rattle.vg_flatten_pushed.specs.Pushed.{is_high, newer, older, count_of, onto, pops, popped, lifts, pushed_on, put_back, worked, step_on}
use Rattle.vg_flatten_pushed.specs.Pushed.{crossed, is_above, done}
use Rattle.vg_flatten.specs.Sizes.{step_size}
use Rattle.vg_flatten.proofs.Sizes.{Small, fewer, small_behind, small_after, small_if, small_settled, small_step, small_flat}
use Rattle.vg_flat_sizes.specs.Weights.{step_weight}
use Rattle.vg_flat_weights.proofs.Untested.{Untested, untested_computed, untested_combined, untested_store_of, untested_no_field}
use Rattle.vg_flat_weights.proofs.Untested.{untested_load_item, untested_store_item, untested_called, untested_for, untested_value}

-- so few instructions, and no test that waits behind them
abbrev Plain : (n : ℕ) → Made → Type 0
Plain n (Gives b s) = (block_size b ≤ n) × (s.truth ≡ None)
Plain n (Refused why) = Unit {0}

small_of : (n : ℕ) (made : Made) → Plain n made → Small n made
small_of n (Gives b s) (h, e) = h
small_of n (Refused why) h = tt

plain_of : (n : ℕ) (made : Made) → Small n made → Untested made → Plain n made
plain_of n (Gives b s) h e = (h, e)
plain_of n (Refused why) h e = tt

plain_if : (n : ℕ) (b : Bool) (x y : Made) → Plain n x → Plain n y → Plain n (if b then x else y)
plain_if n true x y h g = h
plain_if n false x y h g = g

plain_temp : (n : ℕ) (o : Option ℕ) (go : ℕ → Made) → ((to : ℕ) → Plain n (go to)) → Plain n (by_temp o go)
plain_temp n (Some to) go h = h to
plain_temp n None go h = tt

pops_size : (first n : ℕ) → block_size (pops first n) ≤ n
pops_size first zero = omega arith
pops_size first (suc n) = let h = pops_size first n in omega (arith, h)

lifts_size : (first : ℕ) (hs : List Operand) → block_size (lifts first hs) ≤ length hs
lifts_size first [] = omega arith
lifts_size first (h ∷ hs) = let l = lifts_size first hs in omega (arith, l)

pub small_onto : (n : ℕ) (os : List Operand) (made : Made) → Small n made → Small n (onto os made)
small_onto n os (Gives b s) h = h
small_onto n os (Refused why) h = tt

small_pushed : (rest hs : List Operand) → Small 1 (pushed_on rest hs)
small_pushed rest [] = omega arith
small_pushed rest (h ∷ []) = omega arith
small_pushed rest (h ∷ i ∷ hs) = tt

module _ (lay : Layout) (r : Room) where
  plain_at : (j : ℕ) (hs : List Operand) → Plain 0 (at_local r j hs)
  plain_at j hs = plain_if 0 (nat_lt j r.locals) _ _ (omega arith, refl) tt

  plain_set : (i : ℕ) (hs : List Operand) → Plain 1 (set_local r i hs)
  plain_set i [] = tt
  plain_set i (a ∷ hs) = plain_if 1 (nat_lt (r.receiver + i) r.locals && is_free (r.receiver + i) (reverse hs)) _ _ (omega arith, refl) tt

  plain_forgotten : (hs : List Operand) → Plain 0 (forgotten hs)
  plain_forgotten [] = tt
  plain_forgotten (a ∷ hs) = (omega arith, refl)

  plain_number : (v : ℕ) (hs : List Operand) → Plain 0 (stepped lay r (Number v) hs)
  plain_number v hs = plain_if 0 (nat_lt v (2 ^ 32)) _ _ (omega arith, refl) tt

  plain_this : (hs : List Operand) → Plain 0 (stepped lay r This hs)
  plain_this hs = plain_if 0 (r.receiver == 0) _ _ (omega arith, refl) (plain_at 0 hs)

  plain_bind : (q : ℕ) (hs : List Operand) → Plain 1 (stepped lay r (Bind q) hs)
  plain_bind q hs = plain_temp 1 (temp r hs) _ (λ to. (omega arith, refl))

  -- ---- where values have homes

  light_flat : (n : ℕ) (p : Step) (s : Shape) → ((hs : List Operand) → Plain n (stepped lay r p hs)) → Small (4 + n) (flat lay r (Do p) s)
  light_flat n p s h =
      small_after 4 n (settled r s) (λ s1. stepped lay r p s1.homes) (small_settled r s)
      (λ s1. small_of n (stepped lay r p s1.homes) (h s1.homes))

  heavy_flat : (p : Step) (s : Shape) → step_size p ≤ step_weight p → Small (step_weight p) (flat lay r (Do p) s)
  heavy_flat p s le = fewer (step_size p) (step_weight p) (flat lay r (Do p) s) le (small_flat lay r (Do p) s)

  pub flat_step : (p : Step) (s : Shape) → Small (step_weight p) (flat lay r (Do p) s)
  flat_step (Number v) s = light_flat 0 (Number v) s (plain_number v)
  flat_step This s = light_flat 0 This s plain_this
  flat_step (Local i) s = light_flat 0 (Local i) s (plain_at (r.receiver + i))
  flat_step Forget s = light_flat 0 Forget s plain_forgotten
  flat_step (SetLocal i) s = light_flat 1 (SetLocal i) s (plain_set i)
  flat_step (Bind q) s = light_flat 1 (Bind q) s (plain_bind q)
  flat_step (Call q count) s = heavy_flat (Call q count) s (omega arith)
  flat_step (CallFor d count) s = heavy_flat (CallFor d count) s (omega arith)
  flat_step (CallValue count) s = heavy_flat (CallValue count) s (omega arith)
  flat_step p s = heavy_flat p s (omega arith)

  -- ---- where values are pushed

  back : (n : ℕ) (made : Made) (rest : List Operand) → Plain n made → Small (n + 1) (after made (put_back r rest))
  back n (Refused why) rest h = tt
  back n (Gives b s) rest (h, e) =
      small_behind n 1 b (put_back r rest s) h
      (subst (λ t. Small 1 (after (settled_as r t s.homes) (λ s1. pushed_on rest s1.homes))) (sym e)
      (small_behind 0 1 Skip (pushed_on rest s.homes) (omega arith) (small_pushed rest s.homes)))

  tested_back : (rest : List Operand) (s : Shape) → Small (4 + 1) (put_back r rest s)
  tested_back rest s = small_after 4 1 (settled r s) (λ s1. pushed_on rest s1.homes) (small_settled r s) (λ s1. small_pushed rest s1.homes)

  -- the values that a step takes are brought by an instruction each
  small_drawn : (m : ℕ) (p : Step) (news os : List Operand) → length news ≤ takes p → ((rest : List Operand) → Small m (worked lay r p rest))
      → Small (takes p + m) (step_on lay r p news os)
  small_drawn m p news os le h =
      small_if (takes p + m) (nat_le (takes p) (length news + length os)) _ (Refused NotTaken)
      (small_if (takes p + m) (nat_le (takes p + 2) r.temps) _ (Refused TooHigh)
      (small_behind (takes p) m (Both (lifts (r.locals + (takes p - length news)) news) (pops r.locals (takes p - length news)))
      (worked lay r p (drop (takes p - length news) os)) brought (h (drop (takes p - length news) os))) tt) tt
    where
      brought : block_size (Both (lifts (r.locals + (takes p - length news)) news) (pops r.locals (takes p - length news))) ≤ takes p
      brought =
          let l = lifts_size (r.locals + (takes p - length news)) news in
          let q = pops_size r.locals (takes p - length news) in omega (arith, l, q, le)

  -- a test is settled in front only where the step takes two values or more
  small_crossed : (k m most : ℕ) (p : Step) (s : Shape) → (2 ≤ takes p → 4 ≤ k) → ((rest : List Operand) → Small m (worked lay r p rest))
      → count_of (newer most s) ≤ takes p - 1 → Small (k + (takes p + m)) (crossed lay r most p s)
  small_crossed k m most p s front h few = by_truth (newer most s).truth (newer most s).homes few
    where
      by_truth : (o : Option Truth) (hs : List Operand) → length hs + (if is_none o then 0 else 1) ≤ takes p - 1
          → Small (k + (takes p + m)) (after (settled_as r o hs) (λ s1. step_on lay r p s1.homes (older most s)))
      by_truth None hs le =
          small_behind k (takes p + m) Skip (step_on lay r p hs (older most s)) (omega arith) (small_drawn m p hs (older most s) (omega (arith, le)) h)
      by_truth (Some t) hs le = by_room (temp r hs)
        where
          by_room : (o : Option ℕ) → Small (k + (takes p + m))
              (after (by_temp o (λ to. Gives (Choice t (One (Copy to (Known 1))) (One (Copy to (Known 0)))) (only (InLocal to ∷ hs))))
              (λ s1. step_on lay r p s1.homes (older most s)))
          by_room None = tt
          by_room (Some to) =
              small_behind k (takes p + m) (Choice t (One (Copy to (Known 1))) (One (Copy to (Known 0)))) (step_on lay r p (InLocal to ∷ hs) (older most s))
              (front (omega (arith, le))) (small_drawn m p (InLocal to ∷ hs) (older most s) (omega (arith, le)) h)

  -- a step that does not work above the pushed values takes more than wait there
  few_newer : (most : ℕ) (p : Step) (s : Shape) → is_above most p s ≡ false → count_of (newer most s) ≤ takes p - 1
  few_newer most p s e = by_height (is_high most s) e
    where
      under : (n t : ℕ) → nat_le t n ≡ false → n ≤ t - 1
      under n t e = grind arith

      kept : Bool → Shape
      kept b = if b then record { truth = s.truth; homes = take (length s.homes - most) s.homes } else empty

      by_height : (b : Bool) → (b && nat_le (takes p) (count_of (kept b))) ≡ false → count_of (kept b) ≤ takes p - 1
      by_height true e = under (count_of (kept true)) (takes p) e
      by_height false e = omega arith

  small_done : (n most : ℕ) (p : Step) (s : Shape) → Small n (flat lay r (Do p) (newer most s))
      → (count_of (newer most s) ≤ takes p - 1 → Small n (crossed lay r most p s)) → Small n (done lay r most p s)
  small_done n most p s h g = by_above (is_above most p s) refl
    where
      by_above : (b : Bool) → is_above most p s ≡ b
          → Small n (if b then onto (older most s) (flat lay r (Do p) (newer most s)) else crossed lay r most p s)
      by_above true e = small_onto n (older most s) (flat lay r (Do p) (newer most s)) h
      by_above false e = g (few_newer most p s e)

  -- ---- by what steps make

  -- a step that takes one value at most, and makes so few instructions
  lighter : (n most : ℕ) (p : Step) (s : Shape) → ((hs : List Operand) → Plain n (stepped lay r p hs)) → takes p ≤ 1 → takes p + (n + 1) ≤ step_weight p
      → count_of (newer most s) ≤ takes p - 1 → Small (step_weight p) (crossed lay r most p s)
  lighter n most p s h one le few =
      fewer (0 + (takes p + (n + 1))) (step_weight p) (crossed lay r most p s) (omega (arith, le))
      (small_crossed 0 (n + 1) most p s (λ two. omega (arith, one, two))
      (λ rest. back n (stepped lay r p (popped r.locals (takes p))) rest (h (popped r.locals (takes p)))) few)

  -- any step that takes one value at most
  single : (most : ℕ) (p : Step) (s : Shape) → takes p ≤ 1 → takes p + ((step_size p - 4) + 5) ≤ step_weight p
      → count_of (newer most s) ≤ takes p - 1 → Small (step_weight p) (crossed lay r most p s)
  single most p s one le few =
      fewer (0 + (takes p + ((step_size p - 4) + 5))) (step_weight p) (crossed lay r most p s) (omega (arith, le))
      (small_crossed 0 ((step_size p - 4) + 5) most p s (λ two. omega (arith, one, two))
      (λ rest. small_after (step_size p - 4) 5 (stepped lay r p (popped r.locals (takes p))) (put_back r rest)
      (small_step lay r p (popped r.locals (takes p))) (tested_back rest)) few)

  -- a step that leaves no test
  untested : (most : ℕ) (p : Step) (s : Shape) → ((hs : List Operand) → Untested (stepped lay r p hs))
      → 4 + (takes p + ((step_size p - 4) + 1)) ≤ step_weight p
      → count_of (newer most s) ≤ takes p - 1 → Small (step_weight p) (crossed lay r most p s)
  untested most p s h le few =
      fewer (4 + (takes p + ((step_size p - 4) + 1))) (step_weight p) (crossed lay r most p s) le
      (small_crossed 4 ((step_size p - 4) + 1) most p s (λ two. omega arith) (λ rest. back (step_size p - 4) (made rest) rest
      (plain_of (step_size p - 4) (made rest) (small_step lay r p (popped r.locals (takes p))) (h (popped r.locals (takes p))))) few)
    where
      made : List Operand → Made
      made rest = stepped lay r p (popped r.locals (takes p))

  -- an operator leaves a test only where it makes no instruction
  operated_back : (op : Operator) (hs rest : List Operand) → Small 13 (after (operated r op hs) (put_back r rest))
  operated_back op [] rest = tt
  operated_back op (b ∷ []) rest = tt
  operated_back op (b ∷ a ∷ hs) rest = by_kind (computing op) (comparing op a b) (small_step lay r (Operate op) (b ∷ a ∷ hs))
    where
      by_kind : (o : Option LinOperator) (t : Option Truth) → Small 12 (operated_as r op o t a b hs)
          → Small 13 (after (operated_as r op o t a b hs) (put_back r rest))
      by_kind (Some lop) t h = back 12 (computed r lop 4 a b hs) rest (plain_of 12 (computed r lop 4 a b hs) h (untested_computed lay r lop 4 a b hs))
      by_kind None (Some t) h =
          small_behind 8 5 Skip (put_back r rest (record { truth = Some t; homes = hs })) (omega arith)
          (tested_back rest (record { truth = Some t; homes = hs }))
      by_kind None None h = back 12 (combined r op a b hs) rest (plain_of 12 (combined r op a b hs) h (untested_combined lay r op a b hs))

  crossed_step : (most : ℕ) (p : Step) (s : Shape) → count_of (newer most s) ≤ takes p - 1 → Small (step_weight p) (crossed lay r most p s)
  crossed_step most (Number v) s = lighter 0 most (Number v) s (plain_number v) (omega arith) (omega arith)
  crossed_step most This s = lighter 0 most This s plain_this (omega arith) (omega arith)
  crossed_step most (Local i) s = lighter 0 most (Local i) s (plain_at (r.receiver + i)) (omega arith) (omega arith)
  crossed_step most Forget s = lighter 0 most Forget s plain_forgotten (omega arith) (omega arith)
  crossed_step most (SetLocal i) s = lighter 1 most (SetLocal i) s (plain_set i) (omega arith) (omega arith)
  crossed_step most (Bind q) s = lighter 1 most (Bind q) s (plain_bind q) (omega arith) (omega arith)
  crossed_step most (Operate op) s =
      small_crossed 5 13 most (Operate op) s (λ two. omega arith) (operated_back op (popped r.locals 2))
  crossed_step most (StoreAt c first width) s =
      untested most (StoreAt c first width) s (untested_store_of lay r first width (slice_get lay.ram c)) (omega arith)
  crossed_step most StoreNothing s = untested most StoreNothing s (untested_no_field lay r) (omega arith)
  crossed_step most (LoadItem e) s =
      untested most (LoadItem e) s
      (untested_load_item lay r (lone_of lay e.table) e (slice_get (places_in lay e.home) e.column) (slice_get lay.tables e.table)) (omega arith)
  crossed_step most (StoreItem e) s =
      untested most (StoreItem e) s
      (untested_store_item lay r (lone_of lay e.table) e (slice_get lay.ram e.column) (slice_get lay.tables e.table)) (omega arith)
  crossed_step most (Call q count) s = untested most (Call q count) s (untested_called lay r q count) (omega arith)
  crossed_step most (CallFor d count) s = untested most (CallFor d count) s (untested_for lay r d count) (omega arith)
  crossed_step most (CallValue count) s = untested most (CallValue count) s (untested_value lay r count) (omega arith)
  crossed_step most p s = single most p s (omega arith) (omega arith)

  pub pushed_step : (most : ℕ) (p : Step) (s : Shape) → Small (step_weight p) (done lay r most p s)
  pushed_step most p s = small_done (step_weight p) most p s (flat_step p (newer most s)) (crossed_step most p s)
