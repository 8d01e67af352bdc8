-- How many instructions stand at most for code where the oldest values that wait are pushed.
use Rattle.std.specs.Prelude.{ℕ, zero, suc, ◌+◌, ◌-◌, ◌≤◌, Bool, true, false, ◌&&◌, ◌==◌, nat_lt, nat_le, List, [], ◌∷◌, length, drop, Option, Some}
use Rattle.std.specs.Prelude.{None, Result, Ok, Err, IfOk, if◌then◌else◌}
use Rattle.std.proofs.Common.{◌≡◌, ◌⊎◌, inl, inr, refl, ap, ◌∙◌, subst, arith}
use Rattle.vg_meaning.specs.Code.{Code, Nothing, Then, Do, If, Loop, Break, Continue, Return}
use Rattle.vg_firm.specs.declared.step.Step.{Step}
use Rattle.vg_firm.specs.declared.step.Step.TheVariants.{Call, CallFor, CallValue}
use Rattle.vg_firm_typed.specs.Steps.{takes}
use Rattle.vg_lin.specs.declared.instr.Operand.{Operand}
use Rattle.vg_flatten_shapes.specs.declared.fault.Fault.TheVariants.{NotTaken, TooHigh}
use Rattle.vg_flatten_shapes.specs.declared.layout.Layout.{Layout}
use Rattle.vg_flatten_shapes.specs.declared.room.Room.{Room}
use Rattle.vg_flatten_shapes.specs.Shapes.{Shape, only, empty, temp}
use Rattle.vg_flatten_shapes.specs.Blocks.{Block, Skip, BreakOut, GoOn, Both, block_size}
use Rattle.vg_flatten_shapes.specs.Made.{Made, Gives, Refused, after, settled, Tested, tested}
use Rattle.vg_flatten_steps.specs.Steps.{stepped}
use Rattle.std.proofs.lemmas.Bool.{false≢true, and_parts}
use Rattle.std.proofs.lemmas.List.{length-map}
use Rattle.vg_base.specs.declared.refusal.Refusal.{Refusal}
use Rattle.vg_firm.specs.Program.{Procedure}
use Rattle.vg_lin.specs.Program.{Procedure as LinProcedure}
use Rattle.vg_flatten_shapes.specs.declared.fault.Fault.{Fault}
use Rattle.vg_flatten_shapes.proofs.Sizes.{block_long}
use Rattle.vg_flatten_shapes.specs.Blocks.{open_code, set_in}
use Rattle.vg_flatten.specs.Flattened.{own_params, whole, IsPushed, IsFlat}
use Rattle.vg_flatten_control.specs.Flat.{flat}
use Rattle.vg_flatten_pushed.specs.Pushed.{newer, older, count_of, all_pushed, onto, pops, popped, lifts, pushed_on, put_back, worked, step_on}
use Rattle.vg_flatten_pushed.specs.Pushed.{is_above, crossed, done}
use Rattle.vg_flatten_pushed.specs.Pushed.{topped, with_newest, lowered, level_as, level, raised, pushed_again}
use Rattle.vg_flatten_pushed.specs.Stacked.{is_calm, levelled, ways, by_pushed, by_newer, stacked}
use Rattle.vg_flatten.specs.Sizes.{step_size, step_pushed, code_size, code_pushed, larger, procedure_size}
use Rattle.vg_flatten.proofs.PushedShapes.{Counts, settled_counts, crossed_few}
use Rattle.vg_flatten.proofs.Sizes.{Small, zeroes_size, whole_long, fewer, small_behind, small_after, small_temp, small_if, small_settled, small_step}
use Rattle.vg_flatten.proofs.Sizes.{small_flat, small_joined, small_where, small_repeated, small_given}

four_at_least : (p : Step) → 4 ≤ step_size p
four_at_least (Call q count) = omega arith
four_at_least (CallFor d count) = omega arith
four_at_least (CallValue count) = omega arith
four_at_least p = omega arith

-- code that neither loops nor leaves is no larger where none of its values is pushed
calm_size : (c : Code Step) → is_calm c ≡ true → code_size c ≤ code_pushed c
calm_size Nothing e = omega arith
calm_size (Then a b) e =
    let f = calm_size a (and_parts (is_calm a) (is_calm b) e).0 in let g = calm_size b (and_parts (is_calm a) (is_calm b) e).1 in omega (arith, f, g)
calm_size (Do p) e = omega arith
calm_size (If a b) e =
    let f = calm_size a (and_parts (is_calm a) (is_calm b) e).0 in let g = calm_size b (and_parts (is_calm a) (is_calm b) e).1 in omega (arith, f, g)
calm_size (Loop c body next) e = absurd (false≢true e)
calm_size Break e = absurd (false≢true e)
calm_size Continue e = absurd (false≢true e)
calm_size Return e = absurd (false≢true e)

module _ (lay : Layout) (r : Room) (most : ℕ) where
  pops_size : (first n : ℕ) → block_size (pops first n) ≤ n
  pops_size first zero = omega arith
  pops_size first (suc n) = let h = pops_size first n in omega (arith, h)

  small_pushed : (rest hs : List Operand) → Small 1 (pushed_on rest hs)
  small_pushed rest [] = omega arith
  small_pushed rest (h ∷ []) = omega arith
  small_pushed rest (h ∷ i ∷ hs) = tt

  small_back : (rest : List Operand) (s : Shape) → Small (4 + 1) (put_back r rest s)
  small_back rest s = small_after 4 1 (settled r s) (λ s1. pushed_on rest s1.homes) (small_settled r s) (λ s1. small_pushed rest s1.homes)

  small_worked : (p : Step) (rest : List Operand) → Small ((step_size p - 4) + (4 + 1)) (worked lay r p rest)
  small_worked p rest =
      small_after (step_size p - 4) (4 + 1) (stepped lay r p (popped r.locals (takes p))) (put_back r rest)
      (small_step lay r p (popped r.locals (takes p))) (small_back rest)

  lifts_size : (first : ℕ) (hs : List Operand) → block_size (lifts first hs) ≤ length hs
  lifts_size first [] = omega arith
  lifts_size first (h ∷ hs) = let f = lifts_size first hs in omega (arith, f)

  small_onto : (n : ℕ) (os : List Operand) (made : Made) → Small n made → Small n (onto os made)
  small_onto n os (Gives b s) h = h
  small_onto n os (Refused why) h = tt

  small_step_on : (p : Step) (news os : List Operand) → length news ≤ takes p → Small (takes p + ((step_size p - 4) + (4 + 1))) (step_on lay r p news os)
  small_step_on p news os few =
      small_if (takes p + ((step_size p - 4) + (4 + 1))) (nat_le (takes p) (length news + length os)) _ (Refused NotTaken)
      (small_if (takes p + ((step_size p - 4) + (4 + 1))) (nat_le (takes p + 2) r.temps) _ (Refused TooHigh)
      (small_behind (takes p) ((step_size p - 4) + (4 + 1)) (Both (lifts (r.locals + k) news) (pops r.locals k)) (worked lay r p (drop k os)) drawn_size
      (small_worked p (drop k os))) tt) tt
    where
      k : ℕ
      k = takes p - length news

      drawn_size : block_size (lifts (r.locals + k) news) + block_size (pops r.locals k) ≤ takes p
      drawn_size = let l = lifts_size (r.locals + k) news in let f = pops_size r.locals k in omega (arith, few, l, f)

  small_crossed : (p : Step) (os : List Operand) (n : ℕ) (y : Made) → Small 4 y → Counts n y → n ≤ takes p
      → Small (4 + (takes p + ((step_size p - 4) + (4 + 1)))) (after y (λ s. step_on lay r p s.homes os))
  small_crossed p os n (Refused why) h c few = tt
  small_crossed p os n (Gives b s) h c few =
      small_behind 4 (takes p + ((step_size p - 4) + (4 + 1))) b (step_on lay r p s.homes os) h (small_step_on p s.homes os (omega (arith, c, few)))

  small_done : (p : Step) (s : Shape) → Small (step_pushed p) (done lay r most p s)
  small_done p s = by_above (is_above most p s) refl
    where
      size_is : (n : ℕ) → 4 ≤ n → 4 + (takes p + ((n - 4) + (4 + 1))) ≤ takes p + n + 5
      size_is n le = omega (arith, le)

      by_above : (b : Bool) → is_above most p s ≡ b
          → Small (step_pushed p) (if b then onto (older most s) (flat lay r (Do p) (newer most s)) else crossed lay r most p s)
      by_above true e =
          fewer (step_size p) (step_pushed p) _ (omega arith)
          (small_onto (step_size p) (older most s) (flat lay r (Do p) (newer most s)) (small_flat lay r (Do p) (newer most s)))
      by_above false e =
          fewer (4 + (takes p + ((step_size p - 4) + (4 + 1)))) (step_pushed p) _ (size_is (step_size p) (four_at_least p))
          (small_crossed p (older most s) (count_of (newer most s)) (settled r (newer most s)) (small_settled r (newer most s))
          (settled_counts r (newer most s)) (crossed_few most p s e))

  small_topped : (hs : List Operand) → Small 1 (topped r hs)
  small_topped [] = tt
  small_topped (h ∷ hs) = small_temp 1 (temp r []) _ (λ to. omega arith)

  small_lowered : (n : ℕ) (hs : List Operand) → Small 1 (lowered r n hs)
  small_lowered n [] = tt
  small_lowered n (h ∷ hs) = small_if 1 (length hs == n) _ (Refused NotTaken) (small_temp 1 (temp r []) _ (λ to. omega arith)) tt

  small_newest : (s : Shape) → Small 1 (with_newest r most s)
  small_newest s = small_if 1 (all_pushed most s) (topped r s.homes) (Refused NotTaken) (small_topped s.homes) tt

  small_level : (n : ℕ) (s : Shape) → Small 1 (level r most n s)
  small_level n s =
      small_if 1 (all_pushed most s) (level_as r n s) (Refused NotTaken)
      (small_if 1 (length s.homes == n) (Gives Skip (only s.homes)) (lowered r n s.homes) (omega arith) (small_lowered n s.homes)) tt

  small_again : (hs : List Operand) → Small 1 (pushed_again hs)
  small_again [] = tt
  small_again (h ∷ hs) = omega arith

  small_raised : (n : ℕ) (s : Shape) → Small 1 (raised n s)
  small_raised n s = small_if 1 (nat_lt (length s.homes) n) (Gives Skip (only s.homes)) (pushed_again s.homes) (omega arith) (small_again s.homes)

  small_ways : (n m : ℕ) (o : Option Tested) (f g : Shape → Made) → ((s : Shape) → Small n (f s)) → ((s : Shape) → Small m (g s))
      → Small (2 + (n + 1) + (m + 1)) (ways r most o f g)
  small_ways n m None f g hf hg = tt
  small_ways n m (Some t) f g hf hg =
      small_joined lay r (n + 1) (m + 1) t.truth (levelled r most (length t.homes) (f (only t.homes))) (levelled r most (length t.homes) (g (only t.homes)))
      (small_after n 1 (f (only t.homes)) (level r most (length t.homes)) (hf (only t.homes)) (small_level (length t.homes)))
      (small_after m 1 (g (only t.homes)) (level r most (length t.homes)) (hg (only t.homes)) (small_level (length t.homes)))

  small_pushed_choice : (n m : ℕ) (f g : Shape → Made) (s : Shape) → ((s : Shape) → Small n (f s)) → ((s : Shape) → Small m (g s))
      → Small (6 + n + m) (by_pushed r most f g s)
  small_pushed_choice n m f g s hf hg =
      fewer (1 + ((2 + (n + 1) + (m + 1)) + 1)) (6 + n + m) _ (omega arith)
      (small_after 1 ((2 + (n + 1) + (m + 1)) + 1) (with_newest r most s) _ (small_newest s) (λ s1.
      small_after (2 + (n + 1) + (m + 1)) 1 (ways r most (tested s1) f g) (raised (length s1.homes)) (small_ways n m (tested s1) f g hf hg)
      (small_raised (length s1.homes))))

  small_newer_choice : (a b : Code Step) (s : Shape) → Small (code_pushed (If a b)) (by_newer lay r most a b s)
  small_newer_choice a b s = by_calm (is_calm a && is_calm b) refl
    where
      by_calm : (c : Bool) → (is_calm a && is_calm b) ≡ c
          → Small (code_pushed (If a b)) (if c then onto (older most s) (flat lay r (If a b) (newer most s)) else Refused NotTaken)
      by_calm true e =
          fewer (code_size (If a b)) (code_pushed (If a b)) _ (calm_size (If a b) e)
          (small_onto (code_size (If a b)) (older most s) (flat lay r (If a b) (newer most s)) (small_flat lay r (If a b) (newer most s)))
      by_calm false e = tt

  pub small_stacked : (c : Code Step) (s : Shape) → Small (code_pushed c) (stacked lay r most c s)
  small_stacked Nothing s = omega arith
  small_stacked (Then a b) s =
      small_after (code_pushed a) (code_pushed b) (stacked lay r most a s) (stacked lay r most b) (small_stacked a s) (small_stacked b)
  small_stacked (Do p) s = small_done p s
  small_stacked (If a b) s =
      small_if (code_pushed (If a b)) (all_pushed most s) _ _
      (fewer (6 + code_pushed a + code_pushed b) (code_pushed (If a b)) _ (omega arith)
      (small_pushed_choice (code_pushed a) (code_pushed b) (stacked lay r most a) (stacked lay r most b) s (small_stacked a) (small_stacked b)))
      (small_newer_choice a b s)
  small_stacked (Loop c body next) s =
      small_where lay r (code_pushed (Loop c body next)) s _
      (fewer (2 + (code_pushed c + 1) + code_pushed body + code_pushed next) (code_pushed (Loop c body next)) _ (omega arith)
      (small_repeated lay r (code_pushed c + 1) (code_pushed body) (code_pushed next) (after (stacked lay r most c empty) (with_newest r most))
      (stacked lay r most body empty) (stacked lay r most next empty)
      (small_after (code_pushed c) 1 (stacked lay r most c empty) (with_newest r most) (small_stacked c empty) small_newest) (small_stacked body empty)
      (small_stacked next empty)))
  small_stacked Break s = small_where lay r 1 s (Gives BreakOut empty) (omega arith)
  small_stacked Continue s = small_where lay r 1 s (Gives GoOn empty) (omega arith)
  small_stacked Return s = small_after 1 1 (with_newest r most s) _ (small_newest s) (λ s1. small_given lay r s1.homes)

  pub whole_long_pushed : (m : Procedure) (b : Block) (s : Shape) → stacked lay r most m.body empty ≡ Gives b s
      → length (open_code (whole m b) 0) ≤ length m.widths - m.params + code_pushed m.body + 1
  whole_long_pushed m b s e =
      let h = block_long (whole m b) 0 in
      let f : block_size b ≤ code_pushed m.body = subst (Small (code_pushed m.body)) e (small_stacked m.body empty) in
      let z = zeroes_size lay r (length m.widths - m.params) (own_params m) in
      omega (arith, h, f, z)

at_least : (a b n x y : ℕ) → n ≤ x + a + y → n ≤ x + larger a b + y
at_least a b n x y h = by_test (nat_le a b) refl
  where
    by_test : (c : Bool) → nat_le a b ≡ c → n ≤ x + (if c then b else a) + y
    by_test true e = let le = le_of a b e in omega (arith, h, le)
      where
        le_of : (a b : ℕ) → nat_le a b ≡ true → a ≤ b
        le_of a b e = grind arith
    by_test false e = h

at_least_second : (a b n x y : ℕ) → n ≤ x + b + y → n ≤ x + larger a b + y
at_least_second a b n x y h = by_test (nat_le a b) refl
  where
    by_test : (c : Bool) → nat_le a b ≡ c → n ≤ x + (if c then b else a) + y
    by_test true e = h
    by_test false e = let le = gt_of a b e in omega (arith, h, le)
      where
        gt_of : (a b : ℕ) → nat_le a b ≡ false → b ≤ a
        gt_of a b e = grind arith

flat_short : (lay : Layout) (m : Procedure) (p : LinProcedure) → IsFlat lay m p → length p.code ≤ procedure_size m
flat_short lay m p f = by_way f.made
  where
    l : length p.code ≡ length (open_code (whole m f.block) 0)
    l = ap length f.code ∙ length-map (open_code (whole m f.block) 0) (set_in 0 0)

    by_way : (flat lay f.room m.body empty ≡ Gives f.block f.shape) ⊎ IsPushed lay m f.room f.block f.shape → length p.code ≤ procedure_size m
    by_way (inl e) =
        at_least (code_size m.body) (code_pushed m.body) (length p.code) (length m.widths - m.params) 1
        (let w = whole_long lay f.room m f.block f.shape e in omega (arith, l, w))
    by_way (inr u) =
        at_least_second (code_size m.body) (code_pushed m.body) (length p.code) (length m.widths - m.params) 1
        (let w = whole_long_pushed lay f.room u.pushes m f.block f.shape u.made in omega (arith, l, w))

pub is_short : (lay : Layout) (m : Procedure) (answer : Result LinProcedure (Refusal Fault)) → IfOk answer (λ p. IsFlat lay m p)
    → IfOk answer (λ p. length p.code ≤ procedure_size m)
is_short lay m (Ok p) f = flat_short lay m p f
is_short lay m (Err e) f = tt
