-- What code becomes, in both ways.
use Rattle.std.specs.Prelude.{ℕ, ◌+◌, ◌==◌, ◌&&◌, nat_lt, List, [], ◌∷◌, length, Option, Some, None}
use Rattle.std.proofs.Common.{arith}
use Rattle.vg_meaning.specs.Code.{Code, Nothing, Then, Do, If, Loop, Break, Continue, Return}
use Rattle.vg_firm.specs.declared.step.Step.{Step}
use Rattle.vg_lin.specs.declared.instr.Operand.{Operand}
use Rattle.vg_lin.specs.declared.instr.Operand.TheVariants.{Local}
use Rattle.vg_flatten_shapes.specs.declared.fault.Fault.TheVariants.{NotTaken}
use Rattle.vg_flatten_shapes.specs.declared.layout.Layout.{Layout}
use Rattle.vg_flatten_shapes.specs.declared.room.Room.{Room}
use Rattle.vg_flatten_shapes.specs.Shapes.{Shape, only, empty, same_operand, temp}
use Rattle.vg_flatten_shapes.specs.Blocks.{Skip, BreakOut, GoOn}
use Rattle.vg_flatten_shapes.specs.Made.{Made, Gives, Refused, after, settled, Tested, tested}
use Rattle.vg_flatten_control.specs.Flat.{landed_as, landed, chosen, flat}
use Rattle.vg_flatten_pushed.specs.Pushed.{newer, older, all_pushed, onto, topped, with_newest, lowered, level_as, level, raised, pushed_again}
use Rattle.vg_flatten_pushed.specs.Stacked.{is_calm, levelled, ways, by_pushed, by_newer, stacked}
use Rattle.vg_flatten.proofs.Sizes.{Small, fewer, small_after, small_temp, small_if, small_settled, small_joined, small_where, small_repeated, small_given}
use Rattle.vg_flat_sizes.specs.Weights.{flat_weight}
use Rattle.vg_flat_weights.proofs.Light.{small_onto, flat_step, pushed_step}

module _ (lay : Layout) (r : Room) where
  -- ---- where values have homes

  small_landed : (n : ℕ) (made : Made) → Small n made → Small (n + 5) (landed r made)
  small_landed n made h = small_after n 5 made _ h (λ s. small_after 4 1 (settled r s) _ (small_settled r s) (λ s1. landed_few s1.homes))
    where
      landed_few : (hs : List Operand) → Small 1 (landed_as r hs)
      landed_few [] = omega arith
      landed_few (h ∷ hs) = small_temp 1 (temp r hs) _ (λ to. small_if 1 (same_operand (Local to) h) _ _ (omega arith) (omega arith))

  small_chosen : (n m : ℕ) (o : Option Tested) (f g : Shape → Made) → ((s : Shape) → Small n (f s)) → ((s : Shape) → Small m (g s))
      → Small (12 + n + m) (chosen r o f g)
  small_chosen n m None f g hf hg = tt
  small_chosen n m (Some t) f g hf hg =
      fewer (2 + (n + 5) + (m + 5)) (12 + n + m) (chosen r (Some t) f g) (omega arith)
      (small_joined lay r (n + 5) (m + 5) t.truth (landed r (f (only t.homes))) (landed r (g (only t.homes)))
      (small_landed n (f (only t.homes)) (hf (only t.homes))) (small_landed m (g (only t.homes)) (hg (only t.homes))))

  pub small_flat : (c : Code Step) (s : Shape) → Small (flat_weight c) (flat lay r c s)
  small_flat Nothing s = omega arith
  small_flat (Then a b) s = small_after (flat_weight a) (flat_weight b) (flat lay r a s) (flat lay r b) (small_flat a s) (small_flat b)
  small_flat (Do p) s = flat_step lay r p s
  small_flat (If a b) s = small_chosen (flat_weight a) (flat_weight b) (tested s) (flat lay r a) (flat lay r b) (small_flat a) (small_flat b)
  small_flat (Loop c body next) s =
      small_where lay r (flat_weight (Loop c body next)) s _
      (fewer (2 + flat_weight c + flat_weight body + flat_weight next) (flat_weight (Loop c body next)) _ (omega arith)
      (small_repeated lay r (flat_weight c) (flat_weight body) (flat_weight next) (flat lay r c empty) (flat lay r body empty) (flat lay r next empty)
      (small_flat c empty) (small_flat body empty) (small_flat next empty)))
  small_flat Break s = small_where lay r 1 s (Gives BreakOut empty) (omega arith)
  small_flat Continue s = small_where lay r 1 s (Gives GoOn empty) (omega arith)
  small_flat Return s = small_after 4 1 (settled r s) _ (small_settled r s) (λ s1. small_given lay r s1.homes)

  -- ---- where values are pushed

  small_topped : (hs : List Operand) → Small 1 (topped r hs)
  small_topped [] = tt
  small_topped (h ∷ hs) = small_temp 1 (temp r []) _ (λ to. omega arith)

  small_newest : (most : ℕ) (s : Shape) → Small 1 (with_newest r most s)
  small_newest most s = small_if 1 (all_pushed most s) (topped r s.homes) (Refused NotTaken) (small_topped s.homes) tt

  small_lowered : (n : ℕ) (hs : List Operand) → Small 1 (lowered r n hs)
  small_lowered n [] = tt
  small_lowered n (h ∷ hs) = small_if 1 (length hs == n) _ (Refused NotTaken) (small_temp 1 (temp r []) _ (λ to. omega arith)) tt

  small_level : (most n : ℕ) (s : Shape) → Small 1 (level r most n s)
  small_level most n s =
      small_if 1 (all_pushed most s) (level_as r n s) (Refused NotTaken)
      (small_if 1 (length s.homes == n) (Gives Skip (only s.homes)) (lowered r n s.homes) (omega arith) (small_lowered n s.homes)) tt

  small_again : (hs : List Operand) → Small 1 (pushed_again hs)
  small_again [] = tt
  small_again (h ∷ hs) = omega arith

  small_raised : (n : ℕ) (s : Shape) → Small 1 (raised n s)
  small_raised n s = small_if 1 (nat_lt (length s.homes) n) (Gives Skip (only s.homes)) (pushed_again s.homes) (omega arith) (small_again s.homes)

  small_ways : (n m most : ℕ) (o : Option Tested) (f g : Shape → Made) → ((s : Shape) → Small n (f s)) → ((s : Shape) → Small m (g s))
      → Small (2 + (n + 1) + (m + 1)) (ways r most o f g)
  small_ways n m most None f g hf hg = tt
  small_ways n m most (Some t) f g hf hg =
      small_joined lay r (n + 1) (m + 1) t.truth (levelled r most (length t.homes) (f (only t.homes))) (levelled r most (length t.homes) (g (only t.homes)))
      (small_after n 1 (f (only t.homes)) (level r most (length t.homes)) (hf (only t.homes)) (small_level most (length t.homes)))
      (small_after m 1 (g (only t.homes)) (level r most (length t.homes)) (hg (only t.homes)) (small_level most (length t.homes)))

  small_by_pushed : (n m most : ℕ) (f g : Shape → Made) (s : Shape) → ((s : Shape) → Small n (f s)) → ((s : Shape) → Small m (g s))
      → Small (12 + n + m) (by_pushed r most f g s)
  small_by_pushed n m most f g s hf hg =
      fewer (1 + ((2 + (n + 1) + (m + 1)) + 1)) (12 + n + m) (by_pushed r most f g s) (omega arith)
      (small_after 1 ((2 + (n + 1) + (m + 1)) + 1) (with_newest r most s) _ (small_newest most s) (λ s1.
      small_after (2 + (n + 1) + (m + 1)) 1 (ways r most (tested s1) f g) (raised (length s1.homes)) (small_ways n m most (tested s1) f g hf hg)
      (small_raised (length s1.homes))))

  small_by_newer : (most : ℕ) (a b : Code Step) (s : Shape) → Small (flat_weight (If a b)) (by_newer lay r most a b s)
  small_by_newer most a b s =
      small_if (flat_weight (If a b)) (is_calm a && is_calm b) (onto (older most s) (flat lay r (If a b) (newer most s))) (Refused NotTaken)
      (small_onto (flat_weight (If a b)) (older most s) (flat lay r (If a b) (newer most s)) (small_flat (If a b) (newer most s))) tt

  pub small_stacked : (most : ℕ) (c : Code Step) (s : Shape) → Small (flat_weight c) (stacked lay r most c s)
  small_stacked most Nothing s = omega arith
  small_stacked most (Then a b) s =
      small_after (flat_weight a) (flat_weight b) (stacked lay r most a s) (stacked lay r most b) (small_stacked most a s) (small_stacked most b)
  small_stacked most (Do p) s = pushed_step lay r most p s
  small_stacked most (If a b) s =
      small_if (flat_weight (If a b)) (all_pushed most s) (by_pushed r most (stacked lay r most a) (stacked lay r most b) s) (by_newer lay r most a b s)
      (small_by_pushed (flat_weight a) (flat_weight b) most (stacked lay r most a) (stacked lay r most b) s (small_stacked most a) (small_stacked most b))
      (small_by_newer most a b s)
  small_stacked most (Loop c body next) s =
      small_where lay r (flat_weight (Loop c body next)) s _
      (fewer (2 + (flat_weight c + 1) + flat_weight body + flat_weight next) (flat_weight (Loop c body next)) _ (omega arith)
      (small_repeated lay r (flat_weight c + 1) (flat_weight body) (flat_weight next) (after (stacked lay r most c empty) (with_newest r most))
      (stacked lay r most body empty) (stacked lay r most next empty)
      (small_after (flat_weight c) 1 (stacked lay r most c empty) (with_newest r most) (small_stacked most c empty) (small_newest most))
      (small_stacked most body empty) (small_stacked most next empty)))
  small_stacked most Break s = small_where lay r 1 s (Gives BreakOut empty) (omega arith)
  small_stacked most Continue s = small_where lay r 1 s (Gives GoOn empty) (omega arith)
  small_stacked most Return s =
      fewer (1 + 1) 5 _ (omega arith) (small_after 1 1 (with_newest r most s) _ (small_newest most s) (λ s1. small_given lay r s1.homes))
