-- What holds of each instruction that code becomes, in either way: each waiting value has a home of its own, or the oldest of them are pushed.
use Rattle.std.specs.Prelude.{ℕ, zero, suc, ◌+◌, ◌-◌, ◌==◌, ◌&&◌, nat_lt, nat_le, List, [], ◌∷◌, length, reverse, drop, Option, Some, None}
use Rattle.std.specs.List.{AllByRecursion}
use Rattle.std.proofs.Common.{◌≡◌, ◌⊎◌, inl, inr, sym, subst}
use Rattle.vg_meaning.specs.Code.{Code, Nothing, Then, Do, If, Loop, Break, Continue, Return}
use Rattle.vg_firm.specs.declared.step.Step.{Step}
use Rattle.vg_firm.specs.Program.{Procedure as FirmProcedure}
use Rattle.vg_firm_typed.specs.Steps.{takes}
use Rattle.vg_lin.specs.declared.instr.Operand.{Operand}
use Rattle.vg_lin.specs.declared.instr.Operand.TheVariants.{Local, Known}
use Rattle.vg_lin.specs.declared.instr.Instr.{Instr}
use Rattle.vg_lin.specs.Program.{Procedure}
use Rattle.vg_flatten_shapes.specs.declared.fault.Fault.TheVariants.{NotTaken, TooHigh}
use Rattle.vg_flatten_shapes.specs.declared.open.Truth.{Truth}
use Rattle.vg_flatten_shapes.specs.declared.layout.Layout.{Layout}
use Rattle.vg_flatten_shapes.specs.declared.room.Room.{Room}
use Rattle.vg_flatten_shapes.specs.Shapes.{Shape, only, empty, is_empty, same_operand, same_homes, temp}
use Rattle.vg_flatten_shapes.specs.Blocks.{Block, Skip, BreakOut, GoOn, Choice, Repeat, open_code}
use Rattle.vg_flatten_shapes.specs.Made.{Made, Gives, Refused, after, settled, Tested, tested}
use Rattle.vg_flatten_steps.specs.Steps.{stepped}
use Rattle.vg_flatten_control.specs.Flat.{landed_as, landed, joined, chosen, where_empty, repeated, repeated_test}
use Rattle.vg_flatten_control.specs.Flat.{repeated_body, repeated_next, given_back, flat}
use Rattle.vg_flatten_pushed.specs.Pushed.{newer, older, all_pushed, onto, pops, popped, lifts, pushed_on, put_back, worked, drawn}
use Rattle.vg_flatten_pushed.specs.Pushed.{step_on, crossed, is_above, done, topped, with_newest, lowered, level_as, level, raised, pushed_again}
use Rattle.vg_flatten_pushed.specs.Stacked.{is_calm, levelled, ways, by_pushed, by_newer, stacked}
use Rattle.vg_flatten.specs.Flattened.{zeroes, own_params, whole, IsPushed, IsFlat}
use Rattle.vg_flat_each.specs.Each.{Carries, StepHas, EachStep}
use Rattle.vg_flat_each.proofs.Blocks.{EachIn, all_set, in_block}
use Rattle.vg_flat_each.proofs.Steps.{HasEach, each_behind, each_after, each_temp, each_if, each_settled, each_step}

module _ (Has : Instr → Type 0) (k : Carries Has) (lay : Layout) (r : Room) where
  -- ---- choices and loops

  each_landed : (made : Made) → HasEach Has made → HasEach Has (landed r made)
  each_landed made h = each_after Has made _ h (λ s. each_after Has (settled r s) _ (each_settled Has k r s) (λ s1. landing s1.homes))
    where
      landing : (hs : List Operand) → HasEach Has (landed_as r hs)
      landing [] = tt
      landing (a ∷ hs) = each_temp Has (temp r hs) _ (λ to. each_if Has (same_operand (Local to) a) _ _ tt (k.copies to a))

  each_joined : (t : Truth) (x y : Made) → HasEach Has x → HasEach Has y → HasEach Has (joined t x y)
  each_joined t (Refused why) y hx hy = tt
  each_joined t (Gives a s) (Refused why) hx hy = tt
  each_joined t (Gives a s) (Gives b s1) hx hy =
      each_if Has (same_homes (reverse s.homes) (reverse s1.homes)) (Gives (Choice t a b) s) (Refused NotTaken) (hx, hy) tt

  each_chosen : (o : Option Tested) (f g : Shape → Made) → ((s : Shape) → HasEach Has (f s)) → ((s : Shape) → HasEach Has (g s))
      → HasEach Has (chosen r o f g)
  each_chosen None f g hf hg = tt
  each_chosen (Some t) f g hf hg =
      each_joined t.truth (landed r (f (only t.homes))) (landed r (g (only t.homes))) (each_landed (f (only t.homes)) (hf (only t.homes)))
      (each_landed (g (only t.homes)) (hg (only t.homes)))

  each_where : (s : Shape) (made : Made) → HasEach Has made → HasEach Has (where_empty s made)
  each_where s made h = each_if Has (is_empty s) made (Refused NotTaken) h tt

  each_repeated : (x y z : Made) → HasEach Has x → HasEach Has y → HasEach Has z → HasEach Has (repeated x y z)
  each_repeated (Refused why) y z hx hy hz = tt
  each_repeated (Gives p s) y z hx hy hz = by_test (tested s)
    where
      by_next : (t : Truth) (b : Block) (z : Made) → EachIn Has b → HasEach Has z → HasEach Has (repeated_next p t b z)
      by_next t b (Refused why) hb hz = tt
      by_next t b (Gives c s2) hb hz = each_where s2 (Gives (Repeat p t b c) empty) (hx, hb, hz)

      by_body : (t : Truth) (y : Made) → HasEach Has y → HasEach Has (repeated_body p t y z)
      by_body t (Refused why) hy = tt
      by_body t (Gives b s1) hy = each_where s1 (repeated_next p t b z) (by_next t b z hy hz)

      by_test : (o : Option Tested) → HasEach Has (repeated_test p o y z)
      by_test None = tt
      by_test (Some t) = each_where (only t.homes) (repeated_body p t.truth y z) (by_body t.truth y hy)

  each_given : (hs : List Operand) → HasEach Has (given_back r hs)
  each_given [] = tt
  each_given (a ∷ []) = tt
  each_given (a ∷ b ∷ hs) = tt

  -- ---- each waiting value has a home of its own

  each_flat : (c : Code Step) (s : Shape) → EachStep (StepHas Has) c → HasEach Has (flat lay r c s)
  each_flat Nothing s h = tt
  each_flat (Then a b) s (h, g) = each_after Has (flat lay r a s) (flat lay r b) (each_flat a s h) (λ s1. each_flat b s1 g)
  each_flat (Do p) s h = each_after Has (settled r s) _ (each_settled Has k r s) (λ s1. each_step Has k lay r p s1.homes h)
  each_flat (If a b) s (h, g) = each_chosen (tested s) (flat lay r a) (flat lay r b) (λ s1. each_flat a s1 h) (λ s1. each_flat b s1 g)
  each_flat (Loop c body next) s (h, g, i) =
      each_where s _
      (each_repeated (flat lay r c empty) (flat lay r body empty) (flat lay r next empty) (each_flat c empty h) (each_flat body empty g)
      (each_flat next empty i))
  each_flat Break s h = each_where s (Gives BreakOut empty) tt
  each_flat Continue s h = each_where s (Gives GoOn empty) tt
  each_flat Return s h = each_after Has (settled r s) _ (each_settled Has k r s) (λ s1. each_given s1.homes)

  -- ---- the oldest values are pushed

  each_onto : (os : List Operand) (made : Made) → HasEach Has made → HasEach Has (onto os made)
  each_onto os (Gives b s) h = h
  each_onto os (Refused why) h = tt

  each_lifted : (first : ℕ) (hs : List Operand) → EachIn Has (lifts first hs)
  each_lifted first [] = tt
  each_lifted first (h ∷ hs) = (k.copies (first + length hs) h, each_lifted first hs)

  each_popped : (first n : ℕ) → EachIn Has (pops first n)
  each_popped first zero = tt
  each_popped first (suc n) = (k.pops 4 (first + n), each_popped first n)

  each_pushed : (rest hs : List Operand) → HasEach Has (pushed_on rest hs)
  each_pushed rest [] = tt
  each_pushed rest (h ∷ []) = k.pushes 4 h
  each_pushed rest (h ∷ i ∷ hs) = tt

  each_worked : (p : Step) (rest : List Operand) → StepHas Has p → HasEach Has (worked lay r p rest)
  each_worked p rest h =
      each_after Has (stepped lay r p (popped r.locals (takes p))) (put_back r rest) (each_step Has k lay r p (popped r.locals (takes p)) h)
      (λ s. each_after Has (settled r s) (λ s1. pushed_on rest s1.homes) (each_settled Has k r s) (λ s1. each_pushed rest s1.homes))

  each_step_on : (p : Step) (news os : List Operand) → StepHas Has p → HasEach Has (step_on lay r p news os)
  each_step_on p news os h =
      each_if Has (nat_le (takes p) (length news + length os)) _ (Refused NotTaken) (each_if Has (nat_le (takes p + 2) r.temps) _ (Refused TooHigh) does tt) tt
    where
      missing : ℕ
      missing = takes p - length news

      does : HasEach Has (after (drawn r missing news os) (λ s. worked lay r p s.homes))
      does =
          each_behind Has _ (worked lay r p (drop missing os)) (each_lifted (r.locals + missing) news, each_popped r.locals missing)
          (each_worked p (drop missing os) h)

  each_done : (most : ℕ) (p : Step) (s : Shape) → StepHas Has p → HasEach Has (done lay r most p s)
  each_done most p s h =
      each_if Has (is_above most p s) (onto (older most s) (flat lay r (Do p) (newer most s))) (crossed lay r most p s)
      (each_onto (older most s) (flat lay r (Do p) (newer most s)) (each_flat (Do p) (newer most s) h))
      (each_after Has (settled r (newer most s)) _ (each_settled Has k r (newer most s)) (λ s1. each_step_on p s1.homes (older most s) h))

  each_topped : (hs : List Operand) → HasEach Has (topped r hs)
  each_topped [] = tt
  each_topped (h ∷ hs) = each_temp Has (temp r []) _ (λ to. k.pops 4 to)

  each_newest : (most : ℕ) (s : Shape) → HasEach Has (with_newest r most s)
  each_newest most s = each_if Has (all_pushed most s) (topped r s.homes) (Refused NotTaken) (each_topped s.homes) tt

  each_lowered : (n : ℕ) (hs : List Operand) → HasEach Has (lowered r n hs)
  each_lowered n [] = tt
  each_lowered n (h ∷ hs) = each_if Has (length hs == n) _ (Refused NotTaken) (each_temp Has (temp r []) _ (λ to. k.pops 4 to)) tt

  each_level : (most n : ℕ) (s : Shape) → HasEach Has (level r most n s)
  each_level most n s =
      each_if Has (all_pushed most s) (level_as r n s) (Refused NotTaken)
      (each_if Has (length s.homes == n) (Gives Skip (only s.homes)) (lowered r n s.homes) tt (each_lowered n s.homes)) tt

  each_again : (hs : List Operand) → HasEach Has (pushed_again hs)
  each_again [] = tt
  each_again (h ∷ hs) = k.pushes 4 h

  each_raised : (n : ℕ) (s : Shape) → HasEach Has (raised n s)
  each_raised n s = each_if Has (nat_lt (length s.homes) n) (Gives Skip (only s.homes)) (pushed_again s.homes) tt (each_again s.homes)

  each_ways : (most : ℕ) (o : Option Tested) (f g : Shape → Made) → ((s : Shape) → HasEach Has (f s)) → ((s : Shape) → HasEach Has (g s))
      → HasEach Has (ways r most o f g)
  each_ways most None f g hf hg = tt
  each_ways most (Some t) f g hf hg =
      each_joined t.truth (levelled r most (length t.homes) (f (only t.homes))) (levelled r most (length t.homes) (g (only t.homes)))
      (each_after Has (f (only t.homes)) (level r most (length t.homes)) (hf (only t.homes)) (each_level most (length t.homes)))
      (each_after Has (g (only t.homes)) (level r most (length t.homes)) (hg (only t.homes)) (each_level most (length t.homes)))

  each_by_pushed : (most : ℕ) (f g : Shape → Made) (s : Shape) → ((s : Shape) → HasEach Has (f s)) → ((s : Shape) → HasEach Has (g s))
      → HasEach Has (by_pushed r most f g s)
  each_by_pushed most f g s hf hg =
      each_after Has (with_newest r most s) _ (each_newest most s) (λ s1. each_after Has (ways r most (tested s1) f g) (raised (length s1.homes))
      (each_ways most (tested s1) f g hf hg) (each_raised (length s1.homes)))

  each_by_newer : (most : ℕ) (a b : Code Step) (s : Shape) → EachStep (StepHas Has) (If a b) → HasEach Has (by_newer lay r most a b s)
  each_by_newer most a b s h =
      each_if Has (is_calm a && is_calm b) (onto (older most s) (flat lay r (If a b) (newer most s))) (Refused NotTaken)
      (each_onto (older most s) (flat lay r (If a b) (newer most s)) (each_flat (If a b) (newer most s) h)) tt

  each_stacked : (most : ℕ) (c : Code Step) (s : Shape) → EachStep (StepHas Has) c → HasEach Has (stacked lay r most c s)
  each_stacked most Nothing s h = tt
  each_stacked most (Then a b) s (h, g) =
      each_after Has (stacked lay r most a s) (stacked lay r most b) (each_stacked most a s h) (λ s1. each_stacked most b s1 g)
  each_stacked most (Do p) s h = each_done most p s h
  each_stacked most (If a b) s (h, g) =
      each_if Has (all_pushed most s) (by_pushed r most (stacked lay r most a) (stacked lay r most b) s) (by_newer lay r most a b s)
      (each_by_pushed most (stacked lay r most a) (stacked lay r most b) s (λ s1. each_stacked most a s1 h) (λ s1. each_stacked most b s1 g))
      (each_by_newer most a b s (h, g))
  each_stacked most (Loop c body next) s (h, g, i) =
      each_where s _
      (each_repeated (after (stacked lay r most c empty) (with_newest r most)) (stacked lay r most body empty) (stacked lay r most next empty)
      (each_after Has (stacked lay r most c empty) (with_newest r most) (each_stacked most c empty h) (each_newest most)) (each_stacked most body empty g)
      (each_stacked most next empty i))
  each_stacked most Break s h = each_where s (Gives BreakOut empty) tt
  each_stacked most Continue s h = each_where s (Gives GoOn empty) tt
  each_stacked most Return s h = each_after Has (with_newest r most s) _ (each_newest most s) (λ s1. each_given s1.homes)

  -- ---- whole procedures

  each_zero : (c i : ℕ) → EachIn Has (zeroes c i)
  each_zero zero i = tt
  each_zero (suc c) i = (k.copies i (Known 0), each_zero c (suc i))

  each_whole : (m : FirmProcedure) (b : Block) → EachIn Has b → EachIn Has (whole m b)
  each_whole m b h = (each_zero (length m.widths - m.params) (own_params m), (h, tt))

pub each_flattened : (Has : Instr → Type 0) → Carries Has → (lay : Layout) (m : FirmProcedure) (p : Procedure) → IsFlat lay m p
    → EachStep (StepHas Has) m.body → AllByRecursion Has p.code
each_flattened Has k lay m p f h =
    subst (AllByRecursion Has) (sym f.code)
    (all_set Has k 0 0 (open_code (whole m f.block) 0) (in_block Has k (whole m f.block) 0 (each_whole Has k lay f.room m f.block (by_way f.made))))
  where
    by_way : (flat lay f.room m.body empty ≡ Gives f.block f.shape) ⊎ IsPushed lay m f.room f.block f.shape → EachIn Has f.block
    by_way (inl e) = subst (HasEach Has) e (each_flat Has k lay f.room m.body empty h)
    by_way (inr x) = subst (HasEach Has) x.made (each_stacked Has k lay f.room x.pushes m.body empty h)
