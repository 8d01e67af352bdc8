-- That the calls of code stand in it, each once and in their order, and no other, where the oldest values that wait are pushed.
use Rattle.std.specs.Prelude.{ℕ, zero, suc, ◌+◌, ◌-◌, ◌&&◌, ◌==◌, nat_lt, nat_le, List, [], ◌∷◌, ◌++◌, length, drop, Option, Some, None, Result, Ok, Err, IfOk}
use Rattle.std.proofs.Common.{◌≡◌, ◌⊎◌, inl, inr, refl, ap, ◌∙◌, subst}
use Rattle.std.proofs.lemmas.List.{append-nil}
use Rattle.vg_meaning.specs.Code.{Code, Nothing, Then, Do, If, Loop, Break, Continue, Return}
use Rattle.vg_firm.specs.declared.step.Step.{Step}
use Rattle.vg_firm_typed.specs.Steps.{takes}
use Rattle.vg_lin.specs.declared.instr.Operand.{Operand}
use Rattle.vg_flatten_shapes.specs.declared.fault.Fault.TheVariants.{NotTaken, TooHigh}
use Rattle.vg_flatten_shapes.specs.declared.layout.Layout.{Layout}
use Rattle.vg_flatten_shapes.specs.declared.room.Room.{Room}
use Rattle.vg_flatten_shapes.specs.Shapes.{Shape, only, empty, temp}
use Rattle.vg_flatten_shapes.specs.Blocks.{Block, Skip, BreakOut, GoOn, Both, open_code}
use Rattle.vg_flatten_shapes.specs.Made.{Made, Gives, Refused, after, settled, Tested, tested}
use Rattle.vg_flatten_steps.specs.Steps.{stepped}
use Rattle.vg_flatten_pushed.specs.Pushed.{newer, older, all_pushed, onto, pops, popped, lifts, pushed_on, put_back, worked, step_on, is_above, crossed, done}
use Rattle.vg_flatten_pushed.specs.Pushed.{topped, with_newest, lowered, level_as, level, raised, pushed_again}
use Rattle.vg_flatten_pushed.specs.Stacked.{is_calm, levelled, ways, by_pushed, by_newer, stacked}
use Rattle.vg_flatten.specs.Calls.{Called, called_by, calls_of, calls_in}
use Rattle.vg_base.specs.declared.refusal.Refusal.{Refusal}
use Rattle.vg_firm.specs.Program.{Procedure}
use Rattle.vg_lin.specs.Program.{Procedure as LinProcedure}
use Rattle.vg_flatten_shapes.specs.declared.fault.Fault.{Fault}
use Rattle.vg_flatten_control.specs.Flat.{flat}
use Rattle.vg_flatten.specs.Flattened.{own_params, whole, IsPushed, IsFlat}
use Rattle.vg_flatten.proofs.Calls.{open_in, block_calls, block_has, in_set, zeroes_quiet, whole_calls, HasCalls, Quiet, calls_behind, calls_after}
use Rattle.vg_flatten.proofs.Calls.{calls_if, quiet_temp, quiet_settled, calls_step, calls_flat, calls_joined, calls_where, calls_repeated}
use Rattle.vg_flatten.proofs.Calls.{quiet_given}

module _ (lay : Layout) (r : Room) (most : ℕ) where
  pops_quiet : (first n : ℕ) → block_calls (pops first n) ≡ []
  pops_quiet first zero = refl
  pops_quiet first (suc n) = pops_quiet first n

  -- what calls nothing behind
  quiet_behind : (xs : List Called) (made : Made) (more : Shape → Made) → HasCalls xs made → ((s : Shape) → Quiet (more s)) → HasCalls xs (after made more)
  quiet_behind xs made more hm h = subst (λ z. HasCalls z (after made more)) (append-nil xs) (calls_after xs [] made more hm h)

  quiet_pushed : (rest hs : List Operand) → Quiet (pushed_on rest hs)
  quiet_pushed rest [] = refl
  quiet_pushed rest (h ∷ []) = refl
  quiet_pushed rest (h ∷ i ∷ hs) = tt

  lifts_quiet : (first : ℕ) (hs : List Operand) → block_calls (lifts first hs) ≡ []
  lifts_quiet first [] = refl
  lifts_quiet first (h ∷ hs) = lifts_quiet first hs

  calls_onto : (xs : List Called) (os : List Operand) (made : Made) → HasCalls xs made → HasCalls xs (onto os made)
  calls_onto xs os (Gives b s) h = h
  calls_onto xs os (Refused why) h = tt

  calls_worked : (p : Step) (rest : List Operand) → HasCalls (called_by p) (worked lay r p rest)
  calls_worked p rest =
      quiet_behind (called_by p) (stepped lay r p (popped r.locals (takes p))) (put_back r rest) (calls_step lay r p (popped r.locals (takes p))) (λ s1.
      quiet_behind [] (settled r s1) (λ s2. pushed_on rest s2.homes) (quiet_settled r s1) (λ s2. quiet_pushed rest s2.homes))

  calls_step_on : (p : Step) (news os : List Operand) → HasCalls (called_by p) (step_on lay r p news os)
  calls_step_on p news os =
      calls_if (called_by p) (nat_le (takes p) (length news + length os)) _ (Refused NotTaken)
      (calls_if (called_by p) (nat_le (takes p + 2) r.temps) _ (Refused TooHigh)
      (calls_behind [] (called_by p) (Both (lifts (r.locals + k) news) (pops r.locals k)) (worked lay r p (drop k os)) drawn_quiet
      (calls_worked p (drop k os))) tt) tt
    where
      k : ℕ
      k = takes p - length news

      drawn_quiet : block_calls (lifts (r.locals + k) news) ++ block_calls (pops r.locals k) ≡ []
      drawn_quiet = ap (λ z. z ++ block_calls (pops r.locals k)) (lifts_quiet (r.locals + k) news) ∙ pops_quiet r.locals k

  calls_done : (p : Step) (s : Shape) → HasCalls (called_by p) (done lay r most p s)
  calls_done p s =
      calls_if (called_by p) (is_above most p s) _ (crossed lay r most p s)
      (calls_onto (called_by p) (older most s) (flat lay r (Do p) (newer most s)) (calls_flat lay r (Do p) (newer most s)))
      (calls_after [] (called_by p) (settled r (newer most s)) (λ s1. step_on lay r p s1.homes (older most s)) (quiet_settled r (newer most s))
      (λ s1. calls_step_on p s1.homes (older most s)))

  quiet_topped : (hs : List Operand) → Quiet (topped r hs)
  quiet_topped [] = tt
  quiet_topped (h ∷ hs) = quiet_temp (temp r []) _ (λ to. refl)

  quiet_lowered : (n : ℕ) (hs : List Operand) → Quiet (lowered r n hs)
  quiet_lowered n [] = tt
  quiet_lowered n (h ∷ hs) = calls_if [] (length hs == n) _ (Refused NotTaken) (quiet_temp (temp r []) _ (λ to. refl)) tt

  quiet_newest : (s : Shape) → Quiet (with_newest r most s)
  quiet_newest s = calls_if [] (all_pushed most s) (topped r s.homes) (Refused NotTaken) (quiet_topped s.homes) tt

  quiet_level : (n : ℕ) (s : Shape) → Quiet (level r most n s)
  quiet_level n s =
      calls_if [] (all_pushed most s) (level_as r n s) (Refused NotTaken)
      (calls_if [] (length s.homes == n) (Gives Skip (only s.homes)) (lowered r n s.homes) refl (quiet_lowered n s.homes)) tt

  quiet_again : (hs : List Operand) → Quiet (pushed_again hs)
  quiet_again [] = tt
  quiet_again (h ∷ hs) = refl

  quiet_raised : (n : ℕ) (s : Shape) → Quiet (raised n s)
  quiet_raised n s = calls_if [] (nat_lt (length s.homes) n) (Gives Skip (only s.homes)) (pushed_again s.homes) refl (quiet_again s.homes)

  calls_ways : (xs ys : List Called) (o : Option Tested) (f g : Shape → Made) → ((s : Shape) → HasCalls xs (f s)) → ((s : Shape) → HasCalls ys (g s))
      → HasCalls (xs ++ ys) (ways r most o f g)
  calls_ways xs ys None f g hf hg = tt
  calls_ways xs ys (Some t) f g hf hg =
      calls_joined lay r xs ys t.truth (levelled r most (length t.homes) (f (only t.homes))) (levelled r most (length t.homes) (g (only t.homes)))
      (quiet_behind xs (f (only t.homes)) (level r most (length t.homes)) (hf (only t.homes)) (quiet_level (length t.homes)))
      (quiet_behind ys (g (only t.homes)) (level r most (length t.homes)) (hg (only t.homes)) (quiet_level (length t.homes)))

  calls_pushed_choice : (xs ys : List Called) (f g : Shape → Made) (s : Shape) → ((s : Shape) → HasCalls xs (f s)) → ((s : Shape) → HasCalls ys (g s))
      → HasCalls (xs ++ ys) (by_pushed r most f g s)
  calls_pushed_choice xs ys f g s hf hg =
      calls_after [] (xs ++ ys) (with_newest r most s) _ (quiet_newest s) (λ s1.
      quiet_behind (xs ++ ys) (ways r most (tested s1) f g) (raised (length s1.homes)) (calls_ways xs ys (tested s1) f g hf hg)
      (quiet_raised (length s1.homes)))

  calls_newer_choice : (a b : Code Step) (s : Shape) → HasCalls (calls_of (If a b)) (by_newer lay r most a b s)
  calls_newer_choice a b s =
      calls_if (calls_of (If a b)) (is_calm a && is_calm b) _ (Refused NotTaken)
      (calls_onto (calls_of (If a b)) (older most s) (flat lay r (If a b) (newer most s)) (calls_flat lay r (If a b) (newer most s))) tt

  pub calls_stacked : (c : Code Step) (s : Shape) → HasCalls (calls_of c) (stacked lay r most c s)
  calls_stacked Nothing s = refl
  calls_stacked (Then a b) s =
      calls_after (calls_of a) (calls_of b) (stacked lay r most a s) (stacked lay r most b) (calls_stacked a s) (calls_stacked b)
  calls_stacked (Do p) s = calls_done p s
  calls_stacked (If a b) s =
      calls_if (calls_of (If a b)) (all_pushed most s) _ _
      (calls_pushed_choice (calls_of a) (calls_of b) (stacked lay r most a) (stacked lay r most b) s (calls_stacked a) (calls_stacked b))
      (calls_newer_choice a b s)
  calls_stacked (Loop c body next) s =
      calls_where lay r (calls_of (Loop c body next)) s _
      (calls_repeated lay r (calls_of c) (calls_of body) (calls_of next) (after (stacked lay r most c empty) (with_newest r most))
      (stacked lay r most body empty) (stacked lay r most next empty)
      (quiet_behind (calls_of c) (stacked lay r most c empty) (with_newest r most) (calls_stacked c empty) quiet_newest) (calls_stacked body empty)
      (calls_stacked next empty))
  calls_stacked Break s = calls_where lay r [] s (Gives BreakOut empty) refl
  calls_stacked Continue s = calls_where lay r [] s (Gives GoOn empty) refl
  calls_stacked Return s = calls_after [] [] (with_newest r most s) _ (quiet_newest s) (λ s1. quiet_given lay r s1.homes)

  whole_calls_pushed : (m : Procedure) (b : Block) (s : Shape) → stacked lay r most m.body empty ≡ Gives b s
      → open_in (open_code (whole m b) 0) ≡ calls_of m.body
  whole_calls_pushed m b s e =
      block_has (whole m b) 0 ∙ ap (λ z. z ++ (block_calls b ++ [])) (zeroes_quiet lay r (length m.widths - m.params) (own_params m))
      ∙ append-nil (block_calls b) ∙ subst (HasCalls (calls_of m.body)) e (calls_stacked m.body empty)

flat_calls : (lay : Layout) (m : Procedure) (p : LinProcedure) → IsFlat lay m p → calls_in p.code ≡ calls_of m.body
flat_calls lay m p f = ap calls_in f.code ∙ in_set 0 0 (open_code (whole m f.block) 0) ∙ by_way f.made
  where
    by_way : (flat lay f.room m.body empty ≡ Gives f.block f.shape) ⊎ IsPushed lay m f.room f.block f.shape
        → open_in (open_code (whole m f.block) 0) ≡ calls_of m.body
    by_way (inl e) = whole_calls lay f.room m f.block f.shape e
    by_way (inr u) = whole_calls_pushed lay f.room u.pushes m f.block f.shape u.made

pub has_calls : (lay : Layout) (m : Procedure) (answer : Result LinProcedure (Refusal Fault)) → IfOk answer (λ p. IsFlat lay m p)
    → IfOk answer (λ p. calls_in p.code ≡ calls_of m.body)
has_calls lay m (Ok p) f = flat_calls lay m p f
has_calls lay m (Err e) f = tt
