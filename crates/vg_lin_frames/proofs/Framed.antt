-- That code leaves alone what waits below: no instruction looks below what it takes.
use Rattle.std.specs.Prelude.{ℕ, zero, suc, ◌+◌, Bool, true, false, not, ◌==◌, ◌&&◌, List, [], ◌∷◌, ◌++◌, length, take, drop, reverse, Option, Some, None}
use Rattle.std.specs.Prelude.{slice_get, if◌then◌else◌}
use Rattle.std.proofs.Common.{◌≡◌, refl, sym, ap, ◌∙◌, subst, arith}
use Rattle.vg_meaning.specs.declared.event.Event.TheVariants.{Read, Write, Enter}
use Rattle.vg_meaning.specs.Outside.{Outside, with_event}
use Rattle.vg_meaning.specs.History.{History, full}
use Rattle.vg_meaning.specs.World.{World}
use Rattle.vg_meaning.specs.Answer.{Answer, Gives, Ends, Piece, and_then}
use Rattle.vg_meaning.specs.Interrupts.{interrupt_from, take_interrupt}
use Rattle.vg_meaning.specs.Loops.{choose}
use Rattle.vg_meaning.specs.Code.{Code, Nothing, Then, Do, If, Loop, Break, Continue, Return, performed}
use Rattle.vg_codes.specs.Dispatch.{dispatched}
use Rattle.vg_lin.specs.declared.instr.Operand.{Operand}
use Rattle.vg_lin.specs.declared.instr.Operand.TheVariants.{Local, Known}
use Rattle.vg_lin.specs.declared.instr.Test.{Test}
use Rattle.vg_lin.specs.declared.instr.Memory.{Memory}
use Rattle.vg_lin.specs.declared.instr.Memory.TheVariants.{Ram, Flash}
use Rattle.vg_lin.specs.declared.instr.Plain.{Plain}
use Rattle.vg_lin.specs.declared.instr.Plain.TheVariants.{Copy, Compute, Product, DivideSteps, Load, Store, ReadDevice, WriteDevice, Push, Pop, Find, CodeOf, Stop}
use Rattle.vg_lin.specs.declared.instr.Callee.{Callee}
use Rattle.vg_lin.specs.declared.instr.Callee.TheVariants.{Procedure as ByNumber, Code as ByCode}
use Rattle.vg_lin.specs.declared.instr.Passed.{Passed}
use Rattle.vg_lin.specs.declared.instr.Target.{Target}
use Rattle.vg_lin.specs.declared.instr.Call.{Call}
use Rattle.vg_lin.specs.Values.{low, computed, compared, next_remainder, next_dividend}
use Rattle.vg_lin.specs.Program.{Procedure, Program}
use Rattle.vg_lin.specs.Steps.{Result, Interrupt, Went, Goes, Raises, Lacks, Fails, Entry}
use Rattle.vg_lin.specs.State.{State, Waiting, value_in, value, using, sets, index_of, loaded, number_at, with_number, stores, pops_from, reads_from, division_steps, divides, plain, both, holds}
use Rattle.vg_lin.specs.Meaning.{operands, with_value, values, begun, same_widths, values_of, with_code, called, gives_to, entry_by, entry_with, entry_of, entry_at}
use Rattle.vg_lin.specs.Meaning.{enter, with_result, resume, language}
use Rattle.vg_lin.specs.Structured.{Step, Here, Pick, Decide, Flip, Give, To, Rest, Deciding, fresh, Caller, with_found, lifted, with_truth, resumed, entered}
use Rattle.vg_lin.specs.Structured.{handled, handle, step, taken, truth}
use Rattle.vg_lin_frames.specs.Frames.{IsStraight, above, over, Above, gives, ends, wrong}

-- ---- operands

pub value_above : (under : List Waiting) (a : Operand) (s : State) → value a (above under s) ≡ value a s
value_above under (Local i) s = refl
value_above under (Known v) s = refl

holds_above : (under : List Waiting) (t : Test) (s : State) → holds t (above under s) ≡ holds t s
holds_above under t s = of t.left t.right
  where
    of : (a b : Operand)
        → both (value a (above under s)) (value b (above under s)) (compared t.comparison t.width) ≡ both (value a s) (value b s) (compared t.comparison t.width)
    of (Local i) (Local j) = refl
    of (Local i) (Known w) = refl
    of (Known v) (Local j) = refl
    of (Known v) (Known w) = refl

values_above : (under : List Waiting) (xs : List Passed) (s : State) → values xs (above under s) ≡ values xs s
values_above under [] s = refl
values_above under (a ∷ xs) s =
    ap (λ z. with_value a.width z (values xs (above under s))) (value_above under a.value s)
    ∙ ap (with_value a.width (value a.value s)) (values_above under xs s)

called_above : (under : List Waiting) (p : Program) (c : Callee) (s : State) → called p c (above under s) ≡ called p c s
called_above under p (ByNumber q) s = refl
called_above under p (ByCode a) s = ap (with_code p) (value_above under a s)

-- ---- plain instructions

data AboveWent (under : List Waiting) : Went State → Went State → Type 0 where
  goes : {s : State} {o : Outside} → AboveWent under (Goes s o) (Goes (above under s) o)
  raises : {code : ℕ} → AboveWent under (Raises code) (Raises code)
  lacks : {address : ℕ} → AboveWent under (Lacks address) (Lacks address)
  fails : {g : Went State} → AboveWent under Fails g

module _ (under : List Waiting) where
  using_above : (o : Option ℕ) (f g : ℕ → Went State) → ((x : ℕ) → AboveWent under (f x) (g x)) → AboveWent under (using o f) (using o g)
  using_above (Some x) f g h = h x
  using_above None f g h = fails

  with_operand : (a : Operand) (s : State) (f g : ℕ → Went State) → ((x : ℕ) → AboveWent under (f x) (g x))
      → AboveWent under (using (value a s) f) (using (value a (above under s)) g)
  with_operand (Local i) s f g h = using_above (value_in (slice_get s.locals i)) f g h
  with_operand (Known v) s f g h = h v

  with_loaded : (p : Program) (m : Memory) (w : ℕ) (o : Option ℕ) (s : State) (f g : ℕ → Went State) → ((x : ℕ) → AboveWent under (f x) (g x))
      → AboveWent under (using (loaded p m s w o) f) (using (loaded p m (above under s) w o) g)
  with_loaded p Ram w (Some i) s f g h = using_above (number_at s.ram w i) f g h
  with_loaded p Flash w (Some i) s f g h = using_above (number_at p.tables w i) f g h
  with_loaded p m w None s f g h = fails

  stores_above : (s : State) (o : Outside) (w x : ℕ) (i : Option ℕ) → AboveWent under (stores s o w x i) (stores (above under s) o w x i)
  stores_above s o w x None = fails
  stores_above s o w x (Some i) =
      using_above (number_at s.ram w i) (λ old. Goes (record s { ram = with_number s.ram w i x }) o)
      (λ old. Goes (record (above under s) { ram = with_number s.ram w i x }) o) (λ old. goes)

  reads_above : (rs : List ℕ) (to address : ℕ) (s : State) (o : Outside) → AboveWent under (reads_from rs to address s o) (reads_from rs to address (above under s) o)
  reads_above [] to address s o = lacks
  reads_above (v ∷ vs) to address s o = goes

  pops_above : (xs : List Waiting) (w to : ℕ) (s : State) (o : Outside)
      → AboveWent under (pops_from xs w to s o) (pops_from (xs ++ under) w to (above under s) o)
  pops_above [] w to s o = fails
  pops_above (x ∷ xs) w to s o = by_width (x.width == w)
    where
      by_width : (b : Bool)
          → AboveWent under (if b then Goes (sets to x.value (record s { waiting = xs })) o else Fails)
          (if b then Goes (sets to x.value (record (above under s) { waiting = xs ++ under })) o else Fails)
      by_width true = goes
      by_width false = fails

  divides_above : (n r d : ℕ) (a : Operand) (s : State) (o : Outside) → AboveWent under (divides n r d a s o) (divides n r d a (above under s) o)
  divides_above zero r d a s o = goes
  divides_above (suc n) r d a s o =
      using_above (value_in (slice_get s.locals r)) _ _ (λ x. using_above (value_in (slice_get s.locals d)) _ _ (λ y. with_operand a s _ _ (λ z.
      divides_above n r d a (sets d (next_dividend x y z) (sets r (next_remainder x y z) s)) o)))

  plain_above : (p : Program) (i : Plain) (s : State) (o : Outside) → AboveWent under (plain p i s o) (plain p i (above under s) o)
  plain_above p (Copy to a) s o = with_operand a s _ _ (λ x. goes)
  plain_above p (Compute c) s o =
      with_operand c.left s _ _ (λ x. with_operand c.right s _ _ (λ y. using_above (computed c.operator c.width x y) _ _ (λ z. goes)))
  plain_above p (Product to a b) s o = with_operand a s _ _ (λ x. with_operand b s _ _ (λ y. goes))
  plain_above p (DivideSteps r d a) s o = divides_above division_steps r d a s o
  plain_above p (Load m w to a) s o =
      with_operand a.index s _ _ (λ i. with_loaded p m w (index_of m (a.base + i)) s _ _ (λ x. goes))
  plain_above p (Store w a from) s o = with_operand a.index s _ _ (λ i. with_operand from s _ _ (λ x. stores_above s o w x (index_of Ram (a.base + i))))
  plain_above p (ReadDevice to address) s o = reads_above o.reads to address s o
  plain_above p (WriteDevice address a) s o = with_operand a s _ _ (λ x. goes)
  plain_above p (Push w a) s o = with_operand a s _ _ (λ x. goes)
  plain_above p (Pop w to) s o = pops_above s.waiting w to s o
  plain_above p (Find d to a) s o = with_operand a s _ _ (λ n. using_above (dispatched p.dispatches d n) _ _ (λ q. goes))
  plain_above p (CodeOf q to) s o = goes
  plain_above p (Stop code) s o = raises

-- ---- calls

take_short : (n : ℕ) (xs under : List Waiting) → length (take n xs) ≡ n → take n (xs ++ under) ≡ take n xs
take_short zero xs under e = refl
take_short (suc n) [] under e = absurd (omega (arith, e))
take_short (suc n) (x ∷ xs) under e = ap (λ z. x ∷ z) (take_short n xs under (omega (arith, e)))

drop_short : (n : ℕ) (xs under : List Waiting) → length (take n xs) ≡ n → drop n (xs ++ under) ≡ drop n xs ++ under
drop_short zero xs under e = refl
drop_short (suc n) [] under e = absurd (omega (arith, e))
drop_short (suc n) (x ∷ xs) under e = drop_short n xs under (omega (arith, e))

same_of : (a b : ℕ) → (a == b) ≡ true → a ≡ b
same_of a b e = grind arith

same_is : (a b : ℕ) → a ≡ b → (a == b) ≡ true
same_is a b e = grind arith

abbrev AboveEntry : List Waiting → Option (Entry State) → Option (Entry State) → Type 0
AboveEntry under (Some e) g = g ≡ Some (record e { kept = above under e.kept })
AboveEntry under None g = Unit {0}

module _ (under : List Waiting) where
  entry_with_above : (q : ℕ) (m : Procedure) (to : Option Target) (pushed : List Waiting) (kept : State) (o : Option (List Waiting))
      → AboveEntry under (entry_with q m to pushed kept o) (entry_with q m to pushed (above under kept) o)
  entry_with_above q m to pushed kept None = tt {0}
  entry_with_above q m to pushed kept (Some others) =
      by_widths ((length (pushed ++ others) == m.params) && same_widths m.widths (pushed ++ others) && gives_to m.result to)
    where
      by_widths : (b : Bool)
          → AboveEntry under
          (if b then Some (record { proc = q; state = record { locals = begun m.widths (values_of (pushed ++ others)); waiting = []; ram = kept.ram }; kept = kept }) else None)
          (if b then Some (record {
            proc = q;
            state = record { locals = begun m.widths (values_of (pushed ++ others)); waiting = []; ram = kept.ram };
            kept = above under kept;
          }) else None)
      by_widths true = refl
      by_widths false = tt {0}

  entry_of_above : (q : ℕ) (o : Option Procedure) (c : Call) (s : State) → AboveEntry under (entry_of q o c s) (entry_of q o c (above under s))
  entry_of_above q None c s = tt {0}
  entry_of_above q (Some m) c s = by_count (length (take c.pushed s.waiting) == c.pushed) refl
    where
      long : Option (Entry State)
      long = entry_of q (Some m) c (above under s)

      by_count : (b : Bool) → (length (take c.pushed s.waiting) == c.pushed) ≡ b
          → AboveEntry under (if b
          then entry_with q m c.to (reverse (take c.pushed s.waiting)) (record s { waiting = drop c.pushed s.waiting }) (values (operands c.registers) s)
          else None) long
      by_count false e = tt {0}
      by_count true e =
          subst (AboveEntry under (entry_with q m c.to (reverse (take c.pushed s.waiting)) (record s { waiting = drop c.pushed s.waiting })
          (values (operands c.registers) s))) (sym is)
          (entry_with_above q m c.to (reverse (take c.pushed s.waiting)) (record s { waiting = drop c.pushed s.waiting }) (values (operands c.registers) s))
        where
          n : length (take c.pushed s.waiting) ≡ c.pushed
          n = same_of (length (take c.pushed s.waiting)) c.pushed e

          taken : take c.pushed (s.waiting ++ under) ≡ take c.pushed s.waiting
          taken = take_short c.pushed s.waiting under n

          is : long ≡ entry_with q m c.to (reverse (take c.pushed s.waiting)) (above under (record s { waiting = drop c.pushed s.waiting })) (values (operands c.registers) s)
          is =
              ap (λ z. if length z == c.pushed
              then entry_with q m c.to (reverse z) (record (above under s) { waiting = drop c.pushed (s.waiting ++ under) }) (values (operands c.registers) (above under s))
              else None) taken
              ∙ ap (λ b. if b
              then entry_with q m c.to (reverse (take c.pushed s.waiting)) (record (above under s) { waiting = drop c.pushed (s.waiting ++ under) }) (values (operands c.registers) (above under s))
              else None) e
              ∙ ap (λ z. entry_with q m c.to (reverse (take c.pushed s.waiting)) (record (above under s) { waiting = z }) (values (operands c.registers) (above under s)))
              (drop_short c.pushed s.waiting under n)
              ∙ ap (entry_with q m c.to (reverse (take c.pushed s.waiting)) (above under (record s { waiting = drop c.pushed s.waiting }))) (values_above under (operands c.registers) s)

  entry_at_above : (p : Program) (o : Option ℕ) (c : Call) (s : State) → AboveEntry under (entry_at p o c s) (entry_at p o c (above under s))
  entry_at_above p (Some q) c s = entry_of_above q (slice_get p.procedures q) c s
  entry_at_above p None c s = tt {0}

  enter_above : (p : Program) (c : Call) (s : State) → AboveEntry under (enter p c s) (enter p c (above under s))
  enter_above p c s =
      subst (λ z. AboveEntry under (enter p c s) (entry_at p z c (above under s))) (sym (called_above under p c.callee s)) (entry_at_above p (called p c.callee s) c s)

  result_above : (o : Option Target) (v : ℕ) (s : State) → with_result o v (above under s) ≡ above under (with_result o v s)
  result_above (Some to) v s = refl
  result_above None v s = refl

-- ---- code

module _ (p : Program) (call : Caller State) (under : List Waiting) where
  abbrev does : Step → Piece (Deciding State) History
  does x = step (language p) call x

  abbrev runs : Code Step → Piece (Deciding State) History
  runs c = performed full (step (language p) call) truth c

  above_then : (a b : Answer (Deciding State) History) (g : Piece (Deciding State) History) → Above under a b
      → ((d : Deciding State) (w : World History) → Above under (g d w) (g (over under d) w)) → Above under (and_then a g) (and_then b g)
  above_then _ _ g (gives {d = d} {w = w}) h = h d w
  above_then _ _ g ends h = ends
  above_then _ _ g wrong h = wrong

  went_above : (a b : Went State) (d : Deciding State) (w : World History) → AboveWent under a b → Above under (lifted a d w) (lifted b (over under d) w)
  went_above _ _ d w goes = gives
  went_above _ _ d w raises = ends
  went_above _ _ d w lacks = ends
  went_above _ _ d w fails = wrong

  truth_above : (o : Option Bool) (d : Deciding State) (w : World History) → Above under (with_found o with_truth d w) (with_found o with_truth (over under d) w)
  truth_above (Some b) d w = gives
  truth_above None d w = wrong

  flip_above : (o : Option Bool) (d : Deciding State) (w : World History)
      → Above under (with_found o (λ b. with_truth (not b)) d w) (with_found o (λ b. with_truth (not b)) (over under d) w)
  flip_above (Some b) d w = gives
  flip_above None d w = wrong

  -- the same procedure is called, and behind the call the same waits below
  behind_call : (c : Call) (kept : State) (d : Deciding State) (a : Answer (Deciding State) History)
      → Above under (and_then a (resumed (language p) (Result c) kept d)) (and_then a (resumed (language p) (Result c) (above under kept) (over under d)))
  behind_call c kept d (Ends why b w) = ends
  behind_call c kept d (Gives b w) =
      subst (λ z. Above under (Gives (record d { state = with_result c.to b.result (record kept { ram = b.state.ram }) }) w) (Gives (record (over under d) { state = z }) w))
      (sym (result_above under c.to b.result (record kept { ram = b.state.ram }))) gives

  call_above : (c : Call) (o g : Option (Entry State)) (d : Deciding State) (w : World History) → AboveEntry under o g
      → Above under (with_found o (entered (language p) call c) d w) (with_found g (entered (language p) call c) (over under d) w)
  call_above c (Some e) g d w h =
      subst (λ z. Above under (with_found (Some e) (entered (language p) call c) d w) (with_found z (entered (language p) call c) (over under d) w)) (sym h)
      (behind_call c e.kept d (call e.proc (fresh e.state) w))
  call_above c None g d w h = wrong

  handle_above : (o : Option ℕ) (d : Deciding State) (w : World History) → Above under (handle (language p) call o d w) (handle (language p) call o (over under d) w)
  handle_above None d w = gives
  handle_above (Some m) d w = behind (call m (fresh ((language p).wake m d.state)) w)
    where
      behind : (a : Answer (Deciding State) History)
          → Above under (and_then a (resumed (language p) Interrupt d.state d)) (and_then a (resumed (language p) Interrupt (above under d.state) (over under d)))
      behind (Gives b w1) = gives
      behind (Ends why b w1) = ends

  rest_above : (vectors : List ℕ) (d : Deciding State) (w : World History)
      → Above under (interrupt_from vectors (λ vector. handle (language p) call ((language p).handler vector)) d w)
      (interrupt_from vectors (λ vector. handle (language p) call ((language p).handler vector)) (over under d) w)
  rest_above [] d w = ends
  rest_above (vector ∷ vectors) d w =
      handle_above (p.handler vector) d (record w { outside = with_event (record w.outside { interrupts = vectors }) (Enter vector) })

  step_above : (x : Step) → IsStraight (Do x) → (d : Deciding State) (w : World History) → Above under (does x d w) (does x (over under d) w)
  step_above (Here i) h d w = went_above (plain p i d.state w.outside) (plain p i (above under d.state) w.outside) d w (plain_above under p i d.state w.outside)
  step_above (Pick t) h d w =
      subst (λ z. Above under (with_found (holds t d.state) with_truth d w) (with_found z with_truth (over under d) w)) (sym (holds_above under t d.state))
      (truth_above (holds t d.state) d w)
  step_above (Decide b) h d w = gives
  step_above Flip h d w = flip_above d.truth d w
  step_above (Give width a) h d w = absurd h
  step_above (To c) h d w = call_above c (enter p c d.state) (enter p c (above under d.state)) d w (enter_above under p c d.state)
  step_above Rest h d w = rest_above w.outside.interrupts d w

  pub code_above : (c : Code Step) → IsStraight c → (d : Deciding State) (w : World History) → Above under (runs c d w) (runs c (over under d) w)
  code_above Nothing h d w = gives
  code_above (Then a b) h d w = above_then (runs a d w) (runs a (over under d) w) (runs b) (code_above a h.0 d w) (λ d1 w1. code_above b h.1 d1 w1)
  code_above (Do x) h d w = step_above x h d w
  code_above (If a b) h d w =
      by_truth (code_above a h.0 (record d { truth = None }) w) (code_above b h.1 (record d { truth = None }) w) d.truth
    where
      by_truth : Above under (runs a (record d { truth = None }) w) (runs a (over under (record d { truth = None })) w)
          → Above under (runs b (record d { truth = None }) w) (runs b (over under (record d { truth = None })) w) → (o : Option Bool)
          → Above under (choose (taken o d) (runs a) (runs b) d w) (choose (taken o (over under d)) (runs a) (runs b) (over under d) w)
      by_truth x y (Some true) = x
      by_truth x y (Some false) = y
      by_truth x y None = wrong
  code_above (Loop c body next) h d w = absurd h
  code_above Break h d w = ends
  code_above Continue h d w = ends
  code_above Return h d w = ends
