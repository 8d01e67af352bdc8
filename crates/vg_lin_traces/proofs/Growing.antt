-- Each step of linear code leaves what was seen, or adds one event to it.
use Rattle.std.specs.Prelude.{ℕ, zero, suc, ◌+◌, ◌==◌, Bool, true, false, List, [], ◌∷◌, ◌++◌, Option, Some, None, if◌then◌else◌}
use Rattle.std.proofs.Common.{◌≡◌, refl, sym, ap, ◌∙◌, arith}
use Rattle.std.proofs.lemmas.List.{append_assoc, append-nil}
use Rattle.vg_meaning.specs.declared.event.Event.{Event}
use Rattle.vg_meaning.specs.declared.event.Event.TheVariants.{Read, Write, Enter}
use Rattle.vg_meaning.specs.Answer.{End}
use Rattle.vg_meaning.specs.Outside.{Outside, with_event}
use Rattle.vg_codes.specs.Dispatch.{dispatched}
use Rattle.vg_lin.specs.declared.instr.Plain.{Plain as PlainInstr}
use Rattle.vg_lin.specs.declared.instr.Plain.TheVariants.{Copy, Compute, Product, DivideSteps, Load, Store, ReadDevice, WriteDevice, Push, Pop, Find, CodeOf, Stop}
use Rattle.vg_lin.specs.declared.instr.Memory.TheVariants.{Ram}
use Rattle.vg_lin.specs.declared.instr.Call.{Call as Calling}
use Rattle.vg_lin.specs.declared.instr.Instr.{Instr}
use Rattle.vg_lin.specs.declared.instr.Instr.TheVariants.{Plain, When, Unless, Jump, Call, Return, Idle}
use Rattle.vg_lin.specs.declared.instr.Operand.{Operand}
use Rattle.vg_lin.specs.declared.instr.Operand.TheVariants.{Local}
use Rattle.vg_lin.specs.Meaning.{language, codes_in, enter, result}
use Rattle.vg_lin.specs.Program.{Program}
use Rattle.vg_lin.specs.State.{State, Waiting, value, using, sets, stores, loaded, number_at, index_of, pops_from, reads_from, division_steps, divides, plain, holds}
use Rattle.vg_lin.specs.Values.{low, computed, next_remainder, next_dividend}
use Rattle.vg_lin.specs.Steps.{Frame, Went, Goes, Raises, Lacks, Fails, Entry, Config, went, branched, calls, goes_back, returns, takes, handles, performed, fetch, stepped, step}
use Rattle.vg_lin_traces.specs.Traces.{after, Extends}

same : (o : Outside) → Extends o o
same o = ([], sym (append-nil o.trace))

one : (o : Outside) (event : Event) (v : Outside) → v.trace ≡ o.trace ++ event ∷ [] → Extends o v
one o event v e = (event ∷ [], e)

on : (o v w : Outside) → Extends o v → Extends v w → Extends o w
on o v w (a, e) (b, f) = (a ++ b, f ∙ ap (λ t. t ++ b) e ∙ append_assoc o.trace a b)

-- ---- plain instructions

abbrev GoesFrom : Outside → Went State → Type 0
GoesFrom o (Goes s v) = Extends o v
GoesFrom o _ = Unit {0}

with_value : (o : Outside) (v : Option ℕ) (go : ℕ → Went State) → ((x : ℕ) → GoesFrom o (go x)) → GoesFrom o (using v go)
with_value o (Some x) go h = h x
with_value o None go h = tt

pops : (xs : List Waiting) (w to : ℕ) (s : State) (o : Outside) → GoesFrom o (pops_from xs w to s o)
pops [] w to s o = tt
pops (x ∷ xs) w to s o = by_test (x.width == w)
  where
    by_test : (b : Bool) → GoesFrom o (if b then Goes (sets to x.value (record s { waiting = xs })) o else Fails)
    by_test true = same o
    by_test false = tt

reads : (xs : List ℕ) (to address : ℕ) (s : State) (o : Outside) → GoesFrom o (reads_from xs to address s o)
reads [] to address s o = tt
reads (v ∷ vs) to address s o = one o (Read address v) (with_event (record o { reads = vs }) (Read address v)) refl

stored : (s : State) (o : Outside) (w x : ℕ) (i : Option ℕ) → GoesFrom o (stores s o w x i)
stored s o w x None = tt
stored s o w x (Some i) = with_value o (number_at s.ram w i) _ (λ old. same o)

divides_on : (n r d : ℕ) (a : Operand) (s : State) (o : Outside) → GoesFrom o (divides n r d a s o)
divides_on zero r d a s o = same o
divides_on (suc n) r d a s o =
    with_value o (value (Local r) s) _ (λ x. with_value o (value (Local d) s) _ (λ y. with_value o (value a s) _ (λ z.
    divides_on n r d a (sets d (next_dividend x y z) (sets r (next_remainder x y z) s)) o)))

plain_goes : (p : Program) (q : PlainInstr) (s : State) (o : Outside) → GoesFrom o (plain p q s o)
plain_goes p (Copy to a) s o = with_value o (value a s) _ (λ x. same o)
plain_goes p (Compute c) s o =
    with_value o (value c.left s) _ (λ x. with_value o (value c.right s) _ (λ y. with_value o (computed c.operator c.width x y) _ (λ z. same o)))
plain_goes p (Product to a b) s o = with_value o (value a s) _ (λ x. with_value o (value b s) _ (λ y. same o))
plain_goes p (DivideSteps r d a) s o = divides_on division_steps r d a s o
plain_goes p (Load m w to a) s o = with_value o (value a.index s) _ (λ i. with_value o (loaded p m s w (index_of m (a.base + i))) _ (λ x. same o))
plain_goes p (Store w a from) s o =
    with_value o (value a.index s) _ (λ i. with_value o (value from s) _ (λ x. stored s o w x (index_of Ram (a.base + i))))
plain_goes p (ReadDevice to address) s o = reads o.reads to address s o
plain_goes p (WriteDevice address a) s o = with_value o (value a s) _ (λ x. one o (Write address (low 1 x)) (with_event o (Write address (low 1 x))) refl)
plain_goes p (Push w a) s o = with_value o (value a s) _ (λ x. same o)
plain_goes p (Pop w to) s o = pops s.waiting w to s o
plain_goes p (Find d to a) s o = with_value o (value a s) _ (λ n. with_value o (dispatched p.dispatches d n) _ (λ q. same o))
plain_goes p (CodeOf q to) s o = same o
plain_goes p (Stop code) s o = tt

-- ---- steps

went_on : (c : Config State) (w : Went State) → GoesFrom c.outside w → Extends c.outside (went c w).outside
went_on c (Goes s o) h = h
went_on c (Raises code) h = same c.outside
went_on c (Lacks address) h = same c.outside
went_on c Fails h = same c.outside

branched_on : (c : Config State) (wanted : Bool) (to : ℕ) (b : Option Bool) → Extends c.outside (branched c wanted to b).outside
branched_on c true to (Some true) = same c.outside
branched_on c true to (Some false) = same c.outside
branched_on c false to (Some true) = same c.outside
branched_on c false to (Some false) = same c.outside
branched_on c true to None = same c.outside
branched_on c false to None = same c.outside

called_on : (p : Program) (c : Config State) (call : Calling) (e : Option (Entry State)) → Extends c.outside (calls (language p) c call e).outside
called_on p c call (Some e) = same c.outside
called_on p c call None = same c.outside

back_on : (p : Program) (c : Config State) (fs : List (Frame State)) (v : ℕ) → Extends c.outside (goes_back (language p) c fs v).outside
back_on p c (f ∷ fs) v = same c.outside
back_on p c [] v = same c.outside

returned_on : (p : Program) (c : Config State) (v : Option ℕ) → Extends c.outside (returns (language p) c v).outside
returned_on p c (Some v) = back_on p c c.frames v
returned_on p c None = same c.outside

taken_on : (c : Config State) (vs : List ℕ) → Extends c.outside (takes c vs).outside
taken_on c [] = same c.outside
taken_on c (v ∷ vs) = one c.outside (Enter v) (with_event (record c.outside { interrupts = vs }) (Enter v)) refl

handled_on : (p : Program) (c : Config State) (m : Option ℕ) → Extends c.outside (handles (language p) c m).outside
handled_on p c None = same c.outside
handled_on p c (Some m) = same c.outside

performed_on : (p : Program) (c : Config State) (i : Option Instr) → Extends c.outside (performed (language p) c i).outside
performed_on p c (Some (Plain q)) = went_on c (plain p q c.state c.outside) (plain_goes p q c.state c.outside)
performed_on p c (Some (When t to)) = branched_on c true to (holds t c.state)
performed_on p c (Some (Unless t to)) = branched_on c false to (holds t c.state)
performed_on p c (Some (Jump to)) = same c.outside
performed_on p c (Some (Call call)) = called_on p c call (enter p call c.state)
performed_on p c (Some (Return w a)) = returned_on p c (result w a c.state)
performed_on p c (Some Idle) = taken_on c c.outside.interrupts
performed_on p c None = same c.outside

stepped_on : (p : Program) (c : Config State) (end : Option End) (woken : Option ℕ)
    → Extends c.outside (stepped (language p) (codes_in p.procedures) c end woken).outside
stepped_on p c (Some why) woken = same c.outside
stepped_on p c None (Some vector) = handled_on p c (p.handler vector)
stepped_on p c None None = performed_on p c (fetch (codes_in p.procedures) c.proc c.pc)

-- ---- runs

pub run_extends : (p : Program) (n : ℕ) (c : Config State) → Extends c.outside (after p n c).outside
run_extends p zero c = same c.outside
run_extends p (suc n) c =
    let d = step (language p) (codes_in p.procedures) c in
    on c.outside d.outside (after p n d).outside (stepped_on p c c.ending c.woken) (run_extends p n d)

pub in_parts : (p : Program) (n k : ℕ) (c : Config State) → after p (n + k) c ≡ after p k (after p n c)
in_parts p zero k c = ap (λ m. after p m c) (let z : 0 + k ≡ k = omega arith in z)
in_parts p (suc n) k c =
    ap (λ m. after p m c) (let z : suc n + k ≡ suc (n + k) = omega arith in z) ∙ in_parts p n k (step (language p) (codes_in p.procedures) c)

pub ended_stays : (p : Program) (n : ℕ) (c : Config State) (why : End) → c.ending ≡ Some why → after p n c ≡ c
ended_stays p zero c why e = refl
ended_stays p (suc n) c why e =
    ap (λ z. after p n (stepped (language p) (codes_in p.procedures) c z c.woken)) e ∙ ended_stays p n c why e
