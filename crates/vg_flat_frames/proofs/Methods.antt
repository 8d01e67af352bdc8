-- The code of flattened methods, expanded: it does not idle, and does not call the procedure with which a run begins.
use Rattle.std.specs.Prelude.{ℕ, suc, ◌<◌, List, [], ◌∷◌, ◌++◌, Ok}
use Rattle.std.specs.List.{AllByRecursion}
use Rattle.std.proofs.Common.{sym, subst, arith}
use Rattle.vg_meaning.specs.Code.{Code, Nothing, Then, Do, If, Loop, Break, Continue, Return}
use Rattle.vg_firm.specs.declared.step.Step.{Step}
use Rattle.vg_firm.specs.declared.step.Step.TheVariants.{Number, This, Local as GetLocal, SetLocal, Forget, Operate, Apply, ReadDevice, WriteDevice}
use Rattle.vg_firm.specs.declared.step.Step.TheVariants.{Load, Store, LoadAt, StoreAt, LoadNothing, StoreNothing, LoadItem, StoreItem, Length, IsWithin}
use Rattle.vg_firm.specs.declared.step.Step.TheVariants.{StopUnlessWithin, Bind, BindFor, Call, CallFor, CallValue, Idle}
use Rattle.vg_firm.specs.Program.{Procedure as FirmProcedure}
use Rattle.vg_lin.specs.declared.instr.Callee.{Callee}
use Rattle.vg_lin.specs.declared.instr.Callee.TheVariants.{Procedure as ByNumber, Code as ByCode}
use Rattle.vg_lin.specs.declared.instr.Plain.{Plain as PlainInstr}
use Rattle.vg_lin.specs.declared.instr.Plain.TheVariants.{Copy, Compute, Product, DivideSteps, Load as Loads, Store as Stores, ReadDevice as ReadsDevice}
use Rattle.vg_lin.specs.declared.instr.Plain.TheVariants.{WriteDevice as WritesDevice, Push, Pop, Find, CodeOf, Stop}
use Rattle.vg_lin.specs.declared.instr.Instr.{Instr}
use Rattle.vg_lin.specs.declared.instr.Instr.TheVariants.{Plain, When, Unless, Jump, Call as Calls, Return as Returns, Idle as Idles}
use Rattle.vg_lin.specs.Program.{Procedure}
use Rattle.vg_expand.specs.Code.{Base, base_of, place_in, expanded_at, expanded_code, expanded}
use Rattle.vg_flatten_shapes.specs.declared.layout.Layout.{Layout}
use Rattle.vg_flatten.specs.Calls.{Called, Named, Found, called_by, calls_of, callee_of, called_at, calls_in}
use Rattle.vg_flatten.specs.Flattened.{IsFlat}
use Rattle.vg_flatten.proofs.PushedCalls.{has_calls}
use Rattle.vg_flat_each.specs.Each.{Carries, StepHas, EachStep}
use Rattle.vg_flat_each.proofs.Pushed.{each_flattened}
use Rattle.vg_frame_costs.specs.Fitting.{IsOther, IsOfMethod}
use Rattle.vg_flat_frames.specs.Methods.{IsStepBefore, CallsBefore}
use Rattle.vg_flat_frames.proofs.Expanding.{HoldsOfArithmetic, each_computing}

-- ---- what flattened code calls

abbrev IsCalledBefore : (start : ℕ) → Called → Type 0
IsCalledBefore start (Named q) = q < start
IsCalledBefore start Found = Unit {0}

module _ (start : ℕ) where
  abbrev AreBefore : List Called → Type 0
  AreBefore = AllByRecursion (IsCalledBefore start)

  before_both : (xs ys : List Called) → AreBefore xs → AreBefore ys → AreBefore (xs ++ ys)
  before_both [] ys h g = g
  before_both (x ∷ xs) ys (e, h) g = (e, before_both xs ys h g)

  step_before : (p : Step) → IsStepBefore start p → AreBefore (called_by p)
  step_before (Call q count) h = (h, tt)
  step_before (CallFor d count) h = (tt, tt)
  step_before (CallValue count) h = (tt, tt)
  step_before (Number v) h = tt
  step_before This h = tt
  step_before (GetLocal i) h = tt
  step_before (SetLocal i) h = tt
  step_before Forget h = tt
  step_before (Operate op) h = tt
  step_before (Apply op) h = tt
  step_before (ReadDevice address) h = tt
  step_before (WriteDevice address) h = tt
  step_before (Load home c) h = tt
  step_before (Store c width) h = tt
  step_before (LoadAt home c first) h = tt
  step_before (StoreAt c first width) h = tt
  step_before LoadNothing h = tt
  step_before StoreNothing h = tt
  step_before (LoadItem e) h = tt
  step_before (StoreItem e) h = tt
  step_before (Length t) h = tt
  step_before (IsWithin first count) h = tt
  step_before (StopUnlessWithin first count) h = tt
  step_before (Bind q) h = tt
  step_before (BindFor d) h = tt
  step_before Idle h = absurd h

  code_before : (c : Code Step) → CallsBefore start c → AreBefore (calls_of c)
  code_before Nothing h = tt
  code_before (Then a b) (h, g) = before_both (calls_of a) (calls_of b) (code_before a h) (code_before b g)
  code_before (Do p) h = step_before p h
  code_before (If a b) (h, g) = before_both (calls_of a) (calls_of b) (code_before a h) (code_before b g)
  code_before (Loop c body next) (h, g, i) =
      before_both (calls_of c) (calls_of body ++ calls_of next) (code_before c h)
      (before_both (calls_of body) (calls_of next) (code_before body g) (code_before next i))
  code_before Break h = tt
  code_before Continue h = tt
  code_before Return h = tt

-- ---- it does not idle

abbrev IsAwake : Instr → Type 0
IsAwake Idles = ⊥
IsAwake i = Unit {0}

awake : Carries IsAwake
awake =
    record {
      copies = λ to a. tt;
      computes = λ c. tt;
      loads = λ m w to a. tt;
      stores = λ w a from. tt;
      pushes = λ w a. tt;
      pops = λ w to. tt;
      codes = λ q to. tt;
      stops = λ code. tt;
      whens = λ t to. tt;
      unlesses = λ t to. tt;
      jumps = λ to. tt;
      calls = λ callee to xs. tt;
      returns = λ w a. tt;
    }

step_awake : (start : ℕ) (p : Step) → IsStepBefore start p → StepHas IsAwake p
step_awake start (ReadDevice address) h = λ to. tt
step_awake start (WriteDevice address) h = λ a. tt
step_awake start (BindFor d) h = λ to a. tt
step_awake start (CallFor d count) h = λ to a. tt
step_awake start Idle h = absurd h
step_awake start (Number v) h = tt
step_awake start This h = tt
step_awake start (GetLocal i) h = tt
step_awake start (SetLocal i) h = tt
step_awake start Forget h = tt
step_awake start (Operate op) h = tt
step_awake start (Apply op) h = tt
step_awake start (Load home c) h = tt
step_awake start (Store c width) h = tt
step_awake start (LoadAt home c first) h = tt
step_awake start (StoreAt c first width) h = tt
step_awake start LoadNothing h = tt
step_awake start StoreNothing h = tt
step_awake start (LoadItem e) h = tt
step_awake start (StoreItem e) h = tt
step_awake start (Length t) h = tt
step_awake start (IsWithin first count) h = tt
step_awake start (StopUnlessWithin first count) h = tt
step_awake start (Bind q) h = tt
step_awake start (Call q count) h = tt
step_awake start (CallValue count) h = tt

code_awake : (start : ℕ) (c : Code Step) → CallsBefore start c → EachStep (StepHas IsAwake) c
code_awake start Nothing h = tt
code_awake start (Then a b) (h, g) = (code_awake start a h, code_awake start b g)
code_awake start (Do p) h = step_awake start p h
code_awake start (If a b) (h, g) = (code_awake start a h, code_awake start b g)
code_awake start (Loop c body next) (h, g, i) = (code_awake start c h, code_awake start body g, code_awake start next i)
code_awake start Break h = tt
code_awake start Continue h = tt
code_awake start Return h = tt

-- ---- expanded code

callee_before : (start : ℕ) (c : Callee) → IsCalledBefore start (callee_of c) → IsOther start c
callee_before start (ByNumber q) h = λ e. omega (arith, h, e)
callee_before start (ByCode a) h = tt

routines_other : (start : ℕ) → HoldsOfArithmetic (IsOfMethod start) (suc start)
routines_other start =
    record { copies = λ to a. tt; computes = λ c. tt; products = λ to a b. tt; routines = λ q rs to le e. omega (arith, le, e) }

module _ (start : ℕ) (base : Base) (k : HoldsOfArithmetic (IsOfMethod start) base.first) (place : ℕ → ℕ) where
  abbrev AreOfMethod : List Instr → Type 0
  AreOfMethod = AllByRecursion (IsOfMethod start)

  all_both : (is js : List Instr) → AreOfMethod is → AreOfMethod js → AreOfMethod (is ++ js)
  all_both [] js h g = g
  all_both (i ∷ is) js (e, h) g = (e, all_both is js h g)

  plain_of : (p : PlainInstr) → AreOfMethod (expanded_at base place (Plain p))
  plain_of (Compute c) = each_computing (IsOfMethod start) base k c c.operator
  plain_of (Copy to a) = (tt, tt)
  plain_of (Product to a b) = (tt, tt)
  plain_of (DivideSteps r d a) = (tt, tt)
  plain_of (Loads m w to a) = (tt, tt)
  plain_of (Stores w a from) = (tt, tt)
  plain_of (ReadsDevice to address) = (tt, tt)
  plain_of (WritesDevice address a) = (tt, tt)
  plain_of (Push w a) = (tt, tt)
  plain_of (Pop w to) = (tt, tt)
  plain_of (Find d to a) = (tt, tt)
  plain_of (CodeOf q to) = (tt, tt)
  plain_of (Stop code) = (tt, tt)

  instr_of : (i : Instr) → IsAwake i → AreBefore start (called_at i) → AreOfMethod (expanded_at base place i)
  instr_of (Plain p) a h = plain_of p
  instr_of (When t to) a h = (tt, tt)
  instr_of (Unless t to) a h = (tt, tt)
  instr_of (Jump to) a h = (tt, tt)
  instr_of (Calls c) a h = (callee_before start c.callee h.0, tt)
  instr_of (Returns w x) a h = (tt, tt)
  instr_of Idles a h = absurd a

  first_before : (xs ys : List Called) → AreBefore start (xs ++ ys) → AreBefore start xs × AreBefore start ys
  first_before [] ys h = (tt, h)
  first_before (x ∷ xs) ys (e, h) = let parts = first_before xs ys h in ((e, parts.0), parts.1)

  code_of : (is : List Instr) → AllByRecursion IsAwake is → AreBefore start (calls_in is) → AreOfMethod (expanded_code base place is)
  code_of [] a h = tt
  code_of (i ∷ is) (a, as') h =
      let parts = first_before (called_at i) (calls_in is) h in
      all_both (expanded_at base place i) (expanded_code base place is) (instr_of i a parts.0) (code_of is as' parts.1)

pub flat_of_method : (start : ℕ) (lay : Layout) (m : FirmProcedure) (p : Procedure) → IsFlat lay m p → CallsBefore start m.body
    → AllByRecursion (IsOfMethod start) (expanded (suc start) p).code
flat_of_method start lay m p f h =
    code_of start (base_of (suc start) p) (routines_other start) (place_in (base_of (suc start) p) p.code) p.code
    (each_flattened IsAwake awake lay m p f (code_awake start m.body h))
    (subst (AreBefore start) (sym (has_calls lay m (Ok p) f)) (code_before start m.body h))
