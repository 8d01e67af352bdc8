-- What steps become that are fit; and fit code, with and without its arithmetic.
use Rattle.std.specs.Prelude.{ℕ, zero, suc, ◌-◌, ◌<◌, ◌≤◌, ◌⊎◌, Bool, true, false, ◌&&◌, nat_lt, List, [], ◌∷◌, length, drop, Option, Some, slice_get}
use Rattle.std.specs.List.{AllByRecursion}
use Rattle.std.proofs.Common.{◌≡◌, inl, inr, refl, subst, arith, length-drop}
use Rattle.vg_meaning.specs.Code.{Code, Nothing, Then, Do, If, Loop, Break, Continue, Return}
use Rattle.vg_firm.specs.declared.step.Step.{Step}
use Rattle.vg_firm.specs.declared.step.Step.TheVariants.{Number, This, Local as GetLocal, SetLocal, Forget, Operate, Apply, ReadDevice, WriteDevice}
use Rattle.vg_firm.specs.declared.step.Step.TheVariants.{Load, Store, LoadAt, StoreAt, LoadNothing, StoreNothing, LoadItem, StoreItem, Length, IsWithin}
use Rattle.vg_firm.specs.declared.step.Step.TheVariants.{StopUnlessWithin, Bind, BindFor, Call, CallFor, CallValue, Idle}
use Rattle.vg_firm.specs.Program.{Procedure as FirmProcedure}
use Rattle.vg_lin.specs.declared.instr.Operator.{Operator}
use Rattle.vg_lin.specs.declared.instr.Operator.TheVariants.{Plus, Minus, Times, Divide, Remainder, And, Or, Xor, ShiftLeft, ShiftRight}
use Rattle.vg_lin.specs.declared.instr.Plain.{Plain as PlainInstr}
use Rattle.vg_lin.specs.declared.instr.Plain.TheVariants.{Copy, Compute, Product, DivideSteps, Load as Loads, Store as Stores, ReadDevice as ReadsDevice}
use Rattle.vg_lin.specs.declared.instr.Plain.TheVariants.{WriteDevice as WritesDevice, Push, Pop, Find, CodeOf, Stop}
use Rattle.vg_lin.specs.declared.instr.Instr.{Instr}
use Rattle.vg_lin.specs.declared.instr.Instr.TheVariants.{Plain, When, Unless, Jump, Call as Calls, Return as Returns, Idle as Idles}
use Rattle.vg_lin.specs.declared.instr.Callee.{Callee}
use Rattle.vg_lin.specs.declared.instr.Passed.{Passed}
use Rattle.vg_lin.specs.declared.instr.Target.{Target}
use Rattle.vg_lin.specs.Meaning.{operands}
use Rattle.vg_lin.specs.Program.{Procedure, Program}
use Rattle.vg_arith.specs.Simple.{needs_no_routine, is_simple, are_simple}
use Rattle.vg_flatten_shapes.specs.declared.layout.Layout.{Layout}
use Rattle.vg_flatten_steps.specs.Calls.{registers_of, call_with}
use Rattle.vg_flatten.specs.Flattened.{IsFlat}
use Rattle.vg_flat_each.specs.Each.{Carries, StepHas, EachStep}
use Rattle.vg_flat_each.proofs.Pushed.{each_flattened}
use Rattle.vg_templates.specs.Flow.{IsDivided}
use Rattle.vg_covered.specs.Fitting.{IsExpanded, IsPlainFit, IsFit}
use Rattle.vg_fit_code.specs.Making.{IsPlainMade, IsMade, IsStepFit}

-- ---- flattened code

-- of more than four arguments the last four are passed beside those that wait
four_passed : (xs : List Passed) → length xs ≡ 4 → length (operands (registers_of xs)) ≡ 4
four_passed [] h = h
four_passed (a ∷ []) h = h
four_passed (a ∷ b ∷ []) h = h
four_passed (a ∷ b ∷ c ∷ []) h = h
four_passed (a ∷ b ∷ c ∷ d ∷ []) h = h
four_passed (a ∷ b ∷ c ∷ d ∷ e ∷ xs) h = absurd (let none : suc (suc (suc (suc (suc (length xs))))) ≡ 4 = h in omega arith)

many_or_few : (n : ℕ) → (4 < n) ⊎ (n ≤ 4)
many_or_few n = by_test (nat_lt 4 n) refl
  where
    by_test : (b : Bool) → nat_lt 4 n ≡ b → (4 < n) ⊎ (n ≤ 4)
    by_test true e = inl (grind (arith, e))
    by_test false e = inr (grind (arith, e))

pub parts_last : (callee : Callee) (to : Option Target) (xs : List Passed) → IsDivided (call_with callee to xs)
parts_last callee to xs = elim (many_or_few (length xs)) [
  | inl more ↦ inr
      (let last = four_passed (drop (length xs - 4) xs) (let whole = length-drop (length xs - 4) xs in omega (arith, whole, more)) in omega (arith, last, more))
  | inr few ↦ inl (omega (arith, few))
]

module _ (p : Program) where
  carries : Carries (IsMade p)
  carries =
      record {
        copies = λ to a. tt;
        computes = λ c. tt;
        loads = λ m w to a. tt;
        stores = λ w a from. tt;
        pushes = λ w a. tt;
        pops = λ w to. tt;
        codes = λ q to. tt;
        stops = λ code. tt;
        whens = λ t to. tt;
        unlesses = λ t to. tt;
        jumps = λ to. tt;
        calls = λ callee to xs. parts_last callee to xs;
        returns = λ w a. tt;
      }

  step_has : (s : Step) → IsStepFit p s → StepHas (IsMade p) s
  step_has (ReadDevice address) h = λ to. h
  step_has (WriteDevice address) h = λ a. h
  step_has (BindFor d) h = λ to a. h
  step_has (CallFor d count) h = λ to a. h
  step_has (Number v) h = tt
  step_has This h = tt
  step_has (GetLocal i) h = tt
  step_has (SetLocal i) h = tt
  step_has Forget h = tt
  step_has (Operate op) h = tt
  step_has (Apply op) h = tt
  step_has (Load home c) h = tt
  step_has (Store c width) h = tt
  step_has (LoadAt home c first) h = tt
  step_has (StoreAt c first width) h = tt
  step_has LoadNothing h = tt
  step_has StoreNothing h = tt
  step_has (LoadItem e) h = tt
  step_has (StoreItem e) h = tt
  step_has (Length t) h = tt
  step_has (IsWithin first count) h = tt
  step_has (StopUnlessWithin first count) h = tt
  step_has (Bind q) h = tt
  step_has (Call q count) h = tt
  step_has (CallValue count) h = tt
  step_has Idle h = tt

  steps_have : (c : Code Step) → EachStep (IsStepFit p) c → EachStep (StepHas (IsMade p)) c
  steps_have Nothing h = tt
  steps_have (Then a b) (h, g) = (steps_have a h, steps_have b g)
  steps_have (Do s) h = step_has s h
  steps_have (If a b) (h, g) = (steps_have a h, steps_have b g)
  steps_have (Loop c body next) (h, g, i) = (steps_have c h, steps_have body g, steps_have next i)
  steps_have Break h = tt
  steps_have Continue h = tt
  steps_have Return h = tt

  pub flattened_made : (lay : Layout) (m : FirmProcedure) (new : Procedure) → IsFlat lay m new → EachStep (IsStepFit p) m.body
      → AllByRecursion (IsMade p) new.code
  flattened_made lay m new f h = each_flattened (IsMade p) carries lay m new f (steps_have m.body h)

  -- ---- fit code is made

  plain_made : (q : PlainInstr) → IsPlainFit p q → IsPlainMade p q
  plain_made (Copy to a) h = tt
  plain_made (Compute c) h = tt
  plain_made (Product to a b) h = tt
  plain_made (DivideSteps r d a) h = h
  plain_made (Loads m w to a) h = tt
  plain_made (Stores w a from) h = tt
  plain_made (ReadsDevice to address) h = h
  plain_made (WritesDevice address a) h = h
  plain_made (Push w a) h = tt
  plain_made (Pop w to) h = tt
  plain_made (Find place to a) h = h
  plain_made (CodeOf q to) h = tt
  plain_made (Stop code) h = tt

  made : (i : Instr) → IsFit p i → IsMade p i
  made (Plain q) h = plain_made q h
  made (When t to) h = tt
  made (Unless t to) h = tt
  made (Jump to) h = tt
  made (Calls c) h = h
  made (Returns w a) h = tt
  made Idles h = tt

  pub eased : (code : List Instr) → AllByRecursion (IsFit p) code → AllByRecursion (IsMade p) code
  eased [] h = tt
  eased (i ∷ is) (h, hs) = (made i h, eased is hs)

  pub each_of : (code : List Instr) → AllByRecursion (IsFit p) code → (at : ℕ) (i : Instr) → slice_get code at ≡ Some i → IsFit p i
  each_of [] h at i e = absurd (nothing at i e)
    where
      nothing : (at : ℕ) (i : Instr) → slice_get [] at ≡ Some i → ⊥
      nothing at i e = cc
  each_of (j ∷ is) (h, hs) zero i e = subst (IsFit p) (same j i e) h
    where
      same : (j i : Instr) → Some j ≡ Some i → j ≡ i
      same j i e = cc
  each_of (j ∷ is) (h, hs) (suc at) i e = each_of is hs at i e

-- ---- code that needs no routine

clash : {A : Type 0} → false ≡ true → A
clash e = absurd (cc)

no_routine : (op : Operator) → needs_no_routine op ≡ true → IsExpanded op
no_routine Plus e = tt
no_routine Minus e = tt
no_routine Times e = clash e
no_routine Divide e = clash e
no_routine Remainder e = clash e
no_routine And e = tt
no_routine Or e = tt
no_routine Xor e = tt
no_routine ShiftLeft e = tt
no_routine ShiftRight e = tt

module _ (p : Program) where
  plain_fit : (q : PlainInstr) → is_simple (Plain q) ≡ true → IsPlainMade p q → IsPlainFit p q
  plain_fit (Copy to a) e h = tt
  plain_fit (Compute c) e h = no_routine c.operator e
  plain_fit (Product to a b) e h = tt
  plain_fit (DivideSteps r d a) e h = h
  plain_fit (Loads m w to a) e h = tt
  plain_fit (Stores w a from) e h = tt
  plain_fit (ReadsDevice to address) e h = h
  plain_fit (WritesDevice address a) e h = h
  plain_fit (Push w a) e h = tt
  plain_fit (Pop w to) e h = tt
  plain_fit (Find place to a) e h = h
  plain_fit (CodeOf q to) e h = tt
  plain_fit (Stop code) e h = tt

  fit : (i : Instr) → is_simple i ≡ true → IsMade p i → IsFit p i
  fit (Plain q) e h = plain_fit q e h
  fit (When t to) e h = tt
  fit (Unless t to) e h = tt
  fit (Jump to) e h = tt
  fit (Calls c) e h = h
  fit (Returns w a) e h = tt
  fit Idles e h = tt

  pub all_fit : (code : List Instr) → are_simple code ≡ true → AllByRecursion (IsMade p) code → AllByRecursion (IsFit p) code
  all_fit [] e h = tt
  all_fit (i ∷ is) e (h, hs) = by_first (is_simple i) refl e (λ e1. all_fit is e1 hs)
    where
      by_first : (b : Bool) → is_simple i ≡ b → (b && are_simple is) ≡ true → (are_simple is ≡ true → AllByRecursion (IsFit p) is)
          → AllByRecursion (IsFit p) (i ∷ is)
      by_first true is_so e rest = (fit i is_so h, rest e)
      by_first false is_so e rest = clash e
