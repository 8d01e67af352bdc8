-- A local that no instruction names is live nowhere.
use Rattle.std.specs.Prelude.{ℕ, zero, suc, Bool, true, false, not, ◌&&◌, ◌||◌, List, [], ◌∷◌, length, replicate, slice_get, slice_set}
use Rattle.std.specs.List.{AllByRecursion}
use Rattle.std.proofs.Common.{◌≡◌, refl, ap, ◌∙◌}
use Rattle.vg_lin.specs.declared.instr.Operand.{Operand}
use Rattle.vg_lin.specs.declared.instr.Test.{Test}
use Rattle.vg_lin.specs.declared.instr.Passed.{Passed}
use Rattle.vg_lin.specs.declared.instr.Callee.{Callee}
use Rattle.vg_lin.specs.declared.instr.Callee.TheVariants.{Procedure as ByNumber, Code as ByCode}
use Rattle.vg_lin.specs.declared.instr.Plain.{Plain as PlainInstr}
use Rattle.vg_lin.specs.declared.instr.Plain.TheVariants.{Copy, Compute, Product, DivideSteps, Load, Store, ReadDevice, WriteDevice, Push}
use Rattle.vg_lin.specs.declared.instr.Plain.TheVariants.{Pop, Find, CodeOf, Stop}
use Rattle.vg_lin.specs.declared.instr.Instr.{Instr}
use Rattle.vg_lin.specs.declared.instr.Instr.TheVariants.{Plain, When, Unless, Jump, Call, Return, Idle}
use Rattle.vg_lin.specs.Meaning.{operands}
use Rattle.vg_templates.specs.Frames.{gets}
use Rattle.vg_templates.specs.Living.{reads, passes_on, aims_by, past, plain_needs, tests_it, needs, mark, needs_at, needs_there, leads_to}
use Rattle.vg_templates.specs.Living.{swept, marks_of, serve, is_live, is_live_by}
use Rattle.vg_flat_names.specs.Names.{PlainNames, TestNames, PassedNames, CalleeNames, Names}

neither : (a b : Bool) → a ≡ false → b ≡ false → (a || b) ≡ false
neither false b e h = h
neither true b e h = e

nowhere : (a : Bool) → (a && false) ≡ false
nowhere true = refl
nowhere false = refl

module _ (k : ℕ) where
  -- It is another operand than the local.
  abbrev pub IsOther : Operand → Type 0
  IsOther a = reads a k ≡ false

  gone : (to : ℕ) → past to k false ≡ false
  gone to = nowhere _

  -- ---- one instruction

  plain_spares : (q : PlainInstr) → PlainNames IsOther q → plain_needs false k q ≡ false
  plain_spares (Copy to a) h = neither _ _ h.1 (gone to)
  plain_spares (Compute c) h = neither _ _ (neither _ _ h.1 h.2) (gone c.to)
  plain_spares (Product to a b) h = neither _ _ (neither _ _ h.1 h.2) (gone to)
  plain_spares (DivideSteps rest digit a) h = neither _ _ (neither _ _ h.0 h.1) (neither _ _ h.2 refl)
  plain_spares (Load memory width to a) h = neither _ _ h.1 (gone to)
  plain_spares (Store width a from) h = neither _ _ (neither _ _ h.0 h.1) refl
  plain_spares (ReadDevice to address) h = gone to
  plain_spares (WriteDevice address a) h = neither _ _ h refl
  plain_spares (Push width a) h = neither _ _ h refl
  plain_spares (Pop width to) h = gone to
  plain_spares (Find place to a) h = neither _ _ h.1 (gone to)
  plain_spares (CodeOf q to) h = gone to
  plain_spares (Stop code) h = refl

  test_spares : (t : Test) → TestNames IsOther t → tests_it t k ≡ false
  test_spares t h = neither _ _ h.0 h.1

  passed_spares : (xs : List Passed) → PassedNames IsOther xs → passes_on xs k ≡ false
  passed_spares [] h = refl
  passed_spares (a ∷ xs) h = neither _ _ h.0 (passed_spares xs h.1)

  callee_spares : (c : Callee) → CalleeNames IsOther c → aims_by c k ≡ false
  callee_spares (ByNumber q) h = refl
  callee_spares (ByCode a) h = h

  spares : (i : Instr) → Names IsOther i → needs false false k i ≡ false
  spares (Plain q) h = plain_spares q h
  spares (When t to) h = neither _ _ (test_spares t h) refl
  spares (Unless t to) h = neither _ _ (test_spares t h) refl
  spares (Jump to) h = refl
  spares (Call c) h = neither _ _ (neither _ _ (passed_spares (operands c.registers) h.1) (callee_spares c.callee h.0)) (nowhere (not (gets c.to k)))
  spares (Return width a) h = h
  spares Idle h = refl

  -- ---- all instructions

  unmarked : (count place : ℕ) → mark (replicate count false) place ≡ false
  unmarked zero place = refl
  unmarked (suc count) zero = refl
  unmarked (suc count) (suc place) = unmarked count place

  same_marks : (count place : ℕ) → slice_set (replicate count false) place false ≡ replicate count false
  same_marks zero place = refl
  same_marks (suc count) zero = refl
  same_marks (suc count) (suc place) = ap (λ ms. false ∷ ms) (same_marks count place)

  -- where nothing is marked, an instruction that does not name it marks nothing
  spares_at : (count place : ℕ) (i : Instr) → Names IsOther i → needs_at (replicate count false) k place i ≡ false
  spares_at count place i h =
      ap (λ b. needs b (mark (replicate count false) (leads_to place i)) k i) (unmarked count (suc place))
      ∙ (ap (λ b. needs false b k i) (unmarked count (leads_to place i)) ∙ spares i h)

  spares_there : (is : List Instr) (count place n : ℕ) → AllByRecursion (Names IsOther) is
      → needs_there (replicate count false) k place (slice_get is n) ≡ false
  spares_there [] count place n h = refl
  spares_there (i ∷ is) count place zero h = spares_at count place i h.0
  spares_there (i ∷ is) count place (suc n) h = spares_there is count place n h.1

  module _ (is : List Instr) (h : AllByRecursion (Names IsOther) is) where
    stays : (count n : ℕ) → swept is k n (replicate count false) ≡ replicate count false
    stays count zero = refl
    stays count (suc n) =
        ap (λ b. swept is k n (slice_set (replicate count false) n b)) (spares_there is count n n h)
        ∙ (ap (swept is k n) (same_marks count n) ∙ stays count n)

    no_marks : marks_of is k ≡ replicate (length is) false
    no_marks =
        let s = stays (length is) (length is) in
        ap (λ ms. swept is k (length is) (swept is k (length is) ms)) s ∙ (ap (swept is k (length is)) s ∙ s)

  served : (count place : ℕ) (is : List Instr) → AllByRecursion (Names IsOther) is → serve (replicate count false) k place is ≡ true
  served count place [] h = refl
  served count place (i ∷ is) h =
      ap (λ b. (b || not (needs_at (replicate count false) k place i)) && serve (replicate count false) k (suc place) is) (unmarked count place)
      ∙ (ap (λ b. not b && serve (replicate count false) k (suc place) is) (spares_at count place i h.0) ∙ served count (suc place) is h.1)

  pub dead : (is : List Instr) (place : ℕ) → AllByRecursion (Names IsOther) is → is_live is k place ≡ false
  dead is place h =
      let e = no_marks is h in
      ap (λ ms. is_live_by (serve ms k 0 is) ms place) e
      ∙ (ap (λ b. is_live_by b (replicate (length is) false) place) (served (length is) 0 is h) ∙ unmarked (length is) place)
