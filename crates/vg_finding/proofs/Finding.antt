-- What a finder does: three steps, from the call of it to behind the call, set the local that a look-up sets.
use Rattle.std.specs.Prelude.{ℕ, suc, ◌+◌, ◌<◌, Bool, true, false, List, [], ◌∷◌, Option, Some, None, slice_get, if◌then◌else◌}
use Rattle.std.proofs.Common.{◌≡◌, refl, ap, ◌∙◌, subst, arith}
use Rattle.std.proofs.lemmas.Option.{same_Some, none-some}
use Rattle.vg_codes.specs.declared.case.Case.{Case}
use Rattle.vg_codes.specs.Dispatch.{is_within, procedure_for, dispatched}
use Rattle.vg_meaning.specs.Outside.{Outside}
use Rattle.vg_meaning.specs.History.{Active}
use Rattle.vg_lin.specs.declared.instr.Operand.{Operand}
use Rattle.vg_lin.specs.declared.instr.Call.{Call as Calling}
use Rattle.vg_lin.specs.declared.instr.Callee.TheVariants.{Procedure as ByNumber}
use Rattle.vg_lin.specs.declared.instr.Registers.TheVariants.{One}
use Rattle.vg_lin.specs.Values.{low}
use Rattle.vg_lin.specs.Program.{Program}
use Rattle.vg_lin.specs.State.{State, value, using, sets}
use Rattle.vg_lin.specs.Meaning.{with_value, entry_with, entry_of, name_of, language, codes_in}
use Rattle.vg_lin.specs.Steps.{Result, Frame, Goes, Config, open_below, noted, went, calls, performed, step, steps}
use Rattle.vg_lin.specs.Follows.{Leads}
use Rattle.vg_finding.specs.Finders.{finder, call_of}
use Rattle.vg_finding.specs.Found.{AreCasesWithin}
use Rattle.vg_finding.proofs.Placed.{fetch_of}

-- ---- numbers of two bytes

pub low_same : (x : ℕ) → x < 65536 → low 2 x ≡ x
low_same x h = omega (arith, h)

within_last : (first count n : ℕ) → is_within first count n ≡ true → n < first + count
within_last first count n h = grind arith

-- what cases have a procedure for has two bytes, and the procedure is one of the first so many
pub is_found_within : (count : ℕ) (cs : List Case) (n q : ℕ) → AreCasesWithin count cs → procedure_for cs n ≡ Some q → (n < 65536) × (q < count)
is_found_within count [] n q h e = absurd (none-some q e)
is_found_within count (c ∷ cs) n q (h, more) e = by_case (λ f. is_found_within count cs n q more f) (is_within c.first c.count n) refl e
  where
    by_case : (procedure_for cs n ≡ Some q → (n < 65536) × (q < count)) → (b : Bool) → is_within c.first c.count n ≡ b
        → (if b then Some c.procedure else procedure_for cs n) ≡ Some q → (n < 65536) × (q < count)
    by_case further true g f =
        let last = h.last in
        let below = within_last c.first c.count n g in (omega (arith, last, below), subst (λ k. k < count) (same_Some c.procedure q f) h.procedure)
    by_case further false g f = further f

-- ---- a call of a finder

module _ (p : Program) (k e to : ℕ) (a : Operand) (there : slice_get p.procedures k ≡ Some (finder e)) (q pc : ℕ) (s : State) (fs : List (Frame State))
    (o : Outside) (opens : List (List Active)) (n r : ℕ) (has : value a s ≡ Some n) (small : n < 65536) (found : dispatched p.dispatches e n ≡ Some r)
    (small_code : p.codes.code r < 65536) where
  abbrev going : (q pc : ℕ) → State → List (Frame State) → Config State
  going q pc s fs = record { proc = q; pc = pc; state = s; frames = fs; woken = None; outside = o; openings = opens; ending = None }

  abbrev called : Calling
  called = record { callee = ByNumber k; pushed = 0; registers = One (record { width = 2; value = a }); to = Some (record { width = 2; local = to }) }

  abbrev caller : Frame State
  caller = record { proc = q; pc = pc; kept = s; awaits = Result called }

  -- in the finder, with this number and this result
  abbrev inside : (x : ℕ) → Option ℕ → State
  inside x y = record { locals = record { width = 2; value = Some x } ∷ record { width = 2; value = y } ∷ []; waiting = []; ram = s.ram }

  enters : performed (language p) (going q pc s fs) (Some (call_of k to a)) ≡ going k 0 (inside (low 2 (low 2 n)) None) (caller ∷ fs)
  enters =
      ap (λ m. calls (language p) (going q pc s fs) called (entry_of k m called s)) there
      ∙ ap (λ v. calls (language p) (going q pc s fs) called (entry_with k (finder e) called.to [] s (with_value 2 v (Some [])))) has
      ∙ ap (λ m. record entered { openings = noted (name_of m) (open_below (language p) (caller ∷ fs)) opens }) there
    where
      entered : Config State
      entered = going k 0 (inside (low 2 (low 2 n)) None) (caller ∷ fs)

  number : low 2 (low 2 n) ≡ n
  number = ap (low 2) (low_same n small) ∙ low_same n small

  finds : step (language p) (codes_in p.procedures) (going k 0 (inside n None) (caller ∷ fs))
      ≡ going k 1 (inside n (Some (low 2 (p.codes.code r)))) (caller ∷ fs)
  finds =
      ap (performed (language p) (going k 0 (inside n None) (caller ∷ fs))) (fetch_of p.procedures k (finder e) there 0)
      ∙ ap (λ v. went (going k 0 (inside n None) (caller ∷ fs)) (using v (λ x. Goes (sets 1 (p.codes.code x) (inside n None)) o))) found

  gives_back : step (language p) (codes_in p.procedures) (going k 1 (inside n (Some (low 2 (p.codes.code r)))) (caller ∷ fs))
      ≡ going q (suc pc) (sets to (low 2 (low 2 (p.codes.code r))) s) fs
  gives_back =
      ap (performed (language p) (going k 1 (inside n (Some (low 2 (p.codes.code r)))) (caller ∷ fs))) (fetch_of p.procedures k (finder e) there 1)

  code : low 2 (low 2 (p.codes.code r)) ≡ p.codes.code r
  code = ap (low 2) (low_same (p.codes.code r) small_code) ∙ low_same (p.codes.code r) small_code

  -- from the call to behind it
  pub leads_by_finder : step (language p) (codes_in p.procedures) (going q pc s fs) ≡ performed (language p) (going q pc s fs) (Some (call_of k to a))
      → Leads (language p) (codes_in p.procedures) 1 (going q pc s fs) (going q (suc pc) (sets to (p.codes.code r) s) fs)
  leads_by_finder h = record { by = λ j. (suc (suc (suc j)), omega arith, ap (steps (language p) (codes_in p.procedures) j) three) }
    where
      one : Config State → Config State
      one = step (language p) (codes_in p.procedures)

      three : one (one (one (going q pc s fs))) ≡ going q (suc pc) (sets to (p.codes.code r) s) fs
      three =
          ap (λ c. one (one c)) (h ∙ enters ∙ ap (λ x. going k 0 (inside x None) (caller ∷ fs)) number) ∙ ap one finds ∙ gives_back
          ∙ ap (λ x. going q (suc pc) (sets to x s) fs) code
