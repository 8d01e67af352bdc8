-- That whole runs of a program whose procedures look up by finders show what runs of the older one show.
use Rattle.std.specs.Prelude.{◌≢◌, ℕ, zero, suc, ◌≤◌, Bool, true, false, not, List, Some}
use Rattle.std.proofs.Common.{◌≡◌, refl, sym, ap, ◌∙◌, subst, arith}
use Rattle.vg_codes.specs.declared.case.Case.{Case}
use Rattle.vg_codes.specs.Codes.{AreCodes}
use Rattle.vg_meaning.specs.Outside.{Outside, before}
use Rattle.vg_meaning.specs.Answer.{End, Wrong}
use Rattle.vg_lin.specs.Program.{Procedure, Program}
use Rattle.vg_lin.specs.State.{State}
use Rattle.vg_lin.specs.Meaning.{language, codes_in, at_start}
use Rattle.vg_lin.specs.Steps.{Config, stepped, step, steps}
use Rattle.vg_lin.specs.Turns.{one_more}
use Rattle.vg_expand.specs.Unpushed.{step_pushes, unpushed}
use Rattle.vg_expand.specs.Runs.{IsClosed, ShowsSame, RunsAs}
use Rattle.vg_expand.proofs.Unpushed.{leads_unpushed}
use Rattle.vg_finding.specs.Found.{AreFound, with_dispatches}
use Rattle.vg_finding.proofs.Stepping.{Inside, Stepped, goes, fails, step_same, pushes_same, begins_inside, first_same}

module _ (p : Program) (count : ℕ) (ms : List Procedure) (ds : List (List Case)) (found : AreFound count p.dispatches ds p.procedures ms)
    (codes : AreCodes count p.codes) (closed : IsClosed p) where
  -- so many steps of the first program, and of the second one
  abbrev after : (n : ℕ) → Config State → Config State
  after n c = steps (language p) (codes_in p.procedures) n c

  abbrev after_new : (n : ℕ) → Config State → Config State
  after_new n c = steps (language (with_dispatches p ms ds)) (codes_in ms) n c

  -- how many of them are no pushes
  abbrev made : (n : ℕ) → Config State → ℕ
  made n c = unpushed (language p) (codes_in p.procedures) n c

  abbrev made_new : (n : ℕ) → Config State → ℕ
  made_new n c = unpushed (language (with_dispatches p ms ds)) (codes_in ms) n c

  -- where the first program comes in n steps from c, the second one comes in as many that are no pushes
  abbrev Comes : (n : ℕ) → Config State → Type 0
  Comes n c = (after n c).ending ≢ Some Wrong → (j : ℕ) × (made n c ≤ made_new j c) × (after n c ≡ after_new j c)

  stays : (n : ℕ) (c : Config State) (why : End) → c.ending ≡ Some why → after n c ≡ c
  stays zero c why e = refl
  stays (suc n) c why e = ap (λ k. after n (stepped (language p) (codes_in p.procedures) c k c.woken)) e ∙ stays n c why e

  as_many : (b : Bool) (k m i : ℕ) → k ≤ m → one_more b m ≤ i → one_more b k ≤ i
  as_many true k m i h g = omega (arith, h, g)
  as_many false k m i h g = omega (arith, h, g)

  comes : (n : ℕ) (c : Config State) → Inside p count ms ds found codes closed c → Comes n c
  comes zero c h = λ legal. (0, omega arith, refl)
  comes (suc n) c h =
      by_step (λ x g. comes n x g) (step (language p) (codes_in p.procedures) c) (step_same p count ms ds found codes closed c h)
    where
      by_step : ((x : Config State) → Inside p count ms ds found codes closed x → Comes n x) → (x : Config State)
          → Stepped p count ms ds found codes closed c x → (after n x).ending ≢ Some Wrong
          → (j : ℕ) × (one_more (not (step_pushes (codes_in p.procedures) c)) (made n x) ≤ made_new j c) × (after n x ≡ after_new j c)
      by_step further x (fails f) legal = absurd (legal (ap (λ z. z.ending) (stays n x Wrong f) ∙ f))
      by_step further x (goes t g) legal = behind (further x g legal)
        where
          behind : (j : ℕ) × (made n x ≤ made_new j x) × (after n x ≡ after_new j x)
              → (j : ℕ) × (one_more (not (step_pushes (codes_in p.procedures) c)) (made n x) ≤ made_new j c) × (after n x ≡ after_new j c)
          behind (j, k, e) = along (leads_unpushed (language (with_dispatches p ms ds)) (codes_in ms) c x t j)
            where
              along : (i : ℕ) × (one_more (not (step_pushes (codes_in ms) c)) (made_new j x) ≤ made_new i c) × (after_new i c ≡ after_new j x)
                  → (i : ℕ) × (one_more (not (step_pushes (codes_in p.procedures) c)) (made n x) ≤ made_new i c) × (after n x ≡ after_new i c)
              along (i, b, f) = (
                i,
                as_many (not (step_pushes (codes_in p.procedures) c)) (made n x) (made_new j x) (made_new i c) k
                    (subst (λ y. one_more (not y) (made_new j x) ≤ made_new i c) (pushes_same p count ms ds found codes closed c h) b),
                e ∙ sym f,
              )

  pub runs_same : RunsAs p (with_dispatches p ms ds)
  runs_same n reads interrupts legal = shown (comes n (at_start p o) (begins_inside p count ms ds found codes closed, tt {0}) legal)
    where
      o : Outside
      o = before reads interrupts

      starts : at_start (with_dispatches p ms ds) o ≡ at_start p o
      starts = ap (λ s. record (at_start p o) { state = s }) (first_same p count ms ds found codes closed)

      shown : (j : ℕ) × (made n (at_start p o) ≤ made_new j (at_start p o)) × (after n (at_start p o) ≡ after_new j (at_start p o))
          → (j : ℕ) × (made n (at_start p o) ≤ made_new j (at_start (with_dispatches p ms ds) o))
          × ShowsSame (after n (at_start p o)) (after_new j (at_start (with_dispatches p ms ds) o))
      shown (j, h, e) = (
        j,
        subst (λ c. made n (at_start p o) ≤ made_new j c) (sym starts) h,
        subst (λ c. ShowsSame (after n (at_start p o)) (after_new j c)) (sym starts)
            (subst (ShowsSame (after n (at_start p o))) e (record { outside = refl; openings = refl; ending = refl })),
      )
