-- That whole runs of a program with trimmed procedures show what those of the program showed.
use Rattle.std.specs.Prelude.{◌≢◌, ℕ, zero, suc, ◌+◌, ◌≤◌, Bool, true, false, List, [], Some, slice_get}
use Rattle.std.proofs.Common.{◌≡◌, refl, sym, ap, ◌∙◌, subst, arith}
use Rattle.vg_meaning.specs.Outside.{Outside, before}
use Rattle.vg_meaning.specs.Answer.{End, Wrong}
use Rattle.vg_lin.specs.Program.{Procedure, Program}
use Rattle.vg_lin.specs.State.{State}
use Rattle.vg_lin.specs.Meaning.{language, codes_in, first_state, at_start, run, counted_steps}
use Rattle.vg_lin.specs.Turns.{next_counts, step_counts, one_more, counted}
use Rattle.vg_lin.specs.Steps.{Config, stepped, step, steps}
use Rattle.vg_expand.specs.Unpushed.{unpushed, unpushed_steps}
use Rattle.vg_expand.specs.Runs.{with_procedures, IsClosed, ShowsSame, RunsAs}
use Rattle.vg_expand.proofs.Simulated.{within}
use Rattle.vg_trimming.specs.Trimmed.{IsTrimmedTo, AreAllTrimmed}
use Rattle.vg_trimming.specs.Runs.{AreBytes, RunsAsRead}
use Rattle.vg_trimming.proofs.Walks.{there}
use Rattle.vg_trimming.proofs.Simulated.{credit, newer, Related, at_place, taken, Stepped, goes, stops, fails, wakes, step_related}

module _ (p : Program) (ms : List Procedure) (all : AreAllTrimmed p.procedures ms) (closed : IsClosed p) (ram : AreBytes p.ram)
    (tables : AreBytes p.tables) where
  abbrev newer_program : Program
  newer_program = with_procedures p ms

  abbrev Comes : (spent : Bool) → Config State → Config State → Type 0
  Comes spent c d = Related p ms all closed tables spent c d

  -- so many steps of the first program
  abbrev after : (n : ℕ) → Config State → Config State
  after n c = steps (language p) (codes_in p.procedures) n c

  abbrev after_newer : (n : ℕ) → Config State → Config State
  after_newer n d = steps (language newer_program) (codes_in ms) n d

  -- how many steps of the second program are no pushes
  abbrev made : (n : ℕ) → Config State → ℕ
  made n d = unpushed (language newer_program) (codes_in ms) n d

  -- where the first program comes in n steps from c, the second one comes from d, and shows the same; it makes at least as many steps that are no pushes as
  -- count, but for one where that is not spent
  abbrev Shows : (spent : Bool) (n : ℕ) (c d : Config State) → Type 0
  Shows spent n c d =
      (after n c).ending ≢ Some Wrong
      → (j : ℕ) × (counted (language p) (codes_in p.procedures) n c ≤ made j d + credit spent) × ShowsSame (after n c) (after_newer j d)

  shows_here : (spent : Bool) (c d : Config State) → Comes spent c d → ShowsSame c d
  shows_here _ _ _ (at_place spent q pc at s u fs gs o opens st h r) = record { outside = refl; openings = refl; ending = refl }
  shows_here _ _ _ (taken v q pc at s u fs gs o opens st h r) = record { outside = refl; openings = refl; ending = refl }

  -- a run that has ended stays as it is, and no step of it counts
  stays : (c : Config State) (why : End) → c.ending ≡ Some why → step (language p) (codes_in p.procedures) c ≡ c
  stays c why e = ap (λ x. stepped (language p) (codes_in p.procedures) c x c.woken) e

  stays_so : (n : ℕ) (c : Config State) (why : End) → c.ending ≡ Some why → after n c ≡ c
  stays_so zero c why e = refl
  stays_so (suc n) c why e = ap (after n) (stays c why e) ∙ stays_so n c why e

  none_counted : (n : ℕ) (c : Config State) (why : End) → c.ending ≡ Some why → counted (language p) (codes_in p.procedures) n c ≡ 0
  none_counted zero c why e = refl
  none_counted (suc n) c why e =
      ap (λ b. one_more b (counted (language p) (codes_in p.procedures) n (step (language p) (codes_in p.procedures) c)))
      (ap (λ x. next_counts (codes_in p.procedures) c x c.woken) e)
      ∙ (ap (counted (language p) (codes_in p.procedures) n) (stays c why e) ∙ none_counted n c why e)

  runs_on : (n : ℕ) (spent : Bool) (c d : Config State) → Comes spent c d → Shows spent n c d
  runs_on zero spent c d r = λ legal. (0, omega arith, shows_here spent c d r)
  runs_on (suc n) spent c d r =
      by_step (λ spent' x e g. runs_on n spent' x e g) (step (language p) (codes_in p.procedures) c) (step_related p ms all closed tables spent c d r)
    where
      counts : Bool
      counts = step_counts (codes_in p.procedures) c

      -- with those of the first step
      AllShown : Config State → Type 0
      AllShown x =
          (j : ℕ) × (one_more counts (counted (language p) (codes_in p.procedures) n x) ≤ made j d + credit spent) × ShowsSame (after n x) (after_newer j d)

      paid : (b : Bool) (k left j t i : ℕ) → k ≤ j + left → one_more b left ≤ t + credit spent → j + t ≤ i → one_more b k ≤ i + credit spent
      paid true k left j t i f g h = omega (arith, f, g, h)
      paid false k left j t i f g h = omega (arith, f, g, h)

      at_most_one : (b : Bool) (k i : ℕ) → k ≡ 0 → 0 + one_more b 0 ≤ i → one_more b k ≤ i + credit spent
      at_most_one true k i e h = omega (arith, e, h)
      at_most_one false k i e h = omega (arith, e, h)

      by_step : ((spent' : Bool) (x e : Config State) → Comes spent' x e → Shows spent' n x e)
          → (x : Config State) → Stepped p ms all closed tables spent counts d x → (after n x).ending ≢ Some Wrong → AllShown x
      by_step runs x (goes e t spent' k le g) legal = onto (runs spent' x e g legal)
        where
          onto : (j : ℕ) × (counted (language p) (codes_in p.procedures) n x ≤ made j e + credit spent') × ShowsSame (after n x) (after_newer j e) → AllShown x
          onto (j, h, sh) = further (k.by j)
            where
              further : (i : ℕ) × (made j e + t ≤ made i d) × (after_newer i d ≡ after_newer j e) → AllShown x
              further (i, g, q) = (
                i,
                paid counts (counted (language p) (codes_in p.procedures) n x) (credit spent') (made j e) t (made i d) h le g,
                subst (ShowsSame (after n x)) (sym q) sh,
              )
      by_step runs x (stops e why t f g a o) legal = ended (t.by 0)
        where
          ended : (i : ℕ) × (0 + one_more counts 0 ≤ made i d) × (after_newer i d ≡ after_newer 0 e) → AllShown x
          ended (i, h, q) = (
            i,
            at_most_one counts (counted (language p) (codes_in p.procedures) n x) (made i d) (none_counted n x why f) h,
            subst (λ z. ShowsSame z (after_newer i d)) (sym (stays_so n x why f))
                (subst (ShowsSame x) (sym q) (record { outside = a; openings = o; ending = g ∙ sym f })),
          )
      by_step runs x (fails f) legal = absurd (legal (ap (λ z. z.ending) (stays_so n x Wrong f) ∙ f))

  pub runs_same : RunsAsRead p newer_program
  runs_same n reads interrupts are legal = in_all (runs_on n true (at_start p o) (at_start newer_program o) (starts (within p.procedures p.start closed.start)) legal)
    where
      o : Outside
      o = before reads interrupts

      starts : (m : Procedure) × (slice_get p.procedures p.start ≡ Some m) → Comes true (at_start p o) (at_start newer_program o)
      starts (m, e) = with_new (newer p ms all closed tables p.start m e)
        where
          with_new : (n : Procedure) × (slice_get ms p.start ≡ Some n) × IsTrimmedTo m n → Comes true (at_start p o) (at_start newer_program o)
          with_new (n, g, is) =
              at_place true p.start 0 0 (first_state p) (first_state newer_program) [] [] o []
              (record {
                old = m;
                now = n;
                has = e;
                has_now = g;
                is = is;
                here = there (wakes p ms all closed tables p.start m n e g is (first_state p) (first_state newer_program) refl ram);
              }) (tt {0}) are

      in_all : (j : ℕ) × (counted_steps p n reads interrupts ≤ made j (at_start newer_program o) + 0)
          × ShowsSame (after n (at_start p o)) (after_newer j (at_start newer_program o))
          → (j : ℕ) × (counted_steps p n reads interrupts ≤ unpushed_steps newer_program j reads interrupts)
          × ShowsSame (run p n reads interrupts) (run newer_program j reads interrupts)
      in_all (j, h, sh) = (j, omega (arith, h), sh)

-- a program that does what the trimmed one does
pub runs_then : (p m n : Program) → RunsAsRead p m → RunsAs m n → RunsAsRead p n
runs_then p m n trims runs steps' reads interrupts are legal = by (trims steps' reads interrupts are legal)
  where
    by : (j : ℕ) × (counted_steps p steps' reads interrupts ≤ unpushed_steps m j reads interrupts)
        × ShowsSame (run p steps' reads interrupts) (run m j reads interrupts)
        → (i : ℕ) × (counted_steps p steps' reads interrupts ≤ unpushed_steps n i reads interrupts)
        × ShowsSame (run p steps' reads interrupts) (run n i reads interrupts)
    by (j, more, same) = further (runs j reads interrupts (λ wrong. legal (sym same.ending ∙ wrong)))
      where
        further : (i : ℕ) × (unpushed_steps m j reads interrupts ≤ unpushed_steps n i reads interrupts)
            × ShowsSame (run m j reads interrupts) (run n i reads interrupts)
            → (i : ℕ) × (counted_steps p steps' reads interrupts ≤ unpushed_steps n i reads interrupts)
            × ShowsSame (run p steps' reads interrupts) (run n i reads interrupts)
        further (i, on, shown) = (
          i,
          omega (arith, more, on),
          record { outside = shown.outside ∙ same.outside; openings = shown.openings ∙ same.openings; ending = shown.ending ∙ same.ending },
        )
