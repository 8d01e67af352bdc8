-- A run that is cut back to before its last row of pushes.
use Rattle.std.specs.Prelude.{ℕ, zero, suc, ◌+◌, Bool, true, false, not, List, Option, Some, None}
use Rattle.std.proofs.Common.{◌≡◌, ◌⊎◌, inl, inr, refl, sym, ap, ◌∙◌, arith}
use Rattle.std.proofs.lemmas.Option.{none-some}
use Rattle.vg_meaning.specs.Answer.{End, Wrong}
use Rattle.vg_meaning.specs.Outside.{before}
use Rattle.vg_lin.specs.declared.instr.Plain.TheVariants.{Copy, Compute, Product, DivideSteps, Load, Store, ReadDevice, WriteDevice}
use Rattle.vg_lin.specs.declared.instr.Plain.TheVariants.{Push, Pop, Find, CodeOf, Stop}
use Rattle.vg_lin.specs.declared.instr.Instr.{Instr}
use Rattle.vg_lin.specs.declared.instr.Instr.TheVariants.{Plain, When, Unless, Jump, Call, Return, Idle}
use Rattle.vg_lin.specs.Meaning.{language, codes_in, at_start, run}
use Rattle.vg_lin.specs.Program.{Program}
use Rattle.vg_lin.specs.State.{State, value, using, pushes as pushing}
use Rattle.vg_lin.specs.Steps.{Goes, Config, went, performed, fetch, stepped, step}
use Rattle.vg_lin.specs.Turns.{one_more}
use Rattle.vg_lin_traces.specs.Traces.{after}
use Rattle.vg_lin_traces.proofs.Growing.{in_parts}
use Rattle.vg_expand.specs.Runs.{ShowsSame}
use Rattle.vg_expand.specs.Unpushed.{is_push, next_pushes, step_pushes, unpushed}
use Rattle.vg_expand.proofs.Unpushed.{unpushed_within}
use Rattle.vg_open_costs.specs.Taken.{IsCutBack}

-- ---- counts

one_beside : (b : Bool) (m k : ℕ) → one_more b (m + k) ≡ one_more b m + k
one_beside true m k = omega arith
one_beside false m k = refl

module _ (p : Program) where
  abbrev procs : List (List Instr)
  procs = codes_in p.procedures

  abbrev next : Config State → Config State
  next c = step (language p) procs c

  last_counted : (n : ℕ) (c : Config State)
      → unpushed (language p) procs (suc n) c ≡ unpushed (language p) procs n c + one_more (not (step_pushes procs (after p n c))) 0
  last_counted zero c = omega arith
  last_counted (suc n) c =
      ap (one_more (not (step_pushes procs c))) (last_counted n (next c))
      ∙ one_beside (not (step_pushes procs c)) (unpushed (language p) procs n (next c)) (one_more (not (step_pushes procs (after p n (next c)))) 0)

  -- ---- what a push does

  -- a push ends wrongly, or shows nothing, and the run goes on
  abbrev ShowsNothing : (now next : Config State) → Type 0
  ShowsNothing c d = (d.ending ≡ Some Wrong) ⊎ ((c.ending ≡ None) × ShowsSame c d)

  module _ (c : Config State) (going : c.ending ≡ None) where
    nothing_pushed : (w : ℕ) (v : Option ℕ) → ShowsNothing c (went c (using v (λ x. Goes (pushing w x c.state) c.outside)))
    nothing_pushed w None = inl refl
    nothing_pushed w (Some x) = inr (going, record { outside = refl; openings = refl; ending = refl })

    no : false ≡ true → (d : Config State) → ShowsNothing c d
    no e d = absurd (let clash : false ≡ true = e in cc)

    nothing_performed : (i : Option Instr) → is_push i ≡ true → ShowsNothing c (performed (language p) c i)
    nothing_performed (Some (Plain (Push w a))) e = nothing_pushed w (value a c.state)
    nothing_performed (Some (Plain (Copy to a))) e = no e _
    nothing_performed (Some (Plain (Compute x))) e = no e _
    nothing_performed (Some (Plain (Product to a b))) e = no e _
    nothing_performed (Some (Plain (DivideSteps r d a))) e = no e _
    nothing_performed (Some (Plain (Load memory w to a))) e = no e _
    nothing_performed (Some (Plain (Store w a from))) e = no e _
    nothing_performed (Some (Plain (ReadDevice to address))) e = no e _
    nothing_performed (Some (Plain (WriteDevice address a))) e = no e _
    nothing_performed (Some (Plain (Pop w to))) e = no e _
    nothing_performed (Some (Plain (Find d to a))) e = no e _
    nothing_performed (Some (Plain (CodeOf q to))) e = no e _
    nothing_performed (Some (Plain (Stop code))) e = no e _
    nothing_performed (Some (When t to)) e = no e _
    nothing_performed (Some (Unless t to)) e = no e _
    nothing_performed (Some (Jump to)) e = no e _
    nothing_performed (Some (Call call)) e = no e _
    nothing_performed (Some (Return w a)) e = no e _
    nothing_performed (Some Idle) e = no e _
    nothing_performed None e = no e _

  nothing_stepped : (c : Config State) (o : Option End) (w : Option ℕ) → c.ending ≡ o → next_pushes procs c o w ≡ true
      → ShowsNothing c (stepped (language p) procs c o w)
  nothing_stepped c (Some why) w eo e = absurd (let clash : false ≡ true = e in cc)
  nothing_stepped c None (Some v) eo e = absurd (let clash : false ≡ true = e in cc)
  nothing_stepped c None None eo e = nothing_performed c eo (fetch procs c.proc c.pc) e

  nothing_shown : (c : Config State) → step_pushes procs c ≡ true → ShowsNothing c (next c)
  nothing_shown c e = nothing_stepped c c.ending c.woken refl e

  -- ---- runs

  module _ (reads interrupts : List ℕ) where
    abbrev at : ℕ → Config State
    at n = run p n reads interrupts

    last_is : (n : ℕ) → at (suc n) ≡ next (at n)
    last_is n =
        ap (λ m. after p m (at_start p (before reads interrupts))) (let e : suc n ≡ n + 1 = omega arith in e)
        ∙ in_parts p n 1 (at_start p (before reads interrupts))

    abbrev CanBeCut : ℕ → Type 0
    CanBeCut n = ((at n).ending ≡ Some Wrong → ⊥) → IsCutBack p n reads interrupts

    whole : (n : ℕ) → step_pushes procs (at n) ≡ false → IsCutBack p (suc n) reads interrupts
    whole n e = record {
      steps = suc n;
      unpushed = λ m same. ap (λ z. step_pushes procs (at z)) (let s : m ≡ n = omega (arith, same) in s) ∙ e;
      many = unpushed_within (language p) procs (suc n) (at_start p (before reads interrupts));
      shows = record { outside = refl; openings = refl; ending = refl };
    }

    shorter : (n : ℕ) → step_pushes procs (at n) ≡ true → ((at (suc n)).ending ≡ Some Wrong → ⊥) → CanBeCut n → ShowsNothing (at n) (next (at n))
        → IsCutBack p (suc n) reads interrupts
    shorter n e legal cut (inl wrong) = absurd (legal (ap (λ c. c.ending) (last_is n) ∙ wrong))
    shorter n e legal cut (inr (going, shows)) =
        let before' = cut (λ wrong. none-some Wrong (sym going ∙ wrong)) in
        let last = last_counted n (at_start p (before reads interrupts)) in
        let none = ap (λ b. one_more (not b) 0) e in
        let many = before'.many in record {
          steps = before'.steps;
          unpushed = before'.unpushed;
          many = omega (arith, last, none, many);
          shows = record {
            outside = before'.shows.outside ∙ sym (ap (λ c. c.outside) (last_is n) ∙ shows.outside);
            openings = before'.shows.openings ∙ sym (ap (λ c. c.openings) (last_is n) ∙ shows.openings);
            ending = before'.shows.ending ∙ sym (ap (λ c. c.ending) (last_is n) ∙ shows.ending);
          };
        }

    by_last : (n : ℕ) → CanBeCut n → (b : Bool) → step_pushes procs (at n) ≡ b → CanBeCut (suc n)
    by_last n cut false e legal = whole n e
    by_last n cut true e legal = shorter n e legal cut (nothing_shown (at n) e)

    pub cut_back : (n : ℕ) → CanBeCut n
    cut_back zero legal = record {
      steps = zero;
      unpushed = λ m same. absurd (omega (arith, same));
      many = omega arith;
      shows = record { outside = refl; openings = refl; ending = refl };
    }
    cut_back (suc n) legal = by_last n (cut_back n) (step_pushes procs (at n)) refl legal
