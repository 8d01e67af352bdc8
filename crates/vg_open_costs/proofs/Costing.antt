-- What is taken along a run is within the frames of the calls that were active and what lies beside them, and within what these calls cost.
use Rattle.std.specs.Prelude.{ℕ, zero, suc, ◌+◌, ◌-◌, ◌<◌, ◌≤◌, true, false, List, [], ◌∷◌, Option, Some, None}
use Rattle.std.proofs.Common.{◌≡◌, ◌⊎◌, inl, inr, refl, sym, ap, ◌∙◌, arith}
use Rattle.vg_meaning.specs.Answer.{End, Wrong}
use Rattle.vg_meaning.specs.History.{Calling}
use Rattle.vg_meaning.specs.Outside.{before as outside_before}
use Rattle.vg_source.specs.Peak.{most}
use Rattle.vg_lin.specs.declared.instr.Instr.{Instr}
use Rattle.vg_lin.specs.declared.instr.Instr.TheVariants.{Call, Idle}
use Rattle.vg_lin.specs.Meaning.{language, codes_in, at_start, run}
use Rattle.vg_lin.specs.Program.{Program}
use Rattle.vg_lin.specs.State.{State}
use Rattle.vg_lin.specs.Steps.{Config, open_calls, fetch, step}
use Rattle.vg_lin_traces.specs.Traces.{after}
use Rattle.vg_lin_traces.proofs.Growing.{in_parts, ended_stays}
use Rattle.vg_expand.specs.Unpushed.{is_push, step_pushes, next_pushes}
use Rattle.vg_open_calls.specs.Open.{IsReady, IsOpen}
use Rattle.vg_open_calls.specs.Noted.{IsAmong, IsAtFirst}
use Rattle.vg_open_calls.proofs.Along.{runs_open, first_open, open_after, runs_noted, runs_begun}
use Rattle.vg_frame_costs.specs.Fitting.{FramesWithin, FramesFit}
use Rattle.vg_open_costs.specs.Taken.{opening_of, taken, CallsAreDivided, EndsUnpushed, LeadBefore}
use Rattle.vg_open_costs.proofs.Paid.{noted_most, all_paid}
use Rattle.vg_open_costs.proofs.Covered.{idles_at_start, start_stands, stands, FirstCall, calls_first, start_opens}
use Rattle.vg_open_costs.proofs.Once.{all_whole, frame_within}
use Rattle.vg_open_costs.proofs.Stepping.{IsSettled, IsPassedOn, IsHeld, held, settled_next}

pub opening_takes : (p : Program) → IsReady p → LeadBefore p → (extra : ℕ) (cs : List ℕ) → FramesFit p.procedures p.start extra cs
    → opening_of p p.start ≤ extra
opening_takes p ready before extra cs fit =
    let within = frame_within p p.start in
    let frame = start_opens p fit.frames fit.below fit.above ready fit.within before in
    let few = fit.begins in omega (arith, within, frame, few)

-- where the next step is a push, a push stands
pushes_there : (procs : List (List Instr)) (c : Config State) (o : Option End) (w : Option ℕ) → next_pushes procs c o w ≡ true
    → is_push (fetch procs c.proc c.pc) ≡ true
pushes_there procs c (Some why) w e = absurd (let clash : false ≡ true = e in cc)
pushes_there procs c None (Some v) e = absurd (let clash : false ≡ true = e in cc)
pushes_there procs c None None e = e

module _ (p : Program) (ready : IsReady p) (before : LeadBefore p) (divided : CallsAreDivided p) where
  module _ (reads interrupts : List ℕ) where
    abbrev at : ℕ → Config State
    at j = run p j reads interrupts

    open' : (j : ℕ) → IsOpen p (at j)
    open' j = runs_open p ready j reads interrupts

    next_is : (j : ℕ) → at (j + 1) ≡ step (language p) (codes_in p.procedures) (at j)
    next_is j = in_parts p j 1 (at_start p (outside_before reads interrupts))

    settled_after : (n : ℕ) (c : Config State) → IsOpen p c → IsSettled p ready divided c → IsSettled p ready divided (after p n c)
    settled_after zero c h s = s
    settled_after (suc n) c h s =
        settled_after n (step (language p) (codes_in p.procedures) c) (open_after p ready 1 c h) (settled_next p ready divided c h s)

    settled : (j : ℕ) → IsSettled p ready divided (at j)
    settled j = settled_after j (at_start p (outside_before reads interrupts)) (first_open p ready reads interrupts) (inl refl)

    held_at : (j : ℕ) → IsHeld p ready divided (at j) (step (language p) (codes_in p.procedures) (at j))
    held_at j = held p ready divided (at j) (open' j) (settled j)

    -- what ended wrongly stays so
    stays_wrong : (j n : ℕ) → j < n → (step (language p) (codes_in p.procedures) (at j)).ending ≡ Some Wrong → (at n).ending ≡ Some Wrong
    stays_wrong j n less wrong =
        let e = ap (λ d. d.ending) (next_is j) ∙ wrong in
        let whole = in_parts p (j + 1) (n - (j + 1)) (at_start p (outside_before reads interrupts)) in
        let steps : j + 1 + (n - (j + 1)) ≡ n = omega (arith, less) in
        let kept = ended_stays p (n - (j + 1)) (at (j + 1)) Wrong e in
        ap (λ d. d.ending) (sym (ap (λ m. after p m (at_start p (outside_before reads interrupts))) steps) ∙ whole ∙ kept) ∙ e

    module _ (frames : List ℕ) (below above : ℕ) (within : FramesWithin p.procedures p.start frames below above) where
      first : FirstCall p frames below above ready within before
      first = calls_first p frames below above ready within before

      -- what stands in a configuration
      stands_at : (j n : ℕ) → j ≤ n → all_whole p (at j) ≤ below + above + most frames (at n).openings
      stands_at j n le =
          let all = stands p frames below above ready within before (at j) (open' j) in
          let active =
          noted_most frames (open_calls (language p) (at j).proc (at j).frames) (at n).openings
          (runs_noted p ready first.first.unnamed j n reads interrupts le) in omega (arith, all, active)

      -- where it idles, the procedure stands with which the run begins
      idles_within : (j : ℕ) → fetch (codes_in p.procedures) (at j).proc (at j).pc ≡ Some Idle → all_whole p (at j) + 4 ≤ below
      idles_within j e =
          let same = idles_at_start p frames below above ready within before (at j).proc (at j).pc (open' j).here.procedure (open' j).here.there e in
          start_stands p frames below above ready within before (at j) (open' j) same

      -- before each step
      module _ (n : ℕ) (unpushed : EndsUnpushed p n reads interrupts) (legal : (at n).ending ≡ Some Wrong → ⊥) where
        abbrev TakesWithin : ℕ → Type 0
        TakesWithin j = taken p (at j) ≤ below + above + most frames (at n).openings

        by_step : (j : ℕ) → j < n → (IsPassedOn p ready divided (at j) (step (language p) (codes_in p.procedures) (at j)) → TakesWithin j)
            → IsHeld p ready divided (at j) (step (language p) (codes_in p.procedures) (at j)) → TakesWithin j
        by_step j less pushes (inl (stack, inl none)) = let s = stands_at j n (omega (arith, less)) in omega (arith, none, stack, s)
        by_step j less pushes (inl (stack, inr (few, e))) = let s = idles_within j e in omega (arith, few, stack, s)
        by_step j less pushes (inr (inl h)) =
            let next = ap (all_whole p) (next_is j) in
            let s = stands_at (j + 1) n (omega (arith, less)) in omega (arith, h, next, s)
        by_step j less pushes (inr (inr (inl h))) = pushes h
        by_step j less pushes (inr (inr (inr wrong))) = absurd (legal (stays_wrong j n less wrong))

        abbrev IsPassed : ℕ → Type 0
        IsPassed j = IsPassedOn p ready divided (at j) (step (language p) (codes_in p.procedures) (at j))

        last : (j : ℕ) → suc j ≡ n → IsPassed j → TakesWithin j
        last j e (pushes, more) = absurd (let clash : true ≡ false = sym pushes ∙ unpushed j e in cc)

        later : (j : ℕ) → TakesWithin (j + 1) → IsPassed j → TakesWithin j
        later j few (pushes, more) = let next = ap (taken p) (next_is j) in omega (arith, more, next, few)

        -- so many steps before the last one
        takes_before : (k j : ℕ) → j + 1 + k ≡ n → TakesWithin j
        takes_before zero j e = by_step j (omega (arith, e)) (last j (omega (arith, e))) (held_at j)
        takes_before (suc k) j e = by_step j (omega (arith, e)) (later j (takes_before k (j + 1) (omega (arith, e)))) (held_at j)

        pub takes_within : (j : ℕ) → j < n → TakesWithin j
        takes_within j less = takes_before (n - (j + 1)) j (omega (arith, less))

      not_first : (j : ℕ) → fetch (codes_in p.procedures) (at j).proc (at j).pc ≡ Some Idle → IsAtFirst p (at j) → ⊥
      not_first j e at' =
          let same : Some (Call first.first.call) ≡ Some Idle =
          sym first.first.first ∙ sym (ap (fetch (codes_in p.procedures) p.start) at'.pc)
          ∙ sym (ap (λ z. fetch (codes_in p.procedures) z (at j).pc) at'.proc) ∙ e in
          absurd (let clash : Some (Call first.first.call) ≡ Some Idle = same in cc)

      -- the first step is a call
      no_push_first : (j : ℕ) → step_pushes (codes_in p.procedures) (at j) ≡ true → IsAtFirst p (at j) → ⊥
      no_push_first j e at' =
          let there =
          ap is_push
          (ap (fetch (codes_in p.procedures) (at j).proc) at'.pc ∙ ap (λ z. fetch (codes_in p.procedures) z 0) at'.proc ∙ first.first.first) in
          absurd (let clash : false ≡ true = sym there ∙ pushes_there (codes_in p.procedures) (at j) (at j).ending (at j).woken e in cc)

      -- before the first call
      pub first_takes : (j n : ℕ) → j < n → ((at n).ending ≡ Some Wrong → ⊥) → IsAtFirst p (at j) → IsAtFirst p (at (j + 1))
          → taken p (at j) + 4 ≤ below
      first_takes j n less legal here next = by_step (held_at j)
        where
          by_step : IsHeld p ready divided (at j) (step (language p) (codes_in p.procedures) (at j)) → taken p (at j) + 4 ≤ below
          by_step (inl (stack, inl none)) =
              let s = start_stands p frames below above ready within before (at j) (open' j) here.proc in omega (arith, none, stack, s)
          by_step (inl (stack, inr (few, e))) = absurd (not_first j e here)
          by_step (inr (inl h)) =
              let same = ap (all_whole p) (next_is j) in
              let s = start_stands p frames below above ready within before (at (j + 1)) (open' (j + 1)) next.proc in omega (arith, h, same, s)
          by_step (inr (inr (inl (pushes, more)))) = absurd (no_push_first j pushes here)
          by_step (inr (inr (inr wrong))) = absurd (legal (stays_wrong j n less wrong))

  -- ---- what costs pay

  module _ (extra : ℕ) (cs : List ℕ) (fit : FramesFit p.procedures p.start extra cs) where
    called : FirstCall p fit.frames fit.below fit.above ready fit.within before
    called = calls_first p fit.frames fit.below fit.above ready fit.within before

    module _ (reads interrupts : List ℕ) (j n : ℕ) (less : j < n) (unpushed : EndsUnpushed p n reads interrupts)
        (legal : (run p n reads interrupts).ending ≡ Some Wrong → ⊥) where
      abbrev Costs : Type 0
      Costs = taken p (run p j reads interrupts) ≤ extra + most cs (run p n reads interrupts).openings

      abbrev IsNotedMain : Type 0
      IsNotedMain = IsAmong (Calling called.method ∷ []) (run p n reads interrupts).openings

      noted : IsNotedMain → Costs
      noted h =
          let takes = takes_within reads interrupts fit.frames fit.below fit.above fit.within n unpushed legal j less in
          let paid =
          all_paid (fit.below + fit.above) extra fit.frames cs fit.paid called.method (run p n reads interrupts).openings called.some h in
          omega (arith, takes, paid)

      by_main : IsAtFirst p (run p j reads interrupts) ⊎ IsNotedMain → IsAtFirst p (run p (j + 1) reads interrupts) ⊎ IsNotedMain → Costs
      by_main (inr h) next = noted h
      by_main (inl here) (inr h) = noted h
      by_main (inl here) (inl next) =
          let few = first_takes reads interrupts fit.frames fit.below fit.above fit.within j n less legal here next in
          let begins = fit.begins in omega (arith, few, begins)

      pub costs : Costs
      costs =
          by_main (runs_begun p ready (Calling called.method) called.first j n reads interrupts (omega (arith, less)))
          (runs_begun p ready (Calling called.method) called.first (j + 1) n reads interrupts (omega (arith, less)))
