-- From the run of a packed program over linear code to the machine, and to what its active calls cost.
use Rattle.std.specs.Prelude.{ℕ, ◌+◌, ◌≤◌, List, [], ◌∷◌, length, Option, Some, None}
use Rattle.std.proofs.Common.{◌≡◌, inl, inr, refl, sym, ap, ◌∙◌, subst, arith}
use Rattle.vg_meaning.specs.Answer.{End, Stops, Wants, Touches, Done, OutOfClock, OutOfDepth, OutOfRoom, Wrong, Over, Ends}
use Rattle.vg_meaning.specs.History.{Active, full, History}
use Rattle.vg_meaning.specs.Outside.{AreReads, AreVectors}
use Rattle.vg_meaning.specs.World.{World}
use Rattle.vg_source.specs.Peak.{most}
use Rattle.vg_codes.specs.Codes.{Codes}
use Rattle.vg_firm.specs.Program.{Program as FirmProgram}
use Rattle.vg_firm.specs.Meaning.{State as Firm}
use Rattle.vg_firm.specs.Session.{first_state, running}
use Rattle.avr_isa.specs.Cpu.{PowerOn, IsPowerOn}
use Rattle.avr_isa.specs.Machine.{State as Machine, started}
use Rattle.avr_view.specs.Run.{Run, Goes}
use Rattle.avr_view.specs.View.{Shown}
use Rattle.vg_lin.specs.Follows.{EndsBy, IsLegal}
use Rattle.vg_lin.specs.Meaning.{run, counted_steps}
use Rattle.vg_lin.specs.Program.{Program}
use Rattle.vg_lin.specs.Sessions.{world, ShowsEnd}
use Rattle.vg_lin.specs.State.{State}
use Rattle.vg_lin.specs.Steps.{Config}
use Rattle.vg_expand.specs.Runs.{ShowsSame}
use Rattle.vg_expand.specs.Unpushed.{unpushed_steps}
use Rattle.vg_trimming.specs.Runs.{RunsAsRead}
use Rattle.vg_flatten_shapes.specs.declared.layout.Layout.{Layout}
use Rattle.vg_flatten.specs.Flattened.{AreFlat}
use Rattle.vg_flattened.proofs.RunRight.{follows}
use Rattle.vg_templates.specs.Whole.{Links}
use Rattle.vg_followed.specs.Related.{HasEnded}
use Rattle.vg_followed.specs.Stands.{Stands}
use Rattle.vg_followed.specs.Runs.{Begins, IsDeepRun, Wholes}
use Rattle.vg_followed.proofs.Running.{ends, goes_on}
use Rattle.vg_open_calls.specs.Noted.{IsAmong}
use Rattle.vg_open_costs.specs.Taken.{EndsUnpushed, IsCutBack}
use Rattle.vg_open_costs.proofs.Paid.{among_most}
use Rattle.vg_open_costs.proofs.Cutting.{cut_back}
use Rattle.vg_ticked_calls.specs.Ticked.{AreTicked}
use Rattle.vg_ticked_calls.proofs.Ticking.{openings_tick}
use Rattle.vg_deep_costs.specs.Fit.{HasFitFrames}
use Rattle.vg_deep_costs.proofs.Counting.{deep_costs}
use Rattle.vg_peaks.specs.Peaks.{PassesPeak, DoesWithinPeak}

-- What is over for a legal reason is not wrong.
not_wrong : (why : End) (d : Config State) → IsLegal why → EndsBy why d → d.ending ≡ Some Wrong → ⊥
not_wrong Wrong d l e q = l
not_wrong OutOfClock d l e q = (let clash : None ≡ Some Wrong = sym e ∙ q in cc)
not_wrong OutOfDepth d l e q = (let clash : None ≡ Some Wrong = sym e ∙ q in cc)
not_wrong (Stops code at) d l e q = (let clash : Some (Stops code at) ≡ Some Wrong = sym e ∙ q in cc)
not_wrong (Wants address) d l e q = (let clash : Some (Wants address) ≡ Some Wrong = sym e ∙ q in cc)
not_wrong (Touches address) d l e q = (let clash : Some (Touches address) ≡ Some Wrong = sym e ∙ q in cc)
not_wrong Done d l e q = (let clash : Some Done ≡ Some Wrong = sym e ∙ q in cc)
not_wrong OutOfRoom d l e q = (let clash : Some OutOfRoom ≡ Some Wrong = sym e ∙ q in cc)

-- rows among others cost no more
most_within : (cs : List ℕ) (rows more : List (List Active)) → ((calls : List Active) → IsAmong calls rows → IsAmong calls more) → most cs rows ≤ most cs more
most_within cs [] more h = omega arith
most_within cs (row ∷ rows) more h =
    let one = among_most cs row more (h row (inl refl)) in
    let rest = most_within cs rows more (λ calls k. h calls (inr k)) in omega (arith, one, rest)

-- where deep runs are of another kind too
deeper : (e : Run) (deep other : Type 0) (n : ℕ) (s : Machine) (P : Machine → Type 0) → (deep → other) → Goes e deep n s P → Goes e other n s P
deeper e deep other n s P to (inl c) = inl c
deeper e deep other n s P to (inr (d, k)) = inr (to d, k)

module _ (e : Run) (x : Links) (new : Program) (st : Stands e x new) (b : Begins e x new) (extra : ℕ) (cs : List ℕ) (has : HasFitFrames x new extra cs)
    (memory : PowerOn) (powered : IsPowerOn memory) (reads interrupts : List ℕ) (r : AreReads reads) (is : AreVectors interrupts) (v : World History)
    (whole : e.whole ≡ v.outside.trace) (ticked : AreTicked v.history) (c : Config State) (m : ℕ) (unpushed : EndsUnpushed new m reads interrupts)
    (same : ShowsSame c (run new m reads interrupts)) (outside : c.outside ≡ v.outside) (openings : c.openings ≡ v.history.at_openings)
    (legal : c.ending ≡ Some Wrong → ⊥) where
  there : (run new m reads interrupts).outside ≡ v.outside
  there = same.outside ∙ outside

  right : (run new m reads interrupts).ending ≡ Some Wrong → ⊥
  right wrong = legal (sym same.ending ∙ wrong)

  wholes : Wholes e new m reads interrupts
  wholes = record { whole = whole ∙ ap (λ o. o.trace) (sym there); legal = right }

  peak : IsDeepRun e x new m reads interrupts → PassesPeak e extra cs v.history
  peak deep =
      let cost = deep_costs e x new extra cs st b has m reads interrupts unpushed right deep in
      let noted = ap (most cs) (same.openings ∙ openings) in
      let within = most_within cs v.history.at_openings v.history.behind_ticks ticked in omega (arith, cost, noted, within)

  goes : c.ending ≡ None → Goes e (PassesPeak e extra cs v.history) m (started memory reads interrupts) (Shown e v.outside.trace)
  goes h =
      deeper e (IsDeepRun e x new m reads interrupts) (PassesPeak e extra cs v.history) m (started memory reads interrupts) (Shown e v.outside.trace) peak
      (subst (λ o. Goes e (IsDeepRun e x new m reads interrupts) m (started memory reads interrupts) (Shown e o.trace)) there
      (goes_on e x new st b m memory reads interrupts powered r is wholes (same.ending ∙ h)))

  over : (why : End) → c.ending ≡ Some why → Goes e (PassesPeak e extra cs v.history) 0 (started memory reads interrupts) (HasEnded e why v.outside)
  over why h =
      deeper e (IsDeepRun e x new m reads interrupts) (PassesPeak e extra cs v.history) 0 (started memory reads interrupts) (HasEnded e why v.outside) peak
      (subst (λ o. Goes e (IsDeepRun e x new m reads interrupts) 0 (started memory reads interrupts) (HasEnded e why o)) there
      (ends e x new st b m memory reads interrupts powered r is wholes why (same.ending ∙ h)))

  does : (why : End) → EndsBy why c → DoesWithinPeak e extra cs m memory reads interrupts why v
  does OutOfClock h = goes h
  does OutOfDepth h = goes h
  does (Stops code at) h = over (Stops code at) h
  does (Wants address) h = over (Wants address) h
  does (Touches address) h = over (Touches address) h
  does Done h = over Done h
  does OutOfRoom h = over OutOfRoom h
  does Wrong h = over Wrong h

same_then : (c d e : Config State) → ShowsSame c d → ShowsSame d e → ShowsSame c e
same_then c d e h k = record { outside = k.outside ∙ h.outside; openings = k.openings ∙ h.openings; ending = k.ending ∙ h.ending }

pub within_peak : (k : Codes) (lay : Layout) (f : FirmProgram) (p new : Program) → AreFlat k lay f p → RunsAsRead p new → (e : Run) (x : Links)
    → Stands e x new → Begins e x new → (extra : ℕ) (cs : List ℕ) → HasFitFrames x new extra cs → (memory : PowerOn) → IsPowerOn memory
    → (clock : ℕ) (deepest : Option ℕ) (reads interrupts : List ℕ) (t : Firm) (v : World History) (why : End)
    → AreReads reads → AreVectors interrupts → IsLegal why
    → running full k f (length interrupts) (first_state f) (world clock deepest reads interrupts) ≡ Ends (Over why) t v → e.whole ≡ v.outside.trace
    → (n : ℕ) × (clock ≤ v.clock + n) × DoesWithinPeak e extra cs n memory reads interrupts why v
within_peak k lay f p new flat as' e x st b extra cs has memory powered clock deepest reads interrupts t v why r is legal over' whole =
    by_run (follows k lay f p flat clock deepest reads interrupts t v why r legal over')
  where
    ticked : AreTicked v.history
    ticked =
        openings_tick k f (length interrupts) (first_state f) t (world clock deepest reads interrupts) v (Over why) (λ calls h. absurd h) over'

    by_run : (j : ℕ) × (clock ≤ v.clock + counted_steps p j reads interrupts) × ShowsEnd why v (run p j reads interrupts)
        → (n : ℕ) × (clock ≤ v.clock + n) × DoesWithinPeak e extra cs n memory reads interrupts why v
    by_run (j, spent, shows) = by_steps (as' j reads interrupts r legal')
      where
        legal' : (run p j reads interrupts).ending ≡ Some Wrong → ⊥
        legal' = not_wrong why (run p j reads interrupts) legal shows.ending

        -- the run of the new program is looked at up to its last row of pushes
        by_cut : (m : ℕ) → counted_steps p j reads interrupts ≤ unpushed_steps new m reads interrupts
            → ShowsSame (run p j reads interrupts) (run new m reads interrupts) → IsCutBack new m reads interrupts
            → (n : ℕ) × (clock ≤ v.clock + n) × DoesWithinPeak e extra cs n memory reads interrupts why v
        by_cut m more same cut = (
          cut.steps,
          let many = cut.many in omega (arith, spent, more, many),
          does e x new st b extra cs has memory powered reads interrupts r is v whole ticked (run p j reads interrupts) cut.steps cut.unpushed
              (same_then (run p j reads interrupts) (run new m reads interrupts) (run new cut.steps reads interrupts) same cut.shows) shows.outside
              shows.openings legal' why shows.ending,
        )

        by_steps : (m : ℕ) × (counted_steps p j reads interrupts ≤ unpushed_steps new m reads interrupts)
            × ShowsSame (run p j reads interrupts) (run new m reads interrupts)
            → (n : ℕ) × (clock ≤ v.clock + n) × DoesWithinPeak e extra cs n memory reads interrupts why v
        by_steps (m, more, same) = by_cut m more same (cut_back new reads interrupts m (λ wrong. legal' (sym same.ending ∙ wrong)))
