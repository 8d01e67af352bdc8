-- From the run of a packed program over linear code to the machine.
use Rattle.std.specs.Prelude.{ℕ, ◌+◌, ◌≤◌, List, length, Option, Some, None}
use Rattle.std.proofs.Common.{◌≡◌, sym, ap, ◌∙◌, subst, arith}
use Rattle.vg_meaning.specs.Answer.{End, Stops, Wants, Touches, Done, OutOfClock, OutOfDepth, OutOfRoom, Wrong, Over, Ends}
use Rattle.vg_meaning.specs.History.{full, History}
use Rattle.vg_meaning.specs.Outside.{AreReads, AreVectors, before}
use Rattle.vg_meaning.specs.World.{World}
use Rattle.vg_codes.specs.Codes.{Codes}
use Rattle.vg_firm.specs.Program.{Program as FirmProgram}
use Rattle.vg_firm.specs.Meaning.{State as Firm}
use Rattle.vg_firm.specs.Session.{first_state, running}
use Rattle.avr_isa.specs.Cpu.{PowerOn, IsPowerOn}
use Rattle.avr_isa.specs.Machine.{started}
use Rattle.avr_view.specs.Run.{Run, Goes}
use Rattle.avr_view.specs.View.{Shown}
use Rattle.vg_lin.specs.Follows.{EndsBy, IsLegal}
use Rattle.vg_lin.specs.Meaning.{language, codes_in, at_start, run, counted_steps}
use Rattle.vg_lin.specs.Program.{Program}
use Rattle.vg_lin.specs.Sessions.{world, ShowsEnd}
use Rattle.vg_lin.specs.State.{State}
use Rattle.vg_lin.specs.Steps.{Config}
use Rattle.vg_expand.specs.Unpushed.{unpushed_steps}
use Rattle.vg_expand.specs.Runs.{ShowsSame}
use Rattle.vg_expand.proofs.Unpushed.{unpushed_within}
use Rattle.vg_trimming.specs.Runs.{RunsAsRead}
use Rattle.vg_flatten_shapes.specs.declared.layout.Layout.{Layout}
use Rattle.vg_flatten.specs.Flattened.{AreFlat}
use Rattle.vg_flattened.proofs.RunRight.{follows}
use Rattle.vg_templates.specs.Whole.{Links}
use Rattle.vg_followed.specs.Related.{HasEnded}
use Rattle.vg_followed.specs.Stands.{Stands}
use Rattle.vg_followed.specs.Runs.{Begins, IsDeepRun, Wholes}
use Rattle.vg_followed.proofs.Running.{ends, goes_on}
use Rattle.vg_images_follow.specs.Follows.{DoesAs}

-- What is over for a legal reason is not wrong.
not_wrong : (why : End) (d : Config State) → IsLegal why → EndsBy why d → d.ending ≡ Some Wrong → ⊥
not_wrong Wrong d l e q = l
not_wrong OutOfClock d l e q = (let clash : None ≡ Some Wrong = sym e ∙ q in cc)
not_wrong OutOfDepth d l e q = (let clash : None ≡ Some Wrong = sym e ∙ q in cc)
not_wrong (Stops code at) d l e q = (let clash : Some (Stops code at) ≡ Some Wrong = sym e ∙ q in cc)
not_wrong (Wants address) d l e q = (let clash : Some (Wants address) ≡ Some Wrong = sym e ∙ q in cc)
not_wrong (Touches address) d l e q = (let clash : Some (Touches address) ≡ Some Wrong = sym e ∙ q in cc)
not_wrong Done d l e q = (let clash : Some Done ≡ Some Wrong = sym e ∙ q in cc)
not_wrong OutOfRoom d l e q = (let clash : Some OutOfRoom ≡ Some Wrong = sym e ∙ q in cc)

module _ (e : Run) (x : Links) (new : Program) (st : Stands e x new) (b : Begins e x new) (memory : PowerOn) (powered : IsPowerOn memory)
    (reads interrupts : List ℕ) (r : AreReads reads) (is : AreVectors interrupts) (v : World History) (whole : e.whole ≡ v.outside.trace)
    (c : Config State) (m : ℕ) (same : ShowsSame c (run new m reads interrupts)) (outside : c.outside ≡ v.outside) (legal : c.ending ≡ Some Wrong → ⊥) where
  there : (run new m reads interrupts).outside ≡ v.outside
  there = same.outside ∙ outside

  wholes : Wholes e new m reads interrupts
  wholes = record { whole = whole ∙ ap (λ o. o.trace) (sym there); legal = λ wrong. legal (sym same.ending ∙ wrong) }

  goes : c.ending ≡ None → Goes e (IsDeepRun e x new m reads interrupts) m (started memory reads interrupts) (Shown e v.outside.trace)
  goes h =
      subst (λ o. Goes e (IsDeepRun e x new m reads interrupts) m (started memory reads interrupts) (Shown e o.trace)) there
      (goes_on e x new st b m memory reads interrupts powered r is wholes (same.ending ∙ h))

  over : (why : End) → c.ending ≡ Some why
      → Goes e (IsDeepRun e x new m reads interrupts) 0 (started memory reads interrupts) (HasEnded e why v.outside)
  over why h =
      subst (λ o. Goes e (IsDeepRun e x new m reads interrupts) 0 (started memory reads interrupts) (HasEnded e why o)) there
      (ends e x new st b m memory reads interrupts powered r is wholes why (same.ending ∙ h))

  does : (why : End) → EndsBy why c → DoesAs e x new m memory reads interrupts why v
  does OutOfClock h = goes h
  does OutOfDepth h = goes h
  does (Stops code at) h = over (Stops code at) h
  does (Wants address) h = over (Wants address) h
  does (Touches address) h = over (Touches address) h
  does Done h = over Done h
  does OutOfRoom h = over OutOfRoom h
  does Wrong h = over Wrong h

pub joined : (k : Codes) (lay : Layout) (f : FirmProgram) (p new : Program) → AreFlat k lay f p → RunsAsRead p new → (e : Run) (x : Links) → Stands e x new
    → Begins e x new → (memory : PowerOn) → IsPowerOn memory → (clock : ℕ) (deepest : Option ℕ) (reads interrupts : List ℕ) (t : Firm) (v : World History)
    (why : End) → AreReads reads → AreVectors interrupts → IsLegal why
    → running full k f (length interrupts) (first_state f) (world clock deepest reads interrupts) ≡ Ends (Over why) t v → e.whole ≡ v.outside.trace
    → (n : ℕ) × (clock ≤ v.clock + n) × DoesAs e x new n memory reads interrupts why v
joined k lay f p new flat as' e x st b memory powered clock deepest reads interrupts t v why r is legal over' whole =
    by_run (follows k lay f p flat clock deepest reads interrupts t v why r legal over')
  where
    by_run : (j : ℕ) × (clock ≤ v.clock + counted_steps p j reads interrupts) × ShowsEnd why v (run p j reads interrupts)
        → (n : ℕ) × (clock ≤ v.clock + n) × DoesAs e x new n memory reads interrupts why v
    by_run (j, spent, shows) = by_steps (as' j reads interrupts r (not_wrong why (run p j reads interrupts) legal shows.ending))
      where
        by_steps : (m : ℕ) × (counted_steps p j reads interrupts ≤ unpushed_steps new m reads interrupts)
            × ShowsSame (run p j reads interrupts) (run new m reads interrupts)
            → (n : ℕ) × (clock ≤ v.clock + n) × DoesAs e x new n memory reads interrupts why v
        by_steps (m, more, same) = (
          m,
          let few = unpushed_within (language new) (codes_in new.procedures) m (at_start new (before reads interrupts)) in omega (arith, spent, more, few),
          does e x new st b memory powered reads interrupts r is v whole (run p j reads interrupts) m same shows.outside
              (not_wrong why (run p j reads interrupts) legal shows.ending) why shows.ending,
        )
