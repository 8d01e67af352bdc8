-- That sessions which one program follows are followed by a program that does what it did.
use Rattle.std.specs.Prelude.{◌≢◌, ℕ, ◌+◌, ◌≤◌, Option, Some}
use Rattle.std.proofs.Common.{◌≡◌, sym, ◌∙◌, subst, arith}
use Rattle.vg_meaning.specs.Outside.{before}
use Rattle.vg_meaning.specs.Answer.{End, Stops, Wants, Touches, Done, OutOfClock, OutOfDepth, OutOfRoom, Wrong}
use Rattle.vg_meaning.specs.Code.{Code}
use Rattle.vg_lin.specs.declared.instr.Call.{Call}
use Rattle.vg_lin.specs.Program.{Program}
use Rattle.vg_lin.specs.State.{State}
use Rattle.vg_lin.specs.Meaning.{language, codes_in, at_start, run, counted_steps}
use Rattle.vg_lin.specs.Steps.{Config}
use Rattle.vg_lin.specs.Structured.{Step}
use Rattle.vg_lin.specs.Follows.{EndsBy, IsLegal}
use Rattle.vg_lin.specs.Sessions.{ShowsEnd, FollowsSessions}
use Rattle.vg_expand.specs.Unpushed.{unpushed_steps}
use Rattle.vg_expand.specs.Runs.{ShowsSame, RunsAs, FollowsSessionsOf}
use Rattle.vg_expand.proofs.Unpushed.{unpushed_within, counted_unpushed}

abbrev IsFine : Option End → Type 0
IsFine (Some Wrong) = ⊥
IsFine o = Unit {0}

-- a run that is over for a legal reason is not Wrong
not_wrong : (why : End) (d : Config State) → IsLegal why → EndsBy why d → d.ending ≢ Some Wrong
not_wrong (Stops code at) d legal e h = subst IsFine h (subst IsFine (sym e) (tt {0}))
not_wrong (Wants address) d legal e h = subst IsFine h (subst IsFine (sym e) (tt {0}))
not_wrong (Touches address) d legal e h = subst IsFine h (subst IsFine (sym e) (tt {0}))
not_wrong Done d legal e h = subst IsFine h (subst IsFine (sym e) (tt {0}))
not_wrong OutOfClock d legal e h = subst IsFine h (subst IsFine (sym e) (tt {0}))
not_wrong OutOfDepth d legal e h = subst IsFine h (subst IsFine (sym e) (tt {0}))
not_wrong OutOfRoom d legal e h = subst IsFine h (subst IsFine (sym e) (tt {0}))
not_wrong Wrong d legal e h = legal

ends_same : (why : End) (c d : Config State) → d.ending ≡ c.ending → EndsBy why c → EndsBy why d
ends_same (Stops code at) c d e h = e ∙ h
ends_same (Wants address) c d e h = e ∙ h
ends_same (Touches address) c d e h = e ∙ h
ends_same Done c d e h = e ∙ h
ends_same OutOfClock c d e h = e ∙ h
ends_same OutOfDepth c d e h = e ∙ h
ends_same OutOfRoom c d e h = e ∙ h
ends_same Wrong c d e h = e ∙ h

pub followed : (p n : Program) (bodies : ℕ → Code Step) (c : Call) → RunsAs p n → FollowsSessions p bodies c → FollowsSessionsOf p n bodies c
followed p n bodies c runs follows clock deepest reads interrupts t v why legal e = shown (follows clock deepest reads interrupts t v why legal e)
  where
    shown : (j : ℕ) × (clock ≤ v.clock + counted_steps p j reads interrupts) × ShowsEnd why v (run p j reads interrupts)
        → (i : ℕ) × (clock ≤ v.clock + i) × ShowsEnd why v (run n i reads interrupts)
    shown (j, h, s) = onto (runs j reads interrupts (not_wrong why (run p j reads interrupts) legal s.ending))
      where
        onto : (i : ℕ) × (unpushed_steps p j reads interrupts ≤ unpushed_steps n i reads interrupts)
            × ShowsSame (run p j reads interrupts) (run n i reads interrupts)
            → (i : ℕ) × (clock ≤ v.clock + i) × ShowsEnd why v (run n i reads interrupts)
        onto (i, g, r) = (
          i,
          let some = counted_unpushed (language p) (codes_in p.procedures) j (at_start p (before reads interrupts)) in
              let few = unpushed_within (language n) (codes_in n.procedures) i (at_start n (before reads interrupts)) in omega (arith, h, g, some, few),
          record {
            ending = ends_same why (run p j reads interrupts) (run n i reads interrupts) r.ending s.ending;
            outside = r.outside ∙ s.outside;
            openings = r.openings ∙ s.openings;
          },
        )
