-- Runs of the machine from reset do what a session shows.
use Rattle.std.proofs.Common.{◌≡◌, ℕ, ◌<◌, ◌≤◌, inl, inr, List, Option, Some, sym, ap, ◌∙◌, subst, arith}
use Rattle.vg_meaning.specs.Ending.{Ending, Idle, Stop, Wants, Beyond}
use Rattle.vg_meaning.specs.Outside.{Outside}
use Rattle.vg_meaning.specs.Seen.{Seen}
use Rattle.avr_isa.specs.declared.ending.MachineEnd.{MachineEnd}
use Rattle.avr_isa.specs.declared.ending.MachineEnd.TheVariants as machine_end
use Rattle.avr_isa.specs.Agrees.{IsAt, ReachesFloor, Follows, FollowsSeen}
use Rattle.avr_isa.specs.Cpu.{PowerOn}
use Rattle.avr_isa.specs.Machine.{State, started, machine}
use Rattle.avr_view.specs.Run.{Run, Goes, Ended}
use Rattle.avr_view.specs.View.{Shown}

module _ (e : Run) (memory : PowerOn) (reads interrupts : List ℕ) (clock n stack : ℕ) (s : Seen) (whole : e.whole ≡ s.trace) where
  -- the run that comes to a state follows the session, and the one that sinks reaches the floor
  by_goal : (P : State → Type 0) (ending : Option Ending) → s.ending ≡ ending
      → ((k : ℕ) → n ≤ k → P (machine e.flash memory reads interrupts k) → Follows (machine e.flash memory reads interrupts) clock e.floor ending s.trace)
      → Goes e (stack < s.peak) n (started memory reads interrupts) P
      → FollowsSeen (machine e.flash memory reads interrupts) clock e.floor stack s
  by_goal P ending is follows (inl c) =
      inl (subst (λ x. Follows (machine e.flash memory reads interrupts) clock e.floor x s.trace) (sym is) (follows c.after c.least c.there))
  by_goal P ending is follows (inr (deep, k)) =
      inr (deep, subst (λ w. ReachesFloor (machine e.flash memory reads interrupts) w e.floor) whole k.reaches)

  ended_at : (end : MachineEnd) (o : Outside) (t : State) → o.trace ≡ s.trace → Ended e end o t → IsAt t (Some end) s.trace e.floor
  ended_at end o t same p = record { ends = p.is_at.ends; same_trace = p.is_at.same_trace ∙ same; above = p.is_at.above }

  pub follows_idle : (o : Outside) → s.ending ≡ Some Idle → o.trace ≡ s.trace
      → Goes e (stack < s.peak) n (started memory reads interrupts) (Ended e machine_end.Idle o)
      → FollowsSeen (machine e.flash memory reads interrupts) clock e.floor stack s
  follows_idle o is same = by_goal (Ended e machine_end.Idle o) (Some Idle) is (λ k h p. (k, ended_at machine_end.Idle o _ same p))

  pub follows_stop : (o : Outside) (code : ℕ) → s.ending ≡ Some (Stop code) → o.trace ≡ s.trace
      → Goes e (stack < s.peak) n (started memory reads interrupts) (Ended e (machine_end.Stop code) o)
      → FollowsSeen (machine e.flash memory reads interrupts) clock e.floor stack s
  follows_stop o code is same =
      by_goal (Ended e (machine_end.Stop code) o) (Some (Stop code)) is (λ k h p. (k, ended_at (machine_end.Stop code) o _ same p))

  pub follows_wants : (o : Outside) (address : ℕ) → s.ending ≡ Some (Wants address) → o.trace ≡ s.trace
      → Goes e (stack < s.peak) n (started memory reads interrupts) (Ended e (machine_end.Wants address) o)
      → FollowsSeen (machine e.flash memory reads interrupts) clock e.floor stack s
  follows_wants o address is same =
      by_goal (Ended e (machine_end.Wants address) o) (Some (Wants address)) is (λ k h p. (k, ended_at (machine_end.Wants address) o _ same p))

  pub follows_beyond : s.ending ≡ Some Beyond → clock ≤ n → Goes e (stack < s.peak) n (started memory reads interrupts) (Shown e s.trace)
      → FollowsSeen (machine e.flash memory reads interrupts) clock e.floor stack s
  follows_beyond is long =
      by_goal (Shown e s.trace) (Some Beyond) is
      (λ k h p. (k, omega (arith, long, h), record { ends = p.at.going; same_trace = ap (λ (o : Outside). o.trace) p.at.out ∙ p.same; above = p.at.above }))
