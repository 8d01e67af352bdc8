-- From reset to the configuration behind so many steps.
use Rattle.std.specs.Prelude.{ℕ, zero, suc, ◌+◌, ◌-◌, ◌*◌, ◌<◌, ◌≤◌, List, [], ◌∷◌, ◌++◌, length, Option, Some, None}
use Rattle.std.proofs.Common.{◌≡◌, refl, sym, ap, ◌∙◌, subst, arith, ◌⊎◌, inl, inr}
use Rattle.vg_meaning.specs.Answer.{End, Wrong}
use Rattle.vg_meaning.specs.Outside.{Outside, before, AreReads, AreVectors}
use Rattle.avr_isa.specs.Cpu.{PowerOn, IsPowerOn}
use Rattle.avr_isa.specs.Machine.{State as MachineState, started}
use Rattle.avr_view.specs.Run.{Run, Goes, Front}
use Rattle.avr_view.specs.View.{View, At, Shown}
use Rattle.avr_view.proofs.Going.{goes_then, goes_fewer, goes_wider}
use Rattle.vg_lin.specs.Meaning.{at_start, run}
use Rattle.vg_lin.specs.Program.{Program}
use Rattle.vg_lin.specs.State.{State}
use Rattle.vg_lin.specs.Steps.{Config}
use Rattle.vg_lin_traces.specs.Traces.{after, Extends}
use Rattle.vg_lin_traces.proofs.Growing.{run_extends, in_parts, ended_stays}
use Rattle.vg_templates.specs.Whole.{Links}
use Rattle.vg_followed.specs.Depth.{depth}
use Rattle.vg_followed.specs.Related.{HasEnded, RelatedBy, Related}
use Rattle.vg_followed.specs.Stands.{Stands}
use Rattle.vg_followed.specs.Followed.{next, Owes, behind, IsDeep}
use Rattle.vg_followed.proofs.Matching.{comes_matched, goes_matched}
use Rattle.vg_followed.proofs.FromReset.{begins}
use Rattle.vg_followed.specs.Runs.{Begins, IsDeepRun, Wholes}

-- A run that is deep for one reason is deep for a wider one.
deeper : (e : Run) (one other : Type 0) → (one → other) → (n : ℕ) (s : MachineState) (P : MachineState → Type 0) → Goes e one n s P → Goes e other n s P
deeper e one other f n s P (inl c) = inl c
deeper e one other f n s P (inr (d, k)) = inr (f d, k)

-- Each step before the end of a run that shows the whole trace goes on to it, and is no wrong one.
module _ (e : Run) (p : Program) (n : ℕ) (c : Config State) (whole : e.whole ≡ (after p n c).outside.trace)
    (legal : (after p n c).ending ≡ Some Wrong → ⊥) where
  step_next : (j : ℕ) → next p (after p j c) ≡ after p (suc j) c
  step_next j = sym (ap (λ k. after p k c) (let z : suc j ≡ j + 1 = omega arith in z) ∙ in_parts p j 1 c)

  rest : (j : ℕ) → j < n → after p n c ≡ after p (n - suc j) (next p (after p j c))
  rest j low =
      ap (λ k. after p k c) (let z : n ≡ suc j + (n - suc j) = omega (arith, low) in z) ∙ in_parts p (suc j) (n - suc j) c
      ∙ ap (after p (n - suc j)) (sym (step_next j))

  pub owes : (j : ℕ) → j < n → Owes e p (behind p j c)
  owes j low =
      let d = next p (after p j c) in let more = run_extends p (n - suc j) d in
      record {
        legal = λ wrong. legal (ap (λ z. z.ending) (rest j low ∙ ended_stays p (n - suc j) d Wrong wrong) ∙ wrong);
        front = record { more = more.0; front = whole ∙ ap (λ z. z.outside.trace) (rest j low) ∙ more.1 };
      }

module _ (e : Run) (x : Links) (p : Program) (st : Stands e x p) (b : Begins e x p) (n : ℕ) (memory : PowerOn) (reads interrupts : List ℕ)
    (powered : IsPowerOn memory) (r : AreReads reads) (is : AreVectors interrupts) (w : Wholes e p n reads interrupts) where
  abbrev first : Config State
  first = at_start p (before reads interrupts)

  abbrev deep : Type 0
  deep = IsDeepRun e x p n reads interrupts

  abbrev last : Config State
  last = run p n reads interrupts

  begun : Goes e deep 6 (started memory reads interrupts) (Related e x p first)
  begun =
      deeper e _ deep inl 6 (started memory reads interrupts) (Related e x p first)
      (begins e x p st b.first b.there b.no_params b.start b.from memory reads interrupts powered r is b.jump b.away b.code b.entry b.room b.room_at b.floor
      b.columns)

  full : (j : ℕ) → j < n → 0x1100 < e.floor + depth x.places p (behind p j first) → deep
  full j low h = inr (j, (low, h))

  comes : Goes e deep 6 (started memory reads interrupts) (Related e x p last)
  comes =
      goes_then e deep 6 0 (started memory reads interrupts) (Related e x p first) (Related e x p last) begun
      (λ s related. comes_matched e x p st deep n first s (owes e p n first w.whole w.legal) full related)

  has_ended : (why : End) → last.ending ≡ Some why → (s : MachineState) → Related e x p last s → HasEnded e why last.outside s
  has_ended why h s related = subst (λ z. RelatedBy e x p last z last.woken s) h related

  shown : last.ending ≡ None → (s : MachineState) → Related e x p last s → Shown e last.outside.trace s
  shown h s related = by_woken last.woken (subst (λ z. RelatedBy e x p last z last.woken s) h related)
    where
      by_woken : (o : Option ℕ) → RelatedBy e x p last None o s → Shown e last.outside.trace s
      by_woken None (settled, g) = record { pc = x.place last.proc last.pc; view = g.view; at = g.at; same = ap (λ z. z.trace) g.kind.out }
      by_woken (Some vector) (settled, g) = record { pc = 2 * vector; view = _; at = g.at; same = ap (λ z. z.trace) g.out }

  pub ends : (why : End) → last.ending ≡ Some why → Goes e deep 0 (started memory reads interrupts) (HasEnded e why last.outside)
  ends why h =
      goes_fewer e deep 6 0 (started memory reads interrupts) (HasEnded e why last.outside) (omega arith)
      (goes_wider e deep 6 (started memory reads interrupts) (Related e x p last) (HasEnded e why last.outside) (has_ended why h) comes)

  pub goes_on : last.ending ≡ None → Goes e deep n (started memory reads interrupts) (Shown e last.outside.trace)
  goes_on h =
      goes_fewer e deep (6 + n) n (started memory reads interrupts) (Shown e last.outside.trace) (omega arith)
      (goes_wider e deep (6 + n) (started memory reads interrupts) (Related e x p last) (Shown e last.outside.trace) (shown h)
      (goes_then e deep 6 n (started memory reads interrupts) (Related e x p first) (Related e x p last) begun
      (λ s related. goes_matched e x p st deep n first s (owes e p n first w.whole w.legal) full h related)))
