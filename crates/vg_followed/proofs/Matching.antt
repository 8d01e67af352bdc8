-- Each step of a configuration, and whole runs, matched by the machine.
use Rattle.std.proofs.Common.{◌≡◌, ℕ, zero, suc, ◌+◌, ◌<◌, Option, Some, None, refl, sym, ap, ◌∙◌, subst, arith}
use Rattle.vg_meaning.specs.Answer.{End}
use Rattle.avr_isa.specs.Machine.{State as MachineState}
use Rattle.vg_lin.specs.declared.instr.Instr.{Instr}
use Rattle.vg_lin.specs.declared.instr.Instr.TheVariants.{Plain, When, Unless, Jump, Call, Return, Idle}
use Rattle.vg_lin.specs.Meaning.{enter, result, language, codes_in}
use Rattle.vg_lin.specs.Program.{Program}
use Rattle.vg_lin.specs.State.{State, holds, plain}
use Rattle.vg_lin.specs.Steps.{Config, performed, stepped, steps, fetch}
use Rattle.avr_view.specs.Run.{Run, Goes, Front}
use Rattle.avr_view.proofs.Going.{goes_here, goes_then, goes_fewer}
use Rattle.vg_templates.specs.Whole.{Links}
use Rattle.vg_followed.specs.Depth.{stack_bytes, instr_bytes, depth}
use Rattle.vg_followed.specs.Related.{Settled, Going, Related}
use Rattle.vg_followed.specs.Stands.{Stands}
use Rattle.vg_followed.specs.Followed.{next, IsLegal, Owes, behind}
use Rattle.vg_followed.proofs.Carrying.{goes_on_call}
use Rattle.vg_followed.proofs.Going.{at_rest, goes_on_plain, goes_on_when, goes_on_unless, goes_on_jump}
use Rattle.vg_followed.proofs.Returning.{goes_on_return}
use Rattle.vg_followed.proofs.Waking.{woken_by, goes_on_idle, goes_on_woken}

module _ (e : Run) (x : Links) (p : Program) (st : Stands e x p) (deep : Type 0) where
  goes_on_instr : (c : Config State) (s : MachineState) → Settled x p c → Going e x c s → (o : Option Instr) → fetch (codes_in p.procedures) c.proc c.pc ≡ o
      → IsLegal (performed (language p) (at_rest c) o) → Front e (performed (language p) (at_rest c) o).outside
      → (0x1100 < e.floor + (stack_bytes x.places c.proc c.state c.frames + instr_bytes x.places p c.state o) → deep)
      → Goes e deep 1 s (Related e x p (performed (language p) (at_rest c) o))
  goes_on_instr c s settled g None h legal front full = absurd (legal refl)
  goes_on_instr c s settled g (Some (Plain q)) h legal front full =
      goes_on_plain e x p st deep c q s h settled g full (plain p q c.state c.outside) refl legal front
  goes_on_instr c s settled g (Some (When t to)) h legal front full = goes_on_when e x p st deep c t to s h settled g (holds t c.state) refl legal
  goes_on_instr c s settled g (Some (Unless t to)) h legal front full = goes_on_unless e x p st deep c t to s h settled g (holds t c.state) refl legal
  goes_on_instr c s settled g (Some (Jump to)) h legal front full = goes_on_jump e x p st deep c to s h settled g
  goes_on_instr c s settled g (Some (Call call)) h legal front full =
      goes_on_call e x p st deep c call s h settled g (enter p call c.state) refl full legal
  goes_on_instr c s settled g (Some (Return w a)) h legal front full =
      goes_on_return e x p st deep c w a s h settled g (result w a c.state) refl c.frames refl legal
  goes_on_instr c s settled g (Some Idle) h legal front full = goes_on_idle e x p st deep c s h settled g full c.outside.interrupts refl front

  -- what is to be matched
  abbrev Matches : Config State → MachineState → Type 0
  Matches c s = Owes e p c → (0x1100 < e.floor + depth x.places p c → deep) → Related e x p c s → Goes e deep 1 s (Related e x p (next p c))

  rests : (c : Config State) (s : MachineState) → Matches (at_rest c) s
  rests c s owes full related =
      goes_on_instr c s (record { waits = related.0.waits; callers = related.0.callers; vectors = related.0.vectors }) related.1
      (fetch (codes_in p.procedures) c.proc c.pc) refl owes.legal owes.front full

  wakes : (c : Config State) (vector : ℕ) (s : MachineState) → Matches (woken_by vector c) s
  wakes c vector s owes full related =
      let w = related.1 in
      goes_on_woken e x p st deep c vector s (record { waits = related.0.waits; callers = related.0.callers; vectors = related.0.vectors })
      (record { is_vector = w.is_vector; idles = w.idles; view = w.view; held = w.held; out = w.out; at = w.at }) full (p.handler vector) refl

  pub matched : (c : Config State) (s : MachineState) → c.ending ≡ None → Matches c s
  matched c s going = by_woken c.woken refl
    where
      by_woken : (w : Option ℕ) → c.woken ≡ w → Matches c s
      by_woken None e1 =
          let same : at_rest c ≡ c =
          ap (λ w. record c { woken = w; ending = None }) (sym e1) ∙ ap (λ z. record c { woken = c.woken; ending = z }) (sym going) in
          subst (λ d. Matches d s) same (rests c s)
      by_woken (Some vector) e1 =
          let same : woken_by vector c ≡ c =
          ap (λ w. record c { woken = w; ending = None }) (sym e1) ∙ ap (λ z. record c { woken = c.woken; ending = z }) (sym going) in
          subst (λ d. Matches d s) same (wakes c vector s)

  -- ---- whole runs

  -- a run that has ended stays as it is
  ended_next : (c : Config State) (why : End) → c.ending ≡ Some why → next p c ≡ c
  ended_next c why e1 = ap (λ o. stepped (language p) (codes_in p.procedures) c o c.woken) e1

  ended_stays : (n : ℕ) (c : Config State) (why : End) → c.ending ≡ Some why → steps (language p) (codes_in p.procedures) n c ≡ c
  ended_stays zero c why e1 = refl
  ended_stays (suc n) c why e1 =
      ap (steps (language p) (codes_in p.procedures) n) (ended_next c why e1) ∙ ended_stays n c why e1

  pub comes_matched : (n : ℕ) (c : Config State) (s : MachineState) → ((j : ℕ) → j < n → Owes e p (behind p j c))
      → ((j : ℕ) → j < n → 0x1100 < e.floor + depth x.places p (behind p j c) → deep) → Related e x p c s
      → Goes e deep 0 s (Related e x p (behind p n c))
  comes_matched zero c s owes full related = goes_here e deep s (Related e x p c) related
  comes_matched (suc n) c s owes full related =
      by_ending (λ t there. comes_matched n (next p c) t (λ j low. owes (suc j) (omega arith)) (λ j low. full (suc j) (omega arith)) there) c.ending refl
    where
      by_ending : ((t : MachineState) → Related e x p (next p c) t → Goes e deep 0 t (Related e x p (behind p n (next p c)))) → (o : Option End)
          → c.ending ≡ o → Goes e deep 0 s (Related e x p (behind p n (next p c)))
      by_ending rest None e1 =
          let goal = Related e x p (behind p n (next p c)) in
          goes_fewer e deep (1 + 0) 0 s goal (omega arith)
          (goes_then e deep 1 0 s (Related e x p (next p c)) goal (matched c s e1 (owes 0 (omega arith)) (full 0 (omega arith)) related) rest)
      by_ending rest (Some why) e1 = rest s (subst (λ d. Related e x p d s) (sym (ended_next c why e1)) related)

  pub goes_matched : (n : ℕ) (c : Config State) (s : MachineState) → ((j : ℕ) → j < n → Owes e p (behind p j c))
      → ((j : ℕ) → j < n → 0x1100 < e.floor + depth x.places p (behind p j c) → deep) → (behind p n c).ending ≡ None → Related e x p c s
      → Goes e deep n s (Related e x p (behind p n c))
  goes_matched zero c s owes full still related = goes_here e deep s (Related e x p c) related
  goes_matched (suc n) c s owes full still related =
      by_ending (λ t there. goes_matched n (next p c) t (λ j low. owes (suc j) (omega arith)) (λ j low. full (suc j) (omega arith)) still there) c.ending refl
    where
      by_ending : ((t : MachineState) → Related e x p (next p c) t → Goes e deep n t (Related e x p (behind p n (next p c)))) → (o : Option End)
          → c.ending ≡ o → Goes e deep (suc n) s (Related e x p (behind p n (next p c)))
      by_ending rest None e1 =
          let goal = Related e x p (behind p n (next p c)) in
          goes_fewer e deep (1 + n) (suc n) s goal (omega arith)
          (goes_then e deep 1 n s (Related e x p (next p c)) goal (matched c s e1 (owes 0 (omega arith)) (full 0 (omega arith)) related) rest)
      by_ending rest (Some why) e1 =
          absurd (let clash : None ≡ Some why = sym still ∙ ap (λ (d : Config State). d.ending) (ended_stays (suc n) c why e1) ∙ e1 in cc)
