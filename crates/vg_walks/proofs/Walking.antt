-- The active calls of packed programs lie along the calls that their procedures name.
use Rattle.std.specs.Prelude.{ℕ, zero, suc, true, List, [], ◌∷◌, drop, Option, Some, None, slice_get}
use Rattle.std.proofs.Common.{◌≡◌, inl, inr, refl, sym, ap, subst}
use Rattle.vg_meaning.specs.History.{Active, Calling, History, full}
use Rattle.vg_meaning.specs.World.{World}
use Rattle.vg_meaning.specs.Answer.{OutOfClock, Signal, Ends, Piece, over}
use Rattle.vg_meaning.specs.Calls.{note_call}
use Rattle.vg_meaning.specs.Interrupts.{idles}
use Rattle.vg_meaning.specs.Safe.{Safe, leaves, overs, NoWay, Ticks}
use Rattle.vg_meaning_laws.proofs.Safe.{safe_then, safe_idles, safe_opened, safe_returned, safe_performed}
use Rattle.vg_codes.specs.Codes.{Codes}
use Rattle.vg_firm.specs.Program.{Procedure, Program}
use Rattle.vg_firm.specs.Meaning.{State, Caller, put, checked, step, truth}
use Rattle.vg_firm.specs.Session.{entered, back_in, is_among, guarded, run_procedure, may_enter, handled, entering, called, running}
use Rattle.vg_walks.specs.Walks.{AreAwake, AreWalks, IsAwake, IsWalk, LiesOn, awake}
use Rattle.vg_firm_held.proofs.Pieces.{Ended, Held, On, on_back, on_checked, on_checked_as, on_found_as, on_handled, on_put, on_step, on_taking, on_truth, on_width}

-- these calls are active, and those behind each tick were walks
abbrev Here : (f : Program) (now : List Active) → History → Type 0
Here f now h = (h.active ≡ now) × AreWalks f h.behind_ticks

abbrev AtLast : Program → History → Type 0
AtLast f h = AreWalks f h.behind_ticks

last : (f : Program) (now : List Active) (h : History) → Here f now h → AtLast f h
last f now h x = x.1

the_same : (a b : ℕ) → Some a ≡ Some b → b ≡ a
the_same a b e = cc

module _ (f : Program) (now : List Active) where
  abbrev HeldNow : State → History → Type 0
  HeldNow = Held (Here f now) (AtLast f) (last f now)

  abbrev OnNow : Piece State History → Type 0
  OnNow p = On (Here f now) (AtLast f) (last f now) p

  ticks : IsWalk f now → Ticks full HeldNow (Ended (Here f now) (AtLast f) (last f now))
  ticks walk = record {
    stays = λ s h x. (x.0, (subst (λ z. IsWalk f z) (sym x.0) walk, x.1));
    spent = λ s h x. x.1;
  }

  on_entering : (q count : ℕ) (self : Option ℕ) (go : Procedure → Piece State History)
      → ((m : Procedure) → slice_get f.procedures q ≡ Some m → OnNow (go m)) → OnNow (entering f q count self go)
  on_entering q count self go k s w x =
      on_found_as (Here f now) (AtLast f) (last f now) (slice_get f.procedures q) (λ m. checked (may_enter m count self s) (go m))
      (λ m at. on_checked (Here f now) (AtLast f) (last f now) (may_enter m count self s) (go m) (k m at)) s w x

  module _ (k : Codes) (call : Caller History) (walk : IsWalk f now) (m : Procedure) (m_awake : (q : ℕ) × AreAwake f × (slice_get f.procedures q ≡ Some m))
      (calls : (q count : ℕ) (self : Option ℕ) → is_among m.calls q ≡ true → OnNow (call q count self)) where
    on_guarded : (q count : ℕ) (self : Option ℕ) → OnNow (guarded m.calls call q count self)
    on_guarded q count self =
        on_checked_as (Here f now) (AtLast f) (last f now) (is_among m.calls q) (call q count self) (calls q count self)

    on_procedure : (count : ℕ) (self : Option ℕ) → OnNow (run_procedure full k f call (λ vector. handled call (f.handler vector)) m count self)
    on_procedure count self s w x =
        safe_then _
        (safe_returned HeldNow HeldNow _ NoWay (Ended (Here f now) (AtLast f) (last f now)) _ (put 0)
        (safe_performed full (step k f m (guarded m.calls call) (λ vector. handled call (f.handler vector))) truth awake (λ z. HeldNow) HeldNow
        (Ended (Here f now) (AtLast f) (last f now)) (ticks walk)
        (λ p y z h. on_step (Here f now) (AtLast f) (last f now) IsAwake k f m (guarded m.calls call) (λ vector. handled call (f.handler vector)) on_guarded
        (λ idles v. absurd idles) p h)
        (λ y z h. on_truth (Here f now) (AtLast f) (last f now)) (λ y h s1 h1 q. q) true m.body tt tt (m_awake.1 m_awake.0 m m_awake.2)
        (entered m count self s) w x)
        (on_put (Here f now) (AtLast f) (last f now) 0) (λ s1 h1 q. q) (λ s1 h1 q. q.1.1) (λ s1 h1 q. q.1.1) (λ why s1 h1 q. absurd q))
        (on_taking (Here f now) (AtLast f) (last f now) _
        (on_width (Here f now) (AtLast f) (last f now) m.result (back_in count s) (on_back (Here f now) (AtLast f) (last f now) count s)))

module _ (f : Program) (all_awake : AreAwake f) (k : Codes) where
  opens : (now : List Active) (a : Active) → IsWalk f (a ∷ now) → (s : State) (h : History) → HeldNow f now s h → HeldNow f (a ∷ now) s (note_call full a h)
  opens now a walk s h x = (ap (λ z. a ∷ z) x.0, (subst (λ z. IsWalk f (a ∷ z)) (sym x.0) walk, x.1))

  closes : (now : List Active) (a : Active) (s : State) (h : History) → HeldNow f (a ∷ now) s h → HeldNow f now s (full.close_call h)
  closes now a s h x = (ap (λ z. drop 1 z) x.0, x.1)

  on_called : (n q count : ℕ) (self : Option ℕ) (now : List Active) → LiesOn f q now → OnNow f now (called full k f n q count self)
  on_called zero q count self now lies = on_entering f now q count self (λ m. over OutOfClock) (λ m at s w x. overs x.1)
  on_called (suc n) q count self now lies =
      on_entering f now q count self _
      (λ m at. let walk : IsWalk f (Calling m.method ∷ now) = (q, record { procedure = m; at = at; is = refl }, lies) in
      safe_opened (HeldNow f now) (HeldNow f (Calling m.method ∷ now)) (HeldNow f (Calling m.method ∷ now)) (HeldNow f now) NoWay
      (Ended (Here f now) (AtLast f) (last f now)) full (Calling m.method) _ (opens now (Calling m.method) walk) (λ s h x. x.1) (λ s h x. x.1)
      (closes now (Calling m.method))
      (on_procedure f (Calling m.method ∷ now) k (called full k f n) walk m (q, all_awake, at)
      (λ r count1 self1 named. on_called n r count1 self1 (Calling m.method ∷ now)
      (q, record { procedure = m; at = at; is = refl }, record { procedure = m; at = at; names = named }, lies)) count self))

  on_running : (n : ℕ) → OnNow f [] (running full k f n)
  on_running n s w x =
      safe_then (idles n (λ vector s1 w1. handled (called full k f w1.clock) (f.handler vector) s1 w1))
      (on_handled (Here f []) (AtLast f) (last f []) (called full k f w.clock) (Some f.main)
      (λ q e. on_called w.clock q 0 None [] (inl (the_same f.main q e))) s w x)
      (safe_idles (HeldNow f []) NoWay (Ended (Here f []) (AtLast f) (last f [])) n (λ vector s1 w1. handled (called full k f w1.clock) (f.handler vector) s1 w1)
      (λ s1 h1 y. y.1)
      (λ vector s1 w1 y. on_handled (Here f []) (AtLast f) (last f []) (called full k f w1.clock) (f.handler vector)
      (λ q e. on_called w1.clock q 0 None [] (inr (vector, e))) s1 w1 y))

ended : (f : Program) (why : Signal) (t : State) (v : World History)
    → Safe (HeldNow f []) NoWay (Ended (Here f []) (AtLast f) (last f [])) (Ends why t v) → AreWalks f v.history.behind_ticks
ended f why t v (leaves x) = absurd x
ended f _ t v (overs x) = x

pub walks : (k : Codes) (f : Program) → AreAwake f → (n : ℕ) (s t : State) (w v : World History) (why : Signal) → w.history.active ≡ []
    → AreWalks f w.history.behind_ticks → running full k f n s w ≡ Ends why t v → AreWalks f v.history.behind_ticks
walks k f all_awake n s t w v why none before e =
    ended f why t v
    (subst (λ z. Safe (HeldNow f []) NoWay (Ended (Here f []) (AtLast f) (last f [])) z) e (on_running f all_awake k n s w (none, before)))
