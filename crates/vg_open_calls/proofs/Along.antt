-- What holds of the open procedures along a run.
use Rattle.std.specs.Prelude.{ℕ, zero, suc, ◌+◌, ◌-◌, ◌≤◌, List, [], ◌∷◌, Option, Some, None}
use Rattle.std.proofs.Common.{◌≡◌, ◌⊎◌, inl, inr, refl, sym, ap, ◌∙◌, subst, arith}
use Rattle.std.proofs.lemmas.Option.{none-some}
use Rattle.vg_meaning.specs.Answer.{End}
use Rattle.vg_meaning.specs.History.{Active}
use Rattle.vg_meaning.specs.Outside.{before}
use Rattle.vg_lin.specs.declared.instr.Call.{Call as Calling}
use Rattle.vg_lin.specs.declared.instr.Callee.TheVariants.{Procedure as ByNumber}
use Rattle.vg_lin.specs.declared.instr.Instr.{Instr}
use Rattle.vg_lin.specs.declared.instr.Instr.TheVariants.{Call}
use Rattle.vg_lin.specs.Meaning.{language, codes_in, enter, at_start, run}
use Rattle.vg_lin.specs.Program.{Program}
use Rattle.vg_lin.specs.State.{State}
use Rattle.vg_lin.specs.Steps.{Frame, Entry, Config, with_named, open_below, open_calls, noted, calls, performed, fetch, stepped, step}
use Rattle.vg_lin_traces.specs.Traces.{after}
use Rattle.vg_lin_traces.proofs.Growing.{in_parts}
use Rattle.vg_open_calls.specs.Open.{IsReady, IsAim, AreOpen, IsOpen}
use Rattle.vg_open_calls.specs.Noted.{IsAmong, IsNoted, AreNoted, CallsFirst, IsAtFirst}
use Rattle.vg_open_calls.proofs.Entering.{entered}
use Rattle.vg_open_calls.proofs.Moving.{Move, stays, opens, closes, moves, first_place}

-- ---- which procedures are open

open_as : (p : Program) (m q : ℕ) (fs gs : List (Frame State)) → q ≡ m → gs ≡ fs → AreOpen p m fs → AreOpen p q gs
open_as p m q fs gs e g h = subst (λ z. AreOpen p q z) (sym g) (subst (λ z. AreOpen p z fs) (sym e) h)

below : (p : Program) (m : ℕ) (f : Frame State) (fs gs : List (Frame State)) → gs ≡ f ∷ fs → AreOpen p m gs → AreOpen p f.proc fs
below p m f fs gs e h = (subst (λ z. AreOpen p m z) e h).1.1

open_moved : (p : Program) (c d : Config State) → IsOpen p c → Move p c d → IsOpen p d
open_moved p c d h (stays proc frames openings here awake) =
    record { here = here; callers = open_as p c.proc d.proc c.frames d.frames proc frames h.callers; awake = awake }
open_moved p c d h (opens {f = f} opener proc waits first) =
    record { here = first; callers = (opener, (waits, open_as p c.proc f.proc c.frames c.frames proc refl h.callers)); awake = λ v e. absurd (none-some v e) }
open_moved p c d h (closes {f = f} {fs = fs} frames asleep waits) =
    record { here = waits; callers = below p c.proc f fs c.frames frames h.callers; awake = λ v e. absurd (none-some v (sym asleep ∙ e)) }

-- ---- what is noted

among_noted : (calls : List Active) (o : Option Active) (under : List Active) (openings : List (List Active)) → IsAmong calls openings
    → IsAmong calls (noted o under openings)
among_noted calls None under openings h = h
among_noted calls (Some a) under openings h = inr h

module _ (p : Program) where
  among_moved : (calls : List Active) (c d : Config State) → Move p c d → IsAmong calls c.openings → IsAmong calls d.openings
  among_moved calls c d (stays proc frames openings here awake) h = subst (IsAmong calls) (sym openings) h
  among_moved calls c d (opens {q = q} {f = f} opener proc waits first) h =
      among_noted calls ((language p).named q) (open_below (language p) (f ∷ c.frames)) c.openings h
  among_moved calls c d (closes frames asleep waits) h = h

  noted_more : (old new : List (List Active)) → ((calls : List Active) → IsAmong calls old → IsAmong calls new) → (calls : List Active)
      → IsNoted calls old → IsNoted calls new
  noted_more old new more calls (inl e) = inl e
  noted_more old new more calls (inr h) = inr (more calls h)

  all_more : (old new : List (List Active)) → ((calls : List Active) → IsAmong calls old → IsAmong calls new) → (m : ℕ) (fs : List (Frame State))
      → AreNoted p old m fs → AreNoted p new m fs
  all_more old new more m [] h = noted_more old new more (open_calls (language p) m []) h
  all_more old new more m (f ∷ fs) (h, hs) = (noted_more old new more (open_calls (language p) m (f ∷ fs)) h, all_more old new more f.proc fs hs)

  all_as : (openings : List (List Active)) (m q : ℕ) (fs gs : List (Frame State)) → q ≡ m → gs ≡ fs → AreNoted p openings m fs → AreNoted p openings q gs
  all_as openings m q fs gs e g h = subst (λ z. AreNoted p openings q z) (sym g) (subst (λ z. AreNoted p openings z fs) (sym e) h)

  newest : (openings : List (List Active)) (m : ℕ) (fs : List (Frame State)) → AreNoted p openings m fs → IsNoted (open_calls (language p) m fs) openings
  newest openings m [] h = h
  newest openings m (f ∷ fs) h = h.0

  under_of : (openings : List (List Active)) (m : ℕ) (f : Frame State) (fs gs : List (Frame State)) → gs ≡ f ∷ fs → AreNoted p openings m gs
      → AreNoted p openings f.proc fs
  under_of openings m f fs gs e h = (subst (λ z. AreNoted p openings m z) e h).1

  -- the procedure that begins is noted, where it is an active call
  opened_noted : (o : Option Active) (calls : List Active) (openings : List (List Active)) → IsNoted calls openings
      → IsNoted (with_named o calls) (noted o calls openings)
  opened_noted None calls openings h = h
  opened_noted (Some a) calls openings h = inr (inl refl)

  noted_moved : (c d : Config State) → Move p c d → AreNoted p c.openings c.proc c.frames → AreNoted p d.openings d.proc d.frames
  noted_moved c d (stays proc frames openings here awake) h =
      subst (λ z. AreNoted p z d.proc d.frames) (sym openings) (all_as c.openings c.proc d.proc c.frames d.frames proc frames h)
  noted_moved c d (opens {q = q} {f = f} opener proc waits first) h =
      let under = all_as c.openings c.proc f.proc c.frames c.frames proc refl h in (
        opened_noted ((language p).named q) (open_below (language p) (f ∷ c.frames)) c.openings (newest c.openings f.proc c.frames under),
        all_more c.openings (noted ((language p).named q) (open_below (language p) (f ∷ c.frames)) c.openings)
            (λ calls k. among_noted calls ((language p).named q) (open_below (language p) (f ∷ c.frames)) c.openings k) f.proc c.frames under,
      )
  noted_moved c d (closes {f = f} {fs = fs} frames asleep waits) h = under_of c.openings c.proc f fs c.frames frames h

-- ---- runs

module _ (p : Program) (ready : IsReady p) where
  abbrev next : Config State → Config State
  next c = step (language p) (codes_in p.procedures) c

  pub open_after : (n : ℕ) (c : Config State) → IsOpen p c → IsOpen p (after p n c)
  open_after zero c h = h
  open_after (suc n) c h = open_after n (next c) (open_moved p c (next c) h (moves p ready c h))

  noted_after : (n : ℕ) (c : Config State) → IsOpen p c → AreNoted p c.openings c.proc c.frames
      → AreNoted p (after p n c).openings (after p n c).proc (after p n c).frames
  noted_after zero c h k = k
  noted_after (suc n) c h k =
      noted_after n (next c) (open_moved p c (next c) h (moves p ready c h)) (noted_moved p c (next c) (moves p ready c h) k)

  among_after : (calls : List Active) (n : ℕ) (c : Config State) → IsOpen p c → IsAmong calls c.openings → IsAmong calls (after p n c).openings
  among_after calls zero c h k = k
  among_after calls (suc n) c h k =
      among_after calls n (next c) (open_moved p c (next c) h (moves p ready c h)) (among_moved p calls c (next c) (moves p ready c h) k)

  pub first_open : (reads interrupts : List ℕ) → IsOpen p (at_start p (before reads interrupts))
  first_open reads interrupts =
      record { here = first_place p ready p.start ready.first _ ready.start refl; callers = refl; awake = λ v e. absurd (none-some v e) }

  pub runs_open : (n : ℕ) (reads interrupts : List ℕ) → IsOpen p (run p n reads interrupts)
  runs_open n reads interrupts = open_after n (at_start p (before reads interrupts)) (first_open reads interrupts)

  -- the steps behind the first ones
  later : (j n : ℕ) (c : Config State) → j ≤ n → after p (n - j) (after p j c) ≡ after p n c
  later j n c le = sym (in_parts p j (n - j) c) ∙ ap (λ z. after p z c) (let e : j + (n - j) ≡ n = omega (arith, le) in e)

  pub stays_among : (calls : List Active) (j n : ℕ) (reads interrupts : List ℕ) → j ≤ n → IsAmong calls (run p j reads interrupts).openings
      → IsAmong calls (run p n reads interrupts).openings
  stays_among calls j n reads interrupts le h =
      subst (λ c. IsAmong calls c.openings) (later j n (at_start p (before reads interrupts)) le)
      (among_after calls (n - j) (run p j reads interrupts) (runs_open j reads interrupts) h)

  pub runs_noted : (language p).named p.start ≡ None → (j n : ℕ) (reads interrupts : List ℕ) → j ≤ n
      → IsNoted (open_calls (language p) (run p j reads interrupts).proc (run p j reads interrupts).frames) (run p n reads interrupts).openings
  runs_noted unnamed j n reads interrupts le =
      noted_more p (run p j reads interrupts).openings (run p n reads interrupts).openings
      (λ calls h. stays_among calls j n reads interrupts le h) _
      (newest p (run p j reads interrupts).openings (run p j reads interrupts).proc (run p j reads interrupts).frames
      (noted_after j (at_start p (before reads interrupts)) (first_open reads interrupts) (inl (ap (λ o. with_named o []) unnamed))))

  -- ---- the first call

  module _ (a : Active) (first : CallsFirst p a) where
    abbrev Begun : Config State → Type 0
    Begun c = IsAtFirst p c ⊎ IsAmong (a ∷ []) c.openings

    main_named : (call : Calling) → call.callee ≡ ByNumber first.main → (q : ℕ) → IsAim p call.callee q → (language p).named q ≡ Some a
    main_named call e q aim = subst (λ z. (language p).named z ≡ Some a) (subst (λ z. IsAim p z q) e aim) first.named

    noted_first : (o : Option Active) (calls under : List Active) (openings : List (List Active)) → o ≡ Some a → under ≡ []
        → IsAmong (a ∷ []) (noted o under openings)
    noted_first o calls under openings e u =
        subst (λ z. IsAmong (a ∷ []) (noted z under openings)) (sym e) (inl (ap (λ z. a ∷ z) (sym u)))

    begun_calls : (c : Config State) → IsAtFirst p c → (o : Option (Entry State)) → enter p first.call c.state ≡ o → Begun (calls (language p) c first.call o)
    begun_calls c at None eo = inl (record { proc = at.proc; pc = at.pc; frames = at.frames; woken = at.woken })
    begun_calls c at (Some entry) eo =
        inr (noted_first ((language p).named entry.proc) [] _ c.openings
        (main_named first.call first.callee entry.proc (entered p first.call c.state entry eo).aim)
        (ap (λ z. with_named ((language p).named z) (open_below (language p) c.frames)) at.proc
        ∙ ap (λ z. with_named ((language p).named p.start) (open_below (language p) z)) at.frames ∙ ap (λ z. with_named z []) first.unnamed))

    begun_at : (c : Config State) → IsAtFirst p c → (o : Option Instr) → fetch (codes_in p.procedures) c.proc c.pc ≡ o → o ≡ Some (Call first.call)
        → Begun (performed (language p) c o)
    begun_at c at o e is = subst (λ z. Begun (performed (language p) c z)) (sym is) (begun_calls c at (enter p first.call c.state) refl)

    begun_stepped : (c : Config State) → IsAtFirst p c → (o : Option End) (w : Option ℕ) → c.woken ≡ w
        → Begun (stepped (language p) (codes_in p.procedures) c o w)
    begun_stepped c at (Some why) w e = inl at
    begun_stepped c at None (Some v) e = absurd (none-some v (sym at.woken ∙ e))
    begun_stepped c at None None e =
        begun_at c at (fetch (codes_in p.procedures) c.proc c.pc) refl
        (ap (λ z. fetch (codes_in p.procedures) z c.pc) at.proc ∙ ap (fetch (codes_in p.procedures) p.start) at.pc ∙ first.first)

    begun_next : (c : Config State) → IsOpen p c → Begun c → Begun (next c)
    begun_next c h (inl at) = begun_stepped c at c.ending c.woken refl
    begun_next c h (inr k) = inr (among_moved p (a ∷ []) c (next c) (moves p ready c h) k)

    begun_after : (n : ℕ) (c : Config State) → IsOpen p c → Begun c → Begun (after p n c)
    begun_after zero c h k = k
    begun_after (suc n) c h k = begun_after n (next c) (open_moved p c (next c) h (moves p ready c h)) (begun_next c h k)

    pub runs_begun : (j n : ℕ) (reads interrupts : List ℕ) → j ≤ n → IsAtFirst p (run p j reads interrupts) ⊎ IsAmong (a ∷ []) (run p n reads interrupts).openings
    runs_begun j n reads interrupts le =
        by (begun_after j (at_start p (before reads interrupts)) (first_open reads interrupts)
        (inl (record { proc = refl; pc = refl; frames = refl; woken = refl })))
      where
        by : Begun (run p j reads interrupts) → IsAtFirst p (run p j reads interrupts) ⊎ IsAmong (a ∷ []) (run p n reads interrupts).openings
        by (inl at) = inl at
        by (inr h) = inr (stays_among (a ∷ []) j n reads interrupts le h)
