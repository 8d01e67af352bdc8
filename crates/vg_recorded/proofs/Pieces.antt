-- What is built of pieces that follow follows. Each law is by cases on how the first part is followed; loops go by induction on their turns,
-- whole code by that on the code.
use Rattle.std.specs.Prelude.{ℕ, zero, suc, Bool, true, false, List, [], ◌∷◌, Option, Some, None, nat_lt}
use Rattle.std.proofs.Common.{◌≡◌, refl, sym, ap, ◌∙◌, subst}
use Rattle.vg_meaning.specs.History.{Active, Recorder}
use Rattle.vg_meaning.specs.World.{World, Phase, Starting, Running}
use Rattle.vg_meaning.specs.Answer.{End, OutOfClock, OutOfDepth, OutOfRoom, Breaks, Continues, Returns, Over, Answer, Gives, Piece, go_on, over, and_then}
use Rattle.vg_meaning.specs.Answer.{unless, passes}
use Rattle.vg_meaning.specs.Clock.{tick_at, ticked}
use Rattle.vg_meaning.specs.Calls.{closed, closing, unless_deep, note_call, opened, returned}
use Rattle.vg_meaning.specs.Loops.{Test, Tested, Untested, choose, where_holds, turned, turns}
use Rattle.vg_meaning.specs.Devices.{read_from, read_device, write_in, write_device}
use Rattle.vg_meaning.specs.Code.{Code, Nothing, Then, Do, If, Loop, Break, Continue, Return, performed}
use Rattle.vg_meaning_laws.specs.Told.{told, Tells}
use Rattle.vg_meaning_laws.specs.Grows.{Extends}
use Rattle.vg_meaning_laws.proofs.Grows.{extends_by, extends_itself, extends_trans}
use Rattle.vg_recorded.specs.Setting.{Setting, IsIn, IsLimited, IsEnd}
use Rattle.vg_recorded.specs.Follows.{Follows, gives, ends, FollowsPiece}

-- a world with another clock, other reads, another trace and another history is in the same setting
pub still_in : {H : Type 0} (x : Setting) (w v : World H) → v.phase ≡ w.phase → v.deepest ≡ w.deepest → v.largest ≡ w.largest
    → v.outside.interrupts ≡ w.outside.interrupts → Extends w.outside.trace v.outside.trace → IsIn x w → IsIn x v
still_in x w v p d l i g h = record {
  phase_is = p ∙ h.phase_is;
  deepest_is = d ∙ h.deepest_is;
  largest_is = l ∙ h.largest_is;
  interrupts_are = i ∙ h.interrupts_are;
  seen_stays = extends_trans x.seen w.outside.trace v.outside.trace h.seen_stays g;
}

-- what a call notes is told
note_told : {H K : Type 0} (f : H → K) (r : Recorder H) (q : Recorder K) → Tells f r q → (call : Active) (h : H)
    → note_call q call (f h) ≡ f (note_call r call h)
note_told f r q tells call h = ap q.tick (tells.open_call call h) ∙ tells.tick (r.open_call call h)

module _ {S H K : Type 0} (x : Setting) (f : H → K) where
  abbrev F : Answer S H → Answer S K → Type 0
  F a b = Follows x f a b

  abbrev FP : Piece S H → Piece S K → Type 0
  FP p q = FollowsPiece x f p q

  pub follows_then : (a : Answer S H) (b : Answer S K) (p : Piece S H) (q : Piece S K) → F a b → FP p q → F (and_then a p) (and_then b q)
  follows_then _ _ p q (gives h) k = k _ _ h
  follows_then _ _ p q (ends h e) k = ends h e

  pub follows_on : FP go_on go_on
  follows_on s w h = gives h

  pub follows_over : (why : End) → IsEnd x why → FP (over why) (over why)
  follows_over why e s w h = ends h e

  -- a limit that is looked at in the same way
  follows_unless : (limit : Option ℕ) (m n : ℕ) (why : End) (p : Piece S H) (q : Piece S K) → m ≡ n → (IsLimited limit → IsEnd x why) → FP p q
      → FP (unless (passes limit m) why p) (unless (passes limit n) why q)
  follows_unless None m n why p q e i k s w h = k s w h
  follows_unless (Some most) m n why p q e i k s w h =
      subst (λ j. F (unless (nat_lt most m) why p s w) (unless (nat_lt most j) why q s (told f w))) e (by_test (nat_lt most m))
    where
      by_test : (b : Bool) → F (unless b why p s w) (unless b why q s (told f w))
      by_test true = ends h (i tt)
      by_test false = k s w h

  pub follows_room : (n : ℕ) (p : Piece S H) (q : Piece S K) → FP p q
      → FP (λ s w. unless (passes w.largest n) OutOfRoom p s w) (λ s w. unless (passes w.largest n) OutOfRoom q s w)
  follows_room n p q k s w h = follows_unless w.largest n n OutOfRoom p q refl (λ i. subst IsLimited h.largest_is i) k s w h

  follows_tick_at : (note : H → H) (note' : K → K) → ((h : H) → note' (f h) ≡ f (note h)) → (n : ℕ) (p : Piece S H) (q : Piece S K) → FP p q
      → FP (tick_at note n p) (tick_at note' n q)
  follows_tick_at note note' e zero p q k s w h = ends h tt
  follows_tick_at note note' e (suc n) p q k s w h =
      let w1 : World H = record w { clock = n; history = note w.history } in
      subst (λ y. F (p s w1) (q s (record (told f w) { clock = n; history = y }))) (sym (e w.history))
      (k s w1 (still_in x w w1 refl refl refl refl (extends_itself w.outside.trace) h))

  follows_turned : (a : Answer S H) (b : Answer S K) (p : Piece S H) (q : Piece S K) → F a b → FP p q → F (turned a p) (turned b q)
  follows_turned _ _ p q (gives h) k = k _ _ h
  follows_turned _ _ p q (ends {why = Breaks} h e) k = gives h
  follows_turned _ _ p q (ends {why = Continues} h e) k = k _ _ h
  follows_turned _ _ p q (ends {why = Returns} h e) k = ends h e
  follows_turned _ _ p q (ends {why = Over why} h e) k = ends h e

  pub follows_returned : (a : Answer S H) (b : Answer S K) (p : Piece S H) (q : Piece S K) → F a b → FP p q → F (returned a p) (returned b q)
  follows_returned _ _ p q (gives h) k = k _ _ h
  follows_returned _ _ p q (ends {why = Breaks} h e) k = ends h tt
  follows_returned _ _ p q (ends {why = Continues} h e) k = ends h tt
  follows_returned _ _ p q (ends {why = Returns} h e) k = gives h
  follows_returned _ _ p q (ends {why = Over why} h e) k = ends h e

  follows_choose : (t : Test S) (p p1 : Piece S H) (q q1 : Piece S K) → FP p q → FP p1 q1 → FP (choose t p p1) (choose t q q1)
  follows_choose (Tested true s1) p p1 q q1 h k s w i = h s1 w i
  follows_choose (Tested false s1) p p1 q q1 h k s w i = k s1 w i
  follows_choose Untested p p1 q q1 h k s w i = ends i tt

  follows_read_from : (phase : Phase) (values : List ℕ) (address : ℕ) (p : ℕ → Piece S H) (q : ℕ → Piece S K)
      → ((v : ℕ) → FP (p v) (q v)) → phase ≡ x.phase → FP (read_from phase values address p) (read_from phase values address q)
  follows_read_from Starting values address p q k e s w h = ends h (sym e)
  follows_read_from Running [] address p q k e s w h = ends h (sym e)
  follows_read_from Running (v ∷ vs) address p q k e s w h =
      k v s _ (still_in x w (record w { outside = _ }) refl refl refl refl (extends_by w.outside.trace _) h)

  pub follows_read : (address : ℕ) (p : ℕ → Piece S H) (q : ℕ → Piece S K) → ((v : ℕ) → FP (p v) (q v))
      → FP (read_device address p) (read_device address q)
  follows_read address p q k s w h = follows_read_from w.phase w.outside.reads address p q k h.phase_is s w h

  follows_write_in : (phase : Phase) (address value : ℕ) → phase ≡ x.phase → FP (write_in phase address value) (write_in phase address value)
  follows_write_in Starting address value e s w h = ends h (sym e)
  follows_write_in Running address value e s w h = gives (still_in x w (record w { outside = _ }) refl refl refl refl (extends_by w.outside.trace _) h)

  pub follows_write : (address value : ℕ) → FP (write_device address value) (write_device address value)
  follows_write address value s w h = follows_write_in w.phase address value h.phase_is s w h

  module _ (r : Recorder H) (q : Recorder K) (tells : Tells f r q) where
    follows_ticked : (p : Piece S H) (p' : Piece S K) → FP p p' → FP (ticked r p) (ticked q p')
    follows_ticked p p' k s w h = follows_tick_at r.tick q.tick tells.tick w.clock p p' k s w h

    follows_closed : FP (closed r) (closed q)
    follows_closed s w h =
        let w1 : World H = record w { history = r.close_call w.history } in
        subst (λ y. F (closed r s w) (Gives s (record (told f w) { history = y }))) (sym (tells.close_call w.history))
        (gives (still_in x w w1 refl refl refl refl (extends_itself w.outside.trace) h))

    follows_deep : (p : Piece S H) (p' : Piece S K) → FP p p' → FP (unless_deep r p) (unless_deep q p')
    follows_deep p p' k s w h =
        follows_unless w.deepest (r.depth w.history) (q.depth (f w.history)) OutOfDepth p p' (sym (tells.depth w.history))
        (λ i. subst IsLimited h.deepest_is i) k s w h

    pub follows_opened : (call : Active) (p : Piece S H) (p' : Piece S K) → FP p p' → FP (opened r call p) (opened q call p')
    follows_opened call p p' k s w h =
        follows_tick_at (note_call r call) (note_call q call) (note_told f r q tells call) w.clock _ _
        (follows_deep (closing r p) (closing q p') (λ s1 w1 h1. follows_then _ _ _ _ (k s1 w1 h1) follows_closed)) s w h

    follows_holds : (test : S → Test S) (c p : Piece S H) (c' p' : Piece S K) → FP c c' → FP p p' → FP (where_holds c test p) (where_holds c' test p')
    follows_holds test c p c' p' hc hp s w h =
        follows_then _ _ _ _ (hc s w h) (λ s1 w1. follows_choose (test s1) p go_on p' go_on hp follows_on s1 w1)

    follows_turns : (test : S → Test S) (c body next : Piece S H) (c' body' next' : Piece S K) → FP c c' → FP body body' → FP next next' → (n : ℕ)
        → FP (turns r n (where_holds c test) body next) (turns q n (where_holds c' test) body' next')
    follows_turns test c body next c' body' next' hc hb hn zero s w h =
        follows_holds test c (over OutOfClock) c' (over OutOfClock) hc (follows_over OutOfClock tt) s w h
    follows_turns test c body next c' body' next' hc hb hn (suc n) s w h =
        follows_holds test c _ c' _ hc
        (follows_ticked _ _ (λ s1 w1 h1. follows_turned _ _ _ _ (hb s1 w1 h1)
        (λ s2 w2 h2. follows_then _ _ _ _ (hn s2 w2 h2) (follows_turns test c body next c' body' next' hc hb hn n)))) s w h

    -- code follows where its steps do
    pub follows_performed : {P : Type 0} (test : S → Test S) (step : P → Piece S H) (step' : P → Piece S K) → ((p : P) → FP (step p) (step' p))
        → (c : Code P) → FP (performed r step test c) (performed q step' test c)
    follows_performed test step step' k Nothing s w h = gives h
    follows_performed test step step' k (Then a b) s w h =
        follows_then _ _ _ _ (follows_performed test step step' k a s w h) (follows_performed test step step' k b)
    follows_performed test step step' k (Do p) s w h = k p s w h
    follows_performed test step step' k (If a b) s w h =
        follows_choose (test s) _ _ _ _ (follows_performed test step step' k a) (follows_performed test step step' k b) s w h
    follows_performed test step step' k (Loop c body next) s w h =
        follows_turns test _ _ _ _ _ _ (follows_performed test step step' k c) (follows_performed test step step' k body)
        (follows_performed test step step' k next) w.clock s w h
    follows_performed test step step' k Break s w h = ends h tt
    follows_performed test step step' k Continue s w h = ends h tt
    follows_performed test step step' k Return s w h = ends h tt
