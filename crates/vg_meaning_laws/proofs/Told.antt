-- The laws of histories: a run that keeps less follows one that keeps more. Each law is by cases on how the first part is followed,
-- and what a recorder notes is rewritten by what takes one to the other; a loop goes by induction on its turns, whole code by that on the code.
use Rattle.std.specs.Prelude.{ℕ, zero, suc, Bool, true, false, List, [], ◌∷◌, length, drop}
use Rattle.std.proofs.Common.{◌≡◌, refl, sym, ap, ◌∙◌, subst}
use Rattle.vg_meaning.specs.History.{Active, Recorder, full, depth_alone, depth_of, one_less}
use Rattle.vg_meaning.specs.World.{World, Phase, Starting, Running}
use Rattle.vg_meaning.specs.Answer.{End, OutOfDepth, Breaks, Continues, Returns, Over, Answer, Gives, Piece, go_on, over, and_then, unless, passes, stops}
use Rattle.vg_meaning.specs.Clock.{tick_at, ticked}
use Rattle.vg_meaning.specs.Calls.{closed, closing, unless_deep, note_call, opened, returned}
use Rattle.vg_meaning.specs.Loops.{Test, Tested, Untested, choose, where_holds, turned, turns, loop}
use Rattle.vg_meaning.specs.Devices.{read_from, read_device, write_in, write_device}
use Rattle.vg_meaning.specs.Interrupts.{interrupt_from, take_interrupt, idles}
use Rattle.vg_meaning.specs.Code.{Code, Nothing, Then, Do, If, Loop, Break, Continue, Return, performed}
use Rattle.vg_meaning_laws.specs.Told.{told, Told, gives, ends, ToldPiece, Tells}

closed_depth : (calls : List Active) → one_less (length calls) ≡ length (drop 1 calls)
closed_depth [] = refl
closed_depth (call ∷ calls) = refl

-- the number of active calls takes the full recorder to the small one
pub depth_follows : Tells depth_of full depth_alone
depth_follows = record { tick = λ h. refl; open_call = λ call h. refl; close_call = λ h. closed_depth h.active; depth = λ h. refl }

module _ {S H K : Type 0} (f : H → K) where
  pub told_then : (a : Answer S H) (b : Answer S K) (p : Piece S H) (p' : Piece S K) → Told f a b → ToldPiece f p p' → Told f (and_then a p) (and_then b p')
  told_then _ _ p p' gives k = k _ _
  told_then _ _ p p' ends k = ends

  pub told_over : (why : End) → ToldPiece {S = S} f (over why) (over why)
  told_over why s w = ends

  pub told_stops : (code at : ℕ) → ToldPiece {S = S} f (stops code at) (stops code at)
  told_stops code at s w = ends

  pub told_unless : (b c : Bool) (why : End) (p : Piece S H) (p' : Piece S K) → b ≡ c → ToldPiece f p p' → ToldPiece f (unless b why p) (unless c why p')
  told_unless true c why p p' e k s w = subst (λ x. Told f (unless true why p s w) (unless x why p' s (told f w))) e ends
  told_unless false c why p p' e k s w = subst (λ x. Told f (unless false why p s w) (unless x why p' s (told f w))) e (k s w)

  pub told_tick_at : (note : H → H) (note' : K → K) → ((h : H) → note' (f h) ≡ f (note h)) → (n : ℕ) (p : Piece S H) (p' : Piece S K) → ToldPiece f p p'
      → ToldPiece f (tick_at note n p) (tick_at note' n p')
  told_tick_at note note' e zero p p' k s w = ends
  told_tick_at note note' e (suc n) p p' k s w =
      let w1 : World H = record w { clock = n; history = note w.history } in
      subst (λ h. Told f (p s w1) (p' s (record (told f w) { clock = n; history = h }))) (sym (e w.history)) (k s w1)

  pub told_turned : (a : Answer S H) (b : Answer S K) (p : Piece S H) (p' : Piece S K) → Told f a b → ToldPiece f p p' → Told f (turned a p) (turned b p')
  told_turned _ _ p p' gives k = k _ _
  told_turned _ _ p p' (ends {why = Breaks}) k = gives
  told_turned _ _ p p' (ends {why = Continues}) k = k _ _
  told_turned _ _ p p' (ends {why = Returns}) k = ends
  told_turned _ _ p p' (ends {why = Over why}) k = ends

  pub told_returned : (a : Answer S H) (b : Answer S K) (p : Piece S H) (p' : Piece S K) → Told f a b → ToldPiece f p p' → Told f (returned a p) (returned b p')
  told_returned _ _ p p' gives k = k _ _
  told_returned _ _ p p' (ends {why = Breaks}) k = ends
  told_returned _ _ p p' (ends {why = Continues}) k = ends
  told_returned _ _ p p' (ends {why = Returns}) k = gives
  told_returned _ _ p p' (ends {why = Over why}) k = ends

  pub told_choose : (x : Test S) (p p1 : Piece S H) (p' p1' : Piece S K) → ToldPiece f p p' → ToldPiece f p1 p1' → ToldPiece f (choose x p p1) (choose x p' p1')
  told_choose (Tested true s1) p p1 p' p1' h k s w = h s1 w
  told_choose (Tested false s1) p p1 p' p1' h k s w = k s1 w
  told_choose Untested p p1 p' p1' h k s w = ends

  told_read_from : (phase : Phase) (values : List ℕ) (address : ℕ) (p : ℕ → Piece S H) (p' : ℕ → Piece S K)
      → ((v : ℕ) → ToldPiece f (p v) (p' v)) → ToldPiece f (read_from phase values address p) (read_from phase values address p')
  told_read_from Starting values address p p' k s w = ends
  told_read_from Running [] address p p' k s w = ends
  told_read_from Running (v ∷ vs) address p p' k s w = k v s _

  pub told_read : (address : ℕ) (p : ℕ → Piece S H) (p' : ℕ → Piece S K) → ((v : ℕ) → ToldPiece f (p v) (p' v))
      → ToldPiece f (read_device address p) (read_device address p')
  told_read address p p' k s w = told_read_from w.phase w.outside.reads address p p' k s w

  told_write_in : (phase : Phase) (address value : ℕ) → ToldPiece {S = S} f (write_in phase address value) (write_in phase address value)
  told_write_in Starting address value s w = ends
  told_write_in Running address value s w = gives

  pub told_write : (address value : ℕ) → ToldPiece {S = S} f (write_device address value) (write_device address value)
  told_write address value s w = told_write_in w.phase address value s w

  told_interrupt_from : (vectors : List ℕ) (p : ℕ → Piece S H) (p' : ℕ → Piece S K)
      → ((k : ℕ) → ToldPiece f (p k) (p' k)) → ToldPiece f (interrupt_from vectors p) (interrupt_from vectors p')
  told_interrupt_from [] p p' h s w = ends
  told_interrupt_from (k ∷ ks) p p' h s w = h k s _

  pub told_interrupt : (p : ℕ → Piece S H) (p' : ℕ → Piece S K) → ((k : ℕ) → ToldPiece f (p k) (p' k)) → ToldPiece f (take_interrupt p) (take_interrupt p')
  told_interrupt p p' h s w = told_interrupt_from w.outside.interrupts p p' h s w

  pub told_idles : (n : ℕ) (p : ℕ → Piece S H) (p' : ℕ → Piece S K) → ((k : ℕ) → ToldPiece f (p k) (p' k)) → ToldPiece f (idles n p) (idles n p')
  told_idles zero p p' h s w = told_interrupt p p' h s w
  told_idles (suc n) p p' h s w = told_then _ _ _ _ (told_interrupt p p' h s w) (told_idles n p p' h)

told_call : {H K : Type 0} (f : H → K) (r : Recorder H) (q : Recorder K) → Tells f r q → (call : Active) (h : H)
    → note_call q call (f h) ≡ f (note_call r call h)
told_call f r q tells call h = ap q.tick (tells.open_call call h) ∙ tells.tick (r.open_call call h)

module _ {S H K : Type 0} (f : H → K) (r : Recorder H) (q : Recorder K) (tells : Tells f r q) where
  pub told_ticked : (p : Piece S H) (p' : Piece S K) → ToldPiece f p p' → ToldPiece f (ticked r p) (ticked q p')
  told_ticked p p' k s w = told_tick_at f r.tick q.tick tells.tick w.clock p p' k s w

  pub told_closed : ToldPiece {S = S} f (closed r) (closed q)
  told_closed s w = subst (λ h. Told f (closed r s w) (Gives s (record (told f w) { history = h }))) (sym (tells.close_call w.history)) gives

  told_deep : (p : Piece S H) (p' : Piece S K) → ToldPiece f p p' → ToldPiece f (unless_deep r p) (unless_deep q p')
  told_deep p p' k s w = told_unless f _ _ OutOfDepth p p' (ap (passes w.deepest) (sym (tells.depth w.history))) k s w

  pub told_opened : (call : Active) (p : Piece S H) (p' : Piece S K) → ToldPiece f p p' → ToldPiece f (opened r call p) (opened q call p')
  told_opened call p p' k s w =
      told_tick_at f (note_call r call) (note_call q call) (told_call f r q tells call) w.clock _ _
      (told_deep (closing r p) (closing q p') (λ s1 w1. told_then f _ _ _ _ (k s1 w1) told_closed)) s w

  told_turns : (test : S → Test S) (c body next : Piece S H) (c' body' next' : Piece S K) → ToldPiece f c c' → ToldPiece f body body' → ToldPiece f next next'
      → (n : ℕ) → ToldPiece f (turns r n (where_holds c test) body next) (turns q n (where_holds c' test) body' next')
  told_turns test c body next c' body' next' hc hb hn zero s w =
      told_then f _ _ _ _ (hc s w) (λ s1 w1. told_choose f (test s1) _ go_on _ go_on (λ s2 w2. ends) (λ s2 w2. gives) s1 w1)
  told_turns test c body next c' body' next' hc hb hn (suc n) s w =
      told_then f _ _ _ _ (hc s w) (λ s1 w1. told_choose f (test s1) _ go_on _ go_on
      (told_ticked _ _ (λ s3 w3. told_turned f _ _ _ _ (hb s3 w3)
      (λ s4 w4. told_then f _ _ _ _ (hn s4 w4) (told_turns test c body next c' body' next' hc hb hn n))))
      (λ s2 w2. gives) s1 w1)

  pub told_loop : (test : S → Test S) (c body next : Piece S H) (c' body' next' : Piece S K) → ToldPiece f c c' → ToldPiece f body body'
      → ToldPiece f next next'
      → ToldPiece f (loop r (where_holds c test) body next) (loop q (where_holds c' test) body' next')
  told_loop test c body next c' body' next' hc hb hn s w = told_turns test c body next c' body' next' hc hb hn w.clock s w

  -- whole code keeps less where it is asked to
  pub told_performed : {P : Type 0} (test : S → Test S) (step : P → Piece S H) (step' : P → Piece S K) → ((p : P) → ToldPiece f (step p) (step' p))
      → (c : Code P) → ToldPiece f (performed r step test c) (performed q step' test c)
  told_performed test step step' h Nothing s w = gives
  told_performed test step step' h (Then a b) s w = told_then f _ _ _ _ (told_performed test step step' h a s w) (told_performed test step step' h b)
  told_performed test step step' h (Do p) s w = h p s w
  told_performed test step step' h (If a b) s w = told_choose f (test s) _ _ _ _ (told_performed test step step' h a) (told_performed test step step' h b) s w
  told_performed test step step' h (Loop c body next) s w =
      told_loop test _ _ _ _ _ _ (told_performed test step step' h c) (told_performed test step step' h body) (told_performed test step step' h next) s w
  told_performed test step step' h Break s w = ends
  told_performed test step step' h Continue s w = ends
  told_performed test step step' h Return s w = ends
