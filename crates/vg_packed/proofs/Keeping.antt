-- What pieces keep of the state, in one phase and with one limit of stored values.
use Rattle.std.proofs.Common.{◌≡◌, refl, ℕ, zero, suc, Bool, true, false, List, ◌∷◌, Option}
use Rattle.vg_meaning.specs.History.{Active, Recorder}
use Rattle.vg_meaning.specs.World.{World, Phase}
use Rattle.vg_meaning.specs.Answer.{End, OutOfClock, OutOfDepth, Breaks, Continues, Returns, Over, Answer, Gives, Ends, Piece, go_on, over, and_then}
use Rattle.vg_meaning.specs.Answer.{unless, passes}
use Rattle.vg_meaning.specs.Clock.{tick_at, ticked}
use Rattle.vg_meaning.specs.Calls.{closed, closing, unless_deep, note_call, opened, returned}
use Rattle.vg_meaning.specs.Loops.{Tested, choose, where_holds, turned, turns}
use Rattle.vg_meaning.specs.Code.{Code, Nothing, Then, Do, If, Loop, Break, Continue, Return, performed}
use Rattle.vg_core.specs.declared.value.CoreValue.{CoreValue}
use Rattle.vg_core.specs.declared.value.CoreValue.TheVariants.{Bool as Truth}
use Rattle.vg_core.specs.State.{State}
use Rattle.vg_core.specs.Meaning.{truth, truth_in}

abbrev pub Held : {H : Type 0} → (State → Phase → Option ℕ → Type 0) → Answer State H → Type 0
Held I (Gives s w) = I s w.phase w.largest
Held I (Ends why s w) = I s w.phase w.largest

abbrev pub Keeps : {H : Type 0} → (State → Phase → Option ℕ → Type 0) → Piece State H → Type 0
Keeps {H} I f = (s : State) (w : World H) → I s w.phase w.largest → Held I (f s w)

-- it holds of each step of code
abbrev pub Every : {P : Type 0} → (P → Type 0) → Code P → Type 0
Every T Nothing = Unit {0}
Every T (Then a b) = Every T a × Every T b
Every T (Do p) = T p
Every T (If a b) = Every T a × Every T b
Every T (Loop a b c) = Every T a × Every T b × Every T c
Every T Break = Unit {0}
Every T Continue = Unit {0}
Every T Return = Unit {0}

module _ {H : Type 0} (I : State → Phase → Option ℕ → Type 0) where
  pub keeps_then : (a : Answer State H) (f : Piece State H) → Held I a → Keeps I f → Held I (and_then a f)
  keeps_then (Gives s w) f h k = k s w h
  keeps_then (Ends why s w) f h k = h

  keeps_on : Keeps {H = H} I go_on
  keeps_on s w h = h

  keeps_over : (why : End) → Keeps {H = H} I (over why)
  keeps_over why s w h = h

  pub keeps_unless : (b : Bool) (why : End) (f : Piece State H) → Keeps I f → Keeps I (unless b why f)
  keeps_unless true why f k s w h = h
  keeps_unless false why f k s w h = k s w h

  keeps_tick : (note : H → H) (n : ℕ) (f : Piece State H) → Keeps I f → Keeps I (tick_at note n f)
  keeps_tick note zero f k s w h = h
  keeps_tick note (suc n) f k s w h = k s (record w { clock = n; history = note w.history }) h

  keeps_ticked : (r : Recorder H) (f : Piece State H) → Keeps I f → Keeps I (ticked r f)
  keeps_ticked r f k s w h = keeps_tick r.tick w.clock f k s w h

  keeps_closing : (r : Recorder H) (f : Piece State H) → Keeps I f → Keeps I (closing r f)
  keeps_closing r f k s w h = keeps_then (f s w) (closed r) (k s w h) (λ s1 w1 h1. h1)

  keeps_deep : (r : Recorder H) (f : Piece State H) → Keeps I f → Keeps I (unless_deep r f)
  keeps_deep r f k s w h = keeps_unless (passes w.deepest (r.depth w.history)) OutOfDepth f k s w h

  pub keeps_opened : (r : Recorder H) (call : Active) (f : Piece State H) → Keeps I f → Keeps I (opened r call f)
  keeps_opened r call f k s w h =
      keeps_tick (note_call r call) w.clock (unless_deep r (closing r f)) (keeps_deep r (closing r f) (keeps_closing r f k)) s w h

  pub keeps_returned : (a : Answer State H) (f : Piece State H) → Held I a → Keeps I f → Held I (returned a f)
  keeps_returned (Gives s w) f h k = k s w h
  keeps_returned (Ends Breaks s w) f h k = h
  keeps_returned (Ends Continues s w) f h k = h
  keeps_returned (Ends Returns s w) f h k = h
  keeps_returned (Ends (Over why) s w) f h k = h

  keeps_turned : (a : Answer State H) (f : Piece State H) → Held I a → Keeps I f → Held I (turned a f)
  keeps_turned (Gives s w) f h k = k s w h
  keeps_turned (Ends Breaks s w) f h k = h
  keeps_turned (Ends Continues s w) f h k = k s w h
  keeps_turned (Ends Returns s w) f h k = h
  keeps_turned (Ends (Over why) s w) f h k = h

  -- a value that waited may be taken away
  module _ (pops : (s : State) (ph : Phase) (l : Option ℕ) (v : CoreValue) (vs : List CoreValue) → s.values ≡ v ∷ vs → I s ph l
      → I (record s { values = vs }) ph l) where
    keeps_tested : (b : Bool) (s1 : State) (f g : Piece State H) → Keeps I f → Keeps I g → (s : State) (w : World H) → I s1 w.phase w.largest
        → Held I (choose (Tested b s1) f g s w)
    keeps_tested true s1 f g k m s w h = k s1 w h
    keeps_tested false s1 f g k m s w h = m s1 w h

    keeps_chosen : (vs : List CoreValue) (f g : Piece State H) → Keeps I f → Keeps I g → (s : State) (w : World H) → s.values ≡ vs
        → I s w.phase w.largest → Held I (choose (truth_in vs s) f g s w)
    keeps_chosen (Truth b ∷ vs) f g k m s w e h =
        keeps_tested b (record s { values = vs }) f g k m s w (pops s w.phase w.largest (Truth b) vs e h)
    keeps_chosen _ f g k m s w e h = h

    keeps_choose : (f g : Piece State H) → Keeps I f → Keeps I g → Keeps I (λ s w. choose (truth s) f g s w)
    keeps_choose f g k m s w h = keeps_chosen s.values f g k m s w refl h

    keeps_where : (c f : Piece State H) → Keeps I c → Keeps I f → Keeps I (where_holds c truth f)
    keeps_where c f k m s w h =
        keeps_then (c s w) (λ s1 w1. choose (truth s1) f go_on s1 w1) (k s w h) (keeps_choose f go_on m keeps_on)

    keeps_next : (next more : Piece State H) → Keeps I next → Keeps I more → Keeps I (λ s w. and_then (next s w) more)
    keeps_next next more k m s w h = keeps_then (next s w) more (k s w h) m

    keeps_body : (body next more : Piece State H) → Keeps I body → Keeps I next → Keeps I more
        → Keeps I (λ s1 w1. turned (body s1 w1) (λ s2 w2. and_then (next s2 w2) more))
    keeps_body body next more hb hn hm s w h =
        keeps_turned (body s w) (λ s2 w2. and_then (next s2 w2) more) (hb s w h) (keeps_next next more hn hm)

    keeps_turns : (r : Recorder H) (c body next : Piece State H) → Keeps I c → Keeps I body → Keeps I next → (n : ℕ)
        → Keeps I (turns r n (where_holds c truth) body next)
    keeps_turns r c body next hc hb hn zero = keeps_where c (over OutOfClock) hc (keeps_over OutOfClock)
    keeps_turns r c body next hc hb hn (suc n) =
        keeps_where c _ hc
        (keeps_ticked r _ (keeps_body body next (turns r n (where_holds c truth) body next) hb hn (keeps_turns r c body next hc hb hn n)))

    pub keeps_performed : {P : Type 0} (T : P → Type 0) (r : Recorder H) (step : P → Piece State H) → ((p : P) → T p → Keeps I (step p))
        → (c : Code P) → Every T c → Keeps I (performed r step truth c)
    keeps_performed T r step k Nothing e s w h = h
    keeps_performed T r step k (Then a b) (ea, eb) s w h =
        keeps_then (performed r step truth a s w) (performed r step truth b) (keeps_performed T r step k a ea s w h)
        (keeps_performed T r step k b eb)
    keeps_performed T r step k (Do p) e s w h = k p e s w h
    keeps_performed T r step k (If a b) (ea, eb) s w h =
        keeps_choose (performed r step truth a) (performed r step truth b) (keeps_performed T r step k a ea) (keeps_performed T r step k b eb) s w h
    keeps_performed T r step k (Loop c body next) (ec, eb, en) s w h =
        keeps_turns r _ _ _ (keeps_performed T r step k c ec) (keeps_performed T r step k body eb) (keeps_performed T r step k next en) w.clock s w h
    keeps_performed T r step k Break e s w h = h
    keeps_performed T r step k Continue e s w h = h
    keeps_performed T r step k Return e s w h = h
