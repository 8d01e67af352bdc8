-- What is built of pieces that keep within the room keeps within it.
use Rattle.std.proofs.Common.{◌≡◌, ℕ, zero, suc, ◌≤◌, Bool, true, false, List, [], ◌∷◌, Some}
use Rattle.vg_meaning.specs.History.{Active, Recorder}
use Rattle.vg_meaning.specs.World.{World, Phase, Starting, Running}
use Rattle.vg_meaning.specs.Answer.{End, OutOfClock, OutOfDepth, Breaks, Continues, Returns, Over, Answer, Gives, Ends, Piece, go_on, over, and_then}
use Rattle.vg_meaning.specs.Answer.{unless, passes}
use Rattle.vg_meaning.specs.Clock.{tick_at, ticked}
use Rattle.vg_meaning.specs.Calls.{closed, closing, unless_deep, note_call, opened, returned}
use Rattle.vg_meaning.specs.Loops.{Tested, choose, where_holds, turned, turns}
use Rattle.vg_meaning.specs.Devices.{read_from, read_device, write_in, write_device}
use Rattle.vg_meaning.specs.Code.{Code, Nothing, Then, Do, If, Loop, Break, Continue, Return, performed}
use Rattle.vg_core.specs.declared.value.CoreValue.{CoreValue}
use Rattle.vg_core.specs.declared.value.CoreValue.TheVariants.{Bool as Truth}
use Rattle.vg_core.specs.Heap.{stored_values}
use Rattle.vg_core.specs.State.{State}
use Rattle.vg_core.specs.Meaning.{truth, truth_in}

-- the limit is that of initialisation, and the heap is within it
abbrev pub Roomy : {H : Type 0} → State → World H → Type 0
Roomy s w = (w.largest ≡ Some 60000) × (stored_values s.heap ≤ 60000)

abbrev pub Roomed : {H : Type 0} → Answer State H → Type 0
Roomed (Gives s w) = Roomy s w
Roomed (Ends why s w) = Roomy s w

abbrev pub Keeps : {H : Type 0} → Piece State H → Type 0
Keeps {H} f = (s : State) (w : World H) → Roomy s w → Roomed (f s w)

module _ {H : Type 0} where
  pub keeps_then : (a : Answer State H) (f : Piece State H) → Roomed a → Keeps f → Roomed (and_then a f)
  keeps_then (Gives s w) f h k = k s w h
  keeps_then (Ends why s w) f h k = h

  keeps_on : Keeps {H = H} go_on
  keeps_on s w h = h

  keeps_over : (why : End) → Keeps {H = H} (over why)
  keeps_over why s w h = h

  pub keeps_unless : (b : Bool) (why : End) (f : Piece State H) → Keeps f → Keeps (unless b why f)
  keeps_unless true why f k s w h = h
  keeps_unless false why f k s w h = k s w h

  keeps_tick : (note : H → H) (n : ℕ) (f : Piece State H) → Keeps f → Keeps (tick_at note n f)
  keeps_tick note zero f k s w h = h
  keeps_tick note (suc n) f k s w h = k s (record w { clock = n; history = note w.history }) h

  keeps_ticked : (r : Recorder H) (f : Piece State H) → Keeps f → Keeps (ticked r f)
  keeps_ticked r f k s w h = keeps_tick r.tick w.clock f k s w h

  keeps_closing : (r : Recorder H) (f : Piece State H) → Keeps f → Keeps (closing r f)
  keeps_closing r f k s w h = keeps_then (f s w) (closed r) (k s w h) (λ s1 w1 h1. h1)

  keeps_deep : (r : Recorder H) (f : Piece State H) → Keeps f → Keeps (unless_deep r f)
  keeps_deep r f k s w h = keeps_unless (passes w.deepest (r.depth w.history)) OutOfDepth f k s w h

  pub keeps_opened : (r : Recorder H) (call : Active) (f : Piece State H) → Keeps f → Keeps (opened r call f)
  keeps_opened r call f k s w h =
      keeps_tick (note_call r call) w.clock (unless_deep r (closing r f)) (keeps_deep r (closing r f) (keeps_closing r f k)) s w h

  pub keeps_returned : (a : Answer State H) (f : Piece State H) → Roomed a → Keeps f → Roomed (returned a f)
  keeps_returned (Gives s w) f h k = k s w h
  keeps_returned (Ends Breaks s w) f h k = h
  keeps_returned (Ends Continues s w) f h k = h
  keeps_returned (Ends Returns s w) f h k = h
  keeps_returned (Ends (Over why) s w) f h k = h

  keeps_turned : (a : Answer State H) (f : Piece State H) → Roomed a → Keeps f → Roomed (turned a f)
  keeps_turned (Gives s w) f h k = k s w h
  keeps_turned (Ends Breaks s w) f h k = h
  keeps_turned (Ends Continues s w) f h k = k s w h
  keeps_turned (Ends Returns s w) f h k = h
  keeps_turned (Ends (Over why) s w) f h k = h

  keeps_tested : (b : Bool) (s1 : State) (f g : Piece State H) → Keeps f → Keeps g → (s : State) (w : World H) → Roomy s1 w
      → Roomed (choose (Tested b s1) f g s w)
  keeps_tested true s1 f g k m s w h = k s1 w h
  keeps_tested false s1 f g k m s w h = m s1 w h

  keeps_chosen : (vs : List CoreValue) (f g : Piece State H) → Keeps f → Keeps g → (s : State) (w : World H) → Roomy s w
      → Roomed (choose (truth_in vs s) f g s w)
  keeps_chosen (Truth b ∷ vs) f g k m s w h = keeps_tested b (record s { values = vs }) f g k m s w h
  keeps_chosen _ f g k m s w h = h

  keeps_choose : (f g : Piece State H) → Keeps f → Keeps g → Keeps (λ s w. choose (truth s) f g s w)
  keeps_choose f g k m s w h = keeps_chosen s.values f g k m s w h

  keeps_where : (c f : Piece State H) → Keeps c → Keeps f → Keeps (where_holds c truth f)
  keeps_where c f k m s w h =
      keeps_then (c s w) (λ s1 w1. choose (truth s1) f go_on s1 w1) (k s w h) (keeps_choose f go_on m keeps_on)

  keeps_next : (next more : Piece State H) → Keeps next → Keeps more → Keeps (λ s w. and_then (next s w) more)
  keeps_next next more k m s w h = keeps_then (next s w) more (k s w h) m

  keeps_body : (body next more : Piece State H) → Keeps body → Keeps next → Keeps more
      → Keeps (λ s1 w1. turned (body s1 w1) (λ s2 w2. and_then (next s2 w2) more))
  keeps_body body next more hb hn hm s w h = keeps_turned (body s w) (λ s2 w2. and_then (next s2 w2) more) (hb s w h) (keeps_next next more hn hm)

  keeps_turns : (r : Recorder H) (c body next : Piece State H) → Keeps c → Keeps body → Keeps next → (n : ℕ)
      → Keeps (turns r n (where_holds c truth) body next)
  keeps_turns r c body next hc hb hn zero = keeps_where c (over OutOfClock) hc (keeps_over OutOfClock)
  keeps_turns r c body next hc hb hn (suc n) =
      keeps_where c _ hc
      (keeps_ticked r _ (keeps_body body next (turns r n (where_holds c truth) body next) hb hn (keeps_turns r c body next hc hb hn n)))

  keeps_read_from : (phase : Phase) (values : List ℕ) (address : ℕ) (f : ℕ → Piece State H) → ((v : ℕ) → Keeps (f v))
      → Keeps (read_from phase values address f)
  keeps_read_from Starting values address f k s w h = h
  keeps_read_from Running [] address f k s w h = h
  keeps_read_from Running (v ∷ vs) address f k s w h = k v s _ h

  pub keeps_read : (address : ℕ) (f : ℕ → Piece State H) → ((v : ℕ) → Keeps (f v)) → Keeps (read_device address f)
  keeps_read address f k s w h = keeps_read_from w.phase w.outside.reads address f k s w h

  keeps_write_in : (phase : Phase) (address value : ℕ) → Keeps {H = H} (write_in phase address value)
  keeps_write_in Starting address value s w h = h
  keeps_write_in Running address value s w h = h

  pub keeps_write : (address value : ℕ) → Keeps {H = H} (write_device address value)
  keeps_write address value s w h = keeps_write_in w.phase address value s w h

  pub keeps_performed : {P : Type 0} (r : Recorder H) (step : P → Piece State H) → ((p : P) → Keeps (step p)) → (c : Code P)
      → Keeps (performed r step truth c)
  keeps_performed r step k Nothing s w h = h
  keeps_performed r step k (Then a b) s w h =
      keeps_then (performed r step truth a s w) (performed r step truth b) (keeps_performed r step k a s w h) (keeps_performed r step k b)
  keeps_performed r step k (Do p) s w h = k p s w h
  keeps_performed r step k (If a b) s w h =
      keeps_choose (performed r step truth a) (performed r step truth b) (keeps_performed r step k a) (keeps_performed r step k b) s w h
  keeps_performed r step k (Loop c body next) s w h =
      keeps_turns r _ _ _ (keeps_performed r step k c) (keeps_performed r step k body) (keeps_performed r step k next) w.clock s w h
  keeps_performed r step k Break s w h = h
  keeps_performed r step k Continue s w h = h
  keeps_performed r step k Return s w h = h
