-- The calls that are opened are those of methods: an instance of the law of what holds of all answers, with a predicate on the history.
use Rattle.std.specs.Prelude.{ℕ, zero, suc, true, List, [], ◌∷◌, length, drop, Option, Some, None, slice_get}
use Rattle.std.proofs.Common.{◌≡◌, refl}
use Rattle.std.proofs.lemmas.Option.{slice_get_within}
use Rattle.vg_toy.specs.declared.program.Step.{Step}
use Rattle.vg_toy.specs.declared.program.Step.TheVariants.{Number, Read, Write, Call}
use Rattle.vg_meaning.specs.History.{Active, Calling, History, no_history, full}
use Rattle.vg_meaning.specs.Answer.{End, Wrong, Piece, go_on, over}
use Rattle.vg_meaning.specs.Calls.{opened, returned}
use Rattle.vg_meaning.specs.Code.{performed}
use Rattle.vg_meaning.specs.Shapes.{shapeless}
use Rattle.vg_meaning.specs.Safe.{Safe, gives, overs, SafePiece, NoWay, SafeTest, Ticks}
use Rattle.vg_meaning_laws.proofs.Same.{fits_shapeless}
use Rattle.vg_meaning_laws.proofs.Safe.{safe_then, safe_weaker, safe_read, safe_write, safe_idles, safe_opened, safe_returned, safe_performed}
use Rattle.vg_toy.specs.Language.{Method, put, truth, step, with_method, called}
use Rattle.vg_toy.specs.Session.{handle, world, session}
use Rattle.vg_toy.specs.Openings.{AreOfMethods, OpensMethods}

module _ (find : ℕ → ℕ) (ms : List Method) where
  -- what holds on the way: all active calls are of methods, and so it was at each opening
  abbrev Inside : List ℕ → History → Type 0
  Inside s h = AreOfMethods ms h.active × OpensMethods ms h

  abbrev AtEnd : End → History → Type 0
  AtEnd why h = OpensMethods ms h

  abbrev On : Piece (List ℕ) History → Type 0
  On p = SafePiece Inside Inside NoWay AtEnd p

  ends : (s : List ℕ) (h : History) → Inside s h → OpensMethods ms h
  ends s h x = x.1

  ticks : Ticks full Inside AtEnd
  ticks = record { stays = λ s h x. x; spent = ends }

  closes : (calls : List Active) → AreOfMethods ms calls → AreOfMethods ms (drop 1 calls)
  closes [] x = x
  closes (c ∷ calls) x = x.1

  on_truth : (s : List ℕ) (h : History) → Inside s h → SafeTest Inside AtEnd h (truth s)
  on_truth [] h x = x.1
  on_truth (v ∷ s) h x = x

  on_step : (call : ℕ → Piece (List ℕ) History) → ((k : ℕ) → On (call k)) → (p : Step) → On (step find call p)
  on_step call calls (Number v) = λ s w x. gives x
  on_step call calls (Read a) = safe_read Inside Inside NoWay AtEnd a put ends ends (λ v s w x. gives x)
  on_step call calls (Write a) = by
    where
      by : On (step find call (Write a))
      by [] w x = overs x.1
      by (v ∷ s) w x = safe_write Inside NoWay AtEnd a v ends s w x
  on_step call calls (Call name) = calls (find name)

  -- a call of what is found at a place, where the calls in its body are so
  on_found : (n k : ℕ) → ((j : ℕ) → On (called full find ms n j)) → (o : Option Method) → slice_get ms k ≡ o
      → On (with_method (λ m. opened full (Calling k) (λ s1 w1. returned (performed full (step find (called full find ms n)) truth m.body s1 w1) go_on))
      (over Wrong) o)
  on_found n k deeper None e = λ s w x. overs x.1
  on_found n k deeper (Some m) e =
      safe_opened Inside Inside Inside Inside NoWay AtEnd full (Calling k) _
      (λ s h x. ((slice_get_within ms k m e, x.0), ((slice_get_within ms k m e, x.0), x.1))) ends ends
      (λ s h x. (closes h.active x.0, x.1))
      (λ s w x. safe_returned Inside Inside _ NoWay AtEnd _ go_on
      (safe_performed full (step find (called full find ms n)) truth shapeless (λ z. Inside) Inside AtEnd ticks (λ p y z h. on_step _ deeper p)
      (λ y z h. on_truth) (λ y h s1 h1 q. q) true m.body tt tt (fits_shapeless m.body) s w x)
      (λ s1 w1 q. gives q) (λ s1 h1 q. q) (λ s1 h1 q. q.1.1) (λ s1 h1 q. q.1.1) (λ why s1 h1 q. absurd q))

  on_called : (n k : ℕ) → On (called full find ms n k)
  on_called zero k = λ s w x. overs x.1
  on_called (suc n) k = on_found n k (on_called n) (slice_get ms k) refl

  on_handled : (vector : ℕ) → On (handle full find ms vector)
  on_handled vector s w = by (slice_get ms vector) s w
    where
      by : (o : Option Method) → On (with_method (λ m. called full find ms w.clock vector) go_on o)
      by (Some m) = on_called w.clock vector
      by None = λ s1 w1 x. gives x

  pub opens_methods : (reads interrupts : List ℕ) (clock : ℕ)
      → Safe {S = List ℕ} (λ s h. OpensMethods ms h) (λ why s h. OpensMethods ms h) AtEnd (session full no_history find ms reads interrupts clock)
  opens_methods reads interrupts clock =
      safe_weaker
      (safe_then _ (on_called clock 0 [] (world no_history reads interrupts clock) (tt, tt))
      (safe_idles Inside NoWay AtEnd (length interrupts) (handle full find ms) ends on_handled))
      (λ s h x. x.1) (λ why s h x. absurd x) (λ why h x. x)
