-- The pass from calls by name to calls by place keeps what a program does.
use Rattle.std.specs.Prelude.{ℕ, zero, suc, ◌==◌, Bool, true, false, not, List, [], ◌∷◌, length, map, Option, Some, None, option_map, slice_get, Result, Ok}
use Rattle.std.specs.Prelude.{Err, IfOk}
use Rattle.std.proofs.Common.{◌≡◌, refl, sym, subst}
use Rattle.vg_toy.specs.declared.program.Step.{Step}
use Rattle.vg_toy.specs.declared.program.Step.TheVariants.{Number, Read, Write, Call}
use Rattle.vg_meaning.specs.History.{Calling, History, no_history, full}
use Rattle.vg_meaning.specs.World.{World}
use Rattle.vg_meaning.specs.Answer.{Piece, go_on}
use Rattle.vg_meaning.specs.Loops.{Tested}
use Rattle.vg_meaning.specs.Code.{performed}
use Rattle.vg_meaning.specs.Same.{Same, gives, overs, SamePiece, Always, SameTest}
use Rattle.vg_meaning_laws.proofs.Same.{same_then, same_read, same_write, same_opened, same_returned, same_idles, same_replaced}
use Rattle.vg_toy.specs.Language.{Method, put, truth, step, with_method, called, place_of, itself}
use Rattle.vg_toy.specs.Session.{handle, world}
use Rattle.vg_toy.specs.declared.program.Program.{Program}
use Rattle.vg_toy.specs.Plain.{methods_of}
use Rattle.vg_toy.specs.Renaming.{placed, placed_method, DoesTheSame}

abbrev Equal : List ℕ → List ℕ → Type 0
Equal s t = s ≡ t

abbrev SameFrom : Piece (List ℕ) History → Piece (List ℕ) History → Type 0
SameFrom = SamePiece Equal Equal (Always Equal)

along : (f g : Piece (List ℕ) History) → ((s : List ℕ) (w : World History) → Same Equal (Always Equal) (f s w) (g s w)) → SameFrom f g
along f g k s t w e = subst (λ z. Same Equal (Always Equal) (f s w) (g z w)) e (k s w)

same_truth : (s t : List ℕ) → s ≡ t → SameTest Equal (truth s) (truth t)
same_truth s t e = subst (λ z. SameTest Equal (truth s) (truth z)) e (alike s)
  where
    by : (b : Bool) (z : List ℕ) → SameTest Equal (Tested b z) (Tested b z)
    by true z = refl
    by false z = refl

    alike : (z : List ℕ) → SameTest Equal (truth z) (truth z)
    alike [] = tt
    alike (v ∷ z) = by (not (v == 0)) z

module _ (find : ℕ → ℕ) where
  same_step : (call call' : ℕ → Piece (List ℕ) History) → ((k : ℕ) → SameFrom (call k) (call' k))
      → (p : Step) → SameFrom (step find call p) (performed full (step itself call') truth (placed find p))
  same_step call call' calls (Number v) = along _ _ (λ s w. gives refl)
  same_step call call' calls (Read a) = same_read a put put (λ v. along _ _ (λ s w. gives refl))
  same_step call call' calls (Write a) = along _ _ by
    where
      by : (s : List ℕ) (w : World History) → Same Equal (Always Equal) (step find call (Write a) s w) (step itself call' (Write a) s w)
      by [] w = overs
      by (v ∷ s) w = same_write a v s s w refl
  same_step call call' calls (Call x) = calls (find x)

  at_map : (ms : List Method) (k : ℕ) → option_map (placed_method find) (slice_get ms k) ≡ slice_get (map (placed_method find) ms) k
  at_map [] k = refl
  at_map (m ∷ ms) zero = refl
  at_map (m ∷ ms) (suc k) = at_map ms k

  -- what is done with a method of the first program and with what became of it
  same_method : (f g : Method → Piece (List ℕ) History) (h : Piece (List ℕ) History) → ((m : Method) → SameFrom (f m) (g (placed_method find m))) → SameFrom h h
      → (ms : List Method) (k : ℕ) → SameFrom (with_method f h (slice_get ms k)) (with_method g h (slice_get (map (placed_method find) ms) k))
  same_method f g h k e ms place = subst (λ o. SameFrom (with_method f h (slice_get ms place)) (with_method g h o)) (at_map ms place) (by (slice_get ms place))
    where
      by : (o : Option Method) → SameFrom (with_method f h o) (with_method g h (option_map (placed_method find) o))
      by (Some m) = k m
      by None = e

  same_called : (ms : List Method) (n k : ℕ) → SameFrom (called full find ms n k) (called full itself (map (placed_method find) ms) n k)
  same_called ms zero k = λ s t w e. overs
  same_called ms (suc n) k =
      same_method _ _ _ (λ m. same_opened full (Calling k) _ _ (λ s t w e.
      same_returned go_on go_on
      (same_replaced full _ truth _ truth (placed find) Equal (same_step _ _ (same_called ms n)) same_truth m.body s t w e)
      (λ s1 t1 w1 q. gives q) (λ s1 t1 q. q))) (λ s t w e. overs) ms k

-- the program with its calls by place does what it does with its calls by name
pub same_session : (ms : List Method) → DoesTheSame ms (map (placed_method (place_of ms)) ms)
same_session ms reads interrupts clock =
    same_then _ _ (same_called find ms clock 0 [] [] (world no_history reads interrupts clock) refl)
    (same_idles (length interrupts) (handle full find ms) (handle full itself (map (placed_method find) ms))
    (λ k s t w e. same_method find (λ m. called full find ms w.clock k) (λ m. called full itself (map (placed_method find) ms) w.clock k) go_on
    (λ m. same_called find ms w.clock k) (λ s1 t1 w1 q. gives q) ms k s t w e))
  where
    find : ℕ → ℕ
    find = place_of ms

-- so it is with every program that is the renamed one
pub same_renamed : {E : Type 0} (ms : List Method) (result : Result Program E) → IfOk result (λ p. methods_of p ≡ map (placed_method (place_of ms)) ms)
    → IfOk result (λ p. DoesTheSame ms (methods_of p))
same_renamed ms (Ok p) e = subst (DoesTheSame ms) (sym e) (same_session ms)
same_renamed ms (Err x) e = tt
