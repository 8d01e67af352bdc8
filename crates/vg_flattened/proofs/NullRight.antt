-- That null checks do what they should, where the receiver of a method of a class is not checked.
use Rattle.std.specs.Prelude.{ℕ, zero, suc, ◌<◌, ◌^◌, Bool, true, false, not, ◌==◌, ◌&&◌, nat_lt, List, Option, Some, None, if◌then◌else◌}
use Rattle.std.proofs.Common.{◌≡◌, refl, sym, ap, ◌∙◌, subst, arith}
use Rattle.std.proofs.Math.Dec.{eqb-suc-zero}
use Rattle.vg_meaning.specs.History.{History}
use Rattle.vg_meaning.specs.World.{World}
use Rattle.vg_meaning.specs.Answer.{Signal, Gives, Piece, and_then, go_on, stops}
use Rattle.vg_codes.specs.Codes.{Codes}
use Rattle.vg_firm.specs.Program.{Procedure as FirmProcedure, Program as FirmProgram}
use Rattle.vg_firm.specs.Meaning.{State as Firm, Caller as FirmCaller, not_null}
use Rattle.vg_firm.specs.Session.{is_object}
use Rattle.vg_lin.specs.declared.instr.Operand.{Operand}
use Rattle.vg_lin.specs.declared.instr.Operand.TheVariants.{Local, Known}
use Rattle.vg_lin.specs.Program.{Program as LinProgram}
use Rattle.vg_lin.specs.State.{State, value}
use Rattle.vg_lin.specs.Structured.{Deciding, Caller as LinCaller}
use Rattle.vg_flatten_shapes.specs.declared.open.Truth.TheVariants.{Holds}
use Rattle.vg_flatten_shapes.specs.declared.layout.Layout.{Layout}
use Rattle.vg_flatten_shapes.specs.declared.room.Room.{Room}
use Rattle.vg_flatten_shapes.specs.Blocks.{Block, Skip, stop_where}
use Rattle.vg_flatten_shapes.specs.Made.{is_zero}
use Rattle.vg_flatten_shapes.proofs.Temps.{some_is}
use Rattle.vg_flatten_places.specs.Places.{may_be_null, null_check}
use Rattle.vg_flattened.proofs.Alike.{IsFair, Alike}
use Rattle.vg_flattened.proofs.Related.{AreWidths, IsReceiver, AreKept}
use Rattle.vg_flattened.proofs.Right.{linear, unit_behind}
use Rattle.vg_flattened.proofs.CombinedRight.{stops_both, says_zero, stopped, passed}

-- an object's number, which the first local holds
object_held : (r : Room) (self : Option ℕ) (t : State) (x : ℕ) → IsReceiver r self t.locals → is_object self ≡ true → value (Local 0) t ≡ Some x → 0 < x
object_held r (Some n) t x held object at = subst (λ z. 0 < z) (some_is n x (sym held.1 ∙ at)) (above n object)
  where
    above : (n : ℕ) → nat_lt 0 n ≡ true → 0 < n
    above n e = grind arith
object_held r None t x held object at = absurd (grind arith)

-- a number that may not be null is not
pub is_there : (r : Room) (ws : List ℕ) (self : Option ℕ) (vs : List ℕ) (h : Operand) (x : ℕ) (t : State) → AreKept r ws self vs t.locals
    → may_be_null r h ≡ false → value h t ≡ Some x → 0 < x
is_there r ws self vs (Known v) x t kept sure at = let is = some_is v x at in grind arith
is_there r ws self vs (Local i) x t kept sure at =
    object_held r self t x kept.receiver (kept.object (first r.on_objects (i == 0) sure)) (ap (λ z. value (Local z) t) (sym (is_first r.on_objects i sure)) ∙ at)
  where
    first : (a b : Bool) → not (a && b) ≡ false → a ≡ true
    first true b e = refl
    first false b e = absurd (grind arith)

    is_first : (a : Bool) (i : ℕ) → not (a && (i == 0)) ≡ false → i ≡ 0
    is_first a zero e = refl
    is_first true (suc i) e = absurd (grind arith)
    is_first false (suc i) e = absurd (grind arith)

module _ (k : Codes) (f : FirmProgram) (m : FirmProcedure) (call : FirmCaller History) (handle : ℕ → Piece Firm History)
    (p : LinProgram) (go : LinCaller State) (lay : Layout) (r : Room) (ws : List ℕ) (wide : AreWidths r m.widths ws) where
  abbrev linear' : Block → Piece (Deciding State) History
  linear' = linear k f m call handle p go lay r ws wide

  -- a null check before more
  pub stops_before : {G : Firm → Deciding State → Type 0} {L : Signal → Firm → Deciding State → Type 0} (h : Operand) (x : ℕ) (next : ℕ → Piece Firm History)
      (rest : Piece (Deciding State) History) (s : Firm) (d : Deciding State) (w : World History) → IsFair w → value h d.state ≡ Some x → x < 2 ^ 32
      → (0 < x → Alike G L (next x s w) (rest (record d { truth = None }) w))
      → Alike G L (not_null next x s w) (and_then (linear' (stop_where 1 (Holds (is_zero h))) d w) rest)
  stops_before {G} {L} h zero next rest s d w i at lt goes =
      subst (λ z. Alike G L (stops 1 0 s w) (and_then z rest))
      (sym (stopped k f m call handle p go lay r ws wide (Holds (is_zero h)) 1 d w (says_zero h 0 d.state at lt)))
      (stops_both 1 s (record d { truth = None }) w i)
  stops_before {G} {L} h (suc n) next rest s d w i at lt goes =
      subst (λ z. Alike G L (next (suc n) s w) (and_then z rest))
      (sym (passed k f m call handle p go lay r ws wide (Holds (is_zero h)) 1 d w (says_zero h (suc n) d.state at lt ∙ ap Some (eqb-suc-zero n))))
      (goes (omega arith))

  -- the same, where none is made of what is never null
  pub checks_before : {G : Firm → Deciding State → Type 0} {L : Signal → Firm → Deciding State → Type 0} {self : Option ℕ} {vs : List ℕ}
      (h : Operand) (x : ℕ) (next : ℕ → Piece Firm History) (rest : Piece (Deciding State) History) (s : Firm) (d : Deciding State) (w : World History)
      → IsFair w → value h d.state ≡ Some x → x < 2 ^ 32 → AreKept r ws self vs d.state.locals
      → ((c : Option Bool) → 0 < x → Alike G L (next x s w) (rest (record d { truth = c }) w))
      → Alike G L (not_null next x s w) (and_then (linear' (null_check r h) d w) rest)
  checks_before {G} {L} {self} {vs} h x next rest s d w i at lt kept goes = by_null (may_be_null r h) refl
    where
      by_null : (b : Bool) → may_be_null r h ≡ b
          → Alike G L (not_null next x s w) (and_then (linear' (if b then stop_where 1 (Holds (is_zero h)) else Skip) d w) rest)
      by_null true e = stops_before h x next rest s d w i at lt (goes None)
      by_null false e = behind x (is_there r ws self vs h x d.state kept e at) (goes d.truth)
        where
          behind : (n : ℕ) → 0 < n → (0 < n → Alike G L (next n s w) (rest d w)) → Alike G L (not_null next n s w) (rest d w)
          behind zero above go' = absurd (omega (arith, above))
          behind (suc n) above go' = go' above

  -- the check alone
  pub checks_alone : {G : Firm → Deciding State → Type 0} {L : Signal → Firm → Deciding State → Type 0} {self : Option ℕ} {vs : List ℕ}
      (h : Operand) (x : ℕ) (next : ℕ → Piece Firm History) (s : Firm) (d : Deciding State) (w : World History) → IsFair w
      → value h d.state ≡ Some x → x < 2 ^ 32 → AreKept r ws self vs d.state.locals
      → ((c : Option Bool) → 0 < x → Alike G L (next x s w) (Gives (record d { truth = c }) w))
      → Alike G L (not_null next x s w) (linear' (null_check r h) d w)
  checks_alone {G} {L} h x next s d w i at lt kept goes =
      subst (λ z. Alike G L (not_null next x s w) z) (unit_behind (linear' (null_check r h) d w)) (checks_before h x next go_on s d w i at lt kept goes)
