-- That what was made does the same: the laws that put what was made together, and the truth values that wait.
use Rattle.std.specs.Prelude.{ℕ, zero, suc, ◌<◌, ◌^◌, Bool, true, false, not, ◌==◌, List, [], ◌∷◌, Option, Some, None}
use Rattle.std.specs.Option.{option_map}
use Rattle.std.proofs.Common.{◌≡◌, refl, sym, ap, ◌∙◌, subst, arith}
use Rattle.std.proofs.Math.Dec.{eqb-suc-zero}
use Rattle.vg_meaning.specs.History.{History, full}
use Rattle.vg_meaning.specs.World.{World}
use Rattle.vg_meaning.specs.Answer.{Answer, Gives, Ends, Piece, go_on, and_then}
use Rattle.vg_meaning.specs.Loops.{Tested as Was}
use Rattle.vg_meaning.specs.Code.{Code, If, performed}
use Rattle.vg_codes.specs.Codes.{Codes}
use Rattle.vg_firm.specs.declared.step.Step.{Step}
use Rattle.vg_firm.specs.Program.{Procedure as FirmProcedure, Program as FirmProgram}
use Rattle.vg_firm.specs.Meaning.{State as Firm, Caller as FirmCaller, step as firm_step, truth as firm_truth, truth_in}
use Rattle.vg_firm.specs.Operators.{as_number}
use Rattle.vg_lin.specs.declared.instr.Operand.{Operand}
use Rattle.vg_lin.specs.declared.instr.Operand.TheVariants.{Local, Known}
use Rattle.vg_lin.specs.declared.instr.Plain.TheVariants.{Copy}
use Rattle.vg_lin.specs.declared.instr.Comparison.TheVariants.{Same}
use Rattle.vg_lin.specs.Values.{compared}
use Rattle.vg_lin.specs.Program.{Program as LinProgram}
use Rattle.vg_lin.specs.State.{State, value, holds, both, sets}
use Rattle.vg_lin.specs.Meaning.{language}
use Rattle.vg_lin.specs.Structured.{Deciding, Caller as LinCaller, with_found, with_truth, step as lin_step, truth as lin_truth}
use Rattle.vg_flatten_shapes.specs.declared.open.Truth.{Truth}
use Rattle.vg_flatten_shapes.specs.declared.open.Truth.TheVariants.{Holds, Fails}
use Rattle.vg_flatten_shapes.specs.declared.layout.Layout.{Layout}
use Rattle.vg_flatten_shapes.specs.declared.room.Room.{Room}
use Rattle.vg_flatten_shapes.specs.Shapes.{Shape, only, temp}
use Rattle.vg_flatten_shapes.specs.Blocks.{Block, Skip, One, Choice, structured, picked}
use Rattle.vg_flatten_shapes.specs.Made.{Made, Gives as Makes, Refused, behind, after, by_temp, settled, settled_as, Tested, tested, tested_as, is_zero}
use Rattle.vg_flattened.proofs.Alike.{Alike, gives, AlikePiece}
use Rattle.vg_flattened.proofs.AlikeLaws.{alike_then}
use Rattle.vg_flattened.proofs.Related.{ArePlaced, AreAt, AreWidths, AreSame, said, Held, Leaves}
use Rattle.vg_flattened.proofs.Numbers.{same_same}
use Rattle.vg_flatten_shapes.proofs.Temps.{some_is, none_is_not}
use Rattle.vg_flattened.proofs.Locals.{value_of_home, put_temp, placed_temp}

pub unit_behind : {S : Type 0} (a : Answer S History) → and_then a go_on ≡ a
unit_behind (Gives s w) = refl
unit_behind (Ends why s w) = refl

module _ (k : Codes) (f : FirmProgram) (m : FirmProcedure) (call : FirmCaller History) (handle : ℕ → Piece Firm History)
    (p : LinProgram) (go : LinCaller State) (lay : Layout) (r : Room) (ws : List ℕ) (wide : AreWidths r m.widths ws) where
  -- what the packed code does, and what a block does
  abbrev pub packed : Code Step → Piece Firm History
  packed c = performed full (firm_step k f m call handle) firm_truth c

  abbrev pub linear : Block → Piece (Deciding State) History
  linear b = performed full (lin_step (language p) go) lin_truth (structured b)

  -- the block does what the piece does, from states of the one shape to states of the other
  abbrev pub Does : Shape → Shape → Piece Firm History → Block → Type 0
  Does before behind' g b = AlikePiece (Held lay r ws before) (Held lay r ws behind') (Leaves lay r ws) g (linear b)

  -- what was made does what the piece does
  abbrev pub Right : Shape → Made → Piece Firm History → Type 0
  Right before (Makes b shape) g = ArePlaced r.locals shape.homes × Does before shape g b
  Right before (Refused why) g = Unit {0}

  pub right_behind : (before s1 : Shape) (a : Block) (made : Made) (g h : Piece Firm History) → Does before s1 g a
      → Right s1 made h → Right before (behind a made) (λ s w. and_then (g s w) h)
  right_behind before s1 a (Makes b s2) g h ha (placed, hb) = (placed, λ s t w i q. alike_then h (linear b) (ha s t w i q) hb)
  right_behind before s1 a (Refused why) g h ha hb = tt

  pub right_after : (before : Shape) (made : Made) (more : Shape → Made) (g h : Piece Firm History) → Right before made g
      → ((s1 : Shape) → ArePlaced r.locals s1.homes → Right s1 (more s1) h) → Right before (after made more) (λ s w. and_then (g s w) h)
  right_after before (Makes a s1) more g h (placed, ha) hm = right_behind before s1 a (more s1) g h ha (hm s1 placed)
  right_after before (Refused why) more g h ha hm = tt

  -- what does nothing before, or behind
  pub right_first : (before s1 : Shape) (a : Block) (made : Made) (h : Piece Firm History) → Does before s1 go_on a
      → Right s1 made h → Right before (behind a made) h
  right_first before s1 a (Makes b s2) h ha (placed, hb) = (placed, λ s t w i q. alike_then h (linear b) (ha s t w i q) hb)
  right_first before s1 a (Refused why) h ha hb = tt

  pub right_last : (before s1 : Shape) (a : Block) (made : Made) (g : Piece Firm History) → Does before s1 g a
      → Right s1 made go_on → Right before (behind a made) g
  right_last before s1 a (Makes b s2) g ha (placed, hb) = (
    placed,
    λ s t w i q. subst (λ z. Alike (Held lay r ws s2) (Leaves lay r ws) z (and_then (linear a t w) (linear b))) (unit_behind (g s w))
        (alike_then go_on (linear b) (ha s t w i q) hb),
  )
  right_last before s1 a (Refused why) g ha hb = tt

  -- ---- truth values

  -- a truth value is taken
  pub picks : (x : Truth) (b : Bool) (d : Deciding State) (w : World History) → said x d.state ≡ Some b
      → performed full (lin_step (language p) go) lin_truth (picked x) d w ≡ Gives (record d { truth = Some b }) w
  picks (Holds t) b d w e = ap (λ z. with_found z with_truth d w) e
  picks (Fails t) b d w e = by_value (holds t d.state) refl
    where
      by_value : (o : Option Bool) → holds t d.state ≡ o
          → performed full (lin_step (language p) go) lin_truth (picked (Fails t)) d w ≡ Gives (record d { truth = Some b }) w
      by_value (Some c) h =
          ap (λ z. and_then (with_found z with_truth d w) (λ s1 w1. with_found s1.truth (λ b1. with_truth (not b1)) s1 w1)) h
          ∙ ap (λ z. Gives (record d { truth = Some z }) w) (some_is (not c) b (sym (ap (option_map not) h) ∙ e))
      by_value None h = none_is_not b (sym (ap (option_map not) h) ∙ e)

  -- the way of a choice that a truth value takes
  abbrev pub way : (b : Bool) → (g h : Piece (Deciding State) History) → Deciding State → World History → Answer (Deciding State) History
  way true g h d w = g (record d { truth = None }) w
  way false g h d w = h (record d { truth = None }) w

  pub chooses : (x : Truth) (b : Bool) (a c : Block) (d : Deciding State) (w : World History) → said x d.state ≡ Some b
      → linear (Choice x a c) d w ≡ way b (linear a) (linear c) d w
  chooses x true a c d w e = ap (λ z. and_then z (performed full (lin_step (language p) go) lin_truth (If (structured a) (structured c))))
      (picks x true d w e)
  chooses x false a c d w e = ap (λ z. and_then z (performed full (lin_step (language p) go) lin_truth (If (structured a) (structured c))))
      (picks x false d w e)

  -- a test becomes a number
  pub number_made : (x : Truth) (hs : List Operand) (to : ℕ) → temp r hs ≡ Some to → ArePlaced r.locals hs
      → Does (record { truth = Some x; homes = hs }) (only (Local to ∷ hs)) go_on (Choice x (One (Copy to (Known 1))) (One (Copy to (Known 0))))
  number_made x hs to e placed s d w i q = by_truth q.b q.says q.newest
    where
      by_truth : (b : Bool) → said x d.state ≡ Some b → s.values ≡ as_number b ∷ q.vs
          → Alike (Held lay r ws (only (Local to ∷ hs))) (Leaves lay r ws) (Gives s w) (linear
          (Choice x (One (Copy to (Known 1))) (One (Copy to (Known 0)))) d w)
      by_truth true says new =
          subst (λ z. Alike (Held lay r ws (only (Local to ∷ hs))) (Leaves lay r ws) (Gives s w) z)
          (sym (chooses x true (One (Copy to (Known 1))) (One (Copy to (Known 0))) d w says))
          (gives i (subst (λ z. AreSame lay r ws (Local to ∷ hs) (record s { values = z }) (sets to 1 d.state)) (sym new)
          (put_temp lay r m.widths ws hs (record s { values = q.vs }) d.state to 1 wide placed e (omega arith) q.rest)))
      by_truth false says new =
          subst (λ z. Alike (Held lay r ws (only (Local to ∷ hs))) (Leaves lay r ws) (Gives s w) z)
          (sym (chooses x false (One (Copy to (Known 1))) (One (Copy to (Known 0))) d w says))
          (gives i (subst (λ z. AreSame lay r ws (Local to ∷ hs) (record s { values = z }) (sets to 0 d.state)) (sym new)
          (put_temp lay r m.widths ws hs (record s { values = q.vs }) d.state to 0 wide placed e (omega arith) q.rest)))

  -- no test waits behind it
  pub right_settled : (s : Shape) (more : List Operand → Made) (h : Piece Firm History) → ArePlaced r.locals s.homes
      → ((hs : List Operand) → ArePlaced r.locals hs → Right (only hs) (more hs) h) → Right s (after (settled r s) (λ s1. more s1.homes)) h
  right_settled s more h placed hm = by_shape s.truth refl
    where
      by_room : (x : Truth) → s.truth ≡ Some x → (o : Option ℕ) → temp r s.homes ≡ o
          → Right s (after (by_temp o (λ to. Makes (Choice x (One (Copy to (Known 1))) (One (Copy to (Known 0)))) (only (Local to ∷ s.homes))))
          (λ s1. more s1.homes)) h
      by_room x is (Some to) e =
          right_first s (only (Local to ∷ s.homes)) (Choice x (One (Copy to (Known 1))) (One (Copy to (Known 0)))) (more (Local to ∷ s.homes)) h
          (subst (λ z. Does (record { truth = z; homes = s.homes }) (only (Local to ∷ s.homes)) go_on (Choice x (One (Copy to (Known 1))) (One
          (Copy to (Known 0)))))
          (sym is) (number_made x s.homes to e placed))
          (hm (Local to ∷ s.homes) (placed_temp r s.homes to e placed))
      by_room x is None e = tt

      by_shape : (o : Option Truth) → s.truth ≡ o → Right s (after (settled_as r o s.homes) (λ s1. more s1.homes)) h
      by_shape None is =
          right_first s (only s.homes) Skip (more s.homes) h
          (λ s1 d w i q. gives i (subst (λ z. Held lay r ws (record { truth = z; homes = s.homes }) s1 d) is q)) (hm s.homes placed)
      by_shape (Some x) is = by_room x is (temp r s.homes) refl

  -- the truth value that waits, on both sides
  pub record IsTested (t : Tested) (s : Firm) (d : Deciding State) : Type 0 where
    pub b : Bool
    pub vs : List ℕ
    pub takes : firm_truth s ≡ Was b (record s { values = vs })
    pub says : said t.truth d.state ≡ Some b
    pub rest : AreSame lay r ws t.homes (record s { values = vs }) d.state

  pub is_tested : (shape : Shape) (t : Tested) (s : Firm) (d : Deciding State) → tested shape ≡ Some t → Held lay r ws shape s d → IsTested t s d
  is_tested shape t s d e q = by_shape shape.truth shape.homes e q
    where
      number_of : (b : Bool) (vs : List ℕ) → s.values ≡ as_number b ∷ vs → firm_truth s ≡ Was b (record s { values = vs })
      number_of true vs new = ap (λ z. truth_in z s) new
      number_of false vs new = ap (λ z. truth_in z s) new

      said_zero : (h : Operand) (v : ℕ) → value h d.state ≡ Some v → v < 2 ^ 32 → said (Fails (is_zero h)) d.state ≡ Some (not (v == 0))
      said_zero h v at small = ap (λ z. option_map not (both z (Some 0) (compared Same 4))) at ∙ ap (λ z. Some (not z)) (same_same v 0 small (omega arith))

      number_tested : (h : Operand) (hs : List Operand) (vs : List ℕ) → s.values ≡ vs → AreAt (h ∷ hs) vs d.state.locals
          → AreSame lay r ws (h ∷ hs) s d.state → IsTested (record { truth = Fails (is_zero h); homes = hs }) s d
      number_tested h hs [] is at same = absurd at
      number_tested h hs (zero ∷ vs) is at same =
          record {
            b = false;
            vs = vs;
            takes = ap (λ z. truth_in z s) is;
            says = said_zero h zero (value_of_home h zero d.state at.0.0) (omega arith);
            rest = record { waits = at.1; kept = same.kept; none = same.none; ram = same.ram };
          }
      number_tested h hs (suc v ∷ vs) is at same =
          record {
            b = true;
            vs = vs;
            takes = ap (λ z. truth_in z s) is;
            says = said_zero h (suc v) (value_of_home h (suc v) d.state at.0.0) at.0.1 ∙ ap (λ z. Some (not z)) (eqb-suc-zero v);
            rest = record { waits = at.1; kept = same.kept; none = same.none; ram = same.ram };
          }

      by_shape : (o : Option Truth) (hs : List Operand) → tested_as o hs ≡ Some t → Held lay r ws (record { truth = o; homes = hs }) s d → IsTested t s d
      by_shape (Some x) hs e1 q1 =
          subst (λ z. IsTested z s d) (some_is _ t e1)
          (record { b = q1.b; vs = q1.vs; takes = number_of q1.b q1.vs q1.newest; says = q1.says; rest = q1.rest })
      by_shape None (h ∷ hs) e1 q1 =
          subst (λ z. IsTested z s d) (some_is _ t e1) (number_tested h hs s.values refl q1.waits q1)
      by_shape None [] e1 q1 = none_is_not t e1
