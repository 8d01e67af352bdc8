-- That code becomes a block that does the same: steps by their lemmas, choices and loops by those of what does the same.
use Rattle.std.specs.Prelude.{ℕ, Bool, true, false, ◌==◌, ◌&&◌, List, [], ◌∷◌, length, reverse, Option, Some, None, slice_get, if◌then◌else◌}
use Rattle.std.proofs.Common.{◌≡◌, refl, sym, ap, ◌∙◌, subst, arith}
use Rattle.vg_meaning.specs.History.{History, full}
use Rattle.vg_meaning.specs.World.{World}
use Rattle.vg_meaning.specs.Answer.{Breaks, Continues, Returns, Over, Answer, Gives, Ends, Piece, go_on, and_then}
use Rattle.vg_meaning.specs.Loops.{Tested as Was, choose, where_holds, turns}
use Rattle.vg_meaning.specs.Code.{Code, Nothing, Then, Do, If, Loop, Break, Continue, Return, performed}
use Rattle.vg_codes.specs.Codes.{Codes, AreCodes}
use Rattle.vg_firm.specs.declared.step.Step.{Step}
use Rattle.vg_firm.specs.declared.step.Step.TheVariants.{Number, This, Local as GetLocal, SetLocal, Forget, Operate, Apply, ReadDevice, WriteDevice, Load, Store}
use Rattle.vg_firm.specs.declared.step.Step.TheVariants.{LoadAt, StoreAt, LoadNothing, StoreNothing, LoadItem, StoreItem, Length, IsWithin}
use Rattle.vg_firm.specs.declared.step.Step.TheVariants.{StopUnlessWithin, Bind, BindFor, Call, CallFor, CallValue, Idle}
use Rattle.vg_firm.specs.Program.{Procedure as FirmProcedure, Program as FirmProgram}
use Rattle.vg_firm.specs.Meaning.{State as Firm, Caller as FirmCaller, truth as firm_truth}
use Rattle.vg_lin.specs.declared.instr.Operand.{Operand}
use Rattle.vg_lin.specs.declared.instr.Operand.TheVariants.{Local}
use Rattle.vg_lin.specs.declared.instr.Plain.TheVariants.{Copy}
use Rattle.vg_lin.specs.Program.{Program as LinProgram}
use Rattle.vg_lin.specs.Steps.{Goes}
use Rattle.vg_lin.specs.State.{State, using, sets}
use Rattle.vg_lin.specs.Meaning.{language, cut_to, result_of}
use Rattle.vg_lin.specs.Structured.{Deciding, Caller as LinCaller, with_found, handle as lin_handle, lifted, step as lin_step, truth as lin_truth}
use Rattle.vg_flatten_shapes.specs.declared.fault.Fault.TheVariants.{NotTaken}
use Rattle.vg_flatten_shapes.specs.declared.open.Truth.{Truth}
use Rattle.vg_flatten_shapes.specs.declared.layout.Layout.{Layout}
use Rattle.vg_flatten.specs.Columns.{FlashStands}
use Rattle.vg_flatten.specs.Flattened.{IsPassing}
use Rattle.vg_flatten_steps.specs.Calls.{passing_of}
use Rattle.vg_flatten_shapes.specs.declared.room.Room.{Room}
use Rattle.vg_flatten_shapes.specs.Shapes.{Shape, only, empty, is_empty, is_none, same_operand, same_homes, temp}
use Rattle.vg_flatten_shapes.specs.Blocks.{Block, Skip, One, TakeInterrupt, GiveBack, BreakOut, GoOn, Choice, Repeat, structured, picked}
use Rattle.vg_flatten_shapes.specs.Made.{Made, Gives as Makes, Refused, behind, after, by_temp, settled, Tested, tested}
use Rattle.vg_flatten_steps.specs.Steps.{stepped}
use Rattle.vg_flatten_control.specs.Flat.{landed_as, landed}
use Rattle.vg_flatten_control.specs.Flat.{joined, chosen, where_empty, repeated, repeated_test, repeated_body, repeated_next, given_back, flat}
use Rattle.vg_flattened.proofs.Alike.{IsFair, Alike, gives, leaves, overs, wrong, AlikePiece, Inside}
use Rattle.vg_flattened.proofs.AlikeLaws.{alike_then, alike_turns, alike_interrupt}
use Rattle.vg_flattened.proofs.Related.{ArePlaced, AreAt, AreWidths, AreSame, Held, Leaves}
use Rattle.vg_flatten_shapes.proofs.Temps.{some_is, none_is_not}
use Rattle.vg_flattened.proofs.Locals.{value_of_home, put_temp, placed_temp}
use Rattle.vg_flattened.proofs.Free.{homes_same}
use Rattle.vg_flattened.proofs.Right.{Right, Does, linear, packed, right_after, right_last, right_settled, IsTested, is_tested, picks, chooses, way}
use Rattle.vg_flattened.proofs.StepRight.{right_number, right_local, right_receiver, right_set, right_forget, right_applied, right_read, right_written}
use Rattle.vg_flattened.proofs.CombinedRight.{right_operated}
use Rattle.vg_flattened.proofs.ObjectRight.{right_no_field, right_no_field_store, right_one_of, right_cast}
use Rattle.vg_flattened.proofs.ElementRight.{right_item}
use Rattle.vg_flattened.proofs.LoneRight.{right_length}
use Rattle.vg_flattened.proofs.ElementStoreRight.{right_store_item}
use Rattle.vg_flattened.proofs.StoreRight.{right_store, right_store_at}
use Rattle.vg_flattened.proofs.ColumnRight.{right_load, right_load_at}
use Rattle.vg_flattened.proofs.CallRight.{AlikeCalls, AlikeHandling}
use Rattle.vg_flattened.proofs.CallSteps.{right_called, right_called_for, right_called_value, right_bound, right_bound_for}

pub and_then-and_then : {S : Type 0} (a : Answer S History) (g h : Piece S History) → and_then (and_then a g) h ≡ and_then a (λ s w. and_then (g s w) h)
and_then-and_then (Gives s w) g h = refl
and_then-and_then (Ends why s w) g h = refl

-- no test waits behind what was made
abbrev IsSettled : Made → Type 0
IsSettled (Makes b s) = s.truth ≡ None
IsSettled (Refused why) = Unit {0}

settled_behind : (a : Block) (made : Made) → IsSettled made → IsSettled (behind a made)
settled_behind a (Makes b s) h = h
settled_behind a (Refused why) h = tt

settled_after : (made : Made) (more : Shape → Made) → ((s : Shape) → IsSettled (more s)) → IsSettled (after made more)
settled_after (Makes a s) more h = settled_behind a (more s) (h s)
settled_after (Refused why) more h = tt

landing_settles : (r : Room) (hs : List Operand) → IsSettled (landed_as r hs)
landing_settles r [] = refl
landing_settles r (h ∷ hs) = by_room (temp r hs)
  where
    by_same : (to : ℕ) (b : Bool) → IsSettled (if b then Makes Skip (only (h ∷ hs)) else Makes (One (Copy to h)) (only (Local to ∷ hs)))
    by_same to true = refl
    by_same to false = refl

    by_room : (o : Option ℕ)
        → IsSettled (by_temp o (λ to. if same_operand (Local to) h then Makes Skip (only (h ∷ hs)) else Makes (One (Copy to h)) (only (Local to ∷ hs))))
    by_room (Some to) = by_same to (same_operand (Local to) h)
    by_room None = tt

landed_settles : (r : Room) (made : Made) → IsSettled (landed r made)
landed_settles r made = settled_after made _ (λ s. settled_after (settled r s) _ (λ s1. landing_settles r s1.homes))

pub empty_is : (s : Shape) → is_empty s ≡ true → s ≡ empty
empty_is s e = by_truth s.truth s.homes e
  where
    by_truth : (o : Option Truth) (hs : List Operand) → (is_none o && (length hs == 0)) ≡ true → record { truth = o; homes = hs } ≡ empty
    by_truth None [] e1 = refl
    by_truth None (h ∷ hs) e1 = absurd (grind arith)
    by_truth (Some t) hs e1 = absurd (grind arith)

module _ (k : Codes) (f : FirmProgram) (m : FirmProcedure) (call : FirmCaller History) (handle : ℕ → Piece Firm History)
    (p : LinProgram) (go : LinCaller State) (lay : Layout) (r : Room) (ws : List ℕ) (wide : AreWidths r m.widths ws)
    (calls : AlikeCalls lay f p call go)
    (receives : (q : ℕ) (mq : FirmProcedure) → slice_get f.procedures q ≡ Some mq → IsPassing mq (passing_of (slice_get lay.passing q)))
    (codes : p.codes ≡ k) (codes_are : AreCodes (length f.procedures) k) (dispatches : p.dispatches ≡ f.dispatches)
    (handling : AlikeHandling lay r ws handle (λ vector. lin_handle (language p) go ((language p).handler vector)))
    (flash : FlashStands lay f p) where
  abbrev Right' : Shape → Made → Piece Firm History → Type 0
  Right' = Right k f m call handle p go lay r ws wide

  abbrev Does' : Shape → Shape → Piece Firm History → Block → Type 0
  Does' = Does k f m call handle p go lay r ws wide

  abbrev linear' : Block → Piece (Deciding State) History
  linear' = linear k f m call handle p go lay r ws wide

  abbrev packed' : Code Step → Piece Firm History
  packed' = packed k f m call handle p go lay r ws wide

  right_idle : (hs : List Operand) → ArePlaced r.locals hs → Right' (only hs) (Makes TakeInterrupt (only hs)) (packed' (Do Idle))
  right_idle hs placed = (
    placed,
    λ s d w i q. alike_interrupt {G = Held lay r ws (only hs)} {J = Held lay r ws (only hs)} {L = Leaves lay r ws} handle
        (λ vector. lin_handle (language p) go ((language p).handler vector)) (handling hs) s d w i q,
  )

  pub right_stepped : (q : Step) (hs : List Operand) → ArePlaced r.locals hs → Right' (only hs) (stepped lay r q hs) (packed' (Do q))
  right_stepped (Number v) hs placed = right_number k f m call handle p go lay r ws wide v hs placed
  right_stepped (GetLocal i) hs placed = right_local k f m call handle p go lay r ws wide i hs placed
  right_stepped (SetLocal i) hs placed = right_set k f m call handle p go lay r ws wide i hs placed
  right_stepped Forget hs placed = right_forget k f m call handle p go lay r ws wide hs placed
  right_stepped (Operate op) hs placed = right_operated k f m call handle p go lay r ws wide op hs placed
  right_stepped (Apply op) hs placed = right_applied k f m call handle p go lay r ws wide op hs placed
  right_stepped (ReadDevice address) hs placed = right_read k f m call handle p go lay r ws wide address hs placed
  right_stepped (WriteDevice address) hs placed = right_written k f m call handle p go lay r ws wide address hs placed
  right_stepped (Call q count) hs placed = right_called k f m call handle p go lay r ws wide flash calls receives codes codes_are dispatches q count hs placed
  right_stepped Idle hs placed = right_idle hs placed
  right_stepped This hs placed = right_receiver k f m call handle p go lay r ws wide hs placed
  right_stepped (Load h c) hs placed = right_load k f m call handle p go lay r ws wide flash h c hs placed
  right_stepped (Store c w) hs placed = right_store k f m call handle p go lay r ws wide flash c w hs placed
  right_stepped (LoadAt h c o) hs placed = right_load_at k f m call handle p go lay r ws wide flash h c o hs placed
  right_stepped (StoreAt c o w) hs placed = right_store_at k f m call handle p go lay r ws wide flash c o w hs placed
  right_stepped LoadNothing hs placed = right_no_field k f m call handle p go lay r ws wide hs placed
  right_stepped StoreNothing hs placed = right_no_field_store k f m call handle p go lay r ws wide hs placed
  right_stepped (LoadItem e) hs placed = right_item k f m call handle p go lay r ws wide flash e hs placed
  right_stepped (StoreItem e) hs placed = right_store_item k f m call handle p go lay r ws wide flash e hs placed
  right_stepped (Length t) hs placed = right_length k f m call handle p go lay r ws wide flash t hs placed
  right_stepped (IsWithin a b) hs placed = right_one_of k f m call handle p go lay r ws wide a b hs placed
  right_stepped (StopUnlessWithin a b) hs placed = right_cast k f m call handle p go lay r ws wide a b hs placed
  right_stepped (Bind q) hs placed = right_bound k f m call handle p go lay r ws wide flash calls receives codes codes_are dispatches q hs placed
  right_stepped (BindFor d) hs placed = right_bound_for k f m call handle p go lay r ws wide flash calls receives codes codes_are dispatches d hs placed
  right_stepped (CallFor d c) hs placed = right_called_for k f m call handle p go lay r ws wide flash calls receives codes codes_are dispatches d c hs placed
  right_stepped (CallValue c) hs placed = right_called_value k f m call handle p go lay r ws wide flash calls receives codes codes_are dispatches c hs placed

  -- ---- choices

  right_landed_as : (hs : List Operand) → ArePlaced r.locals hs → Right' (only hs) (landed_as r hs) go_on
  right_landed_as [] placed = (tt, λ s d w i q. gives i q)
  right_landed_as (h ∷ hs) placed = by_room (temp r hs) refl
    where
      by_values : (to : ℕ) → temp r hs ≡ Some to → (s : Firm) (d : Deciding State) (w : World History) → IsFair w → AreSame lay r ws (h ∷ hs) s d.state
          → (vs : List ℕ) → s.values ≡ vs → AreAt (h ∷ hs) vs d.state.locals
          → Alike (Held lay r ws (only (Local to ∷ hs))) (Leaves lay r ws) (Gives s w) (linear' (One (Copy to h)) d w)
      by_values to has s d w i q [] e at = absurd at
      by_values to has s d w i q (v ∷ vs) e at =
          subst (λ z. Alike (Held lay r ws (only (Local to ∷ hs))) (Leaves lay r ws) (Gives s w) z)
          (sym (ap (λ z. lifted (using z (λ x. Goes (sets to x d.state) w.outside)) d w) (value_of_home h v d.state at.0.0)))
          (gives i (subst (λ z. AreSame lay r ws (Local to ∷ hs) (record s { values = z }) (sets to v d.state)) (sym e)
          (put_temp lay r m.widths ws hs (record s { values = vs }) d.state to v wide placed.1 has at.0.1
          (record { waits = at.1; kept = q.kept; none = q.none; ram = q.ram }))))

      by_same : (to : ℕ) → temp r hs ≡ Some to → (b : Bool)
          → Right' (only (h ∷ hs)) (if b then Makes Skip (only (h ∷ hs)) else Makes (One (Copy to h)) (only (Local to ∷ hs))) go_on
      by_same to has true = (placed, λ s d w i q. gives i q)
      by_same to has false = (placed_temp r hs to has placed.1, λ s d w i q. by_values to has s d w i q s.values refl q.waits)

      by_room : (o : Option ℕ) → temp r hs ≡ o
          → Right' (only (h ∷ hs))
          (by_temp o (λ to. if same_operand (Local to) h then Makes Skip (only (h ∷ hs)) else Makes (One (Copy to h)) (only (Local to ∷ hs)))) go_on
      by_room (Some to) has = by_same to has (same_operand (Local to) h)
      by_room None has = tt

  right_landed : (before : Shape) (made : Made) (g : Piece Firm History) → Right' before made g → Right' before (landed r made) g
  right_landed before (Makes a s1) g (placed, ha) =
      right_last k f m call handle p go lay r ws wide before s1 a (after (settled r s1) (λ s2. landed_as r s2.homes)) g ha
      (right_settled k f m call handle p go lay r ws wide s1 (landed_as r) go_on placed right_landed_as)
  right_landed before (Refused why) g h = tt

  -- both ways of a choice
  right_joined : (shape : Shape) (t : Tested) → tested shape ≡ Some t → (x y : Made) (g h : Piece Firm History)
      → IsSettled x → IsSettled y → Right' (only t.homes) x g → Right' (only t.homes) y h
      → Right' shape (joined t.truth x y) (λ s w. choose (firm_truth s) g h s w)
  right_joined shape t e (Refused why) y g h hx hy rx ry = tt
  right_joined shape t e (Makes a s) (Refused why) g h hx hy rx ry = tt
  right_joined shape t e (Makes a s) (Makes b s1) g h hx hy (placed, ha) (placed1, hb) = by_homes (same_homes (reverse s.homes) (reverse s1.homes)) refl
    where
      by_way : s1 ≡ s → (s2 : Firm) (d : Deciding State) (w : World History) → IsFair w → (c : Bool) (s3 : Firm)
          → AreSame lay r ws t.homes s3 d.state
          → Alike (Held lay r ws s) (Leaves lay r ws) (choose (Was c s3) g h s2 w)
          (way k f m call handle p go lay r ws wide c (linear' a) (linear' b) d w)
      by_way is s2 d w i true s3 q = ha s3 (record d { truth = None }) w i q
      by_way is s2 d w i false s3 q =
          subst (λ z. Alike (Held lay r ws z) (Leaves lay r ws) (h s3 w) (linear' b (record d {
            truth =
                None;
          }) w)) is (hb s3 (record d { truth = None }) w i q)

      does : s1 ≡ s → (s2 : Firm) (d : Deciding State) (w : World History) → IsFair w
          → IsTested k f m call handle p go lay r ws wide t s2 d
          → Alike (Held lay r ws s) (Leaves lay r ws) (choose (firm_truth s2) g h s2 w) (linear' (Choice t.truth a b) d w)
      does is s2 d w i q =
          subst (λ z. Alike (Held lay r ws s) (Leaves lay r ws) (choose z g h s2 w) (linear' (Choice t.truth a b) d w)) (sym q.takes)
          (subst (λ z. Alike (Held lay r ws s) (Leaves lay r ws) (choose (Was q.b (record s2 { values = q.vs })) g h s2 w) z)
          (sym (chooses k f m call handle p go lay r ws wide t.truth q.b a b d w q.says))
          (by_way is s2 d w i q.b (record s2 { values = q.vs }) q.rest))

      by_homes : (c : Bool) → same_homes (reverse s.homes) (reverse s1.homes) ≡ c
          → Right' shape (if c then Makes (Choice t.truth a b) s else Refused NotTaken) (λ s2 w. choose (firm_truth s2) g h s2 w)
      by_homes true es =
          let is : s1 ≡ s = ap (λ z. record { truth = z; homes = s1.homes }) (hy ∙ sym hx)
          ∙ ap (λ z. record { truth = s.truth; homes = z }) (sym (homes_same s.homes s1.homes es)) in
          (placed, λ s2 d w i q. does is s2 d w i (is_tested k f m call handle p go lay r ws wide shape t s2 d e q))
      by_homes false es = tt

  right_chosen : (shape : Shape) (x y : Shape → Made) (g h : Piece Firm History)
      → ((hs : List Operand) → ArePlaced r.locals hs → Right' (only hs) (x (only hs)) g) → ((hs : List Operand) → ArePlaced r.locals hs
      → Right' (only hs) (y (only hs)) h)
      → ArePlaced r.locals shape.homes
      → Right' shape (chosen r (tested shape) x y) (λ s w. choose (firm_truth s) g h s w)
  right_chosen shape x y g h hx hy placed = by_test (tested shape) refl
    where
      below : (t : Tested) → tested shape ≡ Some t → ArePlaced r.locals t.homes
      below t e = by_shape shape.truth shape.homes e placed
        where
          by_shape : (o : Option Truth) (hs : List Operand) → tested (record { truth = o; homes = hs }) ≡ Some t → ArePlaced r.locals hs
              → ArePlaced r.locals t.homes
          by_shape (Some u) hs e1 pl = subst (λ z. ArePlaced r.locals z.homes) (some_is _ t e1) pl
          by_shape None (a ∷ hs) e1 pl = subst (λ z. ArePlaced r.locals z.homes) (some_is _ t e1) pl.1
          by_shape None [] e1 pl = none_is_not t e1

      by_test : (o : Option Tested) → tested shape ≡ o → Right' shape (chosen r o x y) (λ s w. choose (firm_truth s) g h s w)
      by_test None e = tt
      by_test (Some t) e =
          right_joined shape t e (landed r (x (only t.homes))) (landed r (y (only t.homes))) g h (landed_settles r (x (only t.homes)))
          (landed_settles r (y (only t.homes))) (right_landed (only t.homes) (x (only t.homes)) g (hx t.homes (below t e)))
          (right_landed (only t.homes) (y (only t.homes)) h (hy t.homes (below t e)))

  -- ---- loops

  into_inside : {G : Firm → Deciding State → Type 0} {a : Answer Firm History} {b : Answer (Deciding State) History} → Alike G (Leaves lay r ws) a b
      → Alike G (Inside (Held lay r ws empty) (Leaves lay r ws)) a b
  into_inside (gives i q) = gives i q
  into_inside (leaves {why = Breaks} i q) = leaves i q
  into_inside (leaves {why = Continues} i q) = leaves i q
  into_inside (leaves {why = Returns} i q) = leaves i q
  into_inside (leaves {why = Over why} i q) = overs
  into_inside overs = overs
  into_inside wrong = wrong

  -- a loop's test, behind what is done before it
  right_condition : (before : Block) (s0 : Shape) (t : Tested) (gc : Piece Firm History) → tested s0 ≡ Some t → t.homes ≡ [] → Does' empty s0 gc before
      → (g : Piece Firm History) (h : Piece (Deciding State) History) → AlikePiece (Held lay r ws empty) (Held lay r ws empty) (Leaves lay r ws) g h
      → AlikePiece (Held lay r ws empty) (Held lay r ws empty) (Leaves lay r ws) (where_holds gc firm_truth g)
      (where_holds (performed full (lin_step (language p) go) lin_truth (Then (structured before) (picked t.truth))) lin_truth h)
  right_condition before s0 t gc e none hc g h hyp s d w i q =
      subst (λ z. Alike (Held lay r ws empty) (Leaves lay r ws) (where_holds gc firm_truth g s w) z)
      (sym (and_then-and_then (linear' before d w) (performed full (lin_step (language p) go) lin_truth (picked t.truth)) chooses'))
      (alike_then (λ s1 w1. choose (firm_truth s1) g go_on s1 w1)
      (λ d1 w1. and_then (performed full (lin_step (language p) go) lin_truth (picked t.truth) d1 w1) chooses') (hc s d w i q)
      (λ s1 d1 w1 i1 q1. by_test s1 d1 w1 i1 (is_tested k f m call handle p go lay r ws wide s0 t s1 d1 e q1)))
    where
      chooses' : Piece (Deciding State) History
      chooses' = λ d1 w1. choose (lin_truth d1) h go_on d1 w1

      by_way : (s1 : Firm) (d1 : Deciding State) (w1 : World History) → IsFair w1 → (b : Bool) (s3 : Firm) → AreSame lay r ws [] s3 d1.state
          → Alike (Held lay r ws empty) (Leaves lay r ws) (choose (Was b s3) g go_on s1 w1)
          (choose (lin_truth (record d1 { truth = Some b })) h go_on (record d1 { truth = Some b }) w1)
      by_way s1 d1 w1 i1 true s3 q1 = hyp s3 (record d1 { truth = None }) w1 i1 q1
      by_way s1 d1 w1 i1 false s3 q1 = gives i1 q1

      by_test : (s1 : Firm) (d1 : Deciding State) (w1 : World History) → IsFair w1 → IsTested k f m call handle p go lay r ws wide t s1 d1
          → Alike (Held lay r ws empty) (Leaves lay r ws) (choose (firm_truth s1) g go_on s1 w1)
          (and_then (performed full (lin_step (language p) go) lin_truth (picked t.truth) d1 w1) (λ d1 w1. choose (lin_truth d1) h go_on d1 w1))
      by_test s1 d1 w1 i1 x =
          subst (λ z. Alike (Held lay r ws empty) (Leaves lay r ws) (choose z g go_on s1 w1)
          (and_then (performed full (lin_step (language p) go) lin_truth (picked t.truth) d1 w1) (λ d1 w1. choose (lin_truth d1) h go_on d1 w1)))
          (sym x.takes)
          (subst (λ z. Alike (Held lay r ws empty) (Leaves lay r ws) (choose (Was x.b (record s1 { values = x.vs })) g go_on s1 w1)
          (and_then z (λ d1 w1. choose (lin_truth d1) h go_on d1 w1)))
          (sym (picks k f m call handle p go lay r ws wide t.truth x.b d1 w1 x.says))
          (by_way s1 d1 w1 i1 x.b (record s1 { values = x.vs }) (subst (λ z. AreSame lay r ws z (record s1 { values = x.vs }) d1.state) none x.rest)))

  pub right_loop : (before body next : Block) (s0 s1 s2 : Shape) (t : Tested) (gc gb gn : Piece Firm History) → tested s0 ≡ Some t → t.homes ≡ [] → s1 ≡ empty
      → s2 ≡ empty → Does' empty s0 gc before → Does' empty s1 gb body
      → Does' empty s2 gn next
      → Right' empty (Makes (Repeat before t.truth body next) empty) (λ s w. turns full w.clock (where_holds gc firm_truth) gb gn s w)
  right_loop before body next s0 s1 s2 t gc gb gn e none e1 e2 hc hb hn = (
    tt,
    λ s d w i q. alike_turns {I = Held lay r ws empty} {L = Leaves lay r ws} (where_holds gc firm_truth)
        (where_holds (performed full (lin_step (language p) go) lin_truth (Then (structured before) (picked t.truth))) lin_truth) gb gn (linear' body)
        (linear' next)
        (right_condition before s0 t gc e none hc)
        (λ s3 d3 w3 i3 q3. into_inside (subst (λ z. Alike (Held lay r ws z) (Leaves lay r ws) (gb s3 w3) (linear' body d3 w3)) e1 (hb s3 d3 w3 i3 q3)))
        (λ s3 d3 w3 i3 q3. subst (λ z. Alike (Held lay r ws z) (Leaves lay r ws) (gn s3 w3) (linear' next d3 w3)) e2 (hn s3 d3 w3 i3 q3))
        w.clock s d w i q,
  )

  right_repeated : (x y z : Made) (gc gb gn : Piece Firm History) → Right' empty x gc → Right' empty y gb → Right' empty z gn
      → Right' empty (repeated x y z) (λ s w. turns full w.clock (where_holds gc firm_truth) gb gn s w)
  right_repeated (Refused why) y z gc gb gn hx hy hz = tt
  right_repeated (Makes before s0) y z gc gb gn hx hy hz = by_test (tested s0) refl
    where
      turning : Piece Firm History
      turning = λ s w. turns full w.clock (where_holds gc firm_truth) gb gn s w

      by_next : (t : Tested) → tested s0 ≡ Some t → t.homes ≡ [] → (body : Block) (s1 : Shape) → s1 ≡ empty → Does' empty s1 gb body
          → (z1 : Made) → Right' empty z1 gn
          → Right' empty (repeated_next before t.truth body z1) (λ s w. turns full w.clock (where_holds gc firm_truth) gb gn s w)
      by_next t e none body s1 e1 hb (Refused why) hz1 = tt
      by_next t e none body s1 e1 hb (Makes next s2) hz1 = by_empty (is_empty s2) refl
        where
          by_empty : (b : Bool) → is_empty s2 ≡ b
              → Right' empty (if b then Makes (Repeat before t.truth body next) empty else Refused NotTaken)
              (λ s w. turns full w.clock (where_holds gc firm_truth) gb gn s w)
          by_empty true e2 = right_loop before body next s0 s1 s2 t gc gb gn e none e1 (empty_is s2 e2) hx.1 hb hz1.1
          by_empty false e2 = tt

      by_body : (t : Tested) → tested s0 ≡ Some t → t.homes ≡ [] → (y1 : Made) → Right' empty y1 gb
          → Right' empty (repeated_body before t.truth y1 z) (λ s w. turns full w.clock (where_holds gc firm_truth) gb gn s w)
      by_body t e none (Refused why) hy1 = tt
      by_body t e none (Makes body s1) hy1 = by_empty (is_empty s1) refl
        where
          by_empty : (b : Bool) → is_empty s1 ≡ b
              → Right' empty (if b then repeated_next before t.truth body z else Refused NotTaken)
              (λ s w. turns full w.clock (where_holds gc firm_truth) gb gn s w)
          by_empty true e1 = by_next t e none body s1 (empty_is s1 e1) hy1.1 z hz
          by_empty false e1 = tt

      by_test : (o : Option Tested) → tested s0 ≡ o
          → Right' empty (repeated_test before o y z) (λ s w. turns full w.clock (where_holds gc firm_truth) gb gn s w)
      by_test None e = tt
      by_test (Some t) e = by_empty (is_empty (only t.homes)) refl
        where
          by_empty : (b : Bool) → is_empty (only t.homes) ≡ b
              → Right' empty (if b then repeated_body before t.truth y z else Refused NotTaken)
              (λ s w. turns full w.clock (where_holds gc firm_truth) gb gn s w)
          by_empty true e1 = by_body t e (ap (λ z1. z1.homes) (empty_is (only t.homes) e1)) y hy
          by_empty false e1 = tt

  -- where nothing waits
  right_where_empty : (shape : Shape) (made : Made) (g : Piece Firm History) → Right' empty made g → Right' shape (where_empty shape made) g
  right_where_empty shape made g h = by_empty (is_empty shape) refl
    where
      by_empty : (b : Bool) → is_empty shape ≡ b → Right' shape (if b then made else Refused NotTaken) g
      by_empty true e = subst (λ z. Right' z made g) (sym (empty_is shape e)) h
      by_empty false e = tt

  -- the end of a body
  pub right_given_back : (hs : List Operand) → ArePlaced r.locals hs → Right' (only hs) (given_back r hs) (packed' Return)
  right_given_back [] placed = tt
  right_given_back (h ∷ a ∷ hs) placed = tt
  right_given_back (h ∷ []) placed = (tt, λ s d w i q. by_values s d w i q s.values refl q.waits)
    where
      by_values : (s : Firm) (d : Deciding State) (w : World History) → IsFair w → AreSame lay r ws (h ∷ []) s d.state → (vs : List ℕ) → s.values ≡ vs
          → AreAt (h ∷ []) vs d.state.locals → Alike (Held lay r ws empty) (Leaves lay r ws) (Ends Returns s w) (linear' (GiveBack r.result h) d w)
      by_values s d w i q [] e at = absurd at
      by_values s d w i q (v ∷ vs) e at =
          subst (λ z. Alike (Held lay r ws empty) (Leaves lay r ws) (Ends Returns s w) z)
          (sym (ap (λ z. and_then (with_found (result_of r.result h d.state z) (λ x s1 w1. Gives (record s1 { result = x }) w1) d w)
          (λ s1 w1. Ends Returns s1 w1)) q.none
          ∙ ap (λ z. and_then (with_found (cut_to r.result z) (λ x s1 w1. Gives (record s1 { result = x }) w1) d w) (λ s1 w1. Ends Returns s1 w1))
          (value_of_home h v d.state at.0.0)))
          (leaves i (v, vs, e, refl, at.0.1, q.ram))

  -- ---- all code

  pub right_code : (c : Code Step) (shape : Shape) → ArePlaced r.locals shape.homes → Right' shape (flat lay r c shape) (packed' c)
  right_code Nothing shape placed = (placed, λ s d w i q. gives i q)
  right_code (Then a b) shape placed =
      right_after k f m call handle p go lay r ws wide shape (flat lay r a shape) (flat lay r b) (packed' a) (packed' b) (right_code a shape placed)
      (λ s1 placed1. right_code b s1 placed1)
  right_code (Do q) shape placed = right_settled k f m call handle p go lay r ws wide shape (stepped lay r q) (packed' (Do q)) placed (right_stepped q)
  right_code (If a b) shape placed =
      right_chosen shape (flat lay r a) (flat lay r b) (packed' a) (packed' b) (λ hs placed1. right_code a (only hs) placed1)
      (λ hs placed1. right_code b (only hs) placed1) placed
  right_code (Loop c body next) shape placed =
      right_where_empty shape (repeated (flat lay r c empty) (flat lay r body empty) (flat lay r next empty)) (packed' (Loop c body next))
      (right_repeated (flat lay r c empty) (flat lay r body empty) (flat lay r next empty) (packed' c) (packed' body) (packed' next) (right_code c empty tt)
      (right_code body empty tt) (right_code next empty tt))
  right_code Break shape placed = right_where_empty shape (Makes BreakOut empty) (packed' Break) (tt, λ s d w i q. leaves i q)
  right_code Continue shape placed = right_where_empty shape (Makes GoOn empty) (packed' Continue) (tt, λ s d w i q. leaves i q)
  right_code Return shape placed = right_settled k f m call handle p go lay r ws wide shape (given_back r) (packed' Return) placed right_given_back
