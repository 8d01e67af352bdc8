-- That code whose values are above pushed ones does the same with those below, where it neither loops nor leaves.
use Rattle.std.specs.Prelude.{ℕ, zero, suc, ◌+◌, ◌≤◌, Bool, true, false, List, [], ◌∷◌, ◌++◌, length, reverse, Option, Some, None, slice_get, if◌then◌else◌}
use Rattle.std.proofs.Common.{◌≡◌, refl, sym, ap, subst, arith}
use Rattle.vg_meaning.specs.History.{History, full}
use Rattle.vg_meaning.specs.World.{World}
use Rattle.vg_meaning.specs.Answer.{Signal, Answer, Piece, go_on, and_then}
use Rattle.vg_meaning.specs.Loops.{Test, Tested as Was, Untested, choose}
use Rattle.vg_meaning.specs.Code.{Code, Nothing, Then, Do, If, Loop, Break, Continue, Return, performed}
use Rattle.vg_codes.specs.Codes.{Codes, AreCodes}
use Rattle.vg_firm.specs.declared.step.Step.{Step}
use Rattle.vg_firm.specs.Program.{Procedure as FirmProcedure, Program as FirmProgram}
use Rattle.vg_firm.specs.Meaning.{State as Firm, Caller as FirmCaller, step as firm_step, truth as firm_truth, truth_in}
use Rattle.vg_firm_typed.specs.Steps.{takes}
use Rattle.vg_firm_frames.specs.Frames.{over as over_values, Above as AboveValues, gives as gives_values, ends as ends_values}
use Rattle.vg_lin.specs.declared.instr.Operand.{Operand}
use Rattle.vg_lin.specs.Program.{Program as LinProgram}
use Rattle.vg_lin.specs.State.{State}
use Rattle.vg_lin.specs.Meaning.{language}
use Rattle.vg_lin.specs.Structured.{Deciding, Caller as LinCaller, handle as lin_handle}
use Rattle.vg_lin_frames.specs.Frames.{IsStraight}
use Rattle.vg_lin_frames.proofs.Framed.{code_above}
use Rattle.vg_flatten_shapes.specs.declared.fault.Fault.TheVariants.{NotTaken}
use Rattle.vg_flatten_shapes.specs.declared.open.Truth.{Truth}
use Rattle.vg_flatten_shapes.specs.declared.layout.Layout.{Layout}
use Rattle.vg_flatten_shapes.specs.declared.room.Room.{Room}
use Rattle.vg_flatten_shapes.specs.Shapes.{Shape, only, same_homes, temp}
use Rattle.vg_flatten_shapes.specs.Blocks.{Block, Choice, structured}
use Rattle.vg_flatten_shapes.specs.Made.{Made, Gives as Makes, Refused, behind, after, by_temp, settled, settled_as, Tested, tested, tested_as}
use Rattle.vg_flatten_steps.specs.Calls.{passing_of}
use Rattle.vg_flatten_steps.specs.Steps.{stepped}
use Rattle.vg_flatten_control.specs.Flat.{landed, joined, chosen, flat}
use Rattle.vg_flatten_pushed.specs.Pushed.{is_high, newer, older, count_of, onto}
use Rattle.vg_flatten_pushed.specs.Stacked.{is_calm}
use Rattle.vg_flatten.specs.Columns.{FlashStands}
use Rattle.vg_flatten.specs.Flattened.{IsPassing}
use Rattle.vg_flatten.proofs.Sound.{ShapeIn, MadeIn, in_flat}
use Rattle.vg_flatten_shapes.proofs.Temps.{some_is, none_is_not}
use Rattle.vg_flattened.proofs.Alike.{IsFair, Alike, gives, AlikePiece}
use Rattle.vg_flattened.proofs.AlikeLaws.{alike_then, alike_map}
use Rattle.vg_flattened.proofs.Related.{ArePlaced, AreWidths, AreSame, Held, Leaves}
use Rattle.vg_flattened.proofs.Right.{Right, IsTested, is_tested}
use Rattle.vg_flattened.proofs.CallRight.{AlikeCalls, AlikeHandling}
use Rattle.vg_flattened.proofs.CodeRight.{right_code}
use Rattle.vg_flattened.proofs.Newer.{few_pushed, above_pushed, is_above_pushed, older_long}
use Rattle.vg_flattened.proofs.Enough.{WhereMade, where_made, enough}
use Rattle.vg_flattened.proofs.Straight.{AreStraight, both_of, flat_straight}
use Rattle.vg_flattened.proofs.StackHeld.{in_four, Piled, OnStack, alike_above}
use Rattle.vg_flattened.proofs.Popping.{at_long, run}

-- ---- what holds where something was made

where_first : (P : Type 0) (made : Made) (more : Shape → Made) → WhereMade made P → WhereMade (after made more) P
where_first P (Makes a s) more h = where_made (behind a (more s)) h
where_first P (Refused why) more h = tt

where_joined : {P Q R : Type 0} (t : Truth) (x y : Made) → WhereMade x P → WhereMade y Q → (P → Q → R) → WhereMade (joined t x y) R
where_joined t (Refused why) y hx hy h = tt
where_joined t (Makes a s) (Refused why) hx hy h = tt
where_joined t (Makes a s) (Makes b s1) hx hy h =
    where_made (if same_homes (reverse s.homes) (reverse s1.homes) then Makes (Choice t a b) s else Refused NotTaken) (h hx hy)

-- ---- how many values wait

pub held_long : (lay : Layout) (r : Room) (ws : List ℕ) (shape : Shape) (s : Firm) (d : Deciding State) → Held lay r ws shape s d
    → length s.values ≡ count_of shape
held_long lay r ws shape s d q = by_truth shape.truth q
  where
    by_truth : (o : Option Truth) → Held lay r ws (record { truth = o; homes = shape.homes }) s d
        → length s.values ≡ count_of (record { truth = o; homes = shape.homes })
    by_truth None q1 = let e = at_long shape.homes s.values d.state.locals q1.waits in omega (arith, e)
    by_truth (Some t) q1 =
        let e = at_long shape.homes q1.vs d.state.locals q1.rest.waits in
        let n = ap length q1.newest in
        omega (arith, e, n)

abbrev pub CountedAs : (n : ℕ) → Made → Type 0
CountedAs n (Makes b s) = length s.homes ≡ n
CountedAs n (Refused why) = Unit {0}

pub settled_long : (r : Room) (s : Shape) → CountedAs (count_of s) (settled r s)
settled_long r s = by_truth s.truth
  where
    by_room : (x : Truth) (o : Option ℕ) (go : ℕ → Block) (homes : ℕ → List Operand) → ((to : ℕ) → length (homes to) ≡ suc (length s.homes))
        → CountedAs (count_of (record { truth = Some x; homes = s.homes })) (by_temp o (λ to. Makes (go to) (only (homes to))))
    by_room x (Some to) go homes e = let l = e to in omega (arith, l)
    by_room x None go homes e = tt

    by_truth : (o : Option Truth) → CountedAs (count_of (record { truth = o; homes = s.homes })) (settled_as r o s.homes)
    by_truth None = omega arith
    by_truth (Some x) = by_room x (temp r s.homes) _ _ (λ to. refl)

-- ---- with more values below, on the side of packed code

above_then : {G : Firm → Deciding State → Type 0} {L : Signal → Firm → Deciding State → Type 0} (under : List ℕ) {a a' : Answer Firm History}
    {b : Answer (Deciding State) History} (g : Piece Firm History) → AboveValues under a a' → Alike G L a b
    → ((s : Firm) (d : Deciding State) (w : World History) → IsFair w → G s d → AboveValues under (g s w) (g (over_values under s) w))
    → AboveValues under (and_then a g) (and_then a' g)
above_then under g gives_values (gives i q) h = h _ _ _ i q
above_then under g ends_values x h = ends_values

abbrev over_test : (under : List ℕ) → Test Firm → Test Firm
over_test under (Was b s) = Was b (over_values under s)
over_test under Untested = Untested

truth_above : (under vs : List ℕ) (b : Bool) (s s1 : Firm) → truth_in vs s ≡ Was b s1
    → truth_in (vs ++ under) (over_values under s) ≡ Was b (over_values under s1)
truth_above under [] b s s1 e = cc
truth_above under (zero ∷ vs) b s s1 e = ap (over_test under) e
truth_above under (suc n ∷ vs) b s s1 e = ap (over_test under) e

-- ---- what was made does what the piece does

module _ (lay : Layout) (r : Room) (ws : List ℕ) (p : LinProgram) (go : LinCaller State) where
  -- A piece leaves alone what waits below the values of a shape.
  abbrev pub Frames : Shape → Piece Firm History → Type 0
  Frames before g =
      (under : List ℕ) (s : Firm) (d : Deciding State) (w : World History) → IsFair w → Held lay r ws before s d
      → AboveValues under (g s w) (g (over_values under s) w)

  -- What does the same does the same with so many pushed values below.
  pub piled_above : (before s2 : Shape) (b : Block) (n : ℕ) (g : Piece Firm History) → IsStraight (structured b) → Frames before g
      → AlikePiece (Held lay r ws before) (Held lay r ws s2) (Leaves lay r ws) g (run p go b)
      → AlikePiece (Piled lay r ws n before) (Piled lay r ws n s2) (Leaves lay r ws) g (run p go b)
  piled_above before s2 b n g straight framed does s d w i q =
      subst (λ z. Alike (Piled lay r ws n s2) (Leaves lay r ws) (g z w) (run p go b d w)) (sym q.high.values)
      (subst (λ z. Alike (Piled lay r ws n s2) (Leaves lay r ws) (g (over_values q.us q.high.low) w) (run p go b z w)) (sym q.high.waits)
      (alike_map (λ s1 d1 h. record { us = q.us; many = q.many; small = q.small; high = h })
      (alike_above {G = Held lay r ws s2} {L = Leaves lay r ws} {M = Leaves lay r ws} q.us
      (does q.high.low q.high.deciding w i q.high.there) (framed q.us q.high.low q.high.deciding w i q.high.there)
      (code_above p go (in_four q.us) (structured b) straight q.high.deciding w))))

  module _ (most : ℕ) where
    -- The newer values wait in range, each at a home of its own.
    abbrev pub IsGood : Shape → Type 0
    IsGood shape = ArePlaced r.locals (newer most shape).homes × ShapeIn (r.locals + r.temps) (newer most shape)

    -- From states that F relates; behind it the oldest values are pushed.
    abbrev pub RightFrom : (Firm → Deciding State → Type 0) → Made → Piece Firm History → Type 0
    RightFrom F (Makes b shape) g = IsGood shape × AlikePiece F (OnStack lay r ws most shape) (Leaves lay r ws) g (run p go b)
    RightFrom F (Refused why) g = Unit {0}

    -- Before it they are, too.
    abbrev pub RightOn : Shape → Made → Piece Firm History → Type 0
    RightOn before made g = RightFrom (OnStack lay r ws most before) made g

    -- where no value is above the pushed ones
    pub good_few : (hs : List Operand) → length hs ≤ most → IsGood (only hs)
    good_few hs le =
        subst (λ z. ArePlaced r.locals z.homes × ShapeIn (r.locals + r.temps) z) (sym (few_pushed most hs le).newer_none) (tt, (tt, tt))

    pub first_does : (F G : Firm → Deciding State → Type 0) (a : Block) (made : Made) (h : Piece Firm History)
        → AlikePiece F G (Leaves lay r ws) go_on (run p go a) → RightFrom G made h → RightFrom F (behind a made) h
    first_does F G a (Makes b s) h ha hb = (hb.0, λ s1 d w i q. alike_then h (run p go b) (ha s1 d w i q) hb.1)
    first_does F G a (Refused why) h ha hb = tt

    -- what was made of the newer values, above the pushed ones
    pub right_onto : (s s2 : Shape) (b : Block) (g : Piece Firm History) → is_high most s ≡ true → IsStraight (structured b)
        → ShapeIn (r.locals + r.temps) s2 → ArePlaced r.locals s2.homes → Frames (newer most s) g
        → AlikePiece (Held lay r ws (newer most s)) (Held lay r ws s2) (Leaves lay r ws) g (run p go b)
        → RightOn s (Makes b (above_pushed s2 (older most s))) g
    right_onto s s2 b g high straight hi placed framed does =
        let is = is_above_pushed most s2 (older most s) (older_long most s high) in (
          subst (λ z. ArePlaced r.locals z.homes × ShapeIn (r.locals + r.temps) z) (sym is.newer_is) (placed, hi),
          subst (Leads (length (older most (above_pushed s2 (older most s))))) (sym is.newer_is)
              (subst (λ z. Leads (length z) s2) (sym is.older_is) (piled_above (newer most s) s2 b (length (older most s)) g straight framed does)),
        )
      where
        Leads : ℕ → Shape → Type 0
        Leads n shape = AlikePiece (OnStack lay r ws most s) (Piled lay r ws n shape) (Leaves lay r ws) g (run p go b)

module _ (k : Codes) (f : FirmProgram) (m : FirmProcedure) (call : FirmCaller History) (handle : ℕ → Piece Firm History)
    (p : LinProgram) (go : LinCaller State) (lay : Layout) (r : Room) (ws : List ℕ) (wide : AreWidths r m.widths ws)
    (calls : AlikeCalls lay f p call go)
    (receives : (q : ℕ) (mq : FirmProcedure) → slice_get f.procedures q ≡ Some mq → IsPassing mq (passing_of (slice_get lay.passing q)))
    (codes : p.codes ≡ k) (codes_are : AreCodes (length f.procedures) k) (dispatches : p.dispatches ≡ f.dispatches)
    (handling : AlikeHandling lay r ws handle (λ vector. lin_handle (language p) go ((language p).handler vector)))
    (flash : FlashStands lay f p)
    (frames : (under : List ℕ) (q : Step) (s : Firm) (w : World History) → takes q ≤ length s.values
    → AboveValues under (firm_step k f m call handle q s w) (firm_step k f m call handle q (over_values under s) w))
    (most : ℕ) where
  abbrev packed' : Code Step → Piece Firm History
  packed' c = performed full (firm_step k f m call handle) firm_truth c

  abbrev Right' : Shape → Made → Piece Firm History → Type 0
  Right' = Right k f m call handle p go lay r ws wide

  right' : (c : Code Step) (s : Shape) → ArePlaced r.locals s.homes → Right' s (flat lay r c s) (packed' c)
  right' = right_code k f m call handle p go lay r ws wide calls receives codes codes_are dispatches handling flash

  abbrev Frames' : Shape → Piece Firm History → Type 0
  Frames' = Frames lay r ws p go

  -- ---- code that neither loops nor leaves

  frames_after : (before : Shape) (x : Made) (more : Shape → Made) (g h : Piece Firm History) → WhereMade x (Frames' before g) → Right' before x g
      → ((s1 : Shape) → ArePlaced r.locals s1.homes → WhereMade (more s1) (Frames' s1 h))
      → WhereMade (after x more) (Frames' before (λ s w. and_then (g s w) h))
  frames_after before (Refused why) more g h hx rx hm = tt
  frames_after before (Makes a s1) more g h hx rx hm = behind_it (more s1) (hm s1 rx.0)
    where
      behind_it : (y : Made) → WhereMade y (Frames' s1 h) → WhereMade (behind a y) (Frames' before (λ s w. and_then (g s w) h))
      behind_it (Refused why) hy = tt
      behind_it (Makes b s2) hy = λ under s d w i q. above_then under h (hx under s d w i q) (rx.1 s d w i q) (λ s3 d3 w3 i3 q3. hy under s3 d3 w3 i3 q3)

  frames_step : (q : Step) (before : Shape) → WhereMade (flat lay r (Do q) before) (Frames' before (packed' (Do q)))
  frames_step q before = by_settled (settled r before) (settled_long r before)
    where
      by_step : (a : Block) (s1 : Shape) → length s1.homes ≡ count_of before → (y : Made) → WhereMade y (takes q ≤ length s1.homes)
          → WhereMade (behind a y) (Frames' before (packed' (Do q)))
      by_step a s1 e (Refused why) hy = tt
      by_step a s1 e (Makes b s2) hy =
          λ under s d w i h. let long = held_long lay r ws before s d h in frames under q s w (omega (arith, long, e, hy))

      by_settled : (x : Made) → CountedAs (count_of before) x → WhereMade (after x (λ s1. stepped lay r q s1.homes)) (Frames' before (packed' (Do q)))
      by_settled (Refused why) hx = tt
      by_settled (Makes a s1) hx = by_step a s1 hx (stepped lay r q s1.homes) (enough lay r q s1.homes)

  -- a choice, whose ways do
  frames_choice : (before : Shape) (t : Tested) (g h : Piece Firm History) → tested before ≡ Some t → Frames' (only t.homes) g → Frames' (only t.homes) h
      → Frames' before (λ s w. choose (firm_truth s) g h s w)
  frames_choice before t g h e hg hh under s d w i q = by_test (is_tested k f m call handle p go lay r ws wide before t s d e q)
    where
      by_way : (b : Bool) (s1 : Firm) → AreSame lay r ws t.homes s1 d.state
          → AboveValues under (choose (Was b s1) g h s w) (choose (Was b (over_values under s1)) g h (over_values under s) w)
      by_way true s1 q1 = hg under s1 d w i q1
      by_way false s1 q1 = hh under s1 d w i q1

      by_test : IsTested k f m call handle p go lay r ws wide t s d
          → AboveValues under (choose (firm_truth s) g h s w) (choose (firm_truth (over_values under s)) g h (over_values under s) w)
      by_test x =
          subst (λ z. AboveValues under (choose z g h s w) (choose (firm_truth (over_values under s)) g h (over_values under s) w)) (sym x.takes)
          (subst (λ z. AboveValues under (choose (Was x.b (record s { values = x.vs })) g h s w) (choose z g h (over_values under s) w))
          (sym (truth_above under s.values x.b s (record s { values = x.vs }) x.takes)) (by_way x.b (record s { values = x.vs }) x.rest))

  placed_tested : (before : Shape) (t : Tested) → tested before ≡ Some t → ArePlaced r.locals before.homes → ArePlaced r.locals t.homes
  placed_tested before t e placed = by_truth before.truth before.homes e placed
    where
      by_truth : (o : Option Truth) (hs : List Operand) → tested_as o hs ≡ Some t → ArePlaced r.locals hs → ArePlaced r.locals t.homes
      by_truth (Some x) hs e1 pl = subst (λ z. ArePlaced r.locals z.homes) (some_is _ t e1) pl
      by_truth None (a ∷ hs) e1 pl = subst (λ z. ArePlaced r.locals z.homes) (some_is _ t e1) pl.1
      by_truth None [] e1 pl = none_is_not t e1

  frames_chosen : (before : Shape) (x y : Shape → Made) (g h : Piece Firm History) → ArePlaced r.locals before.homes
      → ((hs : List Operand) → ArePlaced r.locals hs → WhereMade (x (only hs)) (Frames' (only hs) g))
      → ((hs : List Operand) → ArePlaced r.locals hs → WhereMade (y (only hs)) (Frames' (only hs) h))
      → WhereMade (chosen r (tested before) x y) (Frames' before (λ s w. choose (firm_truth s) g h s w))
  frames_chosen before x y g h placed hx hy = by_test (tested before) refl
    where
      by_test : (o : Option Tested) → tested before ≡ o → WhereMade (chosen r o x y) (Frames' before (λ s w. choose (firm_truth s) g h s w))
      by_test None et = tt
      by_test (Some t) et =
          let below = placed_tested before t et placed in
          where_joined t.truth (landed r (x (only t.homes))) (landed r (y (only t.homes)))
          (where_first (Frames' (only t.homes) g) (x (only t.homes)) _ (hx t.homes below))
          (where_first (Frames' (only t.homes) h) (y (only t.homes)) _ (hy t.homes below))
          (λ ha hb. frames_choice before t g h et ha hb)

  frames_code : (c : Code Step) (before : Shape) → is_calm c ≡ true → ArePlaced r.locals before.homes
      → WhereMade (flat lay r c before) (Frames' before (packed' c))
  frames_code Nothing before e placed = λ under s d w i q. gives_values
  frames_code (Then a b) before e placed =
      let both = both_of (is_calm a) (is_calm b) e in
      frames_after before (flat lay r a before) (flat lay r b) (packed' a) (packed' b) (frames_code a before both.0 placed) (right' a before placed)
      (λ s1 placed1. frames_code b s1 both.1 placed1)
  frames_code (Do q) before e placed = frames_step q before
  frames_code (If a b) before e placed =
      let both = both_of (is_calm a) (is_calm b) e in
      frames_chosen before (flat lay r a) (flat lay r b) (packed' a) (packed' b) placed (λ hs below. frames_code a (only hs) both.0 below)
      (λ hs below. frames_code b (only hs) both.1 below)
  frames_code (Loop c body next) before e placed = absurd (grind arith)
  frames_code Break before e placed = absurd (grind arith)
  frames_code Continue before e placed = absurd (grind arith)
  frames_code Return before e placed = absurd (grind arith)

  -- ---- above the pushed values

  pub right_calm : (c : Code Step) (s : Shape) → is_calm c ≡ true → is_high most s ≡ true → IsGood lay r ws p go most s
      → RightOn lay r ws p go most s (onto (older most s) (flat lay r c (newer most s))) (packed' c)
  right_calm c s calm high good =
      by_made (flat lay r c (newer most s)) (flat_straight lay r c (newer most s) calm good.1) (in_flat (Unit {0}) lay r c (newer most s) (λ l. tt) good.1)
      (frames_code c (newer most s) calm good.0) (right' c (newer most s) good.0)
    where
      by_made : (x : Made) → AreStraight x → MadeIn (Unit {0}) r.result (r.locals + r.temps) x → WhereMade x (Frames' (newer most s) (packed' c))
          → Right' (newer most s) x (packed' c) → RightOn lay r ws p go most s (onto (older most s) x) (packed' c)
      by_made (Refused why) straight hi hf hx = tt
      by_made (Makes b s2) straight hi hf hx = right_onto lay r ws p go most s s2 b (packed' c) high straight hi.1 hx.0 hf hx.1
