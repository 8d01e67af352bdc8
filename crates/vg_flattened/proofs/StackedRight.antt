-- That code becomes a block that does the same, where the oldest values that wait are pushed.
use Rattle.std.specs.Prelude.{ℕ, zero, suc, ◌+◌, ◌<◌, ◌≤◌, ◌^◌, Bool, true, false, not, ◌==◌, ◌&&◌, nat_lt, List, [], ◌∷◌, length, reverse, Option, Some, None}
use Rattle.std.specs.Prelude.{slice_get, if◌then◌else◌}
use Rattle.std.specs.Option.{option_map}
use Rattle.std.proofs.Common.{◌≡◌, ◌⊎◌, inl, inr, refl, sym, ap, ◌∙◌, subst, arith}
use Rattle.std.proofs.Math.Dec.{eqb-suc-zero}
use Rattle.vg_meaning.specs.History.{History, full}
use Rattle.vg_meaning.specs.World.{World}
use Rattle.vg_meaning.specs.Answer.{Answer, Gives, Piece, go_on, and_then}
use Rattle.vg_meaning.specs.Loops.{choose, where_holds, turns}
use Rattle.vg_meaning.specs.Code.{Code, Nothing, Then, Do, If, Loop, Break, Continue, Return, performed}
use Rattle.vg_codes.specs.Codes.{Codes, AreCodes}
use Rattle.vg_firm.specs.declared.step.Step.{Step}
use Rattle.vg_firm.specs.Program.{Procedure as FirmProcedure, Program as FirmProgram}
use Rattle.vg_firm.specs.Meaning.{State as Firm, Caller as FirmCaller, step as firm_step, truth as firm_truth, truth_in}
use Rattle.vg_firm_typed.specs.Steps.{takes}
use Rattle.vg_firm_frames.specs.Frames.{over as over_values, Above as AboveValues}
use Rattle.vg_lin.specs.declared.instr.Operand.{Operand}
use Rattle.vg_lin.specs.declared.instr.Operand.TheVariants.{Local, Known}
use Rattle.vg_lin.specs.declared.instr.Plain.TheVariants.{Push, Pop}
use Rattle.vg_lin.specs.declared.instr.Comparison.TheVariants.{Same}
use Rattle.vg_lin.specs.Program.{Program as LinProgram}
use Rattle.vg_lin.specs.Values.{compared}
use Rattle.vg_lin.specs.Steps.{Goes}
use Rattle.vg_lin.specs.State.{State, value_in, value, using, with_local, both, sets, pushes, pops_from}
use Rattle.vg_lin.specs.Meaning.{language}
use Rattle.vg_lin.specs.Structured.{Deciding, Caller as LinCaller, handle as lin_handle, lifted}
use Rattle.vg_flatten_shapes.specs.declared.fault.Fault.TheVariants.{NotTaken}
use Rattle.vg_flatten_shapes.specs.declared.open.Truth.{Truth}
use Rattle.vg_flatten_shapes.specs.declared.open.Truth.TheVariants.{Fails}
use Rattle.vg_flatten_shapes.specs.declared.layout.Layout.{Layout}
use Rattle.vg_flatten_shapes.specs.declared.room.Room.{Room}
use Rattle.vg_flatten_shapes.specs.Shapes.{Shape, only, empty, is_empty, same_homes, temp}
use Rattle.vg_flatten_shapes.specs.Blocks.{Block, Skip, One, GiveBack, BreakOut, GoOn, Both, Choice, Repeat}
use Rattle.vg_flatten_shapes.specs.Made.{Made, Gives as Makes, Refused, behind, after, by_temp, tested, is_zero}
use Rattle.vg_flatten_steps.specs.Calls.{passing_of}
use Rattle.vg_flatten_control.specs.Flat.{joined, where_empty, repeated, repeated_body, repeated_next, given_back, flat}
use Rattle.vg_flatten_pushed.specs.Pushed.{is_high, newer, older, all_pushed, onto, crossed, is_above, done, topped, with_newest, lowered, level_as, raised}
use Rattle.vg_flatten_pushed.specs.Pushed.{pushed_again}
use Rattle.vg_flatten_pushed.specs.Stacked.{is_calm, levelled, ways, by_pushed, by_newer, stacked}
use Rattle.vg_flatten.specs.Columns.{RamStands, FlashStands}
use Rattle.vg_flatten.specs.Flattened.{IsPassing}
use Rattle.vg_flatten_shapes.proofs.Temps.{some_is, temp_is}
use Rattle.vg_flattened.proofs.Alike.{IsFair, Alike, gives, leaves, AlikePiece}
use Rattle.vg_flattened.proofs.AlikeLaws.{alike_then, alike_map}
use Rattle.vg_flattened.proofs.Related.{AreAt, AreWidths, AreKept, said, Held, Leaves}
use Rattle.vg_flattened.proofs.Numbers.{low_same, same_same}
use Rattle.vg_flattened.proofs.Locals.{written_is, kept_behind_temp}
use Rattle.vg_flattened.proofs.Free.{homes_same}
use Rattle.vg_flattened.proofs.Right.{Does, chooses, unit_behind}
use Rattle.vg_flattened.proofs.CallRight.{AlikeCalls, AlikeHandling}
use Rattle.vg_flattened.proofs.CodeRight.{empty_is, right_stepped, right_loop, right_given_back}
use Rattle.vg_flattened.proofs.Newer.{AllPushed, pushed_all, few_pushed, high_of}
use Rattle.vg_flattened.proofs.Straight.{both_of}
use Rattle.vg_flattened.proofs.StackHeld.{in_four, AreSmall, Stands, OnStack, none_is, stands_by, on_stack_by, to_held, from_held}
use Rattle.vg_flattened.proofs.Popping.{run}
use Rattle.vg_flattened.proofs.Above.{IsGood, RightOn, good_few, right_calm}
use Rattle.vg_flattened.proofs.PushedRight.{right_crossed}

some_wait : (a : Operand) (hs : List Operand) → is_empty (only (a ∷ hs)) ≡ false
some_wait a hs = grind arith

module _ (k : Codes) (f : FirmProgram) (m : FirmProcedure) (call : FirmCaller History) (handle : ℕ → Piece Firm History)
    (p : LinProgram) (go : LinCaller State) (lay : Layout) (r : Room) (ws : List ℕ) (wide : AreWidths r m.widths ws)
    (calls : AlikeCalls lay f p call go)
    (receives : (q : ℕ) (mq : FirmProcedure) → slice_get f.procedures q ≡ Some mq → IsPassing mq (passing_of (slice_get lay.passing q)))
    (codes : p.codes ≡ k) (codes_are : AreCodes (length f.procedures) k) (dispatches : p.dispatches ≡ f.dispatches)
    (handling : AlikeHandling lay r ws handle (λ vector. lin_handle (language p) go ((language p).handler vector)))
    (flash : FlashStands lay f p)
    (frames : (under : List ℕ) (q : Step) (s : Firm) (w : World History) → takes q ≤ length s.values
    → AboveValues under (firm_step k f m call handle q s w) (firm_step k f m call handle q (over_values under s) w))
    (most : ℕ) where
  abbrev packed' : Code Step → Piece Firm History
  packed' c = performed full (firm_step k f m call handle) firm_truth c

  abbrev RightOn' : Shape → Made → Piece Firm History → Type 0
  RightOn' = RightOn lay r ws p go most

  abbrev Good : Shape → Type 0
  Good = IsGood lay r ws p go most

  abbrev Does' : Shape → Shape → Piece Firm History → Block → Type 0
  Does' = Does k f m call handle p go lay r ws wide

  abbrev On : Shape → Firm → Deciding State → Type 0
  On = OnStack lay r ws most

  -- where no value is above the pushed ones
  few_on : (hs : List Operand) → length hs ≤ most → (s : Firm) (d : Deciding State) → Stands lay r ws (length hs) s d.state → On (only hs) s d
  few_on hs le s d st = on_stack_by lay r ws most (only hs) s d (few_pushed most hs le) st

  all_stand : (shape : Shape) → AllPushed most shape → (s : Firm) (d : Deciding State) → On shape s d → Stands lay r ws (length shape.homes) s d.state
  all_stand shape all s d q = stands_by lay r ws most shape s d all q

  -- ---- the newest value, in a temporary

  record Top (to n : ℕ) (s : Firm) (d : Deciding State) : Type 0 where
    v : ℕ
    vs : List ℕ
    newest : s.values ≡ v ∷ vs
    at : value_in (slice_get d.state.locals to) ≡ Some v
    few : v < 2 ^ 32
    count : length vs ≡ n
    small : AreSmall vs
    waits : d.state.waiting ≡ in_four vs
    kept : AreKept r ws s.self s.locals d.state.locals
    ram : RamStands lay.ram s.columns d.state.ram

  pops_one : (to n : ℕ) (s : Firm) (d : Deciding State) (w : World History) → temp r [] ≡ Some to → Stands lay r ws (suc n) s d.state
      → (d1 : Deciding State) × (run p go (One (Pop 4 to)) d w ≡ Gives d1 w) × Top to n s d1
  pops_one to n s d w e st = by_values s.values refl st.count st.small st.waits
    where
      is : to ≡ r.locals + 0
      is = (temp_is r [] to e).0

      short : 0 < r.temps
      short = (temp_is r [] to e).1

      by_values : (xs : List ℕ) → s.values ≡ xs → length xs ≡ suc n → AreSmall xs → d.state.waiting ≡ in_four xs
          → (d1 : Deciding State) × (run p go (One (Pop 4 to)) d w ≡ Gives d1 w) × Top to n s d1
      by_values [] ev c sm wa = absurd (omega (arith, c))
      by_values (v ∷ vs) ev c sm wa = (
        record d { state = sets to v (record d.state { waiting = in_four vs }) },
        ap (λ z. lifted (pops_from z 4 to d.state w.outside) d w) wa,
        record {
          v = v;
          vs = vs;
          newest = ev;
          at = subst (λ z. value_in (slice_get (with_local d.state.locals z v) z) ≡ Some v) (sym is) (there (st.kept.there (r.locals + 0) 4 (wide.temps 0 short)));
          few = sm.0;
          count = omega (arith, c);
          small = sm.1;
          waits = refl;
          kept = subst (λ z. AreKept r ws s.self s.locals (with_local d.state.locals z v)) (sym is) (kept_behind_temp r ws s.self s.locals d.state.locals 0 v st.kept);
          ram = st.ram;
        },
      )
        where
          there : (o : Option ℕ) × (slice_get d.state.locals (r.locals + 0) ≡ Some (record { width = 4; value = o }))
              → value_in (slice_get (with_local d.state.locals (r.locals + 0) v) (r.locals + 0)) ≡ Some v
          there (o, h) = ap value_in (written_is d.state.locals (r.locals + 0) v _ h) ∙ ap Some (low_same v sm.0)

  top_held : (to : ℕ) (s : Firm) (d : Deciding State) → Top to 0 s d → Held lay r ws (only (Local to ∷ [])) s d
  top_held to s d t =
      record {
        waits = subst (λ z. AreAt (Local to ∷ []) z d.state.locals) (sym (t.newest ∙ ap (λ z. t.v ∷ z) nothing)) ((t.at, t.few), tt);
        kept = t.kept;
        none = t.waits ∙ ap in_four nothing;
        ram = t.ram;
      }
    where
      nothing : t.vs ≡ []
      nothing = none_is t.vs t.count

  -- ---- choices

  said_zero : (to v : ℕ) (d : Deciding State) → value_in (slice_get d.state.locals to) ≡ Some v → v < 2 ^ 32
      → said (Fails (is_zero (Local to))) d.state ≡ Some (not (v == 0))
  said_zero to v d at few = ap (λ z. option_map not (both z (Some 0) (compared Same 4))) at ∙ ap (λ z. Some (not z)) (same_same v 0 few (omega arith))

  -- behind a way of a choice: so many values are pushed, and perhaps there is one more, in the first temporary
  record Lowered (to n : ℕ) (shape : Shape) (s : Firm) (d : Deciding State) : Type 0 where
    rest : List Operand
    homes : shape.homes ≡ Local to ∷ rest
    many : length rest ≡ n
    top : Top to n s d

  abbrev Levelled : (to n : ℕ) → Shape → Firm → Deciding State → Type 0
  Levelled to n shape s d = ((length shape.homes ≡ n) × Stands lay r ws (length shape.homes) s d.state) ⊎ Lowered to n shape s d

  abbrev RightLevel : (to n : ℕ) → Shape → Made → Piece Firm History → Type 0
  RightLevel to n before (Makes b shape) g =
      (length shape.homes ≤ suc n) × AlikePiece (On before) (Levelled to n shape) (Leaves lay r ws) g (run p go b)
  RightLevel to n before (Refused why) g = Unit {0}

  same_of : (x y : ℕ) → (x == y) ≡ true → x ≡ y
  same_of x y e = grind arith

  -- what is done behind something that does the same
  then_on : {G J : Firm → Deciding State → Type 0} (a : Answer Firm History) (x : Answer (Deciding State) History) (e : Block) → Alike G (Leaves lay r ws) a x
      → ((s1 : Firm) (d1 : Deciding State) (w1 : World History) → IsFair w1 → G s1 d1 → Alike J (Leaves lay r ws) (Gives s1 w1) (run p go e d1 w1))
      → Alike J (Leaves lay r ws) a (and_then x (run p go e))
  then_on {G} {J} a x e h more =
      subst (λ z. Alike J (Leaves lay r ws) z (and_then x (run p go e))) (unit_behind a) (alike_then go_on (run p go e) h (λ s1 d1 w1 i1 q. more s1 d1 w1 i1 q))

  right_level_as : (to n : ℕ) → temp r [] ≡ Some to → (before : Shape) (a : Block) (s1 : Shape) (g : Piece Firm History) → AllPushed most s1
      → AlikePiece (On before) (On s1) (Leaves lay r ws) g (run p go a) → RightLevel to n before (behind a (level_as r n s1)) g
  right_level_as to n et before a s1 g all hy = by_count (length s1.homes == n) refl
    where
      stand : AlikePiece (On before) (λ s2 d1. Stands lay r ws (length s1.homes) s2 d1.state) (Leaves lay r ws) g (run p go a)
      stand s d w i st = alike_map (all_stand s1 all) (hy s d w i st)

      by_room : (x : Operand) (hs : List Operand) → s1.homes ≡ x ∷ hs → length hs ≡ n → (o : Option ℕ) → o ≡ Some to
          → RightLevel to n before (behind a (by_temp o (λ t. Makes (One (Pop 4 t)) (only (Local t ∷ hs))))) g
      by_room x hs eh many None e = tt
      by_room x hs eh many (Some t) e =
          subst (λ z. RightLevel to n before (Makes (Both a (One (Pop 4 z))) (only (Local z ∷ hs))) g) (sym (some_is t to e)) (omega (arith, many), pops)
        where
          popped : (s2 : Firm) (d1 : Deciding State) (w1 : World History) → IsFair w1 → (d2 : Deciding State) × (run p go (One (Pop 4 to)) d1 w1 ≡ Gives d2 w1) × Top to n s2 d2
              → Alike (Levelled to n (only (Local to ∷ hs))) (Leaves lay r ws) (Gives s2 w1) (run p go (One (Pop 4 to)) d1 w1)
          popped s2 d1 w1 i1 (d2, e1, top) =
              subst (λ z. Alike (Levelled to n (only (Local to ∷ hs))) (Leaves lay r ws) (Gives s2 w1) z) (sym e1)
              (gives i1 (inr (record { rest = hs; homes = refl; many = many; top = top })))

          pops : AlikePiece (On before) (Levelled to n (only (Local to ∷ hs))) (Leaves lay r ws) g (run p go (Both a (One (Pop 4 to))))
          pops s d w i st =
              then_on {G = λ s2 d1. Stands lay r ws (length s1.homes) s2 d1.state} {J = Levelled to n (only (Local to ∷ hs))} (g s w) (run p go a d w)
              (One (Pop 4 to)) (stand s d w i st) (λ s2 d1 w1 i1 q.
              popped s2 d1 w1 i1 (pops_one to n s2 d1 w1 et (subst (λ z. Stands lay r ws z s2 d1.state) (ap length eh ∙ ap suc many) q)))

      by_homes : (hs : List Operand) → s1.homes ≡ hs → RightLevel to n before (behind a (lowered r n hs)) g
      by_homes [] eh = tt
      by_homes (x ∷ hs) eh = by_many (length hs == n) refl
        where
          by_many : (c : Bool) → (length hs == n) ≡ c
              → RightLevel to n before (behind a (if c then by_temp (temp r []) (λ t. Makes (One (Pop 4 t)) (only (Local t ∷ hs))) else Refused NotTaken)) g
          by_many true e = by_room x hs eh (same_of (length hs) n e) (temp r []) et
          by_many false e = tt

      by_count : (c : Bool) → (length s1.homes == n) ≡ c
          → RightLevel to n before (behind a (if c then Makes Skip (only s1.homes) else lowered r n s1.homes)) g
      by_count true e = (
        (let is = same_of (length s1.homes) n e in omega (arith, is)),
        λ s d w i st. then_on {G = λ s2 d1. Stands lay r ws (length s1.homes) s2 d1.state} {J = Levelled to n (only s1.homes)} (g s w) (run p go a d w) Skip
            (stand s d w i st) (λ s2 d1 w1 i1 q. gives i1 (inl (same_of (length s1.homes) n e, q))),
      )
      by_count false e = by_homes s1.homes refl

  right_levelled : (to n : ℕ) → temp r [] ≡ Some to → (before : Shape) (y : Made) (g : Piece Firm History) → RightOn' before y g
      → RightLevel to n before (levelled r most n y) g
  right_levelled to n et before (Refused why) g hy = tt
  right_levelled to n et before (Makes a s1) g hy = by_all (all_pushed most s1) refl
    where
      by_all : (c : Bool) → all_pushed most s1 ≡ c → RightLevel to n before (behind a (if c then level_as r n s1 else Refused NotTaken)) g
      by_all true e = right_level_as to n et before a s1 g (pushed_all most s1 e) hy.1
      by_all false e = tt

  levelled_as : (to n : ℕ) (s2 s3 : Shape) → s2.homes ≡ s3.homes → (s : Firm) (d : Deciding State) → Levelled to n s3 s d → Levelled to n s2 s d
  levelled_as to n s2 s3 e s d (inl (c, h)) = inl (ap length e ∙ c, subst (λ z. Stands lay r ws (length z) s d.state) (sym e) h)
  levelled_as to n s2 s3 e s d (inr l) = inr (record { rest = l.rest; homes = e ∙ l.homes; many = l.many; top = l.top })

  -- both ways, by the value that was popped
  right_choice : (to n : ℕ) (hs : List Operand) → length hs ≤ most → (a b : Block) (s2 s3 : Shape) (g h : Piece Firm History) → s2.homes ≡ s3.homes
      → RightLevel to n (only hs) (Makes a s2) g → RightLevel to n (only hs) (Makes b s3) h → (s : Firm) (d : Deciding State) (w : World History) → IsFair w
      → Top to (length hs) s d
      → Alike (Levelled to n s2) (Leaves lay r ws) (choose (firm_truth s) g h s w) (run p go (Choice (Fails (is_zero (Local to))) a b) d w)
  right_choice to n hs le a b s2 s3 g h same ha hb s d w i top =
      subst (λ z. Alike (Levelled to n s2) (Leaves lay r ws) (choose (truth_in z s) g h s w) (run p go (Choice t a b) d w)) (sym top.newest)
      (by_value top.v top.vs (said_zero to top.v d top.at top.few)
      (few_on hs le (record s { values = top.vs }) (record d { truth = None })
      (record { count = top.count; small = top.small; waits = top.waits; kept = top.kept; ram = top.ram })))
    where
      t : Truth
      t = Fails (is_zero (Local to))

      by_value : (v : ℕ) (vs : List ℕ) → said t d.state ≡ Some (not (v == 0)) → On (only hs) (record s { values = vs }) (record d { truth = None })
          → Alike (Levelled to n s2) (Leaves lay r ws) (choose (truth_in (v ∷ vs) s) g h s w) (run p go (Choice t a b) d w)
      by_value zero vs says q =
          subst (λ z. Alike (Levelled to n s2) (Leaves lay r ws) (h (record s { values = vs }) w) z)
          (sym (chooses k f m call handle p go lay r ws wide t false a b d w says))
          (alike_map {G = Levelled to n s3} {J = Levelled to n s2} (levelled_as to n s2 s3 same)
          (hb.1 (record s { values = vs }) (record d { truth = None }) w i q))
      by_value (suc v) vs says q =
          subst (λ z. Alike (Levelled to n s2) (Leaves lay r ws) (g (record s { values = vs }) w) z)
          (sym (chooses k f m call handle p go lay r ws wide t true a b d w (says ∙ ap (λ z. Some (not z)) (eqb-suc-zero v))))
          (ha.1 (record s { values = vs }) (record d { truth = None }) w i q)

  -- and then its value is pushed
  lt_of : (x y : ℕ) → nat_lt x y ≡ true → x < y
  lt_of x y e = grind arith

  ge_of : (x y : ℕ) → nat_lt x y ≡ false → y ≤ x
  ge_of x y e = grind arith

  first_is : (x y : Operand) (xs ys : List Operand) → x ∷ xs ≡ y ∷ ys → x ≡ y
  first_is x y xs ys e = cc

  abbrev Raises : (to n : ℕ) → (shape : Shape) → Made → Type 0
  Raises to n shape (Makes e after') = Good after' × ((s : Firm) (d : Deciding State) (w : World History) → IsFair w → Levelled to n shape s d
      → Alike (On after') (Leaves lay r ws) (Gives s w) (run p go e d w))
  Raises to n shape (Refused why) = Unit {0}

  right_raised : (to n : ℕ) (shape : Shape) → suc n ≤ most → length shape.homes ≤ suc n → Raises to n shape (raised (suc n) shape)
  right_raised to n shape room le = by_count (nat_lt (length shape.homes) (suc n)) refl
    where
      few : (x : Operand) (hs : List Operand) → shape.homes ≡ x ∷ hs → suc (length hs) ≤ most
      few x hs eh = let e = ap length eh in omega (arith, e, le, room)

      pushes_it : (x : Operand) (hs : List Operand) → shape.homes ≡ x ∷ hs → suc n ≤ length shape.homes → (s : Firm) (d : Deciding State) (w : World History)
          → IsFair w → Levelled to n shape s d → Alike (On (only (Known 0 ∷ hs))) (Leaves lay r ws) (Gives s w) (run p go (One (Push 4 x)) d w)
      pushes_it x hs eh ge s d w i (inl (c, h)) = absurd (omega (arith, ge, c))
      pushes_it x hs eh ge s d w i (inr l) =
          subst (λ z. Alike (On (only (Known 0 ∷ hs))) (Leaves lay r ws) (Gives s w) z)
          (sym (ap (λ z. lifted (using z (λ y. Goes (pushes 4 y d.state) w.outside)) d w) (subst (λ z. value z d.state ≡ Some l.top.v) (sym is) l.top.at)))
          (gives i (few_on (Known 0 ∷ hs) (few x hs eh) s _ (record {
            count = ap length l.top.newest ∙ ap suc (l.top.count ∙ sym l.many ∙ sym rest_long);
            small = subst AreSmall (sym l.top.newest) (l.top.few, l.top.small);
            waits =
                ap (λ z. record { width = 4; value = z } ∷ d.state.waiting) (low_same l.top.v l.top.few)
                ∙ ap (λ z. record { width = 4; value = l.top.v } ∷ z) l.top.waits ∙ ap in_four (sym l.top.newest);
            kept = l.top.kept;
            ram = l.top.ram;
          })))
        where
          is : x ≡ Local to
          is = first_is x (Local to) hs l.rest (sym eh ∙ l.homes)

          rest_long : length hs ≡ length l.rest
          rest_long = let q = ap length (sym eh ∙ l.homes) in omega (arith, q)

      by_homes : (hs : List Operand) → shape.homes ≡ hs → suc n ≤ length shape.homes → Raises to n shape (pushed_again hs)
      by_homes [] eh ge = tt
      by_homes (x ∷ hs) eh ge = (good_few lay r ws p go most (Known 0 ∷ hs) (few x hs eh), pushes_it x hs eh ge)

      by_count : (c : Bool) → nat_lt (length shape.homes) (suc n) ≡ c
          → Raises to n shape (if c then Makes Skip (only shape.homes) else pushed_again shape.homes)
      by_count true e = (good_few lay r ws p go most shape.homes small, stays)
        where
          small : length shape.homes ≤ most
          small = omega (arith, le, room)

          stays : (s : Firm) (d : Deciding State) (w : World History) → IsFair w → Levelled to n shape s d
              → Alike (On (only shape.homes)) (Leaves lay r ws) (Gives s w) (run p go Skip d w)
          stays s d w i (inl (c, h)) = gives i (few_on shape.homes small s d h)
          stays s d w i (inr l) =
              absurd (let q = ap length l.homes in let m' = l.many in let lt = lt_of (length shape.homes) (suc n) e in omega (arith, q, m', lt))
      by_count false e = by_homes shape.homes refl (ge_of (length shape.homes) (suc n) e)

  right_ways : (before : Shape) (to : ℕ) (hs : List Operand) (x : Operand) → AllPushed most before → before.homes ≡ x ∷ hs → temp r [] ≡ Some to → (y z : Made)
      → (g h : Piece Firm History) → RightLevel to (length hs) (only hs) y g → RightLevel to (length hs) (only hs) z h
      → RightOn' before (behind (One (Pop 4 to)) (after (joined (Fails (is_zero (Local to))) y z) (raised (suc (length hs))))) (λ s w. choose (firm_truth s) g h s w)
  right_ways before to hs x all eh et (Refused why) z g h hy hz = tt
  right_ways before to hs x all eh et (Makes a s2) (Refused why) g h hy hz = tt
  right_ways before to hs x all eh et (Makes a s2) (Makes b s3) g h hy hz = by_homes (same_homes (reverse s2.homes) (reverse s3.homes)) refl
    where
      n : ℕ
      n = length hs

      t : Truth
      t = Fails (is_zero (Local to))

      room : suc n ≤ most
      room = let few = all.few in let e = ap length eh in omega (arith, few, e)

      both_ways : s2.homes ≡ s3.homes → (y : Made) → Raises to n s2 y
          → RightOn' before (behind (One (Pop 4 to)) (behind (Choice t a b) y)) (λ s w. choose (firm_truth s) g h s w)
      both_ways same (Refused why) hr = tt
      both_ways same (Makes e shape) hr = (hr.0, does)
        where
          does : AlikePiece (On before) (On shape) (Leaves lay r ws) (λ s w. choose (firm_truth s) g h s w)
              (run p go (Both (One (Pop 4 to)) (Both (Choice t a b) e)))
          does s d w i st = popped (pops_one to n s d w et (subst (λ z. Stands lay r ws (length z) s d.state) eh (all_stand before all s d st)))
            where
              popped : (d1 : Deciding State) × (run p go (One (Pop 4 to)) d w ≡ Gives d1 w) × Top to n s d1
                  → Alike (On shape) (Leaves lay r ws) (choose (firm_truth s) g h s w) (run p go (Both (One (Pop 4 to)) (Both (Choice t a b) e)) d w)
              popped (d1, e1, top) =
                  subst (λ z. Alike (On shape) (Leaves lay r ws) (choose (firm_truth s) g h s w) z) (sym (ap (λ z. and_then z (run p go (Both (Choice t a b) e))) e1))
                  (then_on {G = Levelled to n s2} {J = On shape} (choose (firm_truth s) g h s w) (run p go (Choice t a b) d1 w) e
                  (right_choice to n hs (omega (arith, room)) a b s2 s3 g h same hy hz s d1 w i top) hr.1)

      by_homes : (c : Bool) → same_homes (reverse s2.homes) (reverse s3.homes) ≡ c
          → RightOn' before (behind (One (Pop 4 to)) (after (if c then Makes (Choice t a b) s2 else Refused NotTaken) (raised (suc n)))) (λ s w. choose (firm_truth s) g h s w)
      by_homes true e = both_ways (homes_same s2.homes s3.homes e) (raised (suc n) s2) (right_raised to n s2 room hy.0)
      by_homes false e = tt

  right_topped : (s : Shape) (y z : Shape → Made) (g h : Piece Firm History) → AllPushed most s
      → ((hs : List Operand) → length hs ≤ most → RightOn' (only hs) (y (only hs)) g)
      → ((hs : List Operand) → length hs ≤ most → RightOn' (only hs) (z (only hs)) h)
      → RightOn' s (after (topped r s.homes) (λ s1. after (ways r most (tested s1) y z) (raised (length s1.homes)))) (λ s1 w. choose (firm_truth s1) g h s1 w)
  right_topped s y z g h all hy hz = by_homes s.homes refl
    where
      few : (x : Operand) (hs : List Operand) → s.homes ≡ x ∷ hs → length hs ≤ most
      few x hs eh = let le = all.few in let e = ap length eh in omega (arith, le, e)

      by_room : (x : Operand) (hs : List Operand) → s.homes ≡ x ∷ hs → (o : Option ℕ) → temp r [] ≡ o
          → RightOn' s (after (by_temp o (λ to. Makes (One (Pop 4 to)) (only (Local to ∷ hs))))
          (λ s1. after (ways r most (tested s1) y z) (raised (length s1.homes)))) (λ s1 w. choose (firm_truth s1) g h s1 w)
      by_room x hs eh (Some to) et =
          right_ways s to hs x all eh et (levelled r most (length hs) (y (only hs))) (levelled r most (length hs) (z (only hs))) g h
          (right_levelled to (length hs) et (only hs) (y (only hs)) g (hy hs (few x hs eh)))
          (right_levelled to (length hs) et (only hs) (z (only hs)) h (hz hs (few x hs eh)))
      by_room x hs eh None et = tt

      by_homes : (hs : List Operand) → s.homes ≡ hs
          → RightOn' s (after (topped r hs) (λ s1. after (ways r most (tested s1) y z) (raised (length s1.homes)))) (λ s1 w. choose (firm_truth s1) g h s1 w)
      by_homes [] eh = tt
      by_homes (x ∷ hs) eh = by_room x hs eh (temp r []) refl

  right_if : (s : Shape) (y z : Shape → Made) (g h : Piece Firm History) → all_pushed most s ≡ true
      → ((hs : List Operand) → length hs ≤ most → RightOn' (only hs) (y (only hs)) g)
      → ((hs : List Operand) → length hs ≤ most → RightOn' (only hs) (z (only hs)) h)
      → RightOn' s (by_pushed r most y z s) (λ s1 w. choose (firm_truth s1) g h s1 w)
  right_if s y z g h e hy hz =
      subst (λ c. RightOn' s (after (if c then topped r s.homes else Refused NotTaken) (λ s1. after (ways r most (tested s1) y z) (raised (length s1.homes))))
      (λ s1 w. choose (firm_truth s1) g h s1 w)) (sym e) (right_topped s y z g h (pushed_all most s e) hy hz)

  -- ---- loops

  -- a condition, from where nothing waits, whose value is in a temporary
  right_condition : (b0 : Block) (s0 : Shape) (x : Operand) (to : ℕ) → AllPushed most s0 → s0.homes ≡ x ∷ [] → temp r [] ≡ Some to → (gc : Piece Firm History)
      → RightOn' empty (Makes b0 s0) gc → Does' empty (only (Local to ∷ [])) gc (Both b0 (One (Pop 4 to)))
  right_condition b0 s0 x to all eh et gc hc s d w i q =
      subst (λ z. Alike (Held lay r ws (only (Local to ∷ []))) (Leaves lay r ws) z (and_then (run p go b0 d w) (run p go (One (Pop 4 to)))))
      (unit_behind (gc s w))
      (alike_then go_on (run p go (One (Pop 4 to))) (hc.1 s d w i (from_held lay r ws most s d q)) (λ s1 d1 w1 i1 st.
      pop s1 w1 d1 i1 (pops_one to 0 s1 d1 w1 et (subst (λ z. Stands lay r ws (length z) s1 d1.state) eh (all_stand s0 all s1 d1 st)))))
    where
      pop : (s1 : Firm) (w1 : World History) (d1 : Deciding State) → IsFair w1 → (d2 : Deciding State) × (run p go (One (Pop 4 to)) d1 w1 ≡ Gives d2 w1) × Top to 0 s1 d2
          → Alike (Held lay r ws (only (Local to ∷ []))) (Leaves lay r ws) (Gives s1 w1) (run p go (One (Pop 4 to)) d1 w1)
      pop s1 w1 d1 i1 (d2, e, top) =
          subst (λ z. Alike (Held lay r ws (only (Local to ∷ []))) (Leaves lay r ws) (Gives s1 w1) z) (sym e) (gives i1 (top_held to s1 d2 top))

  held_does : (b : Block) (s1 : Shape) (g : Piece Firm History) → s1 ≡ empty → RightOn' empty (Makes b s1) g → Does' empty s1 g b
  held_does b s1 g e h s d w i q =
      subst (λ z. Alike (Held lay r ws z) (Leaves lay r ws) (g s w) (run p go b d w)) (sym e)
      (alike_map (to_held lay r ws most)
      (subst (λ z. Alike (On z) (Leaves lay r ws) (g s w) (run p go b d w)) e (h.1 s d w i (from_held lay r ws most s d q))))

  good_empty : Good empty
  good_empty = good_few lay r ws p go most [] (omega arith)

  abbrev turning : (gc gb gn : Piece Firm History) → Piece Firm History
  turning gc gb gn s w = turns full w.clock (where_holds gc firm_truth) gb gn s w

  right_repeat : (before body next : Block) (s1 s2 : Shape) (to : ℕ) (gc gb gn : Piece Firm History) → Does' empty (only (Local to ∷ [])) gc before
      → s1 ≡ empty → s2 ≡ empty → RightOn' empty (Makes body s1) gb → RightOn' empty (Makes next s2) gn
      → RightOn' empty (Makes (Repeat before (Fails (is_zero (Local to))) body next) empty) (turning gc gb gn)
  right_repeat before body next s1 s2 to gc gb gn hc e1 e2 hb hn = (
    good_empty,
    λ s d w i q. alike_map (from_held lay r ws most)
        ((right_loop k f m call handle p go lay r ws wide calls receives codes codes_are dispatches handling flash before body next (only (Local to ∷ [])) s1 s2
        (record { truth = Fails (is_zero (Local to)); homes = [] }) gc gb gn refl refl e1 e2 hc (held_does body s1 gb e1 hb) (held_does next s2 gn e2 hn)).1
        s d w i (to_held lay r ws most s d q)),
  )

  right_tested : (b0 : Block) (s0 : Shape) (y z : Made) (gc gb gn : Piece Firm History) → AllPushed most s0 → RightOn' empty (Makes b0 s0) gc
      → RightOn' empty y gb → RightOn' empty z gn → RightOn' empty (repeated (behind b0 (topped r s0.homes)) y z) (turning gc gb gn)
  right_tested b0 s0 y z gc gb gn all hx hy hz = by_homes s0.homes refl
    where
      by_next : (to : ℕ) (before : Block) → Does' empty (only (Local to ∷ [])) gc before → (body : Block) (s1 : Shape) → s1 ≡ empty → RightOn' empty (Makes body s1) gb
          → (z1 : Made) → RightOn' empty z1 gn → RightOn' empty (repeated_next before (Fails (is_zero (Local to))) body z1) (turning gc gb gn)
      by_next to before hc body s1 e1 hb (Refused why) hz1 = tt
      by_next to before hc body s1 e1 hb (Makes next s2) hz1 = by_empty (is_empty s2) refl
        where
          by_empty : (c : Bool) → is_empty s2 ≡ c
              → RightOn' empty (if c then Makes (Repeat before (Fails (is_zero (Local to))) body next) empty else Refused NotTaken) (turning gc gb gn)
          by_empty true e2 = right_repeat before body next s1 s2 to gc gb gn hc e1 (empty_is s2 e2) hb hz1
          by_empty false e2 = tt

      by_body : (to : ℕ) (before : Block) → Does' empty (only (Local to ∷ [])) gc before → (y1 : Made) → RightOn' empty y1 gb
          → RightOn' empty (repeated_body before (Fails (is_zero (Local to))) y1 z) (turning gc gb gn)
      by_body to before hc (Refused why) hy1 = tt
      by_body to before hc (Makes body s1) hy1 = by_empty (is_empty s1) refl
        where
          by_empty : (c : Bool) → is_empty s1 ≡ c
              → RightOn' empty (if c then repeated_next before (Fails (is_zero (Local to))) body z else Refused NotTaken) (turning gc gb gn)
          by_empty true e1 = by_next to before hc body s1 (empty_is s1 e1) hy1 z hz
          by_empty false e1 = tt

      by_room : (x : Operand) (hs : List Operand) → s0.homes ≡ x ∷ hs → (o : Option ℕ) → temp r [] ≡ o
          → RightOn' empty (repeated (behind b0 (by_temp o (λ to. Makes (One (Pop 4 to)) (only (Local to ∷ hs))))) y z) (turning gc gb gn)
      by_room x hs eh None et = tt
      by_room x (a ∷ hs) eh (Some to) et = refused (is_empty (only (a ∷ hs))) (some_wait a hs)
        where
          refused : (c : Bool) → c ≡ false
              → RightOn' empty (if c then repeated_body (Both b0 (One (Pop 4 to))) (Fails (is_zero (Local to))) y z else Refused NotTaken) (turning gc gb gn)
          refused true e = absurd (grind arith)
          refused false e = tt
      by_room x [] eh (Some to) et = by_body to (Both b0 (One (Pop 4 to))) (right_condition b0 s0 x to all eh et gc hx) y hy

      by_homes : (hs : List Operand) → s0.homes ≡ hs → RightOn' empty (repeated (behind b0 (topped r hs)) y z) (turning gc gb gn)
      by_homes [] eh = tt
      by_homes (x ∷ hs) eh = by_room x hs eh (temp r []) refl

  right_looped : (x y z : Made) (gc gb gn : Piece Firm History) → RightOn' empty x gc → RightOn' empty y gb → RightOn' empty z gn
      → RightOn' empty (repeated (after x (with_newest r most)) y z) (turning gc gb gn)
  right_looped (Refused why) y z gc gb gn hx hy hz = tt
  right_looped (Makes b0 s0) y z gc gb gn hx hy hz = by_all (all_pushed most s0) refl
    where
      by_all : (c : Bool) → all_pushed most s0 ≡ c
          → RightOn' empty (repeated (behind b0 (if c then topped r s0.homes else Refused NotTaken)) y z) (turning gc gb gn)
      by_all true e = right_tested b0 s0 y z gc gb gn (pushed_all most s0 e) hx hy hz
      by_all false e = tt

  right_where : (s : Shape) (made : Made) (g : Piece Firm History) → RightOn' empty made g → RightOn' s (where_empty s made) g
  right_where s made g h = by_empty (is_empty s) refl
    where
      by_empty : (c : Bool) → is_empty s ≡ c → RightOn' s (if c then made else Refused NotTaken) g
      by_empty true e = subst (λ z. RightOn' z made g) (sym (empty_is s e)) h
      by_empty false e = tt

  -- ---- ends

  right_given : (s : Shape) → AllPushed most s → RightOn' s (after (topped r s.homes) (λ s1. given_back r s1.homes)) (packed' Return)
  right_given s all = by_homes s.homes refl
    where
      gives_back : (x : Operand) (to : ℕ) → s.homes ≡ x ∷ [] → temp r [] ≡ Some to
          → RightOn' s (Makes (Both (One (Pop 4 to)) (GiveBack r.result (Local to))) empty) (packed' Return)
      gives_back x to eh et = (good_empty, does)
        where
          does : AlikePiece (On s) (On empty) (Leaves lay r ws) (packed' Return) (run p go (Both (One (Pop 4 to)) (GiveBack r.result (Local to))))
          does s1 d w i st = popped (pops_one to 0 s1 d w et (subst (λ z. Stands lay r ws (length z) s1 d.state) eh (all_stand s all s1 d st)))
            where
              popped : (d1 : Deciding State) × (run p go (One (Pop 4 to)) d w ≡ Gives d1 w) × Top to 0 s1 d1
                  → Alike (On empty) (Leaves lay r ws) (packed' Return s1 w) (run p go (Both (One (Pop 4 to)) (GiveBack r.result (Local to))) d w)
              popped (d1, e, top) =
                  subst (λ z. Alike (On empty) (Leaves lay r ws) (packed' Return s1 w) z)
                  (sym (ap (λ z. and_then z (run p go (GiveBack r.result (Local to)))) e))
                  (alike_map (from_held lay r ws most)
                  ((right_given_back k f m call handle p go lay r ws wide calls receives codes codes_are dispatches handling flash (Local to ∷ [])
                  (inr (temp_is r [] to et).0, tt)).1 s1 d1 w i (top_held to s1 d1 top)))

      by_room : (x : Operand) (hs : List Operand) → s.homes ≡ x ∷ hs → (o : Option ℕ) → temp r [] ≡ o
          → RightOn' s (after (by_temp o (λ to. Makes (One (Pop 4 to)) (only (Local to ∷ hs)))) (λ s1. given_back r s1.homes)) (packed' Return)
      by_room x hs eh None et = tt
      by_room x (a ∷ hs) eh (Some to) et = tt
      by_room x [] eh (Some to) et = gives_back x to eh et

      by_homes : (hs : List Operand) → s.homes ≡ hs → RightOn' s (after (topped r hs) (λ s1. given_back r s1.homes)) (packed' Return)
      by_homes [] eh = tt
      by_homes (x ∷ hs) eh = by_room x hs eh (temp r []) refl

  right_return : (s : Shape) → RightOn' s (after (with_newest r most s) (λ s1. given_back r s1.homes)) (packed' Return)
  right_return s = by_all (all_pushed most s) refl
    where
      by_all : (c : Bool) → all_pushed most s ≡ c
          → RightOn' s (after (if c then topped r s.homes else Refused NotTaken) (λ s1. given_back r s1.homes)) (packed' Return)
      by_all true e = right_given s (pushed_all most s e)
      by_all false e = tt

  -- ---- values above the pushed ones

  right_above : (c : Code Step) (s : Shape) → is_calm c ≡ true → is_high most s ≡ true → Good s
      → RightOn' s (onto (older most s) (flat lay r c (newer most s))) (packed' c)
  right_above = right_calm k f m call handle p go lay r ws wide calls receives codes codes_are dispatches handling flash frames most

  right_done : (q : Step) (s : Shape) → Good s → RightOn' s (done lay r most q s) (packed' (Do q))
  right_done q s good = by_above (is_above most q s) refl
    where
      high : (a b : Bool) → (a && b) ≡ true → a ≡ true
      high a b e = (both_of a b e).0

      by_above : (c : Bool) → is_above most q s ≡ c
          → RightOn' s (if c then onto (older most s) (flat lay r (Do q) (newer most s)) else crossed lay r most q s) (packed' (Do q))
      by_above true e = right_above (Do q) s refl (high (is_high most s) _ e) good
      by_above false e =
          right_crossed k f m call handle p go lay r ws wide
          (right_stepped k f m call handle p go lay r ws wide calls receives codes codes_are dispatches handling flash) frames most q s good e

  right_newer : (a b : Code Step) (s : Shape) → all_pushed most s ≡ false → Good s → RightOn' s (by_newer lay r most a b s) (packed' (If a b))
  right_newer a b s e good = by_calm (is_calm a && is_calm b) refl
    where
      by_calm : (c : Bool) → (is_calm a && is_calm b) ≡ c
          → RightOn' s (if c then onto (older most s) (flat lay r (If a b) (newer most s)) else Refused NotTaken) (packed' (If a b))
      by_calm true calm = right_above (If a b) s calm (high_of most s e) good
      by_calm false calm = tt

  right_choice_of : (a b : Code Step) (s : Shape) → Good s
      → ((hs : List Operand) → length hs ≤ most → RightOn' (only hs) (stacked lay r most a (only hs)) (packed' a))
      → ((hs : List Operand) → length hs ≤ most → RightOn' (only hs) (stacked lay r most b (only hs)) (packed' b))
      → RightOn' s (stacked lay r most (If a b) s) (packed' (If a b))
  right_choice_of a b s good ha hb = by_all (all_pushed most s) refl
    where
      by_all : (c : Bool) → all_pushed most s ≡ c
          → RightOn' s (if c then by_pushed r most (stacked lay r most a) (stacked lay r most b) s else by_newer lay r most a b s) (packed' (If a b))
      by_all true e = right_if s (stacked lay r most a) (stacked lay r most b) (packed' a) (packed' b) e ha hb
      by_all false e = right_newer a b s e good

  -- ---- all code

  right_after : (s : Shape) (x : Made) (more : Shape → Made) (g h : Piece Firm History) → RightOn' s x g → ((s1 : Shape) → Good s1 → RightOn' s1 (more s1) h)
      → RightOn' s (after x more) (λ s1 w. and_then (g s1 w) h)
  right_after s (Refused why) more g h hx hm = tt
  right_after s (Makes a s1) more g h hx hm = behind_it (more s1) (hm s1 hx.0)
    where
      behind_it : (y : Made) → RightOn' s1 y h → RightOn' s (behind a y) (λ s2 w. and_then (g s2 w) h)
      behind_it (Refused why) hy = tt
      behind_it (Makes b s2) hy = (hy.0, λ s3 d w i q. alike_then h (run p go b) (hx.1 s3 d w i q) hy.1)

  pub right_stacked : (c : Code Step) (s : Shape) → Good s → RightOn' s (stacked lay r most c s) (packed' c)
  right_stacked Nothing s good = (good, λ s1 d w i q. gives i q)
  right_stacked (Then a b) s good =
      right_after s (stacked lay r most a s) (stacked lay r most b) (packed' a) (packed' b) (right_stacked a s good) (λ s1 good1. right_stacked b s1 good1)
  right_stacked (Do q) s good = right_done q s good
  right_stacked (If a b) s good =
      right_choice_of a b s good (λ hs le. right_stacked a (only hs) (good_few lay r ws p go most hs le))
      (λ hs le. right_stacked b (only hs) (good_few lay r ws p go most hs le))
  right_stacked (Loop c body next) s good =
      right_where s (repeated (after (stacked lay r most c empty) (with_newest r most)) (stacked lay r most body empty) (stacked lay r most next empty))
      (packed' (Loop c body next))
      (right_looped (stacked lay r most c empty) (stacked lay r most body empty) (stacked lay r most next empty) (packed' c) (packed' body) (packed' next)
      (right_stacked c empty good_empty) (right_stacked body empty good_empty) (right_stacked next empty good_empty))
  right_stacked Break s good = right_where s (Makes BreakOut empty) (packed' Break) (good_empty, λ s1 d w i q. leaves i (to_held lay r ws most s1 d q))
  right_stacked Continue s good = right_where s (Makes GoOn empty) (packed' Continue) (good_empty, λ s1 d w i q. leaves i (to_held lay r ws most s1 d q))
  right_stacked Return s good = right_return s

  -- The body of a procedure: nothing waits before it, nor behind it.
  pub stacked_body : (block : Block) (shape : Shape) → stacked lay r most m.body empty ≡ Makes block shape → is_empty shape ≡ true → (s : Firm)
      (d : Deciding State) (w : World History) → IsFair w → Held lay r ws empty s d
      → Alike (Held lay r ws empty) (Leaves lay r ws) (packed' m.body s w) (run p go block d w)
  stacked_body block shape made is_done s d w i q =
      subst (λ z. Alike (Held lay r ws z) (Leaves lay r ws) (packed' m.body s w) (run p go block d w)) (empty_is shape is_done)
      (held_does block shape (packed' m.body) (empty_is shape is_done)
      (subst (λ z. RightOn' empty z (packed' m.body)) made (right_stacked m.body empty good_empty)) s d w i q)
