-- That a step between pops and a push does what the packed step does.
use Rattle.std.specs.Prelude.{ℕ, suc, ◌+◌, ◌-◌, ◌≤◌, Bool, true, false, nat_le, List, [], ◌∷◌, ◌++◌, length, take, drop, Option, Some, None}
use Rattle.std.specs.Prelude.{if◌then◌else◌}
use Rattle.std.proofs.Common.{◌≡◌, refl, sym, ap, ◌∙◌, subst, arith}
use Rattle.std.proofs.lemmas.List.{length-append, length-drop, append_assoc}
use Rattle.vg_meaning.specs.History.{History}
use Rattle.vg_meaning.specs.World.{World}
use Rattle.vg_meaning.specs.Answer.{Gives, Piece, go_on, and_then}
use Rattle.vg_codes.specs.Codes.{Codes}
use Rattle.vg_firm.specs.declared.step.Step.{Step}
use Rattle.vg_firm.specs.Program.{Procedure as FirmProcedure, Program as FirmProgram}
use Rattle.vg_firm.specs.Meaning.{State as Firm, Caller as FirmCaller, step as firm_step}
use Rattle.vg_firm_typed.specs.Steps.{takes}
use Rattle.vg_firm_frames.specs.Frames.{over as over_values, Above as AboveValues, gives as gives_values}
use Rattle.vg_lin.specs.declared.instr.Operand.{Operand}
use Rattle.vg_lin.specs.declared.instr.Operand.TheVariants.{Local, Known}
use Rattle.vg_lin.specs.declared.instr.Plain.TheVariants.{Copy, Push}
use Rattle.vg_lin.specs.Program.{Program as LinProgram}
use Rattle.vg_lin.specs.Steps.{Goes}
use Rattle.vg_lin.specs.State.{State, using, pushes}
use Rattle.vg_lin.specs.Structured.{Deciding, Caller as LinCaller, lifted}
use Rattle.vg_lin_frames.specs.Frames.{IsStraight, over}
use Rattle.vg_lin_frames.proofs.Framed.{code_above, value_above}
use Rattle.vg_flatten_shapes.specs.declared.fault.Fault.TheVariants.{NotTaken, TooHigh}
use Rattle.vg_flatten_shapes.specs.declared.open.Truth.{Truth}
use Rattle.vg_flatten_shapes.specs.declared.layout.Layout.{Layout}
use Rattle.vg_flatten_shapes.specs.declared.room.Room.{Room}
use Rattle.vg_flatten_shapes.specs.Shapes.{Shape, only, temp}
use Rattle.vg_flatten_shapes.specs.Blocks.{Block, Skip, One, Both, Choice, structured}
use Rattle.vg_flatten_shapes.specs.Made.{Made, Gives as Makes, Refused, behind, after, by_temp, settled, settled_as}
use Rattle.vg_flatten_steps.specs.Steps.{stepped}
use Rattle.vg_flatten_pushed.specs.Pushed.{newer, older, count_of, pops, popped, lifts, pushed_on, put_back, worked, drawn, step_on, crossed, is_above}
use Rattle.vg_flatten.specs.Columns.{RamStands}
use Rattle.vg_flattened.proofs.Alike.{IsFair, Alike, gives, AlikePiece}
use Rattle.vg_flattened.proofs.AlikeLaws.{alike_then}
use Rattle.vg_flattened.proofs.Related.{ArePlaced, AreAt, AreWidths, AreKept, AreSame, Held, Leaves}
use Rattle.vg_flattened.proofs.Numbers.{low_same}
use Rattle.vg_flattened.proofs.Locals.{value_of_home, placed_temp}
use Rattle.vg_flattened.proofs.Right.{Right, Does, right_last, number_made, unit_behind}
use Rattle.vg_flattened.proofs.CodeRight.{and_then-and_then}
use Rattle.vg_flattened.proofs.Newer.{le_of, few_pushed, Crosses, crosses}
use Rattle.vg_flattened.proofs.Straight.{AreStraight, settled_straight, stepped_straight}
use Rattle.vg_flattened.proofs.StackHeld.{in_four, AreSmall, Stands, Piled, OnStack, Higher, alike_above, over_none, on_stack_by}
use Rattle.vg_flattened.proofs.Popping.{popped_placed, popped_in, laid, laid_both, kept_laid, at_laid, at_long, at_small, both_small, split, take_long}
use Rattle.vg_flattened.proofs.Popping.{drop_both, small_take, small_drop, run, behind_pops, pops_do, behind_lifts, lifts_do}
use Rattle.vg_flattened.proofs.Above.{IsGood, RightFrom, RightOn, good_few, first_does, piled_above, CountedAs, settled_long}

-- no test waits behind what was made
abbrev Rests : Made → Type 0
Rests (Makes b s) = s.truth ≡ None
Rests (Refused why) = Unit {0}

settled_rests : (r : Room) (s : Shape) → Rests (settled r s)
settled_rests r s = by_truth s.truth
  where
    by_room : (t : Truth) (o : Option ℕ)
        → Rests (by_temp o (λ to. Makes (Choice t (One (Copy to (Known 1))) (One (Copy to (Known 0)))) (only (Local to ∷ s.homes))))
    by_room t (Some to) = refl
    by_room t None = tt

    by_truth : (o : Option Truth) → Rests (settled_as r o s.homes)
    by_truth None = refl
    by_truth (Some t) = by_room t (temp r s.homes)

module _ (k : Codes) (f : FirmProgram) (m : FirmProcedure) (call : FirmCaller History) (handle : ℕ → Piece Firm History)
    (p : LinProgram) (go : LinCaller State) (lay : Layout) (r : Room) (ws : List ℕ) (wide : AreWidths r m.widths ws)
    (steps : (q : Step) (hs : List Operand) → ArePlaced r.locals hs
    → Right k f m call handle p go lay r ws wide (only hs) (stepped lay r q hs) (firm_step k f m call handle q))
    (frames : (under : List ℕ) (q : Step) (s : Firm) (w : World History) → takes q ≤ length s.values
    → AboveValues under (firm_step k f m call handle q s w) (firm_step k f m call handle q (over_values under s) w))
    (most : ℕ) where
  abbrev step' : Step → Piece Firm History
  step' = firm_step k f m call handle

  abbrev Right' : Shape → Made → Piece Firm History → Type 0
  Right' = Right k f m call handle p go lay r ws wide

  abbrev Does' : Shape → Shape → Piece Firm History → Block → Type 0
  Does' = Does k f m call handle p go lay r ws wide

  -- from states that F relates, where the oldest values are pushed behind it; and before it
  abbrev RightFrom' : (Firm → Deciding State → Type 0) → Made → Piece Firm History → Type 0
  RightFrom' = RightFrom lay r ws p go most

  abbrev RightOn' : Shape → Made → Piece Firm History → Type 0
  RightOn' = RightOn lay r ws p go most

  right_settle : (s : Shape) → ArePlaced r.locals s.homes → Right' s (settled r s) go_on
  right_settle s placed = by_truth s.truth refl
    where
      by_room : (x : Truth) → s.truth ≡ Some x → (o : Option ℕ) → temp r s.homes ≡ o
          → Right' s (by_temp o (λ to. Makes (Choice x (One (Copy to (Known 1))) (One (Copy to (Known 0)))) (only (Local to ∷ s.homes)))) go_on
      by_room x is (Some to) e = (
        placed_temp r s.homes to e placed,
        subst (λ z. Does' (record { truth = z; homes = s.homes }) (only (Local to ∷ s.homes)) go_on (Choice x (One (Copy to (Known 1))) (One
            (Copy to (Known 0)))))
            (sym is) (number_made k f m call handle p go lay r ws wide x s.homes to e placed),
      )
      by_room x is None e = tt

      by_truth : (o : Option Truth) → s.truth ≡ o → Right' s (settled_as r o s.homes) go_on
      by_truth None is = (placed, λ s1 d w i q. gives i (subst (λ z. Held lay r ws (record { truth = z; homes = s.homes }) s1 d) is q))
      by_truth (Some x) is = by_room x is (temp r s.homes) refl

  -- ---- a step on its values

  -- So many of the newest values are in the first temporaries, and those below them are pushed.
  record Drawn (n below : ℕ) (s : Firm) (d : Deciding State) : Type 0 where
    vs : List ℕ
    us : List ℕ
    values : s.values ≡ vs ++ us
    long : length vs ≡ n
    many : length us ≡ below
    small : AreSmall us
    at : AreAt (popped r.locals n) vs d.state.locals
    waits : d.state.waiting ≡ in_four us
    kept : AreKept r ws s.self s.locals d.state.locals
    ram : RamStands lay.ram s.columns d.state.ram

  module _ (q : Step) (rest : List Operand) (room : takes q + 2 ≤ r.temps) (short : suc (length rest) ≤ most) where
    abbrev n : ℕ
    n = takes q

    abbrev hs : List Operand
    hs = popped r.locals n

    -- the step on its values, above the others
    inside : (c : Block) (s2 : Shape) → IsStraight (structured c) → Does' (only hs) s2 (step' q) c → (s : Firm) (d : Deciding State) (w : World History) → IsFair w
        → (st : Drawn n (length rest) s d) → Alike (Higher st.us (Held lay r ws s2)) (Leaves lay r ws) (step' q s w) (run p go c d w)
    inside c s2 straight does s d w i st =
        subst (λ z. Alike (Higher st.us (Held lay r ws s2)) (Leaves lay r ws) (step' q (record s { values = z }) w) (run p go c d w)) (sym st.values)
        (subst (λ z. Alike (Higher st.us (Held lay r ws s2)) (Leaves lay r ws) (step' q (record s { values = st.vs ++ st.us }) w)
        (run p go c (record d { state = record d.state { waiting = z } }) w)) (sym st.waits)
        (alike_above {G = Held lay r ws s2} {L = Leaves lay r ws} {M = Leaves lay r ws} st.us
        (does (record s { values = st.vs }) low w i (record { waits = st.at; kept = st.kept; none = refl; ram = st.ram }))
        (frames st.us q (record s { values = st.vs }) w (let e = st.long in omega (arith, e)))
        (code_above p go (in_four st.us) (structured c) straight low w)))
      where
        low : Deciding State
        low = record d { state = record d.state { waiting = [] } }

    -- and then what it leaves is pushed
    abbrev Pushes : Block → (s2 shape : Shape) → Type 0
    Pushes e s2 shape = (us : List ℕ) → length us ≡ length rest → AreSmall us → (s1 : Firm) (d1 : Deciding State) (w1 : World History) → IsFair w1
        → Higher us (Held lay r ws s2) s1 d1 → Alike (OnStack lay r ws most shape) (Leaves lay r ws) (Gives s1 w1) (run p go e d1 w1)

    around : (a b e : Block) (s2 shape : Shape) → IsStraight (structured (Both a b)) → Does' (only hs) s2 (step' q) (Both a b) → Pushes e s2 shape
        → AlikePiece (Drawn n (length rest)) (OnStack lay r ws most shape) (Leaves lay r ws) (step' q) (run p go (Both a (Both b e)))
    around a b e s2 shape straight does push s d w i st =
        subst (λ z. Alike (OnStack lay r ws most shape) (Leaves lay r ws) (step' q s w) z) (and_then-and_then (run p go a d w) (run p go b) (run p go e))
        (subst (λ z. Alike (OnStack lay r ws most shape) (Leaves lay r ws) z (and_then (run p go (Both a b) d w) (run p go e))) (unit_behind (step' q s w))
        (alike_then go_on (run p go e) (inside (Both a b) s2 straight does s d w i st)
        (λ s1 d2 w1 i1 h. push st.us st.many st.small s1 d2 w1 i1 h)))

    same_held : (s2 : Shape) → s2.truth ≡ None → (low : Firm) (d : Deciding State) → Held lay r ws s2 low d → AreSame lay r ws s2.homes low d.state
    same_held s2 e low d h = subst (λ z. Held lay r ws (record { truth = z; homes = s2.homes }) low d) e h

    -- all are pushed then
    on_stack : (gs : List Operand) → length gs ≤ most → (s : Firm) (d : Deciding State) → Stands lay r ws (length gs) s d.state
        → OnStack lay r ws most (only gs) s d
    on_stack gs le s d st = on_stack_by lay r ws most (only gs) s d (few_pushed most gs le) st

    push_none : (s2 : Shape) → s2.truth ≡ None → s2.homes ≡ [] → Pushes Skip s2 (only rest)
    push_none s2 et eh us long small s1 d1 w1 i1 h =
        gives i1 (subst (λ z. OnStack lay r ws most (only rest) z d1) (sym h.values)
        (subst (λ z. OnStack lay r ws most (only rest) (over_values us h.low) z) (sym h.waits)
        (on_stack rest (omega (arith, short)) (over_values us h.low) (over (in_four us) h.deciding)
        (over_none lay r ws us (length rest) long small h.low h.deciding.state
        (subst (λ z. AreSame lay r ws z h.low h.deciding.state) eh (same_held s2 et h.low h.deciding h.there))))))

    push_one : (s2 : Shape) (a : Operand) → s2.truth ≡ None → s2.homes ≡ a ∷ [] → Pushes (One (Push 4 a)) s2 (only (Known 0 ∷ rest))
    push_one s2 a et eh us long small s1 d1 w1 i1 h =
        subst (λ z. Alike On (Leaves lay r ws) (Gives z w1) (run p go (One (Push 4 a)) d1 w1)) (sym h.values)
        (subst (λ z. Alike On (Leaves lay r ws) (Gives (over_values us h.low) w1) (run p go (One (Push 4 a)) z w1))
        (sym h.waits)
        (by_values h.low.values (subst (λ z. AreSame lay r ws z h.low h.deciding.state) eh (same_held s2 et h.low h.deciding h.there)).waits))
      where
        On : Firm → Deciding State → Type 0
        On = OnStack lay r ws most (only (Known 0 ∷ rest))

        t : State
        t = h.deciding.state

        same : AreSame lay r ws (a ∷ []) h.low t
        same = subst (λ z. AreSame lay r ws z h.low h.deciding.state) eh (same_held s2 et h.low h.deciding h.there)

        d2 : Deciding State
        d2 = over (in_four us) h.deciding

        by_values : (vs : List ℕ) → AreAt (a ∷ []) vs t.locals
            → Alike On (Leaves lay r ws) (Gives (record h.low { values = vs ++ us }) w1) (run p go (One (Push 4 a)) d2 w1)
        by_values [] at = absurd at
        by_values (v ∷ x ∷ vs) at = absurd at.1
        by_values (v ∷ []) at =
            subst (λ z. Alike On (Leaves lay r ws) (Gives (record h.low { values = v ∷ us }) w1) z)
            (sym (ap (λ z. lifted (using z (λ x. Goes (pushes 4 x d2.state) w1.outside)) d2 w1) (value_above (in_four us) a t ∙ value_of_home a v t at.0.0)))
            (gives i1 (on_stack (Known 0 ∷ rest) short _ _ (record {
              count = ap suc long;
              small = (at.0.1, small);
              waits =
                  ap (λ z. record { width = 4; value = z } ∷ (t.waiting ++ in_four us)) (low_same v at.0.1)
                  ∙ ap (λ z. record { width = 4; value = v } ∷ (z ++ in_four us)) same.none;
              kept = same.kept;
              ram = same.ram;
            })))

    abbrev RightDrawn : Made → Type 0
    RightDrawn made = RightFrom' (Drawn n (length rest)) made (step' q)

    on_pushed : (a b : Block) (s2 : Shape) → IsStraight (structured (Both a b)) → s2.truth ≡ None → Does' (only hs) s2 (step' q) (Both a b)
        → RightDrawn (behind a (behind b (pushed_on rest s2.homes)))
    on_pushed a b s2 straight et does = by_homes s2.homes refl
      where
        by_homes : (gs : List Operand) → s2.homes ≡ gs → RightDrawn (behind a (behind b (pushed_on rest gs)))
        by_homes [] eh = (good_few lay r ws p go most rest (omega (arith, short)), around a b Skip s2 (only rest) straight does (push_none s2 et eh))
        by_homes (x ∷ []) eh =
            (good_few lay r ws p go most (Known 0 ∷ rest) short, around a b (One (Push 4 x)) s2 (only (Known 0 ∷ rest)) straight does (push_one s2 x et eh))
        by_homes (x ∷ y ∷ gs) eh = tt

    on_settled : (a : Block) (s1 : Shape) → IsStraight (structured a) → Does' (only hs) s1 (step' q) a → (y : Made) → AreStraight y → Rests y → Right' s1 y go_on
        → RightDrawn (behind a (after y (λ s2. pushed_on rest s2.homes)))
    on_settled a s1 straight does (Refused why) hs1 hr hy = tt
    on_settled a s1 straight does (Makes b s2) hs1 hr hy =
        on_pushed a b s2 (straight, hs1) hr (right_last k f m call handle p go lay r ws wide (only hs) s1 a (Makes b s2) (step' q) does hy).1

    on_stepped : (x : Made) → AreStraight x → Right' (only hs) x (step' q) → RightDrawn (after x (put_back r rest))
    on_stepped (Refused why) straight hx = tt
    on_stepped (Makes a s1) straight hx =
        on_settled a s1 straight hx.1 (settled r s1) (settled_straight r s1) (settled_rests r s1) (right_settle s1 hx.0)

    right_worked : RightDrawn (worked lay r q rest)
    right_worked =
        on_stepped (stepped lay r q hs) (stepped_straight lay r q hs (popped_in (r.locals + r.temps) r.locals n (omega (arith, room))))
        (steps q hs (popped_placed r.locals n))

  -- ---- the values of a step are drawn

  -- the newer ones are copied up, and as many as are missing are popped below them
  draws : (n j : ℕ) (news pushed : List Operand) → ArePlaced r.locals news → length news + j ≡ n → j ≤ length pushed → n ≤ r.temps
      → AlikePiece (Piled lay r ws (length pushed) (only news)) (Drawn n (length (drop j pushed))) (Leaves lay r ws) go_on
      (run p go (Both (lifts (r.locals + j) news) (pops r.locals j)))
  draws n j news pushed placed sum le room s d w i q =
      subst (λ z. Alike (Drawn n (length (drop j pushed))) (Leaves lay r ws) (Gives s w) z) (sym does) (gives i there)
    where
      low : Firm
      low = q.high.low

      t : Deciding State
      t = q.high.deciding

      same : AreSame lay r ws news low t.state
      same = q.high.there

      us : List ℕ
      us = q.us

      vs : List ℕ
      vs = low.values

      is_d : d ≡ over (in_four us) t
      is_d = q.high.waits

      news_long : length vs ≡ length news
      news_long = at_long news vs t.state.locals same.waits

      d1 : Deciding State
      d1 = behind_lifts (r.locals + j) vs (over (in_four us) t)

      d2 : Deciding State
      d2 = behind_pops r.locals j (take j us) (drop j us) d1

      does : run p go (Both (lifts (r.locals + j) news) (pops r.locals j)) d w ≡ Gives d2 w
      does =
          ap (λ z. run p go (Both (lifts (r.locals + j) news) (pops r.locals j)) z w) is_d
          ∙ ap (λ z. and_then z (run p go (pops r.locals j))) (lifts_do p go r.locals j news vs (over (in_four us) t) w placed same.waits)
          ∙ pops_do p go r.locals j (take j us) (drop j us) d1 w (take_long j us (let e = q.many in omega (arith, e, le)))
          (ap (λ z. z ++ in_four us) same.none ∙ ap in_four (sym (split j us)))

      laid_is : d2.state.locals ≡ laid r.locals n (vs ++ take j us) t.state.locals
      laid_is =
          laid_both r.locals j vs (take j us) t.state.locals
          ∙ ap (λ z. laid r.locals z (vs ++ take j us) t.state.locals) (let e = news_long in omega (arith, e, sum))

      all_long : length (vs ++ take j us) ≡ n
      all_long =
          length-append vs (take j us) ∙ ap (λ z. length vs + z) (take_long j us (let e = q.many in omega (arith, e, le)))
          ∙ (let e = news_long in omega (arith, e, sum))

      there : Drawn n (length (drop j pushed)) s d2
      there =
          subst (λ z. Drawn n (length (drop j pushed)) z d2) (sym q.high.values)
          (record {
            vs = vs ++ take j us;
            us = drop j us;
            values = ap (λ z. vs ++ z) (sym (split j us)) ∙ sym (append_assoc vs (take j us) (drop j us));
            long = all_long;
            many = drop_both j us pushed q.many;
            small = small_drop j us q.small;
            at = subst (AreAt (popped r.locals n) (vs ++ take j us)) (sym laid_is)
                (at_laid r m.widths ws wide low.self low.locals n (vs ++ take j us) t.state.locals room all_long
                (both_small vs (take j us) (at_small news vs t.state.locals same.waits) (small_take j us q.small)) same.kept);
            waits = refl;
            kept = subst (AreKept r ws low.self low.locals) (sym laid_is)
                (kept_laid r ws low.self low.locals n (vs ++ take j us) t.state.locals same.kept);
            ram = same.ram;
          })

  -- ---- a step that takes pushed values, or leaves one

  right_step_on : (q : Step) (news pushed : List Operand) → ArePlaced r.locals news → length news ≤ takes q
      → (takes q ≤ length news + length pushed → suc (length (drop (takes q - length news) pushed)) ≤ most)
      → RightFrom' (Piled lay r ws (length pushed) (only news)) (step_on lay r q news pushed) (step' q)
  right_step_on q news pushed placed few short = by_taken (nat_le (takes q) (length news + length pushed)) refl
    where
      j : ℕ
      j = takes q - length news

      by_room : takes q ≤ length news + length pushed → (b : Bool) → nat_le (takes q + 2) r.temps ≡ b
          → RightFrom' (Piled lay r ws (length pushed) (only news))
          (if b then after (drawn r j news pushed) (λ s. worked lay r q s.homes) else Refused TooHigh) (step' q)
      by_room le true e =
          let room = le_of (takes q + 2) r.temps e in
          first_does lay r ws p go most (Piled lay r ws (length pushed) (only news)) (Drawn (takes q) (length (drop j pushed)))
          (Both (lifts (r.locals + j) news) (pops r.locals j))
          (worked lay r q (drop j pushed)) (step' q)
          (draws (takes q) j news pushed placed (omega (arith, few)) (omega (arith, le)) (omega (arith, room)))
          (right_worked q (drop j pushed) room (short le))
      by_room le false e = tt

      by_taken : (b : Bool) → nat_le (takes q) (length news + length pushed) ≡ b
          → RightFrom' (Piled lay r ws (length pushed) (only news))
          (if b then (if nat_le (takes q + 2) r.temps then after (drawn r j news pushed) (λ s. worked lay r q s.homes) else Refused TooHigh)
          else Refused NotTaken) (step' q)
      by_taken true e = by_room (le_of (takes q) (length news + length pushed) e) (nat_le (takes q + 2) r.temps) refl
      by_taken false e = tt

  -- where a test that waits above the pushed values becomes a number first
  pub right_crossed : (q : Step) (s : Shape) → IsGood lay r ws p go most s → is_above most q s ≡ false → RightOn' s (crossed lay r most q s) (step' q)
  right_crossed q s good below =
      by_settled (settled r (newer most s)) (settled_straight r (newer most s)) (settled_rests r (newer most s)) (settled_long r (newer most s))
      (right_settle (newer most s) good.0)
    where
      Settled : Shape → Firm → Deciding State → Type 0
      Settled shape = Piled lay r ws (length (older most s)) shape

      is : Crosses most (takes q) s
      is = crosses most (takes q) s below

      few_left : (j : ℕ) → j ≡ count_of (newer most s) → takes q ≤ j + length (older most s) → suc (length (drop (takes q - j) (older most s))) ≤ most
      few_left j e le =
          subst (λ z. suc z ≤ most) (sym (length-drop (takes q - j) (older most s)))
          (subst (λ z. suc (length (older most s) - (takes q - z)) ≤ most) (sym e) (is.left (subst (λ z. takes q ≤ z + length (older most s)) e le)))

      by_settled : (x : Made) → AreStraight x → Rests x → CountedAs (count_of (newer most s)) x → Right' (newer most s) x go_on
          → RightOn' s (after x (λ s1. step_on lay r q s1.homes (older most s))) (step' q)
      by_settled (Refused why) straight rests long hx = tt
      by_settled (Makes a s1) straight rests long hx =
          first_does lay r ws p go most (OnStack lay r ws most s) (Settled (only s1.homes)) a (step_on lay r q s1.homes (older most s)) (step' q)
          (subst (λ z. AlikePiece (OnStack lay r ws most s) (Settled (record { truth = z; homes = s1.homes })) (Leaves lay r ws) go_on (run p go a)) rests
          (piled_above lay r ws p go (newer most s) s1 a (length (older most s)) go_on straight (λ under s2 d w i h. gives_values) hx.1))
          (right_step_on q s1.homes (older most s) hx.0 (let c = is.few in omega (arith, long, c))
          (few_left (length s1.homes) long))
