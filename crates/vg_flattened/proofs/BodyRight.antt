-- That calls of flattened procedures do what calls of packed ones do: by induction on how deep they may nest.
use Rattle.std.specs.Prelude.{ℕ, zero, suc, ◌-◌, ◌<◌, ◌≤◌, ◌^◌, Bool, true, false, ◌==◌, ◌&&◌, nat_lt, List, [], ◌∷◌, ◌++◌, length, replicate, Option, Some, None, if◌then◌else◌}
use Rattle.std.proofs.Common.{◌≡◌, ◌⊎◌, inl, inr, refl, sym, ap, ◌∙◌, subst, arith}
use Rattle.vg_meaning.specs.History.{History, full}
use Rattle.vg_meaning.specs.World.{World}
use Rattle.vg_meaning.specs.Answer.{Wrong, Breaks, Continues, Returns, Over, Answer, Gives, Ends, Piece, go_on, over, and_then}
use Rattle.vg_meaning.specs.Calls.{returned}
use Rattle.vg_meaning.specs.Code.{performed}
use Rattle.vg_codes.specs.Codes.{Codes}
use Rattle.vg_firm.specs.Program.{Procedure as FirmProcedure, Program as FirmProgram}
use Rattle.vg_firm.specs.Meaning.{State as Firm, Caller as FirmCaller, step as firm_step, truth as firm_truth, checked, put, taking, take_from, of_width}
use Rattle.vg_firm.specs.Session.{arguments, entered as firm_entered, back_in, guarded, run_procedure, may_receive, may_be_on, may_enter, all_fit, handled as firm_handled, is_among}
use Rattle.vg_lin.specs.declared.instr.Operand.TheVariants.{Known}
use Rattle.vg_lin.specs.Program.{Procedure as LinProcedure, Program as LinProgram}
use Rattle.vg_lin.specs.Steps.{Interrupt}
use Rattle.vg_lin.specs.Values.{low}
use Rattle.vg_lin.specs.State.{State}
use Rattle.vg_lin.specs.Meaning.{language, begun, result_of}
use Rattle.vg_lin.specs.Structured.{Deciding, fresh, Caller as LinCaller, with_found, handle as lin_handle, resumed, body as lin_body, step as lin_step, truth as lin_truth}
use Rattle.vg_flatten_shapes.specs.declared.layout.Layout.{Layout}
use Rattle.vg_flatten.specs.Columns.{RamStands}
use Rattle.vg_flatten_shapes.specs.declared.room.Room.{Room}
use Rattle.vg_flatten_shapes.specs.Shapes.{only, empty}
use Rattle.vg_flatten_shapes.specs.Blocks.{Block, GiveBack, Both, structured}
use Rattle.vg_flatten_shapes.specs.Made.{Gives as Makes}
use Rattle.vg_flatten_control.specs.Flat.{flat}
use Rattle.vg_flattened.proofs.Alike.{IsFair, Alike, gives, leaves, overs, wrong}
use Rattle.vg_flattened.proofs.Related.{AreWidths, AreKept, Held, Leaves}
use Rattle.vg_flattened.proofs.Right.{Right, packed}
use Rattle.vg_flattened.proofs.CallRight.{Never, Returned, begins, alike_behind_both, ArePassed, Enters, AlikeCalls, AlikeHandling}
use Rattle.vg_flattened.proofs.CodeRight.{right_code, empty_is}
use Rattle.vg_flattened.proofs.StackedRight.{stacked_body}
use Rattle.vg_firm.specs.declared.step.Step.{Step as FirmStep}
use Rattle.vg_firm_typed.specs.Steps.{takes}
use Rattle.vg_firm_frames.specs.Frames.{over as over_values, Above as AboveValues}
use Rattle.vg_flatten.specs.Flattened.{zeroes, own_params, all_widths, result_width, whole, IsPushed, IsFlat, IsFit, AreFlat}
use Rattle.vg_flattened.proofs.Numbers.{low_same, low_within}
use Rattle.vg_flattened.proofs.Begun.{low_zero, widths_are, zeroed, kept_at_entry}

-- ---- interrupts

pub alike_handling : (lay : Layout) (p : LinProgram) (f : FirmProgram) (call : FirmCaller History) (go : LinCaller State) → AlikeCalls lay f p call go
    → ((vector : ℕ) → p.handler vector ≡ f.handler vector) → (r : Room) (ws : List ℕ)
    → AlikeHandling lay r ws (λ vector. firm_handled call (f.handler vector)) (λ vector. lin_handle (language p) go ((language p).handler vector))
alike_handling lay p f call go calls handler r ws hs vector s d w i q =
    subst (λ z. Alike (Held lay r ws (only hs)) (Leaves lay r ws) (firm_handled call (f.handler vector) s w) (lin_handle (language p) go z d w)) (sym
    (handler vector))
    (by_handler (f.handler vector))
  where
    behind : (width : ℕ) (s1 : Firm) (d1 : Deciding State) (w1 : World History) → IsFair w1 → Returned lay width 0 s s1 d1
        → Alike (Held lay r ws (only hs)) (Leaves lay r ws) (taking (λ v. go_on) s1 w1) (resumed (language p) Interrupt d.state d d1 w1)
    behind width s1 d1 w1 i1 (v, e1, e2, e3, e4, fit, small, held) =
        subst (λ z. Alike (Held lay r ws (only hs)) (Leaves lay r ws) (take_from z (λ v. go_on) s1 w1) (resumed (language p) Interrupt d.state d d1 w1))
        (sym e1)
        (gives i1 (record {
          waits = q.waits;
          kept = subst (λ z. AreKept r ws z s1.locals d.state.locals) (sym e3) (subst (λ z. AreKept r ws s.self z d.state.locals) (sym e2) q.kept);
          none = q.none;
          ram = held;
        }))

    nothing_passed : (b : Bool) → ArePassed b None [] []
    nothing_passed true = inr (refl, refl)
    nothing_passed false = refl

    by_call : (h : ℕ) → (call h 0 None s w ≡ over Wrong s w) ⊎ Enters lay f p call go h 0 None s w d.state.ram
        → Alike (Held lay r ws (only hs)) (Leaves lay r ws) (firm_handled call (Some h) s w) (lin_handle (language p) go (Some h) d w)
    by_call h (inl e) =
        subst (λ z. Alike (Held lay r ws (only hs)) (Leaves lay r ws) (and_then z (taking (λ v. go_on))) (lin_handle (language p) go (Some h) d w)) (sym e) wrong
    by_call h (inr en) =
        alike_behind_both (taking (λ v. go_on)) (resumed (language p) Interrupt d.state d) (en.alike [] (nothing_passed en.packed.receives))
        (behind en.packed.result)

    by_handler : (o : Option ℕ) → Alike (Held lay r ws (only hs)) (Leaves lay r ws) (firm_handled call o s w) (lin_handle (language p) go o d w)
    by_handler None = gives i q
    by_handler (Some h) = by_call h (calls h 0 None s w d.state.ram i q.ram)

-- a procedure calls no other than those that it names
pub alike_guarded : (lay : Layout) (f : FirmProgram) (p : LinProgram) (names : List ℕ) (call : FirmCaller History) (go : LinCaller State)
    → AlikeCalls lay f p call go → AlikeCalls lay f p (guarded names call) go
alike_guarded lay f p names call go calls q count self s w ram i held = by_name (is_among names q) refl
  where
    by_call : is_among names q ≡ true → (call q count self s w ≡ over Wrong s w) ⊎ Enters lay f p call go q count self s w ram
        → (guarded names call q count self s w ≡ over Wrong s w) ⊎ Enters lay f p (guarded names call) go q count self s w ram
    by_call e (inl h) = inl (ap (λ b. checked b (call q count self) s w) e ∙ h)
    by_call e (inr en) =
        inr (record {
          packed = en.packed;
          flattened = en.flattened;
          is_packed = en.is_packed;
          is_linear = en.is_linear;
          fit = en.fit;
          flat = en.flat;
          many = en.many;
          long = en.long;
          fits = en.fits;
          receives = en.receives;
          alike = λ xs h. subst (λ b. Alike (Returned lay en.packed.result count s) Never (checked b (call q count self) s w) (go q (fresh (begins p q xs ram)) w)) (sym e)
              (en.alike xs h);
        })

    by_name : (b : Bool) → is_among names q ≡ b
        → (guarded names call q count self s w ≡ over Wrong s w) ⊎ Enters lay f p (guarded names call) go q count self s w ram
    by_name true e = by_call e (calls q count self s w ram i held)
    by_name false e = inl (ap (λ b. checked b (call q count self) s w) e)

-- ---- one body

module _ (k : Codes) (lay : Layout) (f : FirmProgram) (p : LinProgram) (flat_all : AreFlat k lay f p) (call : FirmCaller History)
    (go : LinCaller State) (calls : AlikeCalls lay f p call go) (m : FirmProcedure) (lp : LinProcedure) (fit : IsFit m) (is : IsFlat lay m lp)
    (frames : (under : List ℕ) (q : FirmStep) (s : Firm) (w : World History) → takes q ≤ length s.values
    → AboveValues under (firm_step k f m (guarded m.calls call) (λ vector. firm_handled call (f.handler vector)) q s w)
    (firm_step k f m (guarded m.calls call) (λ vector. firm_handled call (f.handler vector)) q (over_values under s) w)) where
  abbrev r : Room
  r = is.room

  abbrev ws : List ℕ
  ws = all_widths m ++ replicate r.temps 4

  abbrev handle : ℕ → Piece Firm History
  handle = λ vector. firm_handled call (f.handler vector)

  abbrev wide : AreWidths r m.widths ws
  wide = widths_are r m is.receiver is.locals fit

  abbrev linear' : Block → Piece (Deciding State) History
  linear' = λ b. performed full (lin_step (language p) go) lin_truth (structured b)

  -- the first instructions
  zeroes_do : (c i : ℕ) (d : Deciding State) (w : World History)
      → linear' (zeroes c i) d w ≡ Gives (record d { state = record d.state { locals = zeroed c i d.state.locals } }) w
  zeroes_do zero i d w = refl
  zeroes_do (suc c) i d w = zeroes_do c (suc i) (record d { state = record d.state { locals = zeroed (suc zero) i d.state.locals } }) w

  lt_of : (a b : ℕ) → nat_lt a b ≡ true → a < b
  lt_of a b e = grind arith

  -- the bytes of a result hold it
  whole' : (b : Bool) (n v : ℕ) → v < 2 ^ 32 → v < 256 ^ n → low (if b then 4 else n) v ≡ v
  whole' true n v small lt = low_same v small
  whole' false n v small lt = low_within n n v (omega arith) lt

  -- what the end of a body is to its caller
  finished : (count : ℕ) (s : Firm) (a : Answer Firm History) (b : Answer (Deciding State) History) → Alike (Held lay r ws empty) (Leaves lay r ws) a b
      → Alike (Returned lay m.result count s) Never (and_then (returned a (put 0)) (taking (of_width m.result (back_in count s))))
      (returned (and_then b (linear' (GiveBack (result_width m) (Known 0)))) (over Wrong))
  finished count s _ _ (gives {s = s1} {t = d1} {w = w1} i q) =
      subst (λ z. Alike (Returned lay m.result count s) Never (take_from (0 ∷ s1.values) (of_width m.result (back_in count s)) s1 w1)
      (returned (and_then (with_found (result_of (result_width m) (Known 0) d1.state z) (λ x s2 w2. Gives (record s2 { result = x }) w2) d1 w1)
      (λ s2 w2. Ends Returns s2 w2)) (over Wrong)))
      (sym q.none) (by_width (nat_lt 0 (256 ^ m.result)) refl)
    where
      by_width : (b : Bool) → nat_lt 0 (256 ^ m.result) ≡ b → Alike (Returned lay m.result count s) Never (checked b (back_in count s 0) (record s1 { values = s1.values }) w1) (Gives
          (record d1 { result = low (result_width m) 0 }) w1)
      by_width true lt = gives i (0, refl, refl, refl, low_zero (result_width m), lt_of 0 (256 ^ m.result) lt, omega arith, q.ram)
      by_width false lt = wrong
  finished count s _ _ (leaves {why = Breaks} i q) = wrong
  finished count s _ _ (leaves {why = Continues} i q) = wrong
  finished count s _ _ (leaves {why = Returns} {s = s1} {t = d1} {w = w1} i (v, vs, e, er, small, held)) =
      subst (λ z. Alike (Returned lay m.result count s) Never (take_from z (of_width m.result (back_in count s)) s1 w1) (Gives d1 w1)) (sym e)
      (by_width (nat_lt v (256 ^ m.result)) refl)
    where
      by_width : (b : Bool) → nat_lt v (256 ^ m.result) ≡ b → Alike (Returned lay m.result count s) Never (checked b (back_in count s v) (record s1 { values = vs }) w1) (Gives d1 w1)
      by_width true lt =
          gives i (
            v,
            refl,
            refl,
            refl,
            er ∙ ap (λ n. low n v) is.given ∙ whole' m.receives m.result v small (lt_of v (256 ^ m.result) lt),
            lt_of v (256 ^ m.result) lt,
            small,
            held,
          )
      by_width false lt = wrong
  finished count s _ _ (leaves {why = Over why} i q) = absurd q
  finished count s _ _ overs = overs
  finished count s _ _ wrong = wrong

  entry_facts : (count : ℕ) (self : Option ℕ) (s : Firm) → may_enter m count self s ≡ true
      → (count ≡ m.params) × (length (arguments count s) ≡ count) × (all_fit m.widths (arguments count s) ≡ true) × (may_receive m self ≡ true)
      × (may_be_on m self ≡ true)
  entry_facts count self s e =
      let first = both_of ((count == m.params) && (length (arguments count s) == count) && all_fit m.widths (arguments count s)) (may_receive m self && may_be_on m self) e in
      let second = both_of ((count == m.params) && (length (arguments count s) == count)) (all_fit m.widths (arguments count s)) first.0 in
      let third = both_of (count == m.params) (length (arguments count s) == count) second.0 in
      let received = both_of (may_receive m self) (may_be_on m self) first.1 in
      (eq_of count m.params third.0, eq_of (length (arguments count s)) count third.1, second.1, received.0, received.1)
    where
      eq_of : (x y : ℕ) → (x == y) ≡ true → x ≡ y
      eq_of x y h = grind arith

      both_of : (a b : Bool) → (a && b) ≡ true → (a ≡ true) × (b ≡ true)
      both_of true true h = (refl, refl)
      both_of true false h = absurd (grind arith)
      both_of false b h = absurd (grind arith)

  -- the body, from the entry
  pub alike_body : (count : ℕ) (self : Option ℕ) (s : Firm) (xs ram : List ℕ) (w : World History) → IsFair w → may_enter m count self s ≡ true
      → ArePassed m.receives self (arguments count s) xs → RamStands lay.ram s.columns ram
      → (d : Deciding State) → d ≡ fresh (record { locals = begun ws xs; waiting = []; ram = ram })
      → Alike (Returned lay m.result count s) Never (run_procedure full k f call handle m count self s w) (lin_body (language p) go (structured (whole m is.block)) d w)
  alike_body count self s xs ram w i enter passed held d ed =
      subst (λ z. Alike (Returned lay m.result count s) Never (run_procedure full k f call handle m count self s w) (returned z (over Wrong)))
      (sym (ap (λ z. and_then z (linear' (Both is.block (GiveBack (result_width m) (Known 0))))) (zeroes_do (length m.widths - m.params) (own_params m) d w)))
      (finished count s _ _ (by_way is.made))
    where
      facts : (count ≡ m.params) × (length (arguments count s) ≡ count) × (all_fit m.widths (arguments count s) ≡ true) × (may_receive m self ≡ true)
          × (may_be_on m self ≡ true)
      facts = entry_facts count self s enter

      begun_d : Deciding State
      begun_d = record d { state = record d.state { locals = zeroed (length m.widths - m.params) (own_params m) d.state.locals } }

      kept : AreKept r ws self (arguments count s ++ replicate (length m.widths - count) 0) begun_d.state.locals
      kept =
          subst (λ z. AreKept r ws self (arguments count s ++ replicate (length m.widths - z) 0) begun_d.state.locals) (sym facts.0)
          (subst (λ z. AreKept r ws self (arguments count s ++ replicate (length m.widths - m.params) 0) (zeroed
          (length m.widths - m.params) (own_params m) z.state.locals)) (sym ed)
          (kept_at_entry r m is.receiver is.locals fit self (arguments count s) xs (facts.1 ∙ facts.0) facts.2 facts.3 is.on_objects facts.4 passed))

      begin : Held lay r ws empty (firm_entered m count self s) begun_d
      begin = record { waits = tt; kept = kept; none = ap (λ z. z.state.waiting) ed; ram = subst (λ z. RamStands lay.ram s.columns z.state.ram) (sym ed) held }

      does : flat lay r m.body empty ≡ Makes is.block is.shape → Right k f m (guarded m.calls call) handle p go lay r ws wide empty (flat lay r m.body empty)
          (packed k f m (guarded m.calls call) handle p go lay r ws wide m.body)
          → Alike (Held lay r ws empty) (Leaves lay r ws)
          (performed full (firm_step k f m (guarded m.calls call) handle) firm_truth m.body (firm_entered m count self s) w) (linear' is.block begun_d w)
      does made h =
          let h1 = subst (λ z. Right k f m (guarded m.calls call) handle p go lay r ws wide empty z
          (packed k f m (guarded m.calls call) handle p go lay r ws wide m.body)) made h in
          subst (λ z. Alike (Held lay r ws z) (Leaves lay r ws)
          (performed full (firm_step k f m (guarded m.calls call) handle) firm_truth m.body (firm_entered m count self s) w) (linear' is.block begun_d w))
          (empty_is is.shape is.done) (h1.1 (firm_entered m count self s) begun_d w i begin)

      by_way : (flat lay r m.body empty ≡ Makes is.block is.shape) ⊎ IsPushed lay m r is.block is.shape
          → Alike (Held lay r ws empty) (Leaves lay r ws)
          (performed full (firm_step k f m (guarded m.calls call) handle) firm_truth m.body (firm_entered m count self s) w) (linear' is.block begun_d w)
      by_way (inl made) =
          does made (right_code k f m (guarded m.calls call) handle p go lay r ws wide
          (alike_guarded lay f p m.calls call go calls) flat_all.passing flat_all.codes flat_all.numbers flat_all.dispatches
          (alike_handling lay p f call go calls flat_all.handler r ws) flat_all.flash m.body empty tt)
      by_way (inr pushed) =
          stacked_body k f m (guarded m.calls call) handle p go lay r ws wide
          (alike_guarded lay f p m.calls call go calls) flat_all.passing flat_all.codes flat_all.numbers flat_all.dispatches
          (alike_handling lay p f call go calls flat_all.handler r ws) flat_all.flash frames pushed.pushes is.block is.shape pushed.made is.done
          (firm_entered m count self s) begun_d w i begin
