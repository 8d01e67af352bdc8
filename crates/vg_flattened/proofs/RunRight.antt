-- That a flattened program does what the packed one does: its bodies stand, and its calls and its whole runs are alike.
use Rattle.std.specs.Prelude.{ℕ, zero, suc, ◌+◌, Bool, true, false, ◌==◌, ◌&&◌, List, [], ◌∷◌, ◌++◌, length, map, replicate, Option, Some, None, slice_get}
use Rattle.std.specs.Prelude.{if◌then◌else◌}
use Rattle.std.proofs.Common.{◌≡◌, ◌⊎◌, inl, inr, refl, sym, ap, ◌∙◌, subst, arith}
use Rattle.vg_meaning.specs.History.{Calling, History, full}
use Rattle.vg_meaning.specs.World.{World}
use Rattle.vg_meaning.specs.Answer.{End, OutOfClock, Wrong, Signal, Over, Answer, Gives, Ends, Piece, go_on, over, and_then}
use Rattle.vg_meaning.specs.Calls.{opened}
use Rattle.vg_meaning.specs.Interrupts.{idles}
use Rattle.vg_meaning.specs.Code.{Code}
use Rattle.vg_codes.specs.Codes.{Codes}
use Rattle.vg_firm.specs.Program.{Procedure as FirmProcedure, Program as FirmProgram}
use Rattle.vg_firm.specs.Meaning.{State as Firm, Caller as FirmCaller, with_found as firm_found, checked, taking, take_from}
use Rattle.vg_firm.specs.Session.{arguments, run_procedure, may_receive, may_be_on, may_enter, all_fit, handled as firm_handled, called as firm_called, running as firm_running, first_state as firm_first}
use Rattle.vg_lin.specs.declared.instr.Instr.{Instr}
use Rattle.vg_lin.specs.Program.{Procedure as LinProcedure, Program as LinProgram}
use Rattle.vg_lin.specs.Steps.{Entry, Result, code_of, fetch}
use Rattle.vg_lin.specs.State.{State, Waiting}
use Rattle.vg_lin.specs.Meaning.{language, operands, values, begun, widths_of, name_of, call_of, codes_in, values_of, same_widths, enter, entry_of, entry_with, first_state}
use Rattle.vg_lin.specs.Structured.{Step, Deciding, fresh, Caller as LinCaller, with_found, entered, resumed, handle as lin_handle, body as lin_body, called as lin_called, running as lin_running, To, step as lin_step}
use Rattle.vg_lin.specs.Stands.{Stands, Next, nothing, AllStand, StandsFirst}
use Rattle.vg_lin.specs.Follows.{IsLegal}
use Rattle.vg_lin.specs.Sessions.{world}
use Rattle.vg_lin.proofs.Followed.{follows_sessions}
use Rattle.vg_flatten_shapes.specs.declared.open.Open.{Open}
use Rattle.vg_flatten_shapes.specs.declared.layout.Layout.{Layout}
use Rattle.vg_flatten_shapes.specs.declared.room.Room.{Room}
use Rattle.vg_flatten_shapes.specs.Shapes.{only}
use Rattle.vg_flatten_shapes.specs.Blocks.{Block, Skip, structured, open_code}
use Rattle.vg_flattened.proofs.Alike.{IsFair, Alike, gives, leaves, overs, wrong, AlikePiece}
use Rattle.vg_flattened.proofs.AlikeLaws.{alike_then, alike_opened, alike_idles}
use Rattle.vg_flattened.proofs.Related.{AreKept, Held, Leaves}
use Rattle.vg_flatten_shapes.proofs.Temps.{some_is, none_is_not}
use Rattle.vg_flattened.proofs.CallRight.{Never, Returned, begins, alike_behind_both, ArePassed, Enters, AlikeCalls}
use Rattle.vg_flatten_shapes.specs.Blocks.{set_in}
use Rattle.vg_flattened.proofs.Standing.{Lies, stands}
use Rattle.vg_flatten.specs.Flattened.{receivers, with_receiver_width, widened, wide_params, main_args, whole, calls_main, start_of, AreFlat}
use Rattle.vg_flatten.specs.Columns.{RamStands}
use Rattle.vg_firm_frames.proofs.Framed.{step_stays}
use Rattle.vg_flattened.proofs.BodyRight.{alike_handling, alike_body}
use Rattle.vg_flattened.specs.Runs.{FollowsPacked}

-- ---- where instructions stand

fetch_of : (ps : List LinProcedure) (q : ℕ) (m : LinProcedure) → slice_get ps q ≡ Some m → (at : ℕ) → fetch (codes_in ps) q at ≡ slice_get m.code at
fetch_of [] q m e at = none_is_not m e
fetch_of (a ∷ ps) zero m e at = ap (λ x. slice_get x.code at) (some_is a m e)
fetch_of (a ∷ ps) (suc q) m e at = fetch_of ps q m e at

lies_from : (code : List Instr) (x y : ℕ) (os : List Open) (at : ℕ) → ((i : ℕ) (z : Instr) → slice_get (map (set_in x y) os) i ≡ Some z
    → slice_get code (at + i) ≡ Some z)
    → Lies code x y os at
lies_from code x y [] at h = tt
lies_from code x y (o ∷ os) at h = (
  ap (slice_get code) (omega arith) ∙ h zero (set_in x y o) refl,
  lies_from code x y os (suc at) (λ i z e. ap (slice_get code) (omega arith) ∙ h (suc i) z e),
)

-- ---- answers

abbrev world_of : {S : Type 0} → Answer S History → World History
world_of (Gives s w) = w
world_of (Ends why s w) = w

abbrev signal_of : {S : Type 0} → Answer S History → Option Signal
signal_of (Gives s w) = None
signal_of (Ends why s w) = Some why

abbrev reason_of : Signal → Option End
reason_of (Over why) = Some why
reason_of _ = None

-- where the one run is over for a legal reason, so is the other
over_same : {G : Firm → Deciding State → Type 0} {L : Signal → Firm → Deciding State → Type 0} (a : Answer Firm History) (b : Answer (Deciding State) History)
    (t : Firm) (v : World History) (why : End) → ((x : End) (s1 : Firm) (d1 : Deciding State) → L (Over x) s1 d1 → ⊥) → IsLegal why → Alike G L a b
    → a ≡ Ends (Over why) t v → (d : Deciding State) × (b ≡ Ends (Over why) d v)
over_same _ _ t v why no' legal (gives i q) e = none_is_not (Over why) (ap signal_of e)
over_same {L = L} _ _ t v why no' legal (leaves {why = y} {s = s1} {t = d1} i q) e =
    absurd (no' why s1 d1 (subst (λ z. L z s1 d1) (some_is y (Over why) (ap signal_of e)) q))
over_same _ _ t v why no' legal (overs {why = y} {s = s1} {t = d1} {w = w1}) e = (
  d1,
  ap (λ z. Ends z d1 w1) (some_is (Over y) (Over why) (ap signal_of e)) ∙ ap (λ z. Ends (Over why) d1 z) (ap world_of e),
)
over_same _ _ t v why no' legal (wrong {s = s1} {w = w1}) e =
    absurd (subst IsLegal (sym (some_is Wrong why (ap reason_in (ap signal_of e)))) legal)
  where
    reason_in : Option Signal → Option End
    reason_in (Some x) = reason_of x
    reason_in None = None

module _ (k : Codes) (lay : Layout) (f : FirmProgram) (p : LinProgram) (flat : AreFlat k lay f p) where
  -- the block of each procedure
  abbrev pub block_at : (q : ℕ) (o : Option FirmProcedure) → slice_get f.procedures q ≡ o → Block
  block_at q (Some m) e = whole m (flat.flats q m e).3.block
  block_at q None e = Skip

  abbrev pub bodies : ℕ → Code Step
  bodies q = structured (block_at q (slice_get f.procedures q) refl)

  all_stand : AllStand (codes_in p.procedures) bodies
  all_stand q = by_found (slice_get f.procedures q) refl
    where
      by_found : (o : Option FirmProcedure) (e : slice_get f.procedures q ≡ o)
          → (end : ℕ) × Stands (code_of (slice_get (codes_in p.procedures) q)) 0 0 (structured (block_at q o e)) 0 (Next end)
      by_found None e = (0, nothing)
      by_found (Some m) e = (
        _,
        stands (code_of (slice_get (codes_in p.procedures) q)) (whole m (flat.flats q m e).3.block) 0 0 0
            (lies_from (code_of (slice_get (codes_in p.procedures) q)) 0 0 (open_code (whole m (flat.flats q m e).3.block) 0) 0
            (λ i z h. fetch_of p.procedures q (flat.flats q m e).0 (flat.flats q m e).1 (0 + i)
            ∙ ap (λ c. slice_get c (0 + i)) (flat.flats q m e).3.code
            ∙ ap (slice_get (map (set_in 0 0) (open_code (whole m (flat.flats q m e).3.block) 0))) (omega arith) ∙ h)),
      )

  start_fetch : (at : ℕ) → fetch (codes_in p.procedures) p.start at ≡ slice_get (start_of f.main flat.main.receives).code at
  start_fetch at = fetch_of p.procedures p.start (start_of f.main flat.main.receives) flat.start at

  first : StandsFirst (code_of (slice_get (codes_in p.procedures) p.start)) (calls_main f.main flat.main.receives)
  first = record { first = start_fetch 0; idle = start_fetch 1; again = start_fetch 2 }

  -- ---- calls

  -- what is found of a call, and that what it enters does the same
  abbrev IsEntered : (go : FirmProcedure → Piece Firm History) → (lin : Code Step → Piece (Deciding State) History) → (q count : ℕ) → (self : Option ℕ)
      → Firm → World History → List ℕ → (o : Option FirmProcedure) → slice_get f.procedures q ≡ o → Type 0
  IsEntered go lin q count self s w ram o e =
      (firm_found o (λ m. checked (may_enter m count self s) (go m)) s w ≡ over Wrong s w)
      ⊎ ((m : FirmProcedure) × (o ≡ Some m) × (may_enter m count self s ≡ true) × ((xs : List ℕ) → ArePassed m.receives self (arguments count s) xs
      → Alike (Returned lay m.result count s) Never (firm_found o (λ m1. checked (may_enter m1 count self s) (go m1)) s w)
      (lin (structured (block_at q o e)) (fresh (begins p q xs ram)) w)))

  entered_as : (go : FirmProcedure → Piece Firm History) (lin : Code Step → Piece (Deciding State) History) (q count : ℕ) (self : Option ℕ)
      (s : Firm) (w : World History) (ram : List ℕ)
      → ((m : FirmProcedure) (e : slice_get f.procedures q ≡ Some m) → may_enter m count self s ≡ true → (xs : List ℕ)
      → ArePassed m.receives self (arguments count s) xs
      → Alike (Returned lay m.result count s) Never (go m s w) (lin (structured (block_at q (Some m) e)) (fresh (begins p q xs ram)) w))
      → (o : Option FirmProcedure) (e : slice_get f.procedures q ≡ o) → IsEntered go lin q count self s w ram o e
  entered_as go lin q count self s w ram does None e = inl refl
  entered_as go lin q count self s w ram does (Some m) e = by_enter (may_enter m count self s) refl
    where
      by_enter : (b : Bool) → may_enter m count self s ≡ b → IsEntered go lin q count self s w ram (Some m) e
      by_enter false enters = inl (ap (λ b. checked b (go m) s w) enters)
      by_enter true enters =
          inr (
            m,
            refl,
            enters,
            λ xs passed. subst (λ b. Alike (Returned lay m.result count s) Never (checked b (go m) s w)
                (lin (structured (block_at q (Some m) e)) (fresh (begins p q xs ram)) w)) (sym enters) (does m e enters xs passed),
          )

  facts_of : (m : FirmProcedure) (count : ℕ) (self : Option ℕ) (s : Firm) → may_enter m count self s ≡ true
      → (count ≡ m.params) × (length (arguments count s) ≡ count) × (may_receive m self ≡ true) × (all_fit m.widths (arguments count s) ≡ true)
  facts_of m count self s e =
      let first = both_of ((count == m.params) && (length (arguments count s) == count) && all_fit m.widths (arguments count s)) (may_receive m self && may_be_on m self) e in
      let second = both_of ((count == m.params) && (length (arguments count s) == count)) (all_fit m.widths (arguments count s)) first.0 in
      let third = both_of (count == m.params) (length (arguments count s) == count) second.0 in
      (eq_of count m.params third.0, eq_of (length (arguments count s)) count third.1, (both_of (may_receive m self) (may_be_on m self) first.1).0, second.1)
    where
      eq_of : (x y : ℕ) → (x == y) ≡ true → x ≡ y
      eq_of x y h = grind arith

      both_of : (a b : Bool) → (a && b) ≡ true → (a ≡ true) × (b ≡ true)
      both_of true true h = (refl, refl)
      both_of true false h = absurd (grind arith)
      both_of false b h = absurd (grind arith)

  enters_as : (call : FirmCaller History) (lin : LinCaller State) (q count : ℕ) (self : Option ℕ) (s : Firm) (w : World History) (ram : List ℕ)
      → (call q count self s w ≡ over Wrong s w)
      ⊎ ((m : FirmProcedure) × (slice_get f.procedures q ≡ Some m) × (may_enter m count self s ≡ true) × ((xs : List ℕ)
      → ArePassed m.receives self (arguments count s) xs
      → Alike (Returned lay m.result count s) Never (call q count self s w) (lin q (fresh (begins p q xs ram)) w)))
      → (call q count self s w ≡ over Wrong s w) ⊎ Enters lay f p call lin q count self s w ram
  enters_as call lin q count self s w ram (inl e) = inl e
  enters_as call lin q count self s w ram (inr (m, e, enters, does)) =
      let facts = facts_of m count self s enters in
      inr (record {
        packed = m;
        flattened = (flat.flats q m e).0;
        is_packed = e;
        is_linear = (flat.flats q m e).1;
        fit = (flat.flats q m e).2;
        flat = (flat.flats q m e).3;
        many = facts.0;
        long = facts.1;
        fits = facts.3;
        receives = facts.2;
        alike = does;
      })

  does_call : (n : ℕ) → AlikeCalls lay f p (firm_called full k f n) (lin_called (language p) bodies n) → (q count : ℕ) (self : Option ℕ) (s : Firm)
      (w : World History) (ram : List ℕ) → IsFair w → RamStands lay.ram s.columns ram
      → (m : FirmProcedure) (e : slice_get f.procedures q ≡ Some m) → may_enter m count self s ≡ true → (xs : List ℕ)
      → ArePassed m.receives self (arguments count s) xs
      → Alike (Returned lay m.result count s) Never
      (opened full (Calling m.method) (run_procedure full k f (firm_called full k f n) (λ vector. firm_handled (firm_called full k f n)
      (f.handler vector)) m count self) s w)
      (with_found ((language p).named q) (λ a. opened full a (lin_body (language p) (lin_called (language p) bodies n) (structured (block_at q (Some m) e))))
      (fresh (begins p q xs ram)) w)
  does_call n hn q count self s w ram i held m e enters xs passed =
      subst (λ z. Alike (Returned lay m.result count s) Never
      (opened full (Calling m.method) (run_procedure full k f (firm_called full k f n) (λ vector. firm_handled (firm_called full k f n)
      (f.handler vector)) m count self) s w)
      (with_found z (λ a. opened full a (lin_body (language p) (lin_called (language p) bodies n) (structured (block_at q (Some m) e)))) start w))
      (sym (ap name_of (flat.flats q m e).1 ∙ ap call_of (flat.flats q m e).3.method))
      (alike_opened {G = Start} {J = Returned lay m.result count s} {L = Never} (Calling m.method)
      (run_procedure full k f (firm_called full k f n) (λ vector. firm_handled (firm_called full k f n) (f.handler vector)) m count self)
      (lin_body (language p) (lin_called (language p) bodies n) (structured (block_at q (Some m) e)))
      (λ s1 d1 w1 i1 st. subst (λ z. Alike (Returned lay m.result count s) Never
      (run_procedure full k f (firm_called full k f n) (λ vector. firm_handled (firm_called full k f n) (f.handler vector)) m count self z w1)
      (lin_body (language p) (lin_called (language p) bodies n) (structured (block_at q (Some m) e)) d1 w1)) (sym st.0)
      (alike_body k lay f p flat (firm_called full k f n) (lin_called (language p) bodies n) hn m (flat.flats q m e).0 (flat.flats q m e).2
      (flat.flats q m e).3 (λ under q1 s2 w2 le. step_stays under k f m n q1 s2 w2 le) count self s xs ram w1 i1 enters passed held d1
      (st.1 ∙ ap (λ z. fresh (record { locals = begun (widths_of z) xs; waiting = []; ram = ram })) (flat.flats q m e).1
      ∙ ap (λ z. fresh (record { locals = begun z xs; waiting = []; ram = ram })) (flat.flats q m e).3.widths)))
      s start w i (refl, refl))
    where
      start : Deciding State
      start = fresh (begins p q xs ram)

      Start : Firm → Deciding State → Type 0
      Start s1 d1 = (s1 ≡ s) × (d1 ≡ start)

  calls : (n : ℕ) → AlikeCalls lay f p (firm_called full k f n) (lin_called (language p) bodies n)
  calls zero q count self s w ram i held =
      enters_as (firm_called full k f zero) (lin_called (language p) bodies zero) q count self s w ram
      (entered_as (λ m. over OutOfClock) (λ code. over OutOfClock) q count self s w ram (λ m e enters xs passed. overs) (slice_get f.procedures q) refl)
  calls (suc n) q count self s w ram i held =
      enters_as (firm_called full k f (suc n)) (lin_called (language p) bodies (suc n)) q count self s w ram
      (entered_as (λ m. opened full (Calling m.method) (run_procedure full k f (firm_called full k f n) (λ vector. firm_handled (firm_called full k f n)
      (f.handler vector)) m count self))
      (λ code. with_found ((language p).named q) (λ a. opened full a (lin_body (language p) (lin_called (language p) bodies n) code)))
      q count self s w ram (does_call n (calls n) q count self s w ram i held) (slice_get f.procedures q) refl)

  -- ---- whole runs

  -- the procedure with which a run begins has no locals
  abbrev bare : Room
  bare = record { receiver = 0; on_objects = false; locals = 0; temps = 0; result = 0 }

  abbrev Top : Firm → Deciding State → Type 0
  Top = Held lay bare [] (only [])

  -- main is called on no receiver
  abbrev main_numbers : Bool → List ℕ
  main_numbers true = 0 ∷ []
  main_numbers false = []

  abbrev main_waits : Bool → List Waiting
  main_waits true = record { width = 2; value = 0 } ∷ []
  main_waits false = []

  main_values : (b : Bool) (t : State) → values (operands (main_args b)) t ≡ Some (main_waits b)
  main_values true t = refl
  main_values false t = refl

  main_passed : (b : Bool) → ArePassed b None [] (main_numbers b)
  main_passed true = inl (0, refl)
  main_passed false = refl

  main_long : (b : Bool) → length (main_waits b) ≡ receivers b
  main_long true = refl
  main_long false = refl

  main_numbered : (b : Bool) → values_of (main_waits b) ≡ main_numbers b
  main_numbered true = refl
  main_numbered false = refl

  -- main gets a receiver in its two bytes
  main_same : (b : Bool) (ws more : List ℕ) → same_widths (with_receiver_width b ws ++ more) (main_waits b) ≡ true
  main_same true ws more = refl
  main_same false ws more = refl

  module _ (lp : LinProcedure) (has : slice_get p.procedures f.main ≡ Some lp) (params : lp.params ≡ receivers flat.main.receives)
      (same : same_widths lp.widths (main_waits flat.main.receives) ≡ true) where
    enters_main : (t : State) → enter p (calls_main f.main flat.main.receives) t
        ≡ Some (record { proc = f.main; state = begins p f.main (main_numbers flat.main.receives) t.ram; kept = t })
    enters_main t =
        ap (λ z. entry_of f.main z (calls_main f.main flat.main.receives) t) has
        ∙ ap (entry_with f.main lp None [] t) (main_values flat.main.receives t)
        ∙ ap (λ b. if b then Some (entry lp.widths (values_of (main_waits flat.main.receives))) else None)
        (fits (length (main_waits flat.main.receives)) lp.params (same_widths lp.widths (main_waits flat.main.receives))
        (main_long flat.main.receives ∙ sym params) same)
        ∙ ap (λ z. Some (entry lp.widths z)) (main_numbered flat.main.receives)
        ∙ ap (λ z. Some (entry (widths_of z) (main_numbers flat.main.receives))) (sym has)
      where
        entry : (widths xs : List ℕ) → Entry State
        entry widths xs = record { proc = f.main; state = record { locals = begun widths xs; waiting = []; ram = t.ram }; kept = t }

        fits : (a l : ℕ) (b : Bool) → a ≡ l → b ≡ true → ((a == l) && b && true) ≡ true
        fits a l b e h = grind arith

  alike_main : (n : ℕ) → AlikePiece Top Top (Leaves lay bare []) (firm_handled (firm_called full k f n) (Some f.main))
      (lin_step (language p) (lin_called (language p) bodies n) (To (calls_main f.main flat.main.receives)))
  alike_main n s d w i q = by_call (calls n f.main 0 None s w d.state.ram i q.ram)
    where
      behind : (width : ℕ) (s1 : Firm) (d1 : Deciding State) (w1 : World History) → IsFair w1 → Returned lay width 0 s s1 d1
          → Alike Top (Leaves lay bare []) (taking (λ v. go_on) s1 w1)
          (resumed (language p) (Result (calls_main f.main flat.main.receives)) d.state d d1 w1)
      behind width s1 d1 w1 i1 (v, e1, e2, e3, e4, fit, small, held) =
          subst (λ z. Alike Top (Leaves lay bare []) (take_from z (λ v. go_on) s1 w1)
          (resumed (language p) (Result (calls_main f.main flat.main.receives)) d.state d d1 w1)) (sym e1)
          (gives i1 (record {
            waits = q.waits;
            kept = subst (λ z. AreKept bare [] z s1.locals d.state.locals) (sym e3) (record {
              receiver = q.kept.receiver;
              object = q.kept.object;
              there = λ j u h. none_is_not u h;
              locals = λ j u lt h. absurd (omega (arith, lt));
            });
            none = q.none;
            ram = held;
          }))

      by_enters : Enters lay f p (firm_called full k f n) (lin_called (language p) bodies n) f.main 0 None s w d.state.ram → (m : FirmProcedure) → flat.main ≡ m
          → (lp : LinProcedure) → slice_get p.procedures f.main ≡ Some lp → lp.params ≡ receivers m.receives
          → same_widths lp.widths (main_waits m.receives) ≡ true
          → ((xs : List ℕ) → ArePassed m.receives None [] xs → Alike (Returned lay m.result 0 s) Never (firm_called full k f n f.main 0 None s w)
          (lin_called (language p) bodies n f.main (fresh (begins p f.main xs d.state.ram)) w))
          → Alike Top (Leaves lay bare []) (firm_handled (firm_called full k f n) (Some f.main) s w)
          (lin_step (language p) (lin_called (language p) bodies n) (To (calls_main f.main flat.main.receives)) d w)
      by_enters en m em lp has params same does =
          subst (λ z. Alike Top (Leaves lay bare []) (firm_handled (firm_called full k f n) (Some f.main) s w)
          (with_found z (entered (language p) (lin_called (language p) bodies n) (calls_main f.main flat.main.receives)) d w))
          (sym (enters_main lp has (params ∙ ap (λ z. receivers z.receives) (sym em))
          (subst (λ z. same_widths lp.widths (main_waits z.receives) ≡ true) (sym em) same) d.state))
          (alike_behind_both (taking (λ v. go_on)) (resumed (language p) (Result (calls_main f.main flat.main.receives)) d.state d)
          (does (main_numbers flat.main.receives) (subst (λ z. ArePassed z.receives None [] (main_numbers flat.main.receives)) em (main_passed flat.main.receives)))
          (behind m.result))

      by_call : (firm_called full k f n f.main 0 None s w ≡ over Wrong s w)
          ⊎ Enters lay f p (firm_called full k f n) (lin_called (language p) bodies n) f.main 0 None s w d.state.ram
          → Alike Top (Leaves lay bare []) (firm_handled (firm_called full k f n) (Some f.main) s w)
          (lin_step (language p) (lin_called (language p) bodies n) (To (calls_main f.main flat.main.receives)) d w)
      by_call (inl e) =
          subst (λ z. Alike Top (Leaves lay bare []) (and_then z (taking (λ v. go_on)))
          (lin_step (language p) (lin_called (language p) bodies n) (To (calls_main f.main flat.main.receives)) d w)) (sym e) wrong
      by_call (inr en) =
          by_enters en en.packed (some_is flat.main en.packed (sym flat.is_main ∙ en.is_packed)) en.flattened en.is_linear
          (en.flat.parameters ∙ ap (λ z. receivers en.packed.receives + z) (sym en.many) ∙ alone (receivers en.packed.receives))
          (ap (λ z. same_widths z (main_waits en.packed.receives)) en.flat.widths
          ∙ main_same en.packed.receives (widened (wide_params en.packed) en.packed.widths) (replicate en.flat.room.temps 4)) en.alike
        where
          alone : (a : ℕ) → a + 0 ≡ a
          alone a = omega arith

  alike_run : (n : ℕ) (s : Firm) (d : Deciding State) (w : World History) → IsFair w → Top s d
      → Alike Top (Leaves lay bare []) (firm_running full k f n s w) (lin_running (language p) bodies (calls_main f.main flat.main.receives) n d w)
  alike_run n s d w i q =
      alike_then {G = Top} {J = Top} {L = Leaves lay bare []} (idles n (λ vector s1 w1. firm_handled (firm_called full k f w1.clock) (f.handler vector) s1 w1))
      (λ d1 w1. idles n (λ v d2 w2. lin_handle (language p) (lin_called (language p) bodies w2.clock) ((language p).handler v) d2 w2) d1 w1)
      (alike_main w.clock s d w i q)
      (λ s1 d1 w1 i1 q1. alike_idles {G = Top} {L = Leaves lay bare []} n (λ vector s2 w2. firm_handled (firm_called full k f w2.clock)
      (f.handler vector) s2 w2)
      (λ v d2 w2. lin_handle (language p) (lin_called (language p) bodies w2.clock) ((language p).handler v) d2 w2)
      (λ vector s2 d2 w2 i2 q2. alike_handling lay p f (firm_called full k f w2.clock) (lin_called (language p) bodies w2.clock)
      (calls w2.clock) flat.handler bare [] [] vector
      s2 d2 w2 i2 q2) s1 d1 w1 i1 q1)

  pub follows : FollowsPacked k f p
  follows clock deepest reads interrupts t v why are legal is =
      let (d, e) = over_same (firm_running full k f (length interrupts) (firm_first f) (world clock deepest reads interrupts))
      (lin_running (language p) bodies (calls_main f.main flat.main.receives) (length interrupts) (fresh (first_state p)) (world clock deepest reads interrupts)) t v why
      (λ x s1 d1 z. z) legal
      (alike_run (length interrupts) (firm_first f) (fresh (first_state p)) (world clock deepest reads interrupts) (record { running = refl; reads = are })
      (record {
        waits = tt;
        kept = record {
          receiver = tt;
          object = λ h. h;
          there = λ j u h. none_is_not u h;
          locals = λ j u lt h. absurd (omega (arith, lt));
        };
        none = refl;
        ram = flat.ram;
      })) is in
      follows_sessions p bodies (calls_main f.main flat.main.receives) all_stand first (ap name_of flat.start) clock deepest reads interrupts d v why legal e
