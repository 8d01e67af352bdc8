-- Calls, matched by the machine.
use Rattle.std.proofs.Common.{◌≡◌, ℕ, zero, suc, ◌+◌, ◌%◌, ◌<◌, ◌≤◌, inl, inr, Bool, true, false, ◌&&◌, ◌==◌, if◌then◌else◌, List, [], ◌∷◌, ◌++◌, length}
use Rattle.std.proofs.Common.{Option, Some, None, refl, sym, ap, ◌∙◌, subst, arith, append_assoc, length-append, slice_get}
use Rattle.std.specs.Prelude.{reverse, nat_le}
use Rattle.std.proofs.lemmas.List.{append-nil, reverse-append, length-reverse}
use Rattle.std.specs.Prelude.{take, drop}
use Rattle.std.specs.List.{AllByRecursion}
use Rattle.vg_meaning.specs.Outside.{Outside}
use Rattle.avr_isa.specs.Machine.{State as MachineState}
use Rattle.avr_isa.specs.Standing.{widths, StandsAt, AllStandAt}
use Rattle.avr_isa.proofs.Standing.{front_stands, back_stands, widths-append}
use Rattle.vg_codes.specs.Codes.{code_in}
use Rattle.vg_lin.specs.declared.instr.Callee.{Callee}
use Rattle.vg_lin.specs.declared.instr.Callee.TheVariants.{Procedure as ByNumber, Code as ByCode}
use Rattle.vg_lin.specs.declared.instr.Instr.TheVariants.{Call}
use Rattle.vg_lin.specs.declared.instr.Call.{Call as Calling}
use Rattle.vg_lin.specs.declared.instr.Operand.{Operand}
use Rattle.vg_lin.specs.declared.instr.Operand.TheVariants.{Local, Known}
use Rattle.vg_lin.specs.declared.instr.Passed.{Passed}
use Rattle.vg_lin.specs.Meaning.{operands, with_value, values, begun, same_widths, values_of, with_code, called, gives_to, entry_by, entry_with, entry_of, entry_at}
use Rattle.vg_lin.specs.Meaning.{enter, language, codes_in}
use Rattle.vg_lin.specs.Program.{Procedure, Program}
use Rattle.vg_lin.specs.State.{State, Waiting, value}
use Rattle.vg_lin.specs.Steps.{Result, Frame, Entry, Config, calls, fetch}
use Rattle.vg_lin.specs.Values.{low}
use Rattle.avr_view.specs.Registers.{pair}
use Rattle.avr_view.specs.Run.{Run, Goes}
use Rattle.avr_view.specs.View.{View}
use Rattle.avr_view.proofs.Going.{goes_then, goes_fewer, goes_wider}
use Rattle.vg_templates.specs.Linkage.{prologue}
use Rattle.vg_templates.specs.Frames.{bytes_of, wanted, needed}
use Rattle.vg_templates.specs.Pieces.{Sees, Takes}
use Rattle.vg_templates.specs.Held.{Held}
use Rattle.vg_templates.specs.Pointers.{brings_z}
use Rattle.vg_templates.proofs.Composing.{takes_none, takes_then, takes_wider}
use Rattle.vg_templates.specs.Outcomes.{Lies}
use Rattle.vg_templates.specs.Plain.{pushes_value}
use Rattle.vg_templates.proofs.Storing.{takes_pushes_value}
use Rattle.vg_templates.specs.Calls.{Way, Far, Near, ByZ, call_code, call_words, leads_to, sum_of, by_registers, HasPushed, HasBy, taken_by, kept_by, begins_with}
use Rattle.vg_templates.proofs.Entering.{goes_enters}
use Rattle.vg_templates.specs.Flow.{passes, passed_bytes, passed_widths, goes_by_registers, passes_by, pushed_by_call, IsDivided, aims, way_of}
use Rattle.vg_templates.specs.Whole.{Links, call_front, call_bytes, call_back}
use Rattle.vg_followed.specs.Covered.{CanAim, CanPass}
use Rattle.vg_followed.specs.Stands.{CalleeLeads, call_place, Stands}
use Rattle.vg_followed.specs.Related.{wait_widths, Settled, Going, Related}
use Rattle.vg_followed.specs.Depth.{stack_bytes, opening_bytes, entry_bytes}
use Rattle.vg_followed.proofs.Counting.{equal, stacked_bytes}
use Rattle.vg_followed.specs.Followed.{IsLegal}
use Rattle.vg_followed.proofs.Going.{at_rest}
use Rattle.vg_followed.proofs.Places.{placed}
use Rattle.vg_followed.proofs.Aiming.{BroughtZ, takes_brings_z}

-- ---- what waits, with more pushed on it

abbrev pushed_on : (xs ws : List Waiting) → List Waiting
pushed_on [] ws = ws
pushed_on (x ∷ xs) ws = pushed_on xs (x ∷ ws)

taken_order : (xs ws : List Waiting) (n : ℕ) → reverse (take (length xs + n) (pushed_on xs ws)) ≡ reverse (take n ws) ++ xs
taken_order [] ws n = (let e : 0 + n ≡ n = omega arith in ap (λ k. reverse (take k ws)) e) ∙ sym (append-nil (reverse (take n ws)))
taken_order (x ∷ xs) ws n =
    let e : suc (length xs) + n ≡ length xs + suc n = omega arith in
    ap (λ k. reverse (take k (pushed_on xs (x ∷ ws)))) e
    ∙ taken_order xs (x ∷ ws) (suc n)
    ∙ ap (λ z. z ++ xs) (reverse-append (x ∷ []) (take n ws))
    ∙ append_assoc (reverse (take n ws)) (x ∷ []) xs

dropped_order : (xs ws : List Waiting) (n : ℕ) → drop (length xs + n) (pushed_on xs ws) ≡ drop n ws
dropped_order [] ws n = let e : 0 + n ≡ n = omega arith in ap (λ k. drop k ws) e
dropped_order (x ∷ xs) ws n =
    let e : suc (length xs) + n ≡ length xs + suc n = omega arith in ap (λ k. drop k (pushed_on xs (x ∷ ws))) e ∙ dropped_order xs (x ∷ ws) (suc n)

-- ---- widths and bytes

widths_dropped : (n : ℕ) (ws : List Waiting) → wait_widths (drop n ws) ≡ drop n (wait_widths ws)
widths_dropped zero ws = refl
widths_dropped (suc n) [] = refl
widths_dropped (suc n) (w ∷ ws) = widths_dropped n ws

widths_taken : (n : ℕ) (ws : List Waiting) → wait_widths (take n ws) ≡ take n (wait_widths ws)
widths_taken zero ws = refl
widths_taken (suc n) [] = refl
widths_taken (suc n) (w ∷ ws) = ap (λ z. w.width ∷ z) (widths_taken n ws)

pub bytes_summed : (ws : List Waiting) → bytes_of ws ≡ sum_of (wait_widths ws)
bytes_summed [] = refl
bytes_summed (w ∷ ws) = ap (λ z. w.width + z) (bytes_summed ws)

bytes_append : (ws vs : List Waiting) → bytes_of (ws ++ vs) ≡ bytes_of ws + bytes_of vs
bytes_append [] vs = omega arith
bytes_append (w ∷ ws) vs = let rest = bytes_append ws vs in omega (arith, rest)

bytes_reversed : (ws : List Waiting) → bytes_of (reverse ws) ≡ bytes_of ws
bytes_reversed [] = refl
bytes_reversed (w ∷ ws) =
    let whole = ap bytes_of (reverse-append (w ∷ []) ws) ∙ bytes_append (reverse ws) (w ∷ []) in let rest = bytes_reversed ws in omega (arith, whole, rest)

bytes_pushed : (xs ws : List Waiting) → bytes_of (pushed_on xs ws) ≡ bytes_of ws + bytes_of xs
bytes_pushed [] ws = omega arith
bytes_pushed (x ∷ xs) ws = let rest = bytes_pushed xs (x ∷ ws) in omega (arith, rest)

pub both_true : (a b : Bool) → (a && b) ≡ true → (a ≡ true) × (b ≡ true)
both_true true b h = (refl, h)
both_true false b h = absurd (let clash : false ≡ true = h in cc)

params_bytes : (ws : List ℕ) (ps : List Waiting) → same_widths ws ps ≡ true → sum_of (take (length ps) ws) ≡ bytes_of ps
params_bytes ws [] h = refl
params_bytes [] (p ∷ ps) h = absurd (let clash : false ≡ true = h in cc)
params_bytes (w ∷ ws) (p ∷ ps) h =
    let k = both_true (w == p.width) (same_widths ws ps) h in
    let same = equal w p.width k.0 in
    let rest = params_bytes ws ps k.1 in
    omega (arith, same, rest)

-- ---- what linear code passes

pub record Passing (a : Passed) (more : List Passed) (s : State) (xs : List Waiting) : Type 0 where
  pub all : ℕ
  pub rest : List Waiting
  pub got : value a.value s ≡ Some all
  pub others : values more s ≡ Some rest
  pub is : xs ≡ record { width = a.width; value = low a.width all } ∷ rest

pub some_list : (a b : List Waiting) → Some a ≡ Some b → a ≡ b
some_list a b e = cc

pub passing : (a : Passed) (more : List Passed) (s : State) (xs : List Waiting) → values (a ∷ more) s ≡ Some xs → Passing a more s xs
passing a more s xs e = by_both (value a.value s) refl (values more s) refl e
  where
    by_both : (o : Option ℕ) → value a.value s ≡ o → (q : Option (List Waiting)) → values more s ≡ q → with_value a.width o q ≡ Some xs → Passing a more s xs
    by_both (Some y) got (Some ys) others f = record { all = y; rest = ys; got = got; others = others; is = sym (some_list _ xs f) }
    by_both (Some y) got None others f = absurd (let clash : None ≡ Some xs = f in cc)
    by_both None got q others f = absurd (let clash : None ≡ Some xs = f in cc)

value_waiting : (a : Operand) (s : State) (ws : List Waiting) → value a (record s { waiting = ws }) ≡ value a s
value_waiting (Local k) s ws = refl
value_waiting (Known v) s ws = refl

values_waiting : (as' : List Passed) (s : State) (ws : List Waiting) → values as' (record s { waiting = ws }) ≡ values as' s
values_waiting [] s ws = refl
values_waiting (a ∷ as') s ws =
    ap (λ z. with_value a.width z (values as' (record s { waiting = ws }))) (value_waiting a.value s ws)
    ∙ ap (with_value a.width (value a.value s)) (values_waiting as' s ws)

pub passed_is : (as' : List Passed) (s : State) (xs : List Waiting) → values as' s ≡ Some xs → bytes_of xs ≡ passed_bytes as'
passed_is [] s xs e = ap bytes_of (sym (some_list [] xs e))
passed_is (a ∷ as') s xs e =
    let k = passing a as' s xs e in
    ap bytes_of k.is ∙ ap (λ z. a.width + z) (passed_is as' s k.rest k.others)

-- ---- what linear code enters

abbrev pub starts_with : (widths' arguments ram : List ℕ) → State
starts_with ws xs ram = record { locals = begun ws xs; waiting = []; ram = ram }

abbrev pub waits_for : (proc pc : ℕ) → Calling → (kept : State) → Frame State
waits_for m pc call kept = record { proc = m; pc = pc; kept = kept; awaits = Result call }

abbrev made : (proc : ℕ) → Procedure → (all : List Waiting) → (kept : State) → Entry State
made q m all kept = record { proc = q; state = starts_with m.widths (values_of all) kept.ram; kept = kept }

pub record Entered (p : Program) (c : Calling) (s : State) (en : Entry State) : Type 0 where
  pub proc : ℕ
  pub procedure : Procedure
  pub passed : List Waiting
  pub found : called p c.callee s ≡ Some proc
  pub there : slice_get p.procedures proc ≡ Some procedure
  pub got : values (operands c.registers) s ≡ Some passed
  pub enough : length (take c.pushed s.waiting) ≡ c.pushed
  pub count : length (reverse (take c.pushed s.waiting) ++ passed) ≡ procedure.params
  pub same : same_widths procedure.widths (reverse (take c.pushed s.waiting) ++ passed) ≡ true
  pub gives : gives_to procedure.result c.to ≡ true
  pub proc_is : en.proc ≡ proc
  pub state_is : en.state ≡ starts_with procedure.widths (values_of (reverse (take c.pushed s.waiting) ++ passed)) s.ram
  pub kept_is : en.kept ≡ record s { waiting = drop c.pushed s.waiting }

some_entry : (a b : Entry State) → Some a ≡ Some b → a ≡ b
some_entry a b e = cc

pub entered : (p : Program) (c : Calling) (s : State) (en : Entry State) → enter p c s ≡ Some en → Entered p c s en
entered p c s en e = by_called (called p c.callee s) refl e
  where
    by_fit : (q : ℕ) (m : Procedure) (xs : List Waiting) → called p c.callee s ≡ Some q → slice_get p.procedures q ≡ Some m
        → values (operands c.registers) s ≡ Some xs → length (take c.pushed s.waiting) ≡ c.pushed
        → entry_by q m c.to (record s { waiting = drop c.pushed s.waiting }) (reverse (take c.pushed s.waiting) ++ xs) ≡ Some en → Entered p c s en
    by_fit q m xs found there got enough f = by_count (length all == m.params) refl (same_widths m.widths all) refl (gives_to m.result c.to) refl f
      where
        all : List Waiting
        all = reverse (take c.pushed s.waiting) ++ xs

        by_count : (a : Bool) → (length all == m.params) ≡ a → (b : Bool) → same_widths m.widths all ≡ b → (d : Bool) → gives_to m.result c.to ≡ d
            → (if a && b && d then Some (made q m all (record s { waiting = drop c.pushed s.waiting })) else None) ≡ Some en
            → Entered p c s en
        by_count true j true k true n f =
            let is = some_entry _ en f in
            record {
              proc = q;
              procedure = m;
              passed = xs;
              found = found;
              there = there;
              got = got;
              enough = enough;
              count = equal (length all) m.params j;
              same = k;
              gives = n;
              proc_is = ap (λ (z : Entry State). z.proc) (sym is);
              state_is = ap (λ (z : Entry State). z.state) (sym is);
              kept_is = ap (λ (z : Entry State). z.kept) (sym is);
            }
        by_count true j true k false n f = absurd (let clash : None ≡ Some en = f in cc)
        by_count true j false k d n f = absurd (let clash : None ≡ Some en = f in cc)
        by_count false j b k d n f = absurd (let clash : None ≡ Some en = f in cc)

    by_passed : (q : ℕ) (m : Procedure) → called p c.callee s ≡ Some q → slice_get p.procedures q ≡ Some m → (o : Option (List Waiting))
        → values (operands c.registers) s ≡ o → length (take c.pushed s.waiting) ≡ c.pushed
        → entry_with q m c.to (reverse (take c.pushed s.waiting)) (record s { waiting = drop c.pushed s.waiting }) o ≡ Some en → Entered p c s en
    by_passed q m found there (Some xs) got enough f = by_fit q m xs found there got enough f
    by_passed q m found there None got enough f = absurd (let clash : None ≡ Some en = f in cc)

    by_enough : (q : ℕ) (m : Procedure) → called p c.callee s ≡ Some q → slice_get p.procedures q ≡ Some m → (b : Bool)
        → (length (take c.pushed s.waiting) == c.pushed) ≡ b
        → (if b
        then entry_with q m c.to (reverse (take c.pushed s.waiting)) (record s { waiting = drop c.pushed s.waiting }) (values (operands c.registers) s)
        else None) ≡ Some en
        → Entered p c s en
    by_enough q m found there true k f =
        by_passed q m found there (values (operands c.registers) s) refl (equal (length (take c.pushed s.waiting)) c.pushed k) f
    by_enough q m found there false k f = absurd (let clash : None ≡ Some en = f in cc)

    by_there : (q : ℕ) → called p c.callee s ≡ Some q → (o : Option Procedure) → slice_get p.procedures q ≡ o → entry_of q o c s ≡ Some en → Entered p c s en
    by_there q found (Some m) there f = by_enough q m found there (length (take c.pushed s.waiting) == c.pushed) refl f
    by_there q found None there f = absurd (let clash : None ≡ Some en = f in cc)

    by_called : (o : Option ℕ) → called p c.callee s ≡ o → entry_at p o c s ≡ Some en → Entered p c s en
    by_called (Some q) found f = by_there q found (slice_get p.procedures q) refl f
    by_called None found f = absurd (let clash : None ≡ Some en = f in cc)

-- ---- the caller and the procedure that is called decide alike

widths_are : (ws : List ℕ) (ps : List Waiting) → same_widths ws ps ≡ true → take (length ps) ws ≡ wait_widths ps
widths_are ws [] h = refl
widths_are [] (p ∷ ps) h = absurd (let clash : false ≡ true = h in cc)
widths_are (w ∷ ws) (p ∷ ps) h =
    let k = both_true (w == p.width) (same_widths ws ps) h in
    ap (λ n. n ∷ take (length ps) ws) (equal w p.width k.0) ∙ ap (λ z. p.width ∷ z) (widths_are ws ps k.1)

widths_counted : (ws : List Waiting) → length (wait_widths ws) ≡ length ws
widths_counted [] = refl
widths_counted (w ∷ ws) = ap suc (widths_counted ws)

pub passed_widths_are : (as' : List Passed) (s : State) (xs : List Waiting) → values as' s ≡ Some xs → wait_widths xs ≡ passed_widths as'
passed_widths_are [] s xs e = ap wait_widths (sym (some_list [] xs e))
passed_widths_are (a ∷ as') s xs e =
    let k = passing a as' s xs e in
    ap wait_widths k.is ∙ ap (λ z. a.width ∷ z) (passed_widths_are as' s k.rest k.others)

passed_counted : (as' : List Passed) → length (passed_widths as') ≡ length as'
passed_counted [] = refl
passed_counted (a ∷ as') = ap suc (passed_counted as')

many_wait : (ws : List ℕ) → 4 < length ws → by_registers ws ≡ false
many_wait ws h = let no_more : nat_le (length ws) 4 ≡ false = grind (arith, h) in ap (λ b. b && nat_le (sum_of ws) 8) no_more

pub decide_alike : (p : Program) (c : Calling) (s : State) (en : Entry State) (d : Entered p c s en) (widths' : List ℕ) → widths' ≡ d.procedure.widths
    → IsDivided c → by_registers (take d.procedure.params widths') ≡ goes_by_registers c
decide_alike p c s en d widths' locals divided = by_pushed (c.pushed == 0) refl
  where
    all : List Waiting
    all = reverse (take c.pushed s.waiting) ++ d.passed

    taken_is : take d.procedure.params widths' ≡ wait_widths all
    taken_is =
        ap (λ n. take n widths') (sym d.count) ∙ ap (take (length all)) locals ∙ widths_are d.procedure.widths all d.same

    last_is : wait_widths d.passed ≡ passed_widths (operands c.registers)
    last_is = passed_widths_are (operands c.registers) s d.passed d.got

    by_pushed : (b : Bool) → (c.pushed == 0) ≡ b → by_registers (take d.procedure.params widths') ≡ goes_by_registers c
    by_pushed true e =
        let none : all ≡ d.passed = ap (λ n. reverse (take n s.waiting) ++ d.passed) (equal c.pushed 0 e) in
        ap by_registers (taken_is ∙ ap wait_widths none ∙ last_is)
        ∙ ap (λ b. b && by_registers (passed_widths (operands c.registers))) (sym e)
    by_pushed false e =
        ap by_registers taken_is ∙ many_wait (wait_widths all) (many divided)
        ∙ ap (λ b. b && by_registers (passed_widths (operands c.registers))) (sym e)
      where
        some : c.pushed ≡ 0 → ⊥
        some none = let clash : true ≡ false = ap (λ n. n == 0) (sym none) ∙ e in cc

        many : IsDivided c → 4 < length (wait_widths all)
        many (inl none) = absurd (some none)
        many (inr more) =
            let whole = widths_counted all in
            let sum = length-append (reverse (take c.pushed s.waiting)) d.passed in
            let front = length-reverse (take c.pushed s.waiting) in
            let enough = d.enough in
            let back : length d.passed ≡ length (operands c.registers) =
            sym (widths_counted d.passed) ∙ ap length last_is ∙ passed_counted (operands c.registers) in
            omega (arith, whole, sum, front, enough, back, more)

module _ (e : Run) (x : Links) (p : Program) (st : Stands e x p) (deep : Type 0) where
  -- the last arguments are pushed
  takes_passes : (m : ℕ) (frames : List (Frame State)) (live : ℕ → Bool) (as' : List Passed) (xs : List Waiting) (s : State) (v : View)
      → AllByRecursion (CanPass (x.places.layouts m) live) as' → values as' s ≡ Some xs
      → (0x1100 < e.floor + (stack_bytes x.places m s frames + passed_bytes as') → deep) → Held x.places m live s frames v
      → Takes e deep v (passes (x.places.layouts m) as') (Lies x.places m live (record s { waiting = pushed_on xs s.waiting }) frames v.out)
  takes_passes m frames live [] xs s v can got full k =
      takes_none e deep v (Lies x.places m live (record s { waiting = pushed_on xs s.waiting }) frames v.out)
      (subst (λ z. Lies x.places m live (record s { waiting = pushed_on z s.waiting }) frames v.out v) (some_list [] xs got) (record { held = k; out = refl }))
  takes_passes m frames live (a ∷ as') xs s v can got full k =
      let l = x.places.layouts m in
      let d = passing a as' s xs got in
      let w : Waiting = record { width = a.width; value = low a.width d.all } in
      let s1 : State = record s { waiting = w ∷ s.waiting } in
      let size = stacked_bytes x.places m live s frames v.stack v.regs k.stacked in
      let goal = Lies x.places m live (record s { waiting = pushed_on xs s.waiting }) frames v.out in
      takes_then e deep v (pushes_value l a.width a.value) (passes l as') (Lies x.places m live s1 frames v.out) goal
      (takes_pushes_value x.places st.layouts m frames e deep live live s a.width a.value d.all v can.0.1 (λ j h. h) can.0.0 d.got
      (λ more. full (omega (arith, more, size))) k)
      (λ u z. takes_wider e deep u (passes l as') (Lies x.places m live (record s1 { waiting = pushed_on d.rest s1.waiting }) frames u.out) goal
      (λ t y. record {
        held =
            subst (λ q. Held x.places m live (record s { waiting = pushed_on q s.waiting }) frames t) (sym d.is) y.held;
        out = y.out ∙ z.out;
      })
      (takes_passes m frames live as' d.rest s1 u can.1 (values_waiting as' s (w ∷ s.waiting) ∙ d.others) (λ more. full (omega (arith, more))) z.held))

  -- what is called: by its number, or by the code number in Z
  abbrev pub Aimed : Callee → State → View → Type 0
  Aimed (ByNumber q) s v = Unit {0}
  Aimed (ByCode a) s v = (y : ℕ) × ((value a s ≡ Some y) × (pair v.regs 30 ≡ y % 65536))

  pub record Aims (m : ℕ) (live : ℕ → Bool) (s : State) (frames : List (Frame State)) (callee : Callee) (o : Outside) (v : View) : Type 0 where
    pub lies : Lies x.places m live s frames o v
    pub aimed : Aimed callee s v

  -- registers that may carry arguments are as they were
  abbrev pub Keeps : (old new : View) → Type 0
  Keeps old new = (y : ℕ) → 18 ≤ y → y < 26 → new.regs.of y ≡ old.regs.of y

  some_number : (a b : ℕ) → Some a ≡ Some b → a ≡ b
  some_number a b e = cc

  pub takes_aims : (m : ℕ) (frames : List (Frame State)) (live : ℕ → Bool) (callee : Callee) (s : State) (q : ℕ) (v : View)
      → CanAim (x.places.layouts m) live callee → called p callee s ≡ Some q → Held x.places m live s frames v
      → Takes e deep v (aims (x.places.layouts m) callee) (λ t. Aims m live s frames callee v.out t × Keeps v t)
  takes_aims m frames live (ByNumber n) s q v can found k =
      takes_none e deep v (λ t. Aims m live s frames (ByNumber n) v.out t × Keeps v t)
      (record { lies = record { held = k; out = refl }; aimed = tt }, λ y lo hi. refl)
  takes_aims m frames live (ByCode a) s q v can found k = by_value (value a s) refl found
    where
      by_value : (o : Option ℕ) → value a s ≡ o → with_code p o ≡ Some q
          → Takes e deep v (aims (x.places.layouts m) (ByCode a)) (λ t. Aims m live s frames (ByCode a) v.out t × Keeps v t)
      by_value None got f = absurd (let clash : None ≡ Some q = f in cc)
      by_value (Some y) got f =
          takes_wider e deep v (brings_z (x.places.layouts m) a) (BroughtZ x.places m live s frames y v)
          (λ t. Aims m live s frames (ByCode a) v.out t × Keeps v t)
          (λ t b. (
            record { lies = record { held = b.held; out = ap (λ (z : View). z.out) b.inside.same }; aimed = (y, (got, b.inside.pointer)) },
            λ z lo hi. b.inside.others z (omega (arith, hi)) (inl hi),
          ))
          (takes_brings_z x.places st.layouts m frames e deep live s a y v can got k)

  -- where the call leads
  pub leads_there : (callee : Callee) (way : Way) (s : State) (place q : ℕ) (v : View) → CalleeLeads x callee way place → called p callee s ≡ Some q → Aimed callee s v
      → leads_to (way_of callee way) place v.regs ≡ x.entry q
  leads_there (ByNumber n) (Far entry) s place q v leads found aimed = leads ∙ ap x.entry (some_number n q found)
  leads_there (ByNumber n) (Near k) s place q v leads found aimed = leads ∙ ap x.entry (some_number n q found)
  leads_there (ByNumber n) ByZ s place q v leads found aimed = absurd leads
  leads_there (ByCode a) way s place q v leads found (y, (got, at)) =
      at ∙ sym (st.codes (code_in y) q (sym (ap (with_code p) got) ∙ found))

  -- the callee in a state where more waits is the same
  called_waiting : (callee : Callee) (s : State) (ws : List Waiting) (q : ℕ) → called p callee s ≡ Some q → called p callee (record s { waiting = ws }) ≡ Some q
  called_waiting (ByNumber n) s ws q found = found
  called_waiting (ByCode a) s ws q found = ap (with_code p) (value_waiting a s ws) ∙ found

  pub call_stands : (way : Way) (pc : ℕ) (is : List _) → AllStandAt e.flash pc (call_code way ∷ is) → StandsAt e.flash pc (call_code way)
  call_stands way pc is h = h.0

  pub call_wide : (way : Way) (is : List _) → widths (call_code way ∷ is) ≡ call_words way + widths is
  call_wide (Far n) is = refl
  call_wide (Near n) is = refl
  call_wide ByZ is = refl

  -- the procedure that is called lies where it begins
  pub related_entered : (c : Config State) (call : Calling) (o : Outside) → fetch (codes_in p.procedures) c.proc c.pc ≡ Some (Call call) → Settled x p c
      → o ≡ c.outside → (en : Entry State) (d : Entered p call c.state en) (r : MachineState)
      → (x.places.layouts d.proc).pushed ≡ call_bytes (x.waits c.proc c.pc) call
      → Sees e
      (Lies x.places d.proc (x.places.live d.proc 0)
      (starts_with d.procedure.widths (values_of (reverse (take call.pushed c.state.waiting) ++ d.passed)) c.state.ram)
      (waits_for c.proc c.pc call (record c.state { waiting = drop call.pushed c.state.waiting }) ∷ c.frames) o)
      (x.entry d.proc + widths (prologue (x.places.layouts d.proc))) r
      → Related e x p (calls (language p) (at_rest c) call (Some en)) r
  related_entered c call o h settled out en d r passed b =
      let m = c.proc in
      let q = d.proc in
      let ps = st.procedures q d.procedure d.there in
      let all = reverse (take call.pushed c.state.waiting) ++ d.passed in
      let f = waits_for m c.pc call (record c.state { waiting = drop call.pushed c.state.waiting }) in
      let f1 = waits_for m c.pc call en.kept in
      let start = starts_with d.procedure.widths (values_of all) c.state.ram in (
        record {
          waits = ap (λ (w : State). wait_widths w.waiting) d.state_is ∙ sym ps.waits ∙ ap (λ w. x.waits w 0) (sym d.proc_is);
          callers = (
            record {
              stands = h;
              waits =
                  ap (λ (w : State). wait_widths w.waiting) d.kept_is
                  ∙ widths_dropped call.pushed c.state.waiting
                  ∙ ap (drop call.pushed) settled.waits;
              passed = ap (λ w. (x.places.layouts w).pushed) d.proc_is ∙ passed;
              results = λ w there'. subst (λ j. gives_to j.result call.to ≡ true) (same_procedure d.procedure w q d.there (sym (ap (slice_get p.procedures) d.proc_is) ∙ there')) d.gives;
              handles = tt;
            },
            settled.callers,
          );
          vectors = settled.vectors;
        },
        subst (λ w. Sees e (Lies x.places w (x.places.live w 0) en.state (f1 ∷ c.frames) c.outside) (x.place w 0) r) (sym d.proc_is)
            (subst (λ w. Sees e (Lies x.places q (x.places.live q 0) w (f1 ∷ c.frames) c.outside) (x.place q 0) r) (sym d.state_is)
            (subst (λ w. Sees e (Lies x.places q (x.places.live q 0) start (w ∷ c.frames) c.outside) (x.place q 0) r) (ap (waits_for m c.pc call) (sym d.kept_is))
            (subst (λ w. Sees e (Lies x.places q (x.places.live q 0) start (f ∷ c.frames) w) (x.place q 0) r) out
            (subst (λ w. Sees e (Lies x.places q (x.places.live q 0) start (f ∷ c.frames) o) w r) (sym ps.begins) b)))),
      )
    where
      same_procedure : (a b : Procedure) (q : ℕ) → slice_get p.procedures q ≡ Some a → slice_get p.procedures q ≡ Some b → a ≡ b
      same_procedure a b q f g' = some_procedure a b (sym f ∙ g')
        where
          some_procedure : (a b : Procedure) → Some a ≡ Some b → a ≡ b
          some_procedure a b e1 = cc

  -- what a call needs behind it was there before it
  pub kept_needed : (m pc : ℕ) (call : Calling) → ((k : ℕ) → wanted (x.places.live m) (Result call) pc k ≡ true → x.places.live m pc k ≡ true)
      → (k : ℕ) → needed x.places m (Result call) pc k ≡ true → x.places.live m pc k ≡ true
  kept_needed m pc call kept k need = kept k (first_holds (wanted (x.places.live m) (Result call) pc k) _ need)
    where
      first_holds : (b d : Bool) → (b && d) ≡ true → b ≡ true
      first_holds true d e1 = refl
      first_holds false d e1 = e1

  -- a call all of whose arguments are pushed
  pub goes_on_pushed : (c : Config State) (call : Calling) (s : MachineState) → fetch (codes_in p.procedures) c.proc c.pc ≡ Some (Call call) → Settled x p c
      → Going e x c s → (en : Entry State) → Entered p call c.state en → goes_by_registers call ≡ false
      → (0x1100 < e.floor + (stack_bytes x.places c.proc c.state c.frames + (passed_bytes (operands call.registers) + opening_bytes x.places en.proc)) → deep)
      → Goes e deep 1 s (Related e x p (calls (language p) (at_rest c) call (Some en)))
  goes_on_pushed c call s h settled g en d by_stack full =
      let m = c.proc in
      let k = (placed e x p st m c.pc (Call call) h).instr in
      let l = x.places.layouts m in
      let live = x.places.live m c.pc in
      let v = g.view in
      let q = d.proc in
      let xs = d.passed in
      let aim = aims l call.callee in
      let front = passes_by (goes_by_registers call) l (operands call.registers) in
      let way = way_of call.callee (x.call m c.pc) in
      let back = call_back l (x.waits m c.pc) call in
      let s1 : State = record c.state { waiting = pushed_on xs c.state.waiting } in
      let n = length xs + call.pushed in
      let all = reverse (take call.pushed c.state.waiting) ++ xs in
      let taken_is : taken_by n s1 ≡ all = taken_order xs c.state.waiting call.pushed in
      let ps = st.procedures q d.procedure d.there in
      let lq = x.places.layouts q in
      let alike = decide_alike p call c.state en d lq.widths ps.locals k.covers.divided in
      let pushed : HasPushed lq d.procedure.params = subst (λ b. HasBy b lq (x.places.live q 0) d.procedure.params) (alike ∙ by_stack) ps.arguments in
      let opening : opening_bytes x.places en.proc ≡ opening_bytes x.places q = ap (opening_bytes x.places) d.proc_is in
      let passed_bytes_is = passed_is (operands call.registers) c.state xs d.got in
      let grown = bytes_pushed xs c.state.waiting in
      let f = waits_for m c.pc call (kept_by n s1) in
      let kept_is : kept_by n s1 ≡ record c.state { waiting = drop call.pushed c.state.waiting } =
      ap (λ ws. record c.state { waiting = ws }) (dropped_order xs c.state.waiting call.pushed) in
      let start = starts_with d.procedure.widths (values_of all) c.state.ram in
      let start_is : begins_with lq n s1 ≡ start =
      ap (λ ws. starts_with ws (values_of (taken_by n s1) ++ []) c.state.ram) ps.locals
      ∙ ap (λ ws. starts_with d.procedure.widths (values_of ws ++ []) c.state.ram) taken_is
      ∙ ap (λ ws. starts_with d.procedure.widths ws c.state.ram) (append-nil (values_of all)) in
      let cp = call_place x m c.pc call in
      let rest = call_code way ∷ back in
      let wide = widths-append (call_front l call) rest in
      let one = call_wide way back in
      let room : x.place m c.pc + widths (call_front l call ++ rest) < 65536 = k.room in
      let goal = Related e x p (calls (language p) (at_rest c) call (Some en)) in
      let to = x.entry q + widths (prologue lq) in
      let count = ap length taken_is ∙ d.count in
      let passed : lq.pushed ≡ call_bytes (x.waits m c.pc) call =
      pushed.bytes
      ∙ ap (λ w. sum_of (take w lq.widths)) (sym d.count)
      ∙ ap (λ w. sum_of (take (length all) w)) ps.locals
      ∙ params_bytes d.procedure.widths all d.same
      ∙ bytes_append (reverse (take call.pushed c.state.waiting)) xs
      ∙ ap (λ w. w + bytes_of xs) (bytes_reversed (take call.pushed c.state.waiting) ∙ bytes_summed (take call.pushed c.state.waiting)
      ∙ ap sum_of (widths_taken call.pushed c.state.waiting ∙ ap (take call.pushed) settled.waits))
      ∙ ap (λ w. sum_of (take call.pushed (x.waits m c.pc)) + w) (passed_bytes_is ∙ sym (ap (λ b. pushed_by_call b (operands call.registers)) by_stack)) in
      goes_fewer e deep (length (call_front l call) + 1) 1 s goal (omega arith)
      (goes_then e deep (length (call_front l call)) 1 s (Sees e (Aims m live s1 c.frames call.callee v.out) cp) goal
      (takes_then e deep v front aim (Lies x.places m live s1 c.frames v.out) (Aims m live s1 c.frames call.callee v.out)
      (subst (λ b. Takes e deep v (passes_by b l (operands call.registers)) (Lies x.places m live s1 c.frames v.out)) (sym by_stack)
      (takes_passes m c.frames live (operands call.registers) xs c.state v k.covers.arguments d.got (λ more. full (omega (arith, more))) g.kind.held))
      (λ u z. takes_wider e deep u aim (λ t. Aims m live s1 c.frames call.callee u.out t × Keeps u t) (Aims m live s1 c.frames call.callee v.out)
      (λ t y. record { lies = record { held = y.0.lies.held; out = y.0.lies.out ∙ z.out }; aimed = y.0.aimed })
      (takes_aims m c.frames live call.callee s1 q u k.covers.callee (called_waiting call.callee c.state (pushed_on xs c.state.waiting) q d.found) z.held))
      (x.place m c.pc) s (front_stands e.flash (x.place m c.pc) (call_front l call) rest k.stands) (omega (arith, room, wide)) g.at)
      (λ t z.
      let size = stacked_bytes x.places m live s1 c.frames z.view.stack z.view.regs z.kind.lies.held.stacked in
      goes_wider e deep 1 t (Sees e (Lies x.places q (x.places.live q 0) (begins_with lq n s1) (f ∷ c.frames) z.view.out) to) goal
      (λ r b. related_entered c call z.view.out h settled (z.kind.lies.out ∙ g.kind.out) en d r passed
      (subst (λ w. Sees e (Lies x.places q (x.places.live q 0) start (waits_for m c.pc call w ∷ c.frames) z.view.out) to r) kept_is
      (subst (λ w. Sees e (Lies x.places q (x.places.live q 0) w (f ∷ c.frames) z.view.out) to r) start_is b)))
      (goes_enters x.places st.layouts e deep way q m c.pc cp n (x.entry q) call live (x.places.live q 0) s1 c.frames z.view t
      (call_stands way cp back (back_stands e.flash (x.place m c.pc) (call_front l call) rest k.stands)) (omega (arith, room, wide, one)) k.leads.1.0
      (leads_there call.callee (x.call m c.pc) s1 cp q z.view k.leads.1.1 (called_waiting call.callee c.state (pushed_on xs c.state.waiting) q d.found) z.kind.aimed)
      ps.prologue_stands ps.room
      (ap (same_widths lq.widths) taken_is ∙ ap (λ w. same_widths w all) ps.locals ∙ d.same) (subst (HasPushed lq) (sym count) pushed)
      (kept_needed m c.pc call k.covers.kept) z.kind.lies.held
      (λ more. full (omega (arith, more, size, grown, passed_bytes_is, opening))) z.at)))
