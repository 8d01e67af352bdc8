-- Calls whose arguments are all in registers, matched by the machine.
use Rattle.std.proofs.Common.{◌≡◌, ℕ, zero, suc, ◌+◌, ◌<◌, ◌≤◌, inl, inr, Bool, true, false, ◌&&◌, ◌==◌, nat_le, List, [], ◌∷◌, ◌++◌, length}
use Rattle.std.proofs.Common.{Option, Some, None, refl, sym, ap, ◌∙◌, subst, arith}
use Rattle.std.specs.Prelude.{take, drop, reverse}
use Rattle.std.specs.List.{AllByRecursion}
use Rattle.avr_isa.specs.Machine.{State as MachineState}
use Rattle.avr_isa.specs.Standing.{widths}
use Rattle.avr_isa.proofs.Standing.{front_stands, back_stands, widths-append}
use Rattle.vg_lin.specs.declared.instr.Instr.TheVariants.{Call}
use Rattle.vg_lin.specs.declared.instr.Call.{Call as Calling}
use Rattle.vg_lin.specs.declared.instr.Passed.{Passed}
use Rattle.vg_lin.specs.Meaning.{operands, values, values_of, same_widths, enter, language, codes_in}
use Rattle.vg_lin.specs.Program.{Program}
use Rattle.vg_lin.specs.State.{State, Waiting}
use Rattle.vg_lin.specs.Steps.{Frame, Entry, Config, calls, fetch}
use Rattle.avr_view.specs.Run.{Run, Goes}
use Rattle.avr_view.specs.View.{View}
use Rattle.avr_view.proofs.Going.{goes_then, goes_fewer, goes_wider}
use Rattle.vg_templates.specs.Linkage.{prologue}
use Rattle.vg_templates.specs.Frames.{bytes_of}
use Rattle.vg_templates.specs.Pieces.{Sees, Takes}
use Rattle.vg_templates.specs.Held.{Held, brings, Brought}
use Rattle.vg_templates.specs.Outcomes.{Lies}
use Rattle.vg_templates.specs.Calls.{call_code, sum_of, by_registers, HasArriving, HasBy, Carried, begins_on}
use Rattle.vg_templates.specs.Flow.{carries, passed_bytes, passed_widths, goes_by_registers, passes_by, pushed_by_call, aims, way_of}
use Rattle.vg_templates.specs.Whole.{Links, call_front, call_bytes, call_back}
use Rattle.vg_templates.proofs.Composing.{takes_none, takes_then, takes_wider}
use Rattle.vg_templates.proofs.Computing.{number_kept}
use Rattle.vg_templates.proofs.Holding.{takes_brings}
use Rattle.vg_templates.proofs.Arriving.{carried_kept, goes_enters_on}
use Rattle.vg_followed.specs.Covered.{CanPass}
use Rattle.vg_followed.specs.Stands.{call_place, Stands}
use Rattle.vg_followed.specs.Related.{wait_widths, Settled, Going, Related}
use Rattle.vg_followed.specs.Depth.{stack_bytes, opening_bytes, entry_bytes}
use Rattle.vg_followed.specs.Followed.{IsLegal}
use Rattle.vg_followed.proofs.Counting.{equal, stacked_bytes}
use Rattle.vg_followed.proofs.Going.{at_rest}
use Rattle.vg_followed.proofs.Places.{placed}
use Rattle.vg_followed.proofs.Calling.{bytes_summed, both_true, some_list, passing, passed_is, passed_widths_are, Entered, entered, decide_alike, starts_with, waits_for}
use Rattle.vg_followed.proofs.Calling.{Aims, Keeps, takes_aims, leads_there, call_stands, call_wide, related_entered, kept_needed, goes_on_pushed}

few_bytes : (ws : List ℕ) → by_registers ws ≡ true → sum_of ws ≤ 8
few_bytes ws e = at_most (sum_of ws) (both_true (nat_le (length ws) 4) (nat_le (sum_of ws) 8) e).1
  where
    at_most : (n : ℕ) → nat_le n 8 ≡ true → n ≤ 8
    at_most n e1 = grind (arith, e1)

module _ (e : Run) (x : Links) (p : Program) (st : Stands e x p) (deep : Type 0) where
  -- the arguments are in registers from one on, and those before it are as they were
  record Carries (m : ℕ) (live : ℕ → Bool) (s : State) (frames : List (Frame State)) (r : ℕ) (xs : List Waiting) (old new : View) : Type 0 where
    pub lies : Lies x.places m live s frames old.out new
    pub carried : Carried new.regs r xs
    pub before : (y : ℕ) → 18 ≤ y → y < r → new.regs.of y ≡ old.regs.of y

  takes_carries : (m : ℕ) (frames : List (Frame State)) (live : ℕ → Bool) (as' : List Passed) (xs : List Waiting) (r : ℕ) (s : State) (v : View)
      → AllByRecursion (CanPass (x.places.layouts m) live) as' → values as' s ≡ Some xs → 18 ≤ r → r + passed_bytes as' ≤ 28
      → Held x.places m live s frames v → Takes e deep v (carries (x.places.layouts m) r as') (Carries m live s frames r xs v)
  takes_carries m frames live [] xs r s v can got low top k =
      takes_none e deep v (Carries m live s frames r xs v)
      (record { lies = record { held = k; out = refl }; carried = subst (Carried v.regs r) (some_list [] xs got) tt; before = λ y lo hi. refl })
  takes_carries m frames live (a ∷ as') xs r s v can got low top k =
      let l = x.places.layouts m in
      let d = passing a as' s xs got in
      let goal = Carries m live s frames r xs v in
      takes_then e deep v (brings l a.value r a.width) (carries l (r + a.width) as') (Brought x.places m live s frames r a.width d.all v) goal
      (takes_brings x.places st.layouts m frames e deep live s a.value r a.width d.all v can.0.1 d.got low (omega (arith, top)) k)
      (λ u b. takes_wider e deep u (carries l (r + a.width) as') (Carries m live s frames (r + a.width) d.rest u) goal
      (λ t z. record {
        lies = record { held = z.lies.held; out = z.lies.out ∙ ap (λ (y : View). y.out) b.fetched.same };
        carried =
            subst (Carried t.regs r) (sym d.is)
            (number_kept u.regs t.regs r a.width (λ y lo hi. z.before y (omega (arith, lo, low)) hi) ∙ b.fetched.holds, z.carried);
        before = λ y lo hi. z.before y lo (omega (arith, hi)) ∙ b.fetched.others y (omega (arith, hi, top)) (inl hi);
      })
      (takes_carries m frames live as' d.rest (r + a.width) s u can.1 d.others (omega (arith, low)) (omega (arith, top)) b.held))

  -- a call all of whose arguments are in registers
  goes_on_carried : (c : Config State) (call : Calling) (s : MachineState) → fetch (codes_in p.procedures) c.proc c.pc ≡ Some (Call call) → Settled x p c
      → Going e x c s → (en : Entry State) → Entered p call c.state en → goes_by_registers call ≡ true
      → (0x1100 < e.floor + (stack_bytes x.places c.proc c.state c.frames + opening_bytes x.places en.proc) → deep)
      → Goes e deep 1 s (Related e x p (calls (language p) (at_rest c) call (Some en)))
  goes_on_carried c call s h settled g en d by_register full =
      let m = c.proc in
      let k = (placed e x p st m c.pc (Call call) h).instr in
      let l = x.places.layouts m in
      let live = x.places.live m c.pc in
      let v = g.view in
      let q = d.proc in
      let xs = d.passed in
      let os = operands call.registers in
      let aim = aims l call.callee in
      let front = passes_by (goes_by_registers call) l os in
      let way = way_of call.callee (x.call m c.pc) in
      let back = call_back l (x.waits m c.pc) call in
      let tests = both_true (call.pushed == 0) (by_registers (passed_widths os)) by_register in
      let none : call.pushed ≡ 0 = equal call.pushed 0 tests.0 in
      let all = reverse (take call.pushed c.state.waiting) ++ xs in
      let all_is : all ≡ xs = ap (λ n. reverse (take n c.state.waiting) ++ xs) none in
      let ps = st.procedures q d.procedure d.there in
      let lq = x.places.layouts q in
      let alike = decide_alike p call c.state en d lq.widths ps.locals k.covers.divided in
      let arriving : HasArriving lq (x.places.live q 0) d.procedure.params =
      subst (λ b. HasBy b lq (x.places.live q 0) d.procedure.params) (alike ∙ by_register) ps.arguments in
      let opening : opening_bytes x.places en.proc ≡ opening_bytes x.places q = ap (opening_bytes x.places) d.proc_is in
      let bytes_are = passed_is os c.state xs d.got in
      let few : bytes_of xs ≤ 8 =
      subst (λ n. n ≤ 8) (sym (bytes_summed xs ∙ ap sum_of (passed_widths_are os c.state xs d.got))) (few_bytes (passed_widths os) tests.1) in
      let f = waits_for m c.pc call c.state in
      let kept_is : c.state ≡ record c.state { waiting = drop call.pushed c.state.waiting } =
      ap (λ n. record c.state { waiting = drop n c.state.waiting }) (sym none) in
      let start = starts_with d.procedure.widths (values_of all) c.state.ram in
      let start_is : begins_on lq xs c.state ≡ start =
      ap (λ ws. starts_with ws (values_of xs) c.state.ram) ps.locals ∙ ap (λ ys. starts_with d.procedure.widths (values_of ys) c.state.ram) (sym all_is) in
      let cp = call_place x m c.pc call in
      let rest = call_code way ∷ back in
      let wide = widths-append (call_front l call) rest in
      let one = call_wide e x p st deep way back in
      let room : x.place m c.pc + widths (call_front l call ++ rest) < 65536 = k.room in
      let goal = Related e x p (calls (language p) (at_rest c) call (Some en)) in
      let to = x.entry q + widths (prologue lq) in
      let count : length xs ≡ d.procedure.params = ap length (sym all_is) ∙ d.count in
      let passed : lq.pushed ≡ call_bytes (x.waits m c.pc) call =
      arriving.bytes
      ∙ ap (λ n. sum_of (take n (x.waits m c.pc)) + 0) (sym none)
      ∙ ap (λ w. sum_of (take call.pushed (x.waits m c.pc)) + w) (sym (ap (λ b. pushed_by_call b os) by_register)) in
      let Aimed' = λ (t : View). Aims e x p st deep m live c.state c.frames call.callee v.out t × Carried t.regs 18 xs in
      goes_fewer e deep (length (call_front l call) + 1) 1 s goal (omega arith)
      (goes_then e deep (length (call_front l call)) 1 s (Sees e Aimed' cp) goal
      (takes_then e deep v front aim (Carries m live c.state c.frames 18 xs v) Aimed'
      (subst (λ b. Takes e deep v (passes_by b l os) (Carries m live c.state c.frames 18 xs v)) (sym by_register)
      (takes_carries m c.frames live os xs 18 c.state v k.covers.arguments d.got (omega arith) (omega (arith, bytes_are, few)) g.kind.held))
      (λ u z. takes_wider e deep u aim (λ t. Aims e x p st deep m live c.state c.frames call.callee u.out t × Keeps e x p st deep u t) Aimed'
      (λ t y. (
        record { lies = record { held = y.0.lies.held; out = y.0.lies.out ∙ z.lies.out }; aimed = y.0.aimed },
        carried_kept u.regs t.regs 18 xs (λ w lo hi. y.1 w lo (omega (arith, hi, few))) z.carried,
      ))
      (takes_aims e x p st deep m c.frames live call.callee c.state q u k.covers.callee d.found z.lies.held))
      (x.place m c.pc) s (front_stands e.flash (x.place m c.pc) (call_front l call) rest k.stands) (omega (arith, room, wide)) g.at)
      (λ t z.
      let size = stacked_bytes x.places m live c.state c.frames z.view.stack z.view.regs z.kind.0.lies.held.stacked in
      goes_wider e deep 1 t (Sees e (Lies x.places q (x.places.live q 0) (begins_on lq xs c.state) (f ∷ c.frames) z.view.out) to) goal
      (λ r b. related_entered e x p st deep c call z.view.out h settled (z.kind.0.lies.out ∙ g.kind.out) en d r passed
      (subst (λ w. Sees e (Lies x.places q (x.places.live q 0) start (waits_for m c.pc call w ∷ c.frames) z.view.out) to r) kept_is
      (subst (λ w. Sees e (Lies x.places q (x.places.live q 0) w (f ∷ c.frames) z.view.out) to r) start_is b)))
      (goes_enters_on x.places st.layouts e deep way q m c.pc cp (x.entry q) call live (x.places.live q 0) c.state xs c.frames z.view t
      (call_stands e x p st deep way cp back (back_stands e.flash (x.place m c.pc) (call_front l call) rest k.stands)) (omega (arith, room, wide, one)) k.leads.1.0
      (leads_there e x p st deep call.callee (x.call m c.pc) c.state cp q z.view k.leads.1.1 d.found z.kind.0.aimed)
      ps.prologue_stands ps.room
      (ap (λ w. same_widths w xs) ps.locals ∙ ap (same_widths d.procedure.widths) (sym all_is) ∙ d.same)
      (subst (HasArriving lq (x.places.live q 0)) (sym count) arriving) few z.kind.1
      (kept_needed e x p st deep m c.pc call k.covers.kept) z.kind.0.lies.held
      (λ more. full (omega (arith, more, size, opening))) z.at)))

  -- each call
  pub goes_on_call : (c : Config State) (call : Calling) (s : MachineState) → fetch (codes_in p.procedures) c.proc c.pc ≡ Some (Call call) → Settled x p c
      → Going e x c s → (en : Option (Entry State)) → enter p call c.state ≡ en
      → (0x1100 < e.floor + (stack_bytes x.places c.proc c.state c.frames
      + (pushed_by_call (goes_by_registers call) (operands call.registers) + entry_bytes x.places en)) → deep)
      → IsLegal (calls (language p) (at_rest c) call en) → Goes e deep 1 s (Related e x p (calls (language p) (at_rest c) call en))
  goes_on_call c call s h settled g None made full legal = absurd (legal refl)
  goes_on_call c call s h settled g (Some en) made full legal = by_way (goes_by_registers call) refl
    where
      by_way : (b : Bool) → goes_by_registers call ≡ b → Goes e deep 1 s (Related e x p (calls (language p) (at_rest c) call (Some en)))
      by_way false is =
          let none = ap (λ z. pushed_by_call z (operands call.registers)) is in
          goes_on_pushed e x p st deep c call s h settled g en (entered p call c.state en made) is (λ more. full (omega (arith, more, none)))
      by_way true is =
          let none = ap (λ z. pushed_by_call z (operands call.registers)) is in
          goes_on_carried c call s h settled g en (entered p call c.state en made) is (λ more. full (omega (arith, more, none)))
