-- Returns, matched by the machine.
use Rattle.std.proofs.Common.{◌≡◌, ℕ, suc, ◌+◌, ◌<◌, ◌≤◌, inl, inr, Bool, true, false, not, ◌&&◌, nat_lt, List, [], ◌∷◌, ◌++◌}
use Rattle.std.proofs.Common.{Option, Some, None, refl, sym, ap, ◌∙◌, subst, arith, slice_get}
use Rattle.std.specs.Prelude.{drop}
use Rattle.avr_instr.specs.declared.instr.Instr.{Instr as Avr}
use Rattle.avr_isa.specs.Machine.{State as MachineState}
use Rattle.avr_instr.specs.declared.instr.Instr.TheVariants.{Reti}
use Rattle.avr_isa.specs.Standing.{widths, StandsAt, AllStandAt}
use Rattle.avr_isa.proofs.Standing.{back_stands, widths-append}
use Rattle.vg_lin.specs.declared.instr.Instr.TheVariants.{Call, Return, Idle}
use Rattle.vg_lin.specs.declared.instr.Operand.{Operand}
use Rattle.vg_lin.specs.declared.instr.Target.{Target}
use Rattle.vg_lin.specs.Meaning.{gives_to, with_result, cut_to, result_of, result, language, codes_in}
use Rattle.vg_lin.specs.Program.{Procedure, Program}
use Rattle.vg_lin.specs.State.{State, Waiting, value}
use Rattle.vg_lin.specs.Steps.{Awaits, Result, Interrupt, Frame, Config, returns, fetch}
use Rattle.vg_lin.specs.Values.{low}
use Rattle.avr_view.specs.Run.{Run, Goes}
use Rattle.avr_view.specs.View.{View, At}
use Rattle.avr_view.proofs.Going.{goes_then, goes_fewer, goes_wider}
use Rattle.vg_templates.specs.Layouts.{Layout, IsReliable}
use Rattle.vg_templates.specs.Frames.{Places, wanted, needed, AllOutlive}
use Rattle.vg_templates.proofs.Saving.{fits_fewer}
use Rattle.vg_templates.specs.Pieces.{Sees}
use Rattle.vg_templates.specs.Held.{Held}
use Rattle.vg_templates.specs.Outcomes.{Lies}
use Rattle.vg_templates.specs.Calls.{call_code, call_words, Way, Far, Near, ByZ}
use Rattle.vg_templates.specs.Returns.{behind_call, CanLand, CanDrop, Returned}
use Rattle.vg_templates.proofs.Returning.{goes_returns, goes_on}
use Rattle.vg_templates.specs.Idle.{Back}
use Rattle.vg_templates.proofs.Waking.{goes_back}
use Rattle.vg_templates.specs.Flow.{is_none, drops_at_once, way_of}
use Rattle.vg_templates.specs.Whole.{Links, call_front, call_bytes, call_back}
use Rattle.vg_followed.specs.Covered.{CanTake}
use Rattle.vg_followed.specs.Stands.{Stands}
use Rattle.vg_followed.specs.Related.{wait_widths, IsCaller, AreCallers, Settled, Going, Related}
use Rattle.vg_followed.specs.Followed.{IsLegal}
use Rattle.vg_followed.proofs.Going.{at_rest}
use Rattle.vg_followed.proofs.Counting.{equal}
use Rattle.vg_followed.proofs.Places.{placed}

-- nothing waits where a procedure returns, and this is what it returns
record Returns (w : ℕ) (a : Operand) (s : State) (z : ℕ) : Type 0 where
  pub nothing : s.waiting ≡ []
  pub all : ℕ
  pub got : value a s ≡ Some all
  pub low_bytes : low w all ≡ z

some_same : (a b : ℕ) → Some a ≡ Some b → a ≡ b
some_same a b e = cc

returned : (w : ℕ) (a : Operand) (s : State) (z : ℕ) → result w a s ≡ Some z → Returns w a s z
returned w a s z e = by_waiting s.waiting refl e
  where
    by_value : (o : Option ℕ) → value a s ≡ o → cut_to w o ≡ Some z → s.waiting ≡ [] → Returns w a s z
    by_value (Some y) got f none = record { nothing = none; all = y; got = got; low_bytes = some_same (low w y) z f }
    by_value None got f none = absurd (let clash : None ≡ Some z = f in cc)

    by_waiting : (ws : List Waiting) → s.waiting ≡ ws → result_of w a s ws ≡ Some z → Returns w a s z
    by_waiting [] none f = by_value (value a s) refl f none
    by_waiting (y ∷ ys) some f = absurd (let clash : None ≡ Some z = f in cc)

nothing_waits : (ws : List Waiting) (ns : List ℕ) → wait_widths ws ≡ ns → is_none ns ≡ true → ws ≡ []
nothing_waits [] ns e h = refl
nothing_waits (w ∷ ws) [] e h = absurd (let clash : w.width ∷ wait_widths ws ≡ [] = e in cc)
nothing_waits (w ∷ ws) (n ∷ ns) e h = absurd (let clash : false ≡ true = h in cc)

both_true : (a b : Bool) → (a && b) ≡ true → (a ≡ true) × (b ≡ true)
both_true true b h = (refl, h)
both_true false b h = absurd (let clash : false ≡ true = h in cc)

can_drop : (l : Layout) (ns : List ℕ) (n : ℕ) (kept : State) → wait_widths kept.waiting ≡ ns → (b : Bool) → drops_at_once l ns n ≡ b → CanDrop l b kept
can_drop l ns n kept e false h = tt
can_drop l ns n kept e true h =
    let k = both_true (l.pointed && is_none ns) (nat_lt 2 n) h in
    let j = both_true l.pointed (is_none ns) k.0 in
    (j.0, nothing_waits kept.waiting ns e j.1)

can_land : (l : Layout) (behind : ℕ → Bool) (to : Option Target) (w r : ℕ) → CanTake l behind to → w ≡ r → gives_to r to ≡ true → CanLand l behind w to
can_land l behind None w r can same fits = tt
can_land l behind (Some to) w r can same fits =
    let width = equal to.width r fits in record { width = width ∙ sym same; there = can.there; apart = can.apart }

waiting_kept : (to : Option Target) (v : ℕ) (s : State) → (with_result to v s).waiting ≡ s.waiting
waiting_kept None v s = refl
waiting_kept (Some to) v s = refl

call_width : (way : Way) (is : List Avr) → widths (call_code way ∷ is) ≡ call_words way + widths is
call_width (Far n) is = refl
call_width (Near n) is = refl
call_width ByZ is = refl

-- what is live behind an instruction that idles is found again, where it outlives what is called there
idle_needed : (i : Places) (m pc k : ℕ) → AllOutlive (i.layouts m) (i.live m) Interrupt pc → i.live m (suc pc) k ≡ true → needed i m Interrupt pc k ≡ true
idle_needed i m pc k all h =
    let want = wanted_back (i.live m (suc pc) k) h in both (wanted (i.live m) Interrupt pc k) _ want (all k want)
  where
    wanted_back : (b : Bool) → b ≡ true → (b && not false) ≡ true
    wanted_back true e1 = refl
    wanted_back false e1 = e1

    both : (b d : Bool) → b ≡ true → d ≡ true → (b && d) ≡ true
    both true d e1 e2 = e2
    both false d e1 e2 = e1

module _ (e : Run) (x : Links) (p : Program) (st : Stands e x p) (deep : Type 0) where
  -- the configuration behind a return to a frame
  abbrev Back' : (c : Config State) (f : Frame State) (fs : List (Frame State)) (v : ℕ) → Config State
  Back' c f fs v =
      record (at_rest c) { proc = f.proc; pc = suc f.pc; state = (language p).resume f.awaits f.kept c.state v; frames = fs }

  -- from where the procedure has returned
  goes_to_caller : (c : Config State) (w y m pc : ℕ) (kept : State) (a : Awaits) (fs : List (Frame State)) (procedure : Procedure) (s : MachineState) → w ≤ 4
      → slice_get p.procedures c.proc ≡ Some procedure → w ≡ procedure.result
      → IsCaller x p (record { proc = m; pc = pc; kept = kept; awaits = a }) c.proc → AreCallers x p fs m → Settled x p c
      → Returned e x.places c.proc (record { proc = m; pc = pc; kept = kept; awaits = a }) fs w y c.state.ram c.outside s
      → Goes e deep 0 s (Related e x p (Back' c (record { proc = m; pc = pc; kept = kept; awaits = a }) fs (low w y)))
  goes_to_caller c w y m pc kept (Result call) fs procedure s small there same is rest settled r =
      let k = (placed e x p st m pc (Call call) is.stands).instr in
      let l = x.places.layouts m in
      let ns = drop call.pushed (x.waits m pc) in
      let n = call_bytes (x.waits m pc) call in
      let front = call_front l call in
      let way = way_of call.callee (x.call m pc) in
      let back = call_back l (x.waits m pc) call in
      let at_once = drops_at_once l ns n in
      let wide = widths-append front (call_code way ∷ back) in
      let one = call_width way back in
      let behind = k.leads.1.0 in
      let where_is : x.place m pc + widths front + call_words way ≡ x.places.behind m pc = sym behind in
      let room : x.place m pc + widths (front ++ (call_code way ∷ back)) < 65536 = k.room in
      let on : x.place m (suc pc) ≡ x.place m pc + widths (front ++ (call_code way ∷ back)) = k.leads.0 in
      let tail = back_stands e.flash (x.place m pc) front (call_code way ∷ back) k.stands in
      let code_here : AllStandAt e.flash (x.places.behind m pc) back = subst (λ z. AllStandAt e.flash z back) where_is (past way back (x.place m pc + widths front) tail) in
      let stand : AllStandAt e.flash (x.places.behind m pc) (behind_call l at_once (x.places.layouts c.proc).pushed call.to) =
      subst (λ z. AllStandAt e.flash (x.places.behind m pc) (behind_call l at_once z call.to)) (sym is.passed) code_here in
      let next : x.places.behind m pc + widths back ≡ x.place m (suc pc) = omega (arith, where_is, wide, one, on) in
      let inside : x.places.behind m pc + widths back < 65536 = omega (arith, where_is, wide, one, room) in
      let to : x.places.behind m pc + widths (behind_call l at_once (x.places.layouts c.proc).pushed call.to) ≡ x.place m (suc pc) =
      ap (λ z. x.places.behind m pc + widths (behind_call l at_once z call.to)) is.passed ∙ next in
      let state = with_result call.to (low w y) (record kept { ram = c.state.ram }) in
      goes_wider e deep 0 s
      (Sees e (Lies x.places m (x.places.live m (suc pc)) state fs c.outside)
      (x.places.behind m pc + widths (behind_call l at_once (x.places.layouts c.proc).pushed call.to)))
      (Related e x p (Back' c (record { proc = m; pc = pc; kept = kept; awaits = Result call }) fs (low w y)))
      (λ t z. (
        record {
          waits = ap wait_widths (waiting_kept call.to (low w y) (record kept { ram = c.state.ram })) ∙ is.waits ∙ sym k.waits;
          callers = rest;
          vectors = settled.vectors;
        },
        subst (λ b. Sees e (Lies x.places m (x.places.live m (suc pc)) state fs c.outside) b t) to z,
      ))
      (goes_on x.places st.layouts e deep c.proc m pc kept call fs w y c.state.ram c.outside at_once s small (can_drop l ns n kept is.waits at_once refl)
      (can_land l (x.places.live m (suc pc)) call.to w procedure.result k.covers.takes same (is.results procedure there)) k.covers.outlive stand
      (subst (λ z. x.places.behind m pc + widths (behind_call l at_once z call.to) < 65536) (sym is.passed) inside) r)
    where
      past : (way : Way) (js : List Avr) (at : ℕ) → AllStandAt e.flash at (call_code way ∷ js) → AllStandAt e.flash (at + call_words way) js
      past (Far n) js at h = h.1
      past (Near n) js at h = h.1
      past ByZ js at h = h.1
  goes_to_caller c w y m pc kept Interrupt fs procedure s small there same is rest settled r =
      let k = (placed e x p st m pc Idle is.stands).instr in
      let l = x.places.layouts m in
      let f : Frame State = record { proc = m; pc = pc; kept = kept; awaits = Interrupt } in
      let place = x.place m pc in
      let hs = st.handlers is.handles.0 c.proc is.handles.1 in
      let next : x.places.behind m pc ≡ x.place m (suc pc) = k.leads.1 ∙ sym k.leads.0 in
      let reti = subst (λ z. StandsAt e.flash z Reti) (sym hs.handled.ends) hs.handled.stands.1.0 in
      let exit = r.exit in
      let goal = Related e x p (Back' c f fs (low w y)) in
      goes_fewer e deep 3 0 s goal (omega arith)
      (goes_wider e deep 3 s (Back e x.places f fs exit) goal
      (λ t b.
      let v : View = record exit { regs = b.regs; stack = b.rest } in
      let z = b.stacked in (
        record { waits = is.waits ∙ sym k.waits; callers = rest; vectors = settled.vectors },
        record {
          view = v;
          kind =
              record {
                held =
                    record {
                      stacked =
                          record {
                            wait = z.wait;
                            own = z.own;
                            under = z.under;
                            cut = z.cut;
                            points = z.points;
                            waits = z.waits;
                            fits =
                                (let fits = fits_fewer l (needed x.places m Interrupt pc) (x.places.live m (suc pc)) kept.locals z.own b.regs (λ j alive. idle_needed x.places m pc j k.covers.1 alive) z.fits in
                                record { each = fits.each; widths = fits.widths; long = fits.long });
                            callers = z.callers;
                          };
                      r1 = b.scratch 1 (not_reliable) ∙ r.r1;
                      ram = r.columns;
                    };
                out = r.out;
              };
          at = subst (λ n. At e n v t) next b.at;
        },
      ))
      (goes_back e deep x.places x.idle st.idle st.layouts c.proc place f fs exit s refl is.passed reti k.leads.1 r.resumed))
    where
      not_reliable : IsReliable 1 → ⊥
      not_reliable (inl h) = let low' = h.0 in omega arith
      not_reliable (inr h) = let low' = h.0 in omega arith

  pub goes_on_return : (c : Config State) (w : ℕ) (a : Operand) (s : MachineState) → fetch (codes_in p.procedures) c.proc c.pc ≡ Some (Return w a)
      → Settled x p c → Going e x c s → (z : Option ℕ) → result w a c.state ≡ z → (fs : List (Frame State)) → c.frames ≡ fs
      → IsLegal (returns (language p) (record (at_rest c) { frames = fs }) z)
      → Goes e deep 1 s (Related e x p (returns (language p) (record (at_rest c) { frames = fs }) z))
  goes_on_return c w a s h settled g None made fs are legal = absurd (legal refl)
  goes_on_return c w a s h settled g (Some z) made [] are legal = absurd (legal refl)
  goes_on_return c w a s h settled g (Some z) made (f ∷ fs) are legal =
      let pl = placed e x p st c.proc c.pc (Return w a) h in
      let k = pl.instr in
      let l = x.places.layouts c.proc in
      let d = returned w a c.state z made in
      let narrow = pl.stands.result in
      let same = k.covers.0 in
      let small : w ≤ 4 = omega (arith, narrow, same) in
      let v = g.view in
      let callers : AreCallers x p (f ∷ fs) c.proc = subst (λ q. AreCallers x p q c.proc) are settled.callers in
      let held : Held x.places c.proc (x.places.live c.proc c.pc) c.state (f ∷ fs) v = subst (λ q. Held x.places c.proc (x.places.live c.proc c.pc) c.state q v) are g.kind.held in
      let goal = Related e x p (Back' c f fs z) in
      goes_then e deep 1 0 s (Returned e x.places c.proc f fs w d.all c.state.ram v.out) goal
      (goes_returns x.places st.layouts e deep c.proc f fs (x.places.live c.proc c.pc) c.state a w d.all (x.place c.proc c.pc) v s small k.covers.1 d.got d.nothing held k.stands
      k.room g.at)
      (λ t r. subst (λ n. Goes e deep 0 t (Related e x p (Back' c f fs n))) d.low_bytes
      (goes_to_caller c w d.all f.proc f.pc f.kept f.awaits fs pl.procedure t small pl.there same callers.0 callers.1 settled
      (subst (λ o. Returned e x.places c.proc f fs w d.all c.state.ram o t) g.kind.out r)))
