-- Templates of returns, and of what follows a call.
use Rattle.std.proofs.Common.{◌≡◌, ℕ, suc, ◌+◌, ◌%◌, ◌^◌, ◌<◌, ◌≤◌, ◌⊎◌, inl, inr, Bool, true, false, not, ◌&&◌, ◌==◌}
use Rattle.std.proofs.Common.{List, [], ◌∷◌, ◌++◌, length, Option, Some, None, refl, sym, ap, ◌∙◌, subst, arith}
use Rattle.vg_meaning.specs.Outside.{Outside}
use Rattle.avr_instr.specs.declared.instr.Instr.TheVariants.{Pop}
use Rattle.avr_isa.specs.Machine.{State as MachineState}
use Rattle.avr_isa.specs.Standing.{widths, AllStandAt}
use Rattle.avr_isa.proofs.Standing.{front_stands, back_stands, widths-append}
use Rattle.vg_lin.specs.declared.instr.Call.{Call}
use Rattle.vg_lin.specs.declared.instr.Operand.{Operand}
use Rattle.vg_lin.specs.declared.instr.Target.{Target}
use Rattle.vg_lin.specs.Steps.{Result, Frame}
use Rattle.vg_lin.specs.State.{State, value, sets}
use Rattle.vg_lin.specs.Meaning.{with_result}
use Rattle.vg_lin.specs.Values.{low}
use Rattle.avr_view.specs.Registers.{pair, put}
use Rattle.avr_view.specs.Run.{Run, Goes}
use Rattle.avr_view.specs.View.{View, At}
use Rattle.avr_view.proofs.Going.{goes_then, goes_fewer, goes_wider}
use Rattle.avr_view.proofs.StackSteps.{goes_pop, goes_raise}
use Rattle.vg_templates.specs.Spots.{number}
use Rattle.vg_templates.specs.Layouts.{IsLayout, IsOwned, IsReliable, width_of, outlives}
use Rattle.vg_templates.specs.Linkage.{epilogue, sp_is_y}
use Rattle.vg_templates.specs.Frames.{Waits, Places, wanted, needed, AllOutlive, gets, Stacked}
use Rattle.vg_templates.specs.CallOutcomes.{Resumed}
use Rattle.vg_templates.proofs.Calling.{goes_resume}
use Rattle.vg_templates.proofs.Numbers.{put_other}
use Rattle.vg_templates.specs.Pieces.{Sees, Takes}
use Rattle.vg_templates.specs.Held.{Held, IsReady, IsSet, brings, gives, Brought, Given}
use Rattle.vg_templates.proofs.Composing.{takes_none, takes_then, takes_next, takes_wider}
use Rattle.vg_templates.proofs.Holding.{takes_brings, takes_gives, held_scratch}
use Rattle.vg_templates.specs.Outcomes.{Lies}
use Rattle.vg_templates.proofs.Computing.{number_kept}
use Rattle.vg_templates.proofs.Storing.{held_fewer}
use Rattle.vg_templates.specs.Returns.{returns_value, pops_away, drops, takes_result, behind_call, CanLand, CanDrop, Returned}

not_reliable : (d : ℕ) → (d < 2) ⊎ ((18 ≤ d) × (d < 28)) → IsReliable d → ⊥
not_reliable d (inl h) (inl k) = let low = k.0 in omega arith
not_reliable d (inl h) (inr k) = let low = k.0 in omega arith
not_reliable d (inr h) (inl k) = let low = h.0 in let high = k.1 in omega arith
not_reliable d (inr h) (inr k) = let high = h.1 in let low = k.0 in omega arith

module _ (i : Places) (ok : (m : ℕ) → IsLayout (i.layouts m)) (e : Run) (deep : Type 0) where
  -- a procedure returns a value to the one that waits for it
  pub goes_returns : (q : ℕ) (f : Frame State) (frames : List (Frame State)) (live : ℕ → Bool) (s : State) (a : Operand) (n x pc : ℕ) (v : View)
      (t : MachineState) → n ≤ 4 → IsReady (i.layouts q) live a → value a s ≡ Some x → s.waiting ≡ [] → Held i q live s (f ∷ frames) v
      → AllStandAt e.flash pc (returns_value (i.layouts q) a n) → pc + widths (returns_value (i.layouts q) a n) < 65536 → At e pc v t
      → Goes e deep 1 t (Returned e i q f frames n x s.ram v.out)
  goes_returns q f frames live s a n x pc v t small ready got nothing k stand room here =
      let l = i.layouts q in
      let is = brings l a 22 n in
      let wide = widths-append is (epilogue l) in
      let goal = Returned e i q f frames n x s.ram v.out in
      goes_fewer e deep (length is + 1) 1 t goal (omega arith)
      (goes_then e deep (length is) 1 t (Sees e (Brought i q live s (f ∷ frames) 22 n x v) (pc + widths is)) goal
      (takes_brings i ok q (f ∷ frames) e deep live s a 22 n x v ready got (omega arith) (omega arith) k pc t (front_stands e.flash pc is (epilogue l) stand)
      (omega (arith, room, wide)) here)
      (λ u z. goes_wider e deep 1 u (Resumed e i q f frames z.view) goal
      (λ w r. record {
        exit = z.view;
        resumed = r;
        result = z.kind.fetched.holds;
        r1 = z.kind.held.r1;
        columns = z.kind.held.ram;
        out = ap (λ (y : View). y.out) z.kind.fetched.same;
      })
      (goes_resume e deep i ok q (pc + widths is) live s f frames z.view u (back_stands e.flash pc is (epilogue l) stand) (omega (arith, room, wide)) nothing
      z.kind.held.stacked z.at)))

  -- ---- arguments are dropped

  pub takes_pops : (args below : List ℕ) (v : View) → v.stack ≡ args ++ below
      → Takes e deep v (pops_away (length args))
      (λ u. ((d : ℕ) → 0 < d → u.regs.of d ≡ v.regs.of d) × (u ≡ record v { regs = u.regs; stack = below }))
  takes_pops [] below v cut =
      takes_none e deep v (λ u. ((d : ℕ) → 0 < d → u.regs.of d ≡ v.regs.of d) × (u ≡ record v { regs = u.regs; stack = below }))
      ((λ d h. refl), ap (λ l. record v { stack = l }) cut)
  takes_pops (x ∷ args) below v cut =
      let u : View = record v { regs = put v.regs 0 x; stack = args ++ below } in
      let K = λ (t : View). ((d : ℕ) → 0 < d → t.regs.of d ≡ v.regs.of d) × (t ≡ record v { regs = t.regs; stack = below }) in
      takes_next e deep v u (Pop 0) (pops_away (length args)) K (λ pc s stand room a. goes_pop e deep pc v s a 0 x (args ++ below) cut stand room)
      (takes_wider e deep u (pops_away (length args))
      (λ t. ((d : ℕ) → 0 < d → t.regs.of d ≡ u.regs.of d) × (t ≡ record u { regs = t.regs; stack = below })) K
      (λ t k. ((λ d h. k.0 d h ∙ put_other v.regs 0 x d (omega arith)), k.1)) (takes_pops args below u refl))

  takes_raise : (args below : List ℕ) (v : View) → v.stack ≡ args ++ below → pair v.regs 28 + 1 + length below ≡ 0x1100
      → Takes e deep v sp_is_y (λ u. u ≡ record v { stack = below })
  takes_raise args below v cut base pc s stand room a =
      let u : View = record v { stack = below } in
      goes_wider e deep 2 s (At e (pc + 2) u) (Sees e (λ t. t ≡ u) (pc + 2)) (λ t b. record { view = u; kind = refl; at = b })
      (goes_raise e deep pc v s a 29 28 args below cut stand.0 stand.1.0 room (omega arith))

  -- behind the drop of the arguments, the caller lies there with its result in r22 and those behind it
  record Dropped (f : Frame State) (frames : List (Frame State)) (n x : ℕ) (ram : List ℕ) (o : Outside) (v : View) : Type 0 where
    pub held : Held i f.proc (needed i f.proc f.awaits f.pc) (record f.kept { ram = ram }) frames v
    pub result : number v.regs 22 n ≡ x % 256 ^ n
    pub out : v.out ≡ o

  -- the view of a caller whose arguments have been dropped
  dropped : (f : Frame State) (frames : List (Frame State)) (n x : ℕ) (ram rest : List ℕ) (o : Outside) (v u : View)
      → Stacked i f.proc (needed i f.proc f.awaits f.pc) f.kept frames rest v.regs → ((d : ℕ) → 0 < d → u.regs.of d ≡ v.regs.of d)
      → u ≡ record v { regs = u.regs; stack = rest } → v.regs.of 1 ≡ 0 → number v.regs 22 n ≡ x % 256 ^ n → v.static ≡ ram → v.out ≡ o → n ≤ 4
      → Dropped f frames n x ram o u
  dropped f frames n x ram rest o v u k same shape one result columns out small =
      let middle : View = record v { stack = rest } in
      let live = needed i f.proc f.awaits f.pc in
      let now : State = record f.kept { ram = ram } in
      let before : Held i f.proc live now frames middle =
      record {
        stacked =
            record {
              wait = k.wait;
              own = k.own;
              under = k.under;
              cut = k.cut;
              points = k.points;
              waits = k.waits;
              fits = record { each = k.fits.each; widths = k.fits.widths; long = k.fits.long };
              callers = k.callers;
            };
        r1 = one;
        ram = columns;
      } in
      record {
        held = held_scratch i ok f.proc frames live now middle u shape (λ r reliable. same r (some r reliable)) (same 1 (omega arith)) before;
        result = number_kept v.regs u.regs 22 n (λ y lo hi. same y (omega arith)) ∙ result;
        out = ap (λ (y : View). y.out) shape ∙ out;
      }
    where
      some : (r : ℕ) → IsOwned r → 0 < r
      some r (inl h) = let lo = h.0 in omega arith
      some r (inr h) = let lo = h.0 in omega arith

  -- ---- and the result goes to its local

  both_hold : (a b : Bool) → a ≡ true → b ≡ true → (a && b) ≡ true
  both_hold true true e f = refl
  both_hold true false e f = absurd (let clash : false ≡ true = f in cc)
  both_hold false b e f = absurd (let clash : false ≡ true = e in cc)

  and_not : (a b : Bool) → a ≡ true → b ≡ false → (a && not b) ≡ true
  and_not true false e f = refl
  and_not true true e f = absurd (let clash : true ≡ false = f in cc)
  and_not false b e f = absurd (let clash : false ≡ true = e in cc)

  takes_results : (m : ℕ) (behind : ℕ → Bool) (s : State) (to : Option Target) (frames : List (Frame State)) (n x : ℕ) (v : View) → n ≤ 4
      → CanLand (i.layouts m) behind n to → number v.regs 22 n ≡ x % 256 ^ n → Held i m (λ k. behind k && not (gets to k)) s frames v
      → Takes e deep v (takes_result (i.layouts m) to) (Lies i m behind (with_result to (low n x) s) frames v.out)
  takes_results m behind s None frames n x v small can result k =
      takes_none e deep v (Lies i m behind s frames v.out)
      (record {
        held = held_fewer i m (λ j. behind j && not (gets None j)) behind s frames v (λ j alive. and_not (behind j) false alive refl) k;
        out = refl;
      })
  takes_results m behind s (Some to) frames n x v small can result k =
      let l = i.layouts m in
      let before = λ (j : ℕ). behind j && not (gets (Some to) j) in
      let goal = Lies i m behind (sets to.local (low n x) s) frames v.out in
      let set : IsSet l before behind to.local =
      record {
        there = can.there;
        others = λ j alive other. (and_not (behind j) (j == to.local) alive (let ne : (j == to.local) ≡ false = grind (arith, other) in ne), can.apart j alive other);
      } in
      let wide = can.width in
      takes_wider e deep v (gives l to.local 22 to.width) (Given i m behind (sets to.local (number v.regs 22 to.width) s) frames v) goal
      (λ u g.
      let same : number v.regs 22 to.width ≡ low n x = ap (number v.regs 22) wide ∙ result in
      record { held = subst (λ y. Held i m behind (sets to.local y s) frames u) same g.held; out = g.out })
      (takes_gives i ok m frames e deep before behind s to.local 22 to.width v set (omega arith) (omega (arith, wide, small)) k)

  -- ---- where a procedure has returned, its caller goes on

  -- what the caller sees first
  takes_drops : (m pc : ℕ) (kept : State) (call : Call) (frames : List (Frame State)) (n x : ℕ) (ram args rest : List ℕ) (o : Outside) (at_once : Bool)
      (v : View) → n ≤ 4 → CanDrop (i.layouts m) at_once kept → v.stack ≡ args ++ rest
      → Stacked i m (needed i m (Result call) pc) kept frames rest v.regs → v.regs.of 1 ≡ 0 → number v.regs 22 n ≡ x % 256 ^ n
      → v.static ≡ ram → v.out ≡ o
      → Takes e deep v (drops at_once (length args)) (Dropped (record { proc = m; pc = pc; kept = kept; awaits = Result call }) frames n x ram o)
  takes_drops m pc kept call frames n x ram args rest o false v small can cut k one result columns out =
      let f : Frame State = record { proc = m; pc = pc; kept = kept; awaits = Result call } in
      takes_wider e deep v (pops_away (length args))
      (λ u. ((d : ℕ) → 0 < d → u.regs.of d ≡ v.regs.of d) × (u ≡ record v { regs = u.regs; stack = rest })) (Dropped f frames n x ram o)
      (λ u p. dropped f frames n x ram rest o v u k p.0 p.1 one result columns out small) (takes_pops args rest v cut)
  takes_drops m pc kept call frames n x ram args rest o true v small can cut k one result columns out =
      let f : Frame State = record { proc = m; pc = pc; kept = kept; awaits = Result call } in
      let nothing : k.wait ≡ [] = subst (λ ws. Waits ws k.wait) can.1 k.waits in
      let own_is : rest ≡ k.own ++ k.under = k.cut ∙ ap (λ w. w ++ (k.own ++ k.under)) nothing in
      let base : pair v.regs 28 + 1 + length rest ≡ 0x1100 = ap (λ l. pair v.regs 28 + 1 + length l) own_is ∙ k.points can.0 in
      takes_wider e deep v sp_is_y (λ u. u ≡ record v { stack = rest }) (Dropped f frames n x ram o)
      (λ u p. dropped f frames n x ram rest o v u k (λ d h. ap (λ (y : View). y.regs.of d) p) (shape u p) one result columns out small)
      (takes_raise args rest v cut base)
    where
      shape : (u : View) → u ≡ record v { stack = rest } → u ≡ record v { regs = u.regs; stack = rest }
      shape u p = p ∙ ap (λ g. record v { regs = g; stack = rest }) (sym (ap (λ (y : View). y.regs) p))

  pub goes_on : (q m pc : ℕ) (kept : State) (call : Call) (frames : List (Frame State)) (n x : ℕ) (ram : List ℕ) (o : Outside) (at_once : Bool)
      (s : MachineState) → n ≤ 4 → CanDrop (i.layouts m) at_once kept → CanLand (i.layouts m) (i.live m (suc pc)) n call.to
      → AllOutlive (i.layouts m) (i.live m) (Result call) pc
      → (let is = behind_call (i.layouts m) at_once (i.layouts q).pushed call.to in
      AllStandAt e.flash (i.behind m pc) is → i.behind m pc + widths is < 65536
      → Returned e i q (record { proc = m; pc = pc; kept = kept; awaits = Result call }) frames n x ram o s
      → Goes e deep 0 s (Sees e (Lies i m (i.live m (suc pc)) (with_result call.to (low n x) (record kept { ram = ram })) frames o)
      (i.behind m pc + widths is)))
  goes_on q m pc kept call frames n x ram o at_once s small can land all stand room back =
      let f : Frame State = record { proc = m; pc = pc; kept = kept; awaits = Result call } in
      let l = i.layouts m in
      let is = behind_call l at_once (i.layouts q).pushed call.to in
      let after : State = record kept { ram = ram } in
      let goal = Lies i m (i.live m (suc pc)) (with_result call.to (low n x) after) frames o in
      let r = back.resumed in
      let u : View = record back.exit { regs = r.regs; stack = r.args ++ r.rest } in
      let one : r.regs.of 1 ≡ 0 = r.scratch 1 (not_reliable 1 (inl (omega arith))) ∙ back.r1 in
      let result : number r.regs 22 n ≡ x % 256 ^ n =
      number_kept back.exit.regs r.regs 22 n (λ y lo hi. r.scratch y (not_reliable y (inr (omega arith, omega arith)))) ∙ back.result in
      let piece : Takes e deep u is goal =
      takes_then e deep u (drops at_once (i.layouts q).pushed) (takes_result l call.to) (Dropped f frames n x ram o) goal
      (subst (λ c. Takes e deep u (drops at_once c) (Dropped f frames n x ram o)) r.long
      (takes_drops m pc kept call frames n x ram r.args r.rest o at_once u small can refl r.stacked one result back.columns back.out))
      (λ t d. takes_wider e deep t (takes_result l call.to) (Lies i m (i.live m (suc pc)) (with_result call.to (low n x) after) frames t.out) goal
      (λ y z. record { held = z.held; out = z.out ∙ d.out })
      (takes_results m (i.live m (suc pc)) after call.to frames n x t small land d.result
      (held_fewer i m (needed i m (Result call) pc) (wanted (i.live m) (Result call) pc) after frames t
      (λ k want. both_hold (wanted (i.live m) (Result call) pc k) (outlives (l.spots k) (width_of l k)) want (all k want)) d.held))) in
      goes_fewer e deep (length is) 0 s (Sees e goal (i.behind m pc + widths is)) (omega arith) (piece (i.behind m pc) s stand room r.at)
