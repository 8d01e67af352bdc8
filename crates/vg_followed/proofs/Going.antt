-- Plain instructions, branches and jumps of a configuration, matched by the machine.
use Rattle.std.proofs.Common.{◌≡◌, ◌≢◌, ℕ, suc, ◌+◌, ◌<◌, Bool, true, false, not, if◌then◌else◌, List, [], ◌∷◌, ◌++◌, length}
use Rattle.std.proofs.Common.{Option, Some, None, refl, sym, ap, ◌∙◌, subst, arith}
use Rattle.vg_meaning.specs.Outside.{Outside, AreVectors}
use Rattle.avr_instr.specs.declared.instr.Instr.TheVariants.{Jmp, Rjmp}
use Rattle.avr_isa.specs.declared.ending.MachineEnd.TheVariants as machine_end
use Rattle.avr_isa.specs.Flow.{near_from, far_from}
use Rattle.avr_isa.specs.Machine.{State as MachineState}
use Rattle.avr_isa.specs.Standing.{widths, AllStandAt}
use Rattle.avr_isa.proofs.Standing.{front_stands, back_stands, widths-append}
use Rattle.vg_lin.specs.declared.instr.Instr.TheVariants.{Plain, When, Unless, Jump}
use Rattle.vg_lin.specs.declared.instr.Plain.{Plain as PlainInstr}
use Rattle.vg_lin.specs.declared.instr.Plain.TheVariants.{Copy, Compute, Product, DivideSteps, Load, Store, ReadDevice, WriteDevice, Push, Pop, Find, CodeOf, Stop}
use Rattle.vg_lin.specs.declared.instr.Test.{Test}
use Rattle.vg_lin.specs.Meaning.{codes_in}
use Rattle.vg_lin.specs.Program.{Program}
use Rattle.vg_lin.specs.State.{State, value, both, holds, plain}
use Rattle.vg_lin.specs.Steps.{Went, Goes as GoesOn, Raises, Lacks, Fails, Config, Frame, went, branched, fetch}
use Rattle.vg_lin.specs.Values.{compared}
use Rattle.avr_view.specs.Run.{Run, Goes, Front, Ended}
use Rattle.avr_view.specs.View.{View, At}
use Rattle.avr_view.proofs.Going.{goes_then, goes_fewer, goes_wider}
use Rattle.avr_view.proofs.JumpSteps.{goes_brbs, goes_brbc, goes_rjmp}
use Rattle.vg_templates.specs.Pieces.{Sees}
use Rattle.vg_templates.specs.Held.{Held}
use Rattle.vg_templates.specs.Outcomes.{Lies, IsKept}
use Rattle.vg_templates.proofs.Storing.{held_fewer}
use Rattle.vg_templates.specs.Straight.{pushed_by}
use Rattle.vg_templates.proofs.Reading.{ends_reads_device, ends_stops}
use Rattle.vg_templates.specs.Branches.{tests, told_by, near_branch, Told, Branched, is_taken}
use Rattle.vg_templates.proofs.Testing.{takes_tests, goes_branch_near, goes_branch_far, goes_jump_far, goes_jump_near}
use Rattle.vg_templates.specs.Flow.{Hop, Near, Far, Turn, Direct, Past, branch_code, jump_code}
use Rattle.vg_templates.specs.Plains.{plain_template}
use Rattle.vg_templates.specs.Whole.{Links, template}
use Rattle.vg_followed.proofs.Joining.{goes_plain}
use Rattle.vg_followed.specs.Covered.{Covers, CanTest}
use Rattle.vg_followed.specs.Stands.{HopLeads, TurnLeads, PlainWaits, Stands}
use Rattle.vg_followed.specs.Related.{wait_widths, Settled, Going, Related}
use Rattle.vg_followed.specs.Depth.{stack_bytes}
use Rattle.vg_followed.specs.Followed.{IsLegal}
use Rattle.vg_followed.proofs.Counting.{stacked_bytes}
use Rattle.vg_followed.proofs.Doing.{Did, did}
use Rattle.vg_followed.proofs.Places.{placed}

-- ---- widths of what waits

cons_same : (w : ℕ) (xs ys : List ℕ) → w ∷ xs ≡ w ∷ ys → xs ≡ ys
cons_same w xs ys e = cc

waits_next : (p : Program) (q : PlainInstr) (s s' : State) (o o' : Outside) (old new now next : List ℕ) → plain p q s o ≡ GoesOn s' o' → old ≡ now
    → PlainWaits old new q → PlainWaits now next q → new ≡ next
waits_next p (Push w a) s s' o o' old new now next made same h k = h ∙ ap (λ z. w ∷ z) same ∙ sym k
waits_next p (Pop w to) s s' o o' old new now next made same h k = cons_same w new next (sym h ∙ same ∙ k)
waits_next p (Stop code) s s' o o' old new now next made same h k = absurd (let clash : Raises code ≡ GoesOn s' o' = made in cc)
waits_next p (Copy to a) s s' o o' old new now next made same h k = h ∙ same ∙ sym k
waits_next p (Compute c) s s' o o' old new now next made same h k = h ∙ same ∙ sym k
waits_next p (Product to a b) s s' o o' old new now next made same h k = h ∙ same ∙ sym k
waits_next p (DivideSteps r d a) s s' o o' old new now next made same h k = h ∙ same ∙ sym k
waits_next p (Load m w to a) s s' o o' old new now next made same h k = h ∙ same ∙ sym k
waits_next p (Store w a from) s s' o o' old new now next made same h k = h ∙ same ∙ sym k
waits_next p (ReadDevice to address) s s' o o' old new now next made same h k = h ∙ same ∙ sym k
waits_next p (WriteDevice address a) s s' o o' old new now next made same h k = h ∙ same ∙ sym k
waits_next p (Find place to a) s s' o o' old new now next made same h k = h ∙ same ∙ sym k
waits_next p (CodeOf q to) s s' o o' old new now next made same h k = h ∙ same ∙ sym k

-- a configuration between two instructions of a run that has not ended
abbrev pub at_rest : Config State → Config State
at_rest c = record c { woken = None; ending = None }

-- both operands of a test have values
record Tested (a b : Option ℕ) (go : ℕ → ℕ → Bool) (truth : Bool) : Type 0 where
  pub left : ℕ
  pub right : ℕ
  pub got_left : a ≡ Some left
  pub got_right : b ≡ Some right
  pub told : go left right ≡ truth

some_truth : (a b : Bool) → Some a ≡ Some b → a ≡ b
some_truth a b e = cc

tested : (a b : Option ℕ) (go : ℕ → ℕ → Bool) (truth : Bool) → both a b go ≡ Some truth → Tested a b go truth
tested (Some x) (Some y) go truth e = record { left = x; right = y; got_left = refl; got_right = refl; told = some_truth (go x y) truth e }
tested (Some x) None go truth e = absurd (let clash : None ≡ Some truth = e in cc)
tested None b go truth e = absurd (let clash : None ≡ Some truth = e in cc)

not_not : (b : Bool) → not (not b) ≡ b
not_not true = refl
not_not false = refl

module _ (e : Run) (x : Links) (p : Program) (st : Stands e x p) (deep : Type 0) where
  -- ---- plain instructions

  pub goes_on_plain : (c : Config State) (q : PlainInstr) (s : MachineState) → fetch (codes_in p.procedures) c.proc c.pc ≡ Some (Plain q) → Settled x p c
      → Going e x c s → (0x1100 < e.floor + (stack_bytes x.places c.proc c.state c.frames + pushed_by q) → deep) → (w : Went State)
      → plain p q c.state c.outside ≡ w → IsLegal (went (at_rest c) w) → Front e (went (at_rest c) w).outside
      → Goes e deep 1 s (Related e x p (went (at_rest c) w))
  goes_on_plain c q s h settled g full (GoesOn s' o') made legal front =
      let pl = placed e x p st c.proc c.pc (Plain q) h in
      let k = pl.instr in
      let v = g.view in
      let l = x.places.layouts c.proc in
      let size = stacked_bytes x.places c.proc (x.places.live c.proc c.pc) c.state c.frames v.stack v.regs g.kind.held.stacked in
      let made' : plain p q c.state v.out ≡ GoesOn s' o' = ap (plain p q c.state) g.kind.out ∙ made in
      let K = Lies x.places c.proc (x.places.live c.proc (suc c.pc)) s' c.frames o' in
      let known : Did q c.state c.outside (GoesOn s' o') = subst (Did q c.state c.outside) made (did p q c.state c.outside) in
      goes_wider e deep 1 s (Sees e K (x.place c.proc c.pc + widths (plain_template l p q))) (Related e x p (went (at_rest c) (GoesOn s' o')))
      (λ t z. (
        record {
          waits =
              waits_next p q c.state s' c.outside o' (wait_widths c.state.waiting) (wait_widths s'.waiting) (x.waits c.proc c.pc) (x.waits c.proc (suc c.pc)) made settled.waits
              known.0 k.waits;
          callers = settled.callers;
          vectors = subst AreVectors (sym known.1) settled.vectors;
        },
        subst (λ n. Sees e K n t) (sym k.leads) z,
      ))
      (goes_plain x.places st.layouts c.proc c.frames e deep p st.tables (x.places.live c.proc c.pc) (x.places.live c.proc (suc c.pc)) q c.state s' o' v (x.place c.proc c.pc) s made'
      k.covers front (λ more. full (omega (arith, more, size))) g.kind.held k.stands k.room k.some g.at)
  goes_on_plain c q s h settled g full (Raises code) made legal front =
      let k = (placed e x p st c.proc c.pc (Plain q) h).instr in
      let l = x.places.layouts c.proc in
      let known : q ≡ Stop code = subst (Did q c.state c.outside) made (did p q c.state c.outside) in
      let stand = subst (λ z. AllStandAt e.flash (x.place c.proc c.pc) (plain_template l p z)) known k.stands in
      let room : x.place c.proc c.pc + 2 < 65536 = subst (λ z. x.place c.proc c.pc + widths (plain_template l p z) < 65536) known k.room in
      goes_wider e deep 1 s (Ended e (machine_end.Stop code) g.view.out) (Related e x p (went (at_rest c) (Raises code)))
      (λ t z. subst (λ o. Ended e (machine_end.Stop code) o t) g.kind.out z)
      (ends_stops e deep code (x.place c.proc c.pc) g.view s stand (omega (arith, room)) g.at)
  goes_on_plain c q s h settled g full (Lacks address) made legal front =
      let k = (placed e x p st c.proc c.pc (Plain q) h).instr in
      let l = x.places.layouts c.proc in
      let lacks : (to : ℕ) × ((q ≡ ReadDevice to address) × (c.outside.reads ≡ [])) = subst (Did q c.state c.outside) made (did p q c.state c.outside) in
      let to = lacks.0 in
      let known = lacks.1.0 in
      let stand = subst (λ z. AllStandAt e.flash (x.place c.proc c.pc) (plain_template l p z)) known k.stands in
      let can = subst (λ z. Covers l (x.places.live c.proc) p (placed e x p st c.proc c.pc (Plain q) h).procedure.result c.pc (Plain z)) known k.covers in
      goes_wider e deep 1 s (Ended e (machine_end.Wants address) g.view.out) (Related e x p (went (at_rest c) (Lacks address)))
      (λ t z. subst (λ o. Ended e (machine_end.Wants address) o t) g.kind.out z)
      (ends_reads_device e deep l to address (x.place c.proc c.pc) g.view s can.0 stand (ap (λ (o : Outside). o.reads) g.kind.out ∙ lacks.1.1) g.at)
  goes_on_plain c q s h settled g full Fails made legal front = absurd (legal refl)

  -- ---- branches

  -- past a jump near by
  goes_past_near : (k to pc : ℕ) (taken : Bool) (v : View) (t : MachineState) (K : Bool → View → Type 0) → AllStandAt e.flash (pc + 1) (Rjmp k ∷ [])
      → pc + 2 < 65536 → far_from (pc + 1) k ≡ to → to ≢ pc + 1 → K taken v → Goes e deep 1 t (At e (if not taken then near_from pc 1 else pc + 1) v)
      → Goes e deep 1 t (Sees e (K taken) (if taken then to else pc + 2))
  goes_past_near k to pc true v t K stand room there away kind first =
      let goal = Sees e (K true) to in
      goes_fewer e deep (1 + 1) 1 t goal (omega arith)
      (goes_then e deep 1 1 t (At e (pc + 1) v) goal first
      (λ u b. goes_wider e deep 1 u (At e (far_from (pc + 1) k) v) goal (λ q c. record { view = v; kind = kind; at = subst (λ n. At e n v q) there c })
      (goes_rjmp e deep (pc + 1) v u b k stand.0 (subst (λ n. n ≢ pc + 1) (sym there) away))))
  goes_past_near k to pc false v t K stand room there away kind first =
      let over : near_from pc 1 ≡ pc + 2 = omega (arith, room) in
      goes_wider e deep 1 t (At e (near_from pc 1) v) (Sees e (K false) (pc + 2))
      (λ u b. record { view = v; kind = kind; at = subst (λ n. At e n v u) over b }) first

  module _ (m : ℕ) (frames : List (Frame State)) where
    abbrev At' : (behind : Bool → ℕ → Bool) (s : State) (o : Outside) → Bool → View → Type 0
    At' behind s o b = Lies x.places m (behind b) s frames o

    goes_turn : (turn : Turn) (live : ℕ → Bool) (behind : Bool → ℕ → Bool) (s : State) (t : Test) (wanted : Bool) (a b to pc : ℕ) (v : View) (q : MachineState)
        → CanTest (x.places.layouts m) live t → ((k : Bool) → IsKept live (behind k)) → value t.left s ≡ Some a → value t.right s ≡ Some b
        → Held x.places m live s frames v
        → (let is = tests (x.places.layouts m) t in let js = branch_code (told_by t.comparison) wanted turn in
        AllStandAt e.flash pc (is ++ js) → pc + widths (is ++ js) < 65536 → TurnLeads turn (pc + widths is) to → At e pc v q
        → Goes e deep 1 q
        (Branched e x.places m behind s frames v.out (is_taken wanted (compared t.comparison t.width a b)) to (pc + widths (is ++ js))))
    goes_turn (Direct k) live behind s t true a b to pc v q can kept got_left got_right held stand room leads here =
        let is = tests (x.places.layouts m) t in
        let wide = widths-append is (near_branch (told_by t.comparison) true k) in
        let next : pc + widths is + 1 ≡ pc + widths (is ++ near_branch (told_by t.comparison) true k) = omega (arith, wide) in
        subst (λ n. Goes e deep 1 q (Branched e x.places m behind s frames v.out (is_taken true (compared t.comparison t.width a b)) to n)) next
        (goes_branch_near x.places st.layouts m frames e deep live behind s t true a b k to pc v q (omega (arith, can.0.0)) can.0.1 can.1.0 can.1.1 kept got_left
        got_right held stand (omega (arith, room, wide)) leads here)
    goes_turn (Direct k) live behind s t false a b to pc v q can kept got_left got_right held stand room leads here =
        let is = tests (x.places.layouts m) t in
        let wide = widths-append is (near_branch (told_by t.comparison) false k) in
        let next : pc + widths is + 1 ≡ pc + widths (is ++ near_branch (told_by t.comparison) false k) = omega (arith, wide) in
        subst (λ n. Goes e deep 1 q (Branched e x.places m behind s frames v.out (is_taken false (compared t.comparison t.width a b)) to n)) next
        (goes_branch_near x.places st.layouts m frames e deep live behind s t false a b k to pc v q (omega (arith, can.0.0)) can.0.1 can.1.0 can.1.1 kept got_left
        got_right held stand (omega (arith, room, wide)) leads here)
    goes_turn (Past (Far y)) live behind s t true a b to pc v q can kept got_left got_right held stand room leads here =
        let is = tests (x.places.layouts m) t in
        let wide = widths-append is (branch_code (told_by t.comparison) true (Past (Far y))) in
        let next : pc + widths is + 3 ≡ pc + widths (is ++ branch_code (told_by t.comparison) true (Past (Far y))) = omega (arith, wide) in
        subst (λ n. Goes e deep 1 q (Branched e x.places m behind s frames v.out (is_taken true (compared t.comparison t.width a b)) to n)) next
        (goes_branch_far x.places st.layouts m frames e deep live behind s t true a b to pc v q (omega (arith, can.0.0)) can.0.1 can.1.0 can.1.1 kept got_left
        got_right held (subst (λ n. AllStandAt e.flash pc (is ++ branch_code (told_by t.comparison) true (Past (Far n)))) leads.0 stand) (omega (arith, room, wide))
        leads.1 here)
    goes_turn (Past (Far y)) live behind s t false a b to pc v q can kept got_left got_right held stand room leads here =
        let is = tests (x.places.layouts m) t in
        let wide = widths-append is (branch_code (told_by t.comparison) false (Past (Far y))) in
        let next : pc + widths is + 3 ≡ pc + widths (is ++ branch_code (told_by t.comparison) false (Past (Far y))) = omega (arith, wide) in
        subst (λ n. Goes e deep 1 q (Branched e x.places m behind s frames v.out (is_taken false (compared t.comparison t.width a b)) to n)) next
        (goes_branch_far x.places st.layouts m frames e deep live behind s t false a b to pc v q (omega (arith, can.0.0)) can.0.1 can.1.0 can.1.1 kept got_left
        got_right held (subst (λ n. AllStandAt e.flash pc (is ++ branch_code (told_by t.comparison) false (Past (Far n)))) leads.0 stand) (omega (arith, room, wide))
        leads.1 here)
    goes_turn (Past (Near k)) live behind s t wanted a b to pc v q can kept got_left got_right held stand room leads here =
        let is = tests (x.places.layouts m) t in
        let js = branch_code (told_by t.comparison) wanted (Past (Near k)) in
        let truth = compared t.comparison t.width a b in
        let wide = widths-append is js in
        let two = two_words (told_by t.comparison) wanted in
        let next : pc + widths is + 2 ≡ pc + widths (is ++ js) = omega (arith, wide, two) in
        let goal = Branched e x.places m behind s frames v.out (is_taken wanted truth) to (pc + widths (is ++ js)) in
        goes_fewer e deep (length is + 1) 1 q goal (omega arith)
        (goes_then e deep (length is) 1 q (Sees e (Told x.places m live s frames v.out (told_by t.comparison) truth) (pc + widths is)) goal
        (takes_tests x.places st.layouts m frames e deep live s t a b v (omega (arith, can.0.0)) can.0.1 can.1.0 can.1.1 got_left got_right held pc q
        (front_stands e.flash pc is js stand) (omega (arith, room, wide)) here)
        (λ u z. subst (λ n. Goes e deep 1 u (Branched e x.places m behind s frames v.out (is_taken wanted truth) to n)) next
        (past (told_by t.comparison) wanted truth (pc + widths is) z.view u z.kind (back_stands e.flash pc is js stand) (omega (arith, room, next)) leads.0 leads.1 z.at)))
      where
        two_words : (bit : ℕ) (wanted : Bool) → widths (branch_code bit wanted (Past (Near k))) ≡ 2
        two_words bit true = refl
        two_words bit false = refl

        past : (bit : ℕ) (wanted truth : Bool) (at : ℕ) (u : View) (r : MachineState) → Told x.places m live s frames v.out bit truth u
            → AllStandAt e.flash at (branch_code bit wanted (Past (Near k))) → at + 2 < 65536 → far_from (at + 1) k ≡ to → to ≢ at + 1 → At e at u r
            → Goes e deep 1 r (Branched e x.places m behind s frames v.out (is_taken wanted truth) to (at + 2))
        past bit true truth at u r told stand room there away at' =
            goes_past_near k to at truth u r (At' behind s v.out) stand.1 room there away
            (record { held = held_fewer x.places m live (behind truth) s frames u (kept truth) told.lies.held; out = told.lies.out })
            (goes_brbc e deep at u r at' bit 1 truth stand.0 told.tells (omega arith))
        past bit false truth at u r told stand room there away at' =
            goes_past_near k to at (not truth) u r (At' behind s v.out) stand.1 room there away
            (record { held = held_fewer x.places m live (behind (not truth)) s frames u (kept (not truth)) told.lies.held; out = told.lies.out })
            (subst (λ b. Goes e deep 1 r (At e (if b then near_from at 1 else at + 1) u)) (sym (not_not truth))
            (goes_brbs e deep at u r at' bit 1 truth stand.0 told.tells (omega arith)))

  -- the place behind a test with its branch
  abbrev Turned : (c : Config State) (to : ℕ) (taken : Bool) → Config State
  Turned c to taken = if taken then record (at_rest c) { pc = to } else record (at_rest c) { pc = suc c.pc }

  turned : (c : Config State) (to : ℕ) (taken : Bool) (next : ℕ) (s : MachineState) → Settled x p c → x.waits c.proc to ≡ x.waits c.proc c.pc
      → x.waits c.proc (suc c.pc) ≡ x.waits c.proc c.pc → x.place c.proc (suc c.pc) ≡ next
      → Branched e x.places c.proc (λ k. if k then x.places.live c.proc to else x.places.live c.proc (suc c.pc)) c.state c.frames c.outside taken
      (x.place c.proc to) next s
      → Related e x p (Turned c to taken) s
  turned c to true next s settled there on place b =
      (record { waits = settled.waits ∙ sym there; callers = settled.callers; vectors = settled.vectors }, b)
  turned c to false next s settled there on place b = (
    record { waits = settled.waits ∙ sym on; callers = settled.callers; vectors = settled.vectors },
    subst (λ n. Sees e (Lies x.places c.proc (x.places.live c.proc (suc c.pc)) c.state c.frames c.outside) n s) (sym place) b,
  )

  kept_both : (live first second : ℕ → Bool) → IsKept live first → IsKept live second → (k : Bool) → IsKept live (if k then first else second)
  kept_both live first second h k true = h
  kept_both live first second h k false = k

  branched_is : (c : Config State) (wanted truth : Bool) (to : ℕ) → branched (at_rest c) wanted to (Some truth) ≡ Turned c to (is_taken wanted truth)
  branched_is c true true to = refl
  branched_is c true false to = refl
  branched_is c false true to = refl
  branched_is c false false to = refl

  pub goes_on_when : (c : Config State) (t : Test) (to : ℕ) (s : MachineState) → fetch (codes_in p.procedures) c.proc c.pc ≡ Some (When t to) → Settled x p c
      → Going e x c s → (b : Option Bool) → holds t c.state ≡ b → IsLegal (branched (at_rest c) true to b)
      → Goes e deep 1 s (Related e x p (branched (at_rest c) true to b))
  goes_on_when c t to s h settled g None made legal = absurd (legal refl)
  goes_on_when c t to s h settled g (Some truth) made legal =
      let k = (placed e x p st c.proc c.pc (When t to) h).instr in
      let l = x.places.layouts c.proc in
      let d = tested (value t.left c.state) (value t.right c.state) (compared t.comparison t.width) truth made in
      let behind = λ (k : Bool). if k then x.places.live c.proc to else x.places.live c.proc (suc c.pc) in
      let code = template x p c.proc c.pc (When t to) in
      let next = x.place c.proc c.pc + widths code in
      subst (λ z. Goes e deep 1 s (Related e x p z)) (sym (branched_is c true truth to))
      (goes_wider e deep 1 s
      (Branched e x.places c.proc behind c.state c.frames g.view.out (is_taken true (compared t.comparison t.width d.left d.right)) (x.place c.proc to) next)
      (Related e x p (Turned c to (is_taken true truth)))
      (λ r z. turned c to (is_taken true truth) next r settled k.waits.0 k.waits.1 k.leads.0
      (subst (λ o. Branched e x.places c.proc behind c.state c.frames o (is_taken true truth) (x.place c.proc to) next r) g.kind.out
      (subst (λ b. Branched e x.places c.proc behind c.state c.frames g.view.out (is_taken true b) (x.place c.proc to) next r) d.told z)))
      (goes_turn c.proc c.frames (x.branch c.proc c.pc) (x.places.live c.proc c.pc) behind c.state t true d.left d.right (x.place c.proc to) (x.place c.proc c.pc) g.view s
      k.covers.0 (kept_both (x.places.live c.proc c.pc) (x.places.live c.proc to) (x.places.live c.proc (suc c.pc)) k.covers.1.0 k.covers.1.1) d.got_left d.got_right g.kind.held k.stands k.room k.leads.1 g.at))

  pub goes_on_unless : (c : Config State) (t : Test) (to : ℕ) (s : MachineState) → fetch (codes_in p.procedures) c.proc c.pc ≡ Some (Unless t to)
      → Settled x p c → Going e x c s → (b : Option Bool) → holds t c.state ≡ b → IsLegal (branched (at_rest c) false to b)
      → Goes e deep 1 s (Related e x p (branched (at_rest c) false to b))
  goes_on_unless c t to s h settled g None made legal = absurd (legal refl)
  goes_on_unless c t to s h settled g (Some truth) made legal =
      let k = (placed e x p st c.proc c.pc (Unless t to) h).instr in
      let l = x.places.layouts c.proc in
      let d = tested (value t.left c.state) (value t.right c.state) (compared t.comparison t.width) truth made in
      let behind = λ (k : Bool). if k then x.places.live c.proc to else x.places.live c.proc (suc c.pc) in
      let code = template x p c.proc c.pc (Unless t to) in
      let next = x.place c.proc c.pc + widths code in
      subst (λ z. Goes e deep 1 s (Related e x p z)) (sym (branched_is c false truth to))
      (goes_wider e deep 1 s
      (Branched e x.places c.proc behind c.state c.frames g.view.out (is_taken false (compared t.comparison t.width d.left d.right)) (x.place c.proc to) next)
      (Related e x p (Turned c to (is_taken false truth)))
      (λ r z. turned c to (is_taken false truth) next r settled k.waits.0 k.waits.1 k.leads.0
      (subst (λ o. Branched e x.places c.proc behind c.state c.frames o (is_taken false truth) (x.place c.proc to) next r) g.kind.out
      (subst (λ b. Branched e x.places c.proc behind c.state c.frames g.view.out (is_taken false b) (x.place c.proc to) next r) d.told z)))
      (goes_turn c.proc c.frames (x.branch c.proc c.pc) (x.places.live c.proc c.pc) behind c.state t false d.left d.right (x.place c.proc to) (x.place c.proc c.pc) g.view s
      k.covers.0 (kept_both (x.places.live c.proc c.pc) (x.places.live c.proc to) (x.places.live c.proc (suc c.pc)) k.covers.1.0 k.covers.1.1) d.got_left d.got_right g.kind.held k.stands k.room k.leads.1 g.at))

  -- ---- jumps

  goes_hop : (hop : Hop) (m : ℕ) (frames : List (Frame State)) (live behind : ℕ → Bool) (s : State) (to pc : ℕ) (v : View) (q : MachineState)
      → IsKept live behind → Held x.places m live s frames v → AllStandAt e.flash pc (jump_code hop) → HopLeads hop pc to → At e pc v q
      → Goes e deep 1 q (Sees e (Lies x.places m behind s frames v.out) to)
  goes_hop (Near k) m frames live behind s to pc v q kept held stand leads a =
      goes_jump_near x.places st.layouts m frames e deep live behind s k to pc v q kept held stand.0 leads.0 leads.1 a
  goes_hop (Far y) m frames live behind s to pc v q kept held stand leads a =
      goes_jump_far x.places st.layouts m frames e deep live behind s to pc v q kept held (subst (λ n. AllStandAt e.flash pc (Jmp n ∷ [])) leads.0 stand).0 leads.1 a

  pub goes_on_jump : (c : Config State) (to : ℕ) (s : MachineState) → fetch (codes_in p.procedures) c.proc c.pc ≡ Some (Jump to) → Settled x p c
      → Going e x c s → Goes e deep 1 s (Related e x p (record (at_rest c) { pc = to }))
  goes_on_jump c to s h settled g =
      let k = (placed e x p st c.proc c.pc (Jump to) h).instr in
      let l = x.places.layouts c.proc in
      goes_wider e deep 1 s (Sees e (Lies x.places c.proc (x.places.live c.proc to) c.state c.frames g.view.out) (x.place c.proc to)) (Related e x p (record (at_rest c) { pc = to }))
      (λ r z. (
        record { waits = settled.waits ∙ sym k.waits; callers = settled.callers; vectors = settled.vectors },
        subst (λ o. Sees e (Lies x.places c.proc (x.places.live c.proc to) c.state c.frames o) (x.place c.proc to) r) g.kind.out z,
      ))
      (goes_hop (x.jump c.proc c.pc) c.proc c.frames (x.places.live c.proc c.pc) (x.places.live c.proc to) c.state (x.place c.proc to) (x.place c.proc c.pc) g.view s k.covers g.kind.held
      k.stands k.leads g.at)
