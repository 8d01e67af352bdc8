-- Where the idle piece, a slot and a stub lead.
use Rattle.std.proofs.Common.{◌≡◌, ℕ, suc, ◌+◌, ◌*◌, ◌<◌, List, [], ◌∷◌, ◌++◌, length, refl, sym, ap, ◌∙◌, subst, arith}
use Rattle.avr_instr.specs.declared.instr.Instr.TheVariants.{Call, Cli, Ret, Reti}
use Rattle.avr_isa.specs.declared.ending.MachineEnd.TheVariants.{Idle}
use Rattle.avr_isa.specs.Machine.{State}
use Rattle.avr_isa.specs.Standing.{widths, StandsAt, AllStandAt}
use Rattle.vg_lin.specs.Steps.{Frame, Interrupt}
use Rattle.vg_lin.specs.State.{State as LinState}
use Rattle.avr_view.specs.Run.{Run, Goes, Front, Ended}
use Rattle.avr_view.specs.View.{View, At}
use Rattle.avr_view.proofs.Going.{goes_then, goes_fewer, goes_wider}
use Rattle.avr_view.proofs.CallSteps.{goes_call, goes_ret}
use Rattle.avr_view.proofs.JumpSteps.{goes_jmp}
use Rattle.avr_view.proofs.WakingSteps.{ends_idle, goes_wake, goes_reti_cli}
use Rattle.vg_templates.specs.Layouts.{IsLayout}
use Rattle.vg_templates.specs.Linkage.{saves}
use Rattle.vg_templates.specs.Frames.{Fits, Waits, Places, word_bytes, between, back_to, needed, Points, Callers}
use Rattle.vg_templates.specs.CallOutcomes.{Begun, Resumed}
use Rattle.vg_templates.proofs.Calling.{goes_begin}
use Rattle.vg_templates.specs.Idle.{IsIdle, IsHandled, entered, Back}

module _ (e : Run) (deep : Type 0) (i : Places) (idle : ℕ) (is : IsIdle e i idle) where
  -- the view where an interrupt was taken
  abbrev pub taken : (place : ℕ) → View → (k : ℕ) (ks : List ℕ) → View
  taken place v k ks =
      record v { stack = word_bytes (idle + 2) ++ (word_bytes (place + 2) ++ v.stack); out = entered v.out k ks }

  -- with no interrupt left the run ends
  pub ends_waiting : (place : ℕ) (v : View) (s : State) → StandsAt e.flash place (Call idle) → place + 2 < 65536 → v.out.interrupts ≡ []
      → (0x1100 < e.floor + length v.stack + 2 → deep) → At e place v s → Goes e deep 1 s (Ended e Idle v.out)
  ends_waiting place v s call room none full a =
      let goal = Ended e Idle v.out in
      let low = is.room in
      goes_fewer e deep (1 + 2) 1 s goal (omega arith)
      (goes_then e deep 1 2 s (At e idle (record v { stack = word_bytes (place + 2) ++ v.stack })) goal (goes_call e deep place v s a idle call room full)
      (λ t b. ends_idle e deep idle _ t b is.stands.0 is.stands.1.0 (omega arith) is.sleeps none))

  -- the next one is taken
  pub goes_taken : (place k : ℕ) (ks : List ℕ) (v : View) (s : State) → StandsAt e.flash place (Call idle) → place + 2 < 65536
      → v.out.interrupts ≡ k ∷ ks → Front e (entered v.out k ks) → (0x1100 < e.floor + length v.stack + 4 → deep) → At e place v s
      → Goes e deep 1 s (At e (2 * k) (taken place v k ks))
  goes_taken place k ks v s call room some front full a =
      let goal = At e (2 * k) (taken place v k ks) in
      let low = is.room in
      goes_fewer e deep (1 + 2) 1 s goal (omega arith)
      (goes_then e deep 1 2 s (At e idle (record v { stack = word_bytes (place + 2) ++ v.stack })) goal
      (goes_call e deep place v s a idle call room (λ h. full (omega arith)))
      (λ t b. goes_wake e deep idle (record v { stack = word_bytes (place + 2) ++ v.stack }) t b is.stands.0 is.stands.1.0 (omega arith) is.sleeps k ks some front
      (λ h. full (omega arith))))

  -- RETI leads by the CLI and the RET behind the call of the piece
  pub goes_out : (pc place : ℕ) (below : List ℕ) (v : View) (s : State) → StandsAt e.flash pc Reti
      → v.stack ≡ word_bytes (idle + 2) ++ (word_bytes (place + 2) ++ below) → At e pc v s → Goes e deep 3 s (At e (place + 2) (record v { stack = below }))
  goes_out pc place below v s reti cut a =
      let u : View = record v { stack = word_bytes (place + 2) ++ below } in
      let goal = At e (place + 2) (record v { stack = below }) in
      let low = is.room in
      let next : idle + 1 + 1 ≡ idle + 2 = omega arith in
      let third : idle + 1 + 1 + 1 ≡ idle + 2 + 1 = omega arith in
      goes_then e deep 2 1 s (At e (idle + 2 + 1) u) goal
      (goes_reti_cli e deep pc (idle + 2) (word_bytes (place + 2) ++ below) v s a cut reti
      (subst (λ n. StandsAt e.flash n Cli) next is.stands.1.1.0) (omega arith) is.wakes)
      (λ t b. goes_ret e deep (idle + 2 + 1) u t b (place + 2) below refl (subst (λ n. StandsAt e.flash n Ret) third is.stands.1.1.1.0))

  -- one without a handler passes
  pub goes_passing : (place k : ℕ) (ks : List ℕ) (v : View) (s : State) → StandsAt e.flash place (Call idle) → place + 2 < 65536
      → StandsAt e.flash (2 * k) Reti → v.out.interrupts ≡ k ∷ ks → Front e (entered v.out k ks) → (0x1100 < e.floor + length v.stack + 4 → deep)
      → At e place v s → Goes e deep 1 s (At e (place + 2) (record v { out = entered v.out k ks }))
  goes_passing place k ks v s call room reti some front full a =
      let goal = At e (place + 2) (record v { out = entered v.out k ks }) in
      goes_fewer e deep (1 + 3) 1 s goal (omega arith)
      (goes_then e deep 1 3 s (At e (2 * k) (taken place v k ks)) goal (goes_taken place k ks v s call room some front full a)
      (λ t b. goes_out (2 * k) place v.stack (taken place v k ks) t reti refl b))

  module _ (ok : (m : ℕ) → IsLayout (i.layouts m)) where
    -- from the slot of one with a handler the run leads behind the first part of its prologue
    pub goes_from_slot : (place k q at entry m pc : ℕ) (kept : LinState) (frames : List (Frame LinState)) (wait own under : List ℕ) (v : View)
        (s : State) → IsHandled e i k q at entry → i.behind m pc ≡ place + 2 → AllStandAt e.flash entry (saves (i.layouts q))
        → entry + widths (saves (i.layouts q)) < 65536 → v.stack ≡ wait ++ (own ++ under) → Points (i.layouts m) own under v.regs
        → Waits kept.waiting wait → Fits (i.layouts m) (needed i m Interrupt pc) kept.locals own v.regs → Callers i frames m own under v.regs
        → (0x1100 < e.floor + length v.stack + 6 + length (i.layouts q).saved + (i.layouts q).slots → deep)
        → At e (2 * k) (record v { stack = word_bytes (idle + 2) ++ (word_bytes (place + 2) ++ v.stack) }) s
        → Goes e deep 2 s (Begun e i q (record { proc = m; pc = pc; kept = kept; awaits = Interrupt }) frames [] (entry + widths (saves (i.layouts q))) v)
    goes_from_slot place k q at entry m pc kept frames wait own under v s stub behind code low cut points waits fits more full b =
        let f : Frame LinState = record { proc = m; pc = pc; kept = kept; awaits = Interrupt } in
        let goal = Begun e i q f frames [] (entry + widths (saves (i.layouts q))) v in
        let u : View = record v { stack = word_bytes (idle + 2) ++ (word_bytes (place + 2) ++ v.stack) } in
        let l = i.layouts q in
        let small = stub.room in
        let where_is : word_bytes (idle + 2) ++ (word_bytes (place + 2) ++ v.stack) ≡ between i Interrupt m pc ++ (wait ++ (own ++ under)) =
        ap (λ n. word_bytes n ++ (word_bytes (place + 2) ++ v.stack)) (sym is.woken)
        ∙ ap (λ n. word_bytes i.woken ++ (word_bytes n ++ v.stack)) (sym behind)
        ∙ ap (λ x. word_bytes i.woken ++ (word_bytes (i.behind m pc) ++ x)) cut in
        goes_then e deep 1 1 s (At e at u) goal (goes_jmp e deep (2 * k) u s b at stub.slot stub.away)
        (λ r c. goes_wider e deep 1 r (Begun e i q f frames [] (entry + widths (saves l)) u) goal
        (λ w n. record {
          slots = n.slots;
          under = n.under;
          regs = n.regs;
          enough = n.enough;
          others = n.others;
          points = n.points;
          callers = n.callers;
          at = n.at;
        })
        (goes_begin e deep i ok q at entry f frames [] wait own under u r stub.stands.0 (omega arith) stub.ends code low where_is points waits fits more
        (λ h. full (omega arith)) c))

    -- one with a handler leads behind the first part of its prologue
    pub goes_handling : (place k q at entry m pc : ℕ) (ks : List ℕ) (kept : LinState) (frames : List (Frame LinState)) (wait own under : List ℕ) (v : View)
        (s : State) → IsHandled e i k q at entry → StandsAt e.flash place (Call idle) → place + 2 < 65536 → i.behind m pc ≡ place + 2
        → AllStandAt e.flash entry (saves (i.layouts q)) → entry + widths (saves (i.layouts q)) < 65536 → v.stack ≡ wait ++ (own ++ under)
        → Points (i.layouts m) own under v.regs → Waits kept.waiting wait → Fits (i.layouts m) (needed i m Interrupt pc) kept.locals own v.regs
        → Callers i frames m own under v.regs → v.out.interrupts ≡ k ∷ ks → Front e (entered v.out k ks)
        → (0x1100 < e.floor + length v.stack + 6 + length (i.layouts q).saved + (i.layouts q).slots → deep) → At e place v s
        → Goes e deep 1 s (Begun e i q (record { proc = m; pc = pc; kept = kept; awaits = Interrupt }) frames [] (entry + widths (saves (i.layouts q)))
        (record v { out = entered v.out k ks }))
    goes_handling place k q at entry m pc ks kept frames wait own under v s stub call room behind code low cut points waits fits more some front full a =
        let f : Frame LinState = record { proc = m; pc = pc; kept = kept; awaits = Interrupt } in
        let goal = Begun e i q f frames [] (entry + widths (saves (i.layouts q))) (record v { out = entered v.out k ks }) in
        goes_fewer e deep (1 + 2) 1 s goal (omega arith)
        (goes_then e deep 1 2 s (At e (2 * k) (taken place v k ks)) goal (goes_taken place k ks v s call room some front (λ h. full (omega arith)) a)
        (λ t b. goes_from_slot place k q at entry m pc kept frames wait own under (record v { out = entered v.out k ks }) t stub behind code low cut points waits fits more full b))

    -- and behind it the procedure goes on
    pub goes_back : (q place : ℕ) (f : Frame LinState) (frames : List (Frame LinState)) (old : View) (s : State) → f.awaits ≡ Interrupt
        → (i.layouts q).pushed ≡ 0 → StandsAt e.flash (i.stub_end q) Reti → i.behind f.proc f.pc ≡ place + 2 → Resumed e i q f frames old s
        → Goes e deep 3 s (Back e i f frames old)
    goes_back q place f frames old s waits none reti behind r =
        let goal = Back e i f frames old in
        let v : View = record old { regs = r.regs; stack = r.args ++ (between i f.awaits f.proc f.pc ++ r.rest) } in
        let there : back_to i f.awaits q f.proc f.pc ≡ i.stub_end q = ap (λ w. back_to i w q f.proc f.pc) waits in
        let no_args : r.args ≡ [] = empty r.args (r.long ∙ none) in
        let cut : v.stack ≡ word_bytes (idle + 2) ++ (word_bytes (place + 2) ++ r.rest) =
        ap (λ x. x ++ (between i f.awaits f.proc f.pc ++ r.rest)) no_args
        ∙ ap (λ w. between i w f.proc f.pc ++ r.rest) waits
        ∙ ap (λ n. word_bytes n ++ (word_bytes (i.behind f.proc f.pc) ++ r.rest)) is.woken
        ∙ ap (λ n. word_bytes (idle + 2) ++ (word_bytes n ++ r.rest)) behind in
        goes_wider e deep 3 s (At e (place + 2) (record v { stack = r.rest })) goal
        (λ t b. record {
          rest = r.rest;
          regs = r.regs;
          scratch = r.scratch;
          stacked = r.stacked;
          at = subst (λ n. At e n (record old { regs = r.regs; stack = r.rest }) t) (sym behind) b;
        })
        (goes_out (i.stub_end q) place r.rest v s reti cut (subst (λ n. At e n v s) there r.at))
      where
        empty : (xs : List ℕ) → length xs ≡ 0 → xs ≡ []
        empty [] h = refl
        empty (x ∷ xs) h = absurd (let some : suc (length xs) ≡ 0 = h in omega arith)
