-- What the lowest address of the stack says of SRAM and of the stack pointer.
use Rattle.std.proofs.Common.{◌≡◌, ◌≢◌, ℕ, ◌+◌, ◌-◌, ◌<◌, ◌≤◌, Bool, true, false, List, [], ◌∷◌, Some, None, refl, sym, ap, ◌∙◌, subst, arith}
use Rattle.std.proofs.Common.{if◌then◌else◌, ◌&&◌, min, nat_le, nat_lt, slice_index, slice_set}
use Rattle.std.proofs.lemmas.List.{get_or-set_other}
use Rattle.vg_meaning.specs.Outside.{with_event}
use Rattle.vg_meaning.specs.declared.event.Event.TheVariants.{Enter}
use Rattle.avr_instr.specs.declared.instr.Instr.{Instr}
use Rattle.avr_instr.specs.declared.instr.Instr.TheVariants.{Call, Icall, Out, Push, Rcall, Sleep as SleepInstr, StX, StXPlus, StMinusX, Std, Sts}
use Rattle.avr_isa.specs.declared.effect.Effect.TheVariants.{Sleep, Outside as Forbidden}
use Rattle.avr_isa.specs.declared.ending.MachineEnd.TheVariants.{Bad}
use Rattle.avr_isa.specs.declared.stack.StackUse.{StackUse}
use Rattle.avr_isa.specs.declared.stack.StackUse.TheVariants.{Stores}
use Rattle.avr_isa.specs.Cpu.{CpuState, forward, is_enabled}
use Rattle.avr_isa.specs.Change.{Change, going, staying, moved, register_of, with_pair, with_next, pair_of, previous}
use Rattle.avr_isa.specs.Access.{stored, then_next, can_push_two, with_pushed}
use Rattle.avr_isa.specs.Flow.{far_from}
use Rattle.avr_isa.specs.Effect.{change}
use Rattle.avr_isa.specs.Machine.{State, done, entered, woken, performed, word_here, instr_here, next_by, next_state}
use Rattle.avr_isa.specs.Stack.{stack_use, lowest_by, lowest_by_store, lowest_by_push_two}
use Rattle.avr_isa.specs.Floor.{KeepsBelow, WritesSpl, SeesPointer}

-- the step of a machine that is going, by its instruction
abbrev stepped : List ℕ → Instr → State → State
stepped flash i s = performed flash (Some i) (word_here flash s.cpu) s

steps : (flash : List ℕ) (s : State) (i : Instr) → s.ended ≡ None → instr_here flash s.cpu ≡ Some i → next_state flash s ≡ stepped flash i s
steps flash s i going here = ap (λ o. next_by o flash s) going ∙ ap (λ o. performed flash o (word_here flash s.cpu) s) here

by_step : (flash : List ℕ) (s : State) (i : Instr) → s.ended ≡ None → instr_here flash s.cpu ≡ Some i → KeepsBelow s (stepped flash i s)
    → KeepsBelow s (next_state flash s)
by_step flash s i going here k = subst (KeepsBelow s) (sym (steps flash s i going here)) k

-- PUSH
byte_keeps : (s : State) (word value pc : ℕ) (b : Bool)
    → (let made : Change = if b then going (record s.cpu { sram = slice_set s.cpu.sram (s.cpu.sp - 0x100) value; sp = s.cpu.sp - 1; pc = pc })
    else staying s.cpu Forbidden in
    KeepsBelow s (done made.effect word (record s { cpu = made.cpu; lowest = min s.lowest s.cpu.sp })))
byte_keeps s word value pc true a from below =
    let apart : a - 0x100 ≢ s.cpu.sp - 0x100 = λ h. omega arith in
    get_or-set_other s.cpu.sram (s.cpu.sp - 0x100) (a - 0x100) value 0 apart
byte_keeps s word value pc false a from below = refl

pub push_keeps : (flash : List ℕ) (s : State) (r : ℕ) → s.ended ≡ None → instr_here flash s.cpu ≡ Some (Push r) → KeepsBelow s (next_state flash s)
push_keeps flash s r going here =
    by_step flash s (Push r) going here
    (byte_keeps s (word_here flash s.cpu) (register_of s.cpu r) (forward 1 s.cpu.pc) (nat_le 0x100 s.cpu.sp && nat_lt s.cpu.sp 0x1100))

-- two bytes
room_above : (sp : ℕ) → can_push_two sp ≡ true → 0x100 < sp
room_above sp e = grind (arith, e)

room_below : (sp : ℕ) → can_push_two sp ≡ true → sp < 0x1100
room_below sp e = grind (arith, e)

both_keep : (sram : List ℕ) (sp low high a l : ℕ) → can_push_two sp ≡ true → 0x100 ≤ a → a < lowest_by_push_two sp l
    → slice_index (slice_set (slice_set sram (sp - 0x100) low) (sp - 1 - 0x100) high) (a - 0x100) ≡ slice_index sram (a - 0x100)
both_keep sram sp low high a l room from below =
    let p = room_above sp room in
    let q = room_below sp room in
    let lower : a < sp - 1 = omega (arith, p, q, below) in
    let first : a - 0x100 ≢ sp - 1 - 0x100 = λ h. omega arith in
    let second : a - 0x100 ≢ sp - 0x100 = λ h. omega arith in
    get_or-set_other (slice_set sram (sp - 0x100) low) (sp - 1 - 0x100) (a - 0x100) high 0 first ∙ get_or-set_other sram (sp - 0x100) (a - 0x100) low 0 second

-- RCALL, ICALL and CALL
word_keeps : (s : State) (word behind to : ℕ) (b : Bool) → can_push_two s.cpu.sp ≡ b
    → (let made : Change = if b then going (record (with_pushed s.cpu behind) { pc = to }) else staying s.cpu Forbidden in
    KeepsBelow s (done made.effect word (record s { cpu = made.cpu; lowest = lowest_by_push_two s.cpu.sp s.lowest })))
word_keeps s word behind to true room a from below = both_keep s.cpu.sram s.cpu.sp _ _ a s.lowest room from below
word_keeps s word behind to false room a from below = refl

pub rcall_keeps : (flash : List ℕ) (s : State) (k : ℕ) → s.ended ≡ None → instr_here flash s.cpu ≡ Some (Rcall k) → KeepsBelow s (next_state flash s)
rcall_keeps flash s k going here =
    by_step flash s (Rcall k) going here (word_keeps s (word_here flash s.cpu) (forward 1 s.cpu.pc) (far_from s.cpu.pc k) (can_push_two s.cpu.sp) refl)

pub icall_keeps : (flash : List ℕ) (s : State) → s.ended ≡ None → instr_here flash s.cpu ≡ Some Icall → KeepsBelow s (next_state flash s)
icall_keeps flash s going here =
    by_step flash s Icall going here (word_keeps s (word_here flash s.cpu) (forward 1 s.cpu.pc) (pair_of s.cpu 30) (can_push_two s.cpu.sp) refl)

pub call_keeps : (flash : List ℕ) (s : State) (k : ℕ) → s.ended ≡ None → instr_here flash s.cpu ≡ Some (Call k) → KeepsBelow s (next_state flash s)
call_keeps flash s k going here =
    by_step flash s (Call k) going here (word_keeps s (word_here flash s.cpu) (forward 2 s.cpu.pc) k (can_push_two s.cpu.sp) refl)

-- the taking of an interrupt
woken_keeps : (vs : List ℕ) (word : ℕ) (s : State) → KeepsBelow s (woken vs word s)
woken_keeps [] word s = λ a from below. refl
woken_keeps (v ∷ vs) word s = by_room (can_push_two s.cpu.sp) refl
  where
    low : ℕ
    low = lowest_by_push_two s.cpu.sp s.lowest

    taken : State
    taken = record s { cpu = entered s.cpu v; outside = with_event (record s.outside { interrupts = vs }) (Enter v); lowest = low }

    refused : State
    refused = record s { lowest = low; ended = Some (Bad s.cpu.pc word) }

    by_room : (b : Bool) → can_push_two s.cpu.sp ≡ b → KeepsBelow s (if b then taken else refused)
    by_room true room a from below = both_keep s.cpu.sram s.cpu.sp _ _ a s.lowest room from below
    by_room false room a from below = refl

pub interrupt_keeps : (flash : List ℕ) (s : State) → s.ended ≡ None → instr_here flash s.cpu ≡ Some SleepInstr → is_enabled s.cpu.sreg ≡ true
    → KeepsBelow s (next_state flash s)
interrupt_keeps flash s going here on =
    let word = word_here flash s.cpu in
    let waits : stepped flash SleepInstr s ≡ woken s.outside.interrupts word s =
    ap (λ b. let made : Change = if b then staying s.cpu Sleep else going_to in done made.effect word (record s { cpu = made.cpu })) on in
    by_step flash s SleepInstr going here (subst (KeepsBelow s) (sym waits) (woken_keeps s.outside.interrupts word s))
  where
    going_to : Change
    going_to = Rattle.avr_isa.specs.Change.going (moved 1 s.cpu)

-- a write of SPL
record Written (flash : List ℕ) (i : Instr) (cpu : CpuState) : Type 0 where
  new : CpuState
  changes : change flash i cpu ≡ going new
  stores : stack_use i cpu ≡ Stores 0x5D

written : (flash : List ℕ) (i : Instr) (cpu : CpuState) → WritesSpl i cpu → Written flash i cpu
written flash (Out a r) cpu h = record { new = _; changes = ap (λ x. stored cpu (moved 1 cpu) x (register_of cpu r)) h; stores = ap Stores h }
written flash (StX r) cpu h = record { new = _; changes = ap (λ x. stored cpu (moved 1 cpu) x (register_of cpu r)) h; stores = ap Stores h }
written flash (StXPlus r) cpu h = record { new = _; changes = ap (λ x. then_next 26 (stored cpu (moved 1 cpu) x (register_of cpu r))) h; stores = ap Stores h }
written flash (StMinusX r) cpu h = record {
  new = _;
  changes = ap (λ x. stored cpu (with_pair (moved 1 cpu) 26 x) x
      (register_of cpu r)) h;
  stores = ap Stores h;
}
written flash (Std b q r) cpu h = record { new = _; changes = ap (λ x. stored cpu (moved 1 cpu) x (register_of cpu r)) h; stores = ap Stores h }
written flash (Sts k r) cpu h = record { new = _; changes = ap (λ x. stored cpu (moved 2 cpu) x (register_of cpu r)) h; stores = ap Stores h }
written flash _ cpu h = absurd h

lowest_above : (sp l : ℕ) → lowest_by_store 0x5D sp l ≤ sp + 1
lowest_above sp l = by_test (nat_le sp 0x10FF)
  where
    by_test : (b : Bool) → min l (if b then sp + 1 else 0) ≤ sp + 1
    by_test true = omega arith
    by_test false = omega arith

lowest_outside : (sp l : ℕ) → 0x10FF < sp → lowest_by_store 0x5D sp l ≡ 0
lowest_outside sp l h = grind arith

seen : (s : State) (word : ℕ) (new : CpuState) (made : Change) (u : StackUse) → made ≡ going new → u ≡ Stores 0x5D
    → SeesPointer (done made.effect word (record s { cpu = made.cpu; lowest = lowest_by u made.cpu.sp s.lowest }))
seen s word new made u e f =
    let here : SeesPointer (record s { cpu = new; lowest = lowest_by_store 0x5D new.sp s.lowest }) =
    record { above = lowest_above new.sp s.lowest; outside = lowest_outside new.sp s.lowest } in
    subst (λ (m : Change). SeesPointer (done m.effect word (record s { cpu = m.cpu; lowest = lowest_by u m.cpu.sp s.lowest }))) (sym e)
    (subst (λ x. SeesPointer (record s { cpu = new; lowest = lowest_by x new.sp s.lowest })) (sym f) here)

pub spl_seen : (flash : List ℕ) (s : State) (i : Instr) → s.ended ≡ None → instr_here flash s.cpu ≡ Some i → WritesSpl i s.cpu
    → SeesPointer (next_state flash s)
spl_seen flash s i going here h =
    let w = written flash i s.cpu h in
    subst SeesPointer (sym (steps flash s i going here))
    (seen s (word_here flash s.cpu) w.new (change flash i s.cpu) (stack_use i s.cpu) w.changes w.stores)
