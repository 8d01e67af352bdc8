-- What single instructions do in a run, over their operands.
use Rattle.std.proofs.Common.{◌≡◌, ◌≢◌, ℕ, ◌+◌, ◌*◌, ◌/◌, ◌%◌, ◌<◌, ◌≤◌, true, false, not, ◌&&◌, ◌==◌, if◌then◌else◌, List, [], ◌∷◌, Some, refl, ap}
use Rattle.std.proofs.Common.{◌∙◌, arith, slice_set}
use Rattle.vg_meaning.specs.Device.{IsDeviceAddress}
use Rattle.vg_meaning.specs.Outside.{Outside, with_event}
use Rattle.vg_meaning.specs.declared.event.Event.TheVariants.{Write, Enter}
use Rattle.avr_instr.specs.declared.instr.Instr.{Instr}
use Rattle.avr_instr.specs.declared.instr.Instr.TheVariants.{Ldi, Out, Sts, Jmp, Rjmp, Sei, Cli, Sleep as SleepInstr, Reti}
use Rattle.avr_isa.specs.declared.effect.Effect.TheVariants.{WriteDevice, Sleep, Halt, Outside as Forbidden}
use Rattle.avr_isa.specs.declared.ending.MachineEnd.TheVariants.{Idle, Bad}
use Rattle.avr_isa.specs.Cpu.{CpuState, forward, is_enabled, enabled, disabled}
use Rattle.avr_isa.specs.Change.{Change, going, staying, moved, register_of, with_sreg}
use Rattle.avr_isa.specs.Access.{stored, can_push_two, can_pop_two, with_popped}
use Rattle.avr_isa.specs.Flow.{jumped, far_from}
use Rattle.avr_isa.specs.Effect.{change}
use Rattle.avr_isa.specs.Machine.{State, entered, woken, done, word_here}
use Rattle.avr_isa.specs.Stack.{lowest_by_push_two, lowest_by_store, lowest_behind}
use Rattle.avr_isa.specs.Leads.{Leads}
use Rattle.avr_isa.specs.Standing.{StandsAt}
use Rattle.avr_isa.proofs.Runs.{going_on, one_leads}

-- below the end of the flash the word address does not come round
pub forward-below : (words pc : ℕ) → pc + words < 65536 → forward words pc ≡ pc + words
forward-below words pc h = omega arith

-- one instruction whose change is known
pub change_leads : (flash : List ℕ) (cpu : CpuState) (o : Outside) (l : ℕ) (i : Instr) (made : Change) (t : State) → StandsAt flash cpu.pc i
    → change flash i cpu ≡ made → done made.effect (word_here flash cpu) (going_on made.cpu o (lowest_behind i cpu made.cpu l)) ≡ t
    → Leads flash (going_on cpu o l) t
change_leads flash cpu o l i made t at e d =
    one_leads flash cpu o l i t at (ap (λ m. done m.effect (word_here flash cpu) (going_on m.cpu o (lowest_behind i cpu m.cpu l))) e ∙ d)

-- LDI
pub ldi_leads : (flash : List ℕ) (cpu : CpuState) (o : Outside) (l d k : ℕ) → StandsAt flash cpu.pc (Ldi d k) → cpu.pc + 1 < 65536
    → Leads flash (going_on cpu o l) (going_on (record cpu { registers = slice_set cpu.registers d k; pc = cpu.pc + 1 }) o l)
ldi_leads flash cpu o l d k at room =
    change_leads flash cpu o l (Ldi d k) _ _ at (ap (λ n. going (record cpu { registers = slice_set cpu.registers d k; pc = n }))
    (forward-below 1 cpu.pc room)) refl

stored_device : (old made : CpuState) (a v : ℕ) → 0x20 ≤ a → a < 0x100 → a ≢ 0x5B → a ≢ 0x5D → a ≢ 0x5E → a ≢ 0x5F
    → stored old made a v ≡ record { cpu = made; effect = WriteDevice a v }
stored_device old made a v lo hi b d e f = grind arith

lowest_other : (a sp l : ℕ) → a ≢ 0x5D → lowest_by_store a sp l ≡ l
lowest_other a sp l d = grind arith

-- OUT to a device register
pub out_device_leads : (flash : List ℕ) (cpu : CpuState) (o : Outside) (l a r : ℕ) → StandsAt flash cpu.pc (Out a r) → IsDeviceAddress (a + 0x20)
    → cpu.pc + 1 < 65536 → Leads flash (going_on cpu o l) (going_on (record cpu { pc = cpu.pc + 1 }) (with_event o (Write (a + 0x20) (register_of cpu r))) l)
out_device_leads flash cpu o l a r at dev room =
    let v = register_of cpu r in
    let next : CpuState = record cpu { pc = cpu.pc + 1 } in
    change_leads flash cpu o l (Out a r) (record { cpu = next; effect = WriteDevice (a + 0x20) v }) _ at
    (ap (λ n. stored cpu (record cpu { pc = n }) (a + 0x20) v) (forward-below 1 cpu.pc room)
    ∙ stored_device cpu next (a + 0x20) v dev.from dev.below dev.no_rampz dev.no_spl dev.no_sph dev.no_sreg)
    (ap (λ n. going_on next (with_event o (Write (a + 0x20) v)) n) (lowest_other (a + 0x20) cpu.sp l dev.no_spl))

-- STS to a device register
pub sts_device_leads : (flash : List ℕ) (cpu : CpuState) (o : Outside) (l a r : ℕ) → StandsAt flash cpu.pc (Sts a r) → IsDeviceAddress a
    → cpu.pc + 2 < 65536 → Leads flash (going_on cpu o l) (going_on (record cpu { pc = cpu.pc + 2 }) (with_event o (Write a (register_of cpu r))) l)
sts_device_leads flash cpu o l a r at dev room =
    let v = register_of cpu r in
    let next : CpuState = record cpu { pc = cpu.pc + 2 } in
    change_leads flash cpu o l (Sts a r) (record { cpu = next; effect = WriteDevice a v }) _ at
    (ap (λ n. stored cpu (record cpu { pc = n }) a v) (forward-below 2 cpu.pc room)
    ∙ stored_device cpu next a v dev.from dev.below dev.no_rampz dev.no_spl dev.no_sph dev.no_sreg)
    (ap (λ n. going_on next (with_event o (Write a v)) n) (lowest_other a cpu.sp l dev.no_spl))

-- OUT to SPH
pub out_sph_leads : (flash : List ℕ) (cpu : CpuState) (o : Outside) (l r : ℕ) → StandsAt flash cpu.pc (Out 0x3E r) → cpu.pc + 1 < 65536
    → Leads flash (going_on cpu o l) (going_on (record cpu { sp = register_of cpu r * 256 + cpu.sp % 256; pc = cpu.pc + 1 }) o l)
out_sph_leads flash cpu o l r at room =
    change_leads flash cpu o l (Out 0x3E r) _ _ at (ap (λ n. stored cpu (record cpu { pc = n }) 0x5E (register_of cpu r)) (forward-below 1 cpu.pc room)) refl

-- OUT to SPL, with the stack pointer inside SRAM then
pub out_spl_leads : (flash : List ℕ) (cpu : CpuState) (o : Outside) (l r : ℕ) → StandsAt flash cpu.pc (Out 0x3D r) → cpu.pc + 1 < 65536
    → Leads flash (going_on cpu o l) (let sp = cpu.sp / 256 * 256 + register_of cpu r
    in going_on (record cpu { sp = sp; pc = cpu.pc + 1 }) o (lowest_by_store 0x5D sp l))
out_spl_leads flash cpu o l r at room =
    change_leads flash cpu o l (Out 0x3D r) _ _ at (ap (λ n. stored cpu (record cpu { pc = n }) 0x5D (register_of cpu r)) (forward-below 1 cpu.pc room)) refl

jumps : (cpu : CpuState) (to : ℕ) → (to == cpu.pc) ≡ false → jumped cpu to ≡ going (record cpu { pc = to })
jumps cpu to e = ap (λ b. if b && not (is_enabled cpu.sreg) then staying cpu Halt else going (record cpu { pc = to })) e

-- JMP elsewhere
pub jmp_leads : (flash : List ℕ) (cpu : CpuState) (o : Outside) (l to : ℕ) → StandsAt flash cpu.pc (Jmp to) → (to == cpu.pc) ≡ false
    → Leads flash (going_on cpu o l) (going_on (record cpu { pc = to }) o l)
jmp_leads flash cpu o l to at away = change_leads flash cpu o l (Jmp to) _ _ at (jumps cpu to away) refl

-- RJMP elsewhere
pub rjmp_leads : (flash : List ℕ) (cpu : CpuState) (o : Outside) (l k to : ℕ) → StandsAt flash cpu.pc (Rjmp k) → far_from cpu.pc k ≡ to
    → (to == cpu.pc) ≡ false → Leads flash (going_on cpu o l) (going_on (record cpu { pc = to }) o l)
rjmp_leads flash cpu o l k to at e away = change_leads flash cpu o l (Rjmp k) _ _ at (ap (jumped cpu) e ∙ jumps cpu to away) refl

-- SEI
pub sei_leads : (flash : List ℕ) (cpu : CpuState) (o : Outside) (l : ℕ) → StandsAt flash cpu.pc Sei → cpu.pc + 1 < 65536
    → Leads flash (going_on cpu o l) (going_on (record cpu { sreg = enabled cpu.sreg; pc = cpu.pc + 1 }) o l)
sei_leads flash cpu o l at room =
    change_leads flash cpu o l Sei _ _ at (ap (λ n. going (record cpu { sreg = enabled cpu.sreg; pc = n })) (forward-below 1 cpu.pc room)) refl

-- CLI
pub cli_leads : (flash : List ℕ) (cpu : CpuState) (o : Outside) (l : ℕ) → StandsAt flash cpu.pc Cli → cpu.pc + 1 < 65536
    → Leads flash (going_on cpu o l) (going_on (record cpu { sreg = disabled cpu.sreg; pc = cpu.pc + 1 }) o l)
cli_leads flash cpu o l at room =
    change_leads flash cpu o l Cli _ _ at (ap (λ n. going (record cpu { sreg = disabled cpu.sreg; pc = n })) (forward-below 1 cpu.pc room)) refl

pub is_enabled-enabled : (sreg : ℕ) → is_enabled (enabled sreg) ≡ true
is_enabled-enabled sreg = grind arith

pub is_enabled-disabled : (sreg : ℕ) → is_enabled (disabled sreg) ≡ false
is_enabled-disabled sreg = grind arith

sleeps : (flash : List ℕ) (cpu : CpuState) → is_enabled cpu.sreg ≡ true → change flash SleepInstr cpu ≡ staying cpu Sleep
sleeps flash cpu e = ap (λ b. if b then staying cpu Sleep else going (moved 1 cpu)) e

-- SLEEP with no interrupt left
pub sleep_idle_leads : (flash : List ℕ) (cpu : CpuState) (o : Outside) (l : ℕ) → StandsAt flash cpu.pc SleepInstr → is_enabled cpu.sreg ≡ true
    → o.interrupts ≡ [] → Leads flash (going_on cpu o l) (record { cpu = cpu; outside = o; lowest = l; ended = Some Idle })
sleep_idle_leads flash cpu o l at on e =
    change_leads flash cpu o l SleepInstr _ _ at (sleeps flash cpu on) (ap (λ is. woken is (word_here flash cpu) (going_on cpu o l)) e)

-- SLEEP that takes an interrupt
pub sleep_enters_leads : (flash : List ℕ) (cpu : CpuState) (o : Outside) (l v : ℕ) (vs : List ℕ) → StandsAt flash cpu.pc SleepInstr
    → is_enabled cpu.sreg ≡ true → o.interrupts ≡ v ∷ vs → can_push_two cpu.sp ≡ true
    → Leads flash (going_on cpu o l) (going_on (entered cpu v) (with_event (record o { interrupts = vs }) (Enter v)) (lowest_by_push_two cpu.sp l))
sleep_enters_leads flash cpu o l v vs at on e room =
    let low = lowest_by_push_two cpu.sp l in
    let word = word_here flash cpu in
    let inside = going_on (entered cpu v) (with_event (record o { interrupts = vs }) (Enter v)) low in
    let refused : State = record { cpu = cpu; outside = o; lowest = low; ended = Some (Bad cpu.pc word) } in
    change_leads flash cpu o l SleepInstr _ _ at (sleeps flash cpu on)
    (ap (λ is. woken is word (going_on cpu o l)) e ∙ ap (λ b. if b then inside else refused) room)

-- RETI
pub reti_leads : (flash : List ℕ) (cpu : CpuState) (o : Outside) (l : ℕ) → StandsAt flash cpu.pc Reti → can_pop_two cpu.sp ≡ true
    → Leads flash (going_on cpu o l) (going_on (record (with_popped cpu) { sreg = enabled cpu.sreg }) o l)
reti_leads flash cpu o l at room =
    change_leads flash cpu o l Reti _ _ at (ap (λ b. if b then going (with_sreg (with_popped cpu) (enabled cpu.sreg)) else staying cpu Forbidden) room) refl
