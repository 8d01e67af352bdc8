-- Calls and returns.
use Rattle.std.proofs.Common.{◌≡◌, ℕ, suc, ◌+◌, ◌-◌, ◌/◌, ◌%◌, ◌<◌, ◌≤◌, Bool, true, false, if◌then◌else◌, List, [], ◌∷◌, length}
use Rattle.std.proofs.Common.{refl, sym, ap, ◌∙◌, subst, arith, inl, inr}
use Rattle.avr_instr.specs.declared.instr.Instr.{Instr}
use Rattle.avr_instr.specs.declared.instr.Instr.TheVariants.{Call, Icall, Rcall, Ret}
use Rattle.avr_isa.specs.declared.effect.Effect.TheVariants.{Outside as Forbidden}
use Rattle.avr_isa.specs.declared.stack.StackUse.{StackUse}
use Rattle.avr_isa.specs.declared.stack.StackUse.TheVariants.{PushesWord}
use Rattle.avr_isa.specs.Cpu.{CpuState, forward}
use Rattle.avr_isa.specs.Change.{Change, going, staying, pair_of}
use Rattle.avr_isa.specs.Access.{can_push_two, can_pop_two, with_pushed, with_popped}
use Rattle.avr_isa.specs.Flow.{far_from, subroutine_called}
use Rattle.avr_isa.specs.Effect.{change}
use Rattle.avr_isa.specs.Machine.{State, done, word_here}
use Rattle.avr_isa.specs.Stack.{stack_use, lowest_by, lowest_by_push_two}
use Rattle.avr_isa.specs.Standing.{StandsAt}
use Rattle.avr_isa.proofs.Runs.{going_on}
use Rattle.avr_view.specs.Registers.{pair}
use Rattle.avr_view.specs.Memory.{Divided}
use Rattle.avr_view.specs.Run.{Run, StoresWithin, Goes}
use Rattle.avr_view.specs.View.{View, At}
use Rattle.avr_view.proofs.Going.{below_or_not}
use Rattle.avr_view.proofs.Dividing.{stack_read, stack_pushed, stack_raised}
use Rattle.avr_view.proofs.Steps.{sp_is, pair_is, one_change, one_level, one_sinks}

pub can_push_both : (sp : ℕ) → 0x100 < sp → sp < 0x1100 → can_push_two sp ≡ true
can_push_both sp lo hi = grind arith

pub can_pop_both : (sp : ℕ) → 0xFF ≤ sp → sp + 2 < 0x1100 → can_pop_two sp ≡ true
can_pop_both sp lo hi = grind arith

-- a word address is pushed, its high byte last
pub word_pushed : (static stack : List ℕ) (c : CpuState) (word : ℕ) → Divided static stack c.sram c.sp → 0x100 + length static < c.sp
    → Divided static (word / 256 ∷ word % 256 ∷ stack) (with_pushed c word).sram (with_pushed c word).sp
word_pushed static stack c word p h =
    let one = stack_pushed static stack c.sram c.sp (word % 256) (c.sp - 0x100) p (omega arith) (omega arith) in
    let two = stack_pushed static (word % 256 ∷ stack) _ (c.sp - 1) (word / 256) (c.sp - 1 - 0x100) one (omega arith) (omega arith) in
    let last : c.sp - 1 - 1 ≡ c.sp - 2 = omega arith in
    subst (λ n. Divided static (word / 256 ∷ word % 256 ∷ stack) (with_pushed c word).sram n) last two

module _ (e : Run) (deep : Type 0) (pc : ℕ) (v : View) (s : State) (a : At e pc v s) where
  top : s.cpu.sp + 1 + length v.stack ≡ 0x1100
  top = sp_is e deep pc v s a

  -- a call by an instruction of so many words
  one_call : (i : Instr) (words to to' : ℕ) → StandsAt e.flash pc i → change e.flash i s.cpu ≡ subroutine_called s.cpu (forward words s.cpu.pc) to'
      → stack_use i s.cpu ≡ PushesWord s.cpu.sp → to' ≡ to → pc + words < 65536 → (0x1100 < e.floor + length v.stack + 2 → deep)
      → Goes e deep 1 s (At e to (record v { stack = (pc + words) / 256 ∷ (pc + words) % 256 ∷ v.stack }))
  one_call i words to to' at is pushes same room full = elim (below_or_not s.cpu.sp (e.floor + 1)) [ inl low ↦ sunk low | inr fits ↦ called fits ]
    where
      goal : State → Type 0
      goal = At e to (record v { stack = (pc + words) / 256 ∷ (pc + words) % 256 ∷ v.stack })

      into : CpuState
      into = record (with_pushed s.cpu (forward words s.cpu.pc)) { pc = to' }

      word : ℕ
      word = word_here e.flash s.cpu

      low_behind : Change → StackUse → ℕ
      low_behind m u = (done m.effect word (going_on m.cpu v.out (lowest_by u m.cpu.sp s.lowest))).lowest

      either : (b : Bool) → low_behind (if b then going into else staying s.cpu Forbidden) (PushesWord s.cpu.sp) ≡ lowest_by_push_two s.cpu.sp s.lowest
      either true = refl
      either false = refl

      behind : low_behind (change e.flash i s.cpu) (stack_use i s.cpu) ≡ lowest_by_push_two s.cpu.sp s.lowest
      behind =
          ap (λ m. low_behind m (stack_use i s.cpu)) is
          ∙ ap (low_behind (subroutine_called s.cpu (forward words s.cpu.pc) to')) pushes
          ∙ either (can_push_two s.cpu.sp)

      sunk : s.cpu.sp < e.floor + 1 → Goes e deep 1 s goal
      sunk low =
          let x = top in
          let size = a.memory.size in
          let pointer = a.memory.pointer in
          let least : lowest_by_push_two s.cpu.sp s.lowest < e.floor = omega arith in
          one_sinks e deep pc v s a i goal _ at (full (omega arith)) behind least

      called : e.floor + 1 ≤ s.cpu.sp → Goes e deep 1 s goal
      called fits =
          let cpu = s.cpu in
          let x = top in
          let above = a.above in
          let apart = e.apart in
          let as_said = a.static in
          let next = forward words cpu.pc in
          let ok : can_push_two cpu.sp ≡ true = can_push_both cpu.sp (omega arith) (omega arith) in
          let memory = word_pushed v.static v.stack cpu next a.memory (omega arith) in
          let there : next ≡ pc + words = omega (arith, a.place) in
          one_change e deep pc v s a i into (record v { stack = (pc + words) / 256 ∷ (pc + words) % 256 ∷ v.stack }) to (lowest_by_push_two cpu.sp s.lowest) at
          (subst (StoresWithin e cpu.sp) (sym pushes) tt) refl (is ∙ ap (λ b. if b then going into else staying cpu Forbidden) ok)
          (ap (λ u. lowest_by u into.sp s.lowest) pushes) (omega arith) same a.shows
          (subst (λ n. Divided v.static (n / 256 ∷ n % 256 ∷ v.stack) into.sram into.sp) there memory) a.static (omega arith)

  -- CALL
  pub goes_call : (k : ℕ) → StandsAt e.flash pc (Call k) → pc + 2 < 65536 → (0x1100 < e.floor + length v.stack + 2 → deep)
      → Goes e deep 1 s (At e k (record v { stack = (pc + 2) / 256 ∷ (pc + 2) % 256 ∷ v.stack }))
  goes_call k at room full = one_call (Call k) 2 k k at refl refl refl room full

  -- RCALL
  pub goes_rcall : (k : ℕ) → StandsAt e.flash pc (Rcall k) → pc + 1 < 65536 → (0x1100 < e.floor + length v.stack + 2 → deep)
      → Goes e deep 1 s (At e (far_from pc k) (record v { stack = (pc + 1) / 256 ∷ (pc + 1) % 256 ∷ v.stack }))
  goes_rcall k at room full = one_call (Rcall k) 1 (far_from pc k) (far_from s.cpu.pc k) at refl refl (ap (λ n. far_from n k) a.place) room full

  -- ICALL
  pub goes_icall : StandsAt e.flash pc Icall → pc + 1 < 65536 → (0x1100 < e.floor + length v.stack + 2 → deep)
      → Goes e deep 1 s (At e (pair v.regs 30) (record v { stack = (pc + 1) / 256 ∷ (pc + 1) % 256 ∷ v.stack }))
  goes_icall at room full = one_call Icall 1 (pair v.regs 30) (pair_of s.cpu 30) at refl refl (pair_is e deep pc v s a 30 (omega arith)) room full

  -- RET
  pub goes_ret : (to : ℕ) (below : List ℕ) → v.stack ≡ to / 256 ∷ to % 256 ∷ below → StandsAt e.flash pc Ret
      → Goes e deep 1 s (At e to (record v { stack = below }))
  goes_ret to below is at =
      let cpu = s.cpu in
      let x = top in
      let memory : Divided v.static (to / 256 ∷ to % 256 ∷ below) cpu.sram cpu.sp = subst (λ l. Divided v.static l cpu.sram cpu.sp) is a.memory in
      let more : length v.stack ≡ suc (suc (length below)) = ap length is in
      let size = a.memory.size in
      let pointer = a.memory.pointer in
      let high = stack_read v.static _ cpu.sram cpu.sp memory 0 (cpu.sp + 1 - 0x100) (omega arith) in
      let low = stack_read v.static _ cpu.sram cpu.sp memory 1 (cpu.sp + 2 - 0x100) (omega arith) in
      let ok : can_pop_two cpu.sp ≡ true = can_pop_both cpu.sp (omega arith) (omega arith) in
      one_level e deep pc v s a Ret (with_popped cpu) (record v { stack = below }) to at tt refl
      (ap (λ b. if b then going (with_popped cpu) else staying cpu Forbidden) ok) refl (omega (arith, high, low)) a.shows
      (stack_raised v.static (to / 256 ∷ to % 256 ∷ []) below cpu.sram cpu.sp memory) refl (omega arith)
