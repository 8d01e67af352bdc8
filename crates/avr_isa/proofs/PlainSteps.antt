-- The plain machine makes the steps of the definition.
use Rattle.std.proofs.Common.{◌≡◌, ℕ, List, Option, Some, None, false, refl, sym, ap, ◌∙◌}
use Rattle.std.specs.Prelude.{is_some}
use Rattle.avr_instr.specs.declared.instr.Instr.{Instr}
use Rattle.avr_isa.specs.declared.effect.Effect.{Effect}
use Rattle.avr_isa.specs.declared.stack.StackUse.{StackUse}
use Rattle.avr_isa.specs.declared.ending.MachineEnd.{MachineEnd}
use Rattle.avr_instr.specs.Decoded.{decoded}
use Rattle.avr_isa.specs.Cpu.{CpuState, flash_word, forward}
use Rattle.avr_isa.specs.Effect.{change}
use Rattle.avr_isa.specs.Stack.{stack_use, lowest_by}
use Rattle.avr_isa.specs.Machine.{State, done, performed, word_here, instr_here, next_by, next_state}

same_done : (word : ℕ) (s : State) (m n : CpuState) (e f : Effect) (l k : ℕ) → m ≡ n → e ≡ f → l ≡ k
    → done e word (record s { cpu = m; lowest = l }) ≡ done f word (record s { cpu = n; lowest = k })
same_done word s m n e f l k p q r =
    ap (λ x. done e word (record s { cpu = x; lowest = l })) p
    ∙ ap (λ x. done x word (record s { cpu = n; lowest = l })) q
    ∙ ap (λ x. done f word (record s { cpu = n; lowest = x })) r

-- a step of the processor and its history, and then what is left to be done
pub performs : (flash : List ℕ) (i : Instr) (word : ℕ) (s : State) (made : CpuState) (e : Effect) (u : StackUse) (sp l : ℕ)
    → made ≡ (change flash i s.cpu).cpu → e ≡ (change flash i s.cpu).effect → u ≡ stack_use i s.cpu → sp ≡ made.sp → l ≡ lowest_by u sp s.lowest
    → done e word (record s { cpu = made; lowest = l }) ≡ performed flash (Some i) word s
performs flash i word s made e u sp l p q v t r =
    same_done word s made _ e _ l _ p q
    (r ∙ ap (λ x. lowest_by x sp s.lowest) v ∙ ap (λ x. lowest_by (stack_use i s.cpu) x s.lowest) (t ∙ ap (λ x. x.sp) p))

-- a step where the run has not ended
pub next-is : (flash : List ℕ) (s : State) (o : Option Instr) (pc word next : ℕ) → s.ended ≡ None → pc ≡ s.cpu.pc → word ≡ flash_word flash pc
    → next ≡ flash_word flash (forward 1 pc) → o ≡ decoded word next → performed flash o word s ≡ next_state flash s
next-is flash s o pc word next e p w n d =
    let here : word ≡ word_here flash s.cpu = w ∙ ap (flash_word flash) p in
    let behind : next ≡ flash_word flash (forward 1 s.cpu.pc) = n ∙ ap (λ x. flash_word flash (forward 1 x)) p in
    let instr : o ≡ instr_here flash s.cpu = d ∙ ap (λ x. decoded x next) here ∙ ap (decoded (word_here flash s.cpu)) behind in
    ap (λ x. performed flash x word s) instr
    ∙ ap (λ x. performed flash (instr_here flash s.cpu) x s) here
    ∙ sym (ap (λ x. next_by x flash s) e)

pub none_none : (o : Option MachineEnd) → is_some o ≡ false → o ≡ None
none_none None e = refl
none_none (Some x) e = cc
