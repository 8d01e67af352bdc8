use Rattle.std.proofs.Common.{◌≡◌, ℕ, List, replicate, refl, ap, ◌∙◌}
use Rattle.avr_isa.specs.Cpu.{CpuState, marks}
use Rattle.avr_isa.proofs.cpu.Cpu.at_reset.Goals as goal

marks-is : (n : ℕ) → replicate n 0xA5 ≡ marks n
unfolding marks
marks-is n = refl

at_marks : (n : ℕ) (r m : List ℕ) → r ≡ marks 32 → m ≡ replicate n 0xA5
    → (let s : CpuState = record { registers = r; sram = m; sreg = 0; sp = 0; rampz = 0; pc = 0 }
    in s) ≡ record { registers = marks 32; sram = marks n; sreg = 0; sp = 0; rampz = 0; pc = 0 }
at_marks n r m e f =
    ap (λ l. let s : CpuState = record { registers = l; sram = m; sreg = 0; sp = 0; rampz = 0; pc = 0 } in s) e
    ∙ ap (λ l. let s : CpuState = record { registers = marks 32; sram = l; sreg = 0; sp = 0; rampz = 0; pc = 0 } in s) (f ∙ marks-is n)

pub returns : goal.returns
returns c = at_marks 4096 _ _ (marks-is 32) (c.in_ok-vec.ensures.items_if_clones_equal (λ y h. h))
