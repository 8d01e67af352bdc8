-- The machine holds bytes at reset, and behind each instruction.
use Rattle.std.proofs.Common.{◌≡◌, ℕ, zero, suc, ◌+◌, ◌*◌, ◌^◌, ◌<◌, Bool, true, false, List, []}
use Rattle.std.proofs.Common.{◌∷◌, Option, Some, None, refl, arith, if◌then◌else◌}
use Rattle.std.specs.List.{AllByRecursion}
use Rattle.vg_meaning.specs.Outside.{AreReads, AreVectors}
use Rattle.avr_instr.specs.declared.instr.Instr.{Instr}
use Rattle.avr_instr.specs.Spelled.{InRange}
use Rattle.avr_instr.proofs.BothWays.{decoded_only}
use Rattle.avr_isa.specs.declared.effect.Effect.{Effect}
use Rattle.avr_isa.specs.declared.effect.Effect.TheVariants.{Next, ReadDevice, WriteDevice, Sleep, Halt, Outside as Forbidden}
use Rattle.avr_isa.specs.declared.ending.MachineEnd.{MachineEnd}
use Rattle.avr_isa.specs.Cpu.{PowerOn, IsPowerOn, flash_word, forward}
use Rattle.avr_isa.specs.Access.{can_push_two}
use Rattle.avr_isa.specs.Effect.{change}
use Rattle.avr_isa.specs.Stack.{lowest_behind}
use Rattle.avr_isa.specs.Standing.{StandsAt}
use Rattle.avr_isa.specs.Machine.{State, answered, woken, done, performed, word_here, instr_here, next_by, next_state, started, run_from}
use Rattle.avr_bytes.specs.Bytes.{AreBytes, IsFlash, HoldsBytes}
use Rattle.avr_bytes.proofs.Parts.{with_register-bytes, with_sreg-bytes, at-bytes, pushed-bytes}
use Rattle.avr_bytes.proofs.Instructions.{change-bytes}

each-byte : (l : List ℕ) → AllByRecursion (λ b. b < 256) l → AreBytes l
each-byte [] h k = omega arith
each-byte (x ∷ xs) h zero = h.0
each-byte (x ∷ xs) h (suc k) = each-byte xs h.1 k

pub image-bytes : (l : List ℕ) → AllByRecursion (λ b. b < 256) l → IsFlash l
image-bytes [] h k = omega arith
image-bytes (x ∷ xs) h zero = h.0
image-bytes (x ∷ xs) h (suc k) = image-bytes xs h.1 k

pub reset-bytes : (memory : PowerOn) (reads interrupts : List ℕ) → IsPowerOn memory → AreReads reads → AreVectors interrupts
    → HoldsBytes (started memory reads interrupts)
reset-bytes memory reads interrupts m r i =
    record {
      cpu =
          record {
            registers = each-byte memory.registers m.register_bytes;
            sram = each-byte memory.sram m.sram_bytes;
            sreg = omega arith;
            rampz = omega arith;
            sp = omega arith;
            pc = omega arith;
          };
      interrupts = i;
      reads = r;
    }

answered-bytes : (reads : List ℕ) (a d : ℕ) (s : State) → AreReads reads → HoldsBytes s → HoldsBytes (answered reads a d s)
answered-bytes [] a d s h p = record { cpu = p.cpu; interrupts = p.interrupts; reads = p.reads }
answered-bytes (v ∷ vs) a d s h p = record { cpu = with_register-bytes s.cpu d v h.0 p.cpu; interrupts = p.interrupts; reads = h.1 }

either-state : (b : Bool) (t u : State) → HoldsBytes t → HoldsBytes u → HoldsBytes (if b then t else u)
either-state true t u p q = p
either-state false t u p q = q

woken-bytes : (interrupts : List ℕ) (word : ℕ) (s : State) → AreVectors interrupts → HoldsBytes s → HoldsBytes (woken interrupts word s)
woken-bytes [] word s h p = record { cpu = p.cpu; interrupts = p.interrupts; reads = p.reads }
woken-bytes (v ∷ vs) word s h p =
    let sreg = p.cpu.sreg in
    let in_range = h.0 in
    let pushed = pushed-bytes s.cpu (forward 1 s.cpu.pc) (omega arith) p.cpu in
    let inside = with_sreg-bytes _ _ (omega arith) (at-bytes _ (2 * v) (omega (arith, in_range)) pushed) in
    either-state (can_push_two s.cpu.sp) _ _ (record { cpu = inside; interrupts = h.1; reads = p.reads })
    (record { cpu = p.cpu; interrupts = p.interrupts; reads = p.reads })

done-bytes : (e : Effect) (word : ℕ) (s : State) → HoldsBytes s → HoldsBytes (done e word s)
done-bytes Next word s p = p
done-bytes (ReadDevice a d) word s p = answered-bytes s.outside.reads a d s p.reads p
done-bytes (WriteDevice a v) word s p = record { cpu = p.cpu; interrupts = p.interrupts; reads = p.reads }
done-bytes Sleep word s p = woken-bytes s.outside.interrupts word s p.interrupts p
done-bytes Halt word s p = record { cpu = p.cpu; interrupts = p.interrupts; reads = p.reads }
done-bytes Forbidden word s p = record { cpu = p.cpu; interrupts = p.interrupts; reads = p.reads }

module _ (flash : List ℕ) (in_flash : IsFlash flash) where
  word-below : (a : ℕ) → flash_word flash a < 2 ^ 16
  word-below a = let low = in_flash (2 * a) in let high = in_flash (2 * a + 1) in omega (arith, low, high)

  pub stands-in_range : (pc : ℕ) (i : Instr) → StandsAt flash pc i → InRange i
  stands-in_range pc i at = (decoded_only _ _ i (word-below pc) (word-below (forward 1 pc)) at).operands

  pub performed-bytes : (o : Option Instr) (word : ℕ) (s : State) → ((i : Instr) → o ≡ Some i → InRange i) → HoldsBytes s
      → HoldsBytes (performed flash o word s)
  performed-bytes None word s r p = record { cpu = p.cpu; interrupts = p.interrupts; reads = p.reads }
  performed-bytes (Some i) word s r p =
      let made = change flash i s.cpu in
      done-bytes made.effect word (record s { cpu = made.cpu; lowest = lowest_behind i s.cpu made.cpu s.lowest })
      (record { cpu = change-bytes flash in_flash s.cpu p.cpu i (r i refl); interrupts = p.interrupts; reads = p.reads })

  next_by-bytes : (o : Option MachineEnd) (s : State) → HoldsBytes s → HoldsBytes (next_by o flash s)
  next_by-bytes (Some e) s p = p
  next_by-bytes None s p =
      performed-bytes (instr_here flash s.cpu) (word_here flash s.cpu) s (λ i e. stands-in_range s.cpu.pc i e) p

  pub run-bytes : (n : ℕ) (s : State) → HoldsBytes s → HoldsBytes (run_from flash n s)
  run-bytes zero s p = p
  run-bytes (suc n) s p = run-bytes n (next_state flash s) (next_by-bytes s.ended s p)
