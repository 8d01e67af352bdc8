-- The first instructions behind reset: a jump, and SP set to the end of SRAM.
use Rattle.std.proofs.Common.{◌≡◌, ◌≢◌, ℕ, ◌+◌, ◌*◌, ◌/◌, ◌%◌, ◌<◌, ◌≤◌, true, false, not, ◌&&◌, ◌==◌, if◌then◌else◌}
use Rattle.std.proofs.Common.{List, [], ◌++◌, length, Some, refl, sym, ap, ◌∙◌, subst, arith, length-take, length-drop, slice_index, slice_set}
use Rattle.std.proofs.Common.{take, drop}
use Rattle.std.proofs.lemmas.List.{append-nil, get_or-set_same, length-set, take-append-drop}
use Rattle.vg_meaning.specs.Outside.{Outside, before, AreReads, AreVectors}
use Rattle.avr_instr.specs.declared.instr.Instr.{Instr}
use Rattle.avr_instr.specs.declared.instr.Instr.TheVariants.{Jmp, Ldi, Out}
use Rattle.avr_isa.specs.declared.effect.Effect.TheVariants.{Halt}
use Rattle.avr_isa.specs.Cpu.{CpuState, PowerOn, IsPowerOn, at_reset, forward, is_enabled}
use Rattle.avr_isa.specs.Change.{going, staying}
use Rattle.avr_isa.specs.Machine.{State, done, performed, word_here, started}
use Rattle.avr_isa.specs.Stack.{stack_use, lowest_by_store}
use Rattle.avr_isa.specs.Standing.{StandsAt, AllStandAt}
use Rattle.avr_isa.proofs.Runs.{going_on}
use Rattle.avr_bytes.specs.Bytes.{HoldsBytes}
use Rattle.avr_bytes.proofs.Runs.{reset-bytes, stands-in_range}
use Rattle.avr_view.specs.Run.{Run, StoresWithin, IsQuiet, Goes}
use Rattle.avr_view.specs.View.{At}
use Rattle.avr_view.specs.Start.{start_code, Started}
use Rattle.avr_view.proofs.Going.{goes_here, goes_then, goes_one, one_keeps_bytes}

apart_from_0 : (start : ℕ) → start ≢ 0 → (start == 0) ≡ false
apart_from_0 start h = grind arith

module _ (e : Run) (deep : Type 0) where
  -- one instruction to a state that is known, and the run from there
  then_from : (n : ℕ) (cpu : CpuState) (o : Outside) (l : ℕ) (i : Instr) (t : State) (P : State → Type 0) → StandsAt e.flash cpu.pc i
      → StoresWithin e cpu.sp (stack_use i cpu) → IsQuiet e (going_on cpu o l)
      → performed e.flash (Some i) (word_here e.flash cpu) (going_on cpu o l) ≡ t → Goes e deep n t P → Goes e deep (1 + n) (going_on cpu o l) P
  then_from n cpu o l i t P at within quiet made rest =
      goes_then e deep 1 n (going_on cpu o l) (λ u. u ≡ t) P (goes_one e deep cpu o l i t (λ u. u ≡ t) at within quiet made refl)
      (λ u same. subst (λ w. Goes e deep n w P) (sym same) rest)

  module _ (start d : ℕ) (memory : PowerOn) (reads interrupts : List ℕ) (powered : IsPowerOn memory) (r : AreReads reads) (is : AreVectors interrupts)
      (jump : StandsAt e.flash 0 (Jmp start)) (away : start ≢ 0) (code : AllStandAt e.flash start (start_code d)) (low : start + 4 < 65536)
      (room : e.floor ≤ 0x1100) where
    abbrev out : Outside
    out = before reads interrupts

    -- the processor before each of the five instructions, and behind them
    abbrev cpu0 : CpuState
    cpu0 = at_reset memory

    abbrev cpu1 : CpuState
    cpu1 = record (at_reset memory) { pc = start }

    abbrev cpu2 : CpuState
    cpu2 = record (at_reset memory) { registers = slice_set memory.registers d 0x10; pc = forward 1 start }

    abbrev cpu3 : CpuState
    cpu3 = record (at_reset memory) {
      registers = slice_set memory.registers d 0x10;
      sp = slice_index (slice_set memory.registers d 0x10) d * 256 + 0 % 256;
      pc = forward 1 (forward 1 start);
    }

    abbrev cpu4 : CpuState
    cpu4 = record (at_reset memory) {
      registers = slice_set (slice_set memory.registers d 0x10) d 0xFF;
      sp = slice_index (slice_set memory.registers d 0x10) d * 256 + 0 % 256;
      pc = forward 1 (forward 1 (forward 1 start));
    }

    abbrev cpu5 : ℕ → CpuState
    cpu5 sp = record (at_reset memory) {
      registers = slice_set (slice_set memory.registers d 0x10) d 0xFF;
      sp = sp;
      pc = forward 1 (forward 1 (forward 1 (forward 1 start)));
    }

    register : d < 32
    register = (stands-in_range e.flash e.is_flash start (Ldi d 0x10) code.0).0.1

    high_is : slice_index (slice_set memory.registers d 0x10) d ≡ 0x10
    high_is = let size = powered.registers in get_or-set_same memory.registers d 0x10 0 (omega (arith, size, register))

    low_is : slice_index (slice_set (slice_set memory.registers d 0x10) d 0xFF) d ≡ 0xFF
    low_is =
        let size = powered.registers in
        let same = length-set memory.registers d 0x10 in
        get_or-set_same (slice_set memory.registers d 0x10) d 0xFF 0 (omega (arith, size, same, register))

    sp_is : (slice_index (slice_set memory.registers d 0x10) d * 256 + 0 % 256) / 256 * 256
        + slice_index (slice_set (slice_set memory.registers d 0x10) d 0xFF) d ≡ 0x10FF
    sp_is = let high = high_is in let least = low_is in omega (arith, high, least)

    at2 : StandsAt e.flash (forward 1 start) (Out 0x3E d)
    at2 = let same : start + 1 ≡ forward 1 start = omega arith in subst (λ n. StandsAt e.flash n (Out 0x3E d)) same code.1.0

    at3 : StandsAt e.flash (forward 1 (forward 1 start)) (Ldi d 0xFF)
    at3 = let same : start + 1 + 1 ≡ forward 1 (forward 1 start) = omega arith in subst (λ n. StandsAt e.flash n (Ldi d 0xFF)) same code.1.1.0

    at4 : StandsAt e.flash (forward 1 (forward 1 (forward 1 start))) (Out 0x3D d)
    at4 =
        let same : start + 1 + 1 + 1 ≡ forward 1 (forward 1 (forward 1 start)) = omega arith in
        subst (λ n. StandsAt e.flash n (Out 0x3D d)) same code.1.1.1.0

    quiet : (cpu : CpuState) → cpu.sreg ≡ 0 → is_enabled cpu.sreg ≡ true → e.lets_in cpu.pc ≡ true
    quiet cpu off on = absurd (let clash : false ≡ true = sym (ap is_enabled off) ∙ on in cc)

    jumps : performed e.flash (Some (Jmp start)) (word_here e.flash cpu0) (going_on cpu0 out 0x1100) ≡ going_on cpu1 out 0x1100
    jumps =
        ap (λ b. let c = (if b && not (is_enabled 0) then staying cpu0 Halt else going cpu1) in
        done c.effect (word_here e.flash cpu0) (going_on c.cpu out 0x1100)) (apart_from_0 start away)

    sets : performed e.flash (Some (Out 0x3D d)) (word_here e.flash cpu4) (going_on cpu4 out 0x1100) ≡ going_on (cpu5 0x10FF) out 0x1100
    sets = ap (λ sp. going_on (cpu5 sp) out (lowest_by_store 0x5D sp 0x1100)) sp_is

    bytes : HoldsBytes (going_on (cpu5 0x10FF) out 0x1100)
    bytes =
        one_keeps_bytes e cpu4 out 0x1100 (Out 0x3D d) _ at4
        (one_keeps_bytes e cpu3 out 0x1100 (Ldi d 0xFF) (going_on cpu4 out 0x1100) at3
        (one_keeps_bytes e cpu2 out 0x1100 (Out 0x3E d) (going_on cpu3 out 0x1100) at2
        (one_keeps_bytes e cpu1 out 0x1100 (Ldi d 0x10) (going_on cpu2 out 0x1100) code.0
        (one_keeps_bytes e cpu0 out 0x1100 (Jmp start) (going_on cpu1 out 0x1100) jump (reset-bytes memory reads interrupts powered r is) jumps)
        refl) refl) refl)
        sets

    seen : At e (start + 4) (record {
      regs = record {
        of = λ n. slice_index (slice_set (slice_set memory.registers d 0x10) d 0xFF) n;
        flags = record { half_carry = false; overflow = false; negative = false; zero = false; carry = false };
      };
      static = take e.static memory.sram;
      stack = [];
      out = out;
    }) (going_on (cpu5 0x10FF) out 0x1100)
    seen =
        let size = powered.sram in
        let count = powered.registers in
        let apart = e.apart in
        let front : length (take e.static memory.sram) ≡ e.static = omega (arith, length-take e.static memory.sram, size) in
        let back = length-drop e.static memory.sram in
        record {
          going = refl;
          place = omega arith;
          shows =
              record {
                count = omega (arith, count, length-set memory.registers d 0x10, length-set (slice_set memory.registers d 0x10) d 0xFF);
                each = λ n h. refl;
                flags = refl;
              };
          memory =
              record {
                free = drop e.static memory.sram;
                bytes =
                    sym (take-append-drop e.static memory.sram)
                    ∙ ap (λ m. take e.static memory.sram ++ m) (sym (append-nil (drop e.static memory.sram)));
                pointer = omega (arith, front, back, size);
                size = omega (arith, front, back, size);
              };
          static = front;
          out = refl;
          front = record { more = e.whole; front = refl };
          above = room;
          room = omega arith;
          bytes = bytes;
        }

    -- from reset
    pub goes_started : Goes e deep 5 (started memory reads interrupts) (Started e memory (before reads interrupts) (start + 4))
    goes_started =
        let goal = Started e memory (before reads interrupts) (start + 4) in
        then_from 4 cpu0 out 0x1100 (Jmp start) (going_on cpu1 out 0x1100) goal jump tt (quiet cpu0 refl) jumps
        (then_from 3 cpu1 out 0x1100 (Ldi d 0x10) (going_on cpu2 out 0x1100) goal code.0 tt (quiet cpu1 refl) refl
        (then_from 2 cpu2 out 0x1100 (Out 0x3E d) (going_on cpu3 out 0x1100) goal at2 (λ none. absurd (omega arith)) (quiet cpu2 refl) refl
        (then_from 1 cpu3 out 0x1100 (Ldi d 0xFF) (going_on cpu4 out 0x1100) goal at3 tt (quiet cpu3 refl) refl
        (then_from 0 cpu4 out 0x1100 (Out 0x3D d) (going_on (cpu5 0x10FF) out 0x1100) goal at4 (λ none. absurd (omega arith)) (quiet cpu4 refl) sets
        (goes_here e deep (going_on (cpu5 0x10FF) out 0x1100) goal (record { regs = _; at = seen }))))))
