-- A change of one part of a processor leaves bytes in it.
use Rattle.std.proofs.Common.{◌≡◌, ℕ, zero, suc, ◌+◌, ◌-◌, ◌/◌, ◌%◌, ◌<◌, Bool, true, false}
use Rattle.std.proofs.Common.{◌==◌, List, [], ◌∷◌, refl, arith}
use Rattle.std.proofs.Common.{nat_lt, if◌then◌else◌, slice_set}
use Rattle.avr_isa.specs.declared.flags.Flags.{Flags}
use Rattle.avr_isa.specs.declared.effect.Effect.{Effect}
use Rattle.avr_isa.specs.declared.effect.Effect.TheVariants.{Next, ReadDevice, WriteDevice, Sleep, Halt, Outside as Forbidden}
use Rattle.avr_isa.specs.Cpu.{CpuState}
use Rattle.avr_isa.specs.Change.{Change, moved, with_register, with_sreg, pair_of, with_pair}
use Rattle.avr_isa.specs.Flags.{with_flags}
use Rattle.avr_isa.specs.Access.{stored, loaded, pointer_behind, can_pop_two, with_pushed, with_popped}
use Rattle.avr_isa.specs.Effect.{resulting, resulting_wide}
use Rattle.avr_bytes.specs.Bytes.{AreBytes, HasBytes}

set-bytes : (l : List ℕ) (d v : ℕ) → v < 256 → AreBytes l → AreBytes (slice_set l d v)
set-bytes [] d v h b k = b k
set-bytes (x ∷ xs) zero v h b zero = h
set-bytes (x ∷ xs) zero v h b (suc k) = b (suc k)
set-bytes (x ∷ xs) (suc d) v h b zero = b 0
set-bytes (x ∷ xs) (suc d) v h b (suc k) = set-bytes xs d v h (λ j. b (suc j)) k

pub with_register-bytes : (c : CpuState) (d v : ℕ) → v < 256 → HasBytes c → HasBytes (with_register c d v)
with_register-bytes c d v h s =
    record { registers = set-bytes c.registers d v h s.registers; sram = s.sram; sreg = s.sreg; rampz = s.rampz; sp = s.sp; pc = s.pc }

pub with_sreg-bytes : (c : CpuState) (f : ℕ) → f < 256 → HasBytes c → HasBytes (with_sreg c f)
with_sreg-bytes c f h s = record { registers = s.registers; sram = s.sram; sreg = h; rampz = s.rampz; sp = s.sp; pc = s.pc }

pub moved-bytes : (n : ℕ) (c : CpuState) → HasBytes c → HasBytes (moved n c)
moved-bytes n c s = record { registers = s.registers; sram = s.sram; sreg = s.sreg; rampz = s.rampz; sp = s.sp; pc = omega arith }

pub at-bytes : (c : CpuState) (to : ℕ) → to < 65536 → HasBytes c → HasBytes (record c { pc = to })
at-bytes c to h s = record { registers = s.registers; sram = s.sram; sreg = s.sreg; rampz = s.rampz; sp = s.sp; pc = h }

pub sp-bytes : (c : CpuState) (n : ℕ) → n < 65536 → HasBytes c → HasBytes (record c { sp = n })
sp-bytes c n h s = record { registers = s.registers; sram = s.sram; sreg = s.sreg; rampz = s.rampz; sp = h; pc = s.pc }

rampz-bytes : (c : CpuState) (v : ℕ) → v < 256 → HasBytes c → HasBytes (record c { rampz = v })
rampz-bytes c v h s = record { registers = s.registers; sram = s.sram; sreg = s.sreg; rampz = h; sp = s.sp; pc = s.pc }

pub sram-bytes : (c : CpuState) (k v : ℕ) → v < 256 → HasBytes c → HasBytes (record c { sram = slice_set c.sram k v })
sram-bytes c k v h s = record { registers = s.registers; sram = set-bytes c.sram k v h s.sram; sreg = s.sreg; rampz = s.rampz; sp = s.sp; pc = s.pc }

pub with_pair-bytes : (c : CpuState) (d v : ℕ) → v < 65536 → HasBytes c → HasBytes (with_pair c d v)
with_pair-bytes c d v h s =
    with_register-bytes (with_register c d (v % 256)) (d + 1) (v / 256) (omega arith) (with_register-bytes c d (v % 256) (omega arith) s)

pub pair-below : (c : CpuState) (d : ℕ) → HasBytes c → pair_of c d < 65536
pair-below c d s = let low = s.registers d in let high = s.registers (d + 1) in omega (arith, low, high)

flags-below : (f : ℕ) (g : Flags) → f < 256 → with_flags f g < 256
flags-below f g h = grind arith

pub resulting-bytes : (c : CpuState) (d v : ℕ) (g : Flags) → v < 256 → HasBytes c → HasBytes (resulting c d v g).cpu
resulting-bytes c d v g h s = with_sreg-bytes _ _ (flags-below c.sreg g s.sreg) (with_register-bytes _ d v h (moved-bytes 1 c s))

pub wide-bytes : (c : CpuState) (d v : ℕ) (g : Flags) → v < 65536 → HasBytes c → HasBytes (resulting_wide c d v g).cpu
wide-bytes c d v g h s = with_sreg-bytes _ _ (flags-below c.sreg g s.sreg) (with_pair-bytes _ d v h (moved-bytes 1 c s))

pub flagging-bytes : (c : CpuState) (g : Flags) → HasBytes c → HasBytes (with_sreg (moved 1 c) (with_flags c.sreg g))
flagging-bytes c g s = with_sreg-bytes _ _ (flags-below c.sreg g s.sreg) (moved-bytes 1 c s)

-- a change by a test: in either case, or where the test is known
pub either-bytes : (b : Bool) (t u : Change) → HasBytes t.cpu → HasBytes u.cpu → HasBytes (if b then t else u).cpu
either-bytes true t u p q = p
either-bytes false t u p q = q

pub known-bytes : (b : Bool) (t u : Change) → (b ≡ true → HasBytes t.cpu) → HasBytes u.cpu → HasBytes (if b then t else u).cpu
known-bytes true t u p q = p refl
known-bytes false t u p q = q

pub stored-bytes : (old made : CpuState) (a v : ℕ) → v < 256 → HasBytes old → HasBytes made → HasBytes (stored old made a v).cpu
stored-bytes old made a v h p s =
    let sp = s.sp in
    either-bytes (nat_lt a 0x20) _ _ (with_register-bytes made a v h s)
    (either-bytes (a == 0x5B) _ _ (rampz-bytes made v h s)
    (either-bytes (a == 0x5D) _ _ (sp-bytes made _ (omega arith) s)
    (either-bytes (a == 0x5E) _ _ (sp-bytes made _ (omega arith) s)
    (either-bytes (a == 0x5F) _ _ (with_sreg-bytes made v h s)
    (either-bytes (nat_lt a 0x100) _ _ s
    (either-bytes (nat_lt a 0x1100) _ _ (sram-bytes made (a - 0x100) v h s) p))))))

pub loaded-bytes : (old made : CpuState) (d a : ℕ) → HasBytes old → HasBytes made → HasBytes (loaded old made d a).cpu
loaded-bytes old made d a p s =
    let sp = s.sp in
    either-bytes (nat_lt a 0x20) _ _ (with_register-bytes made d _ (s.registers a) s)
    (either-bytes (a == 0x5B) _ _ (with_register-bytes made d _ s.rampz s)
    (either-bytes (a == 0x5D) _ _ (with_register-bytes made d _ (omega arith) s)
    (either-bytes (a == 0x5E) _ _ (with_register-bytes made d _ (omega arith) s)
    (either-bytes (a == 0x5F) _ _ (with_register-bytes made d _ s.sreg s)
    (either-bytes (nat_lt a 0x100) _ _ s
    (either-bytes (nat_lt a 0x1100) _ _ (with_register-bytes made d _ (s.sram (a - 0x100)) s) p))))))

pub behind-bytes : (e : Effect) (d : ℕ) (c : CpuState) → HasBytes c → HasBytes (pointer_behind e d c)
behind-bytes Forbidden d c s = s
behind-bytes Next d c s = with_pair-bytes c d _ (omega arith) s
behind-bytes (ReadDevice a r) d c s = with_pair-bytes c d _ (omega arith) s
behind-bytes (WriteDevice a r) d c s = with_pair-bytes c d _ (omega arith) s
behind-bytes Sleep d c s = with_pair-bytes c d _ (omega arith) s
behind-bytes Halt d c s = with_pair-bytes c d _ (omega arith) s

pub pushed-bytes : (c : CpuState) (to : ℕ) → to < 65536 → HasBytes c → HasBytes (with_pushed c to)
pushed-bytes c to h s =
    let sp = s.sp in sp-bytes _ _ (omega arith) (sram-bytes _ _ _ (omega arith) (sram-bytes c _ _ (omega arith) s))

pub popped-bytes : (c : CpuState) → can_pop_two c.sp ≡ true → HasBytes c → HasBytes (with_popped c)
popped-bytes c h s =
    let high = s.sram (c.sp + 1 - 0x100) in
    let low = s.sram (c.sp + 2 - 0x100) in
    let fits : c.sp + 2 < 0x1100 = grind arith in
    at-bytes _ _ (omega (arith, high, low)) (sp-bytes c _ (omega arith) s)
