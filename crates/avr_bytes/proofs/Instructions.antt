-- Each instruction leaves bytes in a processor.
use Rattle.std.proofs.Common.{◌≡◌, ℕ, ◌+◌, ◌-◌, ◌*◌, ◌/◌, ◌%◌, ◌^◌, ◌<◌, Bool, true}
use Rattle.std.proofs.Common.{false, not, ◌&&◌, ◌==◌, List, arith}
use Rattle.std.proofs.Common.{nat_lt, nat_le, slice_set}
use Rattle.std.proofs.lemmas.Nat.{or_lt, xor_lt}
use Rattle.std.specs.Int.Bits.{and_lt}
use Rattle.avr_instr.specs.declared.instr.Instr.{Instr}
use Rattle.avr_instr.specs.declared.instr.Instr.TheVariants.{Adc, Add, Adiw, And, Andi, Asr, Brbc, Brbs, Call, Cli, Com, Cp, Cpc, Cpi, Dec, Eor}
use Rattle.avr_instr.specs.declared.instr.Instr.TheVariants.{Icall, Ijmp, In, Inc, Jmp, LdX, LdXPlus, LdMinusX, Ldd, Ldi, Lds, LpmZ, LpmZPlus, Lsr}
use Rattle.avr_instr.specs.declared.instr.Instr.TheVariants.{Mov, Movw, Mul, Neg, Nop, Or, Ori, Out, Pop, Push, Rcall, Ret, Reti, Rjmp, Ror, Sbc}
use Rattle.avr_instr.specs.declared.instr.Instr.TheVariants.{Sbci, Sbiw, Sei, Sleep, StX, StXPlus, StMinusX, Std, Sts, Sub, Subi}
use Rattle.avr_instr.specs.Spelled.{InRange}
use Rattle.avr_isa.specs.Cpu.{CpuState, is_enabled}
use Rattle.avr_isa.specs.Change.{moved, register_of, pair_of, with_pair, previous}
use Rattle.avr_isa.specs.Flags.{carry_of, sum_of, flags_of_sum, difference_of, flags_of_difference, sticky, flags_of_logic}
use Rattle.avr_isa.specs.Flags.{flags_of_complement, flags_of_count, flags_of_shift, flags_of_wide_sum, flags_of_wide_difference, sreg_of_product}
use Rattle.avr_isa.specs.Access.{displaced, stored, loaded, can_push_two, can_pop_two}
use Rattle.avr_isa.specs.Flow.{far_from, branched}
use Rattle.avr_isa.specs.Effect.{change, added, subtracted, subtracted_on, combined, shifted, counted}
use Rattle.avr_bytes.specs.Bytes.{IsFlash, HasBytes}
use Rattle.avr_bytes.proofs.Parts.{with_register-bytes, with_sreg-bytes, moved-bytes, at-bytes, sp-bytes, sram-bytes, with_pair-bytes, pair-below}
use Rattle.avr_bytes.proofs.Parts.{resulting-bytes, wide-bytes, flagging-bytes, either-bytes, known-bytes, stored-bytes, loaded-bytes, behind-bytes}
use Rattle.avr_bytes.proofs.Parts.{pushed-bytes, popped-bytes}

mul-below : (a b : ℕ) → a < 2 ^ 8 → b < 2 ^ 8 → a * b < 65536
mul-below a b h g = grind arith

product-below : (f p : ℕ) → f < 256 → p < 65536 → sreg_of_product f p < 256
product-below f p h g = grind arith

can-pop : (sp : ℕ) → (nat_le 0xFF sp && nat_lt (sp + 1) 0x1100) ≡ true → sp + 1 < 65536
can-pop sp h = grind arith

asr-below : (x : ℕ) → x < 2 ^ 8 → x / 2 + x / 128 * 128 < 256
asr-below x h = omega arith

half-below : (x : ℕ) → x < 2 ^ 8 → x / 2 < 256
half-below x h = omega arith

ror-below : (x f : ℕ) → x < 2 ^ 8 → x / 2 + carry_of f * 128 < 256
ror-below x f h = omega arith

module _ (flash : List ℕ) (in_flash : IsFlash flash) (c : CpuState) (s : HasBytes c) where
  r : (d : ℕ) → register_of c d < 2 ^ 8
  r d = s.registers d

  n1 : HasBytes (moved 1 c)
  n1 = moved-bytes 1 c s

  added-bytes : (d b carry : ℕ) → HasBytes (added c d b carry).cpu
  added-bytes d b carry = resulting-bytes c d (sum_of (register_of c d) b carry) (flags_of_sum (register_of c d) b carry) (omega arith) s

  subtracted-bytes : (d b : ℕ) → HasBytes (subtracted c d b).cpu
  subtracted-bytes d b = resulting-bytes c d (difference_of (register_of c d) b 0) (flags_of_difference (register_of c d) b 0) (omega arith) s

  subtracted_on-bytes : (d b : ℕ) → HasBytes (subtracted_on c d b).cpu
  subtracted_on-bytes d b =
      let borrow = carry_of c.sreg in
      resulting-bytes c d (difference_of (register_of c d) b borrow) (sticky c.sreg (flags_of_difference (register_of c d) b borrow)) (omega arith) s

  combined-bytes : (d v : ℕ) → v < 256 → HasBytes (combined c d v).cpu
  combined-bytes d v h = resulting-bytes c d v (flags_of_logic c.sreg v) h s

  shifted-bytes : (d v : ℕ) → v < 256 → HasBytes (shifted c d v).cpu
  shifted-bytes d v h = resulting-bytes c d v (flags_of_shift c.sreg (register_of c d) v) h s

  counted-bytes : (d v o : ℕ) → v < 256 → HasBytes (counted c d v o).cpu
  counted-bytes d v o h = resulting-bytes c d v (flags_of_count c.sreg v o) h s

  branched-bytes : (b : Bool) (k : ℕ) → HasBytes (branched c b k).cpu
  branched-bytes true k = at-bytes c _ (omega arith) s
  branched-bytes false k = n1

  -- by the rows, in the order of the AVR Instruction Set Manual
  pub change-bytes : (i : Instr) → InRange i → HasBytes (change flash i c).cpu
  change-bytes (Adc d t) h = added-bytes d (register_of c t) (carry_of c.sreg)
  change-bytes (Add d t) h = added-bytes d (register_of c t) 0
  change-bytes (Adiw d k) h = wide-bytes c d ((pair_of c d + k) % 65536) (flags_of_wide_sum c.sreg (pair_of c d) k) (omega arith) s
  change-bytes (And d t) h = combined-bytes d _ (and_lt 8 _ _ (r d) (r t))
  change-bytes (Andi d k) h = combined-bytes d _ (and_lt 8 _ _ (r d) h.1)
  change-bytes (Asr d) h = shifted-bytes d _ (let x = r d in asr-below (register_of c d) x)
  change-bytes (Brbc b k) h = branched-bytes _ k
  change-bytes (Brbs b k) h = branched-bytes _ k
  change-bytes (Call k) h = either-bytes (can_push_two c.sp) _ _ (at-bytes _ k h (pushed-bytes c _ (omega arith) s)) s
  change-bytes Cli h = with_sreg-bytes _ _ (let x = s.sreg in omega arith) n1
  change-bytes (Com d) h = resulting-bytes c d (255 - register_of c d) (flags_of_complement c.sreg (255 - register_of c d)) (omega arith) s
  change-bytes (Cp d t) h = flagging-bytes c (flags_of_difference (register_of c d) (register_of c t) 0) s
  change-bytes (Cpc d t) h = flagging-bytes c (sticky c.sreg (flags_of_difference (register_of c d) (register_of c t) (carry_of c.sreg))) s
  change-bytes (Cpi d k) h = flagging-bytes c (flags_of_difference (register_of c d) k 0) s
  change-bytes (Dec d) h = counted-bytes d ((register_of c d + 255) % 256) 0x7F (omega arith)
  change-bytes (Eor d t) h = combined-bytes d _ (xor_lt 8 _ _ (r d) (r t))
  change-bytes Icall h = either-bytes (can_push_two c.sp) _ _ (at-bytes _ _ (pair-below c 30 s) (pushed-bytes c _ (omega arith) s)) s
  change-bytes Ijmp h = at-bytes c _ (pair-below c 30 s) s
  change-bytes (In d a) h = loaded-bytes c (moved 1 c) d (a + 0x20) s n1
  change-bytes (Inc d) h = counted-bytes d ((register_of c d + 1) % 256) 0x80 (omega arith)
  change-bytes (Jmp k) h = either-bytes ((k == c.pc) && not (is_enabled c.sreg)) _ _ s (at-bytes c k h s)
  change-bytes (LdX d) h = loaded-bytes c (moved 1 c) d (pair_of c 26) s n1
  change-bytes (LdXPlus d) h =
      let m = loaded c (moved 1 c) d (pair_of c 26) in
      behind-bytes m.effect 26 m.cpu (loaded-bytes c (moved 1 c) d (pair_of c 26) s n1)
  change-bytes (LdMinusX d) h =
      let x = previous (pair_of c 26) in
      loaded-bytes c (with_pair (moved 1 c) 26 x) d x s (with_pair-bytes (moved 1 c) 26 x (omega arith) n1)
  change-bytes (Ldd d b q) h = loaded-bytes c (moved 1 c) d (displaced c b q) s n1
  change-bytes (Ldi d k) h = with_register-bytes _ d k h.1 n1
  change-bytes (Lds d k) h = loaded-bytes c (moved 2 c) d k s (moved-bytes 2 c s)
  change-bytes (LpmZ d) h = with_register-bytes _ d _ (in_flash _) n1
  change-bytes (LpmZPlus d) h = with_pair-bytes _ 30 _ (omega arith) (with_register-bytes _ d _ (in_flash _) n1)
  change-bytes (Lsr d) h = shifted-bytes d _ (let x = r d in half-below (register_of c d) x)
  change-bytes (Mov d t) h = with_register-bytes _ d _ (r t) n1
  change-bytes (Movw d t) h = with_register-bytes _ (d + 1) _ (r (t + 1)) (with_register-bytes _ d _ (r t) n1)
  change-bytes (Mul d t) h = let p = mul-below _ _ (r d) (r t) in with_sreg-bytes _ _ (product-below c.sreg _ s.sreg p) (with_pair-bytes _ 0 _ (omega arith) n1)
  change-bytes (Neg d) h = resulting-bytes c d (difference_of 0 (register_of c d) 0) (flags_of_difference 0 (register_of c d) 0) (omega arith) s
  change-bytes Nop h = n1
  change-bytes (Or d t) h = combined-bytes d _ (or_lt 8 _ _ (r d) (r t))
  change-bytes (Ori d k) h = combined-bytes d _ (or_lt 8 _ _ (r d) h.1)
  change-bytes (Out a t) h = stored-bytes c (moved 1 c) (a + 0x20) (register_of c t) (r t) s n1
  change-bytes (Pop d) h =
      known-bytes (nat_le 0xFF c.sp && nat_lt (c.sp + 1) 0x1100) _ _
      (λ ok. with_register-bytes _ d _ (s.sram (c.sp + 1 - 0x100)) (sp-bytes (moved 1 c) _ (can-pop c.sp ok) n1)) s
  change-bytes (Push t) h =
      let sp = s.sp in
      either-bytes (nat_le 0x100 c.sp && nat_lt c.sp 0x1100) _ _
      (sp-bytes (record (moved 1 c) { sram = slice_set c.sram (c.sp - 0x100) (register_of c t) }) (c.sp - 1) (omega arith)
      (sram-bytes (moved 1 c) (c.sp - 0x100) (register_of c t) (r t) n1)) s
  change-bytes (Rcall k) h = either-bytes (can_push_two c.sp) _ _ (at-bytes _ _ (omega arith) (pushed-bytes c _ (omega arith) s)) s
  change-bytes Ret h = known-bytes (can_pop_two c.sp) _ _ (λ ok. popped-bytes c ok s) s
  change-bytes Reti h = known-bytes (can_pop_two c.sp) _ _ (λ ok. with_sreg-bytes _ _ (omega arith) (popped-bytes c ok s)) s
  change-bytes (Rjmp k) h = either-bytes ((far_from c.pc k == c.pc) && not (is_enabled c.sreg)) _ _ s (at-bytes c _ (omega arith) s)
  change-bytes (Ror d) h = shifted-bytes d _ (let x = r d in ror-below (register_of c d) c.sreg x)
  change-bytes (Sbc d t) h = subtracted_on-bytes d (register_of c t)
  change-bytes (Sbci d k) h = subtracted_on-bytes d k
  change-bytes (Sbiw d k) h = wide-bytes c d ((pair_of c d + 65536 - k) % 65536) (flags_of_wide_difference c.sreg (pair_of c d) k) (omega arith) s
  change-bytes Sei h = with_sreg-bytes _ _ (omega arith) n1
  change-bytes Sleep h = either-bytes (is_enabled c.sreg) _ _ s n1
  change-bytes (StX t) h = stored-bytes c (moved 1 c) (pair_of c 26) (register_of c t) (r t) s n1
  change-bytes (StXPlus t) h =
      let m = stored c (moved 1 c) (pair_of c 26) (register_of c t) in
      behind-bytes m.effect 26 m.cpu (stored-bytes c (moved 1 c) (pair_of c 26) (register_of c t) (r t) s n1)
  change-bytes (StMinusX t) h =
      let x = previous (pair_of c 26) in
      stored-bytes c (with_pair (moved 1 c) 26 x) x (register_of c t) (r t) s (with_pair-bytes (moved 1 c) 26 x (omega arith) n1)
  change-bytes (Std b q t) h = stored-bytes c (moved 1 c) (displaced c b q) (register_of c t) (r t) s n1
  change-bytes (Sts k t) h = stored-bytes c (moved 2 c) k (register_of c t) (r t) s (moved-bytes 2 c s)
  change-bytes (Sub d t) h = subtracted-bytes d (register_of c t)
  change-bytes (Subi d k) h = subtracted-bytes d k
