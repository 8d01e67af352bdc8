-- Instructions that touch registers and flags alone do on the processor what they do on what the code sees of it.
use Rattle.std.proofs.Common.{◌≡◌, ◌≢◌, ℕ, ◌+◌, ◌-◌, ◌*◌, ◌/◌, ◌%◌, ◌^◌, ◌<◌, Bool, true, false, ◌&&◌, ◌==◌, if◌then◌else◌, List}
use Rattle.std.proofs.Common.{refl, sym, ap, ◌∙◌, subst, arith, slice_index, slice_set, nat_le}
use Rattle.std.specs.Prelude.{bit_and, bit_or, bit_xor}
use Rattle.std.proofs.lemmas.List.{get_or-set_same, get_or-set_other, length-set}
use Rattle.avr_instr.specs.declared.instr.Instr.{Instr}
use Rattle.avr_instr.specs.declared.instr.Instr.TheVariants.{Adc, Add, Adiw, And, Andi, Asr, Com, Cp, Cpc, Cpi, Dec, Eor, Inc, Ldi, LpmZ, LpmZPlus}
use Rattle.avr_instr.specs.declared.instr.Instr.TheVariants.{Lsr, Mov, Movw, Mul, Neg, Nop, Or, Ori, Ror, Sbc, Sbci, Sbiw, Sub, Subi}
use Rattle.avr_instr.specs.Spelled.{InRange}
use Rattle.avr_isa.specs.declared.flags.Flags.{Flags}
use Rattle.avr_isa.specs.declared.stack.StackUse.TheVariants.{Nothing}
use Rattle.avr_isa.specs.Cpu.{CpuState, flash_byte, forward}
use Rattle.avr_isa.specs.Change.{going, register_of, pair_of}
use Rattle.avr_isa.specs.Flags.{number, is_set, carry_of, with_flags, sum_of, flags_of_sum, difference_of, flags_of_difference, sticky, flags_of_logic}
use Rattle.avr_isa.specs.Flags.{flags_of_count, flags_of_shift, flags_of_wide_sum, flags_of_wide_difference, sreg_of_product}
use Rattle.avr_isa.specs.Effect.{change}
use Rattle.avr_isa.specs.Stack.{stack_use}
use Rattle.avr_isa.specs.Standing.{width}
use Rattle.avr_bytes.specs.Bytes.{HasBytes}
use Rattle.avr_view.specs.Registers.{Regs, Shows, put, flagged, result, pair, put_pair, carried, sticky_zero, old_half, old_carries, does, IsPlain}

pub shows_put : (r : Regs) (rs : List ℕ) (f d v : ℕ) → d < 32 → Shows r rs f → Shows (put r d v) (slice_set rs d v) f
shows_put r rs f d v h s = record { count = length-set rs d v ∙ s.count; each = λ n. at n (n == d) refl; flags = s.flags }
  where
    same : (n : ℕ) → (n == d) ≡ true → slice_index (slice_set rs d v) n ≡ v
    same n e = let q : n ≡ d = grind arith in ap (slice_index (slice_set rs d v)) q ∙ get_or-set_same rs d v 0 (omega (arith, s.count))

    at : (n : ℕ) (b : Bool) → (n == d) ≡ b → n < 32 → slice_index (slice_set rs d v) n ≡ (if b then v else r.of n)
    at n true e low = same n e
    at n false e low = let q : n ≢ d = grind arith in get_or-set_other rs d n v 0 q ∙ s.each n low

-- a value that is the same
pub shows_same : (r : Regs) (rs : List ℕ) (f d v w : ℕ) → d < 32 → v ≡ w → Shows r rs f → Shows (put r d w) (slice_set rs d v) f
shows_same r rs f d v w h e s = subst (λ x. Shows (put r d w) (slice_set rs d x) f) (sym e) (shows_put r rs f d w h s)

pub shows_pair : (r : Regs) (rs : List ℕ) (f d v w : ℕ) → d + 1 < 32 → v ≡ w → Shows r rs f
    → Shows (put_pair r d w) (slice_set (slice_set rs d (v % 256)) (d + 1) (v / 256)) f
shows_pair r rs f d v w h e s =
    shows_same (put r d (w % 256)) (slice_set rs d (v % 256)) f (d + 1) (v / 256) (w / 256) h (ap (λ x. x / 256) e)
    (shows_same r rs f d (v % 256) (w % 256) (omega arith) (ap (λ x. x % 256) e) s)

pub pair_shown : (r : Regs) (rs : List ℕ) (f d : ℕ) → d + 1 < 32 → Shows r rs f → slice_index rs d + 256 * slice_index rs (d + 1) ≡ pair r d
pair_shown r rs f d h s = let low = s.each d (omega arith) in let high = s.each (d + 1) h in omega (arith, low, high)

-- the bits of SREG that the flags make
carry_with : (g : Flags) → carry_of (with_flags 0 g) ≡ number g.carry
carry_with g = grind arith

pub carry_set : (g : Flags) → is_set 0 (with_flags 0 g) ≡ g.carry
carry_set g = grind arith

pub zero_set : (g : Flags) → is_set 1 (with_flags 0 g) ≡ g.zero
zero_set g = grind arith

half_set : (g : Flags) → is_set 5 (with_flags 0 g) ≡ g.half_carry
half_set g = grind arith

flags_again : (g h : Flags) → with_flags (with_flags 0 g) h ≡ with_flags 0 h
flags_again g h = grind arith

product_flags : (g : Flags) (p : ℕ) → p < 65536 → sreg_of_product (with_flags 0 g) p ≡ with_flags 0 (record g { zero = p == 0; carry = nat_le 0x8000 p })
product_flags g p h = grind arith

product_below : (a b : ℕ) → a < 2 ^ 8 → b < 2 ^ 8 → a * b < 65536
product_below a b h g = grind arith

shows_flags : (r : Regs) (rs : List ℕ) (f : ℕ) (g h : Flags) → g ≡ h → Shows r rs f → Shows (flagged r h) rs (with_flags f g)
shows_flags r rs f g h e s =
    record { count = s.count; each = s.each; flags = ap (λ x. with_flags x g) s.flags ∙ flags_again r.flags g ∙ ap (with_flags 0) e }

same3 : {A : Type 0} (f : ℕ → ℕ → ℕ → A) (a b c x y z : ℕ) → a ≡ x → b ≡ y → c ≡ z → f a b c ≡ f x y z
same3 f a b c x y z p q t = ap (λ n. f n b c) p ∙ ap (λ n. f x n c) q ∙ ap (λ n. f x y n) t

-- what a plain instruction makes of the processor
pub record Did (flash : List ℕ) (i : Instr) (cpu : CpuState) (after : Regs) : Type 0 where
  pub registers : List ℕ
  pub sreg : ℕ
  pub made : change flash i cpu ≡ going (record cpu { registers = registers; sreg = sreg; pc = forward 1 cpu.pc })
  pub shows : Shows after registers sreg
  pub nothing : stack_use i cpu ≡ Nothing
  pub narrow : width i ≡ 1

module _ (flash : List ℕ) (cpu : CpuState) (r : Regs) (s : Shows r cpu.registers cpu.sreg) (b : HasBytes cpu) where
  carry : carry_of cpu.sreg ≡ carried r
  carry = ap carry_of s.flags ∙ carry_with r.flags

  -- flags of which some stay
  stuck : (f g : Flags) → f ≡ g → sticky cpu.sreg f ≡ sticky_zero r g
  stuck f g e = ap (sticky cpu.sreg) e ∙ ap (λ x. record g { zero = g.zero && x }) (ap (is_set 1) s.flags ∙ zero_set r.flags)

  half : is_set 5 cpu.sreg ≡ r.flags.half_carry
  half = ap (is_set 5) s.flags ∙ half_set r.flags

  logic : (v w : ℕ) → v ≡ w → flags_of_logic cpu.sreg v ≡ old_carries r (flags_of_logic 0 w)
  logic v w e =
      ap (flags_of_logic cpu.sreg) e
      ∙ ap (λ x. record (flags_of_logic 0 w) { half_carry = x; carry = is_set 0 cpu.sreg }) half
      ∙ ap (λ x. record (flags_of_logic 0 w) { half_carry = r.flags.half_carry; carry = x }) (ap (is_set 0) s.flags ∙ carry_set r.flags)

  -- a value with its flags
  resulting : (d v w : ℕ) (f g : Flags) → d < 32 → v ≡ w → f ≡ g → Shows (result r d w g) (slice_set cpu.registers d v) (with_flags cpu.sreg f)
  resulting d v w f g h e q =
      shows_flags (put r d w) (slice_set cpu.registers d v) cpu.sreg f g q (shows_same r cpu.registers cpu.sreg d v w h e s)

  did_result : (i : Instr) (d v w : ℕ) (f g : Flags) → d < 32 → v ≡ w → f ≡ g
      → change flash i cpu ≡ going (record cpu { registers = slice_set cpu.registers d v; sreg = with_flags cpu.sreg f; pc = forward 1 cpu.pc })
      → stack_use i cpu ≡ Nothing → width i ≡ 1 → Did flash i cpu (result r d w g)
  did_result i d v w f g h e q made nothing narrow =
      record { registers = _; sreg = _; made = made; shows = resulting d v w f g h e q; nothing = nothing; narrow = narrow }

  did_flags : (i : Instr) (f g : Flags) → f ≡ g
      → change flash i cpu ≡ going (record cpu { sreg = with_flags cpu.sreg f; pc = forward 1 cpu.pc })
      → stack_use i cpu ≡ Nothing → width i ≡ 1 → Did flash i cpu (flagged r g)
  did_flags i f g q made nothing narrow =
      record { registers = _; sreg = _; made = made; shows = shows_flags r cpu.registers cpu.sreg f g q s; nothing = nothing; narrow = narrow }

  did_combine : (i : Instr) (d v w : ℕ) → d < 32 → v ≡ w
      → change flash i cpu
      ≡ going (record cpu { registers = slice_set cpu.registers d v; sreg = with_flags cpu.sreg (flags_of_logic cpu.sreg v); pc = forward 1 cpu.pc })
      → stack_use i cpu ≡ Nothing → width i ≡ 1 → Did flash i cpu (result r d w (old_carries r (flags_of_logic 0 w)))
  did_combine i d v w h e = did_result i d v w _ _ h e (logic v w e)

  shift_flags : (a v c w : ℕ) → a ≡ c → v ≡ w → flags_of_shift cpu.sreg a v ≡ old_half r (flags_of_shift 0 c w)
  shift_flags a v c w p q =
      ap (λ x. flags_of_shift cpu.sreg x v) p ∙ ap (flags_of_shift cpu.sreg c) q ∙ ap (λ x. record (flags_of_shift 0 c w) { half_carry = x }) half

  count_flags : (v w o : ℕ) → v ≡ w → flags_of_count cpu.sreg v o ≡ old_carries r (flags_of_count 0 w o)
  count_flags v w o e = ap (λ (x : Flags). record x { overflow = v == o }) (logic v w e)
      ∙ ap (λ x. record (old_carries r (flags_of_logic 0 w)) { overflow = x == o }) e

  at : (d : ℕ) → d < 32 → slice_index cpu.registers d ≡ r.of d
  at = s.each

  pointer : (d : ℕ) → d + 1 < 32 → pair_of cpu d ≡ pair r d
  pointer d h = pair_shown r cpu.registers cpu.sreg d h s

  -- by the rows, in the order of the AVR Instruction Set Manual
  pub did : (i : Instr) → InRange i → IsPlain i → Did flash i cpu (does flash i r)
  did (Adc d t) h p =
      did_result (Adc d t) d _ _ _ _ h.0 (same3 sum_of _ _ _ _ _ _ (at d h.0) (at t h.1) carry) (same3 flags_of_sum _ _ _ _ _ _ (at d h.0) (at t h.1) carry)
      refl refl refl
  did (Add d t) h p =
      did_result (Add d t) d _ _ _ _ h.0 (same3 sum_of _ _ _ _ _ _ (at d h.0) (at t h.1) refl) (same3 flags_of_sum _ _ _ _ _ _ (at d h.0) (at t h.1) refl)
      refl refl refl
  did (Adiw d k) h p =
      let q = pointer d (omega (arith, h)) in
      let flags : flags_of_wide_sum cpu.sreg (pair_of cpu d) k ≡ old_half r (flags_of_wide_sum 0 (pair r d) k) =
      ap (λ n. flags_of_wide_sum cpu.sreg n k) q ∙ ap (λ x. record (flags_of_wide_sum 0 (pair r d) k) { half_carry = x }) half in
      record {
        registers = _;
        sreg = _;
        made = refl;
        shows = shows_flags _ _ cpu.sreg _ _ flags (shows_pair r cpu.registers cpu.sreg d _ _ (omega (arith, h)) (ap (λ n. (n + k) % 65536) q) s);
        nothing = refl;
        narrow = refl;
      }
  did (And d t) h p = did_combine (And d t) d _ _ h.0 (ap (λ n. bit_and n (register_of cpu t)) (at d h.0) ∙ ap (bit_and (r.of d)) (at t h.1)) refl refl refl
  did (Andi d k) h p = did_combine (Andi d k) d _ _ h.0.1 (ap (λ n. bit_and n k) (at d h.0.1)) refl refl refl
  did (Asr d) h p =
      let v = ap (λ n. n / 2 + n / 128 * 128) (at d h) in did_result (Asr d) d _ _ _ _ h v (shift_flags _ _ _ _ (at d h) v) refl refl refl
  did (Com d) h p =
      let v = ap (λ n. 255 - n) (at d h) in
      did_result (Com d) d _ _ _ _ h v (ap (λ (x : Flags). record x { carry = true }) (logic _ _ v)) refl refl refl
  did (Cp d t) h p = did_flags (Cp d t) _ _ (same3 flags_of_difference _ _ _ _ _ _ (at d h.0) (at t h.1) refl) refl refl refl
  did (Cpc d t) h p = did_flags (Cpc d t) _ _ (stuck _ _ (same3 flags_of_difference _ _ _ _ _ _ (at d h.0) (at t h.1) carry)) refl refl refl
  did (Cpi d k) h p = did_flags (Cpi d k) _ _ (ap (λ n. flags_of_difference n k 0) (at d h.0.1)) refl refl refl
  did (Dec d) h p =
      let v = ap (λ n. (n + 255) % 256) (at d h) in did_result (Dec d) d _ _ _ _ h v (count_flags _ _ 0x7F v) refl refl refl
  did (Eor d t) h p = did_combine (Eor d t) d _ _ h.0 (ap (λ n. bit_xor n (register_of cpu t)) (at d h.0) ∙ ap (bit_xor (r.of d)) (at t h.1)) refl refl refl
  did (Inc d) h p =
      let v = ap (λ n. (n + 1) % 256) (at d h) in did_result (Inc d) d _ _ _ _ h v (count_flags _ _ 0x80 v) refl refl refl
  did (Ldi d k) h p =
      record { registers = _; sreg = _; made = refl; shows = shows_put r cpu.registers cpu.sreg d k h.0.1 s; nothing = refl; narrow = refl }
  did (LpmZ d) h p =
      record {
        registers = _;
        sreg = _;
        made = refl;
        shows = shows_same r cpu.registers cpu.sreg d _ _ h (ap (flash_byte flash) (pointer 30 (omega arith))) s;
        nothing = refl;
        narrow = refl;
      }
  did (LpmZPlus d) h p =
      let x = flash_byte flash (pair r 30) in
      let loaded = shows_same r cpu.registers cpu.sreg d _ _ (omega (arith, h)) (ap (flash_byte flash) (pointer 30 (omega arith))) s in
      let z = pair_shown (put r d x) _ cpu.sreg 30 (omega arith) loaded in
      record {
        registers = _;
        sreg = _;
        made = refl;
        shows = shows_pair (put r d x) _ cpu.sreg 30 _ _ (omega arith) (ap (λ n. (n + 1) % 65536) z) loaded;
        nothing = refl;
        narrow = refl;
      }
  did (Lsr d) h p = let v = ap (λ n. n / 2) (at d h) in did_result (Lsr d) d _ _ _ _ h v (shift_flags _ _ _ _ (at d h) v) refl refl refl
  did (Mov d t) h p =
      record { registers = _; sreg = _; made = refl; shows = shows_same r cpu.registers cpu.sreg d _ _ h.0 (at t h.1) s; nothing = refl; narrow = refl }
  did (Movw d t) h p =
      let low = shows_same r cpu.registers cpu.sreg d _ _ h.0.0 (at t h.1.0) s in
      record {
        registers = _;
        sreg = _;
        made = refl;
        shows = shows_same (put r d (r.of t)) _ cpu.sreg (d + 1) _ _ (omega (arith, h.0)) (at (t + 1) (omega (arith, h.1))) low;
        nothing = refl;
        narrow = refl;
      }
  did (Mul d t) h p =
      let q : register_of cpu d * register_of cpu t ≡ r.of d * r.of t = ap (λ n. n * register_of cpu t) (at d h.0) ∙ ap (λ n. r.of d * n) (at t h.1) in
      let small = product_below _ _ (b.registers d) (b.registers t) in
      let put_it = shows_pair r cpu.registers cpu.sreg 0 _ _ (omega arith) q s in
      record {
        registers = _;
        sreg = _;
        made = refl;
        shows =
            record {
              count = put_it.count;
              each = put_it.each;
              flags =
                  ap (λ x. sreg_of_product x (register_of cpu d * register_of cpu t)) s.flags
                  ∙ product_flags r.flags _ small
                  ∙ ap (λ x. with_flags 0 (record r.flags { zero = x == 0; carry = nat_le 0x8000 x })) q;
            };
        nothing = refl;
        narrow = refl;
      }
  did (Neg d) h p = did_result (Neg d) d _ _ _ _ h (ap (λ n. difference_of 0 n 0) (at d h)) (ap (λ n. flags_of_difference 0 n 0) (at d h)) refl refl refl
  did Nop h p = record { registers = _; sreg = _; made = refl; shows = s; nothing = refl; narrow = refl }
  did (Or d t) h p = did_combine (Or d t) d _ _ h.0 (ap (λ n. bit_or n (register_of cpu t)) (at d h.0) ∙ ap (bit_or (r.of d)) (at t h.1)) refl refl refl
  did (Ori d k) h p = did_combine (Ori d k) d _ _ h.0.1 (ap (λ n. bit_or n k) (at d h.0.1)) refl refl refl
  did (Ror d) h p =
      let v = ap (λ n. n / 2 + carry_of cpu.sreg * 128) (at d h) ∙ ap (λ n. r.of d / 2 + n * 128) carry in
      did_result (Ror d) d _ _ _ _ h v (shift_flags _ _ _ _ (at d h) v) refl refl refl
  did (Sbc d t) h p =
      did_result (Sbc d t) d _ _ _ _ h.0 (same3 difference_of _ _ _ _ _ _ (at d h.0) (at t h.1) carry)
      (stuck _ _ (same3 flags_of_difference _ _ _ _ _ _ (at d h.0) (at t h.1) carry)) refl refl refl
  did (Sbci d k) h p =
      did_result (Sbci d k) d _ _ _ _ h.0.1 (same3 difference_of _ _ _ _ _ _ (at d h.0.1) refl carry)
      (stuck _ _ (same3 flags_of_difference _ _ _ _ _ _ (at d h.0.1) refl carry)) refl refl refl
  did (Sbiw d k) h p =
      let q = pointer d (omega (arith, h)) in
      let flags : flags_of_wide_difference cpu.sreg (pair_of cpu d) k ≡ old_half r (flags_of_wide_difference 0 (pair r d) k) =
      ap (λ n. flags_of_wide_difference cpu.sreg n k) q ∙ ap (λ x. record (flags_of_wide_difference 0 (pair r d) k) { half_carry = x }) half in
      record {
        registers = _;
        sreg = _;
        made = refl;
        shows = shows_flags _ _ cpu.sreg _ _ flags (shows_pair r cpu.registers cpu.sreg d _ _ (omega (arith, h)) (ap (λ n. (n + 65536 - k) % 65536) q) s);
        nothing = refl;
        narrow = refl;
      }
  did (Sub d t) h p =
      did_result (Sub d t) d _ _ _ _ h.0 (same3 difference_of _ _ _ _ _ _ (at d h.0) (at t h.1) refl)
      (same3 flags_of_difference _ _ _ _ _ _ (at d h.0) (at t h.1) refl) refl refl refl
  did (Subi d k) h p =
      did_result (Subi d k) d _ _ _ _ h.0.1 (ap (λ n. difference_of n k 0) (at d h.0.1)) (ap (λ n. flags_of_difference n k 0) (at d h.0.1)) refl refl refl
  did _ h p = absurd p
