-- Jumps, branches and stops.
use Rattle.std.proofs.Common.{◌≡◌, ◌≢◌, ℕ, ◌+◌, ◌<◌, Bool, true, false, not, ◌&&◌, ◌==◌, if◌then◌else◌, Some, refl, sym, ap}
use Rattle.std.proofs.Common.{◌∙◌, subst, arith}
use Rattle.avr_instr.specs.declared.instr.Instr.{Instr}
use Rattle.avr_instr.specs.declared.instr.Instr.TheVariants.{Brbc, Brbs, Ijmp, Jmp, Rjmp}
use Rattle.avr_isa.specs.declared.effect.Effect.TheVariants.{Halt}
use Rattle.avr_isa.specs.declared.ending.MachineEnd.TheVariants.{Stop}
use Rattle.avr_isa.specs.declared.stack.StackUse.{StackUse}
use Rattle.avr_isa.specs.declared.stack.StackUse.TheVariants.{Nothing}
use Rattle.avr_isa.specs.Cpu.{forward, is_enabled}
use Rattle.avr_isa.specs.Change.{Change, going, staying, register_of, pair_of}
use Rattle.avr_isa.specs.Flags.{is_set, differ, with_flags}
use Rattle.avr_isa.specs.Flow.{jumped, branched, near_from, far_from}
use Rattle.avr_isa.specs.Effect.{change}
use Rattle.avr_isa.specs.Machine.{State, done, word_here}
use Rattle.avr_isa.specs.Stack.{stack_use, lowest_by, lowest_behind}
use Rattle.avr_isa.specs.Standing.{StandsAt}
use Rattle.avr_isa.proofs.Runs.{going_on}
use Rattle.avr_isa.specs.declared.flags.Flags.{Flags}
use Rattle.avr_view.specs.Registers.{pair}
use Rattle.avr_view.specs.Run.{Run, StoresWithin, Goes, Ended}
use Rattle.avr_view.specs.View.{View, At}
use Rattle.avr_view.proofs.Going.{goes_one}
use Rattle.avr_view.proofs.Rows.{carry_set, zero_set}
use Rattle.avr_view.proofs.Steps.{opened, here, off, is_quiet, pair_is, one_level}

elsewhere : (to pc : ℕ) → to ≢ pc → (to == pc) ≡ false
elsewhere to pc h = grind arith

itself : (p : ℕ) → p < 65536 → (far_from p 0xFFF == p) ≡ true
itself p h = grind arith

same_place : (p : ℕ) → (p == p) ≡ true
same_place p = grind arith

pub negative_set : (g : Flags) → is_set 2 (with_flags 0 g) ≡ g.negative
negative_set g = grind arith

pub sign_set : (g : Flags) → is_set 4 (with_flags 0 g) ≡ differ g.negative g.overflow
sign_set g = grind arith

module _ (e : Run) (deep : Type 0) (pc : ℕ) (v : View) (s : State) (a : At e pc v s) where
  one_jump : (i : Instr) (to to' : ℕ) → StandsAt e.flash pc i → change e.flash i s.cpu ≡ jumped s.cpu to' → stack_use i s.cpu ≡ Nothing → to' ≡ to
      → to ≢ pc → Goes e deep 1 s (At e to v)
  one_jump i to to' at is nothing same away =
      let cpu = s.cpu in
      let test : (to' == cpu.pc) ≡ false = ap (λ n. n == cpu.pc) same ∙ ap (λ n. to == n) a.place ∙ elsewhere to pc away in
      one_level e deep pc v s a i (record cpu { pc = to' }) v to at (subst (StoresWithin e cpu.sp) (sym nothing) tt) refl
      (is ∙ ap (λ b. if b && not (is_enabled cpu.sreg) then staying cpu Halt else going (record cpu { pc = to' })) test)
      (ap (λ u. lowest_by u cpu.sp s.lowest) nothing) same a.shows a.memory refl (omega arith)

  -- JMP elsewhere
  pub goes_jmp : (to : ℕ) → StandsAt e.flash pc (Jmp to) → to ≢ pc → Goes e deep 1 s (At e to v)
  goes_jmp to at away = one_jump (Jmp to) to to at refl refl refl away

  -- RJMP elsewhere
  pub goes_rjmp : (k : ℕ) → StandsAt e.flash pc (Rjmp k) → far_from pc k ≢ pc → Goes e deep 1 s (At e (far_from pc k) v)
  goes_rjmp k at away = one_jump (Rjmp k) (far_from pc k) (far_from s.cpu.pc k) at refl refl (ap (λ n. far_from n k) a.place) away

  -- IJMP
  pub goes_ijmp : StandsAt e.flash pc Ijmp → Goes e deep 1 s (At e (pair v.regs 30) v)
  goes_ijmp at =
      one_level e deep pc v s a Ijmp (record s.cpu { pc = pair_of s.cpu 30 }) v (pair v.regs 30) at tt refl refl refl
      (pair_is e deep pc v s a 30 (omega arith)) a.shows a.memory refl (omega arith)

  one_branch : (i : Instr) (k : ℕ) (taken : Bool) → StandsAt e.flash pc i → change e.flash i s.cpu ≡ branched s.cpu taken k → stack_use i s.cpu ≡ Nothing
      → pc + 1 < 65536 → Goes e deep 1 s (At e (if taken then near_from pc k else pc + 1) v)
  one_branch i k true at is nothing room =
      one_level e deep pc v s a i (record s.cpu { pc = near_from s.cpu.pc k }) v (near_from pc k) at (subst (StoresWithin e s.cpu.sp) (sym nothing) tt) refl
      is (ap (λ u. lowest_by u s.cpu.sp s.lowest) nothing) (ap (λ n. near_from n k) a.place) a.shows a.memory refl (omega arith)
  one_branch i k false at is nothing room =
      one_level e deep pc v s a i (record s.cpu { pc = forward 1 s.cpu.pc }) v (pc + 1) at (subst (StoresWithin e s.cpu.sp) (sym nothing) tt) refl
      is (ap (λ u. lowest_by u s.cpu.sp s.lowest) nothing) (omega (arith, a.place)) a.shows a.memory refl (omega arith)

  -- BRBS and BRBC, by the bit of SREG that they look at
  pub goes_brbs : (bit k : ℕ) (flag : Bool) → StandsAt e.flash pc (Brbs bit k) → is_set bit (with_flags 0 v.regs.flags) ≡ flag → pc + 1 < 65536
      → Goes e deep 1 s (At e (if flag then near_from pc k else pc + 1) v)
  goes_brbs bit k flag at is room =
      one_branch (Brbs bit k) k flag at (ap (λ b. branched s.cpu b k) (ap (is_set bit) a.shows.flags ∙ is)) refl room

  pub goes_brbc : (bit k : ℕ) (flag : Bool) → StandsAt e.flash pc (Brbc bit k) → is_set bit (with_flags 0 v.regs.flags) ≡ flag → pc + 1 < 65536
      → Goes e deep 1 s (At e (if not flag then near_from pc k else pc + 1) v)
  goes_brbc bit k flag at is room =
      one_branch (Brbc bit k) k (not flag) at (ap (λ b. branched s.cpu (not b) k) (ap (is_set bit) a.shows.flags ∙ is)) refl room

  -- BRCS and BRCC, BREQ and BRNE, BRMI and BRPL, BRLT and BRGE
  pub goes_brcs : (k : ℕ) → StandsAt e.flash pc (Brbs 0 k) → pc + 1 < 65536 → Goes e deep 1 s (At e (if v.regs.flags.carry then near_from pc k else pc + 1) v)
  goes_brcs k at room = goes_brbs 0 k v.regs.flags.carry at (carry_set v.regs.flags) room

  pub goes_brcc : (k : ℕ) → StandsAt e.flash pc (Brbc 0 k) → pc + 1 < 65536
      → Goes e deep 1 s (At e (if not v.regs.flags.carry then near_from pc k else pc + 1) v)
  goes_brcc k at room = goes_brbc 0 k v.regs.flags.carry at (carry_set v.regs.flags) room

  pub goes_breq : (k : ℕ) → StandsAt e.flash pc (Brbs 1 k) → pc + 1 < 65536 → Goes e deep 1 s (At e (if v.regs.flags.zero then near_from pc k else pc + 1) v)
  goes_breq k at room = goes_brbs 1 k v.regs.flags.zero at (zero_set v.regs.flags) room

  pub goes_brne : (k : ℕ) → StandsAt e.flash pc (Brbc 1 k) → pc + 1 < 65536
      → Goes e deep 1 s (At e (if not v.regs.flags.zero then near_from pc k else pc + 1) v)
  goes_brne k at room = goes_brbc 1 k v.regs.flags.zero at (zero_set v.regs.flags) room

  pub goes_brmi : (k : ℕ) → StandsAt e.flash pc (Brbs 2 k) → pc + 1 < 65536
      → Goes e deep 1 s (At e (if v.regs.flags.negative then near_from pc k else pc + 1) v)
  goes_brmi k at room = goes_brbs 2 k v.regs.flags.negative at (negative_set v.regs.flags) room

  pub goes_brpl : (k : ℕ) → StandsAt e.flash pc (Brbc 2 k) → pc + 1 < 65536
      → Goes e deep 1 s (At e (if not v.regs.flags.negative then near_from pc k else pc + 1) v)
  goes_brpl k at room = goes_brbc 2 k v.regs.flags.negative at (negative_set v.regs.flags) room

  pub goes_brlt : (k : ℕ) → StandsAt e.flash pc (Brbs 4 k) → pc + 1 < 65536
      → Goes e deep 1 s (At e (if differ v.regs.flags.negative v.regs.flags.overflow then near_from pc k else pc + 1) v)
  goes_brlt k at room = goes_brbs 4 k (differ v.regs.flags.negative v.regs.flags.overflow) at (sign_set v.regs.flags) room

  pub goes_brge : (k : ℕ) → StandsAt e.flash pc (Brbc 4 k) → pc + 1 < 65536
      → Goes e deep 1 s (At e (if not (differ v.regs.flags.negative v.regs.flags.overflow) then near_from pc k else pc + 1) v)
  goes_brge k at room = goes_brbc 4 k (differ v.regs.flags.negative v.regs.flags.overflow) at (sign_set v.regs.flags) room

  abbrev stopped_with : ℕ → State
  stopped_with low = record { cpu = s.cpu; outside = v.out; lowest = low; ended = Some (Stop (register_of s.cpu 24)) }

  -- a jump to itself is a stop, with its code in r24
  one_stop : (i : Instr) (to : ℕ) → StandsAt e.flash pc i → change e.flash i s.cpu ≡ jumped s.cpu to → stack_use i s.cpu ≡ Nothing
      → (to == s.cpu.pc) ≡ true → Goes e deep 1 s (Ended e (Stop (v.regs.of 24)) v.out)
  one_stop i to at is nothing same =
      let cpu = s.cpu in
      let goal = Ended e (Stop (v.regs.of 24)) v.out in
      let last = stopped_with s.lowest in
      let stops : change e.flash i cpu ≡ staying cpu Halt =
      is
      ∙ ap (λ b. if b && not (is_enabled cpu.sreg) then staying cpu Halt else going (record cpu { pc = to })) same
      ∙ ap (λ b. if true && not b then staying cpu Halt else going (record cpu { pc = to })) (off e deep pc v s a) in
      opened e deep pc v s a 1 goal
      (goes_one e deep cpu v.out s.lowest i last goal (here e deep pc v s a i at) (subst (StoresWithin e cpu.sp) (sym nothing) tt) (is_quiet e deep pc v s a)
      (ap (λ (m : Change). done m.effect (word_here e.flash cpu) (going_on m.cpu v.out (lowest_behind i cpu m.cpu s.lowest))) stops
      ∙ ap (λ (u : StackUse). stopped_with (lowest_by u cpu.sp s.lowest)) nothing)
      (record {
        is_at =
            record { ends = ap (λ x. Some (Stop x)) (a.shows.each 24 (omega arith)); same_trace = refl; above = a.above };
        quiet = λ on. absurd (let clash : true ≡ false = sym on ∙ off e deep pc v s a in cc);
      }))

  -- RJMP and JMP to themselves
  pub ends_rjmp : StandsAt e.flash pc (Rjmp 0xFFF) → Goes e deep 1 s (Ended e (Stop (v.regs.of 24)) v.out)
  ends_rjmp at = one_stop (Rjmp 0xFFF) (far_from s.cpu.pc 0xFFF) at refl refl (itself s.cpu.pc a.bytes.cpu.pc)

  pub ends_jmp : StandsAt e.flash pc (Jmp pc) → Goes e deep 1 s (Ended e (Stop (v.regs.of 24)) v.out)
  ends_jmp at = one_stop (Jmp pc) pc at refl refl (ap (λ n. pc == n) a.place ∙ same_place pc)
