-- Loads and stores of bytes that the code sees in SRAM.
use Rattle.std.proofs.Common.{◌≡◌, ℕ, ◌+◌, ◌-◌, ◌%◌, ◌<◌, ◌≤◌, refl, sym, ap, ◌∙◌, subst, arith, slice_index, slice_set}
use Rattle.avr_instr.specs.declared.instr.Instr.{Instr}
use Rattle.avr_instr.specs.declared.instr.Instr.TheVariants.{LdX, LdXPlus, LdMinusX, Ldd, Lds, StX, StXPlus, StMinusX, Std, Sts}
use Rattle.avr_instr.specs.declared.operand.Base.{Base}
use Rattle.avr_instr.specs.declared.operand.Base.TheVariants.{Y, Z}
use Rattle.avr_isa.specs.declared.stack.StackUse.TheVariants.{Nothing, Stores}
use Rattle.avr_isa.specs.Cpu.{CpuState}
use Rattle.avr_isa.specs.Change.{going, moved, register_of, with_register, pair_of, with_pair, with_next, previous}
use Rattle.avr_isa.specs.Access.{low_of, displaced, stored, loaded, then_next}
use Rattle.avr_isa.specs.Effect.{change}
use Rattle.avr_isa.specs.Machine.{State}
use Rattle.avr_isa.specs.Stack.{stack_use, lowest_by, lowest_by_store}
use Rattle.avr_isa.specs.Standing.{StandsAt}
use Rattle.avr_bytes.proofs.Runs.{stands-in_range}
use Rattle.avr_view.specs.Registers.{Regs, Shows, put, pair, put_pair, put_next}
use Rattle.avr_view.specs.Memory.{Divided, Cell, static_with, stack_with}
use Rattle.avr_view.specs.Run.{Run, StoresWithin, Goes}
use Rattle.avr_view.specs.View.{View, At, IsCell, byte_in, with_byte}
use Rattle.avr_view.proofs.Dividing.{cell_in_sram, cell_read, cell_written, cell_within, static_with-length, stack_with-length}
use Rattle.avr_view.proofs.Rows.{shows_same, shows_pair, pair_shown}
use Rattle.avr_view.proofs.Steps.{one_level, pair_is}

loaded_sram : (old made : CpuState) (d a : ℕ) → 0x100 ≤ a → a < 0x1100 → loaded old made d a ≡ going (with_register made d (slice_index made.sram (a - 0x100)))
loaded_sram old made d a lo hi = grind arith

stored_sram : (old made : CpuState) (a x : ℕ) → 0x100 ≤ a → a < 0x1100 → stored old made a x ≡ going (record made { sram = slice_set made.sram (a - 0x100) x })
stored_sram old made a x lo hi = grind arith

lowest_kept : (a sp l : ℕ) → 0x100 ≤ a → lowest_by_store a sp l ≡ l
lowest_kept a sp l lo = grind arith

module _ (e : Run) (deep : Type 0) (pc : ℕ) (v : View) (s : State) (a : At e pc v s) where
  in_sram : (c : Cell) (address : ℕ) → IsCell v c address → (0x100 ≤ address) × (address < 0x1100)
  in_sram = cell_in_sram v.static v.stack s.cpu.sram s.cpu.sp a.memory

  -- a cell whose address the processor computes
  displaced_is : (b : Base) (q : ℕ) (c : Cell) → IsCell v c (pair v.regs (low_of b) + q) → pair v.regs (low_of b) + q ≡ displaced s.cpu b q
  displaced_is Y q c lies = let at = pair_is e deep pc v s a 28 (omega arith) in let low = (in_sram c _ lies).1 in omega (arith, at, low)
  displaced_is Z q c lies = let at = pair_is e deep pc v s a 30 (omega arith) in let low = (in_sram c _ lies).1 in omega (arith, at, low)

  -- a load, where the rest of the instruction has made this of the processor, and these of the registers
  one_load : (i : Instr) (made : CpuState) (r : Regs) (to d address : ℕ) (c : Cell) → StandsAt e.flash pc i
      → change e.flash i s.cpu ≡ loaded s.cpu made d address → stack_use i s.cpu ≡ Nothing → d < 32 → IsCell v c address
      → made.sram ≡ s.cpu.sram → made.sp ≡ s.cpu.sp → made.pc ≡ to → Shows r made.registers made.sreg
      → Goes e deep 1 s (At e to (record v { regs = put r d (byte_in v c) }))
  one_load i made r to d address c at is nothing reg lies same level place shows =
      let k = in_sram c address lies in
      let value : slice_index made.sram (address - 0x100) ≡ byte_in v c =
      ap (λ m. slice_index m (address - 0x100)) same ∙ cell_read v.static v.stack s.cpu.sram s.cpu.sp a.memory c address lies in
      one_level e deep pc v s a i (with_register made d (slice_index made.sram (address - 0x100))) (record v { regs = put r d (byte_in v c) }) to at
      (subst (StoresWithin e s.cpu.sp) (sym nothing) tt) refl (is ∙ loaded_sram s.cpu made d address k.0 k.1)
      (ap (λ u. lowest_by u made.sp s.lowest) nothing) place (shows_same r made.registers made.sreg d _ _ reg value shows)
      (subst (λ n. Divided v.static v.stack made.sram n) (sym level) (subst (λ m. Divided v.static v.stack m s.cpu.sp) (sym same) a.memory))
      refl (omega arith)

  -- LDD
  pub goes_ldd : (d : ℕ) (b : Base) (q : ℕ) (c : Cell) → StandsAt e.flash pc (Ldd d b q) → pc + 1 < 65536 → IsCell v c (pair v.regs (low_of b) + q)
      → Goes e deep 1 s (At e (pc + 1) (record v { regs = put v.regs d (byte_in v c) }))
  goes_ldd d b q c at room lies =
      one_load (Ldd d b q) (moved 1 s.cpu) v.regs (pc + 1) d (displaced s.cpu b q) c at refl refl (stands-in_range e.flash e.is_flash pc (Ldd d b q) at).0
      (subst (IsCell v c) (displaced_is b q c lies) lies) refl refl (omega (arith, a.place)) a.shows

  -- LDS
  pub goes_lds : (d address : ℕ) (c : Cell) → StandsAt e.flash pc (Lds d address) → pc + 2 < 65536 → IsCell v c address
      → Goes e deep 1 s (At e (pc + 2) (record v { regs = put v.regs d (byte_in v c) }))
  goes_lds d address c at room lies =
      one_load (Lds d address) (moved 2 s.cpu) v.regs (pc + 2) d address c at refl refl (stands-in_range e.flash e.is_flash pc (Lds d address) at).0
      lies refl refl (omega (arith, a.place)) a.shows

  x_is : pair v.regs 26 ≡ pair_of s.cpu 26
  x_is = sym (pair_is e deep pc v s a 26 (omega arith))

  -- LD X
  pub goes_ldx : (d : ℕ) (c : Cell) → StandsAt e.flash pc (LdX d) → pc + 1 < 65536 → IsCell v c (pair v.regs 26)
      → Goes e deep 1 s (At e (pc + 1) (record v { regs = put v.regs d (byte_in v c) }))
  goes_ldx d c at room lies =
      one_load (LdX d) (moved 1 s.cpu) v.regs (pc + 1) d (pair_of s.cpu 26) c at refl refl (stands-in_range e.flash e.is_flash pc (LdX d) at)
      (subst (IsCell v c) x_is lies) refl refl (omega (arith, a.place)) a.shows

  -- LD -X
  pub goes_ldx_before : (d : ℕ) (c : Cell) → StandsAt e.flash pc (LdMinusX d) → pc + 1 < 65536 → IsCell v c (previous (pair v.regs 26))
      → Goes e deep 1 s (At e (pc + 1) (record v { regs = put (put_pair v.regs 26 (previous (pair v.regs 26))) d (byte_in v c) }))
  goes_ldx_before d c at room lies =
      let x = previous (pair_of s.cpu 26) in
      let same : x ≡ previous (pair v.regs 26) = ap previous (sym x_is) in
      one_load (LdMinusX d) (with_pair (moved 1 s.cpu) 26 x) (put_pair v.regs 26 (previous (pair v.regs 26))) (pc + 1) d x c at refl refl
      (stands-in_range e.flash e.is_flash pc (LdMinusX d) at).0 (subst (IsCell v c) (sym same) lies) refl refl (omega (arith, a.place))
      (shows_pair v.regs s.cpu.registers s.cpu.sreg 26 _ _ (omega arith) same a.shows)

  -- LD X+
  pub goes_ldx_after : (d : ℕ) (c : Cell) → StandsAt e.flash pc (LdXPlus d) → pc + 1 < 65536 → IsCell v c (pair v.regs 26)
      → Goes e deep 1 s (At e (pc + 1) (record v { regs = put_next (put v.regs d (byte_in v c)) 26 }))
  goes_ldx_after d c at room lies =
      let address = pair_of s.cpu 26 in
      let lies' = subst (IsCell v c) x_is lies in
      let k = in_sram c address lies' in
      let reg = (stands-in_range e.flash e.is_flash pc (LdXPlus d) at).0 in
      let mid = with_register (moved 1 s.cpu) d (slice_index s.cpu.sram (address - 0x100)) in
      let held = shows_same v.regs s.cpu.registers s.cpu.sreg d _ _ reg (cell_read v.static v.stack s.cpu.sram s.cpu.sp a.memory c address lies') a.shows in
      let next : pair_of mid 26 ≡ pair (put v.regs d (byte_in v c)) 26 = pair_shown _ mid.registers s.cpu.sreg 26 (omega arith) held in
      one_level e deep pc v s a (LdXPlus d) (with_next mid 26) (record v { regs = put_next (put v.regs d (byte_in v c)) 26 }) (pc + 1) at tt refl
      (ap (then_next 26) (loaded_sram s.cpu (moved 1 s.cpu) d address k.0 k.1)) refl (omega (arith, a.place))
      (shows_pair _ mid.registers s.cpu.sreg 26 _ _ (omega arith) (ap (λ n. (n + 1) % 65536) next) held) a.memory refl (omega arith)

  -- a store, where the rest of the instruction has made these of the registers
  one_store : (i : Instr) (made : CpuState) (r : Regs) (to d address : ℕ) (c : Cell) → StandsAt e.flash pc i → d < 32 → IsCell v c address
      → (let x = register_of s.cpu d in
      change e.flash i s.cpu ≡ going (record made { sram = slice_set s.cpu.sram (address - 0x100) x })) → stack_use i s.cpu ≡ Stores address
      → made.sp ≡ s.cpu.sp → made.pc ≡ to → Shows r made.registers made.sreg
      → Goes e deep 1 s (At e to (with_byte (record v { regs = r }) c (v.regs.of d)))
  one_store i made r to d address c at reg lies is stores level place shows =
      let x = register_of s.cpu d in
      let k = in_sram c address lies in
      let within = cell_within v.static v.stack s.cpu.sram s.cpu.sp a.memory e c address a.static a.room lies in
      let memory = cell_written v.static v.stack s.cpu.sram s.cpu.sp a.memory c address x lies in
      one_level e deep pc v s a i (record made { sram = slice_set s.cpu.sram (address - 0x100) x }) (with_byte (record v { regs = r }) c (v.regs.of d)) to at
      (subst (StoresWithin e s.cpu.sp) (sym stores) within) refl is
      (ap (λ u. lowest_by u made.sp s.lowest) stores ∙ lowest_kept address made.sp s.lowest k.0) place shows
      (subst (λ n. Divided (static_with c (v.regs.of d) v.static) (stack_with c (v.regs.of d) v.stack) (slice_set s.cpu.sram (address - 0x100) x) n) (sym level)
      (subst (λ y. Divided (static_with c y v.static) (stack_with c y v.stack) (slice_set s.cpu.sram (address - 0x100) x) s.cpu.sp)
      (a.shows.each d reg) memory))
      (static_with-length c (v.regs.of d) v.static) (let same = stack_with-length c (v.regs.of d) v.stack in omega (arith, same))

  -- STD
  pub goes_std : (b : Base) (q d : ℕ) (c : Cell) → StandsAt e.flash pc (Std b q d) → pc + 1 < 65536 → IsCell v c (pair v.regs (low_of b) + q)
      → Goes e deep 1 s (At e (pc + 1) (with_byte v c (v.regs.of d)))
  goes_std b q d c at room lies =
      let address = displaced s.cpu b q in
      let lies' = subst (IsCell v c) (displaced_is b q c lies) lies in
      let k = in_sram c address lies' in
      one_store (Std b q d) (moved 1 s.cpu) v.regs (pc + 1) d address c at (stands-in_range e.flash e.is_flash pc (Std b q d) at).1 lies'
      (stored_sram s.cpu (moved 1 s.cpu) address (register_of s.cpu d) k.0 k.1) refl refl (omega (arith, a.place)) a.shows

  -- STS
  pub goes_sts : (address d : ℕ) (c : Cell) → StandsAt e.flash pc (Sts address d) → pc + 2 < 65536 → IsCell v c address
      → Goes e deep 1 s (At e (pc + 2) (with_byte v c (v.regs.of d)))
  goes_sts address d c at room lies =
      let k = in_sram c address lies in
      one_store (Sts address d) (moved 2 s.cpu) v.regs (pc + 2) d address c at (stands-in_range e.flash e.is_flash pc (Sts address d) at).1 lies
      (stored_sram s.cpu (moved 2 s.cpu) address (register_of s.cpu d) k.0 k.1) refl refl (omega (arith, a.place)) a.shows

  -- ST X
  pub goes_stx : (d : ℕ) (c : Cell) → StandsAt e.flash pc (StX d) → pc + 1 < 65536 → IsCell v c (pair v.regs 26)
      → Goes e deep 1 s (At e (pc + 1) (with_byte v c (v.regs.of d)))
  goes_stx d c at room lies =
      let address = pair_of s.cpu 26 in
      let lies' = subst (IsCell v c) x_is lies in
      let k = in_sram c address lies' in
      one_store (StX d) (moved 1 s.cpu) v.regs (pc + 1) d address c at (stands-in_range e.flash e.is_flash pc (StX d) at) lies'
      (stored_sram s.cpu (moved 1 s.cpu) address (register_of s.cpu d) k.0 k.1) refl refl (omega (arith, a.place)) a.shows

  -- ST -X
  pub goes_stx_before : (d : ℕ) (c : Cell) → StandsAt e.flash pc (StMinusX d) → pc + 1 < 65536 → IsCell v c (previous (pair v.regs 26))
      → Goes e deep 1 s (At e (pc + 1) (with_byte (record v { regs = put_pair v.regs 26 (previous (pair v.regs 26)) }) c (v.regs.of d)))
  goes_stx_before d c at room lies =
      let x = previous (pair_of s.cpu 26) in
      let same : x ≡ previous (pair v.regs 26) = ap previous (sym x_is) in
      let lies' = subst (IsCell v c) (sym same) lies in
      let k = in_sram c x lies' in
      let made = with_pair (moved 1 s.cpu) 26 x in
      one_store (StMinusX d) made (put_pair v.regs 26 (previous (pair v.regs 26))) (pc + 1) d x c at
      (stands-in_range e.flash e.is_flash pc (StMinusX d) at).0 lies' (stored_sram s.cpu made x (register_of s.cpu d) k.0 k.1) refl refl
      (omega (arith, a.place)) (shows_pair v.regs s.cpu.registers s.cpu.sreg 26 _ _ (omega arith) same a.shows)

  -- ST X+
  pub goes_stx_after : (d : ℕ) (c : Cell) → StandsAt e.flash pc (StXPlus d) → pc + 1 < 65536 → IsCell v c (pair v.regs 26)
      → Goes e deep 1 s (At e (pc + 1) (with_byte (record v { regs = put_next v.regs 26 }) c (v.regs.of d)))
  goes_stx_after d c at room lies =
      let address = pair_of s.cpu 26 in
      let lies' = subst (IsCell v c) x_is lies in
      let k = in_sram c address lies' in
      one_store (StXPlus d) (with_next (moved 1 s.cpu) 26) (put_next v.regs 26) (pc + 1) d address c at
      (stands-in_range e.flash e.is_flash pc (StXPlus d) at).0 lies'
      (ap (then_next 26) (stored_sram s.cpu (moved 1 s.cpu) address (register_of s.cpu d) k.0 k.1)) refl refl (omega (arith, a.place))
      (shows_pair v.regs s.cpu.registers s.cpu.sreg 26 _ _ (omega arith) (ap (λ n. (n + 1) % 65536) (sym x_is)) a.shows)
