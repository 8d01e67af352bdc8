-- What moves the stack pointer: single bytes, and the pointer itself.
use Rattle.std.proofs.Common.{◌≡◌, ℕ, suc, ◌+◌, ◌-◌, ◌*◌, ◌/◌, ◌%◌, ◌<◌, ◌≤◌, Bool, true, false, ◌&&◌, if◌then◌else◌, List, [], ◌∷◌, ◌++◌, length}
use Rattle.std.proofs.Common.{Some, refl, sym, ap, ◌∙◌, subst, arith, inl, inr, min, nat_le, nat_lt, length-append, slice_index, slice_set}
use Rattle.vg_meaning.specs.Outside.{Outside}
use Rattle.avr_instr.specs.declared.instr.Instr.TheVariants.{In, Out, Pop, Push}
use Rattle.avr_isa.specs.declared.effect.Effect.TheVariants.{Outside as Forbidden}
use Rattle.avr_isa.specs.Cpu.{CpuState, forward}
use Rattle.avr_isa.specs.Change.{going, staying, register_of}
use Rattle.avr_isa.specs.Machine.{State, done, performed, word_here}
use Rattle.avr_isa.specs.Standing.{StandsAt}
use Rattle.avr_isa.proofs.Runs.{going_on}
use Rattle.avr_bytes.specs.Bytes.{HoldsBytes}
use Rattle.avr_bytes.proofs.Runs.{stands-in_range}
use Rattle.avr_view.specs.Registers.{put}
use Rattle.avr_view.specs.Memory.{Divided}
use Rattle.avr_view.specs.Run.{Run, IsQuiet, Goes}
use Rattle.avr_view.specs.View.{View, At}
use Rattle.avr_view.proofs.Going.{below_or_not, goes_then, goes_one, sinks_one, one_keeps_bytes}
use Rattle.avr_view.proofs.Dividing.{stack_read, stack_pushed, stack_lowered, stack_raised}
use Rattle.avr_view.proofs.Rows.{shows_same}
use Rattle.avr_view.proofs.Steps.{register_below, opened, here, off, is_quiet, going_bytes, sp_is, one_change, one_level, one_sinks}

can_push : (sp : ℕ) → 0x100 ≤ sp → sp < 0x1100 → (nat_le 0x100 sp && nat_lt sp 0x1100) ≡ true
can_push sp lo hi = grind arith

can_pop : (sp : ℕ) → 0xFF ≤ sp → sp + 1 < 0x1100 → (nat_le 0xFF sp && nat_lt (sp + 1) 0x1100) ≡ true
can_pop sp lo hi = grind arith

-- the history of the stack, whether the byte may go there or not
lowest_either : (b : Bool) (made old : CpuState) (o : Outside) (l word : ℕ)
    → (let c = (if b then going made else staying old Forbidden) in
    (done c.effect word (going_on c.cpu o l)).lowest) ≡ l
lowest_either true made old o l word = refl
lowest_either false made old o l word = refl

-- the history of the stack behind a write of SPL
abbrev lowest_at : (sp l : ℕ) → ℕ
lowest_at sp l = min l (if nat_le sp 0x10FF then sp + 1 else 0)

sp_above : (l f sp : ℕ) → 0x100 ≤ f → f ≤ lowest_at sp l → f ≤ sp + 1
sp_above l f sp h g = grind arith

sp_inside : (l f sp : ℕ) → 0x100 ≤ f → f ≤ lowest_at sp l → sp < 0x1100
sp_inside l f sp h g = grind arith

raised_low : (l f sp : ℕ) → f ≤ l → f ≤ sp + 1 → sp < 0x1100 → f ≤ lowest_at sp l
raised_low l f sp a b c = grind arith

sp_full : (l f sp n size : ℕ) → f ≤ l → size ≤ 4096 → n < 0x2000 → sp ≡ (0x10FF - size + 65536 - n) % 65536 → lowest_at sp l < f → 0x1100 < f + size + n
sp_full l f sp n size a m few is h = test (nat_le sp 0x10FF) refl
  where
    test : (b : Bool) → nat_le sp 0x10FF ≡ b → 0x1100 < f + size + n
    test true e = let low : sp ≤ 0x10FF = grind arith in let x : sp + 1 < f = grind arith in omega arith
    test false e = let low : 0x10FF < sp = grind arith in omega arith

module _ (e : Run) (deep : Type 0) (pc : ℕ) (v : View) (s : State) (a : At e pc v s) where
  top : s.cpu.sp + 1 + length v.stack ≡ 0x1100
  top = sp_is e deep pc v s a

  -- PUSH
  pub goes_push : (d : ℕ) → StandsAt e.flash pc (Push d) → pc + 1 < 65536 → (0x1100 < e.floor + length v.stack + 1 → deep)
      → Goes e deep 1 s (At e (pc + 1) (record v { stack = v.regs.of d ∷ v.stack }))
  goes_push d at room full = elim (below_or_not s.cpu.sp e.floor) [ inl low ↦ sunk low | inr fits ↦ pushed fits ]
    where
      goal : State → Type 0
      goal = At e (pc + 1) (record v { stack = v.regs.of d ∷ v.stack })

      sunk : s.cpu.sp < e.floor → Goes e deep 1 s goal
      sunk low =
          let x = top in
          let least : min s.lowest s.cpu.sp < e.floor = omega arith in
          one_sinks e deep pc v s a (Push d) goal _ at (full (omega arith))
          (lowest_either (nat_le 0x100 s.cpu.sp && nat_lt s.cpu.sp 0x1100) _ s.cpu v.out (min s.lowest s.cpu.sp) (word_here e.flash s.cpu)) least

      pushed : e.floor ≤ s.cpu.sp → Goes e deep 1 s goal
      pushed fits =
          let cpu = s.cpu in
          let x = top in
          let above = a.above in
          let apart = e.apart in
          let same = a.static in
          let y = register_of cpu d in
          let reg = stands-in_range e.flash e.is_flash pc (Push d) at in
          let made : CpuState = record cpu { sram = slice_set cpu.sram (cpu.sp - 0x100) y; sp = cpu.sp - 1; pc = forward 1 cpu.pc } in
          let ok : (nat_le 0x100 cpu.sp && nat_lt cpu.sp 0x1100) ≡ true = can_push cpu.sp (omega arith) (omega arith) in
          let there = stack_pushed v.static v.stack cpu.sram cpu.sp y (cpu.sp - 0x100) a.memory (omega arith) (omega arith) in
          one_change e deep pc v s a (Push d) made (record v { stack = v.regs.of d ∷ v.stack }) (pc + 1) (min s.lowest cpu.sp) at tt refl
          (ap (λ b. if b then going made else staying cpu Forbidden) ok) refl (omega arith) (omega (arith, a.place)) a.shows
          (subst (λ z. Divided v.static (z ∷ v.stack) (slice_set cpu.sram (cpu.sp - 0x100) y) (cpu.sp - 1)) (a.shows.each d reg) there)
          a.static (omega arith)

  -- POP
  pub goes_pop : (d x : ℕ) (below : List ℕ) → v.stack ≡ x ∷ below → StandsAt e.flash pc (Pop d) → pc + 1 < 65536
      → Goes e deep 1 s (At e (pc + 1) (record v { regs = put v.regs d x; stack = below }))
  goes_pop d x below is at room =
      let cpu = s.cpu in
      let high = top in
      let reg = stands-in_range e.flash e.is_flash pc (Pop d) at in
      let memory : Divided v.static (x ∷ below) cpu.sram cpu.sp = subst (λ l. Divided v.static l cpu.sram cpu.sp) is a.memory in
      let more : length v.stack ≡ suc (length below) = ap length is in
      let size = a.memory.size in
      let pointer = a.memory.pointer in
      let y = slice_index cpu.sram (cpu.sp + 1 - 0x100) in
      let value : y ≡ x = stack_read v.static (x ∷ below) cpu.sram cpu.sp memory 0 (cpu.sp + 1 - 0x100) (omega arith) in
      let made : CpuState = record cpu { registers = slice_set cpu.registers d y; sp = cpu.sp + 1; pc = forward 1 cpu.pc } in
      let ok : (nat_le 0xFF cpu.sp && nat_lt (cpu.sp + 1) 0x1100) ≡ true = can_pop cpu.sp (omega arith) (omega arith) in
      one_level e deep pc v s a (Pop d) made (record v { regs = put v.regs d x; stack = below }) (pc + 1) at tt refl
      (ap (λ b. if b then going made else staying cpu Forbidden) ok) refl (omega (arith, a.place))
      (shows_same v.regs cpu.registers cpu.sreg d y x reg value a.shows) (stack_raised v.static (x ∷ []) below cpu.sram cpu.sp memory) refl (omega arith)

  -- IN from SPL and SPH
  pub goes_in_spl : (d : ℕ) → StandsAt e.flash pc (In d 0x3D) → pc + 1 < 65536
      → Goes e deep 1 s (At e (pc + 1) (record v { regs = put v.regs d ((0x10FF - length v.stack) % 256) }))
  goes_in_spl d at room =
      let is : s.cpu.sp ≡ 0x10FF - length v.stack = omega (arith, top) in
      let reg = (stands-in_range e.flash e.is_flash pc (In d 0x3D) at).0 in
      one_level e deep pc v s a (In d 0x3D) (record s.cpu { registers = slice_set s.cpu.registers d (s.cpu.sp % 256); pc = forward 1 s.cpu.pc })
      (record v { regs = put v.regs d ((0x10FF - length v.stack) % 256) }) (pc + 1) at tt refl refl refl (omega (arith, a.place))
      (shows_same v.regs s.cpu.registers s.cpu.sreg d _ _ reg (ap (λ n. n % 256) is) a.shows) a.memory refl (omega arith)

  pub goes_in_sph : (d : ℕ) → StandsAt e.flash pc (In d 0x3E) → pc + 1 < 65536
      → Goes e deep 1 s (At e (pc + 1) (record v { regs = put v.regs d ((0x10FF - length v.stack) / 256) }))
  goes_in_sph d at room =
      let is : s.cpu.sp ≡ 0x10FF - length v.stack = omega (arith, top) in
      let reg = (stands-in_range e.flash e.is_flash pc (In d 0x3E) at).0 in
      one_level e deep pc v s a (In d 0x3E) (record s.cpu { registers = slice_set s.cpu.registers d (s.cpu.sp / 256); pc = forward 1 s.cpu.pc })
      (record v { regs = put v.regs d ((0x10FF - length v.stack) / 256) }) (pc + 1) at tt refl refl refl (omega (arith, a.place))
      (shows_same v.regs s.cpu.registers s.cpu.sreg d _ _ reg (ap (λ n. n / 256) is) a.shows) a.memory refl (omega arith)

  -- OUT to SPH and then to SPL: SP is as the two registers say
  set_sp : (h l sp : ℕ) (P : State → Type 0) → StandsAt e.flash pc (Out 0x3E h) → StandsAt e.flash (pc + 1) (Out 0x3D l) → pc + 2 < 65536
      → v.regs.of h * 256 + v.regs.of l ≡ sp
      → ((t : State) → t ≡ going_on (record s.cpu { sp = sp; pc = pc + 2 }) v.out (lowest_at sp s.lowest) → e.floor ≤ lowest_at sp s.lowest → HoldsBytes t
      → P t)
      → (lowest_at sp s.lowest < e.floor → deep) → Goes e deep 2 s P
  set_sp h l sp P at1 at2 room is go sunk =
      let high : slice_index cpu.registers h ≡ v.regs.of h = a.shows.each h reg_high in
      let low : slice_index cpu.registers l ≡ v.regs.of l = a.shows.each l reg_low in
      let byte = register_below e pc v s a l reg_low in
      let to : (slice_index cpu.registers h * 256 + cpu.sp % 256) / 256 * 256 + slice_index cpu.registers l ≡ sp = omega (arith, high, low) in
      let pc_to : forward 1 (forward 1 cpu.pc) ≡ pc + 2 = omega (arith, behind) in
      let last = going_on (record cpu { sp = sp; pc = pc + 2 }) v.out (lowest_at sp s.lowest) in
      let made : performed e.flash (Some (Out 0x3D l)) (word_here e.flash middle) mid ≡ last =
      ap (λ n. going_on (record cpu { sp = n; pc = forward 1 (forward 1 cpu.pc) }) v.out (lowest_at n s.lowest)) to
      ∙ ap (λ n. going_on (record cpu { sp = sp; pc = n }) v.out (lowest_at sp s.lowest)) pc_to in
      opened e deep pc v s a 2 P
      (goes_then e deep 1 1 (going_on cpu v.out s.lowest) (λ t. t ≡ mid) P first
      (λ t same. subst (λ u. Goes e deep 1 u P) (sym same) (second last made go sunk)))
    where
      cpu : CpuState
      cpu = s.cpu

      reg_high : h < 32
      reg_high = (stands-in_range e.flash e.is_flash pc (Out 0x3E h) at1).1

      reg_low : l < 32
      reg_low = (stands-in_range e.flash e.is_flash (pc + 1) (Out 0x3D l) at2).1

      middle : CpuState
      middle = record s.cpu { sp = slice_index s.cpu.registers h * 256 + s.cpu.sp % 256; pc = forward 1 s.cpu.pc }

      mid : State
      mid = going_on middle v.out s.lowest

      behind : forward 1 s.cpu.pc ≡ pc + 1
      behind = omega (arith, a.place)

      at_low : StandsAt e.flash (forward 1 s.cpu.pc) (Out 0x3D l)
      at_low = subst (λ n. StandsAt e.flash n (Out 0x3D l)) (sym behind) at2

      quiet : IsQuiet e mid
      quiet on = absurd (let clash : true ≡ false = sym on ∙ off e deep pc v s a in cc)

      first : Goes e deep 1 (going_on s.cpu v.out s.lowest) (λ t. t ≡ mid)
      first =
          goes_one e deep s.cpu v.out s.lowest (Out 0x3E h) mid (λ t. t ≡ mid) (here e deep pc v s a (Out 0x3E h) at1) (λ none. absurd (omega arith))
          (is_quiet e deep pc v s a) refl refl

      mid_bytes : HoldsBytes mid
      mid_bytes = one_keeps_bytes e s.cpu v.out s.lowest (Out 0x3E h) mid (here e deep pc v s a (Out 0x3E h) at1) (going_bytes e deep pc v s a) refl

      second : (t : State) → performed e.flash (Some (Out 0x3D l)) (word_here e.flash middle) mid ≡ t
          → ((u : State) → u ≡ t → e.floor ≤ t.lowest → HoldsBytes u → P u) → (t.lowest < e.floor → deep) → Goes e deep 1 mid P
      second t made go sunk =
          elim (below_or_not t.lowest e.floor) [
            | inl low ↦
                sinks_one e deep middle v.out s.lowest (Out 0x3D l) P at_low (sunk low) a.above (subst (λ u. u.lowest < e.floor) (sym made) low) a.front
            | inr fits ↦
                goes_one e deep middle v.out s.lowest (Out 0x3D l) t P at_low (λ none. absurd (omega arith)) quiet made
                (go t refl fits (one_keeps_bytes e middle v.out s.lowest (Out 0x3D l) t at_low mid_bytes made))
          ]

  -- SP goes down by n, as two registers say: the bytes between are what they were
  pub goes_lower : (h l n : ℕ) → StandsAt e.flash pc (Out 0x3E h) → StandsAt e.flash (pc + 1) (Out 0x3D l) → pc + 2 < 65536
      → v.regs.of h * 256 + v.regs.of l ≡ (0x10FF - length v.stack + 65536 - n) % 65536 → n < 0x2000 → (0x1100 < e.floor + length v.stack + n → deep)
      → Goes e deep 2 s (λ t. (x : List ℕ) × (length x ≡ n) × At e (pc + 2) (record v { stack = x ++ v.stack }) t)
  goes_lower h l n at1 at2 room is few full =
      let high = top in
      let pointer = a.memory.pointer in
      let apart = e.apart in
      set_sp h l to goal at1 at2 room is
      (λ t same fits bytes. down to refl t same (sp_above s.lowest e.floor to (omega arith) fits) (sp_inside s.lowest e.floor to (omega arith) fits) fits bytes)
      (λ low. full (sp_full s.lowest e.floor to n (length v.stack) a.above (omega arith) few refl low))
    where
      to : ℕ
      to = (0x10FF - length v.stack + 65536 - n) % 65536

      goal : State → Type 0
      goal = λ t. (x : List ℕ) × (length x ≡ n) × At e (pc + 2) (record v { stack = x ++ v.stack }) t

      down : (sp : ℕ) → sp ≡ (0x10FF - length v.stack + 65536 - n) % 65536 → (t : State)
          → t ≡ going_on (record s.cpu { sp = sp; pc = pc + 2 }) v.out (lowest_at sp s.lowest) → e.floor ≤ sp + 1 → sp < 0x1100
          → e.floor ≤ lowest_at sp s.lowest → HoldsBytes t → goal t
      down sp e1 t same low_end inside fits bytes =
          let high = top in
          let apart = e.apart in
          let as_said = a.static in
          let low : 0x100 + length v.static + n ≤ s.cpu.sp + 1 = omega arith in
          let there : s.cpu.sp - n ≡ sp = omega arith in
          let p = stack_lowered v.static v.stack s.cpu.sram s.cpu.sp a.memory n low in
          let next = going_on (record s.cpu { sp = sp; pc = pc + 2 }) v.out (lowest_at sp s.lowest) in
          let sees : At e (pc + 2) (record v { stack = p.0 ++ v.stack }) next =
          record {
            going = refl;
            place = refl;
            shows = a.shows;
            memory = subst (λ q. Divided v.static (p.0 ++ v.stack) s.cpu.sram q) there p.2;
            static = a.static;
            out = refl;
            front = a.front;
            above = fits;
            room = omega (arith, length-append p.0 v.stack, p.1, high, low_end, there);
            bytes = subst HoldsBytes same bytes;
          } in
          (p.0, p.1, subst (At e (pc + 2) (record v { stack = p.0 ++ v.stack })) (sym same) sees)

  -- SP goes up, as two registers say: the newest bytes of the stack are free again
  pub goes_raise : (h l : ℕ) (x below : List ℕ) → v.stack ≡ x ++ below → StandsAt e.flash pc (Out 0x3E h) → StandsAt e.flash (pc + 1) (Out 0x3D l)
      → pc + 2 < 65536 → v.regs.of h * 256 + v.regs.of l ≡ 0x10FF - length below → Goes e deep 2 s (At e (pc + 2) (record v { stack = below }))
  goes_raise h l x below cut at1 at2 room is =
      let sp = 0x10FF - length below in
      let size : length v.stack ≡ length x + length below = ap length cut ∙ length-append x below in
      let high = top in
      let fit = a.room in
      let apart = e.apart in
      let low = raised_low s.lowest e.floor sp a.above (omega arith) (omega arith) in
      let there : s.cpu.sp + length x ≡ sp = omega arith in
      let raised = stack_raised v.static x below s.cpu.sram s.cpu.sp (subst (λ q. Divided v.static q s.cpu.sram s.cpu.sp) cut a.memory) in
      let memory : Divided v.static below s.cpu.sram sp = subst (λ n. Divided v.static below s.cpu.sram n) there raised in
      let fewer : e.floor + length below ≤ 0x1100 = omega arith in
      set_sp h l sp (At e (pc + 2) (record v { stack = below })) at1 at2 room is
      (λ t same fits bytes. subst (At e (pc + 2) (record v { stack = below })) (sym same)
      (record {
        going = refl;
        place = refl;
        shows = a.shows;
        memory = memory;
        static = a.static;
        out = refl;
        front = a.front;
        above = fits;
        room = fewer;
        bytes = subst HoldsBytes same bytes;
      }))
      (λ sunk. absurd (let none : e.floor < e.floor = omega (arith, low, sunk) in omega arith))
