-- One instruction from where the code sees the machine.
use Rattle.std.proofs.Common.{◌≡◌, ℕ, ◌+◌, ◌<◌, ◌≤◌, true, false, List, ◌∷◌, [], length, Some, refl, sym, ap, ◌∙◌, subst, arith}
use Rattle.avr_instr.specs.declared.instr.Instr.{Instr}
use Rattle.avr_isa.specs.declared.flags.Flags.{Flags}
use Rattle.avr_isa.specs.Cpu.{CpuState, forward, is_enabled}
use Rattle.avr_isa.specs.Change.{going, pair_of}
use Rattle.avr_isa.specs.Flags.{with_flags}
use Rattle.avr_isa.specs.Effect.{change}
use Rattle.avr_isa.specs.Machine.{State, done, performed, word_here}
use Rattle.avr_isa.specs.Stack.{stack_use, lowest_by, lowest_behind}
use Rattle.avr_isa.specs.Standing.{width, widths, StandsAt, AllStandAt}
use Rattle.avr_isa.proofs.Runs.{going_on}
use Rattle.avr_bytes.specs.Bytes.{HoldsBytes}
use Rattle.avr_bytes.proofs.Runs.{stands-in_range}
use Rattle.avr_view.specs.Registers.{Shows, pair, does, does_all, IsPlain, ArePlain}
use Rattle.avr_view.specs.Memory.{Divided}
use Rattle.avr_view.specs.Run.{Run, StoresWithin, IsQuiet, Goes, Front}
use Rattle.avr_view.specs.View.{View, At}
use Rattle.avr_view.proofs.Going.{goes_here, goes_then, goes_fewer, goes_one, sinks_one, one_keeps_bytes}
use Rattle.avr_view.proofs.Dividing.{stack_top}
use Rattle.avr_view.proofs.Rows.{did, pair_shown}

pub disabled_with : (g : Flags) → is_enabled (with_flags 0 g) ≡ false
disabled_with g = grind arith

-- a register that the code sees holds a byte
pub register_below : (e : Run) (pc : ℕ) (v : View) (s : State) → At e pc v s → (d : ℕ) → d < 32 → v.regs.of d < 256
register_below e pc v s a d h = let same = a.shows.each d h in let byte = a.bytes.cpu.registers d in omega (arith, same, byte)

-- and a pointer an address of sixteen bits
pub pair_below : (e : Run) (pc : ℕ) (v : View) (s : State) → At e pc v s → (d : ℕ) → d + 1 < 32 → pair v.regs d < 65536
pair_below e pc v s a d h =
    let low = register_below e pc v s a d (omega arith) in let high = register_below e pc v s a (d + 1) h in omega (arith, low, high)

module _ (e : Run) (deep : Type 0) (pc : ℕ) (v : View) (s : State) (a : At e pc v s) where
  -- the state is one that is going on
  pub is_going : s ≡ going_on s.cpu v.out s.lowest
  is_going =
      ap (λ x. record { cpu = s.cpu; outside = s.outside; lowest = s.lowest; ended = x }) a.going
      ∙ ap (λ o. going_on s.cpu o s.lowest) a.out

  pub opened : (n : ℕ) (P : State → Type 0) → Goes e deep n (going_on s.cpu v.out s.lowest) P → Goes e deep n s P
  opened n P g = subst (λ u. Goes e deep n u P) (sym is_going) g

  pub here : (i : Instr) → StandsAt e.flash pc i → StandsAt e.flash s.cpu.pc i
  here i at = subst (λ n. StandsAt e.flash n i) (sym a.place) at

  pub off : is_enabled s.cpu.sreg ≡ false
  off = ap is_enabled a.shows.flags ∙ disabled_with v.regs.flags

  pub is_quiet : IsQuiet e (going_on s.cpu v.out s.lowest)
  is_quiet on = absurd (let clash : true ≡ false = sym on ∙ off in cc)

  pub going_bytes : HoldsBytes (going_on s.cpu v.out s.lowest)
  going_bytes = subst HoldsBytes is_going a.bytes

  pub sp_is : s.cpu.sp + 1 + length v.stack ≡ 0x1100
  sp_is = stack_top v.static v.stack s.cpu.sram s.cpu.sp a.memory

  pub pair_is : (d : ℕ) → d + 1 < 32 → pair_of s.cpu d ≡ pair v.regs d
  pair_is d h = pair_shown v.regs s.cpu.registers s.cpu.sreg d h a.shows

  -- one instruction, by what it makes of the state
  pub one_step : (i : Instr) (made : CpuState) (v' : View) (to low : ℕ) → StandsAt e.flash pc i → StoresWithin e s.cpu.sp (stack_use i s.cpu)
      → performed e.flash (Some i) (word_here e.flash s.cpu) (going_on s.cpu v.out s.lowest) ≡ going_on made v'.out low
      → e.floor ≤ low → Front e v'.out → made.pc ≡ to → Shows v'.regs made.registers made.sreg → Divided v'.static v'.stack made.sram made.sp
      → length v'.static ≡ e.static → e.floor + length v'.stack ≤ 0x1100 → Goes e deep 1 s (At e to v')
  one_step i made v' to low at within is above front place shows memory static room =
      opened 1 (At e to v')
      (goes_one e deep s.cpu v.out s.lowest i (going_on made v'.out low) (At e to v') (here i at) within is_quiet is
      (record {
        going = refl;
        place = place;
        shows = shows;
        memory = memory;
        static = static;
        out = refl;
        front = front;
        above = above;
        room = room;
        bytes = one_keeps_bytes e s.cpu v.out s.lowest i (going_on made v'.out low) (here i at) going_bytes is;
      }))

  -- one that changes the processor alone
  pub one_change : (i : Instr) (made : CpuState) (v' : View) (to low : ℕ) → StandsAt e.flash pc i → StoresWithin e s.cpu.sp (stack_use i s.cpu)
      → v'.out ≡ v.out → change e.flash i s.cpu ≡ going made → lowest_behind i s.cpu made s.lowest ≡ low → e.floor ≤ low → made.pc ≡ to
      → Shows v'.regs made.registers made.sreg → Divided v'.static v'.stack made.sram made.sp → length v'.static ≡ e.static
      → e.floor + length v'.stack ≤ 0x1100 → Goes e deep 1 s (At e to v')
  one_change i made v' to low at within out made_is low_is above place shows memory static room =
      one_step i made v' to low at within
      (ap (λ m. done m.effect (word_here e.flash s.cpu) (going_on m.cpu v.out (lowest_behind i s.cpu m.cpu s.lowest))) made_is
      ∙ ap (going_on made v.out) low_is
      ∙ ap (λ o. going_on made o low) (sym out))
      above (subst (Front e) (sym out) a.front) place shows memory static room

  -- one that leaves the history of the stack alone
  pub one_level : (i : Instr) (made : CpuState) (v' : View) (to : ℕ) → StandsAt e.flash pc i → StoresWithin e s.cpu.sp (stack_use i s.cpu)
      → v'.out ≡ v.out → change e.flash i s.cpu ≡ going made → lowest_behind i s.cpu made s.lowest ≡ s.lowest → made.pc ≡ to
      → Shows v'.regs made.registers made.sreg → Divided v'.static v'.stack made.sram made.sp → length v'.static ≡ length v.static
      → length v'.stack ≤ length v.stack → Goes e deep 1 s (At e to v')
  one_level i made v' to at within out made_is low_is place shows memory static less =
      one_change i made v' to s.lowest at within out made_is low_is a.above place shows memory (static ∙ a.static) (omega (arith, a.room, less))

  -- one that writes below the floor
  pub one_sinks : (i : Instr) (P : State → Type 0) (low : ℕ) → StandsAt e.flash pc i → deep
      → (performed e.flash (Some i) (word_here e.flash s.cpu) (going_on s.cpu v.out s.lowest)).lowest ≡ low → low < e.floor → Goes e deep 1 s P
  one_sinks i P low at d is below =
      opened 1 P (sinks_one e deep s.cpu v.out s.lowest i P (here i at) d a.above (subst (λ n. n < e.floor) (sym is) below) a.front)

module _ (e : Run) (deep : Type 0) where
  -- one plain instruction
  pub goes_does : (i : Instr) (pc : ℕ) (v : View) (s : State) → StandsAt e.flash pc i → IsPlain i → pc + width i < 65536 → At e pc v s
      → Goes e deep 1 s (At e (pc + width i) (record v { regs = does e.flash i v.regs }))
  goes_does i pc v s at p low a =
      let d = did e.flash s.cpu v.regs a.shows a.bytes.cpu i (stands-in_range e.flash e.is_flash pc i at) p in
      let next : CpuState = record s.cpu { registers = d.registers; sreg = d.sreg; pc = forward 1 s.cpu.pc } in
      one_level e deep pc v s a i next (record v { regs = does e.flash i v.regs }) (pc + width i) at
      (subst (StoresWithin e s.cpu.sp) (sym d.nothing) tt) refl d.made (ap (λ u. lowest_by u s.cpu.sp s.lowest) d.nothing)
      (omega (arith, a.place, d.narrow)) d.shows a.memory refl (omega arith)

  -- a block of plain instructions
  pub goes_plain : (is : List Instr) (pc : ℕ) (v : View) (s : State) → AllStandAt e.flash pc is → ArePlain is → pc + widths is < 65536 → At e pc v s
      → Goes e deep (length is) s (At e (pc + widths is) (record v { regs = does_all e.flash is v.regs }))
  goes_plain [] pc v s at p low a =
      let same : pc ≡ pc + 0 = omega arith in goes_here e deep s (At e (pc + 0) v) (subst (λ n. At e n v s) same a)
  goes_plain (i ∷ is) pc v s at p low a =
      let after : View = record v { regs = does_all e.flash (i ∷ is) v.regs } in
      let goal = At e (pc + widths (i ∷ is)) after in
      let same : pc + width i + widths is ≡ pc + widths (i ∷ is) = omega arith in
      let next : View = record v { regs = does e.flash i v.regs } in
      let rest : (t : State) → At e (pc + width i) next t → Goes e deep (length is) t goal =
      λ t b. subst (λ n. Goes e deep (length is) t (At e n after)) same (goes_plain is (pc + width i) next t at.1 p.1 (omega arith) b) in
      let one = goes_does i pc v s at.0 p.0 (omega arith) a in
      goes_fewer e deep (1 + length is) (length (i ∷ is)) s goal (omega arith) (goes_then e deep 1 (length is) s (At e (pc + width i) next) goal one rest)
