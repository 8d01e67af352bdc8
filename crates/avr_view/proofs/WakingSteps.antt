-- The idle place, where alone interrupts come in: SEI, SLEEP and the CLI behind it, and the RETI that leads back.
use Rattle.std.proofs.Common.{◌≡◌, ℕ, suc, ◌+◌, ◌-◌, ◌*◌, ◌/◌, ◌%◌, ◌<◌, ◌≤◌, Bool, true, false, if◌then◌else◌, List, [], ◌∷◌, length, Some, refl}
use Rattle.std.proofs.Common.{sym, ap, ◌∙◌, subst, arith, inl, inr}
use Rattle.vg_meaning.specs.declared.event.Event.TheVariants.{Enter}
use Rattle.vg_meaning.specs.Outside.{Outside, with_event}
use Rattle.avr_instr.specs.declared.instr.Instr.TheVariants.{Cli, Reti, Sei, Sleep as SleepInstr}
use Rattle.avr_isa.specs.declared.flags.Flags.{Flags}
use Rattle.avr_isa.specs.declared.effect.Effect.TheVariants.{Sleep, Outside as Forbidden}
use Rattle.avr_isa.specs.declared.ending.MachineEnd.TheVariants.{Idle, Bad}
use Rattle.avr_isa.specs.Cpu.{CpuState, forward, is_enabled, enabled, disabled}
use Rattle.avr_isa.specs.Flags.{with_flags}
use Rattle.avr_isa.specs.Change.{Change, going, staying, moved, with_sreg}
use Rattle.avr_isa.specs.Access.{can_push_two, can_pop_two, with_popped}
use Rattle.avr_isa.specs.Effect.{change}
use Rattle.avr_isa.specs.Machine.{State, entered, woken, done, performed, word_here}
use Rattle.avr_isa.specs.Stack.{lowest_behind, lowest_by_push_two}
use Rattle.avr_isa.specs.Standing.{StandsAt}
use Rattle.avr_isa.proofs.Runs.{going_on}
use Rattle.avr_bytes.specs.Bytes.{HoldsBytes}
use Rattle.avr_view.specs.Memory.{Divided}
use Rattle.avr_view.specs.Run.{Run, IsQuiet, Goes, Front, Ended}
use Rattle.avr_view.specs.View.{View, At}
use Rattle.avr_view.proofs.Going.{below_or_not, goes_then, goes_one, sinks_one, one_keeps_bytes}
use Rattle.avr_view.proofs.Dividing.{stack_read, stack_raised}
use Rattle.avr_view.proofs.CallSteps.{can_push_both, can_pop_both, word_pushed}
use Rattle.avr_view.proofs.Steps.{opened, here, is_quiet, going_bytes, sp_is}

enabled_is : (sreg : ℕ) → is_enabled (enabled sreg) ≡ true
enabled_is sreg = grind arith

disabled_again : (g : Flags) → disabled (enabled (with_flags 0 g)) ≡ with_flags 0 g
disabled_again g = grind arith

module _ (e : Run) (deep : Type 0) (pc : ℕ) (v : View) (s : State) (a : At e pc v s) (sei : StandsAt e.flash pc Sei)
    (sleep : StandsAt e.flash (pc + 1) SleepInstr) (low : pc + 2 < 65536) (idle : e.lets_in (pc + 1) ≡ true) where
  -- the processor behind the SEI
  abbrev on : CpuState
  on = record s.cpu { sreg = enabled s.cpu.sreg; pc = forward 1 s.cpu.pc }

  abbrev asleep : State
  asleep = going_on on v.out s.lowest

  at_sleep : forward 1 s.cpu.pc ≡ pc + 1
  at_sleep = omega (arith, a.place)

  sleep_here : StandsAt e.flash (forward 1 s.cpu.pc) SleepInstr
  sleep_here = subst (λ n. StandsAt e.flash n SleepInstr) (sym at_sleep) sleep

  quiet : IsQuiet e asleep
  quiet enabled_there = ap e.lets_in at_sleep ∙ idle

  sleeps : change e.flash SleepInstr on ≡ staying on Sleep
  sleeps = ap (λ b. if b then staying on Sleep else going (moved 1 on)) (enabled_is s.cpu.sreg)

  to_sleep : Goes e deep 1 s (λ t. t ≡ asleep)
  to_sleep =
      opened e deep pc v s a 1 (λ t. t ≡ asleep)
      (goes_one e deep s.cpu v.out s.lowest Sei asleep (λ t. t ≡ asleep) (here e deep pc v s a Sei sei) tt (is_quiet e deep pc v s a) refl refl)

  asleep_bytes : HoldsBytes asleep
  asleep_bytes = one_keeps_bytes e s.cpu v.out s.lowest Sei asleep (here e deep pc v s a Sei sei) (going_bytes e deep pc v s a) refl

  abbrev word : ℕ
  word = word_here e.flash on

  -- what the SLEEP does, by the interrupts that are left
  wakes_by : (is : List ℕ) → v.out.interrupts ≡ is → performed e.flash (Some SleepInstr) word asleep ≡ woken is word asleep
  wakes_by is left =
      ap (λ (m : Change). done m.effect word (going_on m.cpu v.out (lowest_behind SleepInstr on m.cpu s.lowest))) sleeps
      ∙ ap (λ l. woken l word asleep) left

  -- none is left: the run ends idle
  pub ends_idle : v.out.interrupts ≡ [] → Goes e deep 2 s (Ended e Idle v.out)
  ends_idle none =
      let goal = Ended e Idle v.out in
      let last : State = record { cpu = on; outside = v.out; lowest = s.lowest; ended = Some Idle } in
      goes_then e deep 1 1 s (λ t. t ≡ asleep) goal to_sleep
      (λ t same. subst (λ u. Goes e deep 1 u goal) (sym same)
      (goes_one e deep on v.out s.lowest SleepInstr last goal sleep_here tt quiet (wakes_by [] none)
      (record { is_at = record { ends = refl; same_trace = refl; above = a.above }; quiet = quiet })))

  -- the next one is taken
  pub goes_wake : (k : ℕ) (ks : List ℕ) → v.out.interrupts ≡ k ∷ ks → Front e (with_event (record v.out { interrupts = ks }) (Enter k))
      → (0x1100 < e.floor + length v.stack + 2 → deep)
      → Goes e deep 2 s (At e (2 * k) (record v {
        stack = (pc + 2) / 256 ∷ (pc + 2) % 256 ∷ v.stack;
        out = with_event (record v.out { interrupts = ks }) (Enter k);
      }))
  goes_wake k ks some front full =
      goes_then e deep 1 1 s (λ t. t ≡ asleep) goal to_sleep
      (λ t same. subst (λ u. Goes e deep 1 u goal) (sym same) (elim (below_or_not s.cpu.sp (e.floor + 1)) [ inl under ↦ sunk under | inr fits ↦ taken fits ]))
    where
      o : Outside
      o = with_event (record v.out { interrupts = ks }) (Enter k)

      seen : View
      seen = record v { stack = (pc + 2) / 256 ∷ (pc + 2) % 256 ∷ v.stack; out = o }

      goal : State → Type 0
      goal = At e (2 * k) seen

      low_now : ℕ
      low_now = lowest_by_push_two s.cpu.sp s.lowest

      into : State
      into = going_on (entered on k) o low_now

      refused : State
      refused = record { cpu = on; outside = v.out; lowest = low_now; ended = Some (Bad on.pc word) }

      wakes : performed e.flash (Some SleepInstr) word asleep ≡ (if can_push_two s.cpu.sp then into else refused)
      wakes = wakes_by (k ∷ ks) some

      either : (b : Bool) → (if b then into else refused).lowest ≡ low_now
      either true = refl
      either false = refl

      sunk : s.cpu.sp < e.floor + 1 → Goes e deep 1 asleep goal
      sunk under =
          let x = sp_is e deep pc v s a in
          let size = a.memory.size in
          let pointer = a.memory.pointer in
          let least : lowest_by_push_two s.cpu.sp s.lowest < e.floor = omega arith in
          sinks_one e deep on v.out s.lowest SleepInstr goal sleep_here (full (omega arith)) a.above
          (subst (λ n. n < e.floor) (sym (ap (λ u. u.lowest) wakes ∙ either (can_push_two s.cpu.sp))) least) a.front

      taken : e.floor + 1 ≤ s.cpu.sp → Goes e deep 1 asleep goal
      taken fits =
          let cpu = s.cpu in
          let x = sp_is e deep pc v s a in
          let above = a.above in
          let apart = e.apart in
          let as_said = a.static in
          let behind = forward 1 on.pc in
          let ok : can_push_two cpu.sp ≡ true = can_push_both cpu.sp (omega arith) (omega arith) in
          let made : performed e.flash (Some SleepInstr) word asleep ≡ into = wakes ∙ ap (λ b. if b then into else refused) ok in
          let memory = word_pushed v.static v.stack on behind a.memory (omega arith) in
          let there : behind ≡ pc + 2 = omega (arith, at_sleep) in
          let off_again : disabled (enabled cpu.sreg) ≡ with_flags 0 v.regs.flags =
          ap (λ n. disabled (enabled n)) a.shows.flags ∙ disabled_again v.regs.flags in
          goes_one e deep on v.out s.lowest SleepInstr into goal sleep_here tt quiet made
          (record {
            going = refl;
            place = refl;
            shows = record { count = a.shows.count; each = a.shows.each; flags = off_again };
            memory = subst (λ n. Divided v.static (n / 256 ∷ n % 256 ∷ v.stack) (entered on k).sram (entered on k).sp) there memory;
            static = a.static;
            out = refl;
            front = front;
            above = omega arith;
            room = omega arith;
            bytes = one_keeps_bytes e on v.out s.lowest SleepInstr into sleep_here asleep_bytes made;
          })

-- RETI, and the CLI at the place to which it goes back
module _ (e : Run) (deep : Type 0) (pc back : ℕ) (below : List ℕ) (v : View) (s : State) (a : At e pc v s)
    (cut : v.stack ≡ back / 256 ∷ back % 256 ∷ below) (reti : StandsAt e.flash pc Reti) (cli : StandsAt e.flash back Cli) (low : back + 1 < 65536)
    (idle : e.lets_in back ≡ true) where
  -- the processor behind the RETI
  abbrev freed : CpuState
  freed = record (with_popped s.cpu) { sreg = enabled s.cpu.sreg }

  pub goes_reti_cli : Goes e deep 2 s (At e (back + 1) (record v { stack = below }))
  goes_reti_cli =
      let cpu = s.cpu in
      let goal = At e (back + 1) (record v { stack = below }) in
      let x = sp_is e deep pc v s a in
      let memory : Divided v.static (back / 256 ∷ back % 256 ∷ below) cpu.sram cpu.sp = subst (λ l. Divided v.static l cpu.sram cpu.sp) cut a.memory in
      let more : length v.stack ≡ suc (suc (length below)) = ap length cut in
      let size = a.memory.size in
      let pointer = a.memory.pointer in
      let fit = a.room in
      let high = stack_read v.static _ cpu.sram cpu.sp memory 0 (cpu.sp + 1 - 0x100) (omega arith) in
      let least = stack_read v.static _ cpu.sram cpu.sp memory 1 (cpu.sp + 2 - 0x100) (omega arith) in
      let ok : can_pop_two cpu.sp ≡ true = can_pop_both cpu.sp (omega arith) (omega arith) in
      let there : freed.pc ≡ back = omega (arith, high, least) in
      let last : CpuState = record freed { sreg = disabled freed.sreg; pc = forward 1 freed.pc } in
      let mid = going_on freed v.out s.lowest in
      let returns : performed e.flash (Some Reti) (word_here e.flash cpu) (going_on cpu v.out s.lowest) ≡ mid =
      ap (λ b. let c = (if b then going (with_sreg (with_popped cpu) (enabled cpu.sreg)) else staying cpu Forbidden) in
      done c.effect (word_here e.flash cpu) (going_on c.cpu v.out s.lowest)) ok in
      let first : Goes e deep 1 (going_on cpu v.out s.lowest) (λ t. t ≡ mid) =
      goes_one e deep cpu v.out s.lowest Reti mid (λ t. t ≡ mid) (here e deep pc v s a Reti reti) tt (is_quiet e deep pc v s a) returns refl in
      let mid_bytes = one_keeps_bytes e cpu v.out s.lowest Reti mid (here e deep pc v s a Reti reti) (going_bytes e deep pc v s a) returns in
      let cli_here : StandsAt e.flash freed.pc Cli = subst (λ n. StandsAt e.flash n Cli) (sym there) cli in
      let second : Goes e deep 1 mid goal =
      goes_one e deep freed v.out s.lowest Cli (going_on last v.out s.lowest) goal cli_here tt (λ enabled_there. ap e.lets_in there ∙ idle) refl
      (record {
        going = refl;
        place = omega (arith, there);
        shows = record { count = a.shows.count; each = a.shows.each; flags = ap (λ n. disabled (enabled n)) a.shows.flags ∙ disabled_again v.regs.flags };
        memory = stack_raised v.static (back / 256 ∷ back % 256 ∷ []) below cpu.sram cpu.sp memory;
        static = a.static;
        out = refl;
        front = a.front;
        above = a.above;
        room = omega arith;
        bytes = one_keeps_bytes e freed v.out s.lowest Cli (going_on last v.out s.lowest) cli_here mid_bytes refl;
      }) in
      opened e deep pc v s a 2 goal
      (goes_then e deep 1 1 (going_on cpu v.out s.lowest) (λ t. t ≡ mid) goal first (λ t same. subst (λ u. Goes e deep 1 u goal) (sym same) second))
