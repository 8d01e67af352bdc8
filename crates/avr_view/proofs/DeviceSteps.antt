-- Reads and writes of device registers.
use Rattle.std.proofs.Common.{◌≡◌, ◌≢◌, ℕ, ◌+◌, ◌<◌, ◌≤◌, true, false, List, [], ◌∷◌, Some, refl, sym, ap, ◌∙◌, subst, arith, slice_set}
use Rattle.vg_meaning.specs.declared.event.Event.TheVariants.{Read, Write}
use Rattle.vg_meaning.specs.Device.{IsDeviceAddress}
use Rattle.vg_meaning.specs.Outside.{with_event}
use Rattle.avr_instr.specs.declared.instr.Instr.{Instr}
use Rattle.avr_instr.specs.declared.instr.Instr.TheVariants.{In, Lds, Out, Sts}
use Rattle.avr_isa.specs.declared.effect.Effect.TheVariants.{ReadDevice, WriteDevice}
use Rattle.avr_isa.specs.declared.ending.MachineEnd.TheVariants.{Wants}
use Rattle.avr_isa.specs.declared.stack.StackUse.TheVariants.{Nothing, Stores}
use Rattle.avr_isa.specs.Cpu.{CpuState}
use Rattle.avr_isa.specs.Change.{Change, moved, register_of}
use Rattle.avr_isa.specs.Access.{stored, loaded}
use Rattle.avr_isa.specs.Effect.{change}
use Rattle.avr_isa.specs.Machine.{State, answered, done, performed, word_here}
use Rattle.avr_isa.specs.Stack.{stack_use, lowest_by, lowest_by_store, lowest_behind}
use Rattle.avr_isa.specs.Standing.{StandsAt}
use Rattle.avr_isa.proofs.Runs.{going_on}
use Rattle.avr_bytes.proofs.Runs.{stands-in_range}
use Rattle.avr_view.specs.Registers.{put}
use Rattle.avr_view.specs.Run.{Run, StoresWithin, Goes, Front, Ended}
use Rattle.avr_view.specs.View.{View, At}
use Rattle.avr_view.proofs.Going.{goes_one}
use Rattle.avr_view.proofs.Rows.{shows_put}
use Rattle.avr_view.proofs.Steps.{opened, here, off, is_quiet, one_step}

stored_device : (old made : CpuState) (x v : ℕ) → 0x20 ≤ x → x < 0x100 → x ≢ 0x5B → x ≢ 0x5D → x ≢ 0x5E → x ≢ 0x5F
    → stored old made x v ≡ record { cpu = made; effect = WriteDevice x v }
stored_device old made x v lo hi b d e f = grind arith

loaded_device : (old made : CpuState) (r x : ℕ) → 0x20 ≤ x → x < 0x100 → x ≢ 0x5B → x ≢ 0x5D → x ≢ 0x5E → x ≢ 0x5F
    → loaded old made r x ≡ record { cpu = made; effect = ReadDevice x r }
loaded_device old made r x lo hi b d e f = grind arith

lowest_beside : (x sp l : ℕ) → x ≢ 0x5D → lowest_by_store x sp l ≡ l
lowest_beside x sp l d = grind arith

module _ (e : Run) (deep : Type 0) (pc : ℕ) (v : View) (s : State) (a : At e pc v s) where
  -- an instruction of so many words that writes a device register
  one_write : (i : Instr) (words x d : ℕ) → StandsAt e.flash pc i → change e.flash i s.cpu ≡ stored s.cpu (moved words s.cpu) x (register_of s.cpu d)
      → stack_use i s.cpu ≡ Stores x → d < 32 → IsDeviceAddress x → pc + words < 65536 → Front e (with_event v.out (Write x (v.regs.of d)))
      → Goes e deep 1 s (At e (pc + words) (record v { out = with_event v.out (Write x (v.regs.of d)) }))
  one_write i words x d at is stores reg dev room front =
      let y = register_of s.cpu d in
      let next : CpuState = moved words s.cpu in
      let made : change e.flash i s.cpu ≡ record { cpu = next; effect = WriteDevice x y } =
      is ∙ stored_device s.cpu next x y dev.from dev.below dev.no_rampz dev.no_spl dev.no_sph dev.no_sreg in
      let below = dev.below in
      let within : StoresWithin e s.cpu.sp (Stores x) = λ high. absurd (let none : x < x = omega arith in omega arith) in
      one_step e deep pc v s a i next (record v { out = with_event v.out (Write x (v.regs.of d)) }) (pc + words) s.lowest at
      (subst (StoresWithin e s.cpu.sp) (sym stores) within)
      (ap (λ (m : Change). done m.effect (word_here e.flash s.cpu) (going_on m.cpu v.out (lowest_behind i s.cpu m.cpu s.lowest))) made
      ∙ ap (λ u. going_on next (with_event v.out (Write x y)) (lowest_by u s.cpu.sp s.lowest)) stores
      ∙ ap (going_on next (with_event v.out (Write x y))) (lowest_beside x s.cpu.sp s.lowest dev.no_spl)
      ∙ ap (λ z. going_on next (with_event v.out (Write x z)) s.lowest) (a.shows.each d reg))
      a.above front (omega (arith, a.place)) a.shows a.memory a.static a.room

  -- STS to a device register
  pub goes_sts_device : (x d : ℕ) → StandsAt e.flash pc (Sts x d) → IsDeviceAddress x → pc + 2 < 65536 → Front e (with_event v.out (Write x (v.regs.of d)))
      → Goes e deep 1 s (At e (pc + 2) (record v { out = with_event v.out (Write x (v.regs.of d)) }))
  goes_sts_device x d at dev room front =
      one_write (Sts x d) 2 x d at refl refl (stands-in_range e.flash e.is_flash pc (Sts x d) at).1 dev room front

  -- OUT to a device register
  pub goes_out_device : (p d : ℕ) → StandsAt e.flash pc (Out p d) → IsDeviceAddress (p + 0x20) → pc + 1 < 65536
      → Front e (with_event v.out (Write (p + 0x20) (v.regs.of d)))
      → Goes e deep 1 s (At e (pc + 1) (record v { out = with_event v.out (Write (p + 0x20) (v.regs.of d)) }))
  goes_out_device p d at dev room front =
      one_write (Out p d) 1 (p + 0x20) d at refl refl (stands-in_range e.flash e.is_flash pc (Out p d) at).1 dev room front

  reads : (i : Instr) (words x d : ℕ) → change e.flash i s.cpu ≡ loaded s.cpu (moved words s.cpu) d x → stack_use i s.cpu ≡ Nothing → IsDeviceAddress x
      → performed e.flash (Some i) (word_here e.flash s.cpu) (going_on s.cpu v.out s.lowest)
      ≡ answered v.out.reads x d (going_on (moved words s.cpu) v.out s.lowest)
  reads i words x d is nothing dev =
      let next : CpuState = moved words s.cpu in
      ap (λ (m : Change). done m.effect (word_here e.flash s.cpu) (going_on m.cpu v.out (lowest_behind i s.cpu m.cpu s.lowest)))
      (is ∙ loaded_device s.cpu next d x dev.from dev.below dev.no_rampz dev.no_spl dev.no_sph dev.no_sreg)
      ∙ ap (λ u. answered v.out.reads x d (going_on next v.out (lowest_by u s.cpu.sp s.lowest))) nothing

  -- an instruction of so many words that reads a device register, with a read to come
  one_read : (i : Instr) (words x d r : ℕ) (rs : List ℕ) → StandsAt e.flash pc i → change e.flash i s.cpu ≡ loaded s.cpu (moved words s.cpu) d x
      → stack_use i s.cpu ≡ Nothing → d < 32 → IsDeviceAddress x → pc + words < 65536 → v.out.reads ≡ r ∷ rs
      → Front e (with_event (record v.out { reads = rs }) (Read x r))
      → Goes e deep 1 s (At e (pc + words) (record v { regs = put v.regs d r; out = with_event (record v.out { reads = rs }) (Read x r) }))
  one_read i words x d r rs at is nothing reg dev room left front =
      let o = with_event (record v.out { reads = rs }) (Read x r) in
      let next : CpuState = record (moved words s.cpu) { registers = slice_set s.cpu.registers d r } in
      one_step e deep pc v s a i next (record v { regs = put v.regs d r; out = o }) (pc + words) s.lowest at
      (subst (StoresWithin e s.cpu.sp) (sym nothing) tt)
      (reads i words x d is nothing dev ∙ ap (λ l. answered l x d (going_on (moved words s.cpu) v.out s.lowest)) left)
      a.above front (omega (arith, a.place)) (shows_put v.regs s.cpu.registers s.cpu.sreg d r reg a.shows) a.memory a.static a.room

  -- and with none
  one_wants : (i : Instr) (words x d : ℕ) → StandsAt e.flash pc i → change e.flash i s.cpu ≡ loaded s.cpu (moved words s.cpu) d x
      → stack_use i s.cpu ≡ Nothing → IsDeviceAddress x → v.out.reads ≡ [] → Goes e deep 1 s (Ended e (Wants x) v.out)
  one_wants i words x d at is nothing dev left =
      let last : State = record { cpu = moved words s.cpu; outside = v.out; lowest = s.lowest; ended = Some (Wants x) } in
      opened e deep pc v s a 1 (Ended e (Wants x) v.out)
      (goes_one e deep s.cpu v.out s.lowest i last (Ended e (Wants x) v.out) (here e deep pc v s a i at) (subst (StoresWithin e s.cpu.sp) (sym nothing) tt)
      (is_quiet e deep pc v s a)
      (reads i words x d is nothing dev ∙ ap (λ l. answered l x d (going_on (moved words s.cpu) v.out s.lowest)) left)
      (record {
        is_at = record { ends = refl; same_trace = refl; above = a.above };
        quiet = λ on. absurd (let clash : true ≡ false = sym on ∙ off e deep pc v s a in cc);
      }))

  -- LDS from a device register
  pub goes_lds_device : (d x r : ℕ) (rs : List ℕ) → StandsAt e.flash pc (Lds d x) → IsDeviceAddress x → pc + 2 < 65536 → v.out.reads ≡ r ∷ rs
      → Front e (with_event (record v.out { reads = rs }) (Read x r))
      → Goes e deep 1 s (At e (pc + 2) (record v { regs = put v.regs d r; out = with_event (record v.out { reads = rs }) (Read x r) }))
  goes_lds_device d x r rs at dev room left front =
      one_read (Lds d x) 2 x d r rs at refl refl (stands-in_range e.flash e.is_flash pc (Lds d x) at).0 dev room left front

  pub ends_lds_device : (d x : ℕ) → StandsAt e.flash pc (Lds d x) → IsDeviceAddress x → v.out.reads ≡ [] → Goes e deep 1 s (Ended e (Wants x) v.out)
  ends_lds_device d x at dev left = one_wants (Lds d x) 2 x d at refl refl dev left

  -- IN from a device register
  pub goes_in_device : (d p r : ℕ) (rs : List ℕ) → StandsAt e.flash pc (In d p) → IsDeviceAddress (p + 0x20) → pc + 1 < 65536 → v.out.reads ≡ r ∷ rs
      → Front e (with_event (record v.out { reads = rs }) (Read (p + 0x20) r))
      → Goes e deep 1 s (At e (pc + 1) (record v { regs = put v.regs d r; out = with_event (record v.out { reads = rs }) (Read (p + 0x20) r) }))
  goes_in_device d p r rs at dev room left front =
      one_read (In d p) 1 (p + 0x20) d r rs at refl refl (stands-in_range e.flash e.is_flash pc (In d p) at).0 dev room left front

  pub ends_in_device : (d p : ℕ) → StandsAt e.flash pc (In d p) → IsDeviceAddress (p + 0x20) → v.out.reads ≡ []
      → Goes e deep 1 s (Ended e (Wants (p + 0x20)) v.out)
  ends_in_device d p at dev left = one_wants (In d p) 1 (p + 0x20) d at refl refl dev left
