-- Templates of reads of device registers, and of stops.
use Rattle.std.proofs.Common.{◌≡◌, ◌≢◌, ℕ, ◌+◌, ◌-◌, ◌<◌, ◌≤◌, ◌⊎◌, inl, inr, Bool, true, false, ◌&&◌, nat_le, nat_lt, if◌then◌else◌}
use Rattle.std.proofs.Common.{List, [], ◌∷◌, ◌++◌, refl, sym, subst, arith}
use Rattle.vg_meaning.specs.declared.event.Event.TheVariants.{Read}
use Rattle.vg_meaning.specs.Device.{IsDeviceAddress}
use Rattle.vg_meaning.specs.Outside.{Outside, with_event}
use Rattle.avr_instr.specs.declared.instr.Instr.{Instr}
use Rattle.avr_instr.specs.declared.instr.Instr.TheVariants.{In, Ldi, Lds}
use Rattle.avr_isa.specs.declared.ending.MachineEnd.TheVariants.{Wants, Stop}
use Rattle.avr_isa.specs.Machine.{State as MachineState}
use Rattle.avr_isa.specs.Standing.{AllStandAt}
use Rattle.vg_lin.specs.Steps.{Frame}
use Rattle.vg_lin.specs.State.{State, sets}
use Rattle.avr_view.specs.Registers.{put}
use Rattle.avr_view.specs.Run.{Run, Goes, Front, Ended}
use Rattle.avr_view.specs.View.{View, At}
use Rattle.avr_view.proofs.DeviceSteps.{goes_lds_device, goes_in_device, ends_lds_device, ends_in_device}
use Rattle.avr_view.proofs.Going.{goes_then, goes_fewer}
use Rattle.avr_view.proofs.JumpSteps.{ends_rjmp}
use Rattle.avr_view.proofs.Steps.{goes_does}
use Rattle.vg_templates.specs.Layouts.{Layout, IsLayout}
use Rattle.vg_templates.specs.Frames.{Places}
use Rattle.vg_templates.proofs.Numbers.{put_other, put_same}
use Rattle.vg_templates.specs.Pieces.{Takes}
use Rattle.vg_templates.specs.Held.{Held, IsSet}
use Rattle.vg_templates.specs.Homes.{home_of, made_in, settles}
use Rattle.vg_templates.proofs.Composing.{takes_none, takes_then, takes_next}
use Rattle.vg_templates.proofs.Settling.{home_is, takes_settles}
use Rattle.vg_templates.specs.Outcomes.{Lies}
use Rattle.vg_templates.specs.Plain.{reads_register, reads_device}
use Rattle.vg_templates.specs.Straight.{stops}

near_is : (address : ℕ) → (nat_le 0x20 address && nat_lt address 0x60) ≡ true → (0x20 ≤ address) × (address < 0x60)
near_is address h = (grind (arith, h), grind (arith, h))

module _ (i : Places) (ok : (m : ℕ) → IsLayout (i.layouts m)) (m : ℕ) (frames : List (Frame State)) (e : Run) (deep : Type 0) where
  -- the outside once a register was read
  abbrev read_from : Outside → (address x : ℕ) (later : List ℕ) → Outside
  read_from o address x xs = with_event (record o { reads = xs }) (Read address x)

  takes_reads : (near : Bool) (address r x : ℕ) (xs : List ℕ) (v : View) → (near ≡ true → (0x20 ≤ address) × (address < 0x60)) → IsDeviceAddress address
      → v.out.reads ≡ x ∷ xs → Front e (read_from v.out address x xs)
      → Takes e deep v (if near then In r (address - 0x20) ∷ [] else Lds r address ∷ [])
      (λ u. u ≡ record v { regs = put v.regs r x; out = read_from v.out address x xs })
  takes_reads false address r x xs v h device left front =
      let u : View = record v { regs = put v.regs r x; out = read_from v.out address x xs } in
      takes_next e deep v u (Lds r address) [] (λ y. y ≡ u)
      (λ pc s stand room a. goes_lds_device e deep pc v s a r address x xs stand device room left front) (takes_none e deep u (λ y. y ≡ u) refl)
  takes_reads true address r x xs v h device left front =
      let u : View = record v { regs = put v.regs r x; out = read_from v.out address x xs } in
      let back : address - 0x20 + 0x20 ≡ address = let low' = (h refl).0 in omega arith in
      takes_next e deep v u (In r (address - 0x20)) [] (λ y. y ≡ u)
      (λ pc s stand room a. subst (λ n. Goes e deep 1 s (At e (pc + 1) (record v { regs = put v.regs r x; out = read_from v.out n x xs }))) back
      (goes_in_device e deep pc v s a r (address - 0x20) x xs stand (subst IsDeviceAddress (sym back) device) room left
      (subst (λ n. Front e (read_from v.out n x xs)) (sym back) front)))
      (takes_none e deep u (λ y. y ≡ u) refl)

  pub takes_reads_device : (live behind : ℕ → Bool) (s : State) (to address x : ℕ) (xs : List ℕ) (v : View) → IsSet (i.layouts m) live behind to
      → IsDeviceAddress address → v.out.reads ≡ x ∷ xs → Front e (read_from v.out address x xs) → Held i m live s frames v
      → Takes e deep v (reads_device (i.layouts m) to address) (Lies i m behind (sets to x s) frames (read_from v.out address x xs))
  takes_reads_device live behind s to address x xs v can device left front k =
      let l = i.layouts m in
      let o = read_from v.out address x xs in
      let h = home_of l to 1 in
      let d = made_in h in
      let u : View = record v { regs = put v.regs d x; out = o } in
      let goal = Lies i m behind (sets to x s) frames o in
      takes_then e deep v (reads_register d address) (settles l to h 1) (λ t. t ≡ u) goal
      (takes_reads (nat_le 0x20 address && nat_lt address 0x60) address d x xs v (near_is address) device left front)
      (λ t is. subst (λ y. Takes e deep y (settles l to h 1) goal) (sym is)
      (takes_settles i ok m frames e deep live behind s to 1 x h v u can (home_is l to 1) (omega arith) k
      (record {
        others = λ r kind beside. put_other v.regs d x r (not_d d r beside);
        holds = let byte = put_same v.regs d x in omega (arith, byte);
        stack = refl;
        static = refl;
      })))
    where
      not_d : (d r : ℕ) → (r < d) ⊎ (d + 1 ≤ r) → r ≢ d
      not_d d r (inl k') = omega arith
      not_d d r (inr k') = omega arith

-- with no read left, the run ends at the read
module _ (e : Run) (deep : Type 0) where
  ends_reads : (near : Bool) (d address pc : ℕ) (js : List Instr) (v : View) (t : MachineState) → (near ≡ true → (0x20 ≤ address) × (address < 0x60))
      → IsDeviceAddress address → AllStandAt e.flash pc ((if near then In d (address - 0x20) ∷ [] else Lds d address ∷ []) ++ js) → v.out.reads ≡ []
      → At e pc v t → Goes e deep 1 t (Ended e (Wants address) v.out)
  ends_reads false d address pc js v t h device stand none a = ends_lds_device e deep pc v t a d address stand.0 device none
  ends_reads true d address pc js v t h device stand none a =
      let back : address - 0x20 + 0x20 ≡ address = let low' = (h refl).0 in omega arith in
      subst (λ n. Goes e deep 1 t (Ended e (Wants n) v.out)) back
      (ends_in_device e deep pc v t a d (address - 0x20) stand.0 (subst IsDeviceAddress (sym back) device) none)

  pub ends_reads_device : (l : Layout) (to address pc : ℕ) (v : View) (t : MachineState) → IsDeviceAddress address → AllStandAt e.flash pc (reads_device l to address)
      → v.out.reads ≡ [] → At e pc v t → Goes e deep 1 t (Ended e (Wants address) v.out)
  ends_reads_device l to address pc v t device stand none a =
      let h = home_of l to 1 in
      ends_reads (nat_le 0x20 address && nat_lt address 0x60) (made_in h) address pc (settles l to h 1) v t (near_is address) device stand none a

  pub ends_stops : (code pc : ℕ) (v : View) (t : MachineState) → AllStandAt e.flash pc (stops code) → pc + 1 < 65536 → At e pc v t
      → Goes e deep 1 t (Ended e (Stop code) v.out)
  ends_stops code pc v t stand room a =
      let u : View = record v { regs = put v.regs 24 code } in
      let goal = Ended e (Stop code) v.out in
      let byte : u.regs.of 24 ≡ code = put_same v.regs 24 code in
      goes_fewer e deep (1 + 1) 1 t goal (omega arith)
      (goes_then e deep 1 1 t (At e (pc + 1) u) goal (goes_does e deep (Ldi 24 code) pc v t stand.0 tt room a)
      (λ q b. subst (λ c. Goes e deep 1 q (Ended e (Stop c) v.out)) byte (ends_rjmp e deep (pc + 1) u q b stand.1.0)))
