-- What the machine does on the image: the start, the writes, and the idle loop.
use Rattle.std.proofs.Common.{◌≡◌, ◌≢◌, ℕ, ◌+◌, ◌-◌, ◌*◌, ◌/◌, ◌%◌, ◌<◌, ◌≤◌, Bool, true, false, List, [], ◌∷◌, ◌++◌, length, map, Some, refl, sym}
use Rattle.std.proofs.Common.{ap, ◌∙◌, subst, arith, append_assoc, append-nil, slice_index, slice_set, nat_lt, ◌==◌, if◌then◌else◌}
use Rattle.std.specs.List.{flat_map}
use Rattle.std.proofs.lemmas.List.{get_or-set_same, get_or-set_other, length-set}
use Rattle.vg_meaning.specs.declared.event.Event.{Event}
use Rattle.vg_meaning.specs.declared.event.Event.TheVariants.{Write, Enter}
use Rattle.vg_meaning.specs.Device.{IsDeviceAddress}
use Rattle.vg_meaning.specs.Outside.{Outside, AreVectors, with_event}
use Rattle.avr_instr.specs.declared.instr.Instr.{Instr}
use Rattle.avr_instr.specs.declared.instr.Instr.TheVariants.{Out, Sts, Rjmp, Cli, Reti}
use Rattle.avr_isa.specs.declared.ending.MachineEnd.TheVariants.{Idle}
use Rattle.avr_isa.specs.Cpu.{CpuState, forward, enabled, disabled}
use Rattle.avr_isa.specs.Change.{register_of}
use Rattle.avr_isa.specs.Flow.{far_from}
use Rattle.avr_isa.specs.Machine.{State, run_from}
use Rattle.avr_isa.specs.Stack.{lowest_by_push_two, lowest_by_store}
use Rattle.avr_isa.specs.Leads.{Leads}
use Rattle.avr_isa.specs.Agrees.{IsAt}
use Rattle.avr_isa.specs.Standing.{width, widths, StandsAt, AllStandAt}
use Rattle.avr_isa.proofs.Standing.{front_stands, back_stands, widths-append}
use Rattle.avr_isa.proofs.Runs.{going_on, leads_same, leads_on}
use Rattle.avr_isa.proofs.Instructions.{ldi_leads, out_device_leads, sts_device_leads, out_sph_leads, out_spl_leads, rjmp_leads, sei_leads, cli_leads}
use Rattle.avr_isa.proofs.Instructions.{sleep_idle_leads, sleep_enters_leads, reti_leads, is_enabled-enabled}
use Rattle.vg_first_text.specs.declared.device_write.DeviceWrite.{DeviceWrite}
use Rattle.vg_first_text.specs.FirstSession.{IsDevice, AreDevices, write_event}
use Rattle.vg_first_image.specs.Program.{start, store_of, write_code, idle}

-- a machine that is going, by its parts
abbrev pub state_at : (registers sram : List ℕ) (sreg sp pc : ℕ) (reads interrupts : List ℕ) (trace : List Event) (lowest : ℕ) → State
state_at r m f sp pc rs is t l =
    going_on (record { registers = r; sram = m; sreg = f; sp = sp; rampz = 0; pc = pc }) (record { reads = rs; interrupts = is; trace = t }) l

leads_to : (flash : List ℕ) (s t u : State) → Leads flash s t → t ≡ u → Leads flash s u
leads_to flash s t u first e = subst (λ v. Leads flash s v) e first

-- OUT or STS of the scratch register
abbrev pub store_by : Bool → ℕ → Instr
store_by b a = if b then Out (a - 0x20) 16 else Sts a 16

store_by_leads : (flash : List ℕ) (cpu : CpuState) (o : Outside) (l a : ℕ) (b : Bool) → StandsAt flash cpu.pc (store_by b a) → IsDeviceAddress a
    → cpu.pc + width (store_by b a) < 65536 → Leads flash (going_on cpu o l)
    (going_on (record cpu { pc = cpu.pc + width (store_by b a) }) (with_event o (Write a (register_of cpu 16))) l)
store_by_leads flash cpu o l a true here dev room =
    let from = dev.from in
    let e : a - 0x20 + 0x20 ≡ a = omega arith in
    leads_to flash _ _ _ (out_device_leads flash cpu o l (a - 0x20) 16 here (subst IsDeviceAddress (sym e) dev) room)
    (ap (λ n. going_on (record cpu { pc = cpu.pc + 1 }) (with_event o (Write n (register_of cpu 16))) l) e)
store_by_leads flash cpu o l a false here dev room = sts_device_leads flash cpu o l a 16 here dev room

store_leads : (flash : List ℕ) (cpu : CpuState) (o : Outside) (l a : ℕ) → StandsAt flash cpu.pc (store_of a) → IsDeviceAddress a
    → cpu.pc + width (store_of a) < 65536 → Leads flash (going_on cpu o l)
    (going_on (record cpu { pc = cpu.pc + width (store_of a) }) (with_event o (Write a (register_of cpu 16))) l)
store_leads flash cpu o l a = store_by_leads flash cpu o l a (nat_lt a 0x60)

-- one write
write_leads : (flash : List ℕ) (w : DeviceWrite) (r m : List ℕ) (f sp pc : ℕ) (rs is : List ℕ) (t : List Event) (l : ℕ) → AllStandAt flash pc (write_code w)
    → IsDevice w → length r ≡ 32 → pc + widths (write_code w) < 65536 → Leads flash (state_at r m f sp pc rs is t l)
    (state_at (slice_set r 16 w.value) m f sp (pc + widths (write_code w)) rs is (t ++ write_event w ∷ []) l)
write_leads flash w r m f sp pc rs is t l here dev len room =
    let loaded = slice_set r 16 w.value in
    let o : Outside = record { reads = rs; interrupts = is; trace = t } in
    let cpu : CpuState = record { registers = r; sram = m; sreg = f; sp = sp; rampz = 0; pc = pc } in
    let cpu1 : CpuState = record { registers = loaded; sram = m; sreg = f; sp = sp; rampz = 0; pc = pc + 1 } in
    let step = width (store_of w.address) in
    let room1 : pc + 1 < 65536 = omega arith in
    let room2 : pc + 1 + step < 65536 = omega arith in
    let load = ldi_leads flash cpu o l 16 w.value here.0 room1 in
    let put = store_leads flash cpu1 o l w.address here.1.0 dev.place room2 in
    let value : slice_index loaded 16 ≡ w.value = get_or-set_same r 16 w.value 0 (omega arith) in
    let pc2 : pc + 1 + step ≡ pc + widths (write_code w) = omega arith in
    leads_to flash _ _ _ (leads_on flash _ _ _ load put)
    (ap (λ v. state_at loaded m f sp (pc + 1 + step) rs is (t ++ Write w.address v ∷ []) l) value
    ∙ ap (λ n. state_at loaded m f sp n rs is (t ++ write_event w ∷ []) l) pc2)

-- the writes
pub writes_lead : (flash : List ℕ) (ws : List DeviceWrite) (r m : List ℕ) (f sp pc : ℕ) (rs is : List ℕ) (t : List Event) (l : ℕ)
    → AllStandAt flash pc (flat_map write_code ws) → AreDevices ws → length r ≡ 32 → pc + widths (flat_map write_code ws) < 65536
    → (r' : List ℕ) × Leads flash (state_at r m f sp pc rs is t l) (state_at r' m f sp (pc + widths (flat_map write_code ws)) rs is (t ++ map write_event ws) l)
writes_lead flash [] r m f sp pc rs is t l here dev len room =
    let e : pc ≡ pc + 0 = omega arith in
    (r, leads_same flash _ _ (ap (λ n. state_at r m f sp n rs is t l) e ∙ ap (λ u. state_at r m f sp (pc + 0) rs is u l) (sym (append-nil t))))
writes_lead flash (w ∷ ws) r m f sp pc rs is t l here dev len room =
    let front = write_code w in
    let back = flat_map write_code ws in
    let loaded = slice_set r 16 w.value in
    let whole = widths-append front back in
    let room1 : pc + widths front < 65536 = omega arith in
    let room2 : pc + widths front + widths back < 65536 = omega arith in
    let first = write_leads flash w r m f sp pc rs is t l (front_stands flash pc front back here) dev.0 len room1 in
    let rest = writes_lead flash ws loaded m f sp (pc + widths front) rs is (t ++ write_event w ∷ []) l (back_stands flash pc front back here) dev.1
    (length-set r 16 w.value ∙ len) room2 in
    let e : pc + widths front + widths back ≡ pc + widths (front ++ back) = omega arith in
    let same = ap (λ n. state_at rest.0 m f sp n rs is (t ++ write_event w ∷ [] ++ map write_event ws) l) e
    ∙ ap (λ u. state_at rest.0 m f sp (pc + widths (front ++ back)) rs is u l) (append_assoc t (write_event w ∷ []) (map write_event ws)) in
    (rest.0, leads_to flash _ _ _ (leads_on flash _ _ _ first rest.1) same)

-- the run comes to its end idle, with this trace, and its stack stays in SRAM
abbrev pub EndsIdle : List ℕ → State → List Event → Type 0
EndsIdle flash s trace = (k : ℕ) × IsAt (run_from flash k s) (Some Idle) trace 0x10FE

pub ends_later : (flash : List ℕ) (s t : State) (trace : List Event) → Leads flash s t → EndsIdle flash t trace → EndsIdle flash s trace
ends_later flash s t trace first e =
    let j = first.by e.0 in (j.0, subst (λ u. IsAt u (Some Idle) trace 0x10FE) (sym j.2) e.1)

-- each vector's slot returns
abbrev pub SlotsReturn : List ℕ → Type 0
SlotsReturn flash = (v : ℕ) → 1 ≤ v → v ≤ 34 → StandsAt flash (2 * v) Reti

read_back : (m : List ℕ) (i j x y : ℕ) → i ≢ j → i < length m → j < length m
    → (slice_index (slice_set (slice_set m i x) j y) j ≡ y) × (slice_index (slice_set (slice_set m i x) j y) i ≡ x)
read_back m i j x y ne li lj =
    (get_or-set_same (slice_set m i x) j y 0 (omega (arith, length-set m i x)), get_or-set_other (slice_set m i x) j i y 0 ne ∙ get_or-set_same m i x 0 li)

apart : ◌≢◌ {A = ℕ} 4095 4094
apart = omega arith

back_elsewhere : (p : ℕ) → (p == p + 3) ≡ false
back_elsewhere p = grind arith

back_there : (p : ℕ) → p + 4 < 65536 → far_from (p + 3) 0xFFC ≡ p
back_there p low = omega arith

-- SRAM with a word address in its last two bytes
abbrev with_return : List ℕ → ℕ → List ℕ
with_return m address = slice_set (slice_set m 4095 (address % 256)) 4094 (address / 256)

module _ (flash : List ℕ) (p : ℕ) (r rs : List ℕ) (here : AllStandAt flash p idle) (low : p + 4 < 65536) (slots_return : SlotsReturn flash) where
  -- the SEI lets interrupts in
  to_sleep : (m : List ℕ) (f : ℕ) (is : List ℕ) (t : List Event) (l : ℕ)
      → Leads flash (state_at r m f 0x10FF p rs is t l) (state_at r m (enabled f) 0x10FF (p + 1) rs is t l)
  to_sleep m f is t l = sei_leads flash _ _ l here.0 (omega arith)

  -- the interrupt's slot returns behind the SLEEP
  comes_back : (m : List ℕ) (f v : ℕ) (is : List ℕ) (t : List Event) (l : ℕ) → length m ≡ 4096 → 1 ≤ v → v ≤ 34
      → Leads flash (state_at r (with_return m (p + 2)) f 0x10FD (2 * v) rs is t l) (state_at r (with_return m (p + 2)) (enabled f) 0x10FF (p + 2) rs is t l)
  comes_back m f v is t l len lo hi =
      let stack = with_return m (p + 2) in
      let ne = apart in
      let in_first : 4095 < length m = omega (arith, len) in
      let in_second : 4094 < length m = omega (arith, len) in
      let back = read_back m 4095 4094 ((p + 2) % 256) ((p + 2) / 256) ne in_first in_second in
      let e : slice_index stack 4094 * 256 + slice_index stack 4095 ≡ p + 2 = omega (arith, back.0, back.1) in
      leads_to flash _ _ _ (reti_leads flash _ _ l (slots_return v lo hi) refl) (ap (λ n. state_at r stack (enabled f) 0x10FF n rs is t l) e)

  -- the CLI and the jump back
  to_front : (m : List ℕ) (f : ℕ) (is : List ℕ) (t : List Event) (l : ℕ)
      → Leads flash (state_at r m f 0x10FF (p + 2) rs is t l) (state_at r m (disabled f) 0x10FF p rs is t l)
  to_front m f is t l =
      let at_cli : StandsAt flash (p + 2) Cli = let e : p + 1 + 1 ≡ p + 2 = omega arith in subst (λ n. StandsAt flash n Cli) e here.1.1.0 in
      let at_jump : StandsAt flash (p + 3) (Rjmp 0xFFC) = let e : p + 1 + 1 + 1 ≡ p + 3 = omega arith
      in subst (λ n. StandsAt flash n (Rjmp 0xFFC)) e here.1.1.1.0 in
      let e3 : p + 2 + 1 ≡ p + 3 = omega arith in
      let off = leads_to flash _ _ _ (cli_leads flash _ _ l at_cli (omega arith)) (ap (λ n. state_at r m (disabled f) 0x10FF n rs is t l) e3) in
      leads_on flash _ _ _ off (rjmp_leads flash _ _ l 0xFFC p at_jump (back_there p low) (back_elsewhere p))

  -- a turn of the loop that takes an interrupt
  turns : (m : List ℕ) (f v : ℕ) (is : List ℕ) (t : List Event) (l : ℕ) → length m ≡ 4096 → 1 ≤ v → v ≤ 34
      → (f' : ℕ) × Leads flash (state_at r m f 0x10FF p rs (v ∷ is) t l)
      (state_at r (with_return m (p + 2)) f' 0x10FF p rs is (t ++ Enter v ∷ []) (lowest_by_push_two 0x10FF l))
  turns m f v is t l len lo hi =
      let g = disabled (enabled f) in
      let l' = lowest_by_push_two 0x10FF l in
      let behind : forward 1 (p + 1) ≡ p + 2 = omega arith in
      let taken = leads_to flash _ _ _ (sleep_enters_leads flash _ _ l v is here.1.0 (is_enabled-enabled f) refl refl)
      (ap (λ n. state_at r (with_return m n) g 0x10FD (2 * v) rs is (t ++ Enter v ∷ []) l') behind) in
      let in_slot = leads_on flash _ _ _ (to_sleep m f (v ∷ is) t l) taken in
      let returned = leads_on flash _ _ _ in_slot (comes_back m g v is (t ++ Enter v ∷ []) l' len lo hi) in
      (disabled (enabled g), leads_on flash _ _ _ returned (to_front (with_return m (p + 2)) (enabled g) is (t ++ Enter v ∷ []) l'))

  -- the loop takes all interrupts, and then it is idle
  pub idles : (is : List ℕ) → AreVectors is → (m : List ℕ) (f : ℕ) (t : List Event) (l : ℕ) → length m ≡ 4096 → 0x10FE ≤ l
      → EndsIdle flash (state_at r m f 0x10FF p rs is t l) (t ++ map Enter is)
  idles [] v m f t l len above =
      let last = leads_on flash _ _ _ (to_sleep m f [] t l) (sleep_idle_leads flash _ _ l here.1.0 (is_enabled-enabled f) refl) in
      ends_later flash _ _ (t ++ map Enter []) last (0, record { ends = refl; same_trace = sym (append-nil t); above = above })
  idles (v ∷ vs) in_range m f t l len above =
      let turn = turns m f v vs t l len in_range.0.0 in_range.0.1 in
      let m' = with_return m (p + 2) in
      let len' : length m' ≡ 4096 = length-set (slice_set m 4095 _) 4094 _ ∙ length-set m 4095 _ ∙ len in
      let above' : 0x10FE ≤ lowest_by_push_two 0x10FF l = omega arith in
      let rest = idles vs in_range.1 m' turn.0 (t ++ Enter v ∷ []) (lowest_by_push_two 0x10FF l) len' above' in
      ends_later flash _ _ _ turn.1 (subst (λ u. EndsIdle flash (state_at r m' turn.0 0x10FF p rs vs (t ++ Enter v ∷ []) (lowest_by_push_two 0x10FF l)) u)
      (append_assoc t (Enter v ∷ []) (map Enter vs)) rest)

-- the start sets the stack pointer
pub starts : (flash r m rs is : List ℕ) → AllStandAt flash 70 start → length r ≡ 32
    → (r' : List ℕ) × (length r' ≡ 32) × Leads flash (state_at r m 0 0 70 rs is [] 0x1100) (state_at r' m 0 0x10FF 74 rs is [] 0x1100)
starts flash r m rs is here len =
    let r1 = slice_set r 16 0x10 in
    let r2 = slice_set r1 16 0xFF in
    let len1 : length r1 ≡ 32 = length-set r 16 0x10 ∙ len in
    let high : slice_index r1 16 ≡ 0x10 = get_or-set_same r 16 0x10 0 (omega arith) in
    let low : slice_index r2 16 ≡ 0xFF = get_or-set_same r1 16 0xFF 0 (omega arith) in
    let o : Outside = record { reads = rs; interrupts = is; trace = [] } in
    let cpu : List ℕ → ℕ → ℕ → CpuState = λ r sp pc. record { registers = r; sram = m; sreg = 0; sp = sp; rampz = 0; pc = pc } in
    let s1 = ldi_leads flash (cpu r 0 70) o 0x1100 16 0x10 here.0 (omega arith) in
    let s2 = leads_to flash _ _ _ (out_sph_leads flash (cpu r1 0 71) o 0x1100 16 here.1.0 (omega arith))
    (ap (λ v. state_at r1 m 0 (v * 256 + 0 % 256) 72 rs is [] 0x1100) high) in
    let s3 = ldi_leads flash (cpu r1 0x1000 72) o 0x1100 16 0xFF here.1.1.0 (omega arith) in
    let s4 = leads_to flash _ _ _ (out_spl_leads flash (cpu r2 0x1000 73) o 0x1100 16 here.1.1.1.0 (omega arith))
    (ap (λ v. state_at r2 m 0 (0x1000 + v) 74 rs is [] (lowest_by_store 0x5D (0x1000 + v) 0x1100)) low) in
    (r2, length-set r1 16 0xFF ∙ len1, leads_on flash _ _ _ s1 (leads_on flash _ _ _ s2 (leads_on flash _ _ _ s3 s4)))
