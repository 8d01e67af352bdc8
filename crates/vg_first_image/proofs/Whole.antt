-- The image of a list of writes agrees with the session of that list, and its stack stays in SRAM.
use Rattle.std.proofs.Common.{◌≡◌, ℕ, zero, suc, ◌+◌, ◌-◌, ◌*◌, ◌<◌, ◌≤◌, Bool, true, false, List, [], ◌∷◌, ◌++◌, length, map, replicate, inl, refl}
use Rattle.std.proofs.Common.{subst, arith, append_assoc, nat_lt}
use Rattle.std.specs.List.{flat_map, AllByRecursion}
use Rattle.std.proofs.lemmas.List.{length-replicate}
use Rattle.std.proofs.lemmas.Grind.{flat_map-append}
use Rattle.vg_meaning.specs.declared.event.Event.TheVariants.{Enter}
use Rattle.vg_meaning.specs.Outside.{AreVectors}
use Rattle.avr_instr.specs.declared.instr.Instr.{Instr}
use Rattle.avr_instr.specs.declared.instr.Instr.TheVariants.{Jmp, Reti}
use Rattle.avr_instr.specs.Spelled.{InRange}
use Rattle.avr_isa.specs.Cpu.{PowerOn, IsPowerOn}
use Rattle.avr_isa.specs.Machine.{started, machine}
use Rattle.avr_isa.specs.Leads.{Leads}
use Rattle.avr_isa.specs.Agrees.{Agrees, NeverReaches, Follows}
use Rattle.avr_isa.specs.Standing.{instr_bytes, width, widths, StandsAt, AllStandAt}
use Rattle.avr_isa.proofs.Standing.{emitted_stand, front_stands, back_stands, each_stands, widths-append, widths-replicate, length-code}
use Rattle.avr_isa.proofs.Runs.{leads_on, never_lower}
use Rattle.avr_isa.proofs.Instructions.{jmp_leads}
use Rattle.vg_first_text.specs.declared.device_write.DeviceWrite.{DeviceWrite}
use Rattle.vg_first_text.specs.FirstSession.{AreDevices, write_event, first_session}
use Rattle.vg_first_image.specs.Program.{slots, start, store_of, write_code, idle, program}
use Rattle.vg_first_image.proofs.Run.{state_at, store_by, EndsIdle, ends_later, SlotsReturn, idles, starts, writes_lead}

-- the program with n words between its first jump and its start: a number, so that nothing counts them out
abbrev program_with : ℕ → List DeviceWrite → List Instr
program_with n ws = Jmp 70 ∷ (replicate n Reti ++ (start ++ (flat_map write_code ws ++ idle)))

-- its operands are in range
store_in_range : (a : ℕ) (b : Bool) → nat_lt a 0x60 ≡ b → 0x20 ≤ a → a < 0x100 → InRange (store_by b a)
store_in_range a true e lo hi = let below : a < 0x60 = grind arith in (omega arith, omega arith)
store_in_range a false e lo hi = (omega arith, omega arith)

writes_in_range : (ws : List DeviceWrite) → AreDevices ws → (tail : List Instr) → AllByRecursion InRange tail
    → AllByRecursion InRange (flat_map write_code ws ++ tail)
writes_in_range [] h tail t = t
writes_in_range (w ∷ ws) h tail t = (
  ((omega arith, omega arith), h.0.byte),
  (
    store_in_range w.address (nat_lt w.address 0x60) refl h.0.place.from h.0.place.below,
    writes_in_range ws h.1
        tail t,
  ),
)

slots_in_range : (n : ℕ) (tail : List Instr) → AllByRecursion InRange tail → AllByRecursion InRange (replicate n Reti ++ tail)
slots_in_range zero tail t = t
slots_in_range (suc n) tail t = (tt, slots_in_range n tail t)

program_in_range : (n : ℕ) (ws : List DeviceWrite) → AreDevices ws → AllByRecursion InRange (program_with n ws)
program_in_range n ws h =
    let tail = writes_in_range ws h idle (tt, (tt, (tt, (omega arith, tt)))) in
    let from_start : AllByRecursion InRange (start ++ (flat_map write_code ws ++ idle)) = (
      ((omega arith, omega arith), omega arith),
      (
        (omega arith, omega arith),
        (((omega arith, omega arith), omega arith), ((omega arith, omega arith), tail)),
      ),
    ) in
    (omega arith, slots_in_range n _ from_start)

-- it is short
width_by : (b : Bool) (a : ℕ) → width (store_by b a) ≤ 2
width_by true a = omega arith
width_by false a = omega arith

writes_short : (ws : List DeviceWrite) → widths (flat_map write_code ws) ≤ 3 * length ws
writes_short [] = omega arith
writes_short (w ∷ ws) =
    let store : width (store_of w.address) ≤ 2 = width_by (nat_lt w.address 0x60) w.address in
    omega (arith, writes_short ws, store)

program_short : (n : ℕ) (ws : List DeviceWrite) → n ≡ 68 → length ws ≤ 100 → widths (program_with n ws) ≤ 378
program_short n ws count short =
    omega (
      arith,
      widths-append (replicate n Reti) (start ++ (flat_map write_code ws ++ idle)),
      widths-replicate Reti n refl,
      widths-append
          (flat_map write_code ws) idle,
      writes_short ws,
    )

-- the whole run, on a flash on which the program stands
runs : (flash : List ℕ) (n : ℕ) (ws : List DeviceWrite) (r m rs is : List ℕ) → n ≡ 68 → AllStandAt flash 0 (program_with n ws) → AreDevices ws
    → length ws ≤ 100 → length r ≡ 32 → length m ≡ 4096 → AreVectors is
    → EndsIdle flash (state_at r m 0 0 0 rs is [] 0x1100) (map write_event ws ++ map Enter is)
runs flash n ws r m rs is count all dev short lr lm v =
    let writes = flat_map write_code ws in
    let rest = start ++ (writes ++ idle) in
    let slots_here : AllStandAt flash 2 (replicate n Reti) = front_stands flash 2 (replicate n Reti) rest all.1 in
    let to : 2 + widths (replicate n Reti) ≡ 70 = omega (arith, widths-replicate Reti n refl) in
    let body = subst (λ q. AllStandAt flash q rest) to (back_stands flash 2 (replicate n Reti) rest all.1) in
    let behind_start : AllStandAt flash 74 (writes ++ idle) = back_stands flash 70 start (writes ++ idle) body in
    let few = writes_short ws in
    let p = 74 + widths writes in
    let jump : Leads flash (state_at r m 0 0 0 rs is [] 0x1100) (state_at r m 0 0 70 rs is [] 0x1100) = jmp_leads flash _ _ 0x1100 70 all.0 refl in
    let s1 = starts flash r m rs is (front_stands flash 70 start (writes ++ idle) body) lr in
    let s2 = writes_lead flash ws s1.0 m 0 0x10FF 74 rs is [] 0x1100 (front_stands flash 74 writes idle behind_start) dev s1.1 (omega arith) in
    let slots_return : SlotsReturn flash = λ k lo hi. let e : 2 + (2 * k - 2) ≡ 2 * k = omega arith
    in subst (λ q. StandsAt flash q Reti) e (each_stands flash Reti n (2 * k - 2) 2 refl (omega arith) slots_here) in
    let s3 = idles flash p s2.0 rs (back_stands flash 74 writes idle behind_start) (omega arith) slots_return is v m 0 (map write_event ws) 0x1100 lm
    (omega arith) in
    let reset = state_at r m 0 0 0 rs is [] 0x1100 in
    let loop = state_at s2.0 m 0 0x10FF p rs is (map write_event ws) 0x1100 in
    ends_later flash reset loop (map write_event ws ++ map Enter is) (leads_on flash reset (state_at r m 0 0 70 rs is [] 0x1100) loop jump
    (leads_on flash (state_at r m 0 0 70 rs is [] 0x1100) (state_at s1.0 m 0 0x10FF 74 rs is [] 0x1100) loop s1.2 s2.1)) s3

-- from reset, with n slot words, whatever memory holds at power-on
ends_from_reset : (n : ℕ) (ws : List DeviceWrite) → n ≡ 68 → AreDevices ws → length ws ≤ 100 → (memory : PowerOn) (reads interrupts : List ℕ)
    → IsPowerOn memory → AreVectors interrupts
    → EndsIdle (flat_map instr_bytes (program_with n ws)) (started memory reads interrupts) (map write_event ws ++ map Enter interrupts)
ends_from_reset n ws count dev short memory reads interrupts p v =
    let code = program_with n ws in
    let few = program_short n ws count short in
    let here : AllStandAt (flat_map instr_bytes code) 0 code = emitted_stand code [] 0 refl (omega arith) (program_in_range n ws dev) in
    runs (flat_map instr_bytes code) n ws memory.registers memory.sram reads interrupts count here dev short p.registers p.sram v

-- a stack of two bytes holds the return address of an interrupt
floor_below : (floor stack : ℕ) → floor + stack ≡ 0x1100 → 2 ≤ stack → floor ≤ 0x10FE
floor_below floor stack sum two = omega arith

agrees_with : (n : ℕ) (ws : List DeviceWrite) → n ≡ 68 → AreDevices ws → length ws ≤ 100 → (floor stack : ℕ) → floor ≤ 0x10FE
    → Agrees (first_session ws) (flat_map instr_bytes (program_with n ws)) floor stack
agrees_with n ws count dev short floor stack low = record {
  each = λ memory reads interrupts clock p are_reads are_vectors. inl
      (by_clock memory reads interrupts clock p are_vectors);
}
  where
    by_clock : (memory : PowerOn) (reads interrupts : List ℕ) (clock : ℕ) → IsPowerOn memory → AreVectors interrupts
        → (let seen = first_session ws reads interrupts clock in
        Follows (machine (flat_map instr_bytes (program_with n ws)) memory reads interrupts) clock floor seen.ending seen.trace)
    by_clock memory reads interrupts zero p v = (0, omega arith, record { ends = refl; same_trace = refl; above = omega (arith, low) })
    by_clock memory reads interrupts (suc clock) p v =
        let e = ends_from_reset n ws count dev short memory reads interrupts p v in
        (e.0, record { ends = e.1.ends; same_trace = e.1.same_trace; above = omega (arith, low, e.1.above) })

never_with : (n : ℕ) (ws : List DeviceWrite) → n ≡ 68 → AreDevices ws → length ws ≤ 100 → (floor : ℕ) → floor ≤ 0x10FE
    → NeverReaches (flat_map instr_bytes (program_with n ws)) floor
never_with n ws count dev short floor low = record {
  each = λ memory reads interrupts k p are_reads are_vectors.
      let e = ends_from_reset n ws count dev short memory reads interrupts p are_vectors in
      never_lower (flat_map instr_bytes (program_with n ws)) (started memory reads interrupts) e.0 floor _ e.1.ends (omega (arith, low, e.1.above)) k;
}

-- the image agrees with its session for each stack of two bytes and more, and never reaches below its floor
abbrev pub AgreesOnStacks : List DeviceWrite → List ℕ → Type 0
AgreesOnStacks ws image = (floor stack : ℕ) → floor + stack ≡ 0x1100 → 2 ≤ stack → Agrees (first_session ws) image floor stack

abbrev pub StaysAbove : List ℕ → Type 0
StaysAbove image = (floor stack : ℕ) → floor + stack ≡ 0x1100 → 2 ≤ stack → NeverReaches image floor

pub agrees : (ws : List DeviceWrite) → AreDevices ws → length ws ≤ 100 → AgreesOnStacks ws (flat_map instr_bytes (program ws))
unfolding slots
agrees ws dev short floor stack sum two = agrees_with 68 ws refl dev short floor stack (floor_below floor stack sum two)

pub never : (ws : List DeviceWrite) → AreDevices ws → length ws ≤ 100 → StaysAbove (flat_map instr_bytes (program ws))
unfolding slots
never ws dev short floor stack sum two = never_with 68 ws refl dev short floor (floor_below floor stack sum two)

fits_with : (n : ℕ) (ws : List DeviceWrite) → n ≡ 68 → length ws ≤ 100 → length (flat_map instr_bytes (program_with n ws)) ≤ 131072
fits_with n ws count short = omega (arith, length-code (program_with n ws), program_short n ws count short)

pub fits : (ws : List DeviceWrite) → length ws ≤ 100 → length (flat_map instr_bytes (program ws)) ≤ 131072
unfolding slots
fits ws short = fits_with 68 ws refl short

-- the pieces, one behind another, are the program
pub pieces : (a b c d : List Instr) (i : Instr) (x0 x1 x2 x3 x4 x5 : List ℕ) → x0 ≡ [] → x1 ≡ x0 ++ instr_bytes i → x2 ≡ x1 ++ flat_map instr_bytes a
    → x3 ≡ x2 ++ flat_map instr_bytes b → x4 ≡ x3 ++ flat_map instr_bytes c → x5 ≡ x4 ++ flat_map instr_bytes d
    → x5 ≡ flat_map instr_bytes (i ∷ (a ++ (b ++ (c ++ d))))
pieces a b c d i x0 x1 x2 x3 x4 x5 e0 e1 e2 e3 e4 e5 = simp (e5, e4, e3, e2, e1, e0, flat_map-append instr_bytes, append_assoc) refl
