-- The code of reset, the call of the next word, and the entry of the first procedure, one behind the other.
use Rattle.std.proofs.Common.{◌≡◌, ◌≢◌, ℕ, ◌+◌, ◌/◌, ◌%◌, ◌<◌, ◌≤◌, List, [], ◌∷◌, length, Some, refl, subst, arith, slice_get}
use Rattle.vg_meaning.specs.Outside.{before, AreReads, AreVectors}
use Rattle.avr_instr.specs.declared.instr.Instr.TheVariants.{Jmp, Rcall}
use Rattle.avr_isa.specs.Cpu.{PowerOn, IsPowerOn}
use Rattle.avr_isa.specs.Flow.{far_from}
use Rattle.avr_isa.specs.Machine.{started}
use Rattle.avr_isa.specs.Standing.{widths, StandsAt, AllStandAt}
use Rattle.avr_isa.proofs.Standing.{front_stands, back_stands, widths-append}
use Rattle.avr_view.specs.Run.{Run, Goes}
use Rattle.avr_view.specs.View.{View, At}
use Rattle.avr_view.proofs.Going.{goes_then}
use Rattle.avr_view.proofs.CallSteps.{goes_rcall}
use Rattle.vg_lin.specs.Meaning.{at_start}
use Rattle.vg_lin.specs.Program.{Procedure, Program}
use Rattle.vg_templates.specs.Startup.{bytes_from, startup, Begun}
use Rattle.vg_templates.proofs.Copying.{starts}
use Rattle.vg_templates.specs.Whole.{Links}
use Rattle.vg_followed.specs.Related.{Related}
use Rattle.vg_followed.specs.Stands.{Stands}
use Rattle.vg_followed.proofs.Beginning.{goes_start}
use Rattle.vg_followed.specs.Reset.{reset_code}

pub begins : (e : Run) (x : Links) (p : Program) → Stands e x p → (m : Procedure) → slice_get p.procedures p.start ≡ Some m → m.params ≡ 0
    → (start from : ℕ) (memory : PowerOn) (reads interrupts : List ℕ) → IsPowerOn memory → AreReads reads → AreVectors interrupts
    → StandsAt e.flash 0 (Jmp start) → start ≢ 0 → AllStandAt e.flash start (reset_code e.static from)
    → x.entry p.start ≡ start + widths (reset_code e.static from) → start + widths (reset_code e.static from) < 65536 → from + e.static < 65536
    → e.floor ≤ 0x1100 → bytes_from e.flash from e.static ≡ p.ram
    → Goes e (0x1100 < e.floor + 2 + length (x.places.layouts p.start).saved + (x.places.layouts p.start).slots) 6 (started memory reads interrupts)
    (Related e x p (at_start p (before reads interrupts)))
begins e x p stands m there none start from memory reads interrupts powered r is jump away code entry room room_at floor columns =
    let l = x.places.layouts p.start in
    let deep = 0x1100 < e.floor + 2 + length l.saved + l.slots in
    let o = before reads interrupts in
    let goal = Related e x p (at_start p o) in
    let n = widths (startup e.static from) in
    let whole = widths-append (startup e.static from) (Rcall 0 ∷ []) in
    let calls = back_stands e.flash start (startup e.static from) (Rcall 0 ∷ []) code in
    goes_then e deep 5 1 (started memory reads interrupts) (Begun e from o (start + n)) goal
    (starts e deep start from memory reads interrupts powered r is jump away (front_stands e.flash start (startup e.static from) (Rcall 0 ∷ []) code)
    (omega (arith, room, whole)) room_at floor)
    (λ t b.
    let v : View = record { regs = b.regs; static = bytes_from e.flash from e.static; stack = []; out = o } in
    let w : View = record v { stack = (start + n + 1) / 256 ∷ (start + n + 1) % 256 ∷ [] } in
    let next : far_from (start + n) 0 ≡ x.entry p.start = omega (arith, room, whole, entry) in
    goes_then e deep 1 0 t (At e (far_from (start + n) 0) w) goal
    (goes_rcall e deep (start + n) v t b.at 0 calls.0 (omega (arith, room, whole)) (λ full. omega (arith, full)))
    (λ u a. goes_start e x p stands deep m there none ((start + n + 1) / 256) ((start + n + 1) % 256) w u is b.zero columns refl
    (λ full. omega (arith, full)) (subst (λ k. At e k w u) next a)))
