-- How many bytes the stack of a procedure has.
use Rattle.std.proofs.Common.{◌≡◌, ℕ, Bool, true, ◌==◌, List, [], ◌∷◌, ◌++◌, length, refl, ap, ◌∙◌, arith, length-append}
use Rattle.vg_lin.specs.Steps.{Awaits, Result, Interrupt, Frame}
use Rattle.vg_lin.specs.State.{State, Waiting}
use Rattle.avr_view.specs.Registers.{Regs}
use Rattle.vg_templates.specs.Frames.{Waits, bytes_of, Places, between, Callers, Stacked}
use Rattle.vg_followed.specs.Depth.{between_bytes, frames_bytes, stack_bytes}

pub equal : (a b : ℕ) → (a == b) ≡ true → a ≡ b
equal a b e = grind (arith, e)

waits_bytes : (ws : List Waiting) (bytes : List ℕ) → Waits ws bytes → length bytes ≡ bytes_of ws
waits_bytes [] bytes h = ap length h
waits_bytes (w ∷ ws) bytes (front, back, cut, long, value, rest) =
    let whole = ap length cut ∙ length-append front back in let more = waits_bytes ws back rest in omega (arith, whole, long, more)

between_is : (i : Places) (a : Awaits) (m pc : ℕ) → length (between i a m pc) ≡ between_bytes a
between_is i (Result call) m pc = refl
between_is i Interrupt m pc = refl

callers_bytes : (i : Places) (fs : List (Frame State)) (m : ℕ) (own under : List ℕ) (g : Regs) → Callers i fs m own under g → length under ≡ frames_bytes i fs
callers_bytes i [] m own under g k = ap length k
callers_bytes i (f ∷ fs) m own under g k =
    let c = k.0 in
    let gap = between_is i f.awaits f.proc f.pc in
    let front = ap length c.cut ∙ length-append (between i f.awaits f.proc f.pc) (c.wait ++ (c.own ++ c.under)) in
    let middle = length-append c.wait (c.own ++ c.under) in
    let back = length-append c.own c.under in
    let waits = waits_bytes f.kept.waiting c.wait c.waits in
    let long = c.fits.long in
    let rest = callers_bytes i fs f.proc c.own c.under _ k.1 in
    omega (arith, gap, front, middle, back, waits, long, rest)

pub stacked_bytes : (i : Places) (m : ℕ) (live : ℕ → Bool) (s : State) (fs : List (Frame State)) (stack : List ℕ) (g : Regs) → Stacked i m live s fs stack g
    → length stack ≡ stack_bytes i m s fs
stacked_bytes i m live s fs stack g k =
    let front = ap length k.cut ∙ length-append k.wait (k.own ++ k.under) in
    let back = length-append k.own k.under in
    let waits = waits_bytes s.waiting k.wait k.waits in
    let long = k.fits.long in
    let rest = callers_bytes i fs m k.own k.under g k.callers in
    omega (arith, front, back, waits, long, rest)
