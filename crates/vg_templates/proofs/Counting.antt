-- The bytes of a stack, counted caller by caller.
use Rattle.std.proofs.Common.{◌≡◌, ℕ, ◌≤◌, Bool, List, [], ◌∷◌, ◌++◌, length, refl, ap, ◌∙◌, arith, length-append}
use Rattle.avr_view.specs.Registers.{Regs}
use Rattle.vg_lin.specs.Steps.{Awaits, Result, Interrupt, Frame}
use Rattle.vg_lin.specs.State.{Waiting, State}
use Rattle.vg_templates.specs.Frames.{Places, Waits, Callers, Stacked, bytes_of, between}
use Rattle.vg_templates.specs.Depths.{between_bytes, callers_bytes, stack_bytes, most_bytes, AtMostWait}

waits-length : (ws : List Waiting) (bytes : List ℕ) → Waits ws bytes → length bytes ≡ bytes_of ws
waits-length [] bytes h = ap length h
waits-length (w ∷ ws) bytes h =
    let rest = waits-length ws h.1 h.5 in
    let whole = ap length h.2 ∙ length-append h.0 h.1 in
    let one = h.3 in omega (arith, rest, whole, one)

between-length : (i : Places) (a : Awaits) (m pc : ℕ) → length (between i a m pc) ≡ between_bytes a
between-length i (Result call) m pc = refl
between-length i Interrupt m pc = refl

frames-length : (i : Places) (fs : List (Frame State)) (m : ℕ) (own under : List ℕ) (g : Regs) → Callers i fs m own under g
    → length under ≡ callers_bytes i fs
frames-length i [] m own under g h = ap length h
frames-length i (f ∷ fs) m own under g h =
    let c = h.0 in
    let rest = frames-length i fs f.proc c.own c.under _ h.1 in
    let b = between i f.awaits f.proc f.pc in
    let whole = ap length c.cut ∙ length-append b (c.wait ++ (c.own ++ c.under)) in
    let second = length-append c.wait (c.own ++ c.under) in
    let third = length-append c.own c.under in
    let waits = waits-length f.kept.waiting c.wait c.waits in
    let long = c.fits.long in
    let space = between-length i f.awaits f.proc f.pc in omega (arith, rest, whole, second, third, waits, long, space)

pub exactly : (i : Places) (m : ℕ) (live : ℕ → Bool) (s : State) (frames : List (Frame State)) (stack : List ℕ) (g : Regs)
    → Stacked i m live s frames stack g → length stack ≡ stack_bytes i m s.waiting frames
exactly i m live s frames stack g h =
    let rest = frames-length i frames m h.own h.under g h.callers in
    let whole = ap length h.cut ∙ length-append h.wait (h.own ++ h.under) in
    let second = length-append h.own h.under in
    let waits = waits-length s.waiting h.wait h.waits in
    let long = h.fits.long in omega (arith, rest, whole, second, waits, long)

bounded : (i : Places) (most : ℕ → ℕ) (m : ℕ) (ws : List Waiting) (fs : List (Frame State)) → bytes_of ws ≤ most m → AtMostWait most fs
    → stack_bytes i m ws fs ≤ most_bytes i most m fs
bounded i most m ws [] h k = omega (arith, h)
bounded i most m ws (f ∷ fs) h k = let rest = bounded i most f.proc f.kept.waiting fs k.0 k.1 in omega (arith, h, rest)

pub at_most : (i : Places) (most : ℕ → ℕ) (m : ℕ) (live : ℕ → Bool) (s : State) (frames : List (Frame State)) (stack : List ℕ) (g : Regs)
    → bytes_of s.waiting ≤ most m → AtMostWait most frames → Stacked i m live s frames stack g → length stack ≤ most_bytes i most m frames
at_most i most m live s frames stack g h k stacked =
    let same = exactly i m live s frames stack g stacked in
    let less = bounded i most m s.waiting frames h k in omega (arith, same, less)
