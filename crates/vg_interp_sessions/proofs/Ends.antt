-- Room, and interrupts one by one.
use Rattle.std.proofs.Common.{◌≡◌, ℕ, zero, suc, ◌+◌, ◌<◌, nat_lt, true, ap, arith}
use Rattle.vg_meaning.specs.History.{depth_alone}
use Rattle.vg_meaning.specs.World.{World}
use Rattle.vg_meaning.specs.Answer.{Over, OutOfRoom, Ends, Piece, and_then, unless}
use Rattle.vg_meaning.specs.Interrupts.{idles, take_interrupt}
use Rattle.vg_source.specs.Session.{starting_world}
use Rattle.vg_core.specs.Heap.{stored_values}
use Rattle.vg_core.specs.Program.{Program}
use Rattle.vg_core.specs.Session.{first_heap, start_all, starting, with_heap}
use Rattle.vg_core.specs.State.{State}

above : (m n : ℕ) → m < n → nat_lt m n ≡ true
above m n h = grind (arith, h)

-- there is no room for what a program begins with
pub too_much : (p : Program) (steps : ℕ) → 60000 < stored_values (first_heap p)
    → starting depth_alone 0 p steps ≡ Ends (Over OutOfRoom) (with_heap (first_heap p)) (starting_world 0 steps)
too_much p steps h =
    ap (λ b. unless b OutOfRoom (start_all depth_alone p 0 p.tables.components) (with_heap (first_heap p)) (starting_world 0 steps))
    (above 60000 (stored_values (first_heap p)) h)

-- one interrupt and those behind it
pub idles_on : (n m : ℕ) (handles : ℕ → Piece State ℕ) (s : State) (w : World ℕ) → n ≡ m + 1
    → idles n handles s w ≡ and_then (take_interrupt handles s w) (idles m handles)
idles_on zero m handles s w e = absurd (omega (arith, e))
idles_on (suc n) m handles s w e = let same : n ≡ m = omega (arith, e) in ap (λ k. and_then (take_interrupt handles s w) (idles k handles)) same
