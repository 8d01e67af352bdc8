-- Device registers: a read takes the next value of the outside, a write is an event.
use Rattle.std.specs.Prelude.{ℕ, List, [], ◌∷◌}
use Rattle.vg_meaning.specs.declared.event.Event.TheVariants.{Read, Write}
use Rattle.vg_meaning.specs.Outside.{with_event}
use Rattle.vg_meaning.specs.World.{Phase, Starting, Running}
use Rattle.vg_meaning.specs.Answer.{Wants, Touches, Gives, Piece, over}

-- A read in this phase, with these values to come: `go` is what is done with the value.
abbrev pub read_from : {S H : Type 0} → Phase → List ℕ → ℕ → (ℕ → Piece S H) → Piece S H
read_from Starting values address go s w = over (Touches address) s w
read_from Running [] address go s w = over (Wants address) s w
read_from Running (value ∷ values) address go s w =
    go value s (record w { outside = with_event (record w.outside { reads = values }) (Read address value) })

-- A read of the register at this address.
abbrev pub read_device : {S H : Type 0} → ℕ → (ℕ → Piece S H) → Piece S H
read_device address go s w = read_from w.phase w.outside.reads address go s w

-- A write in this phase.
abbrev pub write_in : {S H : Type 0} → Phase → ℕ → ℕ → Piece S H
write_in Starting address value s w = over (Touches address) s w
write_in Running address value s w = Gives s (record w { outside = with_event w.outside (Write address value) })

-- A write of this value to the register at this address.
abbrev pub write_device : {S H : Type 0} → ℕ → ℕ → Piece S H
write_device address value s w = write_in w.phase address value s w
