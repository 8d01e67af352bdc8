-- Interrupts: a program that idles takes them one by one, in the order of the list.
use Rattle.std.specs.Prelude.{ℕ, zero, suc, List, [], ◌∷◌}
use Rattle.vg_meaning.specs.declared.event.Event.TheVariants.{Enter}
use Rattle.vg_meaning.specs.Outside.{with_event}
use Rattle.vg_meaning.specs.Answer.{Done, Piece, over, and_then}

-- The first of these interrupts: `handle` is what is done for its vector.
abbrev pub interrupt_from : {S H : Type 0} → List ℕ → (ℕ → Piece S H) → Piece S H
interrupt_from [] handle s w = over Done s w
interrupt_from (vector ∷ vectors) handle s w =
    handle vector s (record w { outside = with_event (record w.outside { interrupts = vectors }) (Enter vector) })

-- The taking of one interrupt, or the end of the run where none is left.
abbrev pub take_interrupt : {S H : Type 0} → (ℕ → Piece S H) → Piece S H
take_interrupt handle s w = interrupt_from w.outside.interrupts handle s w

-- The idle loop, where n is at least the number of interrupts.
abbrev pub idles : {S H : Type 0} → ℕ → (ℕ → Piece S H) → Piece S H
idles zero handle s w = take_interrupt handle s w
idles (suc n) handle s w = and_then (take_interrupt handle s w) (idles n handle)
