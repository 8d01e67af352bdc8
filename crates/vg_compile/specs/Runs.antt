-- What it means that the machine does in an image what a program does.
use Rattle.std.specs.Prelude.{ℕ, ◌≡◌, ◌+◌, ◌≤◌, true, List}
use Rattle.avr_view.specs.Run.{Run}
use Rattle.vg_core.specs.declared.heap.Heap.{Heap}
use Rattle.vg_core.specs.Program.{Program}
use Rattle.vg_stack_bound.specs.Memory.{DoesAsProgram}
use Rattle.vg_place.specs.declared.placing.Columns.{Columns}
use Rattle.vg_link.specs.declared.linked.Linked.{Linked}

-- In every run of the image, whose first bytes of SRAM are those of the columns, and which lets interrupts in at the idle SLEEP and at the CLI behind it, the
-- machine does as the program from its heap, or it reaches below its floor where the active calls, and so many bytes beside them, cost more than the stack.
abbrev pub DoesInImage : Linked → Columns → (extra : ℕ) (costs : List ℕ) → Program → Heap → Type 0
DoesInImage linked c extra costs p h =
    (e : Run) → e.flash ≡ linked.flash → e.static ≡ c.static_bytes → e.floor ≤ 0x1100 → e.lets_in (linked.idle + 1) ≡ true
    → e.lets_in (linked.idle + 2) ≡ true → DoesAsProgram e extra costs p h
