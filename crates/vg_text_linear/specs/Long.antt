-- That texts whose linear code is too long are long.
use Rattle.std.specs.Prelude.{◌≡◌, ◌<◌, ◌^◌, ℕ, List, length, None}
use Rattle.vg_syntax.specs.Tree.{Node}
use Rattle.vg_syntax.specs.Reads.{Reads}
use Rattle.vg_rules.specs.Refusal.{refusal_of}
use Rattle.vg_core.specs.declared.heap.Heap.{Heap}
use Rattle.vg_core.specs.Naming.{named_heap, naming_of}
use Rattle.vg_core.specs.Program.{Program}
use Rattle.vg_named_locals.specs.Locals.{HaveLocals}
use Rattle.vg_flatten_shapes.specs.declared.fault.Fault.{Fault}
use Rattle.vg_live.specs.declared.live_set.LiveSet.{LiveSet}
use Rattle.vg_number.specs.declared.numbers.Numbers.{Numbers}
use Rattle.vg_place.specs.declared.placing.Columns.{Columns}
use Rattle.vg_packed.specs.declared.program.FirmProgram.{FirmProgram}
use Rattle.vg_packed.specs.Given.{IsGiven}
use Rattle.vg_packed.specs.Packed.{IsPackedFrom}
use Rattle.vg_packed.specs.Ready.{IsReady}
use Rattle.vg_packed_suits.specs.Bodies.{AreTypedWhereCounted}
use Rattle.vg_linear.specs.Refusals.{IsCauseOf}
use Rattle.vg_types_named.specs.Programs.{IsProgramOf}
use Rattle.vg_code_bound.specs.Nodes.{IsCodeBound}

-- Where what is packed of the typed program of a text that is refused for nothing, whose parameters and locals have the types of the text, has a cause for
-- which `make_linear` refuses it, and is typed where the code of the program's methods takes and leaves its values in order, 65,536 words are too few by
-- the nodes of the text's live methods and by its tables.
abbrev pub LongTexts : Type 0
LongTexts =
    (bytes : List ℕ) (texts : List (List ℕ)) (tree : Node) (p : Program) → IsProgramOf texts tree p → Reads bytes tree → refusal_of tree ≡ None
    → length bytes < 2 ^ 31 → HaveLocals texts tree p → (h : Heap) (s : LiveSet) (n : Numbers) (c : Columns) → IsGiven p h s n c → IsReady p h
    → (f : FirmProgram) → IsPackedFrom p h s n c f → AreTypedWhereCounted p h c f → (why : Fault) → IsCauseOf why c.list f → (words : ℕ)
    → IsCodeBound tree (named_heap (naming_of texts p.tables) p.tables h) words → 65536 < words
