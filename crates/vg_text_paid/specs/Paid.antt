-- That costs of texts pay for what is packed of them.
use Rattle.std.specs.Prelude.{◌≡◌, ◌<◌, ◌≤◌, ◌^◌, ℕ, List, length, None}
use Rattle.vg_syntax.specs.Tree.{Node}
use Rattle.vg_syntax.specs.Reads.{Reads}
use Rattle.vg_source.specs.Peak.{costs}
use Rattle.vg_rules.specs.Refusal.{refusal_of}
use Rattle.vg_core.specs.declared.heap.Heap.{Heap}
use Rattle.vg_core.specs.Naming.{named_heap, naming_of}
use Rattle.vg_core.specs.Program.{Program}
use Rattle.vg_named_locals.specs.Locals.{HaveLocals}
use Rattle.vg_costs.specs.Small.{AreSmall}
use Rattle.vg_frame_costs.specs.Payable.{CanBePaid}
use Rattle.vg_live.specs.declared.live_set.LiveSet.{LiveSet}
use Rattle.vg_number.specs.declared.numbers.Numbers.{Numbers}
use Rattle.vg_place.specs.declared.placing.Columns.{Columns}
use Rattle.vg_packed.specs.declared.program.FirmProgram.{FirmProgram}
use Rattle.vg_packed.specs.Given.{IsGiven}
use Rattle.vg_packed.specs.Packed.{IsPackedFrom}
use Rattle.vg_packed.specs.Ready.{IsReady}
use Rattle.vg_packed_suits.specs.Bodies.{AreTypedWhereCounted}
use Rattle.vg_linear.specs.declared.whole.Linear.{Linear}
use Rattle.vg_linear.specs.Whole.{IsPlain}
use Rattle.vg_types_named.specs.Programs.{IsProgramOf}
use Rattle.vg_code_bound.specs.Nodes.{IsCodeBound}

-- Where 65,536 words are enough by the nodes of a text's live methods and by its tables, the text's costs can pay for a linear program of what is packed of its
-- typed program in which no procedure is trimmed.
abbrev pub PaidTexts : Type 0
PaidTexts =
    (bytes : List ℕ) (texts : List (List ℕ)) (tree : Node) (p : Program) → IsProgramOf texts tree p → Reads bytes tree → refusal_of tree ≡ None
    → length bytes < 2 ^ 31 → HaveLocals texts tree p → AreSmall (costs tree) → (h : Heap) (s : LiveSet) (n : Numbers) (c : Columns) → IsGiven p h s n c
    → IsReady p h → (f : FirmProgram) → IsPackedFrom p h s n c f → AreTypedWhereCounted p h c f → (l : Linear) → IsPlain c.list f l → (words : ℕ)
    → IsCodeBound tree (named_heap (naming_of texts p.tables) p.tables h) words → words ≤ 65536
    → CanBePaid l.procedures l.start (costs tree)
