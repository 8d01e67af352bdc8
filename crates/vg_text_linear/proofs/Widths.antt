-- The procedures of a text have locals of one to four bytes.
use Rattle.std.specs.Prelude.{ℕ, List, [], ◌∷◌, None}
use Rattle.std.proofs.Common.{◌≡◌, ap}
use Rattle.vg_syntax.specs.Tree.{Node}
use Rattle.vg_syntax.specs.Reads.{Reads}
use Rattle.vg_source.specs.Program.{declarations_of}
use Rattle.vg_rules.specs.Refusal.{refusal_of}
use Rattle.vg_core.specs.declared.program.Target.TheVariants.{Run}
use Rattle.vg_core.specs.Program.{Program, method_signature}
use Rattle.vg_named_locals.specs.Locals.{HaveLocals}
use Rattle.vg_firm.specs.declared.procedure.Procedure.{Procedure}
use Rattle.vg_text_limits.proofs.Limits.{is_legal}
use Rattle.vg_packed.specs.Ranges.{HaveRanges}
use Rattle.vg_packed_widths.specs.Locals.{TakeBytes}
use Rattle.vg_packed_widths.specs.Widths as packed_widths
use Rattle.vg_packed_widths.proofs.Sizes.{take_bytes}
use Rattle.vg_text_ranges.proofs.Named.{declarations_only}
use Rattle.vg_types_named.specs.Programs.{IsProgramOf}
use Rattle.vg_linear.specs.Widths.{AllHaveWidths}

-- widths as linear code asks for them
pub all_have_widths : (ms : List Procedure) → packed_widths.AllHaveWidths ms → AllHaveWidths ms
all_have_widths [] h = tt
all_have_widths (m ∷ ms) (h, hs) = (record { params = h.params; widths = h.widths; result = h.result }, all_have_widths ms hs)

-- what has the types of a text takes one to four bytes
pub text_takes_bytes : (bytes : List ℕ) (texts : List (List ℕ)) (tree : Node) (p : Program) → IsProgramOf texts tree p → Reads bytes tree
    → refusal_of tree ≡ None → HaveRanges p → HaveLocals texts tree p → TakeBytes p
text_takes_bytes bytes texts tree p is reads legal ranges locals =
    take_bytes bytes texts tree p reads (is_legal tree legal) (declarations_only (declarations_of tree) is.members) locals
    (λ m y e. ranges.results (Run m) _ (ap method_signature e))
