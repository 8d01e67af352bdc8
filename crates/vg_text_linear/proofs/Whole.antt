-- What is packed of a text within the bound on code has linear code.
use Rattle.std.specs.Prelude.{◌<◌, ◌≤◌, ℕ, Bool, true, false, nat_le, List, None}
use Rattle.std.proofs.Common.{◌≡◌, refl, arith}
use Rattle.vg_syntax.specs.Tree.{Node}
use Rattle.vg_rules.specs.Refusal.{refusal_of}
use Rattle.vg_core.specs.declared.heap.Heap.{Heap}
use Rattle.vg_core.specs.Naming.{named_heap, naming_of}
use Rattle.vg_core.specs.Program.{Program}
use Rattle.vg_flatten_shapes.specs.declared.fault.Fault.{Fault}
use Rattle.vg_live.specs.declared.live_set.LiveSet.{LiveSet}
use Rattle.vg_number.specs.declared.numbers.Numbers.{Numbers}
use Rattle.vg_place.specs.declared.placing.Columns.{Columns}
use Rattle.vg_packed.specs.declared.program.FirmProgram.{FirmProgram}
use Rattle.vg_packed.specs.Given.{IsGiven}
use Rattle.vg_packed.specs.Packed.{IsPackedFrom}
use Rattle.vg_packed.specs.Ready.{IsReady}
use Rattle.vg_packed_small.proofs.Procedures.{few_procedures}
use Rattle.vg_packed_typed.specs.Methods.{AreCounted}
use Rattle.vg_packed_suits.specs.Bodies.{AreTypedWhereCounted, HaveSmallFields}
use Rattle.vg_text_beside.proofs.Beside.{few_methods}
use Rattle.vg_types_named.specs.Programs.{IsProgramOf}
use Rattle.vg_code_bound.specs.Nodes.{IsCodeBound}
use Rattle.vg_linear.specs.Laying.{layout_of}
use Rattle.vg_linear.specs.Refusals.{IsCauseOf}
use Rattle.vg_linear.specs.Whole.{packed_of}
use Rattle.vg_linear.specs.Widths.{AllHaveWidths}
use Rattle.vg_linear_short.proofs.Programs.{no_cause}
use Rattle.vg_text_linear.proofs.Light.{AreLight, all_light, all_short}

more_by : (words : ℕ) → (words ≤ 65536 → ⊥) → 65536 < words
more_by words none = by (nat_le words 65536) refl
  where
    by : (b : Bool) → nat_le words 65536 ≡ b → 65536 < words
    by true e = absurd (none (grind (arith, e)))
    by false e = grind (arith, e)

module _ (texts : List (List ℕ)) (tree : Node) (p : Program) (is : IsProgramOf texts tree p) (legal : refusal_of tree ≡ None) (light : AreLight texts tree p)
    (counted : AreCounted p) (fields : HaveSmallFields p.tables) (h : Heap) (s : LiveSet) (n : Numbers) (c : Columns) (given : IsGiven p h s n c)
    (ready : IsReady p h) (f : FirmProgram) (from : IsPackedFrom p h s n c f) (typed : AreTypedWhereCounted p h c f) (widths : AllHaveWidths f.procedures)
    (why : Fault) (cause : IsCauseOf why c.list f) where
  none : (words : ℕ) → IsCodeBound tree (named_heap (naming_of texts p.tables) p.tables h) words → words ≤ 65536 → ⊥
  none words bound few =
      let many = few_procedures p h s n c f from in
      let methods = few_methods texts tree p is legal in
      no_cause c.list f why widths (omega (arith, many, methods))
      (all_short p (layout_of c.list f) (packed_of f)
      (typed ready fields counted (layout_of c.list f) (record { ram = refl; tables = refl }))
      (all_light texts tree p is light h s n c given ready f from words bound few))
      cause

  pub more_words : (words : ℕ) → IsCodeBound tree (named_heap (naming_of texts p.tables) p.tables h) words → 65536 < words
  more_words words bound = more_by words (none words bound)
