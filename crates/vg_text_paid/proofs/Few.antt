-- The methods of what is packed of a text within the bound on code have few nodes.
use Rattle.std.specs.Prelude.{ℕ, ◌≤◌, ◌+◌, List, map, Some, slice_get}
use Rattle.std.specs.List.{AllByRecursion}
use Rattle.std.proofs.Common.{◌≡◌, sym, subst}
use Rattle.vg_syntax.specs.Tree.{Node}
use Rattle.vg_core.specs.declared.heap.Heap.{Heap}
use Rattle.vg_core.specs.declared.program.Method.{Method}
use Rattle.vg_core.specs.Naming.{named_heap, naming_of}
use Rattle.vg_core.specs.Program.{Program}
use Rattle.vg_firm.specs.Held.{procedure_of}
use Rattle.vg_firm.specs.Program.{Procedure}
use Rattle.vg_live.specs.declared.live_set.LiveSet.{LiveSet}
use Rattle.vg_number.specs.declared.numbers.Numbers.{Numbers}
use Rattle.vg_place.specs.declared.placing.Columns.{Columns}
use Rattle.vg_packed.proofs.Live.{only_methods}
use Rattle.vg_packed.specs.declared.program.FirmProgram.{FirmProgram}
use Rattle.vg_packed.specs.Given.{IsGiven}
use Rattle.vg_packed.specs.Packed.{IsPackedFrom}
use Rattle.vg_packed.specs.Ready.{IsReady}
use Rattle.vg_packed_small.proofs.Procedures.{some_codes}
use Rattle.vg_packed_suits.proofs.Bodies.{each_packed}
use Rattle.vg_text_linear.proofs.Few.{few_nodes}
use Rattle.vg_types_named.specs.Programs.{IsProgramOf}
use Rattle.vg_code_bound.specs.Nodes.{IsCodeBound}

-- the body of a procedure's method has few nodes
abbrev pub HasFewNodes : Program → Procedure → Type 0
HasFewNodes p m = (y : Method) → slice_get p.tables.methods m.method ≡ Some y → y.nodes ≤ 961

module _ (texts : List (List ℕ)) (tree : Node) (p : Program) (is : IsProgramOf texts tree p) (h : Heap) (s : LiveSet) (n : Numbers) (c : Columns)
    (given : IsGiven p h s n c) (ready : IsReady p h) (f : FirmProgram) (from : IsPackedFrom p h s n c f) (words : ℕ)
    (bound : IsCodeBound tree (named_heap (naming_of texts p.tables) p.tables h) words) (few : words ≤ 65536) where
  pub all_few : AllByRecursion (HasFewNodes p) (map procedure_of f.procedures)
  all_few =
      subst (AllByRecursion (HasFewNodes p)) (sym from.procedures)
      (each_packed p.tables n from.plan (HasFewNodes p) 0 p.tables.methods p.methods
      (λ i q y b ey eb e z ez.
      few_nodes texts tree p is h given.heap words bound few (i + 0) z ez (only_methods p h s n c f given ready from some_codes (i + 0) q e)))
