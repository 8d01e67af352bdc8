-- Costs of a text pay for a plain linear program of what is packed of it.
use Rattle.std.specs.Prelude.{ℕ, ◌<◌, ◌≤◌, ◌^◌, List, length, map}
use Rattle.std.specs.List.{AllByRecursion}
use Rattle.std.proofs.Common.{◌≡◌, refl, sym, subst}
use Rattle.vg_syntax.specs.Tree.{Node}
use Rattle.vg_source.specs.Peak.{cost_of, costs}
use Rattle.vg_method_sizes.specs.Sizes.{cost, sizes}
use Rattle.vg_core.specs.declared.heap.Heap.{Heap}
use Rattle.vg_core.specs.Naming.{named_heap, naming_of}
use Rattle.vg_core.specs.Program.{Program}
use Rattle.vg_costs.specs.Small.{AreSmall}
use Rattle.vg_firm.specs.Held.{procedure_of}
use Rattle.vg_frame_costs.specs.Payable.{CanBePaid}
use Rattle.vg_live.specs.declared.live_set.LiveSet.{LiveSet}
use Rattle.vg_number.specs.declared.numbers.Numbers.{Numbers}
use Rattle.vg_place.specs.declared.placing.Columns.{Columns}
use Rattle.vg_placement.specs.declared.column.Column.{Column}
use Rattle.vg_packed.specs.declared.program.FirmProgram.{FirmProgram}
use Rattle.vg_packed.specs.Given.{IsGiven}
use Rattle.vg_packed.specs.Packed.{IsPackedFrom}
use Rattle.vg_packed.specs.Ready.{IsReady}
use Rattle.vg_packed_typed.specs.Methods.{AreCounted}
use Rattle.vg_packed_methods.specs.Methods.{AllCallBefore}
use Rattle.vg_packed_suits.specs.Bodies.{AreTypedWhereCounted, HaveSmallFields}
use Rattle.vg_linear.specs.declared.whole.Linear.{Linear}
use Rattle.vg_linear.specs.Laying.{layout_of}
use Rattle.vg_linear.specs.Whole.{IsPlain, packed_of}
use Rattle.vg_linear.specs.Widths.{AllHaveWidths}
use Rattle.vg_plain_paid.specs.Paid.{CostsByNodes}
use Rattle.vg_types_named.specs.Programs.{IsProgramOf}
use Rattle.vg_code_bound.specs.Nodes.{IsCodeBound}
use Rattle.vg_text_linear.proofs.Light.{AreLight, all_light}
use Rattle.vg_text_paid.proofs.Costs.{AreCostsOf, all_cost, all_small, least}
use Rattle.vg_text_paid.proofs.Few.{all_few}

-- the law of plain linear programs
abbrev pub PlainArePaid : Type 0
PlainArePaid =
    (p : Program) (cs : List Column) (f : FirmProgram) (l : Linear) (costs : List ℕ) → IsPlain cs f l
    → AllByRecursion (CostsByNodes p (layout_of cs f) (length f.procedures) costs) (packed_of f)
    → ((m : ℕ) → m < length costs → 32 ≤ cost_of costs m) → ((m : ℕ) → cost_of costs m < 2 ^ 31) → CanBePaid l.procedures l.start costs

module _ (plain_paid : PlainArePaid) (texts : List (List ℕ)) (tree : Node) (p : Program) (is : IsProgramOf texts tree p) (light : AreLight texts tree p)
    (counted : AreCounted p) (fields : HaveSmallFields p.tables) (are : AreCostsOf p (costs tree)) (by_size : costs tree ≡ map cost (sizes tree))
    (small : AreSmall (costs tree)) (h : Heap) (s : LiveSet) (n : Numbers) (c : Columns) (given : IsGiven p h s n c) (ready : IsReady p h) (f : FirmProgram)
    (from : IsPackedFrom p h s n c f) (typed : AreTypedWhereCounted p h c f) (widths : AllHaveWidths f.procedures)
    (before : AllCallBefore (length f.procedures) (map procedure_of f.procedures)) (l : Linear) (plain : IsPlain c.list f l) where
  least_cost : (m : ℕ) → m < length (costs tree) → 32 ≤ cost_of (costs tree) m
  least_cost m less =
      subst (λ cs. 32 ≤ cost_of cs m) (sym by_size) (least (sizes tree) m (subst (λ cs. m < length cs) by_size less))

  pub text_paid : (words : ℕ) → IsCodeBound tree (named_heap (naming_of texts p.tables) p.tables h) words → words ≤ 65536
      → CanBePaid l.procedures l.start (costs tree)
  text_paid words bound few =
      plain_paid p c.list f l (costs tree) plain
      (all_cost p (layout_of c.list f) (length f.procedures) (costs tree) are f.procedures
      (typed ready fields counted (layout_of c.list f) (record { ram = refl; tables = refl }))
      (all_few texts tree p is h s n c given ready f from words bound few)
      (all_light texts tree p is light h s n c given ready f from words bound few) widths before)
      least_cost (all_small (costs tree) small)
