-- The procedures of a text within the bound on code are light, and so they are short.
use Rattle.std.proofs.Common.{◌≡◌, sym, ap, subst, ◌∙◌, arith, ℕ, ◌+◌, ◌*◌, ◌≤◌, List, [], ◌∷◌, map, Some, None, slice_get}
use Rattle.std.specs.List.{AllByRecursion}
use Rattle.vg_syntax.specs.Tree.{Node}
use Rattle.vg_codes.specs.Codes.{Codes}
use Rattle.vg_core.specs.declared.heap.Heap.{Heap}
use Rattle.vg_core.specs.declared.program.Method.{Method}
use Rattle.vg_core.specs.declared.program.Target.TheVariants.{Run}
use Rattle.vg_core.specs.Program.{Body, Program, Signature, body_of, method_signature, signature_of}
use Rattle.vg_firm.specs.Held.{procedure_of}
use Rattle.vg_firm.specs.Program.{Procedure}
use Rattle.vg_flat_sizes.specs.Weights.{flat_weight}
use Rattle.vg_flatten_shapes.specs.declared.layout.Layout.{Layout as Placed}
use Rattle.vg_live.specs.declared.live_set.LiveSet.{LiveSet}
use Rattle.vg_live.specs.Sets.{flat}
use Rattle.vg_live.specs.Uses.{steps_of, steps_in}
use Rattle.vg_number.specs.declared.numbers.Numbers.{Numbers}
use Rattle.vg_packing.specs.Layout.{Layout}
use Rattle.vg_packing.specs.Pass.{move, packed}
use Rattle.vg_pack_bodies.specs.Procedures.{packed_here, signature}
use Rattle.vg_pack_code.specs.Plans.{moved}
use Rattle.vg_number.specs.Numbering.{kinds_of}
use Rattle.vg_packed.proofs.Moves.{same_move, same_unpaired}
use Rattle.vg_packed.specs.Plans.{planned}
use Rattle.vg_core.specs.declared.step.Step.{Step}
use Rattle.vg_place.specs.declared.placing.Columns.{Columns}
use Rattle.vg_packed.proofs.Live.{only_methods}
use Rattle.vg_packed.specs.declared.program.FirmProgram.{FirmProgram}
use Rattle.vg_packed.specs.Given.{IsGiven}
use Rattle.vg_packed.specs.Packed.{IsPackedFrom}
use Rattle.vg_packed.specs.Ready.{IsReady}
use Rattle.vg_packed_small.proofs.Procedures.{some_codes}
use Rattle.vg_packed_suits.proofs.Bodies.{each_packed}
use Rattle.vg_packed_suits.specs.Bodies.{IsTypedOf}
use Rattle.vg_types_named.specs.Programs.{IsProgramOf}
use Rattle.vg_core.specs.Naming.{named_heap, naming_of}
use Rattle.vg_code_bound.specs.Nodes.{IsCodeBound}
use Rattle.vg_linear_short.specs.Short.{IsShort}
use Rattle.vg_text_linear.proofs.Few.{few_nodes}

-- what the code that is packed of a method weighs at most, by its nodes
abbrev pub AreLight : List (List ℕ) → Node → Program → Type 0
AreLight texts tree p =
    (m : ℕ) (y : Method) (g : Signature) (b : Body) → slice_get p.tables.methods m ≡ Some y → signature_of p.tables (Run m) ≡ Some g
    → body_of p (Run m) ≡ Some b → (l : Layout) (k : Codes) → flat_weight (packed p.tables l k m g b).body ≤ 28 * y.nodes

-- a procedure weighs little
abbrev pub IsLight : Procedure → Type 0
IsLight m = flat_weight m.body ≤ 26908

module _ (texts : List (List ℕ)) (tree : Node) (p : Program) (is : IsProgramOf texts tree p) (light : AreLight texts tree p) (h : Heap) (s : LiveSet)
    (n : Numbers) (c : Columns) (given : IsGiven p h s n c) (ready : IsReady p h) (f : FirmProgram) (from : IsPackedFrom p h s n c f) (words : ℕ)
    (bound : IsCodeBound tree (named_heap (naming_of texts p.tables) p.tables h) words) (few : words ≤ 65536) where
  abbrev l : Layout
  l = planned h n from.plan

  -- what a method becomes is what the pass makes of it
  same_packed : (m : ℕ) (y : Method) (b : Body) → slice_get p.methods m ≡ Some b
      → packed_here p.tables n from.plan m y b ≡ packed p.tables l some_codes m (signature y) b
  same_packed m y b eb =
      ap (λ z. record (packed p.tables l some_codes m (signature y) b) { body = z })
      (sym (same_unpaired (move p.tables l some_codes) (moved p.tables n from.plan) b.code None tt
      (λ i q e. same_move p.tables (kinds_of h) n from.plan some_codes q (ready.plain.steps m i q (there i q e)) (ready.few_arguments m i q (there i q e)))))
    where
      there : (i : ℕ) (q : Step) → slice_get (steps_in (Some b)) i ≡ Some q → slice_get (steps_of p m) i ≡ Some q
      there i q e = ap (λ o. slice_get (steps_in o) i) eb ∙ e

  light_method : (m q : ℕ) (y : Method) (b : Body) → slice_get p.tables.methods m ≡ Some y → slice_get p.methods m ≡ Some b
      → flat (slice_get from.plan.procedures m) ≡ Some q → IsLight (packed_here p.tables n from.plan m y b)
  light_method m q y b ey eb e =
      let nodes = few_nodes texts tree p is h given.heap words bound few m y ey (only_methods p h s n c f given ready from some_codes m q e) in
      let weight = light m y (signature y) b ey (ap method_signature ey) eb l some_codes in
      subst IsLight (sym (same_packed m y b eb)) (omega (arith, nodes, weight))

  pub all_light : AllByRecursion IsLight (map procedure_of f.procedures)
  all_light =
      subst (AllByRecursion IsLight) (sym from.procedures)
      (each_packed p.tables n from.plan IsLight 0 p.tables.methods p.methods
      (λ i q y b ey eb e. let z : i + 0 ≡ i = omega arith in
      subst (λ w. IsLight (packed_here p.tables n from.plan w y b)) (sym z)
      (light_method i q y b ey eb (ap (λ w. flat (slice_get from.plan.procedures w)) (sym z) ∙ e))))

-- what is typed and light is short
pub all_short : (p : Program) (lay : Placed) (ms : List Procedure) → AllByRecursion (IsTypedOf p lay) ms → AllByRecursion IsLight ms
    → AllByRecursion (IsShort lay) ms
all_short p lay [] t l = tt
all_short p lay (m ∷ ms) (t, ts) (l, ls) =
    let few = t.typed.few in (record { typed = t.typed; short = omega (arith, few, l) }, all_short p lay ms ts ls)
