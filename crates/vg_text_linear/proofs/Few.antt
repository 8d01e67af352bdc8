-- A live method of a text within the bound on code has few nodes.
use Rattle.std.proofs.Common.{◌≡◌, refl, sym, ap, subst, ◌∙◌, arith, ℕ, zero, suc, ◌≤◌, List, [], ◌∷◌, map, Some, slice_get}
use Rattle.std.proofs.lemmas.Option.{same_Some}
use Rattle.vg_syntax.specs.Tree.{Node}
use Rattle.vg_source.specs.Program.{source_of}
use Rattle.vg_method_sizes.specs.Sizes.{Size, sizes}
use Rattle.vg_core.specs.declared.heap.Heap.{Heap}
use Rattle.vg_core.specs.declared.member.Member.TheVariants.{Method as AMethod}
use Rattle.vg_core.specs.declared.program.Method.{Method}
use Rattle.vg_core.specs.Naming.{Naming, named_heap, naming_of}
use Rattle.vg_core.specs.Program.{Program}
use Rattle.vg_sound.specs.Good.{HasTypedHeap}
use Rattle.vg_written.specs.Written.{parts_of}
use Rattle.vg_live.specs.Rules.{Live}
use Rattle.vg_live_source.specs.Rules as source_rules
use Rattle.vg_live_named.specs.Members.{named_member}
use Rattle.vg_live_named.proofs.Forth.{forth}
use Rattle.vg_calls_named.proofs.Forth.{types_at}
use Rattle.vg_types_named.specs.Programs.{IsProgramOf}
use Rattle.vg_code_bound.specs.Nodes.{IsCodeBound}
use Rattle.vg_code_bound.proofs.Within.{within}

-- where two lists are the same number by number, the second one has the number that the first has at a place
placed : (ms : List Method) (ss : List Size) (i : ℕ) (y : Method) → map (λ (m : Method). m.nodes) ms ≡ map (λ (s : Size). s.nodes) ss
    → slice_get ms i ≡ Some y → (s : Size) × (slice_get ss i ≡ Some s) × (s.nodes ≡ y.nodes)
placed [] ss i y same e = cc
placed (m ∷ ms) [] i y same e = cc
placed (m ∷ ms) (s ∷ ss) zero y same e =
    let here : m.nodes ≡ s.nodes = cc in (s, refl, sym here ∙ ap (λ (z : Method). z.nodes) (same_Some m y e))
placed (m ∷ ms) (s ∷ ss) (suc i) y same e =
    let rest : map (λ (x : Method). x.nodes) ms ≡ map (λ (x : Size). x.nodes) ss = cc in placed ms ss i y rest e

module _ (texts : List (List ℕ)) (tree : Node) (p : Program) (is : IsProgramOf texts tree p) (h : Heap) (heap : HasTypedHeap p.tables h) where
  abbrev n : Naming
  n = naming_of texts p.tables

  live_named : (m : ℕ) → Live p h (Some (AMethod m)) → source_rules.Live (source_of tree) (named_heap n p.tables h) (Some (named_member n (AMethod m)))
  live_named m a =
      subst (λ q. source_rules.Live q (named_heap n p.tables h) (Some (named_member n (AMethod m)))) (sym is.named)
      (forth n p is.told is.typed h heap.0 heap.1 (Some (AMethod m)) a)

  pub few_nodes : (words : ℕ) → IsCodeBound tree (named_heap n p.tables h) words → words ≤ 65536 → (m : ℕ) (y : Method) → slice_get p.tables.methods m ≡ Some y
      → Live p h (Some (AMethod m)) → y.nodes ≤ 961
  few_nodes words bound few m y there a =
      let (s, sized, nodes) = placed p.tables.methods (sizes tree) m y is.nodes there in
      let declared = types_at texts tree p is.named is.typed is.told (parts_of is.written) h heap.0 heap.1 m y there in
      let some = within tree (named_heap n p.tables h) words m _ s bound declared sized (live_named m a) in omega (arith, few, nodes, some)
