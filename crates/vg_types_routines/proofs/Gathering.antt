-- How far declarations are passed. The bodies so far, with those of the rest behind them, are those of all.
use Rattle.std.proofs.Common.{◌≡◌, ℕ, ◌+◌, List, [], ◌∷◌, ◌++◌, None, refl, sym, ap, ◌∙◌, subst}
use Rattle.std.proofs.lemmas.List.{append_assoc, append-nil}
use Rattle.vg_syntax.specs.Tree.{Node, Then, ClassDecl, ComponentDecl}
use Rattle.vg_syntax.specs.Numbering.{count_nodes, numbered}
use Rattle.vg_tree.specs.declared.node.Node as held
use Rattle.vg_tree.specs.Held.{node_at, row_at}
use Rattle.vg_rules.specs.Legal.{written_breach}
use Rattle.vg_core.specs.declared.program.Body.{Body}
use Rattle.vg_types_tables.specs.declared.declared.Declared.{Declared}
use Rattle.vg_types_tables.specs.Views.{declarations_at}
use Rattle.vg_types_routines.specs.declared.pass.Bodies.{Bodies}
use Rattle.vg_types_routines.specs.Asked.{one_breach}
use Rattle.vg_types_routines.specs.Bodies.{AllBodies}
use Rattle.vg_types_routines.specs.Homes.{Gains}
use Rattle.vg_types_routines.proofs.Asking.{Writing, writing_starts, declaration_kept, behind}

module _ (texts : List (List ℕ)) (root : held.Node) (d : Declared) where
  -- the bodies of the rest go behind those so far
  abbrev pub Gathered : (all rest : Node) (b : Bodies) → Type 0
  Gathered all rest b = (ms ks ss : List Body) → AllBodies texts root d rest ms ks ss
      → AllBodies texts root d all (b.methods.items ++ ms) (b.makings.items ++ ks) (b.starts.items ++ ss)

  -- with the rest, all declarations are passed
  pub record Gathering (all : List held.Node) (next : ℕ) (rest : List held.Node) (b : Bodies) : Type 0 where
    pub asked : Writing (declarations_at texts root) texts all next rest
    pub are : Gathered (numbered 1 (row_at texts all)) (numbered next (row_at texts rest)) b

  -- rows in front of others
  moved : (all : Node) (a b c x y z : List Body) → a ≡ x → b ≡ y → c ≡ z → AllBodies texts root d all a b c → AllBodies texts root d all x y z
  moved all a b c x y z e f g h =
      subst (λ v. AllBodies texts root d all x y v) g (subst (λ v. AllBodies texts root d all x v c) f (subst (λ v. AllBodies texts root d all v b c) e h))

  one_more : (xs ys rest : List Body) (y : Body) → ys ≡ xs ++ y ∷ [] → xs ++ (y ∷ rest) ≡ ys ++ rest
  one_more xs ys rest y e = sym (append_assoc xs (y ∷ []) rest) ∙ ap (λ z. z ++ rest) (sym e)

  more : (xs ys own rest : List Body) → ys ≡ xs ++ own → xs ++ (own ++ rest) ≡ ys ++ rest
  more xs ys own rest e = sym (append_assoc xs own rest) ∙ ap (λ z. z ++ rest) (sym e)

  same : (xs ys rest : List Body) → ys ≡ xs → xs ++ rest ≡ ys ++ rest
  same xs ys rest e = ap (λ z. z ++ rest) (sym e)

  gathered_on : (all n rest : Node) (old new : Bodies) → Gathered all (Then n rest) old → Gains texts root d n old new → Gathered all rest new
  gathered_on all (ClassDecl at x above members) rest old new h a ms ks ss g =
      moved all _ _ _ _ _ _ (more old.methods.items new.methods.items a.own ms a.methods)
      (one_more old.makings.items new.makings.items ks a.making a.makings)
      (same old.starts.items new.starts.items ss a.starts)
      (h (a.own ++ ms) (a.making ∷ ks) ss (a.own, ms, a.making, ks, refl, refl, a.are, g))
  gathered_on all (ComponentDecl at x members) rest old new h a ms ks ss g =
      moved all _ _ _ _ _ _ (more old.methods.items new.methods.items a.own ms a.methods) (same old.makings.items new.makings.items ks a.makings)
      (one_more old.starts.items new.starts.items ss a.start a.starts)
      (h (a.own ++ ms) ks (a.start ∷ ss) (a.own, ms, a.start, ss, refl, refl, a.are, g))
  gathered_on all _ rest old new h a ms ks ss g =
      moved all _ _ _ _ _ _ (same old.methods.items new.methods.items ms a.methods) (same old.makings.items new.makings.items ks a.makings)
      (same old.starts.items new.starts.items ss a.starts) (h ms ks ss g)

  pub gathering_starts : (all : List held.Node) (b : Bodies) → b.methods.items ≡ [] → b.makings.items ≡ [] → b.starts.items ≡ [] → Gathering all 1 all b
  gathering_starts all b e f g = record {
    asked = writing_starts (declarations_at texts root) texts all;
    are = λ ms ks ss h. moved (numbered 1 (row_at texts all)) ms ks ss _ _ _ (ap (λ z. z ++ ms) (sym e)) (ap (λ z. z ++ ks) (sym f))
        (ap (λ z. z ++ ss) (sym g)) h;
  }

  pub gathering_on : (all : List held.Node) (next after : ℕ) (n : held.Node) (rest : List held.Node) (old new : Bodies)
      → Gathering all next (n ∷ rest) old → one_breach (declarations_at texts root) (numbered next (node_at texts n)) ≡ None
      → Gains texts root d (numbered next (node_at texts n)) old new → after ≡ next + count_nodes (node_at texts n) → Gathering all after rest new
  gathering_on all next after n rest old new g k a e = record {
    asked = declaration_kept (declarations_at texts root) texts all next after n rest g.asked k e;
    are = subst (λ z. Gathered (numbered 1 (row_at texts all)) (numbered z (row_at texts rest)) new) (sym e)
        (gathered_on (numbered 1 (row_at texts all)) (numbered next (node_at texts n)) (behind texts next n rest) old new g.are a);
  }

  pub gathering_ends : (all : List held.Node) (next : ℕ) (b : Bodies) → Gathering all next [] b
      → (written_breach (declarations_at texts root) (numbered 1 (row_at texts all)) ≡ None)
      × AllBodies texts root d (numbered 1 (row_at texts all)) b.methods.items b.makings.items b.starts.items
  gathering_ends all next b g = (
    g.asked.breach,
    moved (numbered 1 (row_at texts all)) _ _ _ _ _ _ (append-nil b.methods.items) (append-nil b.makings.items) (append-nil b.starts.items)
        (g.are [] [] [] (refl, refl, refl)),
  )
