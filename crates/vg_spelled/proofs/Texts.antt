-- The trees of texts.
use Rattle.std.proofs.Common.{ℕ, List, [], ◌∷◌, length, sym, subst}
use Rattle.std.specs.List.{AllByRecursion}
use Rattle.vg_syntax.specs.declared.grammar.Symbol.{Symbol}
use Rattle.vg_syntax.specs.declared.grammar.Symbol.TheVariants.{Sign, Use}
use Rattle.vg_syntax.specs.declared.grammar.Part.TheVariants as part
use Rattle.vg_syntax.specs.Parses.{Parse, Nil, Tok, Sub, Fits, leaves}
use Rattle.vg_syntax.specs.Tree.{Node}
use Rattle.vg_syntax.specs.Made.{Value, node_in}
use Rattle.vg_syntax.specs.Reads.{Reads, values, tree_in, kids_of, made}
use Rattle.vg_source_ranges.specs.Spelled.{AreSpelled}
use Rattle.vg_source_ranges.proofs.Bodies.{halves}
use Rattle.vg_spelled.proofs.Words.{IsTold, all_told}
use Rattle.vg_spelled.proofs.Kids.{node_free}
use Rattle.vg_spelled.proofs.Made.{Good, AreFor, makes}
use Rattle.vg_spelled.proofs.Renumbered.{spelled_so}

fit : (bytes : List ℕ) (p : Parse) (s : List Symbol) → Fits p s → AllByRecursion (IsTold bytes) (leaves p) → AreFor (length bytes) s (values bytes p)
fit bytes Nil [] h l = tt
fit bytes Nil (x ∷ s) h l = absurd h
fit bytes (Tok t p) [] h l = absurd h
fit bytes (Tok t p) (Sign k ∷ s) (e, h) (a, l) = ((a, e), fit bytes p s h l)
fit bytes (Tok t p) (Use n ∷ s) h l = absurd h
fit bytes (Sub n a kids p) [] h l = absurd h
fit bytes (Sub n a kids p) (Sign k ∷ s) h l = absurd h
fit bytes (Sub n a kids p) (Use m ∷ s) (e, rhs, f, g, h) l =
    let q = halves (IsTold bytes) (leaves kids) (leaves p) l in (
      subst (λ z. Good (length bytes) z (made n (kids_of (values bytes kids))).made) e
          (makes (length bytes) n a rhs f (values bytes kids) (fit bytes kids rhs g q.0)),
      fit bytes p s h q.1,
    )

whole : (most : ℕ) (vs : List Value) → AreFor most (Use part.Text ∷ []) vs → AreSpelled most (tree_in vs)
whole most [] h = absurd h
whole most (v ∷ []) (g, h) = spelled_so most 0 (node_in v.made) (node_free most v.made g.0)
whole most (v ∷ w ∷ vs) (g, h) = absurd h

pub reads_so : (bytes : List ℕ) (tree : Node) → Reads bytes tree → AreSpelled (length bytes) tree
reads_so bytes tree (ts, p, tokens, (fits, leaves_are), e) =
    subst (AreSpelled (length bytes)) e
    (whole (length bytes) (values bytes p)
    (fit bytes p (Use part.Text ∷ []) fits (subst (AllByRecursion (IsTold bytes)) (sym leaves_are) (all_told bytes ts 0 tokens))))
