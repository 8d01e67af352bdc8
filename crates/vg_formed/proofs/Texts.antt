-- The trees of texts.
use Rattle.std.proofs.Common.{ℕ, List, [], ◌∷◌, subst}
use Rattle.vg_syntax.specs.declared.grammar.Symbol.{Symbol}
use Rattle.vg_syntax.specs.declared.grammar.Symbol.TheVariants.{Sign, Use}
use Rattle.vg_syntax.specs.declared.grammar.Part.TheVariants as part
use Rattle.vg_syntax.specs.Parses.{Parse, Nil, Tok, Sub, Fits}
use Rattle.vg_syntax.specs.Tree.{Node}
use Rattle.vg_syntax.specs.Made.{Value, node_in}
use Rattle.vg_syntax.specs.Reads.{Reads, values, tree_in, kids_of, made}
use Rattle.vg_source_counts.specs.Forms.{IsFormed}
use Rattle.vg_formed.proofs.Parts.{Good, AreFor, makes}
use Rattle.vg_formed.proofs.Renumbered.{same_formed}

fit : (bytes : List ℕ) (p : Parse) (s : List Symbol) → Fits p s → AreFor s (values bytes p)
fit bytes Nil [] h = tt
fit bytes Nil (x ∷ s) h = absurd h
fit bytes (Tok t p) [] h = absurd h
fit bytes (Tok t p) (Sign k ∷ s) (e, h) = (e, fit bytes p s h)
fit bytes (Tok t p) (Use n ∷ s) h = absurd h
fit bytes (Sub n a kids p) [] h = absurd h
fit bytes (Sub n a kids p) (Sign k ∷ s) h = absurd h
fit bytes (Sub n a kids p) (Use m ∷ s) (e, rhs, f, g, h) =
    (subst (λ z. Good z (made n (kids_of (values bytes kids))).made) e (makes n a rhs f (values bytes kids) (fit bytes kids rhs g)), fit bytes p s h)

whole : (vs : List Value) → AreFor (Use part.Text ∷ []) vs → IsFormed (tree_in vs)
whole [] h = absurd h
whole (v ∷ []) (g, h) = same_formed 0 (node_in v.made) g
whole (v ∷ w ∷ vs) (g, h) = absurd h

pub reads_so : (bytes : List ℕ) (tree : Node) → Reads bytes tree → IsFormed tree
reads_so bytes tree (ts, p, tokens, (fits, leaves), e) = subst IsFormed e (whole (values bytes p) (fit bytes p (Use part.Text ∷ []) fits))
