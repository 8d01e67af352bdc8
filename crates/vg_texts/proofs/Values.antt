-- The values of rows of parses: one text has one row of values.
-- Two parses of one row of tokens have the same alternative at each part, since the next token chooses it (Theory), so they
-- make the same values, from the first part to the last.
use Rattle.std.proofs.Common.{◌≡◌, ℕ, zero, suc, ◌+◌, ◌≤◌, List, [], ◌∷◌, ◌++◌, length, refl, sym, ap, ◌∙◌, subst, arith, take, drop}
use Rattle.std.proofs.Math.Seq.{take-append_seam, drop-append_seam}
use Rattle.vg_syntax.specs.declared.kind.Kind.{Kind}
use Rattle.vg_syntax.specs.declared.token.Token.{Token}
use Rattle.vg_syntax.specs.declared.grammar.Symbol.{Symbol}
use Rattle.vg_syntax.specs.declared.grammar.Symbol.TheVariants.{Sign, Use}
use Rattle.vg_syntax.specs.declared.grammar.Part.TheVariants as part
use Rattle.vg_syntax.specs.Grammar.{rules}
use Rattle.vg_syntax.specs.Parses.{Parse, Nil, Tok, Sub, leaves, Fits}
use Rattle.vg_syntax.specs.Faults.{IsText}
use Rattle.vg_syntax.specs.Made.{Value}
use Rattle.vg_syntax.specs.Tree.{Node}
use Rattle.vg_syntax.specs.Reads.{leaf, made, kids_of, values, tree_in, Reads}
use Rattle.vg_scan.proofs.Reading.{only_tokens}
use Rattle.vg_grammar.specs.Looks.{look}
use Rattle.vg_grammar.specs.Tables.{pick, chosen}
use Rattle.vg_grammar.proofs.Rows.{join}
use Rattle.vg_grammar.proofs.Theory.{Stacked, stacked_expand, expanded}
use Rattle.vg_grammar.proofs.Runs.{same_some, run_start}

pub values_join : (bytes : List ℕ) (p q : Parse) → values bytes (join p q) ≡ values bytes p ++ values bytes q
values_join bytes Nil q = refl
values_join bytes (Tok t p) q = ap (λ l. leaf bytes t ∷ l) (values_join bytes p q)
values_join bytes (Sub n a kids p) q = ap (λ l. made n (kids_of (values bytes kids)) ∷ l) (values_join bytes p q)

pub values_length : (bytes : List ℕ) (p : Parse) (s : List Symbol) → Fits p s → length (values bytes p) ≡ length s
values_length bytes Nil [] h = refl
values_length bytes Nil (x ∷ s) h = absurd h
values_length bytes (Tok t p) [] h = absurd h
values_length bytes (Tok t p) (Sign k ∷ s) h = ap suc (values_length bytes p s h.1)
values_length bytes (Tok t p) (Use n ∷ s) h = absurd h
values_length bytes (Sub n a kids p) [] h = absurd h
values_length bytes (Sub n a kids p) (Sign k ∷ s) h = absurd h
values_length bytes (Sub n a kids p) (Use o ∷ s) h = ap suc (values_length bytes p s h.4)

abbrev pub size : Parse → ℕ
size Nil = 0
size (Tok t p) = suc (size p)
size (Sub n a kids p) = suc (size kids + size p)

pub size_join : (p q : Parse) → size (join p q) ≡ size p + size q
size_join Nil q = omega arith
size_join (Tok t p) q = let h = size_join p q in omega (arith, h)
size_join (Sub n a kids p) q = let h = size_join p q in omega (arith, h)

fronts : (a b c d : List Value) → length a ≡ length c → a ++ b ≡ c ++ d → (a ≡ c) × (b ≡ d)
fronts a b c d l e = (
  sym (take-append_seam a b) ∙ ap (take (length a)) e ∙ ap (λ i. take i (c ++ d)) l ∙ take-append_seam c d,
  sym (drop-append_seam a b) ∙ ap (drop (length a)) e ∙ ap (λ i. drop i (c ++ d)) l ∙ drop-append_seam c d,
)

same_tok : (bytes : List ℕ) (t : Token) (q : Parse) (k : Kind) (s : List Symbol) (more : List Token) → Fits q (Sign k ∷ s) → t ∷ more ≡ leaves q
    → (x : Parse) × Fits x s × (more ≡ leaves x) × (values bytes q ≡ leaf bytes t ∷ values bytes x)
same_tok bytes t Nil k s more h e = absurd h
same_tok bytes t (Tok v q) k s more h e = let f : t ∷ more ≡ v ∷ leaves q = e in let g : v ≡ t = cc in (q, h.1, cc, ap (λ w. leaf bytes w ∷ values bytes q) g)
same_tok bytes t (Sub n a kids q) k s more h e = absurd h

same_nil : (bytes : List ℕ) (q : Parse) → Fits q [] → values bytes q ≡ []
same_nil bytes Nil h = refl
same_nil bytes (Tok t q) h = absurd h
same_nil bytes (Sub n a kids q) h = absurd h

same_values : (bytes : List ℕ) (fuel : ℕ) (p q : Parse) (s : List Symbol) → size p ≤ fuel → Stacked s → Fits p s → Fits q s → leaves p ≡ leaves q
    → values bytes p ≡ values bytes q
same_values bytes fuel p q [] f k h i e = same_nil bytes p h ∙ sym (same_nil bytes q i)
same_values bytes fuel Nil q (x ∷ s) f k h i e = absurd h
same_values bytes fuel (Tok t p) q (Use n ∷ s) f k h i e = absurd h
same_values bytes fuel (Tok t p) q (Sign c ∷ s) f k h i e =
    let x = same_tok bytes t q c s (leaves p) i e in
    ap (λ l. leaf bytes t ∷ l) (same_values bytes fuel p x.0 s (omega (arith, f)) k h.1 x.1 x.2) ∙ sym x.3
same_values bytes fuel (Sub n a kids p) q (Sign c ∷ s) f k h i e = absurd h
same_values bytes zero (Sub n a kids p) q (Use o ∷ s) f k h i e = absurd (omega (arith, f))
same_values bytes (suc fuel) (Sub n a kids p) q (Use o ∷ s) f k h i e =
    let x = expanded o s k (Sub n a kids p) h in
    let y = expanded o s k q i in
    let g : y.rhs ≡ x.rhs = same_some y.rhs x.rhs (chosen o (look (leaves q))) y.is_chosen (ap (chosen o) (ap look (sym e)) ∙ x.is_chosen) in
    let z = size_join x.kids x.behind in
    let w : size x.kids + size x.behind ≡ size kids + size p = ap inner (sym x.is) in
    let r = same_values bytes fuel (join x.kids x.behind) (join y.kids y.behind) (x.rhs ++ s) (omega (arith, f, z, w))
    (stacked_expand o s (pick (rules o) (look (leaves (Sub n a kids p)))) x.rhs x.is_chosen k) x.all_fit
    (subst (λ l. Fits (join y.kids y.behind) (l ++ s)) g y.all_fit) (x.same_leaves ∙ e ∙ sym y.same_leaves) in
    let lx = values_length bytes x.kids x.rhs x.kids_fit in
    let ly = values_length bytes y.kids y.rhs y.kids_fit in
    let len : length (values bytes x.kids) ≡ length (values bytes y.kids) = lx ∙ ap length (sym g) ∙ sym ly in
    let v = fronts _ _ _ _ len (sym (values_join bytes x.kids x.behind) ∙ r ∙ values_join bytes y.kids y.behind) in
    ap (values bytes) x.is ∙ ap (λ l. made o (kids_of l) ∷ values bytes x.behind) v.0 ∙ ap (λ l. made o (kids_of (values bytes y.kids)) ∷ l) v.1
    ∙ ap (values bytes) (sym y.is)
  where
    inner : Parse → ℕ
    inner Nil = 0
    inner (Tok t p) = 0
    inner (Sub n a kids p) = size kids + size p

pub one_tree : (bytes : List ℕ) (a b : Node) → Reads bytes a → Reads bytes b → a ≡ b
one_tree bytes a b x y =
    let ts = only_tokens bytes x.0 y.0 x.2 y.2 in
    let h = same_values bytes (size x.1) x.1 y.1 (Use part.Text ∷ []) (omega arith) (run_start 0).ok x.3.0 y.3.0 (x.3.1 ∙ ts ∙ sym y.3.1) in
    sym x.4 ∙ ap tree_in h ∙ y.4

pub some_tree : (bytes : List ℕ) → IsText bytes → (tree : Node) × Reads bytes tree
some_tree bytes t = (tree_in (values bytes t.2.0), (t.0, t.2.0, t.1, t.2.1, refl))
