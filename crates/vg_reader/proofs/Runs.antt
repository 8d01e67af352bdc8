-- The steps of a parse make its values.
use Rattle.std.proofs.Common.{◌≡◌, ℕ, suc, ◌-◌, Err, subst, List, [], ◌∷◌, ◌++◌, length, refl, sym, ap, ◌∙◌, arith, append_assoc, append-nil}
use Rattle.std.proofs.Common.{length-append, take, drop}
use Rattle.std.proofs.Math.Seq.{take-append_seam, drop-append_seam}
use Rattle.vg_base.specs.declared.refusal.Refusal.TheVariants.{Fault}
use Rattle.vg_syntax.specs.declared.token.Token.{Token}
use Rattle.vg_syntax.specs.declared.grammar.Part.{Part}
use Rattle.vg_syntax.specs.Parses.{Parse, Nil, Tok, Sub, leaves, Sentence, Shallow}
use Rattle.vg_syntax.specs.Made.{Value}
use Rattle.vg_syntax.specs.Faults.{IsText}
use Rattle.vg_syntax.specs.Tokens.{IsTokens}
use Rattle.vg_syntax.specs.Reads.{leaf, made, kids_of, values, tree_in, Reads}
use Rattle.vg_grammar.specs.declared.derivation.Step.{Step}
use Rattle.vg_grammar.specs.declared.derivation.Step.TheVariants.{Make}
use Rattle.vg_grammar.specs.Derivation.{width, steps_of}
use Rattle.vg_grammar.specs.Derivation.{AreSteps, Derived}
use Rattle.vg_grammar.specs.declared.derivation.Stop.{Stop}
use Rattle.vg_grammar.specs.declared.derivation.Stop.TheVariants as stop
use Rattle.vg_reader.specs.declared.fault.ReadFault.{ReadFault}
use Rattle.vg_reader.specs.Derivation.{reduced, run, fault_at, Derives}

values_width : (bytes : List ℕ) (p : Parse) → length (values bytes p) ≡ width p
values_width bytes Nil = refl
values_width bytes (Tok t p) = ap suc (values_width bytes p)
values_width bytes (Sub n a kids p) = ap suc (values_width bytes p)

reduced_kids : (n : Part) (c : ℕ) (vs ks : List Value) → length ks ≡ c → reduced n c (vs ++ ks) ≡ vs ++ made n (kids_of ks) ∷ []
reduced_kids n c vs ks h =
    let l = length-append vs ks in
    let e : length (vs ++ ks) - c ≡ length vs = omega (arith, l, h) in
    ap (λ i. take i (vs ++ ks) ++ made n (kids_of (drop i (vs ++ ks))) ∷ []) e
    ∙ ap (λ l. l ++ made n (kids_of (drop (length vs) (vs ++ ks))) ∷ []) (take-append_seam vs ks)
    ∙ ap (λ l. vs ++ made n (kids_of l) ∷ []) (drop-append_seam vs ks)

run_parse : (bytes : List ℕ) (p : Parse) (ts : List Token) (ss : List Step) (vs : List Value)
    → run bytes (steps_of p ++ ss) (leaves p ++ ts) vs ≡ run bytes ss ts (vs ++ values bytes p)
run_parse bytes Nil ts ss vs = ap (run bytes ss ts) (sym (append-nil vs))
run_parse bytes (Tok t p) ts ss vs =
    run_parse bytes p ts ss (vs ++ leaf bytes t ∷ []) ∙ ap (run bytes ss ts) (append_assoc vs (leaf bytes t ∷ []) (values bytes p))
run_parse bytes (Sub n a kids p) ts ss vs =
    ap (λ l. run bytes l ((leaves kids ++ leaves p) ++ ts) vs) (append_assoc (steps_of kids) (Make n (width kids) ∷ steps_of p) ss)
    ∙ ap (λ l. run bytes (steps_of kids ++ (Make n (width kids) ∷ (steps_of p ++ ss))) l vs) (append_assoc (leaves kids) (leaves p) ts)
    ∙ run_parse bytes kids (leaves p ++ ts) (Make n (width kids) ∷ (steps_of p ++ ss)) vs
    ∙ ap (run bytes (steps_of p ++ ss) (leaves p ++ ts)) (reduced_kids n (width kids) vs (values bytes kids) (values_width bytes kids))
    ∙ run_parse bytes p ts ss (vs ++ made n (kids_of (values bytes kids)) ∷ [])
    ∙ ap (run bytes ss ts) (append_assoc vs (made n (kids_of (values bytes kids)) ∷ []) (values bytes p))

pub run_whole : (bytes : List ℕ) (p : Parse) → run bytes (steps_of p) (leaves p) [] ≡ values bytes p
run_whole bytes p =
    ap (λ l. run bytes l (leaves p) []) (sym (append-nil (steps_of p)))
    ∙ ap (λ l. run bytes (steps_of p ++ []) l []) (sym (append-nil (leaves p)))
    ∙ run_parse bytes p [] [] []

pub derived : (bytes : List ℕ) (ts : List Token) (steps : List Step) → IsTokens bytes ts → AreSteps ts steps × Shallow ts
    → IsText bytes × Reads bytes (tree_in (run bytes steps ts []))
derived bytes ts steps h a =
    let p = a.0.0 in
    let e : values bytes p ≡ run bytes steps ts [] = sym (run_whole bytes p) ∙ ap (λ l. run bytes (steps_of p) l []) a.0.1.1
    ∙ ap (λ s. run bytes s ts []) a.0.2 in
    ((ts, h, (p, a.0.1), a.1), (ts, p, h, a.0.1, ap tree_in e))

pub sentence : (ts : List Token) (steps : List Step) → AreSteps ts steps × Shallow ts → Sentence ts
sentence ts steps a = (a.0.0, a.0.1)

refused_there : (bytes : List ℕ) (ts : List Token) (stop : Stop) → IsTokens bytes ts → Derived ts (Err (Fault stop))
    → Derives bytes (Err (Fault (fault_at bytes ts stop)))
refused_there bytes ts (stop.NoTree i) h d = (ts, i, h, d.0, d.1, refl)
refused_there bytes ts (stop.TooDeep i) h d = (ts, i, h, d, refl)

-- a fault of the tokens is one of the bytes
pub refused : (bytes : List ℕ) (ts us vs : List Token) (stop : Stop) (found : ReadFault) → IsTokens bytes ts → us ≡ ts → vs ≡ ts
    → Derived us (Err (Fault stop)) → found ≡ fault_at bytes vs stop → Derives bytes (Err (Fault found))
refused bytes ts us vs stop found h e g d k =
    let there = refused_there bytes ts stop h (subst (λ l. Derived l (Err (Fault stop))) e d) in
    subst (λ f. Derives bytes (Err (Fault f))) (sym (k ∙ ap (λ l. fault_at bytes l stop) g)) there
