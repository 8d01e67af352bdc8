-- The methods of a legal text, number by number.
use Rattle.std.proofs.Common.{◌≡◌, ℕ, suc, ◌+◌, false, List, [], ◌∷◌, ◌++◌, Option, None, flat_map, refl, sym, subst}
use Rattle.std.proofs.lemmas.Grind.{flat_map-append}
use Rattle.std.specs.Prelude.{◌==◌}
use Rattle.vg_meaning.specs.Code.{Code}
use Rattle.vg_code_counts.specs.Counted.{Counted}
use Rattle.vg_syntax.specs.Tree.{Node, Then, Text, ClassDecl, ComponentDecl, FieldDecl, MethodDecl, ConstructorDecl}
use Rattle.vg_source.specs.Names.{Name}
use Rattle.vg_source.specs.Types.{NoType}
use Rattle.vg_source.specs.Steps.{Step, Target, Method, Construct, Start, Routine}
use Rattle.vg_source.specs.Declared.{written_type}
use Rattle.vg_source.specs.Resolved.{Owner, InClass, InComponent, Fresh, no_names}
use Rattle.vg_source.specs.Program.{declarations_of, source_of, scope_of, methods_in, declared_routines, routines_in, next_number, number_at, with_numbers}
use Rattle.vg_rules.specs.Breach.{asks}
use Rattle.vg_rules.specs.Bodies.{breach, initialiser_keeps}
use Rattle.vg_rules.specs.Legal.{body_of, outside, super_keeps, bodies_breach, written_breach, Legal}
use Rattle.vg_rules.specs.Names.{names_breach, programs, classes_breach}
use Rattle.vg_rules.specs.Signatures.{signatures_breach}
use Rattle.vg_rules.specs.Inherited.{inherited_breach}
use Rattle.vg_rules.specs.Entries.{entries_breach}
use Rattle.vg_rules.specs.Counts.{in_row, members_at}
use Rattle.vg_method_sizes.specs.Sizes.{Size, size_at, sizes_in, sizes, if_method, methods_among}
use Rattle.vg_source_counts.specs.Measures.{source_measures}
use Rattle.vg_source_counts.specs.Forms.{HaveBodies, IsFormed}
use Rattle.vg_source_counts.specs.Counts.{AreCounted}
use Rattle.vg_source_counts.proofs.Bodies.{kept, bodies}

beside : (rs qs : List Routine) (ss ts : List Size) → AreCounted rs ss → AreCounted qs ts → AreCounted (rs ++ qs) (ss ++ ts)
beside [] qs [] ts e f = f
beside (r ∷ rs) qs (s ∷ ss) ts (d, e) f = (d, beside rs qs ss ts e f)
beside [] qs (s ∷ ss) ts e f = absurd e
beside (r ∷ rs) qs [] ts e f = absurd e

-- numbers make no difference
numbered : (n : ℕ) (rs : List Routine) (ss : List Size) → AreCounted (methods_among rs) ss → AreCounted (methods_among (with_numbers n rs)) ss
numbered n [] ss e = e
numbered n (q ∷ qs) ss e = by q.target (record q { number = number_at n q.target }) refl ss e (λ m ts. numbered m qs ts)
  where
    by : (t : Target) (p : Routine) → p.body ≡ q.body → (ss : List Size) → AreCounted (if_method t q ++ methods_among qs) ss
        → ((m : ℕ) (ts : List Size) → AreCounted (methods_among qs) ts → AreCounted (methods_among (with_numbers m qs)) ts)
        → AreCounted (if_method t p ++ methods_among (with_numbers (next_number n t) qs)) ss
    by (Method c x) p f [] e go = absurd e
    by (Method c x) p f (s ∷ ss) (d, e) go =
        (subst (λ (z : Code Step). Counted source_measures (s.nodes + 2) false 0 z 0 0) (sym f) d, go (suc n) ss e)
    by (Construct c) p f ss e go = go n ss e
    by (Start k) p f ss e go = go n ss e

members : (ds : Node) (o : Owner) (above : Option Name) (c : Name) (ms : Node) → bodies_breach ds o above ms ≡ None → HaveBodies ms
    → AreCounted (methods_among (methods_in ds o c ms)) (flat_map size_at (in_row ms))
members ds o above c (Then (FieldDecl at x t e) rest) q h =
    let r = kept (breach ds outside e Fresh no_names) _ q in
    let s = kept (asks (initialiser_keeps ds outside (written_type t) e no_names) 21 at) _ r.1 in members ds o above c rest s.1 h
members ds o above c (Then (MethodDecl at x ps t body) rest) q (g, h) =
    let r = kept (breach ds (body_of o (written_type t)) body Fresh (scope_of ps)) _ q in
    (bodies ds (body_of o (written_type t)) body (scope_of ps) r.0 g, members ds o above c rest r.1 h)
members ds o above c (Then (ConstructorDecl at ps calls args body) rest) q h =
    let r = kept (breach ds outside args Fresh (scope_of ps)) _ q in
    let s = kept (asks (super_keeps ds above args ps) 10 at) _ r.1 in
    let t = kept (breach ds (body_of o NoType) body Fresh (scope_of ps)) _ s.1 in members ds o above c rest t.1 h
members ds o above c (Then _ rest) q h = absurd h
members ds o above c _ q h = tt

declared : (ds d rest : Node) → written_breach ds (Then d rest) ≡ None → IsFormed d
    → AreCounted (methods_among (declared_routines ds d)) (flat_map size_at (members_at d)) × (written_breach ds rest ≡ None)
declared ds (ClassDecl at c above ms) rest q h =
    let r = kept (bodies_breach ds (InClass c) above ms) _ q in (members ds (InClass c) above c ms r.0 h, r.1)
declared ds (ComponentDecl at c ms) rest q h =
    let r = kept (bodies_breach ds (InComponent c) None ms) _ q in (members ds (InComponent c) None c ms r.0 h, r.1)
declared ds _ rest q h = (tt, q)

declarations : (ds rest : Node) → written_breach ds rest ≡ None → IsFormed rest → AreCounted (methods_among (routines_in ds rest)) (sizes_in rest)
declarations ds (Then d rest) q (h, g) =
    let x = declared ds d rest q h in
    subst (λ z. AreCounted z (sizes_in (Then d rest)))
    (sym (flat_map-append (λ (r : Routine). if_method r.target r) (declared_routines ds d) (routines_in ds rest)))
    (subst (AreCounted (methods_among (declared_routines ds d) ++ methods_among (routines_in ds rest)))
    (sym (flat_map-append size_at (members_at d) (flat_map members_at (in_row rest))))
    (beside (methods_among (declared_routines ds d)) (methods_among (routines_in ds rest)) (flat_map size_at (members_at d)) (sizes_in rest)
    x.0 (declarations ds rest x.1 g)))
declarations ds _ q h = tt

of_text : (text : Node) → Legal text → IsFormed text
    → AreCounted (methods_among (routines_in (declarations_of text) (declarations_of text))) (sizes text)
of_text (Text at ds) legal h =
    let a = kept (names_breach [] ds) _ legal in
    let b = kept (asks (programs ds == 1) 2 at) _ a.1 in
    let c = kept (classes_breach ds ds) _ b.1 in
    let d = kept (signatures_breach ds ds) _ c.1 in
    let e = kept (inherited_breach ds ds) _ d.1 in
    let f = kept (entries_breach ds ds) _ e.1 in declarations ds ds f.1 h
of_text _ legal h = tt

pub methods_counted : (text : Node) → Legal text → IsFormed text → AreCounted (methods_among (source_of text).routines) (sizes text)
methods_counted text legal h = numbered 0 (routines_in (declarations_of text) (declarations_of text)) (sizes text) (of_text text legal h)
