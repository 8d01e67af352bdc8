-- The locals of the methods of a source program, in order of the text.
use Rattle.std.proofs.Common.{◌≡◌, ℕ, suc, ◌+◌, List, [], ◌∷◌, ◌++◌, map, flat_map, length, drop, refl, sym, ap, ◌∙◌, arith}
use Rattle.std.proofs.lemmas.List.{map-append, length-drop, length-reverse, length-map}
use Rattle.std.proofs.lemmas.Grind.{flat_map-append}
use Rattle.vg_syntax.specs.Tree.{Param, Node, Then, Text, ClassDecl, ComponentDecl, MethodDecl}
use Rattle.vg_source.specs.Names.{Name}
use Rattle.vg_source.specs.Values.{default}
use Rattle.vg_source.specs.Steps.{Target, Method, Construct, Start, Routine}
use Rattle.vg_source.specs.Nodes.{count_locals}
use Rattle.vg_source.specs.Declared.{written_type}
use Rattle.vg_source.specs.Resolved.{Owner, InClass, InComponent, Scope, Fresh, no_names, declare, resolved}
use Rattle.vg_source.specs.Program.{declarations_of, source_of, with_params, scope_of, defaults_of, methods_in, declared_routines, routines_in}
use Rattle.vg_source.specs.Program.{next_number, number_at, with_numbers}
use Rattle.vg_rules.specs.Counts.{in_row, members_at}
use Rattle.vg_method_sizes.specs.Sizes.{Size, size_at, sizes_in, sizes, if_method, methods_among}
use Rattle.vg_method_locals.specs.Among.{LocalsAmongStatements, InMethods}
use Rattle.vg_method_locals.proofs.Counting.{extent}
use Rattle.vg_method_locals.proofs.Grown.{grown}

abbrev others_of : List Routine → List ℕ
others_of rs = map (λ r. length r.others) (methods_among rs)

abbrev counted : List Size → List ℕ
counted ss = map (λ s. s.locals) ss

-- ---- one method

with_all : (ls : Scope) (ps : List Param) → extent (with_params ls ps) ≡ extent ls + length ps
with_all ls [] = omega arith
with_all ls (p ∷ ps) =
    let new = declare p.name (written_type p.type) ls in
    let e = with_all new ps in
    let k : extent new ≡ suc (extent ls) = refl in
    omega (arith, e, k)

all_defaults : (ls : Scope) → length (defaults_of ls) ≡ extent ls
all_defaults ls = length-reverse (map default ls.declared) ∙ length-map ls.declared default

behind : (ds : Node) (o : Owner) (ps : List Param) (body : Node) → LocalsAmongStatements body
    → length (drop (length ps) (defaults_of (resolved ds o body Fresh (scope_of ps)).scope)) ≡ count_locals body
behind ds o ps body h =
    let ls = (resolved ds o body Fresh (scope_of ps)).scope in
    let d = length-drop (length ps) (defaults_of ls) in
    let a = all_defaults ls in
    let g = grown ds o body (scope_of ps) h in
    let p = with_all no_names ps in
    omega (arith, d, a, g, p)

-- ---- all of them

numbers_aside : (n : ℕ) (rs : List Routine) → others_of (with_numbers n rs) ≡ others_of rs
numbers_aside n [] = refl
numbers_aside n (q ∷ qs) = by q.target (record q { number = number_at n q.target }) refl (λ m. numbers_aside m qs)
  where
    by : (t : Target) (p : Routine) → p.others ≡ q.others → ((m : ℕ) → others_of (with_numbers m qs) ≡ others_of qs)
        → map (λ (r : Routine). length r.others) (if_method t p ++ methods_among (with_numbers (next_number n t) qs))
        ≡ map (λ (r : Routine). length r.others) (if_method t q ++ methods_among qs)
    by (Method c x) p f go = ap (λ z. length z ∷ others_of (with_numbers (suc n) qs)) f ∙ ap (λ z. length q.others ∷ z) (go (suc n))
    by (Construct c) p f go = go n
    by (Start k) p f go = go n

of_two : (a b : List Routine) → others_of (a ++ b) ≡ others_of a ++ others_of b
of_two a b =
    ap (map (λ (r : Routine). length r.others)) (flat_map-append (λ (r : Routine). if_method r.target r) a b)
    ∙ map-append (λ (r : Routine). length r.others) (methods_among a) (methods_among b)

members : (ds : Node) (o : Owner) (c : Name) (ms : Node) → InMethods ms
    → others_of (methods_in ds o c ms) ≡ counted (flat_map size_at (in_row ms))
members ds o c (Then (MethodDecl at x ps t body) rest) (h, g) =
    ap (λ z. z ∷ others_of (methods_in ds o c rest)) (behind ds o ps body h) ∙ ap (λ z. count_locals body ∷ z) (members ds o c rest g)
members ds o c (Then _ rest) (h, g) = members ds o c rest g
members ds o c _ h = refl

declaration : (ds d : Node) → InMethods d → others_of (declared_routines ds d) ≡ counted (flat_map size_at (members_at d))
declaration ds (ClassDecl at c above ms) h = members ds (InClass c) c ms h
declaration ds (ComponentDecl at c ms) h = members ds (InComponent c) c ms h
declaration ds _ h = refl

declarations : (ds rest : Node) → InMethods rest → others_of (routines_in ds rest) ≡ counted (sizes_in rest)
declarations ds (Then d rest) (h, g) =
    of_two (declared_routines ds d) (routines_in ds rest) ∙ ap (λ z. z ++ others_of (routines_in ds rest)) (declaration ds d h)
    ∙ ap (λ z. counted (flat_map size_at (members_at d)) ++ z) (declarations ds rest g)
    ∙ sym (map-append (λ (s : Size). s.locals) (flat_map size_at (members_at d)) (sizes_in rest))
    ∙ ap counted (sym (flat_map-append size_at (members_at d) (flat_map members_at (in_row rest))))
declarations ds _ h = refl

of_text : (text : Node) → InMethods text → others_of (routines_in (declarations_of text) (declarations_of text)) ≡ counted (sizes text)
of_text (Text at ds) h = declarations ds ds h
of_text _ h = refl

pub locals_sized : (text : Node) → InMethods text
    → map (λ (r : Routine). length r.others) (methods_among (source_of text).routines) ≡ map (λ (s : Size). s.locals) (sizes text)
locals_sized text h = numbers_aside 0 (routines_in (declarations_of text) (declarations_of text)) ∙ of_text text h
