-- The methods of a text, number by number.
use Rattle.std.proofs.Common.{◌≡◌, ◌≤◌, ℕ, suc, ◌*◌, List, [], ◌∷◌, ◌++◌, flat_map, refl, sym, subst, arith}
use Rattle.std.proofs.lemmas.Grind.{flat_map-append}
use Rattle.vg_meaning.specs.Code.{Code}
use Rattle.vg_syntax.specs.Tree.{Node, Then, Text, ClassDecl, ComponentDecl, MethodDecl}
use Rattle.vg_source.specs.Names.{Name}
use Rattle.vg_source.specs.Steps.{Step, Target, Method, Construct, Start, Routine}
use Rattle.vg_source.specs.Resolved.{Owner, InClass, InComponent}
use Rattle.vg_source.specs.Program.{declarations_of, source_of, scope_of, methods_in, declared_routines, routines_in, next_number, number_at, with_numbers}
use Rattle.vg_rules.specs.Counts.{in_row, members_at}
use Rattle.vg_method_sizes.specs.Sizes.{Size, size_at, sizes_in, sizes, if_method, methods_among}
use Rattle.vg_source_sizes.specs.Arms.{ArmsHaveBlocks}
use Rattle.vg_source_sizes.specs.Sizes.{AreWithin}
use Rattle.vg_argument_nodes.specs.Arguments.{ArgumentsAreNodes}
use Rattle.vg_source_weights.specs.Weights.{extras, AreLight}
use Rattle.vg_source_weights.proofs.Bodies.{bodies}

-- each of them costs at most twice as much beside its size as there are nodes
abbrev AreShort : List Routine → List Size → Type 0
AreShort [] [] = Unit {0}
AreShort (r ∷ rs) (s ∷ ss) = (extras r.body ≤ 2 * s.nodes) × AreShort rs ss
AreShort _ _ = ⊥

beside : (rs qs : List Routine) (ss ts : List Size) → AreShort rs ss → AreShort qs ts → AreShort (rs ++ qs) (ss ++ ts)
beside [] qs [] ts e f = f
beside (r ∷ rs) qs (s ∷ ss) ts (d, e) f = (d, beside rs qs ss ts e f)
beside [] qs (s ∷ ss) ts e f = absurd e
beside (r ∷ rs) qs [] ts e f = absurd e

-- numbers make no difference
numbered : (n : ℕ) (rs : List Routine) (ss : List Size) → AreShort (methods_among rs) ss → AreShort (methods_among (with_numbers n rs)) ss
numbered n [] ss e = e
numbered n (q ∷ qs) ss e = by q.target (record q { number = number_at n q.target }) refl ss e (λ m ts. numbered m qs ts)
  where
    by : (t : Target) (p : Routine) → p.body ≡ q.body → (ss : List Size) → AreShort (if_method t q ++ methods_among qs) ss
        → ((m : ℕ) (ts : List Size) → AreShort (methods_among qs) ts → AreShort (methods_among (with_numbers m qs)) ts)
        → AreShort (if_method t p ++ methods_among (with_numbers (next_number n t) qs)) ss
    by (Method c x) p f [] e go = absurd e
    by (Method c x) p f (s ∷ ss) (d, e) go = (subst (λ (z : Code Step). extras z ≤ 2 * s.nodes) (sym f) d, go (suc n) ss e)
    by (Construct c) p f ss e go = go n ss e
    by (Start k) p f ss e go = go n ss e

members : (ds : Node) (o : Owner) (c : Name) (ms : Node) → ArgumentsAreNodes ms → AreShort (methods_among (methods_in ds o c ms)) (flat_map size_at (in_row ms))
members ds o c (Then (MethodDecl at x ps t body) rest) (h, g) = (bodies ds o body (scope_of ps) h, members ds o c rest g)
members ds o c (Then _ rest) (h, g) = members ds o c rest g
members ds o c _ h = tt

declaration : (ds d : Node) → ArgumentsAreNodes d → AreShort (methods_among (declared_routines ds d)) (flat_map size_at (members_at d))
declaration ds (ClassDecl at c above ms) h = members ds (InClass c) c ms h
declaration ds (ComponentDecl at c ms) h = members ds (InComponent c) c ms h
declaration ds _ h = tt

declarations : (ds rest : Node) → ArgumentsAreNodes rest → AreShort (methods_among (routines_in ds rest)) (sizes_in rest)
declarations ds (Then d rest) (h, g) =
    subst (λ z. AreShort z (sizes_in (Then d rest)))
    (sym (flat_map-append (λ (r : Routine). if_method r.target r) (declared_routines ds d) (routines_in ds rest)))
    (subst (AreShort (methods_among (declared_routines ds d) ++ methods_among (routines_in ds rest)))
    (sym (flat_map-append size_at (members_at d) (flat_map members_at (in_row rest))))
    (beside (methods_among (declared_routines ds d)) (methods_among (routines_in ds rest)) (flat_map size_at (members_at d)) (sizes_in rest)
    (declaration ds d h) (declarations ds rest g)))
declarations ds _ h = tt

of_text : (text : Node) → ArgumentsAreNodes text → AreShort (methods_among (routines_in (declarations_of text) (declarations_of text))) (sizes text)
of_text (Text at ds) h = declarations ds ds h
of_text _ h = tt

methods_short : (text : Node) → ArgumentsAreNodes text → AreShort (methods_among (source_of text).routines) (sizes text)
methods_short text h = numbered 0 (routines_in (declarations_of text) (declarations_of text)) (sizes text) (of_text text h)

-- both together
both : (rs : List Routine) (ss : List Size) → AreWithin rs ss → AreShort rs ss → AreLight rs ss
both [] [] e f = tt
both (r ∷ rs) (s ∷ ss) (d, e) (g, f) = (omega (arith, d, g), both rs ss e f)
both [] (s ∷ ss) e f = absurd e
both (r ∷ rs) [] e f = absurd e

pub methods_light : ((text : Node) → ArmsHaveBlocks text → AreWithin (methods_among (source_of text).routines) (sizes text))
    → (text : Node) → ArmsHaveBlocks text → ArgumentsAreNodes text → AreLight (methods_among (source_of text).routines) (sizes text)
methods_light within text h g = both (methods_among (source_of text).routines) (sizes text) (within text h) (methods_short text g)
