-- Places of things in lists.
use Rattle.std.proofs.Common.{◌≡◌, ◌<◌, ℕ, suc, ◌==◌, Bool, true, List, [], ◌∷◌, ◌++◌, length, Some, Decides}
use Rattle.std.proofs.Common.{refl, sym, ap, ◌∙◌, subst, arith, get_or, flat_map, rules}
use Rattle.std.specs.List.{slice_get, position, position_or_len}
use Rattle.std.proofs.lemmas.Option.{slice_get-get_or}
use Rattle.std.proofs.lemmas.List.Quantifiers.{position-Some}
use Rattle.std.proofs.lemmas.List.Recursion.{is_position_or_len}
use Rattle.std.proofs.lemmas.Grind.{common_steps}
use Rattle.vg_core.specs.declared.types.CoreType.{CoreType}
use Rattle.vg_core.specs.contracts.types.CoreTypePartialEq.TheImpl as derived
use Rattle.vg_syntax.specs.Tree.{Node, StringLit}
use Rattle.vg_source.specs.Nodes.{nodes, literal_node, literal_bytes, literal_nodes, literals, place_in}

-- what the derived test finds equal is equal
pub same : (t u : CoreType) → derived.eq-value.it t u ≡ true → t ≡ u
same t u e = search rules

itself : (t : CoreType) → derived.eq-value.it t t ≡ true
itself t = search rules

-- the derived test decides whether two types are one
pub equal_decides : (t u : CoreType) (b : Bool) → b ≡ derived.eq-value.it t u → Decides b (t ≡ u)
equal_decides t u b e = (λ h. same t u (sym e ∙ h), λ h. e ∙ subst (λ x. derived.eq-value.it t x ≡ true) h (itself t))

-- the place of a thing holds it
pub found_at : {X : Type 0} (test : X → Bool) (x : X) → ((y : X) → test y ≡ true → x ≡ y) → (xs : List X) (i : ℕ) → position test xs ≡ Some i
    → slice_get xs i ≡ Some x
found_at test x holds xs i e =
    let p = position-Some test xs i x e in
    slice_get-get_or xs i x p.0 ∙ ap Some (sym (holds (get_or xs i x) p.1))

-- the place of a number, where it is there
pub place_is : (n : ℕ) (ms : List ℕ) (i : ℕ) → position (λ m. n == m) ms ≡ Some i → i ≡ place_in ms n
place_is n ms i e =
    let at : position_or_len (λ m. n == m) ms ≡ i = grind (arith, common_steps) in
    sym at ∙ sym (is_position_or_len (λ ms. place_in ms n) (λ m. n == m) refl (λ m ms. grind arith) ms)

-- a text has as many literals as nodes of literals
as_long : (n : Node) (ns : List Node) → length (flat_map literal_node ns) ≡ length (flat_map literal_bytes ns)
    → length (literal_node n ++ flat_map literal_node ns) ≡ length (literal_bytes n ++ flat_map literal_bytes ns)
as_long (StringLit at spelled) ns e = ap suc e
as_long n ns e = e

as_many : (ns : List Node) → length (flat_map literal_node ns) ≡ length (flat_map literal_bytes ns)
as_many [] = refl
as_many (n ∷ ns) = as_long n ns (as_many ns)

pub literal_within : (a : Node) (ids : List ℕ) (all : List (List ℕ)) → ids ≡ literal_nodes a → all ≡ literals a
    → (i : ℕ) → i < length ids → i < length all
literal_within a ids all d e i h = subst (λ n. i < n) (ap length d ∙ as_many (nodes a) ∙ sym (ap length e)) h
