-- How far parameters are in scope.
use Rattle.std.proofs.Common.{◌≡◌, ℕ, zero, suc, ◌≤◌, List, [], ◌∷◌, ◌++◌, length, drop, map, reverse, refl, sym, ap, ◌∙◌, subst, arith}
use Rattle.std.specs.List.{AllByRecursion}
use Rattle.vg_syntax.specs.Tree.{Param}
use Rattle.vg_source.specs.Types.{StaticType, NoType, MoreTypes}
use Rattle.vg_source.specs.Declared.{written_type, row_of}
use Rattle.vg_source.specs.Resolved.{Scope, declare}
use Rattle.vg_source.specs.Program.{with_params, scope_of}
use Rattle.vg_core.specs.declared.types.CoreType.{CoreType}
use Rattle.vg_types_tables.specs.declared.declared.Declared.{Declared}
use Rattle.vg_types_tables.specs.declared.locals.InScope.{InScope}
use Rattle.vg_types_tables.specs.declared.locals.Locals.{Locals}
use Rattle.vg_types_tables.specs.Views.{type_view, typed_view, row_view, scope_view}
use Rattle.vg_types_tables.specs.Declares.{IsKnown}
use Rattle.vg_types_tables.specs.Promises.{IsDeclared, AreDeclared}
use Rattle.vg_types_bodies.specs.Parameters.{AreParameters}

pub none_left : {A B : Type 0} (f : A → B) (xs : List A) (i : ℕ) → length xs ≤ i → map f (drop i xs) ≡ []
none_left f [] zero h = refl
none_left f [] (suc i) h = refl
none_left f (x ∷ xs) zero h = absurd (omega (arith, h))
none_left f (x ∷ xs) (suc i) h = none_left f xs i (omega (arith, h))

module _ (texts : List (List ℕ)) (d : Declared) where
  -- types before a row
  abbrev pub row_before : List CoreType → StaticType → StaticType
  row_before [] rest = rest
  row_before (t ∷ ts) rest = MoreTypes (type_view texts d t) (row_before ts rest)

  row_whole : (ts : List CoreType) → row_before ts NoType ≡ row_view texts d ts
  row_whole [] = refl
  row_whole (t ∷ ts) = ap (MoreTypes (type_view texts d t)) (row_whole ts)

  row_more : (ts : List CoreType) (t : CoreType) (rest : StaticType) → row_before (ts ++ t ∷ []) rest ≡ row_before ts (MoreTypes (type_view texts d t) rest)
  row_more [] t rest = refl
  row_more (u ∷ ts) t rest = ap (MoreTypes (type_view texts d u)) (row_more ts t rest)

  all_and : (P : CoreType → Type 0) (ts : List CoreType) (t : CoreType) → AllByRecursion P ts → P t → AllByRecursion P (ts ++ t ∷ [])
  all_and P [] t h k = (k, tt)
  all_and P (u ∷ ts) t (g, h) k = (g, all_and P ts t h k)

  -- with the rest, all parameters are in scope
  pub record Passing (all : List Param) (ls : Locals) (rest : List Param) : Type 0 where
    pub scope : with_params (scope_view texts d ls) rest ≡ scope_of all
    pub types : row_before ls.declared (row_of rest) ≡ row_of all
    pub known : AllByRecursion (IsKnown d.tables) ls.declared
    pub declared : AreDeclared d.tables ls

  abbrev scope_from : List InScope → List CoreType → Scope
  scope_from names types = record { names = reverse (map (typed_view texts d) names); declared = reverse (map (type_view texts d) types) }

  pub passing_starts : (all : List Param) (ls : Locals) → ls.in_scope ≡ [] → ls.declared ≡ [] → Passing all ls all
  passing_starts all ls e f = record {
    scope = ap (λ z. with_params (scope_from z ls.declared) all) e ∙ ap (λ z. with_params (scope_from [] z) all) f;
    types = ap (λ z. row_before z (row_of all)) f;
    known = subst (AllByRecursion (IsKnown d.tables)) (sym f) tt;
    declared = subst (AllByRecursion (IsDeclared d.tables ls)) (sym e) tt;
  }

  pub passing_on : (all : List Param) (ls new : Locals) (p : Param) (rest left : List Param) (t : CoreType) → Passing all ls left → left ≡ p ∷ rest
      → type_view texts d t ≡ written_type p.type → IsKnown d.tables t
      → scope_view texts d new ≡ declare p.name (type_view texts d t) (scope_view texts d ls) → new.declared ≡ ls.declared ++ t ∷ []
      → AreDeclared d.tables new → Passing all new rest
  passing_on all ls new p rest left t g e w k s n a =
      let h : Passing all ls (p ∷ rest) = subst (Passing all ls) e g in
      record {
        scope = ap (λ z. with_params z rest) s ∙ ap (λ z. with_params (declare p.name z (scope_view texts d ls)) rest) w ∙ h.scope;
        types = ap (λ z. row_before z (row_of rest)) n ∙ row_more ls.declared t (row_of rest)
            ∙ ap (λ z. row_before ls.declared (MoreTypes z (row_of rest))) w ∙ h.types;
        known = subst (AllByRecursion (IsKnown d.tables)) (sym n) (all_and (IsKnown d.tables) ls.declared t h.known k);
        declared = a;
      }

  pub passing_ends : (all : List Param) (ls : Locals) (left : List Param) → Passing all ls left → left ≡ [] → AreParameters texts d all ls
  passing_ends all ls left g e =
      let h : Passing all ls [] = subst (Passing all ls) e g in
      record { scope = h.scope; types = sym (row_whole ls.declared) ∙ h.types; known = h.known; declared = h.declared }
