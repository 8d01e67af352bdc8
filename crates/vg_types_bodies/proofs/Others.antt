-- The defaults of the locals behind the parameters.
use Rattle.std.proofs.Common.{◌≡◌, ℕ, List, [], ◌∷◌, ◌++◌, map, reverse, drop, refl, sym, ap, ◌∙◌}
use Rattle.std.proofs.lemmas.List.{reverse-append, reverse-reverse, map-append, drop-map}
use Rattle.vg_source.specs.Values as source
use Rattle.vg_source.specs.Resolved.{Scope, Resolved}
use Rattle.vg_source.specs.Program.{defaults_of}
use Rattle.vg_core.specs.declared.types.CoreType.{CoreType}
use Rattle.vg_core.specs.declared.types.CoreType.TheVariants.{IntType, BoolType, CharType, RawType, NullType, ClassType, ArrayType, FunctionType}
use Rattle.vg_core.specs.declared.types.CoreType.TheVariants.{NoType, MoreTypes}
use Rattle.vg_core.specs.declared.program.Body.{Body}
use Rattle.vg_core.specs.Heap.{default}
use Rattle.vg_core.specs.Naming.{named_value}
use Rattle.vg_types_tables.specs.declared.declared.Declared.{Declared}
use Rattle.vg_types_tables.specs.declared.locals.Locals.{Locals}
use Rattle.vg_types_tables.specs.Views.{naming, type_view, scope_view, code_view}
use Rattle.vg_types_bodies.specs.Bodies.{IsBodyOf}

map_back : {A B : Type 0} (f : A → B) (xs : List A) → map f (reverse xs) ≡ reverse (map f xs)
map_back f [] = refl
map_back f (x ∷ xs) =
    ap (map f) (reverse-append (x ∷ []) xs) ∙ map-append f (reverse xs) (x ∷ []) ∙ ap (λ z. z ++ f x ∷ []) (map_back f xs)
    ∙ sym (reverse-append (f x ∷ []) (map f xs))

module _ (texts : List (List ℕ)) (d : Declared) where
  pub default_named : (t : CoreType) → named_value (naming texts d) d.tables (default t) ≡ source.default (type_view texts d t)
  default_named IntType = refl
  default_named BoolType = refl
  default_named CharType = refl
  default_named (RawType k) = refl
  default_named NullType = refl
  default_named (ClassType c) = refl
  default_named (ArrayType t) = refl
  default_named (FunctionType ps r) = refl
  default_named NoType = refl
  default_named (MoreTypes t rest) = refl

  values_named : (ts : List CoreType) → map (named_value (naming texts d) d.tables) (map default ts) ≡ map source.default (map (type_view texts d) ts)
  values_named [] = refl
  values_named (t ∷ ts) = ap (λ z. z ∷ map (named_value (naming texts d) d.tables) (map default ts)) (default_named t)
      ∙ ap (λ z. source.default (type_view texts d t) ∷ z) (values_named ts)

  -- what is declared behind so many has its defaults behind so many
  pub body_is : (ls : Locals) (count n : ℕ) (m : Resolved) (b : Body) → code_view texts d b.code ≡ m.does → m.scope ≡ scope_view texts d ls
      → b.others ≡ drop n ls.declared → n ≡ count → IsBodyOf texts d count m b
  body_is ls count n m b e s o q = record {
    others = ap (λ z. map (named_value (naming texts d) d.tables) (map default z)) o
        ∙ values_named (drop n ls.declared)
        ∙ ap (map source.default) (sym (drop-map (type_view texts d) n ls.declared))
        ∙ sym (drop-map source.default n (map (type_view texts d) ls.declared))
        ∙ ap (drop n) (sym (ap reverse (map_back source.default (map (type_view texts d) ls.declared))
        ∙ reverse-reverse (map source.default (map (type_view texts d) ls.declared))))
        ∙ ap (λ z. drop n (defaults_of z)) (sym s)
        ∙ ap (λ z. drop z (defaults_of m.scope)) q;
    types = ap (map (type_view texts d)) o
        ∙ sym (drop-map (type_view texts d) n ls.declared)
        ∙ ap (drop n) (sym (reverse-reverse (map (type_view texts d) ls.declared)))
        ∙ ap (λ (z : Scope). drop n (reverse z.declared)) (sym s)
        ∙ ap (λ z. drop z (reverse m.scope.declared)) q;
    does = e;
  }
