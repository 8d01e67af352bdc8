-- What is in scope, as lists.
use Rattle.std.proofs.Common.{◌≡◌, List, [], ◌∷◌, ◌++◌, length, sym, ap, ◌∙◌, subst}
use Rattle.std.specs.List.{slice_get, AllByRecursion}
use Rattle.vg_core.specs.declared.types.CoreType.{CoreType}
use Rattle.vg_core.specs.declared.program.Tables.{Tables}
use Rattle.vg_types_tables.specs.declared.locals.InScope.{InScope}
use Rattle.vg_types_tables.specs.declared.locals.Locals.{Locals}
use Rattle.vg_types_tables.specs.Declares.{IsKnown}
use Rattle.vg_types_tables.specs.Promises.{IsDeclared, AreDeclared}
use Rattle.vg_types_tables.proofs.Lists.{still_there, behind, one_behind}

-- names in scope keep their types where more is declared
pub still_declared : (p : Tables) (old new : Locals) (more : List CoreType) → new.declared ≡ old.declared ++ more → (ls : List InScope)
    → AllByRecursion (IsDeclared p old) ls → AllByRecursion (IsDeclared p new) ls
still_declared p old new more e [] h = h
still_declared p old new more e (l ∷ ls) ((a, k), h) =
    ((ap (λ ts. slice_get ts l.number) e ∙ still_there old.declared more l.number l.type_ a, k), still_declared p old new more e ls h)

-- one more parameter or local
pub one_more : (p : Tables) (old new : Locals) (l : InScope) → AreDeclared p old → IsKnown p l.type_ → l.number ≡ length old.declared
    → new.in_scope ≡ old.in_scope ++ l ∷ [] → new.declared ≡ old.declared ++ l.type_ ∷ [] → AreDeclared p new
one_more p old new l h k n e d = subst (AllByRecursion (IsDeclared p new)) (sym e)
    (one_behind (IsDeclared p new) old.in_scope l (still_declared p old new (l.type_ ∷ []) d old.in_scope h)
    (ap (λ ts. slice_get ts l.number) d ∙ behind old.declared l.type_ l.number n, k))
