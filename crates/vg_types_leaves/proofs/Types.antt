-- What the numbers of types stand for.
use Rattle.std.proofs.Common.{◌≡◌, ℕ, [], sym, ap, ◌∙◌}
use Rattle.vg_core.specs.declared.program.Tables.{Tables}
use Rattle.vg_core.specs.Naming.{Naming, named_number, named_types, type_named, type_at}
use Rattle.vg_types_tables.specs.Declares.{IsTypeNumber, IsFormed}
use Rattle.vg_types_tables.proofs.TypeViews.{number_named}

-- a number in the tables stands for the type that is found there
pub number_view : (n : Naming) (p : Tables) → IsFormed p → (i : ℕ) → IsTypeNumber p i → named_number (named_types n [] p.types) i ≡ type_at n p i
number_view n p f i (t, e) = number_named p n f i t e ∙ sym (ap (type_named n p) e)
