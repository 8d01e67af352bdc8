-- Classes, by their numbers.
use Rattle.std.specs.Prelude.{ℕ, zero, suc, List, [], ◌∷◌, ◌++◌, Option, Some, None, slice_get, slice_index}
use Rattle.vg_tree.specs.Held.{text_at}
use Rattle.vg_source.specs.Names.{Name}
use Rattle.vg_core.specs.declared.types.CoreType.{CoreType}
use Rattle.vg_core.specs.declared.program.Class.{Class}
use Rattle.vg_types_views.specs.ByText.{found}
use Rattle.vg_types_chains.specs.Chains.{chain_at}
use Rattle.vg_types_hierarchy.specs.Inherited.{own_at, fields_on, methods_on}

-- The number of the class of a name, where one is given.
abbrev pub above_number : (texts : List (List ℕ)) → List (Name × ℕ) → Option ℕ → Option ℕ
above_number texts m (Some name) = found (text_at texts name) m
above_number texts m None = None

-- The things of the first n numbers.
abbrev pub first_of : {A : Type 0} → (ℕ → A) → ℕ → List A
first_of f zero = []
first_of f (suc n) = first_of f n ++ f n ∷ []

-- The class of a number.
abbrev pub the_class : (most : ℕ) → (names : List ℕ) → (above : List (Option ℕ)) → (fields methods : List (List ℕ)) → (params : List (List CoreType))
    → ℕ → Class
the_class most names above fields methods params c = record {
  name = slice_index names c;
  above = chain_at most above c;
  fields = fields_on fields (chain_at most above c);
  methods = methods_on methods (chain_at most above c);
  params = own_at (slice_get params c);
}
