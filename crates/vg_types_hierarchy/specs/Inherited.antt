-- What the classes of a chain declare.
use Rattle.std.specs.Prelude.{ℕ, List, [], ◌∷◌, ◌++◌, Option, Some, None, slice_get}

-- What a class declares, where it is there.
abbrev pub own_at : {A : Type 0} → Option (List A) → List A
own_at (Some own) = own
own_at None = []

-- The fields of a chain, those of the highest class first.
abbrev pub fields_on : (own : List (List ℕ)) → (chain : List ℕ) → List ℕ
fields_on own [] = []
fields_on own (c ∷ cs) = fields_on own cs ++ own_at (slice_get own c)

-- The methods of a chain, those of the nearest class first.
abbrev pub methods_on : (own : List (List ℕ)) → (chain : List ℕ) → List ℕ
methods_on own [] = []
methods_on own (c ∷ cs) = own_at (slice_get own c) ++ methods_on own cs
