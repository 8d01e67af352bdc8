-- What is counted of the arrays of each type.
use Rattle.std.specs.Prelude.{ℕ, List}

pub record Arrays : Type 0 where
  pub order : List ℕ  -- the types of the kept arrays, in order of the first array of each
  pub sizes : List ℕ  -- of each type, the elements of its kept arrays
  pub counts : List ℕ  -- and how many kept arrays there are

abbrev pub arrays : (order sizes counts : List ℕ) → Arrays
arrays order sizes counts = record { order = order; sizes = sizes; counts = counts }
