-- Counters: one for each class, of its own objects, and one for each type, of the arrays of elements of it.
use Rattle.std.specs.Prelude.{ℕ, List}

pub record Counts : Type 0 where
  pub objects : List ℕ
  pub arrays : List ℕ

abbrev pub counts : (objects arrays : List ℕ) → Counts
counts objects arrays = record { objects = objects; arrays = arrays }
