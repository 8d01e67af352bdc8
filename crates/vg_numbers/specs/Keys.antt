-- Where objects stand among one another, by their classes and by when they were made.
use Rattle.std.specs.Prelude.{ℕ, suc, ◌+◌, List, [], ◌∷◌, ◌++◌, map, if◌then◌else◌, nat_lt}

-- Where one list of numbers stands against another: earlier or later, as in a dictionary, or inside, where it begins with the other.
pub data Where : Type 0 where
  Earlier : Where
  Inside : Where
  Later : Where

abbrev pub place : List ℕ → List ℕ → Where
place [] xs = Inside
place (c ∷ cs) [] = Earlier
place (c ∷ cs) (x ∷ xs) = if nat_lt x c then Earlier else if nat_lt c x then Later else place cs xs

-- A class is the way down to it, from the topmost class of its hierarchy, by the numbers of the classes in order of the text.
abbrev pub class_key : (way : List ℕ) → List ℕ
class_key way = map suc way

-- An object, by the way down to its class and by its cell.
pub record Object : Type 0 where
  pub way : List ℕ
  pub cell : ℕ

-- Its key is that of its class, then 0, so that a class's own objects stand before those of the classes below it, and then its cell, in
-- order of making.
abbrev pub key : Object → List ℕ
key o = class_key o.way ++ 0 ∷ o.cell ∷ []

abbrev pub is_earlier : Where → ℕ
is_earlier Earlier = 1
is_earlier _ = 0

abbrev pub is_inside : Where → ℕ
is_inside Inside = 1
is_inside _ = 0

-- How many of these objects stand before a key.
abbrev pub before : List Object → List ℕ → ℕ
before [] k = 0
before (o ∷ os) k = is_earlier (place k (key o)) + before os k

-- How many stand inside it.
abbrev pub inside : List Object → List ℕ → ℕ
inside [] k = 0
inside (o ∷ os) k = is_inside (place k (key o)) + inside os k
