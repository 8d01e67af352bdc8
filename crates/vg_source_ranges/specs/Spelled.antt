-- What the grammar gives of a tree beside the rules: how its literals are spelled, and what stands for a type.
use Rattle.std.specs.Prelude.{◌<◌, ◌≤◌, ℕ, length}
use Rattle.std.specs.List.{AllByRecursion}
use Rattle.vg_syntax.specs.Tree.{TypeTree, NoType, MoreTypes, Node, FieldDecl, CharLit, StringLit, NewArray}
use Rattle.vg_source.specs.Literals.{bytes_of, char_of}
use Rattle.vg_source.specs.Nodes.{nodes}

-- A type is written, and not a row of types.
abbrev pub IsProper : TypeTree → Type 0
IsProper NoType = ⊥
IsProper (MoreTypes first rest) = ⊥
IsProper _ = Unit {0}

-- A char is a byte, and a string has bytes, at most so many. The type of a field and of the elements of a new array is written.
abbrev pub IsSpelled : (most : ℕ) → Node → Type 0
IsSpelled most (CharLit at spelled) = char_of spelled < 256
IsSpelled most (StringLit at spelled) = AllByRecursion (λ b. b < 256) (bytes_of spelled) × (length (bytes_of spelled) ≤ most)
IsSpelled most (FieldDecl at x t value) = IsProper t
IsSpelled most (NewArray at t size) = IsProper t
IsSpelled most _ = Unit {0}

-- So it is for all nodes of a tree.
abbrev pub AreSpelled : (most : ℕ) → Node → Type 0
AreSpelled most a = AllByRecursion (IsSpelled most) (nodes a)
