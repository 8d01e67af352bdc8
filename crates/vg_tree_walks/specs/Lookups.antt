-- What is looked up in a tree.
use Rattle.std.specs.Prelude.{ℕ, ◌+◌, ◌≡◌, ◌==◌, List, Option, None, if◌then◌else◌}
use Rattle.std.specs.Option.{option_map}
use Rattle.vg_syntax.specs.Classes.{class_named}
use Rattle.vg_syntax.specs.Outline.{Outline, Empty, Beside, Inner, outline, total}
use Rattle.vg_tree.specs.Held.{text_at}
use Rattle.vg_syntax.specs.Tree.{Node, Text}

abbrev pub at_number : ℕ → Outline → ℕ
at_number i Empty = 0
at_number i (Beside first rest) = at_number i first + at_number i rest
at_number i (Inner id weight children) = if id == i then weight + total children else at_number i children

-- how many statements and expressions there are at and below the nodes of this number
abbrev pub code_at : ℕ → Node → ℕ
code_at i n = at_number i (outline n)

-- the number of the first class of this name in a row of declarations
abbrev pub class_in : (name : List ℕ) → Node → Option ℕ
class_in name declarations = option_map (λ k. k.at.id) (class_named declarations name)

-- the number of the first class of this name among the declarations of a text
abbrev pub first_class : (name : List ℕ) → Node → Option ℕ
first_class name (Text at declarations) = class_in name declarations
first_class name _ = None

-- no other name has this one's text
abbrev pub IsOnly : List (List ℕ) → ℕ → Type 0
IsOnly texts name = (other : ℕ) → text_at texts other ≡ text_at texts name → other ≡ name
