-- Which member of a typed program a word names.
use Rattle.std.specs.Prelude.{◌≡◌, List, ℕ, ◌++◌, codes, Option, Some, None}
use Rattle.vg_source.specs.Names.{Name}
use Rattle.vg_core.specs.declared.member.Member.{Member}
use Rattle.vg_core.specs.Naming.{naming_of, named}
use Rattle.vg_core.specs.Program.{Program}
use Rattle.vg_live_source.specs.Asking.{member_of}
use Rattle.vg_live_named.specs.Members.{named_member}
use Rattle.vg_why_named.specs.Owners.{IsDeclared}

-- The word for a member: the name of the class or component that declares it, a point, and its own.
abbrev pub word_of : (owner name : Name) → List ℕ
word_of owner name = owner ++ codes "." ++ name

-- The member of the tables that the word names: with names in place of numbers, the program declares it by the two names of the word. None where it
-- declares none by any two names that the word may be made of.
abbrev pub Finds : (texts : List Name) → Program → (word : List ℕ) → Option Member → Type 0
Finds texts p word (Some y) =
    (owner name : Name) × (word ≡ word_of owner name)
    × (member_of (named (naming_of texts p.tables) p) owner name ≡ Some (named_member (naming_of texts p.tables) y)) × IsDeclared p.tables y
Finds texts p word None = (owner name : Name) → word ≡ word_of owner name → member_of (named (naming_of texts p.tables) p) owner name ≡ None
