-- The rules on the entries of the program declaration.
use Rattle.std.specs.Prelude.{ℕ, zero, suc, ◌==◌, ◌&&◌, ◌||◌, not, nat_le, Bool, true, false, List, [], ◌∷◌, codes, Option, Some, None, if◌then◌else◌, bytes_eq}
use Rattle.std.specs.List.{list_all}
use Rattle.vg_syntax.specs.Tree.{Node, Then, ProgramDecl, EntryDecl}
use Rattle.vg_syntax.specs.Bytes.{is_digit}
use Rattle.vg_source.specs.Names.{}
use Rattle.vg_source.specs.Types.{NoType}
use Rattle.vg_source.specs.Literals.{number_of}
use Rattle.vg_source.specs.Declared.{Member, AMethod, component_member}
use Rattle.vg_rules.specs.Breach.{Breach, asks, ◌or◌}

-- The key of the entry that is called first.
abbrev pub is_main : (key : List ℕ) → Bool
is_main key = bytes_eq key (codes "main")

-- How many entries have the key `main`: by rule 3 one has it.
abbrev pub mains : Node → ℕ
mains (Then (EntryDecl at key c m) rest) = if is_main key then suc (mains rest) else mains rest
mains _ = zero

-- A number is one of a list.
abbrev pub is_taken : List ℕ → ℕ → Bool
is_taken [] n = false
is_taken (m ∷ ms) n = (m == n) || is_taken ms n

-- Rule 3 for one key that is not `main`, behind keys of these numbers: a decimal number from 1 to 34 that no key before it has.
abbrev pub is_vector : (taken : List ℕ) → (key : List ℕ) → Bool
is_vector taken key =
    list_all is_digit key && nat_le 1 (number_of key) && nat_le (number_of key) 34 && not (is_taken taken (number_of key))

-- Rule 3 for all other keys than `main`.
abbrev pub keys_keep : (taken : List ℕ) → Node → Bool
keys_keep taken (Then (EntryDecl at key c m) rest) =
    if is_main key then keys_keep taken rest else is_vector taken key && keys_keep (number_of key ∷ taken) rest
keys_keep taken _ = true

-- Rule 4: what is entered is a method without parameters and without a result.
abbrev pub can_enter : Option Member → Bool
can_enter (Some (AMethod NoType NoType)) = true
can_enter _ = false

-- Rule 4 for all entries: each names a method of a component.
abbrev pub methods_breach : Node → Node → Option Breach
methods_breach ds (Then (EntryDecl at key c m) rest) = asks (can_enter (component_member ds c m)) 4 at or methods_breach ds rest
methods_breach ds _ = None

-- Rules 3 and 4 for the program declaration.
abbrev pub entries_breach : Node → Node → Option Breach
entries_breach ds (Then (ProgramDecl at p entries) rest) =
    methods_breach ds entries or asks (mains entries == 1 && keys_keep [] entries) 3 at or entries_breach ds rest
entries_breach ds (Then d rest) = entries_breach ds rest
entries_breach ds _ = None
