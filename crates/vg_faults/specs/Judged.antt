-- What the tree of a text is refused for: too many of something, or the first rule that it breaks, and where.
use Rattle.std.specs.Prelude.{ℕ, ◌≡◌, List, Option, Some, None, unwrap_or}
use Rattle.std.specs.Option.{option_map}
use Rattle.vg_base.specs.declared.place.Place.{Place}
use Rattle.vg_syntax.specs.Faults.{IsText}
use Rattle.vg_syntax.specs.Reads.{Reads}
use Rattle.vg_syntax.specs.Tree.{Node}
use Rattle.vg_rules.specs.Refusal.{Refused, TooMany, Broken, refusal_of}
use Rattle.vg_places.specs.Places.{place_at}
use Rattle.vg_faults.specs.declared.fault.Fault.{Fault}
use Rattle.vg_faults.specs.declared.fault.Fault.TheVariants as fault

-- the place of the node of this number
abbrev pub place_in : (id : ℕ) → Node → Place
place_in id tree = unwrap_or (place_at id tree) (record { line = 1; col = 1 })

-- what is answered: the place in place of the node
abbrev pub fault_of : Node → Refused → Fault
fault_of tree (TooMany what limit node) = fault.TooMany what limit (place_in node tree)
fault_of tree (Broken rule node) = fault.Broken rule (place_in node tree)

-- the answer for a tree; a legal tree that has too many of nothing has none
abbrev pub tree_fault : Node → Option Fault
tree_fault tree = option_map (fault_of tree) (refusal_of tree)

-- the bytes are a text whose tree is refused so
abbrev pub RefusedIn : List ℕ → Fault → Type 0
RefusedIn bytes why = IsText bytes × (tree : Node) × Reads bytes tree × (tree_fault tree ≡ Some why)

-- the bytes are a text of the language with this tree, which is refused for nothing: it keeps all rules and has too many of nothing
pub record IsLegal (bytes : List ℕ) (tree : Node) : Type 0 where
  pub text : IsText bytes
  pub reads : Reads bytes tree
  pub legal : refusal_of tree ≡ None
