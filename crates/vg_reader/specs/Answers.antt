-- What the reader answers.
use Rattle.std.specs.Prelude.{ℕ, List, Result, Ok, Err}
use Rattle.vg_base.specs.declared.refusal.Refusal.{Refusal}
use Rattle.vg_base.specs.declared.refusal.Refusal.TheVariants.{Fault, NoMemory}
use Rattle.vg_syntax.specs.Faults.{IsText, NoTreeIn, TooDeepIn}
use Rattle.vg_syntax.specs.Reads.{Reads}
use Rattle.vg_tree_walks.specs.declared.tree.Tree.{Tree}
use Rattle.vg_tree_walks.specs.Whole.{tree_at}
use Rattle.vg_reader.specs.declared.fault.ReadFault.{ReadFault}
use Rattle.vg_reader.specs.declared.fault.ReadFault.TheVariants as fault

-- the tree, its names standing for these texts, is that of the bytes, or the answer is where they cease to be a text of the language
abbrev pub ReadsAs : List ℕ → List (List ℕ) → Result Tree (Refusal ReadFault) → Type 0
ReadsAs bytes texts (Ok tree) = IsText bytes × Reads bytes (tree_at texts tree)
ReadsAs bytes texts (Err (Fault (fault.NoTree place))) = NoTreeIn bytes place
ReadsAs bytes texts (Err (Fault (fault.TooDeep place))) = TooDeepIn bytes place
ReadsAs bytes texts (Err NoMemory) = Unit {0}
