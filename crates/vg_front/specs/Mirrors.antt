-- Mirrors: predicates by cases that follow the code's own functions. No clause of an exported function cites one.
use Rattle.std.specs.Prelude.{ℕ, ◌≡◌, ◌⊎◌, List, Option, Some, None, Result, Ok, Err}
use Rattle.vg_base.specs.declared.refusal.Refusal.{Refusal}
use Rattle.vg_base.specs.declared.refusal.Refusal.TheVariants as refusal
use Rattle.vg_syntax.specs.Tree.{Node}
use Rattle.vg_source.specs.Program.{source_of}
use Rattle.vg_source.specs.Session.{started}
use Rattle.vg_rules.specs.Refusal.{refusal_of}
use Rattle.vg_tree_walks.specs.Whole.{tree_at}
use Rattle.vg_tree_walks.specs.declared.tree.Tree.{Tree}
use Rattle.vg_core.specs.HeldProgram.{program_at}
use Rattle.vg_core.specs.Session as core
use Rattle.vg_sound.specs.Good.{HasTypedHeap}
use Rattle.vg_named_locals.specs.Locals.{HaveLocals}
use Rattle.vg_types.specs.Checks.{IsProgramOf}
use Rattle.vg_faults.specs.declared.fault.Fault.{Fault}
use Rattle.vg_front.specs.declared.starting.Start.{Start}
use Rattle.vg_faults.specs.Judged.{tree_fault}
use Rattle.vg_faults.specs.Starting.{start_fault}

-- what is made of a tree that is refused for nothing
pub record IsMadeOf (names : List (List ℕ)) (tree : Tree) (clock : ℕ) (s : Start) : Type 0 where
  pub names_is : s.names ≡ names
  pub tree_is : s.tree ≡ tree
  pub legal : refusal_of (tree_at names tree) ≡ None
  pub program : IsProgramOf names (tree_at names tree) (program_at s.program)
  pub locals : HaveLocals names (tree_at names tree) (program_at s.program)
  pub typed : HasTypedHeap s.program.tables s.heap
  pub starts : core.started (program_at s.program) clock ≡ core.Started s.heap

-- the tree is refused for nothing, and its initialisation fails so
abbrev pub FailsSo : Node → ℕ → Fault → Type 0
FailsSo tree clock why = (refusal_of tree ≡ None) × (start_fault tree (started (source_of tree) clock) ≡ Some why)

abbrev pub Makes : List (List ℕ) → Tree → ℕ → Result Start (Refusal Fault) → Type 0
Makes names tree clock (Ok s) = IsMadeOf names tree clock s
Makes names tree clock (Err (refusal.Fault why)) = FailsSo (tree_at names tree) clock why
Makes names tree clock (Err refusal.NoMemory) = Unit {0}

abbrev pub GoesOn : List (List ℕ) → Tree → ℕ → Result Start (Refusal Fault) → Type 0
GoesOn names tree clock (Ok s) = IsMadeOf names tree clock s
GoesOn names tree clock (Err (refusal.Fault why)) = (tree_fault (tree_at names tree) ≡ Some why) ⊎ FailsSo (tree_at names tree) clock why
GoesOn names tree clock (Err refusal.NoMemory) = Unit {0}
