-- Why a member of a text is live, in lines.
use Rattle.std.specs.Prelude.{ℕ, ◌≡◌, List, Some, None}
use Rattle.vg_syntax.specs.Tree.{Node}
use Rattle.vg_source.specs.Names.{Name}
use Rattle.vg_source.specs.Values.{Heap}
use Rattle.vg_source.specs.Program.{source_of}
use Rattle.vg_live_source.specs.Members.{Member}
use Rattle.vg_live_source.specs.Chains.{IsWhy}
use Rattle.vg_live_source.specs.Asking.{member_of}
use Rattle.vg_faults.specs.Starting.{init_steps}
use Rattle.vg_faults.specs.Living.{IsFirm, key_text}

-- The bytes are a legal text that starts and whose live methods make nothing, and the word names this member, which a class or component of it declares.
pub record Names (bytes word : List ℕ) : Type 0 where
  pub tree : Node
  pub heap : Heap
  pub firm : IsFirm bytes init_steps tree heap
  pub owner : Name
  pub name : Name
  pub written : word ≡ key_text owner name
  pub member : Member
  pub declared : member_of (source_of tree) owner name ≡ Some member

-- The word names a member of the bytes, and these lines say why it is live: a chain of reasons, or the line that it is dead.
abbrev pub WhyIn : (bytes word lines : List ℕ) → Type 0
WhyIn bytes word lines = (named : Names bytes word) × IsWhy (source_of named.tree) named.heap named.member lines

-- The word names a member of the bytes.
abbrev pub IsDeclaredIn : (bytes word : List ℕ) → Type 0
IsDeclaredIn bytes word = Names bytes word

-- The bytes are such a text, and none of its classes and components declares a member that the word names.
abbrev pub NoMemberIn : (bytes word : List ℕ) → Type 0
NoMemberIn bytes word =
    (tree : Node) × (heap : Heap) × IsFirm bytes init_steps tree heap
    × ((owner name : Name) → word ≡ key_text owner name → member_of (source_of tree) owner name ≡ None)
