-- The laws of renaming and of endings, for the typed program of a tree.
use Rattle.std.proofs.Common.{◌≡◌, ◌≢◌, ℕ, List, Option, Some, None, sym, subst}
use Rattle.vg_meaning.specs.Ending.{Deep}
use Rattle.vg_syntax.specs.Tree.{Node}
use Rattle.vg_source.specs.Program.{source_of}
use Rattle.vg_source.specs.Session as source
use Rattle.vg_source.specs.Values as source_value
use Rattle.vg_core.specs.declared.heap.Heap.{Heap}
use Rattle.vg_core.specs.Naming.{Naming, naming_of, named_heap}
use Rattle.vg_core.specs.Program.{Program}
use Rattle.vg_core.specs.Session.{started, session}
use Rattle.vg_sound.specs.Good.{HasTypedHeap}
use Rattle.vg_renamed.specs.IsNamed.{IsNamed}
use Rattle.vg_renamed.specs.Stands.{named_start}
use Rattle.vg_renamed.proofs.Named.{is_named}
use Rattle.vg_renamed.proofs.Calls.{same_started, same_session}
use Rattle.vg_endings.proofs.Sessions.{session_ends, session_is_not_deep}
use Rattle.vg_types_named.specs.Programs.{IsProgramOf}

module _ (texts : List (List ℕ)) (tree : Node) (p : Program) (is : IsProgramOf texts tree p) where
  abbrev names : Naming
  names = naming_of texts p.tables

  -- the names of a typed program of a tree find what its numbers find
  pub names_find : IsNamed names p (source_of tree)
  names_find = subst (IsNamed names p) (sym is.named) (is_named names p is.told)

  pub initialised : (clock : ℕ) → named_start names p.tables (started p clock) ≡ source.started (source_of tree) clock
  initialised clock = same_started names p (source_of tree) names_find is.typed clock

  pub sessions : (h : Heap) → HasTypedHeap p.tables h → (deepest : Option ℕ) (reads interrupts : List ℕ) (clock : ℕ)
      → session p h deepest reads interrupts clock
      ≡ source.session (source_of tree) (named_heap names p.tables h) deepest reads interrupts clock
  sessions h typed deepest reads interrupts clock =
      same_session names p (source_of tree) names_find is.typed h typed deepest reads interrupts clock

  pub text_ends : (c : ℕ) (heap : source_value.Heap) → source.started (source_of tree) c ≡ source.Started heap
      → (deepest : Option ℕ) (reads interrupts : List ℕ) (clock : ℕ)
      → (source.session (source_of tree) heap deepest reads interrupts clock).ending ≢ None
  text_ends c heap e deepest reads interrupts clock =
      session_ends names p (source_of tree) names_find is.typed c heap e deepest reads interrupts clock

  pub text_is_not_deep : (c : ℕ) (heap : source_value.Heap) → source.started (source_of tree) c ≡ source.Started heap
      → (reads interrupts : List ℕ) (clock : ℕ) → (source.session (source_of tree) heap None reads interrupts clock).ending ≢ Some Deep
  text_is_not_deep c heap e reads interrupts clock =
      session_is_not_deep names p (source_of tree) names_find is.typed c heap e reads interrupts clock
