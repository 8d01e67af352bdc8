-- Mirrors: predicates by cases that follow the code's own functions. No clause of an exported function cites one.
use Rattle.std.specs.Prelude.{ℕ, ◌≡◌, List, [], Option, None, Some, Result, Ok, Err, slice_get}
use Rattle.vg_base.specs.declared.place.Place.{Place}
use Rattle.vg_base.specs.declared.refusal.Refusal.{Refusal}
use Rattle.vg_base.specs.declared.refusal.Refusal.TheVariants as refusal
use Rattle.vg_tree_walks.specs.Whole.{tree_at}
use Rattle.vg_core.specs.declared.member.Member.TheVariants.{Method}
use Rattle.vg_core.specs.declared.program.Method.{Method as AMethod}
use Rattle.vg_core.specs.declared.program.Tables.{Tables}
use Rattle.vg_core.specs.Naming.{owner_name, text_at}
use Rattle.vg_core.specs.HeldProgram.{program_at}
use Rattle.vg_live.specs.Rules.{Live}
use Rattle.vg_live.specs.Sets.{IsLiveSet}
use Rattle.vg_live.specs.declared.live_set.LiveSet.{LiveSet}
use Rattle.vg_reach.specs.declared.making.Allocates.{Allocates as Allocation}
use Rattle.vg_reach.specs.Reaches.{IsFirstMaker, made_in}
use Rattle.vg_faults.specs.declared.fault.Fault.{Fault}
use Rattle.vg_faults.specs.declared.fault.Fault.TheVariants.{Allocates}
use Rattle.vg_faults.specs.Judged.{place_in}
use Rattle.vg_faults.specs.Living.{allocates_line, key_text}
use Rattle.vg_front.specs.declared.starting.Start.{Start}

-- the name of a method behind that of what declares it, with a point between them
abbrev pub method_word : List (List ℕ) → Tables → Option AMethod → List ℕ
method_word texts t (Some m) = key_text (owner_name texts t m.owner) (text_at texts m.name)
method_word texts t None = []

-- the line of a method that makes something at a place
abbrev pub line_of : Start → (method : ℕ) → Place → List ℕ
line_of s m place = allocates_line (method_word s.names s.program.tables (slice_get s.program.tables.methods m)) place

-- the place of what is made
abbrev pub place_of : Start → Allocation → Place
place_of s a = place_in a.node (tree_at s.names s.tree)

-- the fault
abbrev pub allocation : Start → Allocation → Fault
allocation s a = Allocates (place_of s a) (line_of s a.method (place_of s a))

-- what is live of what starts, or the first method that makes something
abbrev pub Searches : Start → Result LiveSet (Refusal Fault) → Type 0
Searches s (Ok set) =
    IsLiveSet (program_at s.program) s.heap set
    × ((m : ℕ) → Live (program_at s.program) s.heap (Some (Method m)) → made_in (program_at s.program) m ≡ None)
Searches s (Err (refusal.Fault why)) = (a : Allocation) × IsFirstMaker (program_at s.program) s.heap a × (why ≡ allocation s a)
Searches s (Err refusal.NoMemory) = Unit {0}
