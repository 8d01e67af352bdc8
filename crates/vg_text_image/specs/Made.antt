-- What it means that an image is made of a text that fits.
use Rattle.std.specs.Prelude.{ℕ, ◌≡◌, ◌⊎◌, ◌+◌, ◌-◌, ◌<◌, ◌≤◌, List, [], length, map, Result, Ok, Err}
use Rattle.std.specs.List.{AllByRecursion}
use Rattle.vg_base.specs.declared.refusal.Refusal.{Refusal}
use Rattle.vg_base.specs.declared.refusal.Refusal.TheVariants as refusal
use Rattle.vg_syntax.specs.Tree.{Node}
use Rattle.vg_source.specs.Values.{Heap}
use Rattle.vg_source.specs.Peak.{costs, sessions}
use Rattle.vg_static_source.specs.Sums.{IsStatic}
use Rattle.vg_calls_source.specs.Bounds.{HasNoCycle, IsCallCycle, IsSpent}
use Rattle.vg_calls_source.specs.Methods.{method_numbered, methods_of}
use Rattle.vg_compile.specs.Bounds.{BoundsCalls}
use Rattle.avr_isa.specs.Agrees.{Agrees, NeverReaches}
use Rattle.vg_faults.specs.Fitting.{IsFitting}
use Rattle.vg_tree_walks.specs.Whole.{tree_at}
use Rattle.vg_core.specs.HeldProgram.{program_at}
use Rattle.vg_compile.specs.Given.{IsGiven}
use Rattle.vg_compile.specs.Given.{IsReady}
use Rattle.vg_compile.specs.Given.{NamesChip}
use Rattle.vg_fits_given.specs.Fitted.{Fitted}
use Rattle.vg_compile.specs.Compile.{Linked}
use Rattle.vg_compile.specs.declared.no_image.NoImage.{NoImage}
use Rattle.vg_compile.specs.declared.no_image.NoImage.TheVariants as no_image
use Rattle.vg_compile.specs.declared.no_image.NoImage.TheVariants.{Deep}
use Rattle.vg_flatten_shapes.specs.declared.fault.Fault.{Fault}
use Rattle.vg_compile.specs.Compile.{HasNoFrames, HasNoHandlers, HasNoLinear}
use Rattle.vg_costs.specs.Small.{AreSmall}
use Rattle.vg_compile.specs.Bounds.{DoesFor, HoldsBound}
use Rattle.vg_layout.specs.Few.{IsFew}
use Rattle.vg_layout.specs.declared.stack_bound.StackBound.{StackBound}
use Rattle.vg_layout.specs.declared.stack_bound.StackBound.TheVariants.{Bytes, Cycle}
pub use Rattle.vg_compile.specs.Memory.{KeepsMemory}
use Rattle.vg_text_image.specs.declared.making.TextImage.{TextImage}
use Rattle.vg_text_image.specs.declared.unmade.Unmade.{Unmade}
use Rattle.vg_text_image.specs.declared.unmade.Unmade.TheVariants.{CodeFull, StackFull, NotLinear, NotBuilt}

-- No cycle of calls is reached in the text, and the bytes are at most four more than the methods of some way of calls cost; or these are the numbers of methods
-- of a cycle that is reached.
abbrev pub BoundsCallsOf : Node → Heap → StackBound → Type 0
BoundsCallsOf tree heap (Bytes need) = HasNoCycle tree heap × ((bytes : ℕ) × (need ≡ 4 + bytes) × IsSpent tree heap bytes)
BoundsCallsOf tree heap (Cycle methods) =
    IsCallCycle tree heap (map (method_numbered tree) methods) × AllByRecursion (λ k. k < length (methods_of tree)) methods

-- The image does what the bytes say, where initialisation has this clock, with every stack for which there is room above the static area, and which is no smaller
-- than the bound where the stack is bounded.
pub record DoesText (bytes : List ℕ) (clock : ℕ) (i : TextImage) : Type 0 where
  -- the bytes are a text of the language with this tree, which keeps all rules and is initialised to this heap; its live methods make nothing, and it fits
  pub tree : Node
  pub heap : Heap
  pub fitting : IsFitting bytes clock tree heap
  -- the static area has the bytes that the tree and the heap need
  pub static_is : IsStatic tree heap i.static_bytes
  pub fits : i.static_bytes ≤ 4096
  pub are_bytes : AllByRecursion (λ b. b < 256) i.flash
  -- on this flash the machine does what the text does from its heap, with its stack at or above the floor; or the active calls cost more than the stack, and
  -- it reaches below the floor first
  pub agrees : (stack : ℕ) → i.static_bytes + stack ≤ 4096 → IsFew stack i.bound → Agrees (sessions tree heap) i.flash (0x1100 - stack) stack
  -- with each stack for which there is room it writes to SRAM in the static area and on the stack alone, and lets interrupts in only at its idle SLEEP and at the CLI behind it
  pub memory : (stack : ℕ) → i.static_bytes + stack ≤ 4096 → KeepsMemory i.flash i.static_bytes (0x1100 - stack) (i.idle + 1)
  -- where its stack is bounded, no run brings a stack of so many bytes below the floor
  pub never : (bytes : ℕ) → i.bound ≡ Bytes bytes → i.static_bytes + bytes ≤ 4096 → NeverReaches i.flash (0x1100 - bytes)
  -- the bound is one of the calls of the text, or these go round
  pub calls : BoundsCallsOf tree heap i.bound

-- What fits can be compiled.
pub record CanCompile (f : Fitted) : Type 0 where
  pub given : IsGiven (program_at f.alive.start.program) f.alive.start.heap f.alive.live f.placed.numbers f.placed.columns
  pub ready : IsReady (program_at f.alive.start.program) f.alive.start.heap
  pub chip : NamesChip (program_at f.alive.start.program)
  pub costs : AreSmall (costs (tree_at [] f.alive.start.tree))

-- The image of what fits: the program, which is ready to be packed, does in its flash what it does from its heap, by the costs of its methods where calls go
-- round, and else by frames.
pub record IsCompiledOf (f : Fitted) (i : TextImage) : Type 0 where
  pub linked : Linked
  pub does : (texts : List (List ℕ)) → IsReady (program_at f.alive.start.program) f.alive.start.heap
      → DoesFor linked f.placed.columns (costs (tree_at texts f.alive.start.tree)) (program_at f.alive.start.program) f.alive.start.heap i.bound
  pub bound : IsReady (program_at f.alive.start.program) f.alive.start.heap
      → HoldsBound linked f.placed.columns (program_at f.alive.start.program) f.alive.start.heap i.bound
  pub calls : (texts : List (List ℕ)) → IsReady (program_at f.alive.start.program) f.alive.start.heap
      → BoundsCalls (costs (tree_at texts f.alive.start.tree)) (program_at f.alive.start.program) f.alive.start.heap i.bound
  pub flash : i.flash ≡ linked.flash
  pub are_bytes : AllByRecursion (λ b. b < 256) i.flash
  pub static_is : i.static_bytes ≡ f.placed.columns.static_bytes
  pub idle : i.idle ≡ linked.idle

-- Where the cause is that the flash is full, more words are needed than it has; and where it is the stack, more bytes than this stack has.
abbrev pub IsCauseFor : (stack : ℕ) → Unmade → Type 0
IsCauseFor stack (CodeFull words) = 65536 ≤ words
IsCauseFor stack (StackFull need) = stack < need
IsCauseFor stack NotLinear = Unit {0}
IsCauseFor stack NotBuilt = Unit {0}

-- No cycle of calls is reached in the program of what fits, and the bytes are at most four more than the methods of some way of calls cost.
abbrev pub NeedsOf : Fitted → (need : ℕ) → Type 0
NeedsOf f need = (texts : List (List ℕ)) → IsReady (program_at f.alive.start.program) f.alive.start.heap
    → BoundsCalls (costs (tree_at texts f.alive.start.tree)) (program_at f.alive.start.program) f.alive.start.heap (Bytes need)

-- Where the cause is the stack, calls need as much as is said.
abbrev pub NeedsAsSaid : Fitted → Refusal Unmade → Type 0
NeedsAsSaid f (refusal.Fault (StackFull need)) = NeedsOf f need
NeedsAsSaid f why = Unit {0}

-- What was packed of what fits has no linear code.
abbrev pub LacksLinear : Fitted → Type 0
LacksLinear f =
    (why : Fault) × HasNoLinear (program_at f.alive.start.program) f.alive.start.heap f.alive.live f.placed.numbers f.placed.columns why

-- Where the cause is said to be that it has no linear code, it is.
abbrev pub LacksAsSaid : Fitted → Refusal Unmade → Type 0
LacksAsSaid f (refusal.Fault NotLinear) = LacksLinear f
LacksAsSaid f why = Unit {0}

-- Where no procedure is trimmed, the costs of the text's methods cannot pay what was packed of what fits.
abbrev pub LacksFrames : Fitted → Type 0
LacksFrames f =
    (texts : List (List ℕ)) → HasNoFrames (program_at f.alive.start.program) f.alive.start.heap f.alive.live f.placed.numbers f.placed.columns
    (costs (tree_at texts f.alive.start.tree))

-- Where no procedure is trimmed, an interrupt cannot call each handler of what was packed of what fits.
abbrev pub LacksHandlers : Fitted → Type 0
LacksHandlers f = HasNoHandlers (program_at f.alive.start.program) f.alive.start.heap f.alive.live f.placed.numbers f.placed.columns

-- Where the cause is said to be that no image is built, it is one of these.
abbrev pub IsUnbuiltAsSaid : Fitted → Refusal Unmade → Type 0
IsUnbuiltAsSaid f (refusal.Fault NotBuilt) = LacksFrames f ⊎ LacksHandlers f
IsUnbuiltAsSaid f why = Unit {0}

-- Where a cause is called that of the stack, it is that calls need as many bytes; where it is called that of linear code, it is that; and where it is that no
-- image is built, it is that of frames or that of handlers.
abbrev pub IsCalled : NoImage → Unmade → Type 0
IsCalled why (StackFull need) = why ≡ Deep need
IsCalled why NotLinear = (fault : Fault) × (why ≡ no_image.NotLinear fault)
IsCalled why NotBuilt = (why ≡ no_image.Costly) ⊎ (why ≡ no_image.Received)
IsCalled why u = Unit {0}

abbrev pub IsRefusedFor : (stack : ℕ) → Result TextImage (Refusal Unmade) → Type 0
IsRefusedFor stack (Ok i) = Unit {0}
IsRefusedFor stack (Err (refusal.Fault why)) = IsCauseFor stack why
IsRefusedFor stack (Err refusal.NoMemory) = Unit {0}
