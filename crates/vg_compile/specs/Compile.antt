-- What it means that an image is that of a program.
use Rattle.std.specs.Prelude.{ℕ, ◌≡◌, ◌<◌, ◌≤◌, List, map, Result, Ok, Err}
use Rattle.vg_base.specs.declared.refusal.Refusal.{Refusal}
use Rattle.vg_base.specs.declared.refusal.Refusal.TheVariants.{Fault as Faulty, NoMemory}
use Rattle.vg_frame_costs.specs.declared.frames.Frames.{Frames}
use Rattle.vg_frame_costs.specs.Payable.{CanBePaid}
use Rattle.vg_flatten_shapes.specs.declared.fault.Fault.{Fault}
use Rattle.vg_live.specs.declared.live_set.LiveSet.{LiveSet}
use Rattle.vg_number.specs.declared.numbers.Numbers.{Numbers}
use Rattle.vg_place.specs.declared.placing.Columns.{Columns}
use Rattle.vg_placement.specs.declared.column.Column.{Column}
use Rattle.vg_packed.specs.Packed.{IsPackedFrom}
use Rattle.vg_packed_suits.specs.Bodies.{AreTypedWhereCounted}
use Rattle.vg_packed.specs.declared.program.Entrance.{Entrance}
use Rattle.vg_packed.specs.declared.program.FirmProgram.{FirmProgram}
use Rattle.vg_linear.specs.declared.whole.Linear.{Linear}
use Rattle.vg_linear.specs.Refusals.{IsCauseOf}
use Rattle.vg_linear.specs.Whole.{IsLinear, IsPlain}
pub use Rattle.vg_link.specs.declared.linked.Linked.{Linked}
use Rattle.vg_link.specs.declared.unlinked.Handler.{Handler}
use Rattle.vg_link.specs.declared.unlinked.Unlinked.{Unlinked}
use Rattle.vg_link.specs.Linking.{CanBeLinked, IsLinked, words_laid}
use Rattle.vg_compile.specs.Handlers.{AllCanHandle}
use Rattle.vg_compile.specs.Unlinked.{IsUnlinked}
use Rattle.vg_compile.specs.declared.no_image.NoImage.{NoImage}
use Rattle.vg_compile.specs.declared.no_image.NoImage.TheVariants.{NotLinear, Received, Costly, Deep, Full}
use Rattle.vg_compile.specs.Bounds.{AreFramesOf, ArePaidFor, BoundsCalls, NeedsAtLeast}
use Rattle.vg_call_need.specs.Within.{IsNeedWithin}
use Rattle.vg_core.specs.declared.heap.Heap.{Heap}
use Rattle.vg_core.specs.Program.{Program}
use Rattle.vg_layout.specs.declared.stack_bound.StackBound.{StackBound}
use Rattle.vg_layout.specs.declared.stack_bound.StackBound.TheVariants.{Bytes}
use Rattle.vg_call_need.specs.Bounds.{IsBoundOf}
use Rattle.vg_call_need.specs.declared.need.Need.{Need}

-- The image of a packed program: it is made linear, what its calls need is known by the frames of methods, which their costs pay for where calls go round,
-- and it is linked.
pub record IsImageOf (c : Columns) (f : FirmProgram) (costs : List ℕ) (linked : Linked) (bound : StackBound) : Type 0 where
  pub linear : Linear
  pub is_linear : IsLinear c.list f linear
  pub frames : Frames
  pub are_frames : AreFramesOf linear frames
  pub unlinked : Unlinked
  pub is_unlinked : IsUnlinked c f linear unlinked
  pub can_be_linked : CanBeLinked unlinked
  pub is_linked : IsLinked unlinked linked
  pub need : Need
  pub is_need : IsNeedWithin frames.beside f frames.by_method costs need
  pub are_paid : ArePaidFor frames costs need
  pub is_bound : IsBoundOf f need bound

-- A handler of the packed program.
abbrev pub handler_of : Entrance → Handler
handler_of e = record { vector = e.vector; procedure = e.procedure }

-- Where the cause is that the flash is full, more words are needed than it has; and where it is that calls go too deep, more bytes than this stack has.
abbrev pub IsCauseFor : (stack : ℕ) → NoImage → Type 0
IsCauseFor stack (Full full) = 65536 ≤ full.words
IsCauseFor stack (Deep need) = stack < need
IsCauseFor stack (NotLinear fault) = Unit {0}
IsCauseFor stack Received = Unit {0}
IsCauseFor stack Costly = Unit {0}

-- Where the cause is that calls go too deep, the calls of the packed program need as much as is said.
abbrev pub NeedsAsSaid : FirmProgram → (costs : List ℕ) → Refusal NoImage → Type 0
NeedsAsSaid f costs (Faulty (Deep need)) = NeedsAtLeast f costs need
NeedsAsSaid f costs why = Unit {0}

-- Where the cause is that calls go too deep, no cycle of calls is reached in the program, and the bytes are at most four more than the methods of some way of
-- calls cost.
abbrev pub CallsNeedAsSaid : (costs : List ℕ) → Program → Heap → Refusal NoImage → Type 0
CallsNeedAsSaid costs p h (Faulty (Deep need)) = BoundsCalls costs p h (Bytes need)
CallsNeedAsSaid costs p h why = Unit {0}

-- Where the cause is that it has no linear code, it is one of those for which the packed program with these columns has none.
abbrev pub LacksLinear : List Column → FirmProgram → Refusal NoImage → Type 0
LacksLinear cs f (Faulty (NotLinear why)) = IsCauseOf why cs f
LacksLinear cs f why = Unit {0}

-- Costs of methods cannot pay the procedures of a linear program.
abbrev pub IsUnpaid : Linear → (costs : List ℕ) → Type 0
IsUnpaid l costs = CanBePaid l.procedures l.start costs → ⊥

-- Not each handler of the packed program is a procedure of the linear one that an interrupt can call.
abbrev pub IsUnhandled : Linear → FirmProgram → Type 0
IsUnhandled l f = AllCanHandle l.procedures (map handler_of f.handlers) → ⊥

-- Where the cause is that frames are more than their methods cost, costs cannot pay a linear program of the packed one in which no procedure is trimmed.
abbrev pub LacksFrames : List Column → FirmProgram → (costs : List ℕ) → Refusal NoImage → Type 0
LacksFrames cs f costs (Faulty Costly) = (l : Linear) × IsPlain cs f l × IsUnpaid l costs
LacksFrames cs f costs why = Unit {0}

-- Where the cause is that the procedure of a handler receives something, it does in a linear program of the packed one in which no procedure is trimmed.
abbrev pub LacksHandlers : List Column → FirmProgram → Refusal NoImage → Type 0
LacksHandlers cs f (Faulty Received) = (l : Linear) × IsPlain cs f l × IsUnhandled l f
LacksHandlers cs f why = Unit {0}

-- So many words or more the image of a packed program takes by a linear one in which no procedure is trimmed.
pub record TakesWords (c : Columns) (f : FirmProgram) (words : ℕ) : Type 0 where
  pub linear : Linear
  pub plain : IsPlain c.list f linear
  pub unlinked : Unlinked
  pub is_unlinked : IsUnlinked c f linear unlinked
  pub taken : words ≤ words_laid unlinked

-- Where the cause is that the flash is full, such an image takes as many words as are said, or more.
abbrev pub LacksRoom : Columns → FirmProgram → Refusal NoImage → Type 0
LacksRoom c f (Faulty (Full full)) = TakesWords c f full.words
LacksRoom c f why = Unit {0}

-- What was packed of a program has such a cause; and all of it is typed, where the code of the program's methods takes and leaves its values in order.
pub record HasNoLinear (p : Program) (h : Heap) (s : LiveSet) (n : Numbers) (c : Columns) (why : Fault) : Type 0 where
  pub firm : FirmProgram
  pub packed : IsPackedFrom p h s n c firm
  pub typed : AreTypedWhereCounted p h c firm
  pub cause : IsCauseOf why c.list firm

-- Where the cause is that it has no linear code, that is one of what was packed.
abbrev pub LacksLinearOf : Program → Heap → LiveSet → Numbers → Columns → Refusal NoImage → Type 0
LacksLinearOf p h s n c (Faulty (NotLinear why)) = HasNoLinear p h s n c why
LacksLinearOf p h s n c why = Unit {0}

-- What was packed of a program has a linear program in which no procedure is trimmed, and which these costs cannot pay; and all of it is typed, where the code
-- of the program's methods takes and leaves its values in order.
pub record HasNoFrames (p : Program) (h : Heap) (s : LiveSet) (n : Numbers) (c : Columns) (costs : List ℕ) : Type 0 where
  pub firm : FirmProgram
  pub packed : IsPackedFrom p h s n c firm
  pub typed : AreTypedWhereCounted p h c firm
  pub linear : Linear
  pub plain : IsPlain c.list firm linear
  pub unpaid : IsUnpaid linear costs

-- Where the cause is that frames are more than their methods cost, that is one of what was packed.
abbrev pub LacksFramesOf : Program → Heap → LiveSet → Numbers → Columns → (costs : List ℕ) → Refusal NoImage → Type 0
LacksFramesOf p h s n c costs (Faulty Costly) = HasNoFrames p h s n c costs
LacksFramesOf p h s n c costs why = Unit {0}

-- What was packed of a program has a linear program in which no procedure is trimmed, and not each handler of which an interrupt can call; and all of it is
-- typed, where the code of the program's methods takes and leaves its values in order.
pub record HasNoHandlers (p : Program) (h : Heap) (s : LiveSet) (n : Numbers) (c : Columns) : Type 0 where
  pub firm : FirmProgram
  pub packed : IsPackedFrom p h s n c firm
  pub typed : AreTypedWhereCounted p h c firm
  pub linear : Linear
  pub plain : IsPlain c.list firm linear
  pub unhandled : IsUnhandled linear firm

-- Where the cause is that the procedure of a handler receives something, that is one of what was packed.
abbrev pub LacksHandlersOf : Program → Heap → LiveSet → Numbers → Columns → Refusal NoImage → Type 0
LacksHandlersOf p h s n c (Faulty Received) = HasNoHandlers p h s n c
LacksHandlersOf p h s n c why = Unit {0}

-- What was packed of a program takes so many words or more by a linear program in which no procedure is trimmed; and all of it is typed, where the code of the program's
-- methods takes and leaves its values in order.
pub record HasNoRoom (p : Program) (h : Heap) (s : LiveSet) (n : Numbers) (c : Columns) (words : ℕ) : Type 0 where
  pub firm : FirmProgram
  pub packed : IsPackedFrom p h s n c firm
  pub typed : AreTypedWhereCounted p h c firm
  pub takes : TakesWords c firm words

-- Where the cause is that the flash is full, so it is with the words that are said.
abbrev pub LacksRoomOf : Program → Heap → LiveSet → Numbers → Columns → Refusal NoImage → Type 0
LacksRoomOf p h s n c (Faulty (Full full)) = HasNoRoom p h s n c full.words
LacksRoomOf p h s n c why = Unit {0}

abbrev pub IsRefusedFor : {V : Type 0} → (stack : ℕ) → Result V (Refusal NoImage) → Type 0
IsRefusedFor stack (Ok v) = Unit {0}
IsRefusedFor stack (Err (Faulty why)) = IsCauseFor stack why
IsRefusedFor stack (Err NoMemory) = Unit {0}
