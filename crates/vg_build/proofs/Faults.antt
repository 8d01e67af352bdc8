-- What an answer says of the bytes: which texts are refused, and which are built.
use Rattle.std.proofs.Common.{◌≡◌, ℕ, zero, suc, ◌<◌, ◌≤◌, ◌⊎◌, ◌↔◌, List, length, Option, Some, None, Result, Ok, Err, refl, sym, ap, ◌∙◌, subst, inl, inr, arith}
use Rattle.std.specs.Prelude.{IfSome, IsOk}
use Rattle.vg_base.specs.Limits.{text_limit}
use Rattle.vg_base.specs.declared.place.Place.{Place}
use Rattle.vg_base.specs.declared.refusal.Refusal.{Refusal}
use Rattle.vg_base.specs.declared.refusal.Refusal.TheVariants as refusal
use Rattle.vg_syntax.specs.Faults.{IsText}
use Rattle.vg_syntax.specs.Tree.{Node}
use Rattle.vg_source.specs.Values.{Heap}
use Rattle.vg_source.specs.Program.{source_of}
use Rattle.vg_source.specs.Session.{Started, started}
use Rattle.vg_first_text.specs.declared.device_write.DeviceWrite.{DeviceWrite}
use Rattle.vg_first_text.specs.FirstText.{IsFirst}
use Rattle.vg_texts.proofs.Values.{some_tree}
use Rattle.vg_first_laws.specs.Trees.{empty_heap}
use Rattle.vg_first_laws.proofs.Texts.{first_is_text}
use Rattle.vg_first_laws.proofs.Means.{text_is_legal, text_starts}
use Rattle.vg_faults.specs.declared.fault.Fault.{Fault}
use Rattle.vg_faults.specs.declared.fault.Fault.TheVariants.{NoTree, TooDeep, TooMany, Broken, InitTrap, InitSteps, InitDepth, InitTouches, InitTooBig, Allocates, StaticFull, TableFull}
use Rattle.vg_faults.specs.declared.fault.Fault.TheVariants.{StackFull, CodeFull, NoMember, NotBuilt}
use Rattle.vg_faults.specs.Faults.{IsOfInit}
use Rattle.vg_faults.specs.Judged.{IsLegal}
use Rattle.vg_faults.specs.Room.{HasRoomFault, HasRoomIn, HasStack, StackFullIn, needed}
use Rattle.vg_faults.specs.Starting.{FailsIn}
use Rattle.vg_faults.proofs.Room.{is_room_fault, no_room_fault, one_room_fault}
use Rattle.vg_fits.specs.declared.fitting.Fitted.{Fitted}
use Rattle.vg_fits.specs.Answer.{IsFittedOf, Fits}
use Rattle.vg_layout.specs.declared.layout.Bound.TheVariants.{Bytes}
use Rattle.vg_code_bound.specs.Nodes.{IsCodeBound}
use Rattle.vg_text_image.specs.Made.{LacksFrames, LacksHandlers, LacksLinear}
use Rattle.vg_text_image.proofs.Texts.{deep_calls}
use Rattle.vg_build.specs.Image.{IsBuiltOf, SaysOfCalls}
use Rattle.vg_build.specs.declared.building.Built.{Built}
use Rattle.vg_build.specs.Answer.{Answer, Answers, HasFault, IsCause, IsLarge, IsNoFirst, IsNotBuilt, IsOverStack, IsSettled, fault_in, first_place}
use Rattle.vg_flash.specs.Flashes.{Lays, WrittenBy}
use Rattle.vg_build.specs.Mirrors.{CompiledBy, FlashBy, IsLeft}
use Rattle.vg_flash.specs.Stated.{stated}
use Rattle.vg_flash.specs.declared.flash.Flash.{Flash}
use Rattle.vg_flash.specs.declared.room.Room.{Room}
use Rattle.vg_build.proofs.Rooms.{heap_of, over_of, room_of, text_of}
use Rattle.vg_first_needs.proofs.Constants.{calls_of, fitting_of, static_of}

same_fault : (a b : Fault) → Some a ≡ Some b → a ≡ b
same_fault a b e = cc

none_some : (a : Fault) → None ≡ Some a → ⊥
none_some a e = cc

-- ---- the faults of a text, and what is not built

-- the faults that are answered exactly where the bytes have them
abbrev pub IsExact : Fault → Type 0
IsExact (NotBuilt place) = ⊥
IsExact (CodeFull words) = ⊥
IsExact (StackFull need left) = ⊥
IsExact why = Unit {0}

-- what is no program of constants with a stack of four bytes or more
abbrev IsBeside : List ℕ → Option ℕ → Type 0
IsBeside bytes asked = (writes : List DeviceWrite) → IsFirst bytes writes → 4 ≤ needed asked → ⊥

abbrev Sorted : Fault → List ℕ → Option ℕ → ℕ → Type 0
Sorted why bytes asked clock = (HasRoomIn bytes asked clock × IsBeside bytes asked) ⊎ HasRoomFault why bytes asked clock

not_built_beside : (bytes : List ℕ) (asked : Option ℕ) (clock : ℕ) → IsNotBuilt bytes asked clock → HasRoomIn bytes asked clock × IsBeside bytes asked
not_built_beside bytes asked clock (room, none) = (room, λ writes first large. none writes first)

stated_large : (asked : Option ℕ) (n : ℕ) → HasStack asked n → 4 ≤ needed asked → 4 ≤ stated asked n
stated_large None n room large = omega (arith, room)
stated_large (Some stack) n room large = large

too_few : (need left at : ℕ) → left ≡ at → left < need → 4 ≤ at → need ≡ 4 → ⊥
too_few need left at same more large four = omega (arith, same, more, large, four)

over_beside : (bytes : List ℕ) (asked : Option ℕ) (clock need left : ℕ) → IsOverStack bytes asked clock need left
    → HasRoomIn bytes asked clock × IsBeside bytes asked
over_beside bytes asked clock need left over = (
  record {
    tree = over.tree;
    heap = over.heap;
    fitting = over.fitting;
    static_bytes = over.static_bytes;
    has_static = over.has_static;
    room = over.room;
  },
  λ writes first large.
      too_few need left (stated asked over.static_bytes) over.left_is over.more (stated_large asked over.static_bytes over.room large) (over.few writes first),
)

sorted : (why : Fault) (bytes : List ℕ) (asked : Option ℕ) (clock : ℕ) → HasFault why bytes asked clock → Sorted why bytes asked clock
sorted (NotBuilt p) bytes asked clock h = inl (not_built_beside bytes asked clock h.0)
sorted (CodeFull words) bytes asked clock h = inl (not_built_beside bytes asked clock h.0)
sorted (NoTree p) bytes asked clock h = inr h
sorted (TooDeep p) bytes asked clock h = inr h
sorted (TooMany what limit p) bytes asked clock h = inr h
sorted (Broken rule p) bytes asked clock h = inr h
sorted (InitTrap code p) bytes asked clock h = inr h
sorted InitSteps bytes asked clock h = inr h
sorted InitDepth bytes asked clock h = inr h
sorted (InitTouches address) bytes asked clock h = inr h
sorted InitTooBig bytes asked clock h = inr h
sorted (Allocates p line) bytes asked clock h = inr h
sorted (StaticFull need) bytes asked clock h = inr h
sorted (TableFull need) bytes asked clock h = inr h
sorted (StackFull need left) bytes asked clock (inl h) = inr h
sorted (StackFull need left) bytes asked clock (inr over) = inl (over_beside bytes asked clock need left over)
sorted NoMember bytes asked clock h = inr h

-- an exact one is a fault of the text
exact_fault : (why : Fault) (bytes : List ℕ) (asked : Option ℕ) (clock : ℕ) → IsExact why → HasFault why bytes asked clock → HasRoomFault why bytes asked clock
exact_fault (NotBuilt p) bytes asked clock exact h = absurd exact
exact_fault (CodeFull words) bytes asked clock exact h = absurd exact
exact_fault (NoTree p) bytes asked clock exact h = h
exact_fault (TooDeep p) bytes asked clock exact h = h
exact_fault (TooMany what limit p) bytes asked clock exact h = h
exact_fault (Broken rule p) bytes asked clock exact h = h
exact_fault (InitTrap code p) bytes asked clock exact h = h
exact_fault InitSteps bytes asked clock exact h = h
exact_fault InitDepth bytes asked clock exact h = h
exact_fault (InitTouches address) bytes asked clock exact h = h
exact_fault InitTooBig bytes asked clock exact h = h
exact_fault (Allocates p line) bytes asked clock exact h = h
exact_fault (StaticFull need) bytes asked clock exact h = h
exact_fault (TableFull need) bytes asked clock exact h = h
exact_fault (StackFull need left) bytes asked clock exact h = absurd exact
exact_fault NoMember bytes asked clock exact h = h

-- and a fault of the text is one of the command
has_fault : (why : Fault) (bytes : List ℕ) (asked : Option ℕ) (clock : ℕ) → HasRoomFault why bytes asked clock → HasFault why bytes asked clock
has_fault (NotBuilt p) bytes asked clock h = absurd h
has_fault (CodeFull words) bytes asked clock h = absurd h
has_fault (NoTree p) bytes asked clock h = h
has_fault (TooDeep p) bytes asked clock h = h
has_fault (TooMany what limit p) bytes asked clock h = h
has_fault (Broken rule p) bytes asked clock h = h
has_fault (InitTrap code p) bytes asked clock h = h
has_fault InitSteps bytes asked clock h = h
has_fault InitDepth bytes asked clock h = h
has_fault (InitTouches address) bytes asked clock h = h
has_fault InitTooBig bytes asked clock h = h
has_fault (Allocates p line) bytes asked clock h = h
has_fault (StaticFull need) bytes asked clock h = h
has_fault (TableFull need) bytes asked clock h = h
has_fault (StackFull need left) bytes asked clock h = inl h
has_fault NoMember bytes asked clock h = h

-- the bytes have at most one exact fault, and then no other
one_fault : (a b : Fault) (bytes : List ℕ) (asked : Option ℕ) (clock : ℕ) → Sorted a bytes asked clock → HasRoomFault b bytes asked clock → a ≡ b
one_fault a b bytes asked clock (inl h) k = absurd (no_room_fault bytes asked clock b h.0 k)
one_fault a b bytes asked clock (inr h) k = one_room_fault bytes asked clock a b h k

-- ---- programs of constants

module _ (bytes : List ℕ) (asked : Option ℕ) (clock : ℕ) (writes : List DeviceWrite) (first : IsFirst bytes writes) (small : needed asked ≤ 4096) where
  constants_fit : (tree : Node) (heap : Heap) → IsLegal bytes tree → started (source_of tree) clock ≡ Started heap → HasRoomIn bytes asked clock
  constants_fit tree heap legal starts =
      record {
        tree = tree;
        heap = heap;
        fitting = fitting_of bytes clock writes tree heap legal starts first;
        static_bytes = 0;
        has_static = static_of bytes clock writes tree heap legal starts first;
        room = omega (arith, small);
      }

-- a program of constants starts, with each clock from 1 on, makes nothing and fits, and each stack has room
first_has_room : (bytes : List ℕ) (asked : Option ℕ) (clock : ℕ) (writes : List DeviceWrite) → 1 ≤ clock → needed asked ≤ 4096 → IsFirst bytes writes
    → HasRoomIn bytes asked clock
first_has_room bytes asked zero writes some small first = absurd (omega (arith, some))
first_has_room bytes asked (suc clock) writes some small first =
    let text : IsText bytes = first_is_text bytes writes first in
    let (tree, reads) = some_tree bytes text in
    let legal : IsLegal bytes tree = record { text = text; reads = reads; legal = text_is_legal bytes writes tree first reads } in
    constants_fit bytes asked (suc clock) writes first small tree empty_heap legal (text_starts bytes writes tree first reads clock)

first_has_none : (why : Fault) (bytes : List ℕ) (asked : Option ℕ) (clock : ℕ) (writes : List DeviceWrite) → HasRoomIn bytes asked clock → IsFirst bytes writes
    → 4 ≤ needed asked → Sorted why bytes asked clock → ⊥
first_has_none why bytes asked clock writes room first large (inl h) = h.1 writes first large
first_has_none why bytes asked clock writes room first large (inr h) = no_room_fault bytes asked clock why room h

needs_four : (asked : Option ℕ) → IfSome asked (λ stack. 4 ≤ stack) → 4 ≤ needed asked
needs_four None h = omega arith
needs_four (Some stack) h = h

needs_few : (asked : Option ℕ) → IfSome asked (λ stack. (1 ≤ stack) × (stack ≤ 4096)) → needed asked ≤ 4096
needs_few None h = omega arith
needs_few (Some stack) h = h.1

-- ---- exactly which texts are refused, and for what

-- what was built has room
built_has_room : (bytes : List ℕ) (asked : Option ℕ) (clock : ℕ) (built : Built) → IsBuiltOf bytes asked clock built → HasRoomIn bytes asked clock
built_has_room bytes asked clock built is =
    record {
      tree = is.image.tree;
      heap = is.image.heap;
      fitting = is.image.fitting;
      static_bytes = built.layout.static_bytes;
      has_static = is.image.static_is;
      room = is.image.room;
    }

pub exactly : (bytes : List ℕ) (asked : Option ℕ) (clock : ℕ) (r : Answer) → Answers bytes asked clock r → IsSettled r → (why : Fault) → IsExact why
    → (fault_in r ≡ Some why) ↔ HasFault why bytes asked clock
exactly bytes asked clock (Ok built) h settled why exact = (
  λ e. absurd (none_some why e),
  λ k. absurd (no_room_fault bytes asked clock why (built_has_room bytes asked clock built h) (exact_fault why bytes asked clock exact k)),
)
exactly bytes asked clock (Err (refusal.Fault w)) h settled why exact = (
  λ e. subst (λ x. HasFault x bytes asked clock) (same_fault w why e) h,
  λ k. ap Some (one_fault w why bytes asked clock (sorted w bytes asked clock h) (exact_fault why bytes asked clock exact k)),
)
exactly bytes asked clock (Err refusal.NoMemory) h settled why exact = absurd settled

pub init_of : (bytes : List ℕ) (asked : Option ℕ) (clock : ℕ) (r : Answer) → Answers bytes asked clock r → IsSettled r → (why : Fault) → IsOfInit why
    → (fault_in r ≡ Some why) ↔ FailsIn bytes clock why
init_of bytes asked clock r h settled (NoTree p) of_init = absurd of_init
init_of bytes asked clock r h settled (TooDeep p) of_init = absurd of_init
init_of bytes asked clock r h settled (TooMany what limit p) of_init = absurd of_init
init_of bytes asked clock r h settled (Broken rule p) of_init = absurd of_init
init_of bytes asked clock r h settled (InitTrap code p) of_init = exactly bytes asked clock r h settled (InitTrap code p) tt
init_of bytes asked clock r h settled InitSteps of_init = exactly bytes asked clock r h settled InitSteps tt
init_of bytes asked clock r h settled InitDepth of_init = exactly bytes asked clock r h settled InitDepth tt
init_of bytes asked clock r h settled (InitTouches address) of_init = exactly bytes asked clock r h settled (InitTouches address) tt
init_of bytes asked clock r h settled InitTooBig of_init = exactly bytes asked clock r h settled InitTooBig tt
init_of bytes asked clock r h settled (Allocates p line) of_init = absurd of_init
init_of bytes asked clock r h settled (StaticFull need) of_init = absurd of_init
init_of bytes asked clock r h settled (TableFull need) of_init = absurd of_init
init_of bytes asked clock r h settled (StackFull need left) of_init = absurd of_init
init_of bytes asked clock r h settled NoMember of_init = absurd of_init
init_of bytes asked clock r h settled (CodeFull words) of_init = absurd of_init
init_of bytes asked clock r h settled (NotBuilt p) of_init = absurd of_init

-- a fault that is answered is one that the bytes have
pub answered_of : (bytes : List ℕ) (asked : Option ℕ) (clock : ℕ) (r : Answer) → Answers bytes asked clock r → (why : Fault) → fault_in r ≡ Some why
    → HasFault why bytes asked clock
answered_of bytes asked clock (Ok built) h why e = absurd (none_some why e)
answered_of bytes asked clock (Err (refusal.Fault w)) h why e = subst (λ x. HasFault x bytes asked clock) (same_fault w why e) h
answered_of bytes asked clock (Err refusal.NoMemory) h why e = absurd (none_some why e)

-- what is not built has room, and is no program of constants
pub not_built_of : (bytes : List ℕ) (asked : Option ℕ) (clock : ℕ) (r : Answer) → Answers bytes asked clock r → (place : Place)
    → fault_in r ≡ Some (NotBuilt place) → IsNotBuilt bytes asked clock
not_built_of bytes asked clock r h place e = (answered_of bytes asked clock r h (NotBuilt place) e).0

-- and stands at the first place
pub first_of : (bytes : List ℕ) (asked : Option ℕ) (clock : ℕ) (r : Answer) → Answers bytes asked clock r → (place : Place)
    → fault_in r ≡ Some (NotBuilt place) → place ≡ first_place
first_of bytes asked clock r h place e = (answered_of bytes asked clock r h (NotBuilt place) e).1

-- and is large
pub large_of : (bytes : List ℕ) (asked : Option ℕ) (clock : ℕ) (r : Answer) → Answers bytes asked clock r → (place : Place)
    → fault_in r ≡ Some (NotBuilt place) → IsLarge bytes clock
large_of bytes asked clock r h place e = (answered_of bytes asked clock r h (NotBuilt place) e).2

-- a stack that has no room is refused, where memory suffices
pub stack_full_of : (bytes : List ℕ) (asked : Option ℕ) (clock : ℕ) (r : Answer) → Answers bytes asked clock r → IsSettled r → (need left : ℕ)
    → StackFullIn bytes asked clock need left → fault_in r ≡ Some (StackFull need left)
stack_full_of bytes asked clock (Ok built) h settled need left k =
    absurd (no_room_fault bytes asked clock (StackFull need left) (built_has_room bytes asked clock built h) k)
stack_full_of bytes asked clock (Err (refusal.Fault w)) h settled need left k =
    ap Some (one_fault w (StackFull need left) bytes asked clock (sorted w bytes asked clock h) k)
stack_full_of bytes asked clock (Err refusal.NoMemory) h settled need left k = absurd settled

-- and no other is, but for a stack that is smaller than what calls may need
pub stack_short_of : (bytes : List ℕ) (asked : Option ℕ) (clock : ℕ) (r : Answer) → Answers bytes asked clock r → (need left : ℕ)
    → fault_in r ≡ Some (StackFull need left) → StackFullIn bytes asked clock need left ⊎ IsOverStack bytes asked clock need left
stack_short_of bytes asked clock r h need left e = answered_of bytes asked clock r h (StackFull need left) e

-- a program of constants is built where its stack has four bytes or more, or memory is wanting
pub complete_of : (bytes : List ℕ) (asked : Option ℕ) (clock : ℕ) → IfSome asked (λ stack. (1 ≤ stack) × (stack ≤ 4096)) → (r : Answer)
    → Answers bytes asked clock r → 1 ≤ clock → IfSome asked (λ stack. 4 ≤ stack) → (writes : List DeviceWrite) → IsFirst bytes writes
    → IsOk r ⊎ (r ≡ Err refusal.NoMemory)
complete_of bytes asked clock small (Ok built) h some large writes first = inl refl
complete_of bytes asked clock small (Err (refusal.Fault why)) h some large writes first =
    absurd (first_has_none why bytes asked clock writes (first_has_room bytes asked clock writes some (needs_few asked small) first) first
    (needs_four asked large) (sorted why bytes asked clock h))
complete_of bytes asked clock small (Err refusal.NoMemory) h some large writes first = inr refl

-- ---- what is answered to a text is answered by the command

-- the laws of texts that are not built
abbrev pub LinearIsLong : Type 0
LinearIsLong =
    (bytes : List ℕ) (clock : ℕ) (f : Fitted) → IsFittedOf bytes clock f → length bytes ≤ text_limit → LacksLinear f → (words : ℕ)
    → IsCodeBound (text_of f) (heap_of f) words → 65536 < words

pub record UnbuiltIsLarge : Type 0 where
  pub handlers : (bytes : List ℕ) (clock : ℕ) (f : Fitted) → IsFittedOf bytes clock f → length bytes ≤ text_limit → LacksHandlers f → ⊥
  pub frames : (bytes : List ℕ) (clock : ℕ) (f : Fitted) → IsFittedOf bytes clock f → length bytes ≤ text_limit → LacksFrames f → (words : ℕ)
      → IsCodeBound (text_of f) (heap_of f) words → 65536 < words

pub fits_by : (bytes : List ℕ) (asked : Option ℕ) (clock : ℕ) (why : Refusal Fault) → Fits bytes clock (Err why) → IsCause why bytes asked clock
fits_by bytes asked clock (refusal.Fault why) h = has_fault why bytes asked clock (is_room_fault why bytes asked clock h)
fits_by bytes asked clock refusal.NoMemory h = tt

module _ (bytes : List ℕ) (asked : Option ℕ) (clock : ℕ) (f : Fitted) (is : IsFittedOf bytes clock f) (short : length bytes ≤ text_limit) (room : Room)
    (lays : Lays f.placed.columns.static_bytes asked (Ok room)) where
  abbrev stack : ℕ
  stack = room.stack

  stack_is : stack ≡ stated asked f.placed.columns.static_bytes
  stack_is = ap (λ (z : Room). z.stack) lays.1

  has_room : HasRoomIn bytes asked clock
  has_room = room_of bytes clock f is asked lays.0

  over : (need left : ℕ) → left ≡ stack → left < need → SaysOfCalls (text_of f) (heap_of f) (Bytes need) → ((writes : List DeviceWrite) → IsFirst bytes writes → need ≡ 4)
      → HasFault (StackFull need left) bytes asked clock
  over need left same more calls few = inr (over_of bytes clock f is asked lays.0 need left (same ∙ stack_is) more calls few)

  four_calls : (writes : List DeviceWrite) → IsFirst bytes writes → (need : ℕ) → need ≡ 4 → SaysOfCalls (text_of f) (heap_of f) (Bytes need)
  four_calls writes first need four =
      subst (λ z. SaysOfCalls (text_of f) (heap_of f) (Bytes z)) (sym four)
      (calls_of bytes clock writes (text_of f) (heap_of f) is.fitting.firm.legal is.fitting.firm.starts first)

  module _ (long : LinearIsLong) (unbuilt : UnbuiltIsLarge) where
    -- what has no image is large
    is_large : IsLeft f → IsLarge bytes clock
    is_large left = record { tree = text_of f; heap = heap_of f; fitting = is.fitting; large = λ words bound. by_left left words bound }
      where
        by_left : IsLeft f → (words : ℕ) → IsCodeBound (text_of f) (heap_of f) words → 65536 < words
        by_left (inl linear) words bound = long bytes clock f is short linear words bound
        by_left (inr (inr handlers)) words bound = absurd (unbuilt.handlers bytes clock f is short handlers)
        by_left (inr (inl frames)) words bound = unbuilt.frames bytes clock f is short frames words bound

    pub flash_by : (why : Refusal Fault) → FlashBy bytes f stack (Err why) → IsCause why bytes asked clock
    flash_by (refusal.Fault (NotBuilt place)) (inl (writes, first, h)) = absurd h
    flash_by (refusal.Fault (NotBuilt place)) (inr (none, (at, left))) = ((has_room, none), at, is_large left)
    flash_by (refusal.Fault (CodeFull words)) (inl (writes, first, h)) = absurd h
    flash_by (refusal.Fault (CodeFull words)) (inr (none, h)) = ((has_room, none), h)
    flash_by (refusal.Fault (StackFull need left)) (inl (writes, first, (four, same, more))) =
        over need left same more (four_calls writes first need four) (λ ws fst. four)
    flash_by (refusal.Fault (StackFull need left)) (inr (none, (same, more, needs))) =
        over need left same more (deep_calls bytes clock f is short need needs) (λ ws fst. absurd (none ws fst))
    flash_by refusal.NoMemory h = tt
    flash_by (refusal.Fault (NoTree p)) (inl (writes, first, h)) = absurd h
    flash_by (refusal.Fault (NoTree p)) (inr (none, h)) = absurd h
    flash_by (refusal.Fault (TooDeep p)) (inl (writes, first, h)) = absurd h
    flash_by (refusal.Fault (TooDeep p)) (inr (none, h)) = absurd h
    flash_by (refusal.Fault (TooMany what limit p)) (inl (writes, first, h)) = absurd h
    flash_by (refusal.Fault (TooMany what limit p)) (inr (none, h)) = absurd h
    flash_by (refusal.Fault (Broken rule p)) (inl (writes, first, h)) = absurd h
    flash_by (refusal.Fault (Broken rule p)) (inr (none, h)) = absurd h
    flash_by (refusal.Fault (InitTrap code p)) (inl (writes, first, h)) = absurd h
    flash_by (refusal.Fault (InitTrap code p)) (inr (none, h)) = absurd h
    flash_by (refusal.Fault InitSteps) (inl (writes, first, h)) = absurd h
    flash_by (refusal.Fault InitSteps) (inr (none, h)) = absurd h
    flash_by (refusal.Fault InitDepth) (inl (writes, first, h)) = absurd h
    flash_by (refusal.Fault InitDepth) (inr (none, h)) = absurd h
    flash_by (refusal.Fault (InitTouches address)) (inl (writes, first, h)) = absurd h
    flash_by (refusal.Fault (InitTouches address)) (inr (none, h)) = absurd h
    flash_by (refusal.Fault InitTooBig) (inl (writes, first, h)) = absurd h
    flash_by (refusal.Fault InitTooBig) (inr (none, h)) = absurd h
    flash_by (refusal.Fault (Allocates p line)) (inl (writes, first, h)) = absurd h
    flash_by (refusal.Fault (Allocates p line)) (inr (none, h)) = absurd h
    flash_by (refusal.Fault (StaticFull need)) (inl (writes, first, h)) = absurd h
    flash_by (refusal.Fault (StaticFull need)) (inr (none, h)) = absurd h
    flash_by (refusal.Fault (TableFull need)) (inl (writes, first, h)) = absurd h
    flash_by (refusal.Fault (TableFull need)) (inr (none, h)) = absurd h
    flash_by (refusal.Fault NoMember) (inl (writes, first, h)) = absurd h
    flash_by (refusal.Fault NoMember) (inr (none, h)) = absurd h

-- the flash of writes is that of a program of constants
pub by_writes : (bytes : List ℕ) (f : Fitted) (stack : ℕ) (writes given : List DeviceWrite) → given ≡ writes → IsFirst bytes writes
    → (r : Result Flash (Refusal Fault)) → WrittenBy given stack r → FlashBy bytes f stack r
by_writes bytes f stack writes given same first (Ok flash) h = inl (given, subst (λ ws. IsFirst bytes ws) (sym same) first, h)
by_writes bytes f stack writes given same first (Err (refusal.Fault why)) h = inl (given, subst (λ ws. IsFirst bytes ws) (sym same) first, h)
by_writes bytes f stack writes given same first (Err refusal.NoMemory) h = tt

-- what is compiled of what is no program of constants
pub by_compiled : (bytes : List ℕ) (f : Fitted) (stack : ℕ) → IsNoFirst bytes → (r : Result Flash (Refusal Fault)) → CompiledBy f stack r
    → FlashBy bytes f stack r
by_compiled bytes f stack none (Ok flash) h = inr (none, h)
by_compiled bytes f stack none (Err (refusal.Fault why)) h = inr (none, h)
by_compiled bytes f stack none (Err refusal.NoMemory) h = tt
