-- A text that fits has one sum of bytes of RAM, so one stack that has no room: it has at most one fault.
use Rattle.std.proofs.Common.{◌≡◌, ℕ, ◌+◌, ◌-◌, ◌<◌, ◌≤◌, ◌⊎◌, List, Option, refl, sym, ap, ◌∙◌, inl, inr, arith}
use Rattle.vg_faults.specs.declared.fault.Fault.{Fault}
use Rattle.vg_faults.specs.declared.fault.Fault.TheVariants.{NoTree, TooDeep, TooMany, Broken, InitTrap, InitSteps, InitDepth, InitTouches, InitTooBig}
use Rattle.vg_faults.specs.declared.fault.Fault.TheVariants.{Allocates, StaticFull, TableFull, StackFull, CodeFull, NoMember, NotBuilt}
use Rattle.vg_faults.specs.Fitting.{IsFittingIn, HasFitFault}
use Rattle.vg_faults.specs.Room.{needed, StackFullIn, HasRoomIn, HasRoomFault}
use Rattle.vg_faults.proofs.Fits.{same_static, no_fit_fault, one_fit_fault}

-- a fault by what has it: the stack, or what stands before
abbrev Sorted : Fault → List ℕ → Option ℕ → ℕ → Type 0
Sorted why bytes asked clock = ((need left : ℕ) × (why ≡ StackFull need left) × StackFullIn bytes asked clock need left) ⊎ HasFitFault why bytes clock

sorted : (why : Fault) (bytes : List ℕ) (asked : Option ℕ) (clock : ℕ) → HasRoomFault why bytes asked clock → Sorted why bytes asked clock
sorted (StackFull need left) bytes asked clock h = inl (need, left, refl, h)
sorted (NoTree p) bytes asked clock h = inr h
sorted (TooDeep p) bytes asked clock h = inr h
sorted (TooMany what limit p) bytes asked clock h = inr h
sorted (Broken rule p) bytes asked clock h = inr h
sorted (InitTrap code p) bytes asked clock h = inr h
sorted InitSteps bytes asked clock h = inr h
sorted InitDepth bytes asked clock h = inr h
sorted (InitTouches address) bytes asked clock h = inr h
sorted InitTooBig bytes asked clock h = inr h
sorted (Allocates p line) bytes asked clock h = inr h
sorted (StaticFull need) bytes asked clock h = inr h
sorted (TableFull need) bytes asked clock h = inr h
sorted (CodeFull words) bytes asked clock h = inr h
sorted NoMember bytes asked clock h = inr h
sorted (NotBuilt p) bytes asked clock h = inr h

-- what stands before is a fault
pub is_room_fault : (why : Fault) (bytes : List ℕ) (asked : Option ℕ) (clock : ℕ) → HasFitFault why bytes clock → HasRoomFault why bytes asked clock
is_room_fault (StackFull need left) bytes asked clock h = absurd h
is_room_fault (NoTree p) bytes asked clock h = h
is_room_fault (TooDeep p) bytes asked clock h = h
is_room_fault (TooMany what limit p) bytes asked clock h = h
is_room_fault (Broken rule p) bytes asked clock h = h
is_room_fault (InitTrap code p) bytes asked clock h = h
is_room_fault InitSteps bytes asked clock h = h
is_room_fault InitDepth bytes asked clock h = h
is_room_fault (InitTouches address) bytes asked clock h = h
is_room_fault InitTooBig bytes asked clock h = h
is_room_fault (Allocates p line) bytes asked clock h = h
is_room_fault (StaticFull need) bytes asked clock h = h
is_room_fault (TableFull need) bytes asked clock h = h
is_room_fault (CodeFull words) bytes asked clock h = h
is_room_fault NoMember bytes asked clock h = h
is_room_fault (NotBuilt p) bytes asked clock h = h

past : (m n need : ℕ) → m ≡ n → 4096 < m + need → n + need ≤ 4096 → ⊥
past m n need e a b = omega (arith, e, a, b)

-- a text that has room for a stack fits
pub room_fits : (bytes : List ℕ) (asked : Option ℕ) (clock : ℕ) → HasRoomIn bytes asked clock → IsFittingIn bytes clock
room_fits bytes asked clock is = (is.tree, is.heap, is.fitting)

stack_fits : (bytes : List ℕ) (asked : Option ℕ) (clock need left : ℕ) → StackFullIn bytes asked clock need left → IsFittingIn bytes clock
stack_fits bytes asked clock need left is = (is.tree, is.heap, is.fitting)

module _ (bytes : List ℕ) (asked : Option ℕ) (clock : ℕ) where
  two_stacks : (m k n l : ℕ) → StackFullIn bytes asked clock m k → StackFullIn bytes asked clock n l → StackFull m k ≡ StackFull n l
  two_stacks m k n l a b =
      let same =
      same_static bytes clock a.tree b.tree a.heap b.heap a.fitting.firm b.fitting.firm a.static_bytes b.static_bytes a.has_static b.has_static in
      ap (λ x. StackFull x k) (a.lacks.1 ∙ sym b.lacks.1) ∙ ap (StackFull n) (a.lacks.2 ∙ ap (λ s. 4096 - s) same ∙ sym b.lacks.2)

  one_sorted : (a b : Fault) → Sorted a bytes asked clock → Sorted b bytes asked clock → a ≡ b
  one_sorted a b (inl (m, k, e, h)) (inl (n, l, f, g)) = e ∙ two_stacks m k n l h g ∙ sym f
  one_sorted a b (inl (m, k, e, h)) (inr g) = absurd (no_fit_fault bytes clock b (stack_fits bytes asked clock m k h) g)
  one_sorted a b (inr h) (inl (n, l, f, g)) = absurd (no_fit_fault bytes clock a (stack_fits bytes asked clock n l g) h)
  one_sorted a b (inr h) (inr g) = one_fit_fault bytes clock a b h g

  pub one_room_fault : (a b : Fault) → HasRoomFault a bytes asked clock → HasRoomFault b bytes asked clock → a ≡ b
  one_room_fault a b h k = one_sorted a b (sorted a bytes asked clock h) (sorted b bytes asked clock k)

  none_sorted : (why : Fault) → HasRoomIn bytes asked clock → Sorted why bytes asked clock → ⊥
  none_sorted why is (inl (m, k, e, a)) =
      past a.static_bytes is.static_bytes (needed asked)
      (same_static bytes clock a.tree is.tree a.heap is.heap a.fitting.firm is.fitting.firm a.static_bytes is.static_bytes a.has_static is.has_static)
      a.lacks.0 is.room
  none_sorted why is (inr k) = no_fit_fault bytes clock why (room_fits bytes asked clock is) k

  -- a text that has room has no fault
  pub no_room_fault : (why : Fault) → HasRoomIn bytes asked clock → HasRoomFault why bytes asked clock → ⊥
  no_room_fault why is k = none_sorted why is (sorted why bytes asked clock k)
