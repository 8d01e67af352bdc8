-- The flash of a text, with its layout and its texts, is built of it.
use Rattle.std.proofs.Common.{◌≡◌, ℕ, zero, suc, ◌+◌, ◌-◌, ◌<◌, ◌≤◌, inl, inr, List, length, map, Option, Some, None, Ok, refl, sym, ap, ◌∙◌, subst, arith}
use Rattle.vg_base.specs.Limits.{text_limit}
use Rattle.vg_syntax.specs.Tree.{Node}
use Rattle.vg_source.specs.Values.{Heap}
use Rattle.vg_source.specs.Peak.{sessions}
use Rattle.vg_first_text.specs.declared.device_write.DeviceWrite.{DeviceWrite}
use Rattle.vg_first_text.specs.FirstSession.{first_session}
use Rattle.vg_first_text.specs.FirstText.{IsFirst}
use Rattle.vg_first_laws.proofs.Means.{text_sessions}
use Rattle.avr_isa.specs.Agrees.{Agrees, NeverReaches}
use Rattle.vg_text_image.specs.Made.{KeepsMemory}
use Rattle.vg_hex.specs.HexImage.{HexImage}
use Rattle.vg_hex.specs.HexText.{hex_text}
use Rattle.vg_hex.proofs.Again.{one_image}
use Rattle.vg_static_source.specs.Sums.{IsStatic}
use Rattle.vg_faults.specs.Fitting.{IsFitting}
use Rattle.vg_faults.specs.Room.{HasStack}
use Rattle.vg_faults.proofs.Fits.{same_static}
use Rattle.vg_faults.proofs.Makers.{one_start}
use Rattle.vg_calls_source.specs.Methods.{method_numbered}
use Rattle.vg_text_image.proofs.Told.{names_told}
use Rattle.vg_written.specs.Written.{parts_of}
use Rattle.vg_fits.specs.declared.fitting.Fitted.{Fitted}
use Rattle.vg_fits.specs.Answer.{IsFittedOf}
use Rattle.vg_text_image.specs.declared.making.TextImage.{TextImage}
use Rattle.vg_text_image.specs.Made.{BoundsCallsOf, DoesText}
use Rattle.vg_text_image.proofs.Texts.{does_text}
use Rattle.vg_build.specs.declared.building.Built.{Built}
use Rattle.vg_flash.specs.declared.flash.Flash.{Flash}
use Rattle.vg_flash.specs.declared.room.Room.{Room}
use Rattle.vg_layout.specs.Few.{IsFew}
use Rattle.vg_layout.specs.declared.stack_bound.StackBound.{StackBound}
use Rattle.vg_layout.specs.declared.stack_bound.StackBound.TheVariants as held
use Rattle.vg_layout.specs.declared.layout.Bound.{Bound}
use Rattle.vg_layout.specs.declared.layout.Bound.TheVariants as said
use Rattle.vg_layout.specs.declared.layout.Layout.{Layout}
use Rattle.vg_build.specs.Answer.{IsNoFirst}
use Rattle.vg_build.specs.Image.{IsBuiltOf, IsImageOf, SaysOfCalls}
use Rattle.vg_flash.specs.Stated.{stated}
use Rattle.vg_flash.specs.Flashes.{IsLayoutOf, IsMadeOf, Lays, SaysBound, room_above}
use Rattle.vg_build.specs.Mirrors.{FlashBy, IsFlashOf, IsPacked}
use Rattle.vg_first_needs.proofs.Constants.{calls_of, heap_is}
use Rattle.vg_build.proofs.Rooms.{heap_of, needs_static, text_of}
use Rattle.vg_first_needs.proofs.Stacks.{on_smaller}

-- ---- the flash of a program of constants

-- each session of one costs more than the byte of stack that an interrupt does not fit into
costs_more : (writes : List DeviceWrite) (stack : ℕ) → stack ≤ 1 → (reads interrupts : List ℕ) (clock : ℕ)
    → stack < (first_session writes reads interrupts clock).peak
costs_more writes stack small reads interrupts zero = omega (arith, small)
costs_more writes stack small reads interrupts (suc clock) = omega (arith, small)

on_each : (writes : List DeviceWrite) (image : List ℕ) → IsMadeOf writes image → (stack : ℕ) → stack ≤ 4096
    → Agrees (first_session writes) image (0x1100 - stack) stack
on_each writes image made zero fits =
    on_smaller (first_session writes) image 0x10FE 0x1100 2 0 (omega arith) (omega arith) (costs_more writes 0 (omega arith))
    (made.agrees 0x10FE 2 refl (omega arith))
on_each writes image made (suc zero) fits =
    on_smaller (first_session writes) image 0x10FE 0x10FF 2 1 (omega arith) (omega arith) (costs_more writes 1 (omega arith))
    (made.agrees 0x10FE 2 refl (omega arith))
on_each writes image made (suc (suc n)) fits = made.agrees (0x1100 - suc (suc n)) (suc (suc n)) (omega (arith, fits)) (omega arith)

never_on : (writes : List DeviceWrite) (image : List ℕ) → IsMadeOf writes image → (stack : ℕ) → 2 ≤ stack → stack ≤ 4096
    → NeverReaches image (0x1100 - stack)
never_on writes image made stack large fits = made.never (0x1100 - stack) stack (omega (arith, fits)) large

-- ---- the flash of a text

-- on each stack that has room above the static area, and for the bound where there is one, the machine does what the text does, a program of constants keeps to it, and any other keeps memory; and
-- where the stack is bounded it is never left
record DoesOnStacks (bytes : List ℕ) (tree : Node) (heap : Heap) (static_bytes : ℕ) (flash : Flash) : Type 0 where
  agrees : (stack : ℕ) → static_bytes + stack ≤ 4096 → IsFew stack flash.bound → Agrees (sessions tree heap) flash.image (0x1100 - stack) stack
  never : (writes : List DeviceWrite) → IsFirst bytes writes → (stack : ℕ) → 2 ≤ stack → stack ≤ 4096 → NeverReaches flash.image (0x1100 - stack)
  idle : ℕ
  idle_is : idle < 65536 → flash.idle ≡ idle
  memory : IsNoFirst bytes → (stack : ℕ) → static_bytes + stack ≤ 4096 → KeepsMemory flash.image static_bytes (0x1100 - stack) idle
  bounded : (need : ℕ) → flash.bound ≡ held.Bytes need → static_bytes + need ≤ 4096 → NeverReaches flash.image (0x1100 - need)
  calls : BoundsCallsOf tree heap flash.bound

within : (n stack : ℕ) → n + stack ≤ 4096 → stack ≤ 4096
within n stack fits = omega (arith, fits)

same_bytes : (a b : ℕ) → held.Bytes a ≡ held.Bytes b → a ≡ b
same_bytes a b e = cc

module _ (bytes : List ℕ) (clock : ℕ) (tree : Node) (heap : Heap) (is : IsFitting bytes clock tree heap) (n : ℕ) (static_is : IsStatic tree heap n) where
  does_writes : (flash : Flash) (writes : List DeviceWrite) → IsFirst bytes writes → IsMadeOf writes flash.image → flash.bound ≡ held.Bytes 4
      → DoesOnStacks bytes tree heap n flash
  does_writes flash writes first made four =
      record {
        agrees = λ stack fits few.
            subst (λ h. Agrees (sessions tree h) flash.image (0x1100 - stack) stack)
            (heap_is bytes clock writes tree heap is.firm.legal first is.firm.starts)
            (subst (λ s. Agrees s flash.image (0x1100 - stack) stack) (sym (text_sessions bytes writes tree first is.firm.legal.reads))
            (on_each writes flash.image made stack (within n stack fits)));
        never = λ other fst. never_on writes flash.image made;
        idle = flash.idle;
        idle_is = λ low. refl;
        memory = λ none. absurd (none writes first);
        bounded = λ need e fits.
            subst (λ z. NeverReaches flash.image (0x1100 - z)) (same_bytes 4 need (sym four ∙ e))
            (never_on writes flash.image made 4 (omega arith) (omega arith));
        calls = subst (λ b. BoundsCallsOf tree heap b) (sym four) (calls_of bytes clock writes tree heap is.firm.legal is.firm.starts first);
      }

  does_compiled : (i : TextImage) (flash : Flash) → IsFlashOf i flash → IsNoFirst bytes → DoesText bytes clock i → DoesOnStacks bytes tree heap n flash
  does_compiled i flash of none does =
      let firm = does.fitting.firm in
      let (one_tree, one_heap) = one_start bytes clock does.tree tree does.heap heap firm.legal is.firm.legal firm.starts is.firm.starts in
      let one_static = same_static bytes clock does.tree tree does.heap heap firm is.firm i.static_bytes n does.static_is static_is in
      record {
        agrees = λ stack fits few.
            subst (λ x. Agrees (sessions tree heap) x (0x1100 - stack) stack) (sym of.image)
            (subst (λ h. Agrees (sessions tree h) i.flash (0x1100 - stack) stack) one_heap
            (subst (λ t. Agrees (sessions t does.heap) i.flash (0x1100 - stack) stack) one_tree
            (does.agrees stack (subst (λ m. m + stack ≤ 4096) (sym one_static) fits) (subst (λ b. IsFew stack b) of.bound few))));
        never = λ writes first. absurd (none writes first);
        idle = i.idle + 1;
        idle_is = of.idle;
        memory = λ no stack fits.
            subst (λ x. KeepsMemory x n (0x1100 - stack) (i.idle + 1)) (sym of.image)
            (subst (λ m. KeepsMemory i.flash m (0x1100 - stack) (i.idle + 1)) one_static
            (does.memory stack (subst (λ m. m + stack ≤ 4096) (sym one_static) fits)));
        bounded = λ need e fits.
            subst (λ x. NeverReaches x (0x1100 - need)) (sym of.image)
            (does.never need (sym of.bound ∙ e) (subst (λ m. m + need ≤ 4096) (sym one_static) fits));
        calls = subst (λ b. BoundsCallsOf tree heap b) (sym of.bound)
            (subst (λ h. BoundsCallsOf tree h i.bound) one_heap (subst (λ t. BoundsCallsOf t does.heap i.bound) one_tree does.calls));
      }

-- ---- the layout

-- the stated stack fits where the stack that is needed has room
stated_fits : (asked : Option ℕ) (n : ℕ) → HasStack asked n → n + stated asked n ≤ 4096
stated_fits None n room = omega (arith, room)
stated_fits (Some stack) n room = room

floor_is : (stack : ℕ) → stack ≤ 4096 → 0x1100 - stack + stack ≡ 0x1100
floor_is stack fits = omega (arith, fits)

-- a bound that is said is one that holds
says_bytes : (f : Fitted) (b : StackBound) (l : Bound) → SaysBound f b l → (need : ℕ) → l ≡ said.Bytes need → b ≡ held.Bytes need
says_bytes f (held.Bytes n) (said.Bytes m) e need same = ap (λ z. held.Bytes z) (sym e ∙ same_said m need same)
  where
    same_said : (a b : ℕ) → said.Bytes a ≡ said.Bytes b → a ≡ b
    same_said a b h = cc
says_bytes f (held.Bytes n) (said.Cycle names) e need same = absurd e
says_bytes f (held.Cycle methods) (said.Bytes m) e need same = absurd e
says_bytes f (held.Cycle methods) (said.Cycle names) e need same = absurd (none_such names need same)
  where
    none_such : (names : List (List ℕ)) (need : ℕ) → said.Cycle names ≡ said.Bytes need → ⊥
    none_such names need h = cc

few_bytes : (stack : ℕ) (b : StackBound) (need : ℕ) → IsFew stack b → b ≡ held.Bytes need → need ≤ stack
few_bytes stack b need few e = subst (λ z. IsFew stack z) e few

enough_above : (n need stack : ℕ) → n + stack ≤ 4096 → need ≤ stack → n + need ≤ 4096
enough_above n need stack fits few = omega (arith, fits, few)

module _ (bytes : List ℕ) (asked : Option ℕ) (clock : ℕ) (tree : Node) (heap : Heap) (is : IsFitting bytes clock tree heap) (n : ℕ)
    (static_is : IsStatic tree heap n) (room : HasStack asked n) (f : Fitted)
    (says : (b : StackBound) (l : Bound) → SaysBound f b l → BoundsCallsOf tree heap b → SaysOfCalls tree heap l) where
  abbrev stack : ℕ
  stack = stated asked n

  fits : n + stack ≤ 4096
  fits = stated_fits asked n room

  image_above : (flash : Flash) → DoesOnStacks bytes tree heap n flash → IsFew stack flash.bound → (layout : Layout)
      → IsLayoutOf f flash (room_above n asked) layout → HexImage (hex_text flash.image) flash.image → IsImageOf bytes asked clock flash.image layout
  image_above flash does few layout of spelled =
      record {
        tree = tree;
        heap = heap;
        fitting = is;
        static_is = subst (λ z. IsStatic tree heap z) (sym of.static_is) static_is;
        room = subst (λ z. HasStack asked z) (sym of.static_is) room;
        stack_is = of.stack_is ∙ ap (λ z. stated asked z) (sym of.static_is);
        fits = subst (λ z. z + layout.stack ≤ 4096) (sym of.static_is) (subst (λ z. n + z ≤ 4096) (sym of.stack_is) fits);
        floor_is = subst (λ z. z + layout.stack ≡ 0x1100) (sym of.floor_is)
            (subst (λ z. 0x1100 - stack + z ≡ 0x1100) (sym of.stack_is) (floor_is stack (within n stack fits)));
        agrees = subst (λ z. Agrees (sessions tree heap) flash.image z layout.stack) (sym of.floor_is)
            (subst (λ z. Agrees (sessions tree heap) flash.image (0x1100 - stack) z) (sym of.stack_is) (does.agrees stack fits few));
        never = λ writes first large.
            subst (λ z. NeverReaches flash.image z) (sym of.floor_is)
            (does.never writes first stack (subst (λ z. 2 ≤ z) of.stack_is large) (within n stack fits));
        idle = does.idle;
        idle_is = λ low. of.idle ∙ does.idle_is low;
        memory = λ none.
            subst (λ z. KeepsMemory flash.image layout.static_bytes z does.idle) (sym of.floor_is)
            (subst (λ z. KeepsMemory flash.image z (0x1100 - stack) does.idle) (sym of.static_is) (does.memory none stack fits));
        bounded = λ need same.
            let held_bytes = says_bytes f flash.bound layout.bound of.bound need same in
            let low = few_bytes stack flash.bound need few held_bytes in (
              subst (λ z. need ≤ z) (sym of.stack_is) low,
              does.bounded need held_bytes (enough_above n need stack fits low),
            );
        calls = says flash.bound layout.bound of.bound does.calls;
        spelled = spelled;
        only = λ other h. one_image _ _ _ h spelled;
      }

  built_above : (flash : Flash) → DoesOnStacks bytes tree heap n flash → IsFew stack flash.bound → (built : Built)
      → IsPacked f flash (room_above n asked) built → IsBuiltOf bytes asked clock built
  built_above flash does few built packed =
      let spelled : HexImage (hex_text flash.image) flash.image = subst (λ x. HexImage (hex_text x) x) packed.image_is packed.spelled in
      let here : IsImageOf bytes asked clock built.image built.layout =
      subst (λ x. IsImageOf bytes asked clock x built.layout) (sym packed.image_is) (image_above flash does few built.layout packed.layout_is spelled) in
      record { image = here; hex = packed.hex; note = packed.note }

-- ---- what fits

module _ (bytes : List ℕ) (asked : Option ℕ) (clock : ℕ) (f : Fitted) (is : IsFittedOf bytes clock f) (short : length bytes ≤ text_limit) where
  abbrev n : ℕ
  n = f.placed.columns.static_bytes

  does_flash : (stack : ℕ) (flash : Flash) → FlashBy bytes f stack (Ok flash)
      → DoesOnStacks bytes (text_of f) (heap_of f) n flash × IsFew stack flash.bound
  does_flash stack flash (inl (writes, first, ((made, four), large))) = (
    does_writes bytes clock (text_of f) (heap_of f) is.fitting n (needs_static bytes clock f is) flash writes first made four,
    subst (λ z. IsFew stack z) (sym four) large,
  )
  does_flash stack flash (inr (none, (i, compiled, of, few))) = (
    does_compiled bytes clock (text_of f) (heap_of f) is.fitting n (needs_static bytes clock f is) i flash of none (does_text bytes clock f is short i compiled),
    subst (λ z. IsFew stack z) (sym of.bound) few,
  )

  -- what bounds the calls is said with the names of methods
  says_calls : (b : StackBound) (l : Bound) → SaysBound f b l → BoundsCallsOf (text_of f) (heap_of f) b → SaysOfCalls (text_of f) (heap_of f) l
  says_calls (held.Bytes need) (said.Bytes same) e bounds = subst (λ z. SaysOfCalls (text_of f) (heap_of f) (said.Bytes z)) (sym e) bounds
  says_calls (held.Bytes need) (said.Cycle names) e bounds = absurd e
  says_calls (held.Cycle methods) (said.Bytes need) e bounds = absurd e
  says_calls (held.Cycle methods) (said.Cycle names) e (cycle, there) = (
    map (method_numbered (text_of f)) methods,
    e ∙ names_told f.alive.start.names (text_of f) f.alive.start.program.tables (parts_of is.alive.start.program.written) methods there,
    cycle,
  )

  pub built_of : (room : Room) → Lays n asked (Ok room) → (flash : Flash) → FlashBy bytes f room.stack (Ok flash) → (built : Built)
      → IsPacked f flash room built → IsBuiltOf bytes asked clock built
  built_of room (has, e) flash by built packed =
      let (does, few) = does_flash (stated asked n) flash (subst (λ (z : Room). FlashBy bytes f z.stack (Ok flash)) e by) in
      built_above bytes asked clock (text_of f) (heap_of f) is.fitting n (needs_static bytes clock f is) has f says_calls flash does few built
      (subst (λ z. IsPacked f flash z built) e packed)
