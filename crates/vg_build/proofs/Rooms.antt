-- The static bytes of what fits are those of its columns: so it is known whether a stack has room.
use Rattle.std.proofs.Common.{◌≡◌, ℕ, ◌<◌, ◌≤◌, List, Option, sym, subst}
use Rattle.vg_syntax.specs.Tree.{Node}
use Rattle.vg_source.specs.Values.{Heap}
use Rattle.vg_static_source.specs.Sums.{IsStatic}
use Rattle.vg_tree_walks.specs.Whole.{tree_at}
use Rattle.vg_faults.specs.Room.{HasRoomIn, HasStack, LacksStack, StackFullIn}
use Rattle.vg_first_text.specs.declared.device_write.DeviceWrite.{DeviceWrite}
use Rattle.vg_first_text.specs.FirstText.{IsFirst}
use Rattle.vg_layout.specs.declared.layout.Bound.TheVariants.{Bytes}
use Rattle.vg_build.specs.Answer.{IsOverStack}
use Rattle.vg_build.specs.Image.{SaysOfCalls}
use Rattle.vg_flash.specs.Stated.{stated}
use Rattle.vg_fits.specs.Answer.{named_start_heap}
use Rattle.vg_fits.specs.declared.fitting.Fitted.{Fitted}
use Rattle.vg_fits.specs.Answer.{IsFittedOf}
use Rattle.vg_fits.proofs.Answering.{static_is}

-- its tree and its heap
abbrev pub text_of : Fitted → Node
text_of f = tree_at f.alive.start.names f.alive.start.tree

abbrev pub heap_of : Fitted → Heap
heap_of f = named_start_heap f.alive.start

module _ (bytes : List ℕ) (clock : ℕ) (f : Fitted) (is : IsFittedOf bytes clock f) where
  pub needs_static : IsStatic (text_of f) (heap_of f) f.placed.columns.static_bytes
  needs_static = subst (λ n. IsStatic (text_of f) (heap_of f) n) (sym is.placed.static_is) (static_is bytes clock f.alive is.alive)

  pub is_small : f.placed.columns.static_bytes ≤ 4096
  is_small = subst (λ n. n ≤ 4096) (sym is.placed.static_is) is.placed.fits

  pub room_of : (asked : Option ℕ) → HasStack asked f.placed.columns.static_bytes → HasRoomIn bytes asked clock
  room_of asked room =
      record {
        tree = text_of f;
        heap = heap_of f;
        fitting = is.fitting;
        static_bytes = f.placed.columns.static_bytes;
        has_static = needs_static;
        room = room;
      }

  pub full_of : (asked : Option ℕ) (need left : ℕ) → LacksStack asked f.placed.columns.static_bytes need left → StackFullIn bytes asked clock need left
  full_of asked need left lacks =
      record {
        tree = text_of f;
        heap = heap_of f;
        fitting = is.fitting;
        static_bytes = f.placed.columns.static_bytes;
        has_static = needs_static;
        lacks = lacks;
      }

  pub over_of : (asked : Option ℕ) → HasStack asked f.placed.columns.static_bytes → (need left : ℕ) → left ≡ stated asked f.placed.columns.static_bytes
      → left < need → SaysOfCalls (text_of f) (heap_of f) (Bytes need) → ((writes : List DeviceWrite) → IsFirst bytes writes → need ≡ 4)
      → IsOverStack bytes asked clock need left
  over_of asked room need left left_is more calls few =
      record {
        tree = text_of f;
        heap = heap_of f;
        fitting = is.fitting;
        static_bytes = f.placed.columns.static_bytes;
        has_static = needs_static;
        room = room;
        left_is = left_is;
        more = more;
        calls = calls;
        few = few;
      }
