-- What it means that an image does what the bytes of a source text say.
use Rattle.std.specs.Prelude.{ℕ, ◌≡◌, ◌+◌, ◌-◌, ◌<◌, ◌≤◌, List, map, Option}
use Rattle.vg_syntax.specs.Tree.{Node}
use Rattle.vg_source.specs.Values.{Heap}
use Rattle.vg_source.specs.Peak.{sessions}
use Rattle.vg_first_text.specs.declared.device_write.DeviceWrite.{DeviceWrite}
use Rattle.vg_first_text.specs.FirstText.{IsFirst}
use Rattle.vg_static_source.specs.Sums.{IsStatic}
use Rattle.vg_calls_source.specs.Bounds.{HasNoCycle, IsCallCycle, IsSpent}
use Rattle.vg_calls_source.specs.Methods.{MethodName, method_text}
use Rattle.vg_faults.specs.Fitting.{IsFitting}
use Rattle.vg_faults.specs.Room.{HasStack}
use Rattle.avr_isa.specs.Agrees.{Agrees, NeverReaches}
use Rattle.vg_text_image.specs.Made.{KeepsMemory}
use Rattle.vg_hex.specs.HexText.{hex_text}
use Rattle.vg_hex.specs.HexImage.{HexImage}
use Rattle.vg_build.specs.declared.building.Built.{Built}
use Rattle.vg_layout.specs.Text.{layout_text}
use Rattle.vg_layout.specs.declared.layout.Bound.{Bound}
use Rattle.vg_layout.specs.declared.layout.Bound.TheVariants.{Bytes, Cycle}
use Rattle.vg_layout.specs.declared.layout.Layout.{Layout}
use Rattle.vg_flash.specs.Stated.{stated}

-- What a layout says of the calls of a text: no cycle of them is reached, and the bytes are at most four more than the methods of some way of calls cost, so at
-- most four more than the largest such cost; or these are the names of a cycle of methods that is reached.
abbrev pub SaysOfCalls : Node → Heap → Bound → Type 0
SaysOfCalls tree heap (Bytes need) = HasNoCycle tree heap × ((bytes : ℕ) × (need ≡ 4 + bytes) × IsSpent tree heap bytes)
SaysOfCalls tree heap (Cycle names) = (cycle : List MethodName) × (names ≡ map method_text cycle) × IsCallCycle tree heap cycle

-- The image does what the bytes say, where this stack is asked for, or none, and initialisation has this clock.
pub record IsImageOf (bytes : List ℕ) (asked : Option ℕ) (clock : ℕ) (image : List ℕ) (layout : Layout) : Type 0 where
  -- the bytes are a text of the language with this tree, which keeps all rules and is initialised to this heap; its live methods make nothing, and it fits
  pub tree : Node
  pub heap : Heap
  pub fitting : IsFitting bytes clock tree heap
  -- the static area has the bytes that the tree and the heap need, and a stack has room above it; the stack is the stated one, both fit into SRAM, and the
  -- stack ends where SRAM does
  pub static_is : IsStatic tree heap layout.static_bytes
  pub room : HasStack asked layout.static_bytes
  pub stack_is : layout.stack ≡ stated asked layout.static_bytes
  pub fits : layout.static_bytes + layout.stack ≤ 4096
  pub floor_is : layout.floor + layout.stack ≡ 0x1100
  -- on this flash the machine does what the text does from its heap, with its stack at or above the floor; or the active calls cost more than the stack, and it
  -- reaches below the floor first
  pub agrees : Agrees (sessions tree heap) image layout.floor layout.stack
  -- no run of a program of constants brings its stack below the floor, where the stack holds the two bytes that an interrupt pushes
  pub never : (writes : List DeviceWrite) → IsFirst bytes writes → 2 ≤ layout.stack → NeverReaches image layout.floor
  -- an image of any other text writes to SRAM in the static area and on the stack alone, and lets interrupts in only at its idle SLEEP and at the CLI behind it
  pub idle : ℕ
  pub idle_is : idle < 65536 → layout.idle ≡ idle
  pub memory : ((writes : List DeviceWrite) → IsFirst bytes writes → ⊥) → KeepsMemory image layout.static_bytes layout.floor idle
  -- where the stack is bounded, the bound is at most the stack, and no run brings a stack of so many bytes below its floor
  pub bounded : (need : ℕ) → layout.bound ≡ Bytes need → (need ≤ layout.stack) × NeverReaches image (0x1100 - need)
  -- the bound is one of the calls of the text, or these go round
  pub calls : SaysOfCalls tree heap layout.bound
  -- the HEX text spells this image, and no other
  pub spelled : HexImage (hex_text image) image
  pub only : (other : List ℕ) → HexImage (hex_text image) other → other ≡ image

-- what is built of the bytes: an image that does what they say, its HEX text, and the text of its layout
pub record IsBuiltOf (bytes : List ℕ) (asked : Option ℕ) (clock : ℕ) (built : Built) : Type 0 where
  pub image : IsImageOf bytes asked clock built.image built.layout
  pub hex : built.hex ≡ hex_text built.image
  pub note : built.note ≡ layout_text built.layout
