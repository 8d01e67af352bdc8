-- Mirrors: predicates by cases that follow the code's own functions. No clause of an exported function cites one.
use Rattle.std.specs.Prelude.{ℕ, ◌≡◌, ◌+◌, ◌<◌, ◌≤◌, ◌⊎◌, List, Result, Ok, Err}
use Rattle.vg_base.specs.declared.refusal.Refusal.{Refusal}
use Rattle.vg_base.specs.declared.refusal.Refusal.TheVariants as refusal
use Rattle.vg_first_text.specs.declared.device_write.DeviceWrite.{DeviceWrite}
use Rattle.vg_first_text.specs.FirstText.{IsFirst}
use Rattle.vg_hex.specs.HexText.{hex_text}
use Rattle.vg_hex.specs.HexImage.{HexImage}
use Rattle.vg_faults.specs.declared.fault.Fault.{Fault}
use Rattle.vg_faults.specs.declared.fault.Fault.TheVariants.{CodeFull, NotBuilt, StackFull}
use Rattle.vg_layout.specs.Few.{IsFew}
use Rattle.vg_layout.specs.Text.{layout_text}
use Rattle.vg_fits.specs.declared.fitting.Fitted.{Fitted}
use Rattle.vg_text_image.specs.declared.making.TextImage.{TextImage}
use Rattle.vg_text_image.specs.Made.{IsCompiledOf, LacksFrames, LacksHandlers, LacksLinear, NeedsOf}
use Rattle.vg_flash.specs.Flashes.{IsLayoutOf, WrittenBy}
use Rattle.vg_flash.specs.declared.flash.Flash.{Flash}
use Rattle.vg_flash.specs.declared.room.Room.{Room}
use Rattle.vg_build.specs.declared.building.Built.{Built}
use Rattle.vg_build.specs.Answer.{IsNoFirst, first_place}

-- the flash of an image
pub record IsFlashOf (i : TextImage) (flash : Flash) : Type 0 where
  pub image : flash.image ≡ i.flash
  pub bound : flash.bound ≡ i.bound
  pub idle : i.idle + 1 < 65536 → flash.idle ≡ i.idle + 1

-- what was packed of what fits has no linear code; or, where no procedure is trimmed, frames that costs do not pay, or a handler that receives something
abbrev pub IsLeft : Fitted → Type 0
IsLeft f = LacksLinear f ⊎ (LacksFrames f ⊎ LacksHandlers f)

-- the flash of what is compiled, whose bound is at most the stack; or it needs more, or is not built
abbrev pub CompiledBy : Fitted → (stack : ℕ) → Result Flash (Refusal Fault) → Type 0
CompiledBy f stack (Ok flash) = (i : TextImage) × IsCompiledOf f i × IsFlashOf i flash × IsFew stack i.bound
CompiledBy f stack (Err (refusal.Fault (CodeFull words))) = 65536 ≤ words
CompiledBy f stack (Err (refusal.Fault (StackFull need left))) = (left ≡ stack) × (left < need) × NeedsOf f need
CompiledBy f stack (Err (refusal.Fault (NotBuilt place))) = (place ≡ first_place) × IsLeft f
CompiledBy f stack (Err (refusal.Fault why)) = ⊥
CompiledBy f stack (Err refusal.NoMemory) = Unit {0}

-- the flash of a program of constants, or else of what is compiled
abbrev pub FlashAs : List ℕ → Fitted → (stack : ℕ) → Result Flash (Refusal Fault) → Type 0
FlashAs bytes f stack r = ((writes : List DeviceWrite) × IsFirst bytes writes × WrittenBy writes stack r) ⊎ (IsNoFirst bytes × CompiledBy f stack r)

abbrev pub FlashBy : List ℕ → Fitted → (stack : ℕ) → Result Flash (Refusal Fault) → Type 0
FlashBy bytes f stack (Ok flash) = FlashAs bytes f stack (Ok flash)
FlashBy bytes f stack (Err (refusal.Fault why)) = FlashAs bytes f stack (Err (refusal.Fault why))
FlashBy bytes f stack (Err refusal.NoMemory) = Unit {0}

-- an image with its layout and its texts
pub record IsPacked (f : Fitted) (flash : Flash) (room : Room) (built : Built) : Type 0 where
  pub image_is : built.image ≡ flash.image
  pub layout_is : IsLayoutOf f flash room built.layout
  pub hex : built.hex ≡ hex_text built.image
  pub spelled : HexImage (hex_text built.image) built.image
  pub note : built.note ≡ layout_text built.layout
