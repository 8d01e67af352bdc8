-- Each program of constants is a text of the language, and has no fault.
use Rattle.std.proofs.Common.{ℕ, List}
use Rattle.vg_base.specs.declared.place.Place.{Place}
use Rattle.vg_first_text.specs.declared.device_write.DeviceWrite.{DeviceWrite}
use Rattle.vg_syntax.specs.Faults.{IsText, NoTreeIn, TooDeepIn}
use Rattle.vg_first_text.specs.FirstText.{IsFirst}
use Rattle.vg_texts.proofs.Once.{no_fault, not_deep}
use Rattle.vg_first_laws.proofs.Parts.{sentence}
use Rattle.vg_first_laws.proofs.Depth.{shallow}

pub first_is_text : (bytes : List ℕ) (writes : List DeviceWrite) → IsFirst bytes writes → IsText bytes
first_is_text bytes writes h = (h.tokens, h.are_tokens, sentence bytes h.tokens h.first h.spelled, shallow bytes h.tokens h.first h.spelled)

pub first_has_no_fault : (bytes : List ℕ) (writes : List DeviceWrite) → IsFirst bytes writes → (place : Place) → NoTreeIn bytes place → ⊥
first_has_no_fault bytes writes h place n = no_fault bytes place (first_is_text bytes writes h) n

pub first_is_not_deep : (bytes : List ℕ) (writes : List DeviceWrite) → IsFirst bytes writes → (place : Place) → TooDeepIn bytes place → ⊥
first_is_not_deep bytes writes h place d = not_deep bytes place (first_is_text bytes writes h) d
