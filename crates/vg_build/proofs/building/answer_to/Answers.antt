use Rattle.std.proofs.Common.{inl}
use Rattle.vg_text_image.proofs.Texts.{can_compile}
use Rattle.vg_build.proofs.Faults.{fits_by, flash_by}
use Rattle.vg_build.proofs.Images.{built_of}
use Rattle.vg_build.proofs.Rooms.{full_of, is_small}
use Rattle.vg_build.proofs.building.answer_to.Goals as goal

pub room_above-requires : goal.room_above-requires
room_above-requires c = is_small _ _ _ c.in-Ok.ensures

pub flash_of-requires-clause-given : goal.flash_of-requires-clause-given
flash_of-requires-clause-given c = can_compile _ _ _ c.in-Ok.ensures c.requires

pub returns-in-Err : goal.returns-in-Err
returns-in-Err c = fits_by _ _ _ _ c.in-Err.ensures

pub returns-in-Err-room_above : goal.returns-in-Err-room_above
returns-in-Err-room_above c = inl (full_of _ _ _ c.in-Ok.ensures _ _ _ c.in-Err-room_above.ensures)

pub returns : goal.returns
returns c =
    flash_by _ _ _ c.in-Ok.fitted c.in-Ok.ensures c.requires _ c.in-Ok-room_above.ensures c.texts_without_linear_code_are_long.ensures
    (record {
      handlers = c.texts_that_are_not_built_are_long.ensures.handlers;
      frames = c.texts_that_are_not_built_are_long.ensures.frames;
    }) _ c.in-Err-flash_of.ensures

pub returns-in-Ok-packed : goal.returns-in-Ok-packed
returns-in-Ok-packed c =
    built_of _ _ _ _ c.in-Ok.ensures c.requires _ c.in-Ok-room_above.ensures _ c.in-Ok-flash_of.ensures _ c.in-Ok-packed.ensures
