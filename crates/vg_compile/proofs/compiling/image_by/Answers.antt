use Rattle.vg_compile.proofs.Entries.{linkable}
use Rattle.vg_compile.proofs.Refusals.{lacks_room}
use Rattle.vg_compile.proofs.compiling.image_by.Goals as goal

pub linked_of-requires : goal.linked_of-requires
linked_of-requires c =
    linkable c.args.columns.now c.args.firm.now c.in-Ok.measured.linear c.in_ok-unlinked.unlinked c.requires.links c.in-Ok.ensures.measured.is_linear
    c.in_ok-unlinked.ensures.unlinked c.in_ok-unlinked.ensures.handlers c.in-Ok.ensures.measured.handled

pub returns-in-Ok-linked_of-clause-image : goal.returns-in-Ok-linked_of-clause-image
returns-in-Ok-linked_of-clause-image c = record {
  linear = c.in-Ok.measured.linear;
  is_linear = c.in-Ok.ensures.measured.is_linear;
  frames = c.in-Ok.measured.frames;
  are_frames = c.in-Ok.ensures.measured.are_frames;
  unlinked = c.in_ok-unlinked.unlinked;
  is_unlinked = c.in_ok-unlinked.ensures.unlinked;
  can_be_linked =
      linkable c.args.columns.now c.args.firm.now c.in-Ok.measured.linear c.in_ok-unlinked.unlinked c.requires.links c.in-Ok.ensures.measured.is_linear
      c.in_ok-unlinked.ensures.unlinked c.in_ok-unlinked.ensures.handlers c.in-Ok.ensures.measured.handled;
  is_linked = c.in-Ok-linked_of.ensures.linked;
  need = c.in-Ok.measured.need;
  is_need = c.in-Ok.ensures.measured.is_need;
  are_paid = c.in-Ok.ensures.measured.are_paid;
  is_bound = c.in_ok-bound.ensures.bound;
}

-- what is said where the parts are not linked is said of each packed program
pub returns-clause-deep : goal.returns-clause-deep
returns-clause-deep c = c.in-Err-linked_of.ensures.deep c.args.firm.now c.args.costs.now

pub returns-clause-linear : goal.returns-clause-linear
returns-clause-linear c = c.in-Err-linked_of.ensures.linear c.args.columns.now.list c.args.firm.now

pub returns-clause-frames : goal.returns-clause-frames
returns-clause-frames c = λ is. c.in-Err-linked_of.ensures.frames c.args.columns.now.list c.args.firm.now c.args.costs.now

pub returns-clause-handlers : goal.returns-clause-handlers
returns-clause-handlers c = λ is. c.in-Err-linked_of.ensures.handlers c.args.columns.now.list c.args.firm.now

-- and where the flash is full, of those that were to be linked
pub returns-clause-room : goal.returns-clause-room
returns-clause-room c = λ is.
    lacks_room c.args.columns.now c.args.firm.now c.in-Ok.measured.linear c.in_ok-unlinked.unlinked (c.in-Ok.ensures.plain is)
    c.in_ok-unlinked.ensures.unlinked c.in-Err-linked_of.why c.in-Err-linked_of.ensures.full
