use Rattle.std.proofs.Common.{sym, ap₂, ◌∙◌, subst, ◌<◌}
use Rattle.vg_link.specs.Linking.{bytes_by}
use Rattle.vg_link.proofs.Imaging.{start_low, few_bytes, image_linked, flash_size}
use Rattle.vg_link.proofs.linking.linked.Goals as goal

pub codes_of-requires : goal.codes_of-requires
codes_of-requires c = subst (λ z. c.args.unlinked.now.start < z) (sym c.len-count.ensures) (start_low c.args.unlinked.now c.requires.can)

pub flash-requires : goal.flash-requires
flash-requires c =
    few_bytes c.args.unlinked.now c.requires.can c.in_ok-codes.codes c.as_slice-4.result.now
    (c.as_slice-4.ensures ∙ c.in_ok-tables.ensures ∙ ap₂ bytes_by c.as_slice-known.ensures c.as_slice-2.ensures)

pub returns-clause-linked : goal.returns-clause-linked
returns-clause-linked c =
    image_linked c.args.unlinked.now c.requires.can c.requires.room _ _ _ _ _ _ _ _ _ _ _ _ _ _ _ _ _ _ _
    c.requires.far c.requires.entries (c.as_slice-placed.ensures ∙ c.requires.placed) c.len-count.ensures c.in_ok-codes.ensures c.as_slice-known.ensures c.requires.end
    c.requires.stubs c.requires.reset c.as_slice.ensures c.as_slice-2.ensures c.in_ok-code.ensures c.in_ok-slots.ensures c.in_ok-tables.ensures c.as_slice-5.ensures
    c.as_slice-3.ensures c.as_slice-4.ensures c.in_ok-bytes.ensures.flash c.from_vec.ensures c.in_ok-bytes.ensures.ranged

pub returns-clause-size : goal.returns-clause-size
returns-clause-size c =
    flash_size c.args.unlinked.now c.requires.can c.requires.room _ _ _ _ _ _ _ _ _ _ _ _ _ _ _ _ _ _ _
    c.requires.far c.requires.entries (c.as_slice-placed.ensures ∙ c.requires.placed) c.len-count.ensures c.in_ok-codes.ensures c.as_slice-known.ensures c.requires.end
    c.requires.stubs c.requires.reset c.as_slice.ensures c.as_slice-2.ensures c.in_ok-code.ensures c.in_ok-slots.ensures c.in_ok-tables.ensures c.as_slice-5.ensures
    c.as_slice-3.ensures c.as_slice-4.ensures c.in_ok-bytes.ensures.flash c.from_vec.ensures c.in_ok-bytes.ensures.ranged
