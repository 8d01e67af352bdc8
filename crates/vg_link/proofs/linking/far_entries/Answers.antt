use Rattle.std.proofs.Common.{sym, subst, ◌<◌}
use Rattle.vg_link.proofs.Imaging.{start_low}
use Rattle.vg_link.proofs.linking.far_entries.Goals as goal

pub entries_of-requires : goal.entries_of-requires
entries_of-requires c = subst (λ z. c.args.unlinked.now.start < z) (sym c.len-count.ensures) (start_low c.args.unlinked.now c.requires.can)
