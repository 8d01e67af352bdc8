use Rattle.std.proofs.Common.{sym, subst, length, ◌<◌}
use Rattle.vg_put_programs.specs.Programs.{AreWithin}
use Rattle.vg_link.proofs.Imaging.{start_low, are_within}
use Rattle.vg_link.proofs.linking.whole_code.Goals as goal

pub put_programs-requires-clause-start : goal.put_programs-requires-clause-start
put_programs-requires-clause-start c =
    subst (λ z. c.args.unlinked.now.start < length z) (sym c.as_slice-procedures.ensures) (start_low c.args.unlinked.now c.requires)

pub put_programs-requires-clause-within : goal.put_programs-requires-clause-within
put_programs-requires-clause-within c = subst AreWithin (sym c.as_slice-procedures.ensures) (are_within c.args.unlinked.now c.requires)
