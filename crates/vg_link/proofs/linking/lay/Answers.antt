use Rattle.std.proofs.Common.{sym, subst, length, ◌<◌}
use Rattle.std.proofs.lemmas.Result.{IfOk-weaker}
use Rattle.vg_put_programs.specs.Programs.{AreWithin}
use Rattle.vg_link.proofs.Imaging.{start_low, are_within, laid_placed, laid_end}
use Rattle.vg_link.proofs.linking.lay.Goals as goal

pub put_programs-requires-clause-start : goal.put_programs-requires-clause-start
put_programs-requires-clause-start c =
    subst (λ z. c.args.unlinked.now.start < length z) (sym c.as_slice-procedures.ensures) (start_low c.args.unlinked.now c.requires.can)

pub put_programs-requires-clause-within : goal.put_programs-requires-clause-within
put_programs-requires-clause-within c = subst AreWithin (sym c.as_slice-procedures.ensures) (are_within c.args.unlinked.now c.requires.can)

pub returns-clause-placed : goal.returns-clause-placed
returns-clause-placed c =
    IfOk-weaker c.put_programs.result _ _ (λ laid h.
    laid_placed c.args.unlinked.now _ _ c.as_slice-procedures.ensures c.as_slice-dispatches.ensures c.args.guess.now c.args.entries.now
    c.args.first laid.placed c.requires.first h)
    c.put_programs.ensures.placed

pub returns-clause-end : goal.returns-clause-end
returns-clause-end c =
    IfOk-weaker c.put_programs.result _ _ (λ laid h.
    laid_end c.args.unlinked.now _ _ c.as_slice-procedures.ensures c.as_slice-dispatches.ensures c.args.guess.now c.args.entries.now
    c.args.first laid.end c.requires.first h)
    c.put_programs.ensures.end
