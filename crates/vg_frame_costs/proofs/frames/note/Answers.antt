use Rattle.std.proofs.Common.{refl, sym, subst, slice_set}
use Rattle.vg_frame_costs.specs.Noted.{Pays}
use Rattle.vg_frame_costs.proofs.Paid.{pays_noted}
use Rattle.vg_frame_costs.proofs.frames.note.Goals as goal

pub returns-then-index-bytes-clause-paid : goal.returns-then-index-bytes-clause-paid
returns-then-index-bytes-clause-paid c = λ above costs pays by. (
  refl,
  subst (λ n. Pays above costs (slice_set c.args.frames.now.items n c.args.bytes)) (sym c.from-at.ensures)
      (pays_noted above costs c.args.frames.now.items c.args.method c.args.bytes pays by),
)
