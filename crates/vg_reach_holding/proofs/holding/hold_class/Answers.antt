use Rattle.std.proofs.Common.{◌∙◌, sym, ap, slice_get}
use Rattle.std.proofs.lemmas.Option.{none-some}
use Rattle.vg_core.specs.declared.member.Member.TheVariants.{Cell}
use Rattle.vg_core.specs.HeldProgram.{program_at}
use Rattle.vg_live.specs.Sets.{IsIn}
use Rattle.vg_reach_index.specs.Indexed.{row_in}
use Rattle.vg_reach_marks.proofs.Marking.{stays}
use Rattle.vg_reach_holding.proofs.Places.{on_ok, by_row}
use Rattle.vg_reach_holding.proofs.holding.hold_class.Goals as goal

pub returns-in-Some : goal.returns-in-Some
returns-in-Some c =
    let p = program_at c.args.program.now in
    let h = c.args.heap.now in
    on_ok c.hold_in.result (λ d q f. let z = d q f in (
      z.0,
      by_row p h c.args.index.now c.hold_in.new.marks c.args.field c.args.class (λ k. IsIn c.args.marks.now.set (Cell k)) c.requires
          (λ i k e g. z.1 i k (ap (λ row. slice_get row i) c.in-Some.ensures ∙ e) g),
    )) c.hold_in.ensures

pub returns-in-None : goal.returns-in-None
returns-in-None c =
    let p = program_at c.args.program.now in
    let h = c.args.heap.now in
    λ q f. (
      stays p h c.args.marks.now q,
      by_row p h c.args.index.now c.args.marks.now c.args.field c.args.class (λ k. IsIn c.args.marks.now.set (Cell k)) c.requires
          (λ i k e g. absurd (none-some k (sym (ap (λ row. slice_get (row_in row) i) c.in-None.ensures) ∙ e))),
    )
