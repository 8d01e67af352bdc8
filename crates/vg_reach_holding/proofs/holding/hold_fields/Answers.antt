use Rattle.std.proofs.Common.{◌∙◌, sym, ap, slice_get}
use Rattle.std.proofs.lemmas.Option.{none-some}
use Rattle.vg_core.specs.declared.member.Member.TheVariants.{Field}
use Rattle.vg_core.specs.HeldProgram.{program_at}
use Rattle.vg_live.specs.Sets.{IsIn}
use Rattle.vg_reach_index.specs.Indexed.{fields_in}
use Rattle.vg_reach_marks.proofs.Marking.{stays}
use Rattle.vg_reach_holding.proofs.Places.{on_ok, by_fields}
use Rattle.vg_reach_holding.proofs.holding.hold_fields.Goals as goal

pub returns-in-Some : goal.returns-in-Some
returns-in-Some c =
    let p = program_at c.args.program.now in
    let h = c.args.heap.now in
    on_ok c.hold_these.result (λ d q i. let z = d q i in (
      z.0,
      by_fields p h c.args.index.now c.hold_these.new.marks c.args.class c.args.cell (λ f. IsIn c.args.marks.now.set (Field f)) c.requires.indexed c.requires.object
          (λ i f e g. z.1 i f (ap (λ row. slice_get row i) c.in-Some.ensures ∙ e) g),
    )) c.hold_these.ensures

pub returns-in-None : goal.returns-in-None
returns-in-None c =
    let p = program_at c.args.program.now in
    let h = c.args.heap.now in
    λ q i. (
      stays p h c.args.marks.now q,
      by_fields p h c.args.index.now c.args.marks.now c.args.class c.args.cell (λ f. IsIn c.args.marks.now.set (Field f)) c.requires.indexed c.requires.object
          (λ i f e g. absurd (none-some f (sym (ap (λ row. slice_get (fields_in row) i) c.in-None.ensures) ∙ e))),
    )
