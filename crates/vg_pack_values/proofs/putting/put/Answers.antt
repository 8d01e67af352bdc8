use Rattle.std.proofs.Common.{◌∙◌, ap, sym}
use Rattle.vg_firm.specs.declared.step.Home.TheVariants.{Ram}
use Rattle.vg_tables.specs.Entries.{number_in}
use Rattle.vg_pack_values.specs.Columns.{numbers_in, with_number}
use Rattle.vg_pack_values.proofs.Entered.{put_numbers}
use Rattle.vg_pack_values.proofs.putting.put.Goals as goal

pub returns-in-Ram : goal.returns-in-Ram
returns-in-Ram c = λ k. put_numbers k c.args.rows.now.items c.set.new.rows.items c.from.result c.args.index c.args.entry c.set.ensures
    ∙ (ap (λ z. with_number Ram z c.args.index (number_in k c.args.entry) (numbers_in k c.args.rows.now.items)) c.from.ensures
    ∙ ap (λ z. with_number z c.args.column c.args.index (number_in k c.args.entry) (numbers_in k c.args.rows.now.items)) (sym c.in-Ram.is))
