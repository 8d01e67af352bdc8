use Rattle.std.proofs.Common.{◌++◌, take, drop, replicate, sym, ap, ◌∙◌}
use Rattle.std.proofs.Math.Seq.{take-length}
use Rattle.std.proofs.lemmas.List.{length-drop}
use Rattle.vg_flatten.proofs.Finished.{widened_is}
use Rattle.vg_flatten.proofs.procedure.widened.Goals as goal

pub returns : goal.returns
returns c =
    c.in_ok-append.ensures.ok
    ∙ ap (λ z. c.in_ok-row.row ++ take z (drop c.args.count c.args.widths.now)) (sym (length-drop c.args.count c.args.widths.now))
    ∙ ap (λ z. c.in_ok-row.row ++ z) (take-length (drop c.args.count c.args.widths.now))
    ∙ ap (λ z. z ++ drop c.args.count c.args.widths.now)
    (c.in_ok-row.ensures ∙ ap (λ z. z ++ replicate c.args.count 4) c.new.ensures)
    ∙ sym (widened_is c.args.count c.args.widths.now c.requires)
