use Rattle.std.proofs.Common.{rules, ◌≡◌, length, ap, sym, ◌∙◌, arith, take}
use Rattle.std.proofs.lemmas.List.{length-reverse, length-take-le}
use Rattle.vg_core.specs.State.{are_of}
use Rattle.vg_interp_run.proofs.Arguments.{turned, too_few}
use Rattle.vg_interp_run.proofs.calling.has_arguments.Goals as goal

pub returns-in-Some-clause-same : goal.returns-in-Some-clause-same
returns-in-Some-clause-same c =
    let waiting = c.args.run.now.frames.values in
    let same : length c.args.params.now ≡ c.args.count = search rules in
    let few : length c.in-Some.arguments.now ≡ c.args.count =
    ap length c.in-Some.ensures.1 ∙ length-reverse (take c.args.count waiting) ∙ length-take-le c.args.count waiting c.in-Some.ensures.0 in
    c.are_of.ensures ∙ ap (λ cells. are_of c.args.tables.now cells c.args.params.now c.in-Some.arguments.now) c.cells.ensures
    ∙ turned c.args.tables.now c.args.run.now.store.cells c.args.params.now c.args.count c.in-Some.arguments.now waiting same few c.in-Some.ensures.1

pub returns-in-None-clause-same : goal.returns-in-None-clause-same
returns-in-None-clause-same c =
    let same : length c.args.params.now ≡ c.args.count = search rules in
    too_few c.args.tables.now c.args.run.now.store.cells c.args.params.now c.args.count c.args.run.now.frames.values same c.in-None.ensures
