use Rattle.std.proofs.Common.{◌≡◌, [], ap, ◌∙◌}
use Rattle.vg_frame_costs.specs.Bytes.{most_kept}
use Rattle.vg_frame_costs.proofs.Grown.{some_is}
use Rattle.vg_frame_costs.proofs.Sized.{size_is, size_there}
use Rattle.vg_frame_costs.proofs.sizes.size_of.Goals as goal

pub returns-clause-size : goal.returns-clause-size
returns-clause-size c =
    size_is c.args.procedure.now _ c.in-Some.kept c.size_by.result c.in_ok-frame.ensures.layout
    (some_is (λ b. b ≡ most_kept [] c.code.result.now) _ c.in-Some.kept c.in-Some.is c.in_ok-kept.ensures.most ∙ ap (most_kept []) c.code.ensures)
    c.size_by.ensures.size

pub returns-clause-there : goal.returns-clause-there
returns-clause-there c = λ short fits.
    size_there c.args.procedure.now _ c.in-Some.kept c.size_by.result c.in_ok-frame.ensures.layout
    (some_is (λ b. b ≡ most_kept [] c.code.result.now) _ c.in-Some.kept c.in-Some.is c.in_ok-kept.ensures.most ∙ ap (most_kept []) c.code.ensures)
    c.size_by.ensures.size c.size_by.ensures.there fits
