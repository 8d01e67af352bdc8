use Rattle.std.proofs.Common.{[], ◌∙◌}
use Rattle.vg_scan.proofs.Places.{walked_behind}
use Rattle.vg_scan.proofs.scanner.end_place.Goals as goal

pub returns : goal.returns
returns c = c.walked.ensures ∙ walked_behind [] c.args.bytes.now
