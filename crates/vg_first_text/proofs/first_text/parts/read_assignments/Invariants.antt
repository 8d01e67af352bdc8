use Rattle.std.proofs.Common.{◌≡◌, ◌++◌, map, length}
use Rattle.std.specs.List.{flat_map}
use Rattle.vg_first_text.specs.FirstText.{assignment_pieces}
use Rattle.vg_first_text.specs.FirstViews.{assignment_view}
use Rattle.vg_first_text.specs.Pieces.{pieces}
use Rattle.vg_first_text.proofs.first_text.parts.read_assignments.Given as goal

abbrev pub invariant-loop-assignment : goal.invariant-loop-assignment
invariant-loop-assignment l = pieces l.bytes l.tokens ≡ flat_map assignment_pieces (map assignment_view l.found.items) ++ pieces l.bytes l.rest

abbrev pub decreases-loop-assignment : goal.decreases-loop-assignment
decreases-loop-assignment l = length l.rest
