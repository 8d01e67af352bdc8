use Rattle.std.proofs.Common.{◌≡◌, ◌++◌, map, length}
use Rattle.std.specs.List.{flat_map}
use Rattle.vg_first_text.specs.FirstText.{register_pieces}
use Rattle.vg_first_text.specs.FirstViews.{register_view}
use Rattle.vg_first_text.specs.Pieces.{pieces}
use Rattle.vg_first_text.proofs.first_text.parts.read_registers.Given as goal

abbrev pub invariant-loop-register : goal.invariant-loop-register
invariant-loop-register l = pieces l.bytes l.tokens ≡ flat_map register_pieces (map register_view l.found.items) ++ pieces l.bytes l.rest

abbrev pub decreases-loop-register : goal.decreases-loop-register
decreases-loop-register l = length l.rest
