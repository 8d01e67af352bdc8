use Rattle.vg_compile.specs.Ways.{ways_behind}
use Rattle.vg_compile.proofs.compiling.+image_of.Given as goal

abbrev pub decreases-image_of : goal.decreases-image_of
decreases-image_of l = ways_behind l.way
