use Rattle.std.proofs.Common.{drop, take, map}
use Rattle.vg_firm.specs.Held.{procedure_of}
use Rattle.vg_linear.specs.Flats.{AreAllFlat}
use Rattle.vg_linear.specs.Widths.{AllHaveWidths}
use Rattle.vg_linear.proofs.flats.flatten_all.Given as goal

abbrev pub invariant-loop-procedure : goal.invariant-loop-procedure
invariant-loop-procedure l = record {
  flat : AreAllFlat l.layout (map procedure_of (take l.procedure-index l.procedures)) l.row;
  widths : AllHaveWidths (drop l.procedure-index l.procedures);
}
