use Rattle.std.proofs.Common.{◌≡◌, map, take}
use Rattle.std.specs.List.{AllByRecursion}
use Rattle.vg_first_text.specs.FirstText.{IsAssignment, write_of}
use Rattle.vg_first_text.specs.FirstViews.{assignment_view, register_view}
use Rattle.vg_first_text.proofs.first_text.fits.assignment_writes.Given as goal

abbrev pub invariant-loop-assignment : goal.invariant-loop-assignment
invariant-loop-assignment l = record {
  fit : AllByRecursion (IsAssignment l.program.device.now (map register_view l.program.registers.items))
      (map assignment_view (take l.assignment-index l.assignment-items));
  written : l.writes.items ≡ map (write_of (map register_view l.program.registers.items)) (map assignment_view (take l.assignment-index l.assignment-items));
  items : l.assignment-items ≡ l.program.assignments.items;
}
