use Rattle.std.proofs.Common.{◌≡◌}
use Rattle.vg_alloc.specs.Locations.{layout}
use Rattle.vg_put_programs.specs.Programs.{sites, helds_upto}
use Rattle.vg_put_programs.proofs.leads.leadings.Given as goal

abbrev pub invariant-loop-place : goal.invariant-loop-place
invariant-loop-place l = l.row ≡ helds_upto (layout l.locations) (sites l.entries l.guessed l.codes l.places l.idle) l.instrs l.place
