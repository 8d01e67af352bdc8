use Rattle.std.proofs.Common.{◌≡◌, drop}
use Rattle.vg_templates.specs.Living.{is_live_by, any_wants_back}
use Rattle.vg_alloc.proofs.living.is_wanted_back.Given as goal

abbrev pub invariant-loop-place : goal.invariant-loop-place
invariant-loop-place l =
    any_wants_back (is_live_by l.served l.marks) l.local l.place (drop l.place l.code) ≡ any_wants_back (is_live_by l.served l.marks) l.local 0 l.code
