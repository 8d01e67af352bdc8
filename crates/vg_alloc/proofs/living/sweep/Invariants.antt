use Rattle.std.proofs.Common.{◌≡◌}
use Rattle.vg_templates.specs.Living.{swept, swept_all}
use Rattle.vg_alloc.proofs.living.sweep.Given as goal

abbrev pub invariant-loop-place : goal.invariant-loop-place
invariant-loop-place l = swept l.code l.local l.place l.marks.items ≡ swept_all l.code l.local l.fn.marks.items
