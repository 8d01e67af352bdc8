use Rattle.std.proofs.Common.{◌≡◌, drop}
use Rattle.vg_templates.specs.Living.{serve}
use Rattle.vg_alloc.proofs.living.serve.Given as goal

abbrev pub invariant-loop-place : goal.invariant-loop-place
invariant-loop-place l = serve l.marks l.local l.place (drop l.place l.code) ≡ serve l.marks l.local 0 l.code
