use Rattle.std.proofs.Common.{length}
use Rattle.vg_flatten_steps.proofs.calls.+push_args.Given as goal

abbrev pub decreases-push_args : goal.decreases-push_args
decreases-push_args l = length l.args.now
