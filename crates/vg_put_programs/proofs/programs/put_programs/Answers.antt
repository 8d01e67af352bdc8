use Rattle.vg_put_programs.specs.Programs.{emission}
use Rattle.vg_put_programs.proofs.Putting.{done_next}
use Rattle.vg_put_programs.proofs.programs.put_programs.Goals as goal

pub loop-k-preserved : goal.loop-k-preserved
loop-k-preserved c =
    done_next
    (emission c.args.procedures.now c.args.start c.args.dispatches.now c.args.guess.now c.args.entries.now c.args.known.now c.args.codes.now c.args.idle)
    c.args.first c.args.code.now c.loop-k.k c.loop-k.code c.put_one.new.code c.loop-k.placed c.push.new.self c.loop-k.end c.procedure_at.result.now
    c.places_at-guessed.result.now c.places_at-places.result.now c.in_ok-one.one c.loop-k.invariant c.procedure_at.ensures c.places_at-guessed.ensures
    c.places_at-places.ensures c.in_ok-one.ensures.code c.in_ok-one.ensures.placed c.in_ok-push.ensures.ok
