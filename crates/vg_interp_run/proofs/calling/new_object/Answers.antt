use Rattle.std.specs.Prelude.{ℕ, length, slice_get}
use Rattle.vg_core.specs.declared.heap.Cell.TheVariants.{Object}
use Rattle.vg_core.specs.Meaning.{adding, at_start, defaults, with_found}
use Rattle.vg_interp_run.specs.Run.{state, world}
use Rattle.vg_interp_run.proofs.calling.new_object.Goals as goal

pub returns-in-Err-clause-makes : goal.returns-in-Err-clause-makes
returns-in-Err-clause-makes c = λ go.
    let p = c.args.tables.now in
    let w = world c.args.run.now in
    c.exit.ensures.exits
    (at_start w.phase c.args.at (with_found {H = ℕ} (slice_get p.classes c.args.class) (λ k. adding (length k.fields) (Object c.args.class (defaults p k.fields)) go)) (state c.args.run.now) w)
    (c.in-Err.ensures.makes go)
