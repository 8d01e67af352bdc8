use Rattle.std.proofs.Common.{◌++◌, refl, inl, subst}
use Rattle.std.specs.Prelude.{OnErr}
use Rattle.vg_io.specs.Piece.{AppendsAll, AppendsFront}
use Rattle.vg_sim.specs.Shown.{lines_of}
use Rattle.vg_drive.specs.Mirrors.{run_in}
use Rattle.vg_drive.proofs.Tries.{lines_fail}
use Rattle.vg_drive.proofs.trial.put_trial.Goals as goal

pub returns-in-Err-clause-fails : goal.returns-in-Err-clause-fails
returns-in-Err-clause-fails g c =
    inl (subst (λ piece. AppendsFront (g.N.Sink.told c.args.note.now) (g.N.Sink.told c.put.new.self) piece) c.as_slice.ensures c.in-Err.ensures.failed, c.in-Err.ensures.cause, refl)

pub returns-clause-fails : goal.returns-clause-fails
returns-clause-fails g c =
    lines_fail c.put_lines.result c.args.trial _ _
    (subst (λ piece. AppendsAll (g.N.Sink.told c.args.note.now) (g.N.Sink.told c.put.new.self) piece) c.as_slice.ensures c.in-Ok.ensures.ok)
    (subst (λ front. OnErr c.put_lines.result (AppendsFront (g.O.Sink.told c.args.out.now) (g.O.Sink.told c.put_lines.new.out)
    (front ++ lines_of (run_in c.args.trial)))) c.as_slice-in-Ok.ensures c.put_lines.ensures.failed) c.put_lines.ensures.cause
