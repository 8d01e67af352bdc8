use Rattle.vg_drive.proofs.Notes.{put_front}
use Rattle.vg_drive.proofs.call.put_line.Goals as goal

pub returns-clause-front : goal.returns-clause-front
returns-clause-front g c =
    put_front c.put.result (g.N.Sink.told c.args.note.now) (g.N.Sink.told c.put.new.self) c.args.line.now c.put.ensures.ok c.put.ensures.failed
