use Rattle.std.proofs.Common.{◌⊎◌, ◌∙◌, subst}
use Rattle.vg_io.specs.Count.{Rose}
use Rattle.vg_io.specs.Piece.{AppendsAll, AppendsFront}
use Rattle.vg_drive.proofs.Notes.{shown_none}
use Rattle.vg_drive.proofs.call.put_fault_line.Goals as goal

pub returns-in_default : goal.returns-in_default
returns-in_default g c =
    let old = g.N.Sink.told c.args.note.now in
    let new = g.N.Sink.told c.put_line.new.note in
    let rose = Rose (g.N.Sink.faults c.args.note.now) (g.N.Sink.faults c.put_line.new.note) in
    let line = c.as_bytes.ensures ∙ c.fault_line.ensures in
    let front = subst (λ l. AppendsFront old new l) line c.put_line.ensures.front in
    record {
      none = shown_none c.args.status.now old new front;
      front = front;
      whole = subst (λ l. rose ⊎ AppendsAll old new l) line c.put_line.ensures.whole;
      later = c.put_line.ensures.later;
    }
