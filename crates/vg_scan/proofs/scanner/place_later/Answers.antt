use Rattle.std.proofs.Common.{◌∙◌}
use Rattle.vg_scan.proofs.Places.{later, line_short, col_short}
use Rattle.vg_scan.proofs.scanner.place_later.Goals as goal

pub walked-requires-clause-line : goal.walked-requires-clause-line
walked-requires-clause-line c =
    line_short c.args.bytes.now c.args.from c.args.to c.args.place c.requires.order c.requires.within c.requires.short c.requires.place

pub walked-requires-clause-col : goal.walked-requires-clause-col
walked-requires-clause-col c =
    col_short c.args.bytes.now c.args.from c.args.to c.args.place c.requires.order c.requires.within c.requires.short c.requires.place

pub returns : goal.returns
returns c = c.walked.ensures ∙ later c.args.bytes.now c.args.from c.args.to c.args.place c.requires.order c.requires.within c.requires.place
