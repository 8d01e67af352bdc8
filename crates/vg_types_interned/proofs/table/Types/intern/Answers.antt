use Rattle.std.proofs.Common.{length}
use Rattle.vg_types_interned.proofs.Tables.{interned}
use Rattle.vg_types_interned.proofs.table.Types.intern.Goals as goal

pub invariant_of-self-clause-sound : goal.invariant_of-self-clause-sound
invariant_of-self-clause-sound c =
    interned c.insert_full.result (length c.args.self.now.classes) c.args.self.now.numbers.keys c.insert_full.new.self.keys c.args.type_
    c.insert_full.ensures.keys c.insert_full.ensures.err c.args.self.now.sound c.requires
