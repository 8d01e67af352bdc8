use Rattle.std.proofs.Common.{map, sym, ap, ◌++◌, ◌∙◌}
use Rattle.std.proofs.lemmas.List.{append-nil}
use Rattle.vg_firm.specs.Held.{procedure_of}
use Rattle.vg_pack_bodies.specs.Procedures.{packed_at}
use Rattle.vg_pack_bodies.proofs.packed.push_method.Goals as goal

pub returns-in-None : goal.returns-in-None
returns-in-None c =
    sym (ap (λ z. map procedure_of c.args.rows.now.items
    ++ packed_at c.args.program.now.tables c.args.numbers.now c.args.plan.now c.args.number c.args.method.now z) c.in-None.ensures
    ∙ append-nil (map procedure_of c.args.rows.now.items))
