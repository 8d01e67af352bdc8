use Rattle.vg_packed.proofs.Cases.{in_its_dispatch}
use Rattle.vg_packed.proofs.case_laws.objects_find_their_procedures.Goals as goal

pub returns : goal.returns
returns c = λ p formed chains κ kept n numbers own counts x cl s j d m q asked is ks below found procedure.
    in_its_dispatch p formed chains κ kept n numbers own counts x cl s j d m q asked is ks below found procedure
