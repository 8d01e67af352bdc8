use Rattle.vg_compile.proofs.Linking.{can_be_linked}
use Rattle.vg_compile.proofs.laws.packed_programs_can_be_linked.Goals as goal

pub returns : goal.returns
returns g p h s n c f l u given ready chip packed nothing linear made =
    can_be_linked p h s n c f packed given ready chip l u nothing linear made
