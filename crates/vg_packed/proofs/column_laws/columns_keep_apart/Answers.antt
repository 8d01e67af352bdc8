use Rattle.vg_packed.proofs.Apart.{apart}
use Rattle.vg_packed.proofs.column_laws.columns_keep_apart.Goals as goal

pub returns : goal.returns
returns c = λ p formed l kept cs has numbers h shaped x y v u o kx ky ex ey sx sy. apart p formed l kept cs has numbers h shaped x y v u o kx ky ex ey sx sy
