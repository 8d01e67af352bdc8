use Rattle.std.proofs.Common.{refl, arith}
use Rattle.vg_arith.proofs.ProductRoutine.{mul_is}
use Rattle.vg_arith.proofs.Keeping.{mul_sound}
use Rattle.vg_arith.proofs.product.product_is_right.Goals as goal

pub returns-clause-product : goal.returns-clause-product
returns-clause-product c = mul_is

pub returns-clause-short : goal.returns-clause-short
returns-clause-short c = record { few = omega arith; onwards = refl }

pub returns-clause-sound : goal.returns-clause-sound
returns-clause-sound c = mul_sound
