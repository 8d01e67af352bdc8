use Rattle.std.proofs.Common.{[], refl, arith}
use Rattle.avr_isa.proofs.Standing.{emitted_stand}
use Rattle.avr_isa.proofs.code.code_stands.Goals as goal

pub returns : goal.returns
returns c = λ code in_range low. emitted_stand code [] 0 refl (omega arith) in_range
