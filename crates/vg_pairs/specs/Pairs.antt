-- Code without pairs of operators. An operator before an operand that is done twice, one time behind the other, does nothing: an int, a truth
-- value or a bit string is then as it was. In typed code two operators, one behind the other, are the same, so each two of them are dropped.
use Rattle.std.specs.Prelude.{Option, Some, None}
use Rattle.vg_meaning.specs.Code.{Code, Nothing, Then, Do, If, Loop, Break, Continue, Return}
use Rattle.vg_core.specs.declared.types.CoreType.{CoreType}
use Rattle.vg_core.specs.declared.operator.Prefix.{Prefix}
use Rattle.vg_core.specs.declared.step.Step.{Step}
use Rattle.vg_core.specs.declared.step.Step.TheVariants.{Apply}

-- The operator, and the type of its operand, where code is one operator before an operand and no more.
abbrev pub prefix_in : Code Step → Option (Prefix × CoreType)
prefix_in (Do (Apply op t)) = Some (op, t)
prefix_in _ = None

-- The code, behind the operator that waits to be done, where one does.
abbrev pub behind : (waiting : Option (Prefix × CoreType)) → Code Step → Code Step
behind None c = c
behind (Some (op, t)) c = Then (Do (Apply op t)) c

-- The code and then the rest, behind an operator that may wait: an operator waits until it is known what follows, and two are dropped.
abbrev pub paired : (waiting this : Option (Prefix × CoreType)) → Code Step → (rest : Option (Prefix × CoreType) → Code Step) → Code Step
paired None None c rest = Then c (rest None)
paired None (Some this) c rest = rest (Some this)
paired (Some waiting) None c rest = behind (Some waiting) (Then c (rest None))
paired (Some waiting) (Some this) c rest = Then Nothing (rest None)

-- The code without pairs, behind an operator that may wait.
abbrev pub unpaired : (waiting : Option (Prefix × CoreType)) → Code Step → Code Step
unpaired o Nothing = behind o Nothing
unpaired o (Then a b) = paired o (prefix_in a) (unpaired None a) (λ this. unpaired this b)
unpaired o (Do s) = behind o (Do s)
unpaired o (If a b) = behind o (If (unpaired None a) (unpaired None b))
unpaired o (Loop c body next) = behind o (Loop (unpaired None c) (unpaired None body) (unpaired None next))
unpaired o Break = behind o Break
unpaired o Continue = behind o Continue
unpaired o Return = behind o Return

abbrev pub without_pairs : Code Step → Code Step
without_pairs c = unpaired None c
