-- An arm, or code that is none, before others, behind an operator that may wait.
use Rattle.std.specs.Prelude.{Bool, false, None}
use Rattle.vg_meaning.specs.Code.{Code, If}
use Rattle.vg_core.specs.declared.step.Step.{Step}
use Rattle.vg_core.specs.HeldProgram.{code_of}
use Rattle.vg_pairs.specs.Pairs.{behind, paired, unpaired}
use Rattle.vg_pairs.specs.declared.item.Item.{Item}
use Rattle.vg_pairs.specs.declared.item.Item.TheVariants.{Plain, Arm}
use Rattle.vg_pairs.specs.Lists.{Waiting, is_arm}

abbrev pub item_then : Waiting → Item → Code Step → Code Step
item_then w (Plain this c) b = paired w this (code_of c) (λ v. unpaired v b)
item_then w (Arm this c k) b = paired w this (code_of c.value) (λ v. behind v (If (code_of k.value) (unpaired None b)))

-- What is no arm is not held as one.
abbrev pub hides_arm : Item → Bool
hides_arm (Plain this c) = is_arm c
hides_arm (Arm this c k) = false
