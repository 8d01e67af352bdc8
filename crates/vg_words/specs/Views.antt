-- The command that a value of the code stands for.
use Rattle.vg_words.specs.declared.command.Command as declared
use Rattle.vg_words.specs.declared.command.Command.TheVariants as variant
use Rattle.vg_words.specs.Commands.{Command, Build, Run, Sim, Why, Try}

abbrev pub command_in : declared.Command → Command
command_in (variant.Build file stack init_steps) = Build file.now stack init_steps
command_in (variant.Run file script steps) = Run file.now script.now steps
command_in (variant.Sim hex script steps) = Sim hex.now script.now steps
command_in (variant.Why file member) = Why file.now member.now
command_in (variant.Try objects) = Try objects
