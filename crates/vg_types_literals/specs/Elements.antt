-- Mirrors: how the code reads the elements of a string. No clause of a public function cites them.
use Rattle.vg_source.specs.Literals as source
use Rattle.vg_types_literals.specs.declared.spelled.Element.{Element}
use Rattle.vg_types_literals.specs.declared.spelled.Element.TheVariants.{Between, Escape, FirstDigit, SecondDigit}

abbrev pub progress : Element → source.Progress
progress Between = source.Between
progress Escape = source.Escape
progress FirstDigit = source.FirstDigit
progress (SecondDigit first) = source.SecondDigit first
