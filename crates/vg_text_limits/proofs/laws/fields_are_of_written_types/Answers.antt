use Rattle.vg_text_limits.proofs.FieldTypes.{fields_fit}
use Rattle.vg_text_limits.proofs.laws.fields_are_of_written_types.Goals as goal

pub returns-clause-small : goal.returns-clause-small
returns-clause-small c = λ texts text most p legal have w written f y e. (fields_fit texts text most p legal have w written f y e).0

pub returns-clause-wide : goal.returns-clause-wide
returns-clause-wide c = λ texts text most p legal have w written f y e. (fields_fit texts text most p legal have w written f y e).1
