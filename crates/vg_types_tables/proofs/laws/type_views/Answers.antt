use Rattle.vg_types_tables.proofs.Entries.{number_view, number_type, array_view, row_number, row_function_view}
use Rattle.vg_types_tables.proofs.laws.type_views.Goals as goal

pub returns-clause-number : goal.returns-clause-number
returns-clause-number c = λ texts d i t f e. number_view texts d f i t e

pub returns-clause-by_number : goal.returns-clause-by_number
returns-clause-by_number c = λ texts d i f k. number_type texts d f i k

pub returns-clause-array : goal.returns-clause-array
returns-clause-array c = λ texts d i t f e. array_view texts d f i t e

pub returns-clause-row : goal.returns-clause-row
returns-clause-row c = λ texts d i ts f e. row_number texts d f ts i e

pub returns-clause-function : goal.returns-clause-function
returns-clause-function c = λ texts d i j ts u f e g. row_function_view texts d f i j ts u e g
