-- What holds of each step of code.
use Rattle.vg_meaning.specs.Code.{Code, Then, Do, If, Loop}

abbrev pub EachStep : {P : Type 0} → (P → Type 0) → Code P → Type 0
EachStep R (Then a b) = EachStep R a × EachStep R b
EachStep R (Do p) = R p
EachStep R (If a b) = EachStep R a × EachStep R b
EachStep R (Loop c body next) = EachStep R c × EachStep R body × EachStep R next
EachStep R _ = Unit {0}
