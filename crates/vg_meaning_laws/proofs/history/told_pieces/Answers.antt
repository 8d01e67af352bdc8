use Rattle.vg_meaning_laws.proofs.Told.{told_then, told_over, told_stops, told_unless, told_choose}
use Rattle.vg_meaning_laws.proofs.history.told_pieces.Goals as goal

pub returns-clause-sequence : goal.returns-clause-sequence
returns-clause-sequence g c = λ f a b p p' t k. told_then f a b p p' t k

pub returns-clause-over : goal.returns-clause-over
returns-clause-over g c = λ f why. told_over f why

pub returns-clause-stops : goal.returns-clause-stops
returns-clause-stops g c = λ f code at. told_stops f code at

pub returns-clause-limit : goal.returns-clause-limit
returns-clause-limit g c = λ f b b' why p p' e k. told_unless f b b' why p p' e k

pub returns-clause-choice : goal.returns-clause-choice
returns-clause-choice g c = λ f x p q p' q' h k. told_choose f x p q p' q' h k
