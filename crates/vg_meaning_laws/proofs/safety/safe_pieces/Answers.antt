use Rattle.vg_meaning_laws.proofs.Safe.{safe_then, safe_over, safe_stops, safe_unless, safe_ticked, safe_choose}
use Rattle.vg_meaning_laws.proofs.safety.safe_pieces.Goals as goal

pub returns-clause-sequence : goal.returns-clause-sequence
returns-clause-sequence g c = λ a p h k. safe_then p h k

pub returns-clause-over : goal.returns-clause-over
returns-clause-over g c = λ why o. safe_over _ _ _ _ why o

pub returns-clause-stops : goal.returns-clause-stops
returns-clause-stops g c = λ code at o. safe_stops _ _ _ _ code at o

pub returns-clause-limit : goal.returns-clause-limit
returns-clause-limit g c = λ b why p o k. safe_unless _ _ _ _ b why p o k

pub returns-clause-tick : goal.returns-clause-tick
returns-clause-tick g c = λ r p t k. safe_ticked _ _ _ _ r p t k

pub returns-clause-choice : goal.returns-clause-choice
returns-clause-choice g c = λ x p q k l s w h. safe_choose _ _ _ _ x p q k l s w h
