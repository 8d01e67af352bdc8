use Rattle.vg_meaning_laws.proofs.Told.{told_ticked, told_opened, told_returned, told_loop}
use Rattle.vg_meaning_laws.proofs.history.told_clock.Goals as goal

pub returns-clause-tick : goal.returns-clause-tick
returns-clause-tick g c = λ f r q t p p' k. told_ticked f r q t p p' k

pub returns-clause-opened : goal.returns-clause-opened
returns-clause-opened g c = λ f r q t call p p' k. told_opened f r q t call p p' k

pub returns-clause-returned : goal.returns-clause-returned
returns-clause-returned g c = λ f a b p p' t k. told_returned f a b p p' t k

pub returns-clause-loops : goal.returns-clause-loops
returns-clause-loops g c = λ f r q t test c1 body next c1' body' next' hc hb hn. told_loop f r q t test c1 body next c1' body' next' hc hb hn
