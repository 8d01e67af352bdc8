use Rattle.vg_packed.proofs.Holding.{when_placed, before_placed, at, of_home}
use Rattle.vg_packed.proofs.live_laws.placed_columns_hold_the_same.Goals as goal

pub returns-clause-placed : goal.returns-clause-placed
returns-clause-placed c = λ f ram flash cs h. when_placed f ram flash cs h

pub returns-clause-alone : goal.returns-clause-alone
returns-clause-alone c = λ f ram flash cs h. before_placed f ram flash cs h

pub returns-clause-at : goal.returns-clause-at
returns-clause-at c = λ f cs h. at f cs h

pub returns-clause-home : goal.returns-clause-home
returns-clause-home c = λ f i home cs e. of_home f home cs i e
