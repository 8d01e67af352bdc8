use Rattle.vg_unreceived.proofs.Receiving.{unread, dead_receiver, nothing, nothing_found}
use Rattle.vg_unreceived.proofs.laws.what_takes_nothing_receives_nothing.Goals as goal

pub returns-clause-unread : goal.returns-clause-unread
returns-clause-unread c = unread

pub returns-clause-dead : goal.returns-clause-dead
returns-clause-dead c = dead_receiver

pub returns-clause-nothing : goal.returns-clause-nothing
returns-clause-nothing c = nothing

pub returns-clause-found : goal.returns-clause-found
returns-clause-found c = nothing_found
