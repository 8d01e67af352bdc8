use Rattle.vg_tables.proofs.Holding.{holds, delegate_holds}
use Rattle.vg_tables.proofs.laws.bytes_hold_entries.Goals as goal

pub returns-clause-numbers : goal.returns-clause-numbers
returns-clause-numbers c = λ k width n lt. holds k width n lt

pub returns-clause-delegates : goal.returns-clause-delegates
returns-clause-delegates c = λ k q r lt. delegate_holds k q r lt
