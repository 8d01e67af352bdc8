use Rattle.vg_scan.proofs.Reading.{some_tokens, only_tokens}
use Rattle.vg_scan.proofs.scanner.exactly_one_token_list.Goals as goal

pub returns-clause-some : goal.returns-clause-some
returns-clause-some c = some_tokens

pub returns-clause-one : goal.returns-clause-one
returns-clause-one c = only_tokens
