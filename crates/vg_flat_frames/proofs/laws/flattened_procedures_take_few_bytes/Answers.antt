use Rattle.vg_flat_frames.proofs.Frames.{homes_few, pushed_few, fewest_few, least_few, fewest_found, least_found}
use Rattle.vg_flat_frames.proofs.laws.flattened_procedures_take_few_bytes.Goals as goal

pub returns-clause-homes : goal.returns-clause-homes
returns-clause-homes c = homes_few

pub returns-clause-pushed : goal.returns-clause-pushed
returns-clause-pushed c = pushed_few

pub returns-clause-fewest : goal.returns-clause-fewest
returns-clause-fewest c = fewest_few

pub returns-clause-least : goal.returns-clause-least
returns-clause-least c = least_few

pub returns-clause-fewest_found : goal.returns-clause-fewest_found
returns-clause-fewest_found c = fewest_found

pub returns-clause-least_found : goal.returns-clause-least_found
returns-clause-least_found c = least_found
