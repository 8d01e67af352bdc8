use Rattle.vg_alive.proofs.Live.{alive_is, searched_by}
use Rattle.vg_alive.proofs.finding.find_live.Goals as goal

pub returns-in-Ok-searched : goal.returns-in-Ok-searched
returns-in-Ok-searched c = alive_is _ _ c.in-Ok.start _ c.in-Ok.ensures c.in-Ok-searched.ensures

pub returns-in-Err-searched : goal.returns-in-Err-searched
returns-in-Err-searched c = searched_by _ _ c.in-Ok.start _ c.in-Ok.ensures c.in-Err-searched.ensures
