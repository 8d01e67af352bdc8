use Rattle.vg_image.proofs.Parts.{jumps, slots_stand, tables_stand, code_stands, bytes_count}
use Rattle.vg_image.proofs.standing.images_stand.Goals as goal

pub returns-clause-jump : goal.returns-clause-jump
returns-clause-jump c = jumps

pub returns-clause-slots : goal.returns-clause-slots
returns-clause-slots c = slots_stand

pub returns-clause-tables : goal.returns-clause-tables
returns-clause-tables c = tables_stand

pub returns-clause-code : goal.returns-clause-code
returns-clause-code c = code_stands

pub returns-clause-size : goal.returns-clause-size
returns-clause-size c = bytes_count
