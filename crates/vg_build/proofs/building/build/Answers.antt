use Rattle.vg_faults.specs.declared.fault.Fault.TheVariants.{NoTree, TooDeep, TooMany, Broken, Allocates, StaticFull, TableFull, CodeFull}
use Rattle.vg_build.proofs.Faults.{answered_of, complete_of, exactly, first_of, init_of, large_of, not_built_of, stack_full_of, stack_short_of}
use Rattle.vg_build.proofs.building.build.Goals as goal

pub returns-clause-no_tree : goal.returns-clause-no_tree
returns-clause-no_tree c = λ settled place. exactly _ _ _ _ c.answer_to.ensures settled (NoTree place) tt

pub returns-clause-too_deep : goal.returns-clause-too_deep
returns-clause-too_deep c = λ settled place. exactly _ _ _ _ c.answer_to.ensures settled (TooDeep place) tt

pub returns-clause-too_many : goal.returns-clause-too_many
returns-clause-too_many c = λ settled what limit place. exactly _ _ _ _ c.answer_to.ensures settled (TooMany what limit place) tt

pub returns-clause-broken : goal.returns-clause-broken
returns-clause-broken c = λ settled rule place. exactly _ _ _ _ c.answer_to.ensures settled (Broken rule place) tt

pub returns-clause-init : goal.returns-clause-init
returns-clause-init c = init_of _ _ _ _ c.answer_to.ensures

pub returns-clause-allocates : goal.returns-clause-allocates
returns-clause-allocates c = λ settled place line. exactly _ _ _ _ c.answer_to.ensures settled (Allocates place line) tt

pub returns-clause-static_full : goal.returns-clause-static_full
returns-clause-static_full c = λ settled need. exactly _ _ _ _ c.answer_to.ensures settled (StaticFull need) tt

pub returns-clause-table_full : goal.returns-clause-table_full
returns-clause-table_full c = λ settled need. exactly _ _ _ _ c.answer_to.ensures settled (TableFull need) tt

pub returns-clause-stack_full : goal.returns-clause-stack_full
returns-clause-stack_full c = stack_full_of _ _ _ _ c.answer_to.ensures

pub returns-clause-stack_short : goal.returns-clause-stack_short
returns-clause-stack_short c = stack_short_of _ _ _ _ c.answer_to.ensures

pub returns-clause-code_full : goal.returns-clause-code_full
returns-clause-code_full c = λ words. answered_of _ _ _ _ c.answer_to.ensures (CodeFull words)

pub returns-clause-not_built : goal.returns-clause-not_built
returns-clause-not_built c = not_built_of _ _ _ _ c.answer_to.ensures

pub returns-clause-not_built_large : goal.returns-clause-not_built_large
returns-clause-not_built_large c = large_of _ _ _ _ c.answer_to.ensures

pub returns-clause-not_built_first : goal.returns-clause-not_built_first
returns-clause-not_built_first c = first_of _ _ _ _ c.answer_to.ensures

pub returns-clause-complete : goal.returns-clause-complete
returns-clause-complete c = complete_of _ _ _ c.requires.asked _ c.answer_to.ensures
