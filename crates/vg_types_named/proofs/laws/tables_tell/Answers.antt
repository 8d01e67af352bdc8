use Rattle.std.proofs.Common.{slice_get, ap, ◌∙◌}
use Rattle.vg_types_named.proofs.Telling.{classes_tell, above, components_tell, owners, selectors, inherits, targets}
use Rattle.vg_types_named.proofs.laws.tables_tell.Goals as goal

pub returns-clause-classes : goal.returns-clause-classes
returns-clause-classes c texts ds d k l = classes_tell texts ds l.types l.heads l.homes d k l.left

pub returns-clause-above : goal.returns-clause-above
returns-clause-above c texts ds d k l = above texts ds l.types l.heads l.homes d k l.left

pub returns-clause-components : goal.returns-clause-components
returns-clause-components c texts ds d k l = components_tell texts ds l.types l.heads l.homes d k l.left

pub returns-clause-owners : goal.returns-clause-owners
returns-clause-owners c texts ds d k l = owners texts ds l.types l.heads l.homes d k l.left

pub returns-clause-selectors : goal.returns-clause-selectors
returns-clause-selectors c texts ds d k l = selectors texts ds l.types l.heads l.homes d k l.left

pub returns-clause-inherits : goal.returns-clause-inherits
returns-clause-inherits c texts ds d k l = inherits texts ds l.types l.heads l.homes d k l.left

pub returns-clause-targets : goal.returns-clause-targets
returns-clause-targets c texts ds d k l t g e =
    let s = targets texts ds l.types l.heads l.homes d k l.left t g e in
    (s.0, ap (λ z. slice_get z s.0) l.targets ∙ s.1)
