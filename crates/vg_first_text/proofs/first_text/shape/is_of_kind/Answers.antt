use Rattle.std.proofs.Common.{sym, ◌∙◌}
use denote.Enum.Bare.{same_true, true_same}
use Rattle.vg_syntax.specs.contracts.kind.Kind.{the_type}
use Rattle.vg_first_text.proofs.first_text.shape.is_of_kind.Goals as goal

pub returns : goal.returns
returns c = (λ t. same_true the_type tt _ _ (sym c.eq.ensures ∙ t), λ e. c.eq.ensures ∙ true_same the_type _ _ e)
