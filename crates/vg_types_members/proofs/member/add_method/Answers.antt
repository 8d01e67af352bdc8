use Rattle.std.proofs.Common.{sym, ap, ◌∙◌}
use Rattle.vg_types_views.specs.ByText.{found}
use Rattle.vg_types_members.proofs.Makings.{on_ok, method_added}
use Rattle.vg_types_members.proofs.member.add_method.Goals as goal

pub returns-clause-sound : goal.returns-clause-sound
returns-clause-sound c =
    on_ok c.push-2.result
    (method_added c.args.names.now c.args.types.now c.args.making.now c.number.new.self c.push.new.self _ c.requires.sound
    c.in_ok-selector.ensures.sound c.in_ok-selector.ensures.stay c.in_ok-push.ensures.ok
    (record {
      params = c.requires.types.params;
      value = c.requires.types.value;
      function = c.requires.types.function;
      selector = ap (λ t. found t c.number.new.self.numbers) (sym c.text_of-text.ensures) ∙ c.in_ok-selector.ensures.number;
    }))
