use Rattle.std.proofs.Common.{refl, sym, ap, ◌∙◌, subst}
use Rattle.std.proofs.lemmas.Option.{none-some, slice_get_within}
use Rattle.vg_bound.specs.Graph.{IsNext, IsOn}
use Rattle.vg_bound.proofs.Cycles.{next_on, not_on, on_first}
use Rattle.vg_bound.proofs.graph.CallGraph.follow.Goals as goal

pub behind-requires-clause-within : goal.behind-requires-clause-within
behind-requires-clause-within c =
    slice_get_within c.self.inside.search.stack c.in-Some.place c.args.node
    (c.self.invariant.stacked.opened c.args.node c.in-Some.place (sym c.place_of.ensures ∙ c.in-Some.is))

pub returns-else-place-self-clause-next : goal.returns-else-place-self-clause-next
returns-else-place-self-clause-next c =
    subst (λ z. IsNext z c.args.node c.behind.result) (ap (λ g. g.kept) c.self.view_is)
    (next_on c.self.inside.search.marks c.self.inside.search.stack c.self.inside.from c.args.node c.behind.result c.in-Some.place c.self.invariant.stacked
    (sym c.place_of.ensures ∙ c.in-Some.is) c.if-place-self.false c.behind.ensures)

pub returns-else-place-self-clause-none : goal.returns-else-place-self-clause-none
returns-else-place-self-clause-none c = (
  λ e on. none-some c.behind.result (sym e),
  λ f. absurd (f (subst (λ z. IsOn z c.args.node) (ap (λ g. g.kept) c.self.view_is) (on_first _ c.args.node c.behind.result
      (next_on c.self.inside.search.marks c.self.inside.search.stack c.self.inside.from c.args.node c.behind.result c.in-Some.place c.self.invariant.stacked
      (sym c.place_of.ensures ∙ c.in-Some.is) c.if-place-self.false c.behind.ensures)))),
)

pub returns-in-None-clause-none : goal.returns-in-None-clause-none
returns-in-None-clause-none c = (
  λ e on. not_on c.self.inside.search.marks c.self.inside.search.stack c.self.inside.from c.args.node c.self.invariant.stacked
      (λ i h. absurd (none-some i (sym c.in-None.is ∙ (c.place_of.ensures ∙ h))))
      (subst (λ z. IsOn z c.args.node) (sym (ap (λ g. g.kept) c.self.view_is)) on),
  λ f. refl,
)
