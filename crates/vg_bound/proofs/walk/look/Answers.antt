use Rattle.std.proofs.Common.{◌+◌, Some, get_or, refl, sym, ap, ◌∙◌, arith}
use Rattle.std.proofs.lemmas.Option.{slice_get_within}
use Rattle.vg_bound.specs.Searched.{place_of}
use Rattle.vg_bound.proofs.Steps.{room_more, left_fits, step_enters, step_visits, step_leaves}
use Rattle.vg_bound.proofs.walk.look.Goals as goal

pub call_of-requires : goal.call_of-requires
call_of-requires c =
    let w = slice_get_within c.args.search.now.marks c.args.node _ c.requires.open_ in
    omega (arith, w, c.requires.searching.nodes, c.requires.shaped.nodes)

pub mark_of-requires : goal.mark_of-requires
mark_of-requires c =
    let h = c.requires.shaped.targets c.args.node c.in-Some.target (c.args.visit.next, sym c.call_of.ensures.is ∙ c.in-Some.is) in
    omega (arith, h, c.requires.searching.nodes)

pub enter-requires-clause-within : goal.enter-requires-clause-within
enter-requires-clause-within c =
    let h = c.requires.shaped.targets c.args.node c.in-Some.target (c.args.visit.next, sym c.call_of.ensures.is ∙ c.in-Some.is) in
    omega (arith, h, c.requires.searching.nodes)

pub enter-requires-clause-room : goal.enter-requires-clause-room
enter-requires-clause-room c =
    room_more c.args.frames.now c.args.calls.now c.args.search.now c.requires.searching c.in-Some.target (c.mark_of.ensures ∙ ap Some c.in-Unseen.is)

pub returns-in-Open : goal.returns-in-Open
returns-in-Open c = (
  refl,
  (
    c.args.node,
    c.in-Some.target,
    c.requires.top,
    (c.args.visit.next, sym c.call_of.ensures.is ∙ c.in-Some.is),
    c.requires.searching.stacked.opened c.in-Some.target c.in-Open.other.place (ap place_of (c.mark_of.ensures ∙ ap Some c.in-Open.is)),
  ),
)

pub visit-requires : goal.visit-requires
visit-requires c = slice_get_within c.args.search.now.marks c.args.node _ c.requires.open_

pub bounds-frames-from : goal.bounds-frames-from
bounds-frames-from c =
    let w = slice_get_within c.args.search.now.marks c.args.node _ c.requires.open_ in
    omega (arith, w, c.requires.searching.nodes, c.from.ensures)

pub overflow_add-visit : goal.overflow_add-visit
overflow_add-visit c =
    let h = left_fits c.args.frames.now c.args.calls.now c.args.search.now c.requires.searching c.args.node c.args.visit c.requires.open_ in
    let s = ap (λ z. get_or c.args.frames.now z 0) c.from.ensures in
    omega (arith, h, s, c.requires.shaped.small)

pub leave-requires : goal.leave-requires
leave-requires c = slice_get_within c.args.search.now.marks c.args.node _ c.requires.open_

pub returns-in-Unseen : goal.returns-in-Unseen
returns-in-Unseen c =
    step_enters c.args.frames.now c.args.calls.now c.args.search.now c.requires.searching c.args.node c.in-Some.target c.enter.new.self c.enter.ensures
    c.requires.top (c.args.visit.next, sym c.call_of.ensures.is ∙ c.in-Some.is) (c.mark_of.ensures ∙ ap Some c.in-Unseen.is)

pub returns-in-Done : goal.returns-in-Done
returns-in-Done c =
    step_visits c.args.frames.now c.args.calls.now c.args.search.now c.requires.searching c.args.node c.in-Some.target c.in-Done.cost c.args.visit
    c.behind.result c.visit.new.self c.visit.ensures c.behind.ensures c.requires.open_ (sym c.call_of.ensures.is ∙ c.in-Some.is)
    (c.mark_of.ensures ∙ ap Some c.in-Done.is)

pub returns-in-None : goal.returns-in-None
returns-in-None c =
    step_leaves c.args.frames.now c.args.calls.now c.args.search.now c.requires.searching c.args.node _ c.args.visit c.leave.new.self c.leave.ensures
    (ap (λ z. c.args.visit.most + z) (c.from-in-None.ensures ∙ ap (λ z. get_or c.args.frames.now z 0) c.from.ensures)) c.requires.open_ c.requires.top (sym c.call_of.ensures.is ∙ c.in-None.is)
