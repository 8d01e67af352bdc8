use Rattle.std.proofs.Common.{◌∙◌, sym, refl}
use Rattle.vg_core.specs.HeldProgram.{program_at}
use Rattle.vg_reach_holding.proofs.Places.{on_ok}
use Rattle.vg_reach_visits.specs.declared.seen.Work.{Work}
use Rattle.vg_reach_visits.proofs.Sites.{looks_site, looks_plain}
use Rattle.vg_reach_visits.proofs.looking.look_at.Goals as goal

pub returns-in-Some : goal.returns-in-Some
returns-in-Some c =
    let p = program_at c.args.program.now in
    let h = c.args.heap.now in
    let v : Work = record { marks = c.name.new.marks; seen = c.args.work.now.seen } in
    on_ok c.meet_site.result (λ go i r im at. looks_site p h c.args.work.now v c.meet_site.new.work c.args.method i c.args.step c.in-Some.site refl
    (sym c.site_of.ensures ∙ c.in-Some.is) at (c.in_ok-name.ensures p h i r.0 im at) r im go) c.meet_site.ensures

pub returns-in-None : goal.returns-in-None
returns-in-None c =
    let p = program_at c.args.program.now in
    let h = c.args.heap.now in
    let v : Work = record { marks = c.name.new.marks; seen = c.args.work.now.seen } in
    λ i r im at. looks_plain p h c.args.work.now v c.args.method c.args.step refl (sym c.site_of.ensures ∙ c.in-None.is) (c.in_ok-name.ensures p h i r.0 im at) r
