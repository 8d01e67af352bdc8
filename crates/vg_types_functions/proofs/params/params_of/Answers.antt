use Rattle.std.proofs.Common.{sym, ◌∙◌}
use Rattle.std.proofs.lemmas.Option.{none-some}
use Rattle.vg_types_functions.proofs.Walking.{goes_on, smaller, ends, not_at_end, no_first, no_number}
use Rattle.vg_types_functions.proofs.params.params_of.Goals as goal

pub loop-type_-smaller : goal.loop-type_-smaller
loop-type_-smaller c =
    smaller c.args.declared.now.tables c.requires.formed c.loop-type_.types c.loop-type_.number c.args.params c.loop-type_.invariant c.in-Some.type_
    (sym c.type_of_number.ensures ∙ c.in-Some.is) c.in-Some-parts_of.first c.in-Some-parts_of.rest (sym c.parts_of.ensures ∙ c.in-Some-parts_of.is)

pub loop-type_-preserved : goal.loop-type_-preserved
loop-type_-preserved c =
    goes_on c.args.declared.now.tables c.requires.formed c.loop-type_.types c.loop-type_.number c.args.params c.loop-type_.invariant c.in-Some.type_
    (sym c.type_of_number.ensures ∙ c.in-Some.is) c.in-Some-parts_of.first c.in-Some-parts_of.rest (sym c.parts_of.ensures ∙ c.in-Some-parts_of.is)
    c.in-Some-type_of_number.each c.push.new.self (sym c.type_of_number-in-Some-parts_of.ensures ∙ c.in-Some-type_of_number.is)
    c.in_ok-push-in-Some-type_of_number.ensures.ok

pub returns-in-None-type_of_number-clause-found : goal.returns-in-None-type_of_number-clause-found
returns-in-None-type_of_number-clause-found c = λ ts h. absurd
    (no_first c.args.declared.now.tables c.requires.formed c.loop-type_.types c.loop-type_.number c.args.params c.loop-type_.invariant c.in-Some.type_
    (sym c.type_of_number.ensures ∙ c.in-Some.is) c.in-Some-parts_of.first c.in-Some-parts_of.rest (sym c.parts_of.ensures ∙ c.in-Some-parts_of.is)
    (sym c.type_of_number-in-Some-parts_of.ensures ∙ c.in-None-type_of_number.is) ts h)

pub returns-then-is_end-clause-row : goal.returns-then-is_end-clause-row
returns-then-is_end-clause-row c =
    ends c.args.declared.now.tables c.requires.formed c.loop-type_.types c.loop-type_.number c.args.params c.loop-type_.invariant c.in-Some.type_
    (sym c.type_of_number.ensures ∙ c.in-Some.is) (sym c.parts_of.ensures ∙ c.in-None.is) (sym c.is_end.ensures ∙ c.if-is_end.true)

pub returns-in-None-clause-found : goal.returns-in-None-clause-found
returns-in-None-clause-found c = λ ts h. absurd
    (not_at_end c.args.declared.now.tables c.requires.formed c.loop-type_.types c.loop-type_.number c.args.params c.loop-type_.invariant c.in-Some.type_
    (sym c.type_of_number.ensures ∙ c.in-Some.is) (sym c.parts_of.ensures ∙ c.in-None.is) (sym c.is_end.ensures ∙ c.if-is_end.false) ts h)

pub returns-clause-found : goal.returns-clause-found
returns-clause-found c = λ ts h. absurd
    (no_number c.args.declared.now.tables c.requires.formed c.loop-type_.types c.loop-type_.number c.args.params c.loop-type_.invariant
    (λ t e. none-some t (c.in_default.ensures ∙ e)) ts h)
