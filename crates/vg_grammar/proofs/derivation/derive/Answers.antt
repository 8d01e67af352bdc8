use Rattle.std.proofs.Common.{rules, ◌≡◌, ◌++◌, ◌∷◌, [], sym, ap, ◌∙◌, subst}
use Rattle.vg_syntax.specs.declared.grammar.Symbol.TheVariants.{Use}
use Rattle.vg_syntax.specs.declared.grammar.Part.TheVariants as part
use Rattle.vg_grammar.specs.declared.marks.Mark.TheVariants.{See}
use Rattle.vg_grammar.specs.declared.derivation.Step.TheVariants as step
use Rattle.vg_grammar.proofs.Derivations.{Making, begins, top, top_make, refuse_part, refuse_sign, refuse_deep, refuse_left, expanding, expanding_less}
use Rattle.vg_grammar.proofs.Derivations.{making, making_less, matching, matching_less, ending}
use Rattle.vg_grammar.proofs.derivation.derive.Goals as goal

pub loop-mark-init : goal.loop-mark-init
loop-mark-init c =
    subst (λ l. Making c.args.tokens.now 0 c.push.new.self l 0) (sym c.new-steps.ensures.items)
    (begins _ _ (c.in_ok-push.ensures ∙ ap (λ l. See (Use part.Text) ∷ l) c.new-marks.ensures))

pub loop-mark-smaller-in-Continue-branch-2 : goal.loop-mark-smaller-in-Continue-branch-2
loop-mark-smaller-in-Continue-branch-2 c = making_less c.args.tokens.now c.loop-mark.at _ _ _ _ (top_make _ _ _ _ _ c.in-Some.ensures c.in-Make.is)

pub loop-mark-preserved-in-Continue-branch-2 : goal.loop-mark-preserved-in-Continue-branch-2
loop-mark-preserved-in-Continue-branch-2 c =
    let items : c.push-in-Make.new.self.items ≡ c.loop-mark.steps.items ++ step.Make c.in-Make.part c.in-Make.count ∷ [] = search rules in
    making _ _ _ _ _ _ _ _ _ c.loop-mark.invariant (top_make _ _ _ _ _ c.in-Some.ensures c.in-Make.is) items

pub returns-in-None : goal.returns-in-None
returns-in-None c =
    refuse_part _ _ _ _ _ _ _ _ c.loop-mark.invariant (top _ _ _ _ _ c.in-Some.ensures c.in-See.is c.in-Use.is) c.kind_at.ensures c.in-None.ensures.chosen

pub loop-mark-smaller-in-Continue-branch-4 : goal.loop-mark-smaller-in-Continue-branch-4
loop-mark-smaller-in-Continue-branch-4 c =
    expanding_less c.args.tokens.now c.loop-mark.at _ _ _ _ _ _ _
    (top _ _ _ _ _ c.in-Some.ensures c.in-See.is c.in-Use.is) c.kind_at.ensures c.in-Some-chosen.ensures.chosen c.in_ok-push-in-Some-chosen.ensures
    c.in_ok-push_all-in-Some-chosen.ensures

pub loop-mark-preserved-in-Continue-branch-4 : goal.loop-mark-preserved-in-Continue-branch-4
loop-mark-preserved-in-Continue-branch-4 c =
    expanding _ _ _ _ _ _ _ _ _ _ _ c.loop-mark.invariant (top _ _ _ _ _ c.in-Some.ensures c.in-See.is c.in-Use.is) c.kind_at.ensures
    c.in-Some-chosen.ensures.chosen c.in_ok-push-in-Some-chosen.ensures c.in_ok-push_all-in-Some-chosen.ensures

pub returns-then-not-is_at : goal.returns-then-not-is_at
returns-then-not-is_at c =
    refuse_sign _ _ _ _ _ _ _ c.loop-mark.invariant (top _ _ _ _ _ c.in-Some.ensures c.in-See.is c.in-Sign.is) (sym c.is_at.ensures ∙ c.if-not-is_at.true)

pub returns-in-None-opened : goal.returns-in-None-opened
returns-in-None-opened c =
    refuse_deep _ _ _ _ _ _ _ c.loop-mark.invariant (top _ _ _ _ _ c.in-Some.ensures c.in-See.is c.in-Sign.is)
    (sym c.is_at.ensures ∙ c.if-not-is_at.false) c.in-None-opened.ensures

pub loop-mark-smaller : goal.loop-mark-smaller
loop-mark-smaller c =
    matching_less c.args.tokens.now c.loop-mark.at _ _ _ (top _ _ _ _ _ c.in-Some.ensures c.in-See.is c.in-Sign.is) (sym c.is_at.ensures ∙ c.if-not-is_at.false)

pub loop-mark-preserved : goal.loop-mark-preserved
loop-mark-preserved c =
    let items : c.push-in-Sign.new.self.items ≡ c.loop-mark.steps.items ++ step.Take ∷ [] = search rules in
    matching _ _ _ _ _ _ _ _ _ c.loop-mark.invariant (top _ _ _ _ _ c.in-Some.ensures c.in-See.is c.in-Sign.is)
    (sym c.is_at.ensures ∙ c.if-not-is_at.false) c.in-Some-opened.ensures items

pub returns-then-at-tokens : goal.returns-then-at-tokens
returns-then-at-tokens c = ending _ _ _ _ _ c.loop-mark.invariant c.in_default.ensures c.if-at-tokens.true

pub returns : goal.returns
returns c = refuse_left _ _ _ _ _ c.loop-mark.invariant c.in_default.ensures c.if-at-tokens.false
