use Rattle.std.specs.Prelude.{ℕ, ◌≤◌, ◌*◌, true, List, Option, length}
use Rattle.std.proofs.Common.{◌≡◌, sym, ap, ◌∙◌, subst}
use Rattle.vg_lin.specs.declared.instr.Instr.{Instr}
use Rattle.vg_lin.specs.Sound.{IsSound}
use Rattle.vg_lin.specs.Program.{Procedure}
use Rattle.vg_arith.specs.Simple.{are_simple}
use Rattle.vg_expand.specs.Expansion.{Expands}
use Rattle.vg_expand.specs.Code.{place_in, base_of, expanded}
use Rattle.vg_expand.specs.Flow.{calls_of}
use Rattle.vg_lin.specs.Onward.{all_lead_on}
use Rattle.vg_expand.proofs.Flowing.{code_calls, code_onwards}
use Rattle.vg_expand.proofs.Kept.{expanded_sound}
use Rattle.vg_expand.proofs.Expanded.{expands, code_simple, code_small}
use Rattle.vg_expand.proofs.procedure.expand.Goals as goal

-- what is made of a procedure is the expanded one
is_expanded : (first : ℕ) (m : Procedure) (method : Option ℕ) (params result : ℕ) (ws : List ℕ) (code : List Instr) → method ≡ m.method
    → params ≡ m.params → result ≡ m.result → ws ≡ m.widths → code ≡ (expanded first m).code
    → record { method = method; params = params; result = result; widths = ws; code = code } ≡ expanded first m
is_expanded first m method params result ws code a b r c d =
    ap (λ z. record { method = z; params = params; result = result; widths = ws; code = code }) a
    ∙ ap (λ z. record { method = m.method; params = z; result = result; widths = ws; code = code }) b
    ∙ ap (λ z. record { method = m.method; params = m.params; result = z; widths = ws; code = code }) r
    ∙ ap (λ z. record { method = m.method; params = m.params; result = m.result; widths = z; code = code }) c
    ∙ ap (λ z. record { method = m.method; params = m.params; result = m.result; widths = m.widths; code = z }) d

pub new-requires : goal.new-requires
new-requires c =
    subst IsSound
    (sym (is_expanded c.args.first c.args.proc.now c.method.result c.params.result c.result_width.result c.in_ok-widths.widths c.in_ok-code.code c.method.ensures c.params.ensures c.result_width.ensures
    (c.in_ok-widths.ensures ∙ c.widths.ensures) c.in_ok-code.ensures.code))
    (expanded_sound c.args.first c.args.proc.now c.keeps.ensures)

pub returns-clause-meaning : goal.returns-clause-meaning
returns-clause-meaning c =
    subst (Expands c.args.first c.args.proc.now)
    (sym (c.new.ensures ∙ (is_expanded c.args.first c.args.proc.now c.method.result c.params.result c.result_width.result c.in_ok-widths.widths
    c.in_ok-code.code c.method.ensures c.params.ensures c.result_width.ensures
    (c.in_ok-widths.ensures ∙ c.widths.ensures) c.in_ok-code.ensures.code)))
    (expands c.args.first c.args.proc.now c.keeps.ensures)

pub returns-clause-exactly : goal.returns-clause-exactly
returns-clause-exactly c =
    c.new.ensures
    ∙ is_expanded c.args.first c.args.proc.now c.method.result c.params.result c.result_width.result c.in_ok-widths.widths c.in_ok-code.code c.method.ensures
    c.params.ensures c.result_width.ensures (c.in_ok-widths.ensures ∙ c.widths.ensures) c.in_ok-code.ensures.code

pub returns-clause-nothing_left : goal.returns-clause-nothing_left
returns-clause-nothing_left c =
    subst (λ m. are_simple m.code ≡ true)
    (sym (c.new.ensures ∙ (is_expanded c.args.first c.args.proc.now c.method.result c.params.result c.result_width.result c.in_ok-widths.widths
    c.in_ok-code.code c.method.ensures c.params.ensures c.result_width.ensures
    (c.in_ok-widths.ensures ∙ c.widths.ensures) c.in_ok-code.ensures.code)))
    (code_simple (base_of c.args.first c.args.proc.now) (place_in (base_of c.args.first c.args.proc.now) c.args.proc.now.code) c.args.proc.now.code)

pub returns-clause-size : goal.returns-clause-size
returns-clause-size c =
    subst (λ m. length m.code ≤ 2 * length c.args.proc.now.code)
    (sym (c.new.ensures ∙ (is_expanded c.args.first c.args.proc.now c.method.result c.params.result c.result_width.result c.in_ok-widths.widths
    c.in_ok-code.code c.method.ensures c.params.ensures c.result_width.ensures
    (c.in_ok-widths.ensures ∙ c.widths.ensures) c.in_ok-code.ensures.code)))
    (code_small (base_of c.args.first c.args.proc.now) (place_in (base_of c.args.first c.args.proc.now) c.args.proc.now.code) c.args.proc.now.code)

pub returns-clause-calls : goal.returns-clause-calls
returns-clause-calls c =
    subst (λ m. calls_of c.args.first m.code ≡ calls_of c.args.first c.args.proc.now.code)
    (sym (c.new.ensures ∙ (is_expanded c.args.first c.args.proc.now c.method.result c.params.result c.result_width.result c.in_ok-widths.widths
    c.in_ok-code.code c.method.ensures c.params.ensures c.result_width.ensures
    (c.in_ok-widths.ensures ∙ c.widths.ensures) c.in_ok-code.ensures.code)))
    (code_calls (base_of c.args.first c.args.proc.now) (place_in (base_of c.args.first c.args.proc.now) c.args.proc.now.code) c.args.proc.now.code)

pub returns-clause-onwards : goal.returns-clause-onwards
returns-clause-onwards c =
    subst (λ m. all_lead_on 0 c.args.proc.now.code ≡ true → all_lead_on 0 m.code ≡ true)
    (sym (c.new.ensures ∙ (is_expanded c.args.first c.args.proc.now c.method.result c.params.result c.result_width.result c.in_ok-widths.widths
    c.in_ok-code.code c.method.ensures c.params.ensures c.result_width.ensures
    (c.in_ok-widths.ensures ∙ c.widths.ensures) c.in_ok-code.ensures.code)))
    (code_onwards c.args.first c.args.proc.now c.keeps.ensures)
