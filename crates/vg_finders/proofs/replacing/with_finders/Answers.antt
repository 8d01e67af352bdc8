use Rattle.std.specs.Prelude.{ℕ, List, Option}
use Rattle.std.proofs.Common.{◌≡◌, sym, ap, ◌∙◌, subst}
use Rattle.vg_lin.specs.declared.instr.Instr.{Instr}
use Rattle.vg_lin.specs.Program.{Procedure}
use Rattle.vg_lin.specs.Sound.{IsSound}
use Rattle.vg_finding.specs.Finders.{code_found, with_finders}
use Rattle.vg_finding.proofs.Sound.{found_sound}
use Rattle.vg_finders.proofs.replacing.with_finders.Goals as goal

-- what is made of a procedure is it with finders
is_found : (numbers : List (Option ℕ)) (m : Procedure) (method : Option ℕ) (params result : ℕ) (ws : List ℕ) (code : List Instr) → method ≡ m.method
    → params ≡ m.params → result ≡ m.result → ws ≡ m.widths → code ≡ (with_finders numbers m).code
    → record { method = method; params = params; result = result; widths = ws; code = code } ≡ with_finders numbers m
is_found numbers m method params result ws code a b r c d =
    ap (λ z. record { method = z; params = params; result = result; widths = ws; code = code }) a
    ∙ ap (λ z. record { method = m.method; params = z; result = result; widths = ws; code = code }) b
    ∙ ap (λ z. record { method = m.method; params = m.params; result = z; widths = ws; code = code }) r
    ∙ ap (λ z. record { method = m.method; params = m.params; result = m.result; widths = z; code = code }) c
    ∙ ap (λ z. record { method = m.method; params = m.params; result = m.result; widths = m.widths; code = z }) d

pub new-requires : goal.new-requires
new-requires c =
    subst IsSound
    (sym (is_found c.args.numbers.now c.args.old.now c.method.result c.params.result c.result_width.result c.in_ok-widths.widths c.in_ok-code.code
    c.method.ensures c.params.ensures c.result_width.ensures (c.in_ok-widths.ensures ∙ c.widths.ensures)
    (c.in_ok-code.ensures ∙ ap (code_found c.args.numbers.now) c.code.ensures)))
    (found_sound c.args.numbers.now c.args.old.now c.keeps.ensures)
