use Rattle.std.specs.Prelude.{ℕ, List, get_or}
use Rattle.std.proofs.Common.{◌≡◌, ap, ◌∙◌}
use Rattle.vg_lin.specs.declared.instr.Instr.{Instr}
use Rattle.vg_lin.specs.Program.{Procedure}
use Rattle.vg_expand.specs.Code.{expanded_code, places_from, base_of, expanded}
use Rattle.vg_expand.proofs.procedure.code_of.Goals as goal

same_places : (first : ℕ) (m : Procedure) (ws : List ℕ) (code : List Instr) → ws ≡ m.widths → code ≡ m.code
    → places_from (record { first = first; widths = ws }) 0 code ≡ places_from (base_of first m) 0 m.code
same_places first m ws code e h =
    ap (λ z. places_from (record { first = first; widths = z }) 0 code) e ∙ ap (λ z. places_from (base_of first m) 0 z) h

same_code : (first : ℕ) (m : Procedure) (ws : List ℕ) (code : List Instr) (places : List ℕ) → ws ≡ m.widths → code ≡ m.code
    → places ≡ places_from (base_of first m) 0 m.code
    → expanded_code (record { first = first; widths = ws }) (λ to. get_or places to 0) code ≡ (expanded first m).code
same_code first m ws code places e h f =
    ap (λ z. expanded_code (record { first = first; widths = z }) (λ to. get_or places to 0) code) e
    ∙ ap (λ z. expanded_code (base_of first m) (λ to. get_or places to 0) z) h
    ∙ ap (λ z. expanded_code (base_of first m) (λ to. get_or z to 0) m.code) f

pub returns-clause-code : goal.returns-clause-code
returns-clause-code c =
    c.in_ok-new.ensures
    ∙ same_code c.args.first c.args.proc.now c.widths-2.result.now c.code-2.result.now c.as_slice.result.now c.widths-2.ensures c.code-2.ensures
    (c.as_slice.ensures ∙ c.in_ok-found.ensures.places
    ∙ same_places c.args.first c.args.proc.now c.widths.result.now c.code.result.now c.widths.ensures c.code.ensures)
