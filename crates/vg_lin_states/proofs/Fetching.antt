-- Instructions of programs.
use Rattle.std.specs.Prelude.{ℕ, zero, suc, List, [], ◌∷◌, Some, None, slice_get}
use Rattle.std.proofs.Common.{◌≡◌, refl, ap, sym, ◌∙◌}
use Rattle.std.specs.Option.{option_map}
use Rattle.vg_lin.specs.Program.{Procedure}
use Rattle.vg_lin.specs.Steps.{fetch, code_of}
use Rattle.vg_lin.specs.Meaning.{codes_in}

codes_at : (ms : List Procedure) (m : ℕ) → slice_get (codes_in ms) m ≡ option_map (λ p. p.code) (slice_get ms m)
codes_at [] m = refl
codes_at (p ∷ ps) zero = refl
codes_at (p ∷ ps) (suc m) = codes_at ps m

pub fetch_there : (ms : List Procedure) (m pc : ℕ) (p : Procedure) → slice_get ms m ≡ Some p → slice_get p.code pc ≡ fetch (codes_in ms) m pc
fetch_there ms m pc p e = ap (λ o. slice_get (code_of (option_map (λ q. q.code) o)) pc) (sym e) ∙ ap (λ o. slice_get (code_of o) pc) (sym (codes_at ms m))

pub fetch_nowhere : (ms : List Procedure) (m pc : ℕ) → slice_get ms m ≡ None → None ≡ fetch (codes_in ms) m pc
fetch_nowhere ms m pc e = ap (λ o. slice_get (code_of (option_map (λ q. q.code) o)) pc) (sym e) ∙ ap (λ o. slice_get (code_of o) pc) (sym (codes_at ms m))
