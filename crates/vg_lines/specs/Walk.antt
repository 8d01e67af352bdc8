-- Mirrors of the code that walks over a line: no public clause cites them.
use Rattle.std.specs.Prelude.{ℕ, suc, ◌==◌, List, [], ◌∷◌, if◌then◌else◌}

-- how many bytes stand before the first LF
abbrev pub before_lf : List ℕ → ℕ
before_lf [] = 0
before_lf (b ∷ bs) = if b == 10 then 0 else suc (before_lf bs)

-- a line without the CR at its end
abbrev pub without_cr : List ℕ → List ℕ
without_cr [] = []
without_cr (b ∷ []) = if b == 13 then [] else b ∷ []
without_cr (b ∷ c ∷ l) = b ∷ without_cr (c ∷ l)
