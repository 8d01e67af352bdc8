-- What is to come while the parse of a text is made. These are mirrors of the code: no public clause of `derive` cites one.
use Rattle.std.specs.Prelude.{◌≡◌, List, [], ◌∷◌, ◌++◌, map, Option, Some, None}
use Rattle.vg_syntax.specs.declared.grammar.Symbol.{Symbol}
use Rattle.vg_grammar.specs.declared.marks.Mark.{Mark}
use Rattle.vg_grammar.specs.declared.marks.Mark.TheVariants.{See}

-- symbols to come, and marks behind them
abbrev pub sees : List Symbol → List Mark → List Mark
sees s m = map See s ++ m

-- the next mark is taken
abbrev pub Pops : Option Mark → (old new : List Mark) → Type 0
Pops None old new = old ≡ []
Pops (Some x) old new = old ≡ x ∷ new
