-- The steps that make a parse, in postfix order.
use Rattle.std.specs.Prelude.{ℕ, suc, ◌≡◌, List, [], ◌∷◌, ◌++◌, take, Vec, Result, Ok, Err}
use Rattle.std.specs.Global.{Global}
use Rattle.vg_base.specs.declared.refusal.Refusal.{Refusal}
use Rattle.vg_base.specs.declared.refusal.Refusal.TheVariants.{Fault, NoMemory}
use Rattle.vg_syntax.specs.declared.token.Token.{Token}
use Rattle.vg_syntax.specs.Parses.{Parse, Nil, Tok, Sub, IsParse, NoTreeAt, Shallow, TooDeepAt}
use Rattle.vg_grammar.specs.declared.derivation.Step.{Step}
use Rattle.vg_grammar.specs.declared.derivation.Step.TheVariants.{Take, Make}
use Rattle.vg_grammar.specs.declared.derivation.Stop.{Stop}
use Rattle.vg_grammar.specs.declared.derivation.Stop.TheVariants as stop

-- how many tokens and parts a row of parses has
abbrev pub width : Parse → ℕ
width Nil = 0
width (Tok t behind) = suc (width behind)
width (Sub n a kids behind) = suc (width behind)

-- each token is taken, and each part is made behind its kids
abbrev pub steps_of : Parse → List Step
steps_of Nil = []
steps_of (Tok t behind) = Take ∷ steps_of behind
steps_of (Sub n a kids behind) = steps_of kids ++ Make n (width kids) ∷ steps_of behind

-- the steps are those of a parse of the tokens
abbrev pub AreSteps : List Token → List Step → Type 0
AreSteps ts steps = (p : Parse) × IsParse ts p × (steps_of p ≡ steps)

-- the answer is the steps of a parse with at most 64 open brackets, or the place where the tokens cease to be a text
abbrev pub Derived : List Token → Result (Vec Step Global) (Refusal Stop) → Type 0
Derived ts (Ok steps) = AreSteps ts steps.items × Shallow ts
Derived ts (Err (Fault (stop.NoTree i))) = NoTreeAt ts i × Shallow (take i ts)
Derived ts (Err (Fault (stop.TooDeep i))) = TooDeepAt ts i
Derived ts (Err NoMemory) = Unit {0}
