-- The tree that a derivation makes: its steps go over the tokens with a list of values, the newest last.
use Rattle.std.specs.Prelude.{ℕ, ◌-◌, List, [], ◌∷◌, ◌++◌, length, take, drop, Result, Ok, Err}
use Rattle.vg_base.specs.declared.refusal.Refusal.{Refusal}
use Rattle.vg_base.specs.declared.refusal.Refusal.TheVariants.{Fault, NoMemory}
use Rattle.vg_syntax.specs.declared.token.Token.{Token}
use Rattle.vg_syntax.specs.declared.grammar.Part.{Part}
use Rattle.vg_syntax.specs.Faults.{IsText, NoTreeIn, TooDeepIn, place_of}
use Rattle.vg_syntax.specs.Made.{Value}
use Rattle.vg_syntax.specs.Tree.{Node}
use Rattle.vg_syntax.specs.Reads.{leaf, made, kids_of, tree_in, Reads}
use Rattle.vg_grammar.specs.declared.derivation.Step.{Step}
use Rattle.vg_grammar.specs.declared.derivation.Step.TheVariants.{Take, Make}
use Rattle.vg_grammar.specs.declared.derivation.Stop.{Stop}
use Rattle.vg_grammar.specs.declared.derivation.Stop.TheVariants as stop
use Rattle.vg_reader.specs.declared.derivation.Derivation.{Derivation}
use Rattle.vg_reader.specs.declared.fault.ReadFault.{ReadFault}
use Rattle.vg_reader.specs.declared.fault.ReadFault.TheVariants as fault

-- a part is made of the last values
abbrev pub reduced : Part → ℕ → List Value → List Value
reduced n c vs = take (length vs - c) vs ++ made n (kids_of (drop (length vs - c) vs)) ∷ []

-- the values once these steps are taken with these tokens to come
abbrev pub run : List ℕ → List Step → List Token → List Value → List Value
run bytes [] ts vs = vs
run bytes (Make n c ∷ ss) ts vs = run bytes ss ts (reduced n c vs)
run bytes (Take ∷ ss) [] vs = run bytes ss [] vs
run bytes (Take ∷ ss) (t ∷ ts) vs = run bytes ss ts (vs ++ leaf bytes t ∷ [])

-- the tree that the steps make of the tokens
abbrev pub tree_of : List ℕ → Derivation → Node
tree_of bytes d = tree_in (run bytes d.steps.items d.tokens.items [])

-- the derivation makes the one tree of the bytes, or the answer is where they cease to be a text
abbrev pub Derives : List ℕ → Result Derivation (Refusal ReadFault) → Type 0
Derives bytes (Ok d) = IsText bytes × Reads bytes (tree_of bytes d)
Derives bytes (Err (Fault (fault.NoTree place))) = NoTreeIn bytes place
Derives bytes (Err (Fault (fault.TooDeep place))) = TooDeepIn bytes place
Derives bytes (Err NoMemory) = Unit {0}

-- the fault of bytes whose tokens cease to be a text
abbrev pub fault_at : List ℕ → List Token → Stop → ReadFault
fault_at bytes ts (stop.NoTree i) = fault.NoTree (place_of bytes ts i)
fault_at bytes ts (stop.TooDeep i) = fault.TooDeep (place_of bytes ts i)
