-- Rows and chains of code as lists.
use Rattle.std.proofs.Common.{◌≡◌, Vec, Global, refl, ap, ◌∙◌}
use Rattle.vg_meaning.specs.Code.{Then}
use Rattle.vg_core.specs.declared.code.Code as held
use Rattle.vg_core.specs.declared.code.Code.TheViews as views
use Rattle.vg_core.specs.HeldProgram.{code_of, row_of, chain_of, code_row, code_chain}

row_in_order : (n : _) (k : held.Row_of-Code n) → row_of k ≡ code_row (held.items-the_row-Code n k)
row_in_order _ held.end_of-Code = refl
row_in_order _ (held.more_of-Code c rest) = ap (Then (code_of c)) (row_in_order _ rest)

-- the code of a row
pub code_of_row : (v : Vec held.Code Global) → code_of (views.Row v) ≡ code_row v.items
code_of_row v = row_in_order _ (held.TheBlock.hidden-the_row-Code-0 v) ∙ ap code_row (held.items_hidden-the_row-Code-0 v)

chain_in_order : (n : _) (k : held.Row_of-Code n) → chain_of k ≡ code_chain (held.items-the_row-Code n k)
chain_in_order _ held.end_of-Code = refl
chain_in_order _ (held.more_of-Code c held.end_of-Code) = refl
chain_in_order _ (held.more_of-Code c (held.more_of-Code d rest)) = ap (Then (code_of c)) (chain_in_order _ (held.more_of-Code d rest))

-- the code of a chain
pub code_of_chain : (v : Vec held.Code Global) → code_of (views.Chain v) ≡ code_chain v.items
code_of_chain v = chain_in_order _ (held.TheBlock.hidden-the_row-Code-0 v) ∙ ap code_chain (held.items_hidden-the_row-Code-0 v)
