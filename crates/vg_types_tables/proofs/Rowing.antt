-- What rows of code stand for while they are made.
use Rattle.std.proofs.Common.{◌≡◌, ℕ, List, [], ◌∷◌, ◌++◌, refl, ap, None, Some}
use Rattle.std.specs.List.{slice_get}
use Rattle.vg_meaning.specs.Code.{Code, Nothing, Then}
use Rattle.vg_tree.specs.Held.{text_or_none, text_at}
use Rattle.vg_source.specs.Steps as source
use Rattle.vg_core.specs.declared.code.Code as held
use Rattle.vg_core.specs.HeldProgram.{code_row, code_chain}
use Rattle.vg_core.specs.Naming.{text_in, named_code}
use Rattle.vg_core.specs.Naming as core
use Rattle.vg_types_tables.specs.declared.declared.Declared.{Declared}
use Rattle.vg_types_tables.specs.Views.{naming, code_view}
use Rattle.vg_types_tables.specs.Codes.{in_front}

module _ (texts : List (List ℕ)) (d : Declared) where
  -- a row, all of it made
  pub in_front_all : (cs : List held.Code) → in_front texts d cs Nothing ≡ named_code (naming texts d) d.tables (code_row cs)
  in_front_all [] = refl
  in_front_all (c ∷ cs) = ap (Then (code_view texts d c)) (in_front_all cs)

  -- one more code at its end
  pub in_front_more : (cs : List held.Code) (c : held.Code) (rest : Code source.Step)
      → in_front texts d (cs ++ c ∷ []) rest ≡ in_front texts d cs (Then (code_view texts d c) rest)
  in_front_more [] c rest = refl
  in_front_more (a ∷ cs) c rest = ap (Then (code_view texts d a)) (in_front_more cs c rest)

  -- a chain, made up to its last code
  pub in_front_chain : (cs : List held.Code) (c : held.Code)
      → in_front texts d cs (code_view texts d c) ≡ named_code (naming texts d) d.tables (code_chain (cs ++ c ∷ []))
  in_front_chain [] c = refl
  in_front_chain (a ∷ []) c = refl
  in_front_chain (a ∷ b ∷ cs) c = ap (Then (code_view texts d a)) (in_front_chain (b ∷ cs) c)

text_in_same : (o : _) → text_in o ≡ text_or_none o
text_in_same None = refl
text_in_same (Some x) = refl

-- both words for the text of a name say the same
pub text_same : (texts : List (List ℕ)) (x : ℕ) → core.text_at texts x ≡ text_at texts x
text_same texts x = text_in_same (slice_get texts x)
