-- The arms of an `if` as a list.
use Rattle.std.proofs.Common.{◌≡◌, Vec, Global, refl, ap, ◌∙◌}
use Rattle.vg_meaning.specs.Code.{Code}
use Rattle.vg_core.specs.declared.step.Step.{Step}
use Rattle.vg_core.specs.declared.code.Code as held
use Rattle.vg_core.specs.HeldProgram.{code_of, arms_of}
use Rattle.vg_types_statements.specs.Arms.{before_arms, code_arms}

arms_in_order : (last : Code Step) (n : _) (k : held.Row_of-Code n) → arms_of k last ≡ code_arms (held.items-the_row-Code n k) last
arms_in_order last _ held.end_of-Code = refl
arms_in_order last _ (held.more_of-Code c rest) = by c ∙ ap (before_arms c) (arms_in_order last _ rest)
  where
    by : (c : held.Code) → arms_of (held.more_of-Code c rest) last ≡ before_arms c (arms_of rest last)
    by (held.Arm' p a q b) = refl
    by _ = refl

-- the code of arms
pub code_of_arms : (v : Vec held.Code Global) (l m : held.Code) → l ≡ m
    → arms_of (held.TheBlock.hidden-the_row-Code-0 v) (code_of l) ≡ code_arms v.items (code_of m)
code_of_arms v l m e =
    arms_in_order (code_of l) _ (held.TheBlock.hidden-the_row-Code-0 v) ∙ ap (λ z. code_arms z (code_of l)) (held.items_hidden-the_row-Code-0 v)
    ∙ ap (λ z. code_arms v.items (code_of z)) e
