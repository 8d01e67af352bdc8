-- The piece of a loop, of the pieces of its parts.
use Rattle.std.proofs.Common.{◌≡◌, ℕ, ◌+◌, Bool, true, List, length, if◌then◌else◌, refl, sym, ap, ◌∙◌, subst, arith}
use Rattle.vg_flatten_shapes.specs.declared.fault.Fault.TheVariants.{NotTaken}
use Rattle.vg_flatten_shapes.specs.declared.open.Open.{Open}
use Rattle.vg_flatten_shapes.specs.declared.open.Truth.{Truth}
use Rattle.vg_flatten_shapes.specs.declared.piece.Piece.{Piece}
use Rattle.vg_flatten_shapes.specs.Shapes.{Shape, empty, is_empty}
use Rattle.vg_flatten_shapes.specs.Blocks.{Block, Repeat, open_code, loop_code}
use Rattle.vg_flatten_shapes.specs.Made.{Made, Gives, Refused}
use Rattle.vg_flatten_control.specs.Flat.{where_empty, repeated_body, repeated_next}
use Rattle.vg_flatten_shapes.specs.Laying.{IsPiece}

module _ (at : ℕ) (b : Block) (t : Truth) (before : List Open) (e : before ≡ open_code b at) where
  placed : (x y : Block) (bc nc code : List Open) (ba na : ℕ) → ba ≡ at + length before + 1 → na ≡ ba + length bc → bc ≡ open_code x ba → nc ≡ open_code y na
      → code ≡ loop_code t at before bc nc
      → code ≡ loop_code t at (open_code b at) (open_code x (at + length (open_code b at) + 1))
      (open_code y (at + length (open_code b at) + 1 + length (open_code x (at + length (open_code b at) + 1))))
  placed x y bc nc code ba na e1 e2 hb hn hc =
      let f1 : ba ≡ at + length (open_code b at) + 1 = e1 ∙ ap (λ z. at + length z + 1) e in
      let g1 = hb ∙ ap (open_code x) f1 in
      let f2 : na ≡ at + length (open_code b at) + 1 + length (open_code x (at + length (open_code b at) + 1)) = e2 ∙ ap (λ z. z + length bc) f1
      ∙ ap (λ z. at + length (open_code b at) + 1 + length z) g1 in
      let g2 = hn ∙ ap (open_code y) f2 in
      hc ∙ ap (λ z. loop_code t at z bc nc) e ∙ ap (λ z. loop_code t at (open_code b at) z nc) g1
      ∙ ap (λ z. loop_code t at (open_code b at) (open_code x (at + length (open_code b at) + 1)) z) g2

  pub loop_laid : (made_body made_next : Made) (body next : Piece) (code : List Open) (s : Shape) (ba na : ℕ) (c d : Bool) → ba ≡ at + length before + 1
      → na ≡ ba + length body.code → IsPiece body ba made_body → c ≡ is_empty body.homes → c ≡ true → IsPiece next na made_next
      → d ≡ is_empty next.homes → d ≡ true → code ≡ loop_code t at before body.code next.code → s ≡ empty
      → IsPiece (record { code = code; homes = s }) at (repeated_body b t made_body made_next)
  loop_laid (Refused why) mn body next code s ba na c d e1 e2 hb ec nc hn ed nd hc hs = absurd hb
  loop_laid (Gives x s1) (Refused why) body next code s ba na c d e1 e2 hb ec nc hn ed nd hc hs = absurd hn
  loop_laid (Gives x s1) (Gives y s2) body next code s ba na c d e1 e2 hb ec nc hn ed nd hc hs =
      subst (λ z. IsPiece (record { code = code; homes = s }) at (if z then (if is_empty s2 then Gives
      (Repeat b t x y) empty else Refused NotTaken) else Refused NotTaken))
      (sym (sym (ap is_empty hb.1) ∙ sym ec ∙ nc))
      (subst (λ z. IsPiece (record { code = code; homes = s }) at (if z then Gives (Repeat b t x y) empty else Refused NotTaken))
      (sym (sym (ap is_empty hn.1) ∙ sym ed ∙ nd)) (placed x y body.code next.code code ba na e1 e2 hb.0 hn.0 hc, hs))
