-- Rows of parses: two as one, and one cut in two.
use Rattle.std.proofs.Common.{◌≡◌, List, [], ◌∷◌, ◌++◌, refl, sym, ap, ◌∙◌, append_assoc}
use Rattle.vg_syntax.specs.declared.grammar.Symbol.{Symbol}
use Rattle.vg_syntax.specs.declared.grammar.Symbol.TheVariants.{Sign, Use}
use Rattle.vg_syntax.specs.Parses.{Parse, Nil, Tok, Sub, leaves, Fits}

abbrev pub join : Parse → Parse → Parse
join Nil q = q
join (Tok t p) q = Tok t (join p q)
join (Sub n a kids p) q = Sub n a kids (join p q)

pub leaves_join : (p q : Parse) → leaves (join p q) ≡ leaves p ++ leaves q
leaves_join Nil q = refl
leaves_join (Tok t p) q = ap (λ l. t ∷ l) (leaves_join p q)
leaves_join (Sub n a kids p) q = ap (λ l. leaves kids ++ l) (leaves_join p q) ∙ sym (append_assoc (leaves kids) (leaves p) (leaves q))

pub fits_join : (p q : Parse) (l s : List Symbol) → Fits p l → Fits q s → Fits (join p q) (l ++ s)
fits_join Nil q [] s h k = k
fits_join Nil q (x ∷ l) s h k = absurd h
fits_join (Tok t p) q [] s h k = absurd h
fits_join (Tok t p) q (Sign x ∷ l) s h k = (h.0, fits_join p q l s h.1 k)
fits_join (Tok t p) q (Use n ∷ l) s h k = absurd h
fits_join (Sub n a kids p) q [] s h k = absurd h
fits_join (Sub n a kids p) q (Sign x ∷ l) s h k = absurd h
fits_join (Sub n a kids p) q (Use m ∷ l) s h k = (h.0, h.1, h.2, h.3, fits_join p q l s h.4 k)

abbrev pub Cut : Parse → List Symbol → List Symbol → Type 0
Cut p l s = (a : Parse) × (b : Parse) × Fits a l × Fits b s × (leaves p ≡ leaves a ++ leaves b)

pub cut : (p : Parse) (l s : List Symbol) → Fits p (l ++ s) → Cut p l s
cut p [] s h = (Nil, p, tt, h, refl)
cut Nil (x ∷ l) s h = absurd h
cut (Tok t p) (Sign k ∷ l) s h = let c = cut p l s h.1 in (Tok t c.0, c.1, (h.0, c.2), c.3, ap (λ r. t ∷ r) c.4)
cut (Tok t p) (Use n ∷ l) s h = absurd h
cut (Sub n a kids p) (Sign k ∷ l) s h = absurd h
cut (Sub n a kids p) (Use m ∷ l) s h =
    let c = cut p l s h.4 in
    (Sub n a kids c.0, c.1, (h.0, h.1, h.2, h.3, c.2), c.3, ap (λ r. leaves kids ++ r) c.4 ∙ sym (append_assoc (leaves kids) (leaves c.0) (leaves c.1)))
