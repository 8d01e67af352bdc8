-- Code whose steps have other names.
use Rattle.std.proofs.Common.{◌+◌, ℕ, Bool, true, inl, inr, ap, ◌∙◌}
use Rattle.vg_meaning.specs.Code.{Code, Nothing, Then, Do, If, Loop, Break, Continue, Return, replaced}
use Rattle.vg_code_counts.specs.Counted.{Measures, Counts, Counted, AreAlike}
use Rattle.vg_code_counts.specs.Each.{EachStep}

abbrev named : {P Q : Type 0} → (P → Q) → Code P → Code Q
named f c = replaced (λ p. Do (f p)) c

module _ {P Q : Type 0} (k : Measures P) (j : Measures Q) (f : P → Q) (alike : AreAlike k j f) where
  step_renamed : (most below : ℕ) (p : P) (x y : ℕ) → Counts j most below (f p) x y → Counts k most below p x y
  step_renamed most below p x y h =
      record {
        rest = h.rest;
        before = h.before ∙ ap (λ z. z + h.rest) (alike.takes p);
        behind = h.behind ∙ ap (λ z. z + h.rest) (alike.leaves p);
        room = h.room;
        alone = λ s. h.alone (alike.sets p s);
      }

  code_renamed : (most : ℕ) (c : Code P) (looped : Bool) (below x y : ℕ) → Counted j most looped below (named f c) x y
      → Counted k most looped below c x y
  code_renamed most Nothing looped below x y h = h
  code_renamed most (Then a b) looped below x y (z, g, h) =
      (z, code_renamed most a looped below x z g, code_renamed most b looped below z y h)
  code_renamed most (Do p) looped below x y h = step_renamed most below p x y h
  code_renamed most (If a b) looped below x y (z, e, r, inl (u, v, g, h)) =
      (z, e, r, inl (u, v, code_renamed most a looped 0 0 0 g, code_renamed most b looped 0 0 0 h))
  code_renamed most (If a b) looped below x y (z, e, r, inr (u, g, h)) =
      (z, e, r, inr (u, code_renamed most a looped (below + z) 0 1 g, code_renamed most b looped (below + z) 0 1 h))
  code_renamed most (Loop c body next) looped below x y (u, v, g, h, i) =
      (u, v, code_renamed most c looped 0 0 1 g, code_renamed most body true 0 0 0 h, code_renamed most next looped 0 0 0 i)
  code_renamed most Break looped below x y h = h
  code_renamed most Continue looped below x y h = h
  code_renamed most Return looped below x y h = h

pub counted_renamed : {P Q : Type 0} (k : Measures P) (j : Measures Q) (f : P → Q) → AreAlike k j f
    → (c : Code P) (most : ℕ) (looped : Bool) (below x y : ℕ) → Counted j most looped below (replaced (λ p. Do (f p)) c) x y
    → Counted k most looped below c x y
counted_renamed k j f alike c most looped below x y h = code_renamed k j f alike most c looped below x y h

pub each_renamed : {P Q : Type 0} (f : P → Q) (R : Q → Type 0) (c : Code P) → EachStep R (replaced (λ p. Do (f p)) c)
    → EachStep (λ p. R (f p)) c
each_renamed f R Nothing h = tt
each_renamed f R (Then a b) (g, h) = (each_renamed f R a g, each_renamed f R b h)
each_renamed f R (Do p) h = h
each_renamed f R (If a b) (g, h) = (each_renamed f R a g, each_renamed f R b h)
each_renamed f R (Loop c body next) (g, h, i) = (each_renamed f R c g, each_renamed f R body h, each_renamed f R next i)
each_renamed f R Break h = tt
each_renamed f R Continue h = tt
each_renamed f R Return h = tt
