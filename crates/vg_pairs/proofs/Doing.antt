-- Code without pairs of operators does what the code does.
use Rattle.std.proofs.Common.{◌≡◌, refl, sym, ap, subst, arith, true, Bool, List, Option, Some, None}
use Rattle.vg_meaning.specs.History.{Recorder}
use Rattle.vg_meaning.specs.World.{World}
use Rattle.vg_meaning.specs.Answer.{Signal, Breaks, Continues, Returns, Over, Answer, Piece, go_on}
use Rattle.vg_meaning.specs.Loops.{Test}
use Rattle.vg_meaning.specs.Code.{Code, Nothing, Then, Do, If, Loop, Break, Continue, Return, performed, replaced}
use Rattle.vg_meaning.specs.Shapes.{Shapes, Fits}
use Rattle.vg_meaning.specs.Same.{SameTest, Left, Inside}
use Rattle.vg_fair.specs.Fair.{Alike, gives, leaves, overs, wrong, AlikePiece}
use Rattle.vg_fair.proofs.Fair.{alike_then, alike_choose, alike_loop}
use Rattle.vg_core.specs.declared.types.CoreType.{CoreType}
use Rattle.vg_core.specs.declared.operator.Prefix.{Prefix}
use Rattle.vg_core.specs.declared.step.Step.{Step}
use Rattle.vg_core.specs.declared.step.Step.TheVariants.{Apply}
use Rattle.vg_pairs.specs.Pairs.{prefix_in, behind, paired, unpaired}

none_is : {A : Type 0} {B : Type 0} (a : A) → None ≡ Some a → B
none_is a e = absurd (grind (arith, e))

-- code that is one operator is that operator
pub prefix_is : (c : Code Step) (op : Prefix) (t : CoreType) → prefix_in c ≡ Some (op, t) → c ≡ Do (Apply op t)
prefix_is (Do (Apply a u)) op t e = ap (λ z. Do (Apply z.0 z.1)) (same (a, u) (op, t) e)
  where
    same : (x y : Prefix × CoreType) → Some x ≡ Some y → x ≡ y
    same x y e = cc
prefix_is _ op t e = none_is (op, t) e

module _ {Q S T K : Type 0} (r : Recorder K) (step : Step → Piece S K) (test : S → Test S) (step' : Q → Piece T K) (test' : T → Test T)
    (move : Step → Code Q) (k : Shapes Step (List CoreType)) (G : List CoreType → S → T → Type 0) (R : S → T → Type 0)
    (steps : (p : Step) (x y : List CoreType) → k.Takes p x y → AlikePiece (G x) (G y) (Left k G R) (step p) (performed r step' test' (move p)))
    (tests : (x y : List CoreType) → k.Truth x y → (s : S) (t : T) → G x s t → SameTest (G y) (test s) (test' t))
    (results : (x : List CoreType) → k.Result x → (s : S) (t : T) → G x s t → R s t)
    (twice : (op op' : Prefix) (t t' : CoreType) (x y z : List CoreType) → k.Takes (Apply op t) x y → k.Takes (Apply op' t') y z → (c : Code Q) (s : S) (t1 : T)
    (w : World K) → G x s t1
    → performed r step' test' (Then (move (Apply op t)) (Then (move (Apply op' t')) c)) t1 w ≡ performed r step' test' c t1 w) where
  inside : (why : Signal) (s : S) (t : T) → Left k G R why s t → Inside (G k.between) (Left k G R) why s t
  inside Breaks s t p = p
  inside Continues s t p = p
  inside Returns s t p = p
  inside (Over why) s t p = p

  into_loop : {a : Answer S K} {b : Answer T K} {J : S → T → Type 0} → Alike J (Left k G R) a b → Alike J (Inside (G k.between) (Left k G R)) a b
  into_loop (gives i p) = gives i p
  into_loop (leaves {why = why} {s = s} {t = t} i p) = leaves i (inside why s t p)
  into_loop overs = overs
  into_loop wrong = wrong

  -- from states of the one shape to those of the other, the first code and what stands for the second do the same
  abbrev Does : Code Step → Code Step → (x y : List CoreType) → Type 0
  Does c d x y = AlikePiece (G x) (G y) (Left k G R) (performed r step test c) (performed r step' test' (replaced move d))

  -- behind an operator that may wait
  does_behind : (l : Bool) (o : Option (Prefix × CoreType)) (c d : Code Step) → ((x y : List CoreType) → Fits k l c x y → Does c d x y)
      → (x y : List CoreType) → Fits k l (behind o c) x y → Does (behind o c) (behind o d) x y
  does_behind l None c d h x y f = h x y f
  does_behind l (Some (op, t)) c d h x y (z, ha, hb) = λ s t1 w i p. alike_then _ _ (steps (Apply op t) x z ha s t1 w i p) (h z y hb)

  does_paired : (l : Bool) (a b : Code Step) (o this : Option (Prefix × CoreType)) → prefix_in a ≡ this
      → ((x y : List CoreType) → Fits k l a x y → Does a (unpaired None a) x y)
      → ((o : Option (Prefix × CoreType)) (x y : List CoreType) → Fits k l (behind o b) x y → Does (behind o b) (unpaired o b) x y)
      → (x y : List CoreType) → Fits k l (behind o (Then a b)) x y
      → Does (behind o (Then a b)) (paired o this (unpaired None a) (λ this. unpaired this b)) x y
  does_paired l a b None None e ha hb x y (z, fa, fb) = λ s t w i p. alike_then _ _ (ha x z fa s t w i p) (hb None z y fb)
  does_paired l a b None (Some (op, t)) e ha hb x y (z, fa, fb) =
      let is = prefix_is a op t e in
      subst (λ c. Does (Then c b) (unpaired (Some (op, t)) b) x y) (sym is) (hb (Some (op, t)) x y (z, subst (λ c. Fits k l c x z) is fa, fb))
  does_paired l a b (Some (op, t)) None e ha hb x y (z, fo, (v, fa, fb)) =
      λ s t1 w i p. alike_then _ _ (steps (Apply op t) x z fo s t1 w i p) (λ s2 t2 w2 i2 p2. alike_then _ _ (ha z v fa s2 t2 w2 i2 p2) (hb None v y fb))
  does_paired l a b (Some (op, t)) (Some (op', t')) e ha hb x y (z, fo, (v, fa, fb)) =
      let is = prefix_is a op' t' e in
      subst (λ c. Does (Then (Do (Apply op t)) (Then c b)) (Then Nothing (unpaired None b)) x y) (sym is) (both (subst (λ c. Fits k l c z v) is fa))
    where
      both : k.Takes (Apply op' t') z v → Does (Then (Do (Apply op t)) (Then (Do (Apply op' t')) b)) (Then Nothing (unpaired None b)) x y
      both fa' s t1 w i p =
          subst (λ n. Alike (G y) (Left k G R) (performed r step test (Then (Do (Apply op t)) (Then (Do (Apply op' t')) b)) s w) n)
          (twice op op' t t' x z v fo fa' (replaced move (unpaired None b)) s t1 w p)
          (alike_then _ _ (steps (Apply op t) x z fo s t1 w i p)
          (λ s2 t2 w2 i2 p2. alike_then _ _ (steps (Apply op' t') z v fa' s2 t2 w2 i2 p2) (hb None v y fb)))

  -- where the pass is right for each step, what stands for code without pairs does what the code does
  pub does_unpaired : (l : Bool) (c : Code Step) (o : Option (Prefix × CoreType)) (x y : List CoreType) → Fits k l (behind o c) x y
      → Does (behind o c) (unpaired o c) x y
  does_unpaired l Nothing o x y f = does_behind l o Nothing Nothing (λ x y e s t w i p. gives i (subst (λ z. G z s t) e p)) x y f
  does_unpaired l (Then a b) o x y f =
      does_paired l a b o (prefix_in a) refl (λ x y h. does_unpaired l a None x y h) (λ o x y h. does_unpaired l b o x y h) x y f
  does_unpaired l (Do p) o x y f = does_behind l o (Do p) (Do p) (λ x y h. steps p x y h) x y f
  does_unpaired l (If a b) o x y f =
      does_behind l o (If a b) (If (unpaired None a) (unpaired None b)) (λ x y h s t w i p.
      alike_choose (test s) (test' t) _ _ _ _ (tests x h.0 h.1 s t p) (does_unpaired l a None h.0 y h.2) (does_unpaired l b None h.0 y h.3) s t w i) x y f
  does_unpaired l (Loop c body next) o x y f =
      does_behind l o (Loop c body next) (Loop (unpaired None c) (unpaired None body) (unpaired None next))
      (λ x y h s t w i p. looped x y h (does_unpaired l c None) (does_unpaired true body None) (does_unpaired l next None) s t w i p) x y f
    where
      looped : (x y : List CoreType) → Fits k l (Loop c body next) x y → ((x y : List CoreType) → Fits k l c x y → Does c (unpaired None c) x y)
          → ((x y : List CoreType) → Fits k true body x y → Does body (unpaired None body) x y)
          → ((x y : List CoreType) → Fits k l next x y → Does next (unpaired None next) x y)
          → Does (Loop c body next) (Loop (unpaired None c) (unpaired None body) (unpaired None next)) x y
      looped x y (ex, ey, z, hc, ht, hb, hn) dc db dn s t w i p =
          subst (λ v. Alike (G v) (Left k G R) (performed r step test (Loop c body next) s w)
          (performed r step' test' (replaced move (Loop (unpaired None c) (unpaired None body) (unpaired None next))) t w)) (sym ey)
          (alike_loop r _ _ _ _ _ _
          (λ f g h s1 t1 w1 i1 q. alike_then _ _ (dc k.between z hc s1 t1 w1 i1 q)
          (λ s2 t2 w2 i2 q2. alike_choose (test s2) (test' t2) f go_on g go_on (tests z k.between ht s2 t2 q2) h (λ s3 t3 w3 i3 v. gives i3 v) s2 t2 w2 i2))
          (λ s1 t1 w1 i1 q. into_loop (db k.between k.between hb s1 t1 w1 i1 q)) (dn k.between k.between hn) s t w i (subst (λ v. G v s t) ex p))
  does_unpaired l Break o x y f = does_behind l o Break Break (λ x y e s t w i p. leaves i (subst (λ z. G z s t) e.1 p)) x y f
  does_unpaired l Continue o x y f = does_behind l o Continue Continue (λ x y e s t w i p. leaves i (subst (λ z. G z s t) e.1 p)) x y f
  does_unpaired l Return o x y f = does_behind l o Return Return (λ x y h s t w i p. leaves i (results x h s t p)) x y f
