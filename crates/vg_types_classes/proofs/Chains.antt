-- Walks over the classes above one another.
use Rattle.std.proofs.Common.{◌≡◌, ℕ, zero, suc, ◌+◌, ◌-◌, ◌<◌, ◌≤◌, ◌||◌, Bool, true, false, [], Option, Some, None, is_some, bytes_eq, not, ◌&&◌}
use Rattle.std.proofs.Common.{refl, sym, ap, ◌∙◌, arith}
use Rattle.vg_syntax.specs.Tree.{Node}
use Rattle.vg_syntax.specs.Classes.{class_named}
use Rattle.vg_source.specs.Names.{Name, is_among}
use Rattle.vg_source.specs.Declared.{chain_from, above_of, length_of}
use Rattle.vg_rules.specs.Names.{extends_keeps}
use Rattle.std.specs.Option.{option_map}

none_left : (n : ℕ) (ds : Node) (next : Option Name) → next ≡ None → chain_from n ds next ≡ []
none_left zero ds next e = refl
none_left (suc n) ds next e = ap (chain_from (suc n) ds) e

-- no class is left
pub chain_none : (n : ℕ) (ds : Node) (next : Option Name) (c : Name) (z : Bool) → next ≡ None → is_among (chain_from n ds next) c ≡ z → false ≡ z
chain_none n ds next c z e h = sym (ap (λ cs. is_among cs c) (none_left n ds next e)) ∙ h

-- all turns are made
pub chain_ends : (n i : ℕ) (ds : Node) (next : Option Name) (c : Name) (z : Bool) → n ≤ i → is_among (chain_from (n - i) ds next) c ≡ z → false ≡ z
chain_ends n i ds next c z l h = ap (λ k. is_among (chain_from k ds next) c) (let e : 0 ≡ n - i = omega arith in e) ∙ h

one_step : (n i : ℕ) (ds : Node) (next : Option Name) (x c : Name) → i < n → next ≡ Some x
    → is_among (chain_from (n - i) ds next) c ≡ (bytes_eq x c || is_among (chain_from (n - (i + 1)) ds (above_of (class_named ds x))) c)
one_step n i ds next x c l e =
    ap (λ k. is_among (chain_from k ds next) c) (let f : n - i ≡ suc (n - (i + 1)) = omega arith in f)
    ∙ ap (λ o. is_among (chain_from (suc (n - (i + 1))) ds o) c) e

-- the class is found
pub chain_found : (n i : ℕ) (ds : Node) (next : Option Name) (x c : Name) (z : Bool) → i < n → next ≡ Some x → bytes_eq x c ≡ true
    → is_among (chain_from (n - i) ds next) c ≡ z → true ≡ z
chain_found n i ds next x c z l e f h =
    sym (one_step n i ds next x c l e ∙ ap (λ b. b || is_among (chain_from (n - (i + 1)) ds (above_of (class_named ds x))) c) f) ∙ h

-- another class is passed
pub chain_on : (n i : ℕ) (ds : Node) (next after : Option Name) (x c : Name) (z : Bool) → i < n → next ≡ Some x → bytes_eq x c ≡ false
    → after ≡ above_of (class_named ds x) → is_among (chain_from (n - i) ds next) c ≡ z → is_among (chain_from (n - (i + 1)) ds after) c ≡ z
chain_on n i ds next after x c z l e f a h =
    ap (λ o. is_among (chain_from (n - (i + 1)) ds o) c) a
    ∙ sym (one_step n i ds next x c l e ∙ ap (λ b. b || is_among (chain_from (n - (i + 1)) ds (above_of (class_named ds x))) c) f) ∙ h

found_too : {A B C : Type 0} (f : A → C) (g : B → C) (a : Option A) (b : Option B) → option_map f a ≡ option_map g b → is_some a ≡ true → is_some b ≡ true
found_too f g (Some x) (Some y) e h = refl
found_too f g (Some x) None e h = cc
found_too f g None b e h = cc

-- a class that is there keeps the rule where it is not above itself
pub kept_above : {A : Type 0} (f : A → Option Name) (r : Option A) (ds : Node) (n : ℕ) (c x y z : Name) (u : Bool)
    → option_map f r ≡ option_map (λ k. k.above) (class_named ds y) → y ≡ x → is_some r ≡ true
    → u ≡ is_among (chain_from n ds (Some x)) z → z ≡ c → length_of ds ≡ n → not u ≡ extends_keeps ds c (Some x)
kept_above f r ds n c x y z u e g h i j k =
    ap not (i ∙ ap (is_among (chain_from n ds (Some x))) j ∙ ap (λ m. is_among (chain_from m ds (Some x)) c) (sym k))
    ∙ sym (ap (λ b. b && not (is_among (chain_from (length_of ds) ds (Some x)) c))
    (ap (λ w. is_some (class_named ds w)) (sym g) ∙ found_too f (λ k. k.above) r (class_named ds y) e h))
