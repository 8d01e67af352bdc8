-- What a sink holds behind several puts, and what an error that is handed on shows.
use Rattle.std.proofs.Common.{◌≡◌, ℕ, List, [], ◌++◌, length, take, drop, Option, Some, None, refl, sym, ap, ◌∙◌, append_assoc, append-nil}
use Rattle.std.proofs.Common.{take-append-drop, Result, Ok, Err}
use Rattle.std.specs.Prelude.{OnErr}
use Rattle.std.proofs.Math.Seq.{take-append_seam}
use Rattle.vg_io.specs.Piece.{AppendsAll, AppendsFront}

pub appends_nothing : (a : Option (List ℕ)) → AppendsAll a a []
appends_nothing None = refl
appends_nothing (Some bs) = ap Some (sym (append-nil bs))

pub appends_both : (a b c : Option (List ℕ)) (x y : List ℕ) → AppendsAll a b x → AppendsAll b c y → AppendsAll a c (x ++ y)
appends_both None None c x y h k = k
appends_both None (Some b) c x y h k = cc
appends_both (Some a) None c x y h k = cc
appends_both (Some a) (Some b) c x y h k =
    let e : b ≡ a ++ x = cc in
    k ∙ ap (λ l. Some (l ++ y)) e ∙ ap Some (append_assoc a x y)

-- all of x, and then a front of y, is a front of x, y and what is behind them
pub appends_front : (a b c : Option (List ℕ)) (x y z : List ℕ) → AppendsAll a b x → AppendsFront b c y → AppendsFront a c (x ++ (y ++ z))
appends_front None None c x y z h k = k
appends_front None (Some b) c x y z h k = cc
appends_front (Some a) None c x y z h k = cc
appends_front (Some a) (Some b) c x y z h k =
    let e : b ≡ a ++ x = cc in
    let front = x ++ take k.0 y in
    let whole : x ++ (y ++ z) ≡ front ++ (drop k.0 y ++ z) =
    ap (λ l. x ++ (l ++ z)) (sym (take-append-drop k.0 y)) ∙ ap (λ l. x ++ l) (append_assoc (take k.0 y) (drop k.0 y) z)
    ∙ sym (append_assoc x (take k.0 y) (drop k.0 y ++ z)) in (
      length front,
      k.1 ∙ ap (λ l. Some (l ++ take k.0 y)) e ∙ ap Some (append_assoc a x (take k.0 y))
          ∙ ap (λ l. Some (a ++ l)) (sym (take-append_seam front (drop k.0 y ++ z))) ∙ ap (λ l. Some (a ++ take (length front) l)) (sym whole),
    )

-- what holds of an error that is handed on
pub on_err : {A E : Type 0} (r : Result A E) (P : Type 0) → P → OnErr r P
on_err (Ok a) P p = tt
on_err (Err e) P p = p
