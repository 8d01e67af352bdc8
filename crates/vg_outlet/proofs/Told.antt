-- What a sink holds behind several puts.
use Rattle.std.proofs.Common.{◌≡◌, ℕ, List, [], ◌++◌, length, take, drop, Option, Some, None, refl, sym, ap, ◌∙◌, append_assoc, append-nil}
use Rattle.std.proofs.Common.{take-append-drop}
use Rattle.std.proofs.Math.Seq.{take-append_seam}
use Rattle.vg_io.specs.Piece.{AppendsAll, AppendsFront}

-- no piece leaves a sink as it is
pub all_of_none : (a : Option (List ℕ)) → AppendsAll a a []
all_of_none None = refl
all_of_none (Some bytes) = ap Some (sym (append-nil bytes))

-- what a sink gained before and behind a moment
pub all_then_all : (a b c : Option (List ℕ)) (x y : List ℕ) → AppendsAll a b x → AppendsAll b c y → AppendsAll a c (x ++ y)
all_then_all None None c x y h k = k
all_then_all None (Some b) c x y h k = cc
all_then_all (Some a) None c x y h k = cc
all_then_all (Some a) (Some b) c x y h k =
    let e : b ≡ a ++ x = cc in
    k ∙ ap (λ l. Some (l ++ y)) e ∙ ap Some (append_assoc a x y)

-- a piece is a front of itself with more behind it
pub all_is_front : (a b : Option (List ℕ)) (x z : List ℕ) → AppendsAll a b x → AppendsFront a b (x ++ z)
all_is_front None b x z h = h
all_is_front (Some a) b x z h = (length x, h ∙ ap (λ l. Some (a ++ l)) (sym (take-append_seam x z)))

-- a front that is taken further
pub all_then_front : (a b c : Option (List ℕ)) (x y z : List ℕ) → AppendsAll a b x → AppendsFront b c y → AppendsFront a c (x ++ (y ++ z))
all_then_front None None c x y z h k = k
all_then_front None (Some b) c x y z h k = cc
all_then_front (Some a) None c x y z h k = cc
all_then_front (Some a) (Some b) c x y z h k =
    let e : b ≡ a ++ x = cc in
    let front = take k.0 y in
    let rest = drop k.0 y ++ z in
    let whole : x ++ (y ++ z) ≡ (x ++ front) ++ rest =
    ap (λ l. x ++ (l ++ z)) (sym (take-append-drop k.0 y)) ∙ ap (λ l. x ++ l) (append_assoc front (drop k.0 y) z) ∙ sym (append_assoc x front rest) in (
      length (x ++ front),
      k.1 ∙ ap (λ l. Some (l ++ front)) e ∙ ap Some (append_assoc a x front) ∙ ap (λ l. Some (a ++ l)) (sym (take-append_seam (x ++ front) rest))
          ∙ ap (λ l. Some (a ++ take (length (x ++ front)) l)) (sym whole),
    )
