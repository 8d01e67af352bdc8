-- Lines that are put while a trace grows.
use Rattle.std.proofs.Common.{◌≡◌, ℕ, ◌+◌, ◌-◌, ◌≤◌, List, ◌++◌, length, take, drop, Option, sym, ap, ◌∙◌, subst, arith}
use Rattle.std.proofs.Common.{take-append-drop, append_assoc}
use Rattle.std.proofs.Math.Seq.{take-add}
use Rattle.std.proofs.lemmas.List.{take-append-le}
use Rattle.std.proofs.lemmas.Grind.{flat_map-append}
use Rattle.vg_io.specs.Piece.{AppendsAll, AppendsFront}
use Rattle.vg_meaning.specs.declared.event.Event.{Event}
use Rattle.vg_meaning_laws.specs.Grows.{Extends}
use Rattle.vg_script.specs.Traces.{event_line}
use Rattle.vg_outlet.specs.Lines.{lines}
use Rattle.vg_outlet.proofs.Told.{all_then_all, all_is_front, all_then_front}

lines_both : (x y : List Event) → lines (x ++ y) ≡ lines x ++ lines y
lines_both x y = flat_map-append event_line x y

-- the first of the lines of a trace, of which so far the first were put
front_stays : (put : ℕ) (t whole : List Event) → put ≤ length t → Extends t whole → take put whole ≡ take put t
front_stays put t whole h (more, e) = ap (take put) e ∙ take-append-le put t more h

more_of : (put now : ℕ) (t : List Event) → put ≤ now → take put t ++ take (now - put) (drop put t) ≡ take now t
more_of put now t h =
    let sum : put + (now - put) ≡ now = omega (arith, h) in
    sym (take-add put (now - put) t) ∙ ap (λ n. take n t) sum

-- the lines from this number up to the other, behind those of the first
pub puts_on : (put now : ℕ) (t whole : List Event) (a b c : Option (List ℕ)) → put ≤ now → now ≤ length t → Extends t whole
    → AppendsAll a b (lines (take put whole)) → AppendsAll b c (lines (take (now - put) (drop put t))) → AppendsAll a c (lines (take now whole))
puts_on put now t whole a b c le fits g k l =
    let h : put ≤ length t = omega (arith, le, fits) in
    let first : AppendsAll a b (lines (take put t)) = subst (λ es. AppendsAll a b (lines es)) (front_stays put t whole h g) k in
    let both : lines (take put t) ++ lines (take (now - put) (drop put t)) ≡ lines (take now whole) =
    sym (lines_both (take put t) (take (now - put) (drop put t))) ∙ ap lines (more_of put now t le ∙ sym (front_stays now t whole fits g)) in
    subst (AppendsAll a c) both (all_then_all a b c _ _ first l)

-- a front of them
pub puts_fail : (put now : ℕ) (t whole : List Event) (a b c : Option (List ℕ)) → put ≤ now → now ≤ length t → Extends t whole
    → AppendsAll a b (lines (take put whole)) → AppendsFront b c (lines (take (now - put) (drop put t))) → AppendsFront a c (lines whole)
puts_fail put now t whole a b c le fits g k l =
    let h : put ≤ length t = omega (arith, le, fits) in
    let first : AppendsAll a b (lines (take put t)) = subst (λ es. AppendsAll a b (lines es)) (front_stays put t whole h g) k in
    let chunk = take (now - put) (drop put t) in
    let parts : lines (take put t) ++ (lines chunk ++ lines (drop now whole)) ≡ lines whole =
    sym (append_assoc (lines (take put t)) (lines chunk) (lines (drop now whole)))
    ∙ ap (λ l. l ++ lines (drop now whole)) (sym (lines_both (take put t) chunk) ∙ ap lines (more_of put now t le ∙ sym (front_stays now t whole fits g)))
    ∙ sym (lines_both (take now whole) (drop now whole)) ∙ ap lines (take-append-drop now whole) in
    subst (AppendsFront a c) parts (all_then_front a b c (lines (take put t)) (lines chunk) (lines (drop now whole)) first l)

-- the first lines are a front of all
pub puts_front : (put : ℕ) (whole : List Event) (a b : Option (List ℕ)) → AppendsAll a b (lines (take put whole)) → AppendsFront a b (lines whole)
puts_front put whole a b k =
    subst (AppendsFront a b) (sym (lines_both (take put whole) (drop put whole)) ∙ ap lines (take-append-drop put whole))
    (all_is_front a b (lines (take put whole)) (lines (drop put whole)) k)
