-- One line after the other.
use Rattle.std.proofs.Common.{◌≡◌, ℕ, ◌<◌, List, [], ◌++◌, Option, Some, None, refl, sym, ap, subst, ◌∙◌, append_assoc}
use Rattle.std.specs.Prelude.{Result, Ok, Err, IfOk}
use Rattle.std.proofs.lemmas.Option.{same_Some, none-some}
use Rattle.vg_core.specs.declared.member.Member.{Member}
use Rattle.vg_core.specs.declared.program.Tables.{Tables}
use Rattle.vg_live.specs.declared.live_set.Reason.{Reason}
use Rattle.vg_live.specs.declared.live_set.LiveSet.{LiveSet}
use Rattle.vg_core.specs.declared.heap.Heap.{Heap}
use Rattle.vg_core.specs.Program.{Program}
use Rattle.vg_live.specs.Sets.{reason_of, IsBefore, IsLiveSet}
use Rattle.vg_report.specs.declared.why.Link.{Link}
use Rattle.vg_report.specs.Texts.{reason_line, dead_line}
use Rattle.vg_report.specs.Chains.{Falls, Chain, last, more, IsWhy, live, dead, IsNext}

-- what follows from an answer
pub if_ok : {A E : Type 0} {P Q : A → Type 0} (r : Result A E) → ((a : A) → P a → Q a) → IfOk r P → IfOk r Q
if_ok (Ok a) f x = f a x
if_ok (Err e) f x = x

-- the lines so far, and then the chain of the member at hand
pub record Walks (texts : List (List ℕ)) (t : Tables) (s : LiveSet) (first : Member) (text : List ℕ) (link : Link) : Type 0 where
  pub kept : reason_of s link.member ≡ Some link.reason
  pub rest : (lines : List ℕ) → Chain texts t s link.member lines → Chain texts t s first (text ++ lines)

pub walks_first : (texts : List (List ℕ)) (t : Tables) (s : LiveSet) (link : Link) → reason_of s link.member ≡ Some link.reason
    → Walks texts t s link.member [] link
walks_first texts t s link e = record { kept = e; rest = λ lines c. c }

pub walks_more : (texts : List (List ℕ)) (t : Tables) (s : LiveSet) (first : Member) (text new : List ℕ) (link next : Link)
    → new ≡ text ++ reason_line texts t link.member link.reason → IsNext s link.reason next → Walks texts t s first text link → Walks texts t s first new next
walks_more texts t s first text new link next e n w = record {
  kept = n.kept;
  rest = λ lines c. subst (Chain texts t s first)
      (sym (append_assoc text (reason_line texts t link.member link.reason) lines) ∙ ap (λ z. z ++ lines) (sym e))
      (w.rest (reason_line texts t link.member link.reason ++ lines) (more link.reason next.member w.kept n.from_is c));
}

pub walks_last : (texts : List (List ℕ)) (t : Tables) (s : LiveSet) (first : Member) (text new : List ℕ) (link : Link)
    → new ≡ text ++ reason_line texts t link.member link.reason → link.reason.from ≡ None → Walks texts t s first text link → Chain texts t s first new
walks_last texts t s first text new link e n w =
    subst (Chain texts t s first) (sym e) (w.rest (reason_line texts t link.member link.reason) (last link.reason w.kept n))

-- the next reason has a lower rank
pub next_is : (s : LiveSet) (link : Link) (x : Member) (r : Reason) → Falls s → reason_of s link.member ≡ Some link.reason → link.reason.from ≡ Some x
    → reason_of s x ≡ Some r → IsNext s link.reason (record { member = x; reason = r })
next_is s link x r f k e g =
    record { from_is = e; kept = g; lower = by' (subst (IsBefore s link.reason.rank) e (f link.member link.reason k)) }
  where
    by' : (q : Reason) × (reason_of s x ≡ Some q) × (q.rank < link.reason.rank) → r.rank < link.reason.rank
    by' (q, h, lt) = subst (λ z. z.rank < link.reason.rank) (same_Some q r (sym h ∙ g)) lt

pub next_kept : (s : LiveSet) (link : Link) (x : Member) → Falls s → reason_of s link.member ≡ Some link.reason → link.reason.from ≡ Some x
    → reason_of s x ≡ None → ⊥
next_kept s link x f k e g = by' (subst (IsBefore s link.reason.rank) e (f link.member link.reason k))
  where
    by' : (q : Reason) × (reason_of s x ≡ Some q) × (q.rank < link.reason.rank) → ⊥
    by' (q, h, lt) = none-some q (sym g ∙ h)

-- in the live set the ranks fall
pub live_falls : (p : Program) (h : Heap) (s : LiveSet) → IsLiveSet p h s → Falls s
live_falls p h s l y r e = (l.reasons y r e).1
