-- The chain of the kept reasons of a member is a chain under names.
use Rattle.std.proofs.Common.{◌≡◌, ℕ, suc, List, [], ◌∷◌, ◌++◌, map, Option, Some, None}
use Rattle.std.proofs.Common.{sym, ap, ◌∙◌, subst, arith}
use Rattle.std.specs.Prelude.{◌<◌}
use Rattle.vg_source.specs.Names.{Name}
use Rattle.vg_core.specs.declared.member.Member.{Member}
use Rattle.vg_core.specs.declared.heap.Heap.{Heap}
use Rattle.vg_core.specs.Program.{Program}
use Rattle.vg_core.specs.Heap.{Kind}
use Rattle.vg_core.specs.Naming.{naming_of, named_heap, named}
use Rattle.vg_core.specs.Typing.{WellTyped}
use Rattle.vg_sound.specs.Good.{TypedHeap}
use Rattle.vg_sound.proofs.Values.{the_same, none_some}
use Rattle.vg_renamed.specs.NamesTell.{NamesTell}
use Rattle.vg_live.specs.declared.live_set.Reason.{Reason}
use Rattle.vg_live.specs.declared.live_set.LiveSet.{LiveSet}
use Rattle.vg_live.specs.Sets.{reason_of, IsIn, IsBefore, IsLiveSet}
use Rattle.vg_live.specs.Rules.{IsThere, Rule, Live}
use Rattle.vg_live.specs.Rules as rules
use Rattle.vg_live_source.specs.Members as source_members
use Rattle.vg_live_source.specs.Rules as source_rules
use Rattle.vg_live_source.specs.Chains as source
use Rattle.vg_live_named.specs.Members.{named_member, named_one}
use Rattle.vg_live_named.proofs.Forth.{rule_forth, forth}
use Rattle.vg_live_named.proofs.Whole.{one_member, live_there, live_alike}
use Rattle.vg_report.specs.Texts.{reason_line}
use Rattle.vg_report.specs.Chains.{Chain, last, more, IsWhy}
use Rattle.vg_report.specs.Chains as report
use Rattle.vg_why_named.proofs.Texts.{line_same, dead_same}

module _ (texts : List Name) (p : Program) (tell : NamesTell (naming_of texts p.tables) p) (good : WellTyped p) (h : Heap) (κ : List Kind)
    (typed : TypedHeap p.tables κ h) (s : LiveSet) (set : IsLiveSet p h s) where
  abbrev under : Member → source_members.Member
  under y = named_member (naming_of texts p.tables) y

  abbrev under_one : Option Member → Option source_members.Member
  under_one o = named_one (naming_of texts p.tables) o

  abbrev ChainThere : Member → List Member → List ℕ → Type 0
  ChainThere y ms lines = source.Chain (named (naming_of texts p.tables) p) (named_heap (naming_of texts p.tables) p.tables h) (under y) (map under ms) lines

  -- members that are kept with ranks below n
  abbrev Ranked : ℕ → List Member → Type 0
  Ranked n [] = Unit {0}
  Ranked n (x ∷ xs) = IsBefore s n (Some x) × Ranked n xs

  raised : (m n : ℕ) → m < n → (xs : List Member) → Ranked m xs → Ranked n xs
  raised m n l [] a = tt
  raised m n l (x ∷ xs) ((r, e, b), a) = ((r, e, omega (arith, b, l)), raised m n l xs a)

  kept_live : (n : ℕ) (o : Option Member) → IsBefore s n o → Live p h o
  kept_live n None a = rules.none
  kept_live n (Some y) (r, e, l) = set.live y (r, e)

  kept_there : (y : Member) (r : Reason) → reason_of s y ≡ Some r → IsThere p h y
  kept_there y r e = live_there p h y (set.live y (r, e))

  -- a member of a rank that is higher than all of these is none of them
  other : (y x : Member) (r q : Reason) → reason_of s y ≡ Some r → reason_of s x ≡ Some q → q.rank < r.rank → under y ≡ under x → ⊥
  other y x r q e f l same =
      let one : y ≡ x = one_member (naming_of texts p.tables) p tell h y x (kept_there y r e) (kept_there x q f) same in
      let both : r ≡ q = the_same _ _ (sym e ∙ (ap (reason_of s) one ∙ f)) in
      let clash : q.rank ≡ r.rank = ap (λ (z : Reason). z.rank) (sym both) in
      absurd (omega (arith, l, clash))

  none_of : (y : Member) (r : Reason) → reason_of s y ≡ Some r → (xs : List Member) → Ranked r.rank xs → source.IsNoneOf (under y) (map under xs)
  none_of y r e [] a = tt
  none_of y r e (x ∷ xs) ((q, f, l), a) = (λ same. other y x r q e f l same, none_of y r e xs a)

  -- what the chain of a member stands for
  abbrev Stands : Member → Reason → List ℕ → Type 0
  Stands y r lines = (ms : List Member) × ChainThere y ms lines × Ranked (suc r.rank) ms

  rule_of : (y : Member) (r : Reason) (from : Option Member) → reason_of s y ≡ Some r → r.from ≡ from
      → source_rules.Rule (named (naming_of texts p.tables) p) (named_heap (naming_of texts p.tables) p.tables h) (under y) r.rule (under_one from)
      (under_one r.also)
  rule_of y r from e ef = subst (λ z. source_rules.Rule (named (naming_of texts p.tables) p) (named_heap (naming_of texts p.tables) p.tables h) (under y) r.rule
      (under_one z) (under_one r.also)) ef (by (set.reasons y r e))
    where
      by : Rule p h y r.rule r.from r.also × IsBefore s r.rank r.from × IsBefore s r.rank r.also
          → source_rules.Rule (named (naming_of texts p.tables) p) (named_heap (naming_of texts p.tables) p.tables h) (under y) r.rule (under_one r.from)
          (under_one r.also)
      by (rule, a, b) = rule_forth (naming_of texts p.tables) p tell good h κ typed y r.rule r.from r.also rule (kept_live r.rank r.from a)

  also_of : (y : Member) (r : Reason) → reason_of s y ≡ Some r
      → source_rules.Live (named (naming_of texts p.tables) p) (named_heap (naming_of texts p.tables) p.tables h) (under_one r.also)
  also_of y r e = forth (naming_of texts p.tables) p tell good h κ typed r.also (kept_live r.rank r.also (set.reasons y r e).2)

  before_of : (y x : Member) (r : Reason) → reason_of s y ≡ Some r → r.from ≡ Some x → IsBefore s r.rank (Some x)
  before_of y x r e ef = subst (IsBefore s r.rank) ef (set.reasons y r e).1

  itself : (y : Member) (r : Reason) → reason_of s y ≡ Some r → IsBefore s (suc r.rank) (Some y)
  itself y r e = (r, e, omega arith)

  last_over : (y : Member) (r : Reason) → reason_of s y ≡ Some r → r.from ≡ None → Stands y r (reason_line texts p.tables y r)
  last_over y r e ef = (
    y ∷ [],
    subst (ChainThere y (y ∷ [])) (sym (line_same texts p h y r None ef (kept_there y r e) tt))
        (source.last r.rule (rule_of y r None e ef) (also_of y r e)),
    (itself y r e, tt),
  )

  more_over : (y x : Member) (r q : Reason) (rest : List ℕ) → reason_of s y ≡ Some r → r.from ≡ Some x → reason_of s x ≡ Some q → q.rank < r.rank
      → Stands x q rest → Stands y r (reason_line texts p.tables y r ++ rest)
  more_over y x r q rest e ef f l (ms, chain, ranked) =
      let below : Ranked r.rank ms = lower ms ranked in (
        y ∷ ms,
        subst (λ z. ChainThere y (y ∷ ms) (z ++ rest)) (sym (line_same texts p h y r (Some x) ef (kept_there y r e) (kept_there x q f)))
            (source.more r.rule (under x) (rule_of y r (Some x) e ef) (also_of y r e) chain (none_of y r e ms below)),
        (itself y r e, raised r.rank (suc r.rank) (omega arith) ms below),
      )
    where
      lower : (xs : List Member) → Ranked (suc q.rank) xs → Ranked r.rank xs
      lower [] a = tt
      lower (z ∷ xs) ((o, g, b), a) = ((o, g, omega (arith, b, l)), lower xs a)

  chain_over : (y : Member) (lines : List ℕ) → Chain texts p.tables s y lines → (r : Reason) → reason_of s y ≡ Some r → Stands y r lines
  chain_over y _ (last r' e' ef) r e = subst (λ z. Stands y z (reason_line texts p.tables y r')) (the_same _ _ (sym e' ∙ e)) (last_over y r' e' ef)
  chain_over y _ (more r' x {rest} e' ef c) r e = by (before_of y x r' e' ef) (λ q f. chain_over x rest c q f)
    where
      by : IsBefore s r'.rank (Some x) → ((q : Reason) → reason_of s x ≡ Some q → Stands x q rest) → Stands y r (reason_line texts p.tables y r' ++ rest)
      by (q, f, l) go = subst (λ z. Stands y z (reason_line texts p.tables y r' ++ rest)) (the_same _ _ (sym e' ∙ e))
          (more_over y x r' q rest e' ef f l (go q f))

  -- the reason of a member that has a chain
  reason_there : (y : Member) (lines : List ℕ) → Chain texts p.tables s y lines → IsIn s y
  reason_there y _ (last r e ef) = (r, e)
  reason_there y _ (more r x e ef c) = (r, e)

  abbrev Why : Member → List ℕ → Type 0
  Why y lines = source.IsWhy (named (naming_of texts p.tables) p) (named_heap (naming_of texts p.tables) p.tables h) (under y) lines

  pub why_over : (y : Member) (lines : List ℕ) → IsThere p h y → IsWhy texts p.tables s y lines → Why y lines
  why_over y lines there (report.live c) = by (reason_there y lines c)
    where
      chained : (r : Reason) → Stands y r lines → Why y lines
      chained r (ms, chain, ranked) = source.live (map under ms) chain

      by : IsIn s y → Why y lines
      by (r, e) = chained r (chain_over y lines c r e)
  why_over y _ there (report.dead e) = subst (Why y) (sym (dead_same texts p h y there)) (source.dead not_live)
    where
      kept : IsIn s y → ⊥
      kept (r, f) = none_some r (sym e ∙ f)

      not_live : source_rules.Live (named (naming_of texts p.tables) p) (named_heap (naming_of texts p.tables) p.tables h) (Some (under y)) → ⊥
      not_live a = kept (set.all y (live_alike (naming_of texts p.tables) p tell good h κ typed y there a))
