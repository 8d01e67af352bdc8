-- How far members are asked.
-- A row that begins with a member is taken apart (`breach_one`, by the four rules of a member); the names that were seen are those of the map. The record
-- `Membering` says that the rest, asked behind what was passed, breaks what all break: a member that keeps the rules leads to it again.
use Rattle.std.proofs.Common.{◌≡◌, ℕ, ◌+◌, ◌&&◌, not, Bool, true, false, List, [], ◌∷◌, Option, Some, None, is_some, refl, sym, ap, ◌∙◌, arith}
use Rattle.vg_syntax.specs.Tree.{Spot, Node, Then, FieldDecl, MethodDecl, ConstructorDecl}
use Rattle.vg_syntax.specs.Numbering.{count_nodes, numbered, with_id}
use Rattle.vg_tree.specs.declared.node.Node as held
use Rattle.vg_tree.specs.Held.{node_at, row_at}
use Rattle.vg_source.specs.Names.{Name}
use Rattle.vg_rules.specs.Breach.{Breach, asks, ◌or◌}
use Rattle.vg_rules.specs.Written.{type_keeps, param_types_keep}
use Rattle.vg_rules.specs.Signatures.{Home, params_differ, constructor_keeps, members_breach}
use Rattle.vg_types_views.specs.ByText.{found}
use Rattle.vg_types_signatures.specs.declared.members.Keeps.{Keeps}
use Rattle.vg_types_signatures.specs.declared.members.Passed.{Passed}
use Rattle.vg_types_signatures.specs.declared.members.Asked.{Asked as HeldAsked}
use Rattle.vg_types_signatures.specs.Asked.{Asked, asked_of, asked_view, broken_rule, with_member, no_members}
use Rattle.vg_types_signatures.proofs.Seen.{Sees, sees_none, sees_more}

-- ---- one member

-- the breach of a rule, where one is broken
abbrev on : Option ℕ → ℕ → Option Breach → Option Breach
on None i rest = rest
on (Some r) i rest = Some (record { rule = r; node = i })

abbrev all_kept : Keeps
all_kept = record { name = true; types = true; constructor = true; params = true }

abbrev the : Option Asked → Asked
the (Some a) = a
the None = record { keeps = all_kept; name = None }

abbrev seen_behind : Option Name → List Name → List Name
seen_behind (Some x) seen = x ∷ seen
seen_behind None seen = seen

abbrev made_behind : Option Name → Bool → Bool
made_behind (Some x) made = made
made_behind None made = true

abbrev breach_more : Node → Home → List Name → Bool → ℕ → Node → Asked → Option Breach
breach_more ds home seen made i rest a = on (broken_rule a.keeps) i (members_breach ds home (seen_behind a.name seen) (made_behind a.name made) rest)

four : (a b c d : Bool) (at : Spot) (i : ℕ) (rest : Option Breach)
    → asks a 6 (with_id i at) or asks b 8 (with_id i at) or asks c 9 (with_id i at) or asks d 11 (with_id i at) or rest
    ≡ on (broken_rule (record { name = a; types = b; constructor = c; params = d })) i rest
four true true true true at i rest = refl
four true true true false at i rest = refl
four true true false d at i rest = refl
four true false c d at i rest = refl
four false b c d at i rest = refl

breach_one : (ds : Node) (home : Home) (seen : List Name) (p : Passed) (i : ℕ) (m rest : Node) (a : Asked) → Sees seen p.names
    → asked_of ds home p m ≡ Some a
    → members_breach ds home seen p.constructor (Then (numbered i m) rest) ≡ breach_more ds home seen p.constructor i rest a
breach_one ds home seen p i (FieldDecl at x t e) rest a s h =
    ap (λ b. asks (not b) 6 (with_id i at) or asks (type_keeps ds t) 8 (with_id i at) or members_breach ds home (x ∷ seen) p.constructor rest) (s.same x)
    ∙ four (not (is_some (found x p.names))) (type_keeps ds t) true true at i (members_breach ds home (x ∷ seen) p.constructor rest)
    ∙ ap (λ o. breach_more ds home seen p.constructor i rest (the o)) h
breach_one ds home seen p i (MethodDecl at x ps t body) rest a s h =
    ap (λ b. asks (not b) 6 (with_id i at) or asks (param_types_keep ds ps && type_keeps ds t) 8 (with_id i at) or asks (params_differ ps) 11 (with_id i at)
    or members_breach ds home (x ∷ seen) p.constructor rest) (s.same x)
    ∙ four (not (is_some (found x p.names))) (param_types_keep ds ps && type_keeps ds t) true (params_differ ps) at i
    (members_breach ds home (x ∷ seen) p.constructor rest)
    ∙ ap (λ o. breach_more ds home seen p.constructor i rest (the o)) h
breach_one ds home seen p i (ConstructorDecl at ps calls args body) rest a s h =
    four (not p.constructor) (param_types_keep ds ps) (constructor_keeps home ps calls) (params_differ ps) at i (members_breach ds home seen true rest)
    ∙ ap (λ o. breach_more ds home seen p.constructor i rest (the o)) h
breach_one ds home seen p i _ rest a s h = cc

-- a name that keeps the rule is new
abbrev IsNew : Passed → Asked → Type 0
IsNew p a = (x : Name) → a.name ≡ Some x → a.keeps.name ≡ not (is_some (found x p.names))

some_is : {A : Type 0} {x y : A} → Some x ≡ Some y → x ≡ y
some_is e = cc

is_new : (ds : Node) (home : Home) (p : Passed) (m : Node) (a : Asked) → asked_of ds home p m ≡ Some a → IsNew p a
is_new ds home p (FieldDecl at x t e) a h y f =
    let k = some_is (ap (λ o. (the o).name) h ∙ f) in ap (λ o. (the o).keeps.name) (sym h) ∙ ap (λ z. not (is_some (found z p.names))) k
is_new ds home p (MethodDecl at x ps t body) a h y f =
    let k = some_is (ap (λ o. (the o).name) h ∙ f) in ap (λ o. (the o).keeps.name) (sym h) ∙ ap (λ z. not (is_some (found z p.names))) k
is_new ds home p (ConstructorDecl at ps calls args body) a h y f =
    let k : None ≡ Some y = ap (λ o. (the o).name) h ∙ f in cc
is_new ds home p _ a h y f = cc

name_kept : (k : Keeps) → broken_rule k ≡ None → k.name ≡ true
name_kept k e = by k.name e
  where
    by : (b : Bool) → broken_rule (record k { name = b }) ≡ None → b ≡ true
    by true h = refl
    by false h = cc

sees_on : (seen : List Name) (p q : Passed) (a : Asked) → Sees seen p.names → IsNew p a → broken_rule a.keeps ≡ None → q ≡ with_member a.name p
    → Sees (seen_behind a.name seen) q.names
sees_on seen p q a s n k e = by a.name refl
  where
    by : (o : Option Name) → a.name ≡ o → Sees (seen_behind o seen) q.names
    by (Some x) f = sees_more seen p.names q.names x tt s (sym (n x f) ∙ name_kept a.keeps k) (ap (λ z. z.names) e ∙ ap (λ o. (with_member o p).names) f)
    by None f = record { same = λ y. s.same y ∙ ap (λ z. is_some (found y z)) (sym (ap (λ z. z.names) e ∙ ap (λ o. (with_member o p).names) f)) }

made_on : (p q : Passed) (o : Option Name) → q ≡ with_member o p → made_behind o p.constructor ≡ q.constructor
made_on p q (Some x) e = ap (λ z. z.constructor) (sym e)
made_on p q None e = ap (λ z. z.constructor) (sym e)

-- ---- the row

-- with the rest, all members are asked
pub record Membering (ds : Node) (home : Home) (texts : List (List ℕ)) (all : List held.Node) (first : ℕ) (here : Passed) (next : ℕ) (rest : List held.Node)
    : Type 0 where
  pub seen : List Name
  pub sees : Sees seen here.names
  pub breach : members_breach ds home [] false (numbered first (row_at texts all))
      ≡ members_breach ds home seen here.constructor (numbered next (row_at texts rest))
  pub count : next + count_nodes (row_at [] rest) ≡ first + count_nodes (row_at [] all)

pub membering_starts : (ds : Node) (home : Home) (texts : List (List ℕ)) (all : List held.Node) (first : ℕ) (here : Passed) → here ≡ no_members
    → Membering ds home texts all first here first all
membering_starts ds home texts all first here e = record {
  seen = [];
  sees = sees_none here.names (ap (λ p. p.names) e);
  breach = ap (λ p. members_breach ds home [] p.constructor (numbered first (row_at texts all))) (sym e);
  count = refl;
}

abbrev behind : List (List ℕ) → ℕ → held.Node → List held.Node → Node
behind texts next d rest = numbered (next + count_nodes (node_at texts d)) (row_at texts rest)

-- a member that breaks a rule
pub member_broken : (ds : Node) (home : Home) (texts : List (List ℕ)) (all : List held.Node) (first : ℕ) (here : Passed) (next : ℕ) (d : held.Node)
    (rest : List held.Node) (a : HeldAsked) (r : ℕ) → Membering ds home texts all first here next (d ∷ rest)
    → asked_of ds home here (node_at texts d) ≡ Some (asked_view texts a) → Some r ≡ broken_rule a.keeps
    → members_breach ds home [] false (numbered first (row_at texts all)) ≡ Some (record { rule = r; node = next })
member_broken ds home texts all first here next d rest a r p k f =
    p.breach ∙ breach_one ds home p.seen here next (node_at texts d) (behind texts next d rest) (asked_view texts a) p.sees k
    ∙ ap (λ o. on o next (members_breach ds home (seen_behind (asked_view texts a).name p.seen) (made_behind (asked_view texts a).name here.constructor)
    (behind texts next d rest))) (sym f)

-- a member that keeps them
pub member_kept : (ds : Node) (home : Home) (texts : List (List ℕ)) (all : List held.Node) (first : ℕ) (here there : Passed) (next after : ℕ) (d : held.Node)
    (rest : List held.Node) (a : HeldAsked) → Membering ds home texts all first here next (d ∷ rest)
    → asked_of ds home here (node_at texts d) ≡ Some (asked_view texts a) → None ≡ broken_rule a.keeps
    → there ≡ with_member (asked_view texts a).name here → ((ts : List (List ℕ)) → after ≡ next + count_nodes (node_at ts d))
    → Membering ds home texts all first there after rest
member_kept ds home texts all first here there next after d rest a p k f t n =
    let c = p.count in
    let m = n [] in
    record {
      seen = seen_behind (asked_view texts a).name p.seen;
      sees = sees_on p.seen here there (asked_view texts a) p.sees (is_new ds home here (node_at texts d) (asked_view texts a) k) (sym f) t;
      breach = p.breach ∙ breach_one ds home p.seen here next (node_at texts d) (behind texts next d rest) (asked_view texts a) p.sees k
          ∙ ap (λ o. on o next (members_breach ds home (seen_behind (asked_view texts a).name p.seen) (made_behind (asked_view texts a).name here.constructor)
          (behind texts next d rest))) (sym f)
          ∙ ap (λ b. members_breach ds home (seen_behind (asked_view texts a).name p.seen) b (behind texts next d rest))
          (made_on here there (asked_view texts a).name t)
          ∙ ap (λ i. members_breach ds home (seen_behind (asked_view texts a).name p.seen) there.constructor (numbered i (row_at texts rest))) (sym (n texts));
      count = omega (arith, c, m);
    }
