-- How far the program declaration is sought.
-- What is no program declaration is passed in each question (`Passes`); behind the one that is found there is no other, so the breach of all is its
-- breach (`one_program`). `Finding` says that all are the rest, from the node that comes next.
use Rattle.std.proofs.Common.{◌≡◌, ℕ, ◌+◌, ◌≤◌, ◌==◌, ◌&&◌, Bool, true, false, List, [], ◌∷◌, Option, Some, None, if◌then◌else◌, refl, sym, ap, ◌∙◌, arith}
use Rattle.vg_syntax.specs.Tree.{Spot, Node, Then, ProgramDecl}
use Rattle.vg_syntax.specs.Reads.{spot}
use Rattle.vg_syntax.specs.Numbering.{count_nodes, numbered, with_id}
use Rattle.vg_tree.specs.declared.node.Node as held
use Rattle.vg_tree.specs.Held.{text_at, node_at, nodes_at, arms_at, row_at}
use Rattle.vg_source.specs.Program.{entries_in}
use Rattle.vg_rules.specs.Breach.{Breach, asks, ◌or◌}
use Rattle.vg_rules.specs.Names.{programs}
use Rattle.vg_rules.specs.Entries.{mains, keys_keep, methods_breach, entries_breach}
use Rattle.vg_types_entries.specs.Entering.{program_at, program_breach, IsProgramAt}

-- ---- one declaration

-- what is no program declaration is passed
pub record Passes (n rest : Node) : Type 0 where
  pub breach : (ds : Node) → entries_breach ds (Then n rest) ≡ entries_breach ds rest
  pub entries : entries_in (Then n rest) ≡ entries_in rest
  pub programs_in : programs (Then n rest) ≡ programs rest

row_passes : (texts : List (List ℕ)) (i : ℕ) {m : _} (all : held.Row_of-Node m) (rest : Node) → Passes (numbered i (nodes_at texts all)) rest
row_passes texts i held.end_of-Node rest = record { breach = λ ds. refl; entries = refl; programs_in = refl }
row_passes texts i (held.more_of-Node n ns) rest = record { breach = λ ds. refl; entries = refl; programs_in = refl }

arms_pass : (texts : List (List ℕ)) (i : ℕ) {m : _} (all : held.Row_of-Node m) (rest : Node) → Passes (numbered i (arms_at texts all)) rest
arms_pass texts i held.end_of-Node rest = record { breach = λ ds. refl; entries = refl; programs_in = refl }
arms_pass texts i (held.more_of-Node (held.Pair' p c q b) ns) rest = record { breach = λ ds. refl; entries = refl; programs_in = refl }
arms_pass texts i (held.more_of-Node _ ns) rest = arms_pass texts i ns rest

passes : (texts : List (List ℕ)) (i : ℕ) (n : held.Node) (rest : Node) → program_at texts n ≡ None → Passes (numbered i (node_at texts n)) rest
passes texts i (held.ProgramDecl' place name p es) rest h = cc
passes texts i (held.Row' shape all) rest h = row_passes texts i all rest
passes texts i (held.Arms' shape all) rest h = arms_pass texts i all rest
passes texts i _ rest h = record { breach = λ ds. refl; entries = refl; programs_in = refl }

none_behind : (ds rest : Node) → programs rest ≡ 0 → entries_breach ds rest ≡ None
none_behind ds (Then (ProgramDecl at p es) rest) h = absurd (omega (arith, h))
none_behind ds (Then d rest) h = none_behind ds rest h
none_behind ds _ h = refl

or_none : (a : Option Breach) → a or None ≡ a
or_none (Some b) = refl
or_none None = refl

asked_at : (b : Bool) (at : Spot) (i : ℕ) (a : Option Breach)
    → a or asks b 3 (with_id i at) or None ≡ a or (if b then None else Some (record { rule = 3; node = i }))
asked_at true at i (Some x) = refl
asked_at true at i None = refl
asked_at false at i (Some x) = refl
asked_at false at i None = refl

one_program : (ds : Node) (i : ℕ) (at : Spot) (p : List ℕ) (es rest : Node) → programs (Then (ProgramDecl at p es) rest) ≡ 1
    → entries_breach ds (Then (ProgramDecl (with_id i at) p es) rest) ≡ program_breach ds i es
one_program ds i at p es rest h =
    ap (λ o. methods_breach ds es or asks ((mains es == 1) && keys_keep [] es) 3 (with_id i at) or o) (none_behind ds rest (omega (arith, h)))
    ∙ asked_at ((mains es == 1) && keys_keep [] es) at i (methods_breach ds es)

-- ---- all declarations

-- with the rest, all are sought
pub record Finding (all : List held.Node) (next : ℕ) (rest : List held.Node) : Type 0 where
  pub breach : (texts : List (List ℕ)) (ds : Node) → entries_breach ds (numbered 1 (row_at texts all)) ≡ entries_breach ds (numbered next (row_at texts rest))
  pub entries : (texts : List (List ℕ)) → entries_in (numbered 1 (row_at texts all)) ≡ entries_in (numbered next (row_at texts rest))
  pub programs_in : (texts : List (List ℕ)) → programs (numbered 1 (row_at texts all)) ≡ programs (numbered next (row_at texts rest))
  pub count : next + count_nodes (row_at [] rest) ≡ 1 + count_nodes (row_at [] all)

pub finding_starts : (all : List held.Node) → Finding all 1 all
finding_starts all = record { breach = λ texts ds. refl; entries = λ texts. refl; programs_in = λ texts. refl; count = refl }

abbrev behind : List (List ℕ) → ℕ → held.Node → List held.Node → Node
behind texts next d rest = numbered (next + count_nodes (node_at texts d)) (row_at texts rest)

pub finding_on : (all : List held.Node) (next after : ℕ) (n : held.Node) (rest : List held.Node) → Finding all next (n ∷ rest)
    → ((texts : List (List ℕ)) → None ≡ program_at texts n) → ((texts : List (List ℕ)) → after ≡ next + count_nodes (node_at texts n))
    → Finding all after rest
finding_on all next after n rest f e a =
    let c = f.count in
    let k = a [] in
    record {
      breach = λ texts ds.
          f.breach texts ds ∙ (passes texts next n (behind texts next n rest) (sym (e texts))).breach ds
          ∙ ap (λ i. entries_breach ds (numbered i (row_at texts rest))) (sym (a texts));
      entries = λ texts.
          f.entries texts ∙ (passes texts next n (behind texts next n rest) (sym (e texts))).entries
          ∙ ap (λ i. entries_in (numbered i (row_at texts rest))) (sym (a texts));
      programs_in = λ texts.
          f.programs_in texts ∙ (passes texts next n (behind texts next n rest) (sym (e texts))).programs_in
          ∙ ap (λ i. programs (numbered i (row_at texts rest))) (sym (a texts));
      count = omega (arith, c, k);
    }

some_is : {A : Type 0} (x y : A) → Some x ≡ Some y → x ≡ y
some_is x y e = cc

-- the declaration that is found
pub program_found : (all : List held.Node) (next : ℕ) (n es : held.Node) (rest : List held.Node) → Finding all next (n ∷ rest)
    → ((texts : List (List ℕ)) → Some (node_at texts es) ≡ program_at texts n) → IsProgramAt all next es
program_found all next (held.ProgramDecl' place name p row) es rest f h = record {
  breach = λ texts ds e.
      f.breach texts ds
      ∙ one_program ds next (spot place) (text_at texts name) (numbered (next + 1) (node_at texts row)) (behind texts next (held.ProgramDecl' place name p
      row) rest)
      (sym (f.programs_in texts) ∙ e)
      ∙ ap (λ z. program_breach ds next (numbered (next + 1) z)) (sym (some_is (node_at texts es) (node_at texts row) (h texts)));
  entries = λ texts. f.entries texts ∙ ap (numbered (next + 1)) (sym (some_is (node_at texts es) (node_at texts row) (h texts)));
}
program_found all next _ es rest f h = let k = h [] in cc

-- it ends before the others
pub program_within : (all : List held.Node) (next : ℕ) (n es : held.Node) (rest : List held.Node) → Finding all next (n ∷ rest)
    → ((texts : List (List ℕ)) → Some (node_at texts es) ≡ program_at texts n)
    → next + 1 + count_nodes (node_at [] es) ≤ 1 + count_nodes (row_at [] all)
program_within all next (held.ProgramDecl' place name p row) es rest f h =
    let c = f.count in
    let k = ap count_nodes (some_is (node_at [] es) (node_at [] row) (h [])) in
    omega (arith, c, k)
program_within all next _ es rest f h = let k = h [] in cc
