-- From a member under its number to what is answered to the bytes.
use Rattle.std.proofs.Common.{◌≡◌, ℕ, List, Some, None, Result, Ok, Err, sym, subst}
use Rattle.std.proofs.lemmas.Option.{slice_get_within}
use Rattle.vg_base.specs.declared.refusal.Refusal.{Refusal}
use Rattle.vg_base.specs.declared.refusal.Refusal.TheVariants as refusal
use Rattle.vg_source.specs.Steps.{Source}
use Rattle.vg_source.specs.Program.{source_of}
use Rattle.vg_tree_walks.specs.Whole.{tree_at}
use Rattle.vg_core.specs.declared.member.Member.{Member}
use Rattle.vg_core.specs.declared.member.Member.TheVariants.{Method, Field, Cell}
use Rattle.vg_core.specs.declared.program.Tables.{Tables}
use Rattle.vg_core.specs.Naming.{Naming, naming_of, named}
use Rattle.vg_core.specs.Program.{Program}
use Rattle.vg_core.specs.HeldProgram.{program_at}
use Rattle.vg_core.specs.Typing.{WellTyped}
use Rattle.vg_renamed.specs.NamesTell.{NamesTell}
use Rattle.vg_live.specs.Rules.{IsThere}
use Rattle.vg_live_source.specs.Asking.{member_of}
use Rattle.vg_live_source.specs.Chains as source_chains
use Rattle.vg_live_named.specs.Members.{named_member}
use Rattle.vg_why_named.specs.Owners.{IsDeclared}
use Rattle.vg_why_named.proofs.Chains.{why_over}
use Rattle.vg_report.specs.Chains.{Falls, IsWhy}
use Rattle.vg_lookup.specs.Lookup.{Finds}
use Rattle.vg_faults.specs.declared.fault.Fault.{Fault}
use Rattle.vg_faults.specs.Starting.{init_steps}
use Rattle.vg_alive.specs.declared.finding.Alive.{Alive}
use Rattle.vg_alive.specs.Answer.{IsAliveOf, named_start_heap}
use Rattle.vg_why.specs.Asked.{WhyIn}
use Rattle.vg_why.specs.Answer.{Answers, HasFault}
use Rattle.vg_why.specs.Mirrors.{Tells}

module _ (bytes word : List ℕ) (a : Alive) (is : IsAliveOf bytes init_steps a) where
  abbrev texts : List (List ℕ)
  texts = a.start.names

  abbrev t : Tables
  t = a.start.program.tables

  abbrev names : Naming
  names = naming_of texts t

  abbrev p : Program
  p = program_at a.start.program

  -- what holds of the program with names in place of numbers holds of that of the tree
  of_tree : (P : Source → Type 0) → P (named names p) → P (source_of (tree_at texts a.start.tree))
  of_tree P h = subst P (sym is.start.program.named) h

  -- a member that is declared is there
  there_is : (y : Member) → IsDeclared t y → IsThere p a.start.heap y
  there_is (Method m) lt = lt
  there_is (Field f) (x, found, owner) = slice_get_within t.fields f x found
  there_is (Cell k) h = absurd h

  -- the lines of the member of a word
  told_of : (y : Member) → Finds texts p word (Some y) → (lines : List ℕ) → IsWhy texts t a.live y lines → WhyIn bytes word lines
  told_of y (c, x, e, found, there) lines why = (
    record {
      tree = tree_at texts a.start.tree;
      heap = named_start_heap a.start;
      firm = is.firm;
      owner = c;
      name = x;
      written = e;
      member = named_member names y;
      declared = of_tree (λ q. member_of q c x ≡ Some (named_member names y)) found;
    },
    of_tree (λ q. source_chains.IsWhy q (named_start_heap a.start) (named_member names y) lines)
        (why_over texts p is.start.program.told is.start.program.typed a.start.heap is.start.typed.0 is.start.typed.1 a.live is.set y lines
        (there_is y there) why),
  )

  -- what is told of what starts is answered to the bytes
  pub told_is : (r : Result (List ℕ) (Refusal Fault)) → Tells a word r → Answers bytes word r
  told_is (Ok lines) (y, found, why) = told_of y found lines why
  told_is (Err (refusal.Fault why)) (e, found) =
      subst (λ w. HasFault w bytes word) (sym e)
      (tree_at texts a.start.tree, named_start_heap a.start, is.firm, λ c x written. of_tree (λ q. member_of q c x ≡ None) (found c x written))
  told_is (Err refusal.NoMemory) h = tt

  -- what the lines are made of
  pub names_tell : NamesTell names p
  names_tell = is.start.program.told

  pub well_typed : WellTyped p
  well_typed = is.start.program.typed

  -- the ranks of its reasons fall
  pub ranks_fall : Falls a.live
  ranks_fall y r e = (is.set.reasons y r e).1
