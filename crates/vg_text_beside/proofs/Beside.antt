-- What packing needs of the typed program of a text.
use Rattle.std.proofs.Common.{◌≡◌, refl, sym, ap, ◌∙◌, arith, ℕ, zero, suc, ◌<◌, ◌≤◌, ◌^◌, true, List, [], ◌∷◌, length, map, Option, Some, None, slice_get}
use Rattle.vg_syntax.specs.Tree.{Node, Text}
use Rattle.vg_syntax.specs.Reads.{Reads}
use Rattle.vg_source.specs.Names.{Name}
use Rattle.vg_source.specs.Program.{declarations_of, source_of}
use Rattle.vg_rules.specs.Legal.{Legal}
use Rattle.vg_rules.specs.Refusal.{refusal_of}
use Rattle.vg_method_sizes.specs.Sizes.{Size, sizes}
use Rattle.vg_source_ranges.specs.Ranges as named
use Rattle.vg_source_ranges.specs.Routines.{HaveMembers}
use Rattle.vg_source_ranges.specs.Spelled.{AreSpelled}
use Rattle.vg_spelled.proofs.Texts.{reads_so}
use Rattle.vg_core.specs.declared.program.Field.{Field}
use Rattle.vg_core.specs.declared.program.Method.{Method}
use Rattle.vg_core.specs.declared.program.Target.TheVariants.{Run}
use Rattle.vg_core.specs.declared.step.Step.{Step}
use Rattle.vg_core.specs.declared.step.Step.TheVariants.{CallMethod, CallComponent}
use Rattle.vg_core.specs.Naming.{Naming, naming_of, named_type}
use Rattle.vg_core.specs.Naming as naming
use Rattle.vg_core.specs.Program.{Program, method_signature}
use Rattle.vg_renamed.specs.NamesTell.{NamesTell}
use Rattle.vg_written.specs.Written.{parts_of}
use Rattle.vg_live.specs.Uses.{steps_of}
use Rattle.vg_packing.specs.Allowed.{IsSmall}
use Rattle.vg_pack_bodies.specs.Procedures.{HaveFewParameters}
use Rattle.vg_packed.specs.Few.{HasFewArguments, HaveFewArguments}
use Rattle.vg_packed.specs.Ready.{HaveWideFields}
use Rattle.vg_text_limits.specs.Calls.{IsShortCall}
use Rattle.vg_text_limits.proofs.Limits as limits
use Rattle.vg_text_limits.proofs.Limits.{is_legal}
use Rattle.vg_text_limits.proofs.Parameters as parameters
use Rattle.vg_text_limits.proofs.FieldTypes.{fields_fit}
use Rattle.vg_text_limits.proofs.Calling.{calls_are_short}
use Rattle.vg_types_declared.specs.Apart.{have_members}
use Rattle.vg_types_named.specs.Programs.{IsProgramOf}
use Rattle.vg_packed.specs.Ranges.{HaveRanges}
use Rattle.vg_text_ranges.specs.Beside.{IsSafeBeside}
use Rattle.vg_text_ranges.proofs.Named.{declarations_only, small_type, wide_type, have_ranges}

-- a tree with a method is that of a text
of_text : (n : Naming) (p : Program) (tree : Node) (most : ℕ) → source_of tree ≡ naming.named n p → NamesTell n p → Legal tree
    → have_members (declarations_of tree) ≡ true → AreSpelled most tree → most < 2 ^ 31 → IsSafeBeside p → (sizes tree ≡ [] → ⊥) → HaveRanges p
of_text n p (Text at ds) most is told legal have w short beside some =
    have_ranges n p at ds most is told legal (declarations_only ds have) w.1 short beside
of_text n p _ most is told legal have w short beside some = absurd (some refl)

no_methods : (ms : List Method) → map (λ (m : Method). m.nodes) ms ≡ [] → (i : ℕ) (y : Method) → slice_get ms i ≡ Some y → ⊥
no_methods [] e i y q = grind (arith, q)
no_methods (m ∷ ms) e i y q = clash m.nodes (map (λ (z : Method). z.nodes) ms) e
  where
    clash : (x : ℕ) (xs : List ℕ) → x ∷ xs ≡ [] → ⊥
    clash x xs f = cc

few_of : (s : Step) → IsShortCall s → HasFewArguments s
few_of (CallMethod at c s count) h = let a = h in omega (arith, a)
few_of (CallComponent m count) h = let a = h in omega (arith, a)
few_of _ h = tt

module _ (texts : List Name) (tree : Node) (p : Program) (is : IsProgramOf texts tree p) (legal : refusal_of tree ≡ None) where
  abbrev names : Naming
  names = naming_of texts p.tables

  some_methods : sizes tree ≡ [] → ⊥
  some_methods e =
      let main = is.typed.main in
      no_methods p.tables.methods (is.nodes ∙ ap (map (λ (s : Size). s.nodes)) e) p.main main.method main.is

  pub few_methods : length p.tables.methods ≤ 2000
  few_methods = limits.few_methods tree p.tables legal is.nodes

  pub few_parameters : HaveFewParameters p.tables.methods
  few_parameters m y e =
      let h = parameters.few_parameters tree names p legal is.named is.told (Run m) _ (ap method_signature e) in omega (arith, h)

  pub few_arguments : HaveFewArguments p
  few_arguments m i s e = few_of s (calls_are_short tree names p legal is.named is.told is.typed is.called m i s e)

  module _ (bytes : List ℕ) (reads : Reads bytes tree) where
    spelled : AreSpelled (length bytes) tree
    spelled = reads_so bytes tree reads

    field_fits : (f : ℕ) (y : Field) → slice_get p.tables.fields f ≡ Some y
        → named.IsSmall (named_type names p.tables y.type_) × named.IsWide (named_type names p.tables y.type_)
    field_fits f y e =
        fields_fit texts tree (length bytes) p.tables legal (declarations_only (declarations_of tree) is.members) spelled (parts_of is.written) f y e

    beside : HaveFewArguments p → IsSafeBeside p
    beside few =
        record {
          signatures = is.called;
          fields = λ f y e. small_type names p y.type_ (field_fits f y e).0;
          wide = λ f y e. wide_type names p y.type_ (field_fits f y e).1;
          few_arguments = few;
        }

    pub ranges : length bytes < 2 ^ 31 → HaveFewArguments p → HaveRanges p
    ranges short few =
        of_text names p tree (length bytes) is.named is.told (is_legal tree legal) is.members spelled short (beside few) some_methods
