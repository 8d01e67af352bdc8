-- The names that are told of methods are those of the methods of the text.
use Rattle.std.proofs.Common.{◌≡◌, refl, sym, ap, ◌∙◌, arith, ℕ, ◌<◌, List, [], ◌∷◌, ◌++◌, codes, length, map, Option, Some, None, option_map, slice_get}
use Rattle.std.specs.List.{AllByRecursion}
use Rattle.std.proofs.lemmas.List.{length-map}
use Rattle.std.proofs.lemmas.Option.{slice_get-map}
use Rattle.vg_syntax.specs.Tree.{Node}
use Rattle.vg_source.specs.Names.{Name}
use Rattle.vg_core.specs.declared.program.Class.{Class}
use Rattle.vg_core.specs.declared.program.Method.{Method}
use Rattle.vg_core.specs.declared.program.Owner.{Owner}
use Rattle.vg_core.specs.declared.program.Owner.TheVariants.{InClass, InComponent}
use Rattle.vg_core.specs.declared.program.Tables.{Tables}
use Rattle.vg_core.specs.Naming as naming
use Rattle.vg_report.specs.Texts as report
use Rattle.vg_calls_source.specs.Methods.{DeclaredMethod, method_numbered, method_text, methods_of, name_in}
use Rattle.vg_written.specs.Written.{AreWritten, named_method}
use Rattle.vg_live_named.proofs.Steps.{within}

same_text : (texts : List Name) (x : ℕ) → report.name_text texts x ≡ naming.text_at texts x
same_text texts x = by (slice_get texts x)
  where
    by : (o : Option Name) → report.text_in o ≡ naming.text_in o
    by (Some t) = refl
    by None = refl

same_owner : (texts : List Name) (p : Tables) (o : Owner) → report.owner_text texts p o ≡ naming.owner_name texts p o
same_owner texts p (InClass c) = by (slice_get p.classes c)
  where
    by : (o : Option Class) → report.class_text texts o ≡ naming.class_name texts o
    by (Some k) = same_text texts k.name
    by None = refl
same_owner texts p (InComponent k) = by (slice_get p.components k)
  where
    by : (o : Option ℕ) → report.component_text texts o ≡ naming.component_name texts o
    by (Some x) = same_text texts x
    by None = refl

module _ (texts : List Name) (text : Node) (p : Tables) (written : AreWritten texts text p) where
  abbrev told : ℕ → List ℕ
  told k = report.method_text texts p (slice_get p.methods k)

  method_told : (k : ℕ) (y : Method) → slice_get p.methods k ≡ Some y → told k ≡ method_text (method_numbered text k)
  method_told k y e =
      ap (report.method_text texts p) e
      ∙ ap (λ z. z ++ codes "." ++ report.name_text texts y.name) (same_owner texts p y.owner)
      ∙ ap (λ z. naming.owner_name texts p y.owner ++ codes "." ++ z) (same_text texts y.name)
      ∙ sym (ap (λ o. method_text (name_in o)) (ap (λ z. slice_get z k) (sym written.methods) ∙ slice_get-map (named_method texts p) p.methods k
      ∙ ap (option_map (named_method texts p)) e))

  count : length (methods_of text) ≡ length p.methods
  count = ap length (sym written.methods) ∙ length-map p.methods (named_method texts p)

  lower : (k a b : ℕ) → k < a → a ≡ b → k < b
  lower k a b h e = omega (arith, h, e)

  pub names_told : (ks : List ℕ) → AllByRecursion (λ k. k < length (methods_of text)) ks → map told ks ≡ map method_text (map (method_numbered text) ks)
  names_told [] h = refl
  names_told (k ∷ ks) (low, h) =
      let (y, e) = within p.methods k (lower k (length (methods_of text)) (length p.methods) low count) in
      ap (λ z. z ∷ map told ks) (method_told k y e) ∙ ap (λ z. method_text (method_numbered text k) ∷ z) (names_told ks h)
