-- Operators before an operand, from the last to the first.
use Rattle.std.proofs.Common.{◌≡◌, ◌<◌, ◌&&◌, ℕ, zero, suc, Bool, true, false, List, [], ◌∷◌, ◌++◌, length, take, drop, get_or, Option, Some}
use Rattle.std.proofs.Common.{refl, sym, ap, ◌∙◌, subst, arith}
use Rattle.std.proofs.Math.Seq.{take-suc, take-length, drop-length}
use Rattle.vg_meaning.specs.Code.{Code, Nothing, Then, Do}
use Rattle.vg_syntax.specs.declared.kind.Kind.{Kind}
use Rattle.vg_syntax.specs.declared.kind.Kind.TheVariants as kind
use Rattle.vg_source.specs.Types.{StaticType}
use Rattle.vg_source.specs.Steps as source
use Rattle.vg_source.specs.Resolved.{IsValue, apply_all}
use Rattle.vg_source.specs.Resolved as resolved
use Rattle.vg_rules.specs.Operands.{takes_one, operand_keeps}
use Rattle.vg_core.specs.declared.types.CoreType.{CoreType}
use Rattle.vg_core.specs.declared.types.CoreType.TheVariants.{IntType, BoolType, RawType}
use Rattle.vg_core.specs.declared.operator.Prefix.{Prefix}
use Rattle.vg_core.specs.declared.operator.Prefix.TheVariants as prefix
use Rattle.vg_core.specs.declared.code.Code as held
use Rattle.vg_core.specs.declared.step.Step.TheVariants.{Apply}
use Rattle.vg_core.specs.HeldProgram.{code_of, code_row}
use Rattle.vg_core.specs.Naming.{named_code}
use Rattle.vg_core.specs.Typing.{negative, not_bool, complement, known, t_apply}
use Rattle.vg_types_tables.specs.declared.declared.Declared.{Declared}
use Rattle.vg_types_tables.specs.declared.locals.Locals.{Locals}
use Rattle.vg_types_tables.specs.declared.body.BodyKind.{BodyKind}
use Rattle.vg_types_tables.specs.declared.judged.Head.TheVariants.{Value}
use Rattle.vg_types_tables.specs.Views.{naming, type_view, code_view}
use Rattle.vg_types_tables.specs.Promises.{Leads}
use Rattle.vg_types_tables.specs.Codes.{in_front}
use Rattle.vg_types_tables.proofs.Rowing.{in_front_all, in_front_more}
use Rattle.vg_types_tables.proofs.Typed.{row_one_more}
use Rattle.vg_types_operators.specs.Prefixes.{IsPrefix, Applying}

-- the last of a row of operators is applied first
apply_last : (ks : List Kind) (k : Kind) (more : Code source.Step)
    → apply_all (ks ++ k ∷ []) more ≡ Then (Do (source.Apply (resolved.prefix_of k))) (apply_all ks more)
apply_last [] k more = refl
apply_last (j ∷ ks) k more = apply_last ks k (Then (Do (source.Apply (resolved.prefix_of j))) more)

no_both : (a : Bool) → (a && false) ≡ false
no_both true = refl
no_both false = refl

-- one operator that does not take the operand breaks the rule
pub one_fails : (ks : List Kind) (i : ℕ) (k n : Kind) (t : StaticType) → i < length ks → k ≡ get_or ks i n → takes_one k t ≡ false
    → operand_keeps ks (IsValue t) ≡ false
one_fails [] i k n t l e h = absurd (omega (arith, l))
one_fails (j ∷ ks) zero k n t l e h = ap (λ z. takes_one z t && operand_keeps ks (IsValue t)) (sym e) ∙ ap (λ z. z && operand_keeps ks (IsValue t)) h
one_fails (j ∷ ks) (suc i) k n t l e h = ap (λ z. takes_one j t && z) (one_fails ks i k n t (omega (arith, l)) e h) ∙ no_both (takes_one j t)

-- one more keeps it
one_more : (ks : List Kind) (i : ℕ) (k n : Kind) (t : StaticType) → i < length ks → k ≡ get_or ks i n → takes_one k t ≡ true
    → operand_keeps (drop (suc i) ks) (IsValue t) ≡ true → operand_keeps (drop i ks) (IsValue t) ≡ true
one_more [] i k n t l e h g = absurd (omega (arith, l))
one_more (j ∷ ks) zero k n t l e h g =
    ap (λ z. takes_one z t && operand_keeps ks (IsValue t)) (sym e) ∙ ap (λ z. z && operand_keeps ks (IsValue t)) h ∙ g
one_more (j ∷ ks) (suc i) k n t l e h g = one_more ks i k n t (omega (arith, l)) e h g

module _ (texts : List (List ℕ)) (d : Declared) where
  -- ---- one operator

  as_prefix : (k j : Kind) (t u : CoreType) (r : Option Prefix) → k ≡ j → t ≡ u → IsPrefix texts d j u r → IsPrefix texts d k t r
  as_prefix k j t u r ek et h = subst (λ z. IsPrefix texts d z t r) (sym ek) (subst (λ z. IsPrefix texts d j z r) (sym et) h)

  pub is_negative : (k : Kind) (t : CoreType) → k ≡ kind.Minus → t ≡ IntType → IsPrefix texts d k t (Some prefix.Negative)
  is_negative k t ek et = as_prefix k kind.Minus t IntType (Some prefix.Negative) ek et (refl, refl, negative)

  pub is_not : (k : Kind) (t : CoreType) → k ≡ kind.Not → t ≡ BoolType → IsPrefix texts d k t (Some prefix.Not)
  is_not k t ek et = as_prefix k kind.Not t BoolType (Some prefix.Not) ek et (refl, refl, not_bool)

  pub is_complement : (k : Kind) (t : CoreType) (n : ℕ) → k ≡ kind.Complement → t ≡ RawType n → IsPrefix texts d k t (Some prefix.Complement)
  is_complement k t n ek et = as_prefix k kind.Complement t (RawType n) (Some prefix.Complement) ek et (refl, refl, complement)

  -- ---- all of them

  module _ (b : BodyKind) (ls : Locals) (ks : List Kind) (t : CoreType) where
    pub begins : Applying texts d b ls ks t (length ks) []
    begins = record {
      within = omega arith;
      keeps = ap (λ z. operand_keeps z (IsValue (type_view texts d t))) (drop-length ks);
      stands = ap (λ z. apply_all z Nothing) (take-length ks);
      leads = λ o x s. refl;
    }

    pub goes_on : (n i : ℕ) (k w : Kind) (p : Prefix) (codes : List held.Code) → n ≡ suc i → k ≡ get_or ks i w → IsPrefix texts d k t (Some p)
        → Applying texts d b ls ks t n codes → Applying texts d b ls ks t i (codes ++ held.Do (Apply p t) ∷ [])
    goes_on n i k w p codes en ek (ht, hp, hs) a =
        let inside : i < length ks = let most = a.within in omega (arith, most, en) in record {
          within = omega (arith, inside);
          keeps = one_more ks i k w (type_view texts d t) inside ek ht
              (subst (λ z. operand_keeps (drop z ks) (IsValue (type_view texts d t)) ≡ true) en a.keeps);
          stands = in_front_more texts d codes (held.Do (Apply p t)) (apply_all (take i ks) Nothing)
              ∙ ap (λ z. in_front texts d codes (Then (Do (source.Apply z)) (apply_all (take i ks) Nothing))) hp
              ∙ ap (in_front texts d codes) (sym (apply_last (take i ks) k Nothing))
              ∙ ap (λ z. in_front texts d codes (apply_all (take i ks ++ z ∷ []) Nothing)) ek
              ∙ ap (λ z. in_front texts d codes (apply_all z Nothing)) (sym (take-suc ks i w inside))
              ∙ ap (λ z. in_front texts d codes (apply_all (take z ks) Nothing)) (sym en) ∙ a.stands;
          leads = λ o x s. row_one_more (known d.tables ls.declared o b.result) b.in_loop codes (held.Do (Apply p t)) (t ∷ x) (t ∷ x) (t ∷ x) (a.leads o x s)
              (t_apply hs);
        }

    pub all_kept : (codes : List held.Code) → Applying texts d b ls ks t 0 codes → operand_keeps ks (IsValue (type_view texts d t)) ≡ true
    all_kept codes a = a.keeps

    pub all_stand : (codes : List held.Code) (c : held.Code) → Applying texts d b ls ks t 0 codes → code_of c ≡ code_row codes
        → code_view texts d c ≡ apply_all ks Nothing
    all_stand codes c a e = ap (named_code (naming texts d) d.tables) e ∙ sym (in_front_all texts d codes) ∙ a.stands

    pub all_lead : (codes : List held.Code) (c : held.Code) → Applying texts d b ls ks t 0 codes → code_of c ≡ code_row codes
        → Leads d.tables b ls (Value t) (code_of c) (Value t)
    all_lead codes c a e = subst (λ z. Leads d.tables b ls (Value t) z (Value t)) (sym e) a.leads
