-- What is put of so many procedures, and one procedure more.
use Rattle.std.specs.Prelude.{ℕ, suc, ◌+◌, List, [], ◌∷◌, ◌++◌, length, Some}
use Rattle.std.proofs.Common.{◌≡◌, sym, ap, ap₂, ◌∙◌, subst, arith}
use Rattle.std.proofs.lemmas.List.{append_assoc}
use Rattle.avr_instr.specs.declared.instr.Instr.{Instr as Avr}
use Rattle.avr_isa.specs.Standing.{widths}
use Rattle.avr_isa.proofs.Standing.{widths-append}
use Rattle.vg_codes.specs.declared.case.Case.{Case}
use Rattle.vg_lin.specs.declared.instr.Instr.{Instr}
use Rattle.vg_lin.specs.Program.{Procedure, Program}
use Rattle.vg_templates.specs.Layouts.{Layout}
use Rattle.vg_templates.specs.Linkage.{prologue}
use Rattle.vg_templates.specs.Framed.{framed}
use Rattle.vg_put_operations.specs.Coded.{code_from}
use Rattle.vg_select.specs.declared.leading.Leading.{Leading as Held}
use Rattle.vg_select.specs.Selected.{Leading, with_codes}
use Rattle.vg_put_procedures.specs.Emitted.{leading_in, body_code, place_of, places_upto}
use Rattle.vg_put_programs.specs.declared.placed.Placed.{Placed}
use Rattle.vg_put_programs.specs.Programs.{places_at, Sites, sites, leads_by, Emission, piece_of, placed_of, procedure_in, sites_at, piece_at}
use Rattle.vg_put_programs.specs.Programs.{pieces_upto, placed_at, placed_upto}

pub record Done (e : Emission) (first : ℕ) (before : List Avr) (k : ℕ) (code : List Avr) (placed : List Placed) (end : ℕ) : Type 0 where
  pub code_is : code ≡ before ++ pieces_upto e k
  pub placed_are : placed ≡ placed_upto e first k
  pub end_is : end ≡ first + widths (pieces_upto e k)

module _ (entry : ℕ) (x : Sites) (ds : List (List Case)) where
  abbrev p : Program
  p = with_codes (code_from x.codes) ds

  abbrev placed_by : Layout → (leads : ℕ → Leading) → List Instr → Placed
  placed_by l leads is =
      record {
        entry = entry;
        places = places_upto l p leads is (entry + widths (prologue l)) (length is);
        end = entry + widths (prologue l ++ body_code l p leads is);
      }

  -- what stands of one procedure, by its layout and by where its instructions lead
  pub one_placed : (m : Procedure) (l : Layout) (is : List Instr) (given leadings : List Held) (none begins : List ℕ) (end : ℕ)
      → is ≡ m.code → l ≡ framed m → leading_in given ≡ leads_by l x is → leadings ≡ given → none ≡ []
      → begins ≡ none ++ places_upto l p (leading_in leadings) is (entry + widths (prologue l)) (length is)
      → end ≡ place_of l p (leading_in leadings) is (entry + widths (prologue l)) (length is)
      → record { entry = entry; places = begins; end = end } ≡ placed_of entry x ds (Some m)
  one_placed m l is given leadings none begins end ei el eg es en eb ee =
      ap₂ (λ a b. record { entry = entry; places = a; end = b })
      (eb ∙ ap (λ z. z ++ places_upto l p (leading_in leadings) is (entry + widths (prologue l)) (length is)) en) (ee ∙ all_words)
      ∙ ap (λ f. placed_by l f is) (ap leading_in es ∙ eg)
      ∙ ap (λ k. placed_by k (leads_by k x is) is) el
      ∙ ap (λ z. placed_by (framed m) (leads_by (framed m) x z) z) ei
    where
      all_words : place_of l p (leading_in leadings) is (entry + widths (prologue l)) (length is)
          ≡ entry + widths (prologue l ++ body_code l p (leading_in leadings) is)
      all_words = let w = widths-append (prologue l) (body_code l p (leading_in leadings) is) in omega (arith, w)

  -- its code
  pub one_piece : (m : Procedure) (l : Layout) (is : List Instr) (given leadings : List Held) (code code' : List Avr) → is ≡ m.code
      → l ≡ framed m → leading_in given ≡ leads_by l x is → leadings ≡ given
      → code' ≡ code ++ (prologue l ++ body_code l p (leading_in leadings) is) → code' ≡ code ++ piece_of x ds (Some m)
  one_piece m l is given leadings code code' ei el eg es ec =
      ec ∙ ap (λ z. code ++ z) (
      ap (λ f. prologue l ++ body_code l p f is) (ap leading_in es ∙ eg) ∙ ap (λ k. prologue k ++ body_code k p (leads_by k x is) is) el
      ∙ ap (λ z. prologue (framed m) ++ body_code (framed m) p (leads_by (framed m) x z) z) ei)

pub done_next : (e : Emission) (first : ℕ) (before : List Avr) (k : ℕ) (code code' : List Avr) (placed placed' : List Placed) (end : ℕ) (m : Procedure)
    (gs ps : List ℕ) (one : Placed) → Done e first before k code placed end → procedure_in e k ≡ Some m → gs ≡ places_at e.guess k
    → ps ≡ places_at e.known k → code' ≡ code ++ piece_of (sites e.entries gs e.codes ps e.idle) e.dispatches (Some m)
    → one ≡ placed_of end (sites e.entries gs e.codes ps e.idle) e.dispatches (Some m) → placed' ≡ placed ++ one ∷ []
    → Done e first before (k + 1) code' placed' one.end
done_next e first before k code code' placed placed' end m gs ps one d p eg es ec eo ep =
    subst (λ n. Done e first before n code' placed' one.end) (let z : suc k ≡ k + 1 = omega arith in z) (
    record {
      code_is = ec ∙ ap (λ x. code ++ x) same ∙ ap (λ x. x ++ piece_at e k) d.code_is ∙ append_assoc before (pieces_upto e k) (piece_at e k);
      placed_are = ep ∙ ap (λ x. x ++ one ∷ []) d.placed_are ∙ ap (λ x. placed_upto e first k ++ x ∷ []) placed_is;
      end_is = ap (λ (x : Placed). x.end) eo ∙ ap (λ x. end + widths x) same ∙ ap (λ x. x + widths (piece_at e k)) d.end_is
          ∙ (let w = widths-append (pieces_upto e k) (piece_at e k) in omega (arith, w));
    })
  where
    there : sites e.entries gs e.codes ps e.idle ≡ sites_at e k
    there = ap₂ (λ g x. sites e.entries g e.codes x e.idle) eg es

    same : piece_of (sites e.entries gs e.codes ps e.idle) e.dispatches (Some m) ≡ piece_at e k
    same = ap₂ (λ x o. piece_of x e.dispatches o) there (sym p)

    placed_is : one ≡ placed_at e first k
    placed_is =
        eo ∙ ap₂ (λ n x. placed_of n x e.dispatches (Some m)) d.end_is there
        ∙ ap (placed_of (first + widths (pieces_upto e k)) (sites_at e k) e.dispatches) (sym p)
