-- A program of constants keeps all rules and has too many of nothing. What the names tell is put in place of each look-up, and the rest computes; rows go
-- by induction.
use Rattle.std.specs.Prelude.{ℕ, ◌+◌, ◌==◌, ◌&&◌, not, max, nat_le, Bool, true, false, List, [], ◌∷◌, length, Option, Some, None, is_some, bytes_eq}
use Rattle.std.specs.List.{AllByRecursion}
use Rattle.std.specs.Prelude.{flat_map, if◌then◌else◌}
use Rattle.std.proofs.Common.{◌≡◌, ◌⊎◌, inl, inr, refl, sym, ap, ◌∙◌, arith}
use Rattle.std.proofs.lemmas.Bool.{le-leb, ne_eqb}
use Rattle.vg_meaning.specs.Device.{IsDeviceAddress}
use Rattle.vg_syntax.specs.Hexadecimal.{hex_value}
use Rattle.vg_syntax.specs.Lexemes.{is_hexadecimal}
use Rattle.vg_syntax.specs.Tree.{Spot, Node, Nothing, Then, Block, MethodDecl, ComponentDecl, NoType}
use Rattle.vg_syntax.specs.Outline.{outline}
use Rattle.vg_first_text.specs.FirstText.{FirstAssignment, FirstRegister, First, IsAssignment, register_address, AreRegisters, FirstFits}
use Rattle.vg_source.specs.Names.{Name, is_among}
use Rattle.vg_syntax.specs.Tree as tree
use Rattle.vg_meaning.specs.Code as code
use Rattle.vg_source.specs.Steps.{Step}
use Rattle.vg_source.specs.Types as source
use Rattle.vg_source.specs.Nodes.{nodes, local_node}
use Rattle.vg_source.specs.Literals.{number_of}
use Rattle.vg_source.specs.Declared.{or_else, component_named, device_named, register_in, component_member}
use Rattle.vg_source.specs.Resolved.{InComponent, IsValue, Fresh, no_names, in_front, its_register, settled, resolved}
use Rattle.vg_rules.specs.Breach.{asks, ◌or◌}
use Rattle.vg_rules.specs.Signatures.{registers_breach, signatures_breach, address_keeps}
use Rattle.vg_rules.specs.Bodies.{Body, head, fits_target, breach}
use Rattle.vg_rules.specs.Counts.{levels}
use Rattle.vg_rules.specs.Legal.{breach_of, body_of, written_breach}
use Rattle.vg_rules.specs.Names.{names_breach}
use Rattle.vg_rules.specs.Entries.{entries_breach}
use Rattle.vg_rules.specs.Refusal.{refusal_of, too_many, broken_at}
use Rattle.vg_first_laws.specs.Trees.{assignment_node, assignment_row, register_row, first_declarations, first_tree}
use Rattle.vg_first_laws.proofs.Names.{same_itself, not_same, some_of, number_is, registers_in, no_locals, assignment_is, no_component, no_member, device_is}

-- ---- registers

address_is_kept : (digits : List ℕ) → is_hexadecimal digits ≡ true → IsDeviceAddress (hex_value digits) → address_keeps digits ≡ true
address_is_kept digits e h =
    let n : number_of digits ≡ hex_value digits = number_is digits e in
    let low : nat_le 0x20 (hex_value digits) ≡ true = le-leb 0x20 (hex_value digits) h.from in
    let high : nat_le (hex_value digits) 0xFF ≡ true = le-leb (hex_value digits) 0xFF (let b = h.below in omega (arith, b)) in
    let a : (hex_value digits == 0x5B) ≡ false = ne_eqb (hex_value digits) 0x5B h.no_rampz in
    let b : (hex_value digits == 0x5D) ≡ false = ne_eqb (hex_value digits) 0x5D h.no_spl in
    let c : (hex_value digits == 0x5E) ≡ false = ne_eqb (hex_value digits) 0x5E h.no_sph in
    let d : (hex_value digits == 0x5F) ≡ false = ne_eqb (hex_value digits) 0x5F h.no_sreg in
    simp (e, n, low, high, a, b, c, d) refl

-- what is found under no name behind a register is found under none of it
none_behind : (r : FirstRegister) (rs : List FirstRegister) (x : Name) → register_address (r ∷ rs) x ≡ None
    → (x ≡ r.name → ⊥) × (register_address rs x ≡ None)
none_behind r rs x e = by (bytes_eq r.name x) refl e
  where
    by : (b : Bool) → bytes_eq r.name x ≡ b → (if b then Some (hex_value r.digits) else register_address rs x) ≡ None
        → (x ≡ r.name → ⊥) × (register_address rs x ≡ None)
    by true h e = absurd (let clash : Some (hex_value r.digits) ≡ None = e in cc)
    by false h e = ((λ s. let clash : true ≡ false = sym (same_itself r.name) ∙ ap (bytes_eq r.name) (sym s) ∙ h in cc), e)

abbrev Behind : List FirstRegister → List Name → Type 0
Behind rs seen = AllByRecursion (λ x. register_address rs x ≡ None) seen

all_behind : (r : FirstRegister) (rs : List FirstRegister) (seen : List Name) → Behind (r ∷ rs) seen → Behind rs seen
all_behind r rs [] h = tt
all_behind r rs (x ∷ seen) (e, h) = ((none_behind r rs x e).1, all_behind r rs seen h)

not_among : (r : FirstRegister) (rs : List FirstRegister) (seen : List Name) → Behind (r ∷ rs) seen → is_among seen r.name ≡ false
not_among r rs [] h = refl
not_among r rs (x ∷ seen) (e, h) =
    let a : bytes_eq x r.name ≡ false = not_same x r.name (none_behind r rs x e).0 in
    let b : is_among seen r.name ≡ false = not_among r rs seen h in
    simp (a, b) refl

registers_keep : (at : ℕ → Spot) (k : ℕ) (rs : List FirstRegister) (seen : List Name) → AreRegisters rs → Behind rs seen
    → registers_breach seen (register_row at k rs) ≡ None
registers_keep at k [] seen h b = refl
registers_keep at k (r ∷ rs) seen (number, once, h) b =
    let a : address_keeps r.digits ≡ true = address_is_kept r.digits number.hexadecimal number.address in
    let c : is_among seen r.name ≡ false = not_among r rs seen b in
    ap (λ x. asks (x && not (is_among seen r.name)) 12 (at k) or registers_breach (r.name ∷ seen) (register_row at (k + 1) rs)) a
    ∙ ap (λ x. asks (not x) 12 (at k) or registers_breach (r.name ∷ seen) (register_row at (k + 1) rs)) c
    ∙ registers_keep at (k + 1) rs (r.name ∷ seen) h (once, all_behind r rs seen b)

-- ---- assignments

module _ (at : ℕ → Spot) (ds : Node) (c d : Name) (k : ℕ) (rs : List FirstRegister)
    (no_member : component_member ds c d ≡ None) (no_component : component_named ds d ≡ None) (device : device_named ds d ≡ Some (register_row at k rs))
    (registers : AreRegisters rs) where
  abbrev around : Body
  around = body_of (InComponent c) source.NoType

  assignment_keeps : (n : ℕ) (a : FirstAssignment) → IsAssignment d rs a → breach ds around (assignment_node at n a) Fresh no_names ≡ None
  assignment_keeps n a h =
      let some : (m : ℕ) × (register_address rs a.register ≡ Some m) = some_of (register_address rs a.register) h.register in
      let e1 : component_member ds c a.device ≡ None = ap (component_member ds c) h.device ∙ no_member in
      let e2 : component_named ds a.device ≡ None = ap (component_named ds) h.device ∙ no_component in
      let e3 : device_named ds a.device ≡ Some (register_row at k rs) = ap (device_named ds) h.device ∙ device in
      let e4 : register_in (register_row at k rs) a.register ≡ Some some.0 = registers_in at k rs a.register registers ∙ some.1 in
      let e5 : is_hexadecimal a.digits ≡ true = h.value.hexadecimal in
      let e6 : length a.digits ≡ 4 = h.value.two in
      let target : Node = tree.Postfix (at (n + 1)) (tree.Name (at (n + 2)) a.device) (Then (tree.Member (at (n + 3)) a.register) Nothing) in
      let value : Node = tree.Number (at (n + 4)) a.digits in
      let place : Option Step = (resolved ds (InComponent c) target Fresh no_names).store in
      let p : breach ds around target Fresh no_names ≡ None = simp (e1, e2, e3, e4) refl in
      let q : breach ds around value Fresh no_names ≡ None = simp (e5, e6) refl in
      let s : is_some place ≡ true = simp (e1, e2, e3, e4) refl in
      let m : resolved ds (InComponent c) target Fresh no_names ≡ in_front code.Nothing (its_register (Some some.0) no_names) = simp (e1, e2, e3, e4) refl in
      let u : head ds around target no_names ≡ IsValue (source.RawType 8) = ap (λ x. (settled x).head) m in
      let v : head ds around value no_names ≡ IsValue (source.RawType 8) = simp (e5, e6) refl in
      ap (λ x. x or breach ds around value Fresh no_names
      or asks (is_some place && fits_target ds (head ds around value no_names) (head ds around target no_names)) 21 (at n)) p
      ∙ ap (λ x. x or asks (is_some place && fits_target ds (head ds around value no_names) (head ds around target no_names)) 21 (at n)) q
      ∙ ap (λ x. asks (x && fits_target ds (head ds around value no_names) (head ds around target no_names)) 21 (at n)) s
      ∙ ap (λ x. asks (fits_target ds x (head ds around target no_names)) 21 (at n)) v
      ∙ ap (λ x. asks (fits_target ds (IsValue (source.RawType 8)) x) 21 (at n)) u

  rows_keep : (n : ℕ) (rows : List FirstAssignment) → AllByRecursion (IsAssignment d rs) rows
      → breach ds around (assignment_row at n rows) Fresh no_names ≡ None
  rows_keep n [] h = refl
  rows_keep n (a ∷ rows) (h, hs) =
      ap (λ x. x or breach ds around (assignment_row at (n + 5) rows) Fresh (settled (resolved ds (InComponent c) (assignment_node at n a) Fresh no_names)).scope)
      (assignment_keeps n a h)
      ∙ ap (λ m. breach ds around (assignment_row at (n + 5) rows) Fresh (settled m).scope)
      (assignment_is at ds c d k rs no_member no_component device registers n a h)
      ∙ rows_keep (n + 5) rows hs

-- ---- the height of main

row_levels : (at : ℕ → Spot) (n : ℕ) (rows : List FirstAssignment)
    → (levels (outline (assignment_row at n rows)) ≡ 0) ⊎ (levels (outline (assignment_row at n rows)) ≡ 3)
row_levels at n [] = inl refl
row_levels at n (a ∷ rows) = by (row_levels at (n + 5) rows)
  where
    by : (levels (outline (assignment_row at (n + 5) rows)) ≡ 0) ⊎ (levels (outline (assignment_row at (n + 5) rows)) ≡ 3)
        → (levels (outline (assignment_row at n (a ∷ rows))) ≡ 0) ⊎ (levels (outline (assignment_row at n (a ∷ rows))) ≡ 3)
    by (inl e) = inr (ap (max 3) e)
    by (inr e) = inr (ap (max 3) e)

-- ---- the whole text

module _ (at : ℕ → Spot) (device program : ℕ) (f : First) (fits : FirstFits f) where
  abbrev declared : Node
  declared = first_declarations at device program f

  few : too_many (first_tree at device program f) ≡ None
  few = by (row_levels at 4 f.assignments)
    where
      locals : flat_map local_node (nodes (assignment_row at 4 f.assignments)) ≡ []
      locals = no_locals at 4 f.assignments

      by : (levels (outline (assignment_row at 4 f.assignments)) ≡ 0) ⊎ (levels (outline (assignment_row at 4 f.assignments)) ≡ 3)
          → too_many (first_tree at device program f) ≡ None
      by (inl e) = let l = locals in simp (l, e) refl
      by (inr e) = let l = locals in simp (l, e) refl

  keeps : breach_of (first_tree at device program f) ≡ None
  keeps =
      let a : bytes_eq f.component f.device ≡ false = not_same f.component f.device (λ e. fits.names.device_component (sym e)) in
      let b : bytes_eq f.device f.program ≡ false = not_same f.device f.program (λ e. fits.names.program_device (sym e)) in
      let c : bytes_eq f.component f.program ≡ false = not_same f.component f.program (λ e. fits.names.program_component (sym e)) in
      let r : registers_breach [] (register_row at (device + 1) f.registers) ≡ None = registers_keep at (device + 1) f.registers [] fits.registers tt in
      let s : bytes_eq f.component f.component ≡ true = same_itself f.component in
      let t : bytes_eq f.method f.method ≡ true = same_itself f.method in
      let u : breach declared (body_of (InComponent f.component) source.NoType) (assignment_row at 4 f.assignments) Fresh no_names ≡ None =
      rows_keep at declared f.component f.device (device + 1) f.registers (no_member at device program f fits) (no_component at device program f fits)
      (device_is at device program f fits) fits.registers 4 f.assignments fits.assignments in
      let k = fits.names.key in
      let x = fits.names.component in
      let y = fits.names.method in
      let first : names_breach [] declared ≡ None = simp (a, b, c) refl in
      let second : signatures_breach declared declared ≡ None = simp (r) refl in
      let third : entries_breach declared declared ≡ None = simp (k, x, y, s, t) refl in
      let last : written_breach declared declared ≡ None = ap (λ z. (z or None) or None) u in
      ap (λ z. z or (signatures_breach declared declared or (entries_breach declared declared or written_breach declared declared))) first
      ∙ ap (λ z. z or (entries_breach declared declared or written_breach declared declared)) second
      ∙ ap (λ z. z or written_breach declared declared) third ∙ last

  pub first_is_legal : refusal_of (first_tree at device program f) ≡ None
  first_is_legal = ap (λ o. or_else o (broken_at (breach_of (first_tree at device program f)))) few ∙ ap broken_at keeps
