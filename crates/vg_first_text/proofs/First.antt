-- One spelling has one program of constants.
-- The pieces of a text spell head, assignments, middle, registers and tail. Each part ends where the next one begins with a piece
-- that cannot go on with it, so the parts are found one by one from the front, and no other program has these pieces.
use Rattle.std.proofs.Common.{◌≡◌, ℕ, List, [], ◌∷◌, ◌++◌, map, drop, refl, sym, ap, ◌∙◌, subst, Bool, true, false, Some, None}
use Rattle.std.specs.List.{flat_map, AllByRecursion}
use Rattle.std.specs.Prelude.{if◌then◌else◌, bytes_eq, unwrap_or, Result, Ok, Err, IsErrAnd}
use Rattle.vg_base.specs.declared.refusal.Refusal.{Refusal}
use Rattle.vg_base.specs.declared.refusal.Refusal.TheVariants.{Fault}
use Rattle.vg_first_text.specs.declared.first_text.NotFirst.{NotFirst}
use Rattle.vg_meaning.specs.Device.{IsDeviceAddress}
use Rattle.vg_first_text.specs.declared.device_write.DeviceWrite.{DeviceWrite}
use Rattle.vg_syntax.specs.declared.token.Token.{Token}
use Rattle.vg_first_text.specs.FirstSession.{AreDevices}
use Rattle.vg_syntax.specs.Hexadecimal.{hex_value}
use Rattle.vg_syntax.specs.Tokens.{IsTokens}
use Rattle.vg_scan.proofs.Reading.{only_tokens}
use Rattle.vg_first_text.proofs.Hexadecimal.{two_digits_below}
use Rattle.vg_first_text.specs.FirstText.{First, FirstAssignment, FirstRegister, head_pieces, assignment_pieces, middle_pieces, register_pieces, tail_pieces}
use Rattle.vg_first_text.specs.FirstText.{first_pieces, AreRegisters, IsAssignment, FirstFits, IsFirst, register_address, write_of, writes_of}
use Rattle.vg_first_text.specs.FirstViews.{IsBehindAssignments, IsBehindRegisters}
use Rattle.vg_first_text.specs.Pieces.{Piece, pieces}

-- what stands behind each part
abbrev pub behind_registers : First → List Piece
behind_registers f = tail_pieces f.program f.key f.entry_component f.entry_method

abbrev pub behind_middle : First → List Piece
behind_middle f = flat_map register_pieces f.registers ++ behind_registers f

abbrev pub behind_assignments : First → List Piece
behind_assignments f = middle_pieces f.device ++ behind_middle f

abbrev pub behind_head : First → List Piece
behind_head f = flat_map assignment_pieces f.assignments ++ behind_assignments f

middle_no_assignment : (device : List ℕ) (more : List Piece) → IsBehindAssignments (middle_pieces device ++ more)
middle_no_assignment device more a rest e = cc

tail_no_register : (program key component method : List ℕ) → IsBehindRegisters (tail_pieces program key component method)
tail_no_register program key component method r rest e = cc

one_assignment : (a b : FirstAssignment) (p q : List Piece) → assignment_pieces a ++ p ≡ assignment_pieces b ++ q → a ≡ b
one_assignment a b p q e =
    let device : a.device ≡ b.device = cc in
    let register : a.register ≡ b.register = cc in
    let digits : a.digits ≡ b.digits = cc in
    same a.device b.device a.register b.register a.digits b.digits device register digits
  where
    same : (d d' r r' h h' : List ℕ) → d ≡ d' → r ≡ r' → h ≡ h'
        → (let a : FirstAssignment = record { device = d; register = r; digits = h } in a) ≡ record { device = d'; register = r'; digits = h' }
    same d d' r r' h h' e f g = cc

one_register : (a b : FirstRegister) (p q : List Piece) → register_pieces a ++ p ≡ register_pieces b ++ q → a ≡ b
one_register a b p q e =
    let name : a.name ≡ b.name = cc in
    let digits : a.digits ≡ b.digits = cc in
    same a.name b.name a.digits b.digits name digits
  where
    same : (d d' h h' : List ℕ) → d ≡ d' → h ≡ h' → (let r : FirstRegister = record { name = d; digits = h } in r) ≡ record { name = d'; digits = h' }
    same d d' h h' e g = cc

pub same_assignments : (xs ys : List FirstAssignment) (p q : List Piece) → IsBehindAssignments p → IsBehindAssignments q
    → flat_map assignment_pieces xs ++ p ≡ flat_map assignment_pieces ys ++ q → (xs ≡ ys) × (p ≡ q)
same_assignments [] [] p q f g e = (refl, e)
same_assignments [] (b ∷ ys) p q f g e = absurd (f b (flat_map assignment_pieces ys ++ q) e)
same_assignments (a ∷ xs) [] p q f g e = absurd (g a (flat_map assignment_pieces xs ++ p) (sym e))
same_assignments (a ∷ xs) (b ∷ ys) p q f g e =
    let more = same_assignments xs ys p q f g (ap (drop 6) e) in
    let one = one_assignment a b (flat_map assignment_pieces xs ++ p) (flat_map assignment_pieces ys ++ q) e in
    (ap (λ x. x ∷ xs) one ∙ ap (λ l. b ∷ l) more.0, more.1)

pub same_registers : (xs ys : List FirstRegister) (p q : List Piece) → IsBehindRegisters p → IsBehindRegisters q
    → flat_map register_pieces xs ++ p ≡ flat_map register_pieces ys ++ q → (xs ≡ ys) × (p ≡ q)
same_registers [] [] p q f g e = (refl, e)
same_registers [] (b ∷ ys) p q f g e = absurd (f b (flat_map register_pieces ys ++ q) e)
same_registers (a ∷ xs) [] p q f g e = absurd (g a (flat_map register_pieces xs ++ p) (sym e))
same_registers (a ∷ xs) (b ∷ ys) p q f g e =
    let more = same_registers xs ys p q f g (ap (drop 5) e) in
    let one = one_register a b (flat_map register_pieces xs ++ p) (flat_map register_pieces ys ++ q) e in
    (ap (λ x. x ∷ xs) one ∙ ap (λ l. b ∷ l) more.0, more.1)

-- the pieces behind the assignments are those of the program
pub reaches_middle : (ps p1 p2 : List Piece) (component method : List ℕ) (xs : List FirstAssignment) (f : First)
    → ps ≡ head_pieces component method ++ p1 → p1 ≡ flat_map assignment_pieces xs ++ p2 → IsBehindAssignments p2 → ps ≡ first_pieces f
    → (xs ≡ f.assignments) × (p2 ≡ behind_assignments f)
reaches_middle ps p1 p2 component method xs f head all rest e =
    let behind : p1 ≡ behind_head f = ap (drop 8) (sym head ∙ e) in
    same_assignments xs f.assignments p2 (behind_assignments f) rest (middle_no_assignment f.device (behind_middle f)) (sym all ∙ behind)

-- the pieces behind the registers are those of the program
pub reaches_tail : (p2 p3 p4 : List Piece) (device : List ℕ) (rs : List FirstRegister) (f : First)
    → p2 ≡ middle_pieces device ++ p3 → p3 ≡ flat_map register_pieces rs ++ p4 → IsBehindRegisters p4 → p2 ≡ behind_assignments f
    → (rs ≡ f.registers) × (p4 ≡ behind_registers f)
reaches_tail p2 p3 p4 device rs f middle all rest e =
    let behind : p3 ≡ behind_middle f = ap (drop 5) (sym middle ∙ e) in
    same_registers rs f.registers p4 (behind_registers f) rest (tail_no_register f.program f.key f.entry_component f.entry_method) (sym all ∙ behind)

same_head : (c m c' m' : List ℕ) (p q : List Piece) → head_pieces c m ++ p ≡ head_pieces c' m' ++ q → (c ≡ c') × (m ≡ m')
same_head c m c' m' p q e = (cc, cc)

same_device : (d d' : List ℕ) (p q : List Piece) → middle_pieces d ++ p ≡ middle_pieces d' ++ q → d ≡ d'
same_device d d' p q e = cc

same_tail : (a b c d a' b' c' d' : List ℕ) → tail_pieces a b c d ≡ tail_pieces a' b' c' d' → (a ≡ a') × (b ≡ b') × (c ≡ c') × (d ≡ d')
same_tail a b c d a' b' c' d' e = (cc, cc, cc, cc)

same_fields : (c c' m m' : List ℕ) (a a' : List FirstAssignment) (d d' : List ℕ) (r r' : List FirstRegister) (p p' k k' x x' y y' : List ℕ)
    → c ≡ c' → m ≡ m' → a ≡ a' → d ≡ d' → r ≡ r' → p ≡ p' → k ≡ k' → x ≡ x' → y ≡ y'
    → (let f : First = record {
      component = c;
      method = m;
      assignments = a;
      device = d;
      registers = r;
      program = p;
      key = k;
      entry_component = x;
      entry_method = y;
    } in f)
    ≡ record { component = c'; method = m'; assignments = a'; device = d'; registers = r'; program = p'; key = k'; entry_component = x'; entry_method = y' }
same_fields c c' m m' a a' d d' r r' p p' k k' x x' y y' e1 e2 e3 e4 e5 e6 e7 e8 e9 = cc

-- one spelling has one program
pub same_first : (f g : First) → first_pieces f ≡ first_pieces g → f ≡ g
same_first f g e =
    let a = reaches_middle (first_pieces f) (behind_head f) (behind_assignments f) f.component f.method f.assignments g
    refl refl (middle_no_assignment f.device (behind_middle f)) e in
    let r = reaches_tail (behind_assignments f) (behind_middle f) (behind_registers f) f.device f.registers g
    refl refl (tail_no_register f.program f.key f.entry_component f.entry_method) a.1 in
    let h = same_head f.component f.method g.component g.method (behind_head f) (behind_head g) e in
    let d = same_device f.device g.device (behind_middle f) (behind_middle g) a.1 in
    let t = same_tail f.program f.key f.entry_component f.entry_method g.program g.key g.entry_component g.entry_method r.1 in
    same_fields f.component g.component f.method g.method f.assignments g.assignments f.device g.device f.registers g.registers
    f.program g.program f.key g.key f.entry_component g.entry_component f.entry_method g.entry_method
    h.0 h.1 a.0 d r.0 t.0 t.1 t.2 t.3

-- one text has at most one list of writes
pub one_list : (bytes : List ℕ) (writes others : List DeviceWrite) → IsFirst bytes writes → IsFirst bytes others → writes ≡ others
one_list bytes writes others a b =
    let tokens : a.tokens ≡ b.tokens = only_tokens bytes a.tokens b.tokens a.are_tokens b.are_tokens in
    let first : a.first ≡ b.first = same_first a.first b.first (sym a.spelled ∙ ap (pieces bytes) tokens ∙ b.spelled) in
    a.written ∙ ap writes_of first ∙ sym b.written

-- a text whose tokens spell no program has no list of writes
pub not_spelled : (bytes : List ℕ) (tokens : List Token) → IsTokens bytes tokens → ((f : First) → pieces bytes tokens ≡ first_pieces f → ⊥)
    → (writes : List DeviceWrite) → IsFirst bytes writes → ⊥
not_spelled bytes tokens t none writes a =
    none a.first (ap (pieces bytes) (only_tokens bytes tokens a.tokens t a.are_tokens) ∙ a.spelled)

-- a text whose program does not fit has no list of writes
pub not_fitting : (bytes : List ℕ) (tokens : List Token) (f : First) → IsTokens bytes tokens → pieces bytes tokens ≡ first_pieces f → (FirstFits f → ⊥)
    → (writes : List DeviceWrite) → IsFirst bytes writes → ⊥
not_fitting bytes tokens f t e none writes a =
    let same : f ≡ a.first = same_first f a.first (sym e ∙ ap (pieces bytes) (only_tokens bytes tokens a.tokens t a.are_tokens) ∙ a.spelled) in
    none (subst FirstFits (sym same) a.fits)

-- the address of a register that is there is that of a device register
address_fits : (rs : List FirstRegister) (name : List ℕ) → AreRegisters rs → (register_address rs name ≡ None → ⊥)
    → IsDeviceAddress (unwrap_or (register_address rs name) 0)
address_fits [] name h some = absurd (some refl)
address_fits (r ∷ rs) name h some = by_test (bytes_eq r.name name) some (address_fits rs name h.2)
  where
    by_test : (t : Bool) → ((if t then Some (hex_value r.digits) else register_address rs name) ≡ None → ⊥)
        → ((register_address rs name ≡ None → ⊥) → IsDeviceAddress (unwrap_or (register_address rs name) 0))
        → IsDeviceAddress (unwrap_or (if t then Some (hex_value r.digits) else register_address rs name) 0)
    by_test true some again = h.0.address
    by_test false some again = again some

-- the writes of assignments that fit go to device registers
pub are_devices : (device : List ℕ) (rs : List FirstRegister) (xs : List FirstAssignment) → AreRegisters rs → AllByRecursion (IsAssignment device rs) xs
    → AreDevices (map (write_of rs) xs)
are_devices device rs [] h g = tt
are_devices device rs (x ∷ xs) h g = (
  record { place = address_fits rs x.register h g.0.register; byte = two_digits_below x.digits g.0.value.hexadecimal g.0.value.two },
  are_devices device rs xs h g.1,
)

-- a refusal that is handed on
pub handed_on : {T : Type 0} (result : Result T (Refusal NotFirst)) (refusal : Refusal NotFirst) (why : NotFirst) → IsErrAnd result (λ e. e ≡ refusal)
    → result ≡ Err (Fault why) → refusal ≡ Fault why
handed_on (Ok v) refusal why h e = absurd h
handed_on (Err f) refusal why h e = let same : f ≡ Fault why = cc in sym h ∙ same
