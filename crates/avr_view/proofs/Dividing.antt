-- What is read and written in SRAM where it is divided into the static area, free bytes and the stack.
use Rattle.std.proofs.Common.{◌≡◌, ℕ, suc, ◌+◌, ◌-◌, ◌<◌, ◌≤◌, inl, inr, List, [], ◌∷◌, ◌++◌, length, refl, sym, ap, ◌∙◌, subst}
use Rattle.std.proofs.Common.{arith, append_assoc, length-append, length-take, length-drop, slice_index, slice_set, take, drop}
use Rattle.std.proofs.lemmas.List.{set-append_left, set-append_right, get_or_append_left, get_or-append_right, length-set, take-append-drop}
use Rattle.avr_isa.specs.declared.stack.StackUse.TheVariants.{Stores}
use Rattle.avr_view.specs.Memory.{Divided, Cell, InStatic, OnStack, LiesAt, byte_at, static_with, stack_with}
use Rattle.avr_view.specs.Run.{Run, StoresWithin}

module _ (static stack sram : List ℕ) (sp : ℕ) (p : Divided static stack sram sp) where
  -- SP and the bytes of the stack make up the end of SRAM
  pub stack_top : sp + 1 + length stack ≡ 0x1100
  stack_top = omega (arith, p.pointer, p.size)

  static_read : (i : ℕ) → i < length static → slice_index sram i ≡ slice_index static i
  static_read i h = ap (λ m. slice_index m i) p.bytes ∙ get_or_append_left static (p.free ++ stack) 0 i h

  static_write : (i x : ℕ) → i < length static → Divided (slice_set static i x) stack (slice_set sram i x) sp
  static_write i x h =
      record {
        free = p.free;
        bytes = ap (λ m. slice_set m i x) p.bytes ∙ set-append_left static (p.free ++ stack) i x h;
        pointer = omega (arith, p.pointer, length-set static i x);
        size = omega (arith, p.size, length-set static i x);
      }

  -- the byte j of the stack is the byte k of SRAM
  pub stack_read : (j k : ℕ) → k + 0x100 ≡ sp + 1 + j → slice_index sram k ≡ slice_index stack j
  stack_read j k h =
      let n = length static + length p.free in
      let front : length (static ++ p.free) ≡ n = length-append static p.free in
      let e : k ≡ n + j = omega (arith, p.pointer) in
      let there : k - n ≡ j = omega arith in
      ap (λ m. slice_index m k) (p.bytes ∙ sym (append_assoc static p.free stack))
      ∙ get_or-append_right (static ++ p.free) stack n k 0 front (omega arith)
      ∙ ap (slice_index stack) there

  pub stack_write : (j k x : ℕ) → k + 0x100 ≡ sp + 1 + j → Divided static (slice_set stack j x) (slice_set sram k x) sp
  stack_write j k x h =
      let n = length static + length p.free in
      let front : length (static ++ p.free) ≡ n = length-append static p.free in
      let e : k ≡ n + j = omega (arith, p.pointer) in
      let there : k - n ≡ j = omega arith in
      record {
        free = p.free;
        bytes =
            ap (λ m. slice_set m k x) (p.bytes ∙ sym (append_assoc static p.free stack))
            ∙ set-append_right (static ++ p.free) stack n k x front (omega arith)
            ∙ ap (λ q. (static ++ p.free) ++ slice_set stack q x) there
            ∙ append_assoc static p.free (slice_set stack j x);
        pointer = p.pointer;
        size = omega (arith, p.size, length-set stack j x);
      }

  -- n free bytes go to the stack as they are
  pub stack_lowered : (n : ℕ) → 0x100 + length static + n ≤ sp + 1 → (x : List ℕ) × (length x ≡ n) × Divided static (x ++ stack) sram (sp - n)
  stack_lowered n h =
      let k = length p.free - n in
      let low : n ≤ length p.free = omega (arith, p.pointer) in
      let x = drop k p.free in
      let len : length x ≡ n = omega (arith, length-drop k p.free) in
      let cut : p.free ≡ take k p.free ++ x = sym (take-append-drop k p.free) in
      let kept : length (take k p.free) ≡ k = omega (arith, length-take k p.free) in (
        x,
        len,
        record {
          free = take k p.free;
          bytes =
              p.bytes
              ∙ ap (λ f. static ++ (f ++ stack)) cut
              ∙ ap (λ f. static ++ f) (append_assoc (take k p.free) x stack);
          pointer = omega (arith, p.pointer);
          size = omega (arith, p.size, length-append x stack);
        },
      )

-- bytes of the stack are free again
pub stack_raised : (static x stack sram : List ℕ) (sp : ℕ) → Divided static (x ++ stack) sram sp → Divided static stack sram (sp + length x)
stack_raised static x stack sram sp p =
    record {
      free = p.free ++ x;
      bytes = p.bytes ∙ ap (λ f. static ++ f) (sym (append_assoc p.free x stack));
      pointer = omega (arith, p.pointer, length-append p.free x);
      size = omega (arith, p.size, length-append p.free x, length-append x stack);
    }

-- a byte is pushed
pub stack_pushed : (static stack sram : List ℕ) (sp v k : ℕ) → Divided static stack sram sp → 0x100 + length static ≤ sp → k + 0x100 ≡ sp
    → Divided static (v ∷ stack) (slice_set sram k v) (sp - 1)
stack_pushed static stack sram sp v k p h e = pushed (stack_lowered static stack sram sp p 1 (omega arith))
  where
    pushed : ((x : List ℕ) × (length x ≡ 1) × Divided static (x ++ stack) sram (sp - 1)) → Divided static (v ∷ stack) (slice_set sram k v) (sp - 1)
    pushed ([], len, q) = absurd (let none : 0 ≡ 1 = len in omega arith)
    pushed (x ∷ [], len, q) = stack_write static (x ∷ stack) sram (sp - 1) q 0 k v (omega arith)
    pushed (x ∷ (y ∷ ys), len, q) = absurd (let none : suc (suc (length ys)) ≡ 1 = len in omega arith)

-- a cell of the static area or of the stack
module _ (static stack sram : List ℕ) (sp : ℕ) (p : Divided static stack sram sp) where
  pub cell_in_sram : (c : Cell) (address : ℕ) → LiesAt static stack c address → (0x100 ≤ address) × (address < 0x1100)
  cell_in_sram (InStatic i) address (h, e) = let size = p.size in (omega arith, omega arith)
  cell_in_sram (OnStack j) address (h, e) = let size = p.size in (omega arith, omega arith)

  pub cell_read : (c : Cell) (address : ℕ) → LiesAt static stack c address → slice_index sram (address - 0x100) ≡ byte_at static stack c
  cell_read (InStatic i) address (h, e) =
      let at : address - 0x100 ≡ i = omega arith in ap (slice_index sram) at ∙ static_read static stack sram sp p i h
  cell_read (OnStack j) address (h, e) =
      let top = stack_top static stack sram sp p in
      let size = p.size in
      stack_read static stack sram sp p j (address - 0x100) (omega arith)

  pub cell_written : (c : Cell) (address x : ℕ) → LiesAt static stack c address
      → Divided (static_with c x static) (stack_with c x stack) (slice_set sram (address - 0x100) x) sp
  cell_written (InStatic i) address x (h, e) =
      let at : i ≡ address - 0x100 = omega arith in
      subst (λ n. Divided (slice_set static i x) stack (slice_set sram n x) sp) at (static_write static stack sram sp p i x h)
  cell_written (OnStack j) address x (h, e) =
      let top = stack_top static stack sram sp p in
      let size = p.size in
      stack_write static stack sram sp p j (address - 0x100) x (omega arith)

  -- a store to it falls where stores may
  pub cell_within : (e : Run) (c : Cell) (address : ℕ) → length static ≡ e.static → e.floor + length stack ≤ 0x1100 → LiesAt static stack c address
      → StoresWithin e sp (Stores address)
  cell_within e (InStatic i) address same room (h, is) = λ low. inl (omega arith)
  cell_within e (OnStack j) address same room (h, is) = λ low. let top = stack_top static stack sram sp p in inr (omega arith, omega arith)

pub static_with-length : (c : Cell) (x : ℕ) (static : List ℕ) → length (static_with c x static) ≡ length static
static_with-length (InStatic i) x static = length-set static i x
static_with-length (OnStack j) x static = refl

pub stack_with-length : (c : Cell) (x : ℕ) (stack : List ℕ) → length (stack_with c x stack) ≡ length stack
stack_with-length (InStatic i) x stack = refl
stack_with-length (OnStack j) x stack = length-set stack j x
