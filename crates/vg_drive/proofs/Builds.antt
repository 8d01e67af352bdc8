-- What an answer of `build` says: each clause of vg_build, lifted from the bytes and their answer to the file and the status.
-- A file is missing, or the answer to its bytes was put: what the status says of either is in Statuses and in the first lemmas here.
use Rattle.std.proofs.Common.{◌≡◌, ℕ, ◌≤◌, ◌<◌, ◌⊎◌, ◌↔◌, List, [], ◌++◌, length, Option, Some, None, Ok, Err, refl, sym, ap, ◌∙◌, subst, arith, inl}
use Rattle.std.proofs.Common.{inr, append-nil}
use Rattle.std.proofs.lemmas.List.{take_all}
use Rattle.std.specs.Prelude.{IfSome, IsOk}
use Rattle.vg_base.specs.Limits.{text_limit}
use Rattle.vg_base.specs.declared.place.Place.{Place}
use Rattle.vg_base.specs.declared.refusal.Refusal.TheVariants as refusal
use Rattle.vg_io.specs.Piece.{AppendsAll, AppendsFront}
use Rattle.vg_io.specs.declared.file.File.{File}
use Rattle.vg_fetch.specs.Told.{ForFile}
use Rattle.vg_fetch.specs.declared.fetch.NoFile.{NoFile}
use Rattle.vg_first_text.specs.declared.device_write.DeviceWrite.{DeviceWrite}
use Rattle.vg_first_text.specs.FirstText.{IsFirst}
use Rattle.vg_hex.specs.HexText.{hex_text}
use Rattle.vg_build.specs.Answer as of_bytes
use Rattle.vg_build.specs.Answer.{Answer, Answers, HasFault, IsLarge, IsNotBuilt, IsOverStack, fault_in, first_place}
use Rattle.vg_build.specs.Image.{IsBuiltOf, IsImageOf}
use Rattle.vg_layout.specs.Text.{layout_text}
use Rattle.vg_build.specs.declared.building.Built.{Built}
use Rattle.vg_faults.specs.declared.fault.Fault.{Fault}
use Rattle.vg_faults.specs.declared.fault.Fault.TheVariants.{NoTree, TooDeep, TooMany, Broken, InitTrap, InitSteps, InitDepth, InitTouches, InitTooBig, Allocates, StaticFull, TableFull}
use Rattle.vg_faults.specs.declared.fault.Fault.TheVariants.{StackFull, CodeFull, NoMember, NotBuilt}
use Rattle.vg_faults.specs.Fitting.{StaticFullIn, TableFullIn}
use Rattle.vg_faults.specs.Room.{HasRoomFault, StackFullIn}
use Rattle.vg_layout.specs.declared.layout.Layout.{Layout}
use Rattle.vg_build.proofs.Faults.{IsExact, answered_of, complete_of, exactly, first_of, stack_full_of, stack_short_of}
use Rattle.vg_status.specs.declared.status.Status.{Status}
use Rattle.vg_status.specs.declared.status.Status.TheVariants.{Done, Refused, ReadFault, WriteFault, NoMemory}
use Rattle.vg_drive.specs.Answers.{AppendsBegun, ForImage}
use Rattle.vg_commands.specs.Commands.{IsAnswerOfBuild}
use Rattle.vg_commands.specs.Leaves.{Change, Fails, GainsAll, GainsFront, IsSame}
use Rattle.vg_drive.specs.Mirrors.{BuildBy, PutBy, PutFails}
use Rattle.vg_commands.specs.Endings.{status_without_file}
use Rattle.vg_status.specs.Statuses.{IsBeforePuts, IsDoneOrNoMemory, IsSettled, IsShown}
use Rattle.vg_commands.proofs.Files.{of_file, unless_missing, with_file}
use Rattle.vg_commands.proofs.Whys.{missing_completes, not_both}
use Rattle.vg_commands.proofs.Statuses.{missing_no_refusal, missing_no_write, missing_not_shown, missing_of_build, missing_unsettled}
use Rattle.vg_commands.proofs.Statuses.{refusal_no_write, refusal_not_shown}

-- THE ANSWER TO THE BYTES, BY THE STATUS

settled_answer : (r : Answer) (s : Status) (out note : Change) → PutBy r s out note → IsSettled s → of_bytes.IsSettled r
settled_answer (Ok built) s out note h settled = tt
settled_answer (Err (refusal.Fault why)) s out note h settled = tt
settled_answer (Err refusal.NoMemory) s out note h settled = absurd (subst IsSettled h.0 settled)

same_fault : (p q : Fault) → Refused p ≡ Refused q → p ≡ q
same_fault p q e = cc

same_some : (p q : Fault) → Some p ≡ Some q → p ≡ q
same_some p q e = cc

-- the status names exactly the fault of the answer
refused_iff : (r : Answer) (s : Status) (out note : Change) → PutBy r s out note → (why : Fault) → (s ≡ Refused why) ↔ (fault_in r ≡ Some why)
refused_iff (Ok built) s out note (inl h) why = (λ e. let d = h.0 in cc, λ k. cc)
refused_iff (Ok built) s out note (inr h) why = (λ e. let d = h.0 in cc, λ k. cc)
refused_iff (Err (refusal.Fault w)) s out note h why =
    (λ e. ap Some (same_fault w why (sym h.0 ∙ e)), λ k. h.0 ∙ ap Refused (same_some w why k))
refused_iff (Err refusal.NoMemory) s out note h why = (λ e. let d : s ≡ NoMemory = h.0 in cc, λ k. cc)

-- Done: all was put
done_is : (r : Answer) (s : Status) (out note : Change) → PutBy r s out note → IsShown s
    → (built : Built) × (r ≡ Ok built) × GainsAll out built.hex × GainsAll note built.note
done_is (Ok built) s out note (inl h) shown = (built, refl, h.1, h.2)
done_is (Ok built) s out note (inr h) shown = absurd (subst IsShown h.0 shown)
done_is (Err why) s out note h shown = absurd (refusal_not_shown why (subst IsShown h.0 shown))

-- WriteFault: one of the two puts failed
failed_is : (r : Answer) (s : Status) (out note : Change) → PutBy r s out note → s ≡ WriteFault
    → (built : Built) × (r ≡ Ok built) × PutFails built out note
failed_is (Ok built) s out note (inl h) e = let d = h.0 in cc
failed_is (Ok built) s out note (inr h) e = (built, refl, h.1)
failed_is (Err why) s out note h e = absurd (refusal_no_write why (sym h.0 ∙ e))

before_same : (r : Answer) (s : Status) (out note : Change) → PutBy r s out note → IsBeforePuts s → IsSame out × IsSame note
before_same (Ok built) s out note (inl h) before = absurd (subst IsBeforePuts h.0 before)
before_same (Ok built) s out note (inr h) before = absurd (subst IsBeforePuts h.0 before)
before_same (Err why) s out note h before = (h.1, h.2)

-- each fault of the bytes is an answer: what is asked of them further is none
pub fault_answer : (why : Fault) (bytes : List ℕ) (asked : Option ℕ) (clock : ℕ) → HasFault why bytes asked clock → IsAnswerOfBuild (Refused why)
fault_answer (NoTree p) bytes asked clock h = tt
fault_answer (TooDeep p) bytes asked clock h = tt
fault_answer (TooMany what limit p) bytes asked clock h = tt
fault_answer (Broken rule p) bytes asked clock h = tt
fault_answer (InitTrap code p) bytes asked clock h = tt
fault_answer InitSteps bytes asked clock h = tt
fault_answer InitDepth bytes asked clock h = tt
fault_answer (InitTouches address) bytes asked clock h = tt
fault_answer InitTooBig bytes asked clock h = tt
fault_answer (Allocates p line) bytes asked clock h = tt
fault_answer (StaticFull need) bytes asked clock h = tt
fault_answer (TableFull need) bytes asked clock h = tt
fault_answer (StackFull need left) bytes asked clock h = tt
fault_answer (CodeFull words) bytes asked clock h = tt
fault_answer NoMember bytes asked clock h = h
fault_answer (NotBuilt p) bytes asked clock h = tt

put_answer : (r : Answer) (s : Status) (bytes : List ℕ) (asked : Option ℕ) (clock : ℕ) (out note : Change)
    → Answers bytes asked clock r → PutBy r s out note → IsAnswerOfBuild s
put_answer (Ok built) s bytes asked clock out note says (inl h) = subst IsAnswerOfBuild (sym h.0) tt
put_answer (Ok built) s bytes asked clock out note says (inr h) = subst IsAnswerOfBuild (sym h.0) tt
put_answer (Err (refusal.Fault why)) s bytes asked clock out note says h = subst IsAnswerOfBuild (sym h.0) (fault_answer why bytes asked clock says)
put_answer (Err refusal.NoMemory) s bytes asked clock out note says h = subst IsAnswerOfBuild (sym h.0) tt

-- THE BYTES OF THE FILE

of_image : (told : Option (List File)) (file : List ℕ) (asked : Option ℕ) (clock : ℕ) (bytes : List ℕ) (built : Built) (P : List ℕ → Layout → Type 0)
    → ForFile told file (λ b. b ≡ bytes) → IsBuiltOf bytes asked clock built → P built.image built.layout → ForImage told file asked clock P
of_image None file asked clock bytes built P whole is h = (built.image, built.layout, h)
of_image (Some files) file asked clock bytes built P whole is h =
    (built.image, built.layout, subst (λ b. IsImageOf b asked clock built.image built.layout) (sym whole) is.image, h)

-- REFUSALS

-- two equivalences in a row
chain : (A B C : Type 0) → A ↔ B → B ↔ C → A ↔ C
chain A B C f g = (λ a. g.0 (f.0 a), λ c. f.1 (g.1 c))

-- a fault that is exact is named exactly where the bytes have it
pub exactly_by : (s : Status) (told : Option (List File)) (file : List ℕ) (asked : Option ℕ) (clock : ℕ) (out note : Change)
    → BuildBy s told file asked clock out note → IsSettled s
    → ForFile told file (λ bytes. (why : Fault) → IsExact why → (s ≡ Refused why) ↔ HasFault why bytes asked clock)
exactly_by s told file asked clock out note (inl h) settled = absurd (missing_unsettled h.0.reason (subst IsSettled h.0.tells settled))
exactly_by s told file asked clock out note (inr h) settled =
    of_file told file h.bytes (λ bytes. (why : Fault) → IsExact why → (s ≡ Refused why) ↔ HasFault why bytes asked clock) h.whole
    (λ why exact. chain _ _ _ (refused_iff h.answer s out note h.puts why)
    (exactly h.bytes asked clock h.answer h.says (settled_answer h.answer s out note h.puts settled) why exact))

-- exactly the texts that do not fit into RAM are refused so, with the bytes that they need
pub static_full_by : (s : Status) (told : Option (List File)) (file : List ℕ) (asked : Option ℕ) (clock : ℕ) (out note : Change)
    → BuildBy s told file asked clock out note → IsSettled s
    → ForFile told file (λ bytes. (need : ℕ) → (s ≡ Refused (StaticFull need)) ↔ StaticFullIn bytes clock need)
static_full_by s told file asked clock out note h settled =
    with_file told file _ (λ bytes. (need : ℕ) → (s ≡ Refused (StaticFull need)) ↔ StaticFullIn bytes clock need) (λ bytes f need. f (StaticFull need) tt)
    (exactly_by s told file asked clock out note h settled)

-- and exactly those whose tables do not fit
pub table_full_by : (s : Status) (told : Option (List File)) (file : List ℕ) (asked : Option ℕ) (clock : ℕ) (out note : Change)
    → BuildBy s told file asked clock out note → IsSettled s
    → ForFile told file (λ bytes. (need : ℕ) → (s ≡ Refused (TableFull need)) ↔ TableFullIn bytes clock need)
table_full_by s told file asked clock out note h settled =
    with_file told file _ (λ bytes. (need : ℕ) → (s ≡ Refused (TableFull need)) ↔ TableFullIn bytes clock need) (λ bytes f need. f (TableFull need) tt)
    (exactly_by s told file asked clock out note h settled)

-- those whose stack has no room are refused so
pub stack_full_by : (s : Status) (told : Option (List File)) (file : List ℕ) (asked : Option ℕ) (clock : ℕ) (out note : Change)
    → BuildBy s told file asked clock out note → IsSettled s
    → ForFile told file (λ bytes. (need left : ℕ) → StackFullIn bytes asked clock need left → s ≡ Refused (StackFull need left))
stack_full_by s told file asked clock out note (inl h) settled = absurd (missing_unsettled h.0.reason (subst IsSettled h.0.tells settled))
stack_full_by s told file asked clock out note (inr h) settled =
    of_file told file h.bytes (λ bytes. (need left : ℕ) → StackFullIn bytes asked clock need left → s ≡ Refused (StackFull need left)) h.whole
    (λ need left full. (refused_iff h.answer s out note h.puts (StackFull need left)).1
    (stack_full_of h.bytes asked clock h.answer h.says (settled_answer h.answer s out note h.puts settled) need left full))

-- and no others but those whose stack is too small
pub stack_short_by : (s : Status) (told : Option (List File)) (file : List ℕ) (asked : Option ℕ) (clock : ℕ) (out note : Change)
    → BuildBy s told file asked clock out note
    → ForFile told file (λ bytes. (need left : ℕ) → s ≡ Refused (StackFull need left)
    → StackFullIn bytes asked clock need left ⊎ IsOverStack bytes asked clock need left)
stack_short_by s told file asked clock out note (inl h) =
    unless_missing told file
    (λ bytes. (need left : ℕ) → s ≡ Refused (StackFull need left) → StackFullIn bytes asked clock need left ⊎ IsOverStack bytes asked clock need left)
    (λ bytes need left e. absurd (missing_no_refusal h.0.reason (StackFull need left) (sym h.0.tells ∙ e)))
stack_short_by s told file asked clock out note (inr h) =
    of_file told file h.bytes
    (λ bytes. (need left : ℕ) → s ≡ Refused (StackFull need left) → StackFullIn bytes asked clock need left ⊎ IsOverStack bytes asked clock need left) h.whole
    (λ need left e. stack_short_of h.bytes asked clock h.answer h.says need left ((refused_iff h.answer s out note h.puts (StackFull need left)).0 e))

-- a fault of the text is the answer to it
pub refuses : (why : Fault) (bytes : List ℕ) (asked : Option ℕ) (clock : ℕ) (r : Answer) → Answers bytes asked clock r → of_bytes.IsSettled r
    → HasRoomFault why bytes asked clock → fault_in r ≡ Some why
refuses (NoTree p) bytes asked clock r says settled h = (exactly bytes asked clock r says settled (NoTree p) tt).1 h
refuses (TooDeep p) bytes asked clock r says settled h = (exactly bytes asked clock r says settled (TooDeep p) tt).1 h
refuses (TooMany what limit p) bytes asked clock r says settled h = (exactly bytes asked clock r says settled (TooMany what limit p) tt).1 h
refuses (Broken rule p) bytes asked clock r says settled h = (exactly bytes asked clock r says settled (Broken rule p) tt).1 h
refuses (InitTrap code p) bytes asked clock r says settled h = (exactly bytes asked clock r says settled (InitTrap code p) tt).1 h
refuses InitSteps bytes asked clock r says settled h = (exactly bytes asked clock r says settled InitSteps tt).1 h
refuses InitDepth bytes asked clock r says settled h = (exactly bytes asked clock r says settled InitDepth tt).1 h
refuses (InitTouches address) bytes asked clock r says settled h = (exactly bytes asked clock r says settled (InitTouches address) tt).1 h
refuses InitTooBig bytes asked clock r says settled h = (exactly bytes asked clock r says settled InitTooBig tt).1 h
refuses (Allocates p line) bytes asked clock r says settled h = (exactly bytes asked clock r says settled (Allocates p line) tt).1 h
refuses (StaticFull need) bytes asked clock r says settled h = (exactly bytes asked clock r says settled (StaticFull need) tt).1 h
refuses (TableFull need) bytes asked clock r says settled h = (exactly bytes asked clock r says settled (TableFull need) tt).1 h
refuses (StackFull need left) bytes asked clock r says settled h = stack_full_of bytes asked clock r says settled need left h
refuses (CodeFull words) bytes asked clock r says settled h = absurd h
refuses NoMember bytes asked clock r says settled h = (exactly bytes asked clock r says settled NoMember tt).1 h
refuses (NotBuilt p) bytes asked clock r says settled h = absurd h

-- a fault that is named is one of the bytes
named_by : (s : Status) (told : Option (List File)) (file : List ℕ) (asked : Option ℕ) (clock : ℕ) (out note : Change)
    → BuildBy s told file asked clock out note
    → ForFile told file (λ bytes. (why : Fault) → s ≡ Refused why → HasFault why bytes asked clock)
named_by s told file asked clock out note (inl h) =
    unless_missing told file (λ bytes. (why : Fault) → s ≡ Refused why → HasFault why bytes asked clock)
    (λ bytes why e. absurd (missing_no_refusal h.0.reason why (sym h.0.tells ∙ e)))
named_by s told file asked clock out note (inr h) =
    of_file told file h.bytes (λ bytes. (why : Fault) → s ≡ Refused why → HasFault why bytes asked clock) h.whole
    (λ why e. answered_of h.bytes asked clock h.answer h.says why ((refused_iff h.answer s out note h.puts why).0 e))

-- only a legal text that fits and whose stack has room is refused for the length of its code
pub code_full_by : (s : Status) (told : Option (List File)) (file : List ℕ) (asked : Option ℕ) (clock : ℕ) (out note : Change)
    → BuildBy s told file asked clock out note
    → ForFile told file (λ bytes. (words : ℕ) → s ≡ Refused (CodeFull words) → IsNotBuilt bytes asked clock × (65536 ≤ words))
code_full_by s told file asked clock out note h =
    with_file told file _ (λ bytes. (words : ℕ) → s ≡ Refused (CodeFull words) → IsNotBuilt bytes asked clock × (65536 ≤ words))
    (λ bytes f words e. f (CodeFull words) e) (named_by s told file asked clock out note h)

-- and only such a one as not built
pub not_built_by : (s : Status) (told : Option (List File)) (file : List ℕ) (asked : Option ℕ) (clock : ℕ) (out note : Change)
    → BuildBy s told file asked clock out note
    → ForFile told file (λ bytes. (place : Place) → s ≡ Refused (NotBuilt place) → IsNotBuilt bytes asked clock)
not_built_by s told file asked clock out note h =
    with_file told file _ (λ bytes. (place : Place) → s ≡ Refused (NotBuilt place) → IsNotBuilt bytes asked clock)
    (λ bytes f place e. (f (NotBuilt place) e).0) (named_by s told file asked clock out note h)

-- which is large
pub large_by : (s : Status) (told : Option (List File)) (file : List ℕ) (asked : Option ℕ) (clock : ℕ) (out note : Change)
    → BuildBy s told file asked clock out note
    → ForFile told file (λ bytes. (place : Place) → s ≡ Refused (NotBuilt place) → IsLarge bytes clock)
large_by s told file asked clock out note h =
    with_file told file _ (λ bytes. (place : Place) → s ≡ Refused (NotBuilt place) → IsLarge bytes clock)
    (λ bytes f place e. (f (NotBuilt place) e).2) (named_by s told file asked clock out note h)

pub first_by : (s : Status) (told : Option (List File)) (file : List ℕ) (asked : Option ℕ) (clock : ℕ) (out note : Change)
    → BuildBy s told file asked clock out note
    → (place : Place) → s ≡ Refused (NotBuilt place) → place ≡ first_place
first_by s told file asked clock out note (inl h) place e = absurd (missing_no_refusal h.0.reason (NotBuilt place) (sym h.0.tells ∙ e))
first_by s told file asked clock out note (inr h) place e =
    first_of h.bytes asked clock h.answer h.says place ((refused_iff h.answer s out note h.puts (NotBuilt place)).0 e)

-- COMPLETENESS

-- what holds of every file that is not too long
unless_long : (told : Option (List File)) (file : List ℕ) (X Large : Type 0) → X ⊎ ForFile told file (λ bytes. text_limit < length bytes)
    → ForFile told file (λ bytes. Large → (writes : List DeviceWrite) → IsFirst bytes writes → length bytes ≤ text_limit → X)
unless_long None file X Large h = tt
unless_long (Some files) file X Large (inl x) = λ large writes first short. x
unless_long (Some files) file X Large (inr long) = λ large writes first short. absurd (not_both _ long short)

put_completes : (r : Answer) (s : Status) (out note : Change) → PutBy r s out note → IsOk r ⊎ (r ≡ Err refusal.NoMemory)
    → IsDoneOrNoMemory s ⊎ (Fails out ⊎ Fails note)
put_completes (Ok built) s out note (inl h) k = inl (subst IsDoneOrNoMemory (sym h.0) tt)
put_completes (Ok built) s out note (inr (e, inl f)) k = inr (inl f.1)
put_completes (Ok built) s out note (inr (e, inr f)) k = inr (inr f.2)
put_completes (Err (refusal.Fault why)) s out note h (inl ok) = cc
put_completes (Err (refusal.Fault why)) s out note h (inr e) = cc
put_completes (Err refusal.NoMemory) s out note h k = inl (subst IsDoneOrNoMemory (sym h.0) tt)

or_rest : (A B shelf rest : Type 0) → (B → rest) → A ⊎ B → A ⊎ (shelf ⊎ rest)
or_rest A B shelf rest f (inl a) = inl a
or_rest A B shelf rest f (inr b) = inr (inr (f b))

pub complete_by : (s : Status) (told : Option (List File)) (file : List ℕ) (asked : Option ℕ) (clock : ℕ) (out note : Change) (shelf rest : Type 0)
    → BuildBy s told file asked clock out note
    → (s ≡ ReadFault → shelf) → (Fails out ⊎ Fails note → rest)
    → ForFile told file (λ bytes. IfSome asked (λ stack. 4 ≤ stack) → (writes : List DeviceWrite) → IsFirst bytes writes → length bytes ≤ text_limit
    → IsDoneOrNoMemory s ⊎ (shelf ⊎ rest))
complete_by s told file asked clock out note shelf rest (inl h) read fails =
    unless_long told file _ (IfSome asked (λ stack. 4 ≤ stack)) (missing_completes h.0.reason s _ shelf rest h.0.tells h.0.too_long read)
complete_by s told file asked clock out note shelf rest (inr h) read fails =
    of_file told file h.bytes
    (λ bytes. IfSome asked (λ stack. 4 ≤ stack) → (writes : List DeviceWrite) → IsFirst bytes writes → length bytes ≤ text_limit
    → IsDoneOrNoMemory s ⊎ (shelf ⊎ rest)) h.whole
    (λ large writes first short. or_rest _ _ shelf rest fails
    (put_completes h.answer s out note h.puts (complete_of h.bytes asked clock h.stack h.answer h.says h.some large writes first)))

-- WHAT IS PUT

not_missing : (s : Status) (reason : NoFile) → s ≡ status_without_file reason → IsShown s → ⊥
not_missing s reason tells shown = missing_not_shown reason (subst IsShown tells shown)

pub headline_by : (s : Status) (told : Option (List File)) (file : List ℕ) (asked : Option ℕ) (clock : ℕ) (out note : Change)
    → BuildBy s told file asked clock out note → s ≡ Done
    → ForImage told file asked clock (λ image layout. GainsAll out (hex_text image) × AppendsBegun note.before note.after (layout_text layout))
headline_by s told file asked clock out note (inl h) e = absurd (not_missing s h.0.reason h.0.tells (subst IsShown (sym e) tt))
headline_by s told file asked clock out note (inr h) e =
    let (built, same, hex, lines) = done_is h.answer s out note h.puts (subst IsShown (sym e) tt) in
    let is : IsBuiltOf h.bytes asked clock built = subst (λ r. Answers h.bytes asked clock r) same h.says in
    of_image told file asked clock h.bytes built
    (λ image layout. GainsAll out (hex_text image) × AppendsBegun note.before note.after (layout_text layout)) h.whole is
    (subst (λ t. GainsAll out t) is.hex hex, ([], subst (λ t. GainsAll note t) (is.note ∙ sym (append-nil (layout_text built.layout))) lines))

-- a piece is a front of itself
pub all_is_front : (old new : Option (List ℕ)) (piece : List ℕ) → AppendsAll old new piece → AppendsFront old new piece
all_is_front None new piece all = all
all_is_front (Some old) new piece all =
    (length piece, all ∙ ap (λ p. Some (old ++ p)) (sym (take_all (length piece) piece (omega arith))))

-- nothing is a front of each piece
pub no_front : (old new : Option (List ℕ)) (piece : List ℕ) → new ≡ old → AppendsFront old new piece
no_front None new piece e = e
no_front (Some old) new piece e = (0, e ∙ ap Some (sym (append-nil old)))

out_of_put : (built : Built) (out note : Change) → PutFails built out note → GainsFront out built.hex × (Fails out ⊎ GainsAll out built.hex)
out_of_put built out note (inl f) = (f.0, inl f.1)
out_of_put built out note (inr f) = (all_is_front out.before out.after built.hex f.0, inr f.0)

note_of_put : (built : Built) (out note : Change) → PutFails built out note → GainsFront note built.note
note_of_put built out note (inl f) = no_front note.before note.after built.note f.2
note_of_put built out note (inr f) = f.1

fails_of_put : (built : Built) (out note : Change) → PutFails built out note → Fails out ⊎ Fails note
fails_of_put built out note (inl f) = inl f.1
fails_of_put built out note (inr f) = inr f.2

pub out_front_by : (s : Status) (told : Option (List File)) (file : List ℕ) (asked : Option ℕ) (clock : ℕ) (out note : Change)
    → BuildBy s told file asked clock out note → s ≡ WriteFault
    → ForImage told file asked clock (λ image layout. GainsFront out (hex_text image) × (Fails out ⊎ GainsAll out (hex_text image)))
out_front_by s told file asked clock out note (inl h) e = absurd (missing_no_write h.0.reason (sym h.0.tells ∙ e))
out_front_by s told file asked clock out note (inr h) e =
    let (built, same, fails) = failed_is h.answer s out note h.puts e in
    let is : IsBuiltOf h.bytes asked clock built = subst (λ r. Answers h.bytes asked clock r) same h.says in
    of_image told file asked clock h.bytes built (λ image layout. GainsFront out (hex_text image) × (Fails out ⊎ GainsAll out (hex_text image))) h.whole is
    (subst (λ t. GainsFront out t × (Fails out ⊎ GainsAll out t)) is.hex (out_of_put built out note fails))

pub write_fault_by : (s : Status) (told : Option (List File)) (file : List ℕ) (asked : Option ℕ) (clock : ℕ) (out note : Change)
    → BuildBy s told file asked clock out note → s ≡ WriteFault
    → Fails out ⊎ Fails note
write_fault_by s told file asked clock out note (inl h) e = absurd (missing_no_write h.0.reason (sym h.0.tells ∙ e))
write_fault_by s told file asked clock out note (inr h) e =
    let (built, same, fails) = failed_is h.answer s out note h.puts e in fails_of_put built out note fails

pub before_by : (s : Status) (told : Option (List File)) (file : List ℕ) (asked : Option ℕ) (clock : ℕ) (out note : Change)
    → BuildBy s told file asked clock out note → IsBeforePuts s
    → IsSame out × IsSame note
before_by s told file asked clock out note (inl h) before = (h.0.out_same, h.1)
before_by s told file asked clock out note (inr h) before = before_same h.answer s out note h.puts before

pub answers_by : (s : Status) (told : Option (List File)) (file : List ℕ) (asked : Option ℕ) (clock : ℕ) (out note : Change)
    → BuildBy s told file asked clock out note → IsAnswerOfBuild s
answers_by s told file asked clock out note (inl h) = subst IsAnswerOfBuild (sym h.0.tells) (missing_of_build h.0.reason)
answers_by s told file asked clock out note (inr h) = put_answer h.answer s h.bytes asked clock out note h.says h.puts

-- THE SECOND SINK

pub second_by : (s : Status) (told : Option (List File)) (file : List ℕ) (asked : Option ℕ) (clock : ℕ) (out note : Change)
    → BuildBy s told file asked clock out note → IsShown s
    → ForImage told file asked clock (λ image layout. GainsAll note (layout_text layout))
second_by s told file asked clock out note (inl h) shown = absurd (not_missing s h.0.reason h.0.tells shown)
second_by s told file asked clock out note (inr h) shown =
    let (built, same, hex, lines) = done_is h.answer s out note h.puts shown in
    let is : IsBuiltOf h.bytes asked clock built = subst (λ r. Answers h.bytes asked clock r) same h.says in
    of_image told file asked clock h.bytes built (λ image layout. GainsAll note (layout_text layout)) h.whole is (subst (λ t. GainsAll note t) is.note lines)

pub second_front_by : (s : Status) (told : Option (List File)) (file : List ℕ) (asked : Option ℕ) (clock : ℕ) (out note : Change)
    → BuildBy s told file asked clock out note → s ≡ WriteFault
    → ForImage told file asked clock (λ image layout. GainsFront note (layout_text layout))
second_front_by s told file asked clock out note (inl h) e = absurd (missing_no_write h.0.reason (sym h.0.tells ∙ e))
second_front_by s told file asked clock out note (inr h) e =
    let (built, same, fails) = failed_is h.answer s out note h.puts e in
    let is : IsBuiltOf h.bytes asked clock built = subst (λ r. Answers h.bytes asked clock r) same h.says in
    of_image told file asked clock h.bytes built (λ image layout. GainsFront note (layout_text layout)) h.whole is
    (subst (λ t. GainsFront note t) is.note (note_of_put built out note fails))
