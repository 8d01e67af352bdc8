-- What the second sink holds, behind the second text and the fault line.
use Rattle.std.proofs.Common.{◌≡◌, ℕ, zero, suc, ◌⊎◌, List, [], ◌∷◌, ◌++◌, take, Option, Some, None, Result, Ok, Err, refl, sym, ap, ◌∙◌, subst, inl, inr, append-nil}
use Rattle.std.specs.Prelude.{OnErr, OnOk}
use Rattle.vg_io.specs.Piece.{AppendsAll, AppendsFront}
use Rattle.vg_io.specs.declared.file.File.{File}
use Rattle.vg_words.specs.Commands.{Command, Build, Run, Sim, Why, Try}
use Rattle.vg_hex.specs.HexText.{hex_text}
use Rattle.vg_layout.specs.Text.{layout_text}
use Rattle.vg_status.specs.declared.status.Status.{Status}
use Rattle.vg_status.specs.declared.status.Status.TheVariants.{Done, Refused, Usage, ReadFault, WriteFault, NoMemory, TooLong}
use Rattle.vg_status.specs.declared.status.Status.TheVariants.{Stopped, Wants, Budget, Depth, HexRefused, ScriptRefused, BadInstruction}
use Rattle.vg_status.specs.Lines.{fault_line}
use Rattle.vg_drive.specs.Answers.{AppendsBegun, AppendsFronts, AppendsFrontAndAll, ForImage, ForSecond}
use Rattle.vg_commands.specs.Commands.{OnBuild, OnTry}
use Rattle.vg_commands.specs.Leaves.{Change, GainsAll, GainsFront}
use Rattle.vg_drive.specs.Mirrors.{AnswerBy}
use Rattle.vg_commands.specs.Endings.{status_of_ending}
use Rattle.vg_status.specs.Statuses.{IsBeforePuts, IsShown}
use Rattle.vg_drive.specs.Trials.{ForTry, trial_of, try_lines}
use Rattle.vg_drive.proofs.Builds.{all_is_front, headline_by, no_front, second_by, second_front_by}
use Rattle.vg_drive.proofs.Commands.{note_before_of, of_image, on_build, on_try, with_second}
use Rattle.vg_drive.proofs.Tries as tries

-- nothing is appended
nothing : (old new : Option (List ℕ)) → new ≡ old → AppendsAll old new []
nothing None new e = e
nothing (Some old) new e = e ∙ ap Some (sym (append-nil old))

second_all : (c : Option Command) (s : Status) (told : Option (List File)) (out note : Change) → AnswerBy c s told out note → IsShown s
    → ForSecond c told (λ second. GainsAll note second)
second_all None s told out note h shown = nothing note.before note.after h.2
second_all (Some (Build file asked clock)) s told out note h shown = second_by s told file asked clock out note h shown
second_all (Some (Run file script steps)) s told out note h shown = nothing note.before note.after h.1
second_all (Some (Sim hex script steps)) s told out note h shown = nothing note.before note.after h.1
second_all (Some (Why file member)) s told out note h shown = nothing note.before note.after h.1
second_all (Some (Try objects)) s told out note h shown = tries.second_by s objects out note h shown

-- a second text that was put whole, where nothing came behind it
pub second_of : (c : Option Command) (s : Status) (told : Option (List File)) (out note : Change) (new : Option (List ℕ)) → AnswerBy c s told out note
    → IsShown s
    → new ≡ note.after → ForSecond c told (λ second. AppendsAll note.before new second)
second_of c s told out note new h shown e =
    subst (λ x. ForSecond c told (λ second. AppendsAll note.before x second)) (sym e) (second_all c s told out note h shown)

-- the layout of the image, where nothing came behind the second text
pub headline_of : (c : Option Command) (s : Status) (told : Option (List File)) (out note : Change) (new : Option (List ℕ)) → AnswerBy c s told out note
    → (IsShown s → new ≡ note.after) → s ≡ Done
    → OnBuild c (λ file asked clock. ForImage told file asked clock (λ image layout. GainsAll out (hex_text image) × AppendsBegun note.before new (layout_text layout)))
headline_of c s told out note new h same e =
    on_build c s told out note
    (λ file asked clock. ForImage told file asked clock (λ image layout. GainsAll out (hex_text image) × AppendsBegun note.before new (layout_text layout))) h
    (λ file asked clock b. of_image told file asked clock
    (λ image layout. GainsAll out (hex_text image) × AppendsBegun note.before note.after (layout_text layout))
    (λ image layout. GainsAll out (hex_text image) × AppendsBegun note.before new (layout_text layout))
    (λ image layout k. (k.0, subst (λ x. AppendsBegun note.before x (layout_text layout)) (sym (same (subst IsShown (sym e) tt))) k.1))
    (headline_by s told file asked clock out note b e))

-- what `try` shows, where nothing came behind the second text
pub tried_of : (c : Option Command) (s : Status) (told : Option (List File)) (out note : Change) (new : Option (List ℕ)) → AnswerBy c s told out note
    → (IsShown s → new ≡ note.after) → IsShown s
    → OnTry c (λ n. ForTry n (λ built. (s ≡ status_of_ending (trial_of built.image).ended) × GainsAll out (try_lines n built)
    × AppendsAll note.before new (hex_text built.image)))
tried_of c s told out note new h same shown =
    on_try c s told out note
    (λ n. ForTry n (λ built. (s ≡ status_of_ending (trial_of built.image).ended) × GainsAll out (try_lines n built)
    × AppendsAll note.before new (hex_text built.image))) h
    (λ n t. tries.with_try n
    (λ built. (s ≡ status_of_ending (trial_of built.image).ended) × GainsAll out (try_lines n built) × AppendsAll note.before note.after (hex_text built.image))
    (λ built. (s ≡ status_of_ending (trial_of built.image).ended) × GainsAll out (try_lines n built) × AppendsAll note.before new (hex_text built.image))
    (λ built k. (k.0, k.1, subst (λ x. AppendsAll note.before x (hex_text built.image)) (sym (same shown)) k.2))
    (tries.shown_by s n out note t shown))

-- a front of the second text where a put failed
second_front : (c : Option Command) (s : Status) (told : Option (List File)) (out note : Change) → AnswerBy c s told out note → s ≡ WriteFault
    → ForSecond c told (λ second. GainsFront note second)
second_front None s told out note h e = no_front note.before note.after [] h.2
second_front (Some (Build file asked clock)) s told out note h e = second_front_by s told file asked clock out note h e
second_front (Some (Run file script steps)) s told out note h e = no_front note.before note.after [] h.1
second_front (Some (Sim hex script steps)) s told out note h e = no_front note.before note.after [] h.1
second_front (Some (Why file member)) s told out note h e = no_front note.before note.after [] h.1
second_front (Some (Try objects)) s told out note h e = tries.second_front_by s objects out note h e

-- two fronts one behind the other
fronts : (old mid new : Option (List ℕ)) (first second : List ℕ) → AppendsFront old mid first → AppendsFront mid new second → AppendsFronts old new first second
fronts None mid new first second h k = subst (λ m. AppendsFront m new second) h k
fronts (Some old) mid new first second (m, e) k = behind (subst (λ x. AppendsFront x new second) e k)
  where
    behind : AppendsFront (Some (old ++ take m first)) new second → AppendsFronts (Some old) new first second
    behind (n, f) = (m, n, f)

front_and_all : (old mid new : Option (List ℕ)) (first second : List ℕ) → AppendsFront old mid first → AppendsAll mid new second
    → AppendsFrontAndAll old new first second
front_and_all None mid new first second h k = subst (λ m. AppendsAll m new second) h k
front_and_all (Some old) mid new first second (m, e) k = (m, subst (λ x. AppendsAll x new second) e k)

pub fronts_of : (c : Option Command) (s : Status) (told : Option (List File)) (out note : Change) (new : Option (List ℕ)) (line : List ℕ)
    → AnswerBy c s told out note
    → AppendsFront note.after new line → s ≡ WriteFault → ForSecond c told (λ second. AppendsFronts note.before new second line)
fronts_of c s told out note new line h k e =
    with_second c told (λ second. GainsFront note second) (λ second. AppendsFronts note.before new second line)
    (λ second front. fronts note.before note.after new second line front k) (second_front c s told out note h e)

pub line_last_of : (c : Option Command) (s : Status) (told : Option (List File)) (out note : Change) (new : Option (List ℕ)) (line : List ℕ)
    (rose later : Type 0)
    → AnswerBy c s told out note → rose ⊎ AppendsAll note.after new line → (rose → later) → s ≡ WriteFault
    → later ⊎ ForSecond c told (λ second. AppendsFrontAndAll note.before new second line)
line_last_of c s told out note new line rose later h (inl r) up e = inl (up r)
line_last_of c s told out note new line rose later h (inr k) up e =
    inr (with_second c told (λ second. GainsFront note second) (λ second. AppendsFrontAndAll note.before new second line)
    (λ second front. front_and_all note.before note.after new second line front k) (second_front c s told out note h e))

-- before the first put the second sink is as it was
pub line_front_of : (c : Option Command) (s : Status) (told : Option (List File)) (out note : Change) (new : Option (List ℕ)) (line : List ℕ)
    → AnswerBy c s told out note → AppendsFront note.after new line → IsBeforePuts s → AppendsFront note.before new line
line_front_of c s told out note new line h k before = subst (λ x. AppendsFront x new line) (note_before_of c s told out note h before) k

pub line_of : (c : Option Command) (s : Status) (told : Option (List File)) (out note : Change) (new : Option (List ℕ)) (line : List ℕ) (rose later : Type 0)
    → AnswerBy c s told out note → rose ⊎ AppendsAll note.after new line → (rose → later) → IsBeforePuts s → later ⊎ AppendsAll note.before new line
line_of c s told out note new line rose later h (inl r) up before = inl (up r)
line_of c s told out note new line rose later h (inr k) up before = inr (subst (λ x. AppendsAll x new line) (note_before_of c s told out note h before) k)

-- ---- the fault line

-- what a put appends is a front of the piece
pub put_front : {V E : Type 0} (r : Result V E) (old new : Option (List ℕ)) (piece : List ℕ) → OnOk r (AppendsAll old new piece)
    → OnErr r (AppendsFront old new piece) → AppendsFront old new piece
put_front (Ok v) old new piece all front = all_is_front old new piece all
put_front (Err e) old new piece all front = front

take_none : (k : ℕ) (xs : List ℕ) → xs ≡ [] → take k xs ≡ []
take_none zero xs e = refl
take_none (suc k) [] e = refl
take_none (suc k) (x ∷ xs) e = cc

-- a front of nothing is nothing
front_of_nothing : (old new : Option (List ℕ)) → AppendsFront old new [] → new ≡ old
front_of_nothing None new e = e
front_of_nothing (Some old) new (k, e) = e ∙ ap Some (ap (λ x. old ++ x) (take_none k [] refl) ∙ append-nil old)

-- an answer behind all puts has no fault line
pub shown_none : (s : Status) (old new : Option (List ℕ)) → AppendsFront old new (fault_line s) → IsShown s → new ≡ old
shown_none Done old new h shown = front_of_nothing old new h
shown_none (Refused fault) old new h shown = absurd shown
shown_none Usage old new h shown = absurd shown
shown_none ReadFault old new h shown = absurd shown
shown_none WriteFault old new h shown = absurd shown
shown_none NoMemory old new h shown = absurd shown
shown_none TooLong old new h shown = absurd shown
shown_none (Stopped code) old new h shown = front_of_nothing old new h
shown_none (Wants address) old new h shown = front_of_nothing old new h
shown_none Budget old new h shown = front_of_nothing old new h
shown_none Depth old new h shown = front_of_nothing old new h
shown_none (HexRefused fault) old new h shown = absurd shown
shown_none (ScriptRefused line) old new h shown = absurd shown
shown_none (BadInstruction pc word) old new h shown = front_of_nothing old new h
