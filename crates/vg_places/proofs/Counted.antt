-- Numbers count the spots: those of a numbered tree have the numbers in order. By cases on the node; a node's own spot comes first, and those of
-- its children behind one another.
use Rattle.std.proofs.Common.{◌≡◌, ℕ, suc, ◌+◌, List, [], ◌∷◌, ◌++◌, length, refl, sym, ap, ◌∙◌, arith}
use Rattle.std.proofs.lemmas.List.{length-append}
use Rattle.vg_syntax.specs.Numbering.{count_nodes, with_id, numbered}
use Rattle.vg_syntax.specs.Tree.{Spot, Node, Nothing, Then, Arm}
use Rattle.vg_syntax.specs.Tree.{Text, ClassDecl, ComponentDecl, DeviceDecl, RegisterDecl, ProgramDecl, EntryDecl, FieldDecl, MethodDecl, ConstructorDecl, Block, Local, If, While}
use Rattle.vg_syntax.specs.Tree.{For, Return, Break, Continue, Assign, Eval, Number, CharLit, StringLit, True, False, Null, This, Name}
use Rattle.vg_syntax.specs.Tree.{NewObject, NewArray, Unary, Chain, Part, TypePart, Postfix, Member, Index, Call}
use Rattle.vg_places.specs.Places.{all, spots}

-- spots with numbers in order, from this one on
abbrev pub counted : ℕ → List Spot → List Spot
counted i [] = []
counted i (at ∷ rest) = with_id i at ∷ counted (i + 1) rest

counted_append : (i : ℕ) (xs ys : List Spot) → counted i (xs ++ ys) ≡ counted i xs ++ counted (i + length xs) ys
counted_append i [] ys = let e : i ≡ i + 0 = omega arith in ap (λ j. counted j ys) e
counted_append i (x ∷ xs) ys =
    let e : i + 1 + length xs ≡ i + suc (length xs) = omega arith in
    ap (λ l. with_id i x ∷ l) (counted_append (i + 1) xs ys ∙ ap (λ j. counted (i + 1) xs ++ counted j ys) e)

-- ---- how many there are

joined_length : (xs ys : List Spot) (m n : ℕ) → length xs ≡ m → length ys ≡ n → length (xs ++ ys) ≡ m + n
joined_length xs ys m n e f = let g = length-append xs ys in omega (arith, e, f, g)

one_length : (xs : List Spot) (m : ℕ) → length xs ≡ m → suc (length (all (xs ∷ []))) ≡ 1 + (m + 0)
one_length xs m e = let g = joined_length xs [] m 0 e refl in omega (arith, g)

two_length : (xs ys : List Spot) (m n : ℕ) → length xs ≡ m → length ys ≡ n → suc (length (all (xs ∷ ys ∷ []))) ≡ 1 + (m + (n + 0))
two_length xs ys m n e f =
    let g = joined_length ys [] n 0 f refl in
    let h = joined_length xs (ys ++ []) m (n + 0) e g in omega (arith, h)

pub length_spots : (a : Node) → length (spots a) ≡ count_nodes a
length_spots Nothing = refl
length_spots (Then a b) = joined_length (spots a) (spots b) _ _ (length_spots a) (length_spots b)
length_spots (Arm a b c) =
    joined_length (spots a) (spots b ++ spots c) _ _ (length_spots a) (joined_length (spots b) (spots c) _ _ (length_spots b) (length_spots c))
length_spots (Text at a) = one_length (spots a) _ (length_spots a)
length_spots (ClassDecl at name above a) = one_length (spots a) _ (length_spots a)
length_spots (ComponentDecl at name a) = one_length (spots a) _ (length_spots a)
length_spots (DeviceDecl at name a) = one_length (spots a) _ (length_spots a)
length_spots (RegisterDecl at name number) = refl
length_spots (ProgramDecl at name a) = one_length (spots a) _ (length_spots a)
length_spots (EntryDecl at key component method) = refl
length_spots (FieldDecl at name type a) = one_length (spots a) _ (length_spots a)
length_spots (MethodDecl at name params result a) = one_length (spots a) _ (length_spots a)
length_spots (ConstructorDecl at params calls_super a b) = two_length (spots a) (spots b) _ _ (length_spots a) (length_spots b)
length_spots (Block at a) = one_length (spots a) _ (length_spots a)
length_spots (Local at name type a) = one_length (spots a) _ (length_spots a)
length_spots (If at a b) = two_length (spots a) (spots b) _ _ (length_spots a) (length_spots b)
length_spots (While at a b) = two_length (spots a) (spots b) _ _ (length_spots a) (length_spots b)
length_spots (For at a b c d) =
    let e = joined_length (spots d) [] _ 0 (length_spots d) refl in
    let f = joined_length (spots c) (spots d ++ []) _ _ (length_spots c) e in
    let g = joined_length (spots b) (spots c ++ (spots d ++ [])) _ _ (length_spots b) f in
    let h = joined_length (spots a) (spots b ++ (spots c ++ (spots d ++ []))) _ _ (length_spots a) g in
    omega (arith, h)
length_spots (Return at a) = one_length (spots a) _ (length_spots a)
length_spots (Break at) = refl
length_spots (Continue at) = refl
length_spots (Assign at a b) = two_length (spots a) (spots b) _ _ (length_spots a) (length_spots b)
length_spots (Eval at a) = one_length (spots a) _ (length_spots a)
length_spots (Number at digits) = refl
length_spots (CharLit at spelled) = refl
length_spots (StringLit at spelled) = refl
length_spots (True at) = refl
length_spots (False at) = refl
length_spots (Null at) = refl
length_spots (This at) = refl
length_spots (Name at name) = refl
length_spots (NewObject at name a) = one_length (spots a) _ (length_spots a)
length_spots (NewArray at type a) = one_length (spots a) _ (length_spots a)
length_spots (Unary at operators a) = one_length (spots a) _ (length_spots a)
length_spots (Chain at a b) = two_length (spots a) (spots b) _ _ (length_spots a) (length_spots b)
length_spots (Part at op a) = one_length (spots a) _ (length_spots a)
length_spots (TypePart at op type) = refl
length_spots (Postfix at a b) = two_length (spots a) (spots b) _ _ (length_spots a) (length_spots b)
length_spots (Member at name) = refl
length_spots (Index at a) = one_length (spots a) _ (length_spots a)
length_spots (Call at a) = one_length (spots a) _ (length_spots a)

-- ---- their numbers

joined : (i : ℕ) (a b : Node) (xs ys : List Spot) → xs ≡ counted i (spots a) → ys ≡ counted (i + count_nodes a) (spots b)
    → xs ++ ys ≡ counted i (spots a ++ spots b)
joined i a b xs ys e f =
    ap (λ l. l ++ ys) e ∙ ap (λ l. counted i (spots a) ++ l) f
    ∙ ap (λ n. counted i (spots a) ++ counted (i + n) (spots b)) (sym (length_spots a)) ∙ sym (counted_append i (spots a) (spots b))

joined_list : (i : ℕ) (a : Node) (bs : List Spot) (xs ys : List Spot) → xs ≡ counted i (spots a) → ys ≡ counted (i + count_nodes a) bs
    → xs ++ ys ≡ counted i (spots a ++ bs)
joined_list i a bs xs ys e f =
    ap (λ l. l ++ ys) e ∙ ap (λ l. counted i (spots a) ++ l) f
    ∙ ap (λ n. counted i (spots a) ++ counted (i + n) bs) (sym (length_spots a)) ∙ sym (counted_append i (spots a) bs)

one : (i : ℕ) (at : Spot) (a : Node) (xs : List Spot) → xs ≡ counted (i + 1) (spots a) → with_id i at ∷ all (xs ∷ []) ≡ counted i (at ∷ all (spots a ∷ []))
one i at a xs e = ap (λ l. with_id i at ∷ l) (joined_list (i + 1) a [] xs [] e refl)

two : (i : ℕ) (at : Spot) (a b : Node) (xs ys : List Spot) → xs ≡ counted (i + 1) (spots a) → ys ≡ counted (i + 1 + count_nodes a) (spots b)
    → with_id i at ∷ all (xs ∷ ys ∷ []) ≡ counted i (at ∷ all (spots a ∷ spots b ∷ []))
two i at a b xs ys e f =
    ap (λ l. with_id i at ∷ l) (joined_list (i + 1) a (spots b ++ []) xs (ys ++ []) e (joined_list (i + 1 + count_nodes a) b [] ys [] f refl))

pub numbered_spots : (i : ℕ) (a : Node) → spots (numbered i a) ≡ counted i (spots a)
numbered_spots i Nothing = refl
numbered_spots i (Then a b) = joined i a b _ _ (numbered_spots i a) (numbered_spots (i + count_nodes a) b)
numbered_spots i (Arm a b c) =
    joined_list i a (spots b ++ spots c) _ _ (numbered_spots i a)
    (joined (i + count_nodes a) b c _ _ (numbered_spots (i + count_nodes a) b) (numbered_spots (i + count_nodes a + count_nodes b) c))
numbered_spots i (Text at a) = one i at a _ (numbered_spots (i + 1) a)
numbered_spots i (ClassDecl at name above a) = one i at a _ (numbered_spots (i + 1) a)
numbered_spots i (ComponentDecl at name a) = one i at a _ (numbered_spots (i + 1) a)
numbered_spots i (DeviceDecl at name a) = one i at a _ (numbered_spots (i + 1) a)
numbered_spots i (RegisterDecl at name number) = refl
numbered_spots i (ProgramDecl at name a) = one i at a _ (numbered_spots (i + 1) a)
numbered_spots i (EntryDecl at key component method) = refl
numbered_spots i (FieldDecl at name type a) = one i at a _ (numbered_spots (i + 1) a)
numbered_spots i (MethodDecl at name params result a) = one i at a _ (numbered_spots (i + 1) a)
numbered_spots i (ConstructorDecl at params calls_super a b) = two i at a b _ _ (numbered_spots (i + 1) a) (numbered_spots (i + 1 + count_nodes a) b)
numbered_spots i (Block at a) = one i at a _ (numbered_spots (i + 1) a)
numbered_spots i (Local at name type a) = one i at a _ (numbered_spots (i + 1) a)
numbered_spots i (If at a b) = two i at a b _ _ (numbered_spots (i + 1) a) (numbered_spots (i + 1 + count_nodes a) b)
numbered_spots i (While at a b) = two i at a b _ _ (numbered_spots (i + 1) a) (numbered_spots (i + 1 + count_nodes a) b)
numbered_spots i (For at a b c d) =
    ap (λ l. with_id i at ∷ l)
    (joined_list (i + 1) a (spots b ++ (spots c ++ (spots d ++ []))) _ _ (numbered_spots (i + 1) a)
    (joined_list (i + 1 + count_nodes a) b (spots c ++ (spots d ++ [])) _ _ (numbered_spots (i + 1 + count_nodes a) b)
    (joined_list (i + 1 + count_nodes a + count_nodes b) c (spots d ++ []) _ _ (numbered_spots (i + 1 + count_nodes a + count_nodes b) c)
    (joined_list (i + 1 + count_nodes a + count_nodes b + count_nodes c) d [] _ [] (numbered_spots (i + 1 + count_nodes a + count_nodes b + count_nodes c) d) refl))))
numbered_spots i (Return at a) = one i at a _ (numbered_spots (i + 1) a)
numbered_spots i (Break at) = refl
numbered_spots i (Continue at) = refl
numbered_spots i (Assign at a b) = two i at a b _ _ (numbered_spots (i + 1) a) (numbered_spots (i + 1 + count_nodes a) b)
numbered_spots i (Eval at a) = one i at a _ (numbered_spots (i + 1) a)
numbered_spots i (Number at digits) = refl
numbered_spots i (CharLit at spelled) = refl
numbered_spots i (StringLit at spelled) = refl
numbered_spots i (True at) = refl
numbered_spots i (False at) = refl
numbered_spots i (Null at) = refl
numbered_spots i (This at) = refl
numbered_spots i (Name at name) = refl
numbered_spots i (NewObject at name a) = one i at a _ (numbered_spots (i + 1) a)
numbered_spots i (NewArray at type a) = one i at a _ (numbered_spots (i + 1) a)
numbered_spots i (Unary at operators a) = one i at a _ (numbered_spots (i + 1) a)
numbered_spots i (Chain at a b) = two i at a b _ _ (numbered_spots (i + 1) a) (numbered_spots (i + 1 + count_nodes a) b)
numbered_spots i (Part at op a) = one i at a _ (numbered_spots (i + 1) a)
numbered_spots i (TypePart at op type) = refl
numbered_spots i (Postfix at a b) = two i at a b _ _ (numbered_spots (i + 1) a) (numbered_spots (i + 1 + count_nodes a) b)
numbered_spots i (Member at name) = refl
numbered_spots i (Index at a) = one i at a _ (numbered_spots (i + 1) a)
numbered_spots i (Call at a) = one i at a _ (numbered_spots (i + 1) a)
