-- The parts of a program of constants: each is spelled by its pieces.
-- For each part the parse is written down by the alternatives of the grammar, with its tokens as leaves; assignments and
-- registers by induction.
use Rattle.std.proofs.Common.{◌≡◌, ℕ, List, [], ◌∷◌, ◌++◌, refl, sym, ap, ◌∙◌}
use Rattle.std.specs.List.{flat_map}
use Rattle.vg_syntax.specs.declared.kind.Kind.TheVariants as kind
use Rattle.vg_syntax.specs.declared.token.Token.{Token}
use Rattle.vg_syntax.specs.declared.grammar.Symbol.TheVariants.{Use}
use Rattle.vg_syntax.specs.declared.grammar.Part.TheVariants as part
use Rattle.vg_first_text.specs.FirstText.{First, FirstAssignment, FirstRegister, assignment_pieces, register_pieces, first_pieces}
use Rattle.vg_syntax.specs.Parses.{Parse, IsParse, Sentence}
use Rattle.vg_first_text.specs.Pieces.{Piece, Named, Digits, Plain, pieces}
use Rattle.vg_syntax.specs.Made.{Tree, Row, Type', Params, Value, kind_in, text_in, node_in, row_in, type_in, params_in, component_in, method_in}
use Rattle.vg_syntax.specs.Made.{Pair}
use Rattle.vg_syntax.specs.Tree.{Node, Nothing, Then, Text, ComponentDecl, DeviceDecl, RegisterDecl, ProgramDecl, EntryDecl, MethodDecl, Block, Assign}
use Rattle.vg_syntax.specs.Tree.{Number, Name, Postfix, Member, NoType}
use Rattle.vg_syntax.specs.Reads.{spot, kids_of, made, literal, suffixed, postfix_of, statement_of_two, assigned, declared, values}
use Rattle.vg_first_laws.proofs.Nodes.{IsTree, IsRow, IsNumber, IsName, IsSuffix, IsRegister, IsAssign, AreAssigns, IsRegisterDecl, AreRegisterDecls}
use Rattle.vg_first_laws.proofs.Nodes.{IsBlock, IsMethod, IsOnly, IsComponent, IsDevice, IsEntry, IsProgram, IsMore, IsFirstNode}
use Rattle.vg_first_laws.proofs.Spelled.{Goes, IsLeaf, First as FirstValue, Alone, one_value, two_values, three_values, five_values}
use Rattle.vg_first_laws.proofs.Spelled.{nil, sign, one_of, before, empty, level_of, whole_of}

module _ (bytes : List ℕ) where
  -- an operand alone is an expression
  alone : (P : Value → Type 0) (ps qs : List Piece) → Goes bytes ps (Use part.Postfix ∷ []) (Alone P) qs → Goes bytes ps (Use part.Expression ∷ []) (Alone P) qs
  alone P ps qs g =
      level_of bytes part.Expression part.AndLevel part.OrRest 1 P ps qs refl refl refl (λ v w. refl)
      (level_of bytes part.AndLevel part.EqualityLevel part.AndRest 1 P ps qs refl refl refl (λ v w. refl)
      (level_of bytes part.EqualityLevel part.ComparisonLevel part.EqualityRest 2 P ps qs refl refl refl (λ v w. refl)
      (level_of bytes part.ComparisonLevel part.BitOrLevel part.ComparisonRest 5 P ps qs refl refl refl (λ v w. refl)
      (level_of bytes part.BitOrLevel part.BitXorLevel part.BitOrRest 1 P ps qs refl refl refl (λ v w. refl)
      (level_of bytes part.BitXorLevel part.BitAndLevel part.BitXorRest 1 P ps qs refl refl refl (λ v w. refl)
      (level_of bytes part.BitAndLevel part.ShiftLevel part.BitAndRest 1 P ps qs refl refl refl (λ v w. refl)
      (level_of bytes part.ShiftLevel part.ConcatLevel part.ShiftRest 2 P ps qs refl refl refl (λ v w. refl)
      (level_of bytes part.ConcatLevel part.SumLevel part.ConcatRest 1 P ps qs refl refl refl (λ v w. refl)
      (level_of bytes part.SumLevel part.ProductLevel part.SumRest 2 P ps qs refl refl refl (λ v w. refl)
      (level_of bytes part.ProductLevel part.CastLevel part.ProductRest 3 P ps qs refl refl refl (λ v w. refl)
      (level_of bytes part.CastLevel part.Unary part.CastRest 1 P ps qs refl refl refl (λ v w. refl)
      (one_of bytes part.Unary 3 (Use part.Postfix ∷ []) (Alone P) P ps qs refl (one_value P (λ vs. P (made part.Unary (kids_of vs))) (λ v p. p)) g))))))))))))

  no_suffixes : (qs : List Piece) → Goes bytes qs (Use part.Suffixes ∷ []) (Alone (λ v. v.made ≡ Row Nothing)) qs
  no_suffixes qs = empty bytes part.Suffixes 3 (λ v. v.made ≡ Row Nothing) qs refl refl

  -- a literal or a name
  number : (digits : List ℕ) (qs : List Piece) → Goes bytes (Digits digits ∷ qs) (Use part.Expression ∷ []) (Alone (IsTree (IsNumber digits))) qs
  number digits qs =
      alone (IsTree (IsNumber digits)) _ _ (one_of bytes part.Postfix 0 _ _ _ _ _ refl
      (two_values (IsTree (IsNumber digits)) (λ v. v.made ≡ Row Nothing) (λ vs. IsTree (IsNumber digits) (made part.Postfix (kids_of vs)))
      (λ v w (n, e, (p, is)) r. (n, ap (λ m. (postfix_of (kind_in m) (record v { made = m }) w).made) e ∙ ap (λ m. (suffixed (record v { made = Tree n }) (row_in m)).made) r, (p, is))))
      (before bytes part.Primary _ _ _ _ _ _ (one_of bytes part.Primary 0 _ _ _ _ _ refl
      (one_value (IsLeaf (Digits digits)) (λ vs. IsTree (IsNumber digits) (made part.Primary (kids_of vs)))
      (λ v h. (Number (spot v.place) digits, ap (λ m. Tree (literal (kind_in m) v.place (text_in m))) h, (v.place, refl))))
      (sign bytes (Digits digits) _ _ _ _ (nil bytes qs)))
      (no_suffixes qs)))

  member : (device register : List ℕ) (qs : List Piece) → Goes bytes (Named device ∷ Plain kind.Dot ∷ Named register ∷ qs) (Use part.Expression ∷ [])
      (Alone (IsTree (IsRegister device register))) qs
  member device register qs =
      alone (IsTree (IsRegister device register)) _ _ (one_of bytes part.Postfix 0 _ _ _ _ _ refl
      (two_values (IsTree (IsName device)) (IsRow (IsSuffix register)) (λ vs. IsTree (IsRegister device register) (made part.Postfix (kids_of vs)))
      (λ v w (n, e, (p, is)) (s, f, (q, so)). (
        Postfix (spot v.place) n s,
        ap (λ m. (postfix_of (kind_in m) (record v { made = m }) w).made) e
            ∙ ap (λ m. (suffixed (record v { made = Tree n }) (row_in m)).made) f ∙ ap (λ x. (suffixed (record v { made = Tree n }) x).made) so
            ∙ ap (λ x. Tree (Postfix (spot v.place) n x)) (sym so),
        (v.place, p, q, ap (λ x. Postfix (spot v.place) x s) is ∙ ap (Postfix (spot v.place) (Name (spot p) device)) so),
      )))
      (before bytes part.Primary _ _ _ _ _ _ (one_of bytes part.Primary 7 _ _ _ _ _ refl
      (one_value (IsLeaf (Named device)) (λ vs. IsTree (IsName device) (made part.Primary (kids_of vs)))
      (λ v h. (Name (spot v.place) device, ap (λ m. Tree (literal (kind_in m) v.place (text_in m))) h, (v.place, refl))))
      (sign bytes (Named device) _ _ _ _ (nil bytes _)))
      (one_of bytes part.Suffixes 0 _ _ _ _ _ refl
      (three_values (IsLeaf (Plain kind.Dot)) (IsLeaf (Named register)) (λ v. v.made ≡ Row Nothing)
      (λ vs. IsRow (IsSuffix register) (made part.Suffixes (kids_of vs)))
      (λ v w x h k r. (
        Then (Member (spot v.place) register) Nothing,
        ap (λ m. Row (Then (Member (spot v.place) (text_in m)) (row_in x.made))) k
            ∙ ap (λ m. Row (Then (Member (spot v.place) register) (row_in m))) r,
        (v.place, refl),
      )))
      (sign bytes (Plain kind.Dot) _ _ _ _ (sign bytes (Named register) _ _ _ _ (no_suffixes qs))))))

  assignment : (a : FirstAssignment) (qs : List Piece) → Goes bytes (assignment_pieces a ++ qs) (Use part.Statement ∷ []) (Alone (IsTree (IsAssign a))) qs
  assignment a qs =
      one_of bytes part.Statement 8 _ _ _ _ _ refl
      (two_values (IsTree (IsAssign a)) (IsLeaf (Plain kind.Semicolon)) (λ vs. IsTree (IsAssign a) (made part.Statement (kids_of vs)))
      (λ v w (n, e, is) h. (n, ap (λ m. statement_of_two v.place m) e, is)))
      (before bytes part.Simple _ _ _ _ _ _
      (one_of bytes part.Simple 0 _ _ _ _ _ refl
      (two_values (IsTree (IsRegister a.device a.register)) (IsTree (IsNumber a.digits)) (λ vs. IsTree (IsAssign a) (made part.Simple (kids_of vs)))
      (λ v w (n, e, (p, q, r, is)) (m, f, (t, so)). (
        Assign (spot v.place) n m,
        ap (λ x. Tree (assigned v.place (node_in x) (node_in w.made))) e ∙ ap (λ x. Tree (assigned v.place n (node_in x))) f
            ∙ ap (λ x. Tree (assigned v.place n x)) so ∙ ap (λ x. Tree (Assign (spot v.place) n x)) (sym so),
        (v.place, p, q, r, t, ap (λ x. Assign (spot v.place) x m) is ∙ ap (Assign (spot v.place) _) so),
      )))
      (before bytes part.Expression _ _ _ _ _ _ (member a.device a.register _)
      (one_of bytes part.Assigned 0 _ _ _ _ _ refl
      (two_values (IsLeaf (Plain kind.Assign)) (IsTree (IsNumber a.digits)) (λ vs. IsTree (IsNumber a.digits) (made part.Assigned (kids_of vs)))
      (λ v w h (n, e, is). (n, ap (λ x. Tree (node_in x)) e, is)))
      (sign bytes (Plain kind.Assign) _ _ _ _ (number a.digits _)))))
      (sign bytes (Plain kind.Semicolon) _ _ _ _ (nil bytes qs)))

  statements : (xs : List FirstAssignment) (qs : List Piece) → Goes bytes (flat_map assignment_pieces xs ++ qs) (Use part.Statements ∷ [])
      (Alone (IsRow (AreAssigns xs))) qs
  statements [] qs = empty bytes part.Statements 1 (IsRow (AreAssigns [])) qs refl (Nothing, refl, refl)
  statements (a ∷ xs) qs =
      one_of bytes part.Statements 0 _ _ _ _ _ refl
      (two_values (IsTree (IsAssign a)) (IsRow (AreAssigns xs)) (λ vs. IsRow (AreAssigns (a ∷ xs)) (made part.Statements (kids_of vs)))
      (λ v w (n, e, is) (rest, f, are).
      (Then n rest, ap (λ x. Row (Then (node_in x) (row_in w.made))) e ∙ ap (λ x. Row (Then n (row_in x))) f, (n, rest, refl, is, are))))
      (before bytes part.Statement _ _ _ _ (flat_map assignment_pieces xs ++ qs) _ (assignment a (flat_map assignment_pieces xs ++ qs)) (statements xs qs))

  register : (r : FirstRegister) (qs : List Piece) → Goes bytes (register_pieces r ++ qs) (Use part.Register ∷ []) (Alone (IsTree (IsRegisterDecl r))) qs
  register r qs =
      one_of bytes part.Register 0 _ _ _ _ _ refl
      (five_values (IsLeaf (Plain kind.Register)) (IsLeaf (Named r.name)) (IsLeaf (Plain kind.Assign)) (IsLeaf (Digits r.digits)) (IsLeaf (Plain kind.Semicolon))
      (λ vs. IsTree (IsRegisterDecl r) (made part.Register (kids_of vs)))
      (λ v w x y z h k l m n. (
        RegisterDecl (spot v.place) r.name r.digits,
        ap (λ t. Tree (RegisterDecl (spot v.place) (text_in t) (text_in y.made))) k
            ∙ ap (λ t. Tree (RegisterDecl (spot v.place) r.name (text_in t))) m,
        (v.place, refl),
      )))
      (sign bytes (Plain kind.Register) _ _ _ _ (sign bytes (Named r.name) _ _ _ _ (sign bytes (Plain kind.Assign) _ _ _ _
      (sign bytes (Digits r.digits) _ _ _ _ (sign bytes (Plain kind.Semicolon) _ _ _ _ (nil bytes qs))))))

  registers : (rs : List FirstRegister) (qs : List Piece) → Goes bytes (flat_map register_pieces rs ++ qs) (Use part.Registers ∷ [])
      (Alone (IsRow (AreRegisterDecls rs))) qs
  registers [] qs = empty bytes part.Registers 1 (IsRow (AreRegisterDecls [])) qs refl (Nothing, refl, refl)
  registers (r ∷ rs) qs =
      one_of bytes part.Registers 0 _ _ _ _ _ refl
      (two_values (IsTree (IsRegisterDecl r)) (IsRow (AreRegisterDecls rs)) (λ vs. IsRow (AreRegisterDecls (r ∷ rs)) (made part.Registers (kids_of vs)))
      (λ v w (n, e, is) (rest, f, are).
      (Then n rest, ap (λ x. Row (Then (node_in x) (row_in w.made))) e ∙ ap (λ x. Row (Then n (row_in x))) f, (n, rest, refl, is, are))))
      (before bytes part.Register _ _ _ _ (flat_map register_pieces rs ++ qs) _ (register r (flat_map register_pieces rs ++ qs)) (registers rs qs))

  block : (xs : List FirstAssignment) (qs : List Piece) → Goes bytes (Plain kind.LeftBrace ∷ (flat_map assignment_pieces xs ++ Plain kind.RightBrace ∷ qs))
      (Use part.Block ∷ []) (Alone (IsTree (IsBlock xs))) qs
  block xs qs =
      one_of bytes part.Block 0 _ _ _ _ _ refl
      (three_values (IsLeaf (Plain kind.LeftBrace)) (IsRow (AreAssigns xs)) (IsLeaf (Plain kind.RightBrace))
      (λ vs. IsTree (IsBlock xs) (made part.Block (kids_of vs)))
      (λ v w x h (row, e, are) k. (Block (spot v.place) row, ap (λ t. Tree (Block (spot v.place) (row_in t))) e, (v.place, row, refl, are))))
      (sign bytes (Plain kind.LeftBrace) _ _ _ _
      (before bytes part.Statements _ _ _ _ _ _ (statements xs _) (sign bytes (Plain kind.RightBrace) _ _ _ _ (nil bytes qs))))

  no_params : (qs : List Piece) → Goes bytes (Plain kind.LeftParen ∷ Plain kind.RightParen ∷ qs) (Use part.Parameters ∷ []) (Alone (λ v. v.made ≡ Params [])) qs
  no_params qs =
      one_of bytes part.Parameters 0 _ _ _ _ _ refl
      (three_values (IsLeaf (Plain kind.LeftParen)) (λ v. v.made ≡ Params []) (IsLeaf (Plain kind.RightParen))
      (λ vs. (made part.Parameters (kids_of vs)).made ≡ Params []) (λ v w x h e k. e))
      (sign bytes (Plain kind.LeftParen) _ _ _ _
      (before bytes part.ParameterList _ _ _ _ _ _ (empty bytes part.ParameterList 1 (λ v. v.made ≡ Params []) _ refl refl)
      (sign bytes (Plain kind.RightParen) _ _ _ _ (nil bytes qs))))

  -- method m ( ) { assignments }
  method : (name : List ℕ) (xs : List FirstAssignment) (qs : List Piece)
      → Goes bytes (Plain kind.Method ∷ Named name ∷ Plain kind.LeftParen ∷ Plain kind.RightParen ∷ Plain kind.LeftBrace ∷
      (flat_map assignment_pieces xs ++ Plain kind.RightBrace ∷ qs)) (Use part.Member ∷ []) (Alone (IsTree (IsMethod name xs))) qs
  method name xs qs =
      one_of bytes part.Member 1 _ _ _ _ _ refl
      (five_values (IsLeaf (Plain kind.Method)) (IsLeaf (Named name)) (λ v. v.made ≡ Params []) (λ v. v.made ≡ Type' NoType) (IsTree (IsBlock xs))
      (λ vs. IsTree (IsMethod name xs) (made part.Member (kids_of vs)))
      (λ v w x y z h k l m (n, e, (p, row, is, are)). (
        MethodDecl (spot v.place) name [] NoType n,
        ap (λ t. Tree (MethodDecl (spot v.place) (text_in t) (params_in x.made) (type_in y.made) (node_in z.made))) k
            ∙ ap (λ t. Tree (MethodDecl (spot v.place) name (params_in t) (type_in y.made) (node_in z.made))) l
            ∙ ap (λ t. Tree (MethodDecl (spot v.place) name [] (type_in t) (node_in z.made))) m
            ∙ ap (λ t. Tree (MethodDecl (spot v.place) name [] NoType (node_in t))) e,
        (v.place, p, row, ap (MethodDecl (spot v.place) name [] NoType) is, are),
      )))
      (sign bytes (Plain kind.Method) _ _ _ _ (sign bytes (Named name) _ _ _ _
      (before bytes part.Parameters _ _ _ _ _ _ (no_params _)
      (before bytes part.Result _ _ _ _ _ _ (empty bytes part.Result 1 (λ v. v.made ≡ Type' NoType) _ refl refl) (block xs qs)))))

  component : (name method_name : List ℕ) (xs : List FirstAssignment) (qs : List Piece)
      → Goes bytes (Plain kind.Component ∷ Named name ∷ Plain kind.LeftBrace ∷ Plain kind.Method ∷ Named method_name ∷ Plain kind.LeftParen ∷
      Plain kind.RightParen ∷ Plain kind.LeftBrace
      ∷ (flat_map assignment_pieces xs ++ Plain kind.RightBrace ∷ Plain kind.RightBrace ∷ qs)) (Use part.Declaration ∷ [])
      (Alone (IsTree (IsComponent name method_name xs))) qs
  component name method_name xs qs =
      one_of bytes part.Declaration 1 _ _ _ _ _ refl
      (three_values (IsLeaf (Plain kind.Component)) (IsLeaf (Named name)) (IsRow (IsOnly (IsMethod method_name xs)))
      (λ vs. IsTree (IsComponent name method_name xs) (made part.Declaration (kids_of vs)))
      (λ v w x (t, h) k (n, e, (m, is, (q, r, row, so, are))). (
        ComponentDecl (spot v.place) name n,
        ap (λ u. Tree (declared (kind_in u) v.place (text_in w.made) (row_in x.made))) h
            ∙ ap (λ u. Tree (ComponentDecl (spot v.place) (text_in u) (row_in x.made))) k
            ∙ ap (λ u. Tree (ComponentDecl (spot v.place) name (row_in u))) e,
        (v.place, q, r, row, ap (ComponentDecl (spot v.place) name) (is ∙ ap (λ u. Then u Nothing) so), are),
      )))
      (sign bytes (Plain kind.Component) _ _ _ _ (sign bytes (Named name) _ _ _ _
      (one_of bytes part.ClassBody 0 _ _ _ _ _ refl
      (three_values (IsLeaf (Plain kind.LeftBrace)) (IsRow (IsOnly (IsMethod method_name xs))) (IsLeaf (Plain kind.RightBrace))
      (λ vs. IsRow (IsOnly (IsMethod method_name xs)) (made part.ClassBody (kids_of vs))) (λ v w x h r k. r))
      (sign bytes (Plain kind.LeftBrace) _ _ _ _
      (before bytes part.Members _ _ _ _ _ _
      (one_of bytes part.Members 0 _ _ _ _ _ refl
      (two_values (IsTree (IsMethod method_name xs)) (λ v. v.made ≡ Row Nothing) (λ vs. IsRow (IsOnly (IsMethod method_name xs)) (made part.Members (kids_of vs)))
      (λ v w (n, e, is) f.
      (Then n Nothing, ap (λ u. Row (Then (node_in u) (row_in w.made))) e ∙ ap (λ u. Row (Then n (row_in u))) f, (n, refl, is))))
      (before bytes part.Member _ _ _ _ _ _ (method method_name xs _) (empty bytes part.Members 1 (λ v. v.made ≡ Row Nothing) _ refl refl)))
      (sign bytes (Plain kind.RightBrace) _ _ _ _ (nil bytes qs)))))))

  device : (name : List ℕ) (rs : List FirstRegister) (qs : List Piece)
      → Goes bytes (Plain kind.Device ∷ Named name ∷ Plain kind.LeftBrace ∷ (flat_map register_pieces rs ++ Plain kind.RightBrace ∷ qs))
      (Use part.Declaration ∷ []) (Alone (IsTree (IsDevice name rs))) qs
  device name rs qs =
      one_of bytes part.Declaration 2 _ _ _ _ _ refl
      (three_values (IsLeaf (Plain kind.Device)) (IsLeaf (Named name)) (IsRow (AreRegisterDecls rs))
      (λ vs. IsTree (IsDevice name rs) (made part.Declaration (kids_of vs)))
      (λ v w x (t, h) k (n, e, are). (
        DeviceDecl (spot v.place) name n,
        ap (λ u. Tree (declared (kind_in u) v.place (text_in w.made) (row_in x.made))) h
            ∙ ap (λ u. Tree (DeviceDecl (spot v.place) (text_in u) (row_in x.made))) k ∙ ap (λ u. Tree (DeviceDecl (spot v.place) name (row_in u))) e,
        (v.place, n, refl, are),
      )))
      (sign bytes (Plain kind.Device) _ _ _ _ (sign bytes (Named name) _ _ _ _
      (one_of bytes part.DeviceBody 0 _ _ _ _ _ refl
      (three_values (IsLeaf (Plain kind.LeftBrace)) (IsRow (AreRegisterDecls rs)) (IsLeaf (Plain kind.RightBrace))
      (λ vs. IsRow (AreRegisterDecls rs) (made part.DeviceBody (kids_of vs))) (λ v w x h r k. r))
      (sign bytes (Plain kind.LeftBrace) _ _ _ _
      (before bytes part.Registers _ _ _ _ _ _ (registers rs _) (sign bytes (Plain kind.RightBrace) _ _ _ _ (nil bytes qs)))))))

  entry : (key component method : List ℕ) (qs : List Piece)
      → Goes bytes (Plain kind.Entry ∷ Named key ∷ Plain kind.Assign ∷ Named component ∷ Plain kind.Dot ∷ Named method ∷ Plain kind.Semicolon ∷ qs)
      (Use part.Entry ∷ []) (Alone (IsTree (IsEntry key component method))) qs
  entry key component method qs =
      one_of bytes part.Entry 0 _ _ _ _ _ refl
      (five_values (IsLeaf (Plain kind.Entry)) (IsLeaf (Named key)) (IsLeaf (Plain kind.Assign)) (λ v. v.made ≡ Pair component method)
      (IsLeaf (Plain kind.Semicolon)) (λ vs. IsTree (IsEntry key component method) (made part.Entry (kids_of vs)))
      (λ v w x y z h k l m n. (
        EntryDecl (spot v.place) key component method,
        ap (λ u. Tree (EntryDecl (spot v.place) (text_in u) (component_in y.made) (method_in y.made))) k
            ∙ ap (λ u. Tree (EntryDecl (spot v.place) key (component_in u) (method_in u))) m,
        (v.place, refl),
      )))
      (sign bytes (Plain kind.Entry) _ _ _ _
      (before bytes part.Key _ _ _ _ _ _
      (one_of bytes part.Key 0 _ _ _ _ _ refl
      (one_value (IsLeaf (Named key)) (λ vs. IsLeaf (Named key) (made part.Key (kids_of vs))) (λ v h. h)) (sign bytes (Named key) _ _ _ _ (nil bytes _)))
      (sign bytes (Plain kind.Assign) _ _ _ _
      (before bytes part.Handler _ _ _ _ _ _
      (one_of bytes part.Handler 0 _ _ _ _ _ refl
      (three_values (IsLeaf (Named component)) (IsLeaf (Plain kind.Dot)) (IsLeaf (Named method)) (λ vs. (made part.Handler (kids_of vs)).made ≡ Pair component method)
      (λ v w x h k l. ap (λ u. Pair (text_in u) (text_in x.made)) h ∙ ap (λ u. Pair component (text_in u)) l))
      (sign bytes (Named component) _ _ _ _ (sign bytes (Plain kind.Dot) _ _ _ _ (sign bytes (Named method) _ _ _ _ (nil bytes _)))))
      (sign bytes (Plain kind.Semicolon) _ _ _ _ (nil bytes qs))))))

  program : (name key component method : List ℕ) (qs : List Piece)
      → Goes bytes (Plain kind.Program ∷ Named name ∷ Plain kind.LeftBrace ∷ Plain kind.Entry ∷ Named key ∷ Plain kind.Assign ∷ Named component ∷
      Plain kind.Dot ∷ Named method ∷ Plain kind.Semicolon
      ∷ Plain kind.RightBrace ∷ qs) (Use part.Declaration ∷ []) (Alone (IsTree (IsProgram name key component method))) qs
  program name key component method qs =
      one_of bytes part.Declaration 3 _ _ _ _ _ refl
      (three_values (IsLeaf (Plain kind.Program)) (IsLeaf (Named name)) (IsRow (IsOnly (IsEntry key component method)))
      (λ vs. IsTree (IsProgram name key component method) (made part.Declaration (kids_of vs)))
      (λ v w x (t, h) k (n, e, (m, is, (q, so))). (
        ProgramDecl (spot v.place) name n,
        ap (λ u. Tree (declared (kind_in u) v.place (text_in w.made) (row_in x.made))) h
            ∙ ap (λ u. Tree (ProgramDecl (spot v.place) (text_in u) (row_in x.made))) k ∙ ap (λ u. Tree (ProgramDecl (spot v.place) name (row_in u))) e,
        (v.place, q, ap (ProgramDecl (spot v.place) name) (is ∙ ap (λ u. Then u Nothing) so)),
      )))
      (sign bytes (Plain kind.Program) _ _ _ _ (sign bytes (Named name) _ _ _ _
      (one_of bytes part.ProgramBody 0 _ _ _ _ _ refl
      (three_values (IsLeaf (Plain kind.LeftBrace)) (IsRow (IsOnly (IsEntry key component method))) (IsLeaf (Plain kind.RightBrace))
      (λ vs. IsRow (IsOnly (IsEntry key component method)) (made part.ProgramBody (kids_of vs))) (λ v w x h r k. r))
      (sign bytes (Plain kind.LeftBrace) _ _ _ _
      (before bytes part.Entries _ _ _ _ _ _
      (one_of bytes part.Entries 0 _ _ _ _ _ refl
      (two_values (IsTree (IsEntry key component method)) (λ v. v.made ≡ Row Nothing)
      (λ vs. IsRow (IsOnly (IsEntry key component method)) (made part.Entries (kids_of vs)))
      (λ v w (n, e, is) f.
      (Then n Nothing, ap (λ u. Row (Then (node_in u) (row_in w.made))) e ∙ ap (λ u. Row (Then n (row_in u))) f, (n, refl, is))))
      (before bytes part.Entry _ _ _ _ _ _ (entry key component method _) (empty bytes part.Entries 1 (λ v. v.made ≡ Row Nothing) _ refl refl)))
      (sign bytes (Plain kind.RightBrace) _ _ _ _ (nil bytes qs)))))))

  -- declarations behind one another
  more : (P : Node → Type 0) (R : Node → Type 0) (vs : List Value) → FirstValue (IsTree P) (Alone (IsRow R)) vs
      → IsRow (IsMore P R) (made part.Declarations (kids_of vs))
  more P R =
      two_values (IsTree P) (IsRow R) (λ vs. IsRow (IsMore P R) (made part.Declarations (kids_of vs)))
      (λ v w (n, e, is) (rest, f, are).
      (Then n rest, ap (λ u. Row (Then (node_in u) (row_in w.made))) e ∙ ap (λ u. Row (Then n (row_in u))) f, (n, rest, refl, is, are)))

  text : (f : First) → Goes bytes (first_pieces f) (Use part.Text ∷ []) (Alone (IsTree (IsFirstNode f))) []
  text f =
      one_of bytes part.Text 0 _ _ _ _ _ refl
      (two_values (IsTree (IsComponent f.component f.method f.assignments))
      (IsRow (IsMore (IsDevice f.device f.registers) (IsMore (IsProgram f.program f.key f.entry_component f.entry_method) (λ n. n ≡ Nothing)))) (λ vs. IsTree (IsFirstNode f) (made part.Text (kids_of vs)))
      (λ v w (c, e, is) (n, k, (d, rest, so, is_device, (g, none, goes, is_program, last))). (
        Text (spot v.place) (Then c n),
        ap (λ u. Tree (Text (spot v.place) (Then (node_in u) (row_in w.made)))) e
            ∙ ap (λ u. Tree (Text (spot v.place) (Then c (row_in u)))) k,
        (
          v.place,
          c,
          d,
          g,
          ap (λ u. Text (spot v.place) (Then c u)) (so ∙ ap (Then d) (goes ∙ ap (Then g) last)),
          is,
          is_device,
          is_program,
        ),
      )))
      (before bytes part.Declaration _ _ _ _ _ _ (component f.component f.method f.assignments _)
      (one_of bytes part.Declarations 0 _ _ _ _ _ refl (more (IsDevice f.device f.registers) (IsMore (IsProgram f.program f.key f.entry_component f.entry_method) (λ n. n ≡ Nothing)))
      (before bytes part.Declaration _ _ _ _ _ _ (device f.device f.registers _)
      (one_of bytes part.Declarations 0 _ _ _ _ _ refl (more (IsProgram f.program f.key f.entry_component f.entry_method) (λ n. n ≡ Nothing))
      (before bytes part.Declaration _ _ _ _ _ _ (program f.program f.key f.entry_component f.entry_method [])
      (empty bytes part.Declarations 1 (IsRow (λ n. n ≡ Nothing)) [] refl (Nothing, refl, refl)))))))

  -- the tokens of a program of constants have a parse, and what it makes is the tree of one
  pub parsed : (ts : List Token) (f : First) → pieces bytes ts ≡ first_pieces f
      → (p : Parse) × IsParse ts p × Alone (IsTree (IsFirstNode f)) (values bytes p)
  parsed ts f e = whole_of bytes (first_pieces f) (Use part.Text ∷ []) (Alone (IsTree (IsFirstNode f))) (text f) ts e

  pub sentence : (ts : List Token) (f : First) → pieces bytes ts ≡ first_pieces f → Sentence ts
  sentence ts f e = let r = parsed ts f e in (r.0, r.1)
