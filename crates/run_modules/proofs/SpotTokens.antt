-- The places of a script, which are counted in tokens, are those of its spots: before the text from each spot on there are so many tokens.
use Rattle.std.proofs.Common.{◌≡◌, ℕ, ◌<◌, List, [], ◌∷◌, ◌++◌, Option, Some, None, length, length-append, append_assoc, refl, sym, ap, ◌∙◌, subst, arith}
use Rattle.awk_grammar.specs.Token.{IfWord, ElseWord, WhileWord, DoWord, Token, Close, OpenBrace, CloseBrace, Semicolon, Key}
use Rattle.awk_grammar.specs.Stmt.{print_maybe, print_maybe_plain, print_plain, print_stmt, print_stmts}
use Rattle.awk_grammar.specs.Trees.{Plain, NextFile, Break, Continue, Next, Stmt, Block, Empty, Simple, If, IfElse, While, Do, For, ForIn, Jumping, Leave, Stmts, NoStmt, And}
use Rattle.agreement.specs.Spots.InOrder.{last_spots, stmt_spots, stmts_spots}
use Rattle.agreement.specs.Spots.Spots.{Frame, Before, Within, AfterElse, Part, Whole, First, Looping, Between, Testing, Unless, GivesUp, Leaves, StatementPath, Of}
use Rattle.agreement.specs.Spots.SpotTexts.{frames_rest, part_text, while_test}
use Rattle.awk_tree.specs.Lines.{condition, last_places, stmt_places, stmts_places, to_body, to_first, to_last, to_test, walk_head}

-- The text from something on is the rest of the whole, with so many tokens before it, and is not empty.
abbrev pub Begins : List Token → List Token → ℕ → Type 0
Begins whole text n = (before : List Token) × (whole ≡ before ++ text) × (n ≡ length before) × (0 < length text)

-- so of one after another
abbrev pub AllBegin : {A : Type 0} → List Token → (A → List Token) → List ℕ → List A → Type 0
AllBegin whole text [] [] = Unit {0}
AllBegin whole text (n ∷ ns) (a ∷ xs) = Begins whole (text a) n × AllBegin whole text ns xs
AllBegin whole text [] (a ∷ xs) = ⊥
AllBegin whole text (n ∷ ns) [] = ⊥

pub both : {A : Type 0} (whole : List Token) (text : A → List Token) (ns ms : List ℕ) (xs ys : List A)
    → AllBegin whole text ns xs → AllBegin whole text ms ys → AllBegin whole text (ns ++ ms) (xs ++ ys)
both whole text [] ms [] ys h k = k
both whole text (n ∷ ns) ms (a ∷ xs) ys h k = (h.0, both whole text ns ms xs ys h.1 k)
both whole text [] ms (a ∷ xs) ys h k = absurd h
both whole text (n ∷ ns) ms [] ys h k = absurd h

-- A statement has a token.
has_token : (s : Stmt) → 0 < length (print_stmt s)
has_token (Block ss) = omega arith
has_token Empty = omega arith
has_token (Simple p) = omega (arith, length-append (print_plain p) (Semicolon ∷ []))
has_token (If c s) = omega arith
has_token (IfElse c s t) = omega arith
has_token (While c s) = omega arith
has_token (Do s c) = omega arith
has_token (For i c p s) = omega arith
has_token (ForIn k a s) = omega arith
has_token (Jumping j) = omega arith
has_token (Leave l e) = omega arith

-- and so has what ends in one
ends : (ts us : List Token) (t : Token) → 0 < length (ts ++ t ∷ us)
ends ts us t = omega (arith, length-append ts (t ∷ us))

more : (ts us vs : List Token) → 0 < length ts → 0 < length ((ts ++ us) ++ vs)
more ts us vs h = omega (arith, h, length-append ts us, length-append (ts ++ us) vs)

module _ (whole : List Token) (text : StatementPath → List Token) (rest : List Token) (texts : (s : Stmt) (part : Part) (w : List Frame)
    → text (Of s part w) ≡ (part_text s part ++ frames_rest w) ++ rest) where
  -- a part of a statement that stands there
  part_begins : (s : Stmt) (part : Part) (w : List Frame) (before : List Token) → 0 < length (part_text s part)
      → whole ≡ before ++ ((part_text s part ++ frames_rest w) ++ rest)
      → Begins whole (text (Of s part w)) (length before)
  part_begins s part w before some e = (
    before,
    e ∙ ap (λ ts. before ++ ts) (sym (texts s part w)),
    refl,
    subst (λ (ts : List Token). 0 < length ts) (sym (texts s part w))
        (more (part_text s part) (frames_rest w) rest some),
  )

  -- the third part of a `for`
  last_begins : (before : List Token) (i : Option Plain) (c : _) (p : Option Plain) (s : Stmt) (w : List Frame)
      → whole ≡ before ++ ((print_stmt (For i c p s) ++ frames_rest w) ++ rest)
      → AllBegin whole text (last_places (to_last before i c) p) (last_spots (For i c p s) p w)
  last_begins before i c None s w e = tt
  last_begins before i c (Some p) s w e = (
    part_begins (For i c (Some p) s) Between w (to_last before i c) (ends (print_plain p) (print_stmt s) Close) (e
        ∙ simp append_assoc),
    tt,
  )

  mutual
    pub stmt_begins : (before : List Token) (s : Stmt) (w : List Frame) → whole ≡ before ++ ((print_stmt s ++ frames_rest w) ++ rest)
        → AllBegin whole text (stmt_places before s) (stmt_spots s w)
    stmt_begins before (Block ss) w e = (
      part_begins (Block ss) Whole w before (has_token (Block ss)) e,
      stmts_begin (before ++ OpenBrace ∷ []) ss w (e
          ∙ simp append_assoc),
    )
    stmt_begins before Empty w e = (part_begins Empty Whole w before (has_token Empty) e, tt)
    stmt_begins before (Simple p) w e = (part_begins (Simple p) Whole w before (has_token (Simple p)) e, tt)
    stmt_begins before (If c s) w e =
        let head = condition (Key IfWord) c in (
          part_begins (If c s) Whole w before (has_token (If c s)) e,
          both whole text (stmt_places (before ++ head) s) (length before ∷ []) (stmt_spots s (Within (If c s) ∷ w)) (Of (If c s) Unless w ∷ [])
              (stmt_begins (before ++ head) s (Within (If c s) ∷ w) (e ∙ simp append_assoc))
              (part_begins (If c s) Unless w before (has_token (If c s)) e, tt),
        )
    stmt_begins before (IfElse c s t) w e =
        let head = condition (Key IfWord) c in (
          part_begins (IfElse c s t) Whole w before (has_token (IfElse c s t)) e,
          both whole text (stmt_places (before ++ head) s) (stmt_places (((before ++ head) ++ print_stmt s) ++ Key ElseWord ∷ []) t)
              (stmt_spots s (Within (IfElse c s t) ∷ w)) (stmt_spots t (AfterElse (IfElse c s t) ∷ w))
              (stmt_begins (before ++ head) s (Within (IfElse c s t) ∷ w) (e ∙ simp append_assoc))
              (stmt_begins (((before ++ head) ++ print_stmt s) ++ Key ElseWord ∷ []) t (AfterElse (IfElse c s t) ∷ w) (e ∙ simp append_assoc)),
        )
    stmt_begins before (While c s) w e = (
      part_begins (While c s) Whole w before (has_token (While c s)) e,
      stmt_begins (before ++ condition (Key WhileWord) c) s (Within (While c s) ∷ w) (e ∙ simp append_assoc),
    )
    stmt_begins before (Do s c) w e =
        let body = before ++ Key DoWord ∷ [] in
        let test = body ++ print_stmt s in
        let some : 0 < length (while_test c) = omega arith in
        let there : whole ≡ test ++ ((while_test c ++ frames_rest w) ++ rest) = e ∙ simp append_assoc in (
          part_begins (Do s c) Whole w before (has_token (Do s c)) e,
          both whole text (stmt_places body s) (length test ∷ (length test ∷ [])) (stmt_spots s (Within (Do s c) ∷ w))
              (Of (Do s c) Between w ∷ (Of (Do s c) Testing w ∷ []))
              (stmt_begins body s (Within (Do s c) ∷ w) (e ∙ simp append_assoc))
              (part_begins (Do s c) Between w test some there, (part_begins (Do s c) Testing w test some there, tt)),
        )
    stmt_begins before (For i c p s) w e = (
      part_begins (For i c p s) Whole w before (has_token (For i c p s)) e,
      (
        part_begins (For i c p s) First w (to_first before)
            (ends (print_maybe_plain i) (print_maybe c ++ (Semicolon ∷ (print_maybe_plain p ++ (Close ∷ print_stmt s)))) Semicolon) (e ∙ simp append_assoc),
        (
          part_begins (For i c p s) Looping w (to_test before i) (ends (print_maybe c) (print_maybe_plain p ++ (Close ∷ print_stmt s)) Semicolon) (e
              ∙ simp append_assoc),
          both whole text (stmt_places (to_body before i c p) s) (last_places (to_last before i c) p) (stmt_spots s (Within (For i c p s) ∷ w))
              (last_spots (For i c p s) p w)
              (stmt_begins (to_body before i c p) s (Within (For i c p s) ∷ w) (e ∙ simp append_assoc))
              (last_begins before i c p s w e),
        ),
      ),
    )
    stmt_begins before (ForIn k a s) w e = (
      part_begins (ForIn k a s) Whole w before (has_token (ForIn k a s)) e,
      stmt_begins (before ++ walk_head k a) s (Within (ForIn k a s) ∷ w) (e ∙ simp append_assoc),
    )
    stmt_begins before (Jumping NextFile) w e =
        let j = Jumping NextFile in
        (part_begins j Whole w before (has_token j) e, (part_begins j GivesUp w before (has_token j) e, (part_begins j Leaves w before (has_token j) e, tt)))
    stmt_begins before (Jumping Break) w e = (part_begins (Jumping Break) Whole w before (has_token (Jumping Break)) e, tt)
    stmt_begins before (Jumping Continue) w e = (part_begins (Jumping Continue) Whole w before (has_token (Jumping Continue)) e, tt)
    stmt_begins before (Jumping Next) w e = (part_begins (Jumping Next) Whole w before (has_token (Jumping Next)) e, tt)
    stmt_begins before (Leave l t) w e = (part_begins (Leave l t) Whole w before (has_token (Leave l t)) e, tt)

    -- a list of statements, up to its brace
    pub stmts_begin : (before : List Token) (ss : Stmts) (w : List Frame) → whole ≡ before ++ ((print_stmts ss ++ CloseBrace ∷ frames_rest w) ++ rest)
        → AllBegin whole text (stmts_places before ss) (stmts_spots ss w)
    stmts_begin before NoStmt w e = tt
    stmts_begin before (And s ss) w e =
        both whole text (stmt_places before s) (stmts_places (before ++ print_stmt s) ss) (stmt_spots s (Before ss ∷ w)) (stmts_spots ss w)
        (stmt_begins before s (Before ss ∷ w) (e ∙ simp append_assoc)) (stmts_begin (before ++ print_stmt s) ss w (e ∙ simp append_assoc))
