-- What is read at the front is the longest piece.
use Rattle.std.proofs.Common.{◌≡◌, ℕ, zero, suc, ◌<◌, ◌≤◌, Bool, true, false, cond, ◌||◌, Option, Some, None, List, [], ◌∷◌, length, take, refl, ap, ◌∙◌, arith}
use Rattle.std.specs.Prelude.{option_map, ◌==◌, ◌&&◌, not, nat_le, if◌then◌else◌}
use Rattle.std.specs.Cmp.Lexicographic.{pointwise, unequal}
use Rattle.std.proofs.lemmas.Bool.{ne_eqb, leb-true}
use Rattle.std.proofs.lemmas.List.{length-take-le}
use Rattle.awk_tokens.specs.declared.token.Punctuator.{Punctuator as AnyPunctuator}
use Rattle.awk_tokens.specs.declared.token.Piece.{Piece}
use Rattle.awk_tokens.specs.declared.token.Piece.TheVariants.{Blank, Newline, Token}
use Rattle.awk_tokens.specs.declared.token.TokenKind.TheVariants.{Number, Str, Ere}
use Rattle.awk_tokens.specs.Numbers.{is_digit, every, is_number}
use Rattle.awk_tokens.specs.Words.{entry, reserved_word_of}
use Rattle.awk_tokens.specs.Pieces.{starts_name, goes_on, on_line, closes, punctuators, word_kind, where_, mark_of, piece_of}
use Rattle.awk_tokens.specs.Reading.{count_while, number_at, close_at, with_piece, shorter, mark_by, mark_at, joined_at, name_at, front_at}
use Rattle.awk_tokens.proofs.Maximal.{false-true, counted, Closed, one_more, never, at_once}
use Rattle.awk_tokens.proofs.LongestNumber.{numbers}

-- the answer is the longest front that f takes
abbrev pub Best : (List ℕ → Option Piece) → List ℕ → Option (Piece × ℕ) → Type 0
Best f cs None = (m : ℕ) → m ≤ length cs → f (take m cs) ≡ None
Best f cs (Some x) = (x.1 ≤ length cs) × (f (take x.1 cs) ≡ Some x.0) × ((m : ℕ) → x.1 < m → m ≤ length cs → f (take m cs) ≡ None)

pub record IsBest (f : List ℕ → Option Piece) (cs : List ℕ) (x : Option (Piece × ℕ)) : Type 0 where
  pub is : Best f cs x

choose : (b : Bool) (f g : List ℕ → Option Piece) (cs : List ℕ) (x y : Option (Piece × ℕ)) → IsBest f cs x → IsBest g cs y → IsBest (λ t. if b then f t else g t) cs (if b then x else y)
choose true f g cs x y a h = a
choose false f g cs x y a h = h

-- nothing after the first byte
nothing : (p : Piece) (cs : List ℕ) → Best (λ t. where_ p (length t == 0)) cs (Some (p, 0))
nothing p cs = (omega arith, refl, past cs)
  where
    past : (cs : List ℕ) (m : ℕ) → 0 < m → m ≤ length cs → where_ p (length (take m cs) == 0) ≡ None
    past [] m lt le = absurd (omega arith)
    past (c ∷ cs) zero lt le = absurd (omega arith)
    past (c ∷ cs) (suc m) lt le = ap (where_ p) (ne_eqb (suc (length (take m cs))) 0 (λ e. absurd (omega arith)))

run : (g : List ℕ → Piece) (p : ℕ → Bool) (cs : List ℕ) → Best (λ t. where_ (g t) (every p t)) cs (Some (g (take (count_while p cs) cs), count_while p cs))
run g p cs = let h = counted p cs in
    (h.0, ap (where_ (g (take (count_while p cs) cs))) h.1, λ m lt le. ap (where_ (g (take m cs))) (h.2 m lt le))

closed : (nl : Bool) (q : ℕ) (esc : Bool) (cs : List ℕ) → Closed (closes nl q esc) cs (close_at nl q esc cs)
unfolding close_at
closed nl q esc [] = λ m le. by esc m
  where
    by : (esc : Bool) (m : ℕ) → closes nl q esc (take m []) ≡ false
    by true zero = refl
    by true (suc m) = refl
    by false zero = refl
    by false (suc m) = refl
closed nl q true (c ∷ cs) = by ((c == 10) && not nl) refl (closed nl q false cs)
  where
    by : (b : Bool) → ((c == 10) && not nl) ≡ b → Closed (closes nl q false) cs (close_at nl q false cs) → Closed (closes nl q true) (c ∷ cs) (if b then None else option_map suc (close_at nl q false cs))
    by true e h = never (closes nl q true) c cs refl (λ t. ap (λ b. cond b false (closes nl q false t)) e)
    by false e h = one_more (closes nl q true) (closes nl q false) c cs (close_at nl q false cs) refl (λ t. ap (λ b. cond b false (closes nl q false t)) e) h
closed nl q false (c ∷ cs) = by (c == q) refl (c == 10) refl (closed nl q (c == 92) cs)
  where
    by : (b : Bool) → (c == q) ≡ b → (b' : Bool) → (c == 10) ≡ b' → Closed (closes nl q (c == 92)) cs (close_at nl q (c == 92) cs) → Closed (closes nl q false) (c ∷ cs) (if b then Some 1 else if b' then None else option_map suc (close_at nl q (c == 92) cs))
    by true e b' e' h = at_once (closes nl q false) c cs (λ t. ap (λ b. cond b (length t == 0) (cond (c == 10) false (closes nl q (c == 92) t))) e)
    by false e true e' h = never (closes nl q false) c cs refl (λ t. ap (λ b. cond b (length t == 0) (cond (c == 10) false (closes nl q (c == 92) t))) e ∙ ap (λ b. cond b false (closes nl q (c == 92) t)) e')
    by false e false e' h = one_more (closes nl q false) (closes nl q (c == 92)) c cs (close_at nl q (c == 92) cs) refl (λ t. ap (λ b. cond b (length t == 0) (cond (c == 10) false (closes nl q (c == 92) t))) e ∙ ap (λ b. cond b false (closes nl q (c == 92) t)) e') h

quoted : (p : Piece) (f : List ℕ → Bool) (cs : List ℕ) (o : Option ℕ) → Closed f cs o → Best (λ t. where_ p (f t)) cs (with_piece p o)
quoted p f cs None h = λ m le. ap (where_ p) (h m le)
quoted p f cs (Some n) h = (h.0, ap (where_ p) h.1, λ m lt le. ap (where_ p) (h.2 m lt le))

-- no entry has a text longer than n
abbrev pub are_short : ℕ → List (List ℕ × AnyPunctuator) → Bool
are_short n [] = true
are_short n (e ∷ es) = if nat_le (length e.0) n then are_short n es else false

entry_long : (n : ℕ) (t : List ℕ) (es : List (List ℕ × AnyPunctuator)) → n < length t → are_short n es ≡ true → entry t es ≡ None
entry_long n t [] lt h = refl
entry_long n t (e ∷ es) lt h = by (nat_le (length e.0) n) refl (λ k. entry_long n t es lt k) h
  where
    by : (b : Bool) → nat_le (length e.0) n ≡ b → (are_short n es ≡ true → entry t es ≡ None) → (if b then are_short n es else false) ≡ true → entry t (e ∷ es) ≡ None
    by false i f k = absurd (false-true k)
    by true i f k = ap (λ b. cond b (Some e.1) (entry t es)) (unequal ◌==◌ t e.0 (λ q. absurd (omega (arith, leb-true (length e.0) n i)))) ∙ f k

short : are_short 2 punctuators ≡ true
unfolding punctuators
short = refl

marks : (c : ℕ) (cs : List ℕ) → Best (λ t. option_map mark_of (entry (c ∷ t) punctuators)) cs (mark_at c cs)
unfolding mark_at
marks c [] = by (entry (c ∷ []) punctuators) refl
  where
    by : (o : Option AnyPunctuator) → entry (c ∷ []) punctuators ≡ o → Best (λ t. option_map mark_of (entry (c ∷ t) punctuators)) [] (shorter o)
    by None e = λ m le. at m
      where
        at : (m : ℕ) → option_map mark_of (entry (c ∷ take m []) punctuators) ≡ None
        at zero = ap (option_map mark_of) e
        at (suc m) = ap (option_map mark_of) e
    by (Some k) e = (omega arith, ap (option_map mark_of) e, λ m lt le. absurd (omega arith))
marks c (d ∷ ds) = by (entry (c ∷ d ∷ []) punctuators) refl (entry (c ∷ []) punctuators) refl
  where
    far : (m : ℕ) → 1 < m → m ≤ length (d ∷ ds) → option_map mark_of (entry (c ∷ take m (d ∷ ds)) punctuators) ≡ None
    far m lt le = ap (option_map mark_of) (entry_long 2 (c ∷ take m (d ∷ ds)) punctuators (omega (arith, length-take-le m (d ∷ ds) le)) short)

    by : (o : Option AnyPunctuator) → entry (c ∷ d ∷ []) punctuators ≡ o → (o' : Option AnyPunctuator) → entry (c ∷ []) punctuators ≡ o' → Best (λ t. option_map mark_of (entry (c ∷ t) punctuators)) (d ∷ ds) (mark_by o o')
    by (Some k) e o' e' = (omega arith, ap (option_map mark_of) e, far)
    by None e None e' = at
      where
        at : (m : ℕ) → m ≤ length (d ∷ ds) → option_map mark_of (entry (c ∷ take m (d ∷ ds)) punctuators) ≡ None
        at zero le = ap (option_map mark_of) e'
        at (suc zero) le = ap (option_map mark_of) e
        at (suc (suc m)) le = far (suc (suc m)) (omega arith) le
    by None e (Some k) e' = (omega arith, ap (option_map mark_of) e', at)
      where
        at : (m : ℕ) → 0 < m → m ≤ length (d ∷ ds) → option_map mark_of (entry (c ∷ take m (d ∷ ds)) punctuators) ≡ None
        at zero lt le = absurd (omega arith)
        at (suc zero) lt le = ap (option_map mark_of) e
        at (suc (suc m)) lt le = far (suc (suc m)) (omega arith) le

line_end : (cs : List ℕ) → Best (λ t. where_ Blank (pointwise ◌==◌ t (10 ∷ []))) cs (joined_at cs)
unfolding joined_at
line_end [] = λ m le. at m
  where
    at : (m : ℕ) → where_ Blank (pointwise ◌==◌ (take m []) (10 ∷ [])) ≡ None
    at zero = refl
    at (suc m) = refl
line_end (c ∷ cs) = by (c == 10) refl
  where
    far : (m : ℕ) → 1 < m → m ≤ length (c ∷ cs) → where_ Blank (pointwise ◌==◌ (take m (c ∷ cs)) (10 ∷ [])) ≡ None
    far m lt le = ap (where_ Blank) (unequal ◌==◌ (take m (c ∷ cs)) (10 ∷ []) (λ q. absurd (omega (arith, length-take-le m (c ∷ cs) le))))

    by : (b : Bool) → (c == 10) ≡ b → Best (λ t. where_ Blank (pointwise ◌==◌ t (10 ∷ []))) (c ∷ cs) (if b then Some (Blank, 1) else None)
    by true e = (omega arith, ap (λ b. where_ Blank (b && true)) e, far)
    by false e = at
      where
        at : (m : ℕ) → m ≤ length (c ∷ cs) → where_ Blank (pointwise ◌==◌ (take m (c ∷ cs)) (10 ∷ [])) ≡ None
        at zero le = refl
        at (suc zero) le = ap (λ b. where_ Blank (b && true)) e
        at (suc (suc m)) le = far (suc (suc m)) (omega arith) le

names : (c : ℕ) (cs : List ℕ) → Best (λ t. where_ (Token (word_kind (reserved_word_of (c ∷ t)))) (every goes_on t)) cs (name_at c cs)
unfolding name_at
names c cs = run (λ t. Token (word_kind (reserved_word_of (c ∷ t)))) goes_on cs

-- what is read at the front is the longest piece there
pub best : (d : Bool) (c : ℕ) (cs : List ℕ) → IsBest (λ t. piece_of d (c ∷ t)) cs (front_at d c cs)
unfolding piece_of front_at
best d c cs =
    choose ((c == 32) || (c == 9)) _ _ cs _ _ (record { is = nothing Blank cs })
    (choose (c == 92) _ _ cs _ _ (record { is = line_end cs })
    (choose (c == 10) _ _ cs _ _ (record { is = nothing Newline cs })
    (choose (c == 35) _ _ cs _ _ (record { is = run (λ t. Blank) on_line cs })
    (choose (starts_name c) _ _ cs _ _ (record { is = names c cs })
    (choose (is_digit c || (c == 46)) _ _ cs _ _ (record { is = quoted (Token Number) (λ t. is_number (c ∷ t)) cs (number_at c cs) (numbers c cs) })
    (choose (c == 34) _ _ cs _ _ (record { is = quoted (Token Str) (closes true 34 false) cs (close_at true 34 false cs) (closed true 34 false cs) })
    (choose ((c == 47) && not d) _ _ cs _ _ (record { is = quoted (Token Ere) (closes false 47 false) cs (close_at false 47 false cs) (closed false 47 false cs) })
    (record { is = marks c cs }))))))))
