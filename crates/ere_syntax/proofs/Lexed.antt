-- The token that is read by its bytes is that of its spelling.
use Rattle.std.proofs.Common.{◌≡◌, ℕ, zero, suc, ◌+◌, ◌-◌, ◌*◌, ◌<◌, min, Bool, true, false, cond, ◌&&◌, List, [], ◌∷◌, Option, Some, None, option_map, refl, sym, ap, ◌∙◌, arith, nat_eq, nat_le, inl, inr}
use Rattle.std.proofs.lemmas.Bool.{eqb-true, ne_eqb, lt-leb, cases_lt}
use Rattle.ere_syntax.specs.Tree.{Bytes, Token, Atom, Close, Times}
use Rattle.ere_syntax.specs.Reading.{◌>>=◌}
use Rattle.ere_syntax.specs.Bracket.{starts, Escape, escape_value, Bracket}
use Rattle.ere_syntax.specs.Readers.{behind, byte_and, escape_at, bracket_at, digits_at, upto_by, interval_at, sign_of}
use Rattle.ere_syntax.specs.Scan.{table, in_bracket, Spelling, Escapes, Bracketed, Counted, token_of}
use Rattle.ere_syntax.specs.EreOf.{counted_or, spelling_by}
use Rattle.ere_syntax.specs.Signs.{is_digit, is_empty, Interval, Exact, Upto, number_after, low_of, high_of, fits}
use Rattle.ere_syntax.specs.Reads.{set_and}
use Rattle.ere_syntax.specs.Counts.{saturated, begins_number, Counted as CountsRead, counts_and, closing, upto, counted_low, counted, times_and, fitting}
use Rattle.ere_syntax.specs.Lexing.{byte_token, token_and, read_token, counted_token, lexed_by, lexed}
use Rattle.ere_syntax.specs.declared.sign.Sign.{Sign}
use Rattle.ere_syntax.specs.declared.sign.Sign.TheVariants.{Dot, Hat, Dollar, OpenMark, CloseMark, BarMark, Star, Plus, Query, Brace, BracketMark, Backslash}

abbrev by_spelling : Option (Spelling × List ℕ) → Option (Token × List ℕ)
by_spelling o = o >>= λ x. Some (token_and (token_of x.0) x.1)

-- ---- escapes and brackets

escape_is : (o : Option (Escape × List ℕ)) → by_spelling (o >>= λ (x : Escape × List ℕ). Some (Escapes x.0, x.1)) ≡ option_map (λ (x : ℕ × List ℕ). token_and (byte_token x.0) x.1) (option_map (λ (x : Escape × List ℕ). byte_and (escape_value x.0) x.1) o)
escape_is None = refl
escape_is (Some x) = refl

bracket_is : (o : Option (Bracket × List ℕ)) → by_spelling (o >>= λ (x : Bracket × List ℕ). Some (Bracketed x.0, x.1)) ≡ option_map (λ (x : Bytes × List ℕ). token_and (Atom x.0) x.1) (option_map (λ (x : Bracket × List ℕ). set_and (table (in_bracket x.0)) x.1) o)
bracket_is None = refl
bracket_is (Some x) = refl

-- ---- intervals

saturated_is : (n : ℕ) (ds : List ℕ) → saturated (min n 256) ds ≡ min (number_after n ds) 256
saturated_is n [] = refl
saturated_is n (d ∷ ds) =
    let p : min (min n 256 * 10 + (d - 48)) 256 ≡ min (n * 10 + (d - 48)) 256 = omega arith in
    ap (λ (k : ℕ). saturated k ds) p ∙ saturated_is (n * 10 + (d - 48)) ds

value_is : (ds : List ℕ) → saturated 0 ds ≡ min (number_after 0 ds) 256
value_is ds = saturated_is 0 ds

abbrev low_read : Interval → ℕ
low_read (Exact ds) = saturated 0 ds
low_read (Upto ds es) = saturated 0 ds

abbrev high_read : Interval → Option ℕ
high_read (Exact ds) = Some (saturated 0 ds)
high_read (Upto ds []) = None
high_read (Upto ds (e ∷ es)) = Some (saturated 0 (e ∷ es))

abbrev read_counts : Option (Interval × List ℕ) → Option CountsRead
read_counts o = option_map (λ (x : Interval × List ℕ). counts_and (low_read x.0) (high_read x.0) x.1) o

begins_is : (ts : List ℕ) → is_empty (digits_at ts).0 ≡ cond (begins_number ts) false true
begins_is [] = refl
begins_is (c ∷ cs) = by (is_digit c)
  where
    by : (b : Bool) → is_empty (let x : List ℕ × List ℕ = cond b (c ∷ (digits_at cs).0, (digits_at cs).1) ([], c ∷ cs) in x.0) ≡ cond b false true
    by true = refl
    by false = refl

none_begins : (ts : List ℕ) → begins_number ts ≡ false → digits_at ts ≡ ([], ts)
none_begins [] e = refl
none_begins (c ∷ cs) e = rw e refl

upto_is : (ds us : List ℕ) → read_counts (upto_by ds (digits_at us)) ≡ upto (saturated 0 ds) us
upto_is ds us = by (begins_number us) refl
  where
    some : (es rest : List ℕ) → is_empty es ≡ false → (b : Bool) → read_counts (cond b (Some (Upto ds es, behind rest)) None) ≡ cond b (Some (counts_and (saturated 0 ds) (Some (saturated 0 es)) (behind rest))) None
    some [] rest e b = absurd cc
    some (d ∷ es) rest e true = refl
    some (d ∷ es) rest e false = refl

    none : (b : Bool) → read_counts (cond b (Some (Upto ds [], behind us)) None) ≡ cond b (Some (counts_and (saturated 0 ds) None (behind us))) None
    none true = refl
    none false = refl

    by : (b : Bool) → begins_number us ≡ b → read_counts (upto_by ds (digits_at us)) ≡ cond b (closing (saturated 0 ds) (Some (saturated 0 (digits_at us).0)) (digits_at us).1) (closing (saturated 0 ds) None us)
    by true e = some (digits_at us).0 (digits_at us).1 (begins_is us ∙ ap (λ (b : Bool). cond b false true) e) (starts 125 (digits_at us).1)
    by false e = ap (λ (x : List ℕ × List ℕ). read_counts (upto_by ds x)) (none_begins us e) ∙ none (starts 125 us)

-- no byte is both a brace and a comma
not_both : (ts : List ℕ) → starts 44 ts ≡ true → starts 125 ts ≡ false
not_both [] e = absurd cc
not_both (c ∷ cs) e = (let q : c ≡ 44 = eqb-true c 44 e in ap (λ (c : ℕ). nat_eq c 125) q)

low_is : (ds rest : List ℕ) → read_counts (cond (starts 125 rest) (Some (Exact ds, behind rest)) (cond (starts 44 rest) (upto_by ds (digits_at (behind rest))) None)) ≡ counted_low (saturated 0 ds) rest
low_is ds rest = by (starts 44 rest) refl
  where
    one : (b : Bool) → read_counts (cond b (Some (Exact ds, behind rest)) None) ≡ cond b (Some (counts_and (saturated 0 ds) (Some (saturated 0 ds)) (behind rest))) None
    one true = refl
    one false = refl

    by : (b : Bool) → starts 44 rest ≡ b → read_counts (cond (starts 125 rest) (Some (Exact ds, behind rest)) (cond b (upto_by ds (digits_at (behind rest))) None)) ≡ cond b (upto (saturated 0 ds) (behind rest)) (closing (saturated 0 ds) (Some (saturated 0 ds)) rest)
    by true e = ap (λ (b : Bool). read_counts (cond b (Some (Exact ds, behind rest)) (upto_by ds (digits_at (behind rest))))) (not_both rest e) ∙ upto_is ds (behind rest)
    by false e = one (starts 125 rest)

counted_is : (ts : List ℕ) → read_counts (interval_at ts) ≡ counted ts
counted_is ts = by (begins_number ts) refl
  where
    by : (b : Bool) → begins_number ts ≡ b → read_counts (interval_at ts) ≡ cond b (counted_low (saturated 0 (digits_at ts).0) (digits_at ts).1) None
    by true e =
        ap (λ (b : Bool). read_counts (cond b None (cond (starts 125 (digits_at ts).1) (Some (Exact (digits_at ts).0, behind (digits_at ts).1)) (cond (starts 44 (digits_at ts).1) (upto_by (digits_at ts).0 (digits_at (behind (digits_at ts).1))) None)))) (begins_is ts ∙ ap (λ (b : Bool). cond b false true) e)
        ∙ low_is (digits_at ts).0 (digits_at ts).1
    by false e = ap (λ (b : Bool). read_counts (cond b None (cond (starts 125 (digits_at ts).1) (Some (Exact (digits_at ts).0, behind (digits_at ts).1)) (cond (starts 44 (digits_at ts).1) (upto_by (digits_at ts).0 (digits_at (behind (digits_at ts).1))) None)))) (begins_is ts ∙ ap (λ (b : Bool). cond b false true) e)

-- counts past 255 fit neither as they are nor as they are kept
fits_low : (l : ℕ) → fitting (min l 256) None ≡ fitting l None
fits_low l = elim (cases_lt l 256) [
  | inl small ↦ (let q : min l 256 ≡ l = omega arith in ap (λ (k : ℕ). fitting k None) q)
  | inr large ↦ (let q : min l 256 ≡ 256 = omega arith in ap (λ (k : ℕ). fitting k None) q ∙ sym (ap (λ (b : Bool). cond b (Some (times_and l None)) None) (lt-leb l 255 (omega arith))))
]

and_false : (b : Bool) → (b && false) ≡ false
and_false true = refl
and_false false = refl

unfit : (l h : ℕ) → (h < 256 → h < l) → fitting l (Some h) ≡ None
unfit l h k = elim (cases_lt h 256) [
  | inl small ↦ ap (λ (b : Bool). cond (b && nat_le h 255) (Some (times_and l (Some h))) None) (lt-leb l h (k small))
  | inr large ↦ ap (λ (b : Bool). cond (nat_le l h && b) (Some (times_and l (Some h))) None) (lt-leb h 255 (omega arith)) ∙ ap (λ (b : Bool). cond b (Some (times_and l (Some h))) None) (and_false (nat_le l h))
]

fits_both : (l h : ℕ) → fitting (min l 256) (Some (min h 256)) ≡ fitting l (Some h)
fits_both l h = elim (cases_lt h 256) [
  | inr large ↦ unfit (min l 256) (min h 256) (λ s. absurd (omega arith)) ∙ sym (unfit l h (λ s. absurd (omega arith)))
  | inl small ↦ elim (cases_lt l 256) [
    | inr large ↦ unfit (min l 256) (min h 256) (λ s. omega arith) ∙ sym (unfit l h (λ s. omega arith))
    | inl both ↦ (
        let p : min l 256 ≡ l = omega arith in
        let q : min h 256 ≡ h = omega arith in
        ap (λ (k : ℕ). fitting k (Some (min h 256))) p ∙ ap (λ (k : ℕ). fitting l (Some k)) q)
  ]
]

fits_is : (i : Interval) → fitting (low_read i) (high_read i) ≡ fitting (low_of i) (high_of i)
fits_is (Exact ds) = ap (λ (k : ℕ). fitting k (Some k)) (value_is ds) ∙ fits_both (number_after 0 ds) (number_after 0 ds)
fits_is (Upto ds []) = ap (λ (k : ℕ). fitting k None) (value_is ds) ∙ fits_low (number_after 0 ds)
fits_is (Upto ds (e ∷ es)) =
    ap (λ (k : ℕ). fitting k (Some (saturated 0 (e ∷ es)))) (value_is ds)
    ∙ ap (λ (k : ℕ). fitting (min (number_after 0 ds) 256) (Some k)) (value_is (e ∷ es))
    ∙ fits_both (number_after 0 ds) (number_after 0 (e ∷ es))

abbrev times_tokens : List ℕ → Option (ℕ × Option ℕ) → Option (Token × List ℕ)
times_tokens rest o = option_map (λ (t : ℕ × Option ℕ). token_and (Times t.0 t.1) rest) o

fitting_is : (i : Interval) (rest : List ℕ) (b : Bool) → by_spelling (cond b (Some (Counted i, rest)) None) ≡ times_tokens rest (cond b (Some (times_and (low_of i) (high_of i))) None)
fitting_is i rest true = refl
fitting_is i rest false = refl

brace_is : (cs : List ℕ) (o : Option (Interval × List ℕ)) → by_spelling (counted_or cs o) ≡ counted_token cs (read_counts o)
brace_is cs None = refl
brace_is cs (Some x) = fitting_is x.0 x.1 (fits x.0) ∙ sym (ap (times_tokens x.1) (fits_is x.0))

-- ---- all tokens

close_is : (groups c : ℕ) (cs : List ℕ) → by_spelling (spelling_by groups c cs (Some CloseMark)) ≡ lexed_by groups c cs (Some CloseMark)
close_is zero c cs = refl
close_is (suc n) c cs = sym (ap (λ (b : Bool). Some (token_and (cond b (byte_token 41) Close) cs)) (ne_eqb (suc n) 0 (λ e. omega (arith, e))))

token_by : (groups c : ℕ) (cs : List ℕ) (o : Option Sign) → by_spelling (spelling_by groups c cs o) ≡ lexed_by groups c cs o
token_by groups c cs None = refl
token_by groups c cs (Some Dot) = refl
token_by groups c cs (Some Hat) = refl
token_by groups c cs (Some Dollar) = refl
token_by groups c cs (Some OpenMark) = refl
token_by groups c cs (Some CloseMark) = close_is groups c cs
token_by groups c cs (Some BarMark) = refl
token_by groups c cs (Some Star) = refl
token_by groups c cs (Some Plus) = refl
token_by groups c cs (Some Query) = refl
token_by groups c cs (Some Brace) = brace_is cs (interval_at cs) ∙ ap (counted_token cs) (counted_is cs)
token_by groups c cs (Some BracketMark) = bracket_is (bracket_at cs)
token_by groups c cs (Some Backslash) = escape_is (escape_at cs)

pub lexed_is : (groups : ℕ) (ts : List ℕ) → read_token groups ts ≡ lexed groups ts
lexed_is groups [] = refl
lexed_is groups (c ∷ cs) = token_by groups c cs (sign_of c)
