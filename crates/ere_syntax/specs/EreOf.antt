-- The spellings and the tree of a text, read from its front.
use Rattle.std.specs.Prelude.{ℕ, zero, suc, if◌then◌else◌, Option, Some, None, List, [], ◌∷◌, length}
use Rattle.ere_syntax.specs.Bytes.{open_brace}
use Rattle.ere_syntax.specs.Tree.{Tree}
use Rattle.ere_syntax.specs.Reading.{◌>>=◌, tree_of}
use Rattle.ere_syntax.specs.Readers.{escape_at, bracket_at, interval_at, sign_of}
use Rattle.ere_syntax.specs.Signs.{Interval, code, fits}
use Rattle.ere_syntax.specs.Scan.{Spelling, Ordinary, Signed, Escapes, Bracketed, Counted, opened, tokens_of}
use Rattle.ere_syntax.specs.declared.sign.Sign.{Sign}
use Rattle.ere_syntax.specs.declared.sign.Sign.TheVariants.{CloseMark, Brace, BracketMark, Backslash}

abbrev pub counted_or : List ℕ → Option (Interval × List ℕ) → Option (Spelling × List ℕ)
counted_or cs None = Some (Ordinary open_brace, cs)
counted_or cs (Some x) = if fits x.0 then Some (Counted x.0, x.1) else None

abbrev pub spelling_by : ℕ → ℕ → List ℕ → Option Sign → Option (Spelling × List ℕ)
spelling_by groups c cs None = Some (Ordinary c, cs)
spelling_by groups c cs (Some Backslash) = escape_at cs >>= λ x. Some (Escapes x.0, x.1)
spelling_by groups c cs (Some BracketMark) = bracket_at cs >>= λ x. Some (Bracketed x.0, x.1)
spelling_by groups c cs (Some Brace) = counted_or cs (interval_at cs)
spelling_by zero c cs (Some CloseMark) = Some (Ordinary (code CloseMark), cs)
spelling_by groups c cs (Some s) = Some (Signed s, cs)

abbrev pub spellings_at : ℕ → ℕ → List ℕ → Option (List Spelling)
spellings_at w groups [] = Some []
spellings_at zero groups (c ∷ cs) = None
spellings_at (suc w) groups (c ∷ cs) = spelling_by groups c cs (sign_of c) >>= λ x. spellings_at w (opened groups x.0) x.1 >>= λ ss. Some (x.0 ∷ ss)

abbrev pub spellings_of : List ℕ → Option (List Spelling)
spellings_of text = spellings_at (length text) 0 text

-- the tree of the text, if it has one
abbrev pub ere_of : List ℕ → Option Tree
ere_of text = spellings_of text >>= λ ss. tree_of (tokens_of ss)
