-- Operands by what they begin with.
use Rattle.std.proofs.Common.{◌≡◌, Bool, Option, Some, None, List, ◌∷◌, Err, refl, ap, ◌∙◌}
use Rattle.awk_grammar.specs.Token.{Token, Lit, Name, FuncName, Word, GetlineWord, Dollar, Open, SignMark, NotMark, StepMark}
use Rattle.awk_grammar.specs.Reading.{Syntax, Reader, first_at}
use Rattle.awk_grammar.specs.Tree.{Mode}
use Rattle.awk_grammar.specs.Trees.{Tree}
use Rattle.awk_parse.specs.declared.refusal.Refusal.{Refusal}
use Rattle.awk_parse.specs.Starts.{Start, start_at, begun_at, begun_by}
use Rattle.awk_parse.specs.Parsed.{At, stands, Parsed}
use Rattle.awk_parse.proofs.ParsedLemmas.{goes_on}

first_is : (expr : Reader) (g : Bool) (m : Mode) (ts : List Token) → first_at expr g m ts ≡ begun_by expr g m (start_at ts)
first_is expr g m (Lit c ∷ ts) = refl
first_is expr g m (Name n ∷ ts) = refl
first_is expr g m (FuncName f ∷ ts) = refl
first_is expr g m (Word f ∷ ts) = refl
first_is expr g m (GetlineWord ∷ ts) = refl
first_is expr g m (Dollar ∷ ts) = refl
first_is expr g m (Open ∷ ts) = refl
first_is expr g m (SignMark s ∷ ts) = refl
first_is expr g m (NotMark ∷ ts) = refl
first_is expr g m (StepMark s ∷ ts) = refl
first_is expr g m _ = refl

pub not_begun : (expr : Reader) (g : Bool) (m : Mode) (ts : List Token) → start_at ts ≡ None → first_at expr g m ts ≡ Err Syntax
not_begun expr g m ts e = first_is expr g m ts ∙ ap (begun_by expr g m) e

pub begun : (expr : Reader) (g : Bool) (m : Mode) (v : Tree) (ts us : List Token) (k l : Start) (o : Option Refusal) (s0 s1 : At) → start_at ts ≡ Some (k, us) → s0 ≡ stands us o → k ≡ l → Parsed v s0 s1 (begun_at expr g m l) → Parsed v (stands ts o) s1 (first_at expr g m)
begun expr g m v ts us k l o s0 s1 e q i w = goes_on ts us o (first_at expr g m) (begun_at expr g m l) q (first_is expr g m ts ∙ ap (begun_by expr g m) e ∙ ap (λ (s : Start). begun_at expr g m s us) i) w
