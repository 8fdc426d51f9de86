-- What is attached to an option, by the clauses of `strip_prefix` and `starts_with`.
use Rattle.std.proofs.Common.{◌≡◌, ◌∙◌, Bool, true, false, Option, None, Some, ap, codes, drop, length, refl, subst, sym, rules}
use Rattle.std.specs.Prelude.{◌==◌, MatchBool}
use Rattle.std.specs.List.{starts_with}
use Rattle.std.specs.Str.{IsCharBoundary}
use Rattle.std.specs.Str.Pattern.{FindsTextPrefix, HasPrefixMatch, StripsPrefix}
use Rattle.std.proofs.lemmas.Str.Pattern.{starts_text}
use Rattle.clap.specs.Words.{Text}
use Rattle.command_line.specs.Spelling.{attached}

begins : (option word x : Text) → StripsPrefix (FindsTextPrefix option) word x → starts_with ◌==◌ word option ≡ true
begins option word x strips = sym (starts_text true option word (strips.0, strips.1, subst (λ n. IsCharBoundary word n) (sym strips.1.0) strips.1.2))

rest : (option word x : Text) → StripsPrefix (FindsTextPrefix option) word x → x ≡ drop (length option) word
rest option word x strips = strips.2 ∙ ap (λ n. drop n word) strips.1.0

pub found : (option word x : Text) → StripsPrefix (FindsTextPrefix option) word x → (r : Bool) → r ≡ true → MatchBool r (HasPrefixMatch (FindsTextPrefix (codes "=")) x) (FindsTextPrefix (codes "=") x None) →
    Some x ≡ attached option word
found option word x strips r is tests =
    let equals : starts_with ◌==◌ (drop (length option) word) (codes "=") ≡ true = ap (λ t. starts_with ◌==◌ t (codes "=")) (sym (rest option word x strips)) ∙ sym (starts_text r (codes "=") x tests) ∙ is in
    rw (begins option word x strips, equals) (ap (λ (t : Text). Some t) (rest option word x strips))

pub lost : (option word x : Text) → StripsPrefix (FindsTextPrefix option) word x → (r : Bool) → r ≡ false → MatchBool r (HasPrefixMatch (FindsTextPrefix (codes "=")) x) (FindsTextPrefix (codes "=") x None) →
    None ≡ attached option word
lost option word x strips r is tests =
    let equals : starts_with ◌==◌ (drop (length option) word) (codes "=") ≡ false = ap (λ t. starts_with ◌==◌ t (codes "=")) (sym (rest option word x strips)) ∙ sym (starts_text r (codes "=") x tests) ∙ is in
    rw (begins option word x strips, equals) refl

pub other : (option word : Text) → FindsTextPrefix option word None → None ≡ attached option word
other option word lacks =
    let not_begun : starts_with ◌==◌ word option ≡ false = sym (starts_text false option word lacks) in
    rw not_begun refl
