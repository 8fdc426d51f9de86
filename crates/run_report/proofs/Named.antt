-- Tests of names, by the clauses of the standard library.
use Rattle.std.proofs.Common.{◌≡◌, ◌∙◌, Bool, true, false, Option, None, Some, ap, codes, drop, length, refl, subst, sym, List, ℕ}
use Rattle.std.specs.Prelude.{◌==◌, MatchOption, ◌↔◌, IsTrue}
use Rattle.std.specs.List.{starts_with}
use Rattle.std.specs.Str.{IsCharBoundary}
use Rattle.std.specs.Str.Pattern.{FindsTextPrefix, StripsPrefix}
use Rattle.std.proofs.lemmas.Str.Pattern.{starts_text}
use Rattle.run_report.specs.Topics.{without_program}

pub with : (text x : List ℕ) → StripsPrefix (FindsTextPrefix (codes "awkwasm: ")) text x → x ≡ without_program text
with text x strips =
    let begins : starts_with ◌==◌ text (codes "awkwasm: ") ≡ true = sym (starts_text true (codes "awkwasm: ") text (strips.0, strips.1, subst (λ n. IsCharBoundary text n) (sym strips.1.0) strips.1.2)) in
    rw begins (strips.2 ∙ ap (λ n. drop n text) strips.1.0)

pub without : (text : List ℕ) → FindsTextPrefix (codes "awkwasm: ") text None → text ≡ without_program text
without text lacks =
    let not_begun : starts_with ◌==◌ text (codes "awkwasm: ") ≡ false = sym (starts_text false (codes "awkwasm: ") text lacks) in
    rw not_begun refl
