-- The first ERE of a script that is refused.
use Rattle.std.proofs.Common.{◌≡◌, ℕ, zero, suc, ◌+◌, ◌<◌, true, List, [], ◌∷◌, ◌++◌, length, take, drop, map, get_or, refl, ap, sym, subst, add-one, arith}
use Rattle.awk_text.specs.Escapes.{between}
use Rattle.awk_tokens.specs.Cutting.{Spelled}
use Rattle.awk_tokens.specs.Views.{spelled}
use Rattle.awk_tokens.specs.declared.token.Token.{Token}
use Rattle.ere_syntax.specs.Answers.{IsRefused}
use Rattle.ere_syntax.specs.declared.fault.EreFault.{EreFault}
use Rattle.ere_syntax.specs.declared.fault.EreFault.TheVariants.{BadEre, EreTooLarge}
use Rattle.ere_syntax.specs.declared.fault.EreFault.TheVariants as expressions
use Rattle.script_code.specs.Expressions.{AreFine, HasBad, IsBadAs, IsFine, expression_fault, is_ere}
use Rattle.run_report.specs.declared.compile_fault.CompileFault.{CompileFault}
use Rattle.run_report.specs.declared.compile_fault.CompileFault.TheVariants.{TooLarge, Token as Uncut, Parse, Ere, Resolve, NoMemory}

pub bad_as : (t : Spelled) (fault : EreFault) → is_ere t.kind ≡ true → IsRefused (between t.text) fault → IsBadAs t (expression_fault t.line fault)
bad_as t (BadEre place) k r = record { ere = k; line_is = refl; named = λ e. cc; cause = r }
bad_as t EreTooLarge k r = record { ere = k; line_is = refl; named = λ e. cc; cause = r }
bad_as t expressions.NoMemory k r = tt

split_next : (ts : List Token) (i : ℕ) (d : Token) → i < length ts → map spelled ts ≡ map spelled (take i ts) ++ spelled (get_or ts i d) ∷ map spelled (drop (suc i) ts)
split_next [] i d lt = absurd (omega arith)
split_next (t ∷ ts) zero d lt = refl
split_next (t ∷ ts) (suc i) d lt = ap (λ (x : List Spelled). spelled t ∷ x) (split_next ts i d (omega arith))

fine_after : (ts : List Token) (i : ℕ) (d : Token) → i < length ts → AreFine (map spelled (take i ts)) → IsFine (spelled (get_or ts i d)) → AreFine (map spelled (take (suc i) ts))
fine_after [] i d lt a f = absurd (omega arith)
fine_after (t ∷ ts) zero d lt a f = (f, tt)
fine_after (t ∷ ts) (suc i) d lt a f = (a.0, fine_after ts i d (omega arith) a.1 f)

pub fine_next : (ts : List Token) (i : ℕ) (d : Token) → i < length ts → AreFine (map spelled (take i ts)) → IsFine (spelled (get_or ts i d)) → AreFine (map spelled (take (i + 1) ts))
fine_next ts i d lt a f = subst (λ (n : ℕ). AreFine (map spelled (take n ts))) (sym (add-one i)) (fine_after ts i d lt a f)

pub bad_next : (ts : List Token) (i : ℕ) (d : Token) (e : CompileFault) → i < length ts → AreFine (map spelled (take i ts)) → IsBadAs (spelled (get_or ts i d)) e → HasBad (map spelled ts) e
bad_next ts i d TooLarge lt a b = absurd b
bad_next ts i d (Uncut fault) lt a b = absurd b
bad_next ts i d (Parse fault) lt a b = absurd b
bad_next ts i d (Ere line fault) lt a b = record {
  before = map spelled (take i ts);
  token = spelled (get_or ts i d);
  after = map spelled (drop (suc i) ts);
  whole = split_next ts i d lt;
  fine = a;
  bad = b;
}
bad_next ts i d (Resolve fault) lt a b = absurd b
bad_next ts i d NoMemory lt a b = tt
