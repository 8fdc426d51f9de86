-- What a sound script excludes.
use Rattle.std.proofs.Common.{◌≡◌, ◌≢◌, ◌⊎◌, inl, inr, ℕ, List, [], ◌∷◌, ◌++◌, Option, Some, None, Result, Ok, Err, refl, sym, ap, ◌∙◌, subst, true≢false}
use Rattle.std.specs.Result.{is_ok}
use Rattle.awk_tokens.specs.Cutting.{IsTokens, Spelled}
use Rattle.awk_tokens.proofs.Whole.{one_outcome}
use Rattle.awk_parse.specs.Parsing.{IsParsed, misplaced}
use Rattle.awk_parse.specs.declared.fault.ParseFault.{ParseFault}
use Rattle.awk_parse.specs.declared.fault.ParseFault.TheVariants.{LeftOut, NotWhole, ConstantRange, Syntax, TooDeep, Misplaced}
use Rattle.awk_parse.specs.declared.fault.ParseFault.TheVariants as parsing
use Rattle.awk_grammar.specs.Trees.{Item}
use Rattle.awk_grammar.proofs.ItemComplete.{one_script}
use Rattle.awk_grammar.specs.Kinds as kinds
use Rattle.awk_grammar.specs.Kinds.{Refusal, refusal}
use Rattle.awk_resolve.specs.ViewResolved.{IsCause}
use Rattle.awk_resolve.specs.declared.fault.ResolveFault.{ResolveFault}
use Rattle.awk_resolve.specs.declared.fault.ResolveFault.TheVariants.{TooMany, DuplicateName, UnknownFunction, ArgCount, KindClash}
use Rattle.awk_resolve.specs.declared.fault.ResolveFault.TheVariants as resolving
use Rattle.ere_syntax.specs.Tree.{IsWithinLimits}
use Rattle.ere_syntax.specs.declared.fault.EreFault.{EreFault}
use Rattle.ere_syntax.specs.declared.fault.EreFault.TheVariants.{BadEre, EreTooLarge}
use Rattle.ere_syntax.specs.declared.fault.EreFault.TheVariants as expressions
use Rattle.ere_syntax.proofs.Scans.{one_ere}
use Rattle.awk_text.specs.Escapes.{between}
use Rattle.script_compiler.specs.Compiled.{IsCompiled}
use Rattle.script_code.specs.Coded.{IsSound}
use Rattle.script_code.specs.Expressions.{AreFine, IsBad, IsFine, IsFirstBad}
use Rattle.script_code.specs.Refusals.{HasNoScript}
use Rattle.script_compiler.specs.Refusals.{IsNotCompiled}
use Rattle.run_report.specs.declared.compile_fault.CompileFault.{CompileFault}
use Rattle.run_report.specs.declared.compile_fault.CompileFault.TheVariants.{TooLarge, Token, Parse, Ere, Resolve, NoMemory}

abbrev ok_of : {A E : Type 0} → A → Result A E → A
ok_of d (Ok x) = x
ok_of d (Err e) = d

pub same_tokens : (bytes : List ℕ) (ts us : List Spelled) → IsTokens bytes (Ok ts) → IsTokens bytes (Ok us) → ts ≡ us
same_tokens bytes ts us p q = ap (ok_of ts) (one_outcome bytes (Ok ts) (Ok us) p q)

pub same_script : (tokens : List Spelled) (a b : List Item) → IsParsed tokens a → IsParsed tokens b → a ≡ b
same_script tokens a b p q = one_script a b p.read.tree.fine q.read.tree.fine (p.read.tree.parts ∙ sym q.read.tree.parts)

some_not_none : {A : Type 0} (x : A) → Some x ≡ None → ⊥
some_not_none x e = cc

no_refusal : (tokens : List Spelled) (script : List Item) (fault : ParseFault) → IsParsed tokens script → HasNoScript tokens fault → ⊥
no_refusal tokens script (LeftOut line feature) p r = some_not_none (LeftOut line feature) (sym r.cause ∙ p.whole)
no_refusal tokens script (NotWhole line) p r = some_not_none (NotWhole line) (sym r.cause ∙ p.whole)
no_refusal tokens script (ConstantRange line) p r = some_not_none (ConstantRange line) (sym r.cause ∙ p.whole)
no_refusal tokens script (Syntax line) p r = r.cause.none script p.read.tree
no_refusal tokens script (TooDeep line) p r = r.cause.none script p.read
no_refusal tokens script (Misplaced line) p r =
    let same = one_script r.cause.script script r.cause.read.tree.fine p.read.tree.fine (r.cause.read.tree.parts ∙ sym p.read.tree.parts) in
    some_not_none line (sym r.cause.first ∙ (ap (λ (x : List Item). misplaced x tokens) same ∙ p.placed))
no_refusal tokens script parsing.NoMemory p r = r.named refl

fine_or_bad : (t : Spelled) (line : ℕ) (fault : EreFault) → IsFine t → IsBad t line fault → ⊥
fine_or_bad t line (BadEre place) f b = let e = f b.ere in b.cause.1 e.0 e.1.tree
fine_or_bad t line EreTooLarge f b = let e = f b.ere in b.cause.2 (subst IsWithinLimits (one_ere (between t.text) e.0 b.cause.0 e.1.tree b.cause.1) e.1.within)
fine_or_bad t line expressions.NoMemory f b = b.named refl

fine_there : (before : List Spelled) (t : Spelled) (after : List Spelled) → AreFine (before ++ t ∷ after) → IsFine t
fine_there [] t after a = a.0
fine_there (x ∷ xs) t after a = fine_there xs t after a.1

no_bad : (tokens : List Spelled) (line : ℕ) (fault : EreFault) → AreFine tokens → IsFirstBad tokens line fault → ⊥
no_bad tokens line fault a b = fine_or_bad b.token line fault (fine_there b.before b.token b.after (subst AreFine b.whole a)) b.bad

no_cause : (r : Option Refusal) (fault : ResolveFault) → r ≡ None → fault ≢ resolving.NoMemory → IsCause fault r → ⊥
no_cause r (TooMany f) n m c = some_not_none (kinds.TooMany f) (sym c ∙ n)
no_cause r (DuplicateName x) n m c = some_not_none (kinds.DuplicateName x) (sym c ∙ n)
no_cause r (UnknownFunction f) n m c = some_not_none (kinds.UnknownFunction f) (sym c ∙ n)
no_cause r (ArgCount f) n m c = some_not_none (kinds.ArgCount f) (sym c ∙ n)
no_cause r (KindClash x) n m c = some_not_none (kinds.KindClash x) (sym c ∙ n)
no_cause r resolving.NoMemory n m c = m refl

module _ (bytes v : List ℕ) (c : IsCompiled bytes v) where
  -- the script is sound by whatever tokens the bytes have
  sound : (tokens : List Spelled) → IsTokens bytes (Ok tokens) → IsSound tokens c.script
  sound tokens cut = subst (λ (ts : List Spelled). IsSound ts c.script) (same_tokens bytes c.tokens tokens c.cut cut) c.sound

  is_it : (tokens : List Spelled) (script : List Item) → IsTokens bytes (Ok tokens) → IsParsed tokens script → script ≡ c.script
  is_it tokens script cut p = same_script tokens script c.script p (sound tokens cut).parsed

  pub sound_only : (fault : CompileFault) → IsNotCompiled bytes fault → (fault ≡ TooLarge) ⊎ (fault ≡ NoMemory)
  sound_only TooLarge r = inl refl
  sound_only (Token e) r = absurd (true≢false (ap is_ok (one_outcome bytes (Ok c.tokens) (Err e) c.cut r.cause)))
  sound_only (Parse e) r = absurd (no_refusal r.tokens c.script e (sound r.tokens r.cut).parsed r.said)
  sound_only (Ere line e) r = absurd (no_bad r.tokens line e (sound r.tokens r.cut).expressions r.said.first)
  sound_only (Resolve e) r =
      let here = is_it r.tokens r.said.script r.cut r.said.parsed in
      absurd (no_cause (refusal r.said.script) e (ap refusal here ∙ (sound r.tokens r.cut).names) r.said.named r.said.cause)
  sound_only NoMemory r = inr refl
