-- From the parts of a script's way to its code to what is said of the whole.
use Rattle.std.proofs.Common.{◌≡◌, ◌⊎◌, inl, inr, ℕ, ◌≤◌, ◌^◌, List, length, Result, Ok, Err, IfOk, ap, ap₂, sym, ◌∙◌, subst}
use Rattle.awk_grammar.specs.Trees.{Item}
use Rattle.sem_scripts.specs.Kinds.{resolved}
use Rattle.mid_program.specs.Mid.{Program}
use Rattle.mid_program.specs.Sorted.{IsSorted}
use Rattle.mid_program.specs.Translation.{program_of}
use Rattle.mid_program.specs.SameRuns.{SameRuns}
use Rattle.folding.specs.Folding.{fold}
use Rattle.value_kinds.specs.Applied.{apply}
use Rattle.value_kinds.specs.Lanes.{Lanes, infer}
use Rattle.script_code.specs.Coded.{IsCodeOf, IsPlainCodeOf, IsUnboxed, unboxed}
use Rattle.awk_tokens.specs.Cutting.{IsTokens, Spelled}
use Rattle.awk_tokens.specs.declared.token.TokenFault.{TokenFault}
use Rattle.awk_tokens.specs.declared.token.TokenFault.TheVariants.{BadByte, OpenString, OpenEre}
use Rattle.awk_tokens.specs.declared.token.TokenFault.TheVariants as cutting
use Rattle.script_code.specs.Refusals.{HasNoCode, IsNotCoded}
use Rattle.run_report.specs.CompileFaults.{of_tokens}
use Rattle.run_report.specs.declared.compile_fault.CompileFault.{CompileFault}
use Rattle.run_report.specs.declared.compile_fault.CompileFault.TheVariants.{TooLarge, Token, Parse, Ere, Resolve, NoMemory}

pub no_tokens : (bytes : List ℕ) (fault : TokenFault) → length bytes ≤ 2 ^ 20 → (fault ≡ cutting.NoMemory) ⊎ IsTokens bytes (Err fault) → IsNotCoded bytes (of_tokens fault)
no_tokens bytes cutting.NoMemory short r = tt
no_tokens bytes (BadByte line) short (inl r) = cc
no_tokens bytes (BadByte line) short (inr r) = record { short = short; named = λ e. cc; cause = r }
no_tokens bytes (OpenString line) short (inl r) = cc
no_tokens bytes (OpenString line) short (inr r) = record { short = short; named = λ e. cc; cause = r }
no_tokens bytes (OpenEre line) short (inl r) = cc
no_tokens bytes (OpenEre line) short (inr r) = record { short = short; named = λ e. cc; cause = r }

pub no_code : (bytes : List ℕ) (tokens : List Spelled) (fault : CompileFault) → length bytes ≤ 2 ^ 20 → IsTokens bytes (Ok tokens) → HasNoCode tokens fault → IsNotCoded bytes fault
no_code bytes tokens TooLarge short cut r = absurd r
no_code bytes tokens (Token fault) short cut r = absurd r
no_code bytes tokens (Parse fault) short cut r = record { short = short; tokens = tokens; cut = cut; said = r }
no_code bytes tokens (Ere line fault) short cut r = record { short = short; tokens = tokens; cut = cut; said = r }
no_code bytes tokens (Resolve fault) short cut r = record { short = short; tokens = tokens; cut = cut; said = r }
no_code bytes tokens NoMemory short cut r = tt

pub if_ok : {A E : Type 0} → (r : Result A E) {P Q : A → Type 0} → ((x : A) → P x → Q x) → IfOk r P → IfOk r Q
if_ok (Ok x) f h = f x h
if_ok (Err e) f h = h

-- folded code p1 of p, with its lanes
pub unboxed_is : (p p1 : Program) (l : Lanes) (q : Program) → p1 ≡ fold p → l ≡ infer p1 → q ≡ apply l p1 → SameRuns q p → (IsSorted p → IsSorted (apply (infer p1) p1)) → IsUnboxed p q
unboxed_is p p1 l q folded found applied same sorted =
    let lanes : q ≡ apply (infer p1) p1 = applied ∙ ap (λ (x : Lanes). apply x p1) found in
    record {
      code = lanes ∙ ap (λ (x : Program). apply (infer x) x) folded;
      same = same;
      sorted = λ h. subst IsSorted (sym lanes) (sorted h);
    }

-- a script's code, once it is unboxed
pub coded : (tokens : List Spelled) (p q : Program) (plain : IsPlainCodeOf tokens p) → IsSorted (program_of (resolved plain.script)) → IsUnboxed p q → IsCodeOf tokens q
coded tokens p q plain sorted u = record {
  script = plain.script;
  sound = plain.sound;
  code = u.code ∙ ap unboxed plain.code;
  same = λ s turns. u.same s turns ∙ plain.same s turns;
  sorted = u.sorted (subst IsSorted (sym plain.code) sorted);
}
