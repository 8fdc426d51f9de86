-- Bytes of the same module are as good.
use Rattle.std.proofs.Common.{◌≡◌, inl, inr, List, ℕ, Result, Ok, Err, IfErr, IfOk, length, subst, sym}
use Rattle.run_report.specs.declared.compile_fault.CompileFault.{CompileFault}
use Rattle.script_compiler.specs.Compiled.{IsCompiled}
use Rattle.script_lines.specs.Lined.{IsNotLined, IsPastRoom, IsUnlined, table_of}
use Rattle.awk_grammar.specs.Trees.{Item}
use Rattle.awk_parse.specs.Parsing.{IsParsed}
use Rattle.awk_tokens.specs.Cutting.{IsTokens, Spelled}
use Rattle.script_places.specs.Lines.{FunctionForm}
use Rattle.wasm_types.specs.ModuleGrammar.{IsModule}
use Rattle.wasm_types.specs.Syntax.{ModuleForm}

pub same_compiled : (script bytes all : List ℕ) → ((m : ModuleForm) → IsModule bytes m → IsModule all m) → IsCompiled script bytes → IsCompiled script all
same_compiled script bytes all same h = record {
  short = h.short;
  tokens = h.tokens;
  cut = h.cut;
  script = h.script;
  sound = h.sound;
  whole = h.whole;
  spelled = same h.whole h.spelled;
  typed = h.typed;
  links = h.links;
  runs = h.runs;
  agreement = h.agreement;
  code = h.code;
  code_is = h.code_is;
  sorted = h.sorted;
  whole_is = h.whole_is;
  places = h.places;
  keeps = h.keeps;
  few_operands = h.few_operands;
  quiet = h.quiet;
  quiet_by_words = h.quiet_by_words;
  passes = h.passes;
  unboxed_names = h.unboxed_names;
}

pub no_room : (bytes compiled : List ℕ) (table : List FunctionForm) (tokens : List Spelled) (script : List Item) (fault : CompileFault) → IsCompiled bytes compiled → IsTokens bytes (Ok tokens)
    → IsParsed tokens script → table ≡ table_of tokens script → IsUnlined compiled table fault → IsNotLined bytes fault
no_room bytes compiled table tokens script fault h cut parsed same (inl e) = subst (IsNotLined bytes) (sym e) tt
no_room bytes compiled table tokens script fault h cut parsed same (inr u) =
    subst (IsNotLined bytes) (sym u.0)
    (inr (record {
      compiled = compiled;
      is_compiled = h;
      whole = u.1;
      read = u.2;
      tokens = tokens;
      cut = cut;
      script = script;
      parsed = parsed;
      past = subst (IsPastRoom compiled (length u.1.imports)) same u.3;
    }))

pub of_ok : {A E : Type 0} {P Q : A → Type 0} (r : Result A E) → ((x : A) → P x → Q x) → IfOk r P → IfOk r Q
of_ok (Ok x) f h = f x h
of_ok (Err e) f h = tt

pub of_err : {A E : Type 0} {P Q : E → Type 0} (r : Result A E) → ((e : E) → P e → Q e) → IfErr r P → IfErr r Q
of_err (Ok x) f h = tt
of_err (Err e) f h = f e h

pub of_both : {A E : Type 0} {P Q R : A → Type 0} (r : Result A E) → ((x : A) → P x → Q x → R x) → IfOk r P → IfOk r Q → IfOk r R
of_both (Ok x) f h k = f x h k
of_both (Err e) f h k = tt
