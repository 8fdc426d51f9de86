-- A script has one module: it has one list of tokens, these have one tree, and the module is that of the tree's code.
use Rattle.std.proofs.Common.{◌≡◌, ℕ, List, Result, Ok, Err, sym, ap, ◌∙◌, subst}
use Rattle.awk_tokens.specs.Cutting.{Spelled}
use Rattle.awk_tokens.proofs.Whole.{one_outcome}
use Rattle.awk_grammar.specs.Trees.{Item}
use Rattle.awk_grammar.proofs.ItemComplete.{one_script}
use Rattle.sem_scripts.specs.Kinds.{resolved}
use Rattle.mid_program.specs.Translation.{program_of}
use Rattle.lower_model.specs.Modules.{module_of}
use Rattle.script_code.specs.Coded.{IsSound, unboxed}
use Rattle.script_compiler.specs.Compiled.{IsCompiled}

abbrev ok_of : {A E : Type 0} → A → Result A E → A
ok_of d (Ok x) = x
ok_of d (Err e) = d

same_script : (tokens : List Spelled) (a b : List Item) → IsSound tokens a → IsSound tokens b → a ≡ b
same_script tokens a b p q = let s = p.parsed.read.tree in let t = q.parsed.read.tree in one_script a b s.fine t.fine (s.parts ∙ sym t.parts)

pub one_module : (script a b : List ℕ) (x : IsCompiled script a) (y : IsCompiled script b) → x.whole ≡ y.whole
one_module script a b x y =
    let tokens = ap (ok_of x.tokens) (one_outcome script (Ok x.tokens) (Ok y.tokens) x.cut y.cut) in
    let trees = same_script x.tokens x.script y.script x.sound (subst (λ (ts : List Spelled). IsSound ts y.script) (sym tokens) y.sound) in
    let code = x.code_is ∙ (ap (λ (items : List Item). unboxed (program_of (resolved items))) trees ∙ sym y.code_is) in
    x.whole_is ∙ (ap module_of code ∙ sym y.whole_is)
