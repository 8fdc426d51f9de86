use Rattle.std.proofs.Common.{◌≡◌, ◌∷◌, ◌++◌, ◌∙◌, [], List, Option, Some, ℕ, length, length-append, ap, sym, subst, arith}
use Rattle.std.specs.List.{All}
use Rattle.std.specs.Prelude.{slice_get}
use Rattle.std.proofs.lemmas.List.Elements.{All-push}
use Rattle.wasm_types.specs.Syntax.{ModuleForm}
use Rattle.wasm_model.specs.Links.{entry_code}
use Rattle.wasm_loader.specs.Laid.{Laid, code_at}
use Rattle.wasm_machine.specs.ViewConf.{Begins, module_with}
use Rattle.wasm_machine.proofs.Laying.{slice_get_last}
use Rattle.wasm_machine.proofs.WithCodes.{whole_more}
use Rattle.wasm_machine.proofs.link.codes_of.Goals as goal

pub returns : goal.returns
returns c =
    let m = c.own_codes.new.whole in
    let old = c.in_ok-codes.codes.items in
    let code = c.in_ok-first.first in
    let items = c.in_ok-push.ensures.items in
    let count = c.in_ok-codes.ensures.count in
    let start : m.start ≡ c.args.whole.now.start = ap (λ (x : ModuleForm). x.start) c.in_ok-codes.ensures.whole in
    record {
      codes = record {
        begin = subst (All Begins) (sym items) (All-push Begins old code c.in_ok-codes.ensures.begin c.in_ok-first.ensures.begins);
        count = (let size = ap (λ (fs : List Laid). length fs) items in let more = length-append old (code ∷ []) in omega (arith, size, more, count));
        first = λ f e.
            let there : slice_get c.push.new.items.items (length m.funcs.items) ≡ Some code =
            ap (λ (fs : List Laid). slice_get fs (length m.funcs.items)) items ∙ (ap (slice_get (old ++ code ∷ [])) (sym count) ∙ slice_get_last old code) in
            let same : Some f ≡ Some code = sym e ∙ there in
            let is : f ≡ code = cc in
            (ap (λ (x : Laid). code_at x 0) is ∙ (c.in_ok-first.ensures.body ∙ ap (λ (s : Option ℕ). entry_code s c.args.main) start), ap (λ (x : Laid). x.locals) is ∙ c.in_ok-first.ensures.locals, ap (λ (x : Laid). x.gives) is ∙ c.in_ok-first.ensures.gives);
      };
      whole = ap (module_with m) items ∙ (whole_more m old (code ∷ []) count ∙ c.in_ok-codes.ensures.whole);
    }
