use Rattle.std.proofs.Common.{◌≡◌, ◌<◌, ◌∙◌, ◌∷◌, [], List, Some, length, length-append, refl, ap, sym, subst, arith}
use Rattle.std.specs.List.{All}
use Rattle.std.specs.Prelude.{slice_get}
use Rattle.std.specs.Global.{Vec}
use Rattle.std.specs.Vec.{with_item}
use Rattle.std.specs.declared.alloc.Global.{Global}
use Rattle.std.specs.declared.rc.Rc.{Rc}
use Rattle.std.proofs.lemmas.List.{length-set}
use Rattle.std.proofs.lemmas.List.Elements.{All-nil, All-push}
use Rattle.std.proofs.lemmas.Option.{slice_get_read}
use Rattle.wasm_types.specs.declared.instr.Instr.{Instr}
use Rattle.wasm_types.specs.declared.module.Func.{Func}
use Rattle.wasm_types.specs.View.{views}
use Rattle.wasm_loader.specs.Laid.{Laid}
use Rattle.wasm_machine.specs.ViewConf.{Begins, module_with}
use Rattle.wasm_machine.proofs.WithCodes.{whole_taken, whole_untaken}
use Rattle.wasm_machine.proofs.link.own_codes.Goals as goal

pub loop-number-init : goal.loop-number-init
loop-number-init c =
    let m = c.args.whole.now in
    let items = c.in_ok-codes.ensures.items in
    (subst (All Begins) (sym items) (All-nil Begins), ap (λ (fs : List Laid). length fs) items, refl, ap (module_with m) items ∙ whole_untaken m)

pub loop-number-preserved : goal.loop-number-preserved
loop-number-preserved c =
    let inv = c.loop-number.invariant in
    let m = c.loop-number.whole in
    let old = c.loop-number.codes.items in
    let n = c.loop-number.number in
    let code = c.in_ok-code.code in
    let func = c.index_mut.result.now in
    let new = c.body_of-body.new.func in
    let items = c.in_ok-push.ensures.items in
    let test = c.loop-number-test.true in
    let end = c.len-number-end.ensures in
    let is = c.args.whole.now.funcs.ok in
    let same = inv.2 in
    let within : n < length m.funcs.items = omega (arith, test, end, is, same) in
    let found : slice_get m.funcs.items n ≡ Some func = slice_get_read m.funcs.items (length m.funcs.items) n func refl within c.index_mut.ensures.value in
    let taken = c.body_of-body.ensures.func in
    let said = c.in_ok-code.ensures.body ∙ ap (λ (body : Rc (Vec Instr) Global). views body.value.items) c.body_of-body.ensures.body in
    let more = ap (λ (fs : List Laid). length fs) items in
    let size = length-append old (code ∷ []) in
    let count = inv.1 in
    let funcs = with_item m.funcs n new in (
      subst (All Begins) (sym items) (All-push Begins old code inv.0 c.in_ok-code.ensures.begins),
      omega (arith, more, size, count),
      length-set m.funcs.items n new ∙ same,
      ap (module_with (record m { funcs = funcs })) items
          ∙ (whole_taken m funcs old n func new code refl (sym count) found (ap (λ (x : Func). x.ty) taken) (ap (λ (x : Func). x.locals) taken) said ∙ inv.3),
    )
