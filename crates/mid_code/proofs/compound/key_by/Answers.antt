use Rattle.std.proofs.Common.{◌<◌, ◌≤◌, length, map, ap, ◌∙◌, arith}
use Rattle.std.proofs.lemmas.Result.{IfOk-weaker}
use Rattle.sem_primitives.specs.declared.table.Primitive.TheVariants as row
use Rattle.mid_program.specs.Translation.{host, two}
use Rattle.mid_program.specs.ViewCode.{view}
use Rattle.mid_program.specs.declared.code.Code.{Code as Owned}
use Rattle.mid_code.specs.Keys.{key_of}
use Rattle.mid_code.proofs.Keys.{key_after, only_key}
use Rattle.mid_code.proofs.compound.key_by.Goals as goal

pub returns-then-len-lt2 : goal.returns-then-len-lt2
returns-then-len-lt2 c =
    let few : length c.args.codes.items < 2 = omega (arith, c.args.codes.ok.0, c.len.ensures) in
    only_key c.args.codes.items _ c.pop.result _ few c.pop.ensures.items (rw (c.args.codes.ok.0, c.pop.new.self.ok.0) at c.pop.ensures.cases) c.unwrap_or.ensures

pub returns : goal.returns
returns c =
    let more : 2 ≤ length c.args.codes.items = omega (arith, c.args.codes.ok.0, c.len.ensures) in
    IfOk-weaker c.joined_key.result _ _ (λ r h. h ∙ ap (λ (e : Owned). host row.Join (two (view e) (key_of (map view c.remove.new.self.items)))) c.in_ok-first.ensures
    ∙ key_after c.args.codes.items _ c.remove.result more c.remove.ensures.value c.remove.ensures.by_index.2) c.joined_key.ensures
