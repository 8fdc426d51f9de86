use Rattle.std.proofs.Common.{◌≡◌, ◌<◌, ℕ, List, [], map, length, get_or, take, refl, sym, ◌∙◌, ap, arith, true, false, below_more}
use Rattle.std.specs.Prelude.{Contains, string_bytes}
use Rattle.std.proofs.lemmas.List.{get_or-map, length-map}
use Rattle.wasm_types.specs.declared.module.Export.{Export}
use Rattle.module_validator.proofs.Names.{known_more, new_name, old_name}
use Rattle.module_validator.proofs.level.names_differ.Goals as goal

abbrev name_of : Export → List ℕ
name_of e = string_bytes e.name

item_name : (exports : List Export) (i : ℕ) (e : Export) → i < length exports → e ≡ get_or exports i e → name_of e ≡ get_or (map name_of exports) i []
item_name exports i e h is = ap name_of is ∙ sym (get_or-map name_of exports i e [] h)

pub returns-then-not-branch : goal.returns-then-not-branch
returns-then-not-branch c =
    let names : List (List ℕ) = map name_of c.args.exports.now in
    let within : c.loop-export.export-index < length names = (let h = c.loop-export-test.true in omega (arith, length-map c.args.exports.now name_of)) in
    let name = c.as_str.ensures.value ∙ item_name c.args.exports.now c.loop-export.export-index c.export-item.result c.loop-export-test.true c.export-item.is in (
      λ wrong. absurd (let e : false ≡ true = wrong in cc),
      λ distinct. absurd (old_name names c.loop-export.export-index c.as_str.result c.loop-export.seen c.insert.new.self within name (sym c.if-not-branch.true ∙ c.in_ok-insert.ensures.added) c.loop-export.invariant.known distinct),
    )

pub loop-export-preserved : goal.loop-export-preserved
loop-export-preserved c =
    let names : List (List ℕ) = map name_of c.args.exports.now in
    let i : ℕ = c.loop-export.export-index in
    let within : i < length names = (let h = c.loop-export-test.true in omega (arith, length-map c.args.exports.now name_of)) in
    let name = c.as_str.ensures.value ∙ item_name c.args.exports.now i c.export-item.result c.loop-export-test.true c.export-item.is in
    record {
      known = known_more names i c.as_str.result c.loop-export.seen c.insert.new.self within name c.in_ok-insert.ensures.updates c.loop-export.invariant.known;
      distinct = below_more (λ n. Contains (take n names) (get_or names n []) → ⊥) i c.loop-export.invariant.distinct
          (new_name names i c.as_str.result c.loop-export.seen c.insert.new.self name (sym c.if-not-branch.false ∙ c.in_ok-insert.ensures.added) c.loop-export.invariant.known);
    }

pub returns : goal.returns
returns c = (λ _ i h. c.loop-export.invariant.distinct i (let e = c.loop-export-test.false in omega (arith, length-map c.args.exports.now name_of)), λ _. refl)
