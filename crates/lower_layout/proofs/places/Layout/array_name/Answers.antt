use Rattle.std.proofs.Common.{◌≡◌, ℕ, List, length, map, get_or, sym, ap, ◌∙◌, arith}
use Rattle.std.proofs.lemmas.List.{get_or_past, length-map}
use Rattle.mid_program.specs.Mid as plain
use Rattle.mid_program.specs.Mid.{Kind}
use Rattle.mid_program.specs.Sorted.{kinds_of}
use Rattle.mid_program.specs.View.{view_declared}
use Rattle.mid_program.specs.declared.program.Declared.{Declared}
use Rattle.lower_layout.proofs.ArrayLemmas.{name_found, name_within}
use Rattle.lower_layout.proofs.places.Layout.array_name.Goals as goal

-- there are as many kinds as names
as_many : (ds : List Declared) → length (kinds_of (map view_declared ds)) ≡ length ds
as_many ds =
    let outer = length-map (map view_declared ds) (λ (d : plain.Declared). d.kind) in
    let inner = length-map ds view_declared in
    omega (arith, outer, inner)

pub returns-in-Some-clause-name : goal.returns-in-Some-clause-name
returns-in-Some-clause-name c =
    let ks = kinds_of (map view_declared c.args.self.now.program.now.globals.items) in
    let listed = c.deref.ensures.value ∙ c.args.self.now.named in
    c.in-Some.ensures.lookup.3.1 (length ks) ∙ ap (λ (ns : List ℕ). get_or ns c.args.array (length ks)) listed ∙ name_found ks c.args.array

pub returns-in-Some-clause-few : goal.returns-in-Some-clause-few
returns-in-Some-clause-few c =
    let ds = c.args.self.now.program.now.globals.items in
    let is = returns-in-Some-clause-name c in
    let few = name_within (kinds_of (map view_declared ds)) c.args.array in
    let many = as_many ds in
    omega (arith, is, few, many)

pub returns-in-None-clause-name : goal.returns-in-None-clause-name
returns-in-None-clause-name c =
    let ds = c.args.self.now.program.now.globals.items in
    let ks = kinds_of (map view_declared ds) in
    let listed = c.deref.ensures.value ∙ c.args.self.now.named in
    let past = c.in-None.ensures.lookup.3 in
    c.len.ensures ∙ c.args.self.now.program.now.globals.ok.0 ∙ sym (as_many ds) ∙ sym (get_or_past c.deref.result.now c.args.array (length ks) past)
    ∙ ap (λ (ns : List ℕ). get_or ns c.args.array (length ks)) listed ∙ name_found ks c.args.array
