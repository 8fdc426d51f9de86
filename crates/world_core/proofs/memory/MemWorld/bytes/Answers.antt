use Rattle.std.proofs.Common.{◌≡◌, ap, sym, ◌∙◌, Some, None, List, ℕ, option_copied}
use Rattle.world_core.specs.WorldState.{Entry}
use Rattle.world_core.specs.Memory.{place}
use Rattle.world_core.specs.declared.names.NamedFile.{NamedFile}
use Rattle.world_core.proofs.NameLemmas.{entry_at-place, entry_at-none}
use Rattle.world_core.proofs.memory.MemWorld.bytes.Goals as goal

pub returns-in_err-at : goal.returns-in_err-at
returns-in_err-at c =
    let none : place c.args.self.now.files.items c.args.name.now ≡ None = ap (λ (files : List NamedFile). place files c.args.name.now) (sym c.deref.ensures.value) ∙ sym c.in_err-at.ensures in
    ap option_copied c.from_residual.ensures ∙ sym (ap (λ (e : Entry). e.bytes) (entry_at-none c.args.self.now.files.items c.args.name.now none))

pub returns-in_err-held : goal.returns-in_err-held
returns-in_err-held c =
    let found : place c.args.self.now.files.items c.args.name.now ≡ Some c.in_ok-at.at = ap (λ (files : List NamedFile). place files c.args.name.now) (sym c.deref.ensures.value) ∙ sym c.in_ok-at.ensures in
    let here = entry_at-place c.args.self.now.files.items c.args.name.now c.in_ok-at.at c.index.result.now found in
    ap option_copied c.from_residual-in_err-held.ensures ∙ c.in_err-held.ensures.value ∙ ap (λ (f : NamedFile). f.file.bytes) c.index.ensures ∙ sym (ap (λ (e : Entry). e.bytes) here)

pub returns : goal.returns
returns c =
    let found : place c.args.self.now.files.items c.args.name.now ≡ Some c.in_ok-at.at = ap (λ (files : List NamedFile). place files c.args.name.now) (sym c.deref.ensures.value) ∙ sym c.in_ok-at.ensures in
    let here = entry_at-place c.args.self.now.files.items c.args.name.now c.in_ok-at.at c.index.result.now found in
    ap (λ (bytes : List ℕ). Some bytes) c.as_slice.ensures ∙ c.in_ok-held.ensures.value ∙ ap (λ (f : NamedFile). f.file.bytes) c.index.ensures ∙ sym (ap (λ (e : Entry). e.bytes) here)
