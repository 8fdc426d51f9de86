use Rattle.std.proofs.Common.{[], refl, rules, subst, sym}
use Rattle.wasm_model.specs.declared.host.HostAnswer.{HostAnswer}
use Rattle.host_imports.specs.declared.import.Import.TheVariants as import
use Rattle.host_tables.proofs.Tellings.{refused_means}
use Rattle.host_calls.specs.Calls.{Gave, MeansSome}
use Rattle.host_calls.specs.Forms.{host_form}
use Rattle.host_calls.proofs.Comes.{refused_kept}
use Rattle.host_calls.proofs.Gaves.{gave_none}
use Rattle.host_calls.proofs.Numbered.{found_at, unknown_means}
use Rattle.host_calls.proofs.host.Host.answer_faulted.Goals as goal

pub returns-in-Drop : goal.returns-in-Drop
returns-in-Drop g c memory =
    found_at g.W.World.is_modelled (Gave g.W.World.did c.args.self.now c.on_drop.new.self) c.args.number import.Drop (host_form g.W.World.state c.args.self.now) c.args.words.now memory
    c.on_drop.result (host_form g.W.World.state c.on_drop.new.self)
    (search rules) (c.on_drop.ensures memory)

pub returns-in-IterFree : goal.returns-in-IterFree
returns-in-IterFree g c memory =
    found_at g.W.World.is_modelled (Gave g.W.World.did c.args.self.now c.on_iter_free.new.self) c.args.number import.IterFree (host_form g.W.World.state c.args.self.now) c.args.words.now memory
    c.on_iter_free.result (host_form g.W.World.state c.on_iter_free.new.self)
    (search rules) (c.on_iter_free.ensures memory)

pub returns-in-FreeArray : goal.returns-in-FreeArray
returns-in-FreeArray g c memory =
    found_at g.W.World.is_modelled (Gave g.W.World.did c.args.self.now c.on_free_array.new.self) c.args.number import.FreeArray (host_form g.W.World.state c.args.self.now) c.args.words.now memory
    c.on_free_array.result (host_form g.W.World.state c.on_free_array.new.self)
    (search rules) (c.on_free_array.ensures memory)

pub returns-in-OfPrimitive : goal.returns-in-OfPrimitive
returns-in-OfPrimitive g c memory =
    let before = host_form g.W.World.state c.args.self.now in
    let i = c.in-Some.import in
    let means = subst (λ (a : HostAnswer). MeansSome g.W.World.is_modelled (Gave g.W.World.did c.args.self.now c.args.self.now) i before c.args.words.now memory a before) (sym c.refused.ensures) (
      [],
      gave_none g.W.World.did c.args.self.now c.args.self.now refl refl,
      refused_means g.W.World.is_modelled i before c.args.words.now memory (refused_kept i _ (search rules) c.requires),
    ) in
    found_at g.W.World.is_modelled (Gave g.W.World.did c.args.self.now c.args.self.now) c.args.number i before c.args.words.now memory c.refused.result before (search rules) means

pub returns-in_default : goal.returns-in_default
returns-in_default g c memory =
    unknown_means g.W.World.is_modelled g.W.World.state g.W.World.did c.args.number c.args.self.now c.args.words.now memory c.unknown.result c.unknown.ensures (search rules)
