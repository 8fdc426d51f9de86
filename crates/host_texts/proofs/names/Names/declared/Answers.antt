use Rattle.host_texts.specs.NameForms.{announced}
use Rattle.host_texts.proofs.Announced.{declared_found, declared_missing}
use Rattle.host_texts.proofs.names.Names.declared.Goals as goal

pub returns-in-Some : goal.returns-in-Some
returns-in-Some c = declared_found c.args.text.now (announced c.args.self.now) c.in-Some.at c.in-Some.kind.now c.in-Some.ensures.index c.in-Some.ensures.value

pub returns-in-None : goal.returns-in-None
returns-in-None c = declared_missing c.args.text.now (announced c.args.self.now) c.in-None.ensures.value
