use Rattle.std.proofs.Common.{◌≡◌, length, refl, arith, rules}
use Rattle.awk_tokens.specs.declared.token.Punctuator.TheVariants.{CloseParen}
use Rattle.awk_tokens.specs.declared.token.TokenKind.TheVariants.{Punctuator}
use Rattle.awk_tokens.specs.State.{context_of}
use Rattle.awk_tokens.proofs.States.{closing, closing_none}
use Rattle.awk_tokens.proofs.before.Before.push.Goals as goal

pub returns-in-Some : goal.returns-in-Some
returns-in-Some c =
    let is : c.args.kind ≡ Punctuator CloseParen = search rules in
    closing c.args.kind (context_of c.args.self.now) _ _ _ is c.in-Some.ensures.items refl

pub returns-in-None : goal.returns-in-None
returns-in-None c =
    let before : length c.args.self.now.«open».items ≡ 0 = omega (arith, c.in-None.ensures.cases.0) in
    let after : length c.pop.new.self.items ≡ 0 = omega (arith, c.in-None.ensures.cases.1) in
    let is : c.args.kind ≡ Punctuator CloseParen = search rules in
    closing_none c.args.kind (context_of c.args.self.now) _ _ is before after refl
