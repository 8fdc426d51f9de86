-- What a token says, apart from where its bytes lie.
use Rattle.awk_tokens.specs.declared.token.Token.{Token}
use Rattle.awk_tokens.specs.Cutting.{Spelled}

abbrev pub spelled : Token → Spelled
spelled t = record { kind = t.kind; line = t.line; text = t.text.now }
