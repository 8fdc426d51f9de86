use Rattle.awk_parse.proofs.NumberTexts.{token_number, number_token}
use Rattle.awk_parse.proofs.parse_laws.script_numbers_are_number_texts.Goals as goal

pub returns : goal.returns
returns c = λ text. (token_number text, number_token text)
