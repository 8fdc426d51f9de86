-- Lines and statuses of ends, computed from the definitions.
use Rattle.std.specs.Prelude.{◌≡◌, [], ◌∷◌, Some, codes, refl}
use Rattle.std.specs.Fmt.{digits}
use Rattle.run_report.specs.declared.end.Refusal.TheVariants.{Compile, Decode, Invalid, Link}
use Rattle.run_report.specs.declared.compile_fault.CompileFault.TheVariants.{Token, Parse, Ere, Resolve, TooLarge}
use Rattle.awk_parse.specs.declared.fault.Feature.TheVariants.{Pipe, Word}
use Rattle.awk_parse.specs.declared.fault.ParseFault.TheVariants.{ConstantRange, LeftOut as LeavesOut, Misplaced, NotWhole, Syntax}
use Rattle.awk_resolve.specs.declared.fault.ResolveFault.TheVariants.{KindClash, UnknownFunction}
use Rattle.awk_tokens.specs.Words.{entry, left_out_words}
use Rattle.awk_tokens.specs.declared.token.TokenFault.TheVariants.{BadByte, OpenString}
use Rattle.awk_tokens.specs.declared.reserved_words.LeftOut.{LeftOut}
use Rattle.awk_tokens.specs.declared.reserved_words.LeftOut.TheVariants.{Atan2, Cos, Exp, Func, Log, Rand, Sin, Sqrt, Srand, System}
use Rattle.ere_syntax.specs.declared.fault.EreFault.TheVariants.{BadEre, EreTooLarge}
use Rattle.run_report.specs.declared.end.RunEnd.TheVariants.{Ended, Exhausted, Faulted, NoMemory, OutOfSteps, Refused, Trapped}
use Rattle.awk_values.specs.declared.fault.Fault.TheVariants.{Range}
use Rattle.module_decoder.specs.declared.fault.DecodeFault.TheVariants.{BadInteger, Truncated}
use Rattle.module_validator.specs.declared.valid.InvalidFault.TheVariants.{BadType}
use Rattle.wasm_model.specs.declared.fault.LinkFault.TheVariants.{NoMain}
use Rattle.wasm_store.specs.declared.trap.TrapKind.TheVariants.{BadHandle}
use Rattle.run_report.specs.declared.report.FileFault.TheVariants.{CannotRead}
use Rattle.run_report.specs.Escapes.{shown, shown_after}
use Rattle.run_report.specs.EndTexts.{end_text, exit_code, file_text, left_out_word, line_of}

pub range_line : end_text (Faulted Range) ≡ codes "awkwasm: Range\n"
unfolding line_of
range_line = refl

pub range_status : exit_code (Faulted Range) ≡ 2
range_status = refl

pub no_line_of_a_status : end_text (Ended 0) ≡ []
no_line_of_a_status = refl

pub status_of_its_own : exit_code (Ended 255) ≡ 255
status_of_its_own = refl

pub integer_line : end_text (Refused (Decode (BadInteger 9))) ≡ codes "awkwasm: BadInteger 9\n"
unfolding line_of digits
integer_line = refl

pub truncated_line : end_text (Refused (Decode (Truncated 7))) ≡ codes "awkwasm: Truncated 7\n"
unfolding line_of digits
truncated_line = refl

pub type_line : end_text (Refused (Invalid (BadType 0))) ≡ codes "awkwasm: BadType 0\n"
unfolding line_of digits
type_line = refl

pub large_line : end_text (Refused (Compile TooLarge)) ≡ codes "awkwasm: TooLarge\n"
unfolding line_of
large_line = refl

pub token_line : end_text (Refused (Compile (Token (OpenString 1)))) ≡ codes "awkwasm: OpenString 1\n"
unfolding line_of digits
token_line = refl

pub byte_line : end_text (Refused (Compile (Token (BadByte 1)))) ≡ codes "awkwasm: BadByte 1\n"
unfolding line_of digits
byte_line = refl

pub syntax_line : end_text (Refused (Compile (Parse (Syntax 1)))) ≡ codes "awkwasm: Syntax 1\n"
unfolding line_of digits
syntax_line = refl

pub constant_line : end_text (Refused (Compile (Parse (ConstantRange 1)))) ≡ codes "awkwasm: ConstantRange 1\n"
unfolding line_of digits
constant_line = refl

pub fraction_line : end_text (Refused (Compile (Parse (NotWhole 1)))) ≡ codes "awkwasm: NotWhole 1\n"
unfolding line_of digits
fraction_line = refl

pub jump_line : end_text (Refused (Compile (Parse (Misplaced 1)))) ≡ codes "awkwasm: Misplaced 1\n"
unfolding line_of digits
jump_line = refl

pub left_out_line : end_text (Refused (Compile (Parse (LeavesOut 1 (Word System))))) ≡ codes "awkwasm: LeftOut 1 system\n"
unfolding line_of digits
left_out_line = refl

pub pipe_line : end_text (Refused (Compile (Parse (LeavesOut 12 Pipe)))) ≡ codes "awkwasm: LeftOut 12 pipe\n"
unfolding line_of digits
pipe_line = refl

pub expression_line : end_text (Refused (Compile (Ere 1 (BadEre 2)))) ≡ codes "awkwasm: BadEre 1 2\n"
unfolding line_of digits
expression_line = refl

pub large_expression_line : end_text (Refused (Compile (Ere 3 EreTooLarge))) ≡ codes "awkwasm: EreTooLarge 3\n"
unfolding line_of digits
large_expression_line = refl

pub clash_line : end_text (Refused (Compile (Resolve (KindClash (codes "a"))))) ≡ codes "awkwasm: KindClash a\n"
unfolding line_of
clash_line = refl

pub function_line : end_text (Refused (Compile (Resolve (UnknownFunction (codes "f"))))) ≡ codes "awkwasm: UnknownFunction f\n"
unfolding line_of
function_line = refl

-- each word that is left out is told as scripts have it
pub left_out_words_are : (word : LeftOut) → entry (left_out_word word) left_out_words ≡ Some word
unfolding left_out_words
left_out_words_are Atan2 = refl
left_out_words_are Cos = refl
left_out_words_are Sin = refl
left_out_words_are Exp = refl
left_out_words_are Log = refl
left_out_words_are Sqrt = refl
left_out_words_are Rand = refl
left_out_words_are Srand = refl
left_out_words_are System = refl
left_out_words_are Func = refl

pub no_main_line : end_text (Refused (Link NoMain)) ≡ codes "awkwasm: NoMain\n"
unfolding line_of
no_main_line = refl

pub refused_status : exit_code (Refused (Link NoMain)) ≡ 3
refused_status = refl

pub handle_line : end_text (Trapped BadHandle) ≡ codes "awkwasm: BadHandle\n"
unfolding line_of
handle_line = refl

pub handle_status : exit_code (Trapped BadHandle) ≡ 7
handle_status = refl

pub out_of_steps_status : exit_code OutOfSteps ≡ 4
out_of_steps_status = refl

pub no_memory_status : exit_code NoMemory ≡ 5
no_memory_status = refl

pub exhausted_status : exit_code Exhausted ≡ 6
exhausted_status = refl

pub unread_line : file_text CannotRead ≡ codes "awkwasm: CannotRead\n"
unfolding line_of
unread_line = refl

-- texts for a terminal
pub escape_is_shown : shown (97 ∷ (27 ∷ codes "[31m\n")) ≡ codes "a\\x1b[31m\n"
unfolding shown_after
escape_is_shown = refl
