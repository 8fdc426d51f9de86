-- What a built-in function does with the code of one operand.
use Rattle.sem_primitives.specs.declared.table.Primitive.TheVariants as row
use Rattle.awk_tokens.specs.declared.reserved_words.Builtin.{Builtin}
use Rattle.awk_tokens.specs.declared.reserved_words.Builtin.TheVariants as builtin
use Rattle.mid_program.specs.Mid.{Code, Do, Unset}
use Rattle.mid_program.specs.Translation.{host, one}
use Rattle.mid_program.specs.declared.mid.Operation.TheVariants.{AsNumber}

-- all but `int`, whose code depends on what its operand is
abbrev pub applied_to : Builtin → Code → Code
applied_to builtin.Length e = host row.Length (one e)
applied_to builtin.ToLower e = host row.Lower (one e)
applied_to builtin.ToUpper e = host row.Upper (one e)
applied_to builtin.Close e = Do AsNumber (one (host row.Close (one e)))
applied_to builtin.Fflush e = Do AsNumber (one (host row.Flush (one e)))
applied_to f e = Unset
