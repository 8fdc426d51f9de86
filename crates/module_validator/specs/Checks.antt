-- What the checker says of an instruction and of code.
use Rattle.std.specs.Prelude.{◌≡◌, ◌↔◌, List, map, ◌++◌, Option, Result, ⊤, MatchResult}
use Rattle.wasm_types.specs.declared.types.ValType.{ValType}
use Rattle.wasm_types.specs.declared.instr.Simple.{Simple}
use Rattle.wasm_types.specs.Syntax.{Instruction, Instructions}
use Rattle.wasm_types.specs.View.{view_module}
use Rattle.module_validator.specs.declared.checker.Scope.{Scope}
use Rattle.module_validator.specs.declared.stack.Refusal.{Refusal}
use Rattle.wasm_types.specs.Typing.{Context, effect_of, InstrOk, CodeOk, callee_in, typed_in, is_there}
use Rattle.module_validator.specs.Forms.{Form, Fits, next, after, Refutes}

abbrev pub context_of : Scope → Context
context_of s = let m = view_module s.whole.now in record {
  locals = s.params.now ++ s.own.now;
  result = s.gives;
  callee = callee_in m;
  typed = typed_in m;
  globals = map (λ g. g.ty) m.globals;
  memory = is_there m.memories;
  table = is_there m.tables;
}

-- what the algorithm knows behind an instruction without a body
abbrev pub behind : Context → List (Option ValType) → Simple → Form → Option Form
behind C L p s = next (effect_of C L p) (λ e. after e s)

-- an instruction takes one whole stack to another
abbrev pub Steps : Context → List (Option ValType) → Instruction → List ValType → List ValType → Type 0
Steps C L x ks ms = (ps : List ValType) × (rs : List ValType) × (under : List ValType) × InstrOk C L x ps rs × (ks ≡ ps ++ under) × (ms ≡ rs ++ under)

-- from some stack that the knowledge allows
abbrev pub StepsFrom : Context → List (Option ValType) → Instruction → Form → List ValType → Type 0
StepsFrom C L x s ms = (ks : List ValType) × Fits s ks × Steps C L x ks ms

abbrev pub RunsFrom : Context → List (Option ValType) → Instructions → Form → List ValType → Type 0
RunsFrom C L code s ns = (ks : List ValType) × Fits s ks × CodeOk C L code ks ns

-- the new knowledge is exactly what the typing allows
abbrev pub IsExact : Context → List (Option ValType) → Instruction → Form → Form → Type 0
IsExact C L x s t = (ms : List ValType) → StepsFrom C L x s ms ↔ Fits t ms

-- an instruction that can be typed from somewhere
abbrev pub CanStep : Context → List (Option ValType) → Instruction → Form → Type 0
CanStep C L x s = (ms : List ValType) × StepsFrom C L x s ms

abbrev pub Follows : Result ⊤ Refusal → Context → List (Option ValType) → Instruction → Form → Form → Type 0
Follows r C L x s t = MatchResult r (λ _. IsExact C L x s t) (λ e. Refutes e (CanStep C L x s))
