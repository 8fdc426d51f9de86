-- Modules as plain data: what the trees of the code stand for, without pointers and capacities.
use Rattle.std.specs.Prelude.{ℕ, List, Option}
use Rattle.wasm_types.specs.declared.types.ValType.{ValType}
use Rattle.wasm_types.specs.declared.types.Limits.{Limits}
use Rattle.wasm_types.specs.declared.types.GlobalType.{GlobalType}
use Rattle.wasm_types.specs.declared.instr.Simple.{Simple}
use Rattle.wasm_types.specs.declared.module.ExportDesc.{ExportDesc}

mutual
  pub data Instruction : Type 0 where
    Plain : Simple → Instruction
    BrTable : List ℕ → ℕ → Instruction
    Block Loop : Option ValType → Instructions → Instruction
    If : Option ValType → Instructions → Instructions → Instruction

  pub data Instructions : Type 0 where
    Done : Instructions
    Then : Instruction → Instructions → Instructions

-- a function type
pub record Signature : Type 0 where
  pub params : List ValType
  pub result : Option ValType

-- names are their bytes
pub record ImportForm : Type 0 where
  pub from : List ℕ
  pub name : List ℕ
  pub ty : ℕ

pub record FuncForm : Type 0 where
  pub ty : ℕ
  pub locals : List ValType
  pub body : Instructions

pub record GlobalForm : Type 0 where
  pub ty : GlobalType
  pub init : Instructions

pub record ExportForm : Type 0 where
  pub name : List ℕ
  pub desc : ExportDesc

pub record ElemForm : Type 0 where
  pub table : ℕ
  pub offset : Instructions
  pub init : List ℕ

pub record DataForm : Type 0 where
  pub memory : ℕ
  pub offset : Instructions
  pub init : List ℕ

pub record ModuleForm : Type 0 where
  pub types : List Signature
  pub imports : List ImportForm
  pub funcs : List FuncForm
  pub tables : List Limits
  pub memories : List Limits
  pub globals : List GlobalForm
  pub exports : List ExportForm
  pub start : Option ℕ
  pub elems : List ElemForm
  pub data_segments : List DataForm
