mod Limits
mod Operands
mod Compiling
mod OneModule
