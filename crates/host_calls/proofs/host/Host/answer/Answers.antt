-- The answer to each number.
use Rattle.std.proofs.Common.{arith, rules}
use Rattle.sem_primitives.specs.declared.table.Primitive.TheVariants as row
use Rattle.host_imports.specs.declared.import.Import.TheVariants.{OfPrimitive}
use Rattle.host_calls.specs.Calls.{Gave}
use Rattle.host_calls.specs.Forms.{host_form}
use Rattle.host_calls.proofs.Numbered.{bytes_are, none_past, numbered, unknown_means}
use Rattle.host_calls.proofs.host.Host.answer.Goals as goal

pub returns-in-0 : goal.returns-in-0
returns-in-0 g c = numbered g.W.World.is_modelled (Gave g.W.World.did c.args.self.now c.on_num.new.self) c.args.number 0 (host_form g.W.World.state c.args.self.now) c.args.words.now c.args.memory.now.bytes
    c.on_num.result (host_form g.W.World.state c.on_num.new.self) (search rules) (c.on_num.ensures c.args.memory.now.bytes)

pub returns-in-1 : goal.returns-in-1
returns-in-1 g c = numbered g.W.World.is_modelled (Gave g.W.World.did c.args.self.now c.on_lit.new.self) c.args.number 1 (host_form g.W.World.state c.args.self.now) c.args.words.now c.args.memory.now.bytes
    c.on_lit.result (host_form g.W.World.state c.on_lit.new.self) (search rules)
    (bytes_are g.W.World.is_modelled (Gave g.W.World.did c.args.self.now c.on_lit.new.self) (OfPrimitive row.Lit) (host_form g.W.World.state c.args.self.now) c.args.words.now c.bytes.result.now c.args.memory.now.bytes
    c.on_lit.result (host_form g.W.World.state c.on_lit.new.self) c.bytes.ensures c.on_lit.ensures)

pub returns-in-2 : goal.returns-in-2
returns-in-2 g c = numbered g.W.World.is_modelled (Gave g.W.World.did c.args.self.now c.on_uninit.new.self) c.args.number 2 (host_form g.W.World.state c.args.self.now) c.args.words.now c.args.memory.now.bytes
    c.on_uninit.result (host_form g.W.World.state c.on_uninit.new.self) (search rules) (c.on_uninit.ensures c.args.memory.now.bytes)

pub returns-in-3 : goal.returns-in-3
returns-in-3 g c = numbered g.W.World.is_modelled (Gave g.W.World.did c.args.self.now c.on_dup.new.self) c.args.number 3 (host_form g.W.World.state c.args.self.now) c.args.words.now c.args.memory.now.bytes
    c.on_dup.result (host_form g.W.World.state c.on_dup.new.self) (search rules) (c.on_dup.ensures c.args.memory.now.bytes)

pub returns-in-4 : goal.returns-in-4
returns-in-4 g c = numbered g.W.World.is_modelled (Gave g.W.World.did c.args.self.now c.on_to_num.new.self) c.args.number 4 (host_form g.W.World.state c.args.self.now) c.args.words.now c.args.memory.now.bytes
    c.on_to_num.result (host_form g.W.World.state c.on_to_num.new.self) (search rules) (c.on_to_num.ensures c.args.memory.now.bytes)

pub returns-in-5 : goal.returns-in-5
returns-in-5 g c = numbered g.W.World.is_modelled (Gave g.W.World.did c.args.self.now c.on_int_of.new.self) c.args.number 5 (host_form g.W.World.state c.args.self.now) c.args.words.now c.args.memory.now.bytes
    c.on_int_of.result (host_form g.W.World.state c.on_int_of.new.self) (search rules) (c.on_int_of.ensures c.args.memory.now.bytes)

pub returns-in-6 : goal.returns-in-6
returns-in-6 g c = numbered g.W.World.is_modelled (Gave g.W.World.did c.args.self.now c.on_truth.new.self) c.args.number 6 (host_form g.W.World.state c.args.self.now) c.args.words.now c.args.memory.now.bytes
    c.on_truth.result (host_form g.W.World.state c.on_truth.new.self) (search rules) (c.on_truth.ensures c.args.memory.now.bytes)

pub returns-in-7 : goal.returns-in-7
returns-in-7 g c = numbered g.W.World.is_modelled (Gave g.W.World.did c.args.self.now c.on_compare.new.self) c.args.number 7 (host_form g.W.World.state c.args.self.now) c.args.words.now c.args.memory.now.bytes
    c.on_compare.result (host_form g.W.World.state c.on_compare.new.self) (search rules) (c.on_compare.ensures c.args.memory.now.bytes)

pub returns-in-8 : goal.returns-in-8
returns-in-8 g c = numbered g.W.World.is_modelled (Gave g.W.World.did c.args.self.now c.on_concat.new.self) c.args.number 8 (host_form g.W.World.state c.args.self.now) c.args.words.now c.args.memory.now.bytes
    c.on_concat.result (host_form g.W.World.state c.on_concat.new.self) (search rules) (c.on_concat.ensures c.args.memory.now.bytes)

pub returns-in-9 : goal.returns-in-9
returns-in-9 g c = numbered g.W.World.is_modelled (Gave g.W.World.did c.args.self.now c.on_pow.new.self) c.args.number 9 (host_form g.W.World.state c.args.self.now) c.args.words.now c.args.memory.now.bytes
    c.on_pow.result (host_form g.W.World.state c.on_pow.new.self) (search rules) (c.on_pow.ensures c.args.memory.now.bytes)

pub returns-in-10 : goal.returns-in-10
returns-in-10 g c = numbered g.W.World.is_modelled (Gave g.W.World.did c.args.self.now c.on_fail.new.self) c.args.number 10 (host_form g.W.World.state c.args.self.now) c.args.words.now c.args.memory.now.bytes
    c.on_fail.result (host_form g.W.World.state c.on_fail.new.self) (search rules) (c.on_fail.ensures c.args.memory.now.bytes)

pub returns-in-11 : goal.returns-in-11
returns-in-11 g c = numbered g.W.World.is_modelled (Gave g.W.World.did c.args.self.now c.on_get_special.new.self) c.args.number 11 (host_form g.W.World.state c.args.self.now) c.args.words.now c.args.memory.now.bytes
    c.on_get_special.result (host_form g.W.World.state c.on_get_special.new.self) (search rules) (c.on_get_special.ensures c.args.memory.now.bytes)

pub returns-in-12 : goal.returns-in-12
returns-in-12 g c = numbered g.W.World.is_modelled (Gave g.W.World.did c.args.self.now c.on_set_special.new.self) c.args.number 12 (host_form g.W.World.state c.args.self.now) c.args.words.now c.args.memory.now.bytes
    c.on_set_special.result (host_form g.W.World.state c.on_set_special.new.self) (search rules) (c.on_set_special.ensures c.args.memory.now.bytes)

pub returns-in-13 : goal.returns-in-13
returns-in-13 g c = numbered g.W.World.is_modelled (Gave g.W.World.did c.args.self.now c.on_field.new.self) c.args.number 13 (host_form g.W.World.state c.args.self.now) c.args.words.now c.args.memory.now.bytes
    c.on_field.result (host_form g.W.World.state c.on_field.new.self) (search rules) (c.on_field.ensures c.args.memory.now.bytes)

pub returns-in-14 : goal.returns-in-14
returns-in-14 g c = numbered g.W.World.is_modelled (Gave g.W.World.did c.args.self.now c.on_set_field.new.self) c.args.number 14 (host_form g.W.World.state c.args.self.now) c.args.words.now c.args.memory.now.bytes
    c.on_set_field.result (host_form g.W.World.state c.on_set_field.new.self) (search rules) (c.on_set_field.ensures c.args.memory.now.bytes)

pub returns-in-15 : goal.returns-in-15
returns-in-15 g c = numbered g.W.World.is_modelled (Gave g.W.World.did c.args.self.now c.on_new_array.new.self) c.args.number 15 (host_form g.W.World.state c.args.self.now) c.args.words.now c.args.memory.now.bytes
    c.on_new_array.result (host_form g.W.World.state c.on_new_array.new.self) (search rules) (c.on_new_array.ensures c.args.memory.now.bytes)

pub returns-in-16 : goal.returns-in-16
returns-in-16 g c = numbered g.W.World.is_modelled (Gave g.W.World.did c.args.self.now c.on_elem.new.self) c.args.number 16 (host_form g.W.World.state c.args.self.now) c.args.words.now c.args.memory.now.bytes
    c.on_elem.result (host_form g.W.World.state c.on_elem.new.self) (search rules) (c.on_elem.ensures c.args.memory.now.bytes)

pub returns-in-17 : goal.returns-in-17
returns-in-17 g c = numbered g.W.World.is_modelled (Gave g.W.World.did c.args.self.now c.on_set_elem.new.self) c.args.number 17 (host_form g.W.World.state c.args.self.now) c.args.words.now c.args.memory.now.bytes
    c.on_set_elem.result (host_form g.W.World.state c.on_set_elem.new.self) (search rules) (c.on_set_elem.ensures c.args.memory.now.bytes)

pub returns-in-18 : goal.returns-in-18
returns-in-18 g c = numbered g.W.World.is_modelled (Gave g.W.World.did c.args.self.now c.on_has.new.self) c.args.number 18 (host_form g.W.World.state c.args.self.now) c.args.words.now c.args.memory.now.bytes
    c.on_has.result (host_form g.W.World.state c.on_has.new.self) (search rules) (c.on_has.ensures c.args.memory.now.bytes)

pub returns-in-19 : goal.returns-in-19
returns-in-19 g c = numbered g.W.World.is_modelled (Gave g.W.World.did c.args.self.now c.on_delete.new.self) c.args.number 19 (host_form g.W.World.state c.args.self.now) c.args.words.now c.args.memory.now.bytes
    c.on_delete.result (host_form g.W.World.state c.on_delete.new.self) (search rules) (c.on_delete.ensures c.args.memory.now.bytes)

pub returns-in-20 : goal.returns-in-20
returns-in-20 g c = numbered g.W.World.is_modelled (Gave g.W.World.did c.args.self.now c.on_join.new.self) c.args.number 20 (host_form g.W.World.state c.args.self.now) c.args.words.now c.args.memory.now.bytes
    c.on_join.result (host_form g.W.World.state c.on_join.new.self) (search rules) (c.on_join.ensures c.args.memory.now.bytes)

pub returns-in-21 : goal.returns-in-21
returns-in-21 g c = numbered g.W.World.is_modelled (Gave g.W.World.did c.args.self.now c.on_iter.new.self) c.args.number 21 (host_form g.W.World.state c.args.self.now) c.args.words.now c.args.memory.now.bytes
    c.on_iter.result (host_form g.W.World.state c.on_iter.new.self) (search rules) (c.on_iter.ensures c.args.memory.now.bytes)

pub returns-in-22 : goal.returns-in-22
returns-in-22 g c = numbered g.W.World.is_modelled (Gave g.W.World.did c.args.self.now c.on_iter_next.new.self) c.args.number 22 (host_form g.W.World.state c.args.self.now) c.args.words.now c.args.memory.now.bytes
    c.on_iter_next.result (host_form g.W.World.state c.on_iter_next.new.self) (search rules) (c.on_iter_next.ensures c.args.memory.now.bytes)

pub returns-in-23 : goal.returns-in-23
returns-in-23 g c = numbered g.W.World.is_modelled (Gave g.W.World.did c.args.self.now c.on_length.new.self) c.args.number 23 (host_form g.W.World.state c.args.self.now) c.args.words.now c.args.memory.now.bytes
    c.on_length.result (host_form g.W.World.state c.on_length.new.self) (search rules) (c.on_length.ensures c.args.memory.now.bytes)

pub returns-in-24 : goal.returns-in-24
returns-in-24 g c = numbered g.W.World.is_modelled (Gave g.W.World.did c.args.self.now c.on_matches.new.self) c.args.number 24 (host_form g.W.World.state c.args.self.now) c.args.words.now c.args.memory.now.bytes
    c.on_matches.result (host_form g.W.World.state c.on_matches.new.self) (search rules) (c.on_matches.ensures c.args.memory.now.bytes)

pub returns-in-25 : goal.returns-in-25
returns-in-25 g c = numbered g.W.World.is_modelled (Gave g.W.World.did c.args.self.now c.on_match.new.self) c.args.number 25 (host_form g.W.World.state c.args.self.now) c.args.words.now c.args.memory.now.bytes
    c.on_match.result (host_form g.W.World.state c.on_match.new.self) (search rules) (c.on_match.ensures c.args.memory.now.bytes)

pub returns-in-26 : goal.returns-in-26
returns-in-26 g c = numbered g.W.World.is_modelled (Gave g.W.World.did c.args.self.now c.on_sub.new.self) c.args.number 26 (host_form g.W.World.state c.args.self.now) c.args.words.now c.args.memory.now.bytes
    c.on_sub.result (host_form g.W.World.state c.on_sub.new.self) (search rules) (c.on_sub.ensures c.args.memory.now.bytes)

pub returns-in-27 : goal.returns-in-27
returns-in-27 g c = numbered g.W.World.is_modelled (Gave g.W.World.did c.args.self.now c.on_sub_result.new.self) c.args.number 27 (host_form g.W.World.state c.args.self.now) c.args.words.now c.args.memory.now.bytes
    c.on_sub_result.result (host_form g.W.World.state c.on_sub_result.new.self) (search rules) (c.on_sub_result.ensures c.args.memory.now.bytes)

pub returns-in-28 : goal.returns-in-28
returns-in-28 g c = numbered g.W.World.is_modelled (Gave g.W.World.did c.args.self.now c.on_split.new.self) c.args.number 28 (host_form g.W.World.state c.args.self.now) c.args.words.now c.args.memory.now.bytes
    c.on_split.result (host_form g.W.World.state c.on_split.new.self) (search rules) (c.on_split.ensures c.args.memory.now.bytes)

pub returns-in-29 : goal.returns-in-29
returns-in-29 g c = numbered g.W.World.is_modelled (Gave g.W.World.did c.args.self.now c.on_substr.new.self) c.args.number 29 (host_form g.W.World.state c.args.self.now) c.args.words.now c.args.memory.now.bytes
    c.on_substr.result (host_form g.W.World.state c.on_substr.new.self) (search rules) (c.on_substr.ensures c.args.memory.now.bytes)

pub returns-in-30 : goal.returns-in-30
returns-in-30 g c = numbered g.W.World.is_modelled (Gave g.W.World.did c.args.self.now c.on_substr_from.new.self) c.args.number 30 (host_form g.W.World.state c.args.self.now) c.args.words.now c.args.memory.now.bytes
    c.on_substr_from.result (host_form g.W.World.state c.on_substr_from.new.self) (search rules) (c.on_substr_from.ensures c.args.memory.now.bytes)

pub returns-in-31 : goal.returns-in-31
returns-in-31 g c = numbered g.W.World.is_modelled (Gave g.W.World.did c.args.self.now c.on_index.new.self) c.args.number 31 (host_form g.W.World.state c.args.self.now) c.args.words.now c.args.memory.now.bytes
    c.on_index.result (host_form g.W.World.state c.on_index.new.self) (search rules) (c.on_index.ensures c.args.memory.now.bytes)

pub returns-in-32 : goal.returns-in-32
returns-in-32 g c = numbered g.W.World.is_modelled (Gave g.W.World.did c.args.self.now c.on_lower.new.self) c.args.number 32 (host_form g.W.World.state c.args.self.now) c.args.words.now c.args.memory.now.bytes
    c.on_lower.result (host_form g.W.World.state c.on_lower.new.self) (search rules) (c.on_lower.ensures c.args.memory.now.bytes)

pub returns-in-33 : goal.returns-in-33
returns-in-33 g c = numbered g.W.World.is_modelled (Gave g.W.World.did c.args.self.now c.on_upper.new.self) c.args.number 33 (host_form g.W.World.state c.args.self.now) c.args.words.now c.args.memory.now.bytes
    c.on_upper.result (host_form g.W.World.state c.on_upper.new.self) (search rules) (c.on_upper.ensures c.args.memory.now.bytes)

pub returns-in-34 : goal.returns-in-34
returns-in-34 g c = numbered g.W.World.is_modelled (Gave g.W.World.did c.args.self.now c.on_next_main.new.self) c.args.number 34 (host_form g.W.World.state c.args.self.now) c.args.words.now c.args.memory.now.bytes
    c.on_next_main.result (host_form g.W.World.state c.on_next_main.new.self) (search rules) (c.on_next_main.ensures c.args.memory.now.bytes)

pub returns-in-35 : goal.returns-in-35
returns-in-35 g c = numbered g.W.World.is_modelled (Gave g.W.World.did c.args.self.now c.on_getline.new.self) c.args.number 35 (host_form g.W.World.state c.args.self.now) c.args.words.now c.args.memory.now.bytes
    c.on_getline.result (host_form g.W.World.state c.on_getline.new.self) (search rules) (c.on_getline.ensures c.args.memory.now.bytes)

pub returns-in-36 : goal.returns-in-36
returns-in-36 g c = numbered g.W.World.is_modelled (Gave g.W.World.did c.args.self.now c.on_getline_var.new.self) c.args.number 36 (host_form g.W.World.state c.args.self.now) c.args.words.now c.args.memory.now.bytes
    c.on_getline_var.result (host_form g.W.World.state c.on_getline_var.new.self) (search rules) (c.on_getline_var.ensures c.args.memory.now.bytes)

pub returns-in-37 : goal.returns-in-37
returns-in-37 g c = numbered g.W.World.is_modelled (Gave g.W.World.did c.args.self.now c.on_getline_file.new.self) c.args.number 37 (host_form g.W.World.state c.args.self.now) c.args.words.now c.args.memory.now.bytes
    c.on_getline_file.result (host_form g.W.World.state c.on_getline_file.new.self) (search rules) (c.on_getline_file.ensures c.args.memory.now.bytes)

pub returns-in-38 : goal.returns-in-38
returns-in-38 g c = numbered g.W.World.is_modelled (Gave g.W.World.did c.args.self.now c.on_getline_var_file.new.self) c.args.number 38 (host_form g.W.World.state c.args.self.now) c.args.words.now c.args.memory.now.bytes
    c.on_getline_var_file.result (host_form g.W.World.state c.on_getline_var_file.new.self) (search rules) (c.on_getline_var_file.ensures c.args.memory.now.bytes)

pub returns-in-39 : goal.returns-in-39
returns-in-39 g c = numbered g.W.World.is_modelled (Gave g.W.World.did c.args.self.now c.on_line.new.self) c.args.number 39 (host_form g.W.World.state c.args.self.now) c.args.words.now c.args.memory.now.bytes
    c.on_line.result (host_form g.W.World.state c.on_line.new.self) (search rules) (c.on_line.ensures c.args.memory.now.bytes)

pub returns-in-40 : goal.returns-in-40
returns-in-40 g c = numbered g.W.World.is_modelled (Gave g.W.World.did c.args.self.now c.on_declare.new.self) c.args.number 40 (host_form g.W.World.state c.args.self.now) c.args.words.now c.args.memory.now.bytes
    c.on_declare.result (host_form g.W.World.state c.on_declare.new.self) (search rules)
    (bytes_are g.W.World.is_modelled (Gave g.W.World.did c.args.self.now c.on_declare.new.self) (OfPrimitive row.Declare) (host_form g.W.World.state c.args.self.now) c.args.words.now c.bytes-in-40.result.now c.args.memory.now.bytes
    c.on_declare.result (host_form g.W.World.state c.on_declare.new.self) c.bytes-in-40.ensures c.on_declare.ensures)

pub returns-in-41 : goal.returns-in-41
returns-in-41 g c = numbered g.W.World.is_modelled (Gave g.W.World.did c.args.self.now c.on_start_assign.new.self) c.args.number 41 (host_form g.W.World.state c.args.self.now) c.args.words.now c.args.memory.now.bytes
    c.on_start_assign.result (host_form g.W.World.state c.on_start_assign.new.self) (search rules) (c.on_start_assign.ensures c.args.memory.now.bytes)

pub returns-in-42 : goal.returns-in-42
returns-in-42 g c = numbered g.W.World.is_modelled (Gave g.W.World.did c.args.self.now c.on_pending_name.new.self) c.args.number 42 (host_form g.W.World.state c.args.self.now) c.args.words.now c.args.memory.now.bytes
    c.on_pending_name.result (host_form g.W.World.state c.on_pending_name.new.self) (search rules) (c.on_pending_name.ensures c.args.memory.now.bytes)

pub returns-in-43 : goal.returns-in-43
returns-in-43 g c = numbered g.W.World.is_modelled (Gave g.W.World.did c.args.self.now c.on_pending_value.new.self) c.args.number 43 (host_form g.W.World.state c.args.self.now) c.args.words.now c.args.memory.now.bytes
    c.on_pending_value.result (host_form g.W.World.state c.on_pending_value.new.self) (search rules) (c.on_pending_value.ensures c.args.memory.now.bytes)

pub returns-in-44 : goal.returns-in-44
returns-in-44 g c = numbered g.W.World.is_modelled (Gave g.W.World.did c.args.self.now c.on_begin_end.new.self) c.args.number 44 (host_form g.W.World.state c.args.self.now) c.args.words.now c.args.memory.now.bytes
    c.on_begin_end.result (host_form g.W.World.state c.on_begin_end.new.self) (search rules) (c.on_begin_end.ensures c.args.memory.now.bytes)

pub returns-in-45 : goal.returns-in-45
returns-in-45 g c = numbered g.W.World.is_modelled (Gave g.W.World.did c.args.self.now c.on_close.new.self) c.args.number 45 (host_form g.W.World.state c.args.self.now) c.args.words.now c.args.memory.now.bytes
    c.on_close.result (host_form g.W.World.state c.on_close.new.self) (search rules) (c.on_close.ensures c.args.memory.now.bytes)

pub returns-in-46 : goal.returns-in-46
returns-in-46 g c = numbered g.W.World.is_modelled (Gave g.W.World.did c.args.self.now c.on_arg.new.self) c.args.number 46 (host_form g.W.World.state c.args.self.now) c.args.words.now c.args.memory.now.bytes
    c.on_arg.result (host_form g.W.World.state c.on_arg.new.self) (search rules) (c.on_arg.ensures c.args.memory.now.bytes)

pub returns-in-47 : goal.returns-in-47
returns-in-47 g c = numbered g.W.World.is_modelled (Gave g.W.World.did c.args.self.now c.on_sprintf.new.self) c.args.number 47 (host_form g.W.World.state c.args.self.now) c.args.words.now c.args.memory.now.bytes
    c.on_sprintf.result (host_form g.W.World.state c.on_sprintf.new.self) (search rules) (c.on_sprintf.ensures c.args.memory.now.bytes)

pub returns-in-48 : goal.returns-in-48
returns-in-48 g c = numbered g.W.World.is_modelled (Gave g.W.World.did c.args.self.now c.on_print.new.self) c.args.number 48 (host_form g.W.World.state c.args.self.now) c.args.words.now c.args.memory.now.bytes
    c.on_print.result (host_form g.W.World.state c.on_print.new.self) (search rules) (c.on_print.ensures c.args.memory.now.bytes)

pub returns-in-49 : goal.returns-in-49
returns-in-49 g c = numbered g.W.World.is_modelled (Gave g.W.World.did c.args.self.now c.on_printf.new.self) c.args.number 49 (host_form g.W.World.state c.args.self.now) c.args.words.now c.args.memory.now.bytes
    c.on_printf.result (host_form g.W.World.state c.on_printf.new.self) (search rules) (c.on_printf.ensures c.args.memory.now.bytes)

pub returns-in-50 : goal.returns-in-50
returns-in-50 g c = numbered g.W.World.is_modelled (Gave g.W.World.did c.args.self.now c.on_drop.new.self) c.args.number 50 (host_form g.W.World.state c.args.self.now) c.args.words.now c.args.memory.now.bytes
    c.on_drop.result (host_form g.W.World.state c.on_drop.new.self) (search rules) (c.on_drop.ensures c.args.memory.now.bytes)

pub returns-in-51 : goal.returns-in-51
returns-in-51 g c = numbered g.W.World.is_modelled (Gave g.W.World.did c.args.self.now c.on_iter_free.new.self) c.args.number 51 (host_form g.W.World.state c.args.self.now) c.args.words.now c.args.memory.now.bytes
    c.on_iter_free.result (host_form g.W.World.state c.on_iter_free.new.self) (search rules) (c.on_iter_free.ensures c.args.memory.now.bytes)

pub returns-in-52 : goal.returns-in-52
returns-in-52 g c = numbered g.W.World.is_modelled (Gave g.W.World.did c.args.self.now c.on_free_array.new.self) c.args.number 52 (host_form g.W.World.state c.args.self.now) c.args.words.now c.args.memory.now.bytes
    c.on_free_array.result (host_form g.W.World.state c.on_free_array.new.self) (search rules) (c.on_free_array.ensures c.args.memory.now.bytes)

pub returns-in-53 : goal.returns-in-53
returns-in-53 g c = numbered g.W.World.is_modelled (Gave g.W.World.did c.args.self.now c.on_next_file.new.self) c.args.number 53 (host_form g.W.World.state c.args.self.now) c.args.words.now c.args.memory.now.bytes
    c.on_next_file.result (host_form g.W.World.state c.on_next_file.new.self) (search rules) (c.on_next_file.ensures c.args.memory.now.bytes)

pub returns-in-54 : goal.returns-in-54
returns-in-54 g c = numbered g.W.World.is_modelled (Gave g.W.World.did c.args.self.now c.on_clear.new.self) c.args.number 54 (host_form g.W.World.state c.args.self.now) c.args.words.now c.args.memory.now.bytes
    c.on_clear.result (host_form g.W.World.state c.on_clear.new.self) (search rules) (c.on_clear.ensures c.args.memory.now.bytes)

pub returns-in-55 : goal.returns-in-55
returns-in-55 g c = numbered g.W.World.is_modelled (Gave g.W.World.did c.args.self.now c.on_flush.new.self) c.args.number 55 (host_form g.W.World.state c.args.self.now) c.args.words.now c.args.memory.now.bytes
    c.on_flush.result (host_form g.W.World.state c.on_flush.new.self) (search rules) (c.on_flush.ensures c.args.memory.now.bytes)

pub returns-in_default-2 : goal.returns-in_default-2
returns-in_default-2 g c =
    unknown_means g.W.World.is_modelled g.W.World.state g.W.World.did c.args.number c.args.self.now c.args.words.now c.args.memory.now.bytes c.unknown.result c.unknown.ensures (none_past c.args.number (omega arith))
