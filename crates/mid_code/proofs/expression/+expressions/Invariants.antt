use Rattle.std.proofs.Common.{◌≡◌, ◌++◌, drop, map}
use Rattle.awk_grammar.specs.View.{views as trees}
use Rattle.awk_resolve.specs.ViewKinds.{view_name_kinds}
use Rattle.mid_program.specs.Translation.{argument_codes, codes_of}
use Rattle.mid_program.specs.ViewCode.{followed, view, views}
use Rattle.mid_code.specs.ViewScope.{scope_of, texts_of}
use Rattle.mid_code.specs.Keys.{each_code}
use Rattle.mid_code.proofs.expression.+expressions.Given as goal

abbrev pub invariant-push_operands-loop-e : goal.invariant-push_operands-loop-e
invariant-push_operands-loop-e l =
    followed (views l.codes.items) (codes_of (texts_of l.scope) (scope_of l.scope) (trees (drop l.e-index l.es)))
    ≡ followed (views l.fn.codes.items) (codes_of (texts_of l.scope) (scope_of l.scope) (trees l.es))

abbrev pub invariant-codes-loop-e : goal.invariant-codes-loop-e
invariant-codes-loop-e l =
    map view l.codes.items ++ each_code (texts_of l.scope) (scope_of l.scope) (trees (drop l.e-index l.es))
    ≡ each_code (texts_of l.scope) (scope_of l.scope) (trees l.es)

abbrev pub invariant-call-loop-i : goal.invariant-call-loop-i
invariant-call-loop-i l =
    followed (views l.operands.items) (argument_codes (texts_of l.scope) (scope_of l.scope) (view_name_kinds (drop l.i l.parameters))
    (trees (drop l.i l.es)))
    ≡ argument_codes (texts_of l.scope) (scope_of l.scope) (view_name_kinds l.parameters) (trees l.es)
