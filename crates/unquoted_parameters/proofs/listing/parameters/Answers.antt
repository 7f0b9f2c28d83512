use Rattle.std.proofs.Common.{◌∙◌, None, ap, arith, get_or, map, sym}
use Rattle.std.proofs.lemmas.Simd.{map-map}
use Rattle.spec_programs.specs.Programs.{param_of}
use Rattle.py_tree.specs.Stmts.{AreParametersThere, parameters_tree}
use Rattle.module_functions.specs.declared.function.Function.{Function}
use Rattle.module_functions.specs.Listed.{function_in}
use Rattle.read_annotations.proofs.Turns.{made_all, made_more}
use Rattle.unquoted_parameters.specs.Parameters.{as_param}
use Rattle.unquoted_parameters.proofs.Kept.{function_kept, params_kept}
use Rattle.unquoted_parameters.proofs.Lists.{function_there}
use Rattle.unquoted_parameters.proofs.listing.parameters.Goals as goal

pub parameters_of-requires : goal.parameters_of-requires
parameters_of-requires c =
    let otherwise : Function = record { statement = record { index = 0 }; class = None } in
    let there = function_there c.args.module.now c.args.functions.now c.loop-function.function-index otherwise c.requires c.loop-function-test.true in
    (function_kept c.args.module.now c.loop-function.module c.loop-function.invariant.grown c.types_count.ensures.«module» (get_or c.args.functions.now c.loop-function.function-index otherwise) there).0

pub loop-function-preserved : goal.loop-function-preserved
loop-function-preserved c =
    let first = c.args.module.now in
    let now = c.loop-function.module in
    let here = c.loop-function.invariant in
    let there = function_there first c.args.functions.now c.loop-function.function-index _ c.requires c.loop-function-test.true in
    let kept = function_kept first now here.grown c.types_count.ensures.«module» _ there in
    made_more (λ f. map param_of (function_in first f).parameters) (λ m x. map as_param (parameters_tree m x.items)) (λ m x. AreParametersThere m x.items) params_kept c.args.functions.now first now c.loop-function.lists.items c.loop-function.function-index here
    c.parameters_of.new.module c.in_ok-next.next c.push.new.self.items _ c.loop-function-test.true c.parameters_of.ensures.grown c.in_ok-next.ensures.there (c.in_ok-next.ensures.parameters ∙ ap (λ g. map param_of g.parameters) kept.1) c.in_ok-push.ensures.items

pub returns-clause-parameters : goal.returns-clause-parameters
returns-clause-parameters c =
    let first = c.args.module.now in
    made_all (λ f. map param_of (function_in first f).parameters) (λ m x. map as_param (parameters_tree m x.items)) (λ m x. AreParametersThere m x.items) params_kept c.args.functions.now first c.loop-function.module c.loop-function.lists.items c.loop-function.function-index c.loop-function.invariant (omega (arith, c.loop-function-test.false))
    ∙ sym (map-map (λ f. map param_of f.parameters) (function_in first) c.args.functions.now)
