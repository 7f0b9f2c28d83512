use Rattle.std.proofs.Common.{rules, arith, ◌≡◌, ◌∙◌, ◌<◌, ℕ, ◌+◌, ◌-◌, List, Option, None, Some, length, map, drop, replicate, slice_set, sym, ap}
use Rattle.std.proofs.lemmas.List.{length-set, map-set}
use Rattle.std.proofs.lemmas.List.Elements.{All-set}
use Rattle.spec_trees.specs.Expr.{Expr}
use Rattle.spec_trees.specs.Module.{Block}
use Rattle.spec_programs.specs.Definitions.{constant_named}
use Rattle.py_tree.specs.Arena.{shown_stmt}
use Rattle.py_tree.specs.Exprs.{IsBoundBelow}
use Rattle.py_tree.specs.Stmts.{block_tree, optional_expr}
use Rattle.py_program.proofs.Named.{constant_here, no_constant_here, no_constants, no_values, stmts_from}
use Rattle.py_program.proofs.constants.constants.Goals as goal

pub loop-behind-init : goal.loop-behind-init
loop-behind-init c =
    let m = c.args.module.now in
    let none : c.in_ok-constants.constants.items ≡ replicate (length m.names) None = search (rules, c.in_ok-constants.ensures.items_if_clones_equal, c.names_count.ensures.count) in
    record {
      constants = rw none (no_constants m m.tops c.top-behind.result (omega (arith, c.top-behind.ensures.count)));
      values = rw none (no_values m);
      size = omega (arith, c.in_ok-constants.ensures.len, c.names_count.ensures.count);
      place = omega (arith, c.top-behind.ensures.count);
    }

pub loop-behind-preserved-in-Some : goal.loop-behind-preserved-in-Some
loop-behind-preserved-in-Some c =
    let m = c.args.module.now in
    let s = c.top_stmt-statement.result in
    let n = c.in-Some.name in
    let i : ℕ = c.loop-behind.behind - 1 in
    let back : c.loop-behind.behind ≡ i + 1 = omega (arith, c.loop-behind-test.true) in
    let rest : Block = block_tree (shown_stmt m) (drop (i + 1) m.tops) in
    let so_far : map (optional_expr m) c.loop-behind.constants.items ≡ map (constant_named rest) m.names = c.loop-behind.invariant.constants ∙ ap (λ (k : ℕ). map (constant_named (block_tree (shown_stmt m) (drop k m.tops))) m.names) back in
    record {
      constants = map-set (optional_expr m) c.loop-behind.constants.items n.index c.value.result
          ∙ ap (λ (v : List (Option Expr)). slice_set v n.index (optional_expr m c.value.result)) so_far
          ∙ ap (λ (v : Option Expr). slice_set (map (constant_named rest) m.names) n.index v) c.value.ensures.value
          ∙ constant_here m.names (shown_stmt m s.index) rest c.constant_name.result c.constant_name.ensures.text n c.names_count.ensures.«module».distinct c.in-Some.ensures.there c.in-Some.is
          ∙ ap (λ (b : Block). map (constant_named b) m.names) (sym (stmts_from (shown_stmt m) m.tops i s c.top_stmt-statement.ensures.statement));
      values = All-set (IsBoundBelow (length m.exprs)) c.loop-behind.constants.items n.index c.value.result c.value.ensures.there c.loop-behind.invariant.values;
      size = length-set c.loop-behind.constants.items n.index c.value.result ∙ c.loop-behind.invariant.size;
      place = omega (arith, c.loop-behind.invariant.place);
    }

pub loop-behind-preserved : goal.loop-behind-preserved
loop-behind-preserved c =
    let m = c.args.module.now in
    let s = c.top_stmt-statement.result in
    let i : ℕ = c.loop-behind.behind - 1 in
    let back : c.loop-behind.behind ≡ i + 1 = omega (arith, c.loop-behind-test.true) in
    let rest : Block = block_tree (shown_stmt m) (drop (i + 1) m.tops) in
    record {
      constants = c.loop-behind.invariant.constants
          ∙ ap (λ (k : ℕ). map (constant_named (block_tree (shown_stmt m) (drop k m.tops))) m.names) back
          ∙ no_constant_here m.names (shown_stmt m s.index) rest c.constant_name.result c.constant_name.ensures.text c.in_default.is
          ∙ ap (λ (b : Block). map (constant_named b) m.names) (sym (stmts_from (shown_stmt m) m.tops i s c.top_stmt-statement.ensures.statement));
      values = c.loop-behind.invariant.values;
      size = c.loop-behind.invariant.size;
      place = omega (arith, c.loop-behind.invariant.place);
    }
