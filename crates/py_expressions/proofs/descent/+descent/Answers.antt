use Rattle.std.proofs.Common.{rules, arith, ◌∙◌, ◌≡◌, ◌-◌, ◌+◌, ◌<◌, ◌≤◌, drop, sym, suc, refl, ap}
use Rattle.std.proofs.lemmas.Result.{err_from_is_err_and}
use Rattle.spec_grammar.specs.Reading.{below, expr_with, prim_with, arguments_with, arg_with, generator_with, subscript_with, slice_with, atom_with, signed_with, group_with, list_with, dict_with, pair_with}
use Rattle.py_tree.specs.Arena.{shown}
use Rattle.py_tree.specs.Exprs.{name_of}
use Rattle.spec_grammar.proofs.Full.{room_of_below}
use Rattle.py_expressions.proofs.Growth.{grows_same, grows_then}
use Rattle.py_expressions.proofs.Later.{expr_later, expr_read, text_later, bound_later, items_then, pairs_then, links_then, arguments_then}
use Rattle.py_expressions.proofs.Turns.{below_expr, below_level, no_expr, no_level, fails_on, args_end, args_last, args_no_comma, args_out, args_stuck, args_turn, arguments_generated, arguments_listed, arguments_no_generator, arguments_no_list, arguments_open, arguments_stuck, atom_leaf, atom_signed, attribute_stuck, attribute_turn, call_stuck, call_turn, chain_end, chain_out, chain_stuck, chain_turn, conditions_end, conditions_out, conditions_stuck, conditions_turn, dict_read, dict_stuck, generator_read, generator_stuck, items_end, items_no_comma, items_out, items_stuck, items_trailing, items_turn, level_loose, level_prefixed, level_stuck, level_tight, links_end, links_out, links_stuck, links_turn, list_last, list_more, list_no_comma, list_read, list_stuck, named, no_arguments_at, operands_joined, operands_left, operands_stuck, pairs_end, pairs_no_comma, pairs_out, pairs_stuck, pairs_trailing, pairs_turn, prim_turn, signed_none, subscript_stuck, subscript_turn, suffixes_end, suffixes_out}
use Rattle.py_expressions.proofs.descent.+descent.Goals as goal

pub operators::expr-returns-then-room-eq0-clause-read : goal.operators::expr-returns-then-room-eq0-clause-read
operators::expr-returns-then-room-eq0-clause-read t c = no_expr _ _ c.if-room-eq0.true

pub operators::expr-returns-clause-read : goal.operators::expr-returns-clause-read
operators::expr-returns-clause-read t c =
    let lt : 0 < c.args.room = omega arith in
    rw (below_expr c.args.room (drop c.args.pos c.args.words.now) lt) c.conditional.ensures.read

pub operators::nested-returns-then-room-eq0-clause-read : goal.operators::nested-returns-then-room-eq0-clause-read
operators::nested-returns-then-room-eq0-clause-read t c = no_level _ _ _ c.if-room-eq0.true

pub operators::nested-returns-clause-read : goal.operators::nested-returns-clause-read
operators::nested-returns-clause-read t c =
    let lt : 0 < c.args.room = omega arith in
    rw (below_level c.args.room c.args.of (drop c.args.pos c.args.words.now) lt) c.level.ensures.read

pub operators::conditional-returns-in_err-value-clause-read : goal.operators::conditional-returns-in_err-value-clause-read
unfolding expr_with
operators::conditional-returns-in_err-value-clause-read t c =
    let p = err_from_is_err_and c.from_residual.result c.from_residual.ensures.1 in
    rw (p.1, p.2) (fails_on _ _ _ c.in_err-value.ensures.read (λ n. rw (n) refl))

pub operators::conditional-returns-in_default-clause-read : goal.operators::conditional-returns-in_default-clause-read
unfolding expr_with
operators::conditional-returns-in_default-clause-read t c = (c.in_ok-value.ensures.read.0, rw (c.in_ok-value.ensures.read.1, c.in_default.ensures) refl)

pub operators::conditional-returns-in_err-condition-clause-read : goal.operators::conditional-returns-in_err-condition-clause-read
unfolding expr_with
operators::conditional-returns-in_err-condition-clause-read t c =
    let p = err_from_is_err_and c.from_residual-in_err-condition.result c.from_residual-in_err-condition.ensures.1 in
    rw (p.1, p.2) (fails_on _ _ _ c.in_err-condition.ensures.read (λ n. rw (c.in_ok-value.ensures.read.1, c.in-Some.ensures, n) refl))

pub operators::conditional-returns-in_default-sign-clause-read : goal.operators::conditional-returns-in_default-sign-clause-read
unfolding expr_with
operators::conditional-returns-in_default-sign-clause-read t c = rw (c.in_ok-value.ensures.read.1, c.in-Some.ensures, c.in_ok-condition.ensures.read.1, c.in_default-sign.ensures) refl

pub operators::conditional-returns-in_err-otherwise-clause-read : goal.operators::conditional-returns-in_err-otherwise-clause-read
unfolding expr_with
operators::conditional-returns-in_err-otherwise-clause-read t c =
    let p = err_from_is_err_and c.from_residual-in_err-otherwise.result c.from_residual-in_err-otherwise.ensures.1 in
    rw (p.1, p.2) (fails_on _ _ _ c.in_err-otherwise.ensures.read (λ n. rw (c.in_ok-value.ensures.read.1, c.in-Some.ensures, c.in_ok-condition.ensures.read.1, c.in-Some-sign.ensures, n) refl))

pub operators::conditional-returns-clause-read : goal.operators::conditional-returns-clause-read
unfolding expr_with
operators::conditional-returns-clause-read t c =
    let v = expr_read _ _ (grows_then _ _ _ c.in_ok-condition.ensures.grown c.in_ok-otherwise.ensures.grown) c.in_ok-value.ensures.grown.valid _ _ _ c.in_ok-value.ensures.read in
    let d = expr_read _ _ c.in_ok-otherwise.ensures.grown c.in_ok-condition.ensures.grown.valid _ _ _ c.in_ok-condition.ensures.read in
    (c.in_ok-choice.ensures.there, rw (c.in_ok-choice.ensures.tree, c.line.ensures, v.1, c.in-Some.ensures, d.1, c.in-Some-sign.ensures, c.in_ok-otherwise.ensures.read.1) refl)

pub operators::conditional-add-requires-clause-parts : goal.operators::conditional-add-requires-clause-parts
operators::conditional-add-requires-clause-parts t c =
    let v = expr_read _ _ (grows_then _ _ _ c.in_ok-condition.ensures.grown c.in_ok-otherwise.ensures.grown) c.in_ok-value.ensures.grown.valid _ _ _ c.in_ok-value.ensures.read in
    let d = expr_read _ _ c.in_ok-otherwise.ensures.grown c.in_ok-condition.ensures.grown.valid _ _ _ c.in_ok-condition.ensures.read in
    (v.0, d.0, c.in_ok-otherwise.ensures.read.0)

pub operators::level-returns-in_err-operand-clause-read : goal.operators::level-returns-in_err-operand-clause-read
operators::level-returns-in_err-operand-clause-read t c =
    let p = err_from_is_err_and c.from_residual.result c.from_residual.ensures.1 in
    rw (p.1, p.2) (fails_on _ _ _ c.in_err-operand.ensures.read (λ n. level_stuck _ _ _ _ _ c.in-Some.ensures n))

pub operators::level-returns-in-Some-clause-read : goal.operators::level-returns-in-Some-clause-read
operators::level-returns-in-Some-clause-read t c = (c.in_ok-prefixed.ensures.there, rw (c.in_ok-prefixed.ensures.tree, c.line.ensures) (level_prefixed _ _ _ _ _ _ _ c.in-Some.ensures c.in_ok-operand.ensures.read.1))

pub operators::level-returns-then-of-eq0-clause-read : goal.operators::level-returns-then-of-eq0-clause-read
operators::level-returns-then-of-eq0-clause-read t c = rw (level_tight (below c.args.room) c.args.of (drop c.args.pos c.args.words.now) c.if-of-eq0.true c.in_default.ensures) c.prim.ensures.read

pub operators::level-returns-clause-read : goal.operators::level-returns-clause-read
operators::level-returns-clause-read t c =
    let lt : 0 < c.args.of = omega arith in
    rw (level_loose (below c.args.room) c.args.of (drop c.args.pos c.args.words.now) lt c.in_default.ensures) c.operands.ensures.read

pub operators::operands-returns-in_err-first-clause-read : goal.operators::operands-returns-in_err-first-clause-read
operators::operands-returns-in_err-first-clause-read t c =
    let p = err_from_is_err_and c.from_residual.result c.from_residual.ensures.1 in
    rw (p.1, p.2) (fails_on _ _ _ c.in_err-first.ensures.read (λ n. rw (n) refl))

pub operators::operands-returns-then-of-lt-FIRST_CHAIN-clause-read : goal.operators::operands-returns-then-of-lt-FIRST_CHAIN-clause-read
operators::operands-returns-then-of-lt-FIRST_CHAIN-clause-read t c = rw (operands_left (below c.args.room) c.args.of c.line-line.result c.args.room (drop c.args.pos c.args.words.now) _ _ c.in_ok-first.ensures.read.1 c.if-of-lt-FIRST_CHAIN.true c.line-line.ensures (room_of_below c.args.room)) c.chain.ensures.read

pub operators::operands-returns-in_err-links-clause-read : goal.operators::operands-returns-in_err-links-clause-read
operators::operands-returns-in_err-links-clause-read t c =
    let le : 6 ≤ c.args.of = omega arith in
    let p = err_from_is_err_and c.from_residual-in_err-links.result c.from_residual-in_err-links.ensures.1 in
    rw (p.1, p.2) (fails_on _ _ _ c.in_err-links.ensures.read (λ n. operands_stuck _ _ _ _ _ _ c.in_ok-first.ensures.read.1 le (room_of_below c.args.room) n))

pub operators::operands-returns-clause-read : goal.operators::operands-returns-clause-read
operators::operands-returns-clause-read t c =
    let le : 6 ≤ c.args.of = omega arith in
    let a = expr_read _ _ c.in_ok-links.ensures.grown c.in_ok-first.ensures.grown.valid _ _ _ c.in_ok-first.ensures.read in
    (c.in_ok-joined.ensures.there, rw c.in_ok-joined.ensures.tree (operands_joined _ _ _ _ _ _ _ _ _ a.1 le c.line-line.ensures (room_of_below c.args.room) c.in_ok-links.ensures.read.1))

pub operators::operands-joined-requires-clause-first : goal.operators::operands-joined-requires-clause-first
operators::operands-joined-requires-clause-first t c =
    let a = expr_read _ _ c.in_ok-links.ensures.grown c.in_ok-first.ensures.grown.valid _ _ _ c.in_ok-first.ensures.read in
    a.0

pub operators::chain-operators-preserved : goal.operators::chain-operators-preserved
operators::chain-operators-preserved t c =
    let k : c.args.room - c.operators.counter ≡ suc (c.args.room - (c.operators.counter + 1)) = omega arith in
    let l = expr_later _ _ c.in_ok-right.ensures.grown c.operators.invariant.grown.valid _ c.operators.invariant.here in
    record {
      grown = grows_then _ _ _ c.operators.invariant.grown (grows_then _ _ _ c.in_ok-right.ensures.grown c.in_ok-left.ensures.grown);
      here = c.in_ok-left.ensures.there;
      read = rw (c.in_ok-left.ensures.tree, l.1) (sym (chain_turn _ _ _ _ _ _ _ _ _ _ _ k c.in-Some.ensures c.in_ok-right.ensures.read.1) ∙ c.operators.invariant.read);
    }

pub operators::chain-add-requires-clause-parts : goal.operators::chain-add-requires-clause-parts
operators::chain-add-requires-clause-parts t c =
    let l = expr_later _ _ c.in_ok-right.ensures.grown c.operators.invariant.grown.valid _ c.operators.invariant.here in
    (l.0, c.in_ok-right.ensures.read.0)

pub operators::chain-returns-in_default-clause-read : goal.operators::chain-returns-in_default-clause-read
operators::chain-returns-in_default-clause-read t c =
    let k : c.args.room - c.operators.counter ≡ suc (c.args.room - (c.operators.counter + 1)) = omega arith in
    (c.operators.invariant.here, sym c.operators.invariant.read ∙ chain_end _ _ _ _ _ _ _ k c.in_default.ensures)

pub operators::chain-returns-in_err-right-clause-read : goal.operators::chain-returns-in_err-right-clause-read
operators::chain-returns-in_err-right-clause-read t c =
    let k : c.args.room - c.operators.counter ≡ suc (c.args.room - (c.operators.counter + 1)) = omega arith in
    let p = err_from_is_err_and c.from_residual.result c.from_residual.ensures.1 in
    rw (p.1, p.2) (fails_on _ _ _ c.in_err-right.ensures.read (λ n. sym c.operators.invariant.read ∙ chain_stuck _ _ _ _ _ _ _ _ _ k c.in-Some.ensures n))

pub operators::chain-returns-clause-read : goal.operators::chain-returns-clause-read
operators::chain-returns-clause-read t c =
    let z : c.args.room - c.operators.counter ≡ 0 = omega arith in
    sym c.operators.invariant.read ∙ chain_out _ _ _ _ _ _ z

pub operators::links-operators-preserved : goal.operators::links-operators-preserved
operators::links-operators-preserved t c =
    let k : c.args.room - c.operators.counter ≡ suc (c.args.room - (c.operators.counter + 1)) = omega arith in
    let l = links_then _ _ c.in_ok-operand.ensures.grown c.operators.invariant.grown.valid _ _ _ c.operators.invariant.here c.in_ok-operand.ensures.read.0 c.in_ok-push.ensures.items in
    record {
      grown = grows_then _ _ _ c.operators.invariant.grown c.in_ok-operand.ensures.grown;
      here = l.0;
      read = rw l.1 (sym (links_turn _ _ _ _ _ _ _ _ _ _ k c.in-Some.ensures c.in_ok-operand.ensures.read.1) ∙ c.operators.invariant.read);
    }

pub operators::links-returns-in_default-clause-read : goal.operators::links-returns-in_default-clause-read
operators::links-returns-in_default-clause-read t c =
    let k : c.args.room - c.operators.counter ≡ suc (c.args.room - (c.operators.counter + 1)) = omega arith in
    (c.operators.invariant.here, sym c.operators.invariant.read ∙ links_end _ _ _ _ _ _ k c.in_default.ensures)

pub operators::links-returns-in_err-operand-clause-read : goal.operators::links-returns-in_err-operand-clause-read
operators::links-returns-in_err-operand-clause-read t c =
    let k : c.args.room - c.operators.counter ≡ suc (c.args.room - (c.operators.counter + 1)) = omega arith in
    let p = err_from_is_err_and c.from_residual.result c.from_residual.ensures.1 in
    rw (p.1, p.2) (fails_on _ _ _ c.in_err-operand.ensures.read (λ n. sym c.operators.invariant.read ∙ links_stuck _ _ _ _ _ _ _ _ k c.in-Some.ensures n))

pub operators::links-returns-clause-read : goal.operators::links-returns-clause-read
operators::links-returns-clause-read t c =
    let z : c.args.room - c.operators.counter ≡ 0 = omega arith in
    sym c.operators.invariant.read ∙ links_out _ _ _ _ _ z

pub generators::conditions-list-preserved : goal.generators::conditions-list-preserved
generators::conditions-list-preserved t c =
    let k : c.args.room - c.list.counter ≡ suc (c.args.room - (c.list.counter + 1)) = omega arith in
    let l = items_then _ _ c.in_ok-condition.ensures.grown c.list.invariant.grown.valid _ _ _ c.list.invariant.here c.in_ok-condition.ensures.read.0 c.in_ok-push.ensures.items in
    record {
      grown = grows_then _ _ _ c.list.invariant.grown c.in_ok-condition.ensures.grown;
      here = l.0;
      read = rw l.1 (sym (conditions_turn _ _ _ _ _ _ _ _ k c.in-Some.ensures c.in_ok-condition.ensures.read.1) ∙ c.list.invariant.read);
    }

pub generators::conditions-returns-in_default-clause-read : goal.generators::conditions-returns-in_default-clause-read
generators::conditions-returns-in_default-clause-read t c =
    let k : c.args.room - c.list.counter ≡ suc (c.args.room - (c.list.counter + 1)) = omega arith in
    (c.list.invariant.here, sym c.list.invariant.read ∙ conditions_end _ _ _ _ _ k c.in_default.ensures)

pub generators::conditions-returns-in_err-condition-clause-read : goal.generators::conditions-returns-in_err-condition-clause-read
generators::conditions-returns-in_err-condition-clause-read t c =
    let k : c.args.room - c.list.counter ≡ suc (c.args.room - (c.list.counter + 1)) = omega arith in
    let p = err_from_is_err_and c.from_residual.result c.from_residual.ensures.1 in
    rw (p.1, p.2) (fails_on _ _ _ c.in_err-condition.ensures.read (λ n. sym c.list.invariant.read ∙ conditions_stuck _ _ _ _ _ _ k c.in-Some.ensures n))

pub generators::conditions-returns-clause-read : goal.generators::conditions-returns-clause-read
generators::conditions-returns-clause-read t c =
    let z : c.args.room - c.list.counter ≡ 0 = omega arith in
    sym c.list.invariant.read ∙ conditions_out _ _ _ _ z

pub displays::items-list-preserved : goal.displays::items-list-preserved
displays::items-list-preserved t c =
    let k : c.args.room - c.list.counter ≡ suc (c.args.room - (c.list.counter + 1)) = omega arith in
    let l = items_then _ _ c.in_ok-value.ensures.grown c.list.invariant.grown.valid _ _ _ c.list.invariant.here c.in_ok-value.ensures.read.0 c.in_ok-push.ensures.items in
    record {
      grown = grows_then _ _ _ c.list.invariant.grown c.in_ok-value.ensures.grown;
      here = l.0;
      read = rw l.1 (sym (items_turn _ _ _ _ _ _ _ _ k c.in_default.ensures c.in-Some-sign.ensures c.in_default-sign-2.ensures c.in_ok-value.ensures.read.1) ∙ c.list.invariant.read);
    }

pub displays::items-returns-in-Some-clause-read : goal.displays::items-returns-in-Some-clause-read
displays::items-returns-in-Some-clause-read t c =
    let k : c.args.room - c.list.counter ≡ suc (c.args.room - (c.list.counter + 1)) = omega arith in
    (c.list.invariant.here, sym c.list.invariant.read ∙ items_end _ _ _ _ _ _ k c.in-Some.ensures)

pub displays::items-returns-in_default-sign-clause-read : goal.displays::items-returns-in_default-sign-clause-read
displays::items-returns-in_default-sign-clause-read t c =
    let k : c.args.room - c.list.counter ≡ suc (c.args.room - (c.list.counter + 1)) = omega arith in
    sym c.list.invariant.read ∙ items_no_comma _ _ _ _ _ k c.in_default.ensures c.in_default-sign.ensures

pub displays::items-returns-in-Some-sign-2-clause-read : goal.displays::items-returns-in-Some-sign-2-clause-read
displays::items-returns-in-Some-sign-2-clause-read t c =
    let k : c.args.room - c.list.counter ≡ suc (c.args.room - (c.list.counter + 1)) = omega arith in
    (c.list.invariant.here, sym c.list.invariant.read ∙ items_trailing _ _ _ _ _ _ _ k c.in_default.ensures c.in-Some-sign.ensures c.in-Some-sign-2.ensures)

pub displays::items-returns-in_err-value-clause-read : goal.displays::items-returns-in_err-value-clause-read
displays::items-returns-in_err-value-clause-read t c =
    let k : c.args.room - c.list.counter ≡ suc (c.args.room - (c.list.counter + 1)) = omega arith in
    let p = err_from_is_err_and c.from_residual-in_err-value.result c.from_residual-in_err-value.ensures.1 in
    rw (p.1, p.2) (fails_on _ _ _ c.in_err-value.ensures.read (λ n. sym c.list.invariant.read ∙ items_stuck _ _ _ _ _ _ k c.in_default.ensures c.in-Some-sign.ensures c.in_default-sign-2.ensures n))

pub displays::items-returns-clause-read : goal.displays::items-returns-clause-read
displays::items-returns-clause-read t c =
    let z : c.args.room - c.list.counter ≡ 0 = omega arith in
    sym c.list.invariant.read ∙ items_out _ _ _ _ z

pub displays::pairs-list-preserved : goal.displays::pairs-list-preserved
displays::pairs-list-preserved t c =
    let k : c.args.room - c.list.counter ≡ suc (c.args.room - (c.list.counter + 1)) = omega arith in
    let l = pairs_then _ _ c.in_ok-item.ensures.grown c.list.invariant.grown.valid _ _ _ c.list.invariant.here c.in_ok-item.ensures.read.0 c.in_ok-item.ensures.read.1 c.in_ok-push.ensures.items in
    record {
      grown = grows_then _ _ _ c.list.invariant.grown c.in_ok-item.ensures.grown;
      here = l.0;
      read = rw l.1 (sym (pairs_turn _ _ _ _ _ _ _ _ _ k c.in_default.ensures c.in-Some-sign.ensures c.in_default-sign-2.ensures c.in_ok-item.ensures.read.2) ∙ c.list.invariant.read);
    }

pub displays::pairs-returns-in-Some-clause-read : goal.displays::pairs-returns-in-Some-clause-read
displays::pairs-returns-in-Some-clause-read t c =
    let k : c.args.room - c.list.counter ≡ suc (c.args.room - (c.list.counter + 1)) = omega arith in
    (c.list.invariant.here, sym c.list.invariant.read ∙ pairs_end _ _ _ _ _ _ k c.in-Some.ensures)

pub displays::pairs-returns-in_default-sign-clause-read : goal.displays::pairs-returns-in_default-sign-clause-read
displays::pairs-returns-in_default-sign-clause-read t c =
    let k : c.args.room - c.list.counter ≡ suc (c.args.room - (c.list.counter + 1)) = omega arith in
    sym c.list.invariant.read ∙ pairs_no_comma _ _ _ _ _ k c.in_default.ensures c.in_default-sign.ensures

pub displays::pairs-returns-in-Some-sign-2-clause-read : goal.displays::pairs-returns-in-Some-sign-2-clause-read
displays::pairs-returns-in-Some-sign-2-clause-read t c =
    let k : c.args.room - c.list.counter ≡ suc (c.args.room - (c.list.counter + 1)) = omega arith in
    (c.list.invariant.here, sym c.list.invariant.read ∙ pairs_trailing _ _ _ _ _ _ _ k c.in_default.ensures c.in-Some-sign.ensures c.in-Some-sign-2.ensures)

pub displays::pairs-returns-in_err-item-clause-read : goal.displays::pairs-returns-in_err-item-clause-read
displays::pairs-returns-in_err-item-clause-read t c =
    let k : c.args.room - c.list.counter ≡ suc (c.args.room - (c.list.counter + 1)) = omega arith in
    let p = err_from_is_err_and c.from_residual-in_err-item.result c.from_residual-in_err-item.ensures.1 in
    rw (p.1, p.2) (fails_on _ _ _ c.in_err-item.ensures.read (λ n. sym c.list.invariant.read ∙ pairs_stuck _ _ _ _ _ _ k c.in_default.ensures c.in-Some-sign.ensures c.in_default-sign-2.ensures n))

pub displays::pairs-returns-clause-read : goal.displays::pairs-returns-clause-read
displays::pairs-returns-clause-read t c =
    let z : c.args.room - c.list.counter ≡ 0 = omega arith in
    sym c.list.invariant.read ∙ pairs_out _ _ _ _ z

pub calls::more_arguments-list-preserved : goal.calls::more_arguments-list-preserved
calls::more_arguments-list-preserved t c =
    let k : c.args.room - c.list.counter ≡ suc (c.args.room - (c.list.counter + 1)) = omega arith in
    let l = arguments_then _ _ c.in_ok-item.ensures.grown c.list.invariant.grown.valid _ _ _ c.list.invariant.here c.in_ok-item.ensures.read.0 c.in_ok-item.ensures.read.1 c.in_ok-push.ensures.items in
    record {
      grown = grows_then _ _ _ c.list.invariant.grown c.in_ok-item.ensures.grown;
      here = l.0;
      read = rw (c.is_some-named.ensures, sym (named c.argument.new.into.names c.in_ok-item.item.name), l.1) (sym (args_turn _ _ _ _ _ _ _ _ _ _ k c.in_default.ensures c.in_ok-item.ensures.read.2 c.in_default-sign.ensures c.in-Some-sign-2.ensures) ∙ c.list.invariant.read);
    }

pub calls::more_arguments-returns-in-Some-clause-read : goal.calls::more_arguments-returns-in-Some-clause-read
calls::more_arguments-returns-in-Some-clause-read t c =
    let k : c.args.room - c.list.counter ≡ suc (c.args.room - (c.list.counter + 1)) = omega arith in
    (c.list.invariant.here, sym c.list.invariant.read ∙ args_end _ _ _ _ _ _ _ k c.in-Some.ensures)

pub calls::more_arguments-returns-in-Some-sign-clause-read : goal.calls::more_arguments-returns-in-Some-sign-clause-read
calls::more_arguments-returns-in-Some-sign-clause-read t c =
    let k : c.args.room - c.list.counter ≡ suc (c.args.room - (c.list.counter + 1)) = omega arith in
    let l = arguments_then _ _ c.in_ok-item.ensures.grown c.list.invariant.grown.valid _ _ _ c.list.invariant.here c.in_ok-item.ensures.read.0 c.in_ok-item.ensures.read.1 c.in_ok-push.ensures.items in
    (l.0, rw l.1 (sym c.list.invariant.read ∙ args_last _ _ _ _ _ _ _ _ _ _ k c.in_default.ensures c.in_ok-item.ensures.read.2 c.in-Some-sign.ensures))

pub calls::more_arguments-returns-in_default-sign-2-clause-read : goal.calls::more_arguments-returns-in_default-sign-2-clause-read
calls::more_arguments-returns-in_default-sign-2-clause-read t c =
    let k : c.args.room - c.list.counter ≡ suc (c.args.room - (c.list.counter + 1)) = omega arith in
    sym c.list.invariant.read ∙ args_no_comma _ _ _ _ _ _ _ _ _ k c.in_default.ensures c.in_ok-item.ensures.read.2 c.in_default-sign.ensures c.in_default-sign-2.ensures

pub calls::more_arguments-returns-in_err-item-clause-read : goal.calls::more_arguments-returns-in_err-item-clause-read
calls::more_arguments-returns-in_err-item-clause-read t c =
    let k : c.args.room - c.list.counter ≡ suc (c.args.room - (c.list.counter + 1)) = omega arith in
    let p = err_from_is_err_and c.from_residual.result c.from_residual.ensures.1 in
    rw (p.1, p.2) (fails_on _ _ _ c.in_err-item.ensures.read (λ n. sym c.list.invariant.read ∙ args_stuck _ _ _ _ _ _ k c.in_default.ensures n))

pub calls::more_arguments-returns-clause-read : goal.calls::more_arguments-returns-clause-read
calls::more_arguments-returns-clause-read t c =
    let z : c.args.room - c.list.counter ≡ 0 = omega arith in
    sym c.list.invariant.read ∙ args_out _ _ _ _ _ z

pub primaries::prim-returns-in_err-first-clause-read : goal.primaries::prim-returns-in_err-first-clause-read
unfolding prim_with
primaries::prim-returns-in_err-first-clause-read t c =
    let p = err_from_is_err_and c.from_residual.result c.from_residual.ensures.1 in
    rw (p.1, p.2) (fails_on _ _ _ c.in_err-first.ensures.read (λ n. rw (n) refl))

pub primaries::prim-returns-clause-read : goal.primaries::prim-returns-clause-read
primaries::prim-returns-clause-read t c = rw (prim_turn (below c.args.room) c.line.result c.args.room (drop c.args.pos c.args.words.now) _ _ (room_of_below c.args.room) c.line.ensures c.in_ok-first.ensures.read.1) c.suffixes.ensures.read

pub primaries::suffixes-suffixes-preserved-in-Some : goal.primaries::suffixes-suffixes-preserved-in-Some
primaries::suffixes-suffixes-preserved-in-Some t c =
    let k : c.args.room - c.suffixes.counter ≡ suc (c.args.room - (c.suffixes.counter + 1)) = omega arith in
    let l = expr_later _ _ c.in_ok-arguments.ensures.grown c.suffixes.invariant.grown.valid _ c.suffixes.invariant.here in
    record {
      grown = grows_then _ _ _ c.suffixes.invariant.grown (grows_then _ _ _ c.in_ok-arguments.ensures.grown c.in_ok-value.ensures.grown);
      here = c.in_ok-value.ensures.there;
      read = rw (c.in_ok-value.ensures.tree, l.1) (sym (call_turn _ _ _ _ _ _ _ _ _ k c.in-Some.ensures c.in_ok-arguments.ensures.read.1) ∙ c.suffixes.invariant.read);
    }

pub primaries::suffixes-add-requires-clause-parts : goal.primaries::suffixes-add-requires-clause-parts
primaries::suffixes-add-requires-clause-parts t c =
    let l = expr_later _ _ c.in_ok-arguments.ensures.grown c.suffixes.invariant.grown.valid _ c.suffixes.invariant.here in
    (l.0, c.in_ok-arguments.ensures.read.0)

pub primaries::suffixes-suffixes-preserved-in-Some-sign : goal.primaries::suffixes-suffixes-preserved-in-Some-sign
primaries::suffixes-suffixes-preserved-in-Some-sign t c =
    let k : c.args.room - c.suffixes.counter ≡ suc (c.args.room - (c.suffixes.counter + 1)) = omega arith in
    record {
      grown = grows_then _ _ _ c.suffixes.invariant.grown c.in_ok-part.ensures.grown;
      here = c.in_ok-part.ensures.read.0;
      read = sym (subscript_turn _ _ _ _ _ _ _ _ _ k c.in_default.ensures c.in-Some-sign.ensures c.in_ok-part.ensures.read.1) ∙ c.suffixes.invariant.read;
    }

pub primaries::suffixes-suffixes-preserved : goal.primaries::suffixes-suffixes-preserved
primaries::suffixes-suffixes-preserved t c =
    let k : c.args.room - c.suffixes.counter ≡ suc (c.args.room - (c.suffixes.counter + 1)) = omega arith in
    let l = expr_later _ _ c.in_ok-name.ensures.grown c.suffixes.invariant.grown.valid _ c.suffixes.invariant.here in
    record {
      grown = grows_then _ _ _ c.suffixes.invariant.grown (grows_then _ _ _ c.in_ok-name.ensures.grown c.in_ok-value-2.ensures.grown);
      here = c.in_ok-value-2.ensures.there;
      read = rw (c.in_ok-value-2.ensures.tree, l.1, c.in_ok-name.ensures.text) (sym (attribute_turn _ _ _ _ _ _ _ _ _ k c.in_default.ensures c.in_default-sign.ensures c.in-Some-sign-2.ensures c.in-Some-name.ensures) ∙ c.suffixes.invariant.read);
    }

pub primaries::suffixes-add-requires-in-suffixes-clause-parts : goal.primaries::suffixes-add-requires-in-suffixes-clause-parts
primaries::suffixes-add-requires-in-suffixes-clause-parts t c =
    let l = expr_later _ _ c.in_ok-name.ensures.grown c.suffixes.invariant.grown.valid _ c.suffixes.invariant.here in
    (l.0, c.in_ok-name.ensures.there)

pub primaries::suffixes-returns-in_default-sign-2-clause-read : goal.primaries::suffixes-returns-in_default-sign-2-clause-read
primaries::suffixes-returns-in_default-sign-2-clause-read t c =
    let k : c.args.room - c.suffixes.counter ≡ suc (c.args.room - (c.suffixes.counter + 1)) = omega arith in
    (c.suffixes.invariant.here, sym c.suffixes.invariant.read ∙ suffixes_end _ _ _ _ _ _ k c.in_default.ensures c.in_default-sign.ensures c.in_default-sign-2.ensures)

pub primaries::suffixes-returns-in_default-name-clause-read : goal.primaries::suffixes-returns-in_default-name-clause-read
primaries::suffixes-returns-in_default-name-clause-read t c =
    let k : c.args.room - c.suffixes.counter ≡ suc (c.args.room - (c.suffixes.counter + 1)) = omega arith in
    sym c.suffixes.invariant.read ∙ attribute_stuck _ _ _ _ _ _ _ k c.in_default.ensures c.in_default-sign.ensures c.in-Some-sign-2.ensures c.in_default-name.ensures

pub primaries::suffixes-returns-in_err-arguments-clause-read : goal.primaries::suffixes-returns-in_err-arguments-clause-read
primaries::suffixes-returns-in_err-arguments-clause-read t c =
    let k : c.args.room - c.suffixes.counter ≡ suc (c.args.room - (c.suffixes.counter + 1)) = omega arith in
    let p = err_from_is_err_and c.from_residual.result c.from_residual.ensures.1 in
    rw (p.1, p.2) (fails_on _ _ _ c.in_err-arguments.ensures.read (λ n. sym c.suffixes.invariant.read ∙ call_stuck _ _ _ _ _ _ _ k c.in-Some.ensures n))

pub primaries::suffixes-returns-in_err-part-clause-read : goal.primaries::suffixes-returns-in_err-part-clause-read
primaries::suffixes-returns-in_err-part-clause-read t c =
    let k : c.args.room - c.suffixes.counter ≡ suc (c.args.room - (c.suffixes.counter + 1)) = omega arith in
    let p = err_from_is_err_and c.from_residual-in_err-part.result c.from_residual-in_err-part.ensures.1 in
    rw (p.1, p.2) (fails_on _ _ _ c.in_err-part.ensures.read (λ n. sym c.suffixes.invariant.read ∙ subscript_stuck _ _ _ _ _ _ _ k c.in_default.ensures c.in-Some-sign.ensures n))

pub primaries::suffixes-returns-clause-read : goal.primaries::suffixes-returns-clause-read
primaries::suffixes-returns-clause-read t c =
    let z : c.args.room - c.suffixes.counter ≡ 0 = omega arith in
    sym c.suffixes.invariant.read ∙ suffixes_out _ _ _ _ _ z

pub calls::argument-returns-in-Some-clause-read : goal.calls::argument-returns-in-Some-clause-read
unfolding arg_with
calls::argument-returns-in-Some-clause-read t c =
    let l = text_later _ _ c.in_ok-value.ensures.grown c.in_ok-name.ensures.grown.valid _ c.in_ok-name.ensures.there in
    (l.0, c.in_ok-value.ensures.read.0, rw (c.in-Some.ensures, c.in_ok-value.ensures.read.1, l.1, c.in_ok-name.ensures.text) refl)

pub calls::argument-returns-in_err-value-clause-read : goal.calls::argument-returns-in_err-value-clause-read
unfolding arg_with
calls::argument-returns-in_err-value-clause-read t c =
    let p = err_from_is_err_and c.from_residual-in_err-value.result c.from_residual-in_err-value.ensures.1 in
    rw (p.1, p.2) (fails_on _ _ _ c.in_err-value.ensures.read (λ n. rw (c.in-Some.ensures, n) refl))

pub calls::argument-returns-then-keyword-clause-read : goal.calls::argument-returns-then-keyword-clause-read
unfolding arg_with
calls::argument-returns-then-keyword-clause-read t c = rw (c.in_default.ensures, c.if-keyword.true) refl

pub calls::argument-returns-in_err-value-2-clause-read : goal.calls::argument-returns-in_err-value-2-clause-read
unfolding arg_with
calls::argument-returns-in_err-value-2-clause-read t c =
    let p = err_from_is_err_and c.from_residual-in_err-value-2.result c.from_residual-in_err-value-2.ensures.1 in
    rw (p.1, p.2) (fails_on _ _ _ c.in_err-value-2.ensures.read (λ n. rw (c.in_default.ensures, c.if-keyword.false, n) refl))

pub calls::argument-returns-clause-read : goal.calls::argument-returns-clause-read
unfolding arg_with
calls::argument-returns-clause-read t c = (tt, c.in_ok-value-2.ensures.read.0, rw (c.in_default.ensures, c.if-keyword.false, c.in_ok-value-2.ensures.read.1) refl)

pub generators::generator-returns-in_default-clause-read : goal.generators::generator-returns-in_default-clause-read
unfolding generator_with
generators::generator-returns-in_default-clause-read t c = rw (c.in_default.ensures) refl

pub generators::generator-returns-in_default-sign-clause-read : goal.generators::generator-returns-in_default-sign-clause-read
unfolding generator_with
generators::generator-returns-in_default-sign-clause-read t c = rw (c.in-Some.ensures, c.in_default-sign.ensures) refl

pub generators::generator-returns-in_err-iterable-clause-read : goal.generators::generator-returns-in_err-iterable-clause-read
unfolding generator_with
generators::generator-returns-in_err-iterable-clause-read t c =
    let p = err_from_is_err_and c.from_residual-in_err-iterable.result c.from_residual-in_err-iterable.ensures.1 in
    rw (p.1, p.2) (fails_on _ _ _ c.in_err-iterable.ensures.read (λ n. rw (c.in-Some.ensures, c.in-Some-sign.ensures, n) refl))

pub generators::generator-returns-in_err-conditions-clause-read : goal.generators::generator-returns-in_err-conditions-clause-read
generators::generator-returns-in_err-conditions-clause-read t c =
    let p = err_from_is_err_and c.from_residual-in_err-conditions.result c.from_residual-in_err-conditions.ensures.1 in
    rw (p.1, p.2) (fails_on _ _ _ c.in_err-conditions.ensures.read (λ n. generator_stuck _ _ _ _ _ _ _ _ _ (room_of_below c.args.room) c.in-Some.ensures c.in-Some-sign.ensures c.in_ok-iterable.ensures.read.1 n))

pub generators::generator-returns-clause-read : goal.generators::generator-returns-clause-read
generators::generator-returns-clause-read t c =
    let i = expr_read _ _ c.in_ok-conditions.ensures.grown c.in_ok-iterable.ensures.grown.valid _ _ _ c.in_ok-iterable.ensures.read in
    let x = text_later _ _ (grows_then _ _ _ c.in_ok-iterable.ensures.grown c.in_ok-conditions.ensures.grown) c.in_ok-variable.ensures.grown.valid _ c.in_ok-variable.ensures.there in
    let e = expr_later _ _ (grows_then _ _ _ c.in_ok-variable.ensures.grown (grows_then _ _ _ c.in_ok-iterable.ensures.grown c.in_ok-conditions.ensures.grown)) c.requires.module _ c.requires.element in
    (record { element = e.0; variable = x.0; iterable = i.0; conditions = c.in_ok-conditions.ensures.read.0 }, rw (e.1, x.1, c.in_ok-variable.ensures.text) (generator_read _ _ _ _ _ _ _ _ _ _ _ (room_of_below c.args.room) c.in-Some.ensures c.in-Some-sign.ensures i.1 c.in_ok-conditions.ensures.read.1))

pub primaries::subscript-returns-in-Some-clause-read : goal.primaries::subscript-returns-in-Some-clause-read
unfolding subscript_with
primaries::subscript-returns-in-Some-clause-read t c = rw c.in-Some.ensures c.slice.ensures.read

pub primaries::subscript-returns-in_err-index-clause-read : goal.primaries::subscript-returns-in_err-index-clause-read
unfolding subscript_with
primaries::subscript-returns-in_err-index-clause-read t c =
    let p = err_from_is_err_and c.from_residual.result c.from_residual.ensures.1 in
    rw (p.1, p.2) (fails_on _ _ _ c.in_err-index.ensures.read (λ n. rw (c.in_default.ensures, n) refl))

pub primaries::subscript-returns-in-Some-sign-clause-read : goal.primaries::subscript-returns-in-Some-sign-clause-read
unfolding subscript_with
primaries::subscript-returns-in-Some-sign-clause-read t c =
    let l = expr_later _ _ c.in_ok-index.ensures.grown c.requires.module _ c.requires.object in
    (c.in_ok-node.ensures.there, rw (c.in_ok-node.ensures.tree, l.1, c.in_default.ensures, c.in_ok-index.ensures.read.1, c.in-Some-sign.ensures) refl)

pub primaries::subscript-add-requires-clause-parts : goal.primaries::subscript-add-requires-clause-parts
primaries::subscript-add-requires-clause-parts t c =
    let l = expr_later _ _ c.in_ok-index.ensures.grown c.requires.module _ c.requires.object in
    (l.0, c.in_ok-index.ensures.read.0)

pub primaries::subscript-returns-in_default-sign-2-clause-read : goal.primaries::subscript-returns-in_default-sign-2-clause-read
unfolding subscript_with
primaries::subscript-returns-in_default-sign-2-clause-read t c = rw (c.in_default.ensures, c.in_ok-index.ensures.read.1, c.in_default-sign.ensures, c.in_default-sign-2.ensures) refl

pub primaries::subscript-returns-clause-read : goal.primaries::subscript-returns-clause-read
unfolding subscript_with
primaries::subscript-returns-clause-read t c =
    let l = expr_later _ _ c.in_ok-index.ensures.grown c.requires.module _ c.requires.object in
    rw (c.in_default.ensures, c.in_ok-index.ensures.read.1, c.in_default-sign.ensures, c.in-Some-sign-2.ensures, (sym l.1)) c.slice-2.ensures.read

pub primaries::slice-returns-in-Some-clause-read : goal.primaries::slice-returns-in-Some-clause-read
unfolding slice_with
primaries::slice-returns-in-Some-clause-read t c = (c.in_ok-node.ensures.there, rw (c.in_ok-node.ensures.tree, c.in-Some.ensures) refl)

pub primaries::slice-returns-in_err-to-clause-read : goal.primaries::slice-returns-in_err-to-clause-read
unfolding slice_with
primaries::slice-returns-in_err-to-clause-read t c =
    let p = err_from_is_err_and c.from_residual-in_err-to.result c.from_residual-in_err-to.ensures.1 in
    rw (p.1, p.2) (fails_on _ _ _ c.in_err-to.ensures.read (λ n. rw (c.in_default.ensures, n) refl))

pub primaries::slice-returns-in_default-sign-clause-read : goal.primaries::slice-returns-in_default-sign-clause-read
unfolding slice_with
primaries::slice-returns-in_default-sign-clause-read t c = rw (c.in_default.ensures, c.in_ok-to.ensures.read.1, c.in_default-sign.ensures) refl

pub primaries::slice-returns-clause-read : goal.primaries::slice-returns-clause-read
unfolding slice_with
primaries::slice-returns-clause-read t c =
    let l = expr_later _ _ c.in_ok-to.ensures.grown c.requires.module _ c.requires.object in
    let b = bound_later _ _ c.in_ok-to.ensures.grown c.requires.module _ c.requires.from in
    (c.in_ok-node-2.ensures.there, rw (c.in_ok-node-2.ensures.tree, l.1, b.1, c.in_default.ensures, c.in_ok-to.ensures.read.1, c.in-Some-sign.ensures) refl)

pub primaries::slice-add-requires-2-clause-parts : goal.primaries::slice-add-requires-2-clause-parts
primaries::slice-add-requires-2-clause-parts t c =
    let l = expr_later _ _ c.in_ok-to.ensures.grown c.requires.module _ c.requires.object in
    let b = bound_later _ _ c.in_ok-to.ensures.grown c.requires.module _ c.requires.from in
    (l.0, b.0, c.in_ok-to.ensures.read.0)

pub primaries::group-returns-in_err-inner-clause-read : goal.primaries::group-returns-in_err-inner-clause-read
unfolding group_with
primaries::group-returns-in_err-inner-clause-read t c =
    let p = err_from_is_err_and c.from_residual.result c.from_residual.ensures.1 in
    rw (p.1, p.2) (fails_on _ _ _ c.in_err-inner.ensures.read (λ n. rw (n) refl))

pub primaries::group-returns-in_default-clause-read : goal.primaries::group-returns-in_default-clause-read
unfolding group_with
primaries::group-returns-in_default-clause-read t c = rw (c.in_ok-inner.ensures.read.1, c.in_default.ensures) refl

pub primaries::group-returns-clause-read : goal.primaries::group-returns-clause-read
unfolding group_with
primaries::group-returns-clause-read t c = (c.in_ok-add.ensures.there, rw (c.in_ok-add.ensures.tree, c.in_ok-inner.ensures.read.1, c.in-Some.ensures) refl)

pub displays::list-returns-in_err-first-clause-read : goal.displays::list-returns-in_err-first-clause-read
unfolding list_with
displays::list-returns-in_err-first-clause-read t c =
    let p = err_from_is_err_and c.from_residual-in_err-first.result c.from_residual-in_err-first.ensures.1 in
    rw (p.1, p.2) (fails_on _ _ _ c.in_err-first.ensures.read (λ n. rw (c.in_default.ensures, n) refl))

pub displays::list-returns-in_err-generator-clause-read : goal.displays::list-returns-in_err-generator-clause-read
unfolding list_with
displays::list-returns-in_err-generator-clause-read t c =
    let p = err_from_is_err_and c.from_residual-in_err-generator.result c.from_residual-in_err-generator.ensures.1 in
    rw (p.1, p.2) (fails_on _ _ _ c.in_err-generator.ensures.read (λ n. rw (c.in_default.ensures, c.in_ok-first.ensures.read.1, c.in-Some-sign.ensures, n) refl))

pub displays::list-returns-in_default-sign-2-clause-read : goal.displays::list-returns-in_default-sign-2-clause-read
unfolding list_with
displays::list-returns-in_default-sign-2-clause-read t c = rw (c.in_default.ensures, c.in_ok-first.ensures.read.1, c.in-Some-sign.ensures, c.in_ok-generator.ensures.read.1, c.in_default-sign-2.ensures) refl

pub displays::list-returns-in-Some-sign-clause-read : goal.displays::list-returns-in-Some-sign-clause-read
unfolding list_with
displays::list-returns-in-Some-sign-clause-read t c = (c.in_ok-add-2.ensures.there, rw (c.in_ok-add-2.ensures.tree, c.in_default.ensures, c.in_ok-first.ensures.read.1, c.in-Some-sign.ensures, c.in_ok-generator.ensures.read.1, c.in-Some-sign-2.ensures) refl)

pub displays::list-returns-in_err-items-clause-read : goal.displays::list-returns-in_err-items-clause-read
displays::list-returns-in_err-items-clause-read t c =
    let p = err_from_is_err_and c.from_residual-in_err-items.result c.from_residual-in_err-items.ensures.1 in
    rw (p.1, p.2) (fails_on _ _ _ c.in_err-items.ensures.read (λ n. list_stuck _ _ _ _ _ _ (room_of_below c.args.room) c.in_default.ensures c.in_ok-first.ensures.read.1 c.in_default-sign.ensures n))

pub displays::list-returns-clause-read : goal.displays::list-returns-clause-read
displays::list-returns-clause-read t c = (c.in_ok-add-3.ensures.there, rw c.in_ok-add-3.ensures.tree (list_read _ _ _ _ _ _ _ _ (room_of_below c.args.room) c.in_default.ensures c.in_ok-first.ensures.read.1 c.in_default-sign.ensures c.in_ok-items.ensures.read.1))

pub displays::list-returns-in-Some-clause-read : goal.displays::list-returns-in-Some-clause-read
unfolding list_with
displays::list-returns-in-Some-clause-read t c = (c.in_ok-add.ensures.there, rw (c.in_ok-add.ensures.tree, c.new-items.ensures.items, c.in-Some.ensures) refl)

pub displays::dict-returns-in_err-first-clause-read : goal.displays::dict-returns-in_err-first-clause-read
unfolding dict_with
displays::dict-returns-in_err-first-clause-read t c =
    let p = err_from_is_err_and c.from_residual-in_err-first.result c.from_residual-in_err-first.ensures.1 in
    rw (p.1, p.2) (fails_on _ _ _ c.in_err-first.ensures.read (λ n. rw (c.in_default.ensures, n) refl))

pub displays::dict-returns-in_err-pairs-clause-read : goal.displays::dict-returns-in_err-pairs-clause-read
displays::dict-returns-in_err-pairs-clause-read t c =
    let p = err_from_is_err_and c.from_residual-in_err-pairs.result c.from_residual-in_err-pairs.ensures.1 in
    rw (p.1, p.2) (fails_on _ _ _ c.in_err-pairs.ensures.read (λ n. dict_stuck _ _ _ _ _ _ _ (room_of_below c.args.room) c.in_default.ensures c.in_ok-first.ensures.read.2 n))

pub displays::dict-returns-clause-read : goal.displays::dict-returns-clause-read
displays::dict-returns-clause-read t c = (c.in_ok-add-2.ensures.there, rw c.in_ok-add-2.ensures.tree (dict_read _ _ _ _ _ _ _ _ _ (room_of_below c.args.room) c.in_default.ensures c.in_ok-first.ensures.read.2 c.in_ok-pairs.ensures.read.1))

pub displays::dict-returns-in-Some-clause-read : goal.displays::dict-returns-in-Some-clause-read
unfolding dict_with
displays::dict-returns-in-Some-clause-read t c = (c.in_ok-add.ensures.there, rw (c.in_ok-add.ensures.tree, c.new-pairs.ensures.items, c.in-Some.ensures) refl)

pub displays::pair-returns-in_err-key-clause-read : goal.displays::pair-returns-in_err-key-clause-read
unfolding pair_with
displays::pair-returns-in_err-key-clause-read t c =
    let p = err_from_is_err_and c.from_residual.result c.from_residual.ensures.1 in
    rw (p.1, p.2) (fails_on _ _ _ c.in_err-key.ensures.read (λ n. rw (n) refl))

pub displays::pair-returns-in_default-clause-read : goal.displays::pair-returns-in_default-clause-read
unfolding pair_with
displays::pair-returns-in_default-clause-read t c = rw (c.in_ok-key.ensures.read.1, c.in_default.ensures) refl

pub displays::pair-returns-in_err-value-clause-read : goal.displays::pair-returns-in_err-value-clause-read
unfolding pair_with
displays::pair-returns-in_err-value-clause-read t c =
    let p = err_from_is_err_and c.from_residual-in_err-value.result c.from_residual-in_err-value.ensures.1 in
    rw (p.1, p.2) (fails_on _ _ _ c.in_err-value.ensures.read (λ n. rw (c.in_ok-key.ensures.read.1, c.in-Some.ensures, n) refl))

pub displays::pair-returns-clause-read : goal.displays::pair-returns-clause-read
unfolding pair_with
displays::pair-returns-clause-read t c =
    let a = expr_read _ _ c.in_ok-value.ensures.grown c.in_ok-key.ensures.grown.valid _ _ _ c.in_ok-key.ensures.read in
    (a.0, c.in_ok-value.ensures.read.0, rw (a.1, c.in-Some.ensures, c.in_ok-value.ensures.read.1) refl)

pub calls::arguments-returns-in-Some-clause-read : goal.calls::arguments-returns-in-Some-clause-read
calls::arguments-returns-in-Some-clause-read t c = rw c.new.ensures.items (tt, no_arguments_at (below c.args.room) (drop c.args.pos c.args.words.now) (drop c.in-Some.end c.args.words.now) c.in-Some.ensures)

pub calls::arguments-returns-in_err-first-clause-read : goal.calls::arguments-returns-in_err-first-clause-read
calls::arguments-returns-in_err-first-clause-read t c =
    let p = err_from_is_err_and c.from_residual.result c.from_residual.ensures.1 in
    rw (p.1, p.2) (fails_on _ _ _ c.in_err-first.ensures.read (λ n. arguments_stuck _ _ c.in_default.ensures n))

pub calls::arguments-returns-in_err-node-clause-read : goal.calls::arguments-returns-in_err-node-clause-read
calls::arguments-returns-in_err-node-clause-read t c =
    let p = err_from_is_err_and c.from_residual-in_err-node.result c.from_residual-in_err-node.ensures.1 in
    rw (p.1, p.2) (fails_on _ _ _ c.in_err-node.ensures.read (λ n. arguments_no_generator _ _ _ _ _ _ c.in_default.ensures c.in_ok-first.ensures.read.2 (c.in-Some-for_behind.ensures c.argument.new.into.names) n))

pub calls::arguments-returns-in_default-sign-clause-read : goal.calls::arguments-returns-in_default-sign-clause-read
calls::arguments-returns-in_default-sign-clause-read t c = arguments_open _ _ _ _ _ _ _ _ c.in_default.ensures c.in_ok-first.ensures.read.2 (c.in-Some-for_behind.ensures c.argument.new.into.names) c.in_ok-node.ensures.read.1 c.in_default-sign.ensures

pub calls::arguments-returns-in-Some-for_behind-clause-read : goal.calls::arguments-returns-in-Some-for_behind-clause-read
calls::arguments-returns-in-Some-for_behind-clause-read t c = (c.in_ok-node.ensures.read.0, arguments_generated _ _ _ _ _ _ _ _ _ c.in_default.ensures c.in_ok-first.ensures.read.2 (c.in-Some-for_behind.ensures c.argument.new.into.names) c.in_ok-node.ensures.read.1 c.in-Some-sign.ensures)

pub calls::arguments-returns-in_err-list-clause-read : goal.calls::arguments-returns-in_err-list-clause-read
calls::arguments-returns-in_err-list-clause-read t c =
    let p = err_from_is_err_and c.from_residual-in_err-list.result c.from_residual-in_err-list.ensures.1 in
    rw (p.1, p.2) (fails_on _ _ _ c.in_err-list.ensures.read (λ n. arguments_no_list _ _ _ _ _ c.in_default.ensures c.in_ok-first.ensures.read.2 (c.in_default-for_behind.ensures c.argument.new.into.names) n))

pub calls::arguments-returns-clause-read : goal.calls::arguments-returns-clause-read
calls::arguments-returns-clause-read t c = (c.in_ok-list.ensures.read.0, arguments_listed _ _ _ _ _ _ _ c.in_default.ensures c.in_ok-first.ensures.read.2 (c.in_default-for_behind.ensures c.argument.new.into.names) c.in_ok-list.ensures.read.1)

pub calls::argument_list-returns-in-Some-clause-read : goal.calls::argument_list-returns-in-Some-clause-read
calls::argument_list-returns-in-Some-clause-read t c = rw c.in_ok-list.ensures.items ((c.requires.name, c.requires.value, tt), list_last (below c.args.room) (name_of c.args.into.now.names c.args.first.name) (shown c.args.into.now c.args.first.value.index) (drop c.args.start c.args.words.now) (drop c.in-Some.end c.args.words.now) c.in-Some.ensures)

pub calls::argument_list-returns-in_default-sign-clause-read : goal.calls::argument_list-returns-in_default-sign-clause-read
calls::argument_list-returns-in_default-sign-clause-read t c = list_no_comma (below c.args.room) (name_of c.args.into.now.names c.args.first.name) (shown c.args.into.now c.args.first.value.index) (drop c.args.start c.args.words.now) c.in_default.ensures c.in_default-sign.ensures

pub calls::argument_list-returns-clause-read : goal.calls::argument_list-returns-clause-read
calls::argument_list-returns-clause-read t c = rw (list_more (below c.args.room) c.args.room (name_of c.args.into.now.names c.args.first.name) (shown c.args.into.now c.args.first.value.index) (drop c.args.start c.args.words.now) (drop c.in-Some-sign.next c.args.words.now) (room_of_below c.args.room) c.in_default.ensures c.in-Some-sign.ensures, named c.args.into.now.names c.args.first.name) (rw (c.in_ok-list.ensures.items, c.is_some.ensures) at c.more_arguments.ensures.read)

pub primaries::atom-returns-in-Some-clause-read : goal.primaries::atom-returns-in-Some-clause-read
primaries::atom-returns-in-Some-clause-read t c = rw (atom_signed (below c.args.room) c.in-Some.mark (drop c.args.pos c.args.words.now) (drop c.in-Some.next c.args.words.now) c.in-Some.ensures, sym c.line.ensures) c.signed.ensures.read

pub primaries::atom-returns-clause-read : goal.primaries::atom-returns-clause-read
primaries::atom-returns-clause-read t c = rw (atom_leaf (below c.args.room) (drop c.args.pos c.args.words.now) c.in_default.ensures) c.leaf.ensures.read

pub primaries::signed-returns-in-OpenParen-clause-read : goal.primaries::signed-returns-in-OpenParen-clause-read
unfolding signed_with
primaries::signed-returns-in-OpenParen-clause-read t c = rw c.in-OpenParen.is c.group.ensures.read

pub primaries::signed-returns-in-OpenBracket-clause-read : goal.primaries::signed-returns-in-OpenBracket-clause-read
unfolding signed_with
primaries::signed-returns-in-OpenBracket-clause-read t c = rw c.in-OpenBracket.is c.list.ensures.read

pub primaries::signed-returns-in-OpenBrace-clause-read : goal.primaries::signed-returns-in-OpenBrace-clause-read
unfolding signed_with
primaries::signed-returns-in-OpenBrace-clause-read t c = rw c.in-OpenBrace.is c.dict.ensures.read

pub primaries::signed-returns-in_ok-add-in-True-clause-read : goal.primaries::signed-returns-in_ok-add-in-True-clause-read
unfolding signed_with
primaries::signed-returns-in_ok-add-in-True-clause-read t c = (c.in_ok-add-in-True.ensures.there, rw (c.in-True.is, c.in_ok-add-in-True.ensures.tree) refl)

pub primaries::signed-returns-in_ok-add-in-False-clause-read : goal.primaries::signed-returns-in_ok-add-in-False-clause-read
unfolding signed_with
primaries::signed-returns-in_ok-add-in-False-clause-read t c = (c.in_ok-add-in-False.ensures.there, rw (c.in-False.is, c.in_ok-add-in-False.ensures.tree) refl)

pub primaries::signed-returns-in_ok-add-in-None-clause-read : goal.primaries::signed-returns-in_ok-add-in-None-clause-read
unfolding signed_with
primaries::signed-returns-in_ok-add-in-None-clause-read t c = (c.in_ok-add-in-None.ensures.there, rw (c.in-None.is, c.in_ok-add-in-None.ensures.tree) refl)

pub primaries::signed-returns-in_default : goal.primaries::signed-returns-in_default
primaries::signed-returns-in_default t c = record { grown = grows_same _ c.requires.module; read = signed_none _ _ _ _ c.in_default.not-OpenParen c.in_default.not-OpenBracket c.in_default.not-OpenBrace c.in_default.not-True c.in_default.not-False c.in_default.not-None }
