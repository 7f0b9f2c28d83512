use Rattle.std.proofs.Common.{arith, ◌≡◌, ◌∙◌, ◌+◌, ◌-◌, ◌<◌, List, [], ◌∷◌, ◌++◌, Contains, drop, suc, Option, Some, None, refl, sym, ap, subst}
use Rattle.std.proofs.lemmas.Result.{err_from_is_err_and}
use Rattle.spec_trees.specs.Module as tree
use Rattle.spec_grammar.specs.BlockReading.{block_with, statement_below}
use Rattle.py_tree.specs.declared.ids.StmtId.{StmtId}
use Rattle.py_tree.specs.Arena.{shown_stmt}
use Rattle.py_tree.specs.Stmts.{block_tree}
use Rattle.py_lines.specs.declared.nodes.HeaderNode.{HeaderNode}
use Rattle.py_lines.specs.declared.nodes.HeaderNode.TheVariants as node
use Rattle.py_lines.specs.Headers.{IsHeaderThere}
use Rattle.py_lines.proofs.Turns.{fails_on, no_form}
use Rattle.py_blocks.specs.Given.{GivesBlock}
use Rattle.py_blocks.specs.Growth.{line_extents}
use Rattle.py_blocks.specs.Heads.{IsOwn}
use Rattle.py_blocks.proofs.Growth.{builds_then, there_later}
use Rattle.py_blocks.proofs.Later.{placed_later, expr_later, name_later, names_later, def_later, block_later, branches_later, handlers_later, block_then, branches_then, handlers_then}
use Rattle.py_blocks.proofs.Lines.{line_of_header, header_extent, head_there, depth_missed, simple_built, header_built, own_suite, no_own, headed_going_on}
use Rattle.py_blocks.proofs.Turns.{statement_out, block_turn, block_end, block_out, suite_missed, suite_as, branches_turn, branches_stuck, branches_end, branches_out, handlers_turn, handlers_stuck, handlers_end, handlers_caught, handlers_out, else_turn, else_end, tried_none, tried_no_body, tried_no_handlers, tried_no_else, tried_read, headed_stuck, headed_def, headed_class, headed_if, headed_while, headed_for, headed_try, classes_as}
use Rattle.py_blocks.proofs.building.+building.Goals as goal

pub clauses::branches-returns-in_default-clause-read : goal.clauses::branches-returns-in_default-clause-read
clauses::branches-returns-in_default-clause-read t c ps h =
    let k : c.args.frame.turns - c.list.counter ≡ suc (c.args.frame.turns - (c.list.counter + 1)) = omega arith in
    let p = placed_later _ _ _ c.list.invariant.built c.requires.module _ ps h in
    (c.list.invariant.here, sym (c.list.invariant.read ps h) ∙ branches_end _ _ _ _ _ _ _ k (c.in_default.ensures.found c.list.into ps p))

pub clauses::branches-returns-in_err-body-clause-read : goal.clauses::branches-returns-in_err-body-clause-read
clauses::branches-returns-in_err-body-clause-read t c ps h =
    let k : c.args.frame.turns - c.list.counter ≡ suc (c.args.frame.turns - (c.list.counter + 1)) = omega arith in
    let p = placed_later _ _ _ c.list.invariant.built c.requires.module _ ps h in
    let f = c.in-Some.ensures.found c.list.into ps p in
    let r = err_from_is_err_and c.from_residual.result c.from_residual.ensures.1 in
    rw (r.1, r.2) (fails_on _ _ _ (c.in_err-body.ensures.read ps p f.1.0 f.1.1) (λ n. sym (c.list.invariant.read ps h) ∙ branches_stuck _ _ _ _ _ _ _ _ _ _ _ k f.1.2 n))

pub clauses::branches-list-preserved : goal.clauses::branches-list-preserved
clauses::branches-list-preserved t c =
    let k : c.args.frame.turns - c.list.counter ≡ suc (c.args.frame.turns - (c.list.counter + 1)) = omega arith in
    let own = c.in-Some.ensures.found c.list.into c.list.invariant.there.0 c.list.invariant.there.1 in
    let body = c.in_ok-body.ensures.read c.list.invariant.there.0 c.list.invariant.there.1 own.1.0 own.1.1 in
    let e = expr_later _ _ _ c.in_ok-body.ensures.built c.list.invariant.built.valid _ own.0 in
    let l = branches_then _ _ _ c.in_ok-body.ensures.built c.list.invariant.built.valid _ _ _ c.list.invariant.here (e.0, body.0, tt) c.in_ok-push.ensures.items in
    record {
      built = builds_then _ _ _ _ c.list.invariant.built c.in_ok-body.ensures.built;
      there = there_later _ _ _ _ c.in_ok-body.ensures.built c.list.invariant.built.valid c.list.invariant.there;
      here = l.0;
      read = λ ps h.
          let p = placed_later _ _ _ c.list.invariant.built c.requires.module _ ps h in
          let f = c.in-Some.ensures.found c.list.into ps p in
          let b = c.in_ok-body.ensures.read ps p f.1.0 f.1.1 in
          rw (l.1, e.1) (sym (branches_turn _ _ _ _ _ _ _ _ _ _ _ _ _ k f.1.2 b.1) ∙ c.list.invariant.read ps h);
    }

pub clauses::branches-returns-clause-read : goal.clauses::branches-returns-clause-read
clauses::branches-returns-clause-read t c ps h =
    let z : c.args.frame.turns - c.list.counter ≡ 0 = omega arith in
    sym (c.list.invariant.read ps h) ∙ branches_out _ _ _ _ _ _ z

pub clauses::handlers-returns-then-is_last-clause-read : goal.clauses::handlers-returns-then-is_last-clause-read
clauses::handlers-returns-then-is_last-clause-read t c ps h =
    let k : c.args.frame.turns - c.list.counter ≡ suc (c.args.frame.turns - (c.list.counter + 1)) = omega arith in
    (c.list.invariant.here, sym (c.list.invariant.read ps h) ∙ handlers_caught _ _ _ _ _ _ _ _ k c.if-is_last.true)

pub clauses::handlers-returns-in_default-clause-read : goal.clauses::handlers-returns-in_default-clause-read
clauses::handlers-returns-in_default-clause-read t c ps h =
    let k : c.args.frame.turns - c.list.counter ≡ suc (c.args.frame.turns - (c.list.counter + 1)) = omega arith in
    let p = placed_later _ _ _ c.list.invariant.built c.requires.module _ ps h in
    (c.list.invariant.here, sym (c.list.invariant.read ps h) ∙ handlers_end _ _ _ _ _ _ _ _ k c.if-is_last.false (c.in_default.ensures.found c.list.into ps p))

pub clauses::handlers-returns-in_err-body-clause-read : goal.clauses::handlers-returns-in_err-body-clause-read
clauses::handlers-returns-in_err-body-clause-read t c ps h =
    let k : c.args.frame.turns - c.list.counter ≡ suc (c.args.frame.turns - (c.list.counter + 1)) = omega arith in
    let p = placed_later _ _ _ c.list.invariant.built c.requires.module _ ps h in
    let f = c.in-Some.ensures.found c.list.into ps p in
    let r = err_from_is_err_and c.from_residual-in_err-body.result c.from_residual-in_err-body.ensures.1 in
    rw (r.1, r.2) (fails_on _ _ _ (c.in_err-body.ensures.read ps p f.1.0 f.1.1) (λ n. sym (c.list.invariant.read ps h) ∙ handlers_stuck _ _ _ _ _ _ _ _ _ _ _ _ k c.if-is_last.false f.1.2 n))

pub clauses::handlers-list-preserved : goal.clauses::handlers-list-preserved
clauses::handlers-list-preserved t c =
    let k : c.args.frame.turns - c.list.counter ≡ suc (c.args.frame.turns - (c.list.counter + 1)) = omega arith in
    let own = c.in-Some.ensures.found c.list.into c.list.invariant.there.0 c.list.invariant.there.1 in
    let body = c.in_ok-body.ensures.read c.list.invariant.there.0 c.list.invariant.there.1 own.1.0 own.1.1 in
    let e = names_later _ _ _ c.in_ok-body.ensures.built c.list.invariant.built.valid _ own.0 in
    let l = handlers_then _ _ _ c.in_ok-body.ensures.built c.list.invariant.built.valid _ _ _ c.list.invariant.here (e.0, body.0, tt) c.in_ok-push-2.ensures.items in
    record {
      built = builds_then _ _ _ _ c.list.invariant.built c.in_ok-body.ensures.built;
      there = there_later _ _ _ _ c.in_ok-body.ensures.built c.list.invariant.built.valid c.list.invariant.there;
      here = l.0;
      read = λ ps h.
          let p = placed_later _ _ _ c.list.invariant.built c.requires.module _ ps h in
          let f = c.in-Some.ensures.found c.list.into ps p in
          let b = c.in_ok-body.ensures.read ps p f.1.0 f.1.1 in
          rw (c.catches_all-is_last-in-list.ensures, l.1, e.1) (sym (handlers_turn _ _ _ _ _ _ _ _ _ _ _ _ _ _ k c.if-is_last.false f.1.2 b.1) ∙ c.list.invariant.read ps h);
    }

pub clauses::handlers-returns-clause-read : goal.clauses::handlers-returns-clause-read
clauses::handlers-returns-clause-read t c ps h =
    let z : c.args.frame.turns - c.list.counter ≡ 0 = omega arith in
    sym (c.list.invariant.read ps h) ∙ handlers_out _ _ _ _ _ _ _ z

pub clauses::otherwise-returns-in-Some-clause-read : goal.clauses::otherwise-returns-in-Some-clause-read
clauses::otherwise-returns-in-Some-clause-read t c ps h =
    let f = c.in-Some.ensures.found c.args.into.now ps h in
    rw (else_turn _ _ _ _ _ _ _ f.2) (c.suite.ensures.read ps h f.0 f.1)

pub clauses::otherwise-returns-in-None-clause-read : goal.clauses::otherwise-returns-in-None-clause-read
clauses::otherwise-returns-in-None-clause-read t c ps h = (rw c.new.ensures.items tt, rw c.new.ensures.items (else_end _ _ _ _ (c.in-None.ensures.found c.args.into.now ps h)))

pub compounds::choice-otherwise-requires : goal.compounds::choice-otherwise-requires
compounds::choice-otherwise-requires t c = (omega (arith, c.decreases), (c.in_ok-branches.ensures.built.valid, (there_later _ _ _ _ c.in_ok-branches.ensures.built c.requires.module c.requires.placed, c.requires.frame)))

pub compounds::choice-returns-in_err-otherwise-clause-read : goal.compounds::choice-returns-in_err-otherwise-clause-read
compounds::choice-returns-in_err-otherwise-clause-read t c ps h =
    let p = placed_later _ _ _ c.in_ok-branches.ensures.built c.requires.module _ ps h in
    let r = err_from_is_err_and c.from_residual-in_err-otherwise.result c.from_residual-in_err-otherwise.ensures.1 in
    let b = c.in_ok-branches.ensures.read ps h in
    rw (r.1, r.2) (fails_on _ _ _ (c.in_err-otherwise.ensures.read ps p) (λ n. rw (b.1, n) refl))

pub compounds::choice-add-requires-clause-parts : goal.compounds::choice-add-requires-clause-parts
compounds::choice-add-requires-clause-parts t c =
    let g = c.in_ok-branches.ensures.built in
    let k = c.in_ok-otherwise.ensures.built in
    let both = builds_then _ _ _ _ g k in
    let p = placed_later _ _ _ g c.requires.module _ c.requires.placed.0 c.requires.placed.1 in
    let b = c.in_ok-branches.ensures.read c.requires.placed.0 c.requires.placed.1 in
    let o = c.in_ok-otherwise.ensures.read c.requires.placed.0 p in
    ((expr_later _ _ _ both c.requires.module _ c.requires.condition).0, (block_later _ _ _ both c.requires.module _ c.requires.body).0, (branches_later _ _ _ k g.valid _ b.0).0, o.0)

pub compounds::choice-returns-in_err-add-clause-built : goal.compounds::choice-returns-in_err-add-clause-built
compounds::choice-returns-in_err-add-clause-built t c = builds_then _ _ _ _ c.in_ok-branches.ensures.built (builds_then _ _ _ _ c.in_ok-otherwise.ensures.built (c.in_err-add.ensures.built _ tt))

pub compounds::choice-returns-clause-built : goal.compounds::choice-returns-clause-built
compounds::choice-returns-clause-built t c = builds_then _ _ _ _ c.in_ok-branches.ensures.built (builds_then _ _ _ _ c.in_ok-otherwise.ensures.built (c.in_ok-add.ensures.built _ tt))

pub compounds::choice-returns-clause-read : goal.compounds::choice-returns-clause-read
compounds::choice-returns-clause-read t c ps h =
    let g = c.in_ok-branches.ensures.built in
    let k = c.in_ok-otherwise.ensures.built in
    let both = builds_then _ _ _ _ g k in
    let p = placed_later _ _ _ g c.requires.module _ ps h in
    let b = c.in_ok-branches.ensures.read ps h in
    let o = c.in_ok-otherwise.ensures.read ps p in
    let e = expr_later _ _ _ both c.requires.module _ c.requires.condition in
    let s = block_later _ _ _ both c.requires.module _ c.requires.body in
    let bs = branches_later _ _ _ k g.valid _ b.0 in
    (c.in_ok-add.ensures.there, rw (c.in_ok-add.ensures.tree, e.1, s.1, bs.1, b.1, o.1) refl)

pub compounds::while_loop-add-requires-clause-parts : goal.compounds::while_loop-add-requires-clause-parts
compounds::while_loop-add-requires-clause-parts t c =
    let g = c.in_ok-otherwise.ensures.built in
    let o = c.in_ok-otherwise.ensures.read c.requires.placed.0 c.requires.placed.1 in
    ((expr_later _ _ _ g c.requires.module _ c.requires.condition).0, (block_later _ _ _ g c.requires.module _ c.requires.body).0, o.0)

pub compounds::while_loop-returns-clause-read : goal.compounds::while_loop-returns-clause-read
compounds::while_loop-returns-clause-read t c ps h =
    let g = c.in_ok-otherwise.ensures.built in
    let o = c.in_ok-otherwise.ensures.read ps h in
    let e = expr_later _ _ _ g c.requires.module _ c.requires.condition in
    let s = block_later _ _ _ g c.requires.module _ c.requires.body in
    (c.in_ok-add.ensures.there, rw (c.in_ok-add.ensures.tree, e.1, s.1, o.1) refl)

pub compounds::for_loop-add-requires-clause-parts : goal.compounds::for_loop-add-requires-clause-parts
compounds::for_loop-add-requires-clause-parts t c =
    let g = c.in_ok-otherwise.ensures.built in
    let o = c.in_ok-otherwise.ensures.read c.requires.placed.0 c.requires.placed.1 in
    ((name_later _ _ _ g c.requires.module _ c.requires.variable).0, (expr_later _ _ _ g c.requires.module _ c.requires.iterable).0, (block_later _ _ _ g c.requires.module _ c.requires.body).0, o.0)

pub compounds::for_loop-returns-clause-read : goal.compounds::for_loop-returns-clause-read
compounds::for_loop-returns-clause-read t c ps h =
    let g = c.in_ok-otherwise.ensures.built in
    let o = c.in_ok-otherwise.ensures.read ps h in
    let x = name_later _ _ _ g c.requires.module _ c.requires.variable in
    let e = expr_later _ _ _ g c.requires.module _ c.requires.iterable in
    let s = block_later _ _ _ g c.requires.module _ c.requires.body in
    (c.in_ok-add.ensures.there, rw (c.in_ok-add.ensures.tree, x.1, e.1, s.1, o.1) refl)

pub compounds::headed-returns-in_err-body-clause-read : goal.compounds::headed-returns-in_err-body-clause-read
compounds::headed-returns-in_err-body-clause-read t c ps h d o =
    let r = err_from_is_err_and c.from_residual.result c.from_residual.ensures.1 in
    rw (r.1, r.2) (fails_on _ _ _ (c.in_err-body.ensures.read ps h d o) (λ n. headed_stuck _ _ _ _ _ _ n))

pub compounds::headed-add-requires-clause-parts : goal.compounds::headed-add-requires-clause-parts
compounds::headed-add-requires-clause-parts t c =
    let th = head_there c.args.into.now c.args.lines.now c.requires.placed.0 c.args.pos c.args.header.now c.args.own c.requires.placed.1 c.requires.head in
    let at : IsHeaderThere c.args.into.now (node.Def c.in-Def.line c.in-Def.name c.in-Def.parameters c.in-Def.result) = subst (λ (v : HeaderNode). IsHeaderThere c.args.into.now v) c.in-Def.is th.0 in
    let b = c.in_ok-body.ensures.read c.requires.placed.0 c.requires.placed.1 th.1.0 th.1.1 in
    let l = def_later _ _ _ c.in_ok-body.ensures.built c.requires.module c.in-Def.line c.in-Def.name c.in-Def.parameters c.in-Def.result at in
    (l.0.0, rw (c.in_ok-from_slice-in-Def.ensures.items, c.deref.ensures.value) l.0.1, l.0.2, b.0)

pub compounds::headed-returns-in_err-add-in-Def-clause-built : goal.compounds::headed-returns-in_err-add-in-Def-clause-built
compounds::headed-returns-in_err-add-in-Def-clause-built t c =
    let extent = header_extent c.args.into.now c.args.lines.now c.requires.placed.0 c.args.pos c.args.header.now c.args.own _ c.requires.placed.1 c.requires.head c.last_line.ensures in
    let e = subst (λ (v : HeaderNode). Contains (line_extents c.args.lines.now) (line_of_header v, c.last_line.result)) c.in-Def.is extent in
    builds_then _ _ _ _ c.in_ok-body.ensures.built (c.in_err-add-in-Def.ensures.built _ e)

pub compounds::headed-returns-in_ok-add-in-Def-clause-built : goal.compounds::headed-returns-in_ok-add-in-Def-clause-built
compounds::headed-returns-in_ok-add-in-Def-clause-built t c =
    let extent = header_extent c.args.into.now c.args.lines.now c.requires.placed.0 c.args.pos c.args.header.now c.args.own _ c.requires.placed.1 c.requires.head c.last_line.ensures in
    let e = subst (λ (v : HeaderNode). Contains (line_extents c.args.lines.now) (line_of_header v, c.last_line.result)) c.in-Def.is extent in
    builds_then _ _ _ _ c.in_ok-body.ensures.built (c.in_ok-add-in-Def.ensures.built _ e)

pub compounds::headed-add-requires-in-Class-clause-parts : goal.compounds::headed-add-requires-in-Class-clause-parts
compounds::headed-add-requires-in-Class-clause-parts t c =
    let th = head_there c.args.into.now c.args.lines.now c.requires.placed.0 c.args.pos c.args.header.now c.args.own c.requires.placed.1 c.requires.head in
    let at : IsHeaderThere c.args.into.now (node.Class c.in-Class.line c.in-Class.name) = subst (λ (v : HeaderNode). IsHeaderThere c.args.into.now v) c.in-Class.is th.0 in
    let b = c.in_ok-body.ensures.read c.requires.placed.0 c.requires.placed.1 th.1.0 th.1.1 in
    ((name_later _ _ _ c.in_ok-body.ensures.built c.requires.module _ at).0, b.0)

pub compounds::headed-returns-in_err-add-in-Class-clause-built : goal.compounds::headed-returns-in_err-add-in-Class-clause-built
compounds::headed-returns-in_err-add-in-Class-clause-built t c =
    let extent = header_extent c.args.into.now c.args.lines.now c.requires.placed.0 c.args.pos c.args.header.now c.args.own _ c.requires.placed.1 c.requires.head c.last_line-in-Class.ensures in
    let e = subst (λ (v : HeaderNode). Contains (line_extents c.args.lines.now) (line_of_header v, c.last_line-in-Class.result)) c.in-Class.is extent in
    builds_then _ _ _ _ c.in_ok-body.ensures.built (c.in_err-add-in-Class.ensures.built _ e)

pub compounds::headed-returns-in_ok-add-in-Class-clause-built : goal.compounds::headed-returns-in_ok-add-in-Class-clause-built
compounds::headed-returns-in_ok-add-in-Class-clause-built t c =
    let extent = header_extent c.args.into.now c.args.lines.now c.requires.placed.0 c.args.pos c.args.header.now c.args.own _ c.requires.placed.1 c.requires.head c.last_line-in-Class.ensures in
    let e = subst (λ (v : HeaderNode). Contains (line_extents c.args.lines.now) (line_of_header v, c.last_line-in-Class.result)) c.in-Class.is extent in
    builds_then _ _ _ _ c.in_ok-body.ensures.built (c.in_ok-add-in-Class.ensures.built _ e)

pub compounds::headed-choice-requires : goal.compounds::headed-choice-requires
compounds::headed-choice-requires t c =
    let th = head_there c.args.into.now c.args.lines.now c.requires.placed.0 c.args.pos c.args.header.now c.args.own c.requires.placed.1 c.requires.head in
    let at : IsHeaderThere c.args.into.now (node.If c.in-If.line c.in-If.condition) = subst (λ (v : HeaderNode). IsHeaderThere c.args.into.now v) c.in-If.is th.0 in
    let b = c.in_ok-body.ensures.read c.requires.placed.0 c.requires.placed.1 th.1.0 th.1.1 in
    (omega (arith, c.decreases), (c.in_ok-body.ensures.built.valid, (there_later _ _ _ _ c.in_ok-body.ensures.built c.requires.module c.requires.placed, (c.requires.frame, ((expr_later _ _ _ c.in_ok-body.ensures.built c.requires.module _ at).0, b.0)))))

pub compounds::headed-while_loop-requires : goal.compounds::headed-while_loop-requires
compounds::headed-while_loop-requires t c =
    let th = head_there c.args.into.now c.args.lines.now c.requires.placed.0 c.args.pos c.args.header.now c.args.own c.requires.placed.1 c.requires.head in
    let at : IsHeaderThere c.args.into.now (node.While c.in-While.line c.in-While.condition) = subst (λ (v : HeaderNode). IsHeaderThere c.args.into.now v) c.in-While.is th.0 in
    let b = c.in_ok-body.ensures.read c.requires.placed.0 c.requires.placed.1 th.1.0 th.1.1 in
    (omega (arith, c.decreases), (c.in_ok-body.ensures.built.valid, (there_later _ _ _ _ c.in_ok-body.ensures.built c.requires.module c.requires.placed, (c.requires.frame, ((expr_later _ _ _ c.in_ok-body.ensures.built c.requires.module _ at).0, b.0)))))

pub compounds::headed-for_loop-requires : goal.compounds::headed-for_loop-requires
compounds::headed-for_loop-requires t c =
    let th = head_there c.args.into.now c.args.lines.now c.requires.placed.0 c.args.pos c.args.header.now c.args.own c.requires.placed.1 c.requires.head in
    let at : IsHeaderThere c.args.into.now (node.For c.in-For.line c.in-For.variable c.in-For.iterable) = subst (λ (v : HeaderNode). IsHeaderThere c.args.into.now v) c.in-For.is th.0 in
    let b = c.in_ok-body.ensures.read c.requires.placed.0 c.requires.placed.1 th.1.0 th.1.1 in
    (omega (arith, c.decreases), (c.in_ok-body.ensures.built.valid, (there_later _ _ _ _ c.in_ok-body.ensures.built c.requires.module c.requires.placed, (c.requires.frame, ((name_later _ _ _ c.in_ok-body.ensures.built c.requires.module _ at.0).0, ((expr_later _ _ _ c.in_ok-body.ensures.built c.requires.module _ at.1).0, b.0))))))

pub compounds::headed-tried-requires : goal.compounds::headed-tried-requires
compounds::headed-tried-requires t c =
    let th = head_there c.args.into.now c.args.lines.now c.requires.placed.0 c.args.pos c.args.header.now c.args.own c.requires.placed.1 c.requires.head in
    let b = c.in_ok-body.ensures.read c.requires.placed.0 c.requires.placed.1 th.1.0 th.1.1 in
    (omega (arith, c.decreases), (c.in_ok-body.ensures.built.valid, (there_later _ _ _ _ c.in_ok-body.ensures.built c.requires.module c.requires.placed, (c.requires.frame, b.0))))

pub compounds::headed-returns-in_ok-add-in-Def-clause-read : goal.compounds::headed-returns-in_ok-add-in-Def-clause-read
compounds::headed-returns-in_ok-add-in-Def-clause-read t c ps h d o =
    let th = head_there c.args.into.now c.args.lines.now ps c.args.pos c.args.header.now c.args.own h c.requires.head in
    let at : IsHeaderThere c.args.into.now (node.Def c.in-Def.line c.in-Def.name c.in-Def.parameters c.in-Def.result) = subst (λ (v : HeaderNode). IsHeaderThere c.args.into.now v) c.in-Def.is th.0 in
    let b = c.in_ok-body.ensures.read ps h d o in
    let l = def_later _ _ _ c.in_ok-body.ensures.built c.requires.module c.in-Def.line c.in-Def.name c.in-Def.parameters c.in-Def.result at in
    (c.in_ok-add-in-Def.ensures.there, rw (c.in-Def.is, c.in_ok-add-in-Def.ensures.tree, c.in_ok-from_slice-in-Def.ensures.items, c.deref.ensures.value, l.1, l.2, l.3) (headed_def _ _ _ _ _ _ _ b.1 _ _ _ _))

pub compounds::headed-returns-in_ok-add-in-Class-clause-read : goal.compounds::headed-returns-in_ok-add-in-Class-clause-read
compounds::headed-returns-in_ok-add-in-Class-clause-read t c ps h d o =
    let th = head_there c.args.into.now c.args.lines.now ps c.args.pos c.args.header.now c.args.own h c.requires.head in
    let at : IsHeaderThere c.args.into.now (node.Class c.in-Class.line c.in-Class.name) = subst (λ (v : HeaderNode). IsHeaderThere c.args.into.now v) c.in-Class.is th.0 in
    let b = c.in_ok-body.ensures.read ps h d o in
    let x = name_later _ _ _ c.in_ok-body.ensures.built c.requires.module _ at in
    (c.in_ok-add-in-Class.ensures.there, rw (c.in-Class.is, c.in_ok-add-in-Class.ensures.tree, x.1) (headed_class _ _ _ _ _ _ _ b.1 _ _))

pub compounds::headed-returns-in-If-clause-read : goal.compounds::headed-returns-in-If-clause-read
compounds::headed-returns-in-If-clause-read t c ps h d o =
    let th = head_there c.args.into.now c.args.lines.now ps c.args.pos c.args.header.now c.args.own h c.requires.head in
    let at : IsHeaderThere c.args.into.now (node.If c.in-If.line c.in-If.condition) = subst (λ (v : HeaderNode). IsHeaderThere c.args.into.now v) c.in-If.is th.0 in
    let b = c.in_ok-body.ensures.read ps h d o in
    let p = placed_later _ _ _ c.in_ok-body.ensures.built c.requires.module _ ps h in
    let e = expr_later _ _ _ c.in_ok-body.ensures.built c.requires.module _ at in
    rw (c.in-If.is, headed_if _ _ _ _ _ _ _ b.1 _ _, sym e.1) (c.choice.ensures.read ps p)

pub compounds::headed-returns-in-While-clause-read : goal.compounds::headed-returns-in-While-clause-read
compounds::headed-returns-in-While-clause-read t c ps h d o =
    let th = head_there c.args.into.now c.args.lines.now ps c.args.pos c.args.header.now c.args.own h c.requires.head in
    let at : IsHeaderThere c.args.into.now (node.While c.in-While.line c.in-While.condition) = subst (λ (v : HeaderNode). IsHeaderThere c.args.into.now v) c.in-While.is th.0 in
    let b = c.in_ok-body.ensures.read ps h d o in
    let p = placed_later _ _ _ c.in_ok-body.ensures.built c.requires.module _ ps h in
    let e = expr_later _ _ _ c.in_ok-body.ensures.built c.requires.module _ at in
    rw (c.in-While.is, headed_while _ _ _ _ _ _ _ b.1 _ _, sym e.1) (c.while_loop.ensures.read ps p)

pub compounds::headed-returns-in-For-clause-read : goal.compounds::headed-returns-in-For-clause-read
compounds::headed-returns-in-For-clause-read t c ps h d o =
    let th = head_there c.args.into.now c.args.lines.now ps c.args.pos c.args.header.now c.args.own h c.requires.head in
    let at : IsHeaderThere c.args.into.now (node.For c.in-For.line c.in-For.variable c.in-For.iterable) = subst (λ (v : HeaderNode). IsHeaderThere c.args.into.now v) c.in-For.is th.0 in
    let b = c.in_ok-body.ensures.read ps h d o in
    let p = placed_later _ _ _ c.in_ok-body.ensures.built c.requires.module _ ps h in
    let x = name_later _ _ _ c.in_ok-body.ensures.built c.requires.module _ at.0 in
    let e = expr_later _ _ _ c.in_ok-body.ensures.built c.requires.module _ at.1 in
    rw (c.in-For.is, headed_for _ _ _ _ _ _ _ b.1 _ _ _, sym e.1, sym x.1) (c.for_loop.ensures.read ps p)

pub compounds::headed-returns-in-Try-clause-read : goal.compounds::headed-returns-in-Try-clause-read
compounds::headed-returns-in-Try-clause-read t c ps h d o =
    let b = c.in_ok-body.ensures.read ps h d o in
    let p = placed_later _ _ _ c.in_ok-body.ensures.built c.requires.module _ ps h in
    rw (c.in-Try.is, headed_try _ _ _ _ _ _ _ b.1 _) (c.tried.ensures.read ps p)

pub compounds::headed-returns-in-Elif-clause-read : goal.compounds::headed-returns-in-Elif-clause-read
compounds::headed-returns-in-Elif-clause-read t c ps h d o = headed_going_on _ _ _ _ _ _ _ c.in-Elif.is

pub compounds::tried-returns-in_default-clause-read : goal.compounds::tried-returns-in_default-clause-read
compounds::tried-returns-in_default-clause-read t c ps h = tried_none _ _ _ _ _ _ (c.in_default.ensures.found c.args.into.now ps h)

pub compounds::tried-returns-in_err-caught-clause-read : goal.compounds::tried-returns-in_err-caught-clause-read
compounds::tried-returns-in_err-caught-clause-read t c ps h =
    let f = c.in-Some.ensures.found c.args.into.now ps h in
    let r = err_from_is_err_and c.from_residual.result c.from_residual.ensures.1 in
    rw (r.1, r.2) (fails_on _ _ _ (c.in_err-caught.ensures.read ps h f.1.0 f.1.1) (λ n. tried_no_body _ _ _ _ _ _ _ _ _ _ f.1.2 n))

pub compounds::tried-handlers-requires : goal.compounds::tried-handlers-requires
compounds::tried-handlers-requires t c =
    let f = c.in-Some.ensures.found c.args.into.now c.requires.placed.0 c.requires.placed.1 in
    let b = c.in_ok-caught.ensures.read c.requires.placed.0 c.requires.placed.1 f.1.0 f.1.1 in
    let g = c.in_ok-caught.ensures.built in
    (omega (arith, c.decreases), (g.valid, (there_later _ _ _ _ g c.requires.module c.requires.placed, (c.requires.frame, ((names_later _ _ _ g c.requires.module _ f.0).0, b.0, tt)))))

pub compounds::tried-returns-in_err-handlers-clause-read : goal.compounds::tried-returns-in_err-handlers-clause-read
compounds::tried-returns-in_err-handlers-clause-read t c ps h =
    let f = c.in-Some.ensures.found c.args.into.now ps h in
    let b = c.in_ok-caught.ensures.read ps h f.1.0 f.1.1 in
    let g = c.in_ok-caught.ensures.built in
    let p = placed_later _ _ _ g c.requires.module _ ps h in
    let x = names_later _ _ _ g c.requires.module _ f.0 in
    let q = classes_as c.args.frame.depth _ _ _ _ (drop c.args.pos ps) _ x.1 f.1.2 in
    let r = err_from_is_err_and c.from_residual-in_err-handlers.result c.from_residual-in_err-handlers.ensures.1 in
    rw (r.1, r.2) (fails_on _ _ _ (c.in_err-handlers.ensures.read ps p) (λ n. tried_no_handlers _ _ _ _ _ _ _ _ _ _ _ _ q b.1 n))

pub compounds::tried-otherwise-requires : goal.compounds::tried-otherwise-requires
compounds::tried-otherwise-requires t c =
    let g = c.in_ok-caught.ensures.built in
    let i = c.in_ok-handlers.ensures.built in
    (omega (arith, c.decreases), (i.valid, (there_later _ _ _ _ i g.valid (there_later _ _ _ _ g c.requires.module c.requires.placed), c.requires.frame)))

pub compounds::tried-returns-in_err-otherwise-clause-read : goal.compounds::tried-returns-in_err-otherwise-clause-read
compounds::tried-returns-in_err-otherwise-clause-read t c ps h =
    let f = c.in-Some.ensures.found c.args.into.now ps h in
    let b = c.in_ok-caught.ensures.read ps h f.1.0 f.1.1 in
    let g = c.in_ok-caught.ensures.built in
    let p = placed_later _ _ _ g c.requires.module _ ps h in
    let x = names_later _ _ _ g c.requires.module _ f.0 in
    let q = classes_as c.args.frame.depth _ _ _ _ (drop c.args.pos ps) _ x.1 f.1.2 in
    let i = c.in_ok-handlers.ensures.built in
    let p2 = placed_later _ _ _ i g.valid _ ps p in
    let hs = c.in_ok-handlers.ensures.read ps p in
    let r = err_from_is_err_and c.from_residual-in_err-otherwise.result c.from_residual-in_err-otherwise.ensures.1 in
    rw (r.1, r.2) (fails_on _ _ _ (c.in_err-otherwise.ensures.read ps p2) (λ n. tried_no_else _ _ _ _ _ _ _ _ _ _ _ _ _ _ q b.1 hs.1 n))

pub compounds::tried-add-requires-clause-parts : goal.compounds::tried-add-requires-clause-parts
compounds::tried-add-requires-clause-parts t c =
    let f = c.in-Some.ensures.found c.args.into.now c.requires.placed.0 c.requires.placed.1 in
    let b = c.in_ok-caught.ensures.read c.requires.placed.0 c.requires.placed.1 f.1.0 f.1.1 in
    let g = c.in_ok-caught.ensures.built in
    let p = placed_later _ _ _ g c.requires.module _ c.requires.placed.0 c.requires.placed.1 in
    let x = names_later _ _ _ g c.requires.module _ f.0 in
    let q = classes_as c.args.frame.depth _ _ _ _ (drop c.args.pos c.requires.placed.0) _ x.1 f.1.2 in
    let i = c.in_ok-handlers.ensures.built in
    let p2 = placed_later _ _ _ i g.valid _ c.requires.placed.0 p in
    let hs = c.in_ok-handlers.ensures.read c.requires.placed.0 p in
    let j = c.in_ok-otherwise.ensures.built in
    let o = c.in_ok-otherwise.ensures.read c.requires.placed.0 p2 in
    let all = builds_then _ _ _ _ g (builds_then _ _ _ _ i j) in
    ((block_later _ _ _ all c.requires.module _ c.requires.body).0, (handlers_later _ _ _ j i.valid _ hs.0).0, o.0)

pub compounds::tried-returns-in_err-add-clause-built : goal.compounds::tried-returns-in_err-add-clause-built
compounds::tried-returns-in_err-add-clause-built t c = builds_then _ _ _ _ c.in_ok-caught.ensures.built (builds_then _ _ _ _ c.in_ok-handlers.ensures.built (builds_then _ _ _ _ c.in_ok-otherwise.ensures.built (c.in_err-add.ensures.built _ tt)))

pub compounds::tried-returns-clause-built : goal.compounds::tried-returns-clause-built
compounds::tried-returns-clause-built t c = builds_then _ _ _ _ c.in_ok-caught.ensures.built (builds_then _ _ _ _ c.in_ok-handlers.ensures.built (builds_then _ _ _ _ c.in_ok-otherwise.ensures.built (c.in_ok-add.ensures.built _ tt)))

pub compounds::tried-returns-clause-read : goal.compounds::tried-returns-clause-read
compounds::tried-returns-clause-read t c ps h =
    let f = c.in-Some.ensures.found c.args.into.now ps h in
    let b = c.in_ok-caught.ensures.read ps h f.1.0 f.1.1 in
    let g = c.in_ok-caught.ensures.built in
    let p = placed_later _ _ _ g c.requires.module _ ps h in
    let x = names_later _ _ _ g c.requires.module _ f.0 in
    let q = classes_as c.args.frame.depth _ _ _ _ (drop c.args.pos ps) _ x.1 f.1.2 in
    let i = c.in_ok-handlers.ensures.built in
    let p2 = placed_later _ _ _ i g.valid _ ps p in
    let hs = c.in_ok-handlers.ensures.read ps p in
    let j = c.in_ok-otherwise.ensures.built in
    let o = c.in_ok-otherwise.ensures.read ps p2 in
    let all = builds_then _ _ _ _ g (builds_then _ _ _ _ i j) in
    let s = block_later _ _ _ all c.requires.module _ c.requires.body in
    let ks = handlers_later _ _ _ j i.valid _ hs.0 in
    (c.in_ok-add.ensures.there, rw (c.in_ok-add.ensures.tree, s.1, ks.1) (tried_read _ _ _ _ _ _ _ _ _ _ _ _ _ _ _ _ q b.1 hs.1 o.1))

pub statements::block-returns-in-Err-NoForm-clause-read : goal.statements::block-returns-in-Err-NoForm-clause-read
statements::block-returns-in-Err-NoForm-clause-read t c ps h =
    let k : c.args.frame.turns - c.list.counter ≡ suc (c.args.frame.turns - (c.list.counter + 1)) = omega arith in
    let p = placed_later _ _ _ c.list.invariant.built c.requires.module _ ps h in
    let n = no_form _ _ (c.in-Err-NoForm.ensures.read ps p) c.in-Err-NoForm.field-0-is in
    let l = block_later _ _ _ c.in-Err-NoForm.ensures.built c.list.invariant.built.valid _ c.list.invariant.here in
    (l.0, rw l.1 (sym (c.list.invariant.read ps h) ∙ block_end _ _ _ _ _ k n))

pub statements::block-list-preserved : goal.statements::block-list-preserved
statements::block-list-preserved t c =
    let k : c.args.frame.turns - c.list.counter ≡ suc (c.args.frame.turns - (c.list.counter + 1)) = omega arith in
    let q = c.in-Ok.ensures.read c.list.invariant.there.0 c.list.invariant.there.1 in
    let l = block_then _ _ _ c.in-Ok.ensures.built c.list.invariant.built.valid _ _ _ c.list.invariant.here q.0 c.in_ok-push-in-Ok.ensures.items in
    record {
      built = builds_then _ _ _ _ c.list.invariant.built c.in-Ok.ensures.built;
      there = there_later _ _ _ _ c.in-Ok.ensures.built c.list.invariant.built.valid c.list.invariant.there;
      here = l.0;
      read = λ ps h.
          let p = placed_later _ _ _ c.list.invariant.built c.requires.module _ ps h in
          rw l.1 (sym (block_turn _ _ _ _ _ _ _ k (c.in-Ok.ensures.read ps p).1) ∙ c.list.invariant.read ps h);
    }

pub statements::block-returns-clause-read : goal.statements::block-returns-clause-read
statements::block-returns-clause-read t c ps h =
    let z : c.args.frame.turns - c.list.counter ≡ 0 = omega arith in
    sym (c.list.invariant.read ps h) ∙ block_out _ _ _ _ z

pub statements::statement-returns-then-frame-eq0-clause-read : goal.statements::statement-returns-then-frame-eq0-clause-read
statements::statement-returns-then-frame-eq0-clause-read t c ps h = statement_out _ _ _ c.if-frame-eq0.true

pub statements::statement-returns-in_default-clause-read : goal.statements::statement-returns-in_default-clause-read
statements::statement-returns-in_default-clause-read t c ps h = depth_missed _ _ ps _ _ _ h (sym c.in_default.ensures.line)

pub statements::statement-returns-in-Simple-clause-read : goal.statements::statement-returns-in-Simple-clause-read
statements::statement-returns-in-Simple-clause-read t c ps h =
    let lt : 0 < c.args.frame.room = omega (arith, c.if-frame-eq0.false) in
    simple_built _ _ ps _ _ _ _ h lt (sym c.in-Some.ensures.line) _ c.in-Simple.is

pub statements::statement-returns-in-Header-clause-read : goal.statements::statement-returns-in-Header-clause-read
statements::statement-returns-in-Header-clause-read t c ps h =
    let lt : 0 < c.args.frame.room = omega (arith, c.if-frame-eq0.false) in
    let f = header_built _ _ ps _ _ _ _ h lt (sym c.in-Some.ensures.line) c.in-Header.header None (rw c.in-Header.is refl) in
    rw f.2 (c.headed.ensures.read ps h f.0 f.1)

pub statements::statement-returns-in-HeaderSimple-clause-read : goal.statements::statement-returns-in-HeaderSimple-clause-read
statements::statement-returns-in-HeaderSimple-clause-read t c ps h =
    let lt : 0 < c.args.frame.room = omega (arith, c.if-frame-eq0.false) in
    let f = header_built _ _ ps _ _ _ _ h lt (sym c.in-Some.ensures.line) c.in-HeaderSimple.header (Some c.in-HeaderSimple.own) (rw c.in-HeaderSimple.is refl) in
    rw f.2 (c.headed-in-HeaderSimple.ensures.read ps h f.0 f.1)

pub statements::suite-returns-in-Some-clause-read : goal.statements::suite-returns-in-Some-clause-read
statements::suite-returns-in-Some-clause-read t c ps h d o =
    let f = own_suite c.args.into.now (statement_below c.args.frame.room) c.args.frame.turns c.args.frame.depth c.in-Some.statement d (drop c.args.pos ps) (subst (λ (v : Option StmtId). IsOwn c.args.into.now v d) c.in-Some.is o) in
    rw (c.in_ok-push.ensures.items, c.new-body.ensures.items) ((f.0, tt), f.1)

pub statements::suite-returns-in_err-first-clause-read : goal.statements::suite-returns-in_err-first-clause-read
statements::suite-returns-in_err-first-clause-read t c ps h d o =
    let r = err_from_is_err_and c.from_residual-in_err-first.result c.from_residual-in_err-first.ensures.1 in
    rw (r.1, r.2, no_own c.args.into.now d (subst (λ (v : Option StmtId). IsOwn c.args.into.now v d) c.in_default.is o)) (fails_on _ _ _ (c.in_err-first.ensures.read ps h) (λ n. suite_missed _ _ _ _ n))

pub statements::suite-block-requires : goal.statements::suite-block-requires
statements::suite-block-requires t c =
    let f = c.in_ok-first.ensures.read c.requires.placed.0 c.requires.placed.1 in
    (omega (arith, c.decreases), (c.in_ok-first.ensures.built.valid, (there_later _ _ _ _ c.in_ok-first.ensures.built c.requires.module c.requires.placed, (c.requires.frame, rw (c.in_ok-push-2.ensures.items, c.new-body.ensures.items) (f.0, tt)))))

pub statements::suite-returns-clause-read : goal.statements::suite-returns-clause-read
statements::suite-returns-clause-read t c ps h d o =
    let p = placed_later _ _ _ c.in_ok-first.ensures.built c.requires.module _ ps h in
    let f = c.in_ok-first.ensures.read ps h in
    let b : GivesBlock c.block.new.into ps c.block.result (block_with (statement_below c.args.frame.room (c.args.frame.depth + 1)) c.args.frame.turns (tree.statement (shown_stmt c.statement.new.into c.in_ok-first.first.index) tree.no_statement) (drop c.in_ok-first.next ps)) = subst (λ (v : List StmtId). GivesBlock c.block.new.into ps c.block.result (block_with (statement_below c.args.frame.room (c.args.frame.depth + 1)) c.args.frame.turns (block_tree (shown_stmt c.statement.new.into) v) (drop c.in_ok-first.next ps))) (c.in_ok-push-2.ensures.items ∙ ap (λ (v : List StmtId). v ++ c.in_ok-first.first ∷ []) c.new-body.ensures.items) (c.block.ensures.read ps p) in
    rw (no_own c.args.into.now d (subst (λ (v : Option StmtId). IsOwn c.args.into.now v d) c.in_default.is o)) (suite_as _ _ _ _ _ _ _ _ _ f.1 b)
