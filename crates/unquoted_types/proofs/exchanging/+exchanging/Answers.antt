use Rattle.std.proofs.Common.{◌≡◌, ◌≤◌, ◌∙◌, Option, length, get_or, ap, subst, sym, arith}
use Rattle.std.specs.Global.{Vec}
use Rattle.std.specs.Prelude.{IfOk, chars, encode_utf8_all}
use Rattle.spec_trees.specs.Stmt.{TypeExpr}
use Rattle.spec_types.specs.Quotes.{all_exchanged, exchanged, held_type}
use Rattle.py_tree.specs.declared.ids.TypeId.{TypeId}
use Rattle.py_tree.specs.Arena.{shown_type}
use Rattle.py_tree.specs.Exprs.{part_tree}
use Rattle.py_tree.specs.Types.{types_tree, AreTypesBelow}
use Rattle.py_tree.proofs.TypeNodes.{types_more}
use Rattle.py_types.proofs.Growth.{grows_same, grows_then}
use Rattle.py_types.proofs.Later.{type_later, types_later}
use Rattle.unquoted_types.specs.Given.{GivesType, GivesTypes}
use Rattle.unquoted_types.proofs.Measures.{above_least, no_type, type_above, type_there}
use Rattle.unquoted_types.proofs.Texts.{part_held, text_is}
use Rattle.unquoted_types.proofs.Turns.{all_made, none_behind, none_made, one_more, one_without, union_made}
use Rattle.unquoted_types.proofs.exchanging.+exchanging.Goals as goal

pub all_exchanged-loop-t-init : goal.all_exchanged-loop-t-init
all_exchanged-loop-t-init t c = record {
  grown = grows_same _ c.requires.module;
  here = subst (AreTypesBelow (length c.args.module.now.types)) (sym c.new-made.ensures.items) tt;
  read = none_made _ c.new-made.result.items _ c.new-made.ensures.items;
}

pub all_exchanged-exchanged-requires : goal.all_exchanged-exchanged-requires
all_exchanged-exchanged-requires t c =
    let here = type_above c.args.types.now c.loop-t.t-index no_type c.loop-t-test.true in
    let there = type_there _ c.args.types.now c.loop-t.t-index no_type c.requires.types c.loop-t-test.true in
    (omega (arith, c.decreases, here), (c.loop-t.invariant.grown.valid, (type_later _ _ c.loop-t.invariant.grown c.requires.module _ there).0))

pub all_exchanged-returns-in_default-clause-exchanged : goal.all_exchanged-returns-in_default-clause-exchanged
all_exchanged-returns-in_default-clause-exchanged t c =
    let i = (get_or c.args.types.now c.loop-t.t-index no_type).index in
    let there = type_there _ c.args.types.now c.loop-t.t-index no_type c.requires.types c.loop-t-test.true in
    let none = subst (λ (v : Option TypeId). GivesType c.exchanged.new.module v (exchanged (held_type c.args.bound) (shown_type c.loop-t.module i))) c.in_default.is c.in_ok-next.ensures.exchanged in
    one_without (held_type c.args.bound) (shown_type c.args.module.now) c.args.types.now c.loop-t.t-index no_type _ _ c.loop-t-test.true (rw (type_later _ _ c.loop-t.invariant.grown c.requires.module i there).1 at none) c.loop-t.invariant.read

pub all_exchanged-loop-t-preserved : goal.all_exchanged-loop-t-preserved
all_exchanged-loop-t-preserved t c =
    let i = (get_or c.args.types.now c.loop-t.t-index no_type).index in
    let there = type_there _ c.args.types.now c.loop-t.t-index no_type c.requires.types c.loop-t-test.true in
    let next = subst (λ (v : Option TypeId). GivesType c.exchanged.new.module v (exchanged (held_type c.args.bound) (shown_type c.loop-t.module i))) c.in-Some.is c.in_ok-next.ensures.exchanged in
    let now = rw (type_later _ _ c.loop-t.invariant.grown c.requires.module i there).1 at next.1 in
    let made = one_more (held_type c.args.bound) (shown_type c.args.module.now) c.args.types.now c.loop-t.t-index c.loop-t.module c.exchanged.new.module c.exchanged.ensures.grown c.loop-t.invariant.grown.valid no_type c.in-Some.next c.loop-t.made.items c.push.new.self.items _ c.loop-t-test.true c.loop-t.invariant.here next.0 c.in_ok-push.ensures.items now c.loop-t.invariant.read in
    record {
      grown = grows_then _ _ _ c.loop-t.invariant.grown c.exchanged.ensures.grown;
      here = made.0;
      read = made.1;
    }

pub all_exchanged-returns-clause-exchanged : goal.all_exchanged-returns-clause-exchanged
all_exchanged-returns-clause-exchanged t c =
    let le : length c.args.types.now ≤ c.loop-t.t-index = omega arith in
    (c.loop-t.invariant.here, all_made (held_type c.args.bound) (shown_type c.args.module.now) c.args.types.now c.loop-t.t-index (shown_type c.loop-t.module) c.loop-t.made.items _ le c.loop-t.invariant.read)

pub exchanged-returns-in_err-arguments-in-Name-clause-grown : goal.exchanged-returns-in_err-arguments-in-Name-clause-grown
exchanged-returns-in_err-arguments-in-Name-clause-grown t c = grows_same _ c.requires.module

pub exchanged-exchanged_name-requires : goal.exchanged-exchanged_name-requires
exchanged-exchanged_name-requires t c =
    let parts = rw c.in-Name.is at c.type_node.ensures.parts in
    let least = above_least c.args.t.index c.in-Name.arguments.items parts.1 in
    rw (c.deref-in-Name.ensures.value, c.in_ok-arguments-in-Name.ensures.items, c.deref.ensures.value)
    (omega (arith, c.decreases, least), (c.requires.module, (parts.0, types_more _ _ (omega arith) c.in-Name.arguments.items parts.1)))

pub exchanged-returns-in_err-rest-in-Union-clause-grown : goal.exchanged-returns-in_err-rest-in-Union-clause-grown
exchanged-returns-in_err-rest-in-Union-clause-grown t c = grows_same _ c.requires.module

pub exchanged-exchanged_union-requires : goal.exchanged-exchanged_union-requires
exchanged-exchanged_union-requires t c =
    let parts = rw c.in-Union.is at c.type_node.ensures.parts in
    let least = above_least c.args.t.index c.in-Union.rest.items parts.1 in
    rw (c.deref-in-Union-2.ensures.value, c.in_ok-rest-in-Union.ensures.items, c.deref-in-Union.ensures.value)
    (omega (arith, c.decreases, parts.0, least), (c.requires.module, (omega (arith, parts.0), types_more _ _ (omega arith) c.in-Union.rest.items parts.1)))

pub exchanged-returns-in_err-text-in-Text-clause-grown : goal.exchanged-returns-in_err-text-in-Text-clause-grown
exchanged-returns-in_err-text-in-Text-clause-grown t c = grows_same _ c.requires.module

pub exchanged-returns-in-None-clause-grown : goal.exchanged-returns-in-None-clause-grown
exchanged-returns-in-None-clause-grown t c = grows_same _ c.requires.module

pub exchanged-returns-in_ok-text-in-Text-clause-exchanged : goal.exchanged-returns-in_ok-text-in-Text-clause-exchanged
exchanged-returns-in_ok-text-in-Text-clause-exchanged t c =
    let part = part_tree c.in-Text.part in
    let is = rw c.in-Text.is at c.type_node.ensures.tree in
    let text : chars c.as_str.result.now ≡ c.in-Text.part.value = text_is c.as_str.result.now c.in-Text.part.value c.as_str.utf8 (c.as_str.ensures.value ∙ c.in_ok-text-in-Text.ensures {u = tt} ∙ ap encode_utf8_all c.as_slice.ensures) in
    subst (λ (e : TypeExpr). IfOk c.held.result (λ o. GivesType c.held.new.module o (exchanged (held_type c.args.bound) e))) (sym is) (part_held c.held.new.module c.held.result c.args.bound part (chars c.as_str.result.now) text c.held.ensures.exchanged)

pub exchanged_union-all_exchanged-requires : goal.exchanged_union-all_exchanged-requires
exchanged_union-all_exchanged-requires t c = (omega (arith, c.decreases), (c.exchanged.ensures.grown.valid, (types_later _ _ c.exchanged.ensures.grown c.requires.module _ c.requires.rest).0))

pub exchanged_union-returns-in_default-2-clause-exchanged : goal.exchanged_union-returns-in_default-2-clause-exchanged
exchanged_union-returns-in_default-2-clause-exchanged t c =
    let m = c.exchanged.new.module in
    let none = subst (λ (v : Option (Vec TypeId)). GivesTypes (λ w. w.items) c.all_exchanged.new.module v (all_exchanged (held_type c.args.bound) (types_tree (shown_type m) c.args.rest.now))) c.in_default-2.is c.in_ok-rest.ensures.exchanged in
    none_behind c.args.line _ _ (rw (types_later _ _ c.exchanged.ensures.grown c.requires.module _ c.requires.rest).1 at none)

pub exchanged_union-returns-clause-grown : goal.exchanged_union-returns-clause-grown
exchanged_union-returns-clause-grown t c = grows_then _ _ _ c.exchanged.ensures.grown (grows_then _ _ _ c.all_exchanged.ensures.grown c.add.ensures.grown)

pub exchanged_union-returns-clause-exchanged : goal.exchanged_union-returns-clause-exchanged
exchanged_union-returns-clause-exchanged t c =
    let l = c.exchanged.new.module in
    let m = c.all_exchanged.new.module in
    let first = subst (λ (v : Option TypeId). GivesType l v (exchanged (held_type c.args.bound) (shown_type c.args.module.now c.args.first.index))) c.in-Some.is c.in_ok-first.ensures.exchanged in
    let rest = subst (λ (v : Option (Vec TypeId)). GivesTypes (λ w. w.items) m v (all_exchanged (held_type c.args.bound) (types_tree (shown_type l) c.args.rest.now))) c.in-Some-2.is c.in_ok-rest.ensures.exchanged in
    let behind = rw (types_later _ _ c.exchanged.ensures.grown c.requires.module _ c.requires.rest).1 at rest.1 in
    let made = union_made l m c.all_exchanged.ensures.grown c.exchanged.ensures.grown.valid c.args.line c.in-Some.first c.in-Some-2.rest.items _ _ first.0 first.1 behind in
    subst (λ (e : Option TypeExpr). IfOk c.add.result (λ o. GivesType c.add.new.module o e)) (sym made) c.add.ensures.given

pub held-returns-then-bound-eq0-clause-grown : goal.held-returns-then-bound-eq0-clause-grown
held-returns-then-bound-eq0-clause-grown t c = grows_same _ c.requires.1.1
