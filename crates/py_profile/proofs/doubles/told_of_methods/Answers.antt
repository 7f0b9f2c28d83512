use Rattle.std.proofs.Common.{◌≡◌, ◌∙◌, ℕ, List, [], false, ap, get_or, length, map, replicate}
use Rattle.std.proofs.lemmas.Option.{slice_get-get_or}
use Rattle.spec_trees.specs.Module.{Statement}
use Rattle.spec_names.specs.Defined.{are_repeated, defined_by, method_doubles, onto}
use Rattle.py_tree.specs.Arena.{shown_stmt}
use Rattle.py_tree.specs.Names.{text_of}
use Rattle.name_sets.specs.Marks.{marks_of}
use Rattle.name_sets.proofs.Marks.{marks_length, marks_none}
use Rattle.py_profile.proofs.Below.{no_statement, stmt_below}
use Rattle.py_profile.proofs.Walking.{method_here, method_step, method_told, methods_of, walk_begins, walk_more}
use Rattle.py_profile.proofs.doubles.told_of_methods.Goals as goal

pub loop-s-init : goal.loop-s-init
loop-s-init c =
    let m = c.args.module.now in
    let marks : c.clear.new.self ≡ marks_of [] m.names = (c.in_ok-clear.ensures {u = tt}).cleared ∙ ap (λ (n : ℕ). replicate n false) c.requires.size ∙ marks_none m.names in (
      walk_begins method_doubles method_here methods_of m.names (shown_stmt m) c.args.body.now c.args.told c.clear.new.self marks,
      ap length marks ∙ marks_length [] m.names,
    )

pub method_of-requires : goal.method_of-requires
method_of-requires c = stmt_below _ c.args.body.now c.loop-s.s-index _ c.requires.body c.loop-s-test.true

pub line_of-line-requires : goal.line_of-line-requires
line_of-line-requires c = stmt_below _ c.args.body.now c.loop-s.s-index _ c.requires.body c.loop-s-test.true

pub loop-s-preserved : goal.loop-s-preserved
loop-s-preserved c =
    let m = c.args.module.now in
    let h = c.loop-s.invariant.0 in
    let s : Statement = shown_stmt m (get_or c.args.body.now c.loop-s.s-index no_statement).index in
    let names : map (text_of m.names) c.in_ok-names.names.items ≡ methods_of s = (c.in_ok-names.ensures {u = tt}).texts ∙ ap defined_by c.method_of.ensures.member in
    let repeated : c.are_repeated-is_refused.result ≡ are_repeated h.earlier (methods_of s) = rw c.deref.ensures.value at c.are_repeated-is_refused.ensures.repeated h.earlier h.marks ∙ ap (are_repeated h.earlier) names in
    let added : c.are_repeated-is_refused.new.earlier ≡ marks_of (onto h.earlier (methods_of s)) m.names = rw c.deref.ensures.value at c.are_repeated-is_refused.ensures.added h.earlier h.marks ∙ ap (λ (v : List (List ℕ)). marks_of (onto h.earlier v) m.names) names in (
      walk_more method_doubles method_here methods_of m.names (shown_stmt m) c.args.body.now c.args.told c.loop-s.told c.loop-s.earlier c.loop-s.s-index h method_step c.told_if-told.result c.are_repeated-is_refused.new.earlier _ (slice_get-get_or c.args.body.now c.loop-s.s-index no_statement c.loop-s-test.true)
          (method_told h.earlier s _ _ _ _ repeated c.line_of-line.ensures c.told_if-told.ensures) added,
      c.are_repeated-is_refused.ensures.size,
    )
