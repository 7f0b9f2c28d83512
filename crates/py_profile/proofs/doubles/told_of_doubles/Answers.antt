use Rattle.std.proofs.Common.{◌≡◌, ◌∙◌, ℕ, List, [], false, ap, length, map, replicate}
use Rattle.std.specs.List.{list_any}
use Rattle.spec_trees.specs.Module.{Statement}
use Rattle.spec_names.specs.Names.{is_given}
use Rattle.spec_names.specs.Defined.{are_repeated, defined_by, doubles_behind, onto}
use Rattle.py_tree.specs.Arena.{shown_stmt}
use Rattle.py_tree.specs.Names.{text_of}
use Rattle.name_sets.specs.Marks.{marks_of}
use Rattle.name_sets.proofs.Marks.{marks_length, marks_none}
use Rattle.py_profile.proofs.Walking.{member_here, member_step, member_told, members_of, walk_begins, walk_more}
use Rattle.py_profile.proofs.doubles.told_of_doubles.Goals as goal

pub loop-i-init : goal.loop-i-init
loop-i-init c =
    let m = c.args.module.now in
    let marks : c.in_ok-members.members ≡ marks_of [] m.names = c.in_ok-members.ensures {u = tt} ∙ ap (λ (n : ℕ). replicate n false) c.names_count.ensures.count ∙ marks_none m.names in
    let others : c.in_ok-methods_so_far.methods_so_far ≡ marks_of [] m.names = c.in_ok-methods_so_far.ensures {u = tt} ∙ ap (λ (n : ℕ). replicate n false) c.names_count-2.ensures.count ∙ marks_none m.names in (
      walk_begins doubles_behind member_here members_of m.names (shown_stmt m) m.tops c.args.told c.in_ok-members.members marks,
      ap length marks ∙ marks_length [] m.names,
      ap length others ∙ marks_length [] m.names,
    )

pub loop-i-preserved : goal.loop-i-preserved
loop-i-preserved c =
    let m = c.args.module.now in
    let h = c.loop-i.invariant.0 in
    let s : Statement = shown_stmt m c.top_stmt-s.result.index in
    let names : map (text_of m.names) c.in_ok-names.names.items ≡ members_of s = (c.in_ok-names.ensures {u = tt}).texts ∙ ap defined_by c.member_of.ensures.member in
    let repeated : c.are_repeated-is_repeated.result ≡ are_repeated h.earlier (members_of s) = rw c.deref.ensures.value at c.are_repeated-is_repeated.ensures.repeated h.earlier h.marks ∙ ap (are_repeated h.earlier) names in
    let added : c.are_repeated-is_repeated.new.earlier ≡ marks_of (onto h.earlier (members_of s)) m.names = rw c.deref.ensures.value at c.are_repeated-is_repeated.ensures.added h.earlier h.marks ∙ ap (λ (v : List (List ℕ)). marks_of (onto h.earlier v) m.names) names in
    let given : c.are_given-is_given.result ≡ list_any is_given (members_of s) = rw c.deref-in-loop-i.ensures.value at c.are_given-is_given.ensures ∙ ap (list_any is_given) names in
    let inner = c.in_ok-told.ensures {u = tt} in (
      walk_more doubles_behind member_here members_of m.names (shown_stmt m) m.tops c.args.told c.loop-i.told c.loop-i.members c.loop-i.i h member_step c.in_ok-told.told c.are_repeated-is_repeated.new.earlier _ c.top_stmt-s.ensures.statement
          (member_told h.earlier s _ _ _ _ _ _ _ _ repeated given c.line_of-line.ensures c.methods.ensures.block c.told_if-told.ensures c.told_if-told-in-loop-i.ensures inner.told) added,
      c.are_repeated-is_repeated.ensures.size,
      inner.size,
    )
