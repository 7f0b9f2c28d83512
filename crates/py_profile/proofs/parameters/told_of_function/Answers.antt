use Rattle.std.proofs.Common.{◌≡◌, ◌∙◌, ℕ, [], false, ap, map, replicate}
use Rattle.std.specs.List.{list_any}
use Rattle.spec_names.specs.Names.{names_of}
use Rattle.spec_names.specs.Names.{is_private}
use Rattle.spec_names.specs.Defined.{are_repeated}
use Rattle.py_tree.specs.Arena.{shown_stmt, shown_type}
use Rattle.py_tree.specs.Names.{text_of}
use Rattle.py_tree.specs.Stmts.{block_tree, parameters_tree}
use Rattle.py_tree.specs.Types.{optional_type}
use Rattle.name_sets.specs.Marks.{marks_of}
use Rattle.name_sets.proofs.Marks.{marks_none}
use Rattle.py_profile.proofs.Walking.{parameters_told}
use Rattle.py_profile.proofs.parameters.told_of_function.Goals as goal

pub returns-clause-told : goal.returns-clause-told
returns-clause-told c =
    let m = c.args.module.now in
    let marks : c.clear.new.self ≡ marks_of [] m.names = (c.in_ok-clear.ensures {u = tt}).cleared ∙ ap (λ (n : ℕ). replicate n false) c.requires.size ∙ marks_none m.names in
    let names : map (text_of m.names) c.in_ok-names.names.items ≡ names_of (parameters_tree m c.in-Def.parameters.items) = rw c.deref.ensures.value at (c.in_ok-names.ensures {u = tt}).texts in
    let repeated : c.are_repeated-is_repeated.result ≡ are_repeated [] (names_of (parameters_tree m c.in-Def.parameters.items)) = rw c.deref-2.ensures.value at c.are_repeated-is_repeated.ensures.repeated [] marks ∙ ap (are_repeated []) names in
    let hidden : c.are_private-is_private.result ≡ list_any is_private (names_of (parameters_tree m c.in-Def.parameters.items)) = rw c.deref-3.ensures.value at c.are_private-is_private.ensures ∙ ap (list_any is_private) names in
    let misordered = rw c.deref-4.ensures.value at c.are_misordered-is_misordered.ensures in
    let defaults = rw c.deref-5.ensures.value at c.told_of_defaults.ensures in
    rw (c.stmt.ensures.tree, c.in-Def.is) (parameters_told c.in-Def.line (text_of m.names c.in-Def.name) (parameters_tree m c.in-Def.parameters.items) (optional_type (shown_type m) c.in-Def.result) (block_tree (shown_stmt m) c.in-Def.body.items) _ _ _ _ _ _ _ _ repeated hidden misordered c.told_if-told.ensures c.told_if-told-2.ensures c.told_if-told-3.ensures defaults)
