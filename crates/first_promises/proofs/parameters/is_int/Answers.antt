use Rattle.std.proofs.Common.{◌≡◌, ◌==◌, true, false, ℕ, List, sym, ap, subst, ◌∙◌}
use Rattle.std.specs.Prelude.{codes}
use Rattle.std.specs.Str.{bytes_eq}
use Rattle.py_tree.specs.State.{shown_type}
use Rattle.py_tree.specs.Names.{text_of}
use Rattle.first_promises.proofs.Named.{int_alone, no_int, text_found}
use Rattle.first_promises.proofs.parameters.is_int.Goals as goal

pub returns-then-is_empty : goal.returns-then-is_empty
returns-then-is_empty c =
    let text = text_found c.args.module.now.names c.in-Name.name c.name_text.result.now c.name_text.ensures.text in
    let tree = rw c.in-Name.is at c.type_node.ensures.tree in
    let empty = subst (λ (n : ℕ). (n == 0) ≡ true) c.in-Name.arguments.ok.0 (sym c.is_empty.ensures ∙ c.if-is_empty.true) in
    rw (c.in-Some.is, tree) (c.eq.ensures ∙ ap (λ (x : List ℕ). bytes_eq x (codes "int")) (sym text) ∙ sym (int_alone c.in-Name.line (text_of c.args.module.now.names c.in-Name.name) (shown_type c.args.module.now) c.in-Name.arguments.items empty))

pub returns-else-is_empty : goal.returns-else-is_empty
returns-else-is_empty c =
    let tree = rw c.in-Name.is at c.type_node.ensures.tree in
    let full = subst (λ (n : ℕ). (n == 0) ≡ false) c.in-Name.arguments.ok.0 (sym c.is_empty.ensures ∙ c.if-is_empty.false) in
    rw (c.in-Some.is, tree) (c.if-is_empty.false ∙ sym (no_int c.in-Name.line (text_of c.args.module.now.names c.in-Name.name) (shown_type c.args.module.now) c.in-Name.arguments.items full))
