use Rattle.std.proofs.Common.{arith, sym, ◌∙◌}
use Rattle.py_tree.specs.Names.{text_of}
use Rattle.first_promises.specs.Scopes.{names_in}
use Rattle.first_promises.proofs.Fitting.{copied_added, name_fits}
use Rattle.first_promises.proofs.Named.{text_found}
use Rattle.first_promises.proofs.expressions.add_name.Goals as goal

pub returns-clause-copied : goal.returns-clause-copied
returns-clause-copied c =
    let added = c.in_ok-expr.ensures.added in
    let text = text_found c.args.module.now.names c.args.name c.name_text.result.now c.name_text.ensures.text in
    copied_added _ _ _ _ _ _ _ added.0 added.1 (name_fits (names_in c.args.module.now c.args.scope) (text_of c.args.module.now.names c.args.name) _ c.args.room.height c.args.room.size c.in-Some.size_left (c.in_ok-name.ensures ∙ sym text) (sym c.has_name.ensures ∙ c.if-not-has_name.false) (omega arith)) (omega arith)
