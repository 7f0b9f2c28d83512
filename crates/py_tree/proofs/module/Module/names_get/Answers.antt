use Rattle.std.proofs.Common.{◌≡◌, ◌<◌, [], List, get_or, length, map, ap, sym, subst, ◌∙◌}
use Rattle.py_tree.specs.declared.ids.NameId.{NameId}
use Rattle.py_tree.specs.Arena.{State, IsModule}
use Rattle.py_tree.proofs.StmtNodes.{list_at}
use Rattle.py_tree.proofs.Statements.{item_at, name_found}
use Rattle.py_tree.proofs.module.Module.names_get.Goals as goal

pub returns-clause-below : goal.returns-clause-below
returns-clause-below c =
    let valid : IsModule c.args.self.now = subst (λ (m : State). IsModule m) c.self.view_is c.self.invariant in
    let names = list_at (length c.args.self.now.names) c.args.self.now.lists c.args.l.index valid.lists c.requires.list in
    let within : c.args.l.index < length (map (λ v. v.items) c.self.inside.lists.items) = subst (λ (m : State). c.args.l.index < length m.lists) (sym c.self.view_is) c.requires.list in
    let list : c.index.result.now.items ≡ get_or c.args.self.now.lists c.args.l.index [] =
    item_at (λ v. v.items) c.self.inside.lists.items c.args.l.index c.index.result.now [] c.index.ensures within ∙ ap (λ (m : State). get_or m.lists c.args.l.index []) c.self.view_is in
    name_found _ (get_or c.args.self.now.lists c.args.l.index []) c.args.i c.index-2.result.now names c.requires.place (c.index-2.ensures ∙ ap (λ (xs : List NameId). get_or xs c.args.i c.index-2.result.now) list)
