use Rattle.std.proofs.Common.{◌++◌, None, false, refl}
use Rattle.spec_names.specs.Names.{names_of}
use Rattle.spec_uses.specs.Statements.{assigned}
use Rattle.py_tree.specs.Arena.{shown_stmt}
use Rattle.py_tree.specs.Stmts.{block_tree, parameters_tree}
use Rattle.local_names.proofs.Adding.{adds_then}
use Rattle.name_scopes.specs.Showing.{Held, IsScopeOf}
use Rattle.name_scopes.proofs.Entering.{has_added, scope_back, shows_body}
use Rattle.name_scopes.proofs.scope.Scope.enter_body.Goals as goal

pub returns-clause-shows : goal.returns-clause-shows
returns-clause-shows c =
    let m = c.args.module.now in
    let names = names_of (parameters_tree m c.args.parameters.now) in
    let targets = assigned (block_tree (shown_stmt m) c.args.body.now) in
    let before = scope_back m _ _ c.self.view_is c.requires.scope in
    let adds = adds_then m.names _ _ _ names targets c.add_parameters.ensures c.add_assigned.ensures in
    let now : Held = record {
      meanings = c.self.inside.meanings;
      own = c.add_assigned.new.names;
      inner = c.self.inside.inner;
      seen = c.self.inside.seen;
      kind = None;
      is_constructor = false;
    } in
    let scope : IsScopeOf m now = record {
      sized = record { meanings = before.sized.meanings; own = adds.size; inner = before.sized.inner; seen = before.sized.seen };
      meanings = before.meanings;
      inner = before.inner;
    } in
    shows_body m now false (names ++ targets) scope (has_added m.names c.self.inside.own c.clear.new.self now false (names ++ targets) before.sized.own (c.in_ok-clear.ensures {u = tt}).cleared adds refl)
