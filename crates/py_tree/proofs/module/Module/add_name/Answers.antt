use Rattle.std.proofs.Common.{rules, List, ℕ, map, string_bytes, ap, sym, subst, ◌∙◌}
use Rattle.py_tree.specs.Names.{with_name}
use Rattle.py_tree.specs.Arena.{State, IsModule}
use Rattle.py_tree.proofs.Arenas.{extends_equal, extends_name}
use Rattle.py_tree.proofs.Statements.{module_name}
use Rattle.py_tree.proofs.Names.{found_there, found_new, IsAdded}
use Rattle.py_tree.specs.Inside.{state_of}
use Rattle.py_tree.proofs.module.Module.add_name.Goals as goal

-- the text is there
there : (c : goal.In-Some) → IsAdded c.args.self.now.names c.args.text.now c.in-Some.index c.args.self.now.names
there c =
    let P : State → Type 0 = λ m. IsAdded m.names c.args.text.now c.in-Some.index m.names in
    subst P c.self.view_is (found_there string_bytes c.args.text.now c.self.inside.names.keys c.in-Some.index (sym c.in-Some.ensures.index))

-- the text is new
new : (c : goal.In_ok-insert-in-None) → IsAdded c.args.self.now.names c.args.text.now c.len-index.result (map string_bytes c.insert.new.self.keys)
new c =
    let P : State → Type 0 = λ m. IsAdded m.names c.args.text.now c.len-index.result (map string_bytes c.insert.new.self.keys) in
    subst P c.self.view_is (found_new string_bytes c.args.text.now c.self.inside.names.keys c.in_ok-name-in-None.name c.len-index.result c.insert.new.self.keys (sym c.in-None.ensures.index) c.len-index.ensures.len c.in_ok-name-in-None.ensures.ok c.in_ok-insert-in-None.ensures.keys)

pub returns-in-Some-clause-place : goal.returns-in-Some-clause-place
returns-in-Some-clause-place c = (there c).place

pub returns-in-Some-clause-added : goal.returns-in-Some-clause-added
returns-in-Some-clause-added c = ap (λ (x : List (List ℕ)). record c.args.self.now { names = x }) (there c).names

pub returns-in-Some-clause-text : goal.returns-in-Some-clause-text
returns-in-Some-clause-text c = (there c).text

pub returns-in-Some-clause-grown : goal.returns-in-Some-clause-grown
returns-in-Some-clause-grown c = extends_equal c.args.self.now _ (search rules)

pub returns-in_err-name-in-None-clause-grown : goal.returns-in_err-name-in-None-clause-grown
returns-in_err-name-in-None-clause-grown c = extends_equal c.args.self.now _ (search rules)

pub returns-in_err-insert-in-None-clause-grown : goal.returns-in_err-insert-in-None-clause-grown
returns-in_err-insert-in-None-clause-grown c = extends_equal c.args.self.now _ (search rules)

pub returns-in_ok-insert-in-None-clause-place : goal.returns-in_ok-insert-in-None-clause-place
returns-in_ok-insert-in-None-clause-place c = (new c).place

pub returns-in_ok-insert-in-None-clause-added : goal.returns-in_ok-insert-in-None-clause-added
returns-in_ok-insert-in-None-clause-added c =
    ap (λ (x : List (List ℕ)). record (state_of c.self.inside) { names = x }) (new c).names
    ∙ ap (λ (m : State). record m { names = with_name c.args.self.now.names c.args.text.now }) c.self.view_is

pub returns-in_ok-insert-in-None-clause-text : goal.returns-in_ok-insert-in-None-clause-text
returns-in_ok-insert-in-None-clause-text c = (new c).text

pub returns-in_ok-insert-in-None-clause-below : goal.returns-in_ok-insert-in-None-clause-below
returns-in_ok-insert-in-None-clause-below c = (new c).below

pub invariant_of-self-in-None : goal.invariant_of-self-in-None
invariant_of-self-in-None c =
    let valid : IsModule c.args.self.now = subst (λ (m : State). IsModule m) c.self.view_is c.self.invariant in
    module_name c.args.self.now _ c.args.text.now c.len-index.result valid (new c) (returns-in_ok-insert-in-None-clause-added c)

pub returns-in_ok-insert-in-None-clause-grown : goal.returns-in_ok-insert-in-None-clause-grown
returns-in_ok-insert-in-None-clause-grown c = extends_name c.args.self.now _ c.args.text.now (returns-in_ok-insert-in-None-clause-added c)

pub returns-in_ok-insert-in-None-clause-module : goal.returns-in_ok-insert-in-None-clause-module
returns-in_ok-insert-in-None-clause-module c = invariant_of-self-in-None c
