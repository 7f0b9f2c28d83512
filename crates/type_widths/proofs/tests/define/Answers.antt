use Rattle.std.proofs.Common.{◌≡◌, ◌∙◌, ◌++◌, ℕ, List, [], ◌∷◌, length, map, codes, refl, ap}
use Rattle.spec_trees.specs.Module.{Block, Statement, no_statement, statement}
use Rattle.spec_trees.specs.Module as tree
use Rattle.spec_types.specs.Classes as defined
use Rattle.spec_types.specs.Names.{type_name}
use Rattle.spec_types.specs.declared.TypeName.TheVariants as type_names
use Rattle.py_tree.specs.declared.ids.StmtId.{StmtId}
use Rattle.py_tree.specs.Arena.{State, module_tree, shown_stmt}
use Rattle.py_tree.specs.State.{shown, shown_type}
use Rattle.type_widths.proofs.tests.define.Goals as goal

abbrev texts : List (List ℕ)
texts = codes "A" ∷ codes "str" ∷ []

-- the module, in which its class stands alone
abbrev body : Block
body = statement (tree.class 1 (codes "A") no_statement) no_statement

shown_kept : (m : State) (ts : List StmtId) (i : ℕ) → shown_stmt (record m { tops = ts }) i ≡ shown_stmt m i
unfolding shown_stmt shown shown_type
shown_kept m ts i = refl

body_is : (m p : State) (s : StmtId) (x : Statement) → m.tops ≡ [] → p ≡ record m { tops = m.tops ++ s ∷ [] } → shown_stmt m s.index ≡ x → (module_tree p).body ≡ statement x no_statement
body_is m p s x t e h = rw (e, t) (ap (λ (y : Statement). statement y no_statement) (shown_kept m (s ∷ []) s.index ∙ h))

names_are : (b : Block) (ns : List (List ℕ)) → b ≡ body → ns ≡ texts → type_names.Class 0 ∷ type_names.Str ∷ [] ≡ map (type_name b) ns
names_are b ns e f = rw (e, f) refl

one_class : (b : Block) → b ≡ body → length (defined.classes b) ≡ 1
one_class b e = rw e refl

pub returns-clause-names : goal.returns-clause-names
returns-clause-names c =
    let old = c.args.module.now in
    let middle = c.add_stmt.new.self in
    let tree = rw (c.requires.names, c.new.ensures.items) at c.in_ok-class.ensures.tree in
    let tops : middle.tops ≡ [] = ap (λ (m : State). m.tops) c.in_ok-class.ensures.added.1 ∙ c.requires.tops in
    let kept : c.push_top.new.self.names ≡ texts = ap (λ (m : State). m.names) c.in_ok-push_top.ensures.added ∙ ap (λ (m : State). m.names) c.in_ok-class.ensures.added.1 ∙ c.requires.names in
    names_are _ c.push_top.new.self.names (body_is middle c.push_top.new.self c.in_ok-class.class _ tops c.in_ok-push_top.ensures.added tree) kept

pub returns-clause-classes : goal.returns-clause-classes
returns-clause-classes c =
    let middle = c.add_stmt.new.self in
    let tree = rw (c.requires.names, c.new.ensures.items) at c.in_ok-class.ensures.tree in
    let tops : middle.tops ≡ [] = ap (λ (m : State). m.tops) c.in_ok-class.ensures.added.1 ∙ c.requires.tops in
    one_class _ (body_is middle c.push_top.new.self c.in_ok-class.class _ tops c.in_ok-push_top.ensures.added tree)
