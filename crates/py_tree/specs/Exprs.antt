-- The tree of a node of an expression, from the names and the trees of its parts.
use Rattle.std.specs.Prelude.{◌<◌, ℕ, List, [], ◌∷◌, map, Option, Some, None}
use Rattle.spec_trees.specs.Expr as tree
use Rattle.spec_trees.specs.Expr.{Expr, Generator, Arguments, ArgumentList, Bound, Links, Exprs, Pairs, StringPart}
use Rattle.py_tree.specs.declared.ids.NameId.{NameId}
use Rattle.py_tree.specs.declared.ids.ExprId.{ExprId}
use Rattle.py_tree.specs.declared.exprs.StrPart.{StrPart}
use Rattle.py_tree.specs.declared.exprs.Pair.{Pair}
use Rattle.py_tree.specs.declared.exprs.Link.{Link}
use Rattle.py_tree.specs.declared.exprs.Argument.{Argument}
use Rattle.py_tree.specs.declared.exprs.GeneratorNode.{GeneratorNode}
use Rattle.py_tree.specs.declared.exprs.ArgumentsNode.{ArgumentsNode}
use Rattle.py_tree.specs.declared.exprs.ArgumentsNode.TheVariants as arguments
use Rattle.py_tree.specs.declared.exprs.ExprNode.{ExprNode}
use Rattle.py_tree.specs.declared.exprs.ExprNode.TheVariants as node
use Rattle.py_tree.specs.Names.{text_of}

abbrev pub part_tree : StrPart → StringPart
part_tree p = record { value = p.value; source = p.source; raw = p.raw; indent = p.indent; line = p.line }

module _ (t : ℕ → Expr) where
  abbrev pub items_tree : List ExprId → Exprs
  items_tree [] = tree.no_exprs
  items_tree (x ∷ xs) = tree.item (t x.index) (items_tree xs)

  abbrev pub pairs_tree : List Pair → Pairs
  pairs_tree [] = tree.no_pairs
  pairs_tree (x ∷ xs) = tree.pair (t x.key.index) (t x.value.index) (pairs_tree xs)

  abbrev pub links_tree : List Link → Links
  links_tree [] = tree.no_links
  links_tree (x ∷ xs) = tree.link x.operator (t x.operand.index) (links_tree xs)

  abbrev pub bound_tree : Option ExprId → Bound
  bound_tree None = tree.absent
  bound_tree (Some x) = tree.present (t x.index)

module _ (names : List (List ℕ)) where
  abbrev pub name_of : Option NameId → Option (List ℕ)
  name_of None = None
  name_of (Some n) = Some (text_of names n)

module _ (names : List (List ℕ)) (t : ℕ → Expr) where
  abbrev pub argument_list_tree : List Argument → ArgumentList
  argument_list_tree [] = tree.no_arguments
  argument_list_tree (x ∷ xs) = tree.argument (name_of names x.name) (t x.value.index) (argument_list_tree xs)

  abbrev pub generator_tree : GeneratorNode → Generator
  generator_tree g = tree.generator (t g.element.index) (text_of names g.variable) (t g.iterable.index) (items_tree t g.conditions.items)

  abbrev pub arguments_tree : ArgumentsNode → Arguments
  arguments_tree (arguments.Generated g) = tree.generated (generator_tree g)
  arguments_tree (arguments.Listed xs) = tree.listed (argument_list_tree xs.items)

  -- the tree of a node, where t gives those of its parts
  abbrev pub node_tree : ExprNode → Expr
  node_tree (node.Name l n) = tree.name l (text_of names n)
  node_tree (node.Integer l v) = tree.integer l v
  node_tree (node.Text l p ps) = tree.text l (part_tree p) (map part_tree ps.items)
  node_tree (node.Truth l v) = tree.truth l v
  node_tree (node.None l) = tree.none l
  node_tree (node.Group l e) = tree.group l (t e.index)
  node_tree (node.List l xs) = tree.list l (items_tree t xs.items)
  node_tree (node.Dict l xs) = tree.dict l (pairs_tree t xs.items)
  node_tree (node.Comprehension l g) = tree.comprehension l (generator_tree g)
  node_tree (node.Attribute l e n) = tree.attribute l (t e.index) (text_of names n)
  node_tree (node.Call l e xs) = tree.call l (t e.index) (arguments_tree xs)
  node_tree (node.Index l e i) = tree.index l (t e.index) (t i.index)
  node_tree (node.Slice l e i j) = tree.slice l (t e.index) (bound_tree t i) (bound_tree t j)
  node_tree (node.Prefixed l o e) = tree.prefixed l o (t e.index)
  node_tree (node.Binary l o d e) = tree.binary l o (t d.index) (t e.index)
  node_tree (node.Chain l e xs) = tree.chain l (t e.index) (links_tree t xs.items)
  node_tree (node.Choice l e c d) = tree.choice l (t e.index) (t c.index) (t d.index)

-- expressions are among the first n nodes
module _ (n : ℕ) where
  abbrev pub AreItemsBelow : List ExprId → Type 0
  AreItemsBelow [] = Unit {0}
  AreItemsBelow (x ∷ xs) = (x.index < n) × AreItemsBelow xs

  abbrev pub ArePairsBelow : List Pair → Type 0
  ArePairsBelow [] = Unit {0}
  ArePairsBelow (x ∷ xs) = (x.key.index < n) × (x.value.index < n) × ArePairsBelow xs

  abbrev pub AreLinksBelow : List Link → Type 0
  AreLinksBelow [] = Unit {0}
  AreLinksBelow (x ∷ xs) = (x.operand.index < n) × AreLinksBelow xs

  abbrev pub IsBoundBelow : Option ExprId → Type 0
  IsBoundBelow None = Unit {0}
  IsBoundBelow (Some x) = x.index < n

-- a name is among the first k names
module _ (k : ℕ) where
  abbrev pub IsNameBelow : Option NameId → Type 0
  IsNameBelow None = Unit {0}
  IsNameBelow (Some x) = x.index < k

-- names are among the first k, and expressions among the first n nodes
module _ (k n : ℕ) where
  abbrev pub AreArgumentsBelow : List Argument → Type 0
  AreArgumentsBelow [] = Unit {0}
  AreArgumentsBelow (x ∷ xs) = IsNameBelow k x.name × (x.value.index < n) × AreArgumentsBelow xs

  pub record IsGeneratorBelow (g : GeneratorNode) : Type 0 where
    pub element : g.element.index < n
    pub variable : g.variable.index < k
    pub iterable : g.iterable.index < n
    pub conditions : AreItemsBelow n g.conditions.items

  abbrev pub IsCallBelow : ArgumentsNode → Type 0
  IsCallBelow (arguments.Generated g) = IsGeneratorBelow g
  IsCallBelow (arguments.Listed xs) = AreArgumentsBelow xs.items

  -- the parts of a node
  abbrev pub ArePartsBelow : ExprNode → Type 0
  ArePartsBelow (node.Name l x) = x.index < k
  ArePartsBelow (node.Integer l v) = Unit {0}
  ArePartsBelow (node.Text l p ps) = Unit {0}
  ArePartsBelow (node.Truth l v) = Unit {0}
  ArePartsBelow (node.None l) = Unit {0}
  ArePartsBelow (node.Group l e) = e.index < n
  ArePartsBelow (node.List l xs) = AreItemsBelow n xs.items
  ArePartsBelow (node.Dict l xs) = ArePairsBelow n xs.items
  ArePartsBelow (node.Comprehension l g) = IsGeneratorBelow g
  ArePartsBelow (node.Attribute l e x) = (e.index < n) × (x.index < k)
  ArePartsBelow (node.Call l e xs) = (e.index < n) × IsCallBelow xs
  ArePartsBelow (node.Index l e i) = (e.index < n) × (i.index < n)
  ArePartsBelow (node.Slice l e i j) = (e.index < n) × IsBoundBelow n i × IsBoundBelow n j
  ArePartsBelow (node.Prefixed l o e) = e.index < n
  ArePartsBelow (node.Binary l o d e) = (d.index < n) × (e.index < n)
  ArePartsBelow (node.Chain l e xs) = (e.index < n) × AreLinksBelow n xs.items
  ArePartsBelow (node.Choice l e c d) = (e.index < n) × (c.index < n) × (d.index < n)
