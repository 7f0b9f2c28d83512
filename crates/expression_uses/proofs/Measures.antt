-- Numbers above all parts of expressions.
use Rattle.std.proofs.Common.{ℕ, zero, suc, ◌<◌, ◌≤◌, max, List, [], ◌∷◌, length, get_or, Option, Some, None, arith}
use Rattle.py_tree.specs.declared.ids.ExprId.{ExprId}
use Rattle.py_tree.specs.declared.exprs.Argument.{Argument}
use Rattle.py_tree.specs.declared.exprs.ArgumentsNode.{ArgumentsNode}
use Rattle.py_tree.specs.declared.exprs.ArgumentsNode.TheVariants.{Generated, Listed}
use Rattle.py_tree.specs.declared.exprs.GeneratorNode.{GeneratorNode}
use Rattle.py_tree.specs.declared.exprs.Link.{Link}
use Rattle.py_tree.specs.declared.exprs.Pair.{Pair}
use Rattle.spec_trees.specs.declared.Operator.TheVariants.{Multiply}
use Rattle.py_tree.specs.Exprs.{AreArgumentsBelow, AreItemsBelow, AreLinksBelow, ArePairsBelow, IsCallBelow, IsGeneratorBelow}

abbrev pub above_items : List ExprId → ℕ
above_items [] = 0
above_items (x ∷ xs) = max (suc x.index) (above_items xs)

abbrev pub above_pairs : List Pair → ℕ
above_pairs [] = 0
above_pairs (x ∷ xs) = max (max (suc x.key.index) (suc x.value.index)) (above_pairs xs)

abbrev pub above_links : List Link → ℕ
above_links [] = 0
above_links (x ∷ xs) = max (suc x.operand.index) (above_links xs)

abbrev pub above_arguments : List Argument → ℕ
above_arguments [] = 0
above_arguments (x ∷ xs) = max (suc x.value.index) (above_arguments xs)

abbrev pub above_bound : Option ExprId → ℕ
above_bound None = 0
above_bound (Some x) = suc x.index

abbrev pub above_generator : GeneratorNode → ℕ
above_generator g = max (max (suc g.element.index) (suc g.iterable.index)) (above_items g.conditions.items)

abbrev pub above_brackets : ArgumentsNode → ℕ
above_brackets (Generated g) = above_generator g
above_brackets (Listed xs) = above_arguments xs.items

-- ---- no more than their bounds

module _ (n : ℕ) where
  pub items_least : (xs : List ExprId) → AreItemsBelow n xs → above_items xs ≤ n
  items_least [] h = omega arith
  items_least (x ∷ xs) h = let rest = items_least xs h.1 in omega (arith, h.0, rest)

  pub pairs_least : (xs : List Pair) → ArePairsBelow n xs → above_pairs xs ≤ n
  pairs_least [] h = omega arith
  pairs_least (x ∷ xs) h = let rest = pairs_least xs h.2 in omega (arith, h.0, h.1, rest)

  pub links_least : (xs : List Link) → AreLinksBelow n xs → above_links xs ≤ n
  links_least [] h = omega arith
  links_least (x ∷ xs) h = let rest = links_least xs h.1 in omega (arith, h.0, rest)

module _ (k n : ℕ) where
  pub arguments_least : (xs : List Argument) → AreArgumentsBelow k n xs → above_arguments xs ≤ n
  arguments_least [] h = omega arith
  arguments_least (x ∷ xs) h = let rest = arguments_least xs h.2 in omega (arith, h.1, rest)

  pub generator_least : (g : GeneratorNode) → IsGeneratorBelow k n g → above_generator g ≤ n
  generator_least g h = let rest = items_least n g.conditions.items h.conditions in omega (arith, h.element, h.iterable, rest)

  pub brackets_least : (a : ArgumentsNode) → IsCallBelow k n a → above_brackets a ≤ n
  brackets_least (Generated g) h = generator_least g h
  brackets_least (Listed xs) h = arguments_least xs.items h

-- ---- bounds that grow

module _ (a b : ℕ) (le : a ≤ b) where
  pub items_up : (xs : List ExprId) → AreItemsBelow a xs → AreItemsBelow b xs
  items_up [] h = tt
  items_up (x ∷ xs) h = (omega (arith, h.0, le), items_up xs h.1)

  pub pairs_up : (xs : List Pair) → ArePairsBelow a xs → ArePairsBelow b xs
  pairs_up [] h = tt
  pairs_up (x ∷ xs) h = (omega (arith, h.0, le), omega (arith, h.1, le), pairs_up xs h.2)

  pub links_up : (xs : List Link) → AreLinksBelow a xs → AreLinksBelow b xs
  links_up [] h = tt
  links_up (x ∷ xs) h = (omega (arith, h.0, le), links_up xs h.1)

  module _ (k : ℕ) where
    pub arguments_up : (xs : List Argument) → AreArgumentsBelow k a xs → AreArgumentsBelow k b xs
    arguments_up [] h = tt
    arguments_up (x ∷ xs) h = (h.0, omega (arith, h.1, le), arguments_up xs h.2)

    pub generator_up : (g : GeneratorNode) → IsGeneratorBelow k a g → IsGeneratorBelow k b g
    generator_up g h = record { element = omega (arith, h.element, le); variable = h.variable; iterable = omega (arith, h.iterable, le); conditions = items_up g.conditions.items h.conditions }

    pub brackets_up : (c : ArgumentsNode) → IsCallBelow k a c → IsCallBelow k b c
    brackets_up (Generated g) h = generator_up g h
    brackets_up (Listed xs) h = arguments_up xs.items h

-- ---- one of several

pub item_above : (xs : List ExprId) (i : ℕ) (d : ExprId) → i < length xs → (get_or xs i d).index < above_items xs
item_above [] i d lt = absurd (omega arith)
item_above (x ∷ xs) zero d lt = omega arith
item_above (x ∷ xs) (suc i) d lt = let rest = item_above xs i d (omega arith) in omega (arith, rest)

pub item_there : (n : ℕ) (xs : List ExprId) (i : ℕ) (d : ExprId) → AreItemsBelow n xs → i < length xs → (get_or xs i d).index < n
item_there n [] i d h lt = absurd (omega arith)
item_there n (x ∷ xs) zero d h lt = h.0
item_there n (x ∷ xs) (suc i) d h lt = item_there n xs i d h.1 (omega arith)

pub pair_above : (xs : List Pair) (i : ℕ) (d : Pair) → i < length xs → ((get_or xs i d).key.index < above_pairs xs) × ((get_or xs i d).value.index < above_pairs xs)
pair_above [] i d lt = absurd (omega arith)
pair_above (x ∷ xs) zero d lt = (omega arith, omega arith)
pair_above (x ∷ xs) (suc i) d lt = let rest = pair_above xs i d (omega arith) in (omega (arith, rest.0), omega (arith, rest.1))

pub pair_there : (n : ℕ) (xs : List Pair) (i : ℕ) (d : Pair) → ArePairsBelow n xs → i < length xs → ((get_or xs i d).key.index < n) × ((get_or xs i d).value.index < n)
pair_there n [] i d h lt = absurd (omega arith)
pair_there n (x ∷ xs) zero d h lt = (h.0, h.1)
pair_there n (x ∷ xs) (suc i) d h lt = pair_there n xs i d h.2 (omega arith)

pub link_above : (xs : List Link) (i : ℕ) (d : Link) → i < length xs → (get_or xs i d).operand.index < above_links xs
link_above [] i d lt = absurd (omega arith)
link_above (x ∷ xs) zero d lt = omega arith
link_above (x ∷ xs) (suc i) d lt = let rest = link_above xs i d (omega arith) in omega (arith, rest)

pub link_there : (n : ℕ) (xs : List Link) (i : ℕ) (d : Link) → AreLinksBelow n xs → i < length xs → (get_or xs i d).operand.index < n
link_there n [] i d h lt = absurd (omega arith)
link_there n (x ∷ xs) zero d h lt = h.0
link_there n (x ∷ xs) (suc i) d h lt = link_there n xs i d h.1 (omega arith)

pub argument_above : (xs : List Argument) (i : ℕ) (d : Argument) → i < length xs → (get_or xs i d).value.index < above_arguments xs
argument_above [] i d lt = absurd (omega arith)
argument_above (x ∷ xs) zero d lt = omega arith
argument_above (x ∷ xs) (suc i) d lt = let rest = argument_above xs i d (omega arith) in omega (arith, rest)

pub argument_there : (k n : ℕ) (xs : List Argument) (i : ℕ) (d : Argument) → AreArgumentsBelow k n xs → i < length xs → (get_or xs i d).value.index < n
argument_there k n [] i d h lt = absurd (omega arith)
argument_there k n (x ∷ xs) zero d h lt = h.1
argument_there k n (x ∷ xs) (suc i) d h lt = argument_there k n xs i d h.2 (omega arith)

-- the defaults of reads, which are never seen
abbrev pub no_item : ExprId
no_item = record { index = 0 }

abbrev pub no_pair : Pair
no_pair = record { key = no_item; value = no_item }

abbrev pub no_link : Link
no_link = record { operator = Multiply; operand = no_item }
