-- The expressions that are run, in the parts that are copied.
use Rattle.std.proofs.Common.{◌≡◌, ◌⊎◌, inl, inr, ℕ, zero, suc, ◌+◌, ◌-◌, ◌<◌, max, Bool, true, false, ◌&&◌, nat_le, nat_lt, List, [], ◌∷◌, ◌++◌, length, length-append, Option, Some, None, Ok, refl, sym, ap, arith, ◌∙◌, if◌then◌else◌}
use Rattle.std.proofs.lemmas.Bool.Decides.{nat_tests}
use Rattle.std.proofs.lemmas.Option.{some_pair_parts}
use Rattle.spec_trees.specs.declared.Operator.{Operator}
use Rattle.spec_trees.specs.Expr as tree
use Rattle.spec_first_trees.specs.declared.BinaryOp.{BinaryOp}
use Rattle.spec_first_trees.specs.declared.CompareOp.{CompareOp}
use Rattle.spec_first_trees.specs.Expr as first
use Rattle.spec_first_trees.specs.Expr.{Expr}
use Rattle.spec_grammar.specs.Reading.{◌>>=◌}
use Rattle.spec_forms.specs.Names.{names_among}
use Rattle.spec_contracts.specs.ContractLines.{is_among}
use Rattle.spec_forms.specs.Expressions.{binary_of, compare_of, run_as, height, size, is_small}
use Rattle.spec_forms.specs.Forms.{named}
use Rattle.py_tree.specs.declared.ids.ExprId as source
use Rattle.py_tree.specs.declared.exprs.Link.{Link}
use Rattle.py_tree.specs.Exprs.{links_tree, AreLinksBelow}
use Rattle.first_tree.specs.declared.nodes.ExprNode.{ExprNode}
use Rattle.first_tree.specs.declared.nodes.ExprNode.TheVariants as node
use Rattle.first_tree.specs.Arena.{ModuleState, Extends, node_tree, shown}
use Rattle.first_tree.proofs.Arenas.{extends_length, shown_added, shown_kept}
use Rattle.first_promises.specs.declared.errors.Unformed.{Unformed}
use Rattle.first_promises.specs.declared.errors.Unformed.TheVariants.{OtherForm, NoMemory}
use Rattle.first_promises.specs.declared.expressions.Copied.{Copied}
use Rattle.first_promises.specs.declared.expressions.Operands.{Operands}
use Rattle.first_promises.specs.Copies.{fits, if_fits, fitting, both_fit, operands, comparison, Copies, CopiesOperands}
use Rattle.first_promises.specs.Gives.{Fails}

-- ---- tests

height_fits : (x y h : ℕ) → nat_le (1 + max x y) (suc h) ≡ (nat_le x h && nat_le y h)
height_fits x y h = grind (arith, nat_tests)

size_fits : (x y l : ℕ) → nat_le (1 + (x + y)) (suc l) ≡ (nat_le x l && nat_le y (l - x))
size_fits x y l = grind (arith, nat_tests)

none_below : (n : ℕ) → nat_le (1 + n) 0 ≡ false
none_below n = grind (arith, nat_tests)

and_false : (b : Bool) → (b && false) ≡ false
and_false true = refl
and_false false = refl

sorted : (x y a b c d : Bool) → ((x && y) && ((a && b) && (c && d))) ≡ ((x && (a && c)) && (y && (b && d)))
sorted true y true b true d = refl
sorted true y true b false d = ap (λ (v : Bool). y && v) (and_false b) ∙ and_false y
sorted true y false b c d = and_false y
sorted false y a b c d = refl

-- a node of two operands fits where they both do
both_tests : (x y : Bool) (hd he sd se h l : ℕ) → ((x && y) && (nat_le (1 + max hd he) (suc h) && nat_le (1 + (sd + se)) (suc l))) ≡ ((x && (nat_le hd h && nat_le sd l)) && (y && (nat_le he h && nat_le se (l - sd))))
both_tests x y hd he sd se h l = rw (height_fits hd he h, size_fits sd se l) (sorted x y (nat_le hd h) (nat_le he h) (nat_le sd l) (nat_le se (l - sd)))

module _ (names : List (List ℕ)) where
  -- ---- operands

  -- a node above two expressions
  pub record IsOperator (f : Expr → Expr → Expr) : Type 0 where
    among : (d e : Expr) → names_among names (f d e) ≡ (names_among names d && names_among names e)
    high : (d e : Expr) → height (f d e) ≡ 1 + max (height d) (height e)
    large : (d e : Expr) → size (f d e) ≡ 1 + (size d + size e)

  binary_is : (op : BinaryOp) → IsOperator (first.binary op)
  binary_is op = record { among = λ d e. refl; high = λ d e. refl; large = λ d e. refl }

  compare_is : (op : CompareOp) → IsOperator (first.compare op)
  compare_is op = record { among = λ d e. refl; high = λ d e. refl; large = λ d e. refl }

  -- the node of two operands that are there
  abbrev joined : (Expr → Expr → Expr) → Option Expr → Option Expr → Option Expr
  joined f o p = o >>= λ d. p >>= λ e. Some (f d e)

  abbrev above : (Expr → Expr → Expr) → Option (Expr × Expr) → Option Expr
  above f o = o >>= λ q. Some (f q.0 q.1)

  fits_both : (f : Expr → Expr → Expr) → IsOperator f → (h l : ℕ) (d e : Expr) → fits names (suc h) (suc l) (f d e) ≡ (fits names h l d && fits names h (l - size d) e)
  fits_both f i h l d e = rw (i.among d e, i.high d e, i.large d e) (both_tests (names_among names d) (names_among names e) (height d) (height e) (size d) (size e) h l)

  -- nothing fits that is no node
  no_height : (f : Expr → Expr → Expr) → IsOperator f → (l : ℕ) (d e : Expr) → fits names 0 l (f d e) ≡ false
  no_height f i l d e = rw (i.high d e, none_below (max (height d) (height e))) (and_false (names_among names (f d e)))

  no_size : (f : Expr → Expr → Expr) → IsOperator f → (h : ℕ) (d e : Expr) → fits names h 0 (f d e) ≡ false
  no_size f i h d e = rw (i.large d e, none_below (size d + size e)) (ap (λ (v : Bool). names_among names (f d e) && v) (and_false (nat_le (height (f d e)) h)) ∙ and_false (names_among names (f d e)))

  joined_fits : (f : Expr → Expr → Expr) → IsOperator f → (h l : ℕ) (o p : Option Expr) → (joined f o p >>= if_fits names h l) ≡ above f (both_fit names h l o p)
  joined_fits f i zero l None p = refl
  joined_fits f i zero l (Some d) None = refl
  joined_fits f i zero l (Some d) (Some e) = ap (λ (b : Bool). if b then Some (f d e) else None) (no_height f i l d e)
  joined_fits f i (suc h) zero None p = refl
  joined_fits f i (suc h) zero (Some d) None = refl
  joined_fits f i (suc h) zero (Some d) (Some e) = ap (λ (b : Bool). if b then Some (f d e) else None) (no_size f i (suc h) d e)
  joined_fits f i (suc h) (suc l) None p = refl
  joined_fits f i (suc h) (suc l) (Some d) None = by_test (fits names h l d)
    where
      by_test : (b : Bool) → None ≡ above f ((if b then Some d else None) >>= λ x. None)
      by_test true = refl
      by_test false = refl
  joined_fits f i (suc h) (suc l) (Some d) (Some e) = ap (λ (b : Bool). if b then Some (f d e) else None) (fits_both f i h l d e) ∙ by_tests (fits names h l d) (fits names h (l - size d) e) refl
    where
      by_tests : (b c : Bool) → c ≡ fits names h (l - size d) e → (if b && c then Some (f d e) else None) ≡ above f ((if b then Some d else None) >>= λ x. if_fits names h (l - size x) e >>= λ y. Some (x, y))
      by_tests true true q = rw (← q) refl
      by_tests true false q = rw (← q) refl
      by_tests false c q = refl

  pub binary_fits : (n : ℕ) (o : Operator) (op : BinaryOp) (a b : tree.Expr) (h l : ℕ) → binary_of o ≡ Some op → fitting names h l (tree.binary n o a b) ≡ above (first.binary op) (operands names h l a b)
  binary_fits n o op a b h l e = rw e (joined_fits (first.binary op) (binary_is op) h l (run_as a) (run_as b))

  pub compare_fits : (n : ℕ) (o : Operator) (op : CompareOp) (a b : tree.Expr) (h l : ℕ) → compare_of o ≡ Some op → fitting names h l (tree.chain n a (tree.link o b tree.no_links)) ≡ above (first.compare op) (operands names h l a b)
  compare_fits n o op a b h l e = rw e (joined_fits (first.compare op) (compare_is op) h l (run_as a) (run_as b))

  pub no_binary : (n : ℕ) (o : Operator) (a b : tree.Expr) (h l : ℕ) → binary_of o ≡ None → fitting names h l (tree.binary n o a b) ≡ None
  no_binary n o a b h l e = rw e refl

  pub no_compare : (n : ℕ) (o : Operator) (a b : tree.Expr) (h l : ℕ) → compare_of o ≡ None → fitting names h l (tree.chain n a (tree.link o b tree.no_links)) ≡ None
  no_compare n o a b h l e = rw e refl

  -- ---- brackets

  group_test : (x : Bool) (h l k s : ℕ) → (x && (nat_le (1 + k) (h + 1) && nat_le s l)) ≡ (x && (nat_le k h && nat_le s l))
  group_test x h l k s = let e : nat_le (1 + k) (h + 1) ≡ nat_le k h = grind (arith, nat_tests) in rw e refl

  grouped : (o : Option Expr) (h l : ℕ) → ((o >>= λ e. Some (first.group e)) >>= if_fits names (h + 1) l) ≡ ((o >>= if_fits names h l) >>= λ e. Some (first.group e))
  grouped None h l = refl
  grouped (Some e) h l = ap (λ (b : Bool). if b then Some (first.group e) else None) (group_test (names_among names e) h l (height e) (size e)) ∙ by_test (fits names h l e)
    where
      by_test : (b : Bool) → (if b then Some (first.group e) else None) ≡ ((if b then Some e else None) >>= λ x. Some (first.group x))
      by_test true = refl
      by_test false = refl

  pub group_fits : (n : ℕ) (a : tree.Expr) (h k l : ℕ) → k ≡ h + 1 → fitting names k l (tree.group n a) ≡ (fitting names h l a >>= λ e. Some (first.group e))
  group_fits n a h k l e = rw e (grouped (run_as a) h l)

  pub no_group : (n : ℕ) (a : tree.Expr) (l : ℕ) → fitting names 0 l (tree.group n a) ≡ None
  no_group n a l = by_part (run_as a)
    where
      by_part : (o : Option Expr) → ((o >>= λ e. Some (first.group e)) >>= if_fits names 0 l) ≡ None
      by_part None = refl
      by_part (Some e) = rw (none_below (height e), and_false (names_among names e)) refl

  -- ---- names and integers

  pub name_fits : (x y : List ℕ) (h l r : ℕ) → y ≡ x → is_among names x ≡ true → l ≡ r + 1 → if_fits names h l (first.name x) ≡ Some (first.name y)
  name_fits x y h l r same a e =
      let low : nat_le 0 h ≡ true = grind (arith, nat_tests) in
      let some : nat_le 1 l ≡ true = grind (arith, nat_tests) in
      rw (same, a, low, some) refl

  pub no_name : (x : List ℕ) (h l : ℕ) → is_among names x ≡ false → if_fits names h l (first.name x) ≡ None
  no_name x h l a = rw a refl

  pub integer_fits : (n v w h l r : ℕ) → w ≡ v → v < 1000000 → l ≡ r + 1 → fitting names h l (tree.integer n v) ≡ Some (first.integer w)
  integer_fits n v w h l r same lt e =
      let small : nat_lt v 1000000 ≡ true = grind (arith, nat_tests) in
      let low : nat_le 0 h ≡ true = grind (arith, nat_tests) in
      let some : nat_le 1 l ≡ true = grind (arith, nat_tests) in
      rw (same, small, low, some) refl

  -- ---- the whole

  pub named_fits : (t : tree.Expr) → named names t ≡ fitting names 64 64 t
  named_fits t = by_tree (run_as t)
    where
      by_tests : (e : Expr) (b c : Bool) → c ≡ names_among names e → ((if b then Some e else None) >>= λ x. if names_among names x then Some x else None) ≡ (if c && b then Some e else None)
      by_tests e true true q = rw (← q) refl
      by_tests e true false q = rw (← q) refl
      by_tests e false true q = refl
      by_tests e false false q = refl

      by_tree : (o : Option Expr) → ((o >>= λ e. if is_small e then Some e else None) >>= λ e. if names_among names e then Some e else None) ≡ (o >>= if_fits names 64 64)
      by_tree None = refl
      by_tree (Some e) = by_tests e (is_small e) (names_among names e) refl

-- ---- nodes

-- the expression whose node is added
pub copied_added : (l left : ℕ) (mid new : ModuleState) (n : ExprNode) (id : ℕ) (o : Option Expr) → id ≡ length mid.nodes → new ≡ record mid { nodes = mid.nodes ++ n ∷ [] } → o ≡ Some (node_tree (shown mid.nodes) n) → l ≡ size (node_tree (shown mid.nodes) n) + left
    → (id < length new.nodes) × (o ≡ Some (shown new.nodes id)) × (l ≡ size (shown new.nodes id) + left)
copied_added l left mid new n id o e f h s =
    let nodes : new.nodes ≡ mid.nodes ++ n ∷ [] = ap (λ (m : ModuleState). m.nodes) f in
    let tree : shown new.nodes id ≡ node_tree (shown mid.nodes) n = ap (λ (v : List ExprNode). shown v id) nodes ∙ shown_added mid.nodes n id e in
    (omega (arith, e, ap length nodes, length-append mid.nodes (n ∷ [])), h ∙ ap (λ (x : Expr). Some x) (sym tree), s ∙ ap (λ (x : Expr). size x + left) (sym tree))

-- ---- copies

abbrev linked : Option CompareOp → source.ExprId → Option (CompareOp × source.ExprId)
linked o second = o >>= λ op. let q : CompareOp × source.ExprId = (op, second) in Some q

-- what fails of a part fails of the whole
pub fails_on : {A B : Type 0} (u : Unformed) (o : Option A) (q : Option B) → Fails u o → (o ≡ None → q ≡ None) → Fails u q
fails_on OtherForm o q h f = f h
fails_on NoMemory o q h f = tt

module _ (names : List (List ℕ)) (h l : ℕ) (t : tree.Expr) where
  above_none : (f : Expr → Expr → Expr) (o : Option (Expr × Expr)) → o ≡ None → above names f o ≡ None
  above_none f o e = rw e refl

  above_some : (f : Expr → Expr → Expr) (o : Option (Expr × Expr)) (d e : Expr) → o ≡ Some (d, e) → above names f o ≡ Some (f d e)
  above_some f o d e q = rw q refl

  -- two operands that are copied, below an operator
  module _ (f : Expr → Expr → Expr) (a b : tree.Expr) (is : fitting names h l t ≡ above names f (operands names h l a b)) where
    operator_fails : (u : Unformed) → Fails u (operands names h l a b) → Fails u (fitting names h l t)
    operator_fails u g = fails_on u (operands names h l a b) (fitting names h l t) g (λ e. is ∙ above_none f (operands names h l a b) e)

    operator_copied : (mid new : ModuleState) (p : Operands) (n : ExprNode) (id : ℕ) → CopiesOperands mid.nodes l (Ok p) (operands names h l a b)
        → node_tree (shown mid.nodes) n ≡ f (shown mid.nodes p.left.index) (shown mid.nodes p.right.index)
        → size (node_tree (shown mid.nodes) n) ≡ 1 + (size (shown mid.nodes p.left.index) + size (shown mid.nodes p.right.index))
        → id ≡ length mid.nodes → new ≡ record mid { nodes = mid.nodes ++ n ∷ [] } → Copies new.nodes l (Ok (record { expr = record { index = id }; size_left = p.size_left })) (fitting names h l t)
    operator_copied mid new p n id c tree large e q = copied_added l p.size_left mid new n id (fitting names h l t) e q (is ∙ above_some f (operands names h l a b) _ _ c.2 ∙ ap (λ (x : Expr). Some x) (sym tree)) (c.3 ∙ ap (λ (s : ℕ). s + p.size_left) (sym large))

  pub binary_fails : (n : ℕ) (o : Operator) (op : BinaryOp) (a b : tree.Expr) (u : Unformed) → t ≡ tree.binary n o a b → binary_of o ≡ Some op → Fails u (operands names h l a b) → Fails u (fitting names h l t)
  binary_fails n o op a b u e q g = operator_fails (first.binary op) a b (rw e (binary_fits names n o op a b h l q)) u g

  pub binary_copied : (n : ℕ) (o : Operator) (op : BinaryOp) (a b : tree.Expr) (mid new : ModuleState) (p : Operands) (line id : ℕ) → t ≡ tree.binary n o a b → binary_of o ≡ Some op → CopiesOperands mid.nodes l (Ok p) (operands names h l a b)
      → id ≡ length mid.nodes → new ≡ record mid { nodes = mid.nodes ++ node.Binary op p.left p.right line ∷ [] } → Copies new.nodes l (Ok (record { expr = record { index = id }; size_left = p.size_left })) (fitting names h l t)
  binary_copied n o op a b mid new p line id e q c at new-is = operator_copied (first.binary op) a b (rw e (binary_fits names n o op a b h l q)) mid new p (node.Binary op p.left p.right line) id c refl refl at new-is

  module _ (r : ℕ → tree.Expr) (xs : List Link) (op : CompareOp) (second : source.ExprId) where
    chain_fits : (n : ℕ) (a : tree.Expr) → comparison xs ≡ Some (op, second) → fitting names h l (tree.chain n a (links_tree r xs)) ≡ above names (first.compare op) (operands names h l a (r second.index))
    chain_fits n a e = by_links xs e
      where
        by_operator : (x : Link) (o : Option CompareOp) → compare_of x.operator ≡ o → linked o x.operand ≡ Some (op, second) → (compare_of x.operator ≡ Some op) × (x.operand ≡ second)
        by_operator x None q e = absurd cc
        by_operator x (Some k) q e = let g = some_pair_parts k op x.operand second e in (q ∙ ap (λ (v : CompareOp). Some v) g.0, g.1)

        by_links : (xs : List Link) → comparison xs ≡ Some (op, second) → fitting names h l (tree.chain n a (links_tree r xs)) ≡ above names (first.compare op) (operands names h l a (r second.index))
        by_links [] e = absurd cc
        by_links (x ∷ []) e = let g = by_operator x (compare_of x.operator) refl e in rw (← g.1) (compare_fits names n x.operator op a (r x.operand.index) h l g.0)
        by_links (x ∷ y ∷ ys) e = absurd cc

    pub chain_fails : (n : ℕ) (a : tree.Expr) (u : Unformed) → t ≡ tree.chain n a (links_tree r xs) → comparison xs ≡ Some (op, second) → Fails u (operands names h l a (r second.index)) → Fails u (fitting names h l t)
    chain_fails n a u e q g = operator_fails (first.compare op) a (r second.index) (rw e (chain_fits n a q)) u g

    pub chain_copied : (n : ℕ) (a : tree.Expr) (mid new : ModuleState) (p : Operands) (line id : ℕ) → t ≡ tree.chain n a (links_tree r xs) → comparison xs ≡ Some (op, second) → CopiesOperands mid.nodes l (Ok p) (operands names h l a (r second.index))
        → id ≡ length mid.nodes → new ≡ record mid { nodes = mid.nodes ++ node.Compare op p.left p.right line ∷ [] } → Copies new.nodes l (Ok (record { expr = record { index = id }; size_left = p.size_left })) (fitting names h l t)
    chain_copied n a mid new p line id e q c at new-is = operator_copied (first.compare op) a (r second.index) (rw e (chain_fits n a q)) mid new p (node.Compare op p.left p.right line) id c refl refl at new-is

  pub no_chain : (r : ℕ → tree.Expr) (xs : List Link) (n : ℕ) (a : tree.Expr) → t ≡ tree.chain n a (links_tree r xs) → comparison xs ≡ None → fitting names h l t ≡ None
  no_chain r xs n a e q = rw e (by_links xs q)
    where
      by_operator : (x : Link) (o : Option CompareOp) → compare_of x.operator ≡ o → linked o x.operand ≡ None → compare_of x.operator ≡ None
      by_operator x None q e = q
      by_operator x (Some k) q e = absurd cc

      by_links : (xs : List Link) → comparison xs ≡ None → fitting names h l (tree.chain n a (links_tree r xs)) ≡ None
      by_links [] e = refl
      by_links (x ∷ []) e = no_compare names n x.operator a (r x.operand.index) h l (by_operator x (compare_of x.operator) refl e)
      by_links (x ∷ y ∷ ys) e = refl

  pub group_fails : (n k : ℕ) (a : tree.Expr) (u : Unformed) → t ≡ tree.group n a → h ≡ k + 1 → Fails u (fitting names k l a) → Fails u (fitting names h l t)
  group_fails n k a u e q g = fails_on u (fitting names k l a) (fitting names h l t) g (λ none. rw e (group_fits names n a k h l q ∙ rw none refl))

  pub group_copied : (n k : ℕ) (a : tree.Expr) (mid new : ModuleState) (c : Copied) (line id : ℕ) → t ≡ tree.group n a → h ≡ k + 1 → Copies mid.nodes l (Ok c) (fitting names k l a)
      → id ≡ length mid.nodes → new ≡ record mid { nodes = mid.nodes ++ node.Group c.expr line ∷ [] } → Copies new.nodes l (Ok (record { expr = record { index = id }; size_left = c.size_left })) (fitting names h l t)
  group_copied n k a mid new c line id e q g at new-is = copied_added l c.size_left mid new (node.Group c.expr line) id (fitting names h l t) at new-is (rw e (group_fits names n a k h l q ∙ rw g.1 refl)) g.2

-- the operand of a link that is there
pub link_below : (k : ℕ) (xs : List Link) (op : CompareOp) (second : source.ExprId) → comparison xs ≡ Some (op, second) → AreLinksBelow k xs → second.index < k
link_below k [] op second e b = absurd cc
link_below k (x ∷ []) op second e b = by_operator (compare_of x.operator) e
  where
    by_operator : (o : Option CompareOp) → linked o x.operand ≡ Some (op, second) → second.index < k
    by_operator None q = absurd cc
    by_operator (Some p) q = rw (← (some_pair_parts p op x.operand second q).1) b.0
link_below k (x ∷ y ∷ ys) op second e b = absurd cc

-- ---- operands

module _ (names : List (List ℕ)) (h l k m : ℕ) (hk : h ≡ k + 1) (lm : l ≡ m + 1) (a b : tree.Expr) where
  both_is : operands names h l a b ≡ (fitting names k m a >>= λ d. fitting names k (m - size d) b >>= λ e. Some (d, e))
  both_is = let h-is : h ≡ suc k = omega arith in let l-is : l ≡ suc m = omega arith in rw (h-is, l-is) refl

  pub left_fails : (u : Unformed) → Fails u (fitting names k m a) → Fails u (operands names h l a b)
  left_fails u g = fails_on u (fitting names k m a) (operands names h l a b) g (λ none. both_is ∙ rw none refl)

  -- what is left of the size behind the left operand
  left_is : (d : Expr) (r : ℕ) → fitting names k m a ≡ Some d → m ≡ size d + r → operands names h l a b ≡ (fitting names k r b >>= λ e. Some (d, e))
  left_is d r e q = let r-is : m - size d ≡ r = omega arith in both_is ∙ rw (e, r-is) refl

  pub right_fails : (mid : List ExprNode) (c : Copied) (u : Unformed) → Copies mid m (Ok c) (fitting names k m a) → Fails u (fitting names k c.size_left b) → Fails u (operands names h l a b)
  right_fails mid c u g f = fails_on u (fitting names k c.size_left b) (operands names h l a b) f (λ none. left_is _ _ g.1 g.2 ∙ rw none refl)

  pub both_copied : (mid new : List ExprNode) (c d : Copied) → Extends mid new → Copies mid m (Ok c) (fitting names k m a) → Copies new c.size_left (Ok d) (fitting names k c.size_left b)
      → CopiesOperands new l (Ok (record { left = c.expr; right = d.expr; size_left = d.size_left })) (operands names h l a b)
  both_copied mid new c d x f g =
      let kept : shown new c.expr.index ≡ shown mid c.expr.index = shown_kept mid new c.expr.index x f.0 in
      let there : c.expr.index < length new = omega (arith, f.0, extends_length mid new x) in
      (there, g.0, left_is _ _ f.1 f.2 ∙ rw (g.1, kept) refl, rw kept (omega (arith, lm, f.2, g.2)))

pub no_operands : (names : List (List ℕ)) (h l : ℕ) (a b : tree.Expr) → (h ≡ 0) ⊎ (l ≡ 0) → operands names h l a b ≡ None
no_operands names zero l a b e = refl
no_operands names (suc h) zero a b e = refl
no_operands names (suc h) (suc l) a b (inl e) = absurd cc
no_operands names (suc h) (suc l) a b (inr e) = absurd cc
