-- The names that a body assigns, and the uses of names in its statements that are not admitted.
use Rattle.std.specs.Prelude.{ℕ, not, ◌==◌, List, [], ◌∷◌, ◌++◌, length, Option, Some, None}
use Rattle.spec_trees.specs.Expr as expr
use Rattle.spec_trees.specs.Expr.{Expr, Arguments}
use Rattle.spec_trees.specs.Stmt as simple
use Rattle.spec_trees.specs.Stmt.{Simple}
use Rattle.spec_trees.specs.Module as tree
use Rattle.spec_trees.specs.Module.{Statement, Block, Branches, Handlers}
use Rattle.spec_names.specs.declared.ProfileFault.TheVariants.{Form}
use Rattle.spec_names.specs.declared.Refusal.{Refusal}
use Rattle.spec_names.specs.Refusals.{refused_if}
use Rattle.spec_names.specs.Names.{is_private}
use Rattle.spec_uses.specs.declared.Place.TheVariants.{Read, Walked}
use Rattle.spec_uses.specs.Meanings.{Scope}
use Rattle.spec_uses.specs.Expressions.{keywords, raised_as, refused, uses, uses_in_generator, uses_in_rest}

-- ---- assigned names

-- the name that a target is
abbrev pub targeted : Expr → List (List ℕ)
targeted (expr.name n x) = x ∷ []
targeted e = []

abbrev pub assigned_in : Simple → List (List ℕ)
assigned_in (simple.assign n d e) = targeted d
assigned_in (simple.annotate n d a e) = targeted d
assigned_in (simple.augment n d o e) = targeted d
assigned_in x = []

abbrev mutual
  -- the names that the statements of a block assign, annotate or walk with
  pub assigned : Block → List (List ℕ)
  assigned tree.no_statement = []
  assigned (tree.statement s b) = assigned_by s ++ assigned b

  pub assigned_by : Statement → List (List ℕ)
  assigned_by (tree.simple x) = assigned_in x
  assigned_by (tree.def n x ps r b) = []
  assigned_by (tree.class n x b) = []
  assigned_by (tree.if n c b bs d) = assigned b ++ assigned_in_branches bs ++ assigned d
  assigned_by (tree.while n c b d) = assigned b ++ assigned d
  assigned_by (tree.for n x e b d) = x ∷ [] ++ assigned b ++ assigned d
  assigned_by (tree.try n b hs d) = assigned b ++ assigned_in_handlers hs ++ assigned d

  pub assigned_in_branches : Branches → List (List ℕ)
  assigned_in_branches tree.no_branch = []
  assigned_in_branches (tree.branch n c b bs) = assigned b ++ assigned_in_branches bs

  pub assigned_in_handlers : Handlers → List (List ℕ)
  assigned_in_handlers tree.no_handler = []
  assigned_in_handlers (tree.handler n xs b hs) = assigned b ++ assigned_in_handlers hs

-- ---- simple statements

-- A target of a statement on the line n. A name that is assigned is not read.
abbrev pub uses_in_target : Scope → ℕ → Expr → List Refusal
uses_in_target s n (expr.name m x) = refused_if (is_private x) n Form
uses_in_target s n (expr.attribute m e x) = refused_if (is_private x) m Form ++ uses Read s e
uses_in_target s n e = uses Read s e

abbrev pub uses_in_option : Scope → Option Expr → List Refusal
uses_in_option s None = []
uses_in_option s (Some e) = uses Read s e

-- the arguments of a `raise` on the line n, which are neither keywords nor a generator
abbrev pub uses_in_raise : Scope → ℕ → Option Arguments → List Refusal
uses_in_raise s n None = []
uses_in_raise s n (Some (expr.generated g)) = refused n Form ++ uses_in_generator s n g
uses_in_raise s n (Some (expr.listed xs)) = refused_if (not (length (keywords xs) == 0)) n Form ++ uses_in_rest s xs

abbrev pub uses_in_simple : Scope → Simple → List Refusal
uses_in_simple s (simple.assign n d e) = uses_in_target s n d ++ uses Read s e
uses_in_simple s (simple.annotate n d a e) = uses_in_target s n d ++ uses_in_option s e
uses_in_simple s (simple.augment n d o e) = uses_in_target s n d ++ uses Read s e
uses_in_simple s (simple.evaluate n e) = uses Read s e
uses_in_simple s (simple.return n e) = uses_in_option s e
uses_in_simple s (simple.pass n) = []
uses_in_simple s (simple.break n) = []
uses_in_simple s (simple.continue n) = []
uses_in_simple s (simple.assert n c e) = uses Read s c ++ uses_in_option s e
uses_in_simple s (simple.reraise n) = []
uses_in_simple s (simple.raise n x xs) = raised_as (s.meaning x) n ++ uses_in_raise s n xs
uses_in_simple s (simple.delete n e) = uses Read s e
uses_in_simple s (simple.import n xs) = []
uses_in_simple s (simple.import_from n x xs) = []

-- ---- statements

-- the classes that a handler on the line n catches
abbrev pub uses_in_classes : Scope → ℕ → List (List ℕ) → List Refusal
uses_in_classes s n [] = []
uses_in_classes s n (x ∷ xs) = raised_as (s.meaning x) n ++ uses_in_classes s n xs

abbrev mutual
  pub uses_in_block : Scope → Block → List Refusal
  uses_in_block s tree.no_statement = []
  uses_in_block s (tree.statement x b) = uses_in_statement s x ++ uses_in_block s b

  pub uses_in_statement : Scope → Statement → List Refusal
  uses_in_statement s (tree.simple x) = uses_in_simple s x
  uses_in_statement s (tree.def n x ps r b) = []
  uses_in_statement s (tree.class n x b) = []
  uses_in_statement s (tree.if n c b bs d) = uses Read s c ++ uses_in_block s b ++ uses_in_branches s bs ++ uses_in_block s d
  uses_in_statement s (tree.while n c b d) = uses Read s c ++ uses_in_block s b ++ uses_in_block s d
  uses_in_statement s (tree.for n x e b d) = refused_if (is_private x) n Form ++ uses Walked s e ++ uses_in_block s b ++ uses_in_block s d
  uses_in_statement s (tree.try n b hs d) = uses_in_block s b ++ uses_in_handlers s hs ++ uses_in_block s d

  pub uses_in_branches : Scope → Branches → List Refusal
  uses_in_branches s tree.no_branch = []
  uses_in_branches s (tree.branch n c b bs) = uses Read s c ++ uses_in_block s b ++ uses_in_branches s bs

  pub uses_in_handlers : Scope → Handlers → List Refusal
  uses_in_handlers s tree.no_handler = []
  uses_in_handlers s (tree.handler n xs b hs) = uses_in_classes s n xs ++ uses_in_block s b ++ uses_in_handlers s hs
