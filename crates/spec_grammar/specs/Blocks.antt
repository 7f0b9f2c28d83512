-- The grammar of blocks. `IsStatement d s r e` says that the lines of s up to r spell the statement e, which stands in d blocks.
use Rattle.std.specs.Prelude.{ℕ, suc, Bool, true, false, List, [], ◌∷◌, Option, Some, None}
use Rattle.spec_trees.specs.Expr.{Expr}
use Rattle.spec_trees.specs.Stmt as line
use Rattle.spec_trees.specs.Stmt.{TypeExpr, Simple, Parameter, Header, Line}
use Rattle.spec_trees.specs.Module as tree
use Rattle.spec_trees.specs.Module.{Statement, Block, Branches, Handlers}

-- a line, and the number of blocks in which it stands
pub record PlacedLine : Type 0 where
  pub depth : ℕ
  pub line : Line

-- s begins with the simple statement x in d blocks, and r follows
pub data IsSimpleLine : ℕ → List PlacedLine → List PlacedLine → Simple → Type 0 where
  simple_line : {d : ℕ} {x : Simple} {r : List PlacedLine} → IsSimpleLine d (record { depth = d; line = line.simple x } ∷ r) r x

-- s begins with the header h in d blocks, with the statement that stands on its line where there is one, and r follows
pub data IsHead : ℕ → List PlacedLine → List PlacedLine → Header → Option Simple → Type 0 where
  header_line : {d : ℕ} {h : Header} {r : List PlacedLine} → IsHead d (record { depth = d; line = line.header h } ∷ r) r h None
  full_line : {d : ℕ} {h : Header} {x : Simple} {r : List PlacedLine} → IsHead d (record { depth = d; line = line.header_simple h x } ∷ r) r h (Some x)

-- whether a handler with these classes catches all
abbrev pub catches_all : List (List ℕ) → Bool
catches_all [] = true
catches_all (x ∷ xs) = false

mutual
  pub data IsStatement : ℕ → List PlacedLine → List PlacedLine → Statement → Type 0 where
    simple : {d : ℕ} {s r : List PlacedLine} {x : Simple} → IsSimpleLine d s r x → IsStatement d s r (tree.simple x)
    def : {d n : ℕ} {s t r : List PlacedLine} {x : List ℕ} {ps : List Parameter} {a : Option TypeExpr} {o : Option Simple} {b : Block} → IsHead d s t (line.def n x ps a) o → IsBody d o t r b → IsStatement d s r (tree.def n x ps a b)
    class : {d n : ℕ} {s t r : List PlacedLine} {x : List ℕ} {o : Option Simple} {b : Block} → IsHead d s t (line.class n x) o → IsBody d o t r b → IsStatement d s r (tree.class n x b)
    -- `if`, any `elif`, and perhaps `else`
    if : {d n : ℕ} {s t u v r : List PlacedLine} {e : Expr} {o : Option Simple} {b c : Block} {bs : Branches} → IsHead d s t (line.if n e) o → IsBody d o t u b → IsBranches d u v bs → IsElse d v r c → IsStatement d s r (tree.if n e b bs c)
    while : {d n : ℕ} {s t u r : List PlacedLine} {e : Expr} {o : Option Simple} {b c : Block} → IsHead d s t (line.while n e) o → IsBody d o t u b → IsElse d u r c → IsStatement d s r (tree.while n e b c)
    for : {d n : ℕ} {s t u r : List PlacedLine} {x : List ℕ} {e : Expr} {o : Option Simple} {b c : Block} → IsHead d s t (line.for n x e) o → IsBody d o t u b → IsElse d u r c → IsStatement d s r (tree.for n x e b c)
    -- `try`, at least one `except`, and perhaps `else`
    try : {d n k : ℕ} {s t u v w y r : List PlacedLine} {xs : List (List ℕ)} {o p : Option Simple} {b c f : Block} {hs : Handlers} → IsHead d s t (line.try n) o → IsBody d o t u b → IsHead d u v (line.except k xs) p → IsBody d p v w c → IsHandlers d (catches_all xs) w y hs → IsElse d y r f → IsStatement d s r (tree.try n b (tree.handler k xs c hs) f)

  -- the block of a header in d blocks: the statement on its line, or else the lines that stand one block deeper
  pub data IsBody : ℕ → Option Simple → List PlacedLine → List PlacedLine → Block → Type 0 where
    on_the_line : {d : ℕ} {r : List PlacedLine} {x : Simple} → IsBody d (Some x) r r (tree.statement (tree.simple x) tree.no_statement)
    indented : {d : ℕ} {s m r : List PlacedLine} {e : Statement} {b : Block} → IsStatement (suc d) s m e → IsBlock (suc d) m r b → IsBody d None s r (tree.statement e b)

  -- {statement}
  pub data IsBlock : ℕ → List PlacedLine → List PlacedLine → Block → Type 0 where
    no_statement : {d : ℕ} {r : List PlacedLine} → IsBlock d r r tree.no_statement
    statement : {d : ℕ} {s m r : List PlacedLine} {e : Statement} {b : Block} → IsStatement d s m e → IsBlock d m r b → IsBlock d s r (tree.statement e b)

  -- {"elif" body}
  pub data IsBranches : ℕ → List PlacedLine → List PlacedLine → Branches → Type 0 where
    no_branch : {d : ℕ} {r : List PlacedLine} → IsBranches d r r tree.no_branch
    branch : {d n : ℕ} {s t m r : List PlacedLine} {e : Expr} {o : Option Simple} {b : Block} {bs : Branches} → IsHead d s t (line.elif n e) o → IsBody d o t m b → IsBranches d m r bs → IsBranches d s r (tree.branch n e b bs)

  -- {"except" body}. The flag says that the handler before catches all, so that no other one may follow.
  pub data IsHandlers : ℕ → Bool → List PlacedLine → List PlacedLine → Handlers → Type 0 where
    no_handler : {d : ℕ} {f : Bool} {r : List PlacedLine} → IsHandlers d f r r tree.no_handler
    handler : {d n : ℕ} {s t m r : List PlacedLine} {xs : List (List ℕ)} {o : Option Simple} {b : Block} {hs : Handlers} → IsHead d s t (line.except n xs) o → IsBody d o t m b → IsHandlers d (catches_all xs) m r hs → IsHandlers d false s r (tree.handler n xs b hs)

  -- ["else" body]
  pub data IsElse : ℕ → List PlacedLine → List PlacedLine → Block → Type 0 where
    no_else : {d : ℕ} {r : List PlacedLine} → IsElse d r r tree.no_statement
    else : {d n : ℕ} {s t r : List PlacedLine} {o : Option Simple} {b : Block} → IsHead d s t (line.else n) o → IsBody d o t r b → IsElse d s r b

-- The lines spell the body of a module.
abbrev pub IsModule : List PlacedLine → Block → Type 0
IsModule s b = IsBlock 0 s [] b
