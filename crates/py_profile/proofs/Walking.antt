-- What is told of the names that a block defines, one statement after the other.
use Rattle.std.proofs.Common.{◌≡◌, ℕ, ◌+◌, Bool, List, [], ◌++◌, drop, slice_get, Option, Some, refl, sym, ap, ◌∙◌}
use Rattle.std.specs.List.{list_any}
use Rattle.std.proofs.lemmas.List.{append_assoc}
use Rattle.spec_trees.specs.Module as tree
use Rattle.spec_trees.specs.Module.{Statement, Block}
use Rattle.spec_trees.specs.Stmt.{Parameter, TypeExpr}
use Rattle.spec_names.specs.Lines.{line_of}
use Rattle.spec_names.specs.Names.{names_of}
use Rattle.spec_names.specs.declared.ProfileFault.TheVariants.{Duplicate, Form}
use Rattle.spec_names.specs.declared.Refusal.{Refusal}
use Rattle.spec_names.specs.Refusals.{refused_if}
use Rattle.spec_names.specs.Names.{is_given, is_private}
use Rattle.spec_names.specs.Members.{member_of, method_of, methods_in, statement_refusals}
use Rattle.spec_names.specs.Defined.{are_repeated, defined_by, doubles, doubles_behind, method_doubles, onto}
use Rattle.spec_names.specs.Parameters.{all_default_refusals, are_misordered, parameter_refusals, refusals_of_parameters}
use Rattle.spec_names.specs.Headers.{header_forms}
use Rattle.spec_names.specs.Definitions.{definition_refusals}
use Rattle.py_tree.specs.declared.ids.StmtId.{StmtId}
use Rattle.py_tree.specs.Stmts.{block_tree}
use Rattle.name_sets.specs.Marks.{marks_of}
use Rattle.name_meanings.proofs.Tables.{stmts_from}
use Rattle.told_refusals.specs.Telling.{Tells}
use Rattle.told_refusals.proofs.Telling.{tells_none, tells_then}

-- the refusals of a block behind names, those of a statement behind names, and the names that it defines
module _ (walk : List (List ℕ) → Block → List Refusal) (here : List (List ℕ) → Statement → List Refusal) (defined : Statement → List (List ℕ)) where
  -- the statements before the place i are told of, and their names are in the set
  pub record WalkedTo (names : List (List ℕ)) (t : ℕ → Statement) (xs : List StmtId) (old new : Option Refusal) (set : List Bool) (i : ℕ) : Type 0 where
    pub so_far : List Refusal
    pub earlier : List (List ℕ)
    pub told : Tells old new so_far
    pub marks : set ≡ marks_of earlier names
    pub rest : walk [] (block_tree t xs) ≡ so_far ++ walk earlier (block_tree t (drop i xs))

  module _ (names : List (List ℕ)) (t : ℕ → Statement) (xs : List StmtId) (old : Option Refusal) where
    pub walk_begins : (set : List Bool) → set ≡ marks_of [] names → WalkedTo names t xs old old set 0
    walk_begins set e = record { so_far = []; earlier = []; told = tells_none old; marks = e; rest = refl }

    module _ (now : Option Refusal) (set : List Bool) (i : ℕ) (h : WalkedTo names t xs old now set i) where
      pub walk_more : ((e : List (List ℕ)) (s : Statement) (b : Block) → walk e (tree.statement s b) ≡ here e s ++ walk (onto e (defined s)) b) → (new : Option Refusal) (more : List Bool) (s : StmtId) → slice_get xs i ≡ Some s
          → Tells now new (here h.earlier (t s.index)) → more ≡ marks_of (onto h.earlier (defined (t s.index))) names → WalkedTo names t xs old new more (i + 1)
      walk_more step new more s at told marks =
          let behind : Block = block_tree t (drop (i + 1) xs) in
          record {
            so_far = h.so_far ++ here h.earlier (t s.index);
            earlier = onto h.earlier (defined (t s.index));
            told = tells_then old now new h.so_far (here h.earlier (t s.index)) h.told told;
            marks = marks;
            rest = h.rest ∙ ap (λ (b : Block). h.so_far ++ walk h.earlier b) (stmts_from t xs i s at) ∙ ap (λ (v : List Refusal). h.so_far ++ v) (step h.earlier (t s.index) behind)
                ∙ sym (append_assoc h.so_far (here h.earlier (t s.index)) (walk (onto h.earlier (defined (t s.index))) behind));
          }

-- ---- the methods of a class

abbrev pub methods_of : Statement → List (List ℕ)
methods_of s = defined_by (method_of s)

abbrev pub method_here : List (List ℕ) → Statement → List Refusal
method_here e s = refused_if (are_repeated e (methods_of s)) (line_of s) Duplicate

pub method_step : (e : List (List ℕ)) (s : Statement) (b : Block) → method_doubles e (tree.statement s b) ≡ method_here e s ++ method_doubles (onto e (methods_of s)) b
method_step e s b = refl

pub method_told : (e : List (List ℕ)) (s : Statement) (repeated : Bool) (n : ℕ) (t u : Option Refusal) → repeated ≡ are_repeated e (methods_of s) → n ≡ line_of s
    → Tells t u (refused_if repeated n Duplicate) → Tells t u (method_here e s)
method_told e s repeated n t u is-repeated is-line f = rw (← is-repeated, ← is-line) f

-- ---- the members of a module

abbrev pub members_of : Statement → List (List ℕ)
members_of s = defined_by (member_of s)

abbrev pub member_here : List (List ℕ) → Statement → List Refusal
member_here e s = refused_if (are_repeated e (members_of s)) (line_of s) Duplicate ++ refused_if (list_any is_given (members_of s)) (line_of s) Duplicate ++ method_doubles [] (methods_in s)

pub member_step : (e : List (List ℕ)) (s : Statement) (b : Block) → doubles_behind e (tree.statement s b) ≡ member_here e s ++ doubles_behind (onto e (members_of s)) b
member_step e s b = refl

pub member_told : (e : List (List ℕ)) (s : Statement) (b : Block) (repeated given : Bool) (n : ℕ) (t u v w : Option Refusal) → repeated ≡ are_repeated e (members_of s) → given ≡ list_any is_given (members_of s) → n ≡ line_of s → b ≡ methods_in s
    → Tells t u (refused_if repeated n Duplicate) → Tells u v (refused_if given n Duplicate) → Tells v w (method_doubles [] b) → Tells t w (member_here e s)
member_told e s b repeated given n t u v w is-repeated is-given is-line is-block f g h = rw (← is-repeated, ← is-given, ← is-line, ← is-block) (tells_then t v w _ _ (tells_then t u v _ _ f g) h)

-- ---- a function

pub parameters_told : (n : ℕ) (x : List ℕ) (ps : List Parameter) (r : Option TypeExpr) (b : Block) (repeated hidden misordered : Bool) (t u v w z : Option Refusal)
    → repeated ≡ are_repeated [] (names_of ps) → hidden ≡ list_any is_private (names_of ps) → misordered ≡ are_misordered ps
    → Tells t u (refused_if repeated n Duplicate) → Tells u v (refused_if hidden n Form) → Tells v w (refused_if misordered n Form) → Tells w z (all_default_refusals ps)
    → Tells t z (refusals_of_parameters (tree.def n x ps r b))
parameters_told n x ps r b repeated hidden misordered t u v w z is-repeated is-hidden is-misordered f g h k = rw (← is-repeated, ← is-hidden, ← is-misordered)
    (tells_then t w z _ _ (tells_then t v w _ _ (tells_then t u v _ _ f g) h) k)

-- ---- a module

pub definitions_told : (b : Block) (t u v w x : Option Refusal) → Tells t u (statement_refusals b) → Tells u v (doubles b) → Tells v w (header_forms b) → Tells w x (parameter_refusals b) → Tells t x (definition_refusals b)
definitions_told b t u v w x f g h k = tells_then t w x _ _ (tells_then t v w _ _ (tells_then t u v _ _ f g) h) k
