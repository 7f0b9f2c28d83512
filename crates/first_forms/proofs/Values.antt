-- What the first statements of a body return.
use Rattle.std.proofs.Common.{◌≡◌, ℕ, zero, suc, ◌+◌, ◌<◌, ◌≤◌, true, false, List, [], ◌∷◌, ◌++◌, length, map, drop, get_or, Option, Some, None, Ok, Err, refl, sym, ap, arith, ◌∙◌}
use Rattle.std.proofs.lemmas.List.{map-append}
use Rattle.std.proofs.lemmas.List.Elements.{All-push}
use Rattle.spec_trees.specs.Module as block
use Rattle.spec_trees.specs.Module.{Statement}
use Rattle.spec_first_trees.specs.Expr.{Expr}
use Rattle.spec_grammar.specs.Reading.{given}
use Rattle.spec_names.specs.Lines.{line_of}
use Rattle.spec_forms.specs.Forms.{is_dropped, onto, value_of, values_of}
use Rattle.py_tree.specs.declared.ids.StmtId.{StmtId}
use Rattle.py_tree.specs.Stmts.{AreStmtsBelow, block_tree}
use Rattle.first_tree.specs.declared.nodes.ExprId.{ExprId}
use Rattle.first_tree.specs.declared.nodes.ExprNode.{ExprNode}
use Rattle.first_tree.specs.Arena.{Extends, AreExprsBelow, ModuleState, shown}
use Rattle.first_tree.specs.Functions.{expr_in}
use Rattle.first_tree.proofs.Arenas.{extends_same, extends_then}
use Rattle.first_promises.specs.declared.errors.Unformed.{Unformed}
use Rattle.first_promises.specs.declared.errors.Unformed.TheVariants.{OtherForm, NoMemory}
use Rattle.first_promises.specs.Errors.{error_at}
use Rattle.first_promises.specs.Gives.{Gives}
use Rattle.first_forms.specs.Bodies.{GivesValues}
use Rattle.first_forms.proofs.Kept.{exprs_below, exprs_kept}
use Rattle.first_forms.proofs.Lists.{all_onto, onto_append, onto_end, onto_error}

pub stmt_below : (n : ℕ) (xs : List StmtId) (i : ℕ) (d : StmtId) → AreStmtsBelow n xs → i < length xs → (get_or xs i d).index < n
stmt_below n [] i d h lt = absurd (omega arith)
stmt_below n (x ∷ xs) zero d h lt = h.0
stmt_below n (x ∷ xs) (suc i) d h lt = stmt_below n xs i d h.1 (omega arith)

-- a statement, and those behind it
pub stmts_from : (t : ℕ → Statement) (xs : List StmtId) (i : ℕ) (d : StmtId) → i < length xs → block_tree t (drop i xs) ≡ block.statement (t (get_or xs i d).index) (block_tree t (drop (i + 1) xs))
stmts_from t [] i d lt = absurd (omega arith)
stmts_from t (x ∷ xs) zero d lt = refl
stmts_from t (x ∷ xs) (suc i) d lt = let more : suc i + 1 ≡ suc (i + 1) = omega arith in rw more (stmts_from t xs i d (omega arith))

pub stmts_end : (t : ℕ → Statement) (xs : List StmtId) (i : ℕ) → length xs ≤ i → block_tree t (drop i xs) ≡ block.no_statement
stmts_end t [] zero le = refl
stmts_end t [] (suc i) le = refl
stmts_end t (x ∷ xs) zero le = absurd (omega arith)
stmts_end t (x ∷ xs) (suc i) le = stmts_end t xs i (omega arith)

-- The statements of a body before the place i return these expressions, by which a module has grown.
pub record AreValuesTo (t : ℕ → Statement) (names : List (List ℕ)) (body : List StmtId) (old new : ModuleState) (es : List ExprId) (i : ℕ) : Type 0 where
  pub grown : Extends old.nodes new.nodes
  pub functions : new.functions ≡ old.functions
  pub below : AreExprsBelow (length new.nodes) es
  pub rest : values_of names (block_tree t body) ≡ all_onto (map (expr_in new.nodes) es) (values_of names (block_tree t (drop i body)))

module _ (t : ℕ → Statement) (names : List (List ℕ)) (body : List StmtId) (old : ModuleState) where
  pub values_none : (es : List ExprId) → es ≡ [] → AreValuesTo t names body old old es 0
  values_none es e = rw e (record { grown = extends_same old.nodes; functions = refl; below = λ k d lt. absurd (omega arith); rest = refl })

  module _ (new : ModuleState) (es : List ExprId) (i : ℕ) (d : StmtId) (h : AreValuesTo t names body old new es i) where
    -- what is read of the statement at the place, and behind it
    module _ (lt : i < length body) where
      abbrev here : Statement
      here = t (get_or body i d).index

      pub values_dropped : is_dropped here ≡ true → AreValuesTo t names body old new es (i + 1)
      values_dropped e = record { grown = h.grown; functions = h.functions; below = h.below; rest = h.rest ∙ ap (all_onto (map (expr_in new.nodes) es)) (rw (stmts_from t body i d lt, e) refl) }

      reads : (o : Option Expr) → is_dropped here ≡ false → value_of names here ≡ o → values_of names (block_tree t (drop i body)) ≡ given o (λ e. onto e (values_of names (block_tree t (drop (i + 1) body)))) (Err (line_of here))
      reads o e v = rw (stmts_from t body i d lt, e, v) refl

      pub values_more : (more : ModuleState) (e : ExprId) (fs : List ExprId) → is_dropped here ≡ false → Extends new.nodes more.nodes → more.functions ≡ new.functions
          → Gives more.nodes (Ok e) (value_of names here) → fs ≡ es ++ e ∷ [] → AreValuesTo t names body old more fs (i + 1)
      values_more more e fs kept g functions v is = rw is (record {
        grown = extends_then old.nodes new.nodes more.nodes h.grown g;
        functions = functions ∙ h.functions;
        below = All-push (λ (x : ExprId). x.index < length more.nodes) es e (exprs_below new.nodes more.nodes g es h.below) v.0;
        rest = h.rest
            ∙ ap (λ (xs : List Expr). all_onto xs (values_of names (block_tree t (drop i body)))) (sym (exprs_kept new.nodes more.nodes g es h.below))
            ∙ ap (all_onto (map (expr_in more.nodes) es)) (reads (Some (shown more.nodes e.index)) kept v.1)
            ∙ sym (onto_append (map (expr_in more.nodes) es) (shown more.nodes e.index ∷ []) (values_of names (block_tree t (drop (i + 1) body))))
            ∙ ap (λ (xs : List Expr). all_onto xs (values_of names (block_tree t (drop (i + 1) body)))) (sym (map-append (expr_in more.nodes) es (e ∷ [])));
      })

      pub values_error : (nodes : List ExprNode) (u : Unformed) (n : ℕ) → n ≡ line_of here → is_dropped here ≡ false → Gives nodes (Err u) (value_of names here) → GivesValues nodes (Err (error_at n u)) (values_of names (block_tree t body))
      values_error nodes OtherForm n line kept v = rw line (h.rest ∙ ap (all_onto (map (expr_in new.nodes) es)) (reads None kept v) ∙ onto_error (map (expr_in new.nodes) es) (line_of here))
      values_error nodes NoMemory n line kept v = tt

    pub values_all : length body ≤ i → values_of names (block_tree t body) ≡ Ok (map (expr_in new.nodes) es)
    values_all le = h.rest ∙ ap (λ (b : block.Block). all_onto (map (expr_in new.nodes) es) (values_of names b)) (stmts_end t body i le) ∙ onto_end (map (expr_in new.nodes) es)
