-- Expressions and types that stand in texts of their own, as behind `post:` and in string annotations.
use Rattle.std.specs.Prelude.{ℕ, ◌==◌, nat_lt, List, [], ◌∷◌, map, Option, Some, None, Result, Ok, Err, if◌then◌else◌}
use Rattle.spec_tokens.specs.declared.Refusal.{Refusal}
use Rattle.spec_tokens.specs.Letters.{letters_of, is_blank}
use Rattle.spec_tokens.specs.Cutting.{pieces_of}
use Rattle.spec_tokens.specs.Tokens.{Scan, tokens_of}
use Rattle.spec_trees.specs.Expr.{Expr}
use Rattle.spec_trees.specs.Stmt.{TypeExpr}
use Rattle.spec_grammar.specs.Words.{Word, Name, Int, Str, Sign}
use Rattle.spec_grammar.specs.Load.{load, MAX_LOAD}
use Rattle.spec_grammar.specs.Height.{height, MAX_HEIGHT}
use Rattle.spec_grammar.specs.Reading.{given, expr_of}
use Rattle.spec_grammar.specs.TypeReading.{type_of}
use Rattle.spec_syntax.specs.Lines.{WordLine, word_lines}
use Rattle.spec_syntax.specs.Phases.{Misfit, too_deep, no_line}

-- the text without the spaces and tabs at its front
abbrev pub unindented : List ℕ → List ℕ
unindented [] = []
unindented (c ∷ s) = if is_blank c then unindented s else c ∷ s

-- a word on another line
abbrev pub moved : ℕ → Word → Word
moved n (Name m x) = Name n x
moved n (Int m v) = Int n v
moved n (Str p) = Str (record p { line = n })
moved n (Sign m k) = Sign n k

-- the words of one logical line that is not indented, on the line n
abbrev pub one_line : ℕ → List WordLine → Option (List Word)
one_line n [] = None
one_line n (l ∷ []) = if l.depth == 0 then Some (map (moved n) l.words) else None
one_line n (l ∷ k ∷ ls) = None

abbrev pub scanned_line : ℕ → Result Scan Refusal → Option (List Word)
scanned_line n (Ok s) = one_line n (word_lines s)
scanned_line n (Err r) = None

-- The words of a text that is one logical line, on the line n. A text that has no tokens has none.
unfoldable pub text_words : ℕ → List ℕ → Option (List Word)
text_words n text = let t = unindented text in scanned_line n (tokens_of t (pieces_of (letters_of t)))

-- a tree that is not too high
abbrev pub not_too_high : {A : Type 0} → (A → ℕ) → ℕ → A → Result A Misfit
not_too_high tall n e = if nat_lt MAX_HEIGHT (tall e) then Err (too_deep n) else Ok e

-- What words on the line n spell, where `reads` gives it and `tall` its height. A load that is too great is told before the form is.
abbrev pub read_words : {A : Type 0} → (List Word → Option A) → (A → ℕ) → ℕ → List Word → Result A Misfit
read_words reads tall n s = if nat_lt MAX_LOAD (load s) then Err (too_deep n) else given (reads s) (not_too_high tall n) (Err (no_line n))

abbrev pub flat : TypeExpr → ℕ
flat t = 0

-- the expression that a text is, or its refusal, each with the line n
unfoldable pub parsed_expression : ℕ → List ℕ → Result Expr Misfit
parsed_expression n text = given (text_words n text) (read_words expr_of height n) (Err (no_line n))

-- the type that a text is, or its refusal, each with the line n
unfoldable pub parsed_type : ℕ → List ℕ → Result TypeExpr Misfit
parsed_type n text = given (text_words n text) (read_words type_of flat n) (Err (no_line n))
