-- The logical lines of tokens, each with the number of blocks in which it stands and its words.
use Rattle.std.specs.Prelude.{ℕ, suc, ◌-◌, List, [], ◌∷◌}
use Rattle.spec_tokens.specs.declared.Lexeme.{Lexeme}
use Rattle.spec_tokens.specs.declared.TokenKind.{TokenKind}
use Rattle.spec_tokens.specs.declared.TokenKind.TheVariants as kind
use Rattle.spec_tokens.specs.Tokens.{Scan}
use Rattle.spec_grammar.specs.Words.{Word}
use Rattle.spec_syntax.specs.TokenWords.{word_of}

pub record WordLine : Type 0 where
  pub depth : ℕ
  pub words : List Word

-- a word before those of the first line
abbrev pub begun_with : Word → List WordLine → List WordLine
begun_with w [] = []
begun_with w (l ∷ ls) = record { depth = l.depth; words = w ∷ l.words } ∷ ls

-- a token of a kind before lines, where d blocks are open and f tells the lines behind it from the blocks that are open then
abbrev pub line_behind : TokenKind → ℕ → Word → (ℕ → List WordLine) → List WordLine
line_behind kind.Indent d w f = f (suc d)
line_behind kind.Dedent d w f = f (d - 1)
line_behind kind.Newline d w f = record { depth = d; words = [] } ∷ f d
line_behind kind.End d w f = []
line_behind _ d w f = begun_with w (f d)

-- the lines of tokens, where d blocks are open
unfoldable pub lines_from : Scan → ℕ → List Lexeme → List WordLine
lines_from s d [] = []
lines_from s d (t ∷ ts) = line_behind t.kind d (word_of s t) (λ n. lines_from s n ts)

-- the lines of a text
abbrev pub word_lines : Scan → List WordLine
word_lines s = lines_from s 0 s.tokens
