-- The words of the grammar that tokens are.
use Rattle.std.specs.Prelude.{ℕ, ◌-◌, List, [], ◌∷◌, Option, Some, None, codes, get_or, encode_utf8_all, if◌then◌else◌}
use Rattle.std.specs.Str.{bytes_eq}
use Rattle.unicode_normalization.specs.Forms.{nfkc}
use Rattle.spec_tokens.specs.declared.Lexeme.{Lexeme}
use Rattle.spec_tokens.specs.declared.TokenKind.{TokenKind}
use Rattle.spec_tokens.specs.declared.TokenKind.TheVariants as kind
use Rattle.spec_tokens.specs.Tokens.{Scan}
use Rattle.spec_tokens.specs.Values.{integer_value, text_value, inside_of, is_raw}
use Rattle.spec_tokens.specs.WellFormed.{spelled}
use Rattle.spec_trees.specs.Expr.{StringPart}
use Rattle.spec_grammar.specs.declared.Mark.{Mark}
use Rattle.spec_grammar.specs.declared.Mark.TheVariants as mark
use Rattle.spec_grammar.specs.Words.{Word, Name, Int, Str, Sign}

-- how each operator, delimiter and keyword is spelled that the grammar uses
abbrev pub spellings : List (List ℕ × Mark)
spellings =
    (codes "+", mark.Plus) ∷ (codes "-", mark.Minus) ∷ (codes "*", mark.Star) ∷ (codes "//", mark.DoubleSlash) ∷ (codes "%", mark.Percent)
    ∷ (codes "&", mark.Ampersand) ∷ (codes "|", mark.Bar) ∷ (codes "^", mark.Caret) ∷ (codes "~", mark.Tilde) ∷ (codes "<<", mark.ShiftLeft) ∷ (codes ">>", mark.ShiftRight)
    ∷ (codes "<", mark.Less) ∷ (codes ">", mark.Greater) ∷ (codes "<=", mark.LessEqual) ∷ (codes ">=", mark.GreaterEqual) ∷ (codes "==", mark.Equal) ∷ (codes "!=", mark.NotEqual)
    ∷ (codes "(", mark.OpenParen) ∷ (codes ")", mark.CloseParen) ∷ (codes "[", mark.OpenBracket) ∷ (codes "]", mark.CloseBracket) ∷ (codes "{", mark.OpenBrace) ∷ (codes "}", mark.CloseBrace)
    ∷ (codes ",", mark.Comma) ∷ (codes ":", mark.Colon) ∷ (codes ".", mark.Dot) ∷ (codes "=", mark.Assign) ∷ (codes "->", mark.Arrow)
    ∷ (codes "+=", mark.PlusAssign) ∷ (codes "-=", mark.MinusAssign) ∷ (codes "*=", mark.StarAssign) ∷ (codes "//=", mark.DoubleSlashAssign) ∷ (codes "%=", mark.PercentAssign)
    ∷ (codes "&=", mark.AmpersandAssign) ∷ (codes "|=", mark.BarAssign) ∷ (codes "^=", mark.CaretAssign) ∷ (codes "<<=", mark.ShiftLeftAssign) ∷ (codes ">>=", mark.ShiftRightAssign)
    ∷ (codes "True", mark.True) ∷ (codes "False", mark.False) ∷ (codes "None", mark.None) ∷ (codes "and", mark.And) ∷ (codes "assert", mark.Assert) ∷ (codes "break", mark.Break)
    ∷ (codes "class", mark.Class) ∷ (codes "continue", mark.Continue) ∷ (codes "def", mark.Def) ∷ (codes "del", mark.Del) ∷ (codes "elif", mark.Elif) ∷ (codes "else", mark.Else)
    ∷ (codes "except", mark.Except) ∷ (codes "for", mark.For) ∷ (codes "from", mark.From) ∷ (codes "if", mark.If) ∷ (codes "import", mark.Import) ∷ (codes "in", mark.In) ∷ (codes "is", mark.Is)
    ∷ (codes "not", mark.Not) ∷ (codes "or", mark.Or) ∷ (codes "pass", mark.Pass) ∷ (codes "raise", mark.Raise) ∷ (codes "return", mark.Return) ∷ (codes "try", mark.Try) ∷ (codes "while", mark.While)
    ∷ []

-- the mark that letters spell in a table; what is not there is a mark of no production
abbrev pub mark_in : List (List ℕ × Mark) → List ℕ → Mark
mark_in [] w = mark.Reserved
mark_in (s ∷ table) w = if bytes_eq s.0 w then s.1 else mark_in table w

unfoldable pub mark_of : List ℕ → Mark
mark_of w = mark_in spellings w

-- the value of a string, which each string of a text has that is cut into tokens
abbrev pub value_in : Option (List ℕ) → List ℕ
value_in None = []
value_in (Some v) = v

-- the part that the letters w of a string are, which starts on a line with so many blanks at its front
abbrev pub part_of : ℕ → ℕ → List ℕ → StringPart
part_of line indent w = record { value = value_in (text_value w); source = encode_utf8_all (inside_of w); raw = is_raw w; indent = indent; line = line }

-- the word that letters w are, by the kind of their token
abbrev pub word_by : TokenKind → ℕ → ℕ → List ℕ → Word
word_by kind.Name line indent w = Name line (encode_utf8_all (nfkc w))
word_by kind.Int line indent w = Int line (integer_value w)
word_by kind.Str line indent w = Str (part_of line indent w)
word_by _ line indent w = Sign line (mark_of w)

-- the word of a token
unfoldable pub word_of : Scan → Lexeme → Word
word_of s t = word_by t.kind t.line (get_or s.indents (t.line - 1) 0) (spelled s.letters t)
