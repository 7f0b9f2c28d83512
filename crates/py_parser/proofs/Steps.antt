-- The steps from a text to what it is.
use Rattle.std.proofs.Common.{◌≡◌, ◌≢◌, ℕ, Bool, true, false, cond, List, [], ◌∷◌, map, Option, Some, None, Result, Ok, Err, refl, sym, ap, ◌∙◌}
use Rattle.std.specs.Prelude.{chars, nat_lt, is_some}
use Rattle.std.specs.Option.{option_map}
use Rattle.spec_tokens.specs.declared.Refusal.{Refusal}
use Rattle.spec_tokens.specs.Letters.{letters_of}
use Rattle.spec_tokens.specs.Cutting.{pieces_of}
use Rattle.spec_tokens.specs.Tokens.{Scan, IsScan, tokens_of}
use Rattle.spec_tokens.proofs.Cuts.{pieces_only}
use Rattle.spec_grammar.specs.Words.{Word}
use Rattle.spec_grammar.specs.Load.{load, MAX_LOAD}
use Rattle.spec_grammar.specs.Height.{height}
use Rattle.spec_grammar.specs.Reading.{given, expr_of}
use Rattle.spec_grammar.specs.TypeReading.{type_of}
use Rattle.spec_syntax.specs.Lines.{WordLine, word_lines}
use Rattle.spec_syntax.specs.Phases.{Misfit, too_deep, no_line, first_overloaded}
use Rattle.spec_syntax.specs.Texts.{unindented, one_line, scanned_line, text_words, not_too_high, read_words, flat, parsed_expression, parsed_type}
use Rattle.py_tokens.specs.declared.errors.TokenError.{TokenError}
use Rattle.py_tokens.specs.declared.errors.TokenError.TheVariants as token_error
use Rattle.py_tokens.specs.Scanned.{Scanned, refusal_of, IsRefused}
use Rattle.py_words.specs.declared.lines.WordLine as kept
use Rattle.py_words.specs.Lines.{line_seen}
use Rattle.py_tree.specs.declared.ids.ExprId.{ExprId}
use Rattle.py_tree.specs.declared.ids.TypeId.{TypeId}
use Rattle.py_tree.specs.Arena.{State}
use Rattle.py_parser.specs.declared.errors.SyntaxError.{SyntaxError}
use Rattle.py_parser.specs.declared.errors.SyntaxError.TheVariants as error
use Rattle.py_parser.specs.Given.{Tells, GivesExpression, GivesType, scan_of, admitted}

-- ---- tokens

-- an error other than a want of memory tells a refusal
pub refusal_told : (e : TokenError) → e ≢ token_error.NoMemory → is_some (refusal_of e) ≡ true
refusal_told (token_error.BadCharacter n) f = refl
refusal_told (token_error.MixedIndent n) f = refl
refusal_told (token_error.BadDedent n) f = refl
refusal_told (token_error.OpenString n) f = refl
refusal_told (token_error.OpenBracket n) f = refl
refusal_told (token_error.BigInteger n) f = refl
refusal_told (token_error.NumberForm n) f = refl
refusal_told (token_error.EscapeForm n) f = refl
refusal_told token_error.NoMemory f = absurd (f refl)

-- the one answer of a scan
scan_is : (cs : List ℕ) (r : Result Scan Refusal) → IsScan cs r → scan_of r ≡ scan_of (tokens_of cs (pieces_of (letters_of cs)))
scan_is cs r h = ap scan_of (h.is ∙ ap (λ ps. tokens_of cs ps) (pieces_only (letters_of cs) h.pieces h.cut))

pub scan_given : (cs : List ℕ) (s : Scan) → IsScan cs (Ok s) → Some s ≡ scan_of (tokens_of cs (pieces_of (letters_of cs)))
scan_given cs s h = scan_is cs (Ok s) h

pub scan_refused : (bytes : List ℕ) (o : Option Refusal) → IsRefused bytes o → is_some o ≡ true → None ≡ scan_of (tokens_of (chars bytes) (pieces_of (letters_of (chars bytes))))
scan_refused bytes None h e = absurd cc
scan_refused bytes (Some r) h e = scan_is (chars bytes) (Err r) h

-- ---- words

-- the words of a text by its tokens
pub text_is : (n : ℕ) (cs ts : List ℕ) (o : Option Scan) → ts ≡ unindented cs → o ≡ scan_of (tokens_of ts (pieces_of (letters_of ts))) → text_words n cs ≡ given o (λ s. one_line n (word_lines s)) None
unfolding text_words
text_is n cs ts o e f = rw (f, e) (by_scan (tokens_of (unindented cs) (pieces_of (letters_of (unindented cs)))))
  where
    by_scan : (r : Result Scan Refusal) → scanned_line n r ≡ given (scan_of r) (λ s. one_line n (word_lines s)) None
    by_scan (Ok s) = refl
    by_scan (Err r) = refl

-- A text that has no tokens has no words.
pub no_words : (n : ℕ) (cs ts : List ℕ) (o : Option Scanned) → ts ≡ unindented cs → option_map (λ (t : Scanned). t.scan) o ≡ scan_of (tokens_of ts (pieces_of (letters_of ts))) → o ≡ None → given (text_words n cs) (admitted n) (Err (no_line n)) ≡ Err (no_line n)
no_words n cs ts o e f g = rw (text_is n cs ts _ e f, g) refl

-- The words of a text that has tokens are those of its one line.
pub words_are : (n : ℕ) (cs ts : List ℕ) (o : Option Scanned) (t : Scanned) (ls : List WordLine) (w : Option (List Word)) → ts ≡ unindented cs → option_map (λ (t : Scanned). t.scan) o ≡ scan_of (tokens_of ts (pieces_of (letters_of ts))) → o ≡ Some t → ls ≡ word_lines t.scan → w ≡ one_line n ls → text_words n cs ≡ w
words_are n cs ts o t ls w e f g h i = text_is n cs ts _ e f ∙ rw g (rw (← h) (sym i))

-- whether the load of a line is admitted, by the first line that is overloaded
by_load : (b : Bool) (k : ℕ) (o : Option ℕ) (x y : Result (List Word) Misfit) → o ≡ cond b (Some k) None → (o ≡ None → cond b x y ≡ y) × ((j : ℕ) → o ≡ Some j → cond b x y ≡ x)
by_load true k o x y e = ((λ f. absurd cc), λ j f. refl)
by_load false k o x y e = ((λ f. refl), λ j f. absurd cc)

module _ (n : ℕ) (l : kept.WordLine) (ls : List kept.WordLine) (o : Option ℕ) (e : o ≡ first_overloaded (map line_seen ls)) (f : ls ≡ l ∷ []) where
  overload : (o ≡ None → admitted n l.words ≡ Ok l.words) × ((j : ℕ) → o ≡ Some j → admitted n l.words ≡ Err (too_deep n))
  unfolding first_overloaded
  overload = by_load (nat_lt MAX_LOAD (load l.words)) _ o _ _ (rw f at e)

  pub load_admitted : o ≡ None → admitted n l.words ≡ Ok l.words
  load_admitted g = overload.0 g

  pub load_refused : (j : ℕ) → o ≡ Some j → admitted n l.words ≡ Err (too_deep n)
  load_refused j g = overload.1 j g

-- ---- trees

-- what words are that may be refused
abbrev read_from : {A : Type 0} → (List Word → Option A) → (A → ℕ) → ℕ → Result (List Word) Misfit → Result A Misfit
read_from reads tall n (Ok s) = given (reads s) (not_too_high tall n) (Err (no_line n))
read_from reads tall n (Err f) = Err f

module _ {A : Type 0} (reads : List Word → Option A) (tall : A → ℕ) (n : ℕ) where
  read_is : (o : Option (List Word)) → given o (read_words reads tall n) (Err (no_line n)) ≡ read_from reads tall n (given o (admitted n) (Err (no_line n)))
  read_is None = refl
  read_is (Some s) = by_test (nat_lt MAX_LOAD (load s))
    where
      by_test : (b : Bool) → cond b (Err (too_deep n)) (given (reads s) (not_too_high tall n) (Err (no_line n))) ≡ read_from reads tall n (cond b (Err (too_deep n)) (Ok s))
      by_test true = refl
      by_test false = refl

  -- words that are refused
  tells_on : (e : SyntaxError) (r : Result (List Word) Misfit) → Tells e r → Tells e (read_from reads tall n r)
  tells_on (error.Line k) r h = rw h refl
  tells_on (error.TooDeep k) r h = rw h refl
  tells_on (error.Block k) r h = absurd h
  tells_on error.NoMemory r h = tt

  refused : (e : SyntaxError) (o : Option (List Word)) → Tells e (given o (admitted n) (Err (no_line n))) → Tells e (given o (read_words reads tall n) (Err (no_line n)))
  refused e o h = rw (read_is o) (tells_on e _ h)

  -- words that are read
  words_read : (o : Option (List Word)) (s : List Word) → given o (admitted n) (Err (no_line n)) ≡ Ok s → given o (read_words reads tall n) (Err (no_line n)) ≡ given (reads s) (not_too_high tall n) (Err (no_line n))
  words_read o s e = rw (read_is o, e) refl

pub expression_refused : (n : ℕ) (cs : List ℕ) (e : SyntaxError) → Tells e (given (text_words n cs) (admitted n) (Err (no_line n))) → Tells e (parsed_expression n cs)
unfolding parsed_expression
expression_refused n cs e h = refused expr_of height n e (text_words n cs) h

pub expression_read : (n : ℕ) (cs : List ℕ) (s : List Word) (m : State) (r : Result ExprId SyntaxError) → given (text_words n cs) (admitted n) (Err (no_line n)) ≡ Ok s → GivesExpression m r (given (expr_of s) (not_too_high height n) (Err (no_line n))) → GivesExpression m r (parsed_expression n cs)
unfolding parsed_expression
expression_read n cs s m r e h = rw (words_read expr_of height n (text_words n cs) s e) h

pub type_refused : (n : ℕ) (cs : List ℕ) (e : SyntaxError) → Tells e (given (text_words n cs) (admitted n) (Err (no_line n))) → Tells e (parsed_type n cs)
unfolding parsed_type
type_refused n cs e h = refused type_of flat n e (text_words n cs) h

pub type_read : (n : ℕ) (cs : List ℕ) (s : List Word) (m : State) (r : Result TypeId SyntaxError) → given (text_words n cs) (admitted n) (Err (no_line n)) ≡ Ok s → GivesType m r (given (type_of s) (not_too_high flat n) (Err (no_line n))) → GivesType m r (parsed_type n cs)
unfolding parsed_type
type_read n cs s m r e h = rw (words_read type_of flat n (text_words n cs) s e) h
