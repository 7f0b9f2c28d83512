-- The answers of a scan.
use Rattle.std.proofs.Common.{◌≡◌, ℕ, ◌≤◌, List, [], length, map, Option, Some, None, Ok, refl, sym, ap, arith, ◌∙◌}
use Rattle.std.specs.Prelude.{chars}
use Rattle.std.specs.Str.{IsUtf8}
use Rattle.std.proofs.lemmas.Str.{encodes-chars, length-le-encodes, scalars-chars}
use Rattle.spec_tokens.specs.declared.Piece.{Piece}
use Rattle.spec_tokens.specs.declared.Lexeme.{Lexeme}
use Rattle.spec_tokens.specs.declared.Refusal.{Refusal}
use Rattle.spec_tokens.specs.Letters.{letters_of, ends_of, mark_size, lines_of, run, is_blank}
use Rattle.spec_tokens.specs.Cutting.{pieces_of}
use Rattle.spec_tokens.specs.Refusals.{first_of, earlier, letter_refusals, piece_refusals}
use Rattle.spec_tokens.specs.Lines.{full_lines, bracket_refusals, mixed_refusals, dedent_refusals}
use Rattle.spec_tokens.specs.Tokens.{Scan, tokens_from, refusals, IsScan}
use Rattle.spec_tokens.specs.WellFormed.{IsWellFormed}
use Rattle.spec_tokens.proofs.Cuts.{are_pieces}
use Rattle.spec_tokens.proofs.WellFormed.{well_formed}
use Rattle.py_tokens.specs.declared.errors.TokenError.{TokenError}
use Rattle.py_tokens.specs.Scanned.{refusal_of, IsRefused}
use Rattle.py_tokens.proofs.Earlier.{five}

-- the refusal that is told behind all of them
pub all_refusals : (letters : List ℕ) (ps : List Piece) (lines : List (List Piece)) (a b c d e : Option Refusal) → lines ≡ full_lines ps → a ≡ earlier None (first_of (letter_refusals 1 letters))
    → b ≡ earlier a (first_of (piece_refusals letters ps)) → c ≡ earlier b (first_of (bracket_refusals [] ps)) → d ≡ earlier c (first_of (mixed_refusals letters None lines)) → e ≡ earlier d (first_of (dedent_refusals letters [] lines))
    → e ≡ first_of (refusals letters ps)
all_refusals letters ps lines a b c d e l ea eb ec ed ee =
    rw (ee, ed, ec, eb, ea, l) (five (letter_refusals 1 letters) (piece_refusals letters ps) (bracket_refusals [] ps) (mixed_refusals letters None (full_lines ps)) (dedent_refusals letters [] (full_lines ps)))

-- a text has at most as many code points as bytes
pub chars_few : (bytes cs : List ℕ) → IsUtf8 bytes → cs ≡ chars bytes → length cs ≤ length bytes
chars_few bytes cs u e =
    let same = ap length (encodes-chars bytes u) in
    rw e (omega (arith, length-le-encodes (chars bytes)))

-- the refusal that is found is the answer
pub refused_is : (bytes cs letters : List ℕ) (ps : List Piece) (o : Option Refusal) (r : Refusal) (e : TokenError) → cs ≡ chars bytes → letters ≡ letters_of cs → ps ≡ pieces_of letters
    → o ≡ first_of (refusals letters ps) → o ≡ Some r → refusal_of e ≡ Some r → IsRefused bytes (refusal_of e)
refused_is bytes cs letters ps o r e c l p f is told =
    let found : first_of (refusals (letters_of (chars bytes)) (pieces_of (letters_of (chars bytes)))) ≡ Some r = rw (← c, ← l, ← p) (sym f ∙ is) in
    rw told (record { pieces = pieces_of (letters_of (chars bytes)); cut = are_pieces (letters_of (chars bytes)); is = rw found refl })

-- where nothing is refused, the tokens are the answer
pub scanned_is : (bytes cs letters ends indents : List ℕ) (first : ℕ) (ps : List Piece) (lines : List (List Piece)) (ts : List Lexeme) (o : Option Refusal) → cs ≡ chars bytes → letters ≡ letters_of cs → ends ≡ ends_of cs → first ≡ mark_size cs → ps ≡ pieces_of letters
    → o ≡ first_of (refusals letters ps) → o ≡ None → lines ≡ full_lines ps → ts ≡ tokens_from letters [] lines → indents ≡ map (run is_blank) (lines_of letters)
    → IsScan (chars bytes) (Ok (record { letters = letters; first = first; ends = ends; indents = indents; tokens = ts }))
scanned_is bytes cs letters ends indents first ps lines ts o c l e m p f is n t i =
    let found : first_of (refusals (letters_of (chars bytes)) (pieces_of (letters_of (chars bytes)))) ≡ None = rw (← c, ← l, ← p) (sym f ∙ is) in
    record { pieces = pieces_of (letters_of (chars bytes)); cut = are_pieces (letters_of (chars bytes)); is = rw (found, i, t, n, p, e, m, l, c) refl }

-- what is scanned is well formed
pub well_formed_is : (bytes : List ℕ) (s : Scan) → IsUtf8 bytes → IsScan (chars bytes) (Ok s) → IsWellFormed (chars bytes) s
well_formed_is bytes s u h = well_formed (chars bytes) h.pieces s (scalars-chars bytes u) h.cut (sym h.is)
