use Rattle.std.proofs.Common.{arith, sym, ap, ◌∙◌, ◌≡◌, ℕ, List, [], length, map}
use Rattle.std.specs.Prelude.{chars}
use Rattle.spec_tokens.specs.declared.Piece.{Piece}
use Rattle.spec_tokens.specs.Letters.{mark_size, lines_of, run, is_blank}
use Rattle.spec_tokens.specs.Cutting.{pieces_of}
use Rattle.spec_tokens.specs.Refusals.{first_of}
use Rattle.spec_tokens.specs.Lines.{full_lines}
use Rattle.spec_tokens.specs.Tokens.{refusals, tokens_from}
use Rattle.py_tokens.proofs.Scans.{refused_is, scanned_is, well_formed_is}
use Rattle.py_tokens.proofs.scanning.scan.Goals as goal

pub letters_of-requires : goal.letters_of-requires
letters_of-requires c = omega (arith, c.requires, c.in_ok-characters.ensures.few, ap length c.deref.ensures.value)

pub pieces-requires : goal.pieces-requires
pieces-requires c = omega (arith, c.requires, c.in_ok-characters.ensures.few, ap length c.deref.ensures.value, c.in_ok-letters.ensures.few, ap length c.deref-2.ensures.value)

pub first_refusal-requires-clause-few : goal.first_refusal-requires-clause-few
first_refusal-requires-clause-few c = omega (arith, c.requires, c.in_ok-characters.ensures.few, ap length c.deref.ensures.value, c.in_ok-letters.ensures.few, ap length c.deref-4.ensures.value)

pub returns-in-Some : goal.returns-in-Some
returns-in-Some c =
    let bytes : List ℕ = c.args.text.now in
    let letters : List ℕ = c.in_ok-letters.letters.codes.items in
    let ps : List Piece = c.in_ok-pieces.pieces.items in
    let cs : c.deref.result.now ≡ chars bytes = c.deref.ensures.value ∙ c.in_ok-characters.ensures.characters in
    let cut : ps ≡ pieces_of letters = rw (← c.deref-2.ensures.value) c.in_ok-pieces.ensures in
    let told : c.in_ok-refusal.field-0 ≡ first_of (refusals letters ps) = rw (← c.deref-4.ensures.value, ← c.deref-5.ensures.value) c.in_ok-refusal.ensures in
    refused_is bytes _ letters ps _ _ _ cs c.in_ok-letters.ensures.codes cut told c.in-Some.is c.error_of.ensures

pub tokens-requires : goal.tokens-requires
tokens-requires c = omega (arith, c.requires, c.in_ok-characters.ensures.few, ap length c.deref.ensures.value, c.in_ok-letters.ensures.few, ap length c.deref-7.ensures.value)

pub indents-requires : goal.indents-requires
indents-requires c = omega (arith, c.requires, c.in_ok-characters.ensures.few, ap length c.deref.ensures.value, c.in_ok-letters.ensures.few, ap length c.deref-9.ensures.value)

pub invariant_of-result : goal.invariant_of-result
invariant_of-result c =
    let bytes : List ℕ = c.args.text.now in
    let letters : List ℕ = c.in_ok-letters.letters.codes.items in
    let ps : List Piece = c.in_ok-pieces.pieces.items in
    let cs : c.deref.result.now ≡ chars bytes = c.deref.ensures.value ∙ c.in_ok-characters.ensures.characters in
    let cut : ps ≡ pieces_of letters = rw (← c.deref-2.ensures.value) c.in_ok-pieces.ensures in
    let told : c.in_ok-refusal.field-0 ≡ first_of (refusals letters ps) = rw (← c.deref-4.ensures.value, ← c.deref-5.ensures.value) c.in_ok-refusal.ensures in
    let lines : map (λ line. line.now) c.in_ok-lines.lines.items ≡ full_lines ps = rw (← c.deref-3.ensures.value) c.in_ok-lines.ensures in
    let tokens : c.in_ok-lexemes.lexemes.items ≡ tokens_from letters [] (map (λ line. line.now) c.in_ok-lines.lines.items) = rw (← c.deref-7.ensures.value, ← c.deref-8.ensures.value) c.in_ok-lexemes.ensures in
    let indents : c.in_ok-indents.indents.items ≡ map (run is_blank) (lines_of letters) = rw (← c.deref-9.ensures.value) c.in_ok-indents.ensures in
    let first : c.mark_size.result ≡ mark_size c.deref.result.now = c.mark_size.ensures ∙ ap mark_size (c.deref-10.ensures.value ∙ sym c.deref.ensures.value) in
    let scanned = scanned_is bytes _ letters _ _ _ ps _ _ _ cs c.in_ok-letters.ensures.codes c.in_ok-letters.ensures.ends first cut told c.in_default.is lines tokens indents in
    rw (c.in_ok-text.ensures) (c.utf8.text, well_formed_is bytes _ c.utf8.text scanned)

pub returns : goal.returns
returns c =
    let bytes : List ℕ = c.args.text.now in
    let letters : List ℕ = c.in_ok-letters.letters.codes.items in
    let ps : List Piece = c.in_ok-pieces.pieces.items in
    let cs : c.deref.result.now ≡ chars bytes = c.deref.ensures.value ∙ c.in_ok-characters.ensures.characters in
    let cut : ps ≡ pieces_of letters = rw (← c.deref-2.ensures.value) c.in_ok-pieces.ensures in
    let told : c.in_ok-refusal.field-0 ≡ first_of (refusals letters ps) = rw (← c.deref-4.ensures.value, ← c.deref-5.ensures.value) c.in_ok-refusal.ensures in
    let lines : map (λ line. line.now) c.in_ok-lines.lines.items ≡ full_lines ps = rw (← c.deref-3.ensures.value) c.in_ok-lines.ensures in
    let tokens : c.in_ok-lexemes.lexemes.items ≡ tokens_from letters [] (map (λ line. line.now) c.in_ok-lines.lines.items) = rw (← c.deref-7.ensures.value, ← c.deref-8.ensures.value) c.in_ok-lexemes.ensures in
    let indents : c.in_ok-indents.indents.items ≡ map (run is_blank) (lines_of letters) = rw (← c.deref-9.ensures.value) c.in_ok-indents.ensures in
    let first : c.mark_size.result ≡ mark_size c.deref.result.now = c.mark_size.ensures ∙ ap mark_size (c.deref-10.ensures.value ∙ sym c.deref.ensures.value) in
    let scanned = scanned_is bytes _ letters _ _ _ ps _ _ _ cs c.in_ok-letters.ensures.codes c.in_ok-letters.ensures.ends first cut told c.in_default.is lines tokens indents in
    (c.in_ok-text.ensures, scanned)
