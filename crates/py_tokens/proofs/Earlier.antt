-- Of refusals the first one is told, however they are grouped.
use Rattle.std.proofs.Common.{◌≡◌, ℕ, suc, ◌+◌, ◌*◌, ◌<◌, Bool, true, false, cond, ◌&&◌, ◌||◌, ◌==◌, List, [], ◌∷◌, ◌++◌, length, drop, Option, Some, None, refl, sym, ap, arith, ◌∙◌}
use Rattle.std.specs.Prelude.{nat_lt}
use Rattle.spec_tokens.specs.declared.Fault.{Fault}
use Rattle.spec_tokens.specs.declared.Fault.TheVariants.{BadCharacter, MixedIndent, BadDedent, OpenString, OpenBracket, BigInteger, NumberForm, EscapeForm}
use Rattle.spec_tokens.specs.declared.Piece.{Piece}
use Rattle.spec_tokens.specs.declared.Refusal.{Refusal}
use Rattle.spec_tokens.specs.Letters.{is_bad}
use Rattle.spec_tokens.specs.Pieces.{spelling}
use Rattle.spec_tokens.specs.Refusals.{number_of, is_before, earlier, first_of, letter_refusals, told, fault_of, piece_refusals}

number_small : (f : Fault) → number_of f < 16
number_small BadCharacter = omega arith
number_small MixedIndent = omega arith
number_small BadDedent = omega arith
number_small OpenString = omega arith
number_small OpenBracket = omega arith
number_small BigInteger = omega arith
number_small NumberForm = omega arith
number_small EscapeForm = omega arith

-- one number that tells which refusal is before
abbrev key : Refusal → ℕ
key r = r.line * 16 + number_of r.fault

before_numbers : (a b c d : ℕ) → c < 16 → d < 16 → (nat_lt a b || (a == b && nat_lt c d)) ≡ nat_lt (a * 16 + c) (b * 16 + d)
before_numbers a b c d le lf = grind arith

before_is : (r q : Refusal) → is_before r q ≡ nat_lt (key r) (key q)
before_is r q = before_numbers r.line q.line (number_of r.fault) (number_of q.fault) (number_small r.fault) (number_small q.fault)

-- of three, the first one
three : (a b c : Refusal) → earlier (earlier (Some a) (Some b)) (Some c) ≡ earlier (Some a) (earlier (Some b) (Some c))
three a b c = rw (before_is b a, before_is c b) (at (nat_lt (key b) (key a)) (nat_lt (key c) (key b)) refl refl)
  where
    at : (p q : Bool) → nat_lt (key b) (key a) ≡ p → nat_lt (key c) (key b) ≡ q → earlier (cond p (Some b) (Some a)) (Some c) ≡ earlier (Some a) (cond q (Some c) (Some b))
    at true true e f = let g : nat_lt (key c) (key a) ≡ true = grind arith in rw (before_is c b, before_is c a, f, g) refl
    at true false e f = rw (before_is c b, before_is b a, e, f) refl
    at false true e f = refl
    at false false e f = let g : nat_lt (key c) (key a) ≡ false = grind arith in rw (before_is c a, before_is b a, e, g) refl

pub earlier_nothing : (a : Option Refusal) → earlier a None ≡ a
earlier_nothing None = refl
earlier_nothing (Some r) = refl

pub earlier_assoc : (a b c : Option Refusal) → earlier (earlier a b) c ≡ earlier a (earlier b c)
earlier_assoc None b c = refl
earlier_assoc (Some a) None c = refl
earlier_assoc (Some a) (Some b) None = rw (earlier_nothing (earlier (Some a) (Some b))) refl
earlier_assoc (Some a) (Some b) (Some c) = three a b c

pub first_append : (rs qs : List Refusal) → first_of (rs ++ qs) ≡ earlier (first_of rs) (first_of qs)
first_append [] qs = refl
first_append (r ∷ rs) qs = ap (earlier (Some r)) (first_append rs qs) ∙ sym (earlier_assoc (Some r) (first_of rs) (first_of qs))

-- a fault before other refusals
pub told_first : (a : Option Refusal) (f : Option Fault) (line : ℕ) (rs : List Refusal) → earlier (earlier a (first_of (told f line []))) (first_of rs) ≡ earlier a (first_of (told f line rs))
told_first a None line rs = rw (earlier_nothing a) refl
told_first a (Some f) line rs = earlier_assoc a (Some (record { line = line; fault = f })) (first_of rs)

-- ---- turns of the loop over letters

pub letters_bad : (a : Option Refusal) (line c : ℕ) (s rest : List ℕ) → rest ≡ c ∷ s → is_bad c ≡ true → earlier (earlier a (Some (record { line = line; fault = BadCharacter }))) (first_of (letter_refusals line s)) ≡ earlier a (first_of (letter_refusals line rest))
unfolding letter_refusals
letters_bad a line c s rest e bad = rw (e, bad) (earlier_assoc a (Some (record { line = line; fault = BadCharacter })) (first_of (letter_refusals line s)))

pub letters_feed : (a : Option Refusal) (line c : ℕ) (s rest : List ℕ) → rest ≡ c ∷ s → is_bad c ≡ false → c ≡ 10 → earlier a (first_of (letter_refusals (line + 1) s)) ≡ earlier a (first_of (letter_refusals line rest))
unfolding letter_refusals
letters_feed a line c s rest e good feed = rw (e, good, feed) (let same : line + 1 ≡ suc line = omega arith in rw same refl)

pub letters_pass : (a : Option Refusal) (line c : ℕ) (s rest : List ℕ) → rest ≡ c ∷ s → is_bad c ≡ false → (c == 10) ≡ false → earlier a (first_of (letter_refusals line s)) ≡ earlier a (first_of (letter_refusals line rest))
unfolding letter_refusals
letters_pass a line c s rest e good other = rw (e, good, other) refl

pub letters_end : (a : Option Refusal) (line : ℕ) (rest : List ℕ) → length rest ≡ 0 → earlier a (first_of (letter_refusals line rest)) ≡ a
unfolding letter_refusals
letters_end a line [] e = earlier_nothing a
letters_end a line (c ∷ s) e = absurd (omega arith)

-- ---- turns of the loop over pieces

pub pieces_turn : (a : Option Refusal) (letters : List ℕ) (p : Piece) (ps rest : List Piece) → rest ≡ p ∷ ps
    → earlier (earlier a (first_of (told (fault_of p.kind (spelling letters p) (drop p.end letters)) p.line []))) (first_of (piece_refusals letters ps)) ≡ earlier a (first_of (piece_refusals letters rest))
unfolding piece_refusals
pieces_turn a letters p ps rest e = rw e (told_first a (fault_of p.kind (spelling letters p) (drop p.end letters)) p.line (piece_refusals letters ps))

pub pieces_end : (a : Option Refusal) (letters : List ℕ) (rest : List Piece) → length rest ≡ 0 → earlier a (first_of (piece_refusals letters rest)) ≡ a
unfolding piece_refusals
pieces_end a letters [] e = earlier_nothing a
pieces_end a letters (p ∷ ps) e = absurd (omega arith)

-- the refusals of five lists, one behind the other
pub five : (a b c d e : List Refusal) → earlier (earlier (earlier (earlier (earlier None (first_of a)) (first_of b)) (first_of c)) (first_of d)) (first_of e) ≡ first_of (a ++ (b ++ (c ++ (d ++ e))))
five a b c d e =
    rw (first_append a (b ++ (c ++ (d ++ e))), first_append b (c ++ (d ++ e)), first_append c (d ++ e), first_append d e, earlier_assoc (first_of a) (first_of b) (first_of c), earlier_assoc (first_of a) (earlier (first_of b) (first_of c)) (first_of d), earlier_assoc (first_of a) (earlier (earlier (first_of b) (first_of c)) (first_of d)) (first_of e), earlier_assoc (first_of b) (first_of c) (first_of d), earlier_assoc (first_of b) (earlier (first_of c) (first_of d)) (first_of e), earlier_assoc (first_of c) (first_of d) (first_of e)) refl
