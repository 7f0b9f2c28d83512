-- Turns of the loops over digits and over the insides of strings.
use Rattle.std.proofs.Common.{◌≡◌, ℕ, ◌+◌, Bool, true, false, ◌&&◌, ◌||◌, ◌==◌, List, [], ◌∷◌, length, refl, sym, ap, arith}
use Rattle.std.specs.Prelude.{nat_eq}
use Rattle.std.specs.List.{starts_with}
use Rattle.spec_tokens.specs.Letters.{is_inline}
use Rattle.spec_tokens.specs.Forms.{quotes_of}
use Rattle.spec_tokens.specs.Cutting.{starts, digit_run, Tail, longer, tail}

-- digits end where a letter does not go on with them
pub digits_stop : (p : ℕ → Bool) (n c : ℕ) (s rest : List ℕ) → rest ≡ c ∷ s → (p c || (c == 95 && starts p s)) ≡ false → n + digit_run p rest ≡ n
unfolding digit_run
digits_stop p n c s rest e stop = rw (e, stop) (omega arith)

pub digits_turn : (p : ℕ → Bool) (n c : ℕ) (s rest : List ℕ) → rest ≡ c ∷ s → (p c || (c == 95 && starts p s)) ≡ true → n + digit_run p rest ≡ n + 1 + digit_run p s
unfolding digit_run
digits_turn p n c s rest e more = rw (e, more) (omega arith)

pub digits_end : (p : ℕ → Bool) (n : ℕ) (rest : List ℕ) → length rest ≡ 0 → n + digit_run p rest ≡ n
unfolding digit_run
digits_end p n [] e = omega arith
digits_end p n (c ∷ s) e = absurd (omega arith)

-- two passes are one
longer_twice : (m n k : ℕ) (x : Tail) → k ≡ m + n → longer m (longer n x) ≡ longer k x
longer_twice m n k x e = let same : m + (n + x.0) ≡ k + x.0 = omega arith in ap (λ (i : ℕ). (i, x.1)) same

-- the closing quotes end a string
pub tail_closes : (long : Bool) (q n k : ℕ) (rest : List ℕ) → starts_with nat_eq rest (quotes_of long q) ≡ true → k ≡ n + length (quotes_of long q) → longer n (tail long q rest) ≡ (k, true)
unfolding tail
tail_closes true q n k [] is e = absurd cc
tail_closes false q n k [] is e = absurd cc
tail_closes long q n k (c ∷ s) is e = rw (is, e) refl

-- a backslash passes itself and the letter behind it
pub tail_escapes : (long : Bool) (q n m c d : ℕ) (rest s t : List ℕ) → rest ≡ c ∷ s → s ≡ d ∷ t → starts_with nat_eq rest (quotes_of long q) ≡ false → (c == 92) ≡ true → m ≡ n + 2 → longer m (tail long q t) ≡ longer n (tail long q rest)
unfolding tail
tail_escapes long q n m c d rest s t e f not is k =
    let quotes : starts_with nat_eq (c ∷ d ∷ t) (quotes_of long q) ≡ false = rw (← f, ← e) not in
    rw (e, f, quotes, is) (sym (longer_twice n 2 m (tail long q t) k))

-- a backslash before nothing ends it
pub tail_breaks : (long : Bool) (q n c : ℕ) (rest s : List ℕ) → rest ≡ c ∷ s → length s ≡ 0 → starts_with nat_eq rest (quotes_of long q) ≡ false → (c == 92) ≡ true → longer n (tail long q rest) ≡ (n, false)
unfolding tail
tail_breaks long q n c rest (d ∷ s) e none not is = absurd (omega arith)
tail_breaks long q n c rest [] e none not is =
    let quotes : starts_with nat_eq (c ∷ []) (quotes_of long q) ≡ false = rw (← e) not in
    let same : n + 0 ≡ n = omega arith in
    rw (e, quotes, is, same) refl

-- a line end within one quote ends it
pub tail_ends : (long : Bool) (q n c : ℕ) (rest s : List ℕ) → rest ≡ c ∷ s → starts_with nat_eq rest (quotes_of long q) ≡ false → (c == 92) ≡ false → (long || is_inline c) ≡ false → longer n (tail long q rest) ≡ (n, false)
unfolding tail
tail_ends long q n c rest s e not other line =
    let quotes : starts_with nat_eq (c ∷ s) (quotes_of long q) ≡ false = rw (← e) not in
    let same : n + 0 ≡ n = omega arith in
    rw (e, quotes, other, line, same) refl

-- every other letter is passed
pub tail_turns : (long : Bool) (q n m c : ℕ) (rest s : List ℕ) → rest ≡ c ∷ s → starts_with nat_eq rest (quotes_of long q) ≡ false → (c == 92) ≡ false → (long || is_inline c) ≡ true → m ≡ n + 1 → longer m (tail long q s) ≡ longer n (tail long q rest)
unfolding tail
tail_turns long q n m c rest s e not other line k =
    let quotes : starts_with nat_eq (c ∷ s) (quotes_of long q) ≡ false = rw (← e) not in
    rw (e, quotes, other, line) (sym (longer_twice n 1 m (tail long q s) k))

-- a text that is passed whole is not closed
pub tail_runs_out : (long : Bool) (q n : ℕ) (rest : List ℕ) → length rest ≡ 0 → longer n (tail long q rest) ≡ (n, false)
unfolding tail
tail_runs_out long q n [] e = let same : n + 0 ≡ n = omega arith in ap (λ (i : ℕ). (i, false)) same
tail_runs_out long q n (c ∷ s) e = absurd (omega arith)
