-- How the functions that cut go on, case by case.
use Rattle.std.proofs.Common.{◌≡◌, ℕ, suc, ◌+◌, ◌<◌, Bool, true, false, cond, ◌==◌, List, [], ◌∷◌, length, drop, refl, sym, subst, arith}
use Rattle.std.specs.Prelude.{◌||◌, nat_eq}
use Rattle.std.specs.List.{starts_with}
use Rattle.std.proofs.lemmas.Bool.{eqb-true}
use Rattle.spec_tokens.specs.declared.Kind.TheVariants.{Blank, Comment, LineEnd, Integer, Text, OpenText}
use Rattle.spec_tokens.specs.Letters.{run, is_blank, is_inline, is_digit, begins_name, continues_name, is_quote}
use Rattle.spec_tokens.specs.Forms.{quotes_of}
use Rattle.spec_tokens.specs.Cutting.{Front, Tail, longer, tail, escaped_tail, sized, string_of, named, integer_length, bracket_of, sign_of, join_of, piece_of}

-- a fact on letters and the piece at their front holds if it does in each branch of `piece_of`
pub piece_by : (P : List ℕ → Front → Type 0)
    → ((c : ℕ) (s : List ℕ) → is_blank c ≡ true → P (c ∷ s) (Blank, suc (run is_blank s)))
    → ((s : List ℕ) → P (35 ∷ s) (Comment, suc (run is_inline s)))
    → ((s : List ℕ) → P (10 ∷ s) (LineEnd, 1))
    → ((s : List ℕ) → P (92 ∷ s) (join_of s))
    → ((c : ℕ) (s : List ℕ) → is_quote c ≡ true → P (c ∷ s) (string_of 0 c s))
    → ((c : ℕ) (s : List ℕ) → is_digit c ≡ true → P (c ∷ s) (Integer, integer_length c s))
    → ((c : ℕ) (s : List ℕ) → begins_name c ≡ true → P (c ∷ s) (named c (run continues_name s) (drop (run continues_name s) s)))
    → ((c : ℕ) (s : List ℕ) → P (c ∷ s) (sign_of (bracket_of c) c s))
    → (s : List ℕ) → 0 < length s → P s (piece_of s)
unfolding piece_of
piece_by P blank comment feed slash quote digit name sign [] lt = absurd (omega arith)
piece_by P blank comment feed slash quote digit name sign (c ∷ s) lt = at (is_blank c) (c == 35) (c == 10) (c == 92) (is_quote c) (is_digit c) (begins_name c) refl refl refl refl refl refl refl
  where
    at : (b h f l q d n : Bool) → is_blank c ≡ b → (c == 35) ≡ h → (c == 10) ≡ f → (c == 92) ≡ l → is_quote c ≡ q → is_digit c ≡ d → begins_name c ≡ n
        → P (c ∷ s) (cond b (Blank, suc (run is_blank s)) (cond h (Comment, suc (run is_inline s)) (cond f (LineEnd, 1) (cond l (join_of s) (cond q (string_of 0 c s) (cond d (Integer, integer_length c s)
        (cond n (named c (run continues_name s) (drop (run continues_name s) s)) (sign_of (bracket_of c) c s))))))))
    at true h f l q d n eb eh ef el eq ed en = blank c s eb
    at false true f l q d n eb eh ef el eq ed en = subst (λ (e : ℕ). P (e ∷ s) (Comment, suc (run is_inline s))) (sym (eqb-true c 35 eh)) (comment s)
    at false false true l q d n eb eh ef el eq ed en = subst (λ (e : ℕ). P (e ∷ s) (LineEnd, 1)) (sym (eqb-true c 10 ef)) (feed s)
    at false false false true q d n eb eh ef el eq ed en = subst (λ (e : ℕ). P (e ∷ s) (join_of s)) (sym (eqb-true c 92 el)) (slash s)
    at false false false false true d n eb eh ef el eq ed en = quote c s eq
    at false false false false false true n eb eh ef el eq ed en = digit c s ed
    at false false false false false false true eb eh ef el eq ed en = name c s en
    at false false false false false false false eb eh ef el eq ed en = sign c s

-- a fact on letters and how far a string goes on in them holds if it does in each branch of `tail`, also for what is behind
pub tail_by : (long : Bool) (q : ℕ) (P : List ℕ → Tail → Type 0)
    → P [] (0, false)
    → ((s : List ℕ) → starts_with nat_eq s (quotes_of long q) ≡ true → P s (length (quotes_of long q), true))
    → ((c : ℕ) (s : List ℕ) (t : Tail) → P s t → P (92 ∷ c ∷ s) (longer 2 t))
    → ((c : ℕ) (s : List ℕ) (t : Tail) → (c == 92) ≡ false → starts_with nat_eq (c ∷ s) (quotes_of long q) ≡ false → (long || is_inline c) ≡ true → P s t → P (c ∷ s) (longer 1 t))
    → ((c : ℕ) (s : List ℕ) → starts_with nat_eq (c ∷ s) (quotes_of long q) ≡ false → P (c ∷ s) (0, false))
    → (s : List ℕ) → P s (tail long q s)
unfolding tail escaped_tail
tail_by long q P none closes escapes goes stops [] = none
tail_by long q P none closes escapes goes stops (c ∷ []) = at (starts_with nat_eq (c ∷ []) (quotes_of long q)) (c == 92) (long || is_inline c) refl refl refl
  where
    at : (a b e : Bool) → starts_with nat_eq (c ∷ []) (quotes_of long q) ≡ a → (c == 92) ≡ b → (long || is_inline c) ≡ e
        → P (c ∷ []) (cond a (length (quotes_of long q), true) (cond b (0, false) (cond e (longer 1 (0, false)) (0, false))))
    at true b e ea eb ee = closes (c ∷ []) ea
    at false true e ea eb ee = stops c [] ea
    at false false true ea eb ee = goes c [] (0, false) eb ea ee none
    at false false false ea eb ee = stops c [] ea
tail_by long q P none closes escapes goes stops (c ∷ d ∷ s) =
    at (starts_with nat_eq (c ∷ d ∷ s) (quotes_of long q)) (c == 92) (long || is_inline c) refl refl refl (tail_by long q P none closes escapes goes stops (d ∷ s)) (tail_by long q P none closes escapes goes stops s)
  where
    at : (a b e : Bool) → starts_with nat_eq (c ∷ d ∷ s) (quotes_of long q) ≡ a → (c == 92) ≡ b → (long || is_inline c) ≡ e → P (d ∷ s) (tail long q (d ∷ s)) → P s (tail long q s)
        → P (c ∷ d ∷ s) (cond a (length (quotes_of long q), true) (cond b (longer 2 (tail long q s)) (cond e (longer 1 (tail long q (d ∷ s))) (0, false))))
    at true b e ea eb ee one two = closes (c ∷ d ∷ s) ea
    at false true e ea eb ee one two = subst (λ (x : ℕ). P (x ∷ d ∷ s) (longer 2 (tail long q s))) (sym (eqb-true c 92 eb)) (escapes d s (tail long q s) two)
    at false false true ea eb ee one two = goes c (d ∷ s) (tail long q (d ∷ s)) eb ea ee one
    at false false false ea eb ee one two = stops c (d ∷ s) ea

-- the kind of a string tells whether it is closed, and its letters are those passed and those behind
pub sized_is : (n : ℕ) (t : Tail) → sized n t ≡ (cond t.1 Text OpenText, n + t.0)
sized_is n (m, true) = refl
sized_is n (m, false) = refl

-- a string ends at its closing quotes
pub tail_closes : (long : Bool) (q c : ℕ) (s : List ℕ) → starts_with nat_eq (c ∷ s) (quotes_of long q) ≡ true → tail long q (c ∷ s) ≡ (length (quotes_of long q), true)
unfolding tail
tail_closes long q c s h = rw h refl

-- behind a backslash a letter is passed
pub tail_escapes : (long : Bool) (q c : ℕ) (s : List ℕ) → starts_with nat_eq (92 ∷ c ∷ s) (quotes_of long q) ≡ false → tail long q (92 ∷ c ∷ s) ≡ longer 2 (tail long q s)
unfolding tail escaped_tail
tail_escapes long q c s h = rw h refl

-- another letter is passed
pub tail_goes : (long : Bool) (q c : ℕ) (s : List ℕ) → (c == 92) ≡ false → starts_with nat_eq (c ∷ s) (quotes_of long q) ≡ false → (long || is_inline c) ≡ true → tail long q (c ∷ s) ≡ longer 1 (tail long q s)
unfolding tail
tail_goes long q c s a h b = rw (h, a, b) refl
