-- Operators and brackets: what is found is one, and none is longer.
use Rattle.std.proofs.Common.{◌≡◌, ℕ, ◌<◌, ◌⊎◌, Bool, true, false, cond, ◌==◌, List, [], ◌∷◌, ◌++◌, length, Option, Some, None, refl, sym, ap, subst, inl, inr, arith, ◌∙◌}
use Rattle.std.specs.Prelude.{◌||◌, ◌&&◌}
use Rattle.std.specs.List.{list_all}
use Rattle.std.specs.Option.{is_none}
use Rattle.std.proofs.lemmas.Bool.{eqb-true, and_parts, or_cases, or_left}
use Rattle.spec_tokens.specs.declared.Bracket.TheVariants.{Round, Square, Curly}
use Rattle.spec_tokens.specs.declared.Kind.{Kind}
use Rattle.spec_tokens.specs.declared.Kind.TheVariants.{Operator, Open, Close, Unknown}
use Rattle.spec_tokens.specs.Forms.{is_sign, is_assigning, is_doubled, is_pair, is_triple, is_operator, IsForm}
use Rattle.spec_tokens.specs.Cutting.{bracket_of, single, operator_of, sign_of, piece_of}
use Rattle.spec_tokens.proofs.Found.{IsFound, Reaches}
use Rattle.spec_tokens.proofs.Fronts.{is_apart, apart_front}

-- ---- first letters

-- whether a letter is one of those
abbrev one_of : List ℕ → ℕ → Bool
one_of [] c = false
one_of (d ∷ []) c = c == d
one_of (d ∷ e ∷ ds) c = one_of (e ∷ ds) c || c == d

-- a test that holds of letters holds of each one of them
each : (t : ℕ → Bool) (ds : List ℕ) (c : ℕ) → list_all t ds ≡ true → one_of ds c ≡ true → t c ≡ true
each t [] c h g = absurd cc
each t (d ∷ []) c h g = ap t (eqb-true c d g) ∙ (and_parts (t d) true h).0
each t (d ∷ e ∷ ds) c h g =
    let both = and_parts (t d) (list_all t (e ∷ ds)) h in
    elim (or_cases (one_of (e ∷ ds) c) (c == d) g) [
      | inl f ↦ each t (e ∷ ds) c both.1 f
      | inr f ↦ ap t (eqb-true c d f) ∙ both.0
    ]

-- a letter with which an operator begins
abbrev is_front : ℕ → Bool
is_front c = is_sign c || c == 33

-- a letter with which an operator begins is apart, and no bracket
front_apart : (c : ℕ) → is_front c ≡ true → (is_apart c && is_none (bracket_of c)) ≡ true
front_apart c h = at (or_cases (is_sign c) (c == 33) h)
  where
    at : (is_sign c ≡ true) ⊎ ((c == 33) ≡ true) → (is_apart c && is_none (bracket_of c)) ≡ true
    at (inl e) = each (λ d. is_apart d && is_none (bracket_of d)) (64 ∷ 61 ∷ 59 ∷ 46 ∷ 58 ∷ 44 ∷ 62 ∷ 60 ∷ 126 ∷ 94 ∷ 124 ∷ 38 ∷ 37 ∷ 47 ∷ 42 ∷ 45 ∷ 43 ∷ []) c refl e
    at (inr e) = rw (eqb-true c 33 e) refl

-- an option that is told to be None is it
none_is : (o : Option Kind) → is_none o ≡ true → o ≡ None
none_is None h = refl
none_is (Some k) h = absurd cc

-- where such a letter comes first, an operator is looked up
operator_front : (c : ℕ) (s : List ℕ) → is_front c ≡ true → piece_of (c ∷ s) ≡ operator_of c s
operator_front c s h =
    let both = and_parts (is_apart c) (is_none (bracket_of c)) (front_apart c h) in
    apart_front c s both.0 ∙ ap (λ (o : Option Kind). sign_of o c s) (none_is (bracket_of c) both.1)

-- an operator of two letters begins with such a letter
pair_front : (c d : ℕ) → is_pair c d ≡ true → is_front c ≡ true
pair_front c d h = at (or_cases ((d == 61 && is_assigning c) || (c == d && is_doubled c)) (c == 45 && d == 62) h)
  where
    two : ((d == 61 && is_assigning c) ≡ true) ⊎ ((c == d && is_doubled c) ≡ true) → is_front c ≡ true
    two (inl e) = each is_front (58 ∷ 94 ∷ 124 ∷ 38 ∷ 37 ∷ 42 ∷ 45 ∷ 43 ∷ 33 ∷ 61 ∷ 62 ∷ 60 ∷ []) c refl (and_parts (d == 61) (is_assigning c) e).1
    two (inr e) = each is_front (62 ∷ 60 ∷ 47 ∷ 42 ∷ []) c refl (and_parts (c == d) (is_doubled c) e).1

    at : (((d == 61 && is_assigning c) || (c == d && is_doubled c)) ≡ true) ⊎ ((c == 45 && d == 62) ≡ true) → is_front c ≡ true
    at (inl e) = two (or_cases (d == 61 && is_assigning c) (c == d && is_doubled c) e)
    at (inr e) = ap is_front (eqb-true c 45 (and_parts (c == 45) (d == 62) e).0)

-- so does one of three letters
triple_front : (c d e : ℕ) → is_triple c d e ≡ true → is_front c ≡ true
triple_front c d e h = at (or_cases ((e == 61 && c == d) && (c == 60 || c == 62 || c == 47)) ((c == 46 && d == 46) && e == 46) h)
  where
    at : (((e == 61 && c == d) && (c == 60 || c == 62 || c == 47)) ≡ true) ⊎ (((c == 46 && d == 46) && e == 46) ≡ true) → is_front c ≡ true
    at (inl g) = each is_front (47 ∷ 62 ∷ 60 ∷ []) c refl (and_parts (e == 61 && c == d) (c == 60 || c == 62 || c == 47) g).1
    at (inr g) = ap is_front (eqb-true c 46 (and_parts (c == 46) (d == 46) (and_parts (c == 46 && d == 46) (e == 46) g).0).0)

-- ---- what is found

-- one sign is an operator, and another letter is unknown
single_found : (c : ℕ) (s : List ℕ) → IsFound (c ∷ s) (single c)
single_found c s = at (is_sign c) refl
  where
    at : (b : Bool) → is_sign c ≡ b → IsFound (c ∷ s) (cond b (Operator, 1) (Unknown, 1))
    at true e = inl e
    at false e = inr (refl, refl)

-- the operator that is found is one, or the letter is unknown
operator_found : (c : ℕ) (s : List ℕ) → IsFound (c ∷ s) (operator_of c s)
operator_found c [] = single_found c []
operator_found c (d ∷ []) = at (is_pair c d) refl
  where
    at : (b : Bool) → is_pair c d ≡ b → IsFound (c ∷ d ∷ []) (cond b (Operator, 2) (single c))
    at true e = inl e
    at false e = single_found c (d ∷ [])
operator_found c (d ∷ e ∷ s) = at (is_triple c d e) (is_pair c d) refl refl
  where
    at : (a b : Bool) → is_triple c d e ≡ a → is_pair c d ≡ b → IsFound (c ∷ d ∷ e ∷ s) (cond a (Operator, 3) (cond b (Operator, 2) (single c)))
    at true b ea eb = inl ea
    at false true ea eb = inl eb
    at false false ea eb = single_found c (d ∷ e ∷ s)

-- a letter that is a bracket is its form
bracket_found : (c : ℕ) (k : Kind) → bracket_of c ≡ Some k → IsForm k (c ∷ [])
bracket_found c k h = at (c == 40) (c == 91) (c == 123) (c == 41) (c == 93) (c == 125) refl refl refl refl refl refl h
  where
    is : (d : ℕ) (j : Kind) → (c == d) ≡ true → Some j ≡ Some k → IsForm j (d ∷ []) → IsForm k (c ∷ [])
    is d j e f g = let i : j ≡ k = cc in subst (λ (x : Kind). IsForm x (c ∷ [])) i (subst (λ (x : ℕ). IsForm j (x ∷ [])) (sym (eqb-true c d e)) g)

    at : (p q r s t u : Bool) → (c == 40) ≡ p → (c == 91) ≡ q → (c == 123) ≡ r → (c == 41) ≡ s → (c == 93) ≡ t → (c == 125) ≡ u
        → cond p (Some (Open Round)) (cond q (Some (Open Square)) (cond r (Some (Open Curly)) (cond s (Some (Close Round)) (cond t (Some (Close Square)) (cond u (Some (Close Curly)) None))))) ≡ Some k → IsForm k (c ∷ [])
    at true q r s t u ep eq er es et eu h = is 40 (Open Round) ep h refl
    at false true r s t u ep eq er es et eu h = is 91 (Open Square) eq h refl
    at false false true s t u ep eq er es et eu h = is 123 (Open Curly) er h refl
    at false false false true t u ep eq er es et eu h = is 41 (Close Round) es h refl
    at false false false false true u ep eq er es et eu h = is 93 (Close Square) et h refl
    at false false false false false true ep eq er es et eu h = is 125 (Close Curly) eu h refl
    at false false false false false false ep eq er es et eu h = absurd cc

-- the bracket or operator that is found is one, or the letter is unknown
pub sign_found : (c : ℕ) (s : List ℕ) → IsFound (c ∷ s) (sign_of (bracket_of c) c s)
sign_found c s = at (bracket_of c) refl
  where
    at : (o : Option Kind) → bracket_of c ≡ o → IsFound (c ∷ s) (sign_of o c s)
    at (Some k) e = inl (bracket_found c k e)
    at None e = operator_found c s

-- ---- none is longer

-- where the first letter is a sign, an operator is found
sign_reached : (c : ℕ) (s : List ℕ) → is_sign c ≡ true → Reaches Operator 1 (operator_of c s)
sign_reached c [] h = rw h (omega arith, λ e. refl)
sign_reached c (d ∷ []) h = rw h (at (is_pair c d))
  where
    at : (b : Bool) → Reaches Operator 1 (cond b (Operator, 2) (Operator, 1))
    at true = (omega arith, λ e. refl)
    at false = (omega arith, λ e. refl)
sign_reached c (d ∷ e ∷ s) h = rw h (at (is_triple c d e) (is_pair c d))
  where
    at : (a b : Bool) → Reaches Operator 1 (cond a (Operator, 3) (cond b (Operator, 2) (Operator, 1)))
    at true b = (omega arith, λ e. refl)
    at false true = (omega arith, λ e. refl)
    at false false = (omega arith, λ e. refl)

-- where the first two letters are a pair, an operator of two letters or more is found
pair_reached : (c d : ℕ) (s : List ℕ) → is_pair c d ≡ true → Reaches Operator 2 (operator_of c (d ∷ s))
pair_reached c d [] h = rw h (omega arith, λ e. refl)
pair_reached c d (e ∷ s) h = rw h (at (is_triple c d e))
  where
    at : (b : Bool) → Reaches Operator 2 (cond b (Operator, 3) (Operator, 2))
    at true = (omega arith, λ e. refl)
    at false = (omega arith, λ e. refl)

-- an operator is found, or a longer one
pub operator_reached : (w r : List ℕ) → is_operator w ≡ true → (0 < length w) × Reaches Operator (length w) (piece_of (w ++ r))
operator_reached [] r h = absurd cc
operator_reached (c ∷ []) r h = (omega arith, rw (operator_front c r (or_left (is_sign c) (c == 33) h)) (sign_reached c r h))
operator_reached (c ∷ d ∷ []) r h = (omega arith, rw (operator_front c (d ∷ r) (pair_front c d h)) (pair_reached c d r h))
operator_reached (c ∷ d ∷ e ∷ []) r h = (omega arith, rw (operator_front c (d ∷ e ∷ r) (triple_front c d e h), h) (omega arith, λ f. refl))
operator_reached (c ∷ d ∷ e ∷ f ∷ w) r h = absurd cc
