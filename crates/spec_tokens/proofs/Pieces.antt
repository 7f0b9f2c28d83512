-- The piece at the front of letters is the one that is found.
use Rattle.std.proofs.Common.{◌≡◌, ℕ, ◌<◌, ◌≤◌, List, [], ◌∷◌, ◌++◌, length, take, drop, sym, ap, subst, inl, inr, arith, ◌∙◌}
use Rattle.std.proofs.lemmas.List.{take-append-drop, length-append, length-take-le}
use Rattle.spec_tokens.specs.declared.Kind.{Kind}
use Rattle.spec_tokens.specs.declared.Kind.TheVariants.{Unknown}
use Rattle.spec_tokens.specs.Forms.{IsForm}
use Rattle.spec_tokens.specs.Pieces.{NoForm, IsLongest, IsPiece, longest, unknown}
use Rattle.spec_tokens.specs.Cutting.{Front, piece_of}
use Rattle.spec_tokens.proofs.Found.{IsFound, Reaches}
use Rattle.spec_tokens.proofs.Forms.{piece_found, form_reached}
use Rattle.spec_tokens.proofs.Sizes.{piece_size}

-- a form at the front of letters is no longer than what is found there
front_reached : (k : Kind) (s v q : List ℕ) → IsForm k v → s ≡ v ++ q → (0 < length v) × Reaches k (length v) (piece_of s)
front_reached k s v q f e = rw e (form_reached k v q f)

-- a form that is found is the longest
found_longest : (k : Kind) (n : ℕ) (s : List ℕ) → piece_of s ≡ (k, n) → n ≤ length s → IsForm k (take n s) → IsLongest k (take n s) (drop n s)
found_longest k n s e le f = record {
  form = f;
  longest = λ j v q g h.
      let reached = front_reached j s v q g (sym (take-append-drop n s) ∙ h) in
      let size : (piece_of s).1 ≡ n = ap (λ (x : Front). x.1) e in
      let own = length-take-le n s le in
      omega arith;
}

-- no form starts where an unknown letter is found
found_none : (s : List ℕ) → (piece_of s).0 ≡ Unknown → (piece_of s).1 ≡ 1 → NoForm s
found_none s kind size k w r f e =
    let reached = front_reached k s w r f e in
    let one : length w ≡ (piece_of s).1 = omega arith in
    let same : Unknown ≡ k = sym kind ∙ reached.1.1 one in
    subst (λ (j : Kind). IsForm j w) (sym same) f

-- an unknown letter that is found is a piece
found_unknown : (s : List ℕ) → 0 < length s → (piece_of s).0 ≡ Unknown → (piece_of s).1 ≡ 1 → IsPiece Unknown (take 1 s) (drop 1 s)
found_unknown [] lt kind size = absurd (omega arith)
found_unknown (c ∷ s) lt kind size = unknown (found_none (c ∷ s) kind size)

-- what is found is a piece
found_piece : (s : List ℕ) (k : Kind) (n : ℕ) → 0 < length s → piece_of s ≡ (k, n) → n ≤ length s → IsFound s (k, n) → IsPiece k (take n s) (drop n s)
found_piece s k n lt e le (inl f) = longest (found_longest k n s e le f)
found_piece s k n lt e le (inr u) = rw (u.0, u.1) (found_unknown s lt (ap (λ (x : Front). x.0) e ∙ u.0) (ap (λ (x : Front). x.1) e ∙ u.1))

-- the piece that is found is one, has a letter, and has no more than there are
pub piece_is : (s : List ℕ) (k : Kind) (n : ℕ) → 0 < length s → piece_of s ≡ (k, n) → (0 < n) × (n ≤ length s) × IsPiece k (take n s) (drop n s)
piece_is s k n lt e =
    let size = piece_size s lt in
    let same : (piece_of s).1 ≡ n = ap (λ (x : Front). x.1) e in
    let within : n ≤ length s = omega arith in
    (omega arith, within, found_piece s k n lt e within (subst (λ (x : Front). IsFound s x) e (piece_found s lt)))

-- a kind and a number of letters are those of a piece
front_is : (x : Front) (k : Kind) (n : ℕ) → x.0 ≡ k → x.1 ≡ n → x ≡ (k, n)
front_is (j, m) k n e f = cc

-- what is found is no longer than the longest form
longest_most : (k : Kind) (w r : List ℕ) → IsLongest k w r → 0 < length w → (x : Front) → x.1 ≤ length (w ++ r) → IsFound (w ++ r) x → x.1 ≤ length w
longest_most k w r h some x le (inl f) =
    let own = length-take-le x.1 (w ++ r) le in
    let most = h.longest x.0 (take x.1 (w ++ r)) (drop x.1 (w ++ r)) f (sym (take-append-drop x.1 (w ++ r))) in
    omega arith
longest_most k w r h some x le (inr u) = omega arith

-- no other form is the longest
longest_only : (k : Kind) (w r : List ℕ) → IsLongest k w r → (0 < length w) × (piece_of (w ++ r) ≡ (k, length w))
longest_only k w r h =
    let reached = form_reached k w r h.form in
    let whole = length-append w r in
    let some : 0 < length (w ++ r) = omega arith in
    let most = longest_most k w r h reached.0 (piece_of (w ++ r)) (piece_size (w ++ r) some).1 (piece_found (w ++ r) some) in
    let same : length w ≡ (piece_of (w ++ r)).1 = omega arith in
    (reached.0, front_is (piece_of (w ++ r)) k (length w) (reached.1.1 same) (sym same))

-- where no form starts, an unknown letter is found
none_only : (c : ℕ) (r : List ℕ) → NoForm (c ∷ r) → piece_of (c ∷ r) ≡ (Unknown, 1)
none_only c r h = at (piece_found (c ∷ r) (omega arith))
  where
    at : IsFound (c ∷ r) (piece_of (c ∷ r)) → piece_of (c ∷ r) ≡ (Unknown, 1)
    at (inl f) = absurd (h (piece_of (c ∷ r)).0 (take (piece_of (c ∷ r)).1 (c ∷ r)) (drop (piece_of (c ∷ r)).1 (c ∷ r)) f (sym (take-append-drop (piece_of (c ∷ r)).1 (c ∷ r))))
    at (inr u) = front_is (piece_of (c ∷ r)) Unknown 1 u.0 u.1

-- there is no other piece, and it has a letter
pub piece_only : (k : Kind) (w r : List ℕ) → IsPiece k w r → (0 < length w) × (piece_of (w ++ r) ≡ (k, length w))
piece_only k w r (longest h) = longest_only k w r h
piece_only k w r (unknown {c = c} h) = (omega arith, none_only c r h)
