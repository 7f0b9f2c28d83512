-- Letters that start with others.
use Rattle.std.proofs.Common.{◌≡◌, ℕ, ◌≤◌, ◌<◌, ◌⊎◌, true, false, List, ◌++◌, length, drop, refl, sym, ap, ◌∙◌, inl, inr}
use Rattle.std.specs.Prelude.{nat_eq}
use Rattle.std.specs.List.{starts_with}
use Rattle.std.proofs.lemmas.Bool.{both_ways, cases_lt, false_from_ne_true}
use Rattle.std.proofs.lemmas.Bool.Decides.{Decides-eqb}
use Rattle.std.proofs.lemmas.List.{append_assoc, take-append-le}
use Rattle.std.proofs.lemmas.Slice.Eq.{starts_is}

-- letters that start with others are those and more
pub starts_parts : (s w : List ℕ) → starts_with nat_eq s w ≡ true → s ≡ w ++ drop (length w) s
starts_parts s w h = (starts_is Decides-eqb s w (starts_with nat_eq s w) refl).0 h

-- letters and more start with those letters
pub starts_from : (s w r : List ℕ) → s ≡ w ++ r → starts_with nat_eq s w ≡ true
starts_from s w r h = (starts_is Decides-eqb s w (starts_with nat_eq s w) refl).1 r h

-- with more letters they start with the same
pub starts_more : (s r w : List ℕ) → starts_with nat_eq s w ≡ true → starts_with nat_eq (s ++ r) w ≡ true
starts_more s r w h = starts_from (s ++ r) w (drop (length w) s ++ r) (ap (λ v. v ++ r) (starts_parts s w h) ∙ append_assoc w (drop (length w) s) r)

-- with fewer letters they start with nothing more
pub starts_none : (s r w : List ℕ) → starts_with nat_eq (s ++ r) w ≡ false → starts_with nat_eq s w ≡ false
starts_none s r w h = false_from_ne_true (starts_with nat_eq s w) (λ t. both_ways (starts_with nat_eq (s ++ r) w) h (starts_more s r w t))

-- what starts letters depends on no letter behind it
pub starts_same : (s r w : List ℕ) → length w ≤ length s → starts_with nat_eq (s ++ r) w ≡ starts_with nat_eq s w
starts_same s r w le = rw (take-append-le (length w) s r le) refl

-- what starts only more letters is longer than the first of them
pub starts_longer : (s r w : List ℕ) → starts_with nat_eq s w ≡ false → starts_with nat_eq (s ++ r) w ≡ true → length s < length w
starts_longer s r w f t = at (cases_lt (length s) (length w))
  where
    at : (length s < length w) ⊎ (length w ≤ length s) → length s < length w
    at (inl lt) = lt
    at (inr le) = absurd (both_ways (starts_with nat_eq s w) f (sym (starts_same s r w le) ∙ t))
