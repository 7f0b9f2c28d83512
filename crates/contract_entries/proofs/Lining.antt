-- The lines of a docstring, one after the other.
use Rattle.std.proofs.Common.{◌≡◌, ℕ, suc, ◌-◌, List, [], ◌∷◌, ◌++◌, ◌==◌, length, take, drop, Bool, Option, Some, refl, sym, ap, subst, ◌∙◌}
use Rattle.std.proofs.lemmas.List.{append_assoc}
use Rattle.std.specs.List.{before_first, slice_split}
use Rattle.spec_tokens.specs.Letters.{run, is_blank}
use Rattle.spec_syntax.specs.Texts.{unindented}
use Rattle.spec_contracts.specs.Docstrings.{DocLine, numbered}
use Rattle.contract_entries.specs.Letters.{behind_first, parts_of}
use Rattle.contract_entries.proofs.Cutting.{split_is, unindented_is}

abbrev feed : ℕ → Bool
feed = λ c. c == 10

abbrev line_of : ℕ → ℕ → List ℕ → DocLine
line_of n k s = record { number = n; indent = k; text = s }

pub line_is : (n k : ℕ) (s : List ℕ) → k ≡ run is_blank s → line_of n k (take (length s - k) (drop k s)) ≡ line_of n (run is_blank s) (unindented s)
line_is n k s e = subst (λ (j : ℕ). line_of n j (take (length s - j) (drop j s)) ≡ line_of n (run is_blank s) (unindented s)) (sym e) (ap (line_of n (run is_blank s)) (sym (unindented_is s)))

-- ---- lines that are read before the rest

pub first_line : (n : ℕ) (s t : List ℕ) (u : Option (List ℕ)) → t ≡ before_first feed s → u ≡ behind_first feed s → numbered n (slice_split feed s) ≡ numbered n (t ∷ parts_of feed u)
first_line n s t u before after = rw (split_is feed s, before, after) refl

module _ (ls : List DocLine) where
  -- the line at hand is read, and the next is cut from what stands behind it
  pub next_line : (r : List DocLine) (n : ℕ) (s : List ℕ) (o : Option (List ℕ)) (behind : List ℕ) (l : DocLine) (t : List ℕ) (u : Option (List ℕ))
      → r ≡ ls ++ numbered n (s ∷ parts_of feed o) → o ≡ Some behind → l ≡ line_of n (run is_blank s) (unindented s) → t ≡ before_first feed behind → u ≡ behind_first feed behind
      → r ≡ (ls ++ l ∷ []) ++ numbered (suc n) (t ∷ parts_of feed u)
  next_line r n s o behind l t u h rest is before after =
      h ∙ rw (rest, is, before, after) (ap (λ (v : List (List ℕ)). ls ++ line_of n (run is_blank s) (unindented s) ∷ numbered (suc n) v) (split_is feed behind) ∙ sym (append_assoc ls (line_of n (run is_blank s) (unindented s) ∷ []) (numbered (suc n) (before_first feed behind ∷ parts_of feed (behind_first feed behind)))))
