-- Names with commas between them, one after the other.
use Rattle.std.proofs.Common.{◌≡◌, ℕ, List, [], ◌∷◌, ◌++◌, ◌==◌, Bool, Option, Some, None, refl, sym, ap, ◌∙◌}
use Rattle.std.proofs.lemmas.List.{append_assoc}
use Rattle.std.specs.List.{before_first}
use Rattle.spec_grammar.specs.Reading.{◌>>=◌}
use Rattle.spec_contracts.specs.Heads.{all_named, name_in}
use Rattle.contract_entries.specs.Letters.{behind_first, parts_of}
use Rattle.contract_entries.specs.Names.{behind_names}
use Rattle.contract_entries.proofs.Cutting.{split_is}

abbrev comma : ℕ → Bool
comma = λ c. c == 44

one_more : (xs : List (List ℕ)) (x : List ℕ) (o : Option (List (List ℕ))) → behind_names xs (o >>= λ ys. Some (x ∷ ys)) ≡ behind_names (xs ++ x ∷ []) o
one_more xs x None = refl
one_more xs x (Some ys) = ap (λ (v : List (List ℕ)). Some v) (sym (append_assoc xs (x ∷ []) ys))

-- names that are read before the rest, of which a part comes next
module _ (r : Option (List (List ℕ))) (xs : List (List ℕ)) (o : Option (List ℕ)) (s part : List ℕ) (h : r ≡ behind_names xs (all_named (parts_of comma o))) (rest : o ≡ Some s) (cut : part ≡ before_first comma s) where
  next_is : (n : Option (List ℕ)) → name_in part ≡ n → r ≡ behind_names xs (n >>= λ x. all_named (parts_of comma (behind_first comma s)) >>= λ ys. Some (x ∷ ys))
  next_is n e = h ∙ rw (rest, split_is comma s, ← cut, e) refl

  -- what is no name is no list of names
  pub no_name : name_in part ≡ None → r ≡ None
  no_name e = next_is None e

  pub next_name : (x : List ℕ) (t : Option (List ℕ)) → name_in part ≡ Some x → t ≡ behind_first comma s → r ≡ behind_names (xs ++ x ∷ []) (all_named (parts_of comma t))
  next_name x t e f = next_is (Some x) e ∙ rw f (one_more xs x (all_named (parts_of comma (behind_first comma s))))
