-- The variable of a comprehension, which is local within it.
use Rattle.std.proofs.Common.{◌≡◌, ℕ, ◌<◌, Bool, true, false, List, [], ◌∷◌, length, get_or, slice_set, refl, sym, ap, ◌∙◌}
use Rattle.std.proofs.lemmas.Bool.{true≢false}
use Rattle.std.proofs.lemmas.List.{get_or-set_other, get_or-set_same, set-get_or, set-set}
use Rattle.std.specs.Str.{bytes_eq}
use Rattle.std.proofs.lemmas.Slice.Eq.{bytes_eq-Decides}
use Rattle.spec_contracts.specs.ContractLines.{is_among}
use Rattle.spec_uses.specs.Meanings.{Scope, with_locals}
use Rattle.py_tree.specs.declared.ids.NameId.{NameId}
use Rattle.py_tree.specs.Names.{AreDistinct, text_of}
use Rattle.name_scopes.specs.Showing.{Held, IsSized, Shows, meaning_held, with_variable}

-- a name is as it was behind the comprehension
pub variable_back : (h : Held) (n : NameId) → with_variable (with_variable h n true) n (get_or h.inner n.index false) ≡ h
variable_back h n = ap (λ (v : List Bool). record h { inner = v }) (set-set h.inner n.index true (get_or h.inner n.index false) ∙ set-get_or h.inner n.index false)

-- ---- the scope in the comprehension

module _ (names : List (List ℕ)) (h : Held) (s : Scope) (n : NameId) (distinct : AreDistinct names) (there : n.index < length names) (sized : IsSized names h) (shows : Shows names h s) where
  abbrev within : Scope
  within = with_locals (text_of names n ∷ []) s

  is_named : (k : NameId) → Bool
  is_named k = is_among (text_of names n ∷ []) (text_of names k)

  meaning_of : (k : NameId) → k.index < length names → meaning_held names (with_variable h n true) k ≡ within.meaning (text_of names k)
  meaning_of k lt = by_text (bytes_eq (text_of names k) (text_of names n)) refl
    where
      by_text : (b : Bool) → bytes_eq (text_of names k) (text_of names n) ≡ b → meaning_held names (with_variable h n true) k ≡ within.meaning (text_of names k)
      by_text true e =
          let same : k.index ≡ n.index = distinct k.index n.index lt there ((bytes_eq-Decides (text_of names k) (text_of names n)).0 e) in
          let mark : get_or (slice_set h.inner n.index true) k.index false ≡ true = rw same (get_or-set_same h.inner n.index true false (rw sized.inner there)) in
          rw (mark, e) refl
      by_text false e =
          let other : k.index ≡ n.index → ⊥ = λ same. true≢false (sym ((bytes_eq-Decides (text_of names k) (text_of names n)).1 (ap (λ (i : ℕ). get_or names i []) same)) ∙ e) in
          rw (get_or-set_other h.inner n.index k.index true false other, e) (shows.meanings k lt)

  pub shows_variable : Shows names (with_variable h n true) within
  shows_variable = record { meanings = meaning_of; olds = shows.olds }
