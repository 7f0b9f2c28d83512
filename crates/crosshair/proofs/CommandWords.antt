-- Laws of the words of the command line.
use Rattle.std.proofs.Common.{◌≡◌, ℕ, Bool, true, false, List, [], ◌∷◌, length, refl, ap, sym, ◌∙◌, arith}
use Rattle.std.specs.Prelude.{Some, None, codes, slice_get, if◌then◌else◌}
use Rattle.std.specs.Option.{option_map_or}
use Rattle.std.specs.Str.{bytes_eq}
use Rattle.spec_verdicts.specs.Settings.{check_of, checked, settings}

-- whether the first word is the command
abbrev first_is_check : List (List ℕ) → Bool
first_is_check words = option_map_or (λ word. bytes_eq word (codes "check")) (slice_get words 0) false

-- words that begin with another one are refused
pub settings_unlike : (words : List (List ℕ)) → false ≡ first_is_check words → None ≡ settings words
unfolding settings
settings_unlike [] unlike = refl
settings_unlike (x ∷ words) unlike = ap (λ b. if b then checked words else None) unlike

-- words whose rest is no check are refused
refused_rest : (b : Bool) (words : List (List ℕ)) → checked words ≡ None → None ≡ (if b then checked words else None)
refused_rest true words e = sym e
refused_rest false words e = refl

-- any number of words but two and three is refused
pub settings_other : (words : List (List ℕ)) → (length words ≡ 2 → ⊥) → (length words ≡ 3 → ⊥) → None ≡ settings words
unfolding settings
settings_other [] two three = refl
settings_other (x ∷ []) two three = refused_rest (bytes_eq x (codes "check")) [] refl
settings_other (x ∷ y ∷ []) two three = absurd (two refl)
settings_other (x ∷ y ∷ z ∷ []) two three = absurd (three refl)
settings_other (x ∷ y ∷ z ∷ w ∷ words) two three = refused_rest (bytes_eq x (codes "check")) (y ∷ z ∷ w ∷ words) refl

-- the command and one word
pub settings_two : (words : List (List ℕ)) (target : List ℕ) → true ≡ first_is_check words → length words ≡ 2 → slice_get words 1 ≡ Some target → check_of false target ≡ settings words
unfolding settings
settings_two [] target like n first = absurd cc
settings_two (x ∷ []) target like n first = absurd cc
settings_two (x ∷ y ∷ []) target like n first =
    let word : target ≡ y = cc in
    ap (check_of false) word ∙ ap (λ b. if b then check_of false y else None) like
settings_two (x ∷ y ∷ z ∷ words) target like n first = absurd (omega arith)

-- the command and two words
pub settings_three : (words : List (List ℕ)) (a b : List ℕ) → true ≡ first_is_check words → length words ≡ 3 → slice_get words 1 ≡ Some a → slice_get words 2 ≡ Some b → checked (a ∷ b ∷ []) ≡ settings words
unfolding settings
settings_three [] a b like n first second = absurd cc
settings_three (x ∷ []) a b like n first second = absurd cc
settings_three (x ∷ y ∷ []) a b like n first second = absurd cc
settings_three (x ∷ y ∷ z ∷ []) a b like n first second =
    let word : a ≡ y = cc in
    let last : b ≡ z = cc in
    ap (λ w. checked (w ∷ b ∷ [])) word ∙ ap (λ w. checked (y ∷ w ∷ [])) last ∙ ap (λ b. if b then checked (y ∷ z ∷ []) else None) like
settings_three (x ∷ y ∷ z ∷ w ∷ words) a b like n first second = absurd (omega arith)
