-- Turns of the loops over the insides of strings.
use Rattle.std.proofs.Common.{◌≡◌, ℕ, zero, suc, Bool, true, false, cond, ◌==◌, List, [], ◌∷◌, ◌++◌, length, drop, Option, Some, None, is_some, refl, sym, ap, arith, append_assoc}
use Rattle.std.specs.Option.{option_map}
use Rattle.spec_tokens.specs.Values.{Escape, escape_of, before_rest, unescaped}
use Rattle.py_tokens.specs.Given.{given_of}

-- letters that are passed are dropped
passed : (n : ℕ) (s : List ℕ) → unescaped n s ≡ unescaped zero (drop n s)
unfolding unescaped
passed zero s = refl
passed (suc n) [] = refl
passed (suc n) (c ∷ s) = passed n s

-- a letter gives what it does with those that belong to it, before the rest
unescaped_first : (c : ℕ) (s : List ℕ) → unescaped zero (c ∷ s) ≡ before_rest (given_of c s) (λ n. unescaped zero (drop n s))
unfolding unescaped
unescaped_first c s = at (c == 92)
  where
    behind : (e : Escape) → before_rest e (λ n. unescaped n s) ≡ before_rest e (λ n. unescaped zero (drop n s))
    behind None = refl
    behind (Some x) = ap (option_map (λ (v : List ℕ). x.1 ++ v)) (passed x.0 s)

    at : (b : Bool) → cond b (before_rest (escape_of s) (λ n. unescaped n s)) (option_map (λ v. c ∷ v) (unescaped zero s))
        ≡ before_rest (cond b (escape_of s) (Some (0, c ∷ []))) (λ n. unescaped zero (drop n s))
    at true = behind (escape_of s)
    at false = refl

-- an escape with no value leaves the whole with none
pub unescaped_fails : (c : ℕ) (rest s : List ℕ) → rest ≡ c ∷ s → None ≡ given_of c s → unescaped zero rest ≡ None
unescaped_fails c rest s e none = rw (e, unescaped_first c s, ← none) refl

pub unescaped_turns : (c n : ℕ) (g rest s behind : List ℕ) → rest ≡ c ∷ s → Some (n, g) ≡ given_of c s → behind ≡ drop n s → unescaped zero rest ≡ option_map (λ v. g ++ v) (unescaped zero behind)
unescaped_turns c n g rest s behind e given b = rw (e, unescaped_first c s, ← given, b) refl

pub unescaped_ends : (rest : List ℕ) → length rest ≡ 0 → unescaped zero rest ≡ Some []
unfolding unescaped
unescaped_ends [] e = refl
unescaped_ends (c ∷ s) e = absurd (omega arith)

-- what stands before a value leaves whether there is one
pub some_before : (g : List ℕ) (o : Option (List ℕ)) → is_some (option_map (λ v. g ++ v) o) ≡ is_some o
some_before g None = refl
some_before g (Some v) = refl

-- what is given behind a text is given behind the longer text
pub given_behind : (text more g : List ℕ) (o : Option (List ℕ)) → more ≡ text ++ g → option_map (λ v. text ++ v) (option_map (λ v. g ++ v) o) ≡ option_map (λ v. more ++ v) o
given_behind text more g None m = refl
given_behind text more g (Some v) m = rw m (ap Some (sym (append_assoc text g v)))
