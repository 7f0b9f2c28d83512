-- Runs of letters that pass a test.
use Rattle.std.proofs.Common.{◌≡◌, ℕ, suc, ◌≤◌, Bool, true, false, cond, List, [], ◌∷◌, ◌++◌, length, take, refl, ap, arith}
use Rattle.std.specs.List.{list_all}
use Rattle.std.proofs.lemmas.Bool.{and_parts, and_from}
use Rattle.spec_tokens.specs.Letters.{run}

-- all letters of a run pass
pub run_found : (p : ℕ → Bool) (s : List ℕ) → list_all p (take (run p s) s) ≡ true
run_found p [] = refl
run_found p (c ∷ s) = at (p c) refl (run_found p s)
  where
    at : (b : Bool) → p c ≡ b → list_all p (take (run p s) s) ≡ true → list_all p (take (cond b (suc (run p s)) 0) (c ∷ s)) ≡ true
    at true e h = and_from (p c) (list_all p (take (run p s) s)) e h
    at false e h = refl

-- letters that pass are no more than the run
pub run_reached : (p : ℕ → Bool) (w r : List ℕ) → list_all p w ≡ true → length w ≤ run p (w ++ r)
run_reached p [] r h = omega arith
run_reached p (c ∷ w) r h =
    let both = and_parts (p c) (list_all p w) h in
    let more = run_reached p w r both.1 in
    rw both.0 (omega arith)

-- a run ends at a letter that does not pass
pub run_ends : (p : ℕ → Bool) (w : List ℕ) (d : ℕ) (r : List ℕ) → list_all p w ≡ true → p d ≡ false → run p (w ++ d ∷ r) ≡ length w
run_ends p [] d r h n = rw n refl
run_ends p (c ∷ w) d r h n = let both = and_parts (p c) (list_all p w) h in rw both.0 (ap suc (run_ends p w d r both.1 n))
