-- What the status of the whole run says of the targets.
use Rattle.std.proofs.Common.{◌≡◌, ℕ, ◌≤◌, ◌⊎◌, max, Bool, true, false, List, [], ◌∷◌, length, Option, Some, None, Result, Ok, Err, if◌then◌else◌, nat_le, inl, inr, refl, ap, subst, arith}
use Rattle.std.proofs.lemmas.Bool.Decides.{nat_tests}
use Rattle.std.specs.List.{list_any}
use Rattle.xh_outside.specs.Reading.{content_of, read_within, is_due, read_of, next_left}
use Rattle.xh_outside.specs.declared.errors.ReadError.TheVariants.{Failed, TooLong}
use Rattle.spec_first_trees.specs.Bounds.{Bounds}
use Rattle.spec_first_trees.specs.Program.{Program}
use Rattle.spec_admission.specs.Admission.{Refusal, admit}
use Rattle.spec_verdicts.specs.Report.{Total, nothing, has_error, report_of, report_of_admission, entry_of, is_failed, targets_total}
use Rattle.spec_verdicts.specs.Statuses.{IsAdmitted, Passes, Fails, IsRefused, EachTarget, SomeTarget, SomeReadFails}
use Rattle.spec_verdicts.specs.declared.TheConstants.{READ_LIMIT}

-- what one target comes to, with its status, and whether its read failed
pub data Outcome (b : Bounds) (files : List (List ℕ × List ℕ)) (left : Option ℕ) (name : List ℕ) (status : ℕ) (failed : Bool) : Type 0 where
  Passing : Passes b files name → status ≡ 0 → failed ≡ false → Outcome b files left name status failed
  Failing : Fails b files name → status ≡ 1 → failed ≡ false → Outcome b files left name status failed
  Refusing : IsRefused b files name → status ≡ 2 → failed ≡ false → Outcome b files left name status failed
  Unread : (content_of files name ≡ None) ⊎ (left ≡ Some 0) → status ≡ 4 → failed ≡ true → Outcome b files left name status failed

-- a program passes, or fails
program_case : (b : Bounds) (files : List (List ℕ × List ℕ)) (left : Option ℕ) (name : List ℕ) (p : Program) → IsAdmitted b files name p → (wrong : Bool) → list_any (has_error b) p.functions ≡ wrong → Outcome b files left name (if wrong then 1 else 0) false
program_case b files left name p a true e = Failing (record { program = p; admitted = a; wrong = e }) refl refl
program_case b files left name p a false e = Passing (record { program = p; admitted = a; calm = e }) refl refl

-- a content that is short enough is a program, or is refused at a line
content_case : (all : Bool) (b : Bounds) (files : List (List ℕ × List ℕ)) (left : Option ℕ) (name content : List ℕ) → content_of files name ≡ Some content → length content ≤ READ_LIMIT → (a : Result Program Refusal) → admit b content ≡ a → Outcome b files left name (report_of_admission all name b a).status false
content_case all b files left name content found short (Ok p) e = program_case b files left name p (record { content = content; found = found; short = short; admitted = e }) (list_any (has_error b) p.functions) refl
content_case all b files left name content found short (Err r) e = Refusing (record { content = content; found = found; refused = inr (r, e) }) refl refl

-- a content that is held is short enough, or is refused
within_case : (all : Bool) (b : Bounds) (files : List (List ℕ × List ℕ)) (left : Option ℕ) (name content : List ℕ) → content_of files name ≡ Some content → (fits : Bool) → nat_le (length content) READ_LIMIT ≡ fits
    → Outcome b files left name (entry_of all b name (if fits then Ok content else Err TooLong)).status (is_failed (if fits then Ok content else Err TooLong))
unfolding report_of
within_case all b files left name content found true e = content_case all b files left name content found (grind (arith, nat_tests)) (admit b content) refl
within_case all b files left name content found false e = Refusing (record { content = content; found = found; refused = inl (grind (arith, nat_tests)) }) refl refl

-- a name is held by the files, or its read fails
held_case : (all : Bool) (b : Bounds) (files : List (List ℕ × List ℕ)) (left : Option ℕ) (name : List ℕ) (held : Option (List ℕ)) → content_of files name ≡ held
    → Outcome b files left name (entry_of all b name (read_within held READ_LIMIT)).status (is_failed (read_within held READ_LIMIT))
held_case all b files left name None e = Unread (inl e) refl refl
held_case all b files left name (Some content) e = within_case all b files left name content e (nat_le (length content) READ_LIMIT) refl

-- a read that is due has none left before it
due_is : (left : Option ℕ) → is_due left ≡ true → left ≡ Some 0
due_is None e = absurd cc
due_is (Some n) e = let zero_left : n ≡ 0 = grind (arith, nat_tests) in ap (λ x. Some x) zero_left

-- a read is the one that is made to fail, or answers by the files
due_case : (all : Bool) (b : Bounds) (files : List (List ℕ × List ℕ)) (left : Option ℕ) (name : List ℕ) (due : Bool) → is_due left ≡ due
    → Outcome b files left name (entry_of all b name (if due then Err Failed else read_within (content_of files name) READ_LIMIT)).status (is_failed (if due then Err Failed else read_within (content_of files name) READ_LIMIT))
due_case all b files left name true e = Unread (inr (due_is left e)) refl refl
due_case all b files left name false e = held_case all b files left name (content_of files name) refl

-- what one target comes to
pub outcome_of : (all : Bool) (b : Bounds) (files : List (List ℕ × List ℕ)) (left : Option ℕ) (name : List ℕ) → Outcome b files left name (entry_of all b name (read_of files left name READ_LIMIT)).status (is_failed (read_of files left name READ_LIMIT))
outcome_of all b files left name = due_case all b files left name (is_due left) refl

-- after a read that did not fail the rest counts
rest_counts : (s : ℕ) (failed : Bool) (rest : Total) (want : ℕ) → failed ≡ false → max s (if failed then nothing else rest).status ≡ want → max s rest.status ≡ want
rest_counts s failed rest want f e = subst (λ b. max s (if b then nothing else rest).status ≡ want) f e

-- after a read that failed nothing else counts
nothing_counts : (s : ℕ) (failed : Bool) (rest : Total) (want : ℕ) → failed ≡ true → max s (if failed then nothing else rest).status ≡ want → max s 0 ≡ want
nothing_counts s failed rest want f e = subst (λ b. max s (if b then nothing else rest).status ≡ want) f e

-- one more target, where all passes
zero_step : (b : Bounds) (files : List (List ℕ × List ℕ)) (left : Option ℕ) (name : List ℕ) (names : List (List ℕ)) (s : ℕ) (failed : Bool) (rest : Total) → Outcome b files left name s failed
    → (rest.status ≡ 0 → EachTarget (Passes b files) names) → max s (if failed then nothing else rest).status ≡ 0 → EachTarget (Passes b files) (name ∷ names)
zero_step b files left name names s failed rest (Passing p is f) later e = let k : max s rest.status ≡ 0 = rest_counts s failed rest 0 f e in (p, later (omega arith))
zero_step b files left name names s failed rest (Failing p is f) later e = let k : max s rest.status ≡ 0 = rest_counts s failed rest 0 f e in absurd (omega arith)
zero_step b files left name names s failed rest (Refusing p is f) later e = let k : max s rest.status ≡ 0 = rest_counts s failed rest 0 f e in absurd (omega arith)
zero_step b files left name names s failed rest (Unread p is f) later e = let k : max s 0 ≡ 0 = nothing_counts s failed rest 0 f e in absurd (omega arith)

-- one more target, where none is refused and no read fails
low_step : (b : Bounds) (files : List (List ℕ × List ℕ)) (left : Option ℕ) (name : List ℕ) (names : List (List ℕ)) (s : ℕ) (failed : Bool) (rest : Total) (want : ℕ) → Outcome b files left name s failed
    → ((n : ℕ) → rest.status ≡ n → n ≤ 1 → EachTarget (λ n. Passes b files n ⊎ Fails b files n) names) → max s (if failed then nothing else rest).status ≡ want → want ≤ 1 → EachTarget (λ n. Passes b files n ⊎ Fails b files n) (name ∷ names)
low_step b files left name names s failed rest want (Passing p is f) later e low = let k : max s rest.status ≡ want = rest_counts s failed rest want f e in (inl p, later rest.status refl (omega arith))
low_step b files left name names s failed rest want (Failing p is f) later e low = let k : max s rest.status ≡ want = rest_counts s failed rest want f e in (inr p, later rest.status refl (omega arith))
low_step b files left name names s failed rest want (Refusing p is f) later e low = let k : max s rest.status ≡ want = rest_counts s failed rest want f e in absurd (omega arith)
low_step b files left name names s failed rest want (Unread p is f) later e low = let k : max s 0 ≡ want = nothing_counts s failed rest want f e in absurd (omega arith)

-- one more target, where one fails
one_step : (b : Bounds) (files : List (List ℕ × List ℕ)) (left : Option ℕ) (name : List ℕ) (names : List (List ℕ)) (s : ℕ) (failed : Bool) (rest : Total) → Outcome b files left name s failed
    → (rest.status ≡ 1 → SomeTarget (Fails b files) names) → max s (if failed then nothing else rest).status ≡ 1 → SomeTarget (Fails b files) (name ∷ names)
one_step b files left name names s failed rest (Passing p is f) later e = let k : max s rest.status ≡ 1 = rest_counts s failed rest 1 f e in inr (later (omega arith))
one_step b files left name names s failed rest (Failing p is f) later e = inl p
one_step b files left name names s failed rest (Refusing p is f) later e = let k : max s rest.status ≡ 1 = rest_counts s failed rest 1 f e in absurd (omega arith)
one_step b files left name names s failed rest (Unread p is f) later e = let k : max s 0 ≡ 1 = nothing_counts s failed rest 1 f e in absurd (omega arith)

-- one more target, where one is refused
two_step : (b : Bounds) (files : List (List ℕ × List ℕ)) (left : Option ℕ) (name : List ℕ) (names : List (List ℕ)) (s : ℕ) (failed : Bool) (rest : Total) → Outcome b files left name s failed
    → (rest.status ≡ 2 → SomeTarget (IsRefused b files) names) → max s (if failed then nothing else rest).status ≡ 2 → SomeTarget (IsRefused b files) (name ∷ names)
two_step b files left name names s failed rest (Passing p is f) later e = let k : max s rest.status ≡ 2 = rest_counts s failed rest 2 f e in inr (later (omega arith))
two_step b files left name names s failed rest (Failing p is f) later e = let k : max s rest.status ≡ 2 = rest_counts s failed rest 2 f e in inr (later (omega arith))
two_step b files left name names s failed rest (Refusing p is f) later e = inl p
two_step b files left name names s failed rest (Unread p is f) later e = let k : max s 0 ≡ 2 = nothing_counts s failed rest 2 f e in absurd (omega arith)

-- one more target, where a read fails
four_step : (b : Bounds) (files : List (List ℕ × List ℕ)) (left : Option ℕ) (name : List ℕ) (names : List (List ℕ)) (s : ℕ) (failed : Bool) (rest : Total) → Outcome b files left name s failed
    → (rest.status ≡ 4 → SomeReadFails files names (next_left left)) → max s (if failed then nothing else rest).status ≡ 4 → SomeReadFails files (name ∷ names) left
four_step b files left name names s failed rest (Passing p is f) later e = let k : max s rest.status ≡ 4 = rest_counts s failed rest 4 f e in inr (inr (later (omega arith)))
four_step b files left name names s failed rest (Failing p is f) later e = let k : max s rest.status ≡ 4 = rest_counts s failed rest 4 f e in inr (inr (later (omega arith)))
four_step b files left name names s failed rest (Refusing p is f) later e = let k : max s rest.status ≡ 4 = rest_counts s failed rest 4 f e in inr (inr (later (omega arith)))
four_step b files left name names s failed rest (Unread (inl p) is f) later e = inl p
four_step b files left name names s failed rest (Unread (inr p) is f) later e = inr (inl p)

-- the status is 0 only where each target passes
pub zero_means : (all : Bool) (b : Bounds) (names : List (List ℕ)) (files : List (List ℕ × List ℕ)) (left : Option ℕ) → (targets_total all b names files left).status ≡ 0 → EachTarget (Passes b files) names
zero_means all b [] files left e = tt
zero_means all b (name ∷ names) files left e = zero_step b files left name names _ _ (targets_total all b names files (next_left left)) (outcome_of all b files left name) (zero_means all b names files (next_left left)) e

-- the status is at most 1 only where each target passes or fails
low_means : (all : Bool) (b : Bounds) (names : List (List ℕ)) (files : List (List ℕ × List ℕ)) (left : Option ℕ) (want : ℕ) → (targets_total all b names files left).status ≡ want → want ≤ 1 → EachTarget (λ n. Passes b files n ⊎ Fails b files n) names
low_means all b [] files left want e low = tt
low_means all b (name ∷ names) files left want e low = low_step b files left name names _ _ (targets_total all b names files (next_left left)) want (outcome_of all b files left name) (low_means all b names files (next_left left)) e low

-- the status is 1 only where some target fails
fails_some : (all : Bool) (b : Bounds) (names : List (List ℕ)) (files : List (List ℕ × List ℕ)) (left : Option ℕ) → (targets_total all b names files left).status ≡ 1 → SomeTarget (Fails b files) names
fails_some all b [] files left e = absurd (omega (arith, e))
fails_some all b (name ∷ names) files left e = one_step b files left name names _ _ (targets_total all b names files (next_left left)) (outcome_of all b files left name) (fails_some all b names files (next_left left)) e

-- the status is 1 only where each target passes or fails, and some target fails
pub one_means : (all : Bool) (b : Bounds) (names : List (List ℕ)) (files : List (List ℕ × List ℕ)) (left : Option ℕ) → (targets_total all b names files left).status ≡ 1 → EachTarget (λ n. Passes b files n ⊎ Fails b files n) names × SomeTarget (Fails b files) names
one_means all b names files left e = (low_means all b names files left 1 e (omega arith), fails_some all b names files left e)

-- the status is 2 only where some target is refused
pub two_means : (all : Bool) (b : Bounds) (names : List (List ℕ)) (files : List (List ℕ × List ℕ)) (left : Option ℕ) → (targets_total all b names files left).status ≡ 2 → SomeTarget (IsRefused b files) names
two_means all b [] files left e = absurd (omega (arith, e))
two_means all b (name ∷ names) files left e = two_step b files left name names _ _ (targets_total all b names files (next_left left)) (outcome_of all b files left name) (two_means all b names files (next_left left)) e

-- the status is 4 only where the read of some target fails
pub four_means : (all : Bool) (b : Bounds) (names : List (List ℕ)) (files : List (List ℕ × List ℕ)) (left : Option ℕ) → (targets_total all b names files left).status ≡ 4 → SomeReadFails files names left
four_means all b [] files left e = absurd (omega (arith, e))
four_means all b (name ∷ names) files left e = four_step b files left name names _ _ (targets_total all b names files (next_left left)) (outcome_of all b files left name) (four_means all b names files (next_left left)) e
