-- What does not depend on whether all results are written.
use Rattle.std.proofs.Common.{◌≡◌, ℕ, Bool, true, false, List, [], ◌∷◌, Option, Result, Ok, Err, if◌then◌else◌, refl, ap, ◌∙◌}
use Rattle.xh_outside.specs.Reading.{read_of, next_left}
use Rattle.xh_outside.specs.declared.errors.ReadError.{ReadError}
use Rattle.xh_outside.specs.declared.errors.ReadError.TheVariants.{Failed, TooLong, NoMemory}
use Rattle.spec_first_trees.specs.Bounds.{Bounds}
use Rattle.spec_first_trees.specs.Program.{Program}
use Rattle.spec_admission.specs.Admission.{Refusal, admit}
use Rattle.spec_verdicts.specs.Report.{Total, nothing, reported, off_out, join, report_of, report_of_admission, entry_of, is_failed, after, targets_total}
use Rattle.spec_verdicts.specs.declared.TheConstants.{READ_LIMIT}

admission_off_out : (b : Bounds) (name : List ℕ) (a : Result Program Refusal) → off_out (reported (report_of_admission true name b a)) ≡ off_out (reported (report_of_admission false name b a))
admission_off_out b name (Ok p) = refl
admission_off_out b name (Err r) = refl

entry_off_out : (b : Bounds) (name : List ℕ) (answer : Result (List ℕ) ReadError) → off_out (entry_of true b name answer) ≡ off_out (entry_of false b name answer)
unfolding report_of
entry_off_out b name (Ok content) = admission_off_out b name (admit b content)
entry_off_out b name (Err TooLong) = refl
entry_off_out b name (Err Failed) = refl
entry_off_out b name (Err NoMemory) = refl

-- the rest comes or does not, whatever is written
after_off_out : (failed : Bool) (t u : Total) → off_out t ≡ off_out u → off_out (if failed then nothing else t) ≡ off_out (if failed then nothing else u)
after_off_out true t u e = refl
after_off_out false t u e = e

-- one after the other
join_off_out : (a b t u : Total) → off_out a ≡ off_out b → off_out t ≡ off_out u → off_out (join a t) ≡ off_out (join b u)
join_off_out a b t u here rest = ap (λ x. join x (off_out t)) here ∙ ap (join (off_out b)) rest

pub same_off_out : (b : Bounds) (names : List (List ℕ)) (files : List (List ℕ × List ℕ)) (left : Option ℕ) → off_out (targets_total true b names files left) ≡ off_out (targets_total false b names files left)
same_off_out b [] files left = refl
same_off_out b (name ∷ names) files left =
    let answer : Result (List ℕ) ReadError = read_of files left name READ_LIMIT in
    let all : Total = targets_total true b names files (next_left left) in
    let errors : Total = targets_total false b names files (next_left left) in
    join_off_out (entry_of true b name answer) (entry_of false b name answer) (after answer all) (after answer errors)
    (entry_off_out b name answer) (after_off_out (is_failed answer) all errors (same_off_out b names files (next_left left)))
