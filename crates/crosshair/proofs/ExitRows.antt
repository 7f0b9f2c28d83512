-- What the exit status says of the targets, where contents are told.
use Rattle.std.proofs.Common.{◌≡◌, ◌≤◌, ◌⊎◌, ℕ, List, sym, ◌∙◌, arith}
use Rattle.std.specs.Prelude.{Option, Some, None, Result, Ok, Err, IfSome}
use Rattle.spec_verdicts.specs.Report.{Total, settled_total, targets_total}
use Rattle.spec_verdicts.specs.Settings.{Settings}
use Rattle.spec_verdicts.specs.Statuses.{EachTarget, SomeTarget, SomeReadFails, Passes, Fails, IsRefused}
use Rattle.spec_verdicts.proofs.StatusRows.{zero_means, one_means, two_means, four_means}
use Rattle.crosshair.specs.Ends.{Ends, status_of}
use Rattle.crosshair.specs.declared.stop.Stop.{Stop}
use Rattle.crosshair.specs.declared.stop.Stop.TheVariants.{NoMemory, ReadFault, WriteFault}

-- an exit status of at most 2 is the status of the whole run
answered : (t : Total) (o o' e e' : Option (List ℕ)) (n n' : ℕ) (r : Result ℕ Stop) (result want : ℕ) → Ends t o o' e e' n n' r → result ≡ status_of r → result ≡ want → want ≤ 2 → t.status ≡ want
answered t o o' e e' n n' (Ok status) result want ends is same low = sym ends.answer ∙ sym is ∙ same
answered t o o' e e' n n' (Err NoMemory) result want ends is same low = absurd (omega arith)
answered t o o' e e' n n' (Err ReadFault) result want ends is same low = absurd (omega arith)
answered t o o' e e' n n' (Err WriteFault) result want ends is same low = absurd (omega arith)

-- what the status of the targets means is what the exit status means
row : (s : Option Settings) (contents : Option (List (List ℕ × List ℕ))) (left : Option ℕ) (o o' e e' : Option (List ℕ)) (n n' : ℕ) (r : Result ℕ Stop) (result want : ℕ) (P : Settings → List (List ℕ × List ℕ) → Type 0)
    → ((s : Settings) (files : List (List ℕ × List ℕ)) → (targets_total s.report_all s.bounds s.targets files left).status ≡ want → P s files)
    → want ≤ 2 → IfSome (settled_total s contents left) (λ total. Ends total o o' e e' n n' r) → result ≡ status_of r → result ≡ want → IfSome s (λ s. IfSome contents (P s))
row None contents left o o' e e' n n' r result want P means low ends is same = tt
row (Some s) None left o o' e e' n n' r result want P means low ends is same = tt
row (Some s) (Some files) left o o' e e' n n' r result want P means low ends is same = means s files (answered (targets_total s.report_all s.bounds s.targets files left) o o' e e' n n' r result want ends is same low)

-- 0: each target passes
pub zero_row : (s : Option Settings) (contents : Option (List (List ℕ × List ℕ))) (left : Option ℕ) (o o' e e' : Option (List ℕ)) (n n' : ℕ) (r : Result ℕ Stop) (result : ℕ)
    → IfSome (settled_total s contents left) (λ total. Ends total o o' e e' n n' r) → result ≡ status_of r → result ≡ 0 → IfSome s (λ s. IfSome contents (λ files. EachTarget (Passes s.bounds files) s.targets))
zero_row s contents left o o' e e' n n' r result ends is same =
    row s contents left o o' e e' n n' r result 0 (λ s files. EachTarget (Passes s.bounds files) s.targets) (λ s files k. zero_means s.report_all s.bounds s.targets files left k) (omega arith) ends is same

-- 1: each target passes or fails, and some target fails
pub one_row : (s : Option Settings) (contents : Option (List (List ℕ × List ℕ))) (left : Option ℕ) (o o' e e' : Option (List ℕ)) (n n' : ℕ) (r : Result ℕ Stop) (result : ℕ)
    → IfSome (settled_total s contents left) (λ total. Ends total o o' e e' n n' r) → result ≡ status_of r → result ≡ 1
    → IfSome s (λ s. IfSome contents (λ files. EachTarget (λ name. Passes s.bounds files name ⊎ Fails s.bounds files name) s.targets × SomeTarget (Fails s.bounds files) s.targets))
one_row s contents left o o' e e' n n' r result ends is same =
    row s contents left o o' e e' n n' r result 1 (λ s files. EachTarget (λ name. Passes s.bounds files name ⊎ Fails s.bounds files name) s.targets × SomeTarget (Fails s.bounds files) s.targets) (λ s files k. one_means s.report_all s.bounds s.targets files left k) (omega arith) ends is same

-- 2: some target is refused
pub two_row : (s : Option Settings) (contents : Option (List (List ℕ × List ℕ))) (left : Option ℕ) (o o' e e' : Option (List ℕ)) (n n' : ℕ) (r : Result ℕ Stop) (result : ℕ)
    → IfSome (settled_total s contents left) (λ total. Ends total o o' e e' n n' r) → result ≡ status_of r → result ≡ 2 → IfSome s (λ s. IfSome contents (λ files. SomeTarget (IsRefused s.bounds files) s.targets))
two_row s contents left o o' e e' n n' r result ends is same =
    row s contents left o o' e e' n n' r result 2 (λ s files. SomeTarget (IsRefused s.bounds files) s.targets) (λ s files k. two_means s.report_all s.bounds s.targets files left k) (omega arith) ends is same

-- 4: the read of some target fails
pub four_row : (s : Option Settings) (contents : Option (List (List ℕ × List ℕ))) (left : Option ℕ) (o o' e e' : Option (List ℕ)) (n n' : ℕ) (r : Result ℕ Stop) (result : ℕ)
    → IfSome (settled_total s contents left) (λ total. Ends total o o' e e' n n' r) → result ≡ status_of r → result ≡ 4 → IfSome s (λ s. IfSome contents (λ files. SomeReadFails files s.targets left))
four_row None contents left o o' e e' n n' r result ends is same = tt
four_row (Some s) None left o o' e e' n n' r result ends is same = tt
four_row (Some s) (Some files) left o o' e e' n n' r result ends is same = four_means s.report_all s.bounds s.targets files left (failed r ends is)
  where
    failed : (r : Result ℕ Stop) → Ends (targets_total s.report_all s.bounds s.targets files left) o o' e e' n n' r → result ≡ status_of r → (targets_total s.report_all s.bounds s.targets files left).status ≡ 4
    failed (Ok status) ends is = sym ends.answer ∙ sym is ∙ same
    failed (Err NoMemory) ends is = absurd (omega arith)
    failed (Err ReadFault) ends is = ends.status
    failed (Err WriteFault) ends is = absurd (omega arith)
