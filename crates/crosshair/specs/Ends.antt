-- What stands on out and err after a call that was to write a total. Each is seen before and after: o and o', e and e', and n and n' are err's counts of faults.
use Rattle.std.specs.Prelude.{◌≡◌, ◌⊎◌, ◌≤◌, ℕ, List, ◌++◌, Option, Result, Ok, Err, IsErrOf, true, false, ⊤}
use Rattle.std.specs.Io.KnownBytes.{append_known}
use Rattle.xh_outside.specs.Causes.{Rose}
use Rattle.xh_outside.specs.Writing.{AppendsPart}
use Rattle.xh_outside.specs.declared.errors.ReadError.{ReadError}
use Rattle.spec_verdicts.specs.Report.{Total, is_failed}
use Rattle.crosshair.specs.declared.stop.Stop.{Stop}
use Rattle.crosshair.specs.declared.stop.Stop.TheVariants.{NoMemory, ReadFault, WriteFault}

-- all of it was written
pub record IsDone (t : Total) (o o' e e' : Option (List ℕ)) (status : ℕ) : Type 0 where
  pub out : o' ≡ append_known o t.out
  pub err : e' ≡ append_known e (t.entries ++ t.fault)
  pub answer : status ≡ t.status

-- a front of it was written
pub record IsCutShort (t : Total) (o o' e e' : Option (List ℕ)) : Type 0 where
  pub out : AppendsPart o o' t.out
  pub err : AppendsPart e e' t.entries

-- it ends with a failed read, whose line may be cut short where a write failed
pub record IsReadFault (t : Total) (o o' e e' : Option (List ℕ)) (n n' : ℕ) : Type 0 where
  pub status : t.status ≡ 4
  pub out : o' ≡ append_known o t.out
  pub err : AppendsPart (append_known e t.entries) e' t.fault
  pub whole : (Rose n n' → ⊥) → e' ≡ append_known e (t.entries ++ t.fault)

-- what a call leaves, by its answer
abbrev pub Ends : Total → Option (List ℕ) → Option (List ℕ) → Option (List ℕ) → Option (List ℕ) → ℕ → ℕ → Result ℕ Stop → Type 0
Ends t o o' e e' n n' (Ok status) = IsDone t o o' e e' status
Ends t o o' e e' n n' (Err NoMemory) = IsCutShort t o o' e e'
Ends t o o' e e' n n' (Err WriteFault) = IsCutShort t o o' e e'
Ends t o o' e e' n n' (Err ReadFault) = IsReadFault t o o' e e' n n'

-- whether the read failed is told by the answer
abbrev pub TellsRead : Result (List ℕ) ReadError → Result ℕ Stop → Type 0
TellsRead answer (Ok status) = is_failed answer ≡ false
TellsRead answer (Err NoMemory) = ⊤
TellsRead answer (Err WriteFault) = ⊤
TellsRead answer (Err ReadFault) = is_failed answer ≡ true

-- the counts of files, out and err before and after, and what they say of the answer
pub record HasStopCause (f f' o o' e e' : ℕ) (result : Result ℕ Stop) : Type 0 where
  pub files_later : f ≤ f'
  pub out_later : o ≤ o'
  pub err_later : e ≤ e'
  pub read : IsErrOf result ReadFault → Rose f f'
  pub write : IsErrOf result WriteFault → Rose o o' ⊎ Rose e e'

-- the exit status of an answer
abbrev pub status_of : Result ℕ Stop → ℕ
status_of (Ok status) = status
status_of (Err NoMemory) = 3
status_of (Err ReadFault) = 4
status_of (Err WriteFault) = 5
