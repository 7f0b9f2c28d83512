-- Laws of what a run leaves.
use Rattle.std.proofs.Common.{◌≡◌, ℕ, ◌+◌, ◌≤◌, max, Bool, false, List, [], ◌∷◌, ◌++◌, drop, refl, sym, ap, ◌∙◌, subst, arith, drop-cons}
use Rattle.std.proofs.lemmas.List.{append-nil}
use Rattle.std.proofs.lemmas.Grind.{common_steps}
use Rattle.std.proofs.lemmas.Option.{gets}
use Rattle.std.specs.Prelude.{Option, Some, None, Result, Ok, Err, IsErrAnd, IfSome, slice_get, if◌then◌else◌}
use Rattle.std.specs.Io.KnownBytes.{append_known}
use Rattle.xh_outside.specs.Reading.{read_of, next_left}
use Rattle.xh_outside.specs.Writing.{Went, AppendsPart}
use Rattle.xh_outside.proofs.Sinks.{append_known-append, went_on, went_part, went_done, part_none, rose_since}
use Rattle.xh_outside.specs.declared.errors.ReadError.{ReadError}
use Rattle.xh_outside.specs.declared.errors.ReadError.TheVariants as read_error
use Rattle.spec_first_trees.specs.Bounds.{Bounds}
use Rattle.spec_verdicts.specs.declared.TheConstants.{READ_LIMIT}
use Rattle.spec_verdicts.specs.Report.{Total, nothing, join, entry_of, is_failed, after, targets_total}
use Rattle.crosshair.specs.Ends.{Ends, IsDone, IsCutShort, IsReadFault, TellsRead}
use Rattle.crosshair.specs.declared.stop.Stop.{Stop}
use Rattle.crosshair.specs.declared.stop.Stop.TheVariants.{NoMemory, ReadFault, WriteFault}

-- what holds of every value holds of the one that is told
pub some_all : {A : Type 0} (o : Option A) (P : A → Type 0) → ((x : A) → P x) → IfSome o P
some_all None P h = tt
some_all (Some x) P h = h x

-- facts of the contents that are told, of two equal ones
pub some_three : {A : Type 0} (o o' : Option A) (P Q R S : A → Type 0) → o' ≡ o → IfSome o P → IfSome o' Q → IfSome o' R → ((x : A) → P x → Q x → R x → S x) → IfSome o S
some_three None o' P Q R S e p q r f = tt
some_three (Some x) o' P Q R S e p q r f = f x p (subst (λ z. IfSome z Q) e q) (subst (λ z. IfSome z R) e r)

-- nothing was written yet
pub cut_none : (t : Total) (o e : Option (List ℕ)) → IsCutShort t o o e e
cut_none t o e = record { out = part_none o t.out; err = part_none e t.entries }

-- an answer that tells of a want of memory
pub ends_no_memory : (t : Total) (o o' e e' : Option (List ℕ)) (n n' : ℕ) (r : Result ℕ Stop) → IsErrAnd r (λ s. s ≡ NoMemory) → IsCutShort t o o' e e' → Ends t o o' e e' n n' r
ends_no_memory t o o' e e' n n' (Ok x) h cut = absurd h
ends_no_memory t o o' e e' n n' (Err NoMemory) h cut = cut
ends_no_memory t o o' e e' n n' (Err WriteFault) h cut = cut
ends_no_memory t o o' e e' n n' (Err ReadFault) h cut = cc

-- an answer that tells of a failed write
pub ends_write_fault : (t : Total) (o o' e e' : Option (List ℕ)) (n n' : ℕ) (r : Result ℕ Stop) → IsErrAnd r (λ s. s ≡ WriteFault) → IsCutShort t o o' e e' → Ends t o o' e e' n n' r
ends_write_fault t o o' e e' n n' (Ok x) h cut = absurd h
ends_write_fault t o o' e e' n n' (Err NoMemory) h cut = cut
ends_write_fault t o o' e e' n n' (Err WriteFault) h cut = cut
ends_write_fault t o o' e e' n n' (Err ReadFault) h cut = cc

-- an answer that passes on why a call ended early
pub ends_passed : (t : Total) (o o' e e' : Option (List ℕ)) (n n' : ℕ) (stop : Stop) (r : Result ℕ Stop) → IsErrAnd r (λ s. s ≡ stop) → Ends t o o' e e' n n' (Err stop) → Ends t o o' e e' n n' r
ends_passed t o o' e e' n n' stop (Ok x) h ends = absurd h
ends_passed t o o' e e' n n' stop (Err s) h ends = subst (λ s. Ends t o o' e e' n n' (Err s)) (sym h) ends

-- a line on out was cut short
pub cut_out : (t : Total) (o o' e : Option (List ℕ)) (line : List ℕ) → AppendsPart o o' line → line ≡ t.out → IsCutShort t o o' e e
cut_out t o o' e line p is = record { out = subst (AppendsPart o o') is p; err = part_none e t.entries }

-- a line on err was cut short
pub cut_err : (t : Total) (o e e' : Option (List ℕ)) (line : List ℕ) → AppendsPart e e' line → line ≡ t.entries → IsCutShort t o o e e'
cut_err t o e e' line p is = record { out = part_none o t.out; err = subst (AppendsPart e e') is p }

-- rest is still to come of t
pub record Going (t rest : Total) (o o' e e' : Option (List ℕ)) (worst : ℕ) : Type 0 where
  pub out : Went o o' rest.out t.out
  pub entries : Went e e' rest.entries t.entries
  pub fault : rest.fault ≡ t.fault
  pub status : max worst rest.status ≡ t.status

-- the next part was written whole
pub going_on : (t a rest : Total) (o o' o'' e e' e'' : Option (List ℕ)) (worst status : ℕ) → Going t (join a rest) o o' e e' worst → IsDone a o' o'' e' e'' status → a.fault ≡ [] → Going t rest o o'' e e'' (max worst status)
going_on t a rest o o' o'' e e' e'' worst status going done empty =
    let line : a.entries ++ a.fault ≡ a.entries = ap (λ x. a.entries ++ x) empty ∙ append-nil a.entries in
    record {
      out = went_on o o' o'' a.out rest.out t.out going.out done.out;
      entries = went_on e e' e'' a.entries rest.entries t.entries going.entries (done.err ∙ ap (append_known e') line);
      fault = sym (ap (λ x. x ++ rest.fault) empty) ∙ going.fault;
      status = omega (arith, going.status, done.answer);
    }

-- the next part was cut short
pub going_cut : (t a rest : Total) (o o' o'' e e' e'' : Option (List ℕ)) (worst : ℕ) → Going t (join a rest) o o' e e' worst → IsCutShort a o' o'' e' e'' → IsCutShort t o o'' e e''
going_cut t a rest o o' o'' e e' e'' worst going cut = record {
  out = went_part o o' o'' a.out rest.out t.out going.out cut.out;
  err = went_part e e' e'' a.entries rest.entries t.entries going.entries cut.err;
}

-- the next part is a failed read, and the last one
pub going_fault : (t a : Total) (o o' o'' e e' e'' : Option (List ℕ)) (worst n n' n'' : ℕ) → Going t (join a nothing) o o' e e' worst → worst ≤ 2 → n ≤ n' → IsReadFault a o' o'' e' e'' n' n'' → IsReadFault t o o'' e e'' n n''
going_fault t a o o' o'' e e' e'' worst n n' n'' going small later fault =
    let before : append_known e' a.entries ≡ append_known e t.entries = went_done e (append_known e' a.entries) t.entries (went_on e e' (append_known e' a.entries) a.entries [] t.entries going.entries refl) in
    let line : a.fault ≡ t.fault = sym (append-nil a.fault) ∙ going.fault in
    record {
      status = omega (arith, going.status, fault.status);
      out = went_done o o'' t.out (went_on o o' o'' a.out [] t.out going.out fault.out);
      err = subst (λ x. AppendsPart x e'' t.fault) before (subst (λ x. AppendsPart (append_known e' a.entries) e'' x) line fault.err);
      whole = λ calm. fault.whole (λ r. calm (rose_since n n' n'' later r))
          ∙ sym (append_known-append e' a.entries a.fault)
          ∙ ap (λ x. append_known x a.fault) before
          ∙ ap (append_known (append_known e t.entries)) line
          ∙ append_known-append e t.entries t.fault;
    }

-- a read that does not fail adds no line of a failed read
pub entry_fault : (all : Bool) (bounds : Bounds) (name : List ℕ) (answer : Result (List ℕ) ReadError) → is_failed answer ≡ false → (entry_of all bounds name answer).fault ≡ []
entry_fault all bounds name (Ok content) h = refl
entry_fault all bounds name (Err read_error.TooLong) h = refl
entry_fault all bounds name (Err read_error.Failed) h = cc
entry_fault all bounds name (Err read_error.NoMemory) h = refl

-- the names from a place on begin with the one at that place
pub drop_item : (names : List (List ℕ)) (i : ℕ) (name : List ℕ) → slice_get names i ≡ Some name → drop i names ≡ name ∷ drop (i + 1) names
drop_item names i name h = grind (arith, common_steps, gets, drop-cons)

-- one more target is read
pub step_on : (t : Total) (all : Bool) (bounds : Bounds) (files : List (List ℕ × List ℕ)) (left left' : Option ℕ) (names : List (List ℕ)) (i : ℕ) (name : List ℕ) (o o' o'' e e' e'' : Option (List ℕ)) (worst status : ℕ)
    → slice_get names i ≡ Some name
    → Going t (targets_total all bounds (drop i names) files left) o o' e e' worst
    → IsDone (entry_of all bounds name (read_of files left name READ_LIMIT)) o' o'' e' e'' status
    → is_failed (read_of files left name READ_LIMIT) ≡ false
    → left' ≡ next_left left
    → Going t (targets_total all bounds (drop (i + 1) names) files left') o o'' e e'' (max worst status)
step_on t all bounds files left left' names i name o o' o'' e e' e'' worst status item going done good next =
    let answer : Result (List ℕ) ReadError = read_of files left name READ_LIMIT in
    let rest : Total = targets_total all bounds (drop (i + 1) names) files (next_left left) in
    let now : targets_total all bounds (drop i names) files left ≡ join (entry_of all bounds name answer) rest =
    ap (λ ns. targets_total all bounds ns files left) (drop_item names i name item) ∙ ap (λ b. join (entry_of all bounds name answer) (if b then nothing else rest)) good in
    let on : Going t rest o o'' e e'' (max worst status) =
    going_on t (entry_of all bounds name answer) rest o o' o'' e e' e'' worst status (subst (λ r. Going t r o o' e e' worst) now going) done (entry_fault all bounds name answer good) in
    subst (λ l. Going t (targets_total all bounds (drop (i + 1) names) files l) o o'' e e'' (max worst status)) (sym next) on

-- a target ends the run
pub step_stop : (t : Total) (all : Bool) (bounds : Bounds) (files : List (List ℕ × List ℕ)) (left : Option ℕ) (names : List (List ℕ)) (i : ℕ) (name : List ℕ) (o o' o'' e e' e'' : Option (List ℕ)) (worst n n' n'' : ℕ) (stop : Stop)
    → slice_get names i ≡ Some name
    → Going t (targets_total all bounds (drop i names) files left) o o' e e' worst
    → worst ≤ 2
    → n ≤ n'
    → Ends (entry_of all bounds name (read_of files left name READ_LIMIT)) o' o'' e' e'' n' n'' (Err stop)
    → TellsRead (read_of files left name READ_LIMIT) (Err stop)
    → Ends t o o'' e e'' n n'' (Err stop)
step_stop t all bounds files left names i name o o' o'' e e' e'' worst n n' n'' stop item going small later ends told =
    let answer : Result (List ℕ) ReadError = read_of files left name READ_LIMIT in
    let rest : Total = targets_total all bounds (drop (i + 1) names) files (next_left left) in
    let here : Going t (join (entry_of all bounds name answer) (after answer rest)) o o' e e' worst =
    subst (λ ns. Going t (targets_total all bounds ns files left) o o' e e' worst) (drop_item names i name item) going in
    elim stop as (λ s. Ends (entry_of all bounds name answer) o' o'' e' e'' n' n'' (Err s) → TellsRead answer (Err s) → Ends t o o'' e e'' n n'' (Err s)) [
      | NoMemory ↦ λ ends told. going_cut t (entry_of all bounds name answer) (after answer rest) o o' o'' e e' e'' worst here ends
      | WriteFault ↦ λ ends told. going_cut t (entry_of all bounds name answer) (after answer rest) o o' o'' e e' e'' worst here ends
      | ReadFault ↦ λ ends told. going_fault t (entry_of all bounds name answer) o o' o'' e e' e'' worst n n' n''
          (subst (λ b. Going t (join (entry_of all bounds name answer) (if b then nothing else rest)) o o' e e' worst) told here) small later ends
    ] ends told
