-- What each verdict says of the calls.
use Rattle.std.proofs.Common.{◌≡◌, ℕ, zero, suc, ◌<◌, Bool, true, false, List, [], ◌∷◌, Option, Some, None, refl, ap, subst, arith, ◌∙◌}
use Rattle.std.proofs.lemmas.Bool.{and_parts}
use Rattle.std.proofs.lemmas.Option.{some_pair_parts}
use Rattle.std.specs.List.{list_all, slice_get}
use Rattle.spec_first_trees.specs.declared.LimitKind.{LimitKind}
use Rattle.spec_first_trees.specs.Bounds.{Bounds}
use Rattle.spec_first_trees.specs.Program.{Function, Condition}
use Rattle.spec_calls.specs.Calls.{Call, calls}
use Rattle.spec_verdicts.specs.Breaking.{Fault, broken, limited, is_unmet}
use Rattle.spec_verdicts.specs.Verdicts.{Error, NotConfirmed, Unmet, Confirmed, with_call, first_of, concluded, verdict_over, verdict}
use Rattle.spec_verdicts.specs.Firsts.{FirstAt, Nowhere}

-- ---- the first answer

-- no place is before the first one
pub none_before_zero : {X : Type 0} (answer : Call → Option X) (cs : List Call) (i : ℕ) (d : Call) → i < zero → slice_get cs i ≡ Some d → answer d ≡ None
none_before_zero answer cs i d lt e = absurd (omega arith)

-- where the first call has no answer, the first answer of the rest is the first of all
pub first_later : {X : Type 0} (answer : Call → Option X) (d : Call) (cs : List Call) (c : Call) (x : X) → answer d ≡ None → FirstAt answer cs c x → FirstAt answer (d ∷ cs) c x
first_later answer d cs c x none f = record { place = suc f.place; here = f.here; answers = f.answers; none_before = before }
  where
    before : (i : ℕ) (e : Call) → i < suc f.place → slice_get (d ∷ cs) i ≡ Some e → answer e ≡ None
    before zero e lt is = let same : d ≡ e = cc in subst (λ y. answer y ≡ None) same none
    before (suc i) e lt is = f.none_before i e (omega arith) is

-- the first answer is at the first call, or is found behind it
pub first_step : {X : Type 0} (answer : Call → Option X) (d : Call) (cs : List Call) (c : Call) (x : X) (o : Option X) → answer d ≡ o → (first_of answer cs ≡ Some (c, x) → FirstAt answer cs c x) → with_call d o (first_of answer cs) ≡ Some (c, x) → FirstAt answer (d ∷ cs) c x
first_step answer d cs c x (Some y) is rest e =
    let same = some_pair_parts d c y x e in
    record { place = zero; here = ap (λ v. Some v) same.0; answers = subst (λ v. answer v ≡ Some x) same.0 (is ∙ ap (λ v. Some v) same.1); none_before = none_before_zero answer (d ∷ cs) }
first_step answer d cs c x None is rest e = first_later answer d cs c x is (rest e)

-- what is found is the first answer
pub first_is : {X : Type 0} (answer : Call → Option X) (cs : List Call) (c : Call) (x : X) → first_of answer cs ≡ Some (c, x) → FirstAt answer cs c x
first_is answer [] c x e = absurd cc
first_is answer (d ∷ cs) c x e = first_step answer d cs c x (answer d) refl (first_is answer cs c x) e

-- what holds of the first call and of the rest holds of each
pub each_of : (P : Call → Type 0) (c : Call) (cs : List Call) → P c → ((i : ℕ) (d : Call) → slice_get cs i ≡ Some d → P d) → (i : ℕ) (d : Call) → slice_get (c ∷ cs) i ≡ Some d → P d
each_of P c cs here rest zero d is = let same : c ≡ d = cc in subst P same here
each_of P c cs here rest (suc i) d is = rest i d is

-- where nothing is found, the first call has no answer, and nothing is found behind it
pub none_step : {X : Type 0} (c : Call) (o : Option X) (rest : Option (Call × X)) → with_call c o rest ≡ None → (o ≡ None) × (rest ≡ None)
none_step c (Some x) rest e = absurd cc
none_step c None rest e = (refl, e)

-- where nothing is found, there is an answer at no call
pub first_none : {X : Type 0} (answer : Call → Option X) (cs : List Call) → first_of answer cs ≡ None → Nowhere answer cs
first_none answer [] e = λ i d is. absurd cc
first_none answer (c ∷ cs) e =
    let both = none_step c (answer c) (first_of answer cs) e in
    each_of (λ d. answer d ≡ None) c cs both.0 (first_none answer cs both.1)

-- what holds of all calls holds of each
pub all_each : (p : Call → Bool) (cs : List Call) → list_all p cs ≡ true → (i : ℕ) (d : Call) → slice_get cs i ≡ Some d → p d ≡ true
all_each p [] all = λ i d is. absurd cc
all_each p (c ∷ cs) all =
    let both = and_parts (p c) (list_all p cs) all in
    each_of (λ d. p d ≡ true) c cs both.0 (all_each p cs both.1)

-- ---- the four verdicts

-- the verdict is an error only where a fault was found
pub error_found : (o : Option (Call × Fault)) (l : Option (Call × LimitKind)) (u : Bool) (c : Call) (fault : Fault) → concluded o l u ≡ Error c fault → o ≡ Some (c, fault)
error_found (Some (d, g)) l u c fault e = cc
error_found None (Some (d, k)) u c fault e = absurd cc
error_found None None true c fault e = absurd cc
error_found None None false c fault e = absurd cc

-- the verdict is not confirmed only where no fault was found and a limit was
pub limit_found : (o : Option (Call × Fault)) (l : Option (Call × LimitKind)) (u : Bool) (c : Call) (kind : LimitKind) → concluded o l u ≡ NotConfirmed c kind → (o ≡ None) × (l ≡ Some (c, kind))
limit_found (Some (d, g)) l u c kind e = absurd cc
limit_found None (Some (d, k)) u c kind e = (refl, cc)
limit_found None None true c kind e = absurd cc
limit_found None None false c kind e = absurd cc

-- the verdict is that nothing meets the preconditions only where all calls are so
pub unmet_found : (o : Option (Call × Fault)) (l : Option (Call × LimitKind)) (u : Bool) → concluded o l u ≡ Unmet → u ≡ true
unmet_found (Some (d, g)) l u e = absurd cc
unmet_found None (Some (d, k)) u e = absurd cc
unmet_found None None true e = refl
unmet_found None None false e = absurd cc

-- the verdict is confirmed only where nothing was found and not all calls are unmet
pub nothing_found : (o : Option (Call × Fault)) (l : Option (Call × LimitKind)) (u : Bool) → concluded o l u ≡ Confirmed → (o ≡ None) × (l ≡ None) × (u ≡ false)
nothing_found (Some (d, g)) l u e = absurd cc
nothing_found None (Some (d, k)) u e = absurd cc
nothing_found None None true e = absurd cc
nothing_found None None false e = (refl, refl, refl)

-- the call of an error is the first that breaks the condition
pub error_is : (f : Function) (k : Condition) (b : Bounds) (c : Call) (fault : Fault) → verdict f k b ≡ Error c fault → FirstAt (broken f k b) (calls f b) c fault
unfolding verdict verdict_over
error_is f k b c fault e =
    first_is (broken f k b) (calls f b) c fault
    (error_found (first_of (broken f k b) (calls f b)) (first_of (limited f k b) (calls f b)) (list_all (is_unmet f b) (calls f b)) c fault e)

-- where the verdict is not confirmed, no call is broken, and the call is the first that is limited
pub not_confirmed_is : (f : Function) (k : Condition) (b : Bounds) (c : Call) (kind : LimitKind) → verdict f k b ≡ NotConfirmed c kind → Nowhere (broken f k b) (calls f b) × FirstAt (limited f k b) (calls f b) c kind
unfolding verdict verdict_over
not_confirmed_is f k b c kind e =
    let found = limit_found (first_of (broken f k b) (calls f b)) (first_of (limited f k b) (calls f b)) (list_all (is_unmet f b) (calls f b)) c kind e in
    (first_none (broken f k b) (calls f b) found.0, first_is (limited f k b) (calls f b) c kind found.1)

-- where no call meets the preconditions, each call is so
pub unmet_is : (f : Function) (k : Condition) (b : Bounds) → verdict f k b ≡ Unmet → (i : ℕ) (d : Call) → slice_get (calls f b) i ≡ Some d → is_unmet f b d ≡ true
unfolding verdict verdict_over
unmet_is f k b e =
    all_each (is_unmet f b) (calls f b)
    (unmet_found (first_of (broken f k b) (calls f b)) (first_of (limited f k b) (calls f b)) (list_all (is_unmet f b) (calls f b)) e)

-- where the condition is confirmed, no call is broken or limited, and not all are unmet
pub confirmed_is : (f : Function) (k : Condition) (b : Bounds) → verdict f k b ≡ Confirmed → Nowhere (broken f k b) (calls f b) × Nowhere (limited f k b) (calls f b) × (list_all (is_unmet f b) (calls f b) ≡ false)
unfolding verdict verdict_over
confirmed_is f k b e =
    let found = nothing_found (first_of (broken f k b) (calls f b)) (first_of (limited f k b) (calls f b)) (list_all (is_unmet f b) (calls f b)) e in
    (first_none (broken f k b) (calls f b) found.0, first_none (limited f k b) (calls f b) found.1, found.2)
