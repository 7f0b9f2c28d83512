-- Verdicts over calls that stand one after the other.
use Rattle.std.proofs.Common.{◌≡◌, ℕ, zero, suc, ℤ, Bool, true, false, List, [], ◌∷◌, ◌++◌, map, refl, sym, ap, ◌∙◌, append_assoc, append-nil, map-id, arith, pos, get_or, take, drop, take-append-drop, ◌+◌, ◌-◌, ◌<◌, ◌≤◌}
use Rattle.std.proofs.lemmas.List.{map-append, take_more, take_all, take_at, length_push, flat_map_more}
use Rattle.std.proofs.lemmas.List.Concat.{flat_map-append}
use Rattle.std.specs.Prelude.{Option, Some, None, ◌&&◌, length}
use Rattle.std.specs.List.{list_all, flat_map}
use Rattle.spec_first_trees.specs.declared.LimitKind.{LimitKind}
use Rattle.spec_first_trees.specs.Bounds.{Bounds}
use Rattle.spec_first_trees.specs.Program.{Function, Condition}
use Rattle.spec_calls.specs.Calls.{Number, Call, calls, choices, integers}
use Rattle.spec_verdicts.specs.Breaking.{Fault, broken, limited, is_unmet}
use Rattle.spec_verdicts.specs.Verdicts.{Verdict, Error, NotConfirmed, Unmet, Confirmed, first_of, with_call, concluded, verdict_over, verdict}
use Rattle.spec_verdicts.specs.Report.{is_error}
use Rattle.first_tree.specs.BoundsOf.{bounds_of}
use Rattle.first_tree.specs.Functions.{function_in, int_parameter}
use Rattle.first_tree.specs.declared.nodes.ExprNode.{ExprNode}
use Rattle.first_tree.specs.declared.nodes.FnNode.{FnNode}
use Rattle.first_verdicts.specs.declared.verdicts.Condition as declared
use Rattle.first_verdicts.specs.declared.judging.Question.{Question}
use Rattle.first_verdicts.specs.declared.judging.Judgement.{Judgement}
use Rattle.first_verdicts.specs.declared.judging.Judgement.TheVariants as judgement
use Rattle.first_verdicts.specs.Meaning.{condition_in}
use Rattle.first_verdicts.specs.Judges.{IsJudged, broken_by, limited_by, unmet_by, call_of}
use Rattle.first_verdicts.specs.Joining.{joined, verdict_at, asked, beginning}

-- the first of both, where there is one
abbrev earlier : {X : Type 0} → Option X → Option X → Option X
earlier (Some x) o = Some x
earlier None o = o

with_earlier : {X : Type 0} (c : Call) (o : Option X) (r s : Option (Call × X)) → with_call c o (earlier r s) ≡ earlier (with_call c o r) s
with_earlier c (Some x) r s = refl
with_earlier c None r s = refl

first_append : {X : Type 0} (f : Call → Option X) (xs ys : List Call) → first_of f (xs ++ ys) ≡ earlier (first_of f xs) (first_of f ys)
first_append f [] ys = refl
first_append f (x ∷ xs) ys = ap (with_call x (f x)) (first_append f xs ys) ∙ with_earlier x (f x) (first_of f xs) (first_of f ys)

and_assoc : (a b c : Bool) → (a && (b && c)) ≡ ((a && b) && c)
and_assoc true b c = refl
and_assoc false b c = refl

all_append : (f : Call → Bool) (xs ys : List Call) → list_all f (xs ++ ys) ≡ (list_all f xs && list_all f ys)
all_append f [] ys = refl
all_append f (x ∷ xs) ys = ap (λ b. f x && b) (all_append f xs ys) ∙ and_assoc (f x) (list_all f xs) (list_all f ys)

concluded_joined : (b d : Option (Call × Fault)) (l m : Option (Call × LimitKind)) (u w : Bool) → concluded (earlier b d) (earlier l m) (u && w) ≡ joined (concluded b l u) (concluded d m w)
concluded_joined (Some x) d l m u w = refl
concluded_joined None (Some y) (Some z) m u w = refl
concluded_joined None None (Some z) (Some y) u w = refl
concluded_joined None None (Some z) None u true = refl
concluded_joined None None (Some z) None u false = refl
concluded_joined None d None m true w = refl
concluded_joined None (Some y) None m false w = refl
concluded_joined None None None (Some y) false w = refl
concluded_joined None None None None false true = refl
concluded_joined None None None None false false = refl

-- the verdict over some calls and then others
over_append : (f : Function) (k : Condition) (b : Bounds) (xs ys : List Call) → verdict_over f k b (xs ++ ys) ≡ joined (verdict_over f k b xs) (verdict_over f k b ys)
unfolding verdict_over
over_append f k b xs ys =
    ap (λ o. concluded o (first_of (limited f k b) (xs ++ ys)) (list_all (is_unmet f b) (xs ++ ys))) (first_append (broken f k b) xs ys)
    ∙ ap (λ o. concluded (earlier (first_of (broken f k b) xs) (first_of (broken f k b) ys)) o (list_all (is_unmet f b) (xs ++ ys))) (first_append (limited f k b) xs ys)
    ∙ ap (λ o. concluded (earlier (first_of (broken f k b) xs) (first_of (broken f k b) ys)) (earlier (first_of (limited f k b) xs) (first_of (limited f k b) ys)) o) (all_append (is_unmet f b) xs ys)
    ∙ concluded_joined (first_of (broken f k b) xs) (first_of (broken f k b) ys) (first_of (limited f k b) xs) (first_of (limited f k b) ys) (list_all (is_unmet f b) xs) (list_all (is_unmet f b) ys)

pub joined_assoc : (u v w : Verdict) → joined (joined u v) w ≡ joined u (joined v w)
joined_assoc (Error c fault) v w = refl
joined_assoc (NotConfirmed c k) (Error d fault) w = refl
joined_assoc (NotConfirmed c k) (NotConfirmed d j) (Error e fault) = refl
joined_assoc (NotConfirmed c k) (NotConfirmed d j) (NotConfirmed e i) = refl
joined_assoc (NotConfirmed c k) (NotConfirmed d j) Unmet = refl
joined_assoc (NotConfirmed c k) (NotConfirmed d j) Confirmed = refl
joined_assoc (NotConfirmed c k) Unmet w = refl
joined_assoc (NotConfirmed c k) Confirmed (Error e fault) = refl
joined_assoc (NotConfirmed c k) Confirmed (NotConfirmed e i) = refl
joined_assoc (NotConfirmed c k) Confirmed Unmet = refl
joined_assoc (NotConfirmed c k) Confirmed Confirmed = refl
joined_assoc Unmet v w = refl
joined_assoc Confirmed (Error d fault) w = refl
joined_assoc Confirmed (NotConfirmed d j) (Error e fault) = refl
joined_assoc Confirmed (NotConfirmed d j) (NotConfirmed e i) = refl
joined_assoc Confirmed (NotConfirmed d j) Unmet = refl
joined_assoc Confirmed (NotConfirmed d j) Confirmed = refl
joined_assoc Confirmed Unmet w = refl
joined_assoc Confirmed Confirmed (Error e fault) = refl
joined_assoc Confirmed Confirmed (NotConfirmed e i) = refl
joined_assoc Confirmed Confirmed Unmet = refl
joined_assoc Confirmed Confirmed Confirmed = refl

-- no call behind changes nothing
joined_unmet : (v : Verdict) → joined v Unmet ≡ v
joined_unmet (Error c fault) = refl
joined_unmet (NotConfirmed c k) = refl
joined_unmet Unmet = refl
joined_unmet Confirmed = refl

-- no call behind changes an error
joined_error : (v w : Verdict) → is_error v ≡ true → joined v w ≡ v
joined_error (Error c fault) w e = refl
joined_error (NotConfirmed c k) w e = cc
joined_error Unmet w e = cc
joined_error Confirmed w e = cc

-- an error behind calls that have none
pub joined_broken : (v : Verdict) (c : Call) (fault : Fault) → is_error v ≡ false → joined v (Error c fault) ≡ Error c fault
joined_broken (Error d other) c fault e = cc
joined_broken (NotConfirmed d k) c fault e = refl
joined_broken Unmet c fault e = refl
joined_broken Confirmed c fault e = refl

-- before any call
pub asked_none : (q : Question) (v : Verdict) → joined v (asked q []) ≡ v
unfolding verdict_over
asked_none q v = joined_unmet v

-- some calls, and then others
pub asked_append : (q : Question) (v : Verdict) (xs ys : List Call) → joined v (asked q (xs ++ ys)) ≡ joined (joined v (asked q xs)) (asked q ys)
asked_append q v xs ys =
    ap (joined v) (over_append (function_in q.trees.now.nodes q.function.now) (condition_in q.trees.now.nodes q.function.now q.condition) (bounds_of q.bounds.now) xs ys)
    ∙ sym (joined_assoc v (asked q xs) (asked q ys))

-- an error over the calls so far is the verdict over all
pub asked_error : (q : Question) (v w : Verdict) (xs ys : List Call) → w ≡ joined v (asked q xs) → is_error w ≡ true → w ≡ joined v (asked q (xs ++ ys))
asked_error q v w xs ys is error = sym (asked_append q v xs ys ∙ ap (λ u. joined u (asked q ys)) (sym is) ∙ joined_error w (asked q ys) error)

-- the verdict over one call is what its judgement says
single : (o : Option Fault) (l : Option LimitKind) (u : Bool) (c : Call) (j : Judgement) → o ≡ broken_by j → l ≡ limited_by j → u ≡ unmet_by j
    → concluded (with_call c o None) (with_call c l None) (u && true) ≡ verdict_at c j
single o l u c judgement.Unmet is_broken is_limited is_unmet = rw (is_broken, is_limited, is_unmet) refl
single o l u c judgement.Held is_broken is_limited is_unmet = rw (is_broken, is_limited, is_unmet) refl
single o l u c (judgement.Broken fault) is_broken is_limited is_unmet = rw is_broken refl
single o l u c (judgement.Limited k) is_broken is_limited is_unmet = rw (is_broken, is_limited) refl

pub asked_one : (q : Question) (c : Call) (j : Judgement) → IsJudged (function_in q.trees.now.nodes q.function.now) (condition_in q.trees.now.nodes q.function.now q.condition) (bounds_of q.bounds.now) c j → asked q (c ∷ []) ≡ verdict_at c j
unfolding verdict_over
asked_one q c j h = single _ _ _ c j h.broken h.limited h.unmet

-- the calls with one more argument before each
pushed : (front : List ℤ) (z : ℤ) (cs : List Call) → map (λ c. call_of (front ++ z ∷ []) ++ c) cs ≡ map (λ c. call_of front ++ c) (map (λ c. Number z ∷ c) cs)
pushed front z [] = refl
pushed front z (c ∷ cs) =
    let head : call_of (front ++ z ∷ []) ++ c ≡ call_of front ++ (Number z ∷ c) = ap (λ (x : Call). x ++ c) (map-append Number front (z ∷ [])) ∙ append_assoc (call_of front) (Number z ∷ []) c in
    ap (λ (x : Call). x ∷ map (λ d. call_of (front ++ z ∷ []) ++ d) cs) head ∙ ap (λ (x : List Call). (call_of front ++ (Number z ∷ c)) ∷ x) (pushed front z cs)

-- one more argument, and what follows it
each_pushed : (zs : List ℤ) (n : ℕ) (front : List ℤ) (cs : List Call) → ((z : ℤ) → beginning zs n (front ++ z ∷ []) ≡ map (λ c. call_of (front ++ z ∷ []) ++ c) cs)
    → (ys : List ℤ) → flat_map (λ z. beginning zs n (front ++ z ∷ [])) ys ≡ map (λ c. call_of front ++ c) (flat_map (λ a. map (λ rest. a ∷ rest) cs) (map (λ z. Number z) ys))
each_pushed zs n front cs is [] = refl
each_pushed zs n front cs is (y ∷ ys) =
    ap (λ (x : List Call). x ++ flat_map (λ z. beginning zs n (front ++ z ∷ [])) ys) (is y ∙ pushed front y cs)
    ∙ ap (λ (x : List Call). map (λ c. call_of front ++ c) (map (λ c. Number y ∷ c) cs) ++ x) (each_pushed zs n front cs is ys)
    ∙ sym (map-append (λ c. call_of front ++ c) (map (λ c. Number y ∷ c) cs) (flat_map (λ a. map (λ rest. a ∷ rest) cs) (map (λ z. Number z) ys)))

-- what begins with some arguments are the choices for the other parameters behind them
beginning_is : (names : List (List ℕ)) (b : Bounds) (front : List ℤ) → beginning (integers b.int_bits) (length names) front ≡ map (λ c. call_of front ++ c) (choices (map int_parameter names) b)
beginning_is [] b front = ap (λ (x : Call). x ∷ []) (sym (append-nil (call_of front)))
beginning_is (x ∷ names) b front =
    each_pushed (integers b.int_bits) (length names) front (choices (map int_parameter names) b) (λ z. beginning_is names b (front ++ z ∷ [])) (integers b.int_bits)

-- the verdict of a condition is that over what begins with no argument
pub verdict_from : (nodes : List ExprNode) (f : FnNode) (k : declared.Condition) (b : Bounds) (zs : List ℤ) (n : ℕ) (front : List ℤ) (v : Verdict) → zs ≡ integers b.int_bits → n ≡ length f.parameters.items → front ≡ []
    → v ≡ verdict_over (function_in nodes f) (condition_in nodes f k) b (beginning zs n front) → v ≡ verdict (function_in nodes f) (condition_in nodes f k) b
unfolding verdict calls
verdict_from nodes f k b zs n front v integers_are all none is =
    let names : List (List ℕ) = f.parameters.items in
    let cases : beginning zs n front ≡ choices (map int_parameter names) b =
    ap (λ (x : List ℤ). beginning x n front) integers_are
    ∙ ap (λ (m : ℕ). beginning (integers b.int_bits) m front) all
    ∙ ap (beginning (integers b.int_bits) (length names)) none
    ∙ beginning_is names b []
    ∙ map-id (choices (map int_parameter names) b) in
    is ∙ ap (verdict_over (function_in nodes f) (condition_in nodes f k) b) cases

-- one argument is chosen next
pub beginning_next : (zs : List ℤ) (n : ℕ) (front : List ℤ) → 0 < n → beginning zs n front ≡ flat_map (λ z. beginning zs (n - 1) (front ++ z ∷ [])) zs
beginning_next zs zero front some = absurd (omega arith)
beginning_next zs (suc n) front some =
    let same : suc n - 1 ≡ n = omega arith in
    ap (λ k. flat_map (λ z. beginning zs k (front ++ z ∷ [])) zs) (sym same)

-- the calls that begin with one more argument
abbrev pub each_next : List ℤ → ℕ → List ℤ → List ℤ → List Call
each_next zs n front ys = flat_map (λ y. beginning zs (n - 1) (front ++ y ∷ [])) ys

-- no argument is left to choose
pub tried_one : (q : Question) (v w : Verdict) (zs : List ℤ) (n : ℕ) (front arguments copied : List ℤ) (j : Judgement) → n ≡ 0 → arguments ≡ front → copied ≡ front
    → IsJudged (function_in q.trees.now.nodes q.function.now) (condition_in q.trees.now.nodes q.function.now q.condition) (bounds_of q.bounds.now) (call_of arguments) j
    → w ≡ joined v (verdict_at (call_of copied) j) → w ≡ joined v (asked q (beginning zs n front))
tried_one q v w zs n front arguments copied j none same copied_same is_judged is =
    is ∙ ap (joined v) (ap (λ (x : List ℤ). verdict_at (call_of x) j) (copied_same ∙ sym same) ∙ sym (asked_one q (call_of arguments) j is_judged) ∙ ap (λ (x : List ℤ). asked q (call_of x ∷ [])) same ∙ ap (λ (k : ℕ). asked q (beginning zs k front)) (sym none))

-- one more argument was tried
pub tried_more : (q : Question) (v w u : Verdict) (zs : List ℤ) (n i : ℕ) (front pushed : List ℤ) → i < length zs → pushed ≡ front ++ get_or zs i (pos 0) ∷ []
    → w ≡ joined v (asked q (each_next zs n front (take i zs))) → u ≡ joined w (asked q (beginning zs (n - 1) pushed)) → u ≡ joined v (asked q (each_next zs n front (take (i + 1) zs)))
tried_more q v w u zs n i front pushed lt is before next =
    let z : ℤ = get_or zs i (pos 0) in
    let calls_at : List Call = beginning zs (n - 1) (front ++ z ∷ []) in
    let more : each_next zs n front (take i zs) ++ calls_at ≡ each_next zs n front (take (i + 1) zs) =
    flat_map_more (λ y. beginning zs (n - 1) (front ++ y ∷ [])) [] (take i zs) z ∙ ap (each_next zs n front) (sym (take_more zs i (pos 0) lt)) in
    next
    ∙ ap (λ (x : List ℤ). joined w (asked q (beginning zs (n - 1) x))) is
    ∙ ap (λ (x : Verdict). joined x (asked q calls_at)) before
    ∙ sym (asked_append q v (each_next zs n front (take i zs)) calls_at)
    ∙ ap (λ (x : List Call). joined v (asked q x)) more

-- each argument was tried
pub tried_all : (q : Question) (v w : Verdict) (zs : List ℤ) (n i : ℕ) (front : List ℤ) → 0 < n → length zs ≤ i → w ≡ joined v (asked q (each_next zs n front (take i zs))) → w ≡ joined v (asked q (beginning zs n front))
tried_all q v w zs n i front some all is =
    is
    ∙ ap (λ (x : List ℤ). joined v (asked q (each_next zs n front x))) (take_all i zs all)
    ∙ ap (λ (x : List Call). joined v (asked q x)) (sym (beginning_next zs n front some))

-- some call broke the condition
pub tried_enough : (q : Question) (v w : Verdict) (zs : List ℤ) (n i : ℕ) (front : List ℤ) → 0 < n → is_error w ≡ true → w ≡ joined v (asked q (each_next zs n front (take i zs))) → w ≡ joined v (asked q (beginning zs n front))
tried_enough q v w zs n i front some error is =
    asked_error q v w (each_next zs n front (take i zs)) (each_next zs n front (drop i zs)) is error
    ∙ ap (λ (x : List Call). joined v (asked q x)) (sym (flat_map-append (λ y. beginning zs (n - 1) (front ++ y ∷ [])) (take i zs) (drop i zs)) ∙ ap (each_next zs n front) (take-append-drop i zs) ∙ sym (beginning_next zs n front some))

-- one more argument behind those in front
pub pushed_is : (items old front : List ℤ) (w z : ℤ) → items ≡ old ++ w ∷ [] → w ≡ z → old ≡ front → items ≡ front ++ z ∷ []
pushed_is items old front w z is value same = is ∙ ap (λ (x : ℤ). old ++ x ∷ []) value ∙ ap (λ (x : List ℤ). x ++ z ∷ []) same

-- what is left when the last argument is taken away
pub popped : (left back pushed front : List ℤ) (z : ℤ) (n : ℕ) → left ≡ take (n - 1) back → back ≡ pushed → pushed ≡ front ++ z ∷ [] → n ≡ length back → left ≡ front
popped left back pushed front z n is kept more len =
    let whole : back ≡ front ++ z ∷ [] = kept ∙ more in
    let place : length front ≡ n - 1 = omega (arith, ap length whole, length_push front z) in
    is ∙ ap (take (n - 1)) whole ∙ take_at front (z ∷ []) (n - 1) place
