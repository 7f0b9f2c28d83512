-- Laws of the texts of a report.
use Rattle.std.proofs.Common.{◌≡◌, ℕ, zero, suc, ◌+◌, ℤ, Bool, true, false, ◌||◌, List, [], ◌∷◌, ◌++◌, length, get_or, min, ◌<◌, ◌≤◌, take, map, append_assoc, ap, sym, refl, ◌∙◌, arith}
use Rattle.std.proofs.Math.Bool.{or-false, or_assoc}
use Rattle.std.proofs.lemmas.Grind.{common_steps, flat_map-append}
use Rattle.std.proofs.lemmas.List.{append-nil, map-append, take_more}
use Rattle.std.proofs.lemmas.List.Folds.{list_any-append}
use Rattle.std.proofs.lemmas.Option.{gets, slice_get-map}
use Rattle.std.specs.Prelude.{codes, slice_get, Some}
use Rattle.std.specs.Option.{option_map}
use Rattle.std.specs.List.{flat_map, list_any}
use Rattle.std.specs.Fmt.{decimal}
use Rattle.spec_first_trees.specs.declared.LimitKind.{LimitKind}
use Rattle.spec_first_trees.specs.Bounds.{Bounds}
use Rattle.spec_first_trees.specs.Program.{Function, Condition}
use Rattle.spec_calls.specs.Calls.{Call, Number}
use Rattle.spec_calls.specs.Printing.{arguments_text, more_text, named, printed}
use Rattle.spec_verdicts.specs.Breaking.{Fault}
use Rattle.spec_verdicts.specs.Verdicts.{Verdict}
use Rattle.spec_verdicts.specs.Lines.{error_line, fault_text, info_line, limit_name, limit_text}
use Rattle.spec_verdicts.specs.Report.{function_text, has_error, is_error}
use Rattle.first_tree.specs.declared.nodes.ExprNode.{ExprNode}
use Rattle.first_tree.specs.declared.nodes.FnNode.{FnNode}
use Rattle.first_tree.specs.declared.nodes.Post.{Post}
use Rattle.first_verdicts.specs.declared.verdicts.Condition.TheVariants as condition
use Rattle.first_tree.specs.Functions.{function_in, int_parameter, post_in}
use Rattle.first_verdicts.specs.Meaning.{condition_in}
use Rattle.crosshair.specs.Texts.{condition_text, condition_fails}

-- three pieces are appended one after the other
pub three_added : (t t1 t2 t3 a b d : List ℕ) → t1 ≡ t ++ a → t2 ≡ t1 ++ b → t3 ≡ t2 ++ d → t3 ≡ t ++ ((a ++ b) ++ d)
three_added t t1 t2 t3 a b d e1 e2 e3 = simp (e3, e2, e1, append_assoc)

-- a call is appended in four pieces
pub call_added : (nodes : List ExprNode) (f : FnNode) (c : Call) (t t1 t2 t3 t4 name : List ℕ) → t1 ≡ t ++ name → name ≡ f.name → t2 ≡ t1 ++ codes "(" → t3 ≡ t2 ++ arguments_text (map int_parameter f.parameters.items) c → t4 ≡ t3 ++ codes ")" → t4 ≡ t ++ printed (function_in nodes f) c
unfolding printed
call_added nodes f c t t1 t2 t3 t4 name e1 n e2 e3 e4 = simp (e4, e3, e2, e1, n, append_assoc)

-- the line of an error in three pieces
pub error_added : (name : List ℕ) (line : ℕ) (f : Function) (c : Call) (fault : Fault) (head t1 t2 t3 : List ℕ) → t1 ≡ head → head ≡ name ++ (codes ":" ++ (decimal line ++ codes ": error: ")) → t2 ≡ t1 ++ fault_text f c fault → t3 ≡ t2 ++ codes "\n" → t3 ≡ error_line name line f c fault
unfolding error_line
error_added name line f c fault head t1 t2 t3 e1 h e2 e3 = simp (e3, e2, e1, h, append_assoc)

-- a verdict that is no error is written only where all are
pub written : (all : Bool) (v : Verdict) → is_error v ≡ false → (all || is_error v) ≡ true → all ≡ true
written all v calm e = sym (or-false all) ∙ ap (λ b. all || b) (sym calm) ∙ e

-- the line of a limit in five pieces
pub limit_added : (name : List ℕ) (line : ℕ) (f : Function) (c : Call) (kind : LimitKind) (head word t1 t2 t3 t4 t5 : List ℕ) → t1 ≡ head → head ≡ name ++ (codes ":" ++ (decimal line ++ codes ": info: Not confirmed. (")) → t2 ≡ t1 ++ word → word ≡ limit_name kind → t3 ≡ t2 ++ codes " limit when calling " → t4 ≡ t3 ++ printed f c → t5 ≡ t4 ++ codes ")\n" → t5 ≡ info_line name line (limit_text f c kind)
unfolding info_line
limit_added name line f c kind head word t1 t2 t3 t4 t5 e1 h e2 w e3 e4 e5 = simp (e5, e4, e3, e2, e1, h, w, append_assoc)

-- further parameters and one more
pub more_added : (ps : List (List ℕ)) (xs : List ℤ) (i : ℕ) (p : List ℕ) (x : ℤ) (d : List ℕ) (z : ℤ) → i < length ps → i < length xs → p ≡ get_or ps i d → x ≡ get_or xs i z
    → more_text (map int_parameter (take (i + 1) ps)) (map Number (take (i + 1) xs)) ≡ more_text (map int_parameter (take i ps)) (map Number (take i xs)) ++ (codes ", " ++ named p (Number x))
more_added [] xs i p x d z h k e f = absurd (omega arith)
more_added (q ∷ ps) [] i p x d z h k e f = absurd (omega arith)
more_added (q ∷ ps) (y ∷ xs) zero p x d z h k e f =
    rw (e, f) (append-nil (codes ", " ++ named q (Number y)))
more_added (q ∷ ps) (y ∷ xs) (suc i) p x d z h k e f =
    let later : suc i + 1 ≡ suc (i + 1) = omega arith in
    let rest : List ℕ = more_text (map int_parameter (take i ps)) (map Number (take i xs)) in
    rw later (ap (λ t. codes ", " ++ named q (Number y) ++ t) (more_added ps xs i p x d z (omega arith) (omega arith) e f) ∙ sym (append_assoc (codes ", " ++ named q (Number y)) rest (codes ", " ++ named p (Number x))))

-- they are appended in two pieces
pub argument_added : (start more later piece t t1 t2 : List ℕ) → t ≡ start ++ more → t1 ≡ t ++ codes ", " → t2 ≡ t1 ++ piece → later ≡ more ++ (codes ", " ++ piece) → t2 ≡ start ++ later
argument_added start more later piece t t1 t2 e e1 e2 f = rw f (simp (e2, e1, e, append_assoc))

-- all further parameters
pub more_whole : (ps : List (List ℕ)) (xs : List ℤ) (i : ℕ) → min (length ps) (length xs) ≤ i → more_text (map int_parameter (take i ps)) (map Number (take i xs)) ≡ more_text (map int_parameter ps) (map Number xs)
more_whole [] xs zero h = refl
more_whole [] xs (suc i) h = refl
more_whole (p ∷ ps) [] zero h = refl
more_whole (p ∷ ps) [] (suc i) h = refl
more_whole (p ∷ ps) (x ∷ xs) zero h = absurd (omega arith)
more_whole (p ∷ ps) (x ∷ xs) (suc i) h = ap (λ t. codes ", " ++ (named p (Number x) ++ t)) (more_whole ps xs i (omega arith))

-- the first items and the next one
pub take_item : {X : Type 0} (xs : List X) (i : ℕ) (x : X) → slice_get xs i ≡ Some x → take (i + 1) xs ≡ take i xs ++ x ∷ []
take_item xs i x h = grind (arith, common_steps, gets, take_more)

-- what is written for the first condition and for some post lines
abbrev pub text_so_far : Bool → List ℕ → Bounds → List ExprNode → FnNode → List Post → List ℕ
text_so_far all name bounds nodes f ps =
    condition_text all name bounds (function_in nodes f) (condition_in nodes f condition.Raises) ++ flat_map (condition_text all name bounds (function_in nodes f)) (map (post_in nodes) ps)

-- whether one of these is an error
abbrev pub fails_so_far : Bounds → List ExprNode → FnNode → List Post → Bool
fails_so_far bounds nodes f ps = condition_fails bounds (function_in nodes f) (condition_in nodes f condition.Raises) || list_any (condition_fails bounds (function_in nodes f)) (map (post_in nodes) ps)

-- the first condition is written
pub first_added : (all : Bool) (name : List ℕ) (bounds : Bounds) (nodes : List ExprNode) (f : FnNode) (t t1 : List ℕ) → t1 ≡ t ++ condition_text all name bounds (function_in nodes f) (condition_in nodes f condition.Raises) → t1 ≡ t ++ text_so_far all name bounds nodes f []
first_added all name bounds nodes f t t1 e = e ∙ ap (λ x. t ++ x) (sym (append-nil _))

pub first_fails : (bounds : Bounds) (nodes : List ExprNode) (f : FnNode) (here : Bool) → here ≡ condition_fails bounds (function_in nodes f) (condition_in nodes f condition.Raises) → here ≡ fails_so_far bounds nodes f []
first_fails bounds nodes f here e = e ∙ sym (or-false _)

-- one post line more is written
pub post_added : (all : Bool) (name : List ℕ) (bounds : Bounds) (nodes : List ExprNode) (f : FnNode) (i : ℕ) (p : Post) (start t t1 : List ℕ) → slice_get f.posts.items i ≡ Some p → t ≡ start ++ text_so_far all name bounds nodes f (take i f.posts.items)
    → t1 ≡ t ++ condition_text all name bounds (function_in nodes f) (condition_in nodes f (condition.Post p)) → t1 ≡ start ++ text_so_far all name bounds nodes f (take (i + 1) f.posts.items)
post_added all name bounds nodes f i p start t t1 h e e1 =
    let first : List ℕ = condition_text all name bounds (function_in nodes f) (condition_in nodes f condition.Raises) in
    let each : Condition → List ℕ = condition_text all name bounds (function_in nodes f) in
    let before : List Condition = map (post_in nodes) (take i f.posts.items) in
    let more : map (post_in nodes) (take (i + 1) f.posts.items) ≡ before ++ post_in nodes p ∷ [] = ap (map (post_in nodes)) (take_item f.posts.items i p h) ∙ map-append (post_in nodes) (take i f.posts.items) (p ∷ []) in
    e1 ∙ ap (λ x. x ++ each (post_in nodes p)) e ∙ append_assoc start (first ++ flat_map each before) (each (post_in nodes p))
    ∙ ap (λ x. start ++ x) (append_assoc first (flat_map each before) (each (post_in nodes p)) ∙ ap (λ x. first ++ (flat_map each before ++ x)) (sym (append-nil (each (post_in nodes p))))
    ∙ ap (λ x. first ++ x) (sym (flat_map-append each before (post_in nodes p ∷ []))) ∙ ap (λ cs. first ++ flat_map each cs) (sym more))

-- or fails
pub post_fails : (bounds : Bounds) (nodes : List ExprNode) (f : FnNode) (i : ℕ) (p : Post) (now here : Bool) → slice_get f.posts.items i ≡ Some p → now ≡ fails_so_far bounds nodes f (take i f.posts.items)
    → here ≡ condition_fails bounds (function_in nodes f) (condition_in nodes f (condition.Post p)) → (now || here) ≡ fails_so_far bounds nodes f (take (i + 1) f.posts.items)
post_fails bounds nodes f i p now here h e g =
    let first : Bool = condition_fails bounds (function_in nodes f) (condition_in nodes f condition.Raises) in
    let each : Condition → Bool = condition_fails bounds (function_in nodes f) in
    let before : List Condition = map (post_in nodes) (take i f.posts.items) in
    let more : map (post_in nodes) (take (i + 1) f.posts.items) ≡ before ++ post_in nodes p ∷ [] = ap (map (post_in nodes)) (take_item f.posts.items i p h) ∙ map-append (post_in nodes) (take i f.posts.items) (p ∷ []) in
    ap (λ x. x || here) e ∙ ap (λ x. (first || list_any each before) || x) (g ∙ sym (or-false _)) ∙ or_assoc first (list_any each before) (each (post_in nodes p) || false)
    ∙ ap (λ x. first || x) (sym (list_any-append each before (post_in nodes p ∷ [])) ∙ ap (list_any each) (sym more))

-- all of a function
pub function_is : (all : Bool) (name : List ℕ) (bounds : Bounds) (nodes : List ExprNode) (f : FnNode) → text_so_far all name bounds nodes f f.posts.items ≡ function_text all name bounds (function_in nodes f)
unfolding function_text
function_is all name bounds nodes f = refl

pub fails_is : (bounds : Bounds) (nodes : List ExprNode) (f : FnNode) → fails_so_far bounds nodes f f.posts.items ≡ has_error bounds (function_in nodes f)
unfolding has_error
fails_is bounds nodes f = refl

-- the program's next function
pub next_function : (nodes : List ExprNode) (fs : List FnNode) (i : ℕ) (f : FnNode) → slice_get fs i ≡ Some f → take (i + 1) (map (function_in nodes) fs) ≡ take i (map (function_in nodes) fs) ++ function_in nodes f ∷ []
next_function nodes fs i f h = take_item (map (function_in nodes) fs) i (function_in nodes f) (slice_get-map (function_in nodes) fs i ∙ ap (option_map (function_in nodes)) h)

-- the text of one more function
pub text_more : (all : Bool) (name : List ℕ) (bounds : Bounds) (nodes : List ExprNode) (fs : List FnNode) (i : ℕ) (f : FnNode) (old now new : List ℕ) → slice_get fs i ≡ Some f → now ≡ old ++ flat_map (function_text all name bounds) (take i (map (function_in nodes) fs)) → new ≡ now ++ function_text all name bounds (function_in nodes f) → new ≡ old ++ flat_map (function_text all name bounds) (take (i + 1) (map (function_in nodes) fs))
text_more all name bounds nodes fs i f old now new h e g =
    let before : List Function = take i (map (function_in nodes) fs) in
    let text : List ℕ = function_text all name bounds (function_in nodes f) in
    let more : flat_map (function_text all name bounds) (take (i + 1) (map (function_in nodes) fs)) ≡ flat_map (function_text all name bounds) before ++ text =
    ap (flat_map (function_text all name bounds)) (next_function nodes fs i f h) ∙ flat_map-append (function_text all name bounds) before (function_in nodes f ∷ []) ∙ ap (λ x. flat_map (function_text all name bounds) before ++ x) (append-nil text) in
    g ∙ ap (λ x. x ++ text) e ∙ append_assoc old (flat_map (function_text all name bounds) before) text ∙ ap (λ x. old ++ x) (sym more)

-- whether one more function has an error
pub fails_more : (bounds : Bounds) (nodes : List ExprNode) (fs : List FnNode) (i : ℕ) (f : FnNode) (now here : Bool) → slice_get fs i ≡ Some f → now ≡ list_any (has_error bounds) (take i (map (function_in nodes) fs)) → here ≡ has_error bounds (function_in nodes f) → (now || here) ≡ list_any (has_error bounds) (take (i + 1) (map (function_in nodes) fs))
fails_more bounds nodes fs i f now here h e g =
    let before : List Function = take i (map (function_in nodes) fs) in
    ap (λ x. x || here) e ∙ ap (λ x. list_any (has_error bounds) before || x) (g ∙ sym (or-false _)) ∙ sym (list_any-append (has_error bounds) before (function_in nodes f ∷ [])) ∙ ap (list_any (has_error bounds)) (sym (next_function nodes fs i f h))
