-- Functions with the types of their parameters, one after the other.
use Rattle.std.proofs.Common.{◌≡◌, ℕ, zero, suc, ◌+◌, ◌<◌, ◌≤◌, ◌&&◌, not, Bool, List, [], ◌∷◌, ◌++◌, length, map, take, get_or, refl, sym, ap, arith, ◌∙◌}
use Rattle.std.specs.Global.{Vec}
use Rattle.std.specs.Prelude.{Option}
use Rattle.std.proofs.lemmas.List.{get_or-map, length-map, map_push, take_all}
use Rattle.std.proofs.lemmas.Simd.{map-map}
use Rattle.spec_trees.specs.Module.{Block}
use Rattle.spec_types.specs.Signatures as types
use Rattle.spec_names.specs.Headers.{is_self_first}
use Rattle.spec_uses.specs.Functions.{FunctionOf, is_constructor}
use Rattle.py_tree.specs.Arena.{State, module_tree}
use Rattle.module_functions.specs.declared.function.Function.{Function}
use Rattle.module_functions.specs.Listed.{function_in}
use Rattle.read_annotations.specs.declared.annotation.Annotation.{Annotation}
use Rattle.read_annotations.specs.Reading.{Read, shown_all, shown_lists}
use Rattle.signatures.specs.Written.{annotations}
use Rattle.given_types.specs.declared.Signature.{Signature}
use Rattle.given_types.specs.Checked.{signature_as, signatures_as}
use Rattle.given_types.specs.Giving.{signature_in}

-- one function more
signatures_next : (b : Block) (cs : List Bool) (fs : List FunctionOf) (i : ℕ) (d : Bool) (e : FunctionOf) → i < length cs → i < length fs → signatures_as b (take (suc i) cs) (take (suc i) fs) ≡ signatures_as b (take i cs) (take i fs) ++ signature_as b (get_or cs i d) (get_or fs i e) ∷ []
signatures_next b [] fs i d e lt lu = absurd (omega arith)
signatures_next b (c ∷ cs) [] i d e lt lu = absurd (omega arith)
signatures_next b (c ∷ cs) (f ∷ fs) zero d e lt lu = refl
signatures_next b (c ∷ cs) (f ∷ fs) (suc i) d e lt lu = ap (λ (v : List types.Signature). signature_as b c f ∷ v) (signatures_next b cs fs i d e (omega arith) (omega arith))

signatures_more : (b : Block) (cs : List Bool) (fs : List FunctionOf) (i : ℕ) (d : Bool) (e : FunctionOf) → i < length cs → i < length fs → signatures_as b (take (i + 1) cs) (take (i + 1) fs) ≡ signatures_as b (take i cs) (take i fs) ++ signature_as b (get_or cs i d) (get_or fs i e) ∷ []
signatures_more b cs fs i d e lt lu =
    let next : i + 1 ≡ suc i = omega arith in
    ap (λ (n : ℕ). signatures_as b (take n cs) (take n fs)) next ∙ signatures_next b cs fs i d e lt lu

-- the same place of two lists that come to the same
pub same_place : {X Y Z : Type 0} (f : X → Z) (g : Y → Z) (xs : List X) (ys : List Y) (i : ℕ) (d : X) (e : Y) → map f xs ≡ map g ys → i < length xs → i < length ys → f (get_or xs i d) ≡ g (get_or ys i e)
same_place f g xs ys i d e is lt lu = sym (get_or-map f xs i d (f d) lt) ∙ ap (λ v. get_or v i (f d)) is ∙ get_or-map g ys i e (f d) lu

-- a function whose parts are these
pub signature_is : (b : Block) (is : Bool) (f : FunctionOf) (n : ℕ) (c : Option ℕ) (constructs takes : Bool) (gs : List types.Given) → n ≡ f.line → c ≡ f.class → constructs ≡ is_constructor f
    → takes ≡ (is_self_first f.parameters && not (is_constructor f)) → gs ≡ types.given b (types.typed f)
    → record { line = n; is_checked = is; class = c; is_constructor = constructs; takes_self = takes; types = gs } ≡ signature_as b is f
signature_is b is f n c constructs takes gs line class constructor self given = rw (line, class, constructor, self, given) refl

-- the annotations of one of several functions
pub annotated_at : (m : State) (ws : List (Vec (Option Annotation))) (fs : List Function) (i : ℕ) (d : Vec (Option Annotation)) (e : Function) → shown_lists m ws ≡ map (λ (f : FunctionOf). annotations (types.typed f)) (map (function_in m) fs) → i < length fs
    → shown_all m (get_or ws i d).items ≡ annotations (types.typed (function_in m (get_or fs i e)))
annotated_at m ws fs i d e is lt =
    let each : Function → List (Option Read) = λ f. annotations (types.typed (function_in m f)) in
    let same : shown_lists m ws ≡ map each fs = is ∙ map-map (λ (f : FunctionOf). annotations (types.typed f)) (function_in m) fs in
    let long : length ws ≡ length fs = sym (length-map ws (λ (v : Vec (Option Annotation)). shown_all m v.items)) ∙ ap length same ∙ length-map fs each in
    same_place (λ (v : Vec (Option Annotation)). shown_all m v.items) each ws fs i d e same (omega (arith, lt, long)) lt

module _ (m : State) (cs : List Bool) (fs : List Function) where
  -- the functions before the place i are listed
  abbrev pub AreListedTo : List Signature → ℕ → Type 0
  AreListedTo ss i = map (signature_in m) ss ≡ signatures_as (module_tree m).body (take i cs) (take i (map (function_in m) fs))

  pub listed_more : (ss more : List Signature) (i : ℕ) (s : Signature) (d : Bool) (e : Function) → AreListedTo ss i → i < length cs → i < length fs
      → signature_in m s ≡ signature_as (module_tree m).body (get_or cs i d) (function_in m (get_or fs i e)) → more ≡ ss ++ s ∷ [] → AreListedTo more (i + 1)
  listed_more ss more i s d e h lt lu is by =
      let b = (module_tree m).body in
      let gs = map (function_in m) fs in
      let here : signature_in m s ≡ signature_as b (get_or cs i d) (get_or gs i (function_in m e)) = is ∙ ap (signature_as b (get_or cs i d)) (sym (get_or-map (function_in m) fs i e (function_in m e) lu)) in
      let size : length gs ≡ length fs = length-map fs (function_in m) in
      ap (map (signature_in m)) by ∙ map_push (signature_in m) ss s
      ∙ ap (λ (v : List types.Signature). v ++ signature_in m s ∷ []) h
      ∙ ap (λ (v : types.Signature). signatures_as b (take i cs) (take i gs) ++ v ∷ []) here
      ∙ sym (signatures_more b cs gs i d (function_in m e) lt (omega (arith, lu, size)))

  pub listed_all : (ss : List Signature) (i : ℕ) → AreListedTo ss i → length cs ≤ i → length fs ≤ i → map (signature_in m) ss ≡ signatures_as (module_tree m).body cs (map (function_in m) fs)
  listed_all ss i h le lf =
      let b = (module_tree m).body in
      let gs = map (function_in m) fs in
      let size : length gs ≡ length fs = length-map fs (function_in m) in
      h ∙ ap (λ (v : List Bool). signatures_as b v (take i gs)) (take_all i cs le) ∙ ap (λ (v : List FunctionOf). signatures_as b cs v) (take_all i gs (omega (arith, lf, size)))
