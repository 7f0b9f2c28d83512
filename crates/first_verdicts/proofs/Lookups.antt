-- How the locals of a call are read.
use Rattle.std.proofs.Common.{◌≡◌, ◌<◌, ◌+◌, ℕ, ℤ, Bool, true, false, List, [], ◌∷◌, ◌++◌, length, get_or, drop, refl, sym, ap, ◌∙◌}
use Rattle.std.proofs.lemmas.List.{drop_more, drop-drop}
use Rattle.std.specs.Prelude.{Option, Some, None, if◌then◌else◌}
use Rattle.std.specs.Str.{bytes_eq}
use Rattle.spec_running.specs.declared.Value.{Value}
use Rattle.spec_running.specs.States.{Locals, local}
use Rattle.spec_forms.specs.Names.{returned_name}
use Rattle.first_verdicts.specs.Evaluates.{passed, with_returned}

-- a parameter of another name
other_name : (names : List (List ℕ)) (arguments : List ℤ) (x name : List ℕ) → bytes_eq x name ≡ false → local (passed (x ∷ names) arguments) name ≡ local (passed names (drop 1 arguments)) name
other_name [] [] x name other = refl
other_name (y ∷ names) [] x name other = refl
other_name names (z ∷ arguments) x name other = rw other refl

-- the parameter at a place has another name
pub next_parameter : (names : List (List ℕ)) (arguments : List ℤ) (i : ℕ) (x name : List ℕ) → i < length names → x ≡ get_or names i x → bytes_eq x name ≡ false
    → local (passed (drop (i + 1) names) (drop (i + 1) arguments)) name ≡ local (passed (drop i names) (drop i arguments)) name
next_parameter names arguments i x name lt is other =
    let here : drop i names ≡ x ∷ drop (i + 1) names = drop_more names i x lt ∙ ap (λ (y : List ℕ). y ∷ drop (i + 1) names) (sym is) in
    sym (ap (λ (ns : List (List ℕ)). local (passed ns (drop i arguments)) name) here
    ∙ other_name (drop (i + 1) names) (drop i arguments) x name other
    ∙ ap (λ (zs : List ℤ). local (passed (drop (i + 1) names) zs) name) (drop-drop 1 i arguments))

-- a first entry, and what is known of those behind it
found_step : (b : Bool) (v w : Value) (o u : Option Value) → (o ≡ Some v → u ≡ Some v) → (if b then Some w else o) ≡ Some v → (if b then Some w else u) ≡ Some v
found_step true v w o u rest e = e
found_step false v w o u rest e = rest e

none_step : (b : Bool) (w : Value) (o u r : Option Value) → (o ≡ None → u ≡ r) → (if b then Some w else o) ≡ None → (if b then Some w else u) ≡ r
none_step true w o u r rest e = cc
none_step false w o u r rest e = rest e

-- what stands in front counts
local_front : (ls ms : Locals) (name : List ℕ) (v : Value) → local ls name ≡ Some v → local (ls ++ ms) name ≡ Some v
local_front [] ms name v e = cc
local_front (l ∷ ls) ms name v e = found_step (bytes_eq l.0 name) v l.1 (local ls name) (local (ls ++ ms) name) (λ h. local_front ls ms name v h) e

-- where a name has no entry in front
local_behind : (ls ms : Locals) (name : List ℕ) → local ls name ≡ None → local (ls ++ ms) name ≡ local ms name
local_behind [] ms name e = refl
local_behind (l ∷ ls) ms name e = none_step (bytes_eq l.0 name) l.1 (local ls name) (local (ls ++ ms) name) (local ms name) (λ h. local_behind ls ms name h) e

pub argument_read : (ls : Locals) (r : Option Value) (name : List ℕ) (v : Value) → local ls name ≡ Some v → local (with_returned ls r) name ≡ Some v
argument_read ls None name v e = e
argument_read ls (Some w) name v e = local_front ls ((returned_name, w) ∷ []) name v e

pub returned_read : (ls : Locals) (w : Value) (name : List ℕ) → local ls name ≡ None → bytes_eq returned_name name ≡ true → local (with_returned ls (Some w)) name ≡ Some w
returned_read ls w name e same = local_behind ls ((returned_name, w) ∷ []) name e ∙ ap (λ (b : Bool). if b then Some w else None) same

pub unset_read : (ls : Locals) (w : Value) (name : List ℕ) → local ls name ≡ None → bytes_eq returned_name name ≡ false → local (with_returned ls (Some w)) name ≡ None
unset_read ls w name e other = local_behind ls ((returned_name, w) ∷ []) name e ∙ ap (λ (b : Bool). if b then Some w else None) other
