use Rattle.std.proofs.Common.{◌≡◌, ℕ, ◌-◌, ◌<◌, ◌++◌, ◌∷◌, [], Bool, true, false, List, length, take, drop, get_or, sym, ap, subst, ◌∙◌, refl, arith, length-drop, Option, None}
use Rattle.std.proofs.lemmas.Bool.{both_ways, eqb-true, eqb-false}
use Rattle.std.proofs.lemmas.List.{take_rest, get_or_default}
use Rattle.refutation_check.specs.declared.lit.SatLit.{SatLit}
use Rattle.sat_core.specs.Search.{IsCovered, IsClosed, IsSearched}
use Rattle.sat_core.proofs.Branches.{covered_side, leaf_model, same_model, closed_leaf, closed_sides}
use Rattle.sat_core.proofs.search.+search.Goals as goal

pub returns-then-branch : goal.returns-then-branch
returns-then-branch t c = closed_leaf c.args.clauses.now c.args.assumptions.now c.args.splits.now c.args.refutation.now c.close.new.refutation c.requires.sound (c.in_ok-is_closed.ensures.0 c.if-branch.true) c.in_ok-close.ensures

pub returns-then-is_empty : goal.returns-then-is_empty
returns-then-is_empty t c =
    let none : length c.args.vars.now ≡ 0 = eqb-true (length c.args.vars.now) 0 (sym c.is_empty.ensures ∙ c.if-is_empty.true) in
    let m = leaf_model c.args.clauses.now c.args.assumptions.now c.args.vars.now c.args.splits.now c.requires.covered none (λ h. both_ways c.in_ok-is_closed.field-0 c.if-branch.false (c.in_ok-is_closed.ensures.1 h)) in
    same_model c.args.clauses.now c.args.assumptions.now c.in_ok-from_literals.field-0 c.args.splits.now c.in_ok-from_literals.ensures m

-- the first variable is split on one side
side : (clauses : List (List SatLit)) (assumptions splits more : List SatLit) (vars : List ℕ) (p : Bool) → 0 < length vars → more ≡ splits ++ record { var = get_or vars 0 0; positive = p } ∷ [] → IsCovered clauses assumptions vars splits → IsCovered clauses assumptions (take (length vars - 1) (drop 1 vars)) more
side clauses assumptions splits more vars p lt e h =
    let V : List ℕ → Type 0 = λ v. IsCovered clauses assumptions v more in
    let S : List SatLit → Type 0 = λ s. IsCovered clauses assumptions (drop 1 vars) s in
    subst V (sym (take_rest vars 1)) (subst S (sym e) (covered_side clauses assumptions vars splits (get_or vars 0 0) p lt (get_or_default vars 0 (get_or vars 0 0) 0 lt) h))

-- a branch that gives no model is closed
told : (clauses : List (List SatLit)) (assumptions splits more : List SatLit) (old new : List (List SatLit)) (o : Option (List SatLit)) → splits ≡ more → o ≡ None → IsSearched clauses assumptions splits old new o → IsClosed clauses assumptions more old new
told clauses assumptions splits more old new o s e h =
    let O : Option (List SatLit) → Type 0 = λ x. IsSearched clauses assumptions splits old new x in
    let S : List SatLit → Type 0 = λ x. IsClosed clauses assumptions x old new in
    subst S s (subst O e h)

pub search-requires : goal.search-requires
search-requires t c =
    let ne = eqb-false (length c.args.vars.now) 0 (sym c.is_empty.ensures ∙ c.if-is_empty.false) in
    let lt : 0 < length c.args.vars.now = omega (arith, ne) in
    let less : length (take (length c.args.vars.now - 1) (drop 1 c.args.vars.now)) < t = omega (arith, ap (λ (v : List ℕ). length v) (take_rest c.args.vars.now 1), length-drop 1 c.args.vars.now, c.decreases) in
    (less, (side c.args.clauses.now c.args.assumptions.now c.args.splits.now c.deref.result.now c.args.vars.now true lt (c.deref.ensures.value ∙ c.in_ok-yes.ensures) c.requires.covered, c.requires.sound))

pub search-requires-2 : goal.search-requires-2
search-requires-2 t c =
    let ne = eqb-false (length c.args.vars.now) 0 (sym c.is_empty.ensures ∙ c.if-is_empty.false) in
    let lt : 0 < length c.args.vars.now = omega (arith, ne) in
    let less : length (take (length c.args.vars.now - 1) (drop 1 c.args.vars.now)) < t = omega (arith, ap (λ (v : List ℕ). length v) (take_rest c.args.vars.now 1), length-drop 1 c.args.vars.now, c.decreases) in
    let up = told c.args.clauses.now c.args.assumptions.now c.deref.result.now c.deref.result.now c.args.refutation.now c.search.new.refutation c.in_ok-model.field-0 refl c.in-None.is c.in_ok-model.ensures in
    (less, (side c.args.clauses.now c.args.assumptions.now c.args.splits.now c.deref-2.result.now c.args.vars.now false lt (c.deref-2.ensures.value ∙ c.in_ok-no.ensures) c.requires.covered, up.each_follows))

pub returns : goal.returns
returns t c =
    let x : ℕ = get_or c.args.vars.now 0 0 in
    let up = told c.args.clauses.now c.args.assumptions.now c.deref.result.now (c.args.splits.now ++ record { var = x; positive = true } ∷ []) c.args.refutation.now c.search.new.refutation c.in_ok-model.field-0 (c.deref.ensures.value ∙ c.in_ok-yes.ensures) c.in-None.is c.in_ok-model.ensures in
    let down = told c.args.clauses.now c.args.assumptions.now c.deref-2.result.now (c.args.splits.now ++ record { var = x; positive = false } ∷ []) c.search.new.refutation c.search-2.new.refutation c.in_ok-model-2.field-0 (c.deref-2.ensures.value ∙ c.in_ok-no.ensures) c.in-None-2.is c.in_ok-model-2.ensures in
    closed_sides c.args.clauses.now c.args.assumptions.now c.args.splits.now x c.args.refutation.now c.search.new.refutation c.search-2.new.refutation c.close-2.new.refutation up down c.in_ok-close-2.ensures
