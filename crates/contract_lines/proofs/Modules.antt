-- The functions and classes of a module, one after the other.
use Rattle.std.proofs.Common.{◌≡◌, ◌<◌, ◌+◌, ℕ, List, [], ◌∷◌, length, map, drop, get_or, chars, Option, Some, None, Ok, Err, refl, sym, ap, subst, ◌∙◌}
use Rattle.spec_trees.specs.Expr.{StringPart}
use Rattle.spec_trees.specs.Module.{Block}
use Rattle.spec_contracts.specs.declared.Refusal.{Refusal}
use Rattle.spec_contracts.specs.declared.ContractFault.{ContractFault}
use Rattle.spec_contracts.specs.declared.ContractFault.TheVariants.{BadExpression, UnknownName, Misplaced}
use Rattle.spec_contracts.specs.Docstrings.{lines_in}
use Rattle.spec_contracts.specs.Entries.{Entry, entries}
use Rattle.spec_contracts.specs.Owners as owners
use Rattle.spec_contracts.specs.ContractLines.{all_lines, all_refusals, contracts_of, entries_of, first_refusal, lines_of, refusals_in, unless_refused}
use Rattle.py_tree.specs.declared.exprs.StrPart.{StrPart}
use Rattle.py_tree.specs.Arena.{State, IsModule}
use Rattle.py_tree.specs.Exprs.{part_tree}
use Rattle.contract_owners.specs.declared.listing.Owned.{Owned}
use Rattle.contract_owners.specs.Members.{AreThere, owned_in}
use Rattle.contract_lines.specs.declared.contracts.ContractLine as code
use Rattle.contract_lines.specs.declared.entries.Reading.{Reading}
use Rattle.contract_lines.specs.Errors.{error_at, error_for}
use Rattle.contract_lines.specs.Given.{GivesContracts, Grows, Reads}
use Rattle.contract_lines.proofs.Later.{owned_kept}
use Rattle.contract_lines.proofs.Promises.{item_from}
use Rattle.contract_lines.proofs.Steps.{Continues, continues_then}

-- the entries of a docstring, whose letters are read
pub entries_are : (d : Option StringPart) (p : StrPart) (ls : List ℕ) (es : List Entry) → d ≡ Some (part_tree p) → ls ≡ chars p.source → es ≡ entries p.raw None (lines_in p.line p.indent ls) → es ≡ entries_of d
entries_are d p ls es docstring letters e = rw (docstring, ← letters) e

-- ---- one after the other

pub owner_there : (l m : State) (all : List Owned) (i : ℕ) (d : Owned) → Grows l m → AreThere l (drop i all) → i < length all → (get_or all i d).statement.index < length m.stmts
owner_there l m all i d g there lt =
    let h : AreThere l (get_or all i d ∷ drop (i + 1) all) = subst (AreThere l) (item_from all i (get_or all i d) d lt refl) there in
    rw g.stmts h.0

pub owners_then : (l m n : State) (q r s : Reading) (all : List Owned) (i : ℕ) (d : Owned) → Grows l m → IsModule l → AreThere l (drop i all) → i < length all
    → Continues l m q r (all_lines (map (owned_in l) (drop i all))) (all_refusals (map (owned_in l) (drop i all))) (all_lines (map (owned_in l) all)) (all_refusals (map (owned_in l) all))
    → Reads m n r s (lines_of (owned_in m (get_or all i d))) (refusals_in (owned_in m (get_or all i d)))
    → AreThere l (drop (i + 1) all) × Continues l n q s (all_lines (map (owned_in l) (drop (i + 1) all))) (all_refusals (map (owned_in l) (drop (i + 1) all))) (all_lines (map (owned_in l) all)) (all_refusals (map (owned_in l) all))
owners_then l m n q r s all i d g valid there lt left read =
    let x = get_or all i d in
    let rest = drop (i + 1) all in
    let at : drop i all ≡ x ∷ rest = item_from all i x d lt refl in
    let h : AreThere l (x ∷ rest) = subst (AreThere l) at there in
    let same : owned_in m x ≡ owned_in l x = owned_kept l m g.extends valid x h.0 in (
      h.1,
      continues_then l m n q r s (lines_of (owned_in l x)) (all_lines (map (owned_in l) rest)) (all_lines (map (owned_in l) all)) (refusals_in (owned_in l x)) (all_refusals (map (owned_in l) rest)) (all_refusals (map (owned_in l) all))
          (subst (λ (xs : List Owned). Continues l m q r (all_lines (map (owned_in l) xs)) (all_refusals (map (owned_in l) xs)) (all_lines (map (owned_in l) all)) (all_refusals (map (owned_in l) all))) at left)
          (subst (λ (o : owners.Owned). Reads m n r s (lines_of o) (refusals_in o)) same read),
    )

-- ---- all of them

abbrev pub nothing_read : Reading
nothing_read = record { lines = []; refusal = None }

pub reads_all : (m n : State) (s : Reading) (xs all : List Owned) (none : List code.ContractLine) → xs ≡ all → none ≡ [] → Reads m n (record { lines = none; refusal = None }) s (all_lines (map (owned_in m) xs)) (all_refusals (map (owned_in m) xs)) → Reads m n nothing_read s (all_lines (map (owned_in m) all)) (all_refusals (map (owned_in m) all))
reads_all m n s xs all none e f h = subst (λ (v : List Owned). Reads m n nothing_read s (all_lines (map (owned_in m) v)) (all_refusals (map (owned_in m) v))) e (subst (λ (v : List code.ContractLine). Reads m n (record { lines = v; refusal = None }) s (all_lines (map (owned_in m) xs)) (all_refusals (map (owned_in m) xs))) f h)

module _ (m n : State) (s : Reading) (b : Block) (os : List owners.Owned) (e : os ≡ owners.owned 0 0 b) (h : Reads m n nothing_read s (all_lines os) (all_refusals os)) where
  contracts_are : contracts_of b ≡ unless_refused s.refusal (all_lines os)
  unfolding contracts_of
  contracts_are = ap (λ (v : List owners.Owned). unless_refused (first_refusal (all_refusals v)) (all_lines v)) (sym e) ∙ ap (λ (o : Option Refusal). unless_refused o (all_lines os)) (sym (h.told [] refl))

  pub contracts_given : s.refusal ≡ None → GivesContracts n (Ok s.lines) (contracts_of b)
  contracts_given none = (h.there tt, contracts_are ∙ rw (none, h.shown tt) refl)

  pub contracts_refused : (r : Refusal) → s.refusal ≡ Some r → GivesContracts n (Err (error_for r)) (contracts_of b)
  contracts_refused r some = by_fault r.line r.fault (contracts_are ∙ ap (λ (o : Option Refusal). unless_refused o (all_lines os)) some)
    where
      by_fault : (k : ℕ) (f : ContractFault) → contracts_of b ≡ Err (record { line = k; fault = f }) → GivesContracts n (Err (error_at k f)) (contracts_of b)
      by_fault k BadExpression h = h
      by_fault k UnknownName h = h
      by_fault k Misplaced h = h
