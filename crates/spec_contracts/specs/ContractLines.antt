-- The contract lines of a module, or the first refusal among them.
use Rattle.std.specs.Prelude.{◌≡◌, ℕ, Bool, true, false, not, ◌&&◌, ◌==◌, nat_lt, List, [], ◌∷◌, ◌++◌, Option, Some, None, Result, Ok, Err, if◌then◌else◌}
use Rattle.std.specs.List.{list_all, list_any, flat_map}
use Rattle.std.specs.Str.{bytes_eq}
use Rattle.spec_trees.specs.Expr.{Expr, StringPart}
use Rattle.spec_trees.specs.Module.{Block}
use Rattle.spec_syntax.specs.Phases.{Misfit}
use Rattle.spec_syntax.specs.Texts.{parsed_expression}
use Rattle.spec_contracts.specs.declared.LineKind.{LineKind}
use Rattle.spec_contracts.specs.declared.LineKind.TheVariants.{Pre, Post, Raises, Invariant}
use Rattle.spec_contracts.specs.declared.ContractFault.{ContractFault}
use Rattle.spec_contracts.specs.declared.ContractFault.TheVariants.{BadExpression, UnknownName, Misplaced}
use Rattle.spec_contracts.specs.declared.Refusal.{Refusal}
use Rattle.spec_contracts.specs.declared.TheConstants.{EXCEPTION_CLASSES}
use Rattle.spec_contracts.specs.Docstrings as docstrings
use Rattle.spec_contracts.specs.Entries.{Content, spelled, classes, unread, Entry, entries}
use Rattle.spec_contracts.specs.Owners.{Owner, of_function, of_class, Owned, owned}

-- a contract line: its expression, or none where it lists classes; the classes, or the names in its brackets
pub record ContractLine : Type 0 where
  pub owner : Owner
  pub kind : LineKind
  pub line : ℕ
  pub expression : Option Expr
  pub names : Option (List (List ℕ))

-- ---- single entries

abbrev pub is_among : List (List ℕ) → List ℕ → Bool
is_among names x = list_any (bytes_eq x) names

abbrev pub is_exception : List ℕ → Bool
is_exception x = list_any (λ k. bytes_eq k.now x) EXCEPTION_CLASSES

abbrev pub in_class : Owner → Bool
in_class (of_function n) = false
in_class (of_class n) = true

abbrev pub is_invariant : LineKind → Bool
is_invariant Invariant = true
is_invariant Pre = false
is_invariant Post = false
is_invariant Raises = false

-- an invariant stands in a class, and every other contract line in a function
abbrev pub is_misplaced : Owner → LineKind → Bool
is_misplaced o kind = if in_class o then not (is_invariant kind) else is_invariant kind

abbrev pub brackets_known : List (List ℕ) → Option (List (List ℕ)) → Bool
brackets_known parameters None = true
brackets_known parameters (Some xs) = list_all (is_among parameters) xs

abbrev pub classes_known : Content → Bool
classes_known (classes xs) = list_all is_exception xs
classes_known (spelled s) = true
classes_known unread = true

-- what an entry comes to: nothing where it cannot be read
abbrev pub line_of : Owner → Entry → Option ContractLine
line_of o e = by_content e.content
  where
    with_expression : Result Expr Misfit → Option ContractLine
    with_expression (Ok x) = Some (record { owner = o; kind = e.promise.kind; line = e.line; expression = Some x; names = e.promise.names })
    with_expression (Err f) = None

    by_content : Content → Option ContractLine
    by_content (spelled s) = with_expression (parsed_expression e.line s)
    by_content (classes xs) = Some (record { owner = o; kind = e.promise.kind; line = e.line; expression = None; names = Some xs })
    by_content unread = None

-- ---- refusals

abbrev pub bad : Entry → Option ContractLine → List Refusal
bad e None = record { line = e.line; fault = BadExpression } ∷ []
bad e (Some l) = []

abbrev pub refused_if : Bool → ℕ → ContractFault → List Refusal
refused_if b n f = if b then record { line = n; fault = f } ∷ [] else []

-- All refusals of an entry. What its contract line names and where that stands show at that line.
abbrev pub refusals_of : Owned → Entry → List Refusal
refusals_of o e = bad e (line_of o.owner e) ++ refused_if (not (brackets_known o.parameters e.promise.names && classes_known e.content)) e.promise.line UnknownName ++ refused_if (is_misplaced o.owner e.promise.kind) e.promise.line Misplaced

abbrev pub rank : ContractFault → ℕ
rank BadExpression = 1
rank UnknownName = 2
rank Misplaced = 3

-- whether a refusal comes before another one: by its line, and at one line by its fault
abbrev pub is_sooner : Refusal → Refusal → Bool
is_sooner r s = if nat_lt r.line s.line then true else (r.line == s.line && nat_lt (rank r.fault) (rank s.fault))

abbrev pub sooner : Refusal → Option Refusal → Option Refusal
sooner r None = Some r
sooner r (Some s) = if is_sooner s r then Some s else Some r

abbrev pub first_refusal : List Refusal → Option Refusal
first_refusal [] = None
first_refusal (r ∷ rs) = sooner r (first_refusal rs)

-- none of these comes before a refusal
abbrev pub AreLater : Refusal → List Refusal → Type 0
AreLater r [] = Unit {0}
AreLater r (s ∷ ss) = (is_sooner s r ≡ false) × AreLater r ss

abbrev pub entries_of : Option StringPart → List Entry
entries_of None = []
entries_of (Some p) = entries p.raw None (docstrings.lines_of p)

abbrev pub given_line : Option ContractLine → List ContractLine
given_line None = []
given_line (Some l) = l ∷ []

-- the contract lines and the refusals that entries come to
abbrev pub lines_among : Owned → List Entry → List ContractLine
lines_among o es = flat_map (λ e. given_line (line_of o.owner e)) es

abbrev pub refusals_among : Owned → List Entry → List Refusal
refusals_among o es = flat_map (refusals_of o) es

-- those of a function or class
abbrev pub lines_of : Owned → List ContractLine
lines_of o = lines_among o (entries_of o.docstring)

abbrev pub refusals_in : Owned → List Refusal
refusals_in o = refusals_among o (entries_of o.docstring)

-- those of several
abbrev pub all_lines : List Owned → List ContractLine
all_lines os = flat_map lines_of os

abbrev pub all_refusals : List Owned → List Refusal
all_refusals os = flat_map refusals_in os

abbrev pub unless_refused : Option Refusal → List ContractLine → Result (List ContractLine) Refusal
unless_refused None ls = Ok ls
unless_refused (Some r) ls = Err r

-- the contract lines of a module in their order, or the first refusal
unfoldable pub contracts_of : Block → Result (List ContractLine) Refusal
contracts_of b = let os = owned 0 0 b in unless_refused (first_refusal (all_refusals os)) (all_lines os)
