-- What a few docstrings hold.
use Rattle.std.proofs.Common.{◌≡◌, ℕ, true, false, List, [], ◌∷◌, map, Some, None, refl}
use Rattle.std.specs.Prelude.{codes}
use Rattle.spec_trees.specs.Expr as tree
use Rattle.spec_trees.specs.Expr.{StringPart}
use Rattle.spec_trees.specs.Stmt.{evaluate}
use Rattle.spec_trees.specs.Module.{Block, simple, no_statement, statement, def, class}
use Rattle.spec_contracts.specs.declared.LineKind.TheVariants.{Pre, Post}
use Rattle.spec_contracts.specs.declared.Refusal.{Refusal}
use Rattle.spec_contracts.specs.declared.ContractFault.{ContractFault}
use Rattle.spec_contracts.specs.declared.ContractFault.TheVariants.{BadExpression, UnknownName, Misplaced}
use Rattle.spec_contracts.specs.Docstrings.{lines_in}
use Rattle.spec_contracts.specs.Heads.{head_of}
use Rattle.spec_contracts.specs.Entries.{Entry, spelled, unread, entries}
use Rattle.spec_contracts.specs.Owners.{Owned, of_function, of_class, owned}
use Rattle.spec_contracts.specs.ContractLines.{first_refusal, is_misplaced}

-- ---- lines

-- a docstring on line 2, which is indented by four
abbrev part : List ℕ → StringPart
part s = record { value = []; source = s; raw = false; indent = 4; line = 2 }

first_line_is_indented_as_its_text : lines_in 2 4 (codes "  a\n  b") ≡ record { number = 2; indent = 4; text = codes "a" } ∷ record { number = 3; indent = 2; text = codes "b" } ∷ []
first_line_is_indented_as_its_text = refl

-- ---- heads

preconditions_are_told : head_of (codes "pre: x > 0") ≡ Some (record { kind = Pre; names = None; rest = codes " x > 0" })
preconditions_are_told = refl

brackets_may_be_empty : head_of (codes "post[ ]: x") ≡ Some (record { kind = Post; names = Some []; rest = codes " x" })
brackets_may_be_empty = refl

other_words_are_prose : head_of (codes "Post: x") ≡ None
other_words_are_prose = refl

-- ---- entries

abbrev entry : ℕ → ℕ → List ℕ → Entry
entry n h s = record { line = n; promise = record { line = h; kind = Post; names = None }; content = spelled s }

abbrev missing : ℕ → ℕ → Entry
missing n h = record { line = n; promise = record { line = h; kind = Post; names = None }; content = unread }

abbrev entries_in : List ℕ → List Entry
entries_in s = entries false None (lines_in 2 4 s)

rest_of_a_line_is_one : entries_in (codes "Prose.\n    post: x\n    more") ≡ entry 3 3 (codes " x") ∷ []
rest_of_a_line_is_one = refl

blocks_go_on_deeper : entries_in (codes "post:\n      x\n\n      # y\n      z\n    w") ≡ entry 3 2 (codes "x") ∷ entry 6 2 (codes "z") ∷ []
blocks_go_on_deeper = refl

empty_blocks_are_refused : entries_in (codes "post:\n    x") ≡ missing 2 2 ∷ []
empty_blocks_are_refused = refl

backslashes_are_refused : entries_in (codes "post: '\\\\n'\n    post:\n      # \\\\\n      x") ≡ missing 2 2 ∷ missing 4 3 ∷ entry 5 3 (codes "x") ∷ []
backslashes_are_refused = refl

contract_words_in_blocks_are_expressions : entries_in (codes "post:\n      post: x") ≡ entry 3 2 (codes "post: x") ∷ []
contract_words_in_blocks_are_expressions = refl

-- ---- modules

abbrev doc : Block
doc = statement (simple (evaluate 2 (tree.text 2 (part []) []))) no_statement

-- a function, and a class with a method before another function
abbrev module_of_four : Block
module_of_four = statement (def 1 (codes "f") [] None doc) (statement (class 3 (codes "C") (statement (def 4 (codes "g") [] None doc) no_statement)) (statement (def 6 (codes "h") [] None doc) no_statement))

owners_are_numbered_in_order : map (λ (o : Owned). o.owner) (owned 0 0 module_of_four) ≡ of_function 0 ∷ of_class 0 ∷ of_function 1 ∷ of_function 2 ∷ []
owners_are_numbered_in_order = refl

abbrev refusal : ℕ → ContractFault → Refusal
refusal n f = record { line = n; fault = f }

earlier_lines_come_first : first_refusal (refusal 3 BadExpression ∷ refusal 2 Misplaced ∷ []) ≡ Some (refusal 2 Misplaced)
earlier_lines_come_first = refl

faults_of_a_line_have_an_order : first_refusal (refusal 2 Misplaced ∷ refusal 2 UnknownName ∷ []) ≡ Some (refusal 2 UnknownName)
faults_of_a_line_have_an_order = refl

classes_have_invariants_alone : is_misplaced (of_class 0) Pre ≡ true
classes_have_invariants_alone = refl
