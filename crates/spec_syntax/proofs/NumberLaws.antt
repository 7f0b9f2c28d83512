-- The numbers of lines, and the smallest of them.
use Rattle.std.proofs.Common.{◌≡◌, ℕ, ◌≤◌, ◌⊎◌, min, List, [], ◌∷◌, Option, Some, None, refl, sym, subst, inl, inr, arith, ◌∙◌}
use Rattle.std.specs.Prelude.{All, Contains}
use Rattle.std.proofs.lemmas.List.Elements.{All-nil, All-cons, Contains-append_right}
use Rattle.std.proofs.lemmas.Bool.{cases_lt}
use Rattle.spec_trees.specs.Stmt.{Line, Simple, Header}
use Rattle.spec_grammar.specs.Words.{Word, line_of}
use Rattle.spec_grammar.specs.Statements.{IsSimple, assigns, annotates, augments, evaluates, returns, returns_value, passes, breaks, continues, asserts, asserts_message, reraises, raises, raises_arguments, deletes, imports, imports_from}
use Rattle.spec_grammar.specs.Headers.{IsHeader, defines, classifies, tests, tests_again, otherwise, repeats, walks, tries, catches, IsLine, simple, header, header_simple}
use Rattle.spec_grammar.proofs.Steps.{some_is}
use Rattle.spec_syntax.specs.Placement.{number_of, number_of_simple, number_of_header, smaller, smallest}

-- the number of a simple statement is that of its first word
simple_number : {s : List Word} {d : Simple} → IsSimple s d → number_of_simple d ≡ line_of s
simple_number (assigns i j k) = refl
simple_number (annotates i j k l) = refl
simple_number (augments i j k) = refl
simple_number (evaluates i) = refl
simple_number (returns i) = refl
simple_number (returns_value i j) = refl
simple_number (passes i) = refl
simple_number (breaks i) = refl
simple_number (continues i) = refl
simple_number (asserts i j) = refl
simple_number (asserts_message i j k l) = refl
simple_number (reraises i) = refl
simple_number (raises i j) = refl
simple_number (raises_arguments i j k l) = refl
simple_number (deletes i j k l m) = refl
simple_number (imports i j) = refl
simple_number (imports_from i j k l) = refl

-- the number of a header is that of its first word
header_number : {s r : List Word} {h : Header} → IsHeader s r h → number_of_header h ≡ line_of s
header_number (defines i j k l m n) = refl
header_number (classifies i j k l) = refl
header_number (tests i j k) = refl
header_number (tests_again i j k) = refl
header_number (otherwise i j) = refl
header_number (repeats i j k) = refl
header_number (walks i j k l m) = refl
header_number (tries i j) = refl
header_number (catches i j k) = refl

-- the number of a line is that of its first word
pub line_number : (s : List Word) (l : Line) → IsLine s l → number_of l ≡ line_of s
line_number s l (simple i) = simple_number i
line_number s l (header i) = header_number i
line_number s l (header_simple i j) = header_number i

-- only an empty list has no smallest number
pub none_smallest : (ns : List ℕ) → smallest ns ≡ None → ns ≡ []
none_smallest [] e = refl
none_smallest (n ∷ ns) e = absurd (never (smallest ns) e)
  where
    never : (o : Option ℕ) → smaller n o ≡ None → ⊥
    never None e = absurd cc
    never (Some m) e = absurd cc

-- the smaller of two numbers is one of them
one_of : (m k : ℕ) → ((min m k ≡ m) × (m ≤ k)) ⊎ ((min m k ≡ k) × (k ≤ m))
one_of m k = elim (cases_lt m k) [ inl h ↦ inl (omega arith, omega arith) | inr h ↦ inr (omega arith, omega arith) ]

-- the first number of a list, where it is the smallest
first_is_least : (m n : ℕ) (ms : List ℕ) → n ≡ m → All (λ x. n ≤ x) ms → Contains (m ∷ ms) n × All (λ x. n ≤ x) (m ∷ ms)
first_is_least m n ms e h = ((0, omega arith, sym e), All-cons (λ x. n ≤ x) m ms (omega arith) h)

-- the smaller one of a first number and of the smallest behind it is the smallest
smaller_is_least : (m k n : ℕ) (ms : List ℕ) → min m k ≡ n → Contains ms k × All (λ x. k ≤ x) ms → Contains (m ∷ ms) n × All (λ x. n ≤ x) (m ∷ ms)
smaller_is_least m k n ms same h = elim (one_of m k) [
  | inl p ↦ first_is_least m n ms (sym same ∙ p.0) (λ j d lt. omega (arith, h.1 j d lt, same, p.0, p.1))
  | inr p ↦ (subst (Contains (m ∷ ms)) (sym p.0 ∙ same) (Contains-append_right (m ∷ []) ms k h.0), All-cons (λ x. n ≤ x) m ms (omega (arith, same, p.0, p.1)) (λ j d lt. omega (arith, h.1 j d lt, same, p.0, p.1)))
]

-- the smallest number stands in the list, and none there is smaller
pub smallest_is_least : (ns : List ℕ) (n : ℕ) → smallest ns ≡ Some n → Contains ns n × All (λ m. n ≤ m) ns
smallest_is_least [] n e = absurd cc
smallest_is_least (m ∷ ms) n e = by_rest (λ k is. smallest_is_least ms k is) (smallest ms) refl e
  where
    by_rest : ((k : ℕ) → smallest ms ≡ Some k → Contains ms k × All (λ x. k ≤ x) ms) → (o : Option ℕ) → smallest ms ≡ o → smaller m o ≡ Some n → Contains (m ∷ ms) n × All (λ x. n ≤ x) (m ∷ ms)
    by_rest next None is e = first_is_least m n ms (sym (some_is m n e)) (subst (All (λ x. n ≤ x)) (sym (none_smallest ms is)) (All-nil (λ x. n ≤ x)))
    by_rest next (Some k) is e = smaller_is_least m k n ms (some_is (min m k) n e) (next k is)
