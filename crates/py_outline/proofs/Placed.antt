-- The faults of lines in the blocks round them, by their outlines.
use Rattle.std.proofs.Common.{◌≡◌, ℕ, zero, suc, ◌-◌, Bool, true, false, not, ◌&&◌, ◌||◌, List, [], ◌∷◌, ◌++◌, length, drop, map, refl, ap, ◌∙◌}
use Rattle.std.specs.List.{list_any}
use Rattle.spec_trees.specs.Stmt as line
use Rattle.spec_trees.specs.Stmt.{Simple, Header, Line}
use Rattle.spec_grammar.specs.Blocks.{PlacedLine}
use Rattle.spec_syntax.specs.Placement as rule
use Rattle.spec_syntax.specs.Placement.{number_of, fault_if}
use Rattle.py_outline.specs.declared.outline.HeaderKind.{HeaderKind}
use Rattle.py_outline.specs.declared.outline.HeaderKind.TheVariants as head
use Rattle.py_outline.specs.declared.surroundings.Place.{Place}
use Rattle.py_outline.specs.declared.surroundings.Place.TheVariants as place
use Rattle.py_outline.specs.declared.surroundings.Surroundings.{Surroundings}
use Rattle.py_outline.specs.Outlines.{kind_of_simple, kind_of_header, form_of, outline_of}
use Rattle.py_outline.specs.Surroundings as around
use Rattle.py_outline.proofs.Heads.{is_def_is, is_loop_is, is_handler_is}

-- the surroundings of lines in the blocks of headers, the innermost first
abbrev pub among : List Header → Surroundings
among [] = around.of_module
among (h ∷ hs) = around.inside (kind_of_header h) (among hs)

-- those in each block that is open
abbrev pub blocks : List Header → List Surroundings
blocks [] = []
blocks (h ∷ hs) = among (h ∷ hs) ∷ blocks hs

innermost_is : (hs : List Header) → around.innermost (blocks hs) ≡ among hs
innermost_is [] = refl
innermost_is (h ∷ hs) = refl

length-blocks : (hs : List Header) → length (blocks hs) ≡ length hs
length-blocks [] = refl
length-blocks (h ∷ hs) = ap suc (length-blocks hs)

drop-blocks : (n : ℕ) (hs : List Header) → drop n (blocks hs) ≡ blocks (drop n hs)
drop-blocks zero hs = refl
drop-blocks (suc n) [] = refl
drop-blocks (suc n) (h ∷ hs) = drop-blocks n hs

pub outer_is : (d : ℕ) (hs : List Header) → around.outer d (blocks hs) ≡ blocks (rule.outer d hs)
outer_is d hs = ap (λ n. drop (n - d) (blocks hs)) (length-blocks hs) ∙ drop-blocks (length hs - d) hs

pub behind_is : (hs : List Header) (l : Line) → around.round_behind (blocks hs) (form_of l) ≡ blocks (rule.round_behind hs l)
behind_is hs (line.simple x) = refl
behind_is hs (line.header h) = ap (λ r. around.inside (kind_of_header h) r ∷ blocks hs) (innermost_is hs)
behind_is hs (line.header_simple h x) = refl

-- ---- what surroundings say

in_function_is : (hs : List Header) → (among hs).in_function ≡ list_any rule.is_def hs
in_function_is [] = refl
in_function_is (h ∷ hs) = rw (is_def_is h, in_function_is hs) refl

-- a test of the headers within one function, with one more header
within : (p : Header → Bool) (h : Header) (hs : List Header) (b : Bool) → b ≡ rule.is_def h → (not b && (p h || list_any p (rule.within_function hs))) ≡ list_any p (rule.within_function (h ∷ hs))
within p h hs true e = rw (← e) refl
within p h hs false e = rw (← e) refl

in_loop_is : (hs : List Header) → (among hs).in_loop ≡ list_any rule.is_loop (rule.within_function hs)
in_loop_is [] = refl
in_loop_is (h ∷ hs) = rw (is_loop_is h, in_loop_is hs) (within rule.is_loop h hs (around.is_def (kind_of_header h)) (is_def_is h))

in_handler_is : (hs : List Header) → (among hs).in_handler ≡ list_any rule.is_handler (rule.within_function hs)
in_handler_is [] = refl
in_handler_is (h ∷ hs) = rw (is_handler_is h, in_handler_is hs) (within rule.is_handler h hs (around.is_def (kind_of_header h)) (is_def_is h))

-- the place inside a block is not the module
inside_block : (k : HeaderKind) (p : Place) → around.is_module (around.place_inside k p) ≡ false
inside_block head.Class place.Module = refl
inside_block _ _ = refl

is_module_is : (hs : List Header) → around.is_module (among hs).place ≡ rule.is_outermost hs
is_module_is [] = refl
is_module_is (h ∷ hs) = inside_block (kind_of_header h) (among hs).place

-- the place in the block of a class or of another header
in_class : (h : Header) (p : Place) → not (around.is_inner (around.place_inside (kind_of_header h) p)) ≡ (rule.is_class h && around.is_module p)
in_class (line.class n x) place.Module = refl
in_class (line.class n x) _ = refl
in_class (line.except n []) _ = refl
in_class _ _ = refl

simple_is : (hs : List Header) (x : Simple) → around.allows_simple (among hs) (kind_of_simple x) ≡ rule.simple_stands hs x
simple_is hs (line.return n v) = in_function_is hs
simple_is hs (line.break n) = in_loop_is hs
simple_is hs (line.continue n) = in_loop_is hs
simple_is hs (line.reraise n) = in_handler_is hs
simple_is hs (line.import n xs) = is_module_is hs
simple_is hs (line.import_from n x xs) = is_module_is hs
simple_is hs _ = refl

header_is : (hs : List Header) (h : Header) → around.allows_header (among hs) (kind_of_header h) ≡ rule.header_stands hs h
header_is hs (line.class n x) = is_module_is hs
header_is [] (line.def n x ps a) = refl
header_is (h ∷ hs) (line.def n x ps a) = in_class h (among hs).place ∙ ap (λ b. rule.is_class h && b) (is_module_is hs)
header_is [] (line.except n []) = refl
header_is (h ∷ hs) (line.except n []) = refl
header_is _ _ = refl

line_is : (hs : List Header) (l : Line) → around.allows (among hs) (form_of l) ≡ rule.stands hs l
line_is hs (line.simple x) = simple_is hs x
line_is hs (line.header h) = header_is hs h
line_is hs (line.header_simple h x) = rw (header_is hs h, simple_is (h ∷ hs) x) refl

-- whether a line may stand in blocks
pub stands_is : (hs : List Header) (l : Line) → around.allows (around.innermost (blocks hs)) (form_of l) ≡ rule.stands hs l
stands_is hs l = ap (λ r. around.allows r (form_of l)) (innermost_is hs) ∙ line_is hs l

-- the faults of one line before those behind it
pub one_place : (hs : List Header) (p : PlacedLine) (ps : List PlacedLine)
    → around.place_faults (blocks hs) (map outline_of (p ∷ ps)) ≡ fault_if (not (rule.stands (rule.outer p.depth hs) p.line)) (number_of p.line) ++ around.place_faults (blocks (rule.round_behind (rule.outer p.depth hs) p.line)) (map outline_of ps)
one_place hs p ps =
    ap (λ rs. fault_if (not (around.allows (around.innermost rs) (form_of p.line))) (number_of p.line) ++ around.place_faults (around.round_behind rs (form_of p.line)) (map outline_of ps)) (outer_is p.depth hs)
    ∙ ap (λ b. fault_if (not b) (number_of p.line) ++ around.place_faults (around.round_behind (blocks (rule.outer p.depth hs)) (form_of p.line)) (map outline_of ps)) (stands_is (rule.outer p.depth hs) p.line)
    ∙ ap (λ rs. fault_if (not (rule.stands (rule.outer p.depth hs) p.line)) (number_of p.line) ++ around.place_faults rs (map outline_of ps)) (behind_is (rule.outer p.depth hs) p.line)
