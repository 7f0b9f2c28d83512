-- The smallest fault of lines is that which their outlines show.
use Rattle.std.proofs.Common.{◌≡◌, ℕ, ◌||◌, List, [], ◌∷◌, ◌++◌, map, Option, refl, sym, ap, ◌∙◌}
use Rattle.std.specs.Prelude.{nat_lt, not}
use Rattle.spec_trees.specs.Stmt.{Header}
use Rattle.spec_grammar.specs.Blocks.{PlacedLine}
use Rattle.spec_syntax.specs.Placement as rule
use Rattle.spec_syntax.specs.Placement.{number_of, fault_if, faults_among, placement_faults, smallest}
use Rattle.spec_syntax.specs.Phases.{first_misplaced}
use Rattle.py_outline.specs.declared.outline.Outline.{Outline}
use Rattle.py_outline.specs.Outlines.{outline_of}
use Rattle.py_outline.specs.Orders.{order_faults}
use Rattle.py_outline.specs.Surroundings.{place_faults}
use Rattle.py_outline.specs.Told.{least, first_faults, outline_faults}
use Rattle.py_outline.proofs.Least.{least_assoc, moved, smallest-append}
use Rattle.py_outline.proofs.Ordered.{goes_on_line, one_order}
use Rattle.py_outline.proofs.Placed.{blocks, one_place}

-- the smallest of three lists
three : (a b c : List ℕ) → smallest (a ++ (b ++ c)) ≡ least (smallest a) (least (smallest b) (smallest c))
three a b c = smallest-append a (b ++ c) ∙ ap (least (smallest a)) (smallest-append b c)

-- the smallest of four, of which the last two go with the first and with the others
parted : (s b n r q : Option ℕ) → least s (least b (least n (least r q))) ≡ least (least s r) (least b (least n q))
parted s b n r q = ap (λ x. least s (least b x)) (moved n r q) ∙ ap (least s) (moved b r (least n q)) ∙ sym (least_assoc s r (least b (least n q)))

among_is : (hs : List Header) (ps : List PlacedLine) → smallest (faults_among hs ps) ≡ least (smallest (place_faults (blocks hs) (map outline_of ps))) (smallest (order_faults (map outline_of ps)))
unfolding faults_among
among_is hs [] = refl
among_is hs (p ∷ ps) =
    let s = fault_if (not (rule.stands (rule.outer p.depth hs) p.line)) (number_of p.line) in
    let b = rule.block_faults p.depth p.line ps in
    let n = rule.next_faults p.depth p.line (rule.past_block p.depth p.line ps) in
    let hs2 = rule.round_behind (rule.outer p.depth hs) p.line in
    let r = place_faults (blocks hs2) (map outline_of ps) in
    let q = order_faults (map outline_of ps) in
    smallest-append s (b ++ (n ++ faults_among hs2 ps))
    ∙ ap (least (smallest s)) (three b n (faults_among hs2 ps))
    ∙ ap (λ x. least (smallest s) (least (smallest b) (least (smallest n) x))) (among_is hs2 ps)
    ∙ parted (smallest s) (smallest b) (smallest n) (smallest r) (smallest q)
    ∙ ap (λ x. least x (least (smallest b) (least (smallest n) (smallest q)))) (sym (ap smallest (one_place hs p ps) ∙ smallest-append s r))
    ∙ ap (least (smallest (place_faults (blocks hs) (map outline_of (p ∷ ps))))) (sym (ap smallest (one_order p ps) ∙ three b n q))

first_is : (ps : List PlacedLine) → first_faults (map outline_of ps) ≡ rule.first_faults ps
first_is [] = refl
first_is (p ∷ ps) = ap (λ b. fault_if (nat_lt 0 p.depth || b) (number_of p.line)) (goes_on_line p.line)

-- the smallest fault of lines is the smallest one that their outlines show
pub smallest_is_outlined : (ps : List PlacedLine) → first_misplaced ps ≡ smallest (outline_faults (map outline_of ps))
unfolding first_misplaced
smallest_is_outlined ps =
    smallest-append (rule.first_faults ps) (faults_among [] ps)
    ∙ ap (λ x. least (smallest x) (smallest (faults_among [] ps))) (sym (first_is ps))
    ∙ ap (least (smallest (first_faults (map outline_of ps)))) (among_is [] ps)
    ∙ sym (three (first_faults (map outline_of ps)) (place_faults [] (map outline_of ps)) (order_faults (map outline_of ps)))

-- the smallest fault that outlines show, by its parts
pub outlined_parts : (os : List Outline) (a b c : Option ℕ) → a ≡ smallest (first_faults os) → b ≡ smallest (place_faults [] os) → c ≡ smallest (order_faults os) → least a (least b c) ≡ smallest (outline_faults os)
outlined_parts os a b c e f g = rw (e, f, g) (sym (three (first_faults os) (place_faults [] os) (order_faults os)))
