-- The faults between lines, by their outlines.
use Rattle.std.proofs.Common.{◌≡◌, ℕ, suc, Bool, true, false, not, ◌&&◌, ◌||◌, ◌==◌, cond, List, [], ◌∷◌, ◌++◌, map, Option, None, refl, sym, ap, ◌∙◌}
use Rattle.std.specs.Prelude.{nat_lt}
use Rattle.spec_trees.specs.Stmt as line
use Rattle.spec_trees.specs.Stmt.{Header, Line}
use Rattle.spec_grammar.specs.Blocks.{PlacedLine}
use Rattle.spec_syntax.specs.Placement as rule
use Rattle.spec_syntax.specs.Placement.{number_of, fault_if}
use Rattle.py_outline.specs.declared.outline.Outline.{Outline}
use Rattle.py_outline.specs.Lists.{first_item}
use Rattle.py_outline.specs.Outlines.{form_of, outline_of}
use Rattle.py_outline.specs.Orders as order
use Rattle.py_outline.proofs.Heads.{kind, kind_of_line, goes_on_is, is_except_is, is_try_is, is_catch_all_is, may_follow_is}

-- the outline of a line in d blocks
abbrev at : ℕ → Line → Outline
at d l = outline_of (record { depth = d; line = l })

pub goes_on_line : (l : Line) → order.goes_on (order.header_of (form_of l)) ≡ rule.goes_on (rule.header_of l)
goes_on_line l = ap order.goes_on (kind_of_line l) ∙ goes_on_is (rule.header_of l)

from_next_is : (d : ℕ) (ps : List PlacedLine) → map outline_of (rule.from_next d ps) ≡ order.from_next d (map outline_of ps)
from_next_is d [] = refl
from_next_is d (p ∷ ps) = one (nat_lt d p.depth) (from_next_is d ps)
  where
    one : (b : Bool) → map outline_of (rule.from_next d ps) ≡ order.from_next d (map outline_of ps) → map outline_of (cond b (rule.from_next d ps) (p ∷ ps)) ≡ cond b (order.from_next d (map outline_of ps)) (map outline_of (p ∷ ps))
    one true h = h
    one false h = refl

past_block_is : (d : ℕ) (l : Line) (ps : List PlacedLine) → map outline_of (rule.past_block d l ps) ≡ order.past_block (at d l) (map outline_of ps)
past_block_is d (line.simple x) ps = refl
past_block_is d (line.header h) ps = from_next_is d ps
past_block_is d (line.header_simple h x) ps = refl

block_faults_are : (d : ℕ) (l : Line) (ps : List PlacedLine) → order.block_faults (at d l) (first_item (map outline_of ps)) ≡ rule.block_faults d l ps
block_faults_are d (line.simple x) [] = refl
block_faults_are d (line.header h) [] = refl
block_faults_are d (line.header_simple h x) [] = refl
block_faults_are d (line.simple x) (k ∷ ks) = refl
block_faults_are d (line.header h) (k ∷ ks) = ap (λ b. cond (nat_lt d k.depth) (fault_if (nat_lt (suc d) k.depth || b) (number_of k.line)) (number_of (line.header h) ∷ [])) (goes_on_line k.line)
block_faults_are d (line.header_simple h x) (k ∷ ks) = refl

next_header_is : (d : ℕ) (k : PlacedLine) (ks : List PlacedLine) → order.header_at d (outline_of k) ≡ kind (rule.next_header d (k ∷ ks))
next_header_is d k ks = one (k.depth == d)
  where
    one : (b : Bool) → cond b (order.header_of (form_of k.line)) None ≡ kind (cond b (rule.header_of k.line) None)
    one true = kind_of_line k.line
    one false = refl

follow_faults_are : (d : ℕ) (l : Line) (k : PlacedLine) (h g : Option Header)
    → order.follow_faults (at d l) (outline_of k) (kind h) (kind g) ≡ fault_if (not (rule.may_follow h g)) (number_of k.line) ++ (fault_if (rule.is_try h && not (rule.is_except g)) (number_of l) ++ fault_if (rule.is_catch_all h && rule.is_except g) (number_of l))
follow_faults_are d l k h g = rw (may_follow_is h g, is_try_is h, is_except_is g, is_catch_all_is h) refl

next_faults_are : (d : ℕ) (l : Line) (ps : List PlacedLine) → order.next_faults (at d l) (first_item (map outline_of ps)) ≡ rule.next_faults d l ps
next_faults_are d l [] = ap (λ b. fault_if b (number_of l)) (ap order.is_try (kind_of_line l) ∙ is_try_is (rule.header_of l))
next_faults_are d l (k ∷ ks) =
    ap (λ h. order.follow_faults (at d l) (outline_of k) h (order.header_at d (outline_of k))) (kind_of_line l)
    ∙ ap (order.follow_faults (at d l) (outline_of k) (kind (rule.header_of l))) (next_header_is d k ks)
    ∙ follow_faults_are d l k (rule.header_of l) (rule.next_header d (k ∷ ks))

-- the faults of one line before those behind it
pub one_order : (p : PlacedLine) (ps : List PlacedLine) → order.order_faults (map outline_of (p ∷ ps)) ≡ rule.block_faults p.depth p.line ps ++ (rule.next_faults p.depth p.line (rule.past_block p.depth p.line ps) ++ order.order_faults (map outline_of ps))
one_order p ps =
    ap (λ a. a ++ (order.next_faults (outline_of p) (first_item (order.past_block (outline_of p) (map outline_of ps))) ++ order.order_faults (map outline_of ps))) (block_faults_are p.depth p.line ps)
    ∙ ap (λ os. rule.block_faults p.depth p.line ps ++ (order.next_faults (outline_of p) (first_item os) ++ order.order_faults (map outline_of ps))) (sym (past_block_is p.depth p.line ps))
    ∙ ap (λ a. rule.block_faults p.depth p.line ps ++ (a ++ order.order_faults (map outline_of ps))) (next_faults_are p.depth p.line (rule.past_block p.depth p.line ps))
