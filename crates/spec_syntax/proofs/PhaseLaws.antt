-- The result of the phases is the one outcome that lines have.
use Rattle.std.proofs.Common.{◌≡◌, ℕ, ◌⊎◌, Bool, true, false, ◌||◌, List, [], ◌∷◌, Option, Some, None, Result, Ok, Err, refl, subst, inl, inr, arith}
use Rattle.std.specs.Prelude.{nat_lt}
use Rattle.std.proofs.lemmas.Bool.{ltb-true, ltb-false, or_parts}
use Rattle.spec_trees.specs.Stmt.{Line}
use Rattle.spec_trees.specs.Module.{Block}
use Rattle.spec_grammar.specs.Words.{Word}
use Rattle.spec_grammar.specs.Load.{load, MAX_LOAD}
use Rattle.spec_grammar.specs.Headers.{IsLine}
use Rattle.spec_grammar.specs.HeaderReading.{read_line}
use Rattle.spec_grammar.specs.Height.{line_height, MAX_HEIGHT}
use Rattle.spec_grammar.specs.Blocks.{PlacedLine, IsModule}
use Rattle.spec_grammar.specs.BlockReading.{module_of}
use Rattle.spec_grammar.proofs.Steps.{some_is, chosen}
use Rattle.spec_grammar.proofs.HeaderLaws.{line_is, is_line}
use Rattle.spec_grammar.proofs.BlockLaws.{module_is, is_module}
use Rattle.spec_syntax.specs.Lines.{WordLine}
use Rattle.spec_syntax.specs.Placement.{placement_faults, smallest}
use Rattle.spec_syntax.specs.Phases.{Misfit, IsFirst, here, later, IsNowhere, nowhere, not_here, first_where, number_of_words, IsOverloaded, is_overloaded, first_overloaded, IsNoLine, AreLines, no_lines, one_line, line_before, read_lines, blocks_round, MAX_DEPTH, number_of_placed, IsDeep, is_deep, first_deep, first_misplaced, IsParsed, overload, no_form, deep, fault, whole, block_of, by_places, by_depth, by_lines, by_load, parsed}
use Rattle.spec_syntax.proofs.NumberLaws.{none_smallest}
use Rattle.spec_syntax.proofs.PlacementLaws.{placed_is_module}

-- ---- the first of a list

-- a test passes exactly where P holds
record Tells {A : Type 0} (P : A → Type 0) (test : A → Bool) : Type 0 where
  pub yes : (x : A) → test x ≡ true → P x
  pub no : (x : A) → test x ≡ false → P x → ⊥

-- the first that passes is the first of which P holds
where_first : {A : Type 0} (P : A → Type 0) (test : A → Bool) (number : A → ℕ) → Tells P test → (xs : List A) (n : ℕ) → first_where test number xs ≡ Some n → IsFirst P number xs n
where_first P test number t [] n e = absurd cc
where_first P test number t (x ∷ xs) n e =
    elim (chosen (test x) (Some (number x)) (first_where test number xs) (Some n) e) [
      | inl p ↦ subst (IsFirst P number (x ∷ xs)) (some_is (number x) n p.1) (here (t.yes x p.0))
      | inr p ↦ later (t.no x p.0) (where_first P test number t xs n p.1)
    ]

-- where none passes, P holds of none
where_nowhere : {A : Type 0} (P : A → Type 0) (test : A → Bool) (number : A → ℕ) → Tells P test → (xs : List A) → first_where test number xs ≡ None → IsNowhere P xs
where_nowhere P test number t [] e = nowhere
where_nowhere P test number t (x ∷ xs) e =
    elim (chosen (test x) (Some (number x)) (first_where test number xs) None e) [
      | inl p ↦ absurd cc
      | inr p ↦ not_here (t.no x p.0) (where_nowhere P test number t xs p.1)
    ]

-- where P holds, the test passes
passes : {A : Type 0} (P : A → Type 0) (test : A → Bool) → Tells P test → (x : A) → P x → test x ≡ true
passes P test t x h = by_cases (test x) refl
  where
    by_cases : (b : Bool) → test x ≡ b → b ≡ true
    by_cases true e = refl
    by_cases false e = absurd (t.no x e h)

-- where P does not hold, the test fails
fails : {A : Type 0} (P : A → Type 0) (test : A → Bool) → Tells P test → (x : A) → (P x → ⊥) → test x ≡ false
fails P test t x h = by_cases (test x) refl
  where
    by_cases : (b : Bool) → test x ≡ b → b ≡ false
    by_cases true e = absurd (h (t.yes x e))
    by_cases false e = refl

-- the first of which P holds is the first that passes
first_is : {A : Type 0} (P : A → Type 0) (test : A → Bool) (number : A → ℕ) → Tells P test → {xs : List A} {n : ℕ} → IsFirst P number xs n → first_where test number xs ≡ Some n
first_is P test number t (here {x = x} h) = rw (passes P test t x h) refl
first_is P test number t (later {x = x} h i) = rw (fails P test t x h) (first_is P test number t i)

-- where P holds of none, none passes
nowhere_is : {A : Type 0} (P : A → Type 0) (test : A → Bool) (number : A → ℕ) → Tells P test → {xs : List A} → IsNowhere P xs → first_where test number xs ≡ None
nowhere_is P test number t nowhere = refl
nowhere_is P test number t (not_here {x = x} h i) = rw (fails P test t x h) (nowhere_is P test number t i)

-- ---- loads and nesting

-- the test of the load tells what it says
load_told : Tells IsOverloaded is_overloaded
load_told = record { yes = λ l e. ltb-true MAX_LOAD (load l.words) e; no = λ l e h. let le = ltb-false MAX_LOAD (load l.words) e in omega arith }

-- the test of heights and blocks tells what it says
depth_told : Tells IsDeep is_deep
depth_told = record { yes = λ p e. either (nat_lt MAX_HEIGHT (line_height p.line)) (nat_lt MAX_DEPTH (blocks_round p.depth p.line)) (ltb-true MAX_HEIGHT (line_height p.line)) (ltb-true MAX_DEPTH (blocks_round p.depth p.line)) e; no = λ p e h. neither p (or_parts _ _ e) h }
  where
    either : {A B : Type 0} (b c : Bool) → (b ≡ true → A) → (c ≡ true → B) → (b || c) ≡ true → A ⊎ B
    either true c f g e = inl (f refl)
    either false c f g e = inr (g e)

    neither : (p : PlacedLine) → (nat_lt MAX_HEIGHT (line_height p.line) ≡ false) × (nat_lt MAX_DEPTH (blocks_round p.depth p.line) ≡ false) → IsDeep p → ⊥
    neither p e (inl h) = let le = ltb-false MAX_HEIGHT (line_height p.line) e.0 in omega arith
    neither p e (inr h) = let le = ltb-false MAX_DEPTH (blocks_round p.depth p.line) e.1 in omega arith

-- ---- lines

-- words of which no line is read spell none
none_spelled : (s : List Word) → read_line s ≡ None → (x : Line) → IsLine s x → ⊥
none_spelled s e x i = let is = is_line s x i in absurd cc

-- what has been read of lines: what they spell, or the first that spells none
abbrev AsRead : List WordLine → Result (List PlacedLine) ℕ → Type 0
AsRead ls (Ok ps) = AreLines ls ps
AsRead ls (Err n) = IsFirst IsNoLine number_of_words ls n

-- what has been read of lines with one more at the front
read_before : (l : WordLine) (ls : List WordLine) (o : Option Line) (r : Result (List PlacedLine) ℕ) → read_line l.words ≡ o → AsRead ls r → AsRead (l ∷ ls) (line_before l o r)
read_before l ls None r e h = here (none_spelled l.words e)
read_before l ls (Some x) (Ok ps) e h = one_line (line_is l.words x e) h
read_before l ls (Some x) (Err n) e h = later (λ f. f x (line_is l.words x e)) h

-- what is read of lines is what they spell, or the first that spells none
as_read : (ls : List WordLine) → AsRead ls (read_lines ls)
unfolding read_lines
as_read [] = no_lines
as_read (l ∷ ls) = read_before l ls (read_line l.words) (read_lines ls) refl (as_read ls)

-- what lines spell is read
are_read : {ls : List WordLine} {ps : List PlacedLine} → AreLines ls ps → read_lines ls ≡ Ok ps
unfolding read_lines
are_read no_lines = refl
are_read (one_line {l = l} {x = x} i h) = rw (is_line l.words x i, are_read h) refl

-- words that spell no line are not read
not_read : (l : WordLine) → IsNoLine l → read_line l.words ≡ None
not_read l h = by_cases (read_line l.words) refl
  where
    by_cases : (o : Option Line) → read_line l.words ≡ o → o ≡ None
    by_cases None e = refl
    by_cases (Some x) e = absurd (h x (line_is l.words x e))

-- words that do not spell no line are read
some_read : (l : WordLine) → (IsNoLine l → ⊥) → (x : Line) × (read_line l.words ≡ Some x)
some_read l h = by_cases (read_line l.words) refl
  where
    by_cases : (o : Option Line) → read_line l.words ≡ o → (x : Line) × (read_line l.words ≡ Some x)
    by_cases None e = absurd (h (none_spelled l.words e))
    by_cases (Some x) e = (x, e)

-- the first line that spells none is told
none_read : {ls : List WordLine} {n : ℕ} → IsFirst IsNoLine number_of_words ls n → read_lines ls ≡ Err n
unfolding read_lines
none_read (here {x = l} h) = rw (not_read l h) refl
none_read (later {x = l} h i) = let x = some_read l h in rw (x.1, none_read i) refl

-- ---- the phases

-- lines with no fault of places spell the block that is told
block_is : (ps : List PlacedLine) (o : Option Block) → module_of ps ≡ o → placement_faults ps ≡ [] → IsModule ps (block_of o)
block_is ps None e f = let x = placed_is_module ps f in let is = is_module ps x.0 x.1 in absurd cc
block_is ps (Some b) e f = module_is ps b e

-- the outcome where nothing is too deep
places_parsed : (ls : List WordLine) (ps : List PlacedLine) (o : Option ℕ) → smallest (placement_faults ps) ≡ o → IsNowhere IsOverloaded ls → AreLines ls ps → IsNowhere IsDeep ps → IsParsed ls (by_places ps o)
places_parsed ls ps None e a b c = let none = none_smallest (placement_faults ps) e in whole a b c none (block_is ps (module_of ps) refl none)
places_parsed ls ps (Some n) e a b c = fault a b c e

-- the outcome where each line has a form
depth_parsed : (ls : List WordLine) (ps : List PlacedLine) (o : Option ℕ) → first_where is_deep number_of_placed ps ≡ o → IsNowhere IsOverloaded ls → AreLines ls ps → IsParsed ls (by_depth ps o)
unfolding first_misplaced
depth_parsed ls ps None e a b = places_parsed ls ps (smallest (placement_faults ps)) refl a b (where_nowhere IsDeep is_deep number_of_placed depth_told ps e)
depth_parsed ls ps (Some n) e a b = deep a b (where_first IsDeep is_deep number_of_placed depth_told ps n e)

-- the outcome where no load is too great
lines_parsed : (ls : List WordLine) (r : Result (List PlacedLine) ℕ) → AsRead ls r → IsNowhere IsOverloaded ls → IsParsed ls (by_lines r)
unfolding first_deep
lines_parsed ls (Ok ps) h a = depth_parsed ls ps (first_where is_deep number_of_placed ps) refl a h
lines_parsed ls (Err n) h a = no_form a h

-- the outcome by the first load that is too great
load_parsed : (ls : List WordLine) (o : Option ℕ) → first_where is_overloaded number_of_words ls ≡ o → IsParsed ls (by_load ls o)
load_parsed ls None e = lines_parsed ls (read_lines ls) (as_read ls) (where_nowhere IsOverloaded is_overloaded number_of_words load_told ls e)
load_parsed ls (Some n) e = overload (where_first IsOverloaded is_overloaded number_of_words load_told ls n e)

-- lines have the outcome that the phases tell
pub is_parsed : (ls : List WordLine) → IsParsed ls (parsed ls)
unfolding parsed first_overloaded
is_parsed ls = load_parsed ls (first_where is_overloaded number_of_words ls) refl

-- the phases tell each outcome that lines have
pub parsed_is : (ls : List WordLine) (r : Result Block Misfit) → IsParsed ls r → r ≡ parsed ls
unfolding parsed first_overloaded first_deep first_misplaced
parsed_is ls r (overload i) = rw (first_is IsOverloaded is_overloaded number_of_words load_told i) refl
parsed_is ls r (no_form a i) = rw (nowhere_is IsOverloaded is_overloaded number_of_words load_told a, none_read i) refl
parsed_is ls r (deep a b i) = rw (nowhere_is IsOverloaded is_overloaded number_of_words load_told a, are_read b, first_is IsDeep is_deep number_of_placed depth_told i) refl
parsed_is ls r (fault a b c e) = rw (nowhere_is IsOverloaded is_overloaded number_of_words load_told a, are_read b, nowhere_is IsDeep is_deep number_of_placed depth_told c, e) refl
parsed_is ls r (whole {ps = ps} {b = x} a b c e i) = rw (nowhere_is IsOverloaded is_overloaded number_of_words load_told a, are_read b, nowhere_is IsDeep is_deep number_of_placed depth_told c, e, is_module ps x i) refl
