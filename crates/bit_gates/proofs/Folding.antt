-- The conjunction of two literals where no gate is needed.
use Rattle.std.proofs.Common.{◌≡◌, ◌==◌, ℕ, ◌<◌, Bool, true, false, not, ◌&&◌, refl, sym, ap, arith, ◌∙◌, Option, Some, None, if◌then◌else◌}
use Rattle.std.specs.Bool.{beq}
use Rattle.std.proofs.lemmas.Bool.{eqb-true}
use Rattle.std.proofs.lemmas.Bool.Decides.{nat_tests}
use Rattle.bit_gates.specs.declared.lit.Lit.{Lit}
use Rattle.bit_gates.specs.Formulas.{lit_of, negated, folded}

-- literals of one place and one sign
pub lit_same : (a b : Lit) → a.place ≡ b.place → a.positive ≡ b.positive → a ≡ b
lit_same a b p q = λ j. record { place = p j; positive = q j }

-- what is folded, by the tests: x and y for a place 0, z for equal places, p and q for the signs
abbrev shape : Bool → Bool → Bool → Bool → Bool → Lit → Lit → Option Lit
shape x y z p q a b = if x then Some (if p then b else lit_of false) else (if y then Some (if q then a else lit_of false) else (if z then Some (if beq p q then a else lit_of false) else None))

-- what the tests tell
record Told (x y z p q : Bool) (a b : Lit) : Type 0 where
  left : x ≡ true → a.place ≡ 0
  right : y ≡ true → b.place ≡ 0
  same : z ≡ true → a.place ≡ b.place
  sign : a.positive ≡ p
  other : b.positive ≡ q

-- the tests tell it
told : (a b : Lit) → Told (a.place == 0) (b.place == 0) (a.place == b.place) a.positive b.positive a b
told a b = record { left = eqb-true a.place 0; right = eqb-true b.place 0; same = eqb-true a.place b.place; sign = refl; other = refl }

-- the other order, by the tests
swap : (x y z p q : Bool) (a b : Lit) → Told x y z p q a b → shape y x z q p b a ≡ shape x y z p q a b
swap true true z true true a b h = ap Some (lit_same a b (h.left refl ∙ sym (h.right refl)) (h.sign ∙ sym h.other))
swap true true z true false a b h = ap Some (lit_same (lit_of false) b (sym (h.right refl)) (sym h.other))
swap true true z false true a b h = ap Some (lit_same a (lit_of false) (h.left refl) h.sign)
swap true true z false false a b h = refl
swap true false z p q a b h = refl
swap false true z p q a b h = refl
swap false false true true true a b h = ap Some (lit_same b a (sym (h.same refl)) (h.other ∙ sym h.sign))
swap false false true true false a b h = refl
swap false false true false true a b h = refl
swap false false true false false a b h = ap Some (lit_same b a (sym (h.same refl)) (h.other ∙ sym h.sign))
swap false false false p q a b h = refl

-- the order of the two does not matter
pub folded_swap : (a b : Lit) → folded b a ≡ folded a b
folded_swap a b =
    let e : (b.place == a.place) ≡ (a.place == b.place) = grind (arith, nat_tests) in
    ap (λ (z : Bool). shape (b.place == 0) (a.place == 0) z b.positive a.positive b a) e
    ∙ swap (a.place == 0) (b.place == 0) (a.place == b.place) a.positive b.positive a b (told a b)

-- a literal of the arena, by the tests
below : (x y z p q : Bool) (a b c : Lit) (n : ℕ) → a.place < n → b.place < n → shape x y z p q a b ≡ Some c → c.place < n
below true y z true q a b c n s t e = let h : b ≡ c = cc in let g : b.place ≡ c.place = ap (λ (l : Lit). l.place) h in omega arith
below true y z false q a b c n s t e = let h : lit_of false ≡ c = cc in let g : 0 ≡ c.place = ap (λ (l : Lit). l.place) h in omega arith
below false true z p true a b c n s t e = let h : a ≡ c = cc in let g : a.place ≡ c.place = ap (λ (l : Lit). l.place) h in omega arith
below false true z p false a b c n s t e = let h : lit_of false ≡ c = cc in let g : 0 ≡ c.place = ap (λ (l : Lit). l.place) h in omega arith
below false false true true true a b c n s t e = let h : a ≡ c = cc in let g : a.place ≡ c.place = ap (λ (l : Lit). l.place) h in omega arith
below false false true false false a b c n s t e = let h : a ≡ c = cc in let g : a.place ≡ c.place = ap (λ (l : Lit). l.place) h in omega arith
below false false true true false a b c n s t e = let h : lit_of false ≡ c = cc in let g : 0 ≡ c.place = ap (λ (l : Lit). l.place) h in omega arith
below false false true false true a b c n s t e = let h : lit_of false ≡ c = cc in let g : 0 ≡ c.place = ap (λ (l : Lit). l.place) h in omega arith
below false false false p q a b c n s t e = cc

-- it is a literal of the arena
pub folded_below : (a b c : Lit) (n : ℕ) → a.place < n → b.place < n → folded a b ≡ Some c → c.place < n
folded_below a b c n s t e = below (a.place == 0) (b.place == 0) (a.place == b.place) a.positive b.positive a b c n s t e

-- places that are not folded differ
pub unfolded_apart : (a b : Lit) → folded a b ≡ None → (a.place == b.place) ≡ false
unfolded_apart a b e = by (a.place == 0) (b.place == 0) (a.place == b.place) a.positive b.positive e
  where
    by : (x y z p q : Bool) → shape x y z p q a b ≡ None → z ≡ false
    by true y z p q h = cc
    by false true z p q h = cc
    by false false true p q h = cc
    by false false false p q h = refl

-- both of one truth value
and_same : (x : Bool) → x ≡ (x && x)
and_same true = refl
and_same false = refl

-- true beside a truth value
and_true : (x : Bool) → x ≡ (x && true)
and_true true = refl
and_true false = refl

-- false beside a truth value
and_false : (x : Bool) → false ≡ (x && false)
and_false true = refl
and_false false = refl

-- a truth value and its opposite
and_not : (x : Bool) → false ≡ (x && not x)
and_not true = refl
and_not false = refl

-- a valuation of literals: what is known of the truth values that they have
pub record Valuation (f : Lit → Bool) : Type 0 where
  pub constant : (v : Bool) → f (lit_of v) ≡ v
  pub negation : (a : Lit) → f (negated a) ≡ not (f a)

module _ (f : Lit → Bool) (v : Valuation f) where
  -- the value of a literal of place 0
  is_constant : (a : Lit) (s : Bool) → a.place ≡ 0 → a.positive ≡ s → f a ≡ s
  is_constant a s p q = ap f (lit_same a (lit_of s) p q) ∙ v.constant s

  -- true where both are, by the tests
  value : (x y z p q : Bool) (a b c : Lit) → Told x y z p q a b → shape x y z p q a b ≡ Some c → f c ≡ (f a && f b)
  value true y z true q a b c t e = let h : b ≡ c = cc in sym (ap f h) ∙ ap (λ (u : Bool). u && f b) (sym (is_constant a true (t.left refl) t.sign))
  value true y z false q a b c t e = let h : lit_of false ≡ c = cc in sym (ap f h) ∙ v.constant false ∙ ap (λ (u : Bool). u && f b) (sym (is_constant a false (t.left refl) t.sign))
  value false true z p true a b c t e = let h : a ≡ c = cc in sym (ap f h) ∙ and_true (f a) ∙ ap (λ (u : Bool). f a && u) (sym (is_constant b true (t.right refl) t.other))
  value false true z p false a b c t e = let h : lit_of false ≡ c = cc in sym (ap f h) ∙ v.constant false ∙ and_false (f a) ∙ ap (λ (u : Bool). f a && u) (sym (is_constant b false (t.right refl) t.other))
  value false false true true true a b c t e = let h : a ≡ c = cc in sym (ap f h) ∙ and_same (f a) ∙ ap (λ (u : Bool). f a && u) (ap f (lit_same a b (t.same refl) (t.sign ∙ sym t.other)))
  value false false true false false a b c t e = let h : a ≡ c = cc in sym (ap f h) ∙ and_same (f a) ∙ ap (λ (u : Bool). f a && u) (ap f (lit_same a b (t.same refl) (t.sign ∙ sym t.other)))
  value false false true true false a b c t e = let h : lit_of false ≡ c = cc in sym (ap f h) ∙ v.constant false ∙ and_not (f a) ∙ ap (λ (u : Bool). f a && u) (sym (v.negation a) ∙ ap f (lit_same (negated a) b (t.same refl) (ap not t.sign ∙ sym t.other)))
  value false false true false true a b c t e = let h : lit_of false ≡ c = cc in sym (ap f h) ∙ v.constant false ∙ and_not (f a) ∙ ap (λ (u : Bool). f a && u) (sym (v.negation a) ∙ ap f (lit_same (negated a) b (t.same refl) (ap not t.sign ∙ sym t.other)))
  value false false false p q a b c t e = cc

  -- it is true where both are
  pub folded_value : (a b c : Lit) → folded a b ≡ Some c → f c ≡ (f a && f b)
  folded_value a b c e = value (a.place == 0) (b.place == 0) (a.place == b.place) a.positive b.positive a b c (told a b) e
