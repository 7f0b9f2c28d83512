-- What single steps of reading say.
use Rattle.std.proofs.Common.{◌≡◌, ℕ, suc, ◌<◌, ◌⊎◌, Bool, true, false, cond, List, [], ◌∷◌, length, get_or, Option, Some, None, refl, sym, ap, subst, inl, inr, arith, ◌==◌, ◌∙◌}
use Rattle.std.proofs.lemmas.Bool.{eqb-true, ne_eqb}
use Rattle.spec_trees.specs.declared.Operator.{Operator}
use Rattle.spec_trees.specs.declared.Operator.TheVariants as operator
use Rattle.spec_trees.specs.declared.Prefix.{Prefix}
use Rattle.spec_trees.specs.Expr.{Expr, ArgumentList, no_arguments, argument, Links, no_links, link, Exprs, no_exprs, item, Pairs, no_pairs, pair}
use Rattle.spec_grammar.specs.declared.Mark.{Mark}
use Rattle.spec_grammar.specs.declared.Mark.TheVariants as mark
use Rattle.spec_grammar.specs.Words.{Word, Name, Int, Str, Sign, IsSign, one_sign, IsName, one_name}
use Rattle.spec_grammar.specs.Marks.{code_of, sign_at, level_of, two_words, operator_of, first_operator, of_level, operator_at, prefix_level, prefix_of, prefix_if, prefix_at, named_at, keyword_at, name_at, goes_on, is_suffix, StopsAt, Stops, may_begin}
use Rattle.spec_grammar.specs.Reading.{◌>>=◌, given, whole, with_argument, all_arguments, with_link, all_links, with_item, all_items, with_pair, all_pairs}

-- ---- options

pub some_is : {A : Type 0} (x y : A) → Some x ≡ Some y → x ≡ y
some_is x y e = cc

pub bind_some : {A B : Type 0} (o : Option A) (f : A → Option B) (y : B) → (o >>= f) ≡ Some y → (x : A) × (o ≡ Some x) × (f x ≡ Some y)
bind_some (Some x) f y e = (x, refl, e)
bind_some None f y e = absurd cc

pub given_cases : {A B : Type 0} (o : Option A) (f : A → B) (y z : B) → given o f y ≡ z → ((x : A) × (o ≡ Some x) × (f x ≡ z)) ⊎ ((o ≡ None) × (y ≡ z))
given_cases (Some x) f y z e = inl (x, refl, e)
given_cases None f y z e = inr (refl, e)

pub whole_is : {A : Type 0} (o : Option (A × List Word)) (x : A) → whole o ≡ Some x → o ≡ Some (x, [])
whole_is None x e = absurd cc
whole_is (Some (y, [])) x e = ap (λ z. Some (z, [])) (some_is y x e)
whole_is (Some (y, w ∷ s)) x e = absurd cc

pub cond_some : {A : Type 0} (b : Bool) (x : Option A) (z : A) → cond b None x ≡ Some z → (b ≡ false) × (x ≡ Some z)
cond_some true x z e = absurd cc
cond_some false x z e = (refl, e)

pub chosen : {A : Type 0} (b : Bool) (x y z : A) → cond b x y ≡ z → ((b ≡ true) × (x ≡ z)) ⊎ ((b ≡ false) × (y ≡ z))
chosen true x y z e = inl (refl, e)
chosen false x y z e = inr (refl, e)

-- ---- signs

signs : List Mark
signs = mark.Plus ∷ mark.Minus ∷ mark.Star ∷ mark.DoubleSlash ∷ mark.Percent ∷ mark.Ampersand ∷ mark.Bar ∷ mark.Caret ∷ mark.Tilde ∷ mark.ShiftLeft ∷ mark.ShiftRight ∷ mark.Less ∷ mark.Greater ∷ mark.LessEqual ∷ mark.GreaterEqual ∷ mark.Equal ∷ mark.NotEqual ∷ mark.OpenParen ∷ mark.CloseParen ∷ mark.OpenBracket ∷ mark.CloseBracket ∷ mark.OpenBrace ∷ mark.CloseBrace ∷ mark.Comma ∷ mark.Colon ∷ mark.Dot ∷ mark.Assign ∷ mark.Arrow ∷ mark.PlusAssign ∷ mark.MinusAssign ∷ mark.StarAssign ∷ mark.DoubleSlashAssign ∷ mark.PercentAssign ∷ mark.AmpersandAssign ∷ mark.BarAssign ∷ mark.CaretAssign ∷ mark.ShiftLeftAssign ∷ mark.ShiftRightAssign ∷ mark.True ∷ mark.False ∷ mark.None ∷ mark.And ∷ mark.Assert ∷ mark.Break ∷ mark.Class ∷ mark.Continue ∷ mark.Def ∷ mark.Del ∷ mark.Elif ∷ mark.Else ∷ mark.Except ∷ mark.For ∷ mark.From ∷ mark.If ∷ mark.Import ∷ mark.In ∷ mark.Is ∷ mark.Not ∷ mark.Or ∷ mark.Pass ∷ mark.Raise ∷ mark.Return ∷ mark.Try ∷ mark.While ∷ mark.Reserved ∷ []

sign_of_code : (m : Mark) → get_or signs (code_of m) mark.Reserved ≡ m
unfolding signs
sign_of_code mark.Plus = refl
sign_of_code _ = refl

same_sign : (m k : Mark) → (code_of m == code_of k) ≡ true → m ≡ k
same_sign m k e = let c : code_of m ≡ code_of k = eqb-true (code_of m) (code_of k) e in cc (sign_of_code m, sign_of_code k, ap (λ n. get_or signs n mark.Reserved) c)

pub sign_is : (m : Mark) (s r : List Word) → sign_at m s ≡ Some r → IsSign m s r
sign_is m [] r e = absurd cc
sign_is m (Name n x ∷ s) r e = absurd cc
sign_is m (Int n v ∷ s) r e = absurd cc
sign_is m (Str p ∷ s) r e = absurd cc
sign_is m (Sign n k ∷ s) r e =
    elim (chosen (code_of m == code_of k) (Some s) None (Some r) e) [
      | inl p ↦ subst (λ (j : Mark). IsSign j (Sign n k ∷ s) r) (sym (same_sign m k p.0)) (subst (λ (q : List Word). IsSign k (Sign n k ∷ s) q) (some_is s r p.1) one_sign)
      | inr p ↦ absurd cc
    ]

pub same_mark : {k m : Mark} {s t r : List Word} → IsSign k s t → IsSign m s r → k ≡ m
same_mark one_sign one_sign = refl

-- a sign does not stand where it cannot
pub not_at : (m : Mark) (s : List Word) → ((r : List Word) → IsSign m s r → ⊥) → sign_at m s ≡ None
not_at m s never = by_cases (sign_at m s) refl
  where
    by_cases : (o : Option (List Word)) → sign_at m s ≡ o → o ≡ None
    by_cases None e = refl
    by_cases (Some r) e = absurd (never r (sign_is m s r e))

pub sign_shorter : {m : Mark} {s t : List Word} → IsSign m s t → length t < length s
sign_shorter one_sign = omega arith

pub name_is : (s : List Word) (x : List ℕ × List Word) → name_at s ≡ Some x → IsName s x.1 x.0
name_is [] x e = absurd cc
name_is (Int n v ∷ s) x e = absurd cc
name_is (Str p ∷ s) x e = absurd cc
name_is (Sign n k ∷ s) x e = absurd cc
name_is (Name n y ∷ s) x e = subst (λ (z : List ℕ × List Word). IsName (Name n y ∷ s) z.1 z.0) (some_is (y, s) x e) one_name

pub keyword_is : (s : List Word) (x : List ℕ × List Word) → keyword_at s ≡ Some x → (t : List Word) × IsName s t x.0 × IsSign mark.Assign t x.1
keyword_is [] x e = absurd cc
keyword_is (Int n v ∷ s) x e = absurd cc
keyword_is (Str p ∷ s) x e = absurd cc
keyword_is (Sign n k ∷ s) x e = absurd cc
keyword_is (Name n y ∷ s) x e = named_is (sign_at mark.Assign s) refl e
  where
    named_is : (o : Option (List Word)) → sign_at mark.Assign s ≡ o → named_at y o ≡ Some x → (t : List Word) × IsName (Name n y ∷ s) t x.0 × IsSign mark.Assign t x.1
    named_is (Some r) f e = subst (λ (z : List ℕ × List Word). (t : List Word) × IsName (Name n y ∷ s) t z.0 × IsSign mark.Assign t z.1) (some_is (y, r) x e) (s, one_name, sign_is mark.Assign s r f)
    named_is None f e = absurd cc

-- ---- operators

of_level_tells : (l : ℕ) (o : Option (Operator × List Word)) (x : Operator × List Word) → of_level l o ≡ Some x → (o ≡ Some x) × (level_of x.0 ≡ l)
of_level_tells l None x e = absurd cc
of_level_tells l (Some y) x e =
    elim (chosen (level_of y.0 == l) (Some y) None (Some x) e) [
      | inl p ↦ (p.1, subst (λ (z : Operator × List Word). level_of z.0 ≡ l) (some_is y x p.1) (eqb-true (level_of y.0) l p.0))
      | inr p ↦ absurd cc
    ]

pub operator_stops : (l : ℕ) (s : List Word) (x : Operator × List Word) → operator_at l s ≡ Some x → Stops l s
operator_stops l s x e =
    let p = of_level_tells l (first_operator s) x e in
    subst (λ (o : Option (Operator × List Word)). StopsAt l o (is_suffix s)) (sym p.0) (omega (arith, p.1))

pub no_operator_at : (l : ℕ) (s : List Word) → Stops (suc l) s → operator_at l s ≡ None
no_operator_at l s h = none (first_operator s) (is_suffix s) h
  where
    none : (o : Option (Operator × List Word)) (b : Bool) → StopsAt (suc l) o b → of_level l o ≡ None
    none None b h = refl
    none (Some y) b h = rw (ne_eqb (level_of y.0) l (λ e. omega arith)) refl

pub stops_less : (l : ℕ) (s : List Word) → Stops (suc l) s → Stops l s
stops_less l s h = less (first_operator s) (is_suffix s) h
  where
    less : (o : Option (Operator × List Word)) (b : Bool) → StopsAt (suc l) o b → StopsAt l o b
    less None b h = h
    less (Some y) b h = omega arith

-- an operator is no suffix
operator_no_suffix : (m : Mark) (s : List Word) (x : Operator × List Word) → operator_of m s ≡ Some x → goes_on m ≡ false
operator_no_suffix mark.OpenParen s x e = absurd cc
operator_no_suffix mark.OpenBracket s x e = absurd cc
operator_no_suffix mark.Dot s x e = absurd cc
operator_no_suffix _ s x e = refl

pub stops_suffix : (l : ℕ) (s : List Word) → Stops l s → is_suffix s ≡ false
stops_suffix l [] h = refl
stops_suffix l (Name n x ∷ s) h = refl
stops_suffix l (Int n v ∷ s) h = refl
stops_suffix l (Str p ∷ s) h = h
stops_suffix l (Sign n m ∷ s) h = by_cases (operator_of m s) refl h
  where
    by_cases : (o : Option (Operator × List Word)) → operator_of m s ≡ o → StopsAt l o (goes_on m) → goes_on m ≡ false
    by_cases None e h = h
    by_cases (Some x) e h = operator_no_suffix m s x e

-- where no suffix stands, no sign of one stands
no_suffix_sign : (m : Mark) (s : List Word) → is_suffix s ≡ false → goes_on m ≡ true → sign_at m s ≡ None
no_suffix_sign m s h g = not_at m s (λ r i. clash i h g)
  where
    clash : {k : Mark} {q r : List Word} → IsSign k q r → is_suffix q ≡ false → goes_on k ≡ true → ⊥
    clash one_sign h g = cc

pub no_call_at : (s : List Word) → is_suffix s ≡ false → sign_at mark.OpenParen s ≡ None
no_call_at s h = no_suffix_sign mark.OpenParen s h refl

pub no_index_at : (s : List Word) → is_suffix s ≡ false → sign_at mark.OpenBracket s ≡ None
no_index_at s h = no_suffix_sign mark.OpenBracket s h refl

pub no_dot_at : (s : List Word) → is_suffix s ≡ false → sign_at mark.Dot s ≡ None
no_dot_at s h = no_suffix_sign mark.Dot s h refl

-- ---- prefixes

prefix_if_tells : (l : ℕ) (o : Option Prefix) (s : List Word) (x : Prefix × List Word) → prefix_if l o s ≡ Some x → (o ≡ Some x.0) × (prefix_level x.0 ≡ l) × (s ≡ x.1)
prefix_if_tells l None s x e = absurd cc
prefix_if_tells l (Some p) s x e =
    elim (chosen (prefix_level p == l) (Some (p, s)) None (Some x) e) [
      | inl q ↦ subst (λ (z : Prefix × List Word). (Some p ≡ Some z.0) × (prefix_level z.0 ≡ l) × (s ≡ z.1)) (some_is (p, s) x q.1) (refl, eqb-true (prefix_level p) l q.0, refl)
      | inr q ↦ absurd cc
    ]

-- a prefix is of one level
pub prefix_other : (l : ℕ) (s : List Word) (x : Prefix × List Word) → prefix_at l s ≡ Some x → (k : ℕ) → (l ≡ k → ⊥) → prefix_at k s ≡ None
prefix_other l [] x e k ne = refl
prefix_other l (Name n y ∷ s) x e k ne = refl
prefix_other l (Int n v ∷ s) x e k ne = refl
prefix_other l (Str p ∷ s) x e k ne = refl
prefix_other l (Sign n m ∷ s) x e k ne =
    let p = prefix_if_tells l (prefix_of m) s x e in
    rw p.0 (rw (ne_eqb (prefix_level x.0) k (λ f. ne (sym p.1 ∙ f))) refl)

pub prefix_shorter : (l : ℕ) (s : List Word) (x : Prefix × List Word) → prefix_at l s ≡ Some x → length x.1 < length s
prefix_shorter l [] x e = absurd cc
prefix_shorter l (Name n y ∷ s) x e = absurd cc
prefix_shorter l (Int n v ∷ s) x e = absurd cc
prefix_shorter l (Str p ∷ s) x e = absurd cc
prefix_shorter l (Sign n m ∷ s) x e = let p = prefix_if_tells l (prefix_of m) s x e in rw (← p.2) (omega arith)

prefix_begins : (m : Mark) (o : Prefix) → prefix_of m ≡ Some o → may_begin m ≡ true
prefix_begins mark.Plus o e = refl
prefix_begins mark.Minus o e = refl
prefix_begins mark.Tilde o e = refl
prefix_begins mark.Not o e = refl
prefix_begins _ o e = absurd cc

pub prefix_not : (l : ℕ) (s : List Word) (x : Prefix × List Word) (m : Mark) → prefix_at l s ≡ Some x → may_begin m ≡ false → sign_at m s ≡ None
prefix_not l s x m e h = not_at m s (λ r i. clash i e h)
  where
    clash : {k : Mark} {q r : List Word} → IsSign k q r → prefix_at l q ≡ Some x → may_begin k ≡ false → ⊥
    clash (one_sign {m = k} {r = t}) e h =
        let p = prefix_if_tells l (prefix_of k) t x e in
        let b = prefix_begins k x.0 p.0 in cc

-- ---- lengths

one : (o : Operator) (s : List Word) (x : Operator × List Word) → Some (o, s) ≡ Some x → length x.1 < suc (length s)
one o s x e = subst (λ (y : Operator × List Word). length y.1 < suc (length s)) (some_is (o, s) x e) (omega arith)

two_words_some : (o : Operator) (q : Option (List Word)) (d : Option (Operator × List Word)) (x : Operator × List Word) (P : Operator × List Word → Type 0) → ((t : List Word) → q ≡ Some t → P (o, t)) → (d ≡ Some x → P x) → two_words o q d ≡ Some x → P x
two_words_some o (Some t) d x P f g e = subst P (some_is (o, t) x e) (f t refl)
two_words_some o None d x P f g e = g e

operator_of_shorter : (m : Mark) (s : List Word) (x : Operator × List Word) → operator_of m s ≡ Some x → length x.1 < suc (length s)
operator_of_shorter mark.Star s x e = one operator.Multiply s x e
operator_of_shorter mark.DoubleSlash s x e = one operator.FloorDivide s x e
operator_of_shorter mark.Percent s x e = one operator.Modulo s x e
operator_of_shorter mark.Plus s x e = one operator.Add s x e
operator_of_shorter mark.Minus s x e = one operator.Subtract s x e
operator_of_shorter mark.ShiftLeft s x e = one operator.ShiftLeft s x e
operator_of_shorter mark.ShiftRight s x e = one operator.ShiftRight s x e
operator_of_shorter mark.Ampersand s x e = one operator.BitAnd s x e
operator_of_shorter mark.Caret s x e = one operator.BitXor s x e
operator_of_shorter mark.Bar s x e = one operator.BitOr s x e
operator_of_shorter mark.Equal s x e = one operator.Equal s x e
operator_of_shorter mark.NotEqual s x e = one operator.NotEqual s x e
operator_of_shorter mark.Less s x e = one operator.Less s x e
operator_of_shorter mark.LessEqual s x e = one operator.LessEqual s x e
operator_of_shorter mark.Greater s x e = one operator.Greater s x e
operator_of_shorter mark.GreaterEqual s x e = one operator.GreaterEqual s x e
operator_of_shorter mark.In s x e = one operator.In s x e
operator_of_shorter mark.And s x e = one operator.And s x e
operator_of_shorter mark.Or s x e = one operator.Or s x e
operator_of_shorter mark.Not s x e = two_words_some operator.NotIn (sign_at mark.In s) None x (λ y. length y.1 < suc (length s)) (λ t f. omega (arith, sign_shorter (sign_is mark.In s t f))) (λ f. absurd cc) e
operator_of_shorter mark.Is s x e = two_words_some operator.IsNot (sign_at mark.Not s) (Some (operator.Is, s)) x (λ y. length y.1 < suc (length s)) (λ t f. omega (arith, sign_shorter (sign_is mark.Not s t f))) (λ f. one operator.Is s x f) e
operator_of_shorter _ s x e = absurd cc

pub operator_shorter : (l : ℕ) (s : List Word) (x : Operator × List Word) → operator_at l s ≡ Some x → length x.1 < length s
operator_shorter l [] x e = absurd cc
operator_shorter l (Name n y ∷ s) x e = absurd cc
operator_shorter l (Int n v ∷ s) x e = absurd cc
operator_shorter l (Str p ∷ s) x e = absurd cc
operator_shorter l (Sign n m ∷ s) x e = operator_of_shorter m s x (of_level_tells l (operator_of m s) x e).0

-- ---- lists

pub all_with_argument : (xs : ArgumentList) (n : Option (List ℕ)) (e : Expr) (ys : ArgumentList) → all_arguments (with_argument xs n e) ys ≡ all_arguments xs (argument n e ys)
all_with_argument no_arguments n e ys = refl
all_with_argument (argument m d xs) n e ys = ap (λ zs. argument m d zs) (all_with_argument xs n e ys)

pub all_no_arguments : (xs : ArgumentList) → all_arguments xs no_arguments ≡ xs
all_no_arguments no_arguments = refl
all_no_arguments (argument m d xs) = ap (λ zs. argument m d zs) (all_no_arguments xs)

pub all_with_link : (xs : Links) (o : Operator) (e : Expr) (ys : Links) → all_links (with_link xs o e) ys ≡ all_links xs (link o e ys)
all_with_link no_links o e ys = refl
all_with_link (link m d xs) o e ys = ap (λ zs. link m d zs) (all_with_link xs o e ys)

pub all_no_links : (xs : Links) → all_links xs no_links ≡ xs
all_no_links no_links = refl
all_no_links (link m d xs) = ap (λ zs. link m d zs) (all_no_links xs)

pub all_with_item : (xs : Exprs) (e : Expr) (ys : Exprs) → all_items (with_item xs e) ys ≡ all_items xs (item e ys)
all_with_item no_exprs e ys = refl
all_with_item (item d xs) e ys = ap (λ zs. item d zs) (all_with_item xs e ys)

pub all_no_items : (xs : Exprs) → all_items xs no_exprs ≡ xs
all_no_items no_exprs = refl
all_no_items (item d xs) = ap (λ zs. item d zs) (all_no_items xs)

pub all_with_pair : (xs : Pairs) (k e : Expr) (ys : Pairs) → all_pairs (with_pair xs k e) ys ≡ all_pairs xs (pair k e ys)
all_with_pair no_pairs k e ys = refl
all_with_pair (pair j d xs) k e ys = ap (λ zs. pair j d zs) (all_with_pair xs k e ys)

pub all_no_pairs : (xs : Pairs) → all_pairs xs no_pairs ≡ xs
all_no_pairs no_pairs = refl
all_no_pairs (pair j d xs) = ap (λ zs. pair j d zs) (all_no_pairs xs)
