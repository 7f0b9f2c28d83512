-- The steps of reading, each as one equation of what is read.
use Rattle.std.proofs.Common.{◌≡◌, ℕ, zero, suc, ◌+◌, ◌-◌, ◌<◌, List, [], ◌∷◌, length, drop, Option, Some, None, refl, sym, ap, arith}
use Rattle.std.proofs.lemmas.List.{length-drop}
use Rattle.spec_trees.specs.Stmt.{TypeExpr, TypeExprs, no_types}
use Rattle.spec_grammar.specs.declared.Mark.TheVariants as mark
use Rattle.spec_grammar.specs.Words.{Word, Name, Int, Str, Sign, line_of}
use Rattle.spec_grammar.specs.Marks.{name_at, sign_at}
use Rattle.spec_grammar.specs.Types.{union_tree}
use Rattle.spec_grammar.specs.Reading.{Parse}
use Rattle.spec_grammar.specs.TypeReading.{with_type, type_arguments_with, type_atom_with, members_with, type_with, type_below, read_type}
use Rattle.spec_grammar.proofs.Steps.{some_is}
use Rattle.py_words.specs.declared.unread.Unread.{Unread}
use Rattle.py_words.specs.declared.unread.Unread.TheVariants.{NoForm, NoMemory}
use Rattle.py_words.specs.Found.{Fails}
use Rattle.py_types.specs.Given.{atom_below, leaf_with, named_below}

-- one more than the number of words is enough
pub enough_room : (n p : ℕ) (s : List Word) → n ≡ length s - p + 1 → read_type (drop p s) ≡ type_below n (drop p s)
unfolding read_type
enough_room n p s e = ap (λ (k : ℕ). type_below k (drop p s)) (omega (arith, e, length-drop p s))

-- ---- whole types

within : (n : ℕ) (s : List Word) → 0 < n → type_below n s ≡ type_with (type_below (n - 1)) n s
unfolding type_below
within zero s lt = absurd (omega arith)
within (suc n) s lt = let e : suc n - 1 ≡ n = omega arith in rw e refl

pub no_type : (n : ℕ) (s : List Word) → n ≡ 0 → type_below n s ≡ None
unfolding type_below
no_type n s e = rw e refl

pub type_stuck : (n : ℕ) (s : List Word) → 0 < n → atom_below n s ≡ None → type_below n s ≡ None
unfolding type_with
type_stuck n s lt f = rw (within n s lt, f) refl

pub members_stuck : (n : ℕ) (a : TypeExpr) (s m : List Word) → 0 < n → atom_below n s ≡ Some (a, m) → members_with (atom_below n) n no_types m ≡ None → type_below n s ≡ None
unfolding type_with
members_stuck n a s m lt f g = rw (within n s lt, f, g) refl

pub type_whole : (n l : ℕ) (a : TypeExpr) (ts : TypeExprs) (s m r : List Word) → 0 < n → atom_below n s ≡ Some (a, m) → l ≡ line_of s → members_with (atom_below n) n no_types m ≡ Some (ts, r) → type_below n s ≡ Some (union_tree l a ts, r)
unfolding type_with
type_whole n l a ts s m r lt f h g = rw (within n s lt, f, g, h) refl

-- ---- types between `|`

pub members_turn : (p : Parse TypeExpr) (k j : ℕ) (ts : TypeExprs) (a : TypeExpr) (s t m : List Word) → k ≡ suc j → sign_at mark.Bar s ≡ Some t → p t ≡ Some (a, m) → members_with p k ts s ≡ members_with p j (with_type ts a) m
unfolding members_with
members_turn p k j ts a s t m f0 f1 f2 = rw (f0, f1, f2) refl

pub members_end : (p : Parse TypeExpr) (k j : ℕ) (ts : TypeExprs) (s : List Word) → k ≡ suc j → sign_at mark.Bar s ≡ None → members_with p k ts s ≡ Some (ts, s)
unfolding members_with
members_end p k j ts s f0 f1 = rw (f0, f1) refl

pub member_stuck : (p : Parse TypeExpr) (k j : ℕ) (ts : TypeExprs) (s t : List Word) → k ≡ suc j → sign_at mark.Bar s ≡ Some t → p t ≡ None → members_with p k ts s ≡ None
unfolding members_with
member_stuck p k j ts s t f0 f1 f2 = rw (f0, f1, f2) refl

pub members_out : (p : Parse TypeExpr) (k : ℕ) (ts : TypeExprs) (s : List Word) → k ≡ 0 → members_with p k ts s ≡ None
unfolding members_with
members_out p k ts s f0 = rw f0 refl

-- ---- names

pub atom_named : (n l : ℕ) (x : List ℕ) (s m : List Word) → name_at s ≡ Some (x, m) → l ≡ line_of s → atom_below n s ≡ named_below n l x m
unfolding type_atom_with
atom_named n l x [] m f e = absurd cc
atom_named n l x (Name k y ∷ s) m f e = let g : (y, s) ≡ (x, m) = some_is (y, s) (x, m) f in rw (e, sym (ap (λ (z : List ℕ × List Word). z.0) g), sym (ap (λ (z : List ℕ × List Word). z.1) g)) refl
atom_named n l x (Int k v ∷ s) m f e = absurd cc
atom_named n l x (Str q ∷ s) m f e = absurd cc
atom_named n l x (Sign k j ∷ s) m f e = absurd cc

pub atom_leaf : (n : ℕ) (s : List Word) → name_at s ≡ None → atom_below n s ≡ leaf_with s
unfolding type_atom_with
atom_leaf n [] f = refl
atom_leaf n (Name k y ∷ s) f = absurd cc
atom_leaf n (Int k v ∷ s) f = refl
atom_leaf n (Str q ∷ s) f = refl
atom_leaf n (Sign k j ∷ s) f = refl

-- ---- arguments

pub arguments_turn : (p : Parse TypeExpr) (k j : ℕ) (ts : TypeExprs) (a : TypeExpr) (s t m : List Word) → k ≡ suc j → sign_at mark.CloseBracket s ≡ None → sign_at mark.Comma s ≡ Some t → p t ≡ Some (a, m) → type_arguments_with p k ts s ≡ type_arguments_with p j (with_type ts a) m
unfolding type_arguments_with
arguments_turn p k j ts a s t m f0 f1 f2 f3 = rw (f0, f1, f2, f3) refl

pub arguments_end : (p : Parse TypeExpr) (k j : ℕ) (ts : TypeExprs) (s r : List Word) → k ≡ suc j → sign_at mark.CloseBracket s ≡ Some r → type_arguments_with p k ts s ≡ Some (ts, r)
unfolding type_arguments_with
arguments_end p k j ts s r f0 f1 = rw (f0, f1) refl

pub arguments_no_comma : (p : Parse TypeExpr) (k j : ℕ) (ts : TypeExprs) (s : List Word) → k ≡ suc j → sign_at mark.CloseBracket s ≡ None → sign_at mark.Comma s ≡ None → type_arguments_with p k ts s ≡ None
unfolding type_arguments_with
arguments_no_comma p k j ts s f0 f1 f2 = rw (f0, f1, f2) refl

pub argument_stuck : (p : Parse TypeExpr) (k j : ℕ) (ts : TypeExprs) (s t : List Word) → k ≡ suc j → sign_at mark.CloseBracket s ≡ None → sign_at mark.Comma s ≡ Some t → p t ≡ None → type_arguments_with p k ts s ≡ None
unfolding type_arguments_with
argument_stuck p k j ts s t f0 f1 f2 f3 = rw (f0, f1, f2, f3) refl

pub arguments_out : (p : Parse TypeExpr) (k : ℕ) (ts : TypeExprs) (s : List Word) → k ≡ 0 → type_arguments_with p k ts s ≡ None
unfolding type_arguments_with
arguments_out p k ts s f0 = rw f0 refl

-- ---- failures

-- the failure of a part is the failure of the whole
pub fails_on : {A B : Type 0} (e : Unread) (o : Option A) (q : Option B) → Fails e o → (o ≡ None → q ≡ None) → Fails e q
fails_on NoForm o q h f = f h
fails_on NoMemory o q h f = tt
