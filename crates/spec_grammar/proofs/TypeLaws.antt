-- A type is read as the one tree that it spells.
use Rattle.std.proofs.Common.{◌≡◌, ℕ, zero, suc, ◌<◌, ◌≤◌, List, [], ◌∷◌, length, Some, None, refl, sym, ap, subst, arith, ◌∙◌}
use Rattle.spec_trees.specs.Stmt as tree
use Rattle.spec_trees.specs.Stmt.{TypeExpr, TypeExprs}
use Rattle.spec_grammar.specs.declared.Mark.TheVariants as mark
use Rattle.spec_grammar.specs.Words.{Word, Name, Int, Str, Sign, one_sign, one_name, one_string}
use Rattle.spec_grammar.specs.Marks.{sign_at}
use Rattle.spec_grammar.specs.Reading.{Parse}
use Rattle.spec_grammar.specs.Types.{IsType, union, IsMembers, no_member, member, IsTypeAtom, name, applied, none, string, IsTypeArguments, closed, argument}
use Rattle.spec_grammar.specs.TypeReading.{with_type, all_types, type_arguments_with, type_atom_with, members_with, type_with, type_below, read_type, type_of}
use Rattle.spec_grammar.proofs.Steps.{some_is, whole_is, sign_is, sign_shorter}
use Rattle.spec_grammar.proofs.Fronts.{name_shorter, string_shorter}
use Rattle.spec_grammar.proofs.Sound.{Reads, bind_then, given_then, read_as, ListRead, nothing_more}

-- ---- lists

all_with_type : (ts : TypeExprs) (a : TypeExpr) (us : TypeExprs) → all_types (with_type ts a) us ≡ all_types ts (tree.type_item a us)
all_with_type tree.no_types a us = refl
all_with_type (tree.type_item b ts) a us = ap (λ v. tree.type_item b v) (all_with_type ts a us)

all_no_types : (ts : TypeExprs) → all_types ts tree.no_types ≡ ts
all_no_types tree.no_types = refl
all_no_types (tree.type_item b ts) = ap (λ v. tree.type_item b v) (all_no_types ts)

-- ---- lengths

mutual
  pub type_shorter : {s r : List Word} {t : TypeExpr} → IsType s r t → length r < length s
  type_shorter (union a c) = omega (arith, type_atom_shorter a, members_shorter c)

  members_shorter : {s r : List Word} {ts : TypeExprs} → IsMembers s r ts → length r ≤ length s
  members_shorter no_member = omega arith
  members_shorter (member i a c) = omega (arith, sign_shorter i, type_atom_shorter a, members_shorter c)

  type_atom_shorter : {s r : List Word} {t : TypeExpr} → IsTypeAtom s r t → length r < length s
  type_atom_shorter (name i) = name_shorter i
  type_atom_shorter (applied i o a c) = omega (arith, name_shorter i, sign_shorter o, type_shorter a, type_arguments_shorter c)
  type_atom_shorter (none i) = sign_shorter i
  type_atom_shorter (string i) = string_shorter i

  type_arguments_shorter : {s r : List Word} {ts : TypeExprs} → IsTypeArguments s r ts → length r < length s
  type_arguments_shorter (closed i) = sign_shorter i
  type_arguments_shorter (argument i a c) = omega (arith, sign_shorter i, type_shorter a, type_arguments_shorter c)

-- ---- what is a type is read

-- nothing at the front of the words goes on with a type
abbrev pub StopsType : List Word → Type 0
StopsType s = (sign_at mark.Bar s ≡ None) × (sign_at mark.OpenBracket s ≡ None)

-- p reads the types that are shorter than n
abbrev TypesFull : Parse TypeExpr → ℕ → Type 0
TypesFull p n = (s r : List Word) (t : TypeExpr) → length s < n → IsType s r t → StopsType r → p s ≡ Some (t, r)

type_arguments_stop : {s r : List Word} {ts : TypeExprs} → IsTypeArguments s r ts → StopsType s
type_arguments_stop (closed one_sign) = (refl, refl)
type_arguments_stop (argument one_sign a c) = (refl, refl)

no_close : {s r : List Word} {t : TypeExpr} → IsType s r t → sign_at mark.CloseBracket s ≡ None
no_close (union (name one_name) c) = refl
no_close (union (applied one_name o a d) c) = refl
no_close (union (none one_sign) c) = refl
no_close (union (string one_string) c) = refl

type_arguments_full : (p : Parse TypeExpr) (n : ℕ) → TypesFull p n → (k : ℕ) (ts : TypeExprs) (s r : List Word) (us : TypeExprs) → length s < k → length s ≤ n → IsTypeArguments s r us → type_arguments_with p k ts s ≡ Some (all_types ts us, r)
unfolding type_arguments_with
type_arguments_full p n h zero ts s r us lt le d = absurd (omega arith)
type_arguments_full p n h (suc k) ts s r us lt le (closed one_sign) = rw (all_no_types ts) refl
type_arguments_full p n h (suc k) ts s r us lt le (argument {t = t} {m = m} {a = a} {ts = vs} one_sign d c) =
    let less = type_shorter d in
    rw (h t m a (omega arith) d (type_arguments_stop c)) (type_arguments_full p n h k (with_type ts a) m r vs (omega arith) (omega arith) c ∙ ap (λ (ws : TypeExprs). Some (ws, r)) (all_with_type ts a vs))

type_atom_full : (p : Parse TypeExpr) (n k : ℕ) → TypesFull p n → n < k → {s r : List Word} {t : TypeExpr} → length s ≤ n → sign_at mark.OpenBracket r ≡ None → IsTypeAtom s r t → type_atom_with p k s ≡ Some (t, r)
unfolding type_atom_with
type_atom_full p n k h lt le st (name one_name) = rw st refl
type_atom_full p n k h lt {r = r} le st (applied {u = u} {m = m} {a = a} {ts = ts} one_name one_sign d c) =
    let less = type_shorter d in
    rw (h u m a (omega arith) d (type_arguments_stop c), type_arguments_full p n h k (tree.type_item a tree.no_types) m r ts (omega arith) (omega arith) c) refl
type_atom_full p n k h lt le st (none one_sign) = refl
type_atom_full p n k h lt le st (string one_string) = refl

members_stop : {s r : List Word} {ts : TypeExprs} → IsMembers s r ts → StopsType r → sign_at mark.OpenBracket s ≡ None
members_stop no_member st = st.1
members_stop (member one_sign a c) st = refl

members_full : (p : Parse TypeExpr) (n j : ℕ) → TypesFull p n → n < j → (k : ℕ) (ts : TypeExprs) (s r : List Word) (us : TypeExprs) → length s < k → length s ≤ n → IsMembers s r us → StopsType r → members_with (type_atom_with p j) k ts s ≡ Some (all_types ts us, r)
unfolding members_with
members_full p n j h less-j zero ts s r us lt le d st = absurd (omega arith)
members_full p n j h less-j (suc k) ts s r us lt le no_member st = rw (st.0, all_no_types ts) refl
members_full p n j h less-j (suc k) ts s r us lt le (member {t = t} {m = m} {a = a} {ts = vs} one_sign d c) st =
    let less = type_atom_shorter d in
    rw (type_atom_full p n j h less-j (omega arith) (members_stop c st) d) (members_full p n j h less-j k (with_type ts a) m r vs (omega arith) (omega arith) c st ∙ ap (λ (ws : TypeExprs). Some (ws, r)) (all_with_type ts a vs))

type_below_full : (n : ℕ) → TypesFull (type_below n) n
unfolding type_below type_with
type_below_full zero s r t lt d st = absurd (omega arith)
type_below_full (suc n) s r t lt (union {m = m} {a = a} {ts = ts} d c) st =
    let less = type_atom_shorter d in
    rw (type_atom_full (type_below n) n (suc n) (type_below_full n) (omega arith) (omega arith) (members_stop c st) d, members_full (type_below n) n (suc n) (type_below_full n) (omega arith) (suc n) tree.no_types m r ts (omega arith) (omega arith) c st) refl

pub type_is_read : (s r : List Word) (t : TypeExpr) → IsType s r t → StopsType r → read_type s ≡ Some (t, r)
unfolding read_type
type_is_read s r t d st = type_below_full (suc (length s)) s r t (omega arith) d st

-- ---- what is read is a type

type_arguments_sound : (p : Parse TypeExpr) → Reads p IsType → (k : ℕ) (ts : TypeExprs) (s : List Word) (x : TypeExprs × List Word) → type_arguments_with p k ts s ≡ Some x → ListRead IsTypeArguments all_types ts s x
unfolding type_arguments_with
type_arguments_sound p h zero ts s x e = absurd cc
type_arguments_sound p h (suc k) ts s x e =
    given_then (sign_at mark.CloseBracket s) _ _ _ e
    (λ r is same. nothing_more IsTypeArguments all_types ts s r x tree.no_types (closed (sign_is mark.CloseBracket s r is)) (sym (all_no_types ts)) same)
    (λ not rest. bind_then (sign_at mark.Comma s) _ _ rest (λ t is rest2.
    bind_then (p t) _ _ rest2 (λ a read after.
    let c = type_arguments_sound p h k (with_type ts a.0) a.1 x after in
    record { ys = tree.type_item a.0 c.ys; is = argument (sign_is mark.Comma s t is) (h t a read) c.is; whole = c.whole ∙ all_with_type ts a.0 c.ys })))

type_atom_sound : (p : Parse TypeExpr) (k : ℕ) → Reads p IsType → Reads (type_atom_with p k) IsTypeAtom
unfolding type_atom_with
type_atom_sound p k h [] x e = absurd cc
type_atom_sound p k h (Name n y ∷ s) x e =
    given_then (sign_at mark.OpenBracket s) _ _ _ e
    (λ t is rest. bind_then (p t) _ _ rest (λ a read rest2.
    bind_then (type_arguments_with p k (tree.type_item a.0 tree.no_types) a.1) _ _ rest2 (λ us others same.
    let c = type_arguments_sound p h k (tree.type_item a.0 tree.no_types) a.1 us others in
    read_as (IsTypeAtom (Name n y ∷ s)) same (subst (λ v. IsTypeAtom (Name n y ∷ s) us.1 (tree.name n y v)) (sym c.whole) (applied one_name (sign_is mark.OpenBracket s t is) (h t a read) c.is)))))
    (λ not same. read_as (IsTypeAtom (Name n y ∷ s)) same (name one_name))
type_atom_sound p k h (Int n v ∷ s) x e = absurd cc
type_atom_sound p k h (Str q ∷ s) x e = read_as (IsTypeAtom (Str q ∷ s)) e (string one_string)
type_atom_sound p k h (Sign n m ∷ s) x e = bind_then (sign_at mark.None (Sign n m ∷ s)) _ _ e (λ r is same. read_as (IsTypeAtom (Sign n m ∷ s)) same (none (sign_is mark.None (Sign n m ∷ s) r is)))

members_sound : (p : Parse TypeExpr) → Reads p IsTypeAtom → (k : ℕ) (ts : TypeExprs) (s : List Word) (x : TypeExprs × List Word) → members_with p k ts s ≡ Some x → ListRead IsMembers all_types ts s x
unfolding members_with
members_sound p h zero ts s x e = absurd cc
members_sound p h (suc k) ts s x e =
    given_then (sign_at mark.Bar s) _ _ _ e
    (λ t is rest. bind_then (p t) _ _ rest (λ a read after.
    let c = members_sound p h k (with_type ts a.0) a.1 x after in
    record { ys = tree.type_item a.0 c.ys; is = member (sign_is mark.Bar s t is) (h t a read) c.is; whole = c.whole ∙ all_with_type ts a.0 c.ys }))
    (λ not same. nothing_more IsMembers all_types ts s s x tree.no_types no_member (sym (all_no_types ts)) same)

type_below_sound : (n : ℕ) → Reads (type_below n) IsType
unfolding type_below type_with
type_below_sound zero s x e = absurd cc
type_below_sound (suc n) s x e =
    bind_then (type_atom_with (type_below n) (suc n) s) _ _ e (λ a read rest.
    bind_then (members_with (type_atom_with (type_below n) (suc n)) (suc n) tree.no_types a.1) _ _ rest (λ us others same.
    let c = members_sound (type_atom_with (type_below n) (suc n)) (type_atom_sound (type_below n) (suc n) (type_below_sound n)) (suc n) tree.no_types a.1 us others in
    read_as (IsType s) same (union (type_atom_sound (type_below n) (suc n) (type_below_sound n) s a read) (subst (λ v. IsMembers a.1 us.1 v) (sym c.whole) c.is))))

pub read_is_type : Reads read_type IsType
unfolding read_type
read_is_type s x e = type_below_sound (suc (length s)) s x e

-- ---- the laws

pub type_is : (s : List Word) (t : TypeExpr) → type_of s ≡ Some t → IsType s [] t
type_is s t h = read_is_type s (t, []) (whole_is (read_type s) t h)

pub is_type : (s : List Word) (t : TypeExpr) → IsType s [] t → type_of s ≡ Some t
is_type s t h = rw (type_is_read s [] t h (refl, refl)) refl

pub one_type : (s : List Word) (t u : TypeExpr) → IsType s [] t → IsType s [] u → t ≡ u
one_type s t u g h = some_is t u (sym (is_type s t g) ∙ is_type s u h)
