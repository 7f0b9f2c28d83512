-- The steps of reading, each as one equation of what is read.
use Rattle.std.proofs.Common.{◌≡◌, ◌<◌, ℕ, suc, List, [], ◌∷◌, ◌++◌, length, Option, Some, None, Ok, refl, sym, ap}
use Rattle.std.specs.Option.{option_map}
use Rattle.spec_trees.specs.Expr.{Expr}
use Rattle.spec_trees.specs.Stmt.{Parameter, Header, Simple, for, simple, header_simple}
use Rattle.spec_trees.specs.Module as tree
use Rattle.spec_grammar.specs.declared.Mark.{Mark}
use Rattle.spec_grammar.specs.declared.Mark.TheVariants as mark
use Rattle.spec_grammar.specs.Words.{Word, Name, Int, Str, Sign, line_of}
use Rattle.spec_grammar.specs.Marks.{sign_at, name_at}
use Rattle.spec_grammar.specs.Reading.{◌>>=◌, read_expr}
use Rattle.spec_grammar.specs.StatementReading.{simple_of}
use Rattle.spec_grammar.specs.HeaderReading.{read_parameter, parameters_with, with_colon, condition_of, for_of, headed_of, read_header, headed_line}
use Rattle.spec_grammar.proofs.Steps.{some_is}
use Rattle.py_tree.specs.declared.ids.StmtId.{StmtId}
use Rattle.py_tree.specs.Arena.{State, shown_stmt}
use Rattle.py_words.specs.declared.unread.Unread.{Unread}
use Rattle.py_words.specs.declared.unread.Unread.TheVariants.{NoForm, NoMemory}
use Rattle.py_words.specs.Found.{Fails, first_sign}
use Rattle.py_lines.specs.declared.nodes.HeaderNode.{HeaderNode}
use Rattle.py_lines.specs.declared.nodes.LineNode.TheVariants as line
use Rattle.py_lines.specs.Headers.{header_tree, IsHeaderThere}
use Rattle.py_lines.specs.Given.{GivesLine, last_expression}

-- ---- parameters

-- one more than the number of words is enough
pub enough_room : (n : ℕ) (s : List Word) → n ≡ suc (length s) → parameters_with (suc (length s)) [] s ≡ parameters_with n [] s
enough_room n s e = rw e refl

pub parameters_turn : (k j : ℕ) (ps : List Parameter) (p : Parameter) (s m t : List Word) → k ≡ suc j → sign_at mark.CloseParen s ≡ None → read_parameter s ≡ Some (p, m) → sign_at mark.CloseParen m ≡ None → sign_at mark.Comma m ≡ Some t → parameters_with k ps s ≡ parameters_with j (ps ++ p ∷ []) t
unfolding parameters_with
parameters_turn k j ps p s m t f0 f1 f2 f3 f4 = rw (f0, f1, f2, f3, f4) refl

pub parameters_end : (k j : ℕ) (ps : List Parameter) (s r : List Word) → k ≡ suc j → sign_at mark.CloseParen s ≡ Some r → parameters_with k ps s ≡ Some (ps, r)
unfolding parameters_with
parameters_end k j ps s r f0 f1 = rw (f0, f1) refl

pub parameters_last : (k j : ℕ) (ps : List Parameter) (p : Parameter) (s m r : List Word) → k ≡ suc j → sign_at mark.CloseParen s ≡ None → read_parameter s ≡ Some (p, m) → sign_at mark.CloseParen m ≡ Some r → parameters_with k ps s ≡ Some (ps ++ p ∷ [], r)
unfolding parameters_with
parameters_last k j ps p s m r f0 f1 f2 f3 = rw (f0, f1, f2, f3) refl

pub parameters_no_comma : (k j : ℕ) (ps : List Parameter) (p : Parameter) (s m : List Word) → k ≡ suc j → sign_at mark.CloseParen s ≡ None → read_parameter s ≡ Some (p, m) → sign_at mark.CloseParen m ≡ None → sign_at mark.Comma m ≡ None → parameters_with k ps s ≡ None
unfolding parameters_with
parameters_no_comma k j ps p s m f0 f1 f2 f3 f4 = rw (f0, f1, f2, f3, f4) refl

pub parameters_stuck : (k j : ℕ) (ps : List Parameter) (s : List Word) → k ≡ suc j → sign_at mark.CloseParen s ≡ None → read_parameter s ≡ None → parameters_with k ps s ≡ None
unfolding parameters_with
parameters_stuck k j ps s f0 f1 f2 = rw (f0, f1, f2) refl

pub parameters_out : (k : ℕ) (ps : List Parameter) (s : List Word) → k ≡ 0 → parameters_with k ps s ≡ None
unfolding parameters_with
parameters_out k ps s f0 = rw f0 refl

-- ---- headers

-- an expression before a colon
abbrev before_colon : Option (Expr × List Word) → Option (Expr × List Word)
before_colon o = o >>= λ x. sign_at mark.Colon x.1 >>= λ t. Some (x.0, t)

abbrev at_colon : Expr → Option (List Word) → Option (Expr × List Word)
at_colon a o = o >>= λ t. Some (a, t)

-- the header that it ends
abbrev header_before : (Expr → Header) → Option (Expr × List Word) → Option (Header × List Word)
header_before h o = o >>= λ x. with_colon (h x.0) x.1

abbrev header_at : Header → Option (List Word) → Option (Header × List Word)
header_at h o = o >>= λ t. Some (h, t)

colon_read : (h : Expr → Header) (a : Expr) (o : Option (List Word)) (e : Expr) (r : List Word) → at_colon a o ≡ Some (e, r) → header_at (h a) o ≡ Some (h e, r)
colon_read h a (Some t) e r p = ap (λ (y : Expr × List Word). Some (h y.0, y.1)) (some_is (a, t) (e, r) p)
colon_read h a None e r p = absurd cc

no_colon : (h : Expr → Header) (a : Expr) (o : Option (List Word)) → at_colon a o ≡ None → header_at (h a) o ≡ None
no_colon h a (Some t) p = absurd cc
no_colon h a None p = refl

last_read : (h : Expr → Header) (o : Option (Expr × List Word)) (e : Expr) (r : List Word) → before_colon o ≡ Some (e, r) → header_before h o ≡ Some (h e, r)
last_read h (Some x) e r p = colon_read h x.0 (sign_at mark.Colon x.1) e r p
last_read h None e r p = absurd cc

no_last : (h : Expr → Header) (o : Option (Expr × List Word)) → before_colon o ≡ None → header_before h o ≡ None
no_last h (Some x) p = no_colon h x.0 (sign_at mark.Colon x.1) p
no_last h None p = refl

pub condition_read : (h : Expr → Header) (e : Expr) (s r : List Word) → last_expression s ≡ Some (e, r) → condition_of h s ≡ Some (h e, r)
unfolding condition_of
condition_read h e s r p = last_read h (read_expr s) e r p

pub condition_stuck : (h : Expr → Header) (s : List Word) → last_expression s ≡ None → condition_of h s ≡ None
unfolding condition_of
condition_stuck h s p = no_last h (read_expr s) p

pub for_read : (n : ℕ) (x : List ℕ) (e : Expr) (s t u r : List Word) → name_at s ≡ Some (x, t) → sign_at mark.In t ≡ Some u → last_expression u ≡ Some (e, r) → for_of n s ≡ Some (for n x e, r)
unfolding for_of
for_read n x e s t u r f0 f1 f2 = rw (f0, f1) (last_read (for n x) (read_expr u) e r f2)

pub for_stuck : (n : ℕ) (x : List ℕ) (s t u : List Word) → name_at s ≡ Some (x, t) → sign_at mark.In t ≡ Some u → last_expression u ≡ None → for_of n s ≡ None
unfolding for_of
for_stuck n x s t u f0 f1 f2 = rw (f0, f1) (no_last (for n x) (read_expr u) f2)

pub header_signed : (m : Mark) (s t : List Word) → first_sign s ≡ Some (m, t) → read_header s ≡ headed_of m (line_of s) t
unfolding read_header
header_signed m [] t e = absurd cc
header_signed m (Name n x ∷ s) t e = absurd cc
header_signed m (Int n v ∷ s) t e = absurd cc
header_signed m (Str p ∷ s) t e = absurd cc
header_signed m (Sign n k ∷ s) t e =
    let h = some_is (k, s) (m, t) e in
    let p : k ≡ m = ap (λ (x : Mark × List Word). x.0) h in
    let q : s ≡ t = ap (λ (x : Mark × List Word). x.1) h in
    rw (p, q) refl

pub header_none : (s : List Word) → first_sign s ≡ None → read_header s ≡ None
unfolding read_header
header_none [] e = refl
header_none (Name n x ∷ s) e = refl
header_none (Int n v ∷ s) e = refl
header_none (Str p ∷ s) e = refl
header_none (Sign n k ∷ s) e = absurd cc

-- what no sign of a header begins
pub headed_none : (m : Mark) (n : ℕ) (s : List Word) → (m ≡ mark.Def → ⊥) → (m ≡ mark.Class → ⊥) → (m ≡ mark.If → ⊥) → (m ≡ mark.Elif → ⊥) → (m ≡ mark.Else → ⊥) → (m ≡ mark.While → ⊥) → (m ≡ mark.For → ⊥) → (m ≡ mark.Try → ⊥) → (m ≡ mark.Except → ⊥) → headed_of m n s ≡ None
unfolding headed_of
headed_none mark.Def n s f0 f1 f2 f3 f4 f5 f6 f7 f8 = absurd (f0 refl)
headed_none mark.Class n s f0 f1 f2 f3 f4 f5 f6 f7 f8 = absurd (f1 refl)
headed_none mark.If n s f0 f1 f2 f3 f4 f5 f6 f7 f8 = absurd (f2 refl)
headed_none mark.Elif n s f0 f1 f2 f3 f4 f5 f6 f7 f8 = absurd (f3 refl)
headed_none mark.Else n s f0 f1 f2 f3 f4 f5 f6 f7 f8 = absurd (f4 refl)
headed_none mark.While n s f0 f1 f2 f3 f4 f5 f6 f7 f8 = absurd (f5 refl)
headed_none mark.For n s f0 f1 f2 f3 f4 f5 f6 f7 f8 = absurd (f6 refl)
headed_none mark.Try n s f0 f1 f2 f3 f4 f5 f6 f7 f8 = absurd (f7 refl)
headed_none mark.Except n s f0 f1 f2 f3 f4 f5 f6 f7 f8 = absurd (f8 refl)
headed_none _ n s f0 f1 f2 f3 f4 f5 f6 f7 f8 = refl

-- ---- lines

-- what stands behind a header is a statement
pub headed_more : (h : Header) (s r : List Word) (w : Word) → s ≡ w ∷ r → headed_line h s ≡ (simple_of s >>= λ d. Some (header_simple h d))
unfolding headed_line
headed_more h s r w e = rw e refl

pub headed_stuck : (h : Header) (s r : List Word) (w : Word) → s ≡ w ∷ r → simple_of s ≡ None → headed_line h s ≡ None
headed_stuck h s r w e f = rw (headed_more h s r w e, f) refl

-- the line of a statement
pub simple_line : (m : State) (x : StmtId) (o : Option Simple) → x.index < length m.stmts → option_map tree.simple o ≡ Some (shown_stmt m x.index) → GivesLine m (Ok (line.Simple x)) (o >>= λ d. Some (simple d))
simple_line m x (Some d) lt e = (lt, sym (some_is (tree.simple d) (shown_stmt m x.index) e))
simple_line m x None lt e = absurd cc

-- and behind a header
pub headed_simple : (m : State) (a : HeaderNode) (h : Header) (x : StmtId) (o : Option Simple) → IsHeaderThere m a → h ≡ header_tree m a → x.index < length m.stmts → option_map tree.simple o ≡ Some (shown_stmt m x.index) → GivesLine m (Ok (line.HeaderSimple a x)) (o >>= λ d. Some (header_simple h d))
headed_simple m a h x (Some d) p q lt e = (p, q, lt, sym (some_is (tree.simple d) (shown_stmt m x.index) e))
headed_simple m a h x None p q lt e = absurd cc

-- ---- failures

-- the failure of a part is the failure of the whole
pub fails_on : {A B : Type 0} (e : Unread) (o : Option A) (q : Option B) → Fails e o → (o ≡ None → q ≡ None) → Fails e q
fails_on NoForm o q h f = f h
fails_on NoMemory o q h f = tt

-- where there is memory, nothing is there to be read
pub no_form : {A : Type 0} (e : Unread) (o : Option A) → Fails e o → e ≡ NoForm → o ≡ None
no_form NoForm o h q = h
no_form NoMemory o h q = absurd cc
