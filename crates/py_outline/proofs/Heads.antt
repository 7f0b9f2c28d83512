-- The rules on headers, by the kinds of headers.
use Rattle.std.proofs.Common.{◌≡◌, ◌||◌, [], ◌∷◌, Option, Some, None, refl}
use Rattle.spec_trees.specs.Stmt as line
use Rattle.spec_trees.specs.Stmt.{Header, Line}
use Rattle.spec_syntax.specs.Placement as rule
use Rattle.py_outline.specs.declared.outline.HeaderKind.{HeaderKind}
use Rattle.py_outline.specs.Outlines.{kind_of_header, form_of}
use Rattle.py_outline.specs.Orders as order
use Rattle.py_outline.specs.Surroundings as around

-- the kind of a header, where there is one
abbrev pub kind : Option Header → Option HeaderKind
kind None = None
kind (Some h) = Some (kind_of_header h)

pub kind_of_line : (l : Line) → order.header_of (form_of l) ≡ kind (rule.header_of l)
kind_of_line (line.simple x) = refl
kind_of_line (line.header h) = refl
kind_of_line (line.header_simple h x) = refl

pub goes_on_is : (h : Option Header) → order.goes_on (kind h) ≡ rule.goes_on h
goes_on_is (Some (line.except n [])) = refl
goes_on_is _ = refl

pub is_except_is : (h : Option Header) → order.is_except (kind h) ≡ rule.is_except h
is_except_is (Some (line.except n [])) = refl
is_except_is _ = refl

pub is_try_is : (h : Option Header) → order.is_try (kind h) ≡ rule.is_try h
is_try_is (Some (line.except n [])) = refl
is_try_is _ = refl

pub is_catch_all_is : (h : Option Header) → order.is_catch_all (kind h) ≡ rule.is_catch_all h
is_catch_all_is (Some (line.except n [])) = refl
is_catch_all_is _ = refl

before_elif_is : (h : Option Header) → order.before_elif (kind h) ≡ rule.before_elif h
before_elif_is (Some (line.except n [])) = refl
before_elif_is _ = refl

before_else_is : (h : Option Header) → order.before_else (kind h) ≡ rule.before_else h
before_else_is (Some (line.except n [])) = refl
before_else_is _ = refl

before_except_is : (h : Option Header) → (order.is_try (kind h) || order.is_except (kind h)) ≡ (rule.is_try h || rule.is_except h)
before_except_is (Some (line.except n [])) = refl
before_except_is _ = refl

pub may_follow_is : (h g : Option Header) → order.may_follow (kind h) (kind g) ≡ rule.may_follow h g
may_follow_is h (Some (line.elif n e)) = before_elif_is h
may_follow_is h (Some (line.else n)) = before_else_is h
may_follow_is h (Some (line.except n [])) = before_except_is h
may_follow_is h (Some (line.except n (x ∷ xs))) = before_except_is h
may_follow_is h _ = refl

pub is_def_is : (h : Header) → around.is_def (kind_of_header h) ≡ rule.is_def h
is_def_is (line.except n []) = refl
is_def_is _ = refl

pub is_loop_is : (h : Header) → around.is_loop (kind_of_header h) ≡ rule.is_loop h
is_loop_is (line.except n []) = refl
is_loop_is _ = refl

pub is_handler_is : (h : Header) → around.is_handler (kind_of_header h) ≡ rule.is_handler h
is_handler_is (line.except n []) = refl
is_handler_is _ = refl
