-- Strings and their texts.
use Rattle.std.proofs.Common.{◌≡◌, ℕ, zero, suc, List, Option, Result, refl, sym, subst}
use Rattle.std.specs.Prelude.{IsUtf8, IfOk, chars, encode_utf8_all}
use Rattle.std.proofs.lemmas.Str.{chars_from_encodes}
use Rattle.xh_outside.specs.declared.errors.NoMemory.{NoMemory}
use Rattle.spec_trees.specs.Expr.{StringPart}
use Rattle.spec_trees.specs.Stmt.{TypeExpr}
use Rattle.spec_types.specs.Quotes.{held_type}
use Rattle.py_tree.specs.declared.ids.TypeId.{TypeId}
use Rattle.py_tree.specs.Arena.{State}
use Rattle.unquoted_types.specs.Given.{GivesType, held_in}

pub text_is : (bs cs : List ℕ) → IsUtf8 bs → bs ≡ encode_utf8_all cs → chars bs ≡ cs
text_is bs cs u e = sym (chars_from_encodes cs bs u (sym e))

held_by_part : (b : ℕ) (p : StringPart) (s : List ℕ) → s ≡ p.value → held_in b p.line s ≡ held_type b p
held_by_part zero p s e = refl
held_by_part (suc k) p s e = rw e refl

-- what a string holds is what its text does
pub part_held : (m : State) (r : Result (Option TypeId) NoMemory) (b : ℕ) (p : StringPart) (s : List ℕ) → s ≡ p.value → IfOk r (λ o. GivesType m o (held_in b p.line s)) → IfOk r (λ o. GivesType m o (held_type b p))
part_held m r b p s e h = subst (λ (x : Option TypeExpr). IfOk r (λ o. GivesType m o x)) (held_by_part b p s e) h
