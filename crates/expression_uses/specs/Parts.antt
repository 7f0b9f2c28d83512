-- The uses in the parts of expressions.
use Rattle.std.specs.Prelude.{ℕ, ◌&&◌, List, [], ◌++◌, Option, if◌then◌else◌}
use Rattle.spec_trees.specs.Expr.{Expr, list, dict, comprehension, index, slice, prefixed, binary, chain, choice}
use Rattle.spec_names.specs.declared.builtins.Builtin.{Builtin}
use Rattle.spec_names.specs.declared.ProfileFault.TheVariants.{Form}
use Rattle.spec_names.specs.declared.Refusal.{Refusal}
use Rattle.spec_names.specs.Refusals.{refused_if}
use Rattle.spec_uses.specs.declared.Place.TheVariants.{Read}
use Rattle.spec_uses.specs.Meanings.{Scope}
use Rattle.spec_uses.specs.Expressions.{is_class, is_isinstance, stands_for, uses, uses_in, uses_in_bound, uses_in_generator, uses_in_links, uses_in_pairs}

-- the parts of an expression that is no name, attribute, call or expression in brackets
abbrev pub uses_in_parts : Scope → Expr → List Refusal
uses_in_parts s (list n es) = uses_in s es
uses_in_parts s (dict n ps) = uses_in_pairs s ps
uses_in_parts s (comprehension n g) = uses_in_generator s n g
uses_in_parts s (index n e i) = uses Read s e ++ uses Read s i
uses_in_parts s (slice n e a b) = uses Read s e ++ uses_in_bound s a ++ uses_in_bound s b
uses_in_parts s (prefixed n o e) = uses Read s e
uses_in_parts s (binary n o a b) = uses Read s a ++ uses Read s b
uses_in_parts s (chain n e ls) = uses Read s e ++ uses_in_links s ls
uses_in_parts s (choice n a c b) = uses Read s a ++ uses Read s c ++ uses Read s b
uses_in_parts s e = []

-- the second argument of a call, which is the class of an `isinstance`
abbrev pub uses_in_second : Scope → ℕ → Option Builtin → Expr → List Refusal
uses_in_second s n b c = if is_isinstance b && is_class (stands_for s c) then [] else (refused_if (is_isinstance b) n Form ++ uses Read s c)
