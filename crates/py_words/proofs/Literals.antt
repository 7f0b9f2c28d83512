-- Strings that stand one behind the other.
use Rattle.std.proofs.Common.{◌≡◌, List, [], ◌∷◌, ◌++◌, map, None, refl}
use Rattle.std.proofs.lemmas.List.{map-append}
use Rattle.spec_trees.specs.Expr.{StringPart}
use Rattle.spec_grammar.specs.Words.{Word, Name, Int, Str, Sign}
use Rattle.spec_grammar.specs.Reading.{strings_onto}
use Rattle.py_tree.specs.declared.exprs.StrPart.{StrPart}
use Rattle.py_tree.specs.Exprs.{part_tree}
use Rattle.py_words.specs.Found.{first_string}

-- a string behind strings
onto_next : (ps : List StringPart) (p : StringPart) (r : List Word) → strings_onto (ps ++ p ∷ []) r ≡ strings_onto ps (Str p ∷ r)
unfolding strings_onto
onto_next ps p r = refl

-- a part behind parts
pub strings_more : (before after : List StrPart) (p : StrPart) (s r : List Word) → after ≡ before ++ p ∷ [] → s ≡ Str (part_tree p) ∷ r → strings_onto (map part_tree after) r ≡ strings_onto (map part_tree before) s
strings_more before after p s r grown found = rw (grown, found, map-append part_tree before (p ∷ [])) (onto_next (map part_tree before) (part_tree p) r)

-- no string more
pub strings_end : (ps : List StringPart) (s : List Word) → first_string s ≡ None → (ps, s) ≡ strings_onto ps s
unfolding strings_onto
strings_end ps [] e = refl
strings_end ps (Name n x ∷ s) e = refl
strings_end ps (Int n v ∷ s) e = refl
strings_end ps (Str p ∷ s) e = absurd cc
strings_end ps (Sign n m ∷ s) e = refl
