use Rattle.std.proofs.Common.{◌≡◌, ◌∙◌, ◌++◌, ◌∷◌, [], ℕ, List, Option, Some, ap, arith, get_or, map, slice_get, sym, take}
use Rattle.spec_uses.specs.declared.Meaning.{Meaning}
use Rattle.spec_types.specs.declared.TypeName.{TypeName}
use Rattle.spec_types.specs.Classes.{ClassOf, class_number, number_from}
use Rattle.spec_types.specs.Names.{type_name}
use Rattle.spec_uses.specs.Meanings.{meaning_in}
use Rattle.py_tree.specs.Arena.{module_tree}
use Rattle.type_names.proofs.Named.{one_type_more}
use Rattle.type_names.proofs.table.type_names.Goals as goal

pub loop-index-preserved : goal.loop-index-preserved
loop-index-preserved c =
    let m = c.args.module.now in
    let b = (module_tree m).body in
    let i : ℕ = c.loop-index.index in
    let meanings : slice_get (map (meaning_in b) m.names) i ≡ Some c.get.result = ap (λ (v : List Meaning). slice_get v i) (sym c.requires.meanings) ∙ c.get.ensures in
    let numbers : c.in_ok-numbers.numbers.items ≡ map (class_number b) m.names = c.in_ok-numbers.ensures {u = tt} ∙ ap (λ (cs : List ClassOf). map (number_from 0 cs) m.names) c.requires.classes in
    let number = c.index.ensures ∙ ap (λ (v : List (Option ℕ)). get_or v i c.index.result.now) numbers in
    (c.in_ok-push.ensures {u = tt}).items
    ∙ ap (λ (v : List TypeName). v ++ c.type_meant.result ∷ []) c.loop-index.invariant
    ∙ ap (λ (t : TypeName). map (type_name b) (take i m.names) ++ t ∷ []) c.type_meant.ensures
    ∙ one_type_more b m.names i c.name_text-text.result.now c.get.result c.index.result.now (omega (arith, c.names_count-index-end.ensures.count)) c.name_text-text.ensures.text meanings number
