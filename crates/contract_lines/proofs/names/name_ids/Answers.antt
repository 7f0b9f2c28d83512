use Rattle.std.proofs.Common.{◌∙◌, ◌++◌, ◌∷◌, [], List, ℕ, length, map, take, refl, sym, ap, subst}
use Rattle.std.proofs.lemmas.List.{take_more}
use Rattle.py_tree.specs.Names.{AreNamesBelow, text_of}
use Rattle.contract_lines.proofs.Growth.{grows_same, grows_then}
use Rattle.contract_lines.proofs.Later.{ids_push}
use Rattle.contract_lines.proofs.names.name_ids.Goals as goal

pub loop-name-init : goal.loop-name-init
loop-name-init c = (grows_same c.args.into.now c.names_count.ensures.«module», rw c.new-ids.ensures.items tt, rw c.new-ids.ensures.items refl)

pub loop-name-preserved : goal.loop-name-preserved
loop-name-preserved c =
    let added = c.in_ok-add_name.ensures {u = tt} in
    let grown = c.add_name.ensures.grown in
    let ids = ids_push c.loop-name.into c.add_name.new.into grown.extends c.loop-name.ids.items c.in_ok-add_name.field-0 c.loop-name.invariant.1 added.there in
    let items = (c.in_ok-push.ensures {u = tt}).items in (
      grows_then c.args.into.now c.loop-name.into c.add_name.new.into c.loop-name.invariant.0 grown,
      subst (AreNamesBelow (length c.add_name.new.into.names)) (sym items) ids.0,
      ap (map (text_of c.add_name.new.into.names)) items ∙ ids.1 ∙ ap (λ (v : List (List ℕ)). v ++ text_of c.add_name.new.into.names c.in_ok-add_name.field-0 ∷ []) c.loop-name.invariant.2 ∙ ap (λ (t : List ℕ). take c.loop-name.name-index c.args.names.now ++ t ∷ []) (added.text ∙ c.as_str.ensures ∙ c.name-item.is) ∙ sym (take_more c.args.names.now c.loop-name.name-index _ c.loop-name-test.true),
    )
