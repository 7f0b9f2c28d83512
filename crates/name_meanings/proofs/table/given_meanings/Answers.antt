use Rattle.std.proofs.Common.{◌∙◌, ◌++◌, ◌∷◌, [], List, arith, ap, sym, map, take}
use Rattle.std.proofs.lemmas.List.{map-append, take_more}
use Rattle.std.proofs.lemmas.Option.{get_or_from_slice_get}
use Rattle.spec_uses.specs.Meanings.{given_as}
use Rattle.spec_uses.specs.declared.Meaning.{Meaning}
use Rattle.name_meanings.proofs.table.given_meanings.Goals as goal

pub loop-index-preserved : goal.loop-index-preserved
loop-index-preserved c =
    let names = c.args.module.now.names in
    let text = get_or_from_slice_get names c.loop-index.index c.name_text.result.now [] c.name_text.ensures.text in
    (c.in_ok-push.ensures {u = tt}).items
    ∙ ap (λ (v : List Meaning). v ++ c.given_meaning.result ∷ []) c.loop-index.invariant
    ∙ ap (λ (m : Meaning). map given_as (take c.loop-index.index names) ++ m ∷ []) (c.given_meaning.ensures ∙ ap given_as (sym text))
    ∙ sym (ap (map given_as) (take_more names c.loop-index.index [] (omega (arith, c.names_count-index-end.ensures.count))) ∙ map-append given_as (take c.loop-index.index names) _)
