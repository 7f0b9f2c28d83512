use Rattle.std.proofs.Common.{◌∙◌, ℕ, List, arith, ap, map}
use Rattle.py_tree.specs.Names.{text_of}
use Rattle.name_meanings.specs.Tables.{with_names}
use Rattle.name_meanings.proofs.Tables.{set_more, texts_more}
use Rattle.name_meanings.proofs.table.set_all.Goals as goal

pub loop-i-preserved : goal.loop-i-preserved
loop-i-preserved c =
    let names = c.args.module.now.names in (
      c.set.ensures.size,
      λ f e. c.set.ensures.set _ (c.loop-i.invariant.1 f e) ∙ set_more f c.args.meaning _ names (text_of names c.names_get.result)
          ∙ ap (λ (ts : List (List ℕ)). map (with_names ts c.args.meaning f) names) (texts_more names _ c.loop-i.i c.names_get.result (omega (arith, c.names_len-i-end.ensures)) c.names_get.ensures.name),
    )
