use Rattle.std.proofs.Common.{rules, ◌≡◌, ◌∙◌, ℕ, ◌+◌, ◌-◌, List, Option, None, Some, length, map, replicate, slice_set, ap, arith}
use Rattle.module_classes.proofs.Found.{class_there}
use Rattle.type_names.proofs.Named.{no_numbers, numbers_from, one_number_more}
use Rattle.type_names.proofs.numbers.class_numbers.Goals as goal

pub loop-behind-init : goal.loop-behind-init
loop-behind-init c =
    let m = c.args.module.now in
    let none : c.in_ok-numbers.numbers.items ≡ replicate (length m.names) None = search (rules, c.in_ok-numbers.ensures.items_if_clones_equal, c.names_count.ensures.count) in
    (none ∙ no_numbers m c.args.classes.now m.names (length c.args.classes.now) (omega arith), omega arith)

pub name-name-requires : goal.name-name-requires
name-name-requires c = class_there c.args.module.now c.args.classes.now (c.loop-behind.behind - 1) _ c.requires (omega (arith, c.loop-behind-test.true, c.loop-behind.invariant.1))

pub loop-behind-preserved : goal.loop-behind-preserved
loop-behind-preserved c =
    let m = c.args.module.now in
    let i : ℕ = c.loop-behind.behind - 1 in
    let back : c.loop-behind.behind ≡ i + 1 = omega (arith, c.loop-behind-test.true) in
    let so_far : c.loop-behind.numbers.items ≡ map (numbers_from m c.args.classes.now (i + 1)) m.names = c.loop-behind.invariant.0 ∙ ap (λ (k : ℕ). map (numbers_from m c.args.classes.now k) m.names) back in (
      ap (λ (v : List (Option ℕ)). slice_set v c.name-name.result.index (Some i)) so_far
          ∙ one_number_more m c.args.classes.now i _ c.name-name.result.index c.names_count.ensures.«module».distinct (omega (arith, c.loop-behind-test.true, c.loop-behind.invariant.1)) c.name-name.ensures.below c.name-name.ensures.text,
      omega (arith, c.loop-behind.invariant.1),
    )
