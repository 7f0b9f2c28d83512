use Rattle.std.proofs.Common.{rules, arith, ◌≡◌, ◌∙◌, ◌<◌, ℕ, ◌+◌, ◌-◌, List, Option, None, Some, length, map, replicate, slice_set, ap}
use Rattle.std.proofs.lemmas.List.{length-set}
use Rattle.py_program.proofs.Named.{no_numbers, number_here, numbers_from}
use Rattle.py_program.proofs.numbers.first_numbers.Goals as goal

pub loop-behind-init : goal.loop-behind-init
loop-behind-init c =
    let names = c.args.module.now.names in
    let none : c.in_ok-numbers.numbers.items ≡ replicate (length names) None = search (rules, c.in_ok-numbers.ensures.items_if_clones_equal, c.names_count.ensures.count) in
    record {
      numbers = none ∙ no_numbers names c.args.listed.now (length c.args.listed.now) (omega arith);
      size = omega (arith, c.in_ok-numbers.ensures.len, c.names_count.ensures.count);
      place = omega arith;
    }

pub loop-behind-preserved-in-Some : goal.loop-behind-preserved-in-Some
loop-behind-preserved-in-Some c =
    let names = c.args.module.now.names in
    let listed = c.args.listed.now in
    let i : ℕ = c.loop-behind.behind - 1 in
    let back : c.loop-behind.behind ≡ i + 1 = omega (arith, c.loop-behind-test.true) in
    let within : i < length listed = omega (arith, c.loop-behind-test.true, c.loop-behind.invariant.place) in
    let below : c.in-Some.name.index < length names = rw c.in-Some.is at (c.requires i None within) in
    let so_far : c.loop-behind.numbers.items ≡ map (numbers_from names listed (i + 1)) names = c.loop-behind.invariant.numbers ∙ ap (λ (k : ℕ). map (numbers_from names listed k) names) back in
    record {
      numbers = ap (λ (v : List (Option ℕ)). slice_set v c.in-Some.name.index (Some i)) so_far ∙ number_here names listed i None within c.in-Some.name c.names_count.ensures.«module».distinct below c.in-Some.is;
      size = length-set c.loop-behind.numbers.items c.in-Some.name.index (Some i) ∙ c.loop-behind.invariant.size;
      place = omega (arith, c.loop-behind.invariant.place);
    }
