use Rattle.std.proofs.Common.{◌≡◌, ◌∙◌, length, map}
use Rattle.std.specs.List.{flat_map, range_with_len}
use Rattle.spec_types.specs.Needs.{edges, named_by}
use Rattle.spec_types.specs.Reached.{is_reached}
use Rattle.given_types.specs.Giving.{all_given, signature_in}
use Rattle.type_needs.proofs.Needing.{all_marks, have_given, have_marks, lists_of, told_by_marks}
use Rattle.type_needs.proofs.untyped.told_of_needs.Goals as goal

pub told_of_signatures-requires : goal.told_of_signatures-requires
told_of_signatures-requires c =
    let m = c.args.module.now in
    let lists = c.deref.result.now in
    let found = c.deref-2.result.now in
    let led : lists_of lists ≡ edges (all_given m c.args.taken.now) = rw c.deref.ensures.value c.in_ok-edges.ensures in
    let seeded : found ≡ flat_map named_by (map (signature_in m) c.args.signatures.now) = c.deref-2.ensures.value ∙ c.in_ok-seeds.ensures in
    let all : c.deref-3.result.now ≡ map (is_reached (lists_of lists) found) (range_with_len 0 (length lists)) = c.deref-3.ensures.value ∙ c.in_ok-marks.ensures in
    have_marks m (length c.args.taken.now) c.args.signatures.now c.requires.signatures c.deref-3.result.now (all_marks m c.args.taken.now lists led c.args.signatures.now found seeded c.deref-3.result.now all)

pub returns : goal.returns
returns c =
    let m = c.args.module.now in
    let lists = c.deref.result.now in
    let found = c.deref-2.result.now in
    let led : lists_of lists ≡ edges (all_given m c.args.taken.now) = rw c.deref.ensures.value c.in_ok-edges.ensures in
    let seeded : found ≡ flat_map named_by (map (signature_in m) c.args.signatures.now) = c.deref-2.ensures.value ∙ c.in_ok-seeds.ensures in
    let all : c.deref-3.result.now ≡ map (is_reached (lists_of lists) found) (range_with_len 0 (length lists)) = c.deref-3.ensures.value ∙ c.in_ok-marks.ensures in
    told_by_marks m c.args.taken.now lists led c.args.signatures.now found seeded c.deref-3.result.now all c.requires.signatures c.args.told c.told_of_signatures.result (c.told_of_signatures.ensures m (have_given m (length c.args.taken.now) c.args.signatures.now c.requires.signatures))
