use Rattle.std.proofs.Common.{◌≡◌, ◌∙◌, ℕ, ◌<◌, ◌≤◌, List, [], arith, ap, sym, subst, length, map, get_or}
use Rattle.std.specs.List.{range_with_len}
use Rattle.std.proofs.lemmas.List.{length-map}
use Rattle.std.proofs.lemmas.Grind.{get_or_default_zero}
use Rattle.spec_types.specs.Reached.{is_reached, successors}
use Rattle.reached_nodes.specs.Visits.{IsSearch, Visits}
use Rattle.reached_nodes.proofs.Visiting.{queue_within}
use Rattle.reached_nodes.proofs.Rounds.{found_all, found_first, found_more, lists_of, successors_of}
use Rattle.reached_nodes.proofs.breadth.reached.Goals as goal

pub loop-next-init : goal.loop-next-init
loop-next-init c =
    let lists = lists_of c.args.edges.now in
    let queue = c.visit_all.new.self.queue.items in
    let size : length c.in_ok-search.search.marks.items ≡ length c.args.edges.now = c.in_ok-search.ensures.search.size in
    let sizes : length c.in_ok-search.search.marks.items ≡ length lists = size ∙ sym (length-map c.args.edges.now (λ e. e.items)) in (
      subst (λ (n : ℕ). IsSearch n c.visit_all.new.self.marks.items queue) size c.in_ok-visit_all.ensures.search,
      found_first lists c.args.seeds.now queue (subst (λ (n : ℕ). Visits n c.args.seeds.now [] queue) sizes (subst (λ (old : List ℕ). Visits (length c.in_ok-search.search.marks.items) c.args.seeds.now old queue) c.in_ok-search.ensures.none c.in_ok-visit_all.ensures.visits)),
    )

pub loop-next-smaller : goal.loop-next-smaller
loop-next-smaller c =
    let s = c.loop-next.search in
    let within : length s.queue.items ≤ length c.args.edges.now = queue_within (length c.args.edges.now) s.marks.items s.queue.items c.loop-next.invariant.0 in
    let before : c.loop-next.next < length s.queue.items = omega (arith, c.loop-next-test.true, c.len.ensures) in
    omega (arith, within, before)

pub loop-next-preserved : goal.loop-next-preserved
loop-next-preserved c =
    let lists = lists_of c.args.edges.now in
    let s = c.loop-next.search in
    let queue = c.visit_all-in-loop-next.new.self.queue.items in
    let size : length s.marks.items ≡ length c.args.edges.now = c.loop-next.invariant.0.size in
    let sizes : length s.marks.items ≡ length lists = size ∙ sym (length-map c.args.edges.now (λ e. e.items)) in
    let before : c.loop-next.next < length s.queue.items = omega (arith, c.loop-next-test.true, c.len.ensures) in
    let node : c.index-node.result.now ≡ get_or s.queue.items c.loop-next.next 0 = c.index-node.ensures ∙ get_or_default_zero s.queue.items c.loop-next.next c.index-node.result.now before in
    let there : c.index-node.result.now < length c.args.edges.now = rw node (c.loop-next.invariant.0.within c.loop-next.next 0 before) in
    let nodes : c.deref.result.now ≡ successors lists (get_or s.queue.items c.loop-next.next 0) = c.deref.ensures.value ∙ successors_of c.args.edges.now c.index-node.result.now c.index-edges-node.result there c.index-edges-node.is ∙ ap (successors lists) node in (
      subst (λ (n : ℕ). IsSearch n c.visit_all-in-loop-next.new.self.marks.items queue) size c.in_ok-visit_all-2.ensures.search,
      found_more lists c.args.seeds.now s.queue.items queue c.loop-next.next c.loop-next.invariant.1 before
          (subst (λ (n : ℕ). Visits n (successors lists (get_or s.queue.items c.loop-next.next 0)) s.queue.items queue) sizes (subst (λ (these : List ℕ). Visits (length s.marks.items) these s.queue.items queue) nodes c.in_ok-visit_all-2.ensures.visits)),
    )

pub returns : goal.returns
returns c =
    let lists = lists_of c.args.edges.now in
    let s = c.loop-next.search in
    let same : length lists ≡ length c.args.edges.now = length-map c.args.edges.now (λ e. e.items) in
    let within : length s.queue.items ≤ length lists = omega (arith, same, queue_within (length c.args.edges.now) s.marks.items s.queue.items c.loop-next.invariant.0) in
    let end : length s.queue.items ≤ c.loop-next.next = omega (arith, c.loop-next-test.false, c.len.ensures) in
    found_all lists c.args.seeds.now s.queue.items c.loop-next.next c.loop-next.invariant.1 end s.marks.items (subst (λ (n : ℕ). IsSearch n s.marks.items s.queue.items) (sym same) c.loop-next.invariant.0) within
    ∙ ap (λ (n : ℕ). map (is_reached lists c.args.seeds.now) (range_with_len 0 n)) same
