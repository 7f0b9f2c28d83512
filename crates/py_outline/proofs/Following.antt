-- The lines behind a line that a pass from the last line to the first keeps.
use Rattle.std.proofs.Common.{◌≡◌, ℕ, ◌<◌, Bool, true, false, List, [], ◌∷◌, ◌++◌, Option, refl, sym, ap, arith, ◌∙◌, cond}
use Rattle.std.specs.Prelude.{nat_lt}
use Rattle.std.proofs.lemmas.Bool.{ltb-true, lt-ltb}
use Rattle.py_outline.specs.declared.outline.Outline.{Outline}
use Rattle.py_outline.specs.Lists.{first_item}
use Rattle.spec_syntax.specs.Placement.{smallest}
use Rattle.py_outline.specs.Orders.{awaits_block, from_next, past_block, block_faults, next_faults, order_faults}
use Rattle.py_outline.specs.Told.{least}
use Rattle.py_outline.proofs.Least.{least_comm, least_assoc, smallest-append}

-- Wherever a line may look in the lines os, it finds the same in the lines ks.
pub record Shows (ks os : List Outline) : Type 0 where
  pub next : first_item ks ≡ first_item os
  pub deeper : (d : ℕ) → first_item (from_next d ks) ≡ first_item (from_next d os)

-- the same behind the block of a line
pub shows_past : (o : Outline) (ks os : List Outline) → Shows ks os → first_item (past_block o ks) ≡ first_item (past_block o os)
shows_past o ks os s = by_block (awaits_block o.form)
  where
    by_block : (b : Bool) → first_item (cond b (from_next o.depth ks) ks) ≡ first_item (cond b (from_next o.depth os) os)
    by_block true = s.deeper o.depth
    by_block false = s.next

-- what is no deeper than d is no deeper than more
from_next_twice : (d e : ℕ) (ks : List Outline) → d < e → from_next d (from_next e ks) ≡ from_next d ks
from_next_twice d e [] lt = refl
from_next_twice d e (k ∷ ks) lt = one d e k ks lt (from_next_twice d e ks lt) (nat_lt e k.depth) refl
  where
    one : (d e : ℕ) (k : Outline) (ks : List Outline) → d < e → from_next d (from_next e ks) ≡ from_next d ks → (b : Bool) → nat_lt e k.depth ≡ b → from_next d (cond b (from_next e ks) (k ∷ ks)) ≡ from_next d (k ∷ ks)
    one d e k ks lt h true t = let deep = ltb-true e k.depth t in rw (lt-ltb d k.depth (omega arith)) h
    one d e k ks lt h false t = refl

-- what stands behind a line, in front of which it is kept
deeper_past : (d : ℕ) (o : Outline) (ks os : List Outline) → d < o.depth → Shows ks os → first_item (from_next d (past_block o ks)) ≡ first_item (from_next d os)
deeper_past d o ks os lt s = by_block (awaits_block o.form)
  where
    by_block : (b : Bool) → first_item (from_next d (cond b (from_next o.depth ks) ks)) ≡ first_item (from_next d os)
    by_block true = ap first_item (from_next_twice d o.depth ks lt) ∙ s.deeper d
    by_block false = s.deeper d

-- one more line, in front of those behind its block
pub shows_more : (o : Outline) (ks os : List Outline) → Shows ks os → Shows (o ∷ past_block o ks) (o ∷ os)
shows_more o ks os s = record { next = refl; deeper = λ d. at d (nat_lt d o.depth) refl }
  where
    at : (d : ℕ) (b : Bool) → nat_lt d o.depth ≡ b → first_item (cond b (from_next d (past_block o ks)) (o ∷ past_block o ks)) ≡ first_item (cond b (from_next d os) (o ∷ os))
    at d true t = deeper_past d o ks os (ltb-true d o.depth t) s
    at d false t = refl

-- what the pass tells at a line, where it told the smallest fault of those behind it
pub order_turn : (told : Option ℕ) (o : Outline) (ks os : List Outline) → told ≡ smallest (order_faults os) → Shows ks os
    → least (least told (smallest (block_faults o (first_item ks)))) (smallest (next_faults o (first_item (past_block o ks)))) ≡ smallest (order_faults (o ∷ os))
order_turn told o ks os e s =
    let b = smallest (block_faults o (first_item os)) in
    let n = smallest (next_faults o (first_item (past_block o os))) in
    let r = smallest (order_faults os) in
    let apart : smallest (order_faults (o ∷ os)) ≡ least b (least n r) = smallest-append (block_faults o (first_item os)) (next_faults o (first_item (past_block o os)) ++ order_faults os) ∙ ap (least b) (smallest-append (next_faults o (first_item (past_block o os))) (order_faults os)) in
    let first : least (least told (smallest (block_faults o (first_item ks)))) (smallest (next_faults o (first_item (past_block o ks)))) ≡ least (least r b) n = rw (s.next, shows_past o ks os s, e) refl in
    first ∙ least_assoc r b n ∙ least_comm r (least b n) ∙ least_assoc b n r ∙ sym apart
