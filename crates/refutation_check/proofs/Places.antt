-- What stands at the places of lists.
use Rattle.std.proofs.Common.{◌≡◌, ℕ, true, List, length, get_or, sym, subst, Contains, nat_lt}
use Rattle.std.proofs.lemmas.Bool.{ltb-true}
use Rattle.refutation_check.specs.declared.slots.Slot.{Slot}

-- a slot that was read stands there
pub slot_there : (slots read : List Slot) (i : ℕ) (s t : Slot) → read ≡ slots → true ≡ nat_lt i (length read) → s ≡ get_or read i s → s ≡ t → Contains slots t
slot_there slots read i s t e lt at u =
    let P : List Slot → Type 0 = λ x. Contains x t in
    let Q : Slot → Type 0 = λ x. Contains read x in
    let there : Contains read s = (i, ltb-true i (length read) (sym lt), sym at) in
    subst P e (subst Q u there)
