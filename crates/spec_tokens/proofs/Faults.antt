-- What holds where no refusal is told: no piece has a fault.
use Rattle.std.proofs.Common.{◌≡◌, ℕ, Bool, true, false, cond, List, [], ◌∷◌, ◌++◌, drop, Option, Some, None, Ok, refl}
use Rattle.std.specs.Prelude.{⊤}
use Rattle.spec_tokens.specs.declared.Fault.{Fault}
use Rattle.spec_tokens.specs.declared.Piece.{Piece}
use Rattle.spec_tokens.specs.declared.Refusal.{Refusal}
use Rattle.spec_tokens.specs.Pieces.{spelling}
use Rattle.spec_tokens.specs.Refusals.{is_before, earlier, first_of, fault_of, told, letter_refusals, piece_refusals}
use Rattle.spec_tokens.specs.Tokens.{Scan, answer, refusals}

-- a piece has no fault
abbrev pub IsFaultless : List ℕ → Piece → Type 0
IsFaultless letters p = fault_of p.kind (spelling letters p) (drop p.end letters) ≡ None

-- no piece has a fault
abbrev pub AreFaultless : List ℕ → List Piece → Type 0
AreFaultless letters [] = ⊤
AreFaultless letters (p ∷ ps) = IsFaultless letters p × AreFaultless letters ps

-- where a scan is the answer, no refusal is the first, and the scan is that one
pub answer_scan : (o : Option Refusal) (a s : Scan) → answer o a ≡ Ok s → (o ≡ None) × (a ≡ s)
answer_scan None a s h = (refl, cc)
answer_scan (Some r) a s h = absurd cc

-- of a refusal and others one is the first
earlier_some : (r : Refusal) (o : Option Refusal) → earlier (Some r) o ≡ None → ⊥
earlier_some r None h = cc
earlier_some r (Some q) h = at (is_before q r) h
  where
    at : (b : Bool) → cond b (Some q) (Some r) ≡ None → ⊥
    at true e = cc
    at false e = cc

-- where none is the first, there are no refusals
first_none : (rs : List Refusal) → first_of rs ≡ None → rs ≡ []
first_none [] h = refl
first_none (r ∷ rs) h = absurd (earlier_some r (first_of rs) h)

-- no refusals are told before others only where there are none of either
append_none : (rs qs : List Refusal) → rs ++ qs ≡ [] → (rs ≡ []) × (qs ≡ [])
append_none [] qs h = (refl, h)
append_none (r ∷ rs) qs h = absurd cc

-- where no refusal of a fault and others is told, there is no fault and no other
told_none : (o : Option Fault) (line : ℕ) (rs : List Refusal) → told o line rs ≡ [] → (o ≡ None) × (rs ≡ [])
told_none None line rs h = (refl, h)
told_none (Some f) line rs h = absurd cc

-- where no refusal of a piece is told, none has a fault
pieces_faultless : (letters : List ℕ) (ps : List Piece) → piece_refusals letters ps ≡ [] → AreFaultless letters ps
unfolding piece_refusals
pieces_faultless letters [] h = tt
pieces_faultless letters (p ∷ ps) h =
    let both = told_none (fault_of p.kind (spelling letters p) (drop p.end letters)) p.line (piece_refusals letters ps) h in
    (both.0, pieces_faultless letters ps both.1)

-- where no refusal is the first, no piece has a fault
pub none_faultless : (letters : List ℕ) (ps : List Piece) → first_of (refusals letters ps) ≡ None → AreFaultless letters ps
none_faultless letters ps h =
    let behind = (append_none (letter_refusals 1 letters) _ (first_none (refusals letters ps) h)).1 in
    pieces_faultless letters ps (append_none (piece_refusals letters ps) _ behind).0
