-- The truth values of gates and literals under an assignment, which is a list of truth values for the inputs.
use Rattle.std.specs.Prelude.{Option, Some, None, is_some, nat_lt, ◌==◌, ◌≡◌, ◌<◌, ◌≤◌, ℕ, ◌+◌, Bool, true, false, not, ◌&&◌, List, [], ◌∷◌, ◌++◌, length, slice_index_or, unwrap_or, if◌then◌else◌}
use Rattle.std.specs.Bool.{beq}
use Rattle.std.specs.List.{position_or_len}
use Rattle.bit_gates.specs.declared.lit.Gate.{Gate}
use Rattle.bit_gates.specs.declared.lit.Gate.TheVariants as gate
use Rattle.bit_gates.specs.declared.lit.Lit.{Lit}

-- a literal is its gate or the negation of it
abbrev pub signed : Bool → Bool → Bool
signed positive v = if positive then v else not v

-- the value of a literal, where the gates before it have the values vs
abbrev pub value_in : List Bool → Lit → Bool
value_in vs a = signed a.positive (slice_index_or vs a.place false)

-- the value of a gate, where v gives the values of its operands
abbrev pub gate_meaning : (Lit → Bool) → List Bool → Gate → Bool
gate_meaning v bits gate.True = true
gate_meaning v bits (gate.Input i) = slice_index_or bits i false
gate_meaning v bits (gate.And a b) = v a && v b

-- the values of gates behind others with the values vs
abbrev pub values_onto : List Bool → List Bool → List Gate → List Bool
values_onto bits vs [] = vs
values_onto bits vs (g ∷ gates) = values_onto bits (vs ++ gate_meaning (value_in vs) bits g ∷ []) gates

-- the value of a literal of an arena under an assignment
unfoldable pub value_of : List Gate → List Bool → Lit → Bool
value_of gates bits a = value_in (values_onto bits [] gates) a

-- the gates that were there stand, and more behind them
pub record Extends (old new : List Gate) : Type 0 where
  pub more : List Gate
  pub is : new ≡ old ++ more

-- the operands of a gate are among the first n gates, and its input is one of so many
abbrev pub IsGateBelow : ℕ → ℕ → Gate → Type 0
IsGateBelow inputs n gate.True = Unit {0}
IsGateBelow inputs n (gate.Input i) = i < inputs
IsGateBelow inputs n (gate.And a b) = (a.place < n) × (b.place < n)

-- the operands of each gate are earlier gates; the first one has n gates before it
abbrev pub AreGatesFrom : ℕ → ℕ → List Gate → Type 0
AreGatesFrom inputs n [] = Unit {0}
AreGatesFrom inputs n (g ∷ gates) = IsGateBelow inputs n g × AreGatesFrom inputs (n + 1) gates

-- what holds of the gates behind True: operands come earlier, and each input has a gate of its own
pub record AreBehindTrue (inputs : ℕ) (gates : List Gate) : Type 0 where
  pub below : AreGatesFrom inputs 1 gates
  pub room : inputs ≤ length gates

-- what an arena holds: the gates, the first of which is True, and the number of inputs
pub record Arena : Type 0 where
  pub gates : List Gate
  pub inputs : ℕ

-- the negation of a literal
abbrev pub negated : Lit → Lit
negated a = record a { positive = not a.positive }

-- equal literals
abbrev pub same_lit : Lit → Lit → Bool
same_lit a b = a.place == b.place && beq a.positive b.positive

-- the literal of a truth value
abbrev pub lit_of : Bool → Lit
lit_of v = record { place = 0; positive = v }

-- The conjunction of two literals where no gate is needed: of a constant, of equal literals, of a literal and its negation.
abbrev pub folded : Lit → Lit → Option Lit
folded a b = if a.place == 0 then Some (if a.positive then b else lit_of false) else (if b.place == 0 then Some (if b.positive then a else lit_of false) else (if a.place == b.place then Some (if beq a.positive b.positive then a else lit_of false) else None))

-- the gate of two literals, the earlier place first
abbrev pub and_gate : Lit → Lit → Gate
and_gate a b = if nat_lt a.place b.place then gate.And a b else gate.And b a

-- equal gates
abbrev pub same_gate : Gate → Gate → Bool
same_gate gate.True gate.True = true
same_gate (gate.Input i) (gate.Input j) = i == j
same_gate (gate.And a b) (gate.And c d) = same_lit a c && same_lit b d
same_gate g h = false

-- where that gate stands, or else the next free place
abbrev pub and_place : List Gate → Lit → Lit → ℕ
and_place gates a b = position_or_len (same_gate (and_gate a b)) gates

-- the conjunction of two literals
abbrev pub and_lit : List Gate → Lit → Lit → Lit
and_lit gates a b = unwrap_or (folded a b) (record { place = and_place gates a b; positive = true })

-- the gates with one more, where its place is the next free one
abbrev pub placed : List Gate → ℕ → Gate → List Gate
placed gates place g = if place == length gates then gates ++ g ∷ [] else gates

-- the gates with that of the conjunction of two literals
abbrev pub and_gates : List Gate → Lit → Lit → List Gate
and_gates gates a b = if is_some (folded a b) then gates else placed gates (and_place gates a b) (and_gate a b)
