-- What is to be shown of the piece that is found.
use Rattle.std.proofs.Common.{◌≡◌, ℕ, ◌≤◌, ◌⊎◌, List, take}
use Rattle.spec_tokens.specs.declared.Kind.{Kind}
use Rattle.spec_tokens.specs.declared.Kind.TheVariants.{Unknown}
use Rattle.spec_tokens.specs.Forms.{IsForm}
use Rattle.spec_tokens.specs.Cutting.{Front}

-- its letters are a form of its kind
abbrev pub IsFormed : List ℕ → Front → Type 0
IsFormed s x = IsForm x.0 (take x.1 s)

-- they are, or it is one unknown letter
abbrev pub IsFound : List ℕ → Front → Type 0
IsFound s x = IsFormed s x ⊎ ((x.0 ≡ Unknown) × (x.1 ≡ 1))

-- it has n letters at least, and the kind k where it has no more
abbrev pub Reaches : Kind → ℕ → Front → Type 0
Reaches k n x = (n ≤ x.1) × (n ≡ x.1 → x.0 ≡ k)
