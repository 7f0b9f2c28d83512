-- What is forced by forced literals is forced.
use Rattle.std.proofs.Common.{◌≡◌, ◌≢◌, ℕ, ◌+◌, Bool, true, false, cond, List, ◌++◌, take, arith, refl, sym, subst, ◌∙◌, inl, inr, ◌⊎◌, Contains, Some, None, map, nat_eq}
use Rattle.std.proofs.lemmas.Bool.{eq-eqb, eqb-true}
use Rattle.std.proofs.lemmas.List.Elements.{Contains-append_left, Contains-append_right, Contains-append_cases, All-contains}
use Rattle.std.specs.List.{All}
use Rattle.refutation_check.specs.declared.lit.SatLit.{SatLit}
use Rattle.refutation_check.specs.declared.slots.Slots.{Slots}
use Rattle.refutation_check.specs.declared.slots.Slot.{Slot}
use Rattle.refutation_check.specs.declared.slots.Slot.TheVariants as slot
use Rattle.refutation_check.specs.Truth.{negated}
use Rattle.refutation_check.specs.Propagation.{IsForced, is_given, is_unit, IsConflict, clause_fails, literal_fails, AreForced}
use Rattle.refutation_check.specs.Told.{IsKept, IsTold, IsLast, IsDenied, kept_of, kept_in, told_of, told_in}
use Rattle.refutation_check.specs.Refutations.{Follows}
use Rattle.refutation_check.proofs.Lists.{contains_filtered, filtered_contains, contains_take}
use Rattle.refutation_check.proofs.Models.{map_contains}

module _ (clauses : List (List SatLit)) (given : List SatLit) where
  -- what is forced by forced literals is forced
  pub forced_cut : (more : List SatLit) → ((l : SatLit) → Contains more l → IsForced clauses given l) → (l : SatLit) → IsForced clauses more l → IsForced clauses given l
  forced_cut more h _ (is_given l t) = h l t
  forced_cut more h _ (is_unit l c t u others) = is_unit l c t u (λ k s ne. forced_cut more h (negated k) (others k s ne))

  -- and so is a conflict
  pub conflict_cut : (more : List SatLit) → ((l : SatLit) → Contains more l → IsForced clauses given l) → IsConflict clauses more → IsConflict clauses given
  conflict_cut more h (clause_fails c t fails) = clause_fails c t (λ k s. forced_cut more h (negated k) (fails k s))
  conflict_cut more h (literal_fails l f g) = literal_fails l (forced_cut more h l f) (forced_cut more h (negated l) g)

  module _ (s : Slots) (h : (l : SatLit) → IsTold s l → IsForced clauses given l) where
    -- the last literal of a clause is forced
    pub last_forced : (c : List SatLit) (l : SatLit) → Contains clauses c → IsLast s c l → IsForced clauses given l
    last_forced c l t u = is_unit l c t u.there (λ k v ne. h (negated k) (All-contains (λ (k : SatLit). k ≢ l → IsTold s (negated k)) c k u.others v ne))

    -- and a clause without one is a conflict
    pub none_fails : (c : List SatLit) → Contains clauses c → All (λ k. IsTold s (negated k)) c → IsConflict clauses given
    none_fails c t u = clause_fails c t (λ k v. h (negated k) (All-contains (λ (k : SatLit). IsTold s (negated k)) c k u v))

-- a literal that is kept is one of those that are kept
pub kept_listed : (s : Slots) (l : SatLit) → IsKept s l → Contains (kept_in s) l
kept_listed s l t = contains_filtered kept_of s.slots.items (slot.Kept l) l t refl

-- a literal that is told is one of those that are told
pub told_listed : (s : Slots) (l : SatLit) → IsTold s l → Contains (told_in s) l
told_listed s l (inl t) = contains_filtered (told_of s.round) s.slots.items (slot.Kept l) l t refl
told_listed s l (inr t) = contains_filtered (told_of s.round) s.slots.items (slot.Noted l s.round) l t (rw (eq-eqb s.round s.round refl) refl)

-- a literal that is listed as kept is
pub listed_kept : (s : Slots) (l : SatLit) → Contains (kept_in s) l → IsKept s l
listed_kept s l c = let f = filtered_contains kept_of s.slots.items l c in by f.0 f.1 f.2
  where
    by : (x : Slot) → Contains s.slots.items x → kept_of x ≡ Some l → IsKept s l
    by slot.Free t e = cc
    by (slot.Kept k) t e = let P : SatLit → Type 0 = λ m. Contains s.slots.items (slot.Kept m) in let u : k ≡ l = cc in subst P u t
    by (slot.Noted k r) t e = cc

-- a literal that is listed as told is
pub listed_told : (s : Slots) (l : SatLit) → Contains (told_in s) l → IsTold s l
listed_told s l c = let f = filtered_contains (told_of s.round) s.slots.items l c in by f.0 f.1 f.2
  where
    noted : (k : SatLit) (r : ℕ) (b : Bool) → nat_eq r s.round ≡ b → Contains s.slots.items (slot.Noted k r) → cond b (Some k) None ≡ Some l → IsTold s l
    noted k r true h t e =
        let u : k ≡ l = cc in
        let w : r ≡ s.round = eqb-true r s.round h in
        let P : Slot → Type 0 = λ m. Contains s.slots.items m in
        inr (subst P (λ j. slot.Noted (u j) (w j)) t)
    noted k r false h t e = cc

    by : (x : Slot) → Contains s.slots.items x → told_of s.round x ≡ Some l → IsTold s l
    by slot.Free t e = cc
    by (slot.Kept k) t e = let P : SatLit → Type 0 = λ m. Contains s.slots.items (slot.Kept m) in let u : k ≡ l = cc in inl (subst P u t)
    by (slot.Noted k r) t e = noted k r (nat_eq r s.round) refl t e

-- what is left of slots where the negations of a clause's literals are noted
pub record HasDenied (old new : Slots) (clause : List SatLit) : Type 0 where
  pub kept : (l : SatLit) → IsKept new l → IsKept old l
  pub told : (l : SatLit) → IsTold new l → IsTold old l ⊎ Contains (map negated clause) l

-- one more literal
pub denied_next : (old mid new : Slots) (clause : List SatLit) (k m : SatLit) → Contains clause k → m ≡ negated k → HasDenied old mid clause → ((l : SatLit) → IsKept new l → IsKept mid l) → ((l : SatLit) → IsTold new l → IsTold mid l ⊎ (m ≡ l)) → HasDenied old new clause
denied_next old mid new clause k m t n h kept told =
    let P : SatLit → Type 0 = λ l. Contains (map negated clause) l in
    record {
      kept = λ l u. h.kept l (kept l u);
      told = λ l u. elim (told l u) [ inl o ↦ h.told l o | inr e ↦ inr (subst P (sym n ∙ e) (map_contains clause k t)) ];
    }

-- a literal that is told where its negation was noted
pub denied_told : (old new : Slots) (clause : List SatLit) (k : SatLit) → Contains clause k → HasDenied old new clause → IsTold new k → IsDenied old clause
denied_told old new clause k t h u = record { lit = k; there = t; told = h.told k u }

-- what is told where clauses were followed
pub record HasFollowed (clauses : List (List SatLit)) (old new : Slots) : Type 0 where
  pub kept : (l : SatLit) → IsKept new l → IsKept old l
  pub forced : (l : SatLit) → IsTold new l → IsForced clauses (told_in old) l

-- at the start it is given
pub followed_first : (clauses : List (List SatLit)) (s : Slots) → HasFollowed clauses s s
followed_first clauses s = record { kept = λ l t. t; forced = λ l t. is_given l (told_listed s l t) }

-- one more clause
pub followed_next : (clauses : List (List SatLit)) (old mid new : Slots) (c : List SatLit) (k : SatLit) → Contains clauses c → IsLast mid c k → HasFollowed clauses old mid → ((l : SatLit) → IsKept new l → IsKept mid l) → ((l : SatLit) → IsTold new l → IsTold mid l ⊎ (k ≡ l)) → HasFollowed clauses old new
followed_next clauses old mid new c k t last h kept told =
    let P : SatLit → Type 0 = λ l. IsForced clauses (told_in old) l in
    record {
      kept = λ l u. h.kept l (kept l u);
      forced = λ l u. elim (told l u) [ inl o ↦ h.forced l o | inr e ↦ subst P e (last_forced clauses (told_in old) mid h.forced c k t last) ];
    }

module _ (clauses : List (List SatLit)) (old mid : Slots) (fresh : (l : SatLit) → IsTold mid l → IsKept old l) where
  -- at the start of a round what is told is kept
  fresh_forced : (l : SatLit) → IsTold mid l → IsForced clauses (kept_in old) l
  fresh_forced l t = is_given l (kept_listed old l (fresh l t))

  -- the literal that a clause forces then
  pub kept_next : (new : Slots) (c : List SatLit) (k : SatLit) → Contains clauses c → IsLast mid c k → ((l : SatLit) → IsKept new l → IsKept mid l ⊎ (k ≡ l)) → (l : SatLit) → IsKept new l → IsForced clauses (kept_in old) l
  kept_next new c k t last kept l u =
      let P : SatLit → Type 0 = λ m. IsForced clauses (kept_in old) m in
      elim (kept l u) [ inl o ↦ fresh_forced l (inl o) | inr e ↦ subst P e (last_forced clauses (kept_in old) mid fresh_forced c k t last) ]

  -- a clause with a literal that is true follows
  pub denied_follows : (clause : List SatLit) → IsDenied mid clause → Follows clauses (kept_in old) clause
  denied_follows clause d =
      let true' : IsForced clauses (kept_in old ++ map negated clause) d.lit = elim d.told [
        | inl o ↦ is_given d.lit (Contains-append_left (kept_in old) (map negated clause) d.lit (kept_listed old d.lit (fresh d.lit o)))
        | inr s ↦ is_given d.lit (Contains-append_right (kept_in old) (map negated clause) d.lit s)
      ] in
      literal_fails d.lit true' (is_given (negated d.lit) (Contains-append_right (kept_in old) (map negated clause) (negated d.lit) (map_contains clause d.lit d.there)))

  -- and one from whose negated literals a conflict comes
  pub conflict_follows : (clause : List SatLit) (new : Slots) → ((l : SatLit) → IsTold new l → IsTold mid l ⊎ Contains (map negated clause) l) → IsConflict clauses (told_in new) → Follows clauses (kept_in old) clause
  conflict_follows clause new told h = conflict_cut clauses (kept_in old ++ map negated clause) (told_in new) given h
    where
      given : (l : SatLit) → Contains (told_in new) l → IsForced clauses (kept_in old ++ map negated clause) l
      given l c = elim (told l (listed_told new l c)) [
        | inl o ↦ is_given l (Contains-append_left (kept_in old) (map negated clause) l (kept_listed old l (fresh l o)))
        | inr s ↦ is_given l (Contains-append_right (kept_in old) (map negated clause) l s)
      ]

-- what follows from forced literals follows
pub follows_cut : (clauses : List (List SatLit)) (given more clause : List SatLit) → AreForced clauses given more → Follows clauses more clause → Follows clauses given clause
follows_cut clauses given more clause h = conflict_cut clauses (given ++ map negated clause) (more ++ map negated clause) (λ l t. elim (Contains-append_cases more (map negated clause) l t) [
  | inl o ↦ forced_cut clauses (given ++ map negated clause) given (λ k s. is_given k (Contains-append_left given (map negated clause) k s)) l (h l o)
  | inr s ↦ is_given l (Contains-append_right given (map negated clause) l s)
])

-- more clauses force no less
pub forced_more : (clauses more : List (List SatLit)) (given : List SatLit) (l : SatLit) → IsForced clauses given l → IsForced (clauses ++ more) given l
forced_more clauses more given _ (is_given l t) = is_given l t
forced_more clauses more given _ (is_unit l c t u others) = is_unit l c (Contains-append_left clauses more c t) u (λ k s ne. forced_more clauses more given (negated k) (others k s ne))

-- nor do more steps
pub forced_later : (clauses steps : List (List SatLit)) (given : List SatLit) (i : ℕ) (l : SatLit) → IsForced (clauses ++ take i steps) given l → IsForced (clauses ++ take (i + 1) steps) given l
forced_later clauses steps given i = later
  where
    wider : (c : List SatLit) → Contains (clauses ++ take i steps) c → Contains (clauses ++ take (i + 1) steps) c
    wider c t = elim (Contains-append_cases clauses (take i steps) c t) [
      | inl o ↦ Contains-append_left clauses (take (i + 1) steps) c o
      | inr s ↦ Contains-append_right clauses (take (i + 1) steps) c (contains_take i (i + 1) steps c (omega arith) s)
    ]

    later : (l : SatLit) → IsForced (clauses ++ take i steps) given l → IsForced (clauses ++ take (i + 1) steps) given l
    later _ (is_given l t) = is_given l t
    later _ (is_unit l c t u others) = is_unit l c (wider c t) u (λ k s ne. later (negated k) (others k s ne))

-- what comes from forced literals is forced
pub forced_twice : (clauses : List (List SatLit)) (given known more : List SatLit) → AreForced clauses given known → AreForced clauses known more → AreForced clauses given more
forced_twice clauses given known more h k l t = forced_cut clauses given known h l (k l t)
