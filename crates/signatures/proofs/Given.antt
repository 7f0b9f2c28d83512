-- What annotations give parameters, read or not.
use Rattle.std.proofs.Common.{◌≡◌, ℕ, true, false, List, [], ◌∷◌, map, Option, Some, None, refl, ap, ◌∙◌}
use Rattle.std.specs.Option.{is_some}
use Rattle.spec_trees.specs.Stmt.{Parameter, TypeExpr}
use Rattle.spec_trees.specs.Module.{Block}
use Rattle.spec_types.specs.Classes.{ClassOf, constructor_of}
use Rattle.spec_types.specs.Signatures.{Given, given, given_as, given_by, unknown}
use Rattle.spec_types.specs.Types.{ValueType}
use Rattle.read_annotations.specs.Reading.{read}
use Rattle.signatures.specs.Written.{annotations, given_from}

-- ---- a type, or none

pub known_as : (o : Option ValueType) (n : ℕ) → is_some o ≡ true → given_as 0 o ≡ given_as n o
known_as None n e = absurd cc
known_as (Some v) n e = refl

pub unknown_as : (o : Option ValueType) (n : ℕ) → is_some o ≡ false → unknown n ≡ given_as n o
unknown_as None n e = refl
unknown_as (Some v) n e = absurd cc

-- ---- read annotations give what annotations do

given_one : (b : Block) (o : Option TypeExpr) → given_from b (read o) ≡ given_by b o
given_one b None = refl
given_one b (Some t) = refl

pub given_are : (b : Block) (ps : List Parameter) → map (given_from b) (annotations ps) ≡ given b ps
given_are b [] = refl
given_are b (p ∷ ps) = ap (λ (g : Given). g ∷ map (given_from b) (annotations ps)) (given_one b p.annotation) ∙ ap (λ (gs : List Given). given_by b p.annotation ∷ gs) (given_are b ps)

-- what the constructors of classes take
pub taken_are : (b : Block) (cs : List ClassOf) → map (map (given_from b)) (map (λ (c : ClassOf). annotations (constructor_of c.body)) cs) ≡ map (given b) (map (λ (c : ClassOf). constructor_of c.body) cs)
taken_are b [] = refl
taken_are b (c ∷ cs) = ap (λ (gs : List Given). gs ∷ map (map (given_from b)) (map (λ (c : ClassOf). annotations (constructor_of c.body)) cs)) (given_are b (constructor_of c.body)) ∙ ap (λ (gs : List (List Given)). given b (constructor_of c.body) ∷ gs) (taken_are b cs)
