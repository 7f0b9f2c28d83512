-- Functions of which it is known whether they are checked.
use Rattle.std.specs.Prelude.{ℕ, suc, Bool, not, ◌&&◌, List, [], ◌∷◌}
use Rattle.spec_trees.specs.Module.{Block}
use Rattle.spec_contracts.specs.ContractLines.{ContractLine}
use Rattle.spec_names.specs.Headers.{is_self_first}
use Rattle.spec_uses.specs.Functions.{FunctionOf, is_constructor}
use Rattle.spec_types.specs.Signatures.{Signature, given, is_checked, typed}

-- whether these are checked, of which the first has the number i
abbrev pub checks : List ContractLine → ℕ → List FunctionOf → List Bool
checks ls i [] = []
checks ls i (f ∷ fs) = is_checked ls i f ∷ checks ls (suc i) fs

-- a function that is checked, or not
abbrev pub signature_as : Block → Bool → FunctionOf → Signature
signature_as b is f = record {
  line = f.line;
  is_checked = is;
  class = f.class;
  is_constructor = is_constructor f;
  takes_self = is_self_first f.parameters && not (is_constructor f);
  types = given b (typed f);
}

-- functions, one for each mark
abbrev pub signatures_as : Block → List Bool → List FunctionOf → List Signature
signatures_as b (c ∷ cs) (f ∷ fs) = signature_as b c f ∷ signatures_as b cs fs
signatures_as b cs fs = []
