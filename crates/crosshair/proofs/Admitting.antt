-- What a content is admitted as, from what its phases answer.
use Rattle.std.proofs.Common.{◌≡◌, ℕ, Bool, true, false, List, [], map, Result, Ok, Err, refl, sym, ap, ◌∙◌, if◌then◌else◌}
use Rattle.std.specs.Prelude.{⊤, IsUtf8, chars, codes}
use Rattle.std.specs.Str.{is_utf8}
use Rattle.std.proofs.lemmas.Str.{IsUtf8-from_is_utf8, is_utf8-from_IsUtf8}
use Rattle.spec_tokens.specs.declared.Refusal as tokens
use Rattle.spec_tokens.specs.Letters.{letters_of}
use Rattle.spec_tokens.specs.Cutting.{pieces_of}
use Rattle.spec_tokens.specs.Tokens.{Scan, IsScan, tokens_of}
use Rattle.spec_tokens.proofs.Cuts.{pieces_only}
use Rattle.spec_trees.specs.Module as tree
use Rattle.spec_trees.specs.Module.{Block}
use Rattle.spec_first_trees.specs.Bounds.{Bounds}
use Rattle.spec_syntax.specs.Lines.{word_lines}
use Rattle.spec_syntax.specs.Phases.{Misfit, parsed}
use Rattle.spec_contracts.specs.ContractLines.{contracts_of}
use Rattle.spec_forms.specs.Forms.{functions_of}
use Rattle.spec_admission.specs.Admission.{as_tokens, as_block, as_contracts, as_profile, profile_fault_name, formed, refused, invalid_line, admit, admit_text}
use Rattle.py_tokens.specs.declared.errors.TokenError.{TokenError}
use Rattle.py_tokens.specs.declared.errors.TokenError.TheVariants as token
use Rattle.py_tokens.specs.Scanned.{IsRefused, refusal_of}
use Rattle.py_tree.specs.Arena.{State, module_tree}
use Rattle.py_parser.specs.declared.errors.SyntaxError.{SyntaxError}
use Rattle.py_parser.specs.declared.errors.SyntaxError.TheVariants as syntax
use Rattle.py_parser.specs.Parsed.{GivesModule}
use Rattle.contract_lines.specs.declared.contracts.ContractLine.{ContractLine}
use Rattle.contract_lines.specs.declared.errors.ContractError.{ContractError}
use Rattle.contract_lines.specs.declared.errors.ContractError.TheVariants as contract
use Rattle.contract_lines.specs.Given.{GivesContracts, line_in}
use Rattle.spec_names.specs.declared.ProfileFault.{ProfileFault}
use Rattle.spec_names.specs.declared.ProfileFault.TheVariants as fault
use Rattle.spec_profile.specs.Profile.{profile_refusal}
use Rattle.py_profile.specs.Checking.{Answers}
use Rattle.py_profile.specs.declared.errors.ProfileError.{ProfileError}
use Rattle.py_profile.specs.declared.errors.ProfileError.TheVariants as profile
use Rattle.first_tree.specs.Arena.{ModuleState}
use Rattle.first_promises.specs.declared.errors.FormError.{FormError}
use Rattle.first_promises.specs.declared.errors.FormError.TheVariants as form
use Rattle.first_forms.specs.Formed.{AreFormed}
use Rattle.crosshair.specs.Answers.{IsAdmission, kind_name}
use Rattle.crosshair.specs.Refusals.{token_refusal, syntax_refusal, contract_refusal, form_refusal, profile_kind, profile_refused}

-- ---- the encoding

pub admitted_text : (b : Bounds) (content : List ℕ) → IsUtf8 content → admit b content ≡ admit_text b (chars content)
unfolding admit
admitted_text b content h = rw (is_utf8-from_IsUtf8 content h) refl

pub not_utf8 : (b : Bounds) (content : List ℕ) → (IsUtf8 content → ⊥) → admit b content ≡ refused (invalid_line content) (codes "NotUtf8")
unfolding admit
not_utf8 b content h = by_test (is_utf8 content) refl
  where
    by_test : (t : Bool) → is_utf8 content ≡ t → (if t then admit_text b (chars content) else refused (invalid_line content) (codes "NotUtf8")) ≡ refused (invalid_line content) (codes "NotUtf8")
    by_test true e = absurd (h (IsUtf8-from_is_utf8 content e))
    by_test false e = refl

-- ---- tokens

text_is : (b : Bounds) (text : List ℕ) (r : Result Scan tokens.Refusal) → IsScan text r → admit_text b text ≡ as_tokens b r
unfolding admit_text
text_is b text r h = ap (as_tokens b) (sym (scan_is text r h))
  where
    scan_is : (text : List ℕ) (r : Result Scan tokens.Refusal) → IsScan text r → r ≡ tokens_of text (pieces_of (letters_of text))
    scan_is text r h = h.is ∙ ap (λ ps. tokens_of text ps) (pieces_only (letters_of text) h.pieces h.cut)

pub tokens_refused : (b : Bounds) (bytes : List ℕ) (e : TokenError) → IsRefused bytes (refusal_of e) → IsAdmission (admit_text b (chars bytes)) (Err (token_refusal e))
tokens_refused b bytes (token.BadCharacter n) h = text_is b (chars bytes) _ h
tokens_refused b bytes (token.MixedIndent n) h = text_is b (chars bytes) _ h
tokens_refused b bytes (token.BadDedent n) h = text_is b (chars bytes) _ h
tokens_refused b bytes (token.OpenString n) h = text_is b (chars bytes) _ h
tokens_refused b bytes (token.OpenBracket n) h = text_is b (chars bytes) _ h
tokens_refused b bytes (token.BigInteger n) h = text_is b (chars bytes) _ h
tokens_refused b bytes (token.NumberForm n) h = text_is b (chars bytes) _ h
tokens_refused b bytes (token.EscapeForm n) h = text_is b (chars bytes) _ h
tokens_refused b bytes token.NoMemory h = tt

-- ---- blocks

pub blocks_refused : (b : Bounds) (bytes : List ℕ) (s : Scan) (e : SyntaxError) → IsScan (chars bytes) (Ok s) → GivesModule (Err e) (parsed (word_lines s)) → IsAdmission (admit_text b (chars bytes)) (Err (syntax_refusal e))
blocks_refused b bytes s (syntax.Line n) h g = text_is b (chars bytes) (Ok s) h ∙ ap (as_block b) g
blocks_refused b bytes s (syntax.TooDeep n) h g = text_is b (chars bytes) (Ok s) h ∙ ap (as_block b) g
blocks_refused b bytes s (syntax.Block n) h g = text_is b (chars bytes) (Ok s) h ∙ ap (as_block b) g
blocks_refused b bytes s syntax.NoMemory h g = tt

-- the contract lines and the functions of the block that is read
block_is : (b : Bounds) (bytes : List ℕ) (s : Scan) (m : State) → IsScan (chars bytes) (Ok s) → GivesModule (Ok m) (parsed (word_lines s)) → admit_text b (chars bytes) ≡ as_contracts b (module_tree m).body (contracts_of (module_tree m).body)
block_is b bytes s m h g = text_is b (chars bytes) (Ok s) h ∙ by_block (parsed (word_lines s)) g
  where
    by_block : (r : Result Block Misfit) → GivesModule (Ok m) r → as_block b r ≡ as_contracts b (module_tree m).body (contracts_of (module_tree m).body)
    by_block (Ok c) e = ap (λ (t : tree.Module). as_contracts b t.body (contracts_of t.body)) (sym e)
    by_block (Err f) e = absurd e

-- ---- contract lines

pub contracts_refused : (b : Bounds) (bytes : List ℕ) (s : Scan) (m n : State) (e : ContractError) → IsScan (chars bytes) (Ok s) → GivesModule (Ok m) (parsed (word_lines s)) → GivesContracts n (Err e) (contracts_of (module_tree m).body) → IsAdmission (admit_text b (chars bytes)) (Err (contract_refusal e))
contracts_refused b bytes s m n (contract.BadExpression k) h g c = block_is b bytes s m h g ∙ ap (as_contracts b (module_tree m).body) c
contracts_refused b bytes s m n (contract.UnknownName k) h g c = block_is b bytes s m h g ∙ ap (as_contracts b (module_tree m).body) c
contracts_refused b bytes s m n (contract.Misplaced k) h g c = block_is b bytes s m h g ∙ ap (as_contracts b (module_tree m).body) c
contracts_refused b bytes s m n contract.NoMemory h g c = tt

-- ---- names, and functions

kind_is : (f : ProfileFault) → profile_fault_name f ≡ kind_name (profile_kind f)
kind_is fault.UnknownName = refl
kind_is fault.Duplicate = refl
kind_is fault.MissingType = refl
kind_is fault.UnknownType = refl
kind_is fault.ModuleStatement = refl
kind_is fault.TooWide = refl
kind_is fault.Form = refl

-- the functions of a module whose contract lines are read, and which is another state behind them
module _ (b : Bounds) (bytes : List ℕ) (s : Scan) (m n : State) (ls : List ContractLine) (h : IsScan (chars bytes) (Ok s)) (g : GivesModule (Ok m) (parsed (word_lines s))) (c : GivesContracts n (Ok ls) (contracts_of (module_tree m).body)) (t : module_tree n ≡ module_tree m) where
  profile_is : admit_text b (chars bytes) ≡ as_profile (module_tree n).body (map (line_in n) ls) (profile_refusal (module_tree n).body (map (line_in n) ls) b.max_len b.max_nest)
  profile_is = block_is b bytes s m h g ∙ ap (as_contracts b (module_tree m).body) c.1 ∙ ap (λ (u : tree.Module). as_profile u.body (map (line_in n) ls) (profile_refusal u.body (map (line_in n) ls) b.max_len b.max_nest)) (sym t)

  pub names_refused : (e : ProfileError) → Answers (Err e) (profile_refusal (module_tree n).body (map (line_in n) ls) b.max_len b.max_nest) → IsAdmission (admit_text b (chars bytes)) (Err (profile_refused e))
  names_refused (profile.Refused k f) p = profile_is ∙ ap (as_profile (module_tree n).body (map (line_in n) ls)) p ∙ ap (refused k) (kind_is f)
  names_refused profile.NoMemory p = tt

  -- the functions are read behind the look-up of names, which leaves the statements and the contract lines
  module _ (o : State) (v : module_tree o ≡ module_tree n) (k : map (line_in o) ls ≡ map (line_in n) ls) (u : ⊤) (p : Answers (Ok u) (profile_refusal (module_tree n).body (map (line_in n) ls) b.max_len b.max_nest)) where
    functions_are : admit_text b (chars bytes) ≡ formed (functions_of (map (line_in o) ls) (module_tree o).body)
    functions_are = profile_is ∙ ap (as_profile (module_tree n).body (map (line_in n) ls)) p ∙ ap (λ (w : tree.Module). formed (functions_of (map (line_in n) ls) w.body)) (sym v) ∙ ap (λ qs. formed (functions_of qs (module_tree o).body)) (sym k)

    pub functions_refused : (e : FormError) → AreFormed (Err e) (functions_of (map (line_in o) ls) (module_tree o).body) → IsAdmission (admit_text b (chars bytes)) (Err (form_refusal e))
    functions_refused (form.NotBuilt j) f = functions_are ∙ ap formed f
    functions_refused form.NoMemory f = tt

    pub functions_admitted : (r : ModuleState) → AreFormed (Ok r) (functions_of (map (line_in o) ls) (module_tree o).body) → IsAdmission (admit_text b (chars bytes)) (Ok r)
    functions_admitted r f = functions_are ∙ ap formed f
