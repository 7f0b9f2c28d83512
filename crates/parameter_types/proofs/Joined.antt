-- The annotations of a module, and the refusals that are told by them.
use Rattle.std.proofs.Common.{◌≡◌, ℕ, suc, Bool, List, [], ◌∷◌, ◌++◌, length, map, Option, refl, sym, ap, subst, ◌∙◌}
use Rattle.std.specs.Global.{Vec}
use Rattle.std.specs.List.{All, flat_map}
use Rattle.std.proofs.lemmas.List.{length-map}
use Rattle.spec_contracts.specs.ContractLines.{ContractLine}
use Rattle.spec_names.specs.declared.Refusal.{Refusal}
use Rattle.spec_types.specs.Classes.{ClassOf, classes, constructor_of, constructors}
use Rattle.spec_types.specs.Needs.{is_class_reached, need_refusals, signature_refusals}
use Rattle.spec_types.specs.Signatures.{given, signatures, taken}
use Rattle.spec_types.specs.Widths.{class_width, too_wide, width_refusals}
use Rattle.spec_uses.specs.Functions.{FunctionOf, all_functions}
use Rattle.told_refusals.specs.Telling.{Tells}
use Rattle.told_refusals.proofs.Telling.{tells_then}
use Rattle.py_tree.specs.declared.ids.TypeId.{TypeId}
use Rattle.py_tree.specs.Arena.{State, IsModule, module_tree}
use Rattle.py_types.specs.Given.{Grows}
use Rattle.module_classes.specs.declared.class.Class.{Class}
use Rattle.module_classes.specs.Sorted.{class_in}
use Rattle.module_functions.specs.declared.function.Function.{Function}
use Rattle.module_functions.specs.Listed.{function_in}
use Rattle.given_types.specs.declared.GivenType.{GivenType}
use Rattle.given_types.specs.declared.Signature.{Signature}
use Rattle.given_types.specs.Checked.{checks, signatures_as}
use Rattle.given_types.specs.Giving.{IsClassBelow, all_given, given_in, signature_in}
use Rattle.given_types.proofs.Checked.{signatures_are}
use Rattle.read_annotations.specs.Reading.{AreAllWritten, AreListsThere, all_written, shown_lists}
use Rattle.signatures.specs.Written.{given_from}
use Rattle.signatures.proofs.Given.{taken_are}
use Rattle.signatures.proofs.Numbers.{classes_below}
use Rattle.parameter_types.specs.declared.annotated.Annotated.{Annotated}
use Rattle.parameter_types.specs.Annotated.{IsAnnotated, of_constructors, of_functions}
use Rattle.parameter_types.proofs.Kept.{all_written_kept, lists_kept}

-- ---- annotations are read twice

module _ (m n o : State) (g : Grows m n) (h : Grows n o) (v : IsModule m) where
  pub annotated_is : (of_f of_c : List (Vec (Option TypeId))) → all_written m of_f ≡ of_functions (module_tree m).body → all_written m of_c ≡ of_constructors (module_tree m).body → AreAllWritten m of_c
      → (a : Annotated) → AreListsThere n a.functions.items → shown_lists n a.functions.items ≡ all_written m of_f
      → AreListsThere o a.constructors.items → shown_lists o a.constructors.items ≡ all_written n of_c
      → IsAnnotated o (module_tree m).body a
  annotated_is of_f of_c written_f written_c there a there_f shown_f there_c shown_c =
      let kept = lists_kept n o h g.valid a.functions.items there_f in
      record {
        functions = kept.1 ∙ shown_f ∙ written_f;
        constructors = shown_c ∙ (all_written_kept m n g v of_c there).1 ∙ written_c;
        functions_there = kept.0;
        constructors_there = there_c;
      }

-- ---- what is told by them

length_checks : (ls : List ContractLine) (i : ℕ) (fs : List FunctionOf) → length (checks ls i fs) ≡ length fs
length_checks ls i [] = refl
length_checks ls i (f ∷ fs) = ap suc (length_checks ls (suc i) fs)

module _ (m : State) (fs : List Function) (found : map (function_in m) fs ≡ all_functions (module_tree m).body) where
  pub as_many_checks : (ls : List ContractLine) (marks : List Bool) → marks ≡ checks ls 0 (map (function_in m) fs) → length marks ≡ length fs
  as_many_checks ls marks e = ap length e ∙ length_checks ls 0 (map (function_in m) fs) ∙ length-map fs (function_in m)

  pub numbers_below : (n : ℕ) → n ≡ length (classes (module_tree m).body) → All (λ (f : Function). IsClassBelow n f.class) fs
  numbers_below n e = subst (λ (k : ℕ). All (λ (f : Function). IsClassBelow k f.class) fs) (sym e) (classes_below m (module_tree m).body fs found)

  pub signatures_listed : (ls : List ContractLine) (marks : List Bool) (ss : List Signature) → marks ≡ checks ls 0 (map (function_in m) fs)
      → map (signature_in m) ss ≡ signatures_as (module_tree m).body marks (map (function_in m) fs) → map (signature_in m) ss ≡ signatures (module_tree m).body ls
  signatures_listed ls marks ss e is =
      let b = (module_tree m).body in
      is
      ∙ ap (λ (v : List Bool). signatures_as b v (map (function_in m) fs)) e
      ∙ ap (λ (v : List FunctionOf). signatures_as b (checks ls 0 v) v) found
      ∙ signatures_are b ls 0 (all_functions b)

module _ (m : State) where
  pub as_many_classes : (cs : List Class) → map (class_in m) cs ≡ classes (module_tree m).body → length cs ≡ length (classes (module_tree m).body)
  as_many_classes cs sorted = sym (length-map cs (class_in m)) ∙ ap length sorted

  module _ (gs : List (Vec GivenType)) where
    pub taken_is : (a : Annotated) → IsAnnotated m (module_tree m).body a → all_given m gs ≡ map (map (given_from (module_tree m).body)) (shown_lists m a.constructors.items) → all_given m gs ≡ taken (module_tree m).body
    taken_is a h is =
        let b = (module_tree m).body in
        is ∙ ap (map (map (given_from b))) h.constructors ∙ taken_are b (classes b)

    pub as_many_taken : all_given m gs ≡ taken (module_tree m).body → length gs ≡ length (classes (module_tree m).body)
    as_many_taken is =
        let b = (module_tree m).body in
        sym (length-map gs (λ (v : Vec GivenType). map (given_in m) v.items)) ∙ ap length is ∙ length-map (constructors b) (given b) ∙ length-map (classes b) (λ (c : ClassOf). constructor_of c.body)

    pub told_by_them : all_given m gs ≡ taken (module_tree m).body → (ls : List ContractLine) (ss : List Signature) → map (signature_in m) ss ≡ signatures (module_tree m).body ls → (max_len max_nest : ℕ) (old mid new : Option Refusal)
        → Tells old mid (flat_map (signature_refusals (is_class_reached (all_given m gs) (map (signature_in m) ss))) (map (signature_in m) ss))
        → Tells mid new (flat_map (too_wide max_len (class_width (all_given m gs) max_len (suc max_nest))) (map (signature_in m) ss))
        → Tells old new (need_refusals (module_tree m).body ls ++ width_refusals (module_tree m).body ls max_len max_nest)
    told_by_them is ls ss listed max_len max_nest old mid new needs widths =
        let b = (module_tree m).body in
        tells_then old mid new (need_refusals b ls) (width_refusals b ls max_len max_nest) (rw (is, listed) at needs) (rw (is, listed) at widths)
