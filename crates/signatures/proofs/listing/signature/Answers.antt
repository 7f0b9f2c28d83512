use Rattle.std.proofs.Common.{◌∙◌, ap, map, sym}
use Rattle.py_tree.specs.Arena.{module_tree}
use Rattle.spec_types.specs.Signatures.{typed}
use Rattle.module_functions.specs.Listed.{function_in}
use Rattle.signatures.specs.Written.{given_from}
use Rattle.signatures.proofs.Given.{given_are}
use Rattle.signatures.proofs.Listed.{signature_is}
use Rattle.signatures.proofs.Parameters.{class_of}
use Rattle.signatures.proofs.listing.signature.Goals as goal

pub returns-clause-signature : goal.returns-clause-signature
returns-clause-signature c =
    let m = c.args.module.now in
    let b = (module_tree m).body in
    let f = function_in m c.args.function.now in
    signature_is b c.args.is_checked f c.line.result c.args.function.now.class c.is_constructor-is_constructor.result c.takes_self-takes_self.result _ c.line.ensures (sym (class_of m c.args.function.now)) c.is_constructor-is_constructor.ensures
    (rw (← c.is_constructor-is_constructor.ensures) c.takes_self-takes_self.ensures)
    ((c.in_ok-types.ensures {u = tt}).given ∙ ap (map (given_from b)) c.requires.annotated ∙ given_are b (typed f))
