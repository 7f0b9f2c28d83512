use Rattle.std.proofs.Common.{sym, subst}
use Rattle.py_program.specs.Entries.{IsFunctionThere}
use Rattle.py_program.specs.Programs.{ProgramState}
use Rattle.py_program.proofs.There.{all_push}
use Rattle.py_program.proofs.program.Program.add_function.Goals as goal

pub invariant_of-self-2 : goal.invariant_of-self-2
invariant_of-self-2 c =
    let m = c.self.inside.«module» in
    let there : IsFunctionThere m c.args.entry = subst (λ (p : ProgramState). IsFunctionThere p.source c.args.entry) (sym c.self.view_is) c.requires in
    record {
      program = record {
        source = c.self.invariant.program.source;
        functions = rw c.in_ok-push.ensures.items (all_push (IsFunctionThere m) c.self.inside.functions.items c.args.entry c.self.invariant.program.functions there);
        classes = c.self.invariant.program.classes;
      };
      definitions = c.self.invariant.definitions;
    }

pub returns-clause-program : goal.returns-clause-program
returns-clause-program c = (invariant_of-self-2 c).program
