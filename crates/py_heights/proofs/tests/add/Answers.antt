use Rattle.std.proofs.Common.{length, arith}
use Rattle.py_heights.proofs.tests.add.Goals as goal

pub add_expr-requires : goal.add_expr-requires
add_expr-requires c = c.in_ok-node.ensures (length c.add_name.new.self.names) (length c.add_name.new.self.exprs) c.in_ok-name.ensures.below (omega arith) (omega arith)
