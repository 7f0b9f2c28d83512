-- The parts of a node are there where it is.
use Rattle.std.proofs.Common.{◌<◌, ℕ, arith}
use Rattle.py_tree.specs.declared.exprs.ExprNode.{ExprNode}
use Rattle.py_tree.specs.Exprs.{ArePartsBelow}
use Rattle.py_tree.proofs.Nodes.{parts_more}

-- parts that are earlier than a node that is there
pub parts_there : (k n e : ℕ) (x : ExprNode) → e < n → ArePartsBelow k e x → ArePartsBelow k n x
parts_there k n e x lt h = parts_more k k e n x (omega arith) (omega arith) h
