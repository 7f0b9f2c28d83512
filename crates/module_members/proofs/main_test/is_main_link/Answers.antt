use Rattle.std.proofs.Common.{sym}
use Rattle.py_tree.specs.Arena.{shown}
use Rattle.module_members.proofs.Defining.{many_links}
use Rattle.module_members.proofs.main_test.is_main_link.Goals as goal

pub returns-in_default-2 : goal.returns-in_default-2
returns-in_default-2 c = sym (many_links (shown c.args.module.now) c.args.links.now c.in_default.len_at_least)
