use Rattle.std.proofs.Common.{rules}
use Rattle.std.proofs.lemmas.Str.{chars_from_encodes}
use Rattle.py_tokens.proofs.Scans.{chars_few}
use Rattle.py_tokens.proofs.scanning.characters.Goals as goal

pub returns-clause-characters : goal.returns-clause-characters
returns-clause-characters c = search (rules, chars_from_encodes)

pub returns-clause-few : goal.returns-clause-few
returns-clause-few c = chars_few c.args.text.now _ c.utf8.text (search (rules, chars_from_encodes))
