-- What the code holds, as the definitions tell it.
use Rattle.std.specs.Prelude.{◌≡◌, List, [], ◌++◌, map, Option, Some, None}
use Rattle.std.specs.List.{flat_map}
use Rattle.std.specs.Option.{option_map}
use Rattle.spec_contracts.specs.Docstrings as spec
use Rattle.spec_contracts.specs.Heads as spec_heads
use Rattle.spec_contracts.specs.Entries as spec_entries
use Rattle.spec_contracts.specs.Entries.{Turn}
use Rattle.contract_entries.specs.declared.heads.Head.{Head}
use Rattle.contract_entries.specs.declared.lines.DocLine.{DocLine}
use Rattle.contract_entries.specs.declared.entries.Content.{Content}
use Rattle.contract_entries.specs.declared.entries.Content.TheVariants as content
use Rattle.contract_entries.specs.declared.entries.Entry.{Entry}
use Rattle.contract_entries.specs.declared.entries.Promise.{Promise}
use Rattle.contract_entries.specs.declared.turns.Block.{Block}

abbrev pub head_in : Head → spec_heads.Head
head_in h = record { kind = h.kind; names = option_map (λ v. v.items) h.names; rest = h.rest.now }

abbrev pub line_in : DocLine → spec.DocLine
line_in l = record { number = l.number; indent = l.indent; text = l.text.now }

abbrev pub content_in : Content → spec_entries.Content
content_in (content.Spelled s) = spec_entries.spelled s.now
content_in (content.Classes v) = spec_entries.classes v.items
content_in content.Unread = spec_entries.unread

abbrev pub promise_in : Promise → spec_entries.Promise
promise_in p = record { line = p.line; kind = p.kind; names = option_map (λ v. v.items) p.names }

-- an entry of a contract line
abbrev pub entry_in : spec_entries.Promise → Entry → spec_entries.Entry
entry_in p e = record { line = e.line; promise = p; content = content_in e.content }

-- the entries of a contract line
abbrev pub entries_in : Promise → List spec_entries.Entry
entries_in p = map (entry_in (promise_in p)) p.entries.items

-- the entries of contract lines
abbrev pub all_entries : List Promise → List spec_entries.Entry
all_entries ps = flat_map entries_in ps

abbrev pub block_in : Block → spec_entries.Opened
block_in b = record { promise = promise_in b.promise; indent = b.indent; is_empty = b.is_empty }

-- the entries that are read so far, of a block that may go on too
abbrev pub block_entries : Option Block → List spec_entries.Entry
block_entries None = []
block_entries (Some b) = entries_in b.promise

-- a turn behind entries: what it gives is read, and so is the block that is open behind it
pub record Turns (before : List spec_entries.Entry) (ps : List Promise) (b : Option Block) (t : Turn) : Type 0 where
  pub entries : all_entries ps ++ block_entries b ≡ before ++ t.entries
  pub block : option_map block_in b ≡ t.block
