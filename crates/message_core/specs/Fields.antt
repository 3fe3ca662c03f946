use Rattle.message_core.specs.declared.reading.Fields.{Fields}
use Rattle.message_core.specs.Spelling.{Content}

-- the fields that were read, as contracts see a message
abbrev pub view : Fields → Content
view f = record { id = f.id; persistent = f.persistent; priority = f.priority; headers = f.headers.items; body = f.body }
