use Rattle.std.proofs.Common.{◌≡◌, true}
use Rattle.fields_read.proofs.Texts.{json_from, no_json}
use Rattle.fields_read.proofs.json.read_json.Goals as goal

pub returns-in-Ok : goal.returns-in-Ok
returns-in-Ok c = json_from _ _ c.in-Ok.ensures.ok

pub returns-else-is_memory : goal.returns-else-is_memory
returns-else-is_memory c = λ same. no_json _ (c.in-Err.ensures.err (λ memory. let is : c.is_memory.result ≡ true = c.is_memory.ensures.1 memory in cc))
