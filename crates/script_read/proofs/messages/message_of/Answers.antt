use Rattle.std.proofs.Common.{ℕ, [], Option, Bool, false, ap, subst, ◌∙◌}
use Rattle.std.specs.Prelude.{option_and_then, unwrap_or}
use Rattle.serde_json.specs.Data.{Data, Members, no_members}
use Rattle.serde_json.specs.Find.{as_bool, as_number, as_object, as_str, as_u64}
use Rattle.serde_json.specs.View.{view, members_view}
use Rattle.fields_read.specs.Fields.{name_of}
use Rattle.fields_read.specs.declared.fields.Field.TheVariants.{Body, Headers, Id, Persistent, Priority}
use Rattle.message_core.specs.Spelling.{Content}
use Rattle.script_read.specs.Messages.{headers_of}
use Rattle.script_read.specs.Parts.{content_said}
use Rattle.script_read.specs.Reading.{Gives}
use Rattle.script_read.proofs.Contents.{at_field, parts_are}
use Rattle.script_read.proofs.messages.message_of.Goals as goal

pub returns-in-Ok : goal.returns-in-Ok
returns-in-Ok c =
    let d : Data = view c.args.value in
    let ms : Members = members_view c.members_of.result.entries in
    let named = c.pieces_of-pieces.ensures.headers ∙ at_field (name_of Headers) d ms c.members_of.ensures in
    let headers = c.in-Ok.ensures.value ∙ ap (λ (ms : Members). headers_of ms) (c.members_of-2.ensures ∙ ap (λ (o : Option Data). unwrap_or (option_and_then as_object o) no_members) named) in
    let text = c.pieces_of-pieces.ensures.body ∙ at_field (name_of Body) d ms c.members_of.ensures in
    let body = c.text_of-body.ensures ∙ ap (λ (o : Option Data). unwrap_or (option_and_then as_str o) []) text in
    let numbered = c.pieces_of-pieces.ensures.id ∙ at_field (name_of Id) d ms c.members_of.ensures in
    let id = c.unwrap_or-id.ensures ∙ ap (λ (o : Option ℕ). unwrap_or o 0) (c.number_of.ensures ∙ ap (λ (o : Option Data). option_and_then as_u64 (option_and_then as_number o)) numbered) in
    let kept = c.pieces_of-pieces.ensures.persistent ∙ at_field (name_of Persistent) d ms c.members_of.ensures in
    let persistent = c.unwrap_or-persistent.ensures ∙ ap (λ (o : Option Bool). unwrap_or o false) (c.truth_of.ensures ∙ ap (λ (o : Option Data). option_and_then as_bool o) kept) in
    let ranked = c.pieces_of-pieces.ensures.priority ∙ at_field (name_of Priority) d ms c.members_of.ensures in
    let priority = c.unwrap_or-priority.ensures ∙ ap (λ (o : Option ℕ). unwrap_or o 4) (c.number_of-2.ensures ∙ ap (λ (o : Option Data). option_and_then as_u64 (option_and_then as_number o)) ranked) in
    let same = parts_are d c.unwrap_or-id.result c.unwrap_or-persistent.result c.unwrap_or-priority.result c.in-Ok.headers.items c.text_of-body.result id persistent priority headers body in
    subst (λ (m : Content). Gives c.made.result (content_said m)) same c.made.ensures
