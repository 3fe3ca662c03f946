use Rattle.std.proofs.Common.{◌≡◌, String, Global, BTreeMap, refl, ap, ◌∙◌}
use Rattle.std.specs.Prelude.{option_map, option_and_then, unwrap_or}
use Rattle.serde_json.specs.Data.{no_members}
use Rattle.serde_json.specs.Find.{as_object}
use Rattle.serde_json.specs.View.{view, members_view}
use Rattle.serde_json.specs.declared.value.Value.{Value}
use Rattle.serde_json.proofs.Views.{view-Object}
use Rattle.script_read.proofs.messages.members_of.Goals as goal

pub returns-in-Some-Object : goal.returns-in-Some-Object
returns-in-Some-Object c =
    let found : members_view c.in-Some-Object.members.entries ≡ unwrap_or (option_and_then as_object (option_map (λ v. view v) c.args.value)) no_members = rw (c.in-Some-Object.is, c.in-Some-Object.field-0-is, view-Object c.in-Some-Object.members) refl in
    ap (λ (m : BTreeMap (String Global) Value). members_view m.entries) c.in-Some-Object.members-is ∙ found
