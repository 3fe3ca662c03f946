use Rattle.std.proofs.Common.{◌≡◌}
use Rattle.std.specs.Prelude.{option_map}
use Rattle.serde_json.specs.Find.{get_member}
use Rattle.serde_json.specs.View.{view, members_view}
use Rattle.fields_read.specs.Fields.{name_of}
use Rattle.fields_read.specs.declared.fields.Field.TheVariants.{Body, Headers, Id, Persistent, Priority}
use Rattle.script_read.proofs.pieces.pieces_of.Given as goal

abbrev pub invariant-loop-name : goal.invariant-loop-name
invariant-loop-name l = record {
  id : option_map view l.pieces.id ≡ get_member (name_of Id) (members_view l.yielded);
  persistent : option_map view l.pieces.persistent ≡ get_member (name_of Persistent) (members_view l.yielded);
  priority : option_map view l.pieces.priority ≡ get_member (name_of Priority) (members_view l.yielded);
  headers : option_map view l.pieces.headers ≡ get_member (name_of Headers) (members_view l.yielded);
  body : option_map view l.pieces.body ≡ get_member (name_of Body) (members_view l.yielded);
}
