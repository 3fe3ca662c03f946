use Rattle.std.proofs.Common.{String, Global}
use Rattle.std.specs.Prelude.{option_map}
use Rattle.serde_json.specs.View.{view}
use Rattle.serde_json.specs.declared.value.Value.{Value}
use Rattle.fields_read.specs.Fields.{name_of}
use Rattle.fields_read.specs.declared.fields.Field.TheVariants.{Body, Headers, Id, Persistent, Priority}
use Rattle.script_read.proofs.Meetings.{met_more}
use Rattle.script_read.proofs.pieces.pieces_of.Goals as goal

pub loop-name-preserved : goal.loop-name-preserved
loop-name-preserved c =
    let member : String Global × Value = (c.in-Some.name, c.in-Some.value) in
    record {
      id = met_more (name_of Id) c.loop-name.yielded member c.deref.result.now (option_map view c.loop-name.pieces.id) (option_map view c.meet.new.self.id) c.meet.ensures.id c.deref.ensures c.loop-name.invariant.id;
      persistent = met_more (name_of Persistent) c.loop-name.yielded member c.deref.result.now (option_map view c.loop-name.pieces.persistent) (option_map view c.meet.new.self.persistent) c.meet.ensures.persistent c.deref.ensures c.loop-name.invariant.persistent;
      priority = met_more (name_of Priority) c.loop-name.yielded member c.deref.result.now (option_map view c.loop-name.pieces.priority) (option_map view c.meet.new.self.priority) c.meet.ensures.priority c.deref.ensures c.loop-name.invariant.priority;
      headers = met_more (name_of Headers) c.loop-name.yielded member c.deref.result.now (option_map view c.loop-name.pieces.headers) (option_map view c.meet.new.self.headers) c.meet.ensures.headers c.deref.ensures c.loop-name.invariant.headers;
      body = met_more (name_of Body) c.loop-name.yielded member c.deref.result.now (option_map view c.loop-name.pieces.body) (option_map view c.meet.new.self.body) c.meet.ensures.body c.deref.ensures c.loop-name.invariant.body;
    }
