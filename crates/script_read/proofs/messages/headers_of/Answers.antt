use Rattle.std.proofs.Common.{◌≡◌, List, map, String, Global, sym, ap, subst, ◌∙◌}
use Rattle.std.specs.List.{All, IsDistinct}
use Rattle.std.specs.Str.{bytes_eq}
use Rattle.std.proofs.lemmas.List.{map-id}
use Rattle.std.proofs.lemmas.List.Elements.{All-push}
use Rattle.std.proofs.lemmas.Map.Iter.{iter_end}
use Rattle.serde_json.specs.declared.value.Value.{Value}
use Rattle.message_core.specs.Spelling.{IsReadable, names}
use Rattle.message_core.specs.declared.headers.Header.{Header}
use Rattle.script_read.proofs.Contents.{header_of, headers_are, names_distinct, one_more}
use Rattle.script_read.proofs.messages.headers_of.Goals as goal
use Rattle.script_read.proofs.messages.headers_of.Goals.{After-drop-name-iterator-2}

pub loop-name-preserved : goal.loop-name-preserved
loop-name-preserved c =
    let header : Header = record { name = c.bytes_of.result; value = c.header_value.result } in
    record {
      items = one_more c.loop-name.headers.items c.push.new.self.items c.loop-name.yielded (c.in-Some.name, c.in-Some.value) header c.loop-name.invariant.items c.in-Ok-push.ensures.items c.bytes_of.ensures.value c.header_value.ensures.value;
      readable = subst (λ (hs : List Header). All IsReadable hs) (sym c.in-Ok-push.ensures.items) (All-push IsReadable c.loop-name.headers.items header c.loop-name.invariant.readable (record { name = c.bytes_of.ensures.utf8; text = c.header_value.ensures.text }));
    }

all_read : (c : After-drop-name-iterator-2) → c.loop-name.headers.items ≡ map header_of c.args.members.entries
all_read c =
    let whole = iter_end (λ (p : String Global × Value). p) c.args.members.entries c.loop-name.yielded _ c.loop-name.name-iterator c.next.new.self c.next.result c.into_iter-name-iterator.ensures.into_iter_gives.0 c.loop-name.yielded_by c.in-None.is c.next.ensures.steps in
    c.loop-name.invariant.items ∙ ap (λ (es : List (String Global × Value)). map header_of es) (sym (map-id c.loop-name.yielded) ∙ whole.0)

pub returns-clause-value : goal.returns-clause-value
returns-clause-value c = all_read c ∙ headers_are c.args.members.entries

pub returns-clause-distinct : goal.returns-clause-distinct
returns-clause-distinct c = subst (λ (hs : List Header). IsDistinct bytes_eq (names hs)) (sym (all_read c)) (names_distinct c.args.members.entries c.into_iter-name-iterator.ensures.into_iter_gives.5)
