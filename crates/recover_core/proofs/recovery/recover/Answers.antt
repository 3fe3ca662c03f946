use Rattle.recover_core.proofs.recovery.recover.Goals as goal

pub contents_of-requires : goal.contents_of-requires
contents_of-requires g c = (c.in-Ok.ensures.opened.bytes, c.in-Ok.ensures.opened.batches)

pub returns-in-Ok-contents_of-clause-opened : goal.returns-in-Ok-contents_of-clause-opened
returns-in-Ok-contents_of-clause-opened g c = record {
  bytes = c.in-Ok.ensures.opened.bytes;
  opened = c.in-Ok.ensures.opened.opened;
  recovered = c.in-Ok-contents_of.ensures c.in-Ok.ensures.opened.bytes c.in-Ok.ensures.opened.batches;
  told = c.in-Ok.ensures.opened.told;
}
