-- `marker::records::read` meets its contract: record k is the words from its place on. Assumes nothing.
use Rattle.marker.proofs.Tests.{fields_at}
use Rattle.marker.proofs.records.read.Goals as goal

pub returns : goal.returns
returns c = fields_at _ _ c.requires
